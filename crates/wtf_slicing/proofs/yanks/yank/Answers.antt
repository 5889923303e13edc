use Rattle.std.proofs.Common.{◌≡◌, ℕ, ◌+◌, ◌++◌, [], Option, Some, refl, sym, ap, ◌∙◌, subst, arith, inl, inr}
use Rattle.std.specs.Option.{option_map}
use Rattle.wtf_base.specs.declared.fault.Fault.{Fault}
use Rattle.wtf_base.specs.declared.ids.InodeId.{InodeId}
use Rattle.wtf_occ.specs.Attempts.{GrowsBy}
use Rattle.wtf_occ.proofs.AttemptLaws.{GrowsBy-nothing, Grows-by, Grows-on}
use Rattle.wtf_model.specs.declared.answer.Answer.TheVariants as answer
use Rattle.wtf_model.specs.declared.answer.Word.TheVariants.{NoHandle}
use Rattle.wtf_model.specs.declared.op.Op.TheVariants as op
use Rattle.wtf_meta.specs.declared.session.Handle.{Handle}
use Rattle.wtf_meta.specs.Maps.{Map, seen}
use Rattle.wtf_meta.specs.Bytes.{FileBytes, any_slice}
use Rattle.wtf_meta.specs.Reads.{ReadsFile}
use Rattle.wtf_meta.specs.FileEdits.{file_of}
use Rattle.wtf_meta.specs.Appends.{keys_of, region_keys, touched, length_keys}
use Rattle.wtf_meta.specs.Sessions.{handle_in, SetsHandle, moved_to}
use Rattle.wtf_meta.specs.Calls.{cap_for}
use Rattle.wtf_meta.proofs.Named.{file_bytes}
use Rattle.wtf_region.specs.Devs.{inside_of, is_down_in, stores}
use Rattle.wtf_region.proofs.Recording.{still_seen}
use Rattle.wtf_region.proofs.ShowLaws.{reads_nothing}
use Rattle.wtf_region.proofs.Spans.{goes_nowhere}
use Rattle.wtf_steps.specs.Faults.{MayFault}
use Rattle.wtf_steps.specs.Recorded.{found_in, len_keys}
use Rattle.wtf_steps.specs.Steps.{in_hand}
use Rattle.wtf_index.proofs.Going.{keys_more}
use Rattle.wtf_steps.proofs.Ways.{no_handle, step_of, spot_open, spot_closed}
use Rattle.wtf_steps.proofs.ReadWays.{same_touched, found_due, reads_due, lacks_due}
use Rattle.wtf_steps.proofs.Handing.{hand_goes}
use Rattle.wtf_steps.proofs.Making.{makes_nothing, keeps_changes}
use Rattle.wtf_model.proofs.SliceLaws.{yank-none}
use Rattle.wtf_slicing.specs.declared.op.SliceOp.TheVariants.{Yank}
use Rattle.wtf_slicing.specs.Changed.{SliceMade}
use Rattle.wtf_slicing.specs.Sights.{Sight, sight}
use Rattle.wtf_slicing.specs.Held.{Yanks, SliceHolds}
use Rattle.wtf_slicing.proofs.DoneWays.{done_refused, wants_due}
use Rattle.wtf_slicing.proofs.SliceWays.{looks, yanks, step_looked}
use Rattle.wtf_slicing.proofs.TakeFaults.{yank_due}
use Rattle.wtf_slicing.proofs.yanks.yank.Goals as goal

pub returns-in_default-clause-step : goal.returns-in_default-clause-step
returns-in_default-clause-step g c x size =
    let s = c.args.s.now in
    let take = c.args.take in
    let b = seen c.args.kv.now c.args.at.now in
    let o = op.Yank take.handle take.len take.slice in
    let at = in_hand c.args.at.now s in
    step_looked g.S.SliceStore.kind c.args.dev.now c.args.dev.now x b at at o (answer.Refused NoHandle)
    (step_of x b at at [] o (answer.Refused NoHandle) (GrowsBy-nothing c.args.at.now)
    (no_handle x b s take.handle o (spot_closed c.handle_of.result (handle_in s take.handle) c.handle_of.ensures c.in_default.is)
    (λ S none. yank-none (cap_for x) S take.handle take.len take.slice none)))

pub pieces-requires-clause-inside : goal.pieces-requires-clause-inside
pieces-requires-clause-inside g c =
    let kind = g.S.SliceStore.kind in
    let dev = c.args.dev.now in
    let i = c.in-Some.spot.inode in
    let b = seen c.args.kv.now c.args.at.now in
    let same : seen c.args.kv.now c.file_len.new.at ≡ b =
    still_seen c.args.kv.now i (length_keys (file_of i b)) c.args.at.now c.file_len.new.at c.in-Ok.ensures.recorded in
    subst (λ (w : Map). FileBytes (inside_of kind dev) any_slice (file_of i w)) (sym same) (file_bytes (inside_of kind dev) any_slice i b c.requires.inside)

pub returns-in-Err-pieces-clause-fault : goal.returns-in-Err-pieces-clause-fault
returns-in-Err-pieces-clause-fault g c =
    let kind = g.S.SliceStore.kind in
    let dev = c.args.dev.now in
    let n = c.args.take.len in
    let i = c.in-Some.spot.inode in
    let u = seen c.args.kv.now c.file_len.new.at in
    let b = seen c.args.kv.now c.args.at.now in
    let z = dev.settings.region in
    let k = c.found_len-k.result in
    let off = c.in-Some.spot.off in
    let same : u ≡ b = still_seen c.args.kv.now i (length_keys (file_of i b)) c.args.at.now c.file_len.new.at c.in-Ok.ensures.recorded in
    let open_at = spot_open c.handle_of.result (handle_in c.args.s.now c.args.take.handle) c.in-Some.spot c.handle_of.ensures c.in-Some.is in
    let h = open_at.handle in
    let count : k ≡ found_in z b h n =
    found_due c.cap.result z c.in-Ok.len off n k i b h c.found_len-k.ensures c.cap.ensures c.in-Ok.ensures.value open_at.inode open_at.off in
    elim c.in-Err-pieces.ensures.fault [
      | inl memory ↦ inl memory
      | inr lacks ↦ inr (
        h,
        open_at.is,
        lacks_due kind dev c.pieces.new.dev u b i h off c.range_start-begin.result k (found_in z b h n) c.in-Err-pieces.why same open_at.inode
            open_at.off c.range_start-begin.ensures.some count lacks,
      )
    ]

pub returns-in-Err-pieces-clause-due : goal.returns-in-Err-pieces-clause-due
returns-in-Err-pieces-clause-due g c =
    let kind = g.S.SliceStore.kind in
    let dev = c.args.dev.now in
    let s = c.args.s.now in
    let take = c.args.take in
    let i = c.in-Some.spot.inode in
    let u = seen c.args.kv.now c.file_len.new.at in
    let b = seen c.args.kv.now c.args.at.now in
    let z = dev.settings.region in
    let k = c.found_len-k.result in
    let off = c.in-Some.spot.off in
    let why = c.in-Err-pieces.why in
    let same : u ≡ b = still_seen c.args.kv.now i (length_keys (file_of i b)) c.args.at.now c.file_len.new.at c.in-Ok.ensures.recorded in
    let open_at = spot_open c.handle_of.result (handle_in s take.handle) c.in-Some.spot c.handle_of.ensures c.in-Some.is in
    let h = open_at.handle in
    let count : k ≡ found_in z b h take.len =
    found_due c.cap.result z c.in-Ok.len off take.len k i b h c.found_len-k.ensures c.cap.ensures c.in-Ok.ensures.value open_at.inode open_at.off in
    elim c.in-Err-pieces.ensures.fault [
      | inl memory ↦ subst (λ (q : Fault). MayFault dev.settings b s (op.Yank take.handle take.len take.slice) q) (sym memory) (λ x told T size st holds. tt)
      | inr lacks ↦ yank_due g.met.S.SliceStore.laws dev c.pieces.new.dev b s take.handle take.len take.slice k h why open_at.is count c.requires.sound
          (file_bytes (inside_of kind dev) any_slice h.inode b c.requires.inside)
          (lacks_due kind dev c.pieces.new.dev u b i h off c.range_start-begin.result k k why same open_at.inode open_at.off
          c.range_start-begin.ensures.some refl lacks)
    ]

pub returns-clause-step : goal.returns-clause-step
returns-clause-step g c x size =
    let dev = c.args.dev.now in
    let s = c.args.s.now in
    let m = c.put_slice.new.self in
    let t = c.move_handle.new.self in
    let f = c.args.take.handle in
    let n = c.args.take.len in
    let spot = c.in-Some.spot in
    let i = spot.inode in
    let b = seen c.args.kv.now c.args.at.now in
    let z = dev.settings.region in
    let ps = c.in-Ok-pieces.found.items in
    let k = c.found_len-k.result in
    let at = c.args.at.now in
    let read = c.file_len.new.at in
    let new = c.pieces.new.at in
    let same : seen c.args.kv.now read ≡ b = still_seen c.args.kv.now i (length_keys (file_of i b)) at read c.in-Ok.ensures.recorded in
    let open_at = spot_open c.handle_of.result (handle_in s f) spot c.handle_of.ensures c.in-Some.is in
    let h = open_at.handle in
    let inode : i ≡ h.inode = open_at.inode in
    let off : spot.off ≡ h.off = open_at.off in
    let count0 : k ≡ found_in z b h n = found_due c.cap.result z c.in-Ok.len spot.off n k i b h
    c.found_len-k.ensures c.cap.ensures c.in-Ok.ensures.value inode off in
    let count : k ≡ found_in x.size b h n = count0 ∙ ap (λ (j : ℕ). found_in j b h n) (sym size) in
    let went = c.in-Ok-pieces.ensures.read in
    let lists = went.facts in
    let due : ReadsFile x.size (file_of h.inode b) h.off k lists ps =
    subst (λ (q : ℕ). ReadsFile q (file_of h.inode b) h.off k lists ps) (sym size)
    (reads_due z (seen c.args.kv.now read) b h i spot.off c.range_start-begin.result k lists ps same inode off c.range_start-begin.ensures.some went.reads) in
    let there : handle_in m f ≡ Some h = c.put_slice.ensures.handles f ∙ open_at.is in
    let set : SetsHandle f (Some (moved_to (h.off + k) h)) m t =
    subst (λ (o : ℕ). SetsHandle f (Some (moved_to (o + k) h)) m t) off
    (subst (λ (o : Option Handle). SetsHandle f (option_map (moved_to (spot.off + k)) o) m t) there c.move_handle.ensures) in
    let first : GrowsBy at read (len_keys b h.inode) [] = subst (λ (q : InodeId). GrowsBy at read (len_keys b q) []) inode c.in-Ok.ensures.recorded in
    let next0 : GrowsBy read new (keys_of h.inode (region_keys (touched z c.range_start-begin.result k))) [] =
    subst (λ (q : InodeId). GrowsBy read new (keys_of q (region_keys (touched z c.range_start-begin.result k))) []) inode c.in-Ok-pieces.ensures.recorded in
    let range : touched z c.range_start-begin.result k ≡ touched x.size h.off k =
    same_touched z c.range_start-begin.result h.off k (λ some. c.range_start-begin.ensures.some some ∙ off) ∙ ap (λ (j : ℕ). touched j h.off k) (sym size) in
    let next : GrowsBy read new (keys_of h.inode (region_keys (touched x.size h.off k))) [] =
    subst (λ rs. GrowsBy read new (keys_of h.inode (region_keys rs)) []) range next0 in
    let keys = len_keys b h.inode ++ keys_of h.inode (region_keys (touched x.size h.off k)) in
    record {
      did = looks keys lists;
      grows = keys_more at read new (len_keys b h.inode) (keys_of h.inode (region_keys (touched x.size h.off k))) first next;
      is_call = yanks x b s m t f n c.args.take.slice k h lists ps (omega (arith, size, dev.settings.limits)) open_at.is count due c.put_slice.ensures set;
      more = record {
        facts = refl;
        stored = refl;
        slices = λ P Q map. due.slices P Q (file_bytes P Q h.inode b map);
        inside = went.inside;
        lists = went.told;
      };
    }

pub returns-in_default-clause-done : goal.returns-in_default-clause-done
returns-in_default-clause-done g c made =
    let dev = c.args.dev.now in
    let at = c.args.at.now in
    let take = c.args.take in
    let now = in_hand at c.args.s.now in
    done_refused (record { kind = g.S.SliceStore.kind; before = dev; after = dev; map = seen c.args.kv.now at }) made
    (Yank take.handle take.len take.slice) NoHandle now now refl refl refl

pub returns-clause-done : goal.returns-clause-done
returns-clause-done g c made =
    let s = c.args.s.now in
    let m = c.put_slice.new.self in
    let t = c.move_handle.new.self in
    let f = c.args.take.handle in
    let n = c.args.take.len in
    let label = c.args.take.slice in
    let spot = c.in-Some.spot in
    let i = spot.inode in
    let b = seen c.args.kv.now c.args.at.now in
    let z = c.args.dev.now.settings.region in
    let ps = c.in-Ok-pieces.found.items in
    let begin = c.range_start-begin.result in
    let k = c.found_len-k.result in
    let at = c.args.at.now in
    let read = c.file_len.new.at in
    let new = c.pieces.new.at in
    let u = seen c.args.kv.now read in
    let same : u ≡ b = still_seen c.args.kv.now i (length_keys (file_of i b)) at read c.in-Ok.ensures.recorded in
    let open_at = spot_open c.handle_of.result (handle_in s f) spot c.handle_of.ensures c.in-Some.is in
    let h = open_at.handle in
    let inode : i ≡ h.inode = open_at.inode in
    let off : spot.off ≡ h.off = open_at.off in
    let count : k ≡ found_in z b h n = found_due c.cap.result z c.in-Ok.len spot.off n k i b h
    c.found_len-k.ensures c.cap.ensures c.in-Ok.ensures.value inode off in
    let went = c.in-Ok-pieces.ensures.read in
    let lists = went.facts in
    let due : ReadsFile z (file_of h.inode b) h.off k lists ps = reads_due z u b h i spot.off begin k lists ps same inode off
    c.range_start-begin.ensures.some went.reads in
    let there : handle_in m f ≡ Some h = c.put_slice.ensures.handles f ∙ open_at.is in
    let set : SetsHandle f (Some (moved_to (h.off + k) h)) m t =
    subst (λ (o : ℕ). SetsHandle f (Some (moved_to (o + k) h)) m t) off
    (subst (λ (o : Option Handle). SetsHandle f (option_map (moved_to (spot.off + k)) o) m t) there c.move_handle.ensures) in
    let x : Sight = sight z b s made lists in
    let kept : Yanks x f n label s t = record {
      handle = h;
      stood = open_at.is;
      pieces = ps;
      reads = subst (λ (j : ℕ). ReadsFile z (file_of h.inode b) h.off j lists ps) count due;
      mid = m;
      kept = c.put_slice.ensures;
      moved = subst (λ (j : ℕ). SetsHandle f (Some (moved_to (h.off + j) h)) m t) count set;
    } in
    record {
      recalls = record {
        facts = lists;
        recalls = went.recalls;
        known = went.told;
        reads = record {
          refused = λ h. absurd h;
          made = λ going. (h, open_at.is, wants_due z u b h i spot.off begin k n lists same inode off c.range_start-begin.ensures.some count went.wants);
        };
      };
      makes = makes_nothing (answer.Len k) (SliceMade x (Yank f n label)) at new refl
          (keeps_changes read new _ c.in-Ok-pieces.ensures.recorded ∙ keeps_changes at read _ c.in-Ok.ensures.recorded);
      holds = hand_goes (answer.Len k) (SliceHolds x (Yank f n label)) s t (λ h. h) kept;
    }

pub returns-in_default-clause-takes : goal.returns-in_default-clause-takes
returns-in_default-clause-takes g c =
    let dev = c.args.dev.now in
    let at = c.args.at.now in
    record {
      logged = tt;
      refused = λ h. (refl, refl);
      err = tt;
      grows = Grows-by at at [] [] (GrowsBy-nothing at);
      reads = reads_nothing g.S.SliceStore.kind (is_down_in dev) (stores dev);
      dev = goes_nowhere g.met.S.SliceStore.laws dev c.requires.sound;
    }

pub returns-in-Err-clause-takes : goal.returns-in-Err-clause-takes
returns-in-Err-clause-takes g c =
    let dev = c.args.dev.now in
    record {
      logged = tt;
      refused = tt;
      err = refl;
      grows = c.in-Err.ensures.grows;
      reads = reads_nothing g.S.SliceStore.kind (is_down_in dev) (stores dev);
      dev = goes_nowhere g.met.S.SliceStore.laws dev c.requires.sound;
    }

pub returns-in-Err-pieces-clause-takes : goal.returns-in-Err-pieces-clause-takes
returns-in-Err-pieces-clause-takes g c = record {
  logged = tt;
  refused = tt;
  err = refl;
  grows = Grows-on c.args.at.now c.file_len.new.at c.pieces.new.at c.in-Ok.ensures.grows c.in-Err-pieces.ensures.grows;
  reads = c.in-Err-pieces.ensures.reads;
  dev = c.in-Err-pieces.ensures.dev;
}

pub returns-clause-takes : goal.returns-clause-takes
returns-clause-takes g c = record {
  logged = tt;
  refused = λ h. absurd h;
  err = tt;
  grows = Grows-on c.args.at.now c.file_len.new.at c.pieces.new.at c.in-Ok.ensures.grows c.in-Ok-pieces.ensures.grows;
  reads = c.in-Ok-pieces.ensures.reads;
  dev = c.in-Ok-pieces.ensures.dev;
}
