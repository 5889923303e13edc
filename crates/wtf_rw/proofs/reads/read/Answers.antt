use Rattle.std.proofs.Common.{◌≡◌, ℕ, ◌+◌, ◌++◌, List, [], Option, Some, refl, sym, ap, ◌∙◌, subst, arith, inl, inr}
use Rattle.std.specs.Option.{option_map}
use Rattle.std.specs.List.{All}
use Rattle.std.proofs.lemmas.List.Elements.{All-nil}
use Rattle.wtf_base.specs.declared.fault.Fault.{Fault}
use Rattle.wtf_base.specs.declared.ids.InodeId.{InodeId}
use Rattle.wtf_base.specs.declared.settings.Settings.{Settings}
use Rattle.wtf_occ.specs.Attempts.{GrowsBy}
use Rattle.wtf_occ.proofs.AttemptLaws.{GrowsBy-nothing, Grows-on}
use Rattle.wtf_overlay.specs.Origin.{pieces_origin}
use Rattle.wtf_overlay.specs.declared.part.Piece.{Piece}
use Rattle.wtf_replica.specs.Bytes.{byte_at}
use Rattle.wtf_model.specs.declared.answer.Answer.TheVariants as answer
use Rattle.wtf_model.specs.declared.op.Op.TheVariants as op
use Rattle.wtf_meta.specs.declared.session.Handle.{Handle}
use Rattle.wtf_meta.specs.Lists.{ListFact}
use Rattle.wtf_meta.specs.Bytes.{EntryBytes, PiecesBytes, FileBytes, any_slice}
use Rattle.wtf_meta.specs.Maps.{Map, seen}
use Rattle.wtf_meta.specs.Reads.{ReadsFile}
use Rattle.wtf_meta.specs.FileEdits.{file_of}
use Rattle.wtf_meta.specs.Appends.{keys_of, region_keys, touched, length_keys}
use Rattle.wtf_meta.specs.Sessions.{handle_in, SetsHandle, moved_to}
use Rattle.wtf_meta.specs.Calls.{cap_for, IsCall}
use Rattle.wtf_meta.proofs.Named.{file_bytes}
use Rattle.wtf_region.specs.Devs.{stores, inside_of, between}
use Rattle.wtf_region.specs.Reads.{IsFileRead}
use Rattle.wtf_region.specs.Showing.{Shown, IsShowFault, pieces_in, AreReadable}
use Rattle.wtf_region.proofs.InsideLaws.{readable_from}
use Rattle.wtf_region.proofs.Recalls.{recalls_same}
use Rattle.wtf_region.proofs.Recording.{still_seen}
use Rattle.wtf_region.proofs.ListReads.{pieces_inside, file_read_later}
use Rattle.wtf_region.proofs.ShowLaws.{reads_over}
use Rattle.wtf_region.proofs.Spans.{goes_nowhere, goes_on}
use Rattle.wtf_model.specs.declared.answer.Word.TheVariants.{NoHandle}
use Rattle.wtf_steps.specs.Faults.{MayFault}
use Rattle.wtf_steps.specs.Holding.{MovesOn}
use Rattle.wtf_steps.proofs.Handing.{hand_refused, hand_goes, moves_on}
use Rattle.wtf_steps.proofs.Making.{keeps_changes}
use Rattle.wtf_steps.proofs.Recalling.{lists_due}
use Rattle.wtf_steps.specs.Recorded.{found_in, len_keys, read_keys}
use Rattle.wtf_index.proofs.Going.{keys_more}
use Rattle.wtf_model.proofs.ByteLaws.{read-none}
use Rattle.wtf_steps.proofs.Ways.{only_keys, no_handle, spot_open, spot_closed}
use Rattle.wtf_rw.proofs.FaultWays.{read_due, list_due}
use Rattle.wtf_steps.proofs.ReadWays.{shows, same_touched, found_due, reads_due, lacks_due}
use Rattle.wtf_rw.proofs.ReadWays.{reads_call, tells_read, shown_len}
use Rattle.wtf_rw.proofs.reads.read.Goals as goal

pub returns-in_default-clause-step : goal.returns-in_default-clause-step
returns-in_default-clause-step g c x size =
    let s = c.args.s.now in
    let f = c.args.f in
    record {
      did = only_keys [];
      grows = GrowsBy-nothing c.args.at.now;
      is_call = no_handle x (seen c.args.kv.now c.args.at.now) s f (op.Read f c.args.n) (spot_closed c.handle_of.result (handle_in s f) c.handle_of.ensures
          c.in_default.is) (λ S none. read-none (cap_for x) S f c.args.n none);
      more = record {
        stored = refl;
        slices = λ P Q map. tt;
        inside = All-nil (λ (l : ListFact). All (EntryBytes (inside_of g.S.SliceStore.kind c.args.dev.now)) l.list);
        lists = λ ranges was told apart. tt;
        told = λ map tell. tt;
      };
    }

pub pieces-requires-clause-inside : goal.pieces-requires-clause-inside
pieces-requires-clause-inside g c =
    let kind = g.S.SliceStore.kind in
    let dev = c.args.dev.now in
    let i = c.in-Some.spot.inode in
    let b = seen c.args.kv.now c.args.at.now in
    let same : seen c.args.kv.now c.file_len.new.at ≡ b =
    still_seen c.args.kv.now i (length_keys (file_of i b)) c.args.at.now c.file_len.new.at c.in-Ok.ensures.recorded in
    subst (λ (w : Map). FileBytes (inside_of kind dev) any_slice (file_of i w)) (sym same) (file_bytes (inside_of kind dev) any_slice i b c.requires.inside)

pub returns-in-Err-pieces-clause-fault : goal.returns-in-Err-pieces-clause-fault
returns-in-Err-pieces-clause-fault g c =
    let kind = g.S.SliceStore.kind in
    let dev = c.args.dev.now in
    let i = c.in-Some.spot.inode in
    let u = seen c.args.kv.now c.file_len.new.at in
    let b = seen c.args.kv.now c.args.at.now in
    let z = dev.settings.region in
    let k = c.found_len-k.result in
    let off = c.in-Some.spot.off in
    let from = c.range_start-from.result in
    let same : u ≡ b = still_seen c.args.kv.now i (length_keys (file_of i b)) c.args.at.now c.file_len.new.at c.in-Ok.ensures.recorded in
    let open_at = spot_open c.handle_of.result (handle_in c.args.s.now c.args.f) c.in-Some.spot c.handle_of.ensures c.in-Some.is in
    let h = open_at.handle in
    let count : k ≡ found_in z b h c.args.n =
    found_due c.cap.result z c.in-Ok.len off c.args.n k i b h c.found_len-k.ensures c.cap.ensures c.in-Ok.ensures.value open_at.inode open_at.off in
    elim c.in-Err-pieces.ensures.fault [
      | inl memory ↦ inl memory
      | inr lacks ↦ inr (
        h,
        open_at.is,
        inl (lacks_due kind dev c.pieces.new.dev u b i h off from k (found_in z b h c.args.n) c.in-Err-pieces.why same open_at.inode open_at.off
            c.range_start-from.ensures.some count lacks),
      )
    ]

pub returns-in-Err-pieces-clause-due : goal.returns-in-Err-pieces-clause-due
returns-in-Err-pieces-clause-due g c =
    let kind = g.S.SliceStore.kind in
    let dev = c.args.dev.now in
    let s = c.args.s.now in
    let f = c.args.f in
    let i = c.in-Some.spot.inode in
    let u = seen c.args.kv.now c.file_len.new.at in
    let b = seen c.args.kv.now c.args.at.now in
    let z = dev.settings.region in
    let k = c.found_len-k.result in
    let off = c.in-Some.spot.off in
    let from = c.range_start-from.result in
    let why = c.in-Err-pieces.why in
    let same : u ≡ b = still_seen c.args.kv.now i (length_keys (file_of i b)) c.args.at.now c.file_len.new.at c.in-Ok.ensures.recorded in
    let open_at = spot_open c.handle_of.result (handle_in s f) c.in-Some.spot c.handle_of.ensures c.in-Some.is in
    let h = open_at.handle in
    let count : k ≡ found_in z b h c.args.n =
    found_due c.cap.result z c.in-Ok.len off c.args.n k i b h c.found_len-k.ensures c.cap.ensures c.in-Ok.ensures.value open_at.inode open_at.off in
    elim c.in-Err-pieces.ensures.fault [
      | inl memory ↦ subst (λ (q : Fault). MayFault dev.settings b s (op.Read f c.args.n) q) (sym memory) (λ x told T size st holds. tt)
      | inr lacks ↦ list_due g.met.S.SliceStore.laws dev c.pieces.new.dev b s f c.args.n k h why open_at.is count c.requires.sound
          (file_bytes (inside_of kind dev) any_slice h.inode b c.requires.inside)
          (lacks_due kind dev c.pieces.new.dev u b i h off from k k why same open_at.inode open_at.off c.range_start-from.ensures.some refl lacks)
    ]

pub show-requires-clause-readable : goal.show-requires-clause-readable
show-requires-clause-readable g c =
    let kind = g.S.SliceStore.kind in
    let dev = c.args.dev.now in
    let mid = c.pieces.new.dev in
    let i = c.in-Some.spot.inode in
    let u = seen c.args.kv.now c.file_len.new.at in
    let b = seen c.args.kv.now c.args.at.now in
    let ps = c.in-Ok-pieces.found.items in
    let same : u ≡ b = still_seen c.args.kv.now i (length_keys (file_of i b)) c.args.at.now c.file_len.new.at c.in-Ok.ensures.recorded in
    let file : FileBytes (inside_of kind dev) any_slice (file_of i u) =
    subst (λ (w : Map). FileBytes (inside_of kind dev) any_slice (file_of i w)) (sym same) (file_bytes (inside_of kind dev) any_slice i b c.requires.inside) in
    let inside : PiecesBytes (inside_of kind mid) ps =
    pieces_inside g.met.S.SliceStore.laws c.requires.sound c.in-Ok-pieces.ensures.dev (file_of i u) file c.range_start-from.result c.found_len-k.result ps
    c.in-Ok-pieces.ensures.read in
    subst (λ (qs : List Piece). AreReadable kind mid qs) (sym c.as_slice.ensures.value)
    (readable_from kind mid ps c.in-Ok-pieces.ensures.dev.sound inside)

pub returns-in-Err-show-clause-fault : goal.returns-in-Err-show-clause-fault
returns-in-Err-show-clause-fault g c =
    let kind = g.S.SliceStore.kind in
    let dev = c.args.dev.now in
    let mid = c.pieces.new.dev in
    let i = c.in-Some.spot.inode in
    let u = seen c.args.kv.now c.file_len.new.at in
    let b = seen c.args.kv.now c.args.at.now in
    let z = dev.settings.region in
    let ps = c.in-Ok-pieces.found.items in
    let k = c.found_len-k.result in
    let read = c.in-Ok-pieces.ensures.read in
    let same : u ≡ b = still_seen c.args.kv.now i (length_keys (file_of i b)) c.args.at.now c.file_len.new.at c.in-Ok.ensures.recorded in
    let open_at = spot_open c.handle_of.result (handle_in c.args.s.now c.args.f) c.in-Some.spot c.handle_of.ensures c.in-Some.is in
    let h = open_at.handle in
    let inode : i ≡ h.inode = open_at.inode in
    let off : c.in-Some.spot.off ≡ h.off = open_at.off in
    let count : k ≡ found_in z b h c.args.n = found_due c.cap.result z c.in-Ok.len c.in-Some.spot.off c.args.n k i b h c.found_len-k.ensures c.cap.ensures
    c.in-Ok.ensures.value inode off in
    let file : FileBytes (inside_of kind dev) any_slice (file_of i u) =
    subst (λ (w : Map). FileBytes (inside_of kind dev) any_slice (file_of i w)) (sym same) (file_bytes (inside_of kind dev) any_slice i b c.requires.inside) in
    let later : IsFileRead kind dev c.show.new.dev (file_of i u) c.range_start-from.result k ps =
    file_read_later g.met.S.SliceStore.laws c.in-Ok-pieces.ensures.dev c.in-Err-show.ensures.dev c.in-Err-show.ensures.lists (file_of i u)
    c.range_start-from.result k ps read in
    let due : ReadsFile z (file_of h.inode b) h.off k later.facts ps =
    reads_due z u b h i c.in-Some.spot.off c.range_start-from.result k later.facts ps same inode off c.range_start-from.ensures.some later.reads in
    let lists = lists_due z u b h i c.in-Some.spot.off c.range_start-from.result k (found_in z b h c.args.n) later.facts ps same inode off
    c.range_start-from.ensures.some count later.wants later.reads in
    inr (
      h,
      open_at.is,
      inr (record {
        mid = mid;
        goes = c.in-Ok-pieces.ensures.dev;
        pieces = ps;
        are = record {
          facts = later.facts;
          wants = lists.wants;
          recalls = later.recalls;
          reads = subst (λ (m : ℕ). ReadsFile z (file_of h.inode b) h.off m later.facts ps) count due;
          inside = later.inside;
          told = later.told;
        };
        inside = pieces_inside g.met.S.SliceStore.laws c.requires.sound c.in-Ok-pieces.ensures.dev (file_of i u) file c.range_start-from.result k ps read;
        fault = subst (λ (m : ℕ). IsShowFault kind (between mid c.show.new.dev) (pieces_in 0 m ps) c.in-Err-show.why) count
            (subst (λ (qs : List Piece). IsShowFault kind (between mid c.show.new.dev) (pieces_in 0 k qs) c.in-Err-show.why) c.as_slice.ensures.value
            c.in-Err-show.ensures.fault);
      }),
    )

pub returns-in-Err-show-clause-due : goal.returns-in-Err-show-clause-due
returns-in-Err-show-clause-due g c =
    let kind = g.S.SliceStore.kind in
    let dev = c.args.dev.now in
    let mid = c.pieces.new.dev in
    let s = c.args.s.now in
    let f = c.args.f in
    let i = c.in-Some.spot.inode in
    let u = seen c.args.kv.now c.file_len.new.at in
    let b = seen c.args.kv.now c.args.at.now in
    let z = dev.settings.region in
    let ps = c.in-Ok-pieces.found.items in
    let k = c.found_len-k.result in
    let same : u ≡ b = still_seen c.args.kv.now i (length_keys (file_of i b)) c.args.at.now c.file_len.new.at c.in-Ok.ensures.recorded in
    let open_at = spot_open c.handle_of.result (handle_in s f) c.in-Some.spot c.handle_of.ensures c.in-Some.is in
    let h = open_at.handle in
    let kept : mid.settings ≡ dev.settings = c.in-Ok-pieces.ensures.dev.settings in
    let count : k ≡ found_in z b h c.args.n = found_due c.cap.result z c.in-Ok.len c.in-Some.spot.off c.args.n k i b h c.found_len-k.ensures c.cap.ensures
    c.in-Ok.ensures.value open_at.inode open_at.off in
    let file : FileBytes (inside_of kind dev) any_slice (file_of i u) =
    subst (λ (w : Map). FileBytes (inside_of kind dev) any_slice (file_of i w)) (sym same) (file_bytes (inside_of kind dev) any_slice i b c.requires.inside) in
    let inside : PiecesBytes (inside_of kind mid) ps =
    pieces_inside g.met.S.SliceStore.laws c.requires.sound c.in-Ok-pieces.ensures.dev (file_of i u) file c.range_start-from.result k ps
    c.in-Ok-pieces.ensures.read in
    subst (λ (st : Settings). MayFault st b s (op.Read f c.args.n) c.in-Err-show.why) kept
    (read_due kind (between mid c.show.new.dev) (stores mid) mid.settings b s f c.args.n k h ps c.in-Err-show.why open_at.is
    c.in-Ok-pieces.ensures.dev.sound.shelf
    (count ∙ ap (λ (st : Settings). found_in st.region b h c.args.n) (sym kept)) inside
    (subst (λ (qs : List Piece). IsShowFault kind (between mid c.show.new.dev) (pieces_in 0 k qs) c.in-Err-show.why) c.as_slice.ensures.value
    c.in-Err-show.ensures.fault))

pub returns-in-Err-show-clause-dev : goal.returns-in-Err-show-clause-dev
returns-in-Err-show-clause-dev g c = goes_on g.met.S.SliceStore.laws c.in-Ok-pieces.ensures.dev c.in-Err-show.ensures.dev

pub returns-clause-dev : goal.returns-clause-dev
returns-clause-dev g c = goes_on g.met.S.SliceStore.laws c.in-Ok-pieces.ensures.dev c.in-Ok-show.ensures.dev

pub returns-clause-step : goal.returns-clause-step
returns-clause-step g c x size =
    let kind = g.S.SliceStore.kind in
    let laws = g.met.S.SliceStore.laws in
    let dev = c.args.dev.now in
    let mid = c.pieces.new.dev in
    let s = c.args.s.now in
    let t = c.move_handle.new.self in
    let f = c.args.f in
    let n = c.args.n in
    let i = c.in-Some.spot.inode in
    let b = seen c.args.kv.now c.args.at.now in
    let z = dev.settings.region in
    let ps = c.in-Ok-pieces.found.items in
    let k = c.found_len-k.result in
    let at = c.args.at.now in
    let read = c.file_len.new.at in
    let new = c.pieces.new.at in
    let bytes = c.show.new.out.items in
    let same : seen c.args.kv.now read ≡ b = still_seen c.args.kv.now i (length_keys (file_of i b)) at read c.in-Ok.ensures.recorded in
    let open_at = spot_open c.handle_of.result (handle_in s f) c.in-Some.spot c.handle_of.ensures c.in-Some.is in
    let h = open_at.handle in
    let inode : i ≡ h.inode = open_at.inode in
    let off : c.in-Some.spot.off ≡ h.off = open_at.off in
    let count0 : k ≡ found_in z b h n = found_due c.cap.result z c.in-Ok.len c.in-Some.spot.off n k i b h c.found_len-k.ensures c.cap.ensures
    c.in-Ok.ensures.value inode off in
    let count : k ≡ found_in x.size b h n = count0 ∙ ap (λ (m : ℕ). found_in m b h n) (sym size) in
    let file : FileBytes (inside_of kind dev) any_slice (file_of i (seen c.args.kv.now read)) =
    subst (λ (w : Map). FileBytes (inside_of kind dev) any_slice (file_of i w)) (sym same) (file_bytes (inside_of kind dev) any_slice i b c.requires.inside) in
    let went : IsFileRead kind dev c.show.new.dev (file_of i (seen c.args.kv.now read)) c.range_start-from.result k ps =
    file_read_later laws c.in-Ok-pieces.ensures.dev c.in-Ok-show.ensures.dev c.in-Ok-show.ensures.lists (file_of i (seen c.args.kv.now read))
    c.range_start-from.result k ps c.in-Ok-pieces.ensures.read in
    let lists = went.facts in
    let due : ReadsFile x.size (file_of h.inode b) h.off k lists ps =
    subst (λ (m : ℕ). ReadsFile m (file_of h.inode b) h.off k lists ps) (sym size)
    (reads_due z (seen c.args.kv.now read) b h i c.in-Some.spot.off c.range_start-from.result k lists ps same inode off
    c.range_start-from.ensures.some went.reads) in
    let keys = len_keys b h.inode ++ keys_of h.inode (region_keys (touched x.size h.off k)) in
    let shown : Shown (byte_at kind (stores mid)) k (λ j. pieces_origin ps (0 + j)) [] bytes =
    subst (λ (old : List ℕ). Shown (byte_at kind (stores mid)) k (λ j. pieces_origin ps (0 + j)) old bytes) c.new-out.ensures.items
    (subst (λ (qs : List Piece). Shown (byte_at kind (stores mid)) k (λ j. pieces_origin qs (0 + j)) c.new-out.result.items bytes) c.as_slice.ensures.value
    c.in-Ok-show.ensures.shown) in
    let set : SetsHandle f (Some (moved_to (h.off + k) h)) s t =
    subst (λ (m : ℕ). SetsHandle f (Some (moved_to (m + k) h)) s t) off
    (subst (λ (o : Option Handle). SetsHandle f (option_map (moved_to (c.in-Some.spot.off + k)) o) s t) open_at.is c.move_handle.ensures) in
    let first : GrowsBy at read (len_keys b h.inode) [] = subst (λ (q : InodeId). GrowsBy at read (len_keys b q) []) inode c.in-Ok.ensures.recorded in
    let next0 : GrowsBy read new (keys_of h.inode (region_keys (touched z c.range_start-from.result k))) [] =
    subst (λ (q : InodeId). GrowsBy read new (keys_of q (region_keys (touched z c.range_start-from.result k))) []) inode c.in-Ok-pieces.ensures.recorded in
    let range : touched z c.range_start-from.result k ≡ touched x.size h.off k =
    same_touched z c.range_start-from.result h.off k (λ some. c.range_start-from.ensures.some some ∙ off) ∙ ap (λ (m : ℕ). touched m h.off k) (sym size) in
    let next : GrowsBy read new (keys_of h.inode (region_keys (touched x.size h.off k))) [] =
    subst (λ (rs : List ℕ). GrowsBy read new (keys_of h.inode (region_keys rs)) []) range next0 in
    record {
      did = shows keys lists ps bytes;
      grows = keys_more at read new (len_keys b h.inode) (keys_of h.inode (region_keys (touched x.size h.off k))) first next;
      is_call = subst (λ (l : List ℕ). IsCall x b s t (shows keys lists ps bytes) (op.Read f n) (answer.Shown l)) (sym c.of.ensures)
          (reads_call x b s t f n k h lists ps bytes (omega (arith, size, dev.settings.limits)) open_at.is count due (shown_len shown) set);
      more = tells_read laws dev mid c.show.new.dev c.in-Ok-pieces.ensures.dev c.in-Ok-show.ensures.dev (seen c.args.kv.now read) b i h
          c.in-Some.spot.off c.range_start-from.result k same inode off c.range_start-from.ensures.some ps bytes keys went shown;
    }

pub returns-in_default-clause-holds : goal.returns-in_default-clause-holds
returns-in_default-clause-holds g c =
    hand_refused (answer.Refused NoHandle) NoHandle (MovesOn c.args.f (λ h. found_in c.args.dev.now.settings.region (seen c.args.kv.now c.args.at.now) h
    c.args.n)) c.args.s.now refl

pub returns-clause-holds : goal.returns-clause-holds
returns-clause-holds g c =
    let s = c.args.s.now in
    let t = c.move_handle.new.self in
    let f = c.args.f in
    let i = c.in-Some.spot.inode in
    let b = seen c.args.kv.now c.args.at.now in
    let z = c.args.dev.now.settings.region in
    let k = c.found_len-k.result in
    let n : Handle → ℕ = λ h. found_in z b h c.args.n in
    let open_at = spot_open c.handle_of.result (handle_in s f) c.in-Some.spot c.handle_of.ensures c.in-Some.is in
    let count : k ≡ found_in z b open_at.handle c.args.n =
    found_due c.cap.result z c.in-Ok.len c.in-Some.spot.off c.args.n k i b open_at.handle c.found_len-k.ensures c.cap.ensures c.in-Ok.ensures.value
    open_at.inode open_at.off in
    hand_goes (answer.Shown c.of.result) (MovesOn f n) s t (λ h. h)
    (moves_on f (c.in-Some.spot.off + k) n s t open_at.handle open_at.is (omega (arith, open_at.off, count)) c.move_handle.ensures)

pub returns-in_default-clause-dev : goal.returns-in_default-clause-dev
returns-in_default-clause-dev g c = goes_nowhere g.met.S.SliceStore.laws c.args.dev.now c.requires.sound

pub returns-in-Err-clause-dev : goal.returns-in-Err-clause-dev
returns-in-Err-clause-dev g c = goes_nowhere g.met.S.SliceStore.laws c.args.dev.now c.requires.sound

pub returns-in-Err-pieces-clause-reads : goal.returns-in-Err-pieces-clause-reads
returns-in-Err-pieces-clause-reads g c = record {
  records = tt;
  same = tt;
  none = tt;
  logged = tt;
  refused = tt;
  err = refl;
  grows = Grows-on c.args.at.now c.file_len.new.at c.pieces.new.at c.in-Ok.ensures.grows c.in-Err-pieces.ensures.grows;
  reads = c.in-Err-pieces.ensures.reads;
}

pub returns-in-Err-show-clause-reads : goal.returns-in-Err-show-clause-reads
returns-in-Err-show-clause-reads g c = record {
  records = tt;
  same = tt;
  none = tt;
  logged = tt;
  refused = tt;
  err = refl;
  grows = Grows-on c.args.at.now c.file_len.new.at c.pieces.new.at c.in-Ok.ensures.grows c.in-Ok-pieces.ensures.grows;
  reads = reads_over g.S.SliceStore.kind c.args.dev.now c.pieces.new.dev c.show.new.dev c.in-Ok-pieces.ensures.dev c.in-Ok-pieces.ensures.reads
      c.in-Err-show.ensures.reads;
}

pub returns-clause-reads : goal.returns-clause-reads
returns-clause-reads g c =
    let s = c.args.s.now in
    let i = c.in-Some.spot.inode in
    let b = seen c.args.kv.now c.args.at.now in
    let z = c.args.dev.now.settings.region in
    let k = c.found_len-k.result in
    let at = c.args.at.now in
    let read = c.file_len.new.at in
    let new = c.pieces.new.at in
    let open_at = spot_open c.handle_of.result (handle_in s c.args.f) c.in-Some.spot c.handle_of.ensures c.in-Some.is in
    let h = open_at.handle in
    let inode : i ≡ h.inode = open_at.inode in
    let off : c.in-Some.spot.off ≡ h.off = open_at.off in
    let n = found_in z b h c.args.n in
    let count : k ≡ n = found_due c.cap.result z c.in-Ok.len c.in-Some.spot.off c.args.n k i b h c.found_len-k.ensures c.cap.ensures c.in-Ok.ensures.value
    inode off in
    let from = c.range_start-from.result in
    let range : touched z from k ≡ touched z h.off n =
    same_touched z from h.off k (λ some. c.range_start-from.ensures.some some ∙ off) ∙ ap (λ (m : ℕ). touched z h.off m) count in
    let first : GrowsBy at read (len_keys b h.inode) [] = subst (λ (q : InodeId). GrowsBy at read (len_keys b q) []) inode c.in-Ok.ensures.recorded in
    let next : GrowsBy read new (keys_of h.inode (region_keys (touched z h.off n))) [] =
    subst (λ (rs : List ℕ). GrowsBy read new (keys_of h.inode (region_keys rs)) []) range
    (subst (λ (q : InodeId). GrowsBy read new (keys_of q (region_keys (touched z from k))) []) inode c.in-Ok-pieces.ensures.recorded) in
    let keys = len_keys b h.inode ++ keys_of h.inode (region_keys (touched z h.off n)) in
    let went : GrowsBy at new keys [] = keys_more at read new (len_keys b h.inode) (keys_of h.inode (region_keys (touched z h.off n))) first next in
    record {
      records = went.reads ∙ ap (λ (o : Option Handle). at.reads ++ read_keys z b o c.args.n) (sym open_at.is);
      same = keeps_changes at new keys went;
      none = refl;
      logged = tt;
      refused = λ h. absurd h;
      err = tt;
      grows = Grows-on at read new c.in-Ok.ensures.grows c.in-Ok-pieces.ensures.grows;
      reads = reads_over g.S.SliceStore.kind c.args.dev.now c.pieces.new.dev c.show.new.dev c.in-Ok-pieces.ensures.dev c.in-Ok-pieces.ensures.reads
          c.in-Ok-show.ensures.reads;
    }

pub returns-in_default-clause-recalls : goal.returns-in_default-clause-recalls
returns-in_default-clause-recalls g c =
    let dev = c.args.dev.now in
    record {
      facts = [];
      recalls = recalls_same g.S.SliceStore.kind dev dev refl;
      known = λ ranges was told apart. tt;
      reads = record { refused = λ h. refl; made = λ going. absurd (going tt) };
    }

pub returns-clause-recalls : goal.returns-clause-recalls
returns-clause-recalls g c =
    let dev = c.args.dev.now in
    let s = c.args.s.now in
    let i = c.in-Some.spot.inode in
    let u = seen c.args.kv.now c.file_len.new.at in
    let b = seen c.args.kv.now c.args.at.now in
    let z = dev.settings.region in
    let k = c.found_len-k.result in
    let from = c.range_start-from.result in
    let ps = c.in-Ok-pieces.found.items in
    let same : u ≡ b = still_seen c.args.kv.now i (length_keys (file_of i b)) c.args.at.now c.file_len.new.at c.in-Ok.ensures.recorded in
    let open_at = spot_open c.handle_of.result (handle_in s c.args.f) c.in-Some.spot c.handle_of.ensures c.in-Some.is in
    let h = open_at.handle in
    let count : k ≡ found_in z b h c.args.n =
    found_due c.cap.result z c.in-Ok.len c.in-Some.spot.off c.args.n k i b h c.found_len-k.ensures c.cap.ensures c.in-Ok.ensures.value open_at.inode
    open_at.off in
    let went : IsFileRead g.S.SliceStore.kind dev c.show.new.dev (file_of i u) from k ps =
    file_read_later g.met.S.SliceStore.laws c.in-Ok-pieces.ensures.dev c.in-Ok-show.ensures.dev c.in-Ok-show.ensures.lists (file_of i u) from k ps
    c.in-Ok-pieces.ensures.read in
    record {
      facts = went.facts;
      recalls = went.recalls;
      known = went.told;
      reads = record {
        refused = λ h. absurd h;
        made = λ going. (
          h,
          open_at.is,
          lists_due z u b h i c.in-Some.spot.off from k (found_in z b h c.args.n) went.facts ps same open_at.inode open_at.off
              c.range_start-from.ensures.some count went.wants went.reads,
        );
      };
    }
