use Rattle.std.proofs.Common.{◌≡◌, ℕ, ◌+◌, ◌*◌, ◌≤◌, List, [], ◌∷◌, ◌++◌, take, drop, refl, sym, ap, ◌∙◌, subst, inl, inr}
use Rattle.std.specs.Prelude.{slice_index_or, IsTrue}
use Rattle.std.proofs.lemmas.List.{take_more, take_all, take-append-drop, drop_more}
use Rattle.wtf_base.specs.declared.ids.InodeId.{InodeId}
use Rattle.wtf_base.specs.declared.settings.Settings.{Settings}
use Rattle.wtf_kv.specs.Stores.{is_pinned}
use Rattle.wtf_occ.specs.Attempts.{Attempted, Grows}
use Rattle.wtf_occ.proofs.AttemptLaws.{GrowsBy-nothing, Grows-by, Grows-on}
use Rattle.wtf_overlay.specs.declared.part.Piece.{Piece}
use Rattle.wtf_model.specs.declared.limits.TheConstants.{MAX_REGIONS}
use Rattle.wtf_values.specs.declared.key.Key.{Key}
use Rattle.wtf_values.specs.declared.value.Delta.{Delta}
use Rattle.wtf_meta.specs.Maps.{Map, seen}
use Rattle.wtf_meta.specs.Bytes.{FileBytes, any_slice}
use Rattle.wtf_meta.specs.Files.{file_len}
use Rattle.wtf_meta.specs.FileEdits.{file_of}
use Rattle.wtf_meta.proofs.Named.{file_bytes}
use Rattle.wtf_region.specs.Devs.{inside_of, is_down_in, stores}
use Rattle.wtf_region.specs.Reads.{IsFileRead, LacksRegion}
use Rattle.wtf_region.proofs.ShowLaws.{reads_nothing, reads_over}
use Rattle.wtf_region.proofs.Spans.{goes_nowhere, goes_on}
use Rattle.wtf_slicing.specs.Sources.{lens_of, AreFilesRead}
use Rattle.wtf_slicing.proofs.FileReads.{map_later, files_none, files_on}
use Rattle.wtf_slicing.proofs.Loops.{lens_one, le-trans, mark_within}
use Rattle.wtf_slicing.proofs.whole.all_pieces.Goals as goal

pub file_pieces-requires-clause-pinned : goal.file_pieces-requires-clause-pinned
file_pieces-requires-clause-pinned g c =
    subst (λ (base : ℕ). IsTrue (is_pinned c.args.kv.now base)) (sym c.loop-inode.invariant.grows.base) c.requires.pinned

pub file_pieces-requires-clause-cap : goal.file_pieces-requires-clause-cap
file_pieces-requires-clause-cap g c =
    let kv = c.args.kv.now in
    let is : List InodeId = c.args.inodes.now in
    let n = c.loop-inode.inode-index in
    let none : InodeId = record { tx = record { 0 = 0 }; index = 0 } in
    let i : InodeId = slice_index_or is n none in
    let inv = c.loop-inode.invariant in
    let z = c.args.dev.now.settings.region in
    let b : Map = seen kv c.args.at.now in
    subst (λ (t : Settings). lens_of t.region (seen kv c.loop-inode.at) (i ∷ []) ≤ MAX_REGIONS * t.region) (sym inv.each.settings)
    (subst (λ (m : Map). lens_of z m (i ∷ []) ≤ MAX_REGIONS * z) (sym inv.same) (le-trans (lens_of z b (i ∷ [])) (lens_of z b is) (MAX_REGIONS * z)
    (lens_one z b is n none c.loop-inode-test.true) c.requires.cap))

pub file_pieces-requires-clause-inside : goal.file_pieces-requires-clause-inside
file_pieces-requires-clause-inside g c =
    let kind = g.S.SliceStore.kind in
    let kv = c.args.kv.now in
    let is : List InodeId = c.args.inodes.now in
    let i : InodeId = slice_index_or is c.loop-inode.inode-index (record { tx = record { 0 = 0 }; index = 0 }) in
    let inv = c.loop-inode.invariant in
    let b : Map = seen kv c.args.at.now in
    subst (λ (m : Map). FileBytes (inside_of kind c.loop-inode.dev) any_slice (file_of i m)) (sym inv.same)
    (file_bytes (inside_of kind c.loop-inode.dev) any_slice i b (map_later g.met.S.SliceStore.laws c.requires.sound inv.each b c.requires.inside))

pub loop-inode-init : goal.loop-inode-init
loop-inode-init g c = record {
  read = files_none g.met.S.SliceStore.laws c.args.dev.now (seen c.args.kv.now c.args.at.now) c.new-out.result.items c.new-out.ensures.items;
  same = refl;
  grows = Grows-by c.args.at.now c.args.at.now [] [] (GrowsBy-nothing c.args.at.now);
  reads = reads_nothing g.S.SliceStore.kind (is_down_in c.args.dev.now) (stores c.args.dev.now);
  each = goes_nowhere g.met.S.SliceStore.laws c.args.dev.now c.requires.sound;
}

pub returns-in-Err-clause-fault : goal.returns-in-Err-clause-fault
returns-in-Err-clause-fault g c =
    let kind = g.S.SliceStore.kind in
    let dev = c.args.dev.now in
    let kv = c.args.kv.now in
    let is : List InodeId = c.args.inodes.now in
    let n = c.loop-inode.inode-index in
    let none : InodeId = record { tx = record { 0 = 0 }; index = 0 } in
    let i : InodeId = slice_index_or is n none in
    let inv = c.loop-inode.invariant in
    let b : Map = seen kv c.args.at.now in
    let mid = c.loop-inode.dev in
    let new = c.file_pieces.new.dev in
    elim c.in-Err.ensures.fault [
      | inl memory ↦ inl memory
      | inr lacks ↦ inr (record {
        mid = mid;
        goes = inv.each;
        read = take n is;
        inode = i;
        rest = drop (n + 1) is;
        split = sym (take-append-drop n is) ∙ ap (λ (l : List InodeId). take n is ++ l) (drop_more is n none c.loop-inode-test.true);
        before = inv.read.facts;
        earlier = inv.read.wants;
        recalls = inv.read.recalls;
        cause = subst (λ (st : Settings). LacksRegion kind mid new (file_of i b) 0 (file_len st.region (file_of i b)) c.in-Err.why) inv.each.settings
            (subst (λ (m : Map). LacksRegion kind mid new (file_of i m) 0 (file_len mid.settings.region (file_of i m)) c.in-Err.why) inv.same lacks);
      })
    ]

pub returns-in-Err-clause-grows : goal.returns-in-Err-clause-grows
returns-in-Err-clause-grows g c =
    Grows-on c.args.at.now c.loop-inode.at c.file_pieces.new.at c.loop-inode.invariant.grows c.in-Err.ensures.grows

pub returns-in-Err-clause-reads : goal.returns-in-Err-clause-reads
returns-in-Err-clause-reads g c =
    let inv = c.loop-inode.invariant in
    reads_over g.S.SliceStore.kind c.args.dev.now c.loop-inode.dev c.file_pieces.new.dev inv.each inv.reads c.in-Err.ensures.reads

pub returns-in-Err-append-clause-grows : goal.returns-in-Err-append-clause-grows
returns-in-Err-append-clause-grows g c =
    Grows-on c.args.at.now c.loop-inode.at c.file_pieces.new.at c.loop-inode.invariant.grows c.in-Ok.ensures.grows

pub returns-in-Err-append-clause-reads : goal.returns-in-Err-append-clause-reads
returns-in-Err-append-clause-reads g c =
    let inv = c.loop-inode.invariant in
    reads_over g.S.SliceStore.kind c.args.dev.now c.loop-inode.dev c.file_pieces.new.dev inv.each inv.reads c.in-Ok.ensures.reads

pub returns-in-Err-clause-dev : goal.returns-in-Err-clause-dev
returns-in-Err-clause-dev g c = goes_on g.met.S.SliceStore.laws c.loop-inode.invariant.each c.in-Err.ensures.dev

pub returns-in-Err-append-clause-dev : goal.returns-in-Err-append-clause-dev
returns-in-Err-append-clause-dev g c = goes_on g.met.S.SliceStore.laws c.loop-inode.invariant.each c.in-Ok.ensures.dev

pub loop-inode-preserved : goal.loop-inode-preserved
loop-inode-preserved g c =
    let kv = c.args.kv.now in
    let at = c.args.at.now in
    let is : List InodeId = c.args.inodes.now in
    let n = c.loop-inode.inode-index in
    let none : InodeId = record { tx = record { 0 = 0 }; index = 0 } in
    let i : InodeId = slice_index_or is n none in
    let inv = c.loop-inode.invariant in
    let z = c.args.dev.now.settings.region in
    let b : Map = seen kv at in
    let more = c.in-Ok.more.items in
    let next : take (n + 1) is ≡ take n is ++ i ∷ [] = take_more is n none c.loop-inode-test.true in
    let kind = g.S.SliceStore.kind in
    let mid = c.loop-inode.dev in
    let into = c.file_pieces.new.dev in
    let here : IsFileRead kind mid into (file_of i b) 0 (file_len z (file_of i b)) more =
    subst (λ (st : Settings). IsFileRead kind mid into (file_of i b) 0 (file_len st.region (file_of i b)) more) inv.each.settings
    (subst (λ (m : Map). IsFileRead kind mid into (file_of i m) 0 (file_len mid.settings.region (file_of i m)) more) inv.same c.in-Ok.ensures.read) in
    let all : AreFilesRead kind c.args.dev.now into b (take n is ++ i ∷ []) (c.loop-inode.out.items ++ more) =
    files_on g.met.S.SliceStore.laws inv.each c.in-Ok.ensures.dev b (take n is) i c.loop-inode.out.items more
    inv.read here in
    let whole : c.append.new.out.items ≡ c.loop-inode.out.items ++ more =
    subst (λ (l : List Piece). c.append.new.out.items ≡ c.loop-inode.out.items ++ l) c.as_slice.ensures.value c.in-Ok-append.ensures.ok in
    record {
      read = subst (λ (l : List InodeId). AreFilesRead kind c.args.dev.now into b l c.append.new.out.items) (sym {A = List InodeId} next)
          (subst (λ (ps : List Piece). AreFilesRead kind c.args.dev.now into b (take n is ++ i ∷ []) ps) (sym {A = List Piece} whole) all);
      same = c.in-Ok.ensures.same ∙ inv.same;
      grows = Grows-on at c.loop-inode.at c.file_pieces.new.at inv.grows c.in-Ok.ensures.grows;
      reads = reads_over g.S.SliceStore.kind c.args.dev.now c.loop-inode.dev c.file_pieces.new.dev inv.each inv.reads c.in-Ok.ensures.reads;
      each = goes_on g.met.S.SliceStore.laws inv.each c.in-Ok.ensures.dev;
    }

pub rewind-requires-clause-reads : goal.rewind-requires-clause-reads
rewind-requires-clause-reads g c =
    mark_within c.mark-mark.result.reads c.args.at.now.reads c.loop-inode.at.reads (ap (λ m. m.reads) c.mark-mark.ensures)
    c.loop-inode.invariant.grows.reads

pub rewind-requires-clause-changes : goal.rewind-requires-clause-changes
rewind-requires-clause-changes g c =
    mark_within c.mark-mark.result.changes c.args.at.now.changes c.loop-inode.at.changes (ap (λ m. m.changes) c.mark-mark.ensures)
    c.loop-inode.invariant.grows.changes

pub returns-clause-read : goal.returns-clause-read
returns-clause-read g c =
    let is : List InodeId = c.args.inodes.now in
    subst (λ (l : List InodeId). AreFilesRead g.S.SliceStore.kind c.args.dev.now c.loop-inode.dev (seen c.args.kv.now c.args.at.now) l
    c.loop-inode.out.items) (take_all c.loop-inode.inode-index is c.loop-inode-test.false) c.loop-inode.invariant.read

pub returns-clause-same : goal.returns-clause-same
returns-clause-same g c = c.rewind.ensures.back c.args.at.now c.loop-inode.invariant.grows c.mark-mark.ensures

pub returns-clause-grows : goal.returns-clause-grows
returns-clause-grows g c =
    let was = c.args.at.now in
    subst (λ (at : Attempted Key Delta). Grows was at) (sym (c.rewind.ensures.back was c.loop-inode.invariant.grows c.mark-mark.ensures))
    (Grows-by was was [] [] (GrowsBy-nothing was))
