use Rattle.std.proofs.Common.{◌≡◌, ◌⊎◌, ℕ, ◌+◌, [], arith, refl, sym, ap, ◌∙◌, subst, inl, inr}
use Rattle.std.specs.Prelude.{IsTrue}
use Rattle.wtf_kv.specs.Stores.{is_pinned}
use Rattle.wtf_meta.specs.Bytes.{FileBytes, any_slice}
use Rattle.wtf_meta.specs.Maps.{Map, seen}
use Rattle.wtf_meta.specs.FileEdits.{file_of}
use Rattle.wtf_meta.specs.Appends.{touched, keys_of, region_keys}
use Rattle.wtf_meta.proofs.Touching.{touched-more}
use Rattle.wtf_occ.proofs.AttemptLaws.{GrowsBy-nothing, Grows-by, Grows-on}
use Rattle.wtf_region.specs.Bases.{region_slices, bases_in}
use Rattle.wtf_region.specs.Devs.{inside_of, is_down_in, stores}
use Rattle.wtf_region.specs.Edited.{Recorded}
use Rattle.wtf_region.specs.Reads.{IsPartRead, IsFileRead, LeavesRegion}
use Rattle.wtf_region.proofs.ListReads.{file_none, file_on, file_later, may_recall, recalls_first}
use Rattle.wtf_region.proofs.Recording.{still_seen, recorded_region, part_start}
use Rattle.wtf_region.proofs.ShowLaws.{reads_nothing, reads_over}
use Rattle.wtf_region.proofs.Spans.{goes_nowhere, goes_on}
use Rattle.wtf_region.proofs.reading.pieces.Goals as goal

pub loop-done-init : goal.loop-done-init
loop-done-init g c = record {
  upto = omega arith;
  read = file_none g.met.S.SliceStore.laws c.args.dev.now (file_of c.args.inode (seen c.args.kv.now c.args.at.now))
      c.args.off c.new-out.result.items c.new-out.ensures.items;
  recorded = GrowsBy-nothing c.args.at.now;
  border = inl refl;
  reads = reads_nothing g.S.SliceStore.kind (is_down_in c.args.dev.now) (stores c.args.dev.now);
  each = goes_nowhere g.met.S.SliceStore.laws c.args.dev.now c.requires.sound;
}

pub region_pieces-requires-clause-pinned : goal.region_pieces-requires-clause-pinned
region_pieces-requires-clause-pinned g c =
    subst (λ (base : ℕ). IsTrue (is_pinned c.args.kv.now base)) (sym c.loop-done.invariant.recorded.base) c.requires.pinned

pub returns-in-Err-clause-grows : goal.returns-in-Err-clause-grows
returns-in-Err-clause-grows g c =
    let at = c.args.at.now in
    let mid = c.loop-done.at in
    let keys = keys_of c.args.inode (region_keys (touched c.args.dev.now.settings.region c.args.off c.loop-done.done)) in
    Grows-on at mid c.region_pieces.new.at (Grows-by at mid keys [] c.loop-done.invariant.recorded) c.in-Err.ensures.grows

pub returns-in-Err-append-clause-grows : goal.returns-in-Err-append-clause-grows
returns-in-Err-append-clause-grows g c =
    let at = c.args.at.now in
    let mid = c.loop-done.at in
    let keys = keys_of c.args.inode (region_keys (touched c.args.dev.now.settings.region c.args.off c.loop-done.done)) in
    Grows-on at mid c.region_pieces.new.at (Grows-by at mid keys [] c.loop-done.invariant.recorded) c.in-Ok.ensures.grows

pub region_pieces-requires-clause-inside : goal.region_pieces-requires-clause-inside
region_pieces-requires-clause-inside g c =
    let i = c.args.inode in
    let kv = c.args.kv.now in
    let inv = c.loop-done.invariant in
    let same : seen kv c.loop-done.at ≡ seen kv c.args.at.now =
    still_seen kv i (region_keys (touched c.args.dev.now.settings.region c.args.off c.loop-done.done)) c.args.at.now c.loop-done.at inv.recorded in
    subst (λ (w : Map). FileBytes (inside_of g.S.SliceStore.kind c.loop-done.dev) any_slice (file_of i w)) (sym same)
    (file_later g.met.S.SliceStore.laws c.requires.sound inv.each (file_of i (seen kv c.args.at.now)) c.requires.inside)

pub returns-in-Err-clause-fault : goal.returns-in-Err-clause-fault
returns-in-Err-clause-fault g c =
    let i = c.args.inode in
    let kv = c.args.kv.now in
    let p = c.part_at-part.result in
    let e = c.part_at-part.ensures in
    let inv = c.loop-done.invariant in
    let same : seen kv c.loop-done.at ≡ seen kv c.args.at.now =
    still_seen kv i (region_keys (touched c.args.dev.now.settings.region c.args.off c.loop-done.done)) c.args.at.now c.loop-done.at inv.recorded in
    let b = c.args.dev.now.settings.region in
    let v = file_of i (seen kv c.args.at.now) in
    let done = c.loop-done.done in
    let lack : LeavesRegion g.S.SliceStore.kind c.loop-done.dev c.region_pieces.new.dev (v.region p.region) c.in-Err.why =
    subst (λ (w : Map). LeavesRegion g.S.SliceStore.kind c.loop-done.dev c.region_pieces.new.dev ((file_of i w).region p.region) c.in-Err.why)
    same c.in-Err.ensures.fault in
    let start : (done ≡ 0) ⊎ (p.off ≡ 0) = part_start b c.args.off c.args.len done p.region p.off c.loop-done-test.true inv.border e.place
    (omega (arith, e.within, e.some)) in
    inr (record {
      mid = c.loop-done.dev;
      goes = inv.each;
      before = inv.read.facts;
      recalls = inv.read.recalls;
      some = omega (arith, c.loop-done-test.true);
      region = p.region;
      from = omega (arith, e.place, e.within, e.some);
      upto = omega (arith, e.place, c.loop-done-test.true);
      earlier = inv.read.wants ∙ ap (bases_in b v c.args.off) (elim start [
        | inl none ↦ omega (arith, e.place, none)
        | inr begins ↦ omega
            (arith, e.place, begins)
      ]);
      cause = lack.cause;
      left = lack.left;
    })

pub returns-in-Err-clause-err : goal.returns-in-Err-clause-err
returns-in-Err-clause-err g c =
    let i = c.args.inode in
    let kv = c.args.kv.now in
    let b = c.args.dev.now.settings.region in
    let p = c.part_at-part.result in
    let e = c.part_at-part.ensures in
    let inv = c.loop-done.invariant in
    let v = file_of i (seen kv c.args.at.now) in
    let mid = c.loop-done.dev in
    let same : seen kv c.loop-done.at ≡ seen kv c.args.at.now = still_seen kv i (region_keys (touched b c.args.off c.loop-done.done)) c.args.at.now
    c.loop-done.at
    inv.recorded in
    let lack : LeavesRegion g.S.SliceStore.kind mid c.region_pieces.new.dev (v.region p.region) c.in-Err.why =
    subst (λ (w : Map). LeavesRegion g.S.SliceStore.kind mid c.region_pieces.new.dev ((file_of i w).region p.region) c.in-Err.why) same
    c.in-Err.ensures.fault in
    recalls_first g.met.S.SliceStore.laws inv.each c.region_pieces.ensures.dev v c.args.off c.args.len c.loop-done.done p.len p.region p.off
    c.loop-done.out.items e.some (omega (arith, e.inside)) e.place e.within
    (part_start b c.args.off c.args.len c.loop-done.done p.region p.off c.loop-done-test.true inv.border e.place (omega (arith, e.within, e.some))) inv.read
    (may_recall g.S.SliceStore.kind (region_slices (v.region p.region)) mid c.region_pieces.new.dev c.in-Err.why lack.left)

pub returns-in-Err-append-clause-err : goal.returns-in-Err-append-clause-err
returns-in-Err-append-clause-err g c =
    let i = c.args.inode in
    let kv = c.args.kv.now in
    let b = c.args.dev.now.settings.region in
    let p = c.part_at-part.result in
    let e = c.part_at-part.ensures in
    let inv = c.loop-done.invariant in
    let v = file_of i (seen kv c.args.at.now) in
    let same : seen kv c.loop-done.at ≡ seen kv c.args.at.now = still_seen kv i (region_keys (touched b c.args.off c.loop-done.done)) c.args.at.now
    c.loop-done.at
    inv.recorded in
    let more : IsPartRead g.S.SliceStore.kind c.loop-done.dev c.region_pieces.new.dev (v.region p.region) p.off p.len c.in-Ok.more.items =
    subst (λ (w : Map). IsPartRead g.S.SliceStore.kind c.loop-done.dev c.region_pieces.new.dev ((file_of i w).region p.region) p.off p.len c.in-Ok.more.items)
    same c.in-Ok.ensures.read in
    recalls_first g.met.S.SliceStore.laws inv.each c.region_pieces.ensures.dev v c.args.off c.args.len c.loop-done.done p.len p.region p.off
    c.loop-done.out.items e.some (omega (arith, e.inside)) e.place e.within
    (part_start b c.args.off c.args.len c.loop-done.done p.region p.off c.loop-done-test.true inv.border e.place (omega (arith, e.within, e.some))) inv.read
    (inr (more.facts, more.wants, more.recalls))

pub returns-in-Err-clause-reads : goal.returns-in-Err-clause-reads
returns-in-Err-clause-reads g c =
    reads_over g.S.SliceStore.kind c.args.dev.now c.loop-done.dev c.region_pieces.new.dev c.loop-done.invariant.each c.loop-done.invariant.reads
    c.region_pieces.ensures.reads

pub returns-in-Err-clause-dev : goal.returns-in-Err-clause-dev
returns-in-Err-clause-dev g c = goes_on g.met.S.SliceStore.laws c.loop-done.invariant.each c.region_pieces.ensures.dev

pub returns-in-Err-append-clause-reads : goal.returns-in-Err-append-clause-reads
returns-in-Err-append-clause-reads g c =
    reads_over g.S.SliceStore.kind c.args.dev.now c.loop-done.dev c.region_pieces.new.dev c.loop-done.invariant.each c.loop-done.invariant.reads
    c.region_pieces.ensures.reads

pub returns-in-Err-append-clause-dev : goal.returns-in-Err-append-clause-dev
returns-in-Err-append-clause-dev g c = goes_on g.met.S.SliceStore.laws c.loop-done.invariant.each c.region_pieces.ensures.dev

pub loop-done-preserved : goal.loop-done-preserved
loop-done-preserved g c =
    let b = c.args.dev.now.settings.region in
    let off = c.args.off in
    let done = c.loop-done.done in
    let i = c.args.inode in
    let kv = c.args.kv.now in
    let p = c.part_at-part.result in
    let e = c.part_at-part.ensures in
    let inv = c.loop-done.invariant in
    let v = file_of i (seen kv c.args.at.now) in
    let same : seen kv c.loop-done.at ≡ seen kv c.args.at.now = still_seen kv i (region_keys (touched b off done)) c.args.at.now c.loop-done.at inv.recorded in
    let start : (done ≡ 0) ⊎ (p.off ≡ 0) = part_start b off c.args.len done p.region p.off c.loop-done-test.true inv.border e.place
    (omega (arith, e.within, e.some)) in
    let more : IsPartRead g.S.SliceStore.kind c.loop-done.dev c.region_pieces.new.dev (v.region p.region) p.off p.len c.in-Ok.more.items =
    subst (λ (w : Map). IsPartRead g.S.SliceStore.kind c.loop-done.dev c.region_pieces.new.dev ((file_of i w).region p.region) p.off p.len c.in-Ok.more.items)
    same c.in-Ok.ensures.read in
    record {
      upto = omega (arith, e.inside);
      read = rw (c.in-Ok-append.ensures.ok, c.as_slice.ensures.value)
          (file_on g.met.S.SliceStore.laws inv.each c.region_pieces.ensures.dev v off done p.len p.region p.off
          c.loop-done.out.items c.in-Ok.more.items e.some e.place e.within start inv.read more);
      recorded = recorded_region i (touched b off done) (touched b off (done + p.len)) p.region c.args.at.now c.loop-done.at c.region_pieces.new.at
          (touched-more b off done p.region p.off p.len (omega (arith, c.args.dev.now.settings.limits)) e.place e.within e.some start)
          inv.recorded c.in-Ok.ensures.recorded;
      border = elim e.whole [
        | inl whole ↦ inr (inl whole)
        | inr full ↦ inr (inr (p.region + 1, omega (arith, e.place, full)))
      ];
      reads = reads_over g.S.SliceStore.kind c.args.dev.now c.loop-done.dev c.region_pieces.new.dev inv.each inv.reads c.region_pieces.ensures.reads;
      each = goes_on g.met.S.SliceStore.laws inv.each c.region_pieces.ensures.dev;
    }

pub returns-clause-read : goal.returns-clause-read
returns-clause-read g c =
    let whole : c.loop-done.done ≡ c.args.len = omega (arith, c.loop-done.invariant.upto, c.loop-done-test.false) in
    subst (λ (n : ℕ). IsFileRead g.S.SliceStore.kind c.args.dev.now c.loop-done.dev (file_of c.args.inode (seen c.args.kv.now c.args.at.now)) c.args.off n
    c.loop-done.out.items) whole c.loop-done.invariant.read

pub returns-clause-recorded : goal.returns-clause-recorded
returns-clause-recorded g c =
    let inv = c.loop-done.invariant in
    let whole : c.loop-done.done ≡ c.args.len = omega (arith, inv.upto, c.loop-done-test.false) in
    subst (λ (n : ℕ). Recorded c.args.inode (region_keys (touched c.args.dev.now.settings.region c.args.off n)) c.args.at.now c.loop-done.at) whole
    inv.recorded

pub returns-clause-grows : goal.returns-clause-grows
returns-clause-grows g c = Grows-by c.args.at.now c.loop-done.at _ _ c.loop-done.invariant.recorded
