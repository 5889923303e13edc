use Rattle.std.proofs.Common.{◌≡◌, ◌+◌, ◌≤◌, ◌++◌, List, [], ◌∷◌, take, sym, ap, ◌∙◌, subst, arith}
use Rattle.std.proofs.lemmas.List.{take_more}
use Rattle.std.proofs.lemmas.Option.{slice_get_within, get_or_from_slice_get}
use Rattle.wtf_base.specs.declared.settings.Settings.{Settings}
use Rattle.wtf_overlay.specs.declared.part.Entry.{Entry}
use Rattle.wtf_meta.specs.Bytes.{EntryBytes}
use Rattle.wtf_region.proofs.Spans.{goes_on}
use Rattle.wtf_healer.specs.Bases.{inside_left}
use Rattle.wtf_healer.specs.Restored.{AreRestored, Grew}
use Rattle.wtf_healer.proofs.Faulting.{at_entry, is_there, fault_since, stores_over}
use Rattle.wtf_healer.proofs.Restoring.{entries_later, restored_more, grew_on}
use Rattle.wtf_healer.proofs.entries.restore.Goals as goal

pub add-requires-clause-inside : goal.add-requires-clause-inside
add-requires-clause-inside g c =
    at_entry (EntryBytes (inside_left g.S.SliceStore.kind c.loop-i.dev)) c.args.list.now c.loop-i.i c.get.result c.get.ensures
    (entries_later g.met.S.SliceStore.laws c.args.dev.now c.loop-i.dev c.requires.sound c.loop-i.invariant.goes c.args.list.now c.requires.inside)

pub add-requires-clause-within : goal.add-requires-clause-within
add-requires-clause-within g c =
    subst (λ (st : Settings). c.get.result.off + c.get.result.len ≤ st.region) (sym c.loop-i.invariant.goes.settings)
    (at_entry (λ (e : Entry). e.off + e.len ≤ c.args.dev.now.settings.region) c.args.list.now c.loop-i.i c.get.result c.get.ensures c.requires.within)

pub returns-in-Err-add-clause-fault : goal.returns-in-Err-add-clause-fault
returns-in-Err-add-clause-fault g c =
    fault_since g.met.S.SliceStore.laws c.args.dev.now c.loop-i.dev c.add.new.dev c.loop-i.invariant.goes c.args.list.now c.get.result
    (is_there c.args.list.now c.loop-i.i c.get.result c.get.ensures) c.in-Err-add.why c.in-Err-add.ensures.fault

pub returns-in-Err-add-clause-dev : goal.returns-in-Err-add-clause-dev
returns-in-Err-add-clause-dev g c = goes_on g.met.S.SliceStore.laws c.loop-i.invariant.goes c.add.ensures.dev

pub loop-i-preserved : goal.loop-i-preserved
loop-i-preserved g c =
    let laws = g.met.S.SliceStore.laws in
    let kind = g.S.SliceStore.kind in
    let old = c.args.dev.now in
    let mid = c.loop-i.dev in
    let new = c.add.new.dev in
    let es = c.args.list.now in
    let i = c.loop-i.i in
    let e = c.get.result in
    let known = c.loop-i.invariant in
    let added = c.in-Ok-add.ensures.added in
    let takes : take (i + 1) es ≡ take i es ++ e ∷ [] =
    take_more es i e (slice_get_within es i e c.get.ensures) ∙ ap (λ (x : Entry). take i es ++ x ∷ []) (get_or_from_slice_get es i e e c.get.ensures) in
    record {
      goes = goes_on laws known.goes c.add.ensures.dev;
      stores = stores_over laws old mid new known.goes known.stores c.add.ensures.stores;
      done = subst (λ (xs : List Entry). AreRestored kind old new c.args.key xs c.add.new.list (c.loop-i.bytes + c.in-Ok-add.more)) (sym takes)
          (restored_more laws old mid new known.goes c.add.ensures.dev c.args.key (take i es) c.loop-i.made c.add.new.list c.loop-i.bytes
          (c.loop-i.bytes + c.in-Ok-add.more) e added.0
          known.done added.1 added.2 (ap (λ n. c.loop-i.bytes + n) c.in-Ok-add.ensures.bytes));
      grew = grew_on laws old mid new known.goes c.add.ensures.dev c.loop-i.bytes c.in-Ok-add.more known.grew
          (subst (Grew kind mid new) (sym c.in-Ok-add.ensures.bytes) added.1.grew);
      few = omega (arith, known.few);
    }
