use Rattle.std.proofs.Common.{rules, ◌≡◌, ◌+◌, inl, inr, arith, map, take, Some, sym, ap, ◌∙◌, subst, List, [], ◌∷◌, ◌++◌, get_or}
use Rattle.std.specs.List.{Contains}
use Rattle.std.proofs.lemmas.List.Elements.{All-get_or, All-weaker, Contains-get_or, Contains-append_left}
use Rattle.std.proofs.lemmas.Result.{err_from_is_err_and}
use Rattle.wtf_base.specs.declared.slice.Slice.{Slice}
use Rattle.wtf_meta.specs.Lists.{ListFact}
use Rattle.wtf_meta.specs.Bytes.{SliceBytes}
use Rattle.wtf_region.specs.Devs.{inside_of, is_down_in, stores}
use Rattle.wtf_region.proofs.ListReads.{slice_later}
use Rattle.wtf_region.proofs.ShowLaws.{reads_nothing, reads_over}
use Rattle.wtf_region.proofs.Spans.{goes_nowhere, goes_on}
use Rattle.wtf_gc.specs.declared.gather.Base.{Base}
use Rattle.wtf_gc.specs.Reading.{ListsRead}
use Rattle.wtf_gc.proofs.Listed.{read_none, read_on, read_again, last_there, map_more, mapped_first}
use Rattle.wtf_gc.proofs.listing.add_lists.Goals as goal

abbrev slice_in : Base → Slice
slice_in b = b.slice

pub loop-base-init : goal.loop-base-init
loop-base-init g c = record {
  so_far = read_none g.met.S.SliceStore.laws c.args.dev.now c.args.found.now;
  only_read = reads_nothing g.S.SliceStore.kind (is_down_in c.args.dev.now) (stores c.args.dev.now);
  goes_on = goes_nowhere g.met.S.SliceStore.laws c.args.dev.now c.requires.sound;
  there = λ s none. cc;
}

pub add_base_list-requires-clause-inside : goal.add_base_list-requires-clause-inside
add_base_list-requires-clause-inside g c =
    let bases = c.args.bases.now in
    let b : Base = c.base-item.result in
    let same : get_or bases c.loop-base.base-index b ≡ b = search rules in
    subst (λ (x : Base). SliceBytes (inside_of g.S.SliceStore.kind c.loop-base.dev) x.slice) same
    (slice_later g.met.S.SliceStore.laws c.requires.sound c.loop-base.invariant.goes_on (get_or bases c.loop-base.base-index b).slice
    (All-get_or (λ (x : Base). SliceBytes (inside_of g.S.SliceStore.kind c.args.dev.now) x.slice) bases c.loop-base.base-index b
    (omega arith) c.requires.inside))

pub returns-in_err-add_base_list-clause-fault : goal.returns-in_err-add_base_list-clause-fault
returns-in_err-add_base_list-clause-fault g c =
    let bases = c.args.bases.now in
    let b : Base = c.base-item.result in
    let same : get_or bases c.loop-base.base-index b ≡ b = search rules in
    let p = err_from_is_err_and c.from_residual.result c.from_residual.ensures.1 in
    rw (p.1, p.2) (elim c.in_err-add_base_list.ensures.fault [
      | inl memory ↦ inl memory
      | inr lacks ↦ inr (record {
        mid = c.loop-base.dev;
        goes = c.loop-base.invariant.goes_on;
        before = c.loop-base.invariant.so_far.asked;
        recalls = c.loop-base.invariant.so_far.recalls;
        among = All-weaker (λ (f : ListFact). Contains (map slice_in (take c.loop-base.base-index bases)) f.slice)
            (λ (f : ListFact). Contains (map slice_in bases) f.slice) (λ f h. mapped_first slice_in bases c.loop-base.base-index f.slice h)
            c.loop-base.invariant.so_far.asked c.loop-base.invariant.so_far.among;
        base = b;
        one = subst (λ (x : Base). Contains bases x) same (Contains-get_or bases c.loop-base.base-index b (omega arith));
        cause = lacks.0;
        left = lacks.1;
      })
    ])

pub returns-in_err-add_base_list-clause-dev : goal.returns-in_err-add_base_list-clause-dev
returns-in_err-add_base_list-clause-dev g c = goes_on g.met.S.SliceStore.laws c.loop-base.invariant.goes_on c.add_base_list.ensures.dev

-- the next base
pub loop-base-preserved : goal.loop-base-preserved
loop-base-preserved g c =
    let inv = c.loop-base.invariant in
    let laws = g.met.S.SliceStore.laws in
    let next = c.add_base_list.new in
    let bases = c.args.bases.now in
    let i = c.loop-base.base-index in
    let b : Base = c.base-item.result in
    let s : Slice = b.slice in
    let same : get_or bases i b ≡ b = search rules in
    let more : map slice_in (take i bases) ++ s ∷ [] ≡ map slice_in (take (i + 1) bases) =
    ap (λ (x : Base). map slice_in (take i bases) ++ x.slice ∷ []) (sym same) ∙ map_more slice_in bases i b (omega arith) in
    let read : ListsRead g.S.SliceStore.kind c.loop-base.dev next.dev (s ∷ []) c.loop-base.found next.found = search rules in
    record {
      so_far = subst (λ (l : List Slice). ListsRead g.S.SliceStore.kind c.args.dev.now next.dev l c.args.found.now next.found) more
          (read_on laws inv.goes_on c.add_base_list.ensures.dev (map slice_in (take i bases)) (s ∷ [])
          c.args.found.now c.loop-base.found next.found inv.so_far read);
      only_read = reads_over g.S.SliceStore.kind c.args.dev.now c.loop-base.dev next.dev inv.goes_on inv.only_read c.add_base_list.ensures.reads;
      goes_on = goes_on laws inv.goes_on c.add_base_list.ensures.dev;
      there = λ t (is : Some s ≡ Some t). let one : s ≡ t = cc in
          subst (λ (l : List Slice). Contains l t) more
          (subst (Contains (map slice_in (take i bases) ++ s ∷ [])) one (last_there (map slice_in (take i bases)) s));
    }

-- one that is that before it
pub loop-base-preserved-then-is_again : goal.loop-base-preserved-then-is_again
loop-base-preserved-then-is_again g c =
    let inv = c.loop-base.invariant in
    let bases = c.args.bases.now in
    let i = c.loop-base.base-index in
    let b : Base = c.base-item.result in
    let s : Slice = b.slice in
    let same : get_or bases i b ≡ b = search rules in
    let more : map slice_in (take i bases) ++ s ∷ [] ≡ map slice_in (take (i + 1) bases) =
    ap (λ (x : Base). map slice_in (take i bases) ++ x.slice ∷ []) (sym same) ∙ map_more slice_in bases i b (omega arith) in
    let there = inv.there s (c.is_again.ensures c.if-is_again.true) in
    record {
      so_far = subst (λ (l : List Slice). ListsRead g.S.SliceStore.kind c.args.dev.now c.loop-base.dev l c.args.found.now c.loop-base.found) more
          (read_again g.S.SliceStore.kind c.args.dev.now c.loop-base.dev (map slice_in (take i bases)) s c.args.found.now c.loop-base.found there inv.so_far);
      only_read = inv.only_read;
      goes_on = inv.goes_on;
      there = λ t is. subst (λ (l : List Slice). Contains l t) more (Contains-append_left (map slice_in (take i bases)) (s ∷ []) t (inv.there t is));
    }
