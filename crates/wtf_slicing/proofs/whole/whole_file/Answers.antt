use Rattle.std.proofs.Common.{◌≡◌, ◌+◌, ◌-◌, ℕ, List, [], ◌∷◌, ◌++◌, Option, map, sym, ap, ◌∙◌, arith}
use Rattle.wtf_occ.proofs.AttemptLaws.{Grows-by, Grows-on}
use Rattle.wtf_values.specs.declared.region.RegionValue.{RegionValue}
use Rattle.wtf_meta.specs.Maps.{Map, seen}
use Rattle.wtf_meta.specs.Files.{end_of}
use Rattle.wtf_meta.specs.FileEdits.{file_of}
use Rattle.wtf_meta.specs.Appends.{OfLast, keys_of, region_keys, count_from}
use Rattle.wtf_region.proofs.Recording.{still_seen}
use Rattle.wtf_slicing.proofs.Loops.{recorded_next, regions_next}
use Rattle.wtf_slicing.proofs.whole.whole_file.Goals as goal

back : (n : ℕ) → n ≡ n + 1 - 1
back n = omega arith

pub returns-in_err-value-clause-grows : goal.returns-in_err-value-clause-grows
returns-in_err-value-clause-grows c =
    let at = c.args.at.now in
    let mid = c.loop-r.at in
    let keys = keys_of c.args.inode (OfLast ∷ region_keys (count_from 0 c.loop-r.r)) in
    Grows-on at mid c.region_at.new.at (Grows-by at mid keys [] c.loop-r.invariant.recorded) c.in_err-value.ensures.grows

pub returns-in_err-push-clause-grows : goal.returns-in_err-push-clause-grows
returns-in_err-push-clause-grows c =
    let at = c.args.at.now in
    let mid = c.loop-r.at in
    let keys = keys_of c.args.inode (OfLast ∷ region_keys (count_from 0 c.loop-r.r)) in
    Grows-on at mid c.region_at.new.at (Grows-by at mid keys [] c.loop-r.invariant.recorded) c.in_ok-value.ensures.grows

pub loop-r-preserved : goal.loop-r-preserved
loop-r-preserved c =
    let kv = c.args.kv.now in
    let at = c.args.at.now in
    let i = c.args.inode in
    let r = c.loop-r.r in
    let b : Map = seen kv at in
    let g : ℕ → Option RegionValue = (file_of i b).region in
    let inv = c.loop-r.invariant in
    let same : seen kv c.loop-r.at ≡ b = still_seen kv i (OfLast ∷ region_keys (count_from 0 r)) at c.loop-r.at inv.recorded in
    let v : c.in_ok-value.value ≡ g r = c.in_ok-value.ensures.value ∙ ap (λ (m : Map). (file_of i m).region r) same in
    record {
      recorded = recorded_next i r at c.loop-r.at c.region_at.new.at inv.recorded c.in_ok-value.ensures.recorded;
      regions = c.in_ok-push.ensures.items ∙ ap (λ (l : List (Option RegionValue)). l ++ c.in_ok-value.value ∷ []) inv.regions
          ∙ ap (λ (o : Option RegionValue). map g (count_from 0 r) ++ o ∷ []) v
          ∙ sym (regions_next g r);
      end = λ some. c.end_in-end.ensures ∙ ap end_of v ∙ ap (λ (k : ℕ). end_of (g k)) (back r);
    }
