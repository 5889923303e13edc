use Rattle.std.proofs.Common.{◌≡◌, ◌+◌, ◌-◌, ◌*◌, ◌^◌, ℕ, min, List, [], ◌∷◌, ◌++◌, take, sym, ap, ◌∙◌, subst, arith}
use Rattle.std.specs.Prelude.{slice_index_or}
use Rattle.std.proofs.lemmas.List.{take_more, take_all}
use Rattle.wtf_base.specs.declared.ids.InodeId.{InodeId}
use Rattle.wtf_occ.specs.Attempts.{GrowsBy}
use Rattle.wtf_occ.proofs.AttemptLaws.{Grows-by, Grows-on}
use Rattle.wtf_values.specs.declared.key.Key.{Key}
use Rattle.wtf_meta.specs.Maps.{Map, seen}
use Rattle.wtf_meta.specs.Files.{end_of, file_len}
use Rattle.wtf_meta.specs.FileEdits.{file_of}
use Rattle.wtf_index.proofs.Going.{keys_more, seen-same}
use Rattle.wtf_slicing.specs.Recorded.{files_keys, file_keys}
use Rattle.wtf_slicing.specs.Sources.{lens_of}
use Rattle.wtf_slicing.proofs.FileLists.{lens-more, keys-more}
use Rattle.wtf_slicing.proofs.whole.total_len.Goals as goal

-- the sum of a file more
summed : (sum old len all : ℕ) → old ≡ min sum (2 ^ 64 - 1) → all ≡ sum + (len + 0) → min (old + len) (2 ^ 64 - 1) ≡ min all (2 ^ 64 - 1)
summed sum old len all is whole = omega (arith, is, whole)

pub loop-inode-preserved : goal.loop-inode-preserved
loop-inode-preserved c =
    let kv = c.args.kv.now in
    let at = c.args.at.now in
    let mid = c.loop-inode.at in
    let z = c.args.settings.region in
    let b : Map = seen kv at in
    let is : List InodeId = c.args.inodes.now in
    let n = c.loop-inode.inode-index in
    let none : InodeId = record { tx = record { 0 = 0 }; index = 0 } in
    let i : InodeId = slice_index_or is n none in
    let inv = c.loop-inode.invariant in
    let whole = c.in_ok-whole.whole in
    let same : seen kv mid ≡ b = seen-same kv at mid (files_keys b (take n is)) inv.went in
    let next : take (n + 1) is ≡ take n is ++ i ∷ [] = take_more is n none c.loop-inode-test.true in
    let last : whole.last ≡ (file_of i b).last = c.in_ok-whole.ensures.last ∙ ap (λ (m : Map). (file_of i m).last) same in
    let end : whole.end ≡ end_of ((file_of i b).region (file_of i b).last) =
    c.in_ok-whole.ensures.end ∙ ap (λ (m : Map). end_of ((file_of i m).region whole.last)) same ∙ ap (λ (r : ℕ). end_of ((file_of i b).region r)) last in
    let len : whole.last * z + whole.end ≡ file_len z (file_of i b) = ap (λ (r : ℕ). r * z + whole.end) last ∙ ap (λ (k : ℕ). (file_of i b).last * z + k) end in
    let all : lens_of z b (take (n + 1) is) ≡ lens_of z b (take n is) + (whole.last * z + whole.end + 0) =
    ap (lens_of z b) next ∙ lens-more z b (take n is) (i ∷ []) ∙ ap (λ (k : ℕ). lens_of z b (take n is) + (k + 0)) (sym len) in
    let keys : files_keys b (take (n + 1) is) ≡ files_keys b (take n is) ++ file_keys b i = ap (files_keys b) next ∙ keys-more b (take n is) i in
    let here : GrowsBy mid c.whole_file.new.at (file_keys b i) [] = subst (λ (m : Map). GrowsBy mid c.whole_file.new.at (file_keys m i) []) same
    c.in_ok-whole.ensures.recorded in
    record {
      sum = c.saturating_add-sum.ensures ∙ summed (lens_of z b (take n is)) c.loop-inode.sum (whole.last * z + whole.end)
          (lens_of z b (take (n + 1) is)) inv.sum all;
      went = subst (λ (qs : List Key). GrowsBy at c.whole_file.new.at qs []) (sym keys) (keys_more at mid c.whole_file.new.at (files_keys b (take n is))
          (file_keys b i) inv.went here);
    }

pub returns-in_err-whole-clause-grows : goal.returns-in_err-whole-clause-grows
returns-in_err-whole-clause-grows c =
    let at = c.args.at.now in
    let mid = c.loop-inode.at in
    let keys = files_keys (seen c.args.kv.now at) (take c.loop-inode.inode-index c.args.inodes.now) in
    Grows-on at mid c.whole_file.new.at (Grows-by at mid keys [] c.loop-inode.invariant.went) c.in_err-whole.ensures.grows

pub returns-clause-value : goal.returns-clause-value
returns-clause-value c =
    let is : List InodeId = c.args.inodes.now in
    subst (λ (l : List InodeId). c.loop-inode.sum ≡ min (lens_of c.args.settings.region (seen c.args.kv.now c.args.at.now) l) (2 ^ 64 - 1))
    (take_all c.loop-inode.inode-index is c.loop-inode-test.false) c.loop-inode.invariant.sum

pub returns-clause-went : goal.returns-clause-went
returns-clause-went c =
    let at = c.args.at.now in
    let is : List InodeId = c.args.inodes.now in
    subst (λ (l : List InodeId). GrowsBy at c.loop-inode.at (files_keys (seen c.args.kv.now at) l) [])
    (take_all c.loop-inode.inode-index is c.loop-inode-test.false) c.loop-inode.invariant.went
