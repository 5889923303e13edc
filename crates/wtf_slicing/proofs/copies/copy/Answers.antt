use Rattle.std.proofs.Common.{◌≡◌, ◌+◌, ℕ, List, [], ◌++◌, Option, Ok, Err, length, refl, sym, ap, ◌∙◌, subst}
use Rattle.wtf_occ.specs.Attempts.{GrowsBy}
use Rattle.wtf_occ.proofs.AttemptLaws.{Grows-by, Grows-on}
use Rattle.wtf_model.specs.declared.answer.Answer.TheVariants as answer
use Rattle.wtf_model.specs.declared.op.Op.TheVariants as op
use Rattle.wtf_values.specs.declared.region.RegionValue.{RegionValue}
use Rattle.wtf_meta.specs.Maps.{Map, Edits, seen}
use Rattle.wtf_meta.specs.Files.{FileView}
use Rattle.wtf_meta.specs.FileEdits.{file_of}
use Rattle.wtf_meta.specs.NameEdits.{create_edits}
use Rattle.wtf_index.specs.Checks.{source_of, target_of}
use Rattle.wtf_index.specs.Recorded.{source_keys, target_keys}
use Rattle.wtf_index.proofs.Going.{keys_more, seen-same}
use Rattle.wtf_steps.specs.Steps.{in_hand}
use Rattle.wtf_steps.proofs.Ways.{step_of}
use Rattle.wtf_slicing.specs.Copies.{regions_of, fill_edits}
use Rattle.wtf_slicing.specs.Recorded.{file_keys}
use Rattle.wtf_slicing.proofs.CopyWays.{copy_edits, copies_nothing, copies_nowhere, copies, went_all, copy_keys_are, step_made}
use Rattle.wtf_slicing.proofs.Loops.{length-counted}
use Rattle.wtf_steps.proofs.Making.{makes_refused, makes_these, keeps_changes}
use Rattle.wtf_slicing.specs.Changed.{IsCopied}
use Rattle.wtf_slicing.proofs.MadeWays.{copy_made}
use Rattle.wtf_slicing.proofs.copies.copy.Goals as goal

pub returns-in-Err-clause-step : goal.returns-in-Err-clause-step
returns-in-Err-clause-step c x s own =
    let p : List ℕ = c.args.p.now in
    let q : List ℕ = c.args.q.now in
    let b : Map = seen c.args.kv.now c.args.at.now in
    let e : source_of b p ≡ Err c.in-Err.word = sym c.in_ok-inode.ensures.value ∙ c.in-Err.is in
    step_of x b (in_hand c.args.at.now s) (in_hand c.source.new.at s) (source_keys p) (op.Copy p q) (answer.Refused c.in-Err.word) c.in_ok-inode.ensures.went
    (copies_nothing x b s p q c.in-Err.word e)

pub returns-in-Err-2-clause-step : goal.returns-in-Err-2-clause-step
returns-in-Err-2-clause-step c x s own =
    let p : List ℕ = c.args.p.now in
    let q : List ℕ = c.args.q.now in
    let kv = c.args.kv.now in
    let at = c.args.at.now in
    let b : Map = seen kv at in
    let same : seen kv c.source.new.at ≡ b = seen-same kv at c.source.new.at (source_keys p) c.in_ok-inode.ensures.went in
    let e : source_of b p ≡ Ok c.in-Ok.inode = sym c.in_ok-inode.ensures.value ∙ c.in-Ok.is in
    let f : target_of b q ≡ Err c.in-Err-2.word = ap (λ (m : Map). target_of m q) (sym same) ∙ (sym c.in_ok-dir.ensures.value ∙ c.in-Err-2.is) in
    step_of x b (in_hand at s) (in_hand c.target.new.at s) (source_keys p ++ target_keys b q) (op.Copy p q) (answer.Refused c.in-Err-2.word)
    (keys_more at c.source.new.at c.target.new.at (source_keys p) (target_keys b q) c.in_ok-inode.ensures.went
    (subst (λ (m : Map). GrowsBy c.source.new.at c.target.new.at (target_keys m q) []) same c.in_ok-dir.ensures.went))
    (copies_nowhere x b s p q c.in-Ok.inode c.in-Err-2.word e f)

pub fill-requires : goal.fill-requires
fill-requires c =
    let v : FileView = file_of c.in-Ok.inode (seen c.args.kv.now c.target.new.at) in
    ap length c.in_ok-whole.ensures.regions ∙ length-counted v.region 0 (v.last + 1) ∙ ap (λ (n : ℕ). n + 1) (sym c.in_ok-whole.ensures.last)

pub returns-clause-keys : goal.returns-clause-keys
returns-clause-keys c =
    let p : List ℕ = c.args.p.now in
    let q : List ℕ = c.args.q.now in
    let kv = c.args.kv.now in
    let at = c.args.at.now in
    let i = c.in-Ok.inode in
    let dir = c.in-Ok-2.dir in
    let whole = c.in_ok-whole.whole in
    let b : Map = seen kv at in
    let same : seen kv c.source.new.at ≡ b = seen-same kv at c.source.new.at (source_keys p) c.in_ok-inode.ensures.went in
    let second : GrowsBy c.source.new.at c.target.new.at (target_keys b q) [] = subst (λ (m : Map). GrowsBy c.source.new.at c.target.new.at (target_keys m q)
    []) same c.in_ok-dir.ensures.went in
    let again : seen kv c.target.new.at ≡ b = seen-same kv c.source.new.at c.target.new.at (target_keys b q) second ∙ same in
    let third : GrowsBy c.target.new.at c.whole_file.new.at (file_keys b i) [] = subst (λ (m : Map). GrowsBy c.target.new.at c.whole_file.new.at (file_keys m i)
    []) again c.in_ok-whole.ensures.recorded in
    let e : source_of b p ≡ Ok i = sym c.in_ok-inode.ensures.value ∙ c.in-Ok.is in
    let f : target_of b q ≡ Ok dir = ap (λ (m : Map). target_of m q) (sym same) ∙ (sym c.in_ok-dir.ensures.value ∙ c.in-Ok-2.is) in
    let all = went_all at c.source.new.at c.target.new.at c.whole_file.new.at c.make_file.new.at c.fill.new.at (source_keys p) (target_keys b q) (file_keys b i)
    (create_edits dir q c.args.new) (fill_edits c.args.new whole.last whole.regions.items) c.in_ok-inode.ensures.went second third
    c.in_ok-make_file.ensures.went c.in_ok-fill.ensures.went in
    all.reads ∙ ap (λ l. at.reads ++ l) (sym (copy_keys_are b p q dir i e f))

pub returns-clause-grows : goal.returns-clause-grows
returns-clause-grows c =
    let p : List ℕ = c.args.p.now in
    let q : List ℕ = c.args.q.now in
    let kv = c.args.kv.now in
    let at = c.args.at.now in
    let i = c.in-Ok.inode in
    let dir = c.in-Ok-2.dir in
    let whole = c.in_ok-whole.whole in
    let b : Map = seen kv at in
    let same : seen kv c.source.new.at ≡ b = seen-same kv at c.source.new.at (source_keys p) c.in_ok-inode.ensures.went in
    let second : GrowsBy c.source.new.at c.target.new.at (target_keys b q) [] = subst (λ (m : Map). GrowsBy c.source.new.at c.target.new.at (target_keys m q)
    []) same c.in_ok-dir.ensures.went in
    let again : seen kv c.target.new.at ≡ b = seen-same kv c.source.new.at c.target.new.at (target_keys b q) second ∙ same in
    let third : GrowsBy c.target.new.at c.whole_file.new.at (file_keys b i) [] = subst (λ (m : Map). GrowsBy c.target.new.at c.whole_file.new.at (file_keys m i)
    []) again c.in_ok-whole.ensures.recorded in
    Grows-by at c.fill.new.at (source_keys p ++ (target_keys b q ++ file_keys b i)) (create_edits dir q c.args.new ++ fill_edits c.args.new whole.last
    whole.regions.items)
    (went_all at c.source.new.at c.target.new.at c.whole_file.new.at c.make_file.new.at c.fill.new.at (source_keys p) (target_keys b q) (file_keys b i)
    (create_edits dir q c.args.new) (fill_edits c.args.new whole.last whole.regions.items) c.in_ok-inode.ensures.went second third
    c.in_ok-make_file.ensures.went c.in_ok-fill.ensures.went)

pub returns-clause-step : goal.returns-clause-step
returns-clause-step c x s own =
    let p : List ℕ = c.args.p.now in
    let q : List ℕ = c.args.q.now in
    let kv = c.args.kv.now in
    let at = c.args.at.now in
    let i = c.in-Ok.inode in
    let new = c.args.new in
    let dir = c.in-Ok-2.dir in
    let whole = c.in_ok-whole.whole in
    let b : Map = seen kv at in
    let v : FileView = file_of i b in
    let same : seen kv c.source.new.at ≡ b = seen-same kv at c.source.new.at (source_keys p) c.in_ok-inode.ensures.went in
    let second : GrowsBy c.source.new.at c.target.new.at (target_keys b q) [] = subst (λ (m : Map). GrowsBy c.source.new.at c.target.new.at (target_keys m q)
    []) same c.in_ok-dir.ensures.went in
    let again : seen kv c.target.new.at ≡ b = seen-same kv c.source.new.at c.target.new.at (target_keys b q) second ∙ same in
    let third : GrowsBy c.target.new.at c.whole_file.new.at (file_keys b i) [] = subst (λ (m : Map). GrowsBy c.target.new.at c.whole_file.new.at (file_keys m i)
    []) again c.in_ok-whole.ensures.recorded in
    let e : source_of b p ≡ Ok i = sym c.in_ok-inode.ensures.value ∙ c.in-Ok.is in
    let f : target_of b q ≡ Ok dir = ap (λ (m : Map). target_of m q) (sym same) ∙ (sym c.in_ok-dir.ensures.value ∙ c.in-Ok-2.is) in
    let last : whole.last ≡ v.last = c.in_ok-whole.ensures.last ∙ ap (λ (m : Map). (file_of i m).last) again in
    let regions : whole.regions.items ≡ regions_of v = c.in_ok-whole.ensures.regions ∙ ap (λ (m : Map). regions_of (file_of i m)) again in
    let filled : GrowsBy c.make_file.new.at c.fill.new.at [] (fill_edits new v.last (regions_of v)) =
    subst (λ (n : ℕ). GrowsBy c.make_file.new.at c.fill.new.at [] (fill_edits new n (regions_of v))) last
    (subst (λ (vs : List (Option RegionValue)). GrowsBy c.make_file.new.at c.fill.new.at [] (fill_edits new whole.last vs)) regions
    c.in_ok-fill.ensures.went) in
    step_made x b (in_hand at s) (in_hand c.fill.new.at s) (source_keys p ++ (target_keys b q ++ file_keys b i)) (copy_edits dir q new v) (op.Copy p q)
    answer.Okay
    (went_all at c.source.new.at c.target.new.at c.whole_file.new.at c.make_file.new.at c.fill.new.at (source_keys p) (target_keys b q) (file_keys b i)
    (create_edits dir q new) (fill_edits new v.last (regions_of v)) c.in_ok-inode.ensures.went second third c.in_ok-make_file.ensures.went filled)
    (copies x b s p q dir i new own c.in_ok-dir.ensures.path e f)

pub returns-in-Err-clause-made : goal.returns-in-Err-clause-made
returns-in-Err-clause-made c =
    let at = c.args.at.now in
    let F : Edits → Type 0 = IsCopied (seen c.args.kv.now at) c.args.p.now c.args.q.now c.args.new in
    makes_refused (answer.Refused c.in-Err.word) c.in-Err.word F at c.source.new.at refl (keeps_changes at c.source.new.at _ c.in_ok-inode.ensures.went)

pub returns-in-Err-2-clause-made : goal.returns-in-Err-2-clause-made
returns-in-Err-2-clause-made c =
    let at = c.args.at.now in
    let F : Edits → Type 0 = IsCopied (seen c.args.kv.now at) c.args.p.now c.args.q.now c.args.new in
    makes_refused (answer.Refused c.in-Err-2.word) c.in-Err-2.word F at c.target.new.at refl
    (keeps_changes c.source.new.at c.target.new.at _ c.in_ok-dir.ensures.went ∙ keeps_changes at c.source.new.at _ c.in_ok-inode.ensures.went)

pub returns-clause-made : goal.returns-clause-made
returns-clause-made c =
    let p : List ℕ = c.args.p.now in
    let q : List ℕ = c.args.q.now in
    let kv = c.args.kv.now in
    let at = c.args.at.now in
    let i = c.in-Ok.inode in
    let new = c.args.new in
    let dir = c.in-Ok-2.dir in
    let whole = c.in_ok-whole.whole in
    let b : Map = seen kv at in
    let v : FileView = file_of i b in
    let same : seen kv c.source.new.at ≡ b = seen-same kv at c.source.new.at (source_keys p) c.in_ok-inode.ensures.went in
    let second : GrowsBy c.source.new.at c.target.new.at (target_keys b q) [] = subst (λ (m : Map). GrowsBy c.source.new.at c.target.new.at (target_keys m q)
    []) same c.in_ok-dir.ensures.went in
    let again : seen kv c.target.new.at ≡ b = seen-same kv c.source.new.at c.target.new.at (target_keys b q) second ∙ same in
    let third : GrowsBy c.target.new.at c.whole_file.new.at (file_keys b i) [] = subst (λ (m : Map). GrowsBy c.target.new.at c.whole_file.new.at (file_keys m i)
    []) again c.in_ok-whole.ensures.recorded in
    let e : source_of b p ≡ Ok i = sym c.in_ok-inode.ensures.value ∙ c.in-Ok.is in
    let f : target_of b q ≡ Ok dir = ap (λ (m : Map). target_of m q) (sym same) ∙ (sym c.in_ok-dir.ensures.value ∙ c.in-Ok-2.is) in
    let last : whole.last ≡ v.last = c.in_ok-whole.ensures.last ∙ ap (λ (m : Map). (file_of i m).last) again in
    let regions : whole.regions.items ≡ regions_of v = c.in_ok-whole.ensures.regions ∙ ap (λ (m : Map). regions_of (file_of i m)) again in
    let filled : GrowsBy c.make_file.new.at c.fill.new.at [] (fill_edits new v.last (regions_of v)) =
    subst (λ (n : ℕ). GrowsBy c.make_file.new.at c.fill.new.at [] (fill_edits new n (regions_of v))) last
    (subst (λ (vs : List (Option RegionValue)). GrowsBy c.make_file.new.at c.fill.new.at [] (fill_edits new whole.last vs)) regions
    c.in_ok-fill.ensures.went) in
    let all = went_all at c.source.new.at c.target.new.at c.whole_file.new.at c.make_file.new.at c.fill.new.at (source_keys p) (target_keys b q) (file_keys b i)
    (create_edits dir q new) (fill_edits new v.last (regions_of v)) c.in_ok-inode.ensures.went second third c.in_ok-make_file.ensures.went filled in
    makes_these (IsCopied b p q new) (create_edits dir q new ++ fill_edits new v.last (regions_of v)) at c.fill.new.at all.changes
    (sym (copy_made b p q dir i new e f))

pub returns-in_err-dir-clause-grows : goal.returns-in_err-dir-clause-grows
returns-in_err-dir-clause-grows c =
    Grows-on c.args.at.now c.source.new.at c.target.new.at c.in_ok-inode.ensures.grows c.in_err-dir.ensures.grows

pub returns-in-Err-2-clause-grows : goal.returns-in-Err-2-clause-grows
returns-in-Err-2-clause-grows c =
    Grows-on c.args.at.now c.source.new.at c.target.new.at c.in_ok-inode.ensures.grows c.in_ok-dir.ensures.grows

pub returns-in_err-whole-clause-grows : goal.returns-in_err-whole-clause-grows
returns-in_err-whole-clause-grows c =
    let found = c.source.new.at in
    let new = c.whole_file.new.at in
    Grows-on c.args.at.now found new c.in_ok-inode.ensures.grows
    (Grows-on found c.target.new.at new c.in_ok-dir.ensures.grows c.in_err-whole.ensures.grows)

pub returns-in_err-make_file-clause-grows : goal.returns-in_err-make_file-clause-grows
returns-in_err-make_file-clause-grows c =
    let found = c.source.new.at in
    let free = c.target.new.at in
    let new = c.make_file.new.at in
    Grows-on c.args.at.now found new c.in_ok-inode.ensures.grows (Grows-on found free new c.in_ok-dir.ensures.grows
    (Grows-on free c.whole_file.new.at new c.in_ok-whole.ensures.grows c.in_err-make_file.ensures.grows))

pub returns-in_err-fill-clause-grows : goal.returns-in_err-fill-clause-grows
returns-in_err-fill-clause-grows c =
    let found = c.source.new.at in
    let free = c.target.new.at in
    let read = c.whole_file.new.at in
    let new = c.fill.new.at in
    Grows-on c.args.at.now found new c.in_ok-inode.ensures.grows (Grows-on found free new c.in_ok-dir.ensures.grows
    (Grows-on free read new c.in_ok-whole.ensures.grows (Grows-on read c.make_file.new.at new c.in_ok-make_file.ensures.grows c.in_err-fill.ensures.grows)))
