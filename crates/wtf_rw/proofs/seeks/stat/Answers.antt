use Rattle.std.proofs.Common.{◌≡◌, ℕ, [], ◌∷◌, ◌++◌, Some, None, refl, sym, ap, ◌∙◌, subst}
use Rattle.wtf_model.specs.declared.answer.Answer.TheVariants as answer
use Rattle.wtf_model.specs.declared.answer.Word.TheVariants.{NoEnt}
use Rattle.wtf_model.specs.declared.op.Op.TheVariants as op
use Rattle.wtf_occ.specs.Attempts.{GrowsBy}
use Rattle.wtf_occ.proofs.AttemptLaws.{Grows-on}
use Rattle.wtf_values.specs.declared.key.Key.TheVariants.{Path, Links}
use Rattle.wtf_values.specs.declared.value.Node.TheVariants.{Folder, File}
use Rattle.wtf_meta.specs.Maps.{Map, seen}
use Rattle.wtf_meta.specs.NameEdits.{link_count}
use Rattle.wtf_meta.specs.Files.{file_len}
use Rattle.wtf_meta.specs.FileEdits.{file_of}
use Rattle.wtf_steps.specs.Steps.{in_hand}
use Rattle.wtf_index.specs.Checks.{stands_at}
use Rattle.wtf_steps.specs.Recorded.{len_keys}
use Rattle.wtf_index.proofs.Going.{keys_more, seen-same}
use Rattle.wtf_rw.specs.Recorded.{stat_keys}
use Rattle.wtf_rw.proofs.MadeWays.{looks_short}
use Rattle.wtf_rw.proofs.Ways.{stats_nothing, stats_folder, stats_file}
use Rattle.wtf_steps.proofs.Ways.{step_of}
use Rattle.wtf_rw.proofs.seeks.stat.Goals as goal

pub returns-in-Some-Folder-clause-step : goal.returns-in-Some-Folder-clause-step
returns-in-Some-Folder-clause-step c s x bytes size writes whole =
    let b = seen c.args.kv.now c.args.at.now in
    let node : stands_at b c.args.p.now ≡ Some Folder = sym c.in_ok-inode.ensures.value ∙ (c.in-Some-Folder.is ∙ ap Some c.in-Some-Folder.field-0-is) in
    step_of x b (in_hand c.args.at.now s) (in_hand c.look_up.new.at s) (Path c.args.p.now ∷ []) (op.Stat c.args.p.now) answer.Dir c.in_ok-inode.ensures.went
    (stats_folder x b s c.args.p.now node)

pub returns-in-None-clause-step : goal.returns-in-None-clause-step
returns-in-None-clause-step c s x bytes size writes whole =
    let b = seen c.args.kv.now c.args.at.now in
    let node : stands_at b c.args.p.now ≡ None = sym c.in_ok-inode.ensures.value ∙ c.in-None.is in
    step_of x b (in_hand c.args.at.now s) (in_hand c.look_up.new.at s) (Path c.args.p.now ∷ []) (op.Stat c.args.p.now) (answer.Refused NoEnt)
    c.in_ok-inode.ensures.went
    (stats_nothing x b s c.args.p.now node)

pub returns-clause-step : goal.returns-clause-step
returns-clause-step c s x bytes size writes whole =
    let b = seen c.args.kv.now c.args.at.now in
    let p = c.args.p.now in
    let mid = c.look_up.new.at in
    let i = c.in-Some-File.inode in
    let node : stands_at b p ≡ Some (File i) = sym c.in_ok-inode.ensures.value ∙ (c.in-Some-File.is ∙ ap Some c.in-Some-File.field-0-is) in
    let same : seen c.args.kv.now mid ≡ b = seen-same c.args.kv.now c.args.at.now mid (Path p ∷ []) c.in_ok-inode.ensures.went in
    let went : GrowsBy mid c.file_len.new.at (len_keys b i) [] = subst (λ (w : Map). GrowsBy mid c.file_len.new.at (len_keys w i) []) same
    c.in_ok-len.ensures.recorded in
    let len : c.in_ok-len.len ≡ file_len x.size (file_of i b) =
    c.in_ok-len.ensures.value ∙ ap (λ (w : Map). file_len c.args.settings.region (file_of i w)) same ∙ ap (λ (n : ℕ). file_len n (file_of i b)) (sym size) in
    let last = c.file_len.new.at in
    let same_too : seen c.args.kv.now last ≡ b = seen-same c.args.kv.now mid last (len_keys b i) went ∙ same in
    let links : c.in_ok-links.links ≡ link_count (b (Links i)) = c.in_ok-links.ensures.value ∙ ap (λ (w : Map). link_count (w (Links i))) same_too in
    let looked = keys_more c.args.at.now mid last (Path p ∷ []) (len_keys b i) c.in_ok-inode.ensures.went went in
    step_of x b (in_hand c.args.at.now s) (in_hand c.links_at.new.at s) (Path p ∷ len_keys b i ++ Links i ∷ []) (op.Stat p)
    (answer.File c.in_ok-len.len c.in_ok-links.links)
    (keys_more c.args.at.now last c.links_at.new.at (Path p ∷ len_keys b i) (Links i ∷ []) looked c.in_ok-links.ensures.went)
    (stats_file x b s p i c.in_ok-len.len c.in_ok-links.links node len links)

pub returns-in_err-len-clause-looks : goal.returns-in_err-len-clause-looks
returns-in_err-len-clause-looks c s =
    let at = c.args.at.now in
    let mid = c.look_up.new.at in
    let new = c.file_len.new.at in
    looks_short (stat_keys (seen c.args.kv.now at) c.args.p.now) (in_hand at s) (in_hand new s) c.from_residual-in_err-len.result
    c.from_residual-in_err-len.ensures.0 refl (Grows-on at mid new c.in_ok-inode.ensures.grows c.in_err-len.ensures.grows)

pub returns-in_err-links-clause-looks : goal.returns-in_err-links-clause-looks
returns-in_err-links-clause-looks c s =
    let at = c.args.at.now in
    let mid = c.look_up.new.at in
    let last = c.file_len.new.at in
    let new = c.links_at.new.at in
    looks_short (stat_keys (seen c.args.kv.now at) c.args.p.now) (in_hand at s) (in_hand new s) c.from_residual-in_err-links.result
    c.from_residual-in_err-links.ensures.0 refl
    (Grows-on at mid new c.in_ok-inode.ensures.grows (Grows-on mid last new c.in_ok-len.ensures.grows c.in_err-links.ensures.grows))
