use Rattle.wtf_meta.specs.Calls.{Caller}
use Rattle.wtf_files_rows.proofs.NameBytes.{name_bytes}
use Rattle.wtf_files_rows.proofs.steps.mkdir_made.Goals as goal

pub returns : goal.returns
returns c =
    let x : Caller = record { size = 0; tx = 0; calls = 0 } in
    λ P Q hole map. name_bytes x c.args.kv.now c.args.at.now c.mkdir.new.at _ _ (c.in_ok-answer.ensures.step x) tt P Q hole map
