use Rattle.std.proofs.Common.{◌-◌, refl, arith}
use Rattle.wtf_meta.specs.Calls.{Caller}
use Rattle.wtf_files_rows.proofs.NameBytes.{name_bytes}
use Rattle.wtf_files_rows.proofs.steps.create_made.Goals as goal

pub returns : goal.returns
returns c =
    let new = c.args.new in
    let x : Caller = record { size = 0; tx = new.tx.0; calls = new.index - 1 } in
    λ P Q hole map. name_bytes x c.args.kv.now c.args.at.now c.create.new.at _ _
    (c.in_ok-answer.ensures.step x refl (omega (arith, c.if-new-lt1))) tt P Q hole map
