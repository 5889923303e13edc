use Rattle.std.proofs.Common.{◌≡◌, []}
use Rattle.wtf_kv.specs.Stores.{Store}
use Rattle.wtf_values.specs.declared.key.Key.{Key}
use Rattle.wtf_values.specs.declared.value.Value.{Value}
use Rattle.wtf_gc_rows.proofs.Readying.{ready_new}
use Rattle.wtf_gc_rows.proofs.scans.new_come.Goals as goal

pub steps_come-requires : goal.steps_come-requires
steps_come-requires c =
    let empty : Store Key Value = record { number = 0; pins = []; cells = [] } in
    let first : c.in_ok-kv.kv ≡ empty = let i = c.in_ok-kv.ensures in let w = c.in_ok-kv.was in cc in
    ready_new c.args.dev.now c.in_ok-kv.kv c.in_ok-gc.gc first c.in_ok-gc.ensures c.requires
