use Rattle.std.proofs.Common.{◌≤◌, ◌+◌, ◌-◌, ◌^◌, [], arith, length, get_or, min, ap}
use Rattle.wtf_dev.proofs.Told.{follows_nothing, zeros_told, later_call}
use Rattle.wtf_dev.proofs.mem_store.MemStoreSliceStore.punch.Goals as goal

within : (c : goal.After-zero) → c.args.at + c.args.len ≤ min (length (get_or c.self.inside.files c.args.file [])) (2 ^ 61 - 1)
within c = omega (arith, c.requires.inside, ap (λ m. length (get_or m.files c.args.file [])) c.self.view_is)

pub returns-clause-follows : goal.returns-clause-follows
returns-clause-follows c = follows_nothing _ _ _ _ _ _ _ _ _ c.self.view_is c.zero.ensures.zeroed c.zero.ensures.within (later_call _ c.next.ensures)

pub returns-clause-zeros : goal.returns-clause-zeros
returns-clause-zeros c = λ told i low high. zeros_told _ _ c.next.new.self c.self.inside.syncs c.args.file c.args.at (c.args.at + c.args.len) i c.requires.file c.zero.ensures.zeroed c.zero.ensures.within (within c) low high

pub overflow_add-from : goal.overflow_add-from
overflow_add-from c = omega (arith, c.requires.inside, ap (λ m. length (get_or m.files c.args.file [])) c.self.view_is, c.bytes-held.ensures.fits, ap length c.bytes-held.ensures.value)
