use Rattle.std.proofs.Common.{length, ap}
use Rattle.wtf_dev.proofs.Told.{follows_more, appended_more, later_call}
use Rattle.wtf_dev.proofs.mem_store.MemStoreSliceStore.append.Goals as goal

pub returns-clause-follows : goal.returns-clause-follows
returns-clause-follows c = follows_more _ _ _ _ _ _ _ c.args.bytes.now c.self.view_is (c.grow.ensures.grown c.if-not-grow.false) c.grow.ensures.within (later_call _ c.next.ensures)

pub returns-clause-done : goal.returns-clause-done
returns-clause-done c = appended_more c.args.self.now c.self.inside.files c.grow.new.self c.self.inside.turns c.next.new.self c.self.inside.syncs c.args.file c.args.bytes.now _ c.requires c.self.view_is (c.grow.ensures.grown c.if-not-grow.false) c.grow.ensures.within (c.grow.ensures.room c.if-not-grow.false) (ap length c.bytes-at.ensures.value)
