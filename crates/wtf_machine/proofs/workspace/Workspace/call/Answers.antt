use Rattle.wtf_machine.proofs.CallWays.{at_cap, of_call}
use Rattle.wtf_machine.proofs.workspace.Workspace.call.Goals as goal

pub returns-in-Mkdir : goal.returns-in-Mkdir
returns-in-Mkdir c = at_cap c.mkdir.result c.args.cap _ _ c.args.self.now c.mkdir.new.self c.in-Mkdir.is c.mkdir.ensures

pub returns-in-Rmdir : goal.returns-in-Rmdir
returns-in-Rmdir c = at_cap c.rmdir.result c.args.cap _ _ c.args.self.now c.rmdir.new.self c.in-Rmdir.is c.rmdir.ensures

pub returns-in-Create : goal.returns-in-Create
returns-in-Create c = at_cap c.create.result c.args.cap _ _ c.args.self.now c.create.new.self c.in-Create.is c.create.ensures

pub returns-in-Unlink : goal.returns-in-Unlink
returns-in-Unlink c = at_cap c.unlink.result c.args.cap _ _ c.args.self.now c.unlink.new.self c.in-Unlink.is c.unlink.ensures

pub returns-in-Rename : goal.returns-in-Rename
returns-in-Rename c = at_cap c.rename.result c.args.cap _ _ c.args.self.now c.rename.new.self c.in-Rename.is c.rename.ensures

pub returns-in-Link : goal.returns-in-Link
returns-in-Link c = at_cap c.link.result c.args.cap _ _ c.args.self.now c.link.new.self c.in-Link.is c.link.ensures

pub returns-in-List : goal.returns-in-List
returns-in-List c = at_cap c.list.result c.args.cap _ _ c.args.self.now c.args.self.now c.in-List.is c.list.ensures

pub returns-in-Stat : goal.returns-in-Stat
returns-in-Stat c = at_cap c.stat.result c.args.cap _ _ c.args.self.now c.args.self.now c.in-Stat.is c.stat.ensures

pub returns-in-Open : goal.returns-in-Open
returns-in-Open c = at_cap c.open.result c.args.cap _ _ c.args.self.now c.open.new.self c.in-Open.is c.open.ensures

pub returns-in-Close : goal.returns-in-Close
returns-in-Close c = of_call c.close.result c.args.cap _ _ c.args.self.now c.close.new.self c.in-Close.is c.close.ensures

pub returns-in-Tell : goal.returns-in-Tell
returns-in-Tell c = of_call c.tell.result c.args.cap _ _ c.args.self.now c.args.self.now c.in-Tell.is c.tell.ensures

pub returns-in-Read : goal.returns-in-Read
returns-in-Read c = at_cap c.read.result c.args.cap _ _ c.args.self.now c.read.new.self c.in-Read.is c.read.ensures

pub returns-in-Punch : goal.returns-in-Punch
returns-in-Punch c = at_cap c.punch.result c.args.cap _ _ c.args.self.now c.punch.new.self c.in-Punch.is c.punch.ensures

pub returns-in-Yank : goal.returns-in-Yank
returns-in-Yank c = at_cap c.yank.result c.args.cap _ _ c.args.self.now c.yank.new.self c.in-Yank.is c.yank.ensures

pub returns-in-Peek : goal.returns-in-Peek
returns-in-Peek c = at_cap c.peek.result c.args.cap _ _ c.args.self.now c.args.self.now c.in-Peek.is c.peek.ensures

pub returns-in-Cut : goal.returns-in-Cut
returns-in-Cut c = at_cap c.cut.result c.args.cap _ _ c.args.self.now c.cut.new.self c.in-Cut.is c.cut.ensures

pub returns-in-Copy : goal.returns-in-Copy
returns-in-Copy c = at_cap c.copy.result c.args.cap _ _ c.args.self.now c.copy.new.self c.in-Copy.is c.copy.ensures
