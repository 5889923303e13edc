use Rattle.wtf_machine.specs.Sessions.{session_in}
use Rattle.wtf_machine.proofs.NameWays.{bytes_nowhere, bytes_there}
use Rattle.wtf_machine.proofs.workspace.Workspace.put_bytes.Goals as goal

pub returns-in-Err : goal.returns-in-Err
returns-in-Err c = bytes_nowhere (session_in c.args.self.now) c.args.path.now c.args.bytes.items _ c.in-Err.ensures.err

pub returns : goal.returns
returns c =
    bytes_there (session_in c.args.self.now) c.args.path.now _ _ c.in-Ok.ensures.ok _ _ _ c.args.bytes.items _
    c.deref.ensures c.in_ok-paths-in-Ok.ensures.cases c.in_ok-bytes.ensures c.in_ok-refile.ensures
