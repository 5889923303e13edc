use Rattle.std.proofs.Common.{sym, ◌∙◌}
use Rattle.wtf_files_rows.proofs.spilled.row_came.Goals as goal

-- other servers are down, and nothing else is lent
pub list_came-requires-clause-sound : goal.list_came-requires-clause-sound
list_came-requires-clause-sound c =
    let was = c.in_ok-slice.ensures in
    record {
      replicas = c.servers_left-left.ensures ∙ sym was.settings;
      ring = was.sound.ring;
      shelf = was.sound.shelf;
      cache = was.sound.cache;
      lists = was.sound.lists;
    }
