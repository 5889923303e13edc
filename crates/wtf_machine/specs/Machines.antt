-- The machine as it is kept, and what it is after the fate of an attempt to commit.
use Rattle.std.specs.Prelude.{ℕ, ◌+◌, Bool, true, false}
use Rattle.std.specs.FinMap.{remove}
use Rattle.wtf_machine.specs.declared.machine.Machine.{Machine as Kept}
use Rattle.wtf_machine.specs.declared.begun.Fate.{Fate}
use Rattle.wtf_machine.specs.declared.begun.Fate.TheVariants as fate
use Rattle.wtf_model.specs.Transaction.{Transaction}
use Rattle.wtf_model.specs.Steps.{Machine, ended, with_transaction, rebased, touching}
use Rattle.wtf_machine.specs.Kept.{clients_in, jobs_in}

abbrev pub machine_in : Kept → Machine
machine_in k = record {
  settings = k.settings;
  number = k.number;
  now = k.tree;
  next_stamp = k.next_stamp;
  transactions = clients_in k.clients;
  jobs = jobs_in k.jobs;
  scan_list = k.scan_list.items;
  parts_left = k.parts_left;
  scans = k.scans;
  down = k.down;
  may_be_saved = k.may_be_saved.items;
}

abbrev pub is_lawful : Fate → Bool
is_lawful fate.Unlawful = false
is_lawful f = true

abbrev pub settled : Machine → ℕ → Transaction → Fate → Machine
settled m c t fate.Unlawful = m
settled m c t fate.Stays = m
settled m c t fate.Ends = ended m c
settled m c t fate.Rebases = with_transaction m c (rebased m t)
settled m c t (fate.Installs tree items) = touching (record m { number = m.number + 1; now = tree; transactions = remove m.transactions c }) items.items
