use Rattle.std.proofs.Common.{◌≡◌, ℕ, List, [], ◌∷◌, ◌++◌, None, ap, ◌∙◌}
use Rattle.std.specs.FinMap.{FinMap, empty}
use Rattle.std.specs.FinSet as set
use Rattle.std.specs.Ordering.{nat_cmp}
use Rattle.wtf_base.specs.declared.settings.Settings.{Settings}
use Rattle.wtf_model.specs.Tree.{Tree, root_alone}
use Rattle.wtf_model.specs.Transaction.{Transaction, Job}
use Rattle.wtf_model.specs.Machines.{start}
use Rattle.wtf_machine.specs.Kept.{clients_in, jobs_in}
use Rattle.wtf_machine.proofs.machine.Machine.new.Goals as goal

-- part by part, it is the first machine
starts : (s : Settings) (n : ℕ) (t now : Tree) (ts : FinMap nat_cmp Transaction) (js : FinMap nat_cmp Job) (scans : List ℕ) (down : set.FinSet nat_cmp)
    (saved : List Tree)
    → now ≡ t → ts ≡ empty → js ≡ empty → scans ≡ [] → down ≡ set.empty → saved ≡ t ∷ []
    → record {
      settings = s;
      number = n;
      now = now;
      next_stamp = 0;
      transactions = ts;
      jobs = js;
      scan_list = scans;
      parts_left = None;
      scans = 0;
      down = down;
      may_be_saved = saved;
    } ≡ start s n t
starts s n t now ts js scans down saved a b d e f g = rw (a, b, d, e, f, g)

pub returns : goal.returns
returns c =
    let saved : c.push.new.self.items ≡ root_alone ∷ [] =
    c.in_ok-push.ensures.items ∙ ap (λ (l : List Tree). l ++ c.in_ok-saved.saved ∷ []) c.new-may_be_saved.ensures.items
    ∙ ap (λ (x : Tree). x ∷ []) (c.in_ok-saved.ensures ∙ c.in_ok-tree.ensures) in
    starts c.args.settings c.args.number root_alone c.in_ok-tree.tree (clients_in c.new.result)
    (jobs_in c.new-2.result) c.new-3.result.items c.new-4.result c.push.new.self.items
    c.in_ok-tree.ensures c.new.ensures.none c.new-2.ensures c.new-3.ensures.items c.new-4.ensures saved
