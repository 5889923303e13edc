use Rattle.std.proofs.Common.{◌≡◌, [], Some, arith, ap, subst, refl, inr, rules}
use Rattle.std.proofs.lemmas.List.Elements.{Contains-push}
use Rattle.wtf_dev.specs.Calls.{CallsGoOn}
use Rattle.wtf_dev.specs.Memory.{KeeperState}
use Rattle.wtf_dev.proofs.Told.{later_call}
use Rattle.wtf_dev.proofs.mem_keeper.MemKeeperKeeper.replace.Goals as goal

pub returns-in-Ok-clause-follows : goal.returns-in-Ok-clause-follows
returns-in-Ok-clause-follows c =
    let items : c.in-Ok.next.items ≡ c.args.bytes.now = search rules in
    let later = later_call _ c.next.ensures in
    record {
      kept = record {
        faults = omega (arith, later.faults, ap (λ k. k.calls.faults) c.self.view_is);
        tells = refl;
        bytes = λ b told. inr (c.args.bytes.now, Contains-push [] c.args.bytes.now, ap Some items);
      };
      calls = subst (λ (k : KeeperState). CallsGoOn k.calls c.next.new.self) c.self.view_is later.calls;
    }
