use Rattle.std.proofs.Common.{refl}
use Rattle.wtf_healer.proofs.regions.Healed.add.Goals as goal

pub returns-clause-put : goal.returns-clause-put
returns-clause-put c = (
  record { key = c.args.key; value = c.of_list-value.result; bytes = c.args.made.bytes },
  record {
    key_is = refl;
    end_is = c.of_list-value.ensures.end;
    base_is = c.of_list-value.ensures.base;
    list_is = c.of_list-value.ensures.list;
    bytes_are = refl;
  },
  c.in-Ok.ensures.ok,
)
