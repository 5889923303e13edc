use Rattle.std.proofs.Common.{sym, subst}
use Rattle.std.specs.List.{All}
use Rattle.wtf_dev.specs.Memory.{mem_store}
use Rattle.wtf_meta.specs.Bytes.{EntryBytes, BaseBytes, any_slice}
use Rattle.wtf_region.specs.Devs.{inside_of}
use Rattle.wtf_gc_rows.proofs.scans.write.Goals as goal

pub put-requires-clause-lies : goal.put-requires-clause-lies
put-requires-clause-lies c =
    let P = inside_of mem_store c.stored.new.dev in
    record {
      base = subst (BaseBytes P any_slice) (sym c.of_list-value.ensures.base) tt;
      entries = subst (All (EntryBytes P)) (sym c.of_list-value.ensures.list) (c.in_ok-list_of.ensures.lies P c.in_ok-slice.ensures.lies);
    }
