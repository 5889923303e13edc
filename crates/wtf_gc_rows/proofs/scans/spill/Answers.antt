use Rattle.std.proofs.Common.{refl, sym, subst}
use Rattle.std.specs.List.{All}
use Rattle.std.proofs.lemmas.List.Elements.{All-nil}
use Rattle.wtf_dev.specs.Memory.{mem_store}
use Rattle.wtf_meta.specs.Bytes.{EntryBytes, BaseBytes, any_slice}
use Rattle.wtf_region.specs.Devs.{inside_of}
use Rattle.wtf_gc_rows.proofs.scans.spill.Goals as goal

pub put-requires-clause-lies : goal.put-requires-clause-lies
put-requires-clause-lies c =
    let P = inside_of mem_store c.stored-2.new.dev in
    record {
      base = subst (BaseBytes P any_slice) (sym c.in_ok-value.ensures.base) (c.in_ok-slice.ensures.lies, refl);
      entries = subst (All (EntryBytes P)) (sym c.in_ok-value.ensures.list) (All-nil (EntryBytes P));
    }
