use Rattle.std.proofs.Common.{sym, subst, arith}
use Rattle.wtf_dev.specs.Memory.{mem_store}
use Rattle.wtf_region.specs.Cached.{AreFrom, CacheInside}
use Rattle.wtf_region.specs.Inside.{is_inside}
use Rattle.wtf_files_rows.proofs.bench.Bench.new.Goals as goal

pub invariant_of-result : goal.invariant_of-result
invariant_of-result c =
    let parts = c.in_ok-parts.parts in
    let made = c.in_ok-parts.ensures in (
      record {
        replicas_are = made.replicas;
        ring_is = made.ring;
        enough = omega (arith, made.settings, made.shelf);
        places_are = subst (AreFrom parts.ring) (sym made.places) (λ e has. absurd (omega (arith, has.1)));
        lists_are = subst (CacheInside (is_inside mem_store parts.shelf parts.settings)) (sym made.lists) (λ e has. absurd (omega (arith, has.1)));
      },
      c.in_ok-kv.ensures.held parts.shelf parts.settings,
    )
