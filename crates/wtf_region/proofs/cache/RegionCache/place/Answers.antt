use Rattle.std.proofs.Common.{option_map, refl, sym, ap, ◌∙◌}
use Rattle.std.specs.Map.Iter.{deref_pair}
use Rattle.wtf_region.proofs.Places.{place_of_first}
use Rattle.wtf_region.proofs.cache.RegionCache.place.Goals as goal

pub returns : goal.returns
returns c =
    let entries = c.turn_to.new.self.places in (
      (refl, λ _. tt, (c.turn_to.ensures.from, c.turn_to.ensures.lists)),
      record {
        from = tt;
        value = place_of_first c.args.ring.now c.args.key entries c.turn_to.ensures.from c.turn_to.ensures.first (deref_pair c.unwrap.result)
            (sym c.first.ensures ∙ ap (option_map deref_pair) c.unwrap.ensures);
      },
    )
