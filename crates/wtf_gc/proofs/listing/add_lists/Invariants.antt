use Rattle.std.proofs.Common.{◌≡◌, [], Some, map, take}
use Rattle.std.specs.List.{Contains}
use Rattle.wtf_base.specs.declared.slice.Slice.{Slice}
use Rattle.wtf_region.specs.Devs.{GoesOn, between}
use Rattle.wtf_region.specs.Showing.{OnlyRead}
use Rattle.wtf_gc.specs.Reading.{ListsRead}
use Rattle.wtf_gc.proofs.listing.add_lists.Given as goal

pub record Listing (read reads goes again : Type 0) : Type 0 where
  pub so_far : read
  pub only_read : reads
  pub goes_on : goes
  pub there : again

abbrev pub invariant-loop-base : goal.invariant-loop-base
invariant-loop-base g l = Listing
    (ListsRead g.S.SliceStore.kind l.fn.dev l.dev (map (λ b. b.slice) (take l.base-index l.bases)) l.fn.found l.found)
    (OnlyRead g.S.SliceStore.kind (between l.fn.dev l.dev))
    (GoesOn g.S.SliceStore.kind l.fn.dev l.dev [])
    ((s : Slice) → l.last ≡ Some s → Contains (map (λ b. b.slice) (take l.base-index l.bases)) s)
