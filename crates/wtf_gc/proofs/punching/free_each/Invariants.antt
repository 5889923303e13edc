use Rattle.std.proofs.Common.{◌≡◌, ◌-◌, length, take}
use Rattle.wtf_replica.specs.Outs.{IsLeftDown, SameLengths, SameSyncs}
use Rattle.wtf_region.specs.Devs.{GoesOn, between, remembered, stores}
use Rattle.wtf_gc.specs.Frees.{AreZeroed, ranges_of}
use Rattle.wtf_gc.proofs.punching.free_each.Given as goal

pub record Freeing (goes zeroed down lists lengths syncs : Type 0) : Type 0 where
  pub goes_on : goes
  pub are_zeroed : zeroed
  pub left_down : down
  pub same_lists : lists
  pub same_lengths : lengths
  pub same_syncs : syncs

abbrev pub invariant-loop-done : goal.invariant-loop-done
invariant-loop-done g l = Freeing
    (GoesOn g.S.SliceStore.kind l.fn.dev l.dev (ranges_of (take l.done l.extents)))
    (AreZeroed g.S.SliceStore.kind l.fn.dev l.dev (ranges_of (take l.done l.extents)))
    (IsLeftDown (between l.fn.dev l.dev))
    (remembered l.dev ≡ remembered l.fn.dev)
    (SameLengths g.S.SliceStore.kind (stores l.fn.dev) (stores l.dev))
    (SameSyncs g.S.SliceStore.kind (stores l.fn.dev) (stores l.dev))

abbrev pub decreases-loop-done : goal.decreases-loop-done
decreases-loop-done g l = length l.extents - l.done
