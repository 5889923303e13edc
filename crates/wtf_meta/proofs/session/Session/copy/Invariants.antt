use Rattle.std.proofs.Common.{◌≡◌, ◌<◌, ℕ, List, Option, map, get_or, length}
use Rattle.std.specs.Option.{option_map}
use Rattle.wtf_overlay.specs.declared.part.Piece.{Piece}
use Rattle.wtf_meta.specs.declared.session.Handle.{Handle}
use Rattle.wtf_meta.specs.Sessions.{items_of}
use Rattle.wtf_meta.proofs.session.Session.copy.Given as goal

-- what stands at the labels so far was copied
abbrev pub invariant-loop-label : goal.invariant-loop-label
invariant-loop-label l = record {
  lengths : (length l.handles ≡ 16) × (length l.slices ≡ 16);
  handles : (k : ℕ) (d : Option Handle) → k < l.label → get_or l.handles k d ≡ get_or l.self-inside.held.value.handles k d;
  slices : (k : ℕ) (d : Option (List Piece)) → k < l.label
      → get_or (map (option_map items_of) l.slices) k d ≡ get_or (map (option_map items_of) l.self-inside.held.value.slices) k d;
}
