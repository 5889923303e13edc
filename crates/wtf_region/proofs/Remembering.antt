-- Which lists came to be remembered.
use Rattle.std.proofs.Common.{inl}
use Rattle.wtf_base.specs.declared.slice.Slice.{Slice}
use Rattle.wtf_region.specs.Cached.{Remembered, RemembersOnly}

pub remembers_nothing : (P : Slice → Type 0) (es : Remembered) → RemembersOnly P es es
remembers_nothing P es = λ e there. inl there
