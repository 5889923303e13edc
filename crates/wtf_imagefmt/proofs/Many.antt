-- So many things read one after the other, to the end.
use Rattle.std.proofs.Common.{◌≡◌, ℕ, ◌-◌, List, append-nil, Option, Some, sym, ap, ◌∙◌}
use Rattle.wtf_overlay.specs.Reading.{Reader, many_at}
use Rattle.wtf_spillfmt.proofs.Many.{with_front}

pub all_read : {A : Type 0} (read : Reader A) (front : List A) (count i : ℕ) (bytes : List ℕ) (total : Option (List A × List ℕ)) → count - i ≡ 0
    → with_front front (many_at read (count - i) bytes) ≡ total → total ≡ Some (front, bytes)
all_read read front count i bytes total end so_far =
    sym so_far ∙ ap (λ n. with_front front (many_at read n bytes)) end ∙ ap (λ l. Some (l, bytes)) (append-nil front)
