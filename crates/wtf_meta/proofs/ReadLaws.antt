-- Ranges that were read, part by part: of each part the list of its region is read.
use Rattle.std.proofs.Common.{◌≡◌, ℕ, ◌+◌, ◌*◌, ◌≤◌, ◌++◌, List, [], Option, None, Some, refl, sym, ap, ◌∙◌, subst, arith}
use Rattle.wtf_overlay.specs.Origin.{Plans, origin, pieces_len}
use Rattle.wtf_overlay.proofs.Pieces.{pieces_len-append}
use Rattle.wtf_overlay.specs.declared.part.Entry.{Entry}
use Rattle.wtf_overlay.specs.declared.part.Piece.{Piece}
use Rattle.wtf_values.specs.declared.region.RegionValue.{RegionValue}
use Rattle.wtf_values.specs.declared.region.Spill.{Spill}
use Rattle.wtf_meta.specs.Lists.{Lists, ListFact, TellLists, list_of, base_facts}
use Rattle.wtf_meta.specs.Files.{FileView}
use Rattle.wtf_meta.specs.Bytes.{PiecesBytes}
use Rattle.wtf_meta.specs.Reads.{ReadsRegion, ReadsFile}
use Rattle.wtf_meta.proofs.ListFacts.{TellLists-parts, ListSlices-append, ListsBytes-parts}
use Rattle.wtf_meta.proofs.Named.{plans_bytes, PiecesBytes-none, PiecesBytes-append, region_slices, region_origin_bytes}
use Rattle.wtf_meta.proofs.Planning.{Plans-part}

-- every slice decodes to the same list
abbrev only : List Entry → Lists
only under s = Some under

only_tells : (base : Option Spill) (under : List Entry) → TellLists (only under) (base_facts base under)
only_tells None under = tt
only_tells (Some s) under = (refl, tt)

-- a missing region is a hole
pub ReadsRegion-none : (off n : ℕ) (ps : List Piece) → Plans ps n (λ i. []) → ReadsRegion None off n [] ps
ReadsRegion-none off n ps plans = record {
  len = plans.len;
  plans = λ lists tell. plans;
  names = λ P Q hole h known. plans_bytes P ps n (λ i. []) plans (λ i below. hole);
  slices = λ P Q h. tt;
}

-- a part of a region whose list was read
pub ReadsRegion-list : (v : RegionValue) (under list : List Entry) (off n : ℕ) (ps : List Piece)
    → ((lists : Lists) → TellLists lists (base_facts v.base under) → list ≡ list_of lists v)
    → Plans ps n (λ i. origin list (off + i)) → ReadsRegion (Some v) off n (base_facts v.base under) ps
ReadsRegion-list v under list off n ps is p = record {
  len = p.len;
  plans = λ lists tell. record { len = p.len; origin = λ i below. p.origin i below ∙ ap (λ (l : List Entry). origin l (off + i)) (is lists tell) };
  names = λ P Q hole h known. plans_bytes P ps n (λ i. origin list (off + i)) p
      (λ i below. ap (λ (l : List Entry). P (origin l (off + i))) (is (only under) (only_tells v.base under))
      ∙ region_origin_bytes P Q hole (only under) (Some v) under (off + i) (only_tells v.base under) h known);
  slices = λ P Q h. region_slices P Q (Some v) under h;
}

-- no byte of a file
pub ReadsFile-none : (b : ℕ) (v : FileView) (off : ℕ) (ps : List Piece) → ps ≡ [] → ReadsFile b v off 0 [] ps
ReadsFile-none b v off ps none = record {
  len = ap pieces_len none;
  plans = λ lists tell. record { len = ap pieces_len none; origin = λ i below. absurd (omega (arith, below)) };
  names = λ P Q hole h known. subst (PiecesBytes P) (sym none) (PiecesBytes-none P);
  slices = λ P Q h. tt;
}

-- and one part more, which lies in region r
pub ReadsFile-part : (b off done r s n : ℕ) (v : FileView) (fs gs : List ListFact) (out more : List Piece) → r * b + s ≡ off + done → s + n ≤ b
    → ReadsFile b v off done fs out
    → ReadsRegion (v.region r) s n gs more → ReadsFile b v off (done + n) (fs ++ gs) (out ++ more)
ReadsFile-part b off done r s n v fs gs out more at within first next = record {
  len = omega (arith, pieces_len-append out more, first.len, next.len);
  plans = λ lists tell. let parts = TellLists-parts lists fs gs tell in Plans-part b off done r s n lists v out more at within (first.plans lists parts.0)
      (next.plans lists parts.1);
  names = λ P Q hole h known. let parts = ListsBytes-parts P Q fs gs known in PiecesBytes-append P out more (first.names P Q hole h parts.0)
      (next.names P Q hole (h r) parts.1);
  slices = λ P Q h. ListSlices-append P Q fs gs (first.slices P Q h) (next.slices P Q (h r));
}
