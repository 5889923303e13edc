-- Extents that are freed one after another.
use Rattle.std.proofs.Common.{◌≡◌, ◌≢◌, ℕ, ◌+◌, ◌<◌, ◌≤◌, List, [], ◌∷◌, ◌++◌, take, get_or, length, Option, Some, sym, ap, ◌∙◌, arith}
use Rattle.std.specs.Prelude.{slice_get, OnErr}
use Rattle.std.specs.declared.result.Result.{Result}
use Rattle.std.specs.declared.result.Result.TheVariants.{Ok, Err}
use Rattle.std.specs.Option.{option_map}
use Rattle.std.proofs.lemmas.Option.{slice_get-get_or, slice_get-map}
use Rattle.std.proofs.lemmas.List.{take-map, take_more, map-append}
use Rattle.wtf_dev.specs.Store.{Range, StoreKind}
use Rattle.wtf_replica.specs.Inside.{size_in}
use Rattle.wtf_replica.specs.Outs.{SameFrom, SameLengths}
use Rattle.wtf_replica.proofs.InsideLaws.{size_in-at}
use Rattle.wtf_gc.specs.declared.extent.Extent.{Extent}
use Rattle.wtf_gc.specs.Frees.{LiesOn, range_of, ranges_of}

size_stays : {S : Type 0} (kind : StoreKind S) (old new : List S) (k f : ℕ) (d : S) → length new ≡ length old → SameLengths kind old new → k < length old
    → size_in kind new k f ≡ size_in kind old k f
size_stays kind old new k f d long same below = size_in-at kind new k f d (omega (arith, below, long)) ∙ same k d below f
    ∙ sym (size_in-at kind old k f d below)

pub some_store : {S : Type 0} (xs : List S) (k : ℕ) → k < length xs → S
some_store [] k below = absurd (omega (arith, below))
some_store (x ∷ xs) k below = x

-- a range lies in the stores of so many servers still
pub lies_later : {S : Type 0} (kind : StoreKind S) (old new : List S) (servers : ℕ) (r : ℕ × Range) → servers ≤ length old → length new ≡ length old
    → SameLengths kind old new → LiesOn (size_in kind old) servers r → LiesOn (size_in kind new) servers r
lies_later kind old new servers r there long same h =
    let below = h.0 in
    let known : r.0 < length old = omega (arith, below, there) in
    let stays = size_stays kind old new r.0 r.1.file (some_store old r.0 known) long same known in
    let le = h.2 in
    (below, h.1, omega (arith, le, stays))

-- what leaves all servers but one of so many leaves those from there on
pub others_from : {S : Type 0} (old new : List S) (k servers : ℕ) → k < servers → ((j : ℕ) (d : S) → j ≢ k → get_or new j d ≡ get_or old j d)
    → SameFrom servers old new
others_from old new k servers below elsewhere = λ j d far. elsewhere j d (λ same. omega (arith, below, far, same))

-- the range of the next extent
pub next_range : (es : List Extent) (i : ℕ) (d : Extent) → i < length es → slice_get (ranges_of es) i ≡ Some (range_of (get_or es i d))
next_range es i d below = slice_get-map range_of es i ∙ ap (λ (o : Option Extent). option_map range_of o) (slice_get-get_or es i d below)

pub ranges_more : (es : List Extent) (i : ℕ) (d : Extent) → i < length es → ranges_of (take i es) ++ range_of (get_or es i d) ∷ [] ≡ ranges_of (take (i + 1) es)
ranges_more es i d below = sym (ap ranges_of (take_more es i d below) ∙ map-append range_of (take i es) (get_or es i d ∷ []))

pub first_ranges : (es : List Extent) (i : ℕ) → take i (ranges_of es) ≡ ranges_of (take i es)
first_ranges es i = take-map range_of i es

-- what holds in any case
pub on_err : {T E : Type 0} (P : Type 0) (r : Result T E) → P → OnErr r P
on_err P (Ok x) p = tt
on_err P (Err why) p = p
