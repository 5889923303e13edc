-- From where a commit goes on, which stores that show the same agree on.
use Rattle.std.proofs.Common.{◌≡◌, ◌≢◌, ◌⊎◌, ℕ, Bool, true, false, length, Option, None, Some, refl, ap, ◌∙◌, inl, inr}
use Rattle.std.specs.Prelude.{if◌then◌else◌, nat_eq, nat_lt, is_some}
use Rattle.std.specs.List.{find}
use Rattle.std.proofs.lemmas.Bool.{eq-eqb, ne_eqb}
use Rattle.wtf_kv.specs.Edits.{first_unfit}
use Rattle.wtf_kv.specs.Stores.{Store, version_of}
use Rattle.wtf_occ.specs.Tries.{Stays, or_else, key_in_the_way}
use Rattle.wtf_values.specs.declared.key.Key.{Key}
use Rattle.wtf_values.specs.declared.value.Value.{Value}
use Rattle.wtf_values.specs.Keys.{key_cmp}
use Rattle.wtf_values.specs.Outcomes.{outcome_of}
use Rattle.wtf_meta.specs.Maps.{Map, metadata_at}
use Rattle.wtf_replay.specs.Views.{TxnView, is_txn_live, rebased}
use Rattle.wtf_replay.specs.Tried.{is_free, stays_at, commit_from}

module _ (kv : Store Key Value) (x : TxnView) where
  goes : stays_at kv x ≡ true → commit_from kv x ≡ x
  goes here = ap (λ (b : Bool). if b then x else rebased x kv.number) here

  over : stays_at kv x ≡ false → commit_from kv x ≡ rebased x kv.number
  over here = ap (λ (b : Bool). if b then x else rebased x kv.number) here

  live : (way : Option Key) → x.replayed ≡ length x.log.ops → key_in_the_way key_cmp outcome_of x.at kv ≡ way
      → stays_at kv x ≡ (if is_some way then false else true)
  live way done is =
      ap (λ (b : Bool). if b then is_free kv x else nat_eq x.at.base kv.number) (eq-eqb x.replayed (length x.log.ops) done)
      ∙ ap (λ (k : Option Key). if is_some k then false else true) is

  replays : x.replayed ≢ length x.log.ops → stays_at kv x ≡ nat_eq x.at.base kv.number
  replays left = ap (λ (b : Bool). if b then is_free kv x else nat_eq x.at.base kv.number) (ne_eqb x.replayed (length x.log.ops) left)

  -- where all calls are done, and no key is in the way
  pub from_free : x.replayed ≡ length x.log.ops → key_in_the_way key_cmp outcome_of x.at kv ≡ None → commit_from kv x ≡ x
  from_free done free = goes (live None done free)

  -- or one is
  pub from_way : (q : Key) → x.replayed ≡ length x.log.ops → key_in_the_way key_cmp outcome_of x.at kv ≡ Some q → commit_from kv x ≡ rebased x kv.number
  from_way q done way = over (live (Some q) done way)

  -- where a replay runs at the number
  pub from_base : x.replayed ≢ length x.log.ops → x.at.base ≡ kv.number → commit_from kv x ≡ x
  from_base left same = goes (replays left ∙ eq-eqb x.at.base kv.number same)

  -- or below it
  pub from_older : x.replayed ≢ length x.log.ops → x.at.base ≢ kv.number → commit_from kv x ≡ rebased x kv.number
  from_older left other = over (replays left ∙ ne_eqb x.at.base kv.number other)

  -- so it goes on as it stands, or begins again
  pub from_one : (commit_from kv x ≡ x) ⊎ (commit_from kv x ≡ rebased x kv.number)
  from_one = by (stays_at kv x) refl
    where
      by : (b : Bool) → stays_at kv x ≡ b → (commit_from kv x ≡ x) ⊎ (commit_from kv x ≡ rebased x kv.number)
      by true here = inl (goes here)
      by false here = inr (over here)

module _ (kv mid : Store Key Value) (x : TxnView) (stays : Stays key_cmp kv mid) where
  -- the same key is in the way
  pub way_along : key_in_the_way key_cmp outcome_of x.at mid ≡ key_in_the_way key_cmp outcome_of x.at kv
  way_along =
      let seen : version_of key_cmp mid mid.number ≡ version_of key_cmp kv kv.number = ap (version_of key_cmp mid) stays.same.number
      ∙ stays.versions kv.number in
      let map : metadata_at mid mid.number ≡ metadata_at kv kv.number = ap (metadata_at mid) stays.same.number ∙ stays.maps kv.number in
      ap (λ (v : Key → ℕ). or_else (find (λ (key : Key). nat_lt x.at.base (v key)) x.at.reads)
      (first_unfit key_cmp outcome_of x.at.changes (metadata_at mid mid.number))) seen
      ∙ ap (λ (w : Map). or_else (find (λ (key : Key). nat_lt x.at.base (version_of key_cmp kv kv.number key)) x.at.reads)
      (first_unfit key_cmp outcome_of x.at.changes w)) map

  -- so a commit goes on from the same
  pub from_along : commit_from mid x ≡ commit_from kv x
  from_along =
      let free : is_free mid x ≡ is_free kv x = ap (λ (k : Option Key). if is_some k then false else true) way_along in
      let here : stays_at mid x ≡ stays_at kv x =
      ap (λ (b : Bool). if is_txn_live x then b else nat_eq x.at.base mid.number) free
      ∙ ap (λ (n : ℕ). if is_txn_live x then is_free kv x else nat_eq x.at.base n) stays.same.number in
      ap (λ (b : Bool). if b then x else rebased x mid.number) here ∙ ap (λ (n : ℕ). if stays_at kv x then x else rebased x n) stays.same.number
