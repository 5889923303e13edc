-- What the loops of `create`, `fetch`, `sync_all` and `sync_up` keep of the stores over the parts of a span in which nothing is punched.
use Rattle.std.proofs.Common.{◌≡◌, ◌≢◌, ℕ, ◌+◌, ◌<◌, ◌≤◌, Bool, true, false, List, [], length, get_or, take, sym, ◌∙◌, ap, subst, arith, inl, inr}
use Rattle.std.proofs.lemmas.Bool.{cases_eq, false≢true}
use Rattle.std.proofs.lemmas.List.Elements.{All-weaker}
use Rattle.wtf_base.specs.declared.pointer.Pointer.{Pointer}
use Rattle.wtf_base.specs.declared.slice.Slice.{Slice}
use Rattle.wtf_base.specs.Slices.{pointers_of}
use Rattle.wtf_dev.specs.Store.{Kept, StoreKind, KindLaws}
use Rattle.wtf_dev.specs.Each.{EachFollows}
use Rattle.wtf_replica.specs.Spans.{span}
use Rattle.wtf_dev.specs.Sums.{all_stored, stored_bytes}
use Rattle.wtf_dev.proofs.Sums.{sum_grows, stored-same}
use Rattle.wtf_replica.specs.Copies.{IsFetched}
use Rattle.wtf_replica.specs.Outs.{HasRisen, IsOut, IsLeftDown, SameLengths, SameSyncs}
use Rattle.wtf_replica.specs.Faults.{AreAllOut}

-- what the stores say of themselves over a span in which nothing is punched
abbrev pub EachKept : {S : Type 0} → StoreKind S → List S → List S → Type 0
EachKept {S} kind old new = (k : ℕ) (d : S) → k < length old → Kept (kind.view (get_or old k d)) (kind.view (get_or new k d)) []

pub each_kept : {S : Type 0} {kind : StoreKind S} → KindLaws kind → {old new : List S} → EachFollows kind old new [] → EachKept kind old new
each_kept laws e = λ k d h. laws.keeps _ _ [] (e.each k d h)

-- lengths and syncs that stay in both parts of a span stay in the whole
pub same_lengths_on : {S : Type 0} (kind : StoreKind S) (old mid new : List S) → length mid ≡ length old
    → SameLengths kind old mid → SameLengths kind mid new → SameLengths kind old new
same_lengths_on kind old mid new same one two = λ k d h f. let below : k < length mid = omega (arith, h, same) in two k d below f ∙ one k d h f

pub same_syncs_on : {S : Type 0} (kind : StoreKind S) (old mid new : List S) → length mid ≡ length old
    → SameSyncs kind old mid → SameSyncs kind mid new → SameSyncs kind old new
same_syncs_on kind old mid new same one two = λ k d h. let below : k < length mid = omega (arith, h, same) in two k d below ∙ one k d h

-- the servers whose stores failed in a part of a span failed in the whole
pub risen_on : {S : Type 0} (kind : StoreKind S) (old mid new : List S) → length mid ≡ length old → EachKept kind mid new
    → (k : ℕ) → HasRisen kind old mid k → HasRisen kind old new k
risen_on kind old mid new same kept k rise =
    (rise.0, λ d low. let h : k < length mid = omega (arith, rise.0, same) in omega (arith, rise.1 d, (kept k d h).faults))

pub risen_since : {S : Type 0} (kind : StoreKind S) (old mid new : List S) → length mid ≡ length old → EachKept kind old mid
    → (k : ℕ) → HasRisen kind mid new k → HasRisen kind old new k
risen_since kind old mid new same kept k rise =
    let h : k < length old = omega (arith, rise.0, same) in (h, λ d low. omega (arith, rise.1 d, (kept k d h).faults))

-- and those that are out in a part are out in the whole
pub out_on : {S : Type 0} (kind : StoreKind S) (down : ℕ → Bool) (old mid new : List S) → length mid ≡ length old → EachKept kind mid new
    → (k : ℕ) → IsOut kind (span down old mid) k → IsOut kind (span down old new) k
out_on kind down old mid new same kept k out = elim out [
  | inl is_down ↦ inl is_down
  | inr rise ↦ inr (risen_on kind old mid new same kept k rise)
]

pub out_since : {S : Type 0} (kind : StoreKind S) (down : ℕ → Bool) (old mid new : List S) → length mid ≡ length old → EachKept kind old mid
    → (k : ℕ) → IsOut kind (span down mid new) k → IsOut kind (span down old new) k
out_since kind down old mid new same kept k out = elim out [
  | inl is_down ↦ inl is_down
  | inr rise ↦ inr (risen_since kind old mid new same kept k rise)
]

-- the store of a server that is out and not down failed
pub risen_if_up : {S : Type 0} (kind : StoreKind S) (down : ℕ → Bool) (old new : List S) (k : ℕ) → down k ≡ false → IsOut kind (span down old new) k → HasRisen kind old new k
risen_if_up kind down old new k up out = elim out [
  | inl is_down ↦ absurd (false≢true (sym up ∙ is_down))
  | inr rise ↦ rise
]

-- a try of server k, which does nothing if it is down, leaves the servers that are down as they were
pub lows_on : {S : Type 0} (down : ℕ → Bool) (old mid new : List S) (k : ℕ)
    → IsLeftDown (span down old mid) → (down k ≡ true → new ≡ mid) → ((j : ℕ) (d : S) → j ≢ k → get_or new j d ≡ get_or mid j d) → IsLeftDown (span down old new)
lows_on {S} down old mid new k was same elsewhere j d low = elim (cases_eq j k) [
  | inl is ↦ ap (λ (xs : List S). get_or xs j d) (same (subst (λ (n : ℕ). down n ≡ true) is low)) ∙ was j d low
  | inr ne ↦ elsewhere j d ne ∙ was j d low
]

-- the servers of all copies of a slice that are out in a part are out in the whole
pub all_out_since : {S : Type 0} (kind : StoreKind S) (down : ℕ → Bool) (old mid new : List S) → length mid ≡ length old → EachKept kind old mid
    → (s : Slice) (k : ℕ) → AreAllOut kind (span down mid new) s k → AreAllOut kind (span down old new) s k
all_out_since kind down old mid new same kept s k a = record {
  out = All-weaker (λ (p : Pointer). IsOut kind (span down mid new) p.server.0) (λ (p : Pointer). IsOut kind (span down old new) p.server.0)
      (λ p. out_since kind down old mid new same kept p.server.0) (pointers_of s) a.out;
  last = a.last;
}

-- what was read of a slice in a part of a span was read in the whole
pub fetched_on : {S : Type 0} (kind : StoreKind S) (down : ℕ → Bool) (old mid new : List S) → length mid ≡ length old → EachKept kind mid new
    → (s : Slice) (off : ℕ) (out : List ℕ) (k : ℕ) → IsFetched kind (span down old mid) s off out k → IsFetched kind (span down old new) s off out k
fetched_on kind down old mid new same kept s off out k f = record {
  copy = f.copy;
  pointer = f.pointer;
  is_copy = f.is_copy;
  server = f.server;
  known = f.known;
  up = f.up;
  bytes = f.bytes;
  earlier = All-weaker (λ (q : Pointer). IsOut kind (span down old mid) q.server.0) (λ (q : Pointer). IsOut kind (span down old new) q.server.0)
      (λ q. out_on kind down old mid new same kept q.server.0) (take f.copy (pointers_of s)) f.earlier;
}

pub fetched_since : {S : Type 0} (kind : StoreKind S) (down : ℕ → Bool) (old mid new : List S) → length mid ≡ length old → EachKept kind old mid
    → (s : Slice) (off : ℕ) (out : List ℕ) (k : ℕ) → IsFetched kind (span down mid new) s off out k → IsFetched kind (span down old new) s off out k
fetched_since kind down old mid new same kept s off out k f =
    let below : k < length old = omega (arith, f.known, same) in
    record {
      copy = f.copy;
      pointer = f.pointer;
      is_copy = f.is_copy;
      server = f.server;
      known = below;
      up = f.up;
      bytes = λ d j b h shown. f.bytes d j b h ((kept k d below).shown f.pointer.file (f.pointer.at + off + j) b tt shown);
      earlier = All-weaker (λ (q : Pointer). IsOut kind (span down mid new) q.server.0) (λ (q : Pointer). IsOut kind (span down old new) q.server.0)
          (λ q. out_since kind down old mid new same kept q.server.0) (take f.copy (pointers_of s)) f.earlier;
    }

-- stores whose files are as long as they were hold as much together
pub same_lengths-stored : {S : Type 0} (kind : StoreKind S) (old new : List S) → length new ≡ length old → SameLengths kind old new → all_stored kind new ≡ all_stored kind old
same_lengths-stored kind old new same lengths =
    let more : all_stored kind old ≤ all_stored kind new =
    sum_grows (λ s. stored_bytes (kind.view s)) old new same (λ k d h. omega (arith, stored-same (kind.view (get_or old k d)) (kind.view (get_or new k d)) (lengths k d h))) in
    let less : all_stored kind new ≤ all_stored kind old =
    sum_grows (λ s. stored_bytes (kind.view s)) new old (sym same)
    (λ k d h. let below : k < length old = omega (arith, h, same) in omega (arith, stored-same (kind.view (get_or old k d)) (kind.view (get_or new k d)) (lengths k d below))) in
    omega (arith, more, less)
