-- The pins of the images, where one comes, goes, or is the only one that stays, and of what is watched.
use Rattle.wtf_clients.proofs.Common.{IsTrue, take-append_seam, take-suc, eq-eqb, sum_by-append, length_push, take-append-drop, Store, is_pinned, times_pinned}
use Rattle.wtf_clients.proofs.Common.{versions_of, IsPinnedOnceMore, any-count, count-push, Key, Value, key_cmp, metadata_at, BesideView, TablesView, watching}
use Rattle.wtf_clients.proofs.Common.{all_kept, all_watched, with_image, only_image, Saves, ◌≡◌, ◌≤◌, ◌<◌, ℕ, ◌+◌, ◌-◌, cond, nat_eq, count_by, List, [], ◌∷◌}
use Rattle.wtf_clients.proofs.Common.{Some, ◌++◌, take, drop, get_or, suc, length, refl, sym, ap, ◌∙◌, arith}

-- the list but for its last
front : {A : Type 0} (xs : List A) (x : A) → take (length (xs ++ x ∷ []) - 1) (xs ++ x ∷ []) ≡ xs
front xs x =
    let len : length (xs ++ x ∷ []) - 1 ≡ length xs = let push = length_push xs x in omega (arith, push) in
    ap (λ n. take n (xs ++ x ∷ [])) len ∙ take-append_seam xs (x ∷ [])

-- an image more is counted once
more_kept : (s before : BesideView) (k n : ℕ) → s ≡ with_image before k → all_kept n s ≡ all_kept n before + cond (nat_eq n k) 1 0
more_kept s before k n is =
    let whole : all_kept n s ≡ all_kept n (with_image before k) = ap (all_kept n) is in
    let more = count-push n k before.images in
    omega (arith, whole, more)

pub others_are : (s before : BesideView) (k : ℕ) → s ≡ with_image before k → take (length s.images - 1) s.images ≡ before.images
others_are s before k is = ap (λ (t : BesideView). take (length t.images - 1) t.images) is ∙ front before.images k

-- the image that came last goes
pub one_dropped : (s t before : BesideView) (k : ℕ) → s ≡ with_image before k → t ≡ record s { images = take (length s.images - 1) s.images } → t ≡ before
one_dropped s t before k is dropped = dropped ∙ ap (λ (q : BesideView). record q { images = take (length q.images - 1) q.images }) is
    ∙ ap (λ (l : List ℕ). record before { images = l }) (front before.images k)

-- ---- pins are undone one by one
pub count_front : (n k : ℕ) (xs : List ℕ) → count_by (nat_eq n) (take k xs) ≤ count_by (nat_eq n) xs
count_front n k xs =
    let parts : count_by (nat_eq n) (take k xs ++ drop k xs) ≡ count_by (nat_eq n) (take k xs) + count_by (nat_eq n) (drop k xs) =
    sum_by-append (λ y. cond (nat_eq n y) 1 0) (take k xs) (drop k xs) in
    let whole : count_by (nat_eq n) (take k xs ++ drop k xs) ≡ count_by (nat_eq n) xs = ap (count_by (nat_eq n)) (take-append-drop k xs) in
    omega (arith, parts, whole)

-- a store but for its pins
pub any_pins : (old new : Store Key Value) (pins : List ℕ) → new ≡ record old { pins = pins } → new ≡ record old { pins = new.pins }
any_pins old new pins is = is ∙ ap (λ (l : List ℕ). record old { pins = l }) (sym (ap (λ (s : Store Key Value). s.pins) is))

-- what is left of the pins after the first numbers
pub record Undone (old new : Store Key Value) (numbers : List ℕ) (k : ℕ) : Type 0 where
  pub pins : (n : ℕ) → times_pinned new n + count_by (nat_eq n) (take k numbers) ≡ times_pinned old n
  pub rest : new ≡ record old { pins = new.pins }

module _ (old new : Store Key Value) (numbers : List ℕ) (k : ℕ) (below : k < length numbers)
    (enough : (n : ℕ) → count_by (nat_eq n) numbers ≤ times_pinned old n) (undone : Undone old new numbers k) where
  counted : (n : ℕ) → count_by (nat_eq n) (take (suc k) numbers) ≡ count_by (nat_eq n) (take k numbers) + cond (nat_eq n (get_or numbers k 0)) 1 0
  counted n = ap (count_by (nat_eq n)) (take-suc numbers k 0 below) ∙ count-push n (get_or numbers k 0) (take k numbers)

  -- the next one is pinned
  pub next_pinned : IsTrue (is_pinned new (get_or numbers k 0))
  next_pinned =
      let n : ℕ = get_or numbers k 0 in
      let left = undone.pins n in
      let more = counted n in
      let one : ◌≡◌ {A = ℕ} (cond (nat_eq n n) 1 0) 1 = ap (λ b. cond b 1 0) (eq-eqb n n refl) in
      let all = enough n in
      let front_le = count_front n (suc k) numbers in
      any-count n new.pins (omega (arith, left, more, one, all, front_le))

  -- and is then undone
  pub next_undone : (after : Store Key Value) → IsPinnedOnceMore (get_or numbers k 0) after new → after ≡ record new { pins = after.pins }
      → Undone old after numbers (suc k)
  next_undone after once is = record {
    pins = λ n.
        let left = undone.pins n in
        let more = counted n in
        let pinned = once n in
        omega (arith, left, more, pinned);
    rest = is ∙ ap (λ (s : Store Key Value). record s { pins = after.pins }) undone.rest;
  }

module _ (old new : TablesView) (clients : new.clients ≡ old.clients) (next : new.next_tx ≡ old.next_tx) (pins : new.kv ≡ record old.kv { pins = new.kv.pins })
  where
    -- the store but for its pins is what it was
    saves_by : (now : BesideView) → ((n : ℕ) → times_pinned new.kv n + all_kept n old.beside ≡ times_pinned old.kv n + all_kept n now) → new.beside ≡ now
        → Saves old new now
    saves_by now moved is = record {
      clients = clients;
      number = ap (λ (s : Store Key Value). s.number) pins;
      maps = λ n le. ap (λ (s : Store Key Value). metadata_at s n) pins;
      versions = λ q. ap (λ (s : Store Key Value). versions_of key_cmp s q) pins;
      pins = moved;
      next_tx = next;
      beside = is;
    }

    -- one more
    pub adds_one : IsPinnedOnceMore old.kv.number old.kv new.kv → new.beside ≡ with_image old.beside old.kv.number
        → Saves old new (with_image old.beside old.kv.number)
    adds_one once is = saves_by (with_image old.beside old.kv.number)
        (λ n.
        let more = once n in
        let one = more_kept (with_image old.beside old.kv.number) old.beside old.kv.number n refl in
        omega (arith, more, one))
        is

    -- the last one goes
    pub drops_one : (before : BesideView) → old.beside ≡ with_image before old.kv.number → IsPinnedOnceMore old.kv.number new.kv old.kv
        → new.beside ≡ before → Saves old new before
    drops_one before was once is = saves_by before
        (λ n.
        let less = once n in
        let one = more_kept old.beside before old.kv.number n was in
        omega (arith, less, one))
        is

    -- it alone stays
    pub settles_one : (before : BesideView) → old.beside ≡ with_image before old.kv.number
        → ((n : ℕ) → times_pinned new.kv n + count_by (nat_eq n) before.images ≡ times_pinned old.kv n) → new.beside ≡ only_image before old.kv.number
        → Saves old new (only_image before old.kv.number)
    settles_one before was gone is = saves_by (only_image before old.kv.number)
        (λ n.
        let left = gone n in
        let more = more_kept old.beside before old.kv.number n was in
        let one : count_by (nat_eq n) (old.kv.number ∷ []) ≡ 0 + cond (nat_eq n old.kv.number) 1 0 = count-push n old.kv.number [] in
        omega (arith, left, more, one))
        is

    -- the number is watched, and what was watched before is no more
    pub watches_one : (mid : Store Key Value) → IsPinnedOnceMore old.kv.number old.kv mid
        → ((n : ℕ) → times_pinned new.kv n + all_watched n old.beside.watched ≡ times_pinned mid n)
        → new.beside ≡ watching old.beside old.kv.number → Saves old new (watching old.beside old.kv.number)
    watches_one mid once gone is = saves_by (watching old.beside old.kv.number)
        (λ n.
        let more = once n in
        let less = gone n in
        let one : all_watched n (Some old.kv.number) ≡ cond (nat_eq n old.kv.number) 1 0 = refl in
        omega (arith, more, less, one))
        is

-- one change after another
pub saves_then : (old mid new : TablesView) (between now : BesideView) → Saves old mid between → Saves mid new now → Saves old new now
saves_then old mid new between now first last = record {
  clients = last.clients ∙ first.clients;
  number = last.number ∙ first.number;
  maps = λ n le. last.maps n (let number = first.number in omega (arith, number, le)) ∙ first.maps n le;
  versions = λ q. last.versions q ∙ first.versions q;
  pins = λ n.
      let one = first.pins n in
      let two = last.pins n in
      let is : all_kept n mid.beside ≡ all_kept n between = ap (all_kept n) first.beside in
      omega (arith, one, two, is);
  next_tx = last.next_tx ∙ first.next_tx;
  beside = last.beside;
}

-- each image stays pinned
pub saves_enough : (old new : TablesView) (now : BesideView) → Saves old new now → ((n : ℕ) → all_kept n old.beside ≤ times_pinned old.kv n) → (n : ℕ)
    → all_kept n new.beside ≤ times_pinned new.kv n
saves_enough old new now saves enough n =
    let moved = saves.pins n in
    let was = enough n in
    let is : all_kept n new.beside ≡ all_kept n now = ap (all_kept n) saves.beside in
    omega (arith, moved, was, is)
