-- Handles, where the paths of a tree change.
use Rattle.std.proofs.Common.{◌≡◌, ◌≢◌, ℕ, Bool, true, false, cond, ◌&&◌, ◌||◌, List, [], ◌∷◌, map, Option, None, Some, Ok, refl, sym, ap, ◌∙◌, ⊎_elim}
use Rattle.std.specs.Prelude.{T, if◌then◌else◌, Err}
use Rattle.std.specs.List.{list_any}
use Rattle.std.specs.FinMap.{get, entries, entries_sorted, get-entries}
use Rattle.std.specs.FinMap.Entries.{find, below_all, is_sorted}
use Rattle.std.specs.Cmp.{tied_itself}
use Rattle.std.specs.Ordering.{nat_cmp, eq_by_cmp, is_eq, is_lt}
use Rattle.std.specs.declared.cmp.Ordering.{Ordering}
use Rattle.std.specs.declared.cmp.Ordering.TheVariants.{Less, Equal, Greater}
use Rattle.std.proofs.lemmas.Bool.{cases_Bool}
use Rattle.std.proofs.lemmas.Cmp.{nat_cmp_total}
use Rattle.std.proofs.lemmas.Map.Lookups.{exact_unsigned}
use Rattle.std.proofs.lemmas.Slice.Eq.{bytes_eq-Decides}
use Rattle.wtf_model.specs.Session as model
use Rattle.wtf_model.specs.Session.{Session}
use Rattle.wtf_model.specs.declared.answer.Word.TheVariants.{Busy}
use Rattle.wtf_model.specs.Tree.{Tree}
use Rattle.wtf_model.specs.Done.{is_on, is_closed}
use Rattle.wtf_meta.specs.declared.session.Handle.{Handle}
use Rattle.wtf_meta.specs.Maps.{Map}
use Rattle.wtf_meta.specs.Contents.{Told}
use Rattle.wtf_meta.specs.Trees.{LeadsTo}
use Rattle.wtf_meta.specs.Sessions.{SessionView, handle_in, HandleAt, Holds, IsOff}

-- a handle stays where its path leads to its inode still
handle_stays : (old new : Map) (v : Option Handle) (g : Option model.Handle)
    → ((h : Handle) → v ≡ Some h → LeadsTo old h.path h.inode → LeadsTo new h.path h.inode) → HandleAt old v g → HandleAt new v g
handle_stays old new None None stays at = tt
handle_stays old new None (Some g) stays at = absurd at
handle_stays old new (Some h) None stays at = absurd at
handle_stays old new (Some h) (Some g) stays at = record { path = at.path; off = at.off; leads = stays h refl at.leads }

-- what is in hand stays where each handle's path leads to its inode still
pub Holds-on : (told : Told) (old new : Map) (s : SessionView) (S : Session) (t : Tree)
    → ((f : ℕ) (h : Handle) → handle_in s f ≡ Some h → LeadsTo old h.path h.inode → LeadsTo new h.path h.inode) → Holds told old s S
    → Holds told new s (record S { tree = t })
Holds-on told old new s S t stays holds = record {
  handles = λ f. handle_stays old new (handle_in s f) (get S.handles f) (stays f) (holds.handles f);
  slices = holds.slices;
}

first_part : (a b : Bool) → T (a && b) → T a
first_part true b h = tt
first_part false b h = absurd h

rest_part : (a b : Bool) → T (a && b) → T b
rest_part true b h = h
rest_part false b h = absurd h

lt_not_eq : (o : Ordering) → T (is_lt o) → is_eq o ≡ false
lt_not_eq Less h = refl
lt_not_eq Equal h = absurd h
lt_not_eq Greater h = absurd h

below_apart : (x : ℕ) (es : List (ℕ × model.Handle)) → T (below_all nat_cmp x es) → find nat_cmp x es ≡ None
below_apart x [] h = refl
below_apart x (e ∷ es) h =
    ap (λ b. cond b (Some e.1) (find nat_cmp x es)) (lt_not_eq (nat_cmp x e.0) (first_part (is_lt (nat_cmp x e.0)) (below_all nat_cmp x es) h))
    ∙ below_apart x es (rest_part (is_lt (nat_cmp x e.0)) (below_all nat_cmp x es) h)

off_entries : (p : List ℕ) (es : List (ℕ × model.Handle)) → T (is_sorted nat_cmp es) → ((f : ℕ) (g : model.Handle) → find nat_cmp f es ≡ Some g → g.path ≢ p)
    → list_any (is_on p) (map (λ e. e.1) es) ≡ false
off_entries p [] sorted off = refl
off_entries p (e ∷ es) sorted off =
    let mine : find nat_cmp e.0 (e ∷ es) ≡ Some e.1 = ap (λ b. cond b (Some e.1) (find nat_cmp e.0 es)) (ap is_eq (tied_itself nat_cmp_total e.0)) in
    let apart : is_on p e.1 ≡ false = ⊎_elim (λ t. absurd (off e.0 e.1 mine ((bytes_eq-Decides e.1.path p).0 t))) (λ f. f) (cases_Bool (is_on p e.1)) in
    let below : find nat_cmp e.0 es ≡ None = below_apart e.0 es (first_part (below_all nat_cmp e.0 es) (is_sorted nat_cmp es) sorted) in
    let rest = off_entries p es (rest_part (below_all nat_cmp e.0 es) (is_sorted nat_cmp es) sorted) (λ f g found. off f g (⊎_elim
    (λ same. absurd (let none : find nat_cmp f es ≡ None = ap (λ x. find nat_cmp x es) (equal_numbers f e.0 same) ∙ below in
    let bad : None ≡ Some g = sym none ∙ found in cc))
    (λ other. ap (λ b. cond b (Some e.1) (find nat_cmp f es)) other ∙ found)
    (cases_Bool (eq_by_cmp nat_cmp f e.0)))) in
    ap (λ b. b || list_any (is_on p) (map (λ e. e.1) es)) apart ∙ rest
  where
    eq_is : (o : Ordering) → is_eq o ≡ true → o ≡ Equal
    eq_is Less h = absurd (cc)
    eq_is Equal h = refl
    eq_is Greater h = absurd (cc)

    equal_numbers : (f n : ℕ) → eq_by_cmp nat_cmp f n ≡ true → f ≡ n
    equal_numbers f n h = exact_unsigned f n (eq_is (nat_cmp f n) h)

handle_off : (w : Map) (p : List ℕ) (v : Option Handle) (o : Option model.Handle) (g : model.Handle) → HandleAt w v o → o ≡ Some g
    → ((h : Handle) → v ≡ Some h → h.path ≢ p) → g.path ≢ p
handle_off w p None None g at e off = absurd (cc)
handle_off w p None (Some k) g at e off = absurd at
handle_off w p (Some h) None g at e off = absurd at
handle_off w p (Some h) (Some k) g at e off = λ same. let one : k ≡ g = cc in off h refl (sym at.path ∙ (ap (λ x. x.path) one ∙ same))

-- where no handle is on a path, the definitions' session has it closed
pub closed-off : (told : Told) (w : Map) (s : SessionView) (S : Session) (p : List ℕ) → Holds told w s S → IsOff p s → is_closed S p ≡ Ok tt
closed-off told w s S p holds off =
    ap (λ b. if b then Err Busy else Ok tt)
    (off_entries p (entries S.handles) (entries_sorted S.handles)
    (λ f g found. handle_off w p (handle_in s f) (get S.handles f) g (holds.handles f) (get-entries S.handles f ∙ found) (off f)))
