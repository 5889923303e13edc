-- Laws of items: when two are the same, when lists of them meet, what calls one after another read and change, and what each open
-- transaction and job sees of what others have changed.
use Rattle.std.proofs.Common.{◌≡◌, ℕ, ◌||◌, Bool, true, false, cond, List, [], ◌∷◌, ◌++◌, map, Option, Some, None, refl, sym, ap, subst, ◌∙◌, append_assoc, append-nil}
use Rattle.std.specs.Option.{option_map}
use Rattle.std.proofs.lemmas.List.Folds.{list_any-append}
use Rattle.std.proofs.lemmas.Slice.Eq.{bytes_eq-Decides}
use Rattle.std.specs.FinMap.{FinMap, get, find, entries, get-entries, get-from_entries, nat_cmp-IsAntisymmetric, slice_cmp-IsAntisymmetric}
use Rattle.std.proofs.lemmas.Map.Views.{tells_apart}
use Rattle.std.specs.List.{list_any}
use Rattle.std.specs.Ordering.{nat_cmp, eq_by_cmp}
use Rattle.std.specs.Cmp.Lexicographic.{slice_cmp}
use Rattle.std.specs.Cmp.{nat_cmp_total}
use Rattle.wtf_model.specs.declared.item.Item.{Item}
use Rattle.wtf_model.specs.declared.item.Item.TheVariants.{NodeOf, NamesOf, BodyOf, LinksOf}
use Rattle.wtf_model.specs.declared.answer.Answer.{Answer}
use Rattle.wtf_model.specs.declared.answer.Answer.TheVariants as answer
use Rattle.wtf_model.specs.declared.answer.Word.{Word}
use Rattle.wtf_model.specs.declared.op.Op.{Op}
use Rattle.wtf_model.specs.Tree.{PathSet, has_path, path_list}
use Rattle.wtf_model.specs.Session.{Session}
use Rattle.wtf_model.specs.Done.{Done}
use Rattle.wtf_model.specs.Call.{call}
use Rattle.wtf_model.specs.Items.{same_item, is_among, meets, source_reads, reads, links_of, changes, unless_refused, writes, reads_from, writes_from}
use Rattle.wtf_model.specs.Transaction.{session_from}
use Rattle.wtf_model.specs.Steps.{with_each}
use Rattle.wtf_model.proofs.PathLaws.{has-listed}

-- ---- items that are the same

pub same_item-itself : (i : Item) → same_item i i ≡ true
same_item-itself (NodeOf p) = (bytes_eq-Decides p p).1 refl
same_item-itself (NamesOf p) = (bytes_eq-Decides p p).1 refl
same_item-itself (BodyOf p) = (bytes_eq-Decides p p).1 refl
same_item-itself (LinksOf p) = (bytes_eq-Decides p p).1 refl

pub same_item-is : (i j : Item) → same_item i j ≡ true → i ≡ j
same_item-is (NodeOf p) (NodeOf q) e = ap (λ x. NodeOf x) ((bytes_eq-Decides p q).0 e)
same_item-is (NamesOf p) (NamesOf q) e = ap (λ x. NamesOf x) ((bytes_eq-Decides p q).0 e)
same_item-is (BodyOf p) (BodyOf q) e = ap (λ x. BodyOf x) ((bytes_eq-Decides p q).0 e)
same_item-is (LinksOf p) (LinksOf q) e = ap (λ x. LinksOf x) ((bytes_eq-Decides p q).0 e)
same_item-is i j e = absurd (cc)

-- ---- items of lists

or_later : (a b : Bool) → b ≡ true → (a || b) ≡ true
or_later true b e = refl
or_later false b e = e

pub is_among-head : (i : Item) (items : List Item) → is_among (i ∷ items) i ≡ true
is_among-head i items = ap (λ b. b || is_among items i) (same_item-itself i)

pub is_among-tail : (j : Item) (items : List Item) (i : Item) → is_among items i ≡ true → is_among (j ∷ items) i ≡ true
is_among-tail j items i e = or_later (same_item i j) (is_among items i) e

pub is_among-append : (xs ys : List Item) (i : Item) → is_among (xs ++ ys) i ≡ (is_among xs i || is_among ys i)
is_among-append xs ys i = list_any-append (same_item i) xs ys

pub is_among-left : (xs ys : List Item) (i : Item) → is_among xs i ≡ true → is_among (xs ++ ys) i ≡ true
is_among-left xs ys i e = is_among-append xs ys i ∙ ap (λ b. b || is_among ys i) e

pub is_among-right : (xs ys : List Item) (i : Item) → is_among ys i ≡ true → is_among (xs ++ ys) i ≡ true
is_among-right xs ys i e = is_among-append xs ys i ∙ or_later (is_among xs i) (is_among ys i) e

-- one item of both lists makes them meet
pub meets-by : (xs ys : List Item) (i : Item) → is_among xs i ≡ true → is_among ys i ≡ true → meets xs ys ≡ true
meets-by xs [] i here there = absurd (cc)
meets-by xs (y ∷ ys) i here there =
    elim (same_item i y) as (λ b. same_item i y ≡ b → (b || is_among ys i) ≡ true → (is_among xs y || meets xs ys) ≡ true) [
      | true ↦ λ e rest. ap (λ b. b || meets xs ys) (subst (λ z. is_among xs z ≡ true) (same_item-is i y e) here)
      | false ↦ λ e rest. or_later (is_among xs y) (meets xs ys) (meets-by xs ys i here rest)
    ] refl there

pub meets-append : (xs ys zs : List Item) → meets xs (ys ++ zs) ≡ (meets xs ys || meets xs zs)
meets-append xs ys zs = list_any-append (is_among xs) ys zs

-- no item meets none
pub meets-none : (ys : List Item) → meets [] ys ≡ false
meets-none [] = refl
meets-none (y ∷ ys) = meets-none ys

pub meets-last : (xs more ys : List Item) (i : Item) → is_among more i ≡ true → is_among ys i ≡ true → meets (xs ++ more) ys ≡ true
meets-last xs more ys i here there = meets-by (xs ++ more) ys i (is_among-right xs more i here) there

-- what is changed of a file by each of its paths is changed by one
among_each : (f : List ℕ → Item) (ps : List (List ℕ)) (q : List ℕ) → list_any (eq_by_cmp (slice_cmp nat_cmp) q) ps ≡ true → is_among (map f ps) (f q) ≡ true
among_each f [] q e = cc
among_each f (p ∷ ps) q e =
    elim (eq_by_cmp (slice_cmp nat_cmp) q p) as (λ b. eq_by_cmp (slice_cmp nat_cmp) q p ≡ b → (b || list_any (eq_by_cmp (slice_cmp nat_cmp) q) ps) ≡ true
    → (same_item (f q) (f p) || is_among (map f ps) (f q)) ≡ true) [
      | true ↦ λ tied rest.
          ap (λ b. b || is_among (map f ps) (f q))
          (subst (λ x. same_item (f q) (f x) ≡ true) (tells_apart (slice_cmp-IsAntisymmetric nat_cmp-IsAntisymmetric) q p tied) (same_item-itself (f q)))
      | false ↦ λ tied rest. or_later (same_item (f q) (f p)) (is_among (map f ps) (f q)) (among_each f ps q rest)
    ] refl e

pub is_among-bodies : (paths : PathSet) (q : List ℕ) → has_path paths q ≡ true → is_among (map (λ x. BodyOf x) (path_list paths)) (BodyOf q) ≡ true
is_among-bodies paths q has = among_each (λ x. BodyOf x) (path_list paths) q (sym (has-listed paths q) ∙ has)

pub is_among-links : (paths : PathSet) (q : List ℕ) → has_path paths q ≡ true → is_among (links_of paths) (LinksOf q) ≡ true
is_among-links paths q has = among_each (λ x. LinksOf x) (path_list paths) q (sym (has-listed paths q) ∙ has)

-- the bytes of a file are read by what reads the file
pub meets-body : (items : List Item) (p : List ℕ) → is_among items (BodyOf p) ≡ true → meets items (source_reads p) ≡ true
meets-body items p here = meets-by items (source_reads p) (BodyOf p) here (is_among-tail (NodeOf p) (BodyOf p ∷ []) (BodyOf p) (is_among-head (BodyOf p) []))

-- ---- what calls read and change

pub writes-refused : (cap : ℕ) (s : Session) (o : Op (List ℕ)) (w : Word) → (call cap s o).answer ≡ answer.Refused w → writes cap s o ≡ []
writes-refused cap s o w e = ap (λ (a : Answer). unless_refused a (changes s o)) e

pub writes-okay : (cap : ℕ) (s : Session) (o : Op (List ℕ)) → (call cap s o).answer ≡ answer.Okay → writes cap s o ≡ changes s o
writes-okay cap s o e = ap (λ (a : Answer). unless_refused a (changes s o)) e

-- from a call whose answer is known
pub reads_from-next : (cap : ℕ) (s later : Session) (o : Op (List ℕ)) (a : Answer) (ops : List (Op (List ℕ))) → call cap s o ≡ record { session = later; answer = a }
    → reads_from cap s (o ∷ ops) ≡ reads s o ++ reads_from cap later ops
unfolding reads_from
reads_from-next cap s later o a ops e = ap (λ (d : Done). reads s o ++ reads_from cap d.session ops) e

pub reads_from-cons : (cap : ℕ) (s : Session) (o : Op (List ℕ)) (ops : List (Op (List ℕ))) → reads_from cap s (o ∷ ops) ≡ reads s o ++ reads_from cap (call cap s o).session ops
unfolding reads_from
reads_from-cons cap s o ops = refl

pub writes_from-cons : (cap : ℕ) (s : Session) (o : Op (List ℕ)) (ops : List (Op (List ℕ))) → writes_from cap s (o ∷ ops) ≡ writes cap s o ++ writes_from cap (call cap s o).session ops
unfolding writes_from
writes_from-cons cap s o ops = refl

pub reads_from-none : (cap : ℕ) (s : Session) → reads_from cap s [] ≡ []
unfolding reads_from
reads_from-none cap s = refl

pub writes_from-none : (cap : ℕ) (s : Session) → writes_from cap s [] ≡ []
unfolding writes_from
writes_from-none cap s = refl

-- one more call
pub reads_from-push : (cap : ℕ) (s : Session) (ops : List (Op (List ℕ))) (o : Op (List ℕ)) → reads_from cap s (ops ++ o ∷ []) ≡ reads_from cap s ops ++ reads (session_from cap s ops) o
unfolding reads_from session_from
reads_from-push cap s [] o = append-nil (reads s o)
reads_from-push cap s (x ∷ ops) o =
    ap (λ l. reads s x ++ l) (reads_from-push cap (call cap s x).session ops o)
    ∙ sym (append_assoc (reads s x) (reads_from cap (call cap s x).session ops) (reads (session_from cap (call cap s x).session ops) o))

pub writes_from-push : (cap : ℕ) (s : Session) (ops : List (Op (List ℕ))) (o : Op (List ℕ)) → writes_from cap s (ops ++ o ∷ []) ≡ writes_from cap s ops ++ writes cap (session_from cap s ops) o
unfolding writes_from session_from
writes_from-push cap s [] o = append-nil (writes cap s o)
writes_from-push cap s (x ∷ ops) o =
    ap (λ l. writes cap s x ++ l) (writes_from-push cap (call cap s x).session ops o)
    ∙ sym (append_assoc (writes cap s x) (writes_from cap (call cap s x).session ops) (writes cap (session_from cap (call cap s x).session ops) o))

-- ---- what each open transaction or job becomes

module _ {X : Type 0} (f : X → X) where
  found_each : (b : Bool) (x : X) (l r : Option X) → r ≡ option_map f l → cond b (Some (f x)) r ≡ option_map f (cond b (Some x) l)
  found_each true x l r e = refl
  found_each false x l r e = e

  find_each : (es : List (ℕ × X)) (q : ℕ) → find nat_cmp q (map (λ e. (e.0, f e.1)) es) ≡ option_map f (find nat_cmp q es)
  find_each [] q = refl
  find_each (e ∷ es) q = found_each (eq_by_cmp nat_cmp q e.0) e.1 (find nat_cmp q es) (find nat_cmp q (map (λ e. (e.0, f e.1)) es)) (find_each es q)

  pub get-each : (m : FinMap nat_cmp X) (q : ℕ) → get (with_each f m) q ≡ option_map f (get m q)
  unfolding with_each
  get-each m q = get-from_entries nat_cmp_total (map (λ e. (e.0, f e.1)) (entries m)) q ∙ find_each (entries m) q ∙ ap (option_map f) (sym (get-entries m q))

  -- where none was, none is, and one that was is what f makes of it
  pub get-each_none : (m : FinMap nat_cmp X) (q : ℕ) → get m q ≡ None → get (with_each f m) q ≡ None
  get-each_none m q none = get-each m q ∙ ap (option_map f) none

  pub get-each_some : (m : FinMap nat_cmp X) (q : ℕ) (x : X) → get m q ≡ Some x → get (with_each f m) q ≡ Some (f x)
  get-each_some m q x there = get-each m q ∙ ap (option_map f) there
