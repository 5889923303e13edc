-- Open transactions, in the order in which their entries are kept: their stamps, and the one that began first.
use Rattle.std.proofs.Common.{◌≡◌, ◌==◌, ℕ, true, cond, List, [], ◌∷◌, ◌++◌, map, Option, Some, None, Bor, append_assoc, refl, sym, ap, ◌∙◌}
use Rattle.std.proofs.lemmas.List.{append-nil}
use Rattle.std.specs.Option.{option_map}
use Rattle.std.specs.List.{list_any, filter}
use Rattle.std.specs.List.Sorted.{IsStrictlySortedBy}
use Rattle.std.specs.Map.{keys_of}
use Rattle.std.specs.FinMap.{entries, values}
use Rattle.std.specs.Ordering.{nat_cmp}
use Rattle.std.specs.Cmp.{nat_cmp_total}
use Rattle.wtf_model.specs.declared.item.Item.{Item}
use Rattle.wtf_model.specs.Transaction.{Transaction}
use Rattle.wtf_model.specs.Scans.{earlier, first_begun}
use Rattle.wtf_machine.specs.declared.begun.Begun.{Begun}
use Rattle.wtf_machine.specs.Maps.{map_of}
use Rattle.wtf_machine.specs.Verdicts.{open_in}
use Rattle.wtf_machine.proofs.OrderedLaws.{seen, entries-map_of, values-map_of}

-- where all entries are left, their stamps, behind others, are those of all transactions
pub stamps-clients : (changed : List Item) (rest es : List (ℕ × Begun)) → rest ≡ es → IsStrictlySortedBy nat_cmp (keys_of es) → (stamps : List ℕ)
    → stamps ++ map (λ (t : Transaction). t.stamp) (map (λ e. open_in changed e.1) rest)
    ≡ stamps ++ map (λ (t : Transaction). t.stamp) (values (map_of nat_cmp (open_in changed) es))
stamps-clients changed rest es all ordered stamps =
    ap (λ ts. stamps ++ map (λ (t : Transaction). t.stamp) ts)
    (ap (map (λ e. open_in changed e.1)) all ∙ sym (values-map_of nat_cmp_total (open_in changed) es ordered))

-- those whose stamps were noted
abbrev pub noted_of : List ℕ → List (ℕ × Transaction) → List (ℕ × Transaction)
noted_of noted ts = filter (λ t. list_any (λ s. s == t.1.stamp) noted) ts

-- the first one so far, as the definitions see it
abbrev pub first_in : List Item → Option (ℕ × Bor Begun) → Option (ℕ × Transaction)
first_in changed first = option_map (λ p. (p.0, open_in changed p.1.now)) first

-- of the entries that were taken from the back it is the one that began first
abbrev pub IsFirst : List Item → List ℕ → (es rest : List (ℕ × Begun)) → Option (ℕ × Bor Begun) → Type 0
IsFirst changed noted es rest first =
    (done : List (ℕ × Begun)) × (es ≡ rest ++ done) × (first_in changed first ≡ first_begun (noted_of noted (seen (open_in changed) done)))

-- none so far
pub begins : (changed : List Item) (noted : List ℕ) (es rest : List (ℕ × Begun)) → rest ≡ es → IsFirst changed noted es rest None
unfolding first_begun
begins changed noted es rest all = ([], sym all ∙ sym (append-nil rest), refl)

one_more : (changed : List Item) (noted : List ℕ) (c : ℕ) (t : Begun) (done : List (ℕ × Begun)) → list_any (λ s. s == t.stamp) noted ≡ true
    → first_begun (noted_of noted (seen (open_in changed) ((c, t) ∷ done)))
    ≡ Some (earlier (c, open_in changed t) (first_begun (noted_of noted (seen (open_in changed) done))))
unfolding first_begun
one_more changed noted c t done here =
    let later : List (ℕ × Transaction) = noted_of noted (seen (open_in changed) done) in
    ap (λ b. first_begun (cond b ((c, open_in changed t) ∷ later) later)) here

-- one more, whose stamp was noted
pub goes-on : (changed : List Item) (noted : List ℕ) (es rest left : List (ℕ × Begun)) (c : ℕ) (t : Begun) (first : Option (ℕ × Bor Begun)) (w : ℕ × Bor Begun)
    → IsFirst changed noted es rest first
    → rest ≡ left ++ (c, t) ∷ [] → list_any (λ s. s == t.stamp) noted ≡ true
    → (w.0, open_in changed w.1.now) ≡ earlier (c, open_in changed t) (first_in changed first)
    → IsFirst changed noted es left (Some w)
goes-on changed noted es rest left c t first w h taken here is = (
  (c, t) ∷ h.0,
  h.1 ∙ ap (λ r. r ++ h.0) taken ∙ append_assoc left ((c, t) ∷ []) h.0,
  ap (λ x. Some x) is ∙ ap (λ o. Some (earlier (c, open_in changed t) o)) h.2 ∙ sym (one_more changed noted c t h.0 here),
)

clients_of : (changed : List Item) (first : Option (ℕ × Bor Begun)) → option_map (λ p. p.0) first ≡ option_map (λ t. t.0) (first_in changed first)
clients_of changed None = refl
clients_of changed (Some p) = refl

-- when none is left, it is the first one of all
pub ends : (changed : List Item) (noted : List ℕ) (es rest : List (ℕ × Begun)) (first : Option (ℕ × Bor Begun)) → IsStrictlySortedBy nat_cmp (keys_of es)
    → IsFirst changed noted es rest first → rest ≡ []
    → option_map (λ p. p.0) first ≡ option_map (λ t. t.0) (first_begun (noted_of noted (entries (map_of nat_cmp (open_in changed) es))))
ends changed noted es rest first ordered h none =
    let all : es ≡ h.0 = h.1 ∙ ap (λ r. r ++ h.0) none in clients_of changed first
    ∙ ap (option_map (λ t. t.0))
    (h.2 ∙ ap (λ (done : List (ℕ × Begun)). first_begun (noted_of noted (seen (open_in changed) done))) (sym all)
    ∙ ap (λ ts. first_begun (noted_of noted ts)) (sym (entries-map_of nat_cmp_total (open_in changed) es ordered)))
