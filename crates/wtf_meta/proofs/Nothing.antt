-- Where nothing is open and no call was made.
use Rattle.std.proofs.Common.{◌≡◌, ℕ, zero, suc, Bool, List, [], Option, None, Some, refl, sym, subst, ◌∙◌}
use Rattle.std.specs.Prelude.{replicate}
use Rattle.std.specs.FinMap.{get, get-empty}
use Rattle.std.specs.Ordering.{nat_cmp}
use Rattle.wtf_overlay.specs.Origin.{Place}
use Rattle.wtf_model.specs.declared.limits.TheConstants.{MAX_HANDLES, MAX_SLICES}
use Rattle.wtf_model.specs.Session.{Session, fresh}
use Rattle.wtf_model.specs.Tree.{Tree}
use Rattle.wtf_model.specs.Items.{reads_of, writes_of}
use Rattle.wtf_model.specs.Transaction.{session_from, answers_from, session_after, answers_of}
use Rattle.wtf_meta.specs.Maps.{Map}
use Rattle.wtf_meta.specs.Contents.{Told}
use Rattle.wtf_meta.specs.Trees.{Stands}
use Rattle.wtf_meta.specs.Sessions.{HandleAt, SliceAt, Holds, SessionBytes, at_label, handle_in, slice_in, nothing_open}
use Rattle.wtf_meta.specs.Calls.{Caller, nothing_done, cap_for, IsRun}
use Rattle.wtf_meta.proofs.FeetLaws.{feet_looked}

-- no label has something where nothing is open
pub none_at : {A : Type 0} (x : Option A) (n f : ℕ) → x ≡ None → at_label (replicate n x) f ≡ None
none_at x zero f e = refl
none_at x (suc n) zero e = e
none_at x (suc n) (suc f) e = none_at x n f e

pub nothing_kept : (P : List Place → Bool) → SessionBytes P nothing_open
nothing_kept P label ps e = let none : slice_in nothing_open label ≡ None = none_at None MAX_SLICES label refl in
    let bad : None ≡ Some ps = sym none ∙ e in absurd (cc)

-- nothing is open in the definitions' session of a tree
pub holds_nothing : (told : Told) (w : Map) (t : Tree) → Holds told w nothing_open (fresh t)
holds_nothing told w t = record {
  handles = λ f. let none : handle_in nothing_open f ≡ None = none_at None MAX_HANDLES f refl in
      subst (λ v. HandleAt w v (get (fresh t).handles f)) (sym none) (subst (λ g. HandleAt w None g) (sym (get-empty nat_cmp f)) tt);
  slices = λ label. let none : slice_in nothing_open label ≡ None = none_at None MAX_SLICES label refl in
      subst (λ v. SliceAt told v (get (fresh t).slices label)) (sym none) (subst (λ g. SliceAt told None g) (sym (get-empty nat_cmp label)) tt);
}

session_none : (most : ℕ) (t : Tree) → session_after most t [] ≡ fresh t
unfolding session_from
session_none most t = refl

answers_none : (most : ℕ) (t : Tree) → answers_of most t [] ≡ []
unfolding answers_from
answers_none most t = refl

-- no call is a run
pub run_none : (x : Caller) (b : Map) → IsRun x b nothing_open nothing_done ([], [])
run_none x b = record {
  fits = refl;
  names = λ P Q hole map slices stored lists. record { edits = tt; facts = tt; slices = nothing_kept P; lists = tt };
  acts = λ told w t agree fit facts lists stands. record {
    answers = answers_none (cap_for x) t;
    stands = subst (λ (S : Session). Stands x.size told x.tx 0 w S.tree) (sym (session_none (cap_for x) t)) stands;
    holds = subst (λ S. Holds told w nothing_open S) (sym (session_none (cap_for x) t)) (holds_nothing told w t);
    own = λ i other none. none;
  };
  feet = λ told w t agree fit facts lists stands. feet_looked x.tx w [] (reads_of (cap_for x) t []) (writes_of (cap_for x) t []) tt;
}
