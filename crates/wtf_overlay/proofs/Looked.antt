-- A look at entries from left to right, whether they are a compact list.
use Rattle.std.proofs.Common.{◌≡◌, ℕ, ◌+◌, ◌<◌, ◌≤◌, ◌^◌, true, false, List, [], ◌∷◌, arith}
use Rattle.std.specs.List.{All}
use Rattle.std.proofs.lemmas.List.Elements.{All-nil, All-cons, All-head, All-tail}
use Rattle.wtf_overlay.specs.declared.part.Entry.{Entry}
use Rattle.wtf_overlay.specs.declared.error.NotCompact.{NotCompact}
use Rattle.wtf_overlay.specs.declared.error.NotCompact.TheVariants as cause
use Rattle.wtf_overlay.specs.Causes.{IsCause, IsCauseAt, MayStand, WithNext}
use Rattle.wtf_overlay.specs.Clips.{Within}
use Rattle.wtf_overlay.specs.Compact.{Neighbours, IsCompact, AreSlices, AreSorted, AreApart, could_be_one, is_held}
use Rattle.wtf_overlay.specs.Runs.{IsRunIn, IsRun}

-- so far the list has P exactly where the rest has it
pub record Same (P : List Entry → Type 0) (all rest : List Entry) : Type 0 where
  pub on : P rest → P all
  pub back : P all → P rest

pub record Looked (end : ℕ) (all rest : List Entry) : Type 0 where
  pub slices : Same AreSlices all rest
  pub within : Same (Within end) all rest
  pub sorted : Same AreSorted all rest
  pub apart : Same AreApart all rest

same_self : (P : List Entry → Type 0) (all : List Entry) → Same P all all
same_self P all = record { on = λ h. h; back = λ h. h }

pub Looked-init : (end : ℕ) (all : List Entry) → Looked end all all
Looked-init end all = record {
  slices = same_self AreSlices all;
  within = same_self (Within end) all;
  sorted = same_self AreSorted all;
  apart = same_self AreApart all;
}

module _ (R : Entry → Entry → Type 0) where
  neighbours_cons : (e : Entry) (es : List Entry) → WithNext R e es → Neighbours R es → Neighbours R (e ∷ es)
  neighbours_cons e [] first rest = tt
  neighbours_cons e (f ∷ fs) first rest = (first, rest)

  neighbours_head : (e : Entry) (es : List Entry) → Neighbours R (e ∷ es) → WithNext R e es
  neighbours_head e [] h = tt
  neighbours_head e (f ∷ fs) h = h.0

  neighbours_tail : (e : Entry) (es : List Entry) → Neighbours R (e ∷ es) → Neighbours R es
  neighbours_tail e [] h = tt
  neighbours_tail e (f ∷ fs) h = h.1

  next_step : (all es : List Entry) (e : Entry) → WithNext R e es → Same (Neighbours R) all (e ∷ es) → Same (Neighbours R) all es
  next_step all es e first s = record {
    on = λ h. s.on (neighbours_cons e es first h);
    back = λ h. neighbours_tail e es (s.back h);
  }

all_step : (Q : Entry → Type 0) (all es : List Entry) (e : Entry) → Q e → Same (All Q) all (e ∷ es) → Same (All Q) all es
all_step Q all es e first s = record {
  on = λ h. s.on (All-cons Q e es first h);
  back = λ h. All-tail Q e es (s.back h);
}

pub Looked-step : (end : ℕ) (all es : List Entry) (e : Entry) → MayStand end e es → Looked end all (e ∷ es) → Looked end all es
Looked-step end all es e stands looked = record {
  slices = all_step (λ (e : Entry). is_held e.part ≡ true) all es e stands.slice looked.slices;
  within = all_step (λ (e : Entry). e.off + e.len ≤ end) all es e stands.within looked.within;
  sorted = next_step (λ e f. e.off + e.len ≤ f.off) all es e stands.sorted looked.sorted;
  apart = next_step (λ e f. could_be_one e f ≡ false) all es e stands.apart looked.apart;
}

pub Looked-done : (end : ℕ) (all : List Entry) → Looked end all [] → IsCompact all × Within end all
Looked-done end all looked = (
  record {
    slices = looked.slices.on (All-nil (λ (e : Entry). is_held e.part ≡ true));
    disjoint = looked.sorted.on tt;
    joined = looked.apart.on tt;
  },
  looked.within.on (All-nil (λ (e : Entry). e.off + e.len ≤ end)),
)

pub Looked-cause : (end : ℕ) (all es : List Entry) (e : Entry) (why : NotCompact) → Looked end all (e ∷ es) → IsCauseAt end e es why → IsCause end all why
Looked-cause end all es e cause.Zeros looked why =
    λ h. let held : is_held e.part ≡ true = All-head (λ (e : Entry). is_held e.part ≡ true) e es (looked.slices.back h) in absurd (cc)
Looked-cause end all es e cause.Order looked why = λ h. why (neighbours_head (λ e f. e.off + e.len ≤ f.off) e es (looked.sorted.back h))
Looked-cause end all es e cause.Joins looked why = λ h. why (neighbours_head (λ e f. could_be_one e f ≡ false) e es (looked.apart.back h))
Looked-cause end all es e cause.Past looked why =
    λ h. let le : e.off + e.len ≤ end = All-head (λ (e : Entry). e.off + e.len ≤ end) e es (looked.within.back h) in omega (arith, le, why)
Looked-cause end all es e cause.Memory looked why = tt

run_from : (lo : ℕ) (e : Entry) (es : List Entry) → lo ≤ e.off → AreSorted (e ∷ es) → IsRunIn lo (2 ^ 32) (e ∷ es)
run_from lo e [] from sorted = let fits : e.off + e.len < 2 ^ 32 = e.fits in (from, omega arith)
run_from lo e (f ∷ fs) from sorted = (from, run_from (e.off + e.len) f fs sorted.0 sorted.1)

-- a compact list is a run
pub compact_run : (es : List Entry) → IsCompact es → IsRun es
compact_run [] c = omega arith
compact_run (e ∷ es) c = run_from 0 e es (omega arith) c.disjoint
