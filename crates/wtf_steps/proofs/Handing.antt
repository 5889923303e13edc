-- What a call leaves in hand, from what is known of its parts.
use Rattle.std.proofs.Common.{◌≡◌, ℕ, ◌+◌, Option, Some, refl, sym, subst, arith}
use Rattle.std.specs.Option.{option_map}
use Rattle.wtf_model.specs.declared.answer.Answer.{Answer}
use Rattle.wtf_model.specs.declared.answer.Answer.TheVariants as answer
use Rattle.wtf_model.specs.declared.answer.Word.{Word}
use Rattle.wtf_meta.specs.declared.session.Handle.{Handle}
use Rattle.wtf_meta.specs.Sessions.{SessionView, handle_in, SetsHandle, moved_to}
use Rattle.wtf_steps.specs.Holding.{LeavesHand, MovesOn}
use Rattle.wtf_steps.specs.Steps.{IsRefusal}

-- a refusal leaves all
pub hand_refused : (a : Answer) (word : Word) (F : SessionView → SessionView → Type 0) (s : SessionView) → a ≡ answer.Refused word → LeavesHand a F s s
hand_refused a word F s is = record {
  refused = λ h. refl;
  made = λ going. absurd (going (subst (λ (r : Answer). IsRefusal r) (sym is) tt));
}

-- nothing becomes another, where F allows that
pub hand_stays : (a : Answer) (F : SessionView → SessionView → Type 0) (s : SessionView) → F s s → LeavesHand a F s s
hand_stays a F s has = record { refused = λ h. refl; made = λ going. has }

-- an answer that is no refusal
pub hand_goes : (a : Answer) (F : SessionView → SessionView → Type 0) (old new : SessionView) → (IsRefusal a → ⊥) → F old new → LeavesHand a F old new
hand_goes a F old new going has = record { refused = λ h. absurd (going h); made = λ h. has }

-- an open handle goes on by some bytes
pub moves_on : (f to : ℕ) (n : Handle → ℕ) (old new : SessionView) (h : Handle) → handle_in old f ≡ Some h → to ≡ h.off + n h
    → SetsHandle f (option_map (moved_to to) (handle_in old f)) old new → MovesOn f n old new
moves_on f to n old new h here is set = record {
  handle = h;
  stood = here;
  off = to;
  to = is;
  moved = subst (λ (o : Option Handle). SetsHandle f (option_map (moved_to to) o) old new) here set;
}

-- or by none
pub moves_nowhere : (f : ℕ) (n : Handle → ℕ) (s : SessionView) (h : Handle) → handle_in s f ≡ Some h → n h ≡ 0 → MovesOn f n s s
moves_nowhere f n s h here none = record {
  handle = h;
  stood = here;
  off = h.off;
  to = omega (arith, none);
  moved = record { is = here; others = λ g other. refl; slices = λ label. refl };
}
