-- All that a call did, by the way that it takes.
use Rattle.std.proofs.Common.{◌≡◌, ◌<◌, ℕ, List, [], refl, ap, ◌∙◌}
use Rattle.wtf_base.specs.declared.ids.InodeId.{InodeId}
use Rattle.wtf_model.specs.declared.answer.Answer.{Answer}
use Rattle.wtf_model.specs.declared.answer.Answer.TheVariants as answer
use Rattle.wtf_model.specs.declared.answer.Word.{Word}
use Rattle.wtf_meta.specs.declared.session.Handle.{Handle}
use Rattle.wtf_meta.specs.Lists.{ListFact}
use Rattle.wtf_meta.specs.Maps.{Map}
use Rattle.wtf_meta.specs.FileEdits.{file_of}
use Rattle.wtf_meta.specs.Sessions.{SessionView}
use Rattle.wtf_meta.specs.Calls.{InHand}
use Rattle.wtf_region.specs.Bases.{slices_of, bases_of, bases_in}
use Rattle.wtf_region.specs.Devs.{remembered}
use Rattle.wtf_region.proofs.Recalls.{recalls_same}
use Rattle.wtf_steps.specs.Holding.{LeavesHand}
use Rattle.wtf_steps.specs.Made.{Makes}
use Rattle.wtf_steps.specs.Recorded.{found_in}
use Rattle.wtf_steps.specs.Scenes.{Scene}
use Rattle.wtf_steps.proofs.Making.{makes_refused}
use Rattle.wtf_steps.proofs.ReadWays.{same_touched}
use Rattle.wtf_slicing.specs.declared.op.SliceOp.{SliceOp}
use Rattle.wtf_slicing.specs.Changed.{SliceMade}
use Rattle.wtf_slicing.specs.Held.{SliceHolds, SliceReads, SliceDone, sees}
use Rattle.wtf_slicing.proofs.MadeWays.{told_none}

-- nothing in hand becomes another
pub hand_same : (a : Answer) (s t : SessionView) → t ≡ s → LeavesHand a (λ u v. v ≡ u) s t
hand_same a s t same = record { refused = λ h. same; made = λ going. same }

module _ {S : Type 0} (sc : Scene S) (made : InodeId) where
  -- a call that reads no list
  pub done_plain : (o : SliceOp) (a : Answer) (old new : InHand) → SliceReads (sees sc made old.session []) o → remembered sc.after ≡ remembered sc.before
      → Makes a (SliceMade (sees sc made old.session []) o) old.at new.at → LeavesHand a (SliceHolds (sees sc made old.session []) o) old.session new.session
      → SliceDone sc made o a old new
  done_plain o a old new none same makes holds = record {
    recalls = record {
      facts = [];
      recalls = recalls_same sc.kind sc.before sc.after same;
      known = told_none sc.kind sc.before sc.after;
      reads = record { refused = λ h. refl; made = λ going. none };
    };
    makes = makes;
    holds = holds;
  }

  -- and one that is refused
  pub done_refused : (o : SliceOp) (word : Word) (old new : InHand) → remembered sc.after ≡ remembered sc.before → new.at.changes ≡ old.at.changes
      → new.session ≡ old.session
      → SliceDone sc made o (answer.Refused word) old new
  done_refused o word old new lists changes hand = record {
    recalls = record {
      facts = [];
      recalls = recalls_same sc.kind sc.before sc.after lists;
      known = told_none sc.kind sc.before sc.after;
      reads = record { refused = λ h. refl; made = λ going. absurd (going tt) };
    };
    makes = makes_refused (answer.Refused word) word (SliceMade (sees sc made old.session []) o) old.at new.at refl changes;
    holds = record { refused = λ h. hand; made = λ going. absurd (going tt) };
  }

-- the lists that were read are those of the bases under the bytes that are due
pub wants_due : (z : ℕ) (u w : Map) (h : Handle) (i : InodeId) (off from k n : ℕ) (facts : List ListFact) → u ≡ w → i ≡ h.inode → off ≡ h.off →
    (0 < k → from ≡ off)
    → k ≡ found_in z w h n → slices_of facts ≡ bases_in z (file_of i u) from k → slices_of facts ≡ bases_in z (file_of h.inode w) h.off (found_in z w h n)
wants_due z u w h i off from k n facts map inode offs is count wants =
    wants ∙ ap (λ (rs : List ℕ). bases_of (file_of i u) rs) (same_touched z from off k is) ∙ ap (λ (o : ℕ). bases_in z (file_of i u) o k) offs
    ∙ ap (λ (j : InodeId). bases_in z (file_of j u) h.off k) inode ∙ ap (λ (m : Map). bases_in z (file_of h.inode m) h.off k) map
    ∙ ap (λ (m : ℕ). bases_in z (file_of h.inode w) h.off m) count
