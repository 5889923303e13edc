-- Which lists a call recalls, from what is known of its parts.
use Rattle.std.proofs.Common.{◌≡◌, ℕ, ◌<◌, List, [], refl, ap, ◌∙◌, subst}
use Rattle.wtf_base.specs.declared.ids.InodeId.{InodeId}
use Rattle.wtf_dev.specs.Store.{StoreKind}
use Rattle.wtf_overlay.specs.declared.part.Piece.{Piece}
use Rattle.wtf_model.specs.declared.answer.Answer.{Answer}
use Rattle.wtf_meta.specs.declared.session.Handle.{Handle}
use Rattle.wtf_meta.specs.FileEdits.{file_of}
use Rattle.wtf_meta.specs.Files.{FileView}
use Rattle.wtf_meta.specs.Lists.{ListFact}
use Rattle.wtf_meta.specs.Maps.{Map}
use Rattle.wtf_meta.specs.Reads.{ReadsFile}
use Rattle.wtf_region.specs.declared.dev.Dev.{Dev}
use Rattle.wtf_region.specs.Bases.{slices_of, bases_of, bases_in}
use Rattle.wtf_region.specs.Devs.{remembered}
use Rattle.wtf_region.proofs.Recalls.{recalls_same}
use Rattle.wtf_steps.specs.Recalling.{ReadsFor, RecallsFor, AreListsOf}
use Rattle.wtf_steps.proofs.ReadWays.{same_touched, reads_due}

-- no list was read, where F allows that
pub reads_none : (a : Answer) (F : List ListFact → Type 0) → F [] → ReadsFor a F []
reads_none a F none = record { refused = λ h. refl; made = λ going. none }

pub recalls_none : {S : Type 0} (kind : StoreKind S) (a : Answer) (F : List ListFact → Type 0) (old new : Dev S) → F [] → remembered new ≡ remembered old
    → RecallsFor kind a F old new
recalls_none kind a F old new none same = record {
  facts = [];
  recalls = recalls_same kind old new same;
  known = λ ranges was told apart. tt;
  reads = reads_none a F none;
}

-- the lists of a range, as it is due
pub lists_due : (z : ℕ) (u w : Map) (h : Handle) (i : InodeId) (off from k n : ℕ) (facts : List ListFact) (ps : List Piece) → u ≡ w → i ≡ h.inode → off ≡ h.off
    → (0 < k → from ≡ off) → k ≡ n
    → slices_of facts ≡ bases_in z (file_of i u) from k → ReadsFile z (file_of i u) from k facts ps → AreListsOf z (file_of h.inode w) h.off n facts
lists_due z u w h i off from k n facts ps map inode offs is count wants reads =
    subst (λ (m : ℕ). AreListsOf z (file_of h.inode w) h.off m facts) count (record {
      wants = wants ∙ ap (λ (rs : List ℕ). bases_of (file_of i u) rs) (same_touched z from h.off k (λ some. is some ∙ offs))
          ∙ ap (λ (v : FileView). bases_in z v h.off k) (ap (λ (m : Map). file_of i m) map ∙ ap (λ (j : InodeId). file_of j w) inode);
      pieces = ps;
      reads = reads_due z u w h i off from k facts ps map inode offs is reads;
    })
