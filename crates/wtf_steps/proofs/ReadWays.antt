-- The bytes that a call finds at a handle.
use Rattle.std.proofs.Common.{◌≡◌, ℕ, ◌+◌, ◌-◌, ◌*◌, ◌<◌, List, [], ◌∷◌, sym, ap, ◌∙◌, subst, arith, inl, inr}
use Rattle.std.proofs.lemmas.Bool.{cases_lt}
use Rattle.wtf_base.specs.declared.fault.Fault.{Fault}
use Rattle.wtf_base.specs.declared.ids.InodeId.{InodeId}
use Rattle.wtf_dev.specs.Store.{StoreKind}
use Rattle.wtf_overlay.specs.Origin.{Place, Plans}
use Rattle.wtf_overlay.specs.declared.part.Piece.{Piece}
use Rattle.wtf_model.specs.declared.limits.TheConstants.{MAX_REGIONS}
use Rattle.wtf_values.specs.declared.key.Key.{Key}
use Rattle.wtf_meta.specs.declared.session.Handle.{Handle}
use Rattle.wtf_meta.specs.Maps.{Map}
use Rattle.wtf_meta.specs.Lists.{ListFact}
use Rattle.wtf_meta.specs.Reads.{ReadsFile}
use Rattle.wtf_meta.specs.Files.{FileView, file_len, file_origin}
use Rattle.wtf_meta.specs.FileEdits.{file_of}
use Rattle.wtf_meta.specs.Appends.{touched}
use Rattle.wtf_meta.specs.Calls.{Did}
use Rattle.wtf_region.specs.declared.dev.Dev.{Dev}
use Rattle.wtf_region.specs.Bases.{slices_of, bases_in}
use Rattle.wtf_region.specs.Reads.{LacksRegion}
use Rattle.wtf_steps.specs.Recorded.{found, found_in}

-- keys, and bytes that were read, with the lists that it took
abbrev pub shows : List Key → List ListFact → List Piece → List ℕ → Did
shows keys lists ps bytes = record { keys = keys; edits = []; facts = record { pieces = ps; bytes = bytes } ∷ []; stored = []; lists = lists }

-- a range of no byte begins anywhere
pub same_touched : (b from off k : ℕ) → (0 < k → from ≡ off) → touched b from k ≡ touched b off k
same_touched b from off k is = elim (cases_lt 0 k) [
  | inl some ↦ ap (λ (o : ℕ). touched b o k) (is some)
  | inr none ↦ let z : k ≡ 0 = omega arith in ap (λ (m : ℕ). touched b from m) z ∙ sym (ap (λ (m : ℕ). touched b off m) z)
]

pub same_plans : (ps : List Piece) (from off k : ℕ) (g : ℕ → List Place) → (0 < k → from ≡ off) → Plans ps k (λ j. g (from + j)) → Plans ps k (λ j. g (off + j))
same_plans ps from off k g is plans = record {
  len = plans.len;
  origin = λ i below. plans.origin i below ∙ ap (λ (o : ℕ). g (o + i)) (is (omega (arith, below)));
}

-- the bytes that were found, as they are due
pub found_due : (cap z len off n k : ℕ) (i : InodeId) (w : Map) (h : Handle) → k ≡ found cap len off n → cap ≡ MAX_REGIONS * z → len ≡ file_len z (file_of i w)
    → i ≡ h.inode → off ≡ h.off → k ≡ found_in z w h n
found_due cap z len off n k i w h is caps lens inode offs =
    is ∙ ap (λ (c : ℕ). found c len off n) caps ∙ ap (λ (l : ℕ). found (MAX_REGIONS * z) l off n) (lens ∙ ap (λ (j : InodeId). file_len z (file_of j w)) inode)
    ∙ ap (λ (o : ℕ). found (MAX_REGIONS * z) (file_len z (file_of h.inode w)) o n) offs

pub reads_due : (z : ℕ) (u w : Map) (h : Handle) (i : InodeId) (off from k : ℕ) (lists : List ListFact) (ps : List Piece) → u ≡ w → i ≡ h.inode → off ≡ h.off
    → (0 < k → from ≡ off)
    → ReadsFile z (file_of i u) from k lists ps → ReadsFile z (file_of h.inode w) h.off k lists ps
reads_due z u w h i off from k lists ps map inode offs is reads =
    subst (λ (m : Map). ReadsFile z (file_of h.inode m) h.off k lists ps) map
    (subst (λ (q : InodeId). ReadsFile z (file_of q u) h.off k lists ps) inode
    (subst (λ (o : ℕ). ReadsFile z (file_of i u) o k lists ps) offs (record {
      len = reads.len;
      plans = λ each tell. same_plans ps from off k (file_origin z each (file_of i u)) is (reads.plans each tell);
      names = reads.names;
      slices = reads.slices;
    })))

-- a list that was not read is one of the bytes that are due
pub lacks_due : {S : Type 0} (kind : StoreKind S) (old new : Dev S) (u b : Map) (i : InodeId) (h : Handle) (off from k m : ℕ) (why : Fault) → u ≡ b
    → i ≡ h.inode → off ≡ h.off → (0 < k → from ≡ off) → k ≡ m
    → LacksRegion kind old new (file_of i u) from k why → LacksRegion kind old new (file_of h.inode b) h.off m why
lacks_due kind old new u b i h off from k m why map inode offs is count lacks =
    let begins : from ≡ off = is lacks.some in
    subst (λ (v : FileView). LacksRegion kind old new v h.off m why) (ap (λ (w : Map). file_of i w) map ∙ ap (λ (j : InodeId). file_of j b) inode) (record {
      mid = lacks.mid;
      goes = lacks.goes;
      before = lacks.before;
      recalls = lacks.recalls;
      some = omega (arith, lacks.some, count);
      region = lacks.region;
      from = omega (arith, lacks.from, begins, offs);
      upto = omega (arith, lacks.upto, begins, offs, count);
      earlier = subst (λ (o : ℕ). slices_of lacks.before ≡ bases_in old.settings.region (file_of i u) o (lacks.region * old.settings.region - o))
          (begins ∙ offs) lacks.earlier;
      cause = lacks.cause;
      left = lacks.left;
    })
