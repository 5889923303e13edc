-- What a stop may leave of one file.
use Rattle.std.proofs.Common.{◌≡◌, ◌⊎◌, ◌<◌, ◌≤◌, ◌+◌, ◌∙◌, ℕ, List, length, get_or, inl, inr, sym, subst, arith}
use Rattle.std.specs.Prelude.{Some, Result, Ok, Err, OnOk, OnErr}
use Rattle.std.specs.List.{slice_get}
use Rattle.std.proofs.lemmas.List.{same_lists}
use Rattle.std.proofs.lemmas.Option.{slice_get-get_or, get_or_from_slice_get}
use Rattle.wtf_dev.specs.Disk.{DiskFileView, IsFileImage, IsSettled, Pends, Remains}

pub settled_get : (s c : List ℕ) (v : DiskFileView) (i d : ℕ) → IsSettled s v → IsFileImage v c → i < length s → get_or c i d ≡ get_or s i d
settled_get s c v i d settled image below = get_or_from_slice_get c i (get_or s i d) d
    (image.bytes i (get_or s i d) (settled.told i ∙ slice_get-get_or s i d below))

-- where nothing is pending a stop leaves what a read gives
pub settled_image : (s c : List ℕ) (v : DiskFileView) → IsSettled s v → IsFileImage v c → c ≡ s
settled_image s c v settled image =
    let same : length c ≡ length s = omega (arith, image.least, image.most, settled.least, settled.most) in
    same_lists c s same (λ k d h. settled_get s c v k d settled image (omega (arith, h, same)))

-- a stop after a sync that failed leaves what it could leave before
pub remains_image : (v w : DiskFileView) (c : List ℕ) → Remains v w → IsFileImage w c → IsFileImage v c
remains_image v w c same image = record {
  least = omega (arith, image.least, same.least);
  most = omega (arith, image.most, same.most);
  bytes = λ i b told. image.bytes i b (same.told i b told);
}

-- what a sync answers, and what it makes of its file
pub record SyncEnds {T E : Type 0} (r : Result T E) (v w : DiskFileView) : Type 0 where
  pub reads : IsFileImage v v.seen
  pub settled : OnOk r (IsSettled v.seen w)
  pub remains : OnErr r (Remains v w)

-- a sync, done or failed, leaves nothing that was not left before
pub sync_narrows : {T E : Type 0} (r : Result T E) (v w : DiskFileView) (c : List ℕ) → SyncEnds r v w → IsFileImage w c → IsFileImage v c
sync_narrows (Ok y) v w c s image = subst (IsFileImage v) (sym (settled_image v.seen c w s.settled image)) s.reads
sync_narrows (Err e) v w c s image = remains_image v w c s.remains image

pub pends_none : (at : ℕ) (v : DiskFileView) → Pends at 0 v v
pends_none at v = record { told = λ i b out told. told; seen = λ i b out seen. seen; least = omega arith; most = omega arith }

pub pends_wider : (at m n : ℕ) (v w : DiskFileView) → m ≤ n → Pends at m v w → Pends at n v w
pends_wider at m n v w le p = record {
  told = λ i b out told. p.told i b (narrow i out) told;
  seen = λ i b out seen. p.seen i b (narrow i out) seen;
  least = p.least;
  most = omega (arith, p.most, le);
}
  where
    narrow : (i : ℕ) → (i < at) ⊎ (at + n ≤ i) → (i < at) ⊎ (at + m ≤ i)
    narrow i (inl lt) = inl lt
    narrow i (inr ge) = inr (omega (arith, ge, le))

-- a write behind another one
pub pends_more : (at a b : ℕ) (u v w : DiskFileView) → Pends at a u v → Pends (at + a) b v w → Pends at (a + b) u w
pends_more at a b u v w p q = record {
  told = λ i x out told. q.told i x (second i out) (p.told i x (first i out) told);
  seen = λ i x out seen. q.seen i x (second i out) (p.seen i x (first i out) seen);
  least = omega (arith, p.least, q.least);
  most = omega (arith, p.most, q.most);
}
  where
    first : (i : ℕ) → (i < at) ⊎ (at + (a + b) ≤ i) → (i < at) ⊎ (at + a ≤ i)
    first i (inl lt) = inl lt
    first i (inr ge) = inr (omega (arith, ge))

    second : (i : ℕ) → (i < at) ⊎ (at + (a + b) ≤ i) → (i < at + a) ⊎ (at + a + b ≤ i)
    second i (inl lt) = inl (omega (arith, lt))
    second i (inr ge) = inr (omega (arith, ge))

-- a write and then a sync: the same may pend as after the write alone
pub pends_sync : {T E : Type 0} (r : Result T E) (at n : ℕ) (u v w : DiskFileView) → SyncEnds r v w → Pends at n u v → Pends at n u w
pends_sync (Ok y) at n u v w s pends = record {
  told = λ i b out told. s.settled.told i ∙ s.reads.bytes i b (pends.told i b out told);
  seen = λ i b out seen. subst (λ (l : List ℕ). slice_get l i ≡ Some b) (sym s.settled.seen) (pends.seen i b out seen);
  least = omega (arith, pends.least, s.reads.least, s.settled.least);
  most = omega (arith, pends.most, s.reads.most, s.settled.most);
}
pends_sync (Err e) at n u v w s pends = record {
  told = λ i b out told. s.remains.told i b (pends.told i b out told);
  seen = λ i b out seen. subst (λ (l : List ℕ). slice_get l i ≡ Some b) (sym s.remains.seen) (pends.seen i b out seen);
  least = omega (arith, pends.least, s.remains.least);
  most = omega (arith, pends.most, s.remains.most);
}
