-- Changes that cut a file, and that make holes in it.
use Rattle.std.proofs.Common.{◌≡◌, refl, ℕ, ◌+◌, ◌-◌, ◌*◌, ◌/◌, ◌%◌, ◌<◌, ◌≤◌, ◌^◌, ◌++◌, min, List, [], ◌∷◌, sym, ap, ◌∙◌, subst, arith}
use Rattle.std.proofs.lemmas.Nat.{div-add-mod', mod_below, div_below}
use Rattle.wtf_base.specs.declared.ids.InodeId.{InodeId}
use Rattle.wtf_model.specs.declared.limits.TheConstants.{MAX_REGIONS}
use Rattle.wtf_meta.specs.FileEdits.{FileEdit, Push, PushRel, Put, Clip, ZeroWithin, CutAbove, RaiseLast, SetLast}
use Rattle.wtf_meta.proofs.Places.{apart}
use Rattle.wtf_meta.proofs.Named.{EditsBytes-edits}
use Rattle.wtf_meta.proofs.Truncating.{cut_edits, Truncates-cut}
use Rattle.wtf_meta.proofs.Punching.{Punches-none, Punches-part, Clears-punched, Clears-none}
use Rattle.wtf_rw.specs.Sizes.{cut_to, AreHoles, below_cap, CutsTo, Zeroes, ZeroesRegions}

-- the same cut by other numbers
cut_is : (b n r k : ℕ) → r ≡ (n - 1) / b → k ≡ n - r * b → cut_edits r k ≡ cut_to b n
cut_is b n r k is left =
    let last : ℕ = (n - 1) / b in
    let end : k ≡ n - last * b = left ∙ ap (λ (j : ℕ). n - j * b) is in
    ap (λ (j : ℕ). cut_edits j k) is ∙ ap (λ (j : ℕ). cut_edits last j) end

-- one hole more
holes_more : (b off n done mid r from until : ℕ) (ds : List FileEdit) → AreHoles b off n done ds mid → r ≡ (off + mid) / b → from ≡ (off + mid) % b
    → until ≡ min b (from + (n - mid))
    → AreHoles b off n done (ds ++ ZeroWithin r from until ∷ []) (mid + (until - from))
holes_more b off n done mid r from until [] same region start end =
    subst (λ (k : ℕ). (r ≡ (off + k) / b) × (from ≡ (off + k) % b) × (until ≡ min b (from + (n - k))) × (k + (until - from) ≡ mid + (until - from))) (sym same)
    (region, start, end, refl)
holes_more b off n done mid r from until (ZeroWithin q f u ∷ ds) h region start end =
    (h.0, h.1, h.2, holes_more b off n (done + (u - f)) mid r from until ds h.3 region start end)
holes_more b off n done mid r from until (Push q e ∷ ds) h region start end = absurd h
holes_more b off n done mid r from until (PushRel q ps c ∷ ds) h region start end = absurd h
holes_more b off n done mid r from until (Put q v ∷ ds) h region start end = absurd h
holes_more b off n done mid r from until (Clip q c ∷ ds) h region start end = absurd h
holes_more b off n done mid r from until (CutAbove q ∷ ds) h region start end = absurd h
holes_more b off n done mid r from until (RaiseLast q ∷ ds) h region start end = absurd h
holes_more b off n done mid r from until (SetLast q ∷ ds) h region start end = absurd h

pub cuts_to : (b n r k : ℕ) (i : InodeId) → 0 < b → n ≤ MAX_REGIONS * b → r ≡ (n - 1) / b → k ≡ n - r * b → CutsTo b i n (cut_edits r k)
cuts_to b n r k i pos small is left =
    let whole : r * b + (n - 1) % b ≡ n - 1 = ap (λ j. j * b + (n - 1) % b) is ∙ div-add-mod' (n - 1) b in
    let rest : (n - 1) % b < b = mod_below (n - 1) b pos in
    record {
      truncates = Truncates-cut b n r k pos (omega (arith, whole, left)) (omega (arith, whole, rest, left))
          (λ some. omega (arith, whole, rest, left, pos, apart b 0 r some))
          (subst (λ j. j < MAX_REGIONS) (sym is) (div_below (n - 1) b MAX_REGIONS pos (omega arith)));
      exact = cut_is b n r k is left;
      names = λ P Q. (tt, (tt, (tt, tt)));
    }

pub zeroes_none : (b off len : ℕ) (i : InodeId) → ZeroesRegions b i off len 0 []
zeroes_none b off len i = record { punches = Punches-none b off; exact = refl; names = λ P Q. tt }

pub zeroes_more : (b off len done upto : ℕ) (i : InodeId) (ds : List FileEdit) → 0 < b → b < 2 ^ 32 → (off + done) % b ≤ upto
    → upto ≡ min b ((off + done) % b + (len - done))
    → ZeroesRegions b i off len done ds
    → ZeroesRegions b i off len (done + (upto - (off + done) % b)) (ds ++ ZeroWithin ((off + done) / b) ((off + done) % b) upto ∷ [])
zeroes_more b off len done upto i ds pos small order end zeroes = record {
  punches =
      Punches-part b off done ((off + done) / b) ((off + done) % b) upto ds pos small order (omega (arith, end)) (div-add-mod' (off + done) b) zeroes.punches;
  exact = holes_more b off len 0 done ((off + done) / b) ((off + done) % b) upto ds zeroes.exact refl refl end;
  names = λ P Q. EditsBytes-edits P Q i ds (ZeroWithin ((off + done) / b) ((off + done) % b) upto ∷ []) (zeroes.names P Q) (tt, tt);
}

pub zeroes_all : (b off n m : ℕ) (i : InodeId) (ds : List FileEdit) → 0 < b → m ≡ min n (MAX_REGIONS * b - off) → off ≤ MAX_REGIONS * b
    → ZeroesRegions b i off m m ds → Zeroes b i off n ds
zeroes_all b off n m i ds pos is within zeroes = record {
  clears = Clears-punched b ds off n m pos is within zeroes.punches;
  exact = subst (λ (k : ℕ). AreHoles b off k 0 ds k) is zeroes.exact;
  names = zeroes.names;
}

pub zeroes_past : (b off n : ℕ) (i : InodeId) → 0 < b → MAX_REGIONS * b ≤ off → Zeroes b i off n []
zeroes_past b off n i pos past =
    let none : 0 ≡ below_cap b off n = omega (arith, past) in
    record { clears = Clears-none b off n pos past; exact = none; names = λ P Q. tt }
