-- The text and the reader of each part of an entry belong together.
use Rattle.std.proofs.Common.{◌≡◌, ℕ, zero, suc, ◌+◌, ◌^◌, ◌<◌, ◌≤◌, Bool, true, false, ltb, leb, ◌&&◌, List, [], ◌∷◌, ◌++◌, length, Option, Some, None, refl, sym, ap, subst, ◌∙◌, arith}
use Rattle.std.specs.List.{flat_map, AllByRecursion}
use Rattle.std.specs.Int.{w32, w64, to_be_bytes}
use Rattle.std.proofs.lemmas.Bool.{ltb-true, lt-ltb, leb-true, le-leb}
use Rattle.wtf_base.specs.declared.pointer.Pointer.{Pointer}
use Rattle.wtf_base.specs.Pointers.{is_slice}
use Rattle.wtf_overlay.specs.Rows.{EntryRow}
use Rattle.wtf_overlay.specs.Texts.{pointer_text, slice_text, part_text, entry_text}
use Rattle.wtf_overlay.specs.Shapes.{IsPointer, IsSlice, IsPart, IsEntry}
use Rattle.wtf_overlay.specs.Reading.{◌>>=◌, make_pointer, pointer_at, is_width, slice_at, part_at, make_entry, is_within, entry_at}
use Rattle.wtf_spillfmt.proofs.Codecs.{Codec, IsBytes, IsBytes-rest, Takes, IsMade, some_is, bind_some, codec_then, codec_as, codec_form, codec_only, codec_many, byte_codec, codec32, codec64}

-- ---- pointers and slices

pointer_made : (len : ℕ) → IsMade (λ (x : ℕ × (ℕ × ℕ)). (x.0 ∷ []) ++ ((x.1.0 ∷ []) ++ to_be_bytes w64 x.1.1)) (λ x. (x.0 < 2 ^ 8) × ((x.1.0 < 2 ^ 8) × (x.1.1 < 2 ^ 64)))
    pointer_text (IsPointer len) (make_pointer len) (λ p. (p.server.0, (p.file, p.at)))
unfolding pointer_text
pointer_made len = record {
  text = λ x form. refl;
  form = λ x form. record { server = form.0; file = form.1.0; at = form.1.1; same = refl };
  back = λ p form. (form.server, (form.file, form.at));
  same = λ p form. ap (λ (n : ℕ). make_pointer n (p.server.0, (p.file, p.at))) (sym form.same);
}

pub pointer_codec : (len : ℕ) → Codec pointer_text (IsPointer len) (pointer_at len)
unfolding pointer_at
pointer_codec len = codec_as (pointer_made len) (codec_then byte_codec (λ server f. codec_then byte_codec (λ file g. codec64)))

few : (ps : List Pointer) → is_slice ps ≡ true → length ps ≤ 3
few [] h = absurd (cc)
few (a ∷ []) h = omega arith
few (a ∷ b ∷ []) h = omega arith
few (a ∷ b ∷ c ∷ []) h = omega arith
few (a ∷ b ∷ c ∷ d ∷ ps) h = absurd (cc)

-- as many pointers as a byte tells
slice_made : (len : ℕ) → IsMade (λ (x : ℕ × List Pointer). (x.0 ∷ []) ++ flat_map pointer_text x.1) (λ x. ((x.0 < 2 ^ 8) × (is_width x.0 ≡ true)) × ((length x.1 ≡ x.0) × AllByRecursion (IsPointer len) x.1))
    slice_text (λ ps. (length ps ≤ 3) × AllByRecursion (IsPointer len) ps) (λ x. x.1) (λ ps. (length ps, ps))
unfolding slice_text
slice_made len = record {
  text = λ x form. ap (λ (n : ℕ). (n ∷ []) ++ flat_map pointer_text x.1) form.1.0;
  form = λ x form. (subst (λ (n : ℕ). n ≤ 3) (sym form.1.0) (leb-true _ _ form.0.1), form.1.1);
  back = λ ps form. ((omega (arith, form.0), le-leb _ _ form.0), (refl, form.1));
  same = λ ps form. refl;
}

pub slice_codec : (len : ℕ) → Codec slice_text (IsSlice len) (slice_at len)
unfolding slice_at
slice_codec len = codec_form
    (λ ps form. record { slice = form.1; each = form.0.1 })
    (λ ps form. ((few ps form.slice, form.each), form.slice))
    (codec_only is_slice (codec_as (slice_made len) (codec_then (codec_only is_width byte_codec) (λ n f. codec_many (pointer_codec len) n))))

part_takes : (len : ℕ) (bytes : List ℕ) (x : Option (List Pointer) × List ℕ) → IsBytes bytes → part_at len bytes ≡ Some x → Takes bytes (part_text x.0) x.1 × IsPart len x.0
unfolding part_at part_text
part_takes len [] x fits e = absurd cc
part_takes len (zero ∷ bytes) x fits e =
    subst (λ (y : Option (List Pointer) × List ℕ). Takes (0 ∷ bytes) (part_text y.0) y.1 × IsPart len y.0) (some_is (None, bytes) x e) (record { parts = refl; rest_fits = IsBytes-rest 0 bytes fits }, tt)
part_takes len (suc zero ∷ bytes) x fits e =
    let b = bind_some (slice_at len bytes) (λ s. Some (Some s.0, s.1)) x e in
    let t = (slice_codec len).takes bytes b.0 (IsBytes-rest 1 bytes fits) b.1 in
    subst (λ (y : Option (List Pointer) × List ℕ). Takes (1 ∷ bytes) (part_text y.0) y.1 × IsPart len y.0) (some_is (Some b.0.0, b.0.1) x b.2)
    (record { parts = ap (λ (w : List ℕ). 1 ∷ w) t.0.parts; rest_fits = t.0.rest_fits }, t.1)
part_takes len (suc (suc n) ∷ bytes) x fits e = absurd cc

part_again : (len : ℕ) (o : Option (List Pointer)) (rest : List ℕ) → IsPart len o → part_at len (part_text o ++ rest) ≡ Some (o, rest)
unfolding part_at part_text
part_again len None rest form = refl
part_again len (Some ps) rest form = ap (λ o. o >>= λ s. Some (Some s.0, s.1)) ((slice_codec len).again ps rest form)

pub part_codec : (len : ℕ) → Codec part_text (IsPart len) (part_at len)
part_codec len = record { takes = part_takes len; again = part_again len }

-- ---- entries

and_both : (a b : Bool) → (a && b) ≡ true → (a ≡ true) × (b ≡ true)
and_both true b h = (refl, h)
and_both false b h = absurd (cc)

is_within-true : (end : ℕ) (e : EntryRow) → is_within end e ≡ true → (0 < e.len) × (e.off + e.len ≤ end)
is_within-true end e h = let both = and_both (ltb 0 e.len) (leb (e.off + e.len) end) h in (ltb-true _ _ both.0, leb-true _ _ both.1)

true-is_within : (end : ℕ) (e : EntryRow) → 0 < e.len → e.off + e.len ≤ end → is_within end e ≡ true
true-is_within end e some le = ap (λ b. b && leb (e.off + e.len) end) (lt-ltb 0 e.len some) ∙ le-leb (e.off + e.len) end le

entry_made : IsMade (λ (x : ℕ × (ℕ × Option (List Pointer))). to_be_bytes w32 x.0 ++ (to_be_bytes w32 x.1.0 ++ part_text x.1.1)) (λ x. (x.0 < 2 ^ 32) × ((x.1.0 < 2 ^ 32) × IsPart x.1.0 x.1.1))
    entry_text (λ e. (e.off < 2 ^ 32) × ((e.len < 2 ^ 32) × IsPart e.len e.part)) make_entry (λ e. (e.off, (e.len, e.part)))
unfolding entry_text
entry_made = record {
  text = λ x form. refl;
  form = λ x form. form;
  back = λ e form. form;
  same = λ e form. refl;
}

pub entry_codec : (end : ℕ) → Codec entry_text (IsEntry end) (entry_at end)
unfolding entry_at
entry_codec end = codec_form
    (λ e form. let in_region = is_within-true end e form.1 in record { off = form.0.0; len = form.0.1.0; some = in_region.0; within = in_region.1; part = form.0.1.1 })
    (λ e form. ((form.off, (form.len, form.part)), true-is_within end e form.some form.within))
    (codec_only (is_within end) (codec_as entry_made (codec_then codec32 (λ off f. codec_then codec32 (λ len g. part_codec len)))))
