-- The text and the reader of a region's spilled list belong together.
use Rattle.std.proofs.Common.{◌≡◌, ℕ, zero, suc, ◌^◌, ◌<◌, ◌≤◌, true, ◌&&◌, ltb, leb, List, [], ◌∷◌, ◌++◌, Option, Some, None, refl, ap, subst, ◌∙◌}
use Rattle.std.specs.Int.{w32, to_be_bytes}
use Rattle.std.proofs.lemmas.Bool.{and_parts, ltb-true, leb-true, lt-ltb, le-leb}
use Rattle.wtf_base.specs.declared.pointer.Pointer.{Pointer}
use Rattle.wtf_overlay.specs.Texts.{slice_text}
use Rattle.wtf_overlay.specs.Shapes.{IsSlice}
use Rattle.wtf_overlay.specs.Reading.{◌>>=◌}
use Rattle.wtf_spillfmt.proofs.Codecs.{Codec, IsBytes, IsBytes-rest, Takes, IsMade, some_is, bind_some, codec_then, codec_as, codec_form, codec_only, codec32}
use Rattle.wtf_spillfmt.proofs.Forms.{slice_codec}
use Rattle.wtf_imagefmt.specs.Rows.{BaseRow}
use Rattle.wtf_imagefmt.specs.Texts.{spill_text, base_text}
use Rattle.wtf_imagefmt.specs.Shapes.{IsSpill, IsBase}
use Rattle.wtf_imagefmt.specs.Reading.{make_spill, is_seen, spill_at, base_at}

spill_made : IsMade (λ (x : ℕ × (ℕ × List Pointer)). to_be_bytes w32 x.0 ++ (to_be_bytes w32 x.1.0 ++ slice_text x.1.1))
    (λ x. (x.0 < 2 ^ 32) × ((x.1.0 < 2 ^ 32) × IsSlice x.1.0 x.1.1))
    spill_text (λ b. (b.visible < 2 ^ 32) × ((b.len < 2 ^ 32) × IsSlice b.len b.pointers)) make_spill (λ b. (b.visible, (b.len, b.pointers)))
unfolding spill_text
spill_made = record {
  text = λ x form. refl;
  form = λ x form. form;
  back = λ b form. form;
  same = λ b form. refl;
}

seen_is : (end : ℕ) (b : BaseRow) → is_seen end b ≡ true → (0 < b.visible) × (b.visible ≤ end)
seen_is end b h = let both = and_parts (ltb 0 b.visible) (leb b.visible end) h in (ltb-true _ _ both.0, leb-true _ _ both.1)

pub is_seen-by : (end : ℕ) (b : BaseRow) → 0 < b.visible → b.visible ≤ end → is_seen end b ≡ true
is_seen-by end b some le = ap (λ t. t && leb b.visible end) (lt-ltb 0 b.visible some) ∙ le-leb b.visible end le

spill_codec : (end : ℕ) → Codec spill_text (IsSpill end) (spill_at end)
unfolding spill_at
spill_codec end = codec_form
    (λ b form. let seen = seen_is end b form.1 in record { visible = form.0.0; len = form.0.1.0; some = seen.0; within = seen.1; slice = form.0.1.1 })
    (λ b form. ((form.visible, (form.len, form.slice)), is_seen-by end b form.some form.within))
    (codec_only (is_seen end) (codec_as spill_made (codec_then codec32 (λ visible f. codec_then codec32 (λ len g. slice_codec len)))))

base_takes : (end : ℕ) (bytes : List ℕ) (x : Option BaseRow × List ℕ) → IsBytes bytes → base_at end bytes ≡ Some x
    → Takes bytes (base_text x.0) x.1 × IsBase end x.0
unfolding base_at base_text
base_takes end [] x fits e = absurd cc
base_takes end (zero ∷ bytes) x fits e =
    subst (λ (y : Option BaseRow × List ℕ). Takes (0 ∷ bytes) (base_text y.0) y.1 × IsBase end y.0) (some_is (None, bytes) x e)
    (record { parts = refl; rest_fits = IsBytes-rest 0 bytes fits }, tt)
base_takes end (suc zero ∷ bytes) x fits e =
    let b = bind_some (spill_at end bytes) (λ s. Some (Some s.0, s.1)) x e in
    let t = (spill_codec end).takes bytes b.0 (IsBytes-rest 1 bytes fits) b.1 in
    subst (λ (y : Option BaseRow × List ℕ). Takes (1 ∷ bytes) (base_text y.0) y.1 × IsBase end y.0) (some_is (Some b.0.0, b.0.1) x b.2)
    (record { parts = ap (λ (w : List ℕ). 1 ∷ w) t.0.parts; rest_fits = t.0.rest_fits }, t.1)
base_takes end (suc (suc n) ∷ bytes) x fits e = absurd cc

base_again : (end : ℕ) (o : Option BaseRow) (rest : List ℕ) → IsBase end o → base_at end (base_text o ++ rest) ≡ Some (o, rest)
unfolding base_at base_text
base_again end None rest form = refl
base_again end (Some b) rest form = ap (λ o. o >>= λ s. Some (Some s.0, s.1)) ((spill_codec end).again b rest form)

pub base_codec : (end : ℕ) → Codec base_text (IsBase end) (base_at end)
base_codec end = record { takes = base_takes end; again = base_again end }
