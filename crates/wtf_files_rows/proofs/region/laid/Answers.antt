use Rattle.std.proofs.Common.{◌≡◌, ◌∙◌, ℕ, Bool, List, [], ◌∷◌, refl, sym, subst}
use Rattle.std.proofs.lemmas.List.Elements.{All-nil, All-cons}
use Rattle.wtf_base.specs.Slices.{len_of}
use Rattle.wtf_dev.specs.Memory.{mem_store}
use Rattle.wtf_occ.proofs.AttemptLaws.{map_seen-by}
use Rattle.wtf_overlay.specs.Origin.{Place}
use Rattle.wtf_overlay.specs.declared.part.Piece.{Piece}
use Rattle.wtf_values.specs.Keys.{key_cmp}
use Rattle.wtf_values.specs.Outcomes.{outcome_of}
use Rattle.wtf_meta.specs.Bytes.{PartBytes, PiecesBytes, MapBytes, any_slice}
use Rattle.wtf_meta.specs.Maps.{Map, seen}
use Rattle.wtf_meta.proofs.MapBytes.{with_bytes}
use Rattle.wtf_region.specs.Devs.{inside_of}
use Rattle.wtf_files_rows.proofs.region.laid.Goals as goal

-- the changes bring the digits, which lie inside the stores
pub returns-clause-inside : goal.returns-clause-inside
returns-clause-inside c =
    let P : List Place → Bool = inside_of mem_store c.stored.new.dev in
    let p = c.of.result in
    let of = c.of.ensures in
    let len : p.len ≡ len_of c.in_ok-slice.slice = of.len ∙ c.len-len.ensures.value in
    let here : PartBytes P p.len p.part =
    subst (λ (n : ℕ). PartBytes P n p.part) (sym len) (subst (PartBytes P (len_of c.in_ok-slice.slice)) (sym of.part) c.in_ok-slice.ensures.bytes) in
    let all : PiecesBytes P (p ∷ []) = All-cons (λ (q : Piece). PartBytes P q.len q.part) p [] here (All-nil (λ (q : Piece). PartBytes P q.len q.part)) in
    let did = c.in_ok-put_pieces.ensures.ok in
    subst (λ (w : Map). MapBytes P any_slice w) (sym (map_seen-by key_cmp outcome_of c.args.kv.now c.args.at.now c.put_pieces.new.at _ _ did.grows))
    (with_bytes P any_slice refl _ (seen c.args.kv.now c.args.at.now) (c.requires.bare P any_slice refl) (did.does.names P any_slice all))
