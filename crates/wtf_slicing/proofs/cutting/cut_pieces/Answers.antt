use Rattle.std.proofs.Common.{◌≡◌, ◌+◌, ◌≤◌, List, Some, sym, ap, ◌∙◌, subst, arith}
use Rattle.std.specs.Option.{option_copied}
use Rattle.wtf_overlay.specs.Origin.{Plans, pieces_len, pieces_origin}
use Rattle.wtf_overlay.specs.declared.part.Piece.{Piece}
use Rattle.wtf_meta.specs.Sessions.{SessionView, slice_in}
use Rattle.wtf_slicing.proofs.Parts.{within_of, plans_some, byte_of, rest_of, rest_len, rest_plans}
use Rattle.wtf_slicing.proofs.cutting.cut_pieces.Goals as goal

pub copy_part-requires-clause-within : goal.copy_part-requires-clause-within
copy_part-requires-clause-within c =
    let t = c.index.new.self in
    let k = c.in-Some.begin.piece in
    let skip = c.in-Some.begin.skip in
    let ps = c.in-Some-slice.pieces.now in
    let there : slice_in t c.args.from ≡ Some ps = sym c.slice.ensures ∙ ap option_copied c.in-Some-slice.is in
    let was : slice_in c.args.s.now c.args.from ≡ Some ps = ap (λ (v : SessionView). slice_in v c.args.from) (sym c.index.ensures) ∙ there in
    let at = byte_of (slice_in t c.args.from) ps c.args.off k skip there c.in-Some.ensures.found in
    let within : c.args.off + c.args.len ≤ pieces_len ps = within_of (slice_in c.args.s.now c.args.from) ps (c.args.off + c.args.len) was c.requires.within in
    omega (arith, ap pieces_len (rest_of ps k), rest_len ps c.args.off k skip at, within)

pub returns-clause-part : goal.returns-clause-part
returns-clause-part c =
    let t = c.index.new.self in
    let k = c.in-Some.begin.piece in
    let skip = c.in-Some.begin.skip in
    let ps = c.in-Some-slice.pieces.now in
    let out = c.in_ok-part.part.items in
    let n = c.args.len in
    let there : slice_in t c.args.from ≡ Some ps = sym c.slice.ensures ∙ ap option_copied c.in-Some-slice.is in
    let was : slice_in c.args.s.now c.args.from ≡ Some ps = ap (λ (v : SessionView). slice_in v c.args.from) (sym c.index.ensures) ∙ there in
    let at = byte_of (slice_in t c.args.from) ps c.args.off k skip there c.in-Some.ensures.found in
    plans_some (slice_in c.args.s.now c.args.from) ps out c.args.off n was
    (rest_plans ps out c.args.off k skip n at (subst (λ (l : List Piece). Plans out n (λ i. pieces_origin l (skip + i))) (rest_of ps k) c.in_ok-part.ensures))
