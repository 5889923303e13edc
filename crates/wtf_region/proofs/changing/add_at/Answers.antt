use Rattle.std.proofs.Common.{◌≡◌, ℕ, ◌+◌, ◌*◌, ◌<◌, ◌≤◌, ◌++◌, [], ◌∷◌, List, arith, ap, subst}
use Rattle.wtf_occ.proofs.AttemptLaws.{Grows-on}
use Rattle.wtf_overlay.specs.declared.part.Piece.{Piece}
use Rattle.wtf_meta.specs.Files.{file_len}
use Rattle.wtf_meta.specs.FileEdits.{PushRel, edit_of}
use Rattle.wtf_region.specs.Edited.{Edited, LaysPieces}
use Rattle.wtf_region.proofs.PieceEdits.{adds_none, adds_rel, adds_laid}
use Rattle.wtf_region.proofs.changing.add_at.Goals as goal

pub returns-then-len-eq0-clause-added : goal.returns-then-len-eq0-clause-added
returns-then-len-eq0-clause-added c v is =
    adds_none c.args.settings.region c.args.inode v c.args.pieces.now c.args.at.now (omega (arith, c.bytes_of-len.ensures, c.if-len-eq0.true))

pub returns-then-has_room-clause-added : goal.returns-then-has_room-clause-added
returns-then-has_room-clause-added c v is =
    let i = c.args.inode in
    let b = c.args.settings.region in
    let e = c.args.end in
    let at = c.record_last.new.at in
    let room : e.off + c.bytes_of-len.result ≤ b = c.has_room.ensures.room c.if-has_room.true in
    adds_rel b i v e.region c.args.pieces.now c.args.at.now at c.delta.new.self (omega (arith, c.args.settings.limits)) (omega (arith, c.args.settings.limits))
    (λ none. c.if-len-eq0.false (omega (arith, none, c.bytes_of-len.ensures))) (omega (arith, is.off, room, c.bytes_of-len.ensures, c.args.settings.limits))
    is.region c.in_ok-record_last.ensures.recorded
    (subst (λ (qs : List Piece). c.delta.new.self ≡ record at { changes = at.changes ++ edit_of i (PushRel e.region qs b) ∷ [] }) c.in_ok-pieces.ensures
    c.in_ok-delta.ensures.ok)

pub returns-clause-added : goal.returns-clause-added
returns-clause-added c v is =
    let i = c.args.inode in
    let b = c.args.settings.region in
    let ps = c.args.pieces.now in
    let e = c.args.end in
    let at = c.record_length.new.at in
    let full : b < e.off + c.bytes_of-len.result = c.has_room.ensures.full c.if-has_room.false in
    let off : e.region * b + e.off ≡ file_len b v = omega (arith, is.off, ap (λ (r : ℕ). r * b) is.region) in
    adds_laid b i v ps c.args.at.now at c.put_pieces.new.at
    (λ none. c.if-len-eq0.false (omega (arith, none, c.bytes_of-len.ensures))) (omega (arith, is.off, full, c.bytes_of-len.ensures))
    (c.in_ok-record_length.ensures.recorded v is)
    (subst (λ (o : ℕ). Edited i [] (LaysPieces b o i ps) at c.put_pieces.new.at) off c.in_ok-put_pieces.ensures.ok)

pub returns-in_err-delta-clause-grows : goal.returns-in_err-delta-clause-grows
returns-in_err-delta-clause-grows c =
    Grows-on c.args.at.now c.record_last.new.at c.delta.new.self c.in_ok-record_last.ensures.grows c.in_err-delta.ensures.grows

pub returns-then-has_room-clause-grows : goal.returns-then-has_room-clause-grows
returns-then-has_room-clause-grows c =
    Grows-on c.args.at.now c.record_last.new.at c.delta.new.self c.in_ok-record_last.ensures.grows c.in_ok-delta.ensures.grows

pub returns-in_err-put_pieces-clause-grows : goal.returns-in_err-put_pieces-clause-grows
returns-in_err-put_pieces-clause-grows c =
    Grows-on c.args.at.now c.record_length.new.at c.put_pieces.new.at c.in_ok-record_length.ensures.grows c.in_err-put_pieces.ensures.grows

pub returns-clause-grows : goal.returns-clause-grows
returns-clause-grows c =
    Grows-on c.args.at.now c.record_length.new.at c.put_pieces.new.at c.in_ok-record_length.ensures.grows c.in_ok-put_pieces.ensures.grows
