-- What a peek tells of the stores, and when a fault comes in its place.
use Rattle.std.proofs.Common.{◌≡◌, ℕ, ◌+◌, ◌<◌, ◌≤◌, List, [], ◌∷◌, length, get_or, Some, sym, ap, ◌∙◌, subst, arith, zero-add}
use Rattle.wtf_base.specs.declared.fault.Fault.{Fault}
use Rattle.wtf_base.specs.declared.fault.Fault.TheVariants as fault
use Rattle.wtf_base.specs.declared.settings.Settings.{Settings}
use Rattle.wtf_dev.specs.Store.{StoreKind, KindLaws}
use Rattle.wtf_dev.specs.Each.{EachFollows}
use Rattle.wtf_overlay.specs.Origin.{Plans, pieces_len, pieces_origin}
use Rattle.wtf_overlay.specs.Meaning.{meaning}
use Rattle.wtf_overlay.specs.declared.part.Piece.{Piece}
use Rattle.wtf_replica.specs.Bytes.{byte_at}
use Rattle.wtf_replica.specs.Spans.{Span}
use Rattle.wtf_model.specs.declared.answer.Answer.{Answer}
use Rattle.wtf_model.specs.declared.answer.Answer.TheVariants as answer
use Rattle.wtf_model.specs.declared.op.Op.TheVariants as op
use Rattle.wtf_model.specs.Done.{Done, part}
use Rattle.wtf_model.specs.Call.{call}
use Rattle.wtf_model.specs.Lawful.{MayFail, MayFailPeek}
use Rattle.wtf_model.proofs.Laws.{length-part}
use Rattle.wtf_meta.specs.Bytes.{PiecesBytes}
use Rattle.wtf_meta.specs.Contents.{Told, is_told, TellBytes, PiecesTell}
use Rattle.wtf_meta.specs.Maps.{Map}
use Rattle.wtf_meta.specs.Sessions.{SessionView, slice_in}
use Rattle.wtf_meta.specs.Calls.{cap_for}
use Rattle.wtf_meta.proofs.Named.{PiecesBytes-cut, pieces_named}
use Rattle.wtf_region.specs.Inside.{is_inside}
use Rattle.wtf_region.specs.Showing.{Shown, IsShowFault, pieces_in}
use Rattle.wtf_region.proofs.ShowLaws.{told_stays, ShowsBytes-tell}
use Rattle.wtf_steps.specs.Faults.{MayFault}
use Rattle.wtf_steps.proofs.FaultWays.{some_byte, lacks_known}
use Rattle.wtf_model.proofs.SliceLaws.{peek-part}
use Rattle.wtf_slicing.proofs.Slices.{slice_of}

-- the bytes of a part that was shown are told, where those of the slice were
pub part_tells : {S : Type 0} {kind : StoreKind S} → KindLaws kind → {old new : List S} → EachFollows kind old new []
    → (ps out : List Piece) (off n : ℕ) (bytes : List ℕ) → off + n ≤ pieces_len ps
    → Plans out n (λ i. pieces_origin ps (off + i)) → Shown (byte_at kind old) n (λ j. pieces_origin out (0 + j)) [] bytes
    → PiecesBytes (is_told (byte_at kind old)) ps → PiecesTell (byte_at kind new) out bytes
part_tells {kind = kind} laws {old = old} next ps out off n bytes within plans shown whole =
    let told : Told = byte_at kind old in
    let named = PiecesBytes-cut (is_told told) ps out off n whole within plans in
    let tell = ShowsBytes-tell told n (λ j. pieces_origin out (0 + j)) shown.bytes (λ j below. pieces_named (is_told told) out (0 + j) named
    (omega (arith, below, plans.len))) shown.are in
    let same : shown.bytes ≡ bytes = sym shown.more in
    let all : TellBytes told n (λ j. pieces_origin out (0 + j)) bytes = subst (λ (l : List ℕ). TellBytes told n (λ j. pieces_origin out (0 + j)) l) same tell in
    record {
      len = plans.len ∙ all.len;
      tells = λ j below.
          told_stays laws next (pieces_origin out j) (get_or bytes j 0)
          (ap (λ (m : ℕ). meaning told (pieces_origin out m)) (sym (zero-add j)) ∙ all.tells j (omega (arith, below, plans.len)));
    }

may_peek : (servers label off n k : ℕ) (bytes : List ℕ) (d : Answer) → 0 < length bytes → d ≡ answer.Shown bytes → k < servers
    → MayFail servers (op.Peek label off n) d (answer.FaultRead k)
may_peek servers label off n k [] d some is known = absurd (omega arith)
may_peek servers label off n k (b ∷ bs) d some is known = subst (λ (a : Answer). MayFailPeek servers a (answer.FaultRead k)) (sym is) known

-- a fault comes only where the definitions' call shows bytes
pub peek_due : {S : Type 0} (kind : StoreKind S) (t : Span S) (shelf : List S) (settings : Settings) (w : Map) (s : SessionView) (label off n : ℕ)
    (ps out : List Piece) (why : Fault)
    → slice_in s label ≡ Some ps → off + n ≤ pieces_len ps → settings.servers ≤ length shelf → PiecesBytes (is_inside kind shelf settings) out
    → IsShowFault kind t (pieces_in 0 n out) why → MayFault settings w s (op.Peek label off n) why
peek_due kind t shelf settings w s label off n ps out fault.Memory there within enough named cause = λ x told T size st holds. tt
peek_due kind t shelf settings w s label off n ps out fault.Write there within enough named cause = absurd cause
peek_due kind t shelf settings w s label off n ps out (fault.Punch j) there within enough named cause = absurd cause
peek_due kind t shelf settings w s label off n ps out (fault.Damaged j) there within enough named cause = absurd cause
peek_due kind t shelf settings w s label off n ps out (fault.Read j) there within enough named cause = λ x told T size st holds.
    let sl = slice_of told w s T holds label ps there in
    let inside : off + n ≤ length sl.bytes = omega (arith, within, sl.tell.len) in
    let some : 0 < n = some_byte n out cause.before cause.piece cause.after cause.split in
    may_peek settings.servers label off n j.0 (part off n sl.bytes) (call (cap_for x) T (op.Peek label off n)).answer
    (omega (arith, some, inside, length-part n off sl.bytes))
    (ap (λ (d : Done). d.answer) (peek-part (cap_for x) T label off n sl.bytes sl.there inside))
    (lacks_known kind t shelf settings n j.0 out enough named cause)
