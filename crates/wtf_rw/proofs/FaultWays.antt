-- A fault of the stores comes only where the definitions' call shows bytes, or takes those that were to be stored.
use Rattle.std.proofs.Common.{◌≡◌, ℕ, ◌+◌, ◌-◌, ◌*◌, ◌<◌, ◌≤◌, min, List, [], ◌∷◌, length, drop, Some, sym, ap, ◌∙◌, subst, arith, inl, inr}
use Rattle.std.proofs.lemmas.List.{length-take, length-drop}
use Rattle.wtf_base.specs.declared.fault.Fault.{Fault}
use Rattle.wtf_base.specs.declared.fault.Fault.TheVariants as fault
use Rattle.wtf_base.specs.declared.settings.Settings.{Settings}
use Rattle.wtf_dev.specs.Store.{StoreKind, KindLaws}
use Rattle.wtf_overlay.specs.declared.part.Piece.{Piece}
use Rattle.wtf_replica.specs.Faults.{IsWriteFault}
use Rattle.wtf_replica.specs.Spans.{Span}
use Rattle.wtf_model.specs.declared.answer.Answer.{Answer}
use Rattle.wtf_model.specs.declared.answer.Answer.TheVariants as answer
use Rattle.wtf_model.specs.declared.limits.TheConstants.{MAX_REGIONS}
use Rattle.wtf_model.specs.declared.op.Op.TheVariants as op
use Rattle.wtf_model.specs.Done.{Done, bytes_of_handle, part}
use Rattle.wtf_model.specs.Call.{call}
use Rattle.wtf_model.specs.Lawful.{MayFailRead, MayFailWrite}
use Rattle.wtf_model.proofs.CallLaws.{call-read}
use Rattle.wtf_meta.specs.declared.session.Handle.{Handle}
use Rattle.wtf_meta.specs.Bytes.{PiecesBytes, FileBytes, any_slice}
use Rattle.wtf_meta.specs.Files.{FileView, IsFile, file_len}
use Rattle.wtf_meta.specs.FileEdits.{file_of}
use Rattle.wtf_meta.specs.Maps.{Map}
use Rattle.wtf_meta.specs.Sessions.{SessionView, handle_in}
use Rattle.wtf_meta.specs.Calls.{cap_for}
use Rattle.wtf_meta.proofs.Places.{apart}
use Rattle.wtf_region.specs.declared.dev.Dev.{Dev}
use Rattle.wtf_region.specs.Devs.{IsSoundDev, inside_of}
use Rattle.wtf_region.specs.Inside.{is_inside}
use Rattle.wtf_region.specs.Reads.{LacksRegion}
use Rattle.wtf_region.specs.Showing.{IsShowFault, pieces_in}
use Rattle.wtf_steps.specs.Faults.{MayStandFor, MayFault}
use Rattle.wtf_steps.specs.Recorded.{found_in}
use Rattle.wtf_rw.specs.Stored.{HasRoom}
use Rattle.wtf_model.proofs.ByteLaws.{write-open, append-open}
use Rattle.wtf_steps.proofs.Ways.{on_file}
use Rattle.wtf_steps.proofs.FileWays.{file_len_cap}
pub use Rattle.wtf_steps.proofs.FaultWays.{pieces_in-All, All-middle, some_byte, servers_known, lacks_known, IsOfServers, file_fault_known}

-- bytes that are to be written
may_write : {S : Type 0} (kind : StoreKind S) (t : Span S) (settings : Settings) (f : ℕ) (bytes : List ℕ) (d : Answer) (why : Fault) → 0 < length bytes
    → d ≡ answer.Okay
    → IsWriteFault kind t settings why → MayStandFor settings.servers (op.Write f bytes) d why
may_write kind t settings f [] d why some is cause = absurd (omega arith)
may_write kind t settings f (b ∷ bs) d fault.Write some is cause = subst (λ (a : Answer). MayFailWrite a answer.FaultWrite) (sym is) tt
may_write kind t settings f (b ∷ bs) d (fault.Read k) some is cause = absurd cause
may_write kind t settings f (b ∷ bs) d (fault.Punch k) some is cause = absurd cause
may_write kind t settings f (b ∷ bs) d (fault.Damaged k) some is cause = absurd cause
may_write kind t settings f (b ∷ bs) d fault.Memory some is cause = absurd cause

may_append : {S : Type 0} (kind : StoreKind S) (t : Span S) (settings : Settings) (f : ℕ) (bytes : List ℕ) (d : Answer) (why : Fault) → 0 < length bytes
    → d ≡ answer.Okay
    → IsWriteFault kind t settings why → MayStandFor settings.servers (op.Append f bytes) d why
may_append kind t settings f [] d why some is cause = absurd (omega arith)
may_append kind t settings f (b ∷ bs) d fault.Write some is cause = subst (λ (a : Answer). MayFailWrite a answer.FaultWrite) (sym is) tt
may_append kind t settings f (b ∷ bs) d (fault.Read k) some is cause = absurd cause
may_append kind t settings f (b ∷ bs) d (fault.Punch k) some is cause = absurd cause
may_append kind t settings f (b ∷ bs) d (fault.Damaged k) some is cause = absurd cause
may_append kind t settings f (b ∷ bs) d fault.Memory some is cause = absurd cause

pub write_due : {S : Type 0} (kind : StoreKind S) (t : Span S) (settings : Settings) (w : Map) (s : SessionView) (f : ℕ) (h : Handle) (bytes : List ℕ)
    (why : Fault) → handle_in s f ≡ Some h
    → 0 < length bytes → h.off + length bytes ≤ MAX_REGIONS * settings.region → IsWriteFault kind t settings why → MayFault settings w s (op.Write f bytes) why
write_due kind t settings w s f h bytes why here some fit cause = λ x told T size st holds.
    let on = on_file x told w s T st holds f h here in may_write kind t settings f bytes (call (cap_for x) T (op.Write f bytes)).answer why some
    (ap (λ (d : Done). d.answer) (write-open (cap_for x) T f on.handle on.there bytes some (omega (arith, fit, size, on.of.off)))) cause

-- room in the last region is room below the greatest length
room_fits : (b : ℕ) (v : FileView) (n : ℕ) → IsFile b v → HasRoom b v n → file_len b v + n ≤ MAX_REGIONS * b
room_fits b v n is (inl in_region) = omega (arith, apart b v.last MAX_REGIONS is.few, in_region)
room_fits b v n is (inr fit) = fit

pub append_due : {S : Type 0} (kind : StoreKind S) (t : Span S) (settings : Settings) (w : Map) (s : SessionView) (f : ℕ) (h : Handle) (bytes : List ℕ)
    (why : Fault) → handle_in s f ≡ Some h
    → 0 < length bytes → HasRoom settings.region (file_of h.inode w) (length bytes) → IsWriteFault kind t settings why
    → MayFault settings w s (op.Append f bytes) why
append_due kind t settings w s f h bytes why here some room cause = λ x told T size st holds.
    let on = on_file x told w s T st holds f h here in
    let own : HasRoom x.size (file_of h.inode w) (length bytes) = subst (λ (z : ℕ). HasRoom z (file_of h.inode w) (length bytes)) (sym size) room in
    let fit = room_fits x.size (file_of h.inode w) (length bytes) on.body.file own in
    may_append kind t settings f bytes (call (cap_for x) T (op.Append f bytes)).answer why some
    (ap (λ (d : Done). d.answer) (append-open (cap_for x) T f on.handle on.there bytes (omega (arith, fit, on.body.bytes_are.len)))) cause

may_read : (servers f n : ℕ) (bytes : List ℕ) (d : Answer) (why : Fault) → 0 < length bytes → d ≡ answer.Shown bytes → IsOfServers servers why
    → MayStandFor servers (op.Read f n) d why
may_read servers f n [] d why some is known = absurd (omega arith)
may_read servers f n (b ∷ bs) d (fault.Read k) some is known = subst (λ (a : Answer). MayFailRead servers a (answer.FaultRead k.0)) (sym is) known
may_read servers f n (b ∷ bs) d (fault.Damaged k) some is known = subst (λ (a : Answer). MayFailRead servers a (answer.Damaged k.0)) (sym is) known
may_read servers f n (b ∷ bs) d fault.Memory some is known = tt
may_read servers f n (b ∷ bs) d fault.Write some is known = absurd known
may_read servers f n (b ∷ bs) d (fault.Punch k) some is known = absurd known

-- bytes that are to be shown
shows_due : (settings : Settings) (w : Map) (s : SessionView) (f n k : ℕ) (h : Handle) (why : Fault) → handle_in s f ≡ Some h
    → k ≡ found_in settings.region w h n → 0 < k → IsOfServers settings.servers why
    → MayFault settings w s (op.Read f n) why
shows_due settings w s f n k h why here count some known = λ x told T size st holds.
    let on = on_file x told w s T st holds f h here in
    let all : List ℕ = bytes_of_handle T on.handle in
    let off : ℕ = on.handle.off in
    let own : k ≡ found_in x.size w h n = count ∙ ap (λ (z : ℕ). found_in z w h n) (sym size) in
    let low : length all ≤ MAX_REGIONS * x.size = subst (λ (m : ℕ). m ≤ MAX_REGIONS * x.size) on.body.bytes_are.len
    (file_len_cap x.size (file_of h.inode w) on.body.file) in
    let shown : length (part off n all) ≡ min n (length all - off) = length-take n (drop off all) ∙ ap (λ (m : ℕ). min n m) (length-drop off all) in
    may_read settings.servers f n (part off n all) (call (cap_for x) T (op.Read f n)).answer why
    (omega (arith, some, own, shown, low, on.body.bytes_are.len, on.of.off))
    (ap (λ (d : Done). d.answer) (call-read (cap_for x) T f n on.handle on.there)) known

pub read_due : {S : Type 0} (kind : StoreKind S) (t : Span S) (shelf : List S) (settings : Settings) (w : Map) (s : SessionView) (f n k : ℕ) (h : Handle)
    (ps : List Piece) (why : Fault)
    → handle_in s f ≡ Some h → settings.servers ≤ length shelf → k ≡ found_in settings.region w h n → PiecesBytes (is_inside kind shelf settings) ps
    → IsShowFault kind t (pieces_in 0 k ps) why → MayFault settings w s (op.Read f n) why
read_due kind t shelf settings w s f n k h ps fault.Memory here enough count named cause = λ x told T size st holds. tt
read_due kind t shelf settings w s f n k h ps fault.Write here enough count named cause = absurd cause
read_due kind t shelf settings w s f n k h ps (fault.Punch j) here enough count named cause = absurd cause
read_due kind t shelf settings w s f n k h ps (fault.Damaged j) here enough count named cause = absurd cause
read_due kind t shelf settings w s f n k h ps (fault.Read j) here enough count named cause =
    shows_due settings w s f n k h (fault.Read j) here count (some_byte k ps cause.before cause.piece cause.after cause.split)
    (lacks_known kind t shelf settings k j.0 ps enough named cause)

-- and lists that are to be read for them
pub list_due : {S : Type 0} {kind : StoreKind S} → KindLaws kind → (old new : Dev S) (w : Map) (s : SessionView) (f n k : ℕ) (h : Handle) (why : Fault)
    → handle_in s f ≡ Some h → k ≡ found_in old.settings.region w h n
    → IsSoundDev kind old → FileBytes (inside_of kind old) any_slice (file_of h.inode w) → LacksRegion kind old new (file_of h.inode w) h.off k why
    → MayFault old.settings w s (op.Read f n) why
list_due laws old new w s f n k h why here count sound inside lacks =
    shows_due old.settings w s f n k h why here count lacks.some (file_fault_known laws old new (file_of h.inode w) h.off k why sound inside lacks)
