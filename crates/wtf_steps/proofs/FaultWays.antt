-- Bytes that were not shown, and lists that were not read: some bytes were due, and the server that failed is one of the settings.
use Rattle.std.proofs.Common.{◌≡◌, ℕ, zero, suc, ◌+◌, ◌-◌, ◌<◌, ◌≤◌, nat_eq, nat_le, Bool, true, false, List, [], ◌∷◌, ◌++◌, length, map, if◌then◌else◌, Option}
use Rattle.std.proofs.Common.{None, Some, refl, sym, ap, ◌∙◌, subst, arith}
use Rattle.std.specs.Prelude.{⊤}
use Rattle.std.specs.List.{All}
use Rattle.std.proofs.lemmas.Bool.{and_parts}
use Rattle.std.proofs.lemmas.List.{length-append}
use Rattle.std.proofs.lemmas.List.Elements.{All-nil, All-cons, All-head, All-tail}
use Rattle.std.proofs.lemmas.Option.{slice_get_within, get_or_from_slice_get}
use Rattle.wtf_base.specs.declared.fault.Fault.{Fault}
use Rattle.wtf_base.specs.declared.fault.Fault.TheVariants as fault
use Rattle.wtf_base.specs.declared.pointer.Pointer.{Pointer}
use Rattle.wtf_base.specs.declared.settings.Settings.{Settings}
use Rattle.wtf_base.specs.declared.slice.Slice.{Slice}
use Rattle.wtf_base.specs.Slices.{pointers_of}
use Rattle.wtf_base.specs.Places.{place_in}
use Rattle.wtf_dev.specs.Store.{StoreKind, KindLaws}
use Rattle.wtf_overlay.specs.declared.part.Part.{Part}
use Rattle.wtf_overlay.specs.declared.part.Part.TheVariants.{Held}
use Rattle.wtf_overlay.specs.declared.part.Piece.{Piece}
use Rattle.wtf_replica.specs.Faults.{last_server}
use Rattle.wtf_replica.specs.Spans.{Span}
use Rattle.wtf_values.specs.declared.region.RegionValue.{RegionValue}
use Rattle.wtf_values.specs.declared.region.Spill.{Spill}
use Rattle.wtf_meta.specs.Bytes.{PartBytes, PiecesBytes, SliceBytes, BaseBytes, MaybeBytes, FileBytes, any_slice}
use Rattle.wtf_meta.specs.Files.{FileView}
use Rattle.wtf_region.specs.declared.dev.Dev.{Dev}
use Rattle.wtf_region.specs.Devs.{IsSoundDev, stores, inside_of}
use Rattle.wtf_region.specs.Inside.{is_place_inside, is_inside}
use Rattle.wtf_region.specs.Reads.{IsSliceFault, IsBaseFault, IsRegionFault, LacksRegion}
use Rattle.wtf_region.specs.Showing.{LacksPiece, pieces_in}
use Rattle.wtf_region.proofs.InsideLaws.{place_from}
use Rattle.wtf_region.proofs.ListReads.{some_bytes, file_later}

-- of pieces that all are so, those that have some of the bytes are
if_All : (P : Piece → Type 0) (c : Bool) (xs ys : List Piece) → All P xs → All P ys → All P (if c then xs else ys)
if_All P true xs ys first second = first
if_All P false xs ys first second = second

pub pieces_in-All : (P : Piece → Type 0) (off n : ℕ) (ps : List Piece) → All P ps → All P (pieces_in off n ps)
pieces_in-All P off n [] all = All-nil P
pieces_in-All P off n (p ∷ ps) all =
    let rest = All-tail P p ps all in
    if_All P (nat_eq n 0) [] (if nat_le p.len off then pieces_in (off - p.len) n ps else p ∷ pieces_in 0 (n - (p.len - off)) ps) (All-nil P)
    (if_All P (nat_le p.len off) (pieces_in (off - p.len) n ps) (p ∷ pieces_in 0 (n - (p.len - off)) ps) (pieces_in-All P (off - p.len) n ps rest)
    (All-cons P p (pieces_in 0 (n - (p.len - off)) ps) (All-head P p ps all) (pieces_in-All P 0 (n - (p.len - off)) ps rest)))

pub All-middle : (P : Piece → Type 0) (before : List Piece) (p : Piece) (after : List Piece) → All P (before ++ p ∷ after) → P p
All-middle P [] p after all = All-head P p after all
All-middle P (q ∷ before) p after all = All-middle P before p after (All-tail P q (before ++ p ∷ after) all)

no_pieces : (off : ℕ) (ps : List Piece) → pieces_in off 0 ps ≡ []
no_pieces off [] = refl
no_pieces off (p ∷ ps) = refl

-- where one of the pieces was not shown, some byte was to be shown
pub some_byte : (n : ℕ) (ps before : List Piece) (p : Piece) (after : List Piece) → pieces_in 0 n ps ≡ before ++ p ∷ after → 0 < n
some_byte zero ps before p after split =
    let none : 0 ≡ length before + suc (length after) = ap length (sym (no_pieces 0 ps) ∙ split) ∙ length-append before (p ∷ after) in
    absurd (omega (arith, none))
some_byte (suc n) ps before p after split = omega arith

-- the servers of a byte's places are of the settings
pub servers_known : {S : Type 0} (kind : StoreKind S) (shelf : List S) (settings : Settings) (i : ℕ) (ps : List Pointer) → settings.servers ≤ length shelf
    → is_inside kind shelf settings (map (place_in i) ps) ≡ true → All (λ (p : Pointer). p.server.0 < settings.servers) ps
servers_known kind shelf settings i [] enough h = All-nil (λ (p : Pointer). p.server.0 < settings.servers)
servers_known kind shelf settings i (p ∷ ps) enough h =
    let both = and_parts (is_place_inside kind shelf settings (place_in i p)) (is_inside kind shelf settings (map (place_in i) ps)) h in
    All-cons (λ (q : Pointer). q.server.0 < settings.servers) p ps (place_from kind shelf settings (place_in i p) enough both.0).0
    (servers_known kind shelf settings i ps enough both.1)

last_known : (n k : ℕ) (ps : List Pointer) → k < n → All (λ (p : Pointer). p.server.0 < n) ps → last_server ps k < n
last_known n k [] low all = low
last_known n k (p ∷ ps) low all =
    last_known n p.server.0 ps (All-head (λ (q : Pointer). q.server.0 < n) p ps all) (All-tail (λ (q : Pointer). q.server.0 < n) p ps all)

-- and so is that of the copy that was tried last
pub lacks_known : {S : Type 0} (kind : StoreKind S) (t : Span S) (shelf : List S) (settings : Settings) (n k : ℕ) (ps : List Piece)
    → settings.servers ≤ length shelf
    → PiecesBytes (is_inside kind shelf settings) ps → LacksPiece kind t (pieces_in 0 n ps) k → k < settings.servers
lacks_known kind t shelf settings n k ps enough named lacks =
    let P : Piece → Type 0 = λ p. PartBytes (is_inside kind shelf settings) p.len p.part in
    let part_named : PartBytes (is_inside kind shelf settings) lacks.piece.len lacks.piece.part =
    All-middle P lacks.before lacks.piece lacks.after (subst (λ (l : List Piece). All P l) lacks.split (pieces_in-All P 0 n ps named)) in
    let slice = lacks.lacks.slice in
    let held : PartBytes (is_inside kind shelf settings) lacks.piece.len (Held slice) = subst
    (λ (q : Part). PartBytes (is_inside kind shelf settings) lacks.piece.len q) lacks.lacks.held part_named in
    let known = servers_known kind shelf settings 0 (pointers_of slice) enough (held 0 lacks.piece.positive) in
    subst (λ (j : ℕ). j < settings.servers) lacks.lacks.out.last (last_known settings.servers 0 (pointers_of slice) (omega (arith, settings.limits)) known)

-- a fault of one of n servers, or of the memory
abbrev pub IsOfServers : ℕ → Fault → Type 0
IsOfServers n (fault.Read k) = k.0 < n
IsOfServers n (fault.Damaged k) = k.0 < n
IsOfServers n fault.Memory = ⊤
IsOfServers n other = ⊥

-- the server of which the list of a slice was not read is of the settings
pub slice_fault_known : {S : Type 0} (kind : StoreKind S) (old new : Dev S) (s : Slice) (why : Fault) → IsSoundDev kind old → SliceBytes (inside_of kind old) s
    → IsSliceFault kind old new s why
    → IsOfServers old.settings.servers why
slice_fault_known kind old new s (fault.Read k) sound inside cause =
    let known = servers_known kind (stores old) old.settings 0 (pointers_of s) sound.shelf (inside 0 (some_bytes s)) in
    subst (λ (j : ℕ). j < old.settings.servers) cause.out.last (last_known old.settings.servers 0 (pointers_of s) (omega (arith, old.settings.limits)) known)
slice_fault_known kind old new s (fault.Damaged k) sound inside cause =
    let known = servers_known kind (stores old) old.settings 0 (pointers_of s) sound.shelf (inside 0 (some_bytes s)) in
    let read = cause.read in
    subst (λ (j : ℕ). j < old.settings.servers) read.server
    (subst (λ (p : Pointer). p.server.0 < old.settings.servers) (get_or_from_slice_get (pointers_of s) read.copy read.pointer read.pointer read.is_copy)
    (known read.copy read.pointer (slice_get_within (pointers_of s) read.copy read.pointer read.is_copy)))
slice_fault_known kind old new s fault.Memory sound inside cause = tt
slice_fault_known kind old new s fault.Write sound inside cause = absurd cause
slice_fault_known kind old new s (fault.Punch k) sound inside cause = absurd cause

base_fault_known : {S : Type 0} (kind : StoreKind S) (old new : Dev S) (base : Option Spill) (why : Fault) → IsSoundDev kind old
    → BaseBytes (inside_of kind old) any_slice base → IsBaseFault kind old new base why
    → IsOfServers old.settings.servers why
base_fault_known kind old new None why sound inside cause = subst (IsOfServers old.settings.servers) (sym cause) tt
base_fault_known kind old new (Some s) why sound inside cause = slice_fault_known kind old new s.slice why sound inside.0 cause

-- that of a region
pub region_fault_known : {S : Type 0} (kind : StoreKind S) (old new : Dev S) (now : Option RegionValue) (why : Fault) → IsSoundDev kind old
    → MaybeBytes (inside_of kind old) any_slice now
    → IsRegionFault kind old new now why → IsOfServers old.settings.servers why
region_fault_known kind old new None why sound inside cause = subst (IsOfServers old.settings.servers) (sym cause) tt
region_fault_known kind old new (Some v) why sound inside cause = base_fault_known kind old new v.base why sound inside.base cause

-- and that of a file
pub file_fault_known : {S : Type 0} {kind : StoreKind S} → KindLaws kind → (old new : Dev S) (file : FileView) (off n : ℕ) (why : Fault) → IsSoundDev kind old
    → FileBytes (inside_of kind old) any_slice file
    → LacksRegion kind old new file off n why → IsOfServers old.settings.servers why
file_fault_known {kind = kind} laws old new file off n why sound inside lacks =
    subst (λ (st : Settings). IsOfServers st.servers why) lacks.goes.settings
    (region_fault_known kind lacks.mid new (file.region lacks.region) why lacks.goes.sound
    (file_later laws sound lacks.goes file inside lacks.region) lacks.cause)
