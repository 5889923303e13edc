-- A fault of a list that was not read comes only where bytes of a file are taken that are there.
use Rattle.std.proofs.Common.{◌≡◌, ℕ, ◌-◌, ◌*◌, ◌<◌, ◌≤◌, min, List, length, drop, Some, Ok, sym, ap, ◌∙◌, subst, arith}
use Rattle.std.proofs.lemmas.List.{length-take, length-drop}
use Rattle.wtf_base.specs.declared.fault.Fault.{Fault}
use Rattle.wtf_base.specs.declared.fault.Fault.TheVariants as fault
use Rattle.wtf_base.specs.declared.ids.InodeId.{InodeId}
use Rattle.wtf_base.specs.declared.settings.Settings.{Settings}
use Rattle.wtf_dev.specs.Store.{StoreKind, KindLaws}
use Rattle.wtf_kv.proofs.EditLaws.{Agree-itself}
use Rattle.wtf_model.specs.declared.answer.Answer.{Answer}
use Rattle.wtf_model.specs.declared.answer.Answer.TheVariants as answer
use Rattle.wtf_model.specs.declared.limits.TheConstants.{MAX_REGIONS}
use Rattle.wtf_model.specs.declared.op.Op.TheVariants as op
use Rattle.wtf_model.specs.Done.{Done, bytes_of_handle, part}
use Rattle.wtf_model.specs.Call.{call}
use Rattle.wtf_model.specs.Lawful.{MayFailYank, MayFailConcat}
use Rattle.wtf_model.proofs.SliceLaws.{yank-open, concat-fits}
use Rattle.wtf_meta.specs.declared.session.Handle.{Handle}
use Rattle.wtf_meta.specs.Bytes.{FileBytes, MapBytes, any_slice}
use Rattle.wtf_meta.specs.Files.{file_len}
use Rattle.wtf_meta.specs.FileEdits.{file_of}
use Rattle.wtf_meta.specs.Maps.{Map}
use Rattle.wtf_meta.specs.Sessions.{SessionView, handle_in}
use Rattle.wtf_meta.specs.Calls.{cap_for}
use Rattle.wtf_meta.proofs.Named.{file_bytes}
use Rattle.wtf_index.specs.Checks.{target_of}
use Rattle.wtf_index.proofs.Checked.{target-free}
use Rattle.wtf_region.specs.declared.dev.Dev.{Dev}
use Rattle.wtf_region.specs.Devs.{IsSoundDev, inside_of}
use Rattle.wtf_region.specs.Reads.{LacksRegion}
use Rattle.wtf_steps.specs.Faults.{MayStandFor, MayFault}
use Rattle.wtf_steps.specs.Recorded.{found_in}
use Rattle.wtf_steps.proofs.FaultWays.{IsOfServers, file_fault_known}
use Rattle.wtf_steps.proofs.FileWays.{file_len_cap}
use Rattle.wtf_steps.proofs.Ways.{on_file}
use Rattle.wtf_slicing.specs.Recorded.{files_keys}
use Rattle.wtf_slicing.specs.Sources.{sources_of, lens_of, LacksFile}
use Rattle.wtf_slicing.proofs.FileLists.{sources-found, lens_agree}
use Rattle.wtf_slicing.proofs.FileReads.{map_later}

may_yank : (servers f n label k : ℕ) (d : Answer) (why : Fault) → 0 < k → d ≡ answer.Len k → IsOfServers servers why
    → MayStandFor servers (op.Yank f n label) d why
may_yank servers f n label k d (fault.Read j) some is known = subst (λ (a : Answer). MayFailYank servers a (answer.FaultRead j.0)) (sym is) (some, known)
may_yank servers f n label k d (fault.Damaged j) some is known = subst (λ (a : Answer). MayFailYank servers a (answer.Damaged j.0)) (sym is) (some, known)
may_yank servers f n label k d fault.Memory some is known = tt
may_yank servers f n label k d fault.Write some is known = absurd known
may_yank servers f n label k d (fault.Punch j) some is known = absurd known

-- bytes that are to be kept as a slice
pub yank_due : {S : Type 0} {kind : StoreKind S} → KindLaws kind → (old new : Dev S) (w : Map) (s : SessionView) (f n label k : ℕ) (h : Handle) (why : Fault)
    → handle_in s f ≡ Some h
    → k ≡ found_in old.settings.region w h n → IsSoundDev kind old → FileBytes (inside_of kind old) any_slice (file_of h.inode w)
    → LacksRegion kind old new (file_of h.inode w) h.off k why
    → MayFault old.settings w s (op.Yank f n label) why
yank_due laws old new w s f n label k h why here count sound inside lacks = λ x told T size st holds.
    let on = on_file x told w s T st holds f h here in
    let all : List ℕ = bytes_of_handle T on.handle in
    let off : ℕ = on.handle.off in
    let some : 0 < k = lacks.some in
    let own : k ≡ found_in x.size w h n = count ∙ ap (λ (z : ℕ). found_in z w h n) (sym size) in
    let low : length all ≤ MAX_REGIONS * x.size = subst (λ (m : ℕ). m ≤ MAX_REGIONS * x.size) on.body.bytes_are.len
    (file_len_cap x.size (file_of h.inode w) on.body.file) in
    let taken : length (part off n all) ≡ min n (length all - off) = length-take n (drop off all) ∙ ap (λ (m : ℕ). min n m) (length-drop off all) in
    may_yank old.settings.servers f n label (length (part off n all)) (call (cap_for x) T (op.Yank f n label)).answer why
    (omega (arith, some, own, taken, low, on.body.bytes_are.len, on.of.off))
    (ap (λ (d : Done). d.answer) (yank-open (cap_for x) T f n label on.handle on.there))
    (file_fault_known laws old new (file_of h.inode w) h.off k why sound inside lacks)

may_concat : (servers : ℕ) (q : List ℕ) (ps : List (List ℕ)) (d : Answer) (why : Fault) → d ≡ answer.Okay → IsOfServers servers why
    → MayStandFor servers (op.Concat q ps) d why
may_concat servers q ps d (fault.Read j) is known = subst (λ (a : Answer). MayFailConcat servers a (answer.FaultRead j.0)) (sym is) known
may_concat servers q ps d (fault.Damaged j) is known = subst (λ (a : Answer). MayFailConcat servers a (answer.Damaged j.0)) (sym is) known
may_concat servers q ps d fault.Memory is known = tt
may_concat servers q ps d fault.Write is known = absurd known
may_concat servers q ps d (fault.Punch j) is known = absurd known

-- the server of which a list of one of files was not read is of the settings
files_fault_known : {S : Type 0} {kind : StoreKind S} → KindLaws kind → (old new : Dev S) (w : Map) (is : List InodeId) (why : Fault) → IsSoundDev kind old
    → MapBytes (inside_of kind old) any_slice w
    → LacksFile kind old new w is why → IsOfServers old.settings.servers why
files_fault_known {kind = kind} laws old new w is why sound inside lacks =
    subst (λ (st : Settings). IsOfServers st.servers why) lacks.goes.settings
    (file_fault_known laws lacks.mid new (file_of lacks.inode w) 0 (file_len old.settings.region (file_of lacks.inode w)) why lacks.goes.sound
    (file_bytes (inside_of kind lacks.mid) any_slice lacks.inode w (map_later laws sound lacks.goes w inside)) lacks.cause)

-- files that are to be put together
pub concat_due : {S : Type 0} {kind : StoreKind S} → KindLaws kind
    → (old new : Dev S) (w : Map) (s : SessionView) (q dir : List ℕ) (ps : List (List ℕ)) (is : List InodeId) (why : Fault) → target_of w q ≡ Ok dir
    → sources_of w ps ≡ Ok is → lens_of old.settings.region w is ≤ MAX_REGIONS * old.settings.region → IsSoundDev kind old
    → MapBytes (inside_of kind old) any_slice w → LacksFile kind old new w is why
    → MayFault old.settings w s (op.Concat q ps) why
concat_due laws old new w s q dir ps is why free found fit sound inside lacks = λ x told T size st holds.
    let files = sources-found x.size told x.tx x.calls w T.tree st ps is found in
    let len : lens_of x.size w is ≡ length files.bytes = lens_agree x.size told w w is files.bytes (Agree-itself (files_keys w is) w) files.bodies in
    let small : lens_of x.size w is ≤ MAX_REGIONS * x.size = subst (λ (z : ℕ). lens_of z w is ≤ MAX_REGIONS * z) (sym size) fit in
    may_concat old.settings.servers q ps (call (cap_for x) T (op.Concat q ps)).answer why
    (ap (λ (d : Done). d.answer)
    (concat-fits (cap_for x) T q ps files.bytes (target-free x.size told x.tx x.calls w T.tree st q dir free) files.sources_are (omega (arith, small, len))))
    (files_fault_known laws old new w is why sound inside lacks)
