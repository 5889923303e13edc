-- What a dump shows is the file's bytes, and why it did not.
use Rattle.wtf_clients.proofs.Common.{if◌then◌else◌, get, le-leb, same_number_lists, Fault, InodeId, Settings, Slice, StoreKind, KindLaws, Place, pieces_origin}
use Rattle.wtf_clients.proofs.Common.{Piece, meaning, Answer, Word, NoEnt, IsDir, Long, MAX_DUMPED, MAX_REGIONS, MayFailRead, is_short, dumped, or_refusal}
use Rattle.wtf_clients.proofs.Common.{PathSet, Tree, TreeNode, Dir, File, ◌>>=◌, bytes_of, Path, Node, Folder, Value, MapBytes, any_slice, Told, HasBytes}
use Rattle.wtf_clients.proofs.Common.{lists_in, FileView, IsFile, file_len, file_origin, file_of, Map, node_of, NodeAt, Stands, FileAt, node_of-is, node-file}
use Rattle.wtf_clients.proofs.Common.{file_bytes, stands_at, Dev, TrueBut, IsSoundDev, stores, inside_of, between, IsFileRead, Shown, LacksBytes, IsOfServers}
use Rattle.wtf_clients.proofs.Common.{recalls_same, some_byte, lacks_known, file_fault_known, file_len_cap, LacksRead, fault_answer, are_apart, map_stays}
use Rattle.wtf_clients.proofs.Common.{lists_have}
use Rattle.wtf_clients.proofs.Common.{TablesView, metadata_now, AreTrue, file_answer, IsDumpAnswer, IsTrueFor, IsShownFile, IsDumped, LacksDump, any_byte}
use Rattle.wtf_clients.proofs.Common.{has_copies, no_load, HasCause, IsPlain, Dumps, ReadsBases, dump_bases, dump_bases_of, Seeing, ◌≡◌, ℕ, ◌+◌, ◌*◌, ◌<◌, ◌≤◌}
use Rattle.wtf_clients.proofs.Common.{min, nat_le, Bool, true, false, List, [], ◌∷◌, length, get_or, Option, None, Some, Result, Ok, Err, ◌≢◌, refl, sym, ap}
use Rattle.wtf_clients.proofs.Common.{◌∙◌, subst, inl, inr, ◌⊎◌, arith, zero-add}
use Rattle.wtf_overlay.specs.Origin.{Plans}
use Rattle.wtf_values.specs.declared.value.Node.TheVariants.{File as FileNode}
use Rattle.wtf_clients.proofs.{Lives.now_bytes, Lacking.AreFullLists, Lacking.memory_none, Lacking.read_caused, Staying.IsFault, Staying.fault_is}

-- a file's places from its begin on
pub plans_whole : (ps : List Piece) (n : ℕ) (f : ℕ → List Place) → Plans ps n (λ i. f (0 + i)) → Plans ps n f
plans_whole ps n f plans = record { len = plans.len; origin = λ i below. plans.origin i below ∙ ap f (zero-add i) }

-- the bytes that were shown are the file's
pub shows_file : (told : Told) (z : ℕ) (v : FileView) (ps : List Piece) (n : ℕ) (bytes out : List ℕ) → n ≡ min (file_len z v) (MAX_REGIONS * z)
    → file_len z v ≤ MAX_DUMPED → IsFile z v → HasBytes told z v bytes
    → Plans ps n (file_origin z (lists_in z told) v) → Shown told n (λ i. pieces_origin ps (0 + i)) [] out → Answer.Shown out ≡ file_answer bytes
shows_file told z v ps n bytes out is short file has plans shown =
    let cap = file_len_cap z v file in
    let len = has.len in
    let whole : length out ≡ n = ap length shown.more ∙ shown.are.len in
    let same : out ≡ bytes = same_number_lists out bytes (omega (arith, whole, is, cap, len)) (λ i below.
    let within : i < n = omega (arith, below, whole) in
    let there : meaning told (pieces_origin ps (0 + i)) ≡ Some (get_or bytes i 0) =
    ap (λ j. meaning told (pieces_origin ps j)) (zero-add i) ∙ ap (meaning told) (plans.origin i within) ∙ has.tells i in
    ap (λ l. get_or l i 0) shown.more ∙ shown.are.shows i (get_or bytes i 0) within there) in
    ap Answer.Shown same ∙ sym (ap (λ b. if b then Answer.Shown bytes else Answer.Refused Long) (le-leb (length bytes) MAX_DUMPED (omega (arith, short, len))))

-- what stands at a path, by its value
module _ (b : ℕ) (told : Told) (w : Map) where
  pub none_at : (v : Option Value) (o : Option TreeNode) → NodeAt b told w v o → node_of v ≡ None → o ≡ None
  none_at None None h is = refl
  none_at None (Some n) h is = absurd h
  none_at (Some (Value.Node n)) o h is = absurd (cc)
  none_at (Some (Value.Names s)) o h is = absurd h
  none_at (Some (Value.Count n)) o h is = absurd h
  none_at (Some (Value.Last r)) o h is = absurd h
  none_at (Some (Value.Region g)) o h is = absurd h

  pub folder_at : (v : Option Value) (o : Option TreeNode) → NodeAt b told w v o → node_of v ≡ Some Folder → o ≡ Some Dir
  folder_at None o h is = absurd (cc)
  folder_at (Some (Value.Node Folder)) None h is = absurd h
  folder_at (Some (Value.Node Folder)) (Some Dir) h is = refl
  folder_at (Some (Value.Node Folder)) (Some (File paths bytes)) h is = absurd h
  folder_at (Some (Value.Node (FileNode i))) o h is = absurd (cc)
  folder_at (Some (Value.Names s)) o h is = absurd h
  folder_at (Some (Value.Count n)) o h is = absurd h
  folder_at (Some (Value.Last r)) o h is = absurd h
  folder_at (Some (Value.Region g)) o h is = absurd h

  pub file_at : (v : Option Value) (o : Option TreeNode) (i : InodeId) → NodeAt b told w v o → node_of v ≡ Some (FileNode i) → FileAt b told w i o
  file_at v o i h is = node-file b told w v o i h (node_of-is v (FileNode i) is)

-- the definitions' answer, by what stands in the tree
abbrev answer_at : Option TreeNode → Answer
answer_at o = or_refusal (do
  bytes ← bytes_of o
  _ ← is_short bytes
  Ok (Answer.Shown bytes))

abbrev tested : Bool → Result (Unit {0}) Word
tested b = if b then Ok tt else Err Long

short_by : (b : Bool) (bytes : List ℕ) → (if b then Answer.Shown bytes else Answer.Refused Long) ≡ or_refusal (tested b >>= (λ _. Ok (Answer.Shown bytes)))
short_by true bytes = refl
short_by false bytes = refl

file_whole : (paths : PathSet) (bytes : List ℕ) → file_answer bytes ≡ answer_at (Some (File paths bytes))
file_whole paths bytes = short_by (nat_le (length bytes) MAX_DUMPED) bytes

-- lists that are true for the tables are so for the map now
pub true_now : (tables : TablesView) (size : ℕ) (told : Told) (lists : TrueBut) → AreTrue size told lists tables → IsTrueFor lists (metadata_now tables.kv)
true_now tables size told lists kept = (
  kept.ranges,
  kept.cache,
  map_stays (are_apart kept.ranges) (are_apart kept.ranges) (λ qs is. is) (lists_have size told (are_apart kept.ranges)) any_slice (λ s is. refl)
      (metadata_now tables.kv) (now_bytes (are_apart kept.ranges) (lists_have size told (are_apart kept.ranges)) tables kept.away),
)

-- so it answers of a path where nothing stands, or a directory, or a file
pub dumps_none : (z : ℕ) (told : Told) (lists : TrueBut) (w : Map) (p : List ℕ) → stands_at w p ≡ None → IsDumped z told lists w p (Answer.Refused NoEnt)
dumps_none z told lists w p is cache tx k t st = sym (ap answer_at (none_at z told w (w (Path p)) (get t p) (st.nodes p) is))

pub dumps_folder : (z : ℕ) (told : Told) (lists : TrueBut) (w : Map) (p : List ℕ) → stands_at w p ≡ Some Folder → IsDumped z told lists w p
    (Answer.Refused IsDir)
dumps_folder z told lists w p is cache tx k t st = sym (ap answer_at (folder_at z told w (w (Path p)) (get t p) (st.nodes p) is))

pub dumps_file : (z : ℕ) (told : Told) (lists : TrueBut) (w : Map) (p : List ℕ) (i : InodeId) (a : Answer) → stands_at w p ≡ Some (FileNode i) →
    IsShownFile z told lists w i a → IsDumped z told lists w p a
dumps_file z told lists w p i a is shows cache tx k t st =
    let found = file_at z told w (w (Path p)) (get t p) i (st.nodes p) is in
    shows cache st.bytes found.bytes found.body ∙ file_whole found.paths found.bytes ∙ sym (ap answer_at found.there)

-- ---- why the bytes were not shown
may_read : (servers : ℕ) (why : Fault) (a : Answer) (bytes : List ℕ) (d : Answer) → fault_answer why ≡ Some a → 0 < length bytes → d ≡ Answer.Shown bytes →
    IsOfServers servers why → MayFailRead servers d a
may_read servers why a [] d is some due known = absurd (omega (arith, some))
may_read servers (Fault.Read k) a (b ∷ bs) d is some due known =
    subst (λ (r : Answer). MayFailRead servers r a) (sym due) (subst (λ (r : Answer). MayFailRead servers (Answer.Shown (b ∷ bs)) r)
    (let e : Answer.FaultRead k.0 ≡ a = cc in e) known)
may_read servers (Fault.Damaged k) a (b ∷ bs) d is some due known =
    subst (λ (r : Answer). MayFailRead servers r a) (sym due) (subst (λ (r : Answer). MayFailRead servers (Answer.Shown (b ∷ bs)) r)
    (let e : Answer.Damaged k.0 ≡ a = cc in e) known)
may_read servers Fault.Memory a (b ∷ bs) d is some due known = absurd (memory_none Fault.Memory a is refl)
may_read servers Fault.Write a (b ∷ bs) d is some due known = absurd known
may_read servers (Fault.Punch k) a (b ∷ bs) d is some due known = absurd known

module _ {S : Type 0} {kind : StoreKind S} (laws : KindLaws kind) (old new : Dev S) (sound : IsSoundDev kind old) (w : Map) (p : List ℕ)
    (inside : MapBytes (inside_of kind old) any_slice w) where
  -- some byte was to be shown, and the server is known
  shown_known : (n : ℕ) (Are : List Piece → Type 0) (why : Fault) (a : Answer) → fault_answer why ≡ Some a → LacksBytes kind old new n Are why → (0 < n)
      × IsOfServers old.settings.servers why
  shown_known n Are (Fault.Read k) a is l = (
    some_byte n l.pieces l.fault.before l.fault.piece l.fault.after l.fault.split,
    subst (λ (st : Settings). k.0 < st.servers) l.goes.settings
        (lacks_known kind (between l.mid new) (stores l.mid) l.mid.settings n k.0 l.pieces l.goes.sound.shelf l.inside l.fault),
  )
  shown_known n Are Fault.Memory a is l = absurd (memory_none Fault.Memory a is refl)
  shown_known n Are Fault.Write a is l = absurd l.fault
  shown_known n Are (Fault.Punch k) a is l = absurd l.fault
  shown_known n Are (Fault.Damaged k) a is l = absurd l.fault

  read_known : (i : InodeId) (n : ℕ) (why : Fault) (a : Answer) → fault_answer why ≡ Some a → LacksRead kind old new (file_of i w) 0 n why → (0 < n)
      × IsOfServers old.settings.servers why
  read_known i n why a is (inl lacks) =
      (lacks.some, file_fault_known laws old new (file_of i w) 0 n why sound (file_bytes (inside_of kind old) any_slice i w inside) lacks)
  read_known i n why a is (inr lacks) = shown_known n (λ ps. IsFileRead kind old new (file_of i w) 0 n ps) why a is lacks

  -- so the machine allows the fault
  pub dump_may : (why : Fault) (a : Answer) (told : Told) (tx n : ℕ) (t : Tree) → fault_answer why ≡ Some a
      → (why ≡ Fault.Memory) ⊎ LacksDump kind old new w p why → Stands old.settings.region told tx n w t
      → MayFailRead old.settings.servers (or_refusal (dumped t p)) a
  dump_may why a told tx n t is (inl memory) st = absurd (memory_none why a is memory)
  dump_may why a told tx n t is (inr lacks) st =
      let z : ℕ = old.settings.region in
      let v : FileView = file_of lacks.inode w in
      let found = file_at z told w (w (Path p)) (get t p) lacks.inode (st.nodes p) lacks.there in
      let bytes : List ℕ = found.bytes in
      let len = found.body.bytes_are.len in
      let short = lacks.file.short in
      let count : ℕ = min (file_len z v) (MAX_REGIONS * z) in
      let known = read_known lacks.inode count why a is lacks.file.lacks in
      let some = known.0 in
      let whole : file_answer bytes ≡ Answer.Shown bytes = ap (λ b. if b then Answer.Shown bytes else Answer.Refused Long)
      (le-leb (length bytes) MAX_DUMPED (omega (arith, short, len))) in
      may_read old.settings.servers why a bytes (or_refusal (dumped t p)) is (omega (arith, some, len))
      (ap answer_at found.there ∙ sym (file_whole found.paths bytes) ∙ whole) known.1

  -- and it has its cause
  pub dump_caused : (based : (Slice → Bool) → Type 0) (full : Type 0) (O : Slice → Bool) → ((Q : Slice → Bool) → based Q → MapBytes any_byte Q w)
      → (full → MapBytes (has_copies old.settings.replicas) O w) → ((i : InodeId) (n : ℕ) → AreFullLists kind old new full O (file_of i w) 0 n)
      → (why : Fault) (a : Answer) → fault_answer why ≡ Some a → (why ≡ Fault.Memory) ⊎ LacksDump kind old new w p why
      → HasCause kind (between old new) old.settings ⊥ based full no_load a
  dump_caused based full O passes copies lists why a is (inl memory) = absurd (memory_none why a is memory)
  dump_caused based full O passes copies lists why a is (inr lacks) =
      let z : ℕ = old.settings.region in
      let v : FileView = file_of lacks.inode w in
      read_caused laws old new sound based full O why a is v 0 (min (file_len z v) (MAX_REGIONS * z)) any_byte
      (file_bytes (inside_of kind old) any_slice lacks.inode w inside)
      (λ Q c. file_bytes any_byte Q lacks.inode w (passes Q c))
      (λ c. file_bytes (has_copies old.settings.replicas) O lacks.inode w (copies c))
      (lists lacks.inode (min (file_len z v) (MAX_REGIONS * z))) lacks.file.lacks

-- what was shown or refused is no fault
pub dump_plain : (a : Answer) → IsDumpAnswer a → IsPlain a
dump_plain (Answer.Shown bytes) h = tt
dump_plain (Answer.Refused w) h = tt
dump_plain a h = absurd h

-- a dump that is refused reads no list
pub no_bases : {S : Type 0} (kind : StoreKind S) (dev : Dev S) (w : Map) (p : List ℕ) (word : Word)
    → ReadsBases kind dev dev (dump_bases dev.settings.region w p (Answer.Refused word))
no_bases kind dev w p word = record { facts = []; recalls = recalls_same kind dev dev refl; wants = by (stands_at w p) }
  where
    by : (o : Option Node) → [] ≡ dump_bases_of dev.settings.region w o (Answer.Refused word)
    by None = refl
    by (Some Folder) = refl
    by (Some (FileNode i)) = refl

-- a dump answers no collection
pub uncollected : (z : Seeing) (old new : TablesView) (p : List ℕ) (a : Answer) → Dumps z old new p a → (n : ℕ) → a ≢ Answer.Collected n
uncollected z old new p a dumps n e = elim dumps.answered [
  | inl shown ↦ subst IsDumpAnswer e shown.0
  | inr fault ↦ subst IsFault e (fault_is fault.0 a fault.1)
]
