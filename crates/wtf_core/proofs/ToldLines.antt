-- What each line does over stores that tell all that a core names.
use Rattle.wtf_core.proofs.Common.{All, EachFollows, metadata_at, ListedBytes, TablesBytes, CollectTurn, Stands-later, tables_later, ArePunchedBy, KeepsPunched}
use Rattle.wtf_core.proofs.Common.{and_parts, Range, sizes_grow, start_maps, does_reads, kept_names, start_safe, later_safe, KeepsLists, IsToldLine, ServesTurn}
use Rattle.wtf_core.proofs.Common.{or_cases, All-weaker, NamesTables, TellsTables, kept_pinned, pinned_live, start_reads, pruned_live, KeepsImages, IsByDevices}
use Rattle.wtf_core.proofs.Common.{eqb-true, ltb-true, All-head, All-tail, Settings, KindLaws, ScanBusy, Dev, ScanTurn, DoesTurn, AreSound, HasKinds, ToldPiece}
use Rattle.wtf_core.proofs.Common.{true≢false, byte_at-kept, inside_stays, HoldsOfAdded, listed_where, collect_safe, collect_wide, tells_punched, GoesOnQuietly}
use Rattle.wtf_core.proofs.Common.{StoreKind, Map, are_apart, is_inside, NamesNone, PieceTurn, AreWithin, ReadsTold, added_off, out_apart, went_safe, TellsCore}
use Rattle.wtf_core.proofs.Common.{tells_all-kept, is_told-later, collect_apart, collect_image, collect_tells, collect_within, collect_freed, garbage_unnamed}
use Rattle.wtf_core.proofs.Common.{byte_at, size_in, is_live, Answer, Event, is_told, TellsOn, lies_in, told_in, between, AreWide, IsInside, LineTurn, CoreView}
use Rattle.wtf_core.proofs.Common.{Span, lies_apart, Remembered, remembered, lists_have, has_copies, StartsTurn, PieceFails, ServesTold, BesideView, TablesView}
use Rattle.wtf_core.proofs.Common.{NoScan, Stands, stores, LiesOn, lie_in, GcView, LieIn, IsSafe, Freed, nat_eq, nat_le, nat_lt, false, length, IsTrue, ⊎_elim}
use Rattle.wtf_core.proofs.Common.{Told, off, ◌≡◌, ◌≢◌, ◌<◌, ◌≤◌, ◌+◌, ◌&&◌, ℕ, Bool, true, List, [], ◌∷◌, refl, sym, ap, ◌∙◌, subst, arith}
use Rattle.wtf_overlay.specs.Origin.{Place}
use Rattle.wtf_core.proofs.{Moves.line_moves, Quieted.seen_pinned, Stamped.IsOther, Answering.tree_plain, Answering.server_plain, Telling.IsUnfailed}
use Rattle.wtf_core.proofs.{Telling.plain_unfailed, Telling.listed_on}

-- what lies in ranges lies in their files
ranges_low : (size : ℕ → ℕ → ℕ) (servers : ℕ) (ranges : List (ℕ × Range)) → All (LiesOn size servers) ranges → (p : Place) → lie_in ranges p ≡ true
    → p.at < size p.server p.file
ranges_low size servers [] all p here = absurd (true≢false (sym here))
ranges_low size servers (r ∷ rs) all p here = ⊎_elim
    (λ first.
    let server = and_parts (nat_eq p.server r.0) (nat_eq p.file r.1.file && (nat_le r.1.at p.at && nat_lt p.at (r.1.at + r.1.len))) first in
    let file = and_parts (nat_eq p.file r.1.file) (nat_le r.1.at p.at && nat_lt p.at (r.1.at + r.1.len)) server.1 in
    let at = and_parts (nat_le r.1.at p.at) (nat_lt p.at (r.1.at + r.1.len)) file.1 in
    let below = ltb-true p.at (r.1.at + r.1.len) at.1 in
    let le = (All-head (LiesOn size servers) r rs all).2 in
    let same : size p.server p.file ≡ size r.0 r.1.file =
    ap (λ k. size k p.file) (eqb-true p.server r.0 server.0) ∙ ap (size r.0) (eqb-true p.file r.1.file file.0) in
    omega (arith, below, le, same))
    (λ later. ranges_low size servers rs (All-tail (LiesOn size servers) r rs all) p later)
    (or_cases (lies_in p r) (lie_in rs p) here)

-- the core behind a line, under the settings before it
abbrev pub under : CoreView → CoreView → CoreView
under old new = record new { settings = old.settings }

-- what lay in the files and nothing named, nothing names then
abbrev NamesNever : {S : Type 0} → StoreKind S → Span S → (old new : CoreView) → Type 0
NamesNever kind t old new =
    (X : Place → Bool) → ((p : Place) → X p ≡ true → p.at < size_in kind t.before p.server p.file)
    → NamesNone old.settings.region (byte_at kind t.before) X old.tables → NamesNone old.settings.region (byte_at kind t.after) X new.tables

-- ---- what was told of the line, and of the images
module _ {S : Type 0} (kind : StoreKind S) (t : Span S) (old new : CoreView) (e : Event) (a : Answer) where
  pub told_by : TellsTables kind t.after old.settings new.lists new.tables → IsSafe old.settings.region (byte_at kind t.after) new.tables
      → KeepsImages kind t old (under old new)
      → (AreWide old.settings (byte_at kind t.before) old.tables → AreWide old.settings (byte_at kind t.after) new.tables)
      → (AreWithin kind t.before old.settings old.tables → AreWithin kind t.after old.settings new.tables) → ReadsTold kind t old.settings old.tables a
      → NamesNever kind t old new → GoesOnQuietly kind t old (under old new) e a → IsToldLine kind t old (under old new) e a
  told_by tables safe images wide within reads never quiet = record {
    next = record { tables = tables; safe = safe };
    unnamed = garbage_unnamed old.settings.region (byte_at kind t.after) new.tables safe;
    never = never;
    images = images;
    wide = wide;
    within = within;
    undamaged = reads.undamaged;
    unread = reads.unread;
    quiet = quiet;
  }

  unfailed_reads : IsUnfailed a → ReadsTold kind t old.settings old.tables a
  unfailed_reads unfailed = record { undamaged = λ within k is. subst IsUnfailed is unfailed; unread = λ wide k is. absurd (subst IsUnfailed is unfailed) }

-- ---- lines that punch nothing
module _ {S : Type 0} {kind : StoreKind S} (laws : KindLaws kind) (t : Span S) (old new : CoreView) (sound : AreSound old.tables)
    (follows : EachFollows kind t.before t.after []) (enough : old.settings.servers ≤ length t.before) where
  abbrev told : Told
  told = byte_at kind t.before

  abbrev later : Told
  later = byte_at kind t.after

  abbrev size : ℕ
  size = old.settings.region

  abbrev Added : (List Place → Bool) → Type 0
  Added P = HoldsOfAdded kind t old.settings P

  on : TellsOn told later
  on p byte is = byte_at-kept laws follows p byte tt is

  grows : (k f : ℕ) → size_in kind t.before k f ≤ size_in kind t.after k f
  grows = sizes_grow laws t.before t.after [] follows

  -- what is added lies behind all ranges that lie in their files
  added_apart : (ranges : List (ℕ × Range)) → All (LiesOn (size_in kind t.before) old.settings.servers) ranges → Added (are_apart ranges)
  added_apart ranges lie places added =
      out_apart (lie_in ranges) ranges (λ p here. here) places
      (added_off kind t old.settings (lie_in ranges) (ranges_low (size_in kind t.before) old.settings.servers ranges lie) places added)

  -- they tell all that the tables name then
  next_tables : ((P : List Place → Bool) → P [] ≡ true → Added P → ListedBytes size told P old.tables → ListedBytes size later P new.tables)
      → ListedBytes size later (is_told later) new.tables → KeepsLists kind t.before t.after [] old new
      → TellsTables kind t.before old.settings old.lists old.tables → TellsTables kind t.after old.settings new.lists new.tables
  next_tables carries names keeps tells = record {
    all = tells_all-kept laws follows tells.all;
    punched = tells.punched;
    lie = All-weaker (LiesOn (size_in kind t.before) old.settings.servers) (LiesOn (size_in kind t.after) old.settings.servers)
        (λ r is. let le = is.2 in let more = grows r.0 r.1.file in (is.0, is.1, omega (arith, le, more))) tells.punched tells.lie;
    cache = keeps.true_still tells.punched tells.cache;
    names = names;
    away = carries (are_apart tells.punched) refl (added_apart tells.punched tells.lie) tells.away;
  }

  never_by : ((P : List Place → Bool) → P [] ≡ true → Added P → ListedBytes size told P old.tables → ListedBytes size later P new.tables)
      → NamesNever kind t old new
  never_by carries X low h = carries (off X) refl (added_off kind t old.settings X low) h

  -- the images' maps stay
  images_on : ((n : ℕ) → IsTrue (is_live old.tables.kv n) → metadata_at new.tables.kv n ≡ metadata_at old.tables.kv n) → KeepsImages kind t old (under old new)
  images_on maps n was is tx tree stands =
      subst (λ (w : Map). Stands size later tx 0 w tree) (sym (maps n (pinned_live old.tables.kv n (kept_pinned old.tables n sound was))))
      (Stands-later told later on size tx 0 (metadata_at old.tables.kv n) tree stands)

  -- ---- a line that names nothing new
  module _ (names : NamesTables old.tables new.tables) where
    still_carry : (P : List Place → Bool) → P [] ≡ true → Added P → ListedBytes size told P old.tables → ListedBytes size later P new.tables
    still_carry P hole added h = names P (lists_have size later P) hole (tables_later size told later P on old.tables h)

    still_tables : KeepsLists kind t.before t.after [] old new → TellsTables kind t.before old.settings old.lists old.tables
        → TellsTables kind t.after old.settings new.lists new.tables
    still_tables keeps tells =
        next_tables still_carry
        (listed_on told later on size (is_told told) (is_told later) (λ qs is. is_told-later told later qs on is) old.tables new.tables names refl tells.names)
        keeps tells

    still_wide : AreWide old.settings told old.tables → AreWide old.settings later new.tables
    still_wide = listed_on told later on size (has_copies old.settings.replicas) (has_copies old.settings.replicas) (λ qs is. is) old.tables new.tables names
        refl

    still_within : AreWithin kind t.before old.settings old.tables → AreWithin kind t.after old.settings new.tables
    still_within =
        listed_on told later on size (is_inside kind t.before old.settings) (is_inside kind t.after old.settings)
        (inside_stays laws follows old.settings enough) old.tables new.tables names refl

  -- ---- each line that begins no scan and does no part of one
  module _ (new_sound : AreSound new.tables) (lie : LieIn old.tables.beside.gc (size_in kind t.before)) (keeps : KeepsLists kind t.before t.after [] old new)
      (e : Event) (a : Answer) (quiet : GoesOnQuietly kind t old (under old new) e a) (tells : TellsCore kind t.before old) where
    other_told : ((n : ℕ) → IsTrue (is_live old.tables.kv n) → metadata_at new.tables.kv n ≡ metadata_at old.tables.kv n)
        → ServesTold kind t old.settings (old.tables, new.tables) a → IsToldLine kind t old (under old new) e a
    other_told maps serves =
        told_by kind t old new e a (next_tables serves.went.carries serves.names keeps tells.tables)
        (went_safe size told later Added (size_in kind t.before) old.tables new.tables on tells.tables.names lie (λ X low. added_off kind t old.settings X low)
        (λ r runs n seen. (
          pinned_live old.tables.kv n (seen_pinned old.tables r n sound runs seen),
          seen_pinned new.tables r n new_sound (ap (λ (g : GcView). g.running) serves.went.gc ∙ runs) seen,
        )) serves.went tells.safe)
        (images_on maps) serves.wide serves.within (record { undamaged = serves.undamaged; unread = serves.unread }) (never_by serves.went.carries) quiet

    -- ---- a scan
    -- what it says over the stores as they were
    pub record Starts : Type 0 where
      pub names : NamesTables old.tables new.tables
      pub maps : (n : ℕ) → IsTrue (is_live old.tables.kv n) → metadata_at new.tables.kv n ≡ metadata_at old.tables.kv n
      pub safe : IsSafe size told new.tables
      pub reads : IsUnfailed a

    same_starts : new.tables ≡ old.tables → IsUnfailed a → Starts
    same_starts same unfailed = record {
      names = λ P Q hole h. subst (λ (tables : TablesView). TablesBytes P Q tables) (sym same) h;
      maps = λ n live. ap (λ (tables : TablesView). metadata_at tables.kv n) same;
      safe = subst (λ (tables : TablesView). IsSafe size told tables) (sym same) tells.safe;
      reads = unfailed;
    }

    scan_starts : ((n : ℕ) → IsTrue (is_live old.tables.kv n) → HasKinds (metadata_at old.tables.kv n)) → StartsTurn kind t.before old.tables new.tables
        → IsUnfailed a → Starts
    scan_starts kinds turn unfailed =
        let live = start_reads kind t.before old.tables new.tables sound turn in
        let maps = start_maps kind t.before old.tables new.tables sound turn in
        record {
          names = kept_names old.tables new.tables sound live (λ n was. maps n) turn.clients (ap (λ (b : BesideView). b.jobs) turn.beside);
          maps = λ n was. maps n;
          safe = start_safe kind t.before size told old.tables new.tables sound kinds turn live (λ n was. maps n) tells.safe;
          reads = unfailed;
        }

    scan_by : Starts → IsToldLine kind t old (under old new) e a
    scan_by h =
        told_by kind t old new e a (still_tables h.names keeps tells.tables)
        (later_safe size told later on new.tables new_sound (h.names (is_told told) (lists_have size told (is_told told)) refl tells.tables.names) h.safe)
        (images_on h.maps) (still_wide h.names) (still_within h.names) (unfailed_reads kind t old new e a h.reads) (never_by (still_carry h.names)) quiet

    scan_told : ((n : ℕ) → IsTrue (is_live old.tables.kv n) → HasKinds (metadata_at old.tables.kv n)) → (b : Answer) → b ≡ a
        → ScanTurn kind t.before old.tables new.tables b → IsToldLine kind t old (under old new) e a
    scan_told kinds (Answer.Refused ScanBusy) is h = scan_by (same_starts h.0 (subst IsUnfailed is tt))
    scan_told kinds (Answer.Held who) is h = scan_by (same_starts h.0 (subst IsUnfailed is tt))
    scan_told kinds Answer.Scanning is h = scan_by (scan_starts kinds h (subst IsUnfailed is tt))
    scan_told kinds b is h = absurd h

    -- ---- parts of a scan
    module _ (before after : Dev S) (n : ℕ) where
      does_names : (left : ℕ) → DoesTurn kind before after old.tables new.tables n left → NamesTables old.tables new.tables
      does_names left h =
          kept_names old.tables new.tables sound (does_reads kind before after old.tables new.tables n left sound h) (λ m live. h.prunes.maps m live)
          h.keeps.clients (ap (λ (b : BesideView). b.jobs) h.keeps.beside)

      fails_names : (b : Answer) → PieceFails kind before after old.tables new.tables n b → NamesTables old.tables new.tables
      fails_names b h =
          let p = h.pruned in
          kept_names old.tables new.tables sound (pruned_live old.tables.kv new.tables.kv p.kv p.pins) (λ m live. p.kv.maps m live) p.clients
          (ap (λ (b : BesideView). b.jobs) p.beside)

      piece_names : (b : Answer) → PieceTurn kind before after old.tables new.tables n b → NamesTables old.tables new.tables
      piece_names (Answer.Refused NoScan) h = λ P Q hole was. subst (λ (tables : TablesView). TablesBytes P Q tables) (sym h.0) was
      piece_names (Answer.More left) h = does_names left h.1
      piece_names Answer.Done h = does_names 0 h
      piece_names b h = fails_names b h

      piece_told : PieceTurn kind before after old.tables new.tables n a
          → ((m : ℕ) → IsTrue (is_live old.tables.kv m) → metadata_at new.tables.kv m ≡ metadata_at old.tables.kv m)
          → (TellsTables kind t.before old.settings old.lists old.tables → ToldPiece kind t old new a) → IsToldLine kind t old (under old new) e a
      piece_told h maps did =
          let names = piece_names a h in
          let is = did tells.tables in
          told_by kind t old new e a is.next (is.safe tells.safe) (images_on maps) (still_wide names) (still_within names) is.reads
          (never_by (still_carry names)) quiet

-- ---- a collection
-- its answer is no fault of a read
collect_unfailed : {S : Type 0} (kind : StoreKind S) (before after : Dev S) (old new : TablesView) (k : ℕ) (a : Answer)
    → CollectTurn kind before after old new k a → IsUnfailed a
collect_unfailed kind before after old new k (Answer.FaultRead j) h = h
collect_unfailed kind before after old new k (Answer.Damaged j) h = h
collect_unfailed kind before after old new k a h = tt

-- freeing names nothing
freed_never : {S : Type 0} {kind : StoreKind S} (laws : KindLaws kind) {before after : Dev S} {old new : TablesView} (freed : Freed kind before after old new)
    (safe : IsSafe before.settings.region (told_in kind before) old) (X : Place → Bool) → NamesNone before.settings.region (told_in kind before) X old
    → NamesNone before.settings.region (told_in kind after) X new
freed_never {kind = kind} laws {before = before} {after = after} {old = old} {new = new} freed safe X h =
    let size : ℕ = before.settings.region in
    let later : Told = told_in kind after in
    let was = listed_where (lies_apart freed.ranges) (told_in kind before) later (tells_punched laws freed.follows) size (off X) (off X)
    (λ qs is away. is) old h (collect_apart laws freed safe) in
    subst (λ (t : TablesView). NamesNone size later X t) (sym freed.is) (record { live = was.live; each = was.each; planned = was.planned })

module _ {S : Type 0} {kind : StoreKind S} (laws : KindLaws kind) (old new : CoreView) (sound : AreSound old.tables) (e : Event) (a : Answer)
    (unfailed : IsUnfailed a) where
  -- over devices that were lent
  freed_told : (before after : Dev S) → Freed kind before after old.tables new.tables → before.settings ≡ old.settings → remembered before ≡ old.lists
      → remembered after ≡ new.lists → old.settings.servers ≤ length (stores before) → LieIn old.tables.beside.gc (size_in kind (stores before))
      → GoesOnQuietly kind (between before after) old (under old new) e a → TellsCore kind (stores before) old
      → IsToldLine kind (between before after) old (under old new) e a
  freed_told before after freed settings was is enough lie quiet tells =
      let same : old.settings ≡ before.settings = sym settings in
      let safe : IsSafe before.settings.region (byte_at kind (stores before)) old.tables =
      subst (λ (s : Settings). IsSafe s.region (byte_at kind (stores before)) old.tables) same tells.safe in
      let known : TellsTables kind (stores before) before.settings (remembered before) old.tables =
      subst (λ (l : Remembered). TellsTables kind (stores before) before.settings l old.tables) (sym was)
      (subst (λ (s : Settings). TellsTables kind (stores before) s old.lists old.tables) same tells.tables) in
      told_by kind (between before after) old new e a (subst (λ (l : Remembered). TellsTables kind (stores after) old.settings l new.tables) is
      (subst (λ (s : Settings). TellsTables kind (stores after) s (remembered after) new.tables) settings (collect_tells laws freed safe lie known)))
      (subst (λ (s : Settings). IsSafe s.region (byte_at kind (stores after)) new.tables) settings (collect_safe laws freed safe sound))
      (λ n there still tx tree stands.
      subst (λ (s : Settings). Stands s.region (byte_at kind (stores after)) tx 0 (metadata_at new.tables.kv n) tree) settings
      (collect_image laws freed safe n tx 0 tree sound there
      (subst (λ (s : Settings). Stands s.region (byte_at kind (stores before)) tx 0 (metadata_at old.tables.kv n) tree) same stands)))
      (λ wide. subst (λ (s : Settings). AreWide s (byte_at kind (stores after)) new.tables) settings
      (collect_wide laws freed safe (subst (λ (s : Settings). AreWide s (byte_at kind (stores before)) old.tables) same wide)))
      (λ within. subst (λ (s : Settings). AreWithin kind (stores after) s new.tables) settings
      (collect_within laws freed safe (subst (λ (s : Settings). s.servers ≤ length (stores before)) same enough)
      (subst (λ (s : Settings). AreWithin kind (stores before) s old.tables) same within))) (unfailed_reads kind (between before after) old new e a unfailed)
      (λ X low h. subst (λ (s : Settings). NamesNone s.region (byte_at kind (stores after)) X new.tables) settings
      (freed_never laws freed safe X (subst (λ (s : Settings). NamesNone s.region (byte_at kind (stores before)) X old.tables) same h))) quiet

-- so of each span of the devices
abbrev CollectTold : {S : Type 0} → StoreKind S → (old new : CoreView) → ℕ → Answer → Settings → Span S → Type 0
CollectTold kind old new k a settings s =
    settings ≡ old.settings → old.settings.servers ≤ length s.before → LieIn old.tables.beside.gc (size_in kind s.before)
    → GoesOnQuietly kind s old (under old new) (Event.Collect k) a → TellsCore kind s.before old → IsToldLine kind s old (under old new) (Event.Collect k) a

collect_told : {S : Type 0} {kind : StoreKind S} → KindLaws kind → (t : Span S) (old new : CoreView) (k : ℕ) (a : Answer) → AreSound old.tables
    → old.settings.servers ≤ length t.before → LieIn old.tables.beside.gc (size_in kind t.before) → GoesOnQuietly kind t old (under old new) (Event.Collect k) a
    → TellsCore kind t.before old → IsByDevices kind t old new (λ before after. CollectTurn kind before after old.tables new.tables k a)
    → IsToldLine kind t old (under old new) (Event.Collect k) a
collect_told {S} {kind = kind} laws t old new k a sound enough lie quiet tells by =
    let made : CollectTold kind old new k a by.before.settings (between by.before by.after) = λ settings enough lie quiet tells. freed_told laws old new sound
    (Event.Collect k) a (collect_unfailed kind by.before by.after old.tables new.tables k a by.did) by.before by.after
    (collect_freed laws by.before by.after old.tables new.tables k a by.did) settings by.remembered_before by.remembered_after enough lie quiet tells in
    subst (λ (s : Span S). CollectTold kind old new k a by.before.settings s) by.lent.span_is made by.lent.settings_are enough lie quiet tells

-- ---- each line
-- what a line that collects nothing punches
pub none_ranges : (gc : GcView) (e : Event) (a : Answer) (ranges : List (ℕ × Range)) → ((k : ℕ) → e ≢ Event.Collect k) → ArePunchedBy gc e a ranges
    → ranges ≡ []
none_ranges gc (Event.Collect k) a ranges other h = absurd (other k refl)
none_ranges gc e a ranges other h = h.0

module _ {S : Type 0} {kind : StoreKind S} (laws : KindLaws kind) (t : Span S) (old new : CoreView) (a : Answer) (sound : AreSound old.tables)
    (new_sound : AreSound new.tables) (enough : old.settings.servers ≤ length t.before) (inside : IsInside kind t.before old)
    (tells : TellsCore kind t.before old) (kinds : (n : ℕ) → IsTrue (is_live old.tables.kv n) → HasKinds (metadata_at old.tables.kv n)) where
  -- where nothing is punched
  pub unpunched : (e : Event) → ((k : ℕ) → e ≢ Event.Collect k) → KeepsPunched kind t.before t.after old new e a
      → EachFollows kind t.before t.after [] × KeepsLists kind t.before t.after [] old new
  unpunched e other h =
      let none = none_ranges old.tables.beside.gc e a h.punches.ranges other h.punches.are in (
        subst (EachFollows kind t.before t.after) none h.punches.follows,
        subst (λ (ranges : List (ℕ × Range)). KeepsLists kind t.before t.after ranges old new) none h.lists,
      )

  other_line : (e : Event) → IsOther e → ((k : ℕ) → e ≢ Event.Collect k) → KeepsPunched kind t.before t.after old new e a
      → (TellsTables kind t.before old.settings old.lists old.tables → ServesTold kind t old.settings (old.tables, new.tables) a) → LineTurn kind t old new e a
      → GoesOnQuietly kind t old (under old new) e a → IsToldLine kind t old (under old new) e a
  other_line e other none punched serves turn quiet =
      let still = unpunched e none punched in
      other_told laws t old new sound still.0 enough new_sound inside.scans still.1 e a quiet tells (line_moves kind t old new sound a e turn).maps
      (serves tells.tables)

  -- one that leaves the tables
  same_line : (e : Event) → ((k : ℕ) → e ≢ Event.Collect k) → KeepsPunched kind t.before t.after old new e a → new.tables ≡ old.tables → IsUnfailed a
      → GoesOnQuietly kind t old (under old new) e a → IsToldLine kind t old (under old new) e a
  same_line e none punched same unfailed quiet =
      let still = unpunched e none punched in
      scan_by laws t old new sound still.0 enough new_sound inside.scans still.1 e a quiet tells
      (same_starts laws t old new sound still.0 enough new_sound inside.scans still.1 e a quiet tells same unfailed)

  by_line : (e : Event) → KeepsPunched kind t.before t.after old new e a → ServesTurn kind t old new e a → LineTurn kind t old new e a
      → GoesOnQuietly kind t old (under old new) e a → IsToldLine kind t old (under old new) e a
  by_line Event.Scan punched serves turn quiet =
      let still = unpunched Event.Scan (λ k is. absurd (cc)) punched in
      scan_told laws t old new sound still.0 enough new_sound inside.scans still.1 Event.Scan a quiet tells kinds a refl turn.0
  by_line (Event.Piece n) punched serves turn quiet =
      let still = unpunched (Event.Piece n) (λ k is. absurd (cc)) punched in
      piece_told laws t old new sound still.0 enough new_sound inside.scans still.1 (Event.Piece n) a quiet tells turn.0.before turn.0.after n turn.0.did
      (line_moves kind t old new sound a (Event.Piece n) turn).maps serves
  by_line (Event.Collect k) punched serves turn quiet = collect_told laws t old new k a sound enough inside.scans quiet tells turn.0
  by_line (Event.Down k) punched serves turn quiet =
      let both = server_plain old new k true (nat_lt k old.settings.servers) a turn in
      same_line (Event.Down k) (λ j is. absurd (cc)) punched both.1 (plain_unfailed a both.0) quiet
  by_line (Event.Up k) punched serves turn quiet =
      let both = server_plain old new k false (nat_lt k old.settings.servers) a turn in
      same_line (Event.Up k) (λ j is. absurd (cc)) punched both.1 (plain_unfailed a both.0) quiet
  by_line Event.Tree punched serves turn quiet = same_line Event.Tree (λ k is. absurd (cc)) punched (ap (λ (core : CoreView). core.tables) turn.1)
      (plain_unfailed a (tree_plain a turn.2)) quiet
  by_line e punched serves turn quiet = other_line e tt (λ k is. absurd (cc)) punched serves turn quiet

  pub line_told : (e : Event) → new.settings ≡ old.settings → KeepsPunched kind t.before t.after old new e a → ServesTurn kind t old new e a
      → LineTurn kind t old new e a → GoesOnQuietly kind t old new e a → IsToldLine kind t old new e a
  line_told e same punched serves turn quiet =
      let is : new ≡ under old new = λ i. record { settings = same i; tables = new.tables; replicas = new.replicas; closed = new.closed; lists = new.lists } in
      subst (λ (core : CoreView). IsToldLine kind t old core e a) (sym is)
      (by_line e punched serves turn (subst (λ (core : CoreView). GoesOnQuietly kind t old core e a) is quiet))
