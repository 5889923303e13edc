-- Lines of the tables over what these are lent, and what a core makes of them.
use Rattle.wtf_core.proofs.Common.{IsTrue, true≢false, Settings, Range, StoreKind, KindLaws, IsRing, is_down, SameSyncs, Span, Dev, Remembered, AreFrom}
use Rattle.wtf_core.proofs.Common.{CacheInside, IsSoundDev, GoesOn, stores, remembered, between, inside_of, is_inside, goes_nowhere, any_slice, Answer, Event}
use Rattle.wtf_core.proofs.Common.{Verb, Lending, lent_by, KeeperSpan, KeeperTurn, TablesBytes, no_load, load_of, NamesTables, IsPlain, ServesLine, ServesEvent}
use Rattle.wtf_core.proofs.Common.{AreSound, IsAlike, LeavesAlone, SyncsNone, Seeing, seeing, PieceTurn, CollectTurn, TablesView, leaves_none, LineMade}
use Rattle.wtf_core.proofs.Common.{LineEnds, is_of_tables, TablesTurn, TablesTold, IsUnpunching, TablesLine, TablesDone, IsCoreMade, IsLeftBy, KeepsPunched}
use Rattle.wtf_core.proofs.Common.{ServesTurn, takes_no_memory, LineTurn, CoreView, ◌≡◌, ◌≢◌, ◌≤◌, ℕ, Bool, true, false, List, [], length, Result, Ok, Err}
use Rattle.wtf_core.proofs.Common.{IfOk, OnOk, OnErr, IsOk, refl, sym, ap, ◌∙◌, subst, alike_same}
use Rattle.wtf_core.proofs.{Answering.local_plain, Answering.drop_plain, Remembering.goes_keeps, Scanned.scan_names, Scanned.collect_goes, Telling.aborted_told}
use Rattle.wtf_core.proofs.{Answering.put_plain, Punching.none_keeps, Scanned.scan_plain, Scanned.by_devices, Scanned.piece_next, Telling.begun_told}
use Rattle.wtf_core.proofs.{Answering.still_serves, Naming.local_names, Punching.IsUncollecting, Punching.collect_keeps, Remembering.sound_dev as lends_soundly}
use Rattle.wtf_core.proofs.{Naming.IsLocal, Naming.put_names, Naming.drop_names, Telling.tried_told, Telling.put_told, Telling.drop_told}

-- ---- results
pub if_both : {E : Type 0} (r : Result Answer E) {P Q R : Answer → Type 0} → IfOk r P → IfOk r Q → ((a : Answer) → P a → Q a → R a) → IfOk r R
if_both (Ok a) p q both = both a p q
if_both (Err why) p q both = tt

if_all : {E : Type 0} (r : Result Answer E) {P Q R T : Answer → Type 0} → IfOk r P → IfOk r Q → IfOk r R → ((a : Answer) → P a → Q a → R a → T a) → IfOk r T
if_all (Ok a) p q t all = all a p q t
if_all (Err why) p q t all = tt

pub if_some : {E : Type 0} (r : Result Answer E) {P Q : Answer → Type 0} → IfOk r P → ((a : Answer) → P a → Q a) → IfOk r Q
if_some (Ok a) p on = on a p
if_some (Err why) p on = tt

pub on_both : {E : Type 0} (r : Result Answer E) {P Q R : Type 0} → OnErr r P → OnErr r Q → (P → Q → R) → OnErr r R
on_both (Ok a) p q both = tt
on_both (Err why) p q both = both p q

pub on_map : {E : Type 0} (r : Result Answer E) {P Q : Type 0} → OnErr r P → (P → Q) → OnErr r Q
on_map (Ok a) p on = tt
on_map (Err why) p on = on p

no_err : {E : Type 0} (r : Result Answer E) (P : Type 0) → IsOk r → OnErr r P
no_err (Ok a) P ok = tt
no_err (Err why) P ok = absurd (true≢false (sym ok))

pub on_any : {E : Type 0} (r : Result Answer E) {P : Type 0} → P → OnErr r P
on_any (Ok a) p = tt
on_any (Err why) p = p

pub ok_map : {E : Type 0} (r : Result Answer E) {P : Answer → Type 0} {Q : Type 0} → IfOk r P → ((a : Answer) → P a → Q) → OnOk r Q
ok_map (Ok a) p on = on a p
ok_map (Err why) p on = tt

pub either : {E : Type 0} (r : Result Answer E) {P : Answer → Type 0} {Q R : Type 0} → IfOk r P → OnErr r Q → ((a : Answer) → P a → R) → (Q → R) → R
either (Ok a) ok err on off = on a ok
either (Err why) ok err on off = off err

pub same_alike : (old new : TablesView) → new ≡ old → IsAlike old new
same_alike old new is = subst (IsAlike old) (sym is) (alike_same old)

-- what is done of a line is done of one that is the same
pub done_as : {S E : Type 0} {kind : StoreKind S} {before after : Dev S} {old new : TablesView} {e f : Event} {r : Result Answer E} → e ≡ f
    → TablesDone kind before after old new f r → TablesDone kind before after old new e r
done_as {kind = kind} {before = before} {after = after} {old = old} {new = new} {r = r} is =
    subst (λ (x : Event). TablesDone kind before after old new x r) (sym is)

-- ---- what a line makes of the tables
module _ {S : Type 0} (kind : StoreKind S) (before after : Dev S) (old new : TablesView) where
  -- with any result
  pub line_done : {E : Type 0} (e : Event) (r : Result Answer E) → IfOk r (TablesLine kind before after old new e) → OnErr r (IsLeftBy e old new)
      → OnErr r (GoesOn kind before after []) → LeavesAlone kind (between before after) (lent_by before after) old e
      → (IsTrue (takes_no_memory e) → IsOk r) → TablesDone kind before after old new e r
  line_done e r line left goes leaves sure =
      record { line = line; lost = on_both r left goes (λ l g. record { left = l; goes = g }); leaves = leaves; sure = sure }

  -- one that is lent the stores, and says what it makes of them
  pub lent_done : {E : Type 0} (e : Event) (r : Result Answer E) → IfOk r (TablesTurn kind before after old new e)
      → IfOk r (ServesLine kind (between before after) (lent_by before after) old new e) → IfOk r (TablesTold kind before after old new e)
      → (GoesOn kind before after [] → IsUnpunching kind before after old new e) → OnErr r (IsLeftBy e old new) → LeavesAlone kind (between before after)
      (lent_by before after) old e → GoesOn kind before after [] → takes_no_memory e ≡ false → TablesDone kind before after old new e r
  lent_done e r turn serves told unpunching left leaves goes memory = line_done e r
      (if_all r turn serves told (λ a t s l. record { turn = t; serves = s; told = l; goes = unpunching goes }))
      left (on_any r goes) leaves (λ none. absurd (true≢false (sym none ∙ memory)))

  -- a collection, which may punch
  pub collect_done : {E : Type 0} (k : ℕ) (r : Result Answer E) → IfOk r (TablesTurn kind before after old new (Event.Collect k))
      → IfOk r (ServesLine kind (between before after) (lent_by before after) old new (Event.Collect k)) → OnErr r (new ≡ old)
      → OnErr r (GoesOn kind before after []) → LeavesAlone kind (between before after) (lent_by before after) old (Event.Collect k)
      → TablesDone kind before after old new (Event.Collect k) r
  collect_done k r turn serves same goes leaves =
      line_done (Event.Collect k) r (if_both r turn serves (λ a t s. record { turn = t; serves = s; told = tt; goes = tt }))
      (on_map r same (same_alike old new)) goes leaves (λ never. absurd (true≢false (sym never)))

-- ---- one that is lent no store
module _ {S : Type 0} {kind : StoreKind S} (laws : KindLaws kind) (dev : Dev S) (sound_dev : IsSoundDev kind dev) (old new : TablesView) (sound : AreSound old)
    (inside : TablesBytes (is_inside kind (stores dev) dev.settings) any_slice old) where
  abbrev here : Seeing
  here = seeing kind (between dev dev) (lent_by dev dev)

  -- a line that names no more, and is plain
  lone_line : (e : Event) (a : Answer) → TablesTurn kind dev dev old new e a → load_of e ≡ no_load → NamesTables old new → IsPlain a
      → TablesTold kind dev dev old new e a → (GoesOn kind dev dev [] → IsUnpunching kind dev dev old new e) → TablesLine kind dev dev old new e a
  lone_line e a turn none names plain told goes = record {
    turn = turn;
    serves = still_serves kind (is_down dev.replicas.now) (stores dev) (lent_by dev dev) old new e a inside names none plain;
    told = told;
    goes = goes (goes_nowhere laws dev sound_dev);
  }

  local_line : (c : ℕ) (v : Verb) (a : Answer) → IsLocal v → load_of (Event.Client c v) ≡ no_load → TablesTurn kind dev dev old new (Event.Client c v) a
      → (NamesTables old new → IsPlain a → TablesTold kind dev dev old new (Event.Client c v) a) → TablesLine kind dev dev old new (Event.Client c v) a
  local_line c v a local none turn told =
      let names = local_names here old new c v a local sound turn in
      let plain = local_plain here old new c v a local turn in
      lone_line (Event.Client c v) a turn none names plain (told names plain) (λ goes. goes)

  alone_done : {E : Type 0} (e : Event) (r : Result Answer E) → IfOk r (TablesLine kind dev dev old new e) → OnErr r (IsLeftBy e old new)
      → (IsTrue (takes_no_memory e) → IsOk r) → TablesDone kind dev dev old new e r
  alone_done e r line left sure =
      line_done kind dev dev old new e r line left (on_any r (goes_nowhere laws dev sound_dev))
      (leaves_none kind (is_down dev.replicas.now) (stores dev) dev.settings (remembered dev) old e) sure

  pub begin_done : {E : Type 0} (c : ℕ) (r : Result Answer E) → IfOk r (TablesTurn kind dev dev old new (Event.Client c Verb.Begin))
      → OnErr r (IsAlike old new) → TablesDone kind dev dev old new (Event.Client c Verb.Begin) r
  begin_done c r turn left =
      alone_done (Event.Client c Verb.Begin) r (if_some r turn (λ a made. local_line c Verb.Begin a tt refl made
      (λ names plain. begun_told kind (is_down dev.replicas.now) (stores dev) dev.settings (remembered dev) old new c a sound names plain made)))
      left (λ never. absurd (true≢false (sym never)))

  pub try_done : {E : Type 0} (c : ℕ) (r : Result Answer E) → IfOk r (TablesTurn kind dev dev old new (Event.Client c Verb.Try))
      → OnErr r (IsAlike old new) → TablesDone kind dev dev old new (Event.Client c Verb.Try) r
  try_done c r turn left =
      alone_done (Event.Client c Verb.Try) r (if_some r turn (λ a made. local_line c Verb.Try a tt refl made
      (λ names plain. tried_told kind (is_down dev.replicas.now) (stores dev) dev.settings (remembered dev) old new c a sound names plain made)))
      left (λ never. absurd (true≢false (sym never)))

  pub abort_done : {E : Type 0} (c : ℕ) (r : Result Answer E) → IfOk r (λ a. TablesTurn kind dev dev old new (Event.Client c Verb.Abort) a) → IsOk r
      → TablesDone kind dev dev old new (Event.Client c Verb.Abort) r
  abort_done c r turn ok =
      alone_done (Event.Client c Verb.Abort) r (if_some r turn (λ a made. local_line c Verb.Abort a tt refl made
      (λ names plain. aborted_told kind (is_down dev.replicas.now) (stores dev) dev.settings (remembered dev) old new c a sound names plain made)))
      (no_err r _ ok) (λ yes. ok)

  pub put_done : {E : Type 0} (j : ℕ) (r : Result Answer E) → IfOk r (λ a. TablesTurn kind dev dev old new (Event.Put j) a)
      → OnErr r (IsAlike old new) → TablesDone kind dev dev old new (Event.Put j) r
  put_done j r turn left =
      alone_done (Event.Put j) r (if_some r turn (λ a made. lone_line (Event.Put j) a made refl (put_names old new j sound a made.0)
      (put_plain old new j a made.0) (put_told kind (is_down dev.replicas.now) (stores dev) dev.settings (remembered dev) old new j a sound made.0)
      (λ goes. goes)))
      left (λ never. absurd (true≢false (sym never)))

  pub drop_done : {E : Type 0} (j : ℕ) (r : Result Answer E) → IfOk r (λ a. TablesTurn kind dev dev old new (Event.DropJob j) a) → IsOk r
      → TablesDone kind dev dev old new (Event.DropJob j) r
  drop_done j r turn ok =
      alone_done (Event.DropJob j) r (if_some r turn (λ a made. lone_line (Event.DropJob j) a made refl (drop_names old new j sound a made.0)
      (drop_plain old new j a made.0) (drop_told kind (is_down dev.replicas.now) (stores dev) dev.settings (remembered dev) old new j a sound made.0)
      (λ goes. goes)))
      (no_err r _ ok) (λ yes. ok)

  pub scan_done : {E : Type 0} (r : Result Answer E) → IfOk r (λ a. TablesTurn kind dev dev old new Event.Scan a)
      → OnErr r (IsAlike old new) → TablesDone kind dev dev old new Event.Scan r
  scan_done r turn left =
      alone_done Event.Scan r (if_some r turn (λ a made. lone_line Event.Scan a made refl (scan_names kind (stores dev) old new sound a made.0)
      (scan_plain kind (stores dev) old new sound a made.0) tt (λ goes. goes))) left (λ never. absurd (true≢false (sym never)))

-- ---- what a core makes of it that lent all this
module _ {S : Type 0} {kind : StoreKind S} (laws : KindLaws kind) (before after : Dev S) (old new : TablesView) (closed : Bool) (sound : AreSound old)
    (sound_dev : IsSoundDev kind before) (ring : IsRing before.settings.servers before.ring.now.points) where
  -- before the line
  abbrev pub lender : CoreView
  lender = record { settings = before.settings; tables = old; replicas = before.replicas.now; closed = closed; lists = remembered before }

  -- and behind it
  abbrev pub left : CoreView
  left = record { settings = before.settings; tables = new; replicas = before.replicas.now; closed = closed; lists = remembered after }

  -- what was lent goes on, with ranges that a collection punched
  pub line_goes : (e : Event) (a : Answer) → TablesLine kind before after old new e a → (ranges : List (ℕ × Range)) × GoesOn kind before after ranges
  line_goes (Event.Collect k) a l = collect_goes laws before after sound_dev old new k a l.turn
  line_goes e a l = ([], l.goes)

  -- lists that stay
  abbrev with_lists : Remembered → CoreView
  with_lists lists = record { settings = before.settings; tables = new; replicas = before.replicas.now; closed = closed; lists = lists }

  rest_is : remembered after ≡ remembered before → left ≡ record lender { tables = new }
  rest_is same = ap with_lists same

  line_turn : (e : Event) (a : Answer) → after.settings ≡ before.settings → TablesTurn kind before after old new e a
      → LineTurn kind (between before after) lender left e a
  line_turn (Event.Client c v) a same h = (h, refl)
  line_turn (Event.Plan j job p r) a same h = (h, refl)
  line_turn (Event.Put j) a same h = (h.0, rest_is h.1)
  line_turn (Event.DropJob j) a same h = (h.0, rest_is h.1)
  line_turn Event.Scan a same h = (h.0, rest_is h.1)
  line_turn (Event.Piece n) a same h =
      (by_devices kind before after lender left (λ b c. PieceTurn kind b c old new n a) refl same refl ring sound_dev refl refl h, refl)
  line_turn (Event.Collect k) a same h =
      (by_devices kind before after lender left (λ b c. CollectTurn kind b c old new k a) refl same refl ring sound_dev refl refl h, refl)
  line_turn (Event.Dump p) a same h = (h, refl)
  line_turn e a same h = absurd h

  line_told : (e : Event) (a : Answer) → TablesLine kind before after old new e a → ServesTurn kind (between before after) lender left e a
  line_told (Event.Piece n) a l = λ tells.
      let next = piece_next laws before after l.goes old new sound tells n a l.turn in
      record { reads = l.told tells; next = next.0; safe = next.1 }
  line_told (Event.Client c v) a l = l.told
  line_told (Event.Plan j job p r) a l = l.told
  line_told (Event.Put j) a l = l.told
  line_told (Event.DropJob j) a l = l.told
  line_told (Event.Dump p) a l = l.told
  line_told Event.Save a l = absurd l.turn
  line_told e a l = tt

  -- a line that punches nothing
  none_punched : (e : Event) (a : Answer) → IsUncollecting e → LineTurn kind (between before after) lender left e a → GoesOn kind before after []
      → KeepsPunched kind (stores before) (stores after) lender left e a
  none_punched e a plain turn goes =
      none_keeps kind (between before after) lender left sound e a turn plain goes.each (goes_keeps kind before after lender left goes refl refl refl)

  line_punched : (e : Event) (a : Answer) → TablesLine kind before after old new e a → LineTurn kind (between before after) lender left e a
      → KeepsPunched kind (stores before) (stores after) lender left e a
  line_punched (Event.Collect k) a l turn = collect_keeps laws before after sound_dev lender left k refl refl refl refl a l.turn
  line_punched (Event.Down k) a l turn = absurd l.turn
  line_punched (Event.Up k) a l turn = absurd l.turn
  line_punched Event.Tree a l turn = absurd l.turn
  line_punched Event.Save a l turn = absurd l.turn
  line_punched e a l turn = none_punched e a tt turn l.goes

  pub line_made : (e : Event) (a : Answer) → TablesLine kind before after old new e a → LineMade kind (between before after) lender left e a
  line_made e a l =
      let turn = line_turn e a (line_goes e a l).1.settings l.turn in
      record { turn = turn; told = line_told e a l; punched = line_punched e a l turn }

  goes_any : {E : Type 0} (e : Event) (r : Result Answer E) → TablesDone kind before after old new e r
      → (ranges : List (ℕ × Range)) × GoesOn kind before after ranges
  goes_any e r done = either r done.line done.lost (line_goes e) (λ l. ([], l.goes))

  -- a line of the tables syncs nothing
  unsynced : (e : Event) → is_of_tables e ≡ true → SyncsNone kind (between before after) e → SameSyncs kind (stores before) (stores after)
  unsynced Event.Save is h = absurd (true≢false (sym is))
  unsynced e is h = h

  -- with any result
  pub line_ends : {E : Type 0} (e : Event) (r : Result Answer E) → is_of_tables e ≡ true → TablesDone kind before after old new e r
      → LineEnds kind (between before after) lender left e r
  line_ends e r of_it done = record {
    made = if_some r done.line (line_made e);
    lost = on_map r done.lost (λ l. record { left = l.left; follows = l.goes.each; unsynced = unsynced e of_it done.leaves.syncs });
    settings = refl;
    closed = refl;
    leaves = done.leaves;
    sure = done.sure;
  }

  -- and the core's parts are as they were made
  pub line_keeps : {E : Type 0} (e : Event) (r : Result Answer E) → TablesDone kind before after old new e r
      → IsCoreMade before.settings old before.replicas.now before.ring.now before.cache.now → AreSound new
      → IsCoreMade before.settings new before.replicas.now before.ring.now after.cache.now
  line_keeps e r done made kept =
      let goes = (goes_any e r done).1 in
      record {
        settings_are = made.settings_are;
        replicas_are = made.replicas_are;
        ring_is = made.ring_is;
        points_are = made.points_are;
        cache_is = subst (λ r. AreFrom r.now after.cache.now.places) goes.ring goes.sound.cache;
        tables_are = kept;
      }

-- the same of what a core lends whose parts are as they were made
module _ {S : Type 0} {kind : StoreKind S} (laws : KindLaws kind) {before after : Dev S} {old new : TablesView} {E : Type 0} {e : Event}
    {r : Result Answer E} (done : TablesDone kind before after old new e r) (closed : Bool)
    (made : IsCoreMade before.settings old before.replicas.now before.ring.now before.cache.now) (enough : before.settings.servers ≤ length (stores before))
    (lists : CacheInside (inside_of kind before) (remembered before)) where
  pub lent_soundly : IsSoundDev kind before
  lent_soundly = lends_soundly kind before old made enough lists

  pub lent_goes : (ranges : List (ℕ × Range)) × GoesOn kind before after ranges
  lent_goes = goes_any laws before after old new closed made.tables_are lent_soundly made.points_are e r done

  pub lent_ends : is_of_tables e ≡ true
      → LineEnds kind (between before after) (lender laws before after old new closed made.tables_are lent_soundly made.points_are)
      (left laws before after old new closed made.tables_are lent_soundly made.points_are) e r
  lent_ends of_it = line_ends laws before after old new closed made.tables_are lent_soundly made.points_are e r of_it done

  pub lent_keeps : AreSound new → IsCoreMade before.settings new before.replicas.now before.ring.now after.cache.now
  lent_keeps kept = line_keeps laws before after old new closed made.tables_are lent_soundly made.points_are e r done made kept

-- a line of the tables hands a keeper nothing, and fails to save nothing
pub line_serves : {S : Type 0} (kind : StoreKind S) (t : Span S) (lent : Lending) (rose : Type 0) (old new : TablesView) (e : Event) (a : Answer)
    → is_of_tables e ≡ true → ServesLine kind t lent old new e a → ServesEvent kind t lent rose (old, new) e a
line_serves kind t lent rose old new (Event.Down k) a is h = absurd (true≢false (sym is))
line_serves kind t lent rose old new (Event.Up k) a is h = absurd (true≢false (sym is))
line_serves kind t lent rose old new Event.Tree a is h = absurd (true≢false (sym is))
line_serves kind t lent rose old new Event.Save a is h = absurd (true≢false (sym is))
line_serves kind t lent rose old new e a is h = h

pub line_untouched : {S : Type 0} (kind : StoreKind S) (t : Span S) (k : KeeperSpan) (settings : Settings) (old new : TablesView) (e : Event) (a : Answer)
    → is_of_tables e ≡ true → k.untouched → KeeperTurn kind t k settings old new e a
line_untouched kind t k settings old new Event.Save a is same = absurd (true≢false (sym is))
line_untouched kind t k settings old new e a is same = same

-- what is not one of the other lines
pub of_tables : (e : Event) → ((k : ℕ) → e ≢ Event.Down k) → ((k : ℕ) → e ≢ Event.Up k) → e ≢ Event.Tree → e ≢ Event.Save → is_of_tables e ≡ true
of_tables (Event.Down k) down up tree save = absurd (down k refl)
of_tables (Event.Up k) down up tree save = absurd (up k refl)
of_tables Event.Tree down up tree save = absurd (tree refl)
of_tables Event.Save down up tree save = absurd (save refl)
of_tables e down up tree save = refl
