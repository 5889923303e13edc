-- Lines of scans and collections keep the tables sound, and a scan names nothing new.
use Rattle.wtf_core.proofs.Common.{Settings, Range, StoreKind, KindLaws, IsRing, is_down, span, Dev, CacheTrue, IsSoundDev, GoesOn, stores, remembered, told_in}
use Rattle.wtf_core.proofs.Common.{shown_in, byte_at-kept, goes_nowhere, goes_on, Told, Answer, NoServer, ScanBusy, NoScan, TablesBytes, IsSafe, ScanTurn}
use Rattle.wtf_core.proofs.Common.{DoesTurn, PieceTurn, CollectTurn, TellsTables, NamesTables, IsPlain, AreSound, BesideView, TablesView, start_reads}
use Rattle.wtf_core.proofs.Common.{start_maps, kept_names, later_safe, tells_after, piece_tells, piece_safe, pruned_tells, pruned_safe, IsByDevices, CoreView}
use Rattle.wtf_core.proofs.Common.{◌≡◌, ◌∙◌, ℕ, List, [], sym, ap, subst}

module _ {S : Type 0} (kind : StoreKind S) (shelf : List S) (old new : TablesView) (sound : AreSound old) where
  pub scan_names : (a : Answer) → ScanTurn kind shelf old new a → NamesTables old new
  scan_names (Answer.Refused ScanBusy) h = λ P Q hole was. subst (λ (t : TablesView). TablesBytes P Q t) (sym h.0) was
  scan_names (Answer.Held who) h = λ P Q hole was. subst (λ (t : TablesView). TablesBytes P Q t) (sym h.0) was
  scan_names Answer.Scanning h =
      kept_names old new sound (start_reads kind shelf old new sound h) (λ n live. start_maps kind shelf old new sound h n) h.clients
      (ap (λ (b : BesideView). b.jobs) h.beside)
  scan_names a h = absurd h

  pub scan_plain : (a : Answer) → ScanTurn kind shelf old new a → IsPlain a
  scan_plain (Answer.Refused ScanBusy) h = tt
  scan_plain (Answer.Held who) h = tt
  scan_plain Answer.Scanning h = tt
  scan_plain a h = absurd h

-- devices that were lent
pub by_devices : {S : Type 0} (kind : StoreKind S) (before after : Dev S) (old new : CoreView) (P : Dev S → Dev S → Type 0) → before.settings ≡ old.settings
    → after.settings ≡ before.settings → before.replicas.now ≡ old.replicas → IsRing old.settings.servers before.ring.now.points → IsSoundDev kind before
    → remembered before ≡ old.lists → remembered after ≡ new.lists → P before after
    → IsByDevices kind (span (is_down old.replicas) (stores before) (stores after)) old new P
by_devices kind before after old new P settings same replicas ring sound was is did = record {
  before = before;
  after = after;
  lent = record {
    span_is = ap (λ r. span (is_down r) (stores before) (stores after)) replicas;
    settings_are = settings;
    lists_are = was;
    left_are = is;
    ring_is = ring;
  };
  settings_after = same ∙ settings;
  sound = sound;
  remembered_before = was;
  remembered_after = is;
  did = did;
}

-- ---- parts of a scan over stores that tell
module _ {S : Type 0} {kind : StoreKind S} (laws : KindLaws kind) (before after : Dev S) (goes : GoesOn kind before after []) (old new : TablesView)
    (sound : AreSound old) (tells : TellsTables kind (stores before) before.settings (remembered before) old) where
  abbrev told : Told
  told = told_in kind before

  abbrev later : Told
  later = told_in kind after

  abbrev size : ℕ
  size = before.settings.region

  abbrev Next : Type 0
  Next = TellsTables kind (stores after) before.settings (remembered after) new × (IsSafe size told old → IsSafe size later new)

  -- the lists that are remembered are true still
  stay : (ranges : List (ℕ × Range)) → CacheTrue (shown_in kind before) size ranges (remembered before)
      → CacheTrue (shown_in kind after) size ranges (remembered after)
  stay ranges h = subst (λ (s : Settings). CacheTrue (shown_in kind after) s.region ranges (remembered after)) goes.settings (goes.lists ranges h)

  same_next : new ≡ old → Next
  same_next same = (
    tells_after laws before after goes.each goes.settings old new sound tells stay
        (λ P Q hole h. subst (λ (t : TablesView). TablesBytes P Q t) (sym same) h),
    λ safe. subst (λ (t : TablesView). IsSafe size later t) (sym same)
        (later_safe size told later (λ p byte is. byte_at-kept laws goes.each p byte tt is) old sound tells.names safe),
  )

  does_next : (n left : ℕ) → DoesTurn kind before after old new n left → Next
  does_next n left h = (
    piece_tells laws before after goes.each goes.settings old new sound tells n left h stay,
    piece_safe laws before after goes.each goes.settings old new sound tells n left h,
  )

  pub piece_next : (n : ℕ) (a : Answer) → PieceTurn kind before after old new n a → Next
  piece_next n (Answer.Refused NoScan) h = same_next h.0
  piece_next n (Answer.More left) h = does_next n left h.1
  piece_next n Answer.Done h = does_next n 0 h
  piece_next n a h = (
    pruned_tells laws before after goes.each goes.settings old new sound tells h.pruned stay,
    pruned_safe laws before after goes.each goes.settings old new sound tells h.pruned,
  )

-- ---- a collection
-- what was lent goes on, with ranges that were punched
module _ {S : Type 0} {kind : StoreKind S} (laws : KindLaws kind) (before after : Dev S) (sound : IsSoundDev kind before) (old new : TablesView) (k : ℕ) where
  abbrev pub Goes : Type 0
  Goes = (ranges : List (ℕ × Range)) × GoesOn kind before after ranges

  nowhere : after ≡ before → Goes
  nowhere stay = ([], subst (λ (dev : Dev S). GoesOn kind before dev []) (sym stay) (goes_nowhere laws before sound))

  pub collect_goes : (a : Answer) → CollectTurn kind before after old new k a → Goes
  collect_goes (Answer.Refused NoServer) h = nowhere h.1
  collect_goes (Answer.Refused NoScan) h = nowhere h.1
  collect_goes (Answer.Collected n) h = (h.1.frees.ranges, h.1.frees.goes)
  collect_goes (Answer.FaultPunch j) h = (_, goes_on laws h.1.frees.goes h.1.frees.last)
  collect_goes a h = absurd h
