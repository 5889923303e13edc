-- A commit, from what was installed and from where it went on.
use Rattle.std.proofs.Common.{◌≡◌, ◌≤◌, ◌<◌, ◌^◌, ℕ, Bool, true, List, length, refl, sym, ap, ◌∙◌, subst, arith, inl, inr}
use Rattle.std.specs.Prelude.{Result, Ok, Err}
use Rattle.wtf_base.specs.declared.fault.Fault.{Fault}
use Rattle.wtf_base.specs.declared.slice.Slice.{Slice}
use Rattle.wtf_dev.specs.Store.{StoreKind, KindLaws}
use Rattle.wtf_overlay.specs.Origin.{Place}
use Rattle.wtf_kv.specs.Stores.{Store}
use Rattle.wtf_occ.specs.Tries.{Stays, IsInstalled}
use Rattle.wtf_model.specs.declared.answer.Answer.{Answer}
use Rattle.wtf_model.specs.declared.answer.Answer.TheVariants as answer
use Rattle.wtf_model.specs.declared.op.Op.{Op}
use Rattle.wtf_values.specs.declared.key.Key.{Key}
use Rattle.wtf_values.specs.declared.value.Value.{Value}
use Rattle.wtf_values.specs.Keys.{key_cmp}
use Rattle.wtf_values.specs.Outcomes.{outcome_of}
use Rattle.wtf_meta.specs.Bytes.{MapBytes, any_slice}
use Rattle.wtf_meta.specs.Maps.{metadata_at}
use Rattle.wtf_meta.specs.Trees.{Stands}
use Rattle.wtf_meta.proofs.MapBytes.{with_bytes}
use Rattle.wtf_meta.proofs.Nothing.{nothing_kept}
use Rattle.wtf_region.specs.declared.dev.Dev.{Dev}
use Rattle.wtf_region.specs.Apart.{are_apart}
use Rattle.wtf_region.specs.Devs.{IsSoundDev, stores, told_in, is_down_in}
use Rattle.wtf_region.specs.Inside.{is_inside, IsStoredInside}
use Rattle.wtf_region.proofs.Recalls.{recalls_same}
use Rattle.wtf_region.proofs.ShowLaws.{reads_nothing}
use Rattle.wtf_region.proofs.Spans.{goes_nowhere}
use Rattle.wtf_replay.specs.Views.{TxnView, rebased}
use Rattle.wtf_replay.specs.Fits.{IsLog}
use Rattle.wtf_replay.specs.Insides.{TxnBytes, NamesNow}
use Rattle.wtf_replay.specs.Causes.{ReplayFault, MayCommitFault}
use Rattle.wtf_replay.specs.Sounds.{TellsMap}
use Rattle.wtf_replay.specs.Tried.{KeepsMaps, KeepsVersions, KeepsPins, commit_from}
use Rattle.wtf_replay.specs.Effects.{scope}
use Rattle.wtf_replay.specs.Installs.{IsInstall}
use Rattle.wtf_replay.specs.Verbs.{Turn, turn, StartsNow, FinishOf, CommitOf, CanCommit, ended_by, scope_of, region_size, told_before, told_after}
use Rattle.wtf_replay.proofs.Insiding.{map_later, inside_later, txn_kept}
use Rattle.wtf_replay.proofs.Faulting.{away_along, fault_along, commit_fault_along}
use Rattle.wtf_replay.proofs.Naming.{named_none, named_by, named_inside}
use Rattle.wtf_replay.proofs.Sounding.{sound_along}
use Rattle.wtf_replay.proofs.Trying.{final_from}
use Rattle.wtf_replay.proofs.Keeping.{fit_after}
use Rattle.wtf_replay.proofs.Starting.{sound_rebased}
use Rattle.wtf_replay.proofs.Ending.{true_end_as, true_end_along, ended_along}
use Rattle.wtf_replay.proofs.Froms.{from_along}
use Rattle.wtf_replay.proofs.Installing.{installs_live, install_along}

-- what a commit that starts so starts from: the transaction itself, or one that begins again at the number
pub record Starts {S : Type 0} (t : Turn S) (y : TxnView) : Type 0 where
  pub tx : y.tx ≡ t.old.tx
  pub log : y.log ≡ t.old.log
  pub start : (ops : List (Op (List ℕ))) → StartsNow t ops → StartsNow (record t { old = y }) ops
  pub names : (P : List Place → Bool) (Q : Slice → Bool) → TxnBytes P Q t.kv t.old × MapBytes P Q (metadata_at t.kv t.kv.number)
      → TxnBytes P Q t.kv y × MapBytes P Q (metadata_at t.kv t.kv.number)

pub starts_here : {S : Type 0} (t : Turn S) → Starts t t.old
starts_here t = record { tx = refl; log = refl; start = λ ops start. start; names = λ P Q were. were }

pub starts_over : {S : Type 0} (t : Turn S) → Starts t (rebased t.old t.kv.number)
starts_over t = record {
  tx = refl;
  log = refl;
  start = λ ops start. (
    start.0,
    start.1,
    record { hand = record { base = start.1.away; changes = tt; slices = nothing_kept (are_apart start.0) }; log = start.2.log },
    sound_rebased (region_size t) t.kv (told_before t) t.old t.kv.number ops start.3.ops_are,
  );
  names = λ P Q were. (record { hand = record { base = were.1; changes = tt; slices = nothing_kept P }; log = were.0.log }, were.1);
}

may_as : {S : Type 0} (t : Turn S) (y : TxnView) (why : Fault) → y.tx ≡ t.old.tx
    → MayCommitFault t.before.settings (metadata_at t.kv t.kv.number) (told_before t) y why
    → MayCommitFault t.before.settings (metadata_at t.kv t.kv.number) (told_before t) t.old why
may_as t y why tx may tree st =
    may tree (subst (λ (n : ℕ). Stands t.before.settings.region (told_before t) n 0 (metadata_at t.kv t.kv.number) tree) (sym tx) st)

module _ {S : Type 0} (t : Turn S) (laws : KindLaws t.kind) (y : TxnView) (from : commit_from t.kv t.old ≡ y) (starts : Starts t y)
    (ready : CanCommit t.kind t.before t.kv t.old) (below : t.old.at.base ≤ t.kv.number) where
  -- what was installed is a commit of the transaction, which has ended, or after a fault is as it was
  pub commit_by : (r : Result Answer Fault) → t.new ≡ ended_by t.old r → FinishOf (record t { old = y; new = y }) r → CommitOf t r
  commit_by (Ok a) is f =
      let inside = inside_later laws f.dev.each t.before.settings ready.sound.shelf t.kv t.old ready.inside in
      let ended : TxnView = record t.old { ended = true } in
      let there : CommitOf (record t { new = ended }) (Ok a) = record {
        ended = f.ended;
        over = record { tx = refl; base = refl; log = refl; ended = refl };
        installs = subst (λ z. IsInstall (scope_of t) t.kv t.left z a) (sym from) f.installs;
        meaning = λ ops start. true_end_as a (region_size t) (told_before t, told_after t) t.kv t.left y t.old ops (sym starts.tx) (sym starts.log)
            (f.meaning ops (starts.start ops start));
        named = named_by f.named starts.names (λ P Q hole were are. are);
        maps = f.maps;
        pins = f.pins;
        fit = fit_after t.kv t.left t.old ended ready.fit refl refl refl below f.maps f.pins;
        inside = txn_kept t.kind (stores t.after) t.before.settings t.kv t.left t.old ended refl refl refl below f.maps inside;
        inside_now =
            f.named.names (is_inside t.kind (stores t.after) t.before.settings) any_slice refl
            (starts.names (is_inside t.kind (stores t.after) t.before.settings) any_slice
            (inside, map_later laws f.dev.each t.before.settings ready.sound.shelf (metadata_at t.kv t.kv.number) ready.inside_now))
            (named_inside t.kind t.before t.after f.dev f.named.lists f.named.inside);
        err = tt;
        err_store = tt;
        fault = tt;
        due = tt;
        reads = f.reads;
        dev = f.dev;
      } in
      subst (λ z. CommitOf (record t { new = z }) (Ok a)) (sym is) there
  commit_by (Err why) is f =
      let inside = inside_later laws f.dev.each t.before.settings ready.sound.shelf t.kv t.old ready.inside in
      let same : metadata_at t.left t.left.number ≡ metadata_at t.kv t.kv.number = ap (metadata_at t.left) f.err_store.0 ∙ f.maps t.kv.number (omega arith) in
      let there : CommitOf (record t { new = t.old }) (Err why) = record {
        ended = tt;
        over = tt;
        installs = tt;
        meaning = tt;
        named = tt;
        maps = f.maps;
        pins = f.pins;
        fit = fit_after t.kv t.left t.old t.old ready.fit refl refl refl below f.maps f.pins;
        inside = txn_kept t.kind (stores t.after) t.before.settings t.kv t.left t.old t.old refl refl refl below f.maps inside;
        inside_now = subst (IsStoredInside t.kind (stores t.after) t.before.settings) (sym same)
            (map_later laws f.dev.each t.before.settings ready.sound.shelf (metadata_at t.kv t.kv.number) ready.inside_now);
        err = refl;
        err_store = f.err_store;
        fault = elim f.fault [
          | inl short ↦ inl short
          | inr cause ↦ inr (subst (λ z. ReplayFault t.kind t.before t.after t.kv z why) (sym from) cause)
        ];
        due = λ ops start. may_as t y why starts.tx (f.due ops (starts.start ops start));
        reads = f.reads;
        dev = f.dev;
      } in
      subst (λ z. CommitOf (record t { new = z }) (Err why)) (sym is) there

-- a store that shows the same as another
pub record ShowsAs (kv kv2 : Store Key Value) : Type 0 where
  pub number : kv2.number ≡ kv.number
  pub maps : (m : ℕ) → metadata_at kv2 m ≡ metadata_at kv m
  pub versions : KeepsVersions kv kv2

as_it_is : (kv : Store Key Value) → ShowsAs kv kv
as_it_is kv = record { number = refl; maps = λ m. refl; versions = λ q. refl }

stayed : {kv mid : Store Key Value} → Stays key_cmp kv mid → ShowsAs mid kv
stayed stays = record { number = sym stays.same.number; maps = λ m. sym (stays.maps m); versions = λ q. sym (stays.same.versions q) }

map_now : {kv kv2 : Store Key Value} → ShowsAs kv kv2 → metadata_at kv2 kv2.number ≡ metadata_at kv kv.number
map_now {kv} {kv2} shows = ap (metadata_at kv2) shows.number ∙ shows.maps kv.number

-- a start over a store that shows the same
start_along : {S : Type 0} (t : Turn S) (kv2 left2 : Store Key Value) → ShowsAs t.kv kv2 → (ops : List (Op (List ℕ)))
    → StartsNow (record t { kv = kv2; left = left2 }) ops → StartsNow t ops
start_along t kv2 left2 shows ops start = (
  start.0,
  subst (TellsMap t.kind t.before start.0) (map_now shows) start.1,
  away_along t.kind t.before start.0 kv2 t.kv t.old (shows.maps t.old.at.base) start.2,
  sound_along (region_size t) kv2 t.kv (told_before t) t.old ops (sym (shows.maps t.old.at.base)) start.3,
)

names_along : {kv kv2 : Store Key Value} → ShowsAs kv kv2 → (x : TxnView) (P : List Place → Bool) (Q : Slice → Bool)
    → TxnBytes P Q kv2 x × MapBytes P Q (metadata_at kv2 kv2.number) → TxnBytes P Q kv x × MapBytes P Q (metadata_at kv kv.number)
names_along shows x P Q were = (
  record {
    hand = record {
      base = subst (MapBytes P Q) (shows.maps x.at.base) were.0.hand.base;
      changes = were.0.hand.changes;
      slices = were.0.hand.slices;
    };
    log = were.0.log;
  },
  subst (MapBytes P Q) (map_now shows) were.1,
)

-- what was installed over a store that shows the same, and left one that does
module _ {S : Type 0} (t : Turn S) (kv2 left2 : Store Key Value) (shows : ShowsAs t.kv kv2) (leaves : ShowsAs t.left left2) where
  named_along : (x : TxnView) → NamesNow t.kind t.before t.after t.kv t.left x → NamesNow t.kind t.before t.after kv2 left2 x
  named_along x named = named_by named (names_along shows x) (λ P Q hole were are. subst (MapBytes P Q) (sym (map_now leaves)) are)

  maps_along : KeepsMaps t.kv t.left → KeepsMaps kv2 left2
  maps_along maps n le =
      let number = shows.number in
      leaves.maps n ∙ maps n (omega (arith, le, number)) ∙ sym (shows.maps n)

  versions_along : KeepsVersions t.kv t.left → KeepsVersions kv2 left2
  versions_along keeps q = leaves.versions q ∙ keeps q ∙ sym (shows.versions q)

  pub finish_along : (r : Result Answer Fault) → KeepsPins kv2 left2 → FinishOf t r → FinishOf (record t { kv = kv2; left = left2 }) r
  finish_along (Ok a) pins f = record {
    ended = ended_along a t.kv kv2 t.left left2 shows.number leaves.number f.ended;
    installs = install_along a (scope_of t) t.kv kv2 t.left left2 t.old shows.number shows.maps shows.versions leaves.number leaves.versions f.installs;
    meaning = λ ops start.
        true_end_along a (region_size t) (told_before t, told_after t) t.kv kv2 t.left left2 t.old ops shows.number shows.maps shows.versions
        leaves.number leaves.maps leaves.versions
        (f.meaning ops (start_along t kv2 left2 shows ops start));
    named = named_along t.old f.named;
    maps = maps_along f.maps;
    pins = pins;
    err_store = tt;
    fault = tt;
    due = tt;
    reads = f.reads;
    dev = f.dev;
  }
  finish_along (Err why) pins f = record {
    ended = tt;
    installs = tt;
    meaning = tt;
    named = tt;
    maps = maps_along f.maps;
    pins = pins;
    err_store = (leaves.number ∙ f.err_store.0 ∙ sym shows.number, versions_along f.err_store.1);
    fault = elim f.fault [
      | inl short ↦ inl short
      | inr cause ↦ inr (fault_along t.kind t.before t.after t.kv kv2 t.old why (λ m. sym (shows.maps m)) cause)
    ];
    due = λ ops start.
        subst (λ w. MayCommitFault t.before.settings w (told_before t) t.old why) (sym (map_now shows)) (f.due ops (start_along t kv2 left2 shows ops start));
    reads = f.reads;
    dev = f.dev;
  }

-- a commit over a store in which an install was tried, and failed
pub commit_along : {S : Type 0} (t : Turn S) (kv : Store Key Value) → Stays key_cmp kv t.kv → KeepsPins kv t.kv → (r : Result Answer Fault) → CommitOf t r
    → CommitOf (record t { kv = kv }) r
commit_along t kv stays pins (Ok a) f =
    let shows : ShowsAs t.kv kv = stayed stays in
    let left = as_it_is t.left in
    record {
      ended = ended_along a t.kv kv t.left t.left shows.number refl f.ended;
      over = f.over;
      installs = subst (λ y. IsInstall (scope_of t) kv t.left y a) (from_along kv t.kv t.old stays)
          (install_along a (scope_of t) t.kv kv t.left t.left (commit_from t.kv t.old) shows.number shows.maps shows.versions refl (λ q. refl) f.installs);
      meaning = λ ops start.
          true_end_along a (region_size t) (told_before t, told_after t) t.kv kv t.left t.left t.old ops shows.number shows.maps
          shows.versions refl (λ m. refl) (λ q. refl)
          (f.meaning ops (start_along t kv t.left shows ops start));
      named = named_along t kv t.left shows left t.old f.named;
      maps = maps_along t kv t.left shows left f.maps;
      pins = λ n. f.pins n ∙ pins n;
      fit = f.fit;
      inside = f.inside;
      inside_now = f.inside_now;
      err = tt;
      err_store = tt;
      fault = tt;
      due = tt;
      reads = f.reads;
      dev = f.dev;
    }
commit_along t kv stays pins (Err why) f =
    let shows : ShowsAs t.kv kv = stayed stays in
    let left = as_it_is t.left in
    record {
      ended = tt;
      over = tt;
      installs = tt;
      meaning = tt;
      named = tt;
      maps = maps_along t kv t.left shows left f.maps;
      pins = λ n. f.pins n ∙ pins n;
      fit = f.fit;
      inside = f.inside;
      inside_now = f.inside_now;
      err = f.err;
      err_store = (f.err_store.0 ∙ sym shows.number, versions_along t kv t.left shows left f.err_store.1);
      fault = commit_fault_along t.kind t.before t.after kv t.kv t.old why stays f.fault;
      due = λ ops start.
          subst (λ w. MayCommitFault t.before.settings w (told_before t) t.old why) (sym (map_now shows)) (f.due ops (start_along t kv t.left shows ops start));
      reads = f.reads;
      dev = f.dev;
    }

-- and what it is lent
pub ready_along : {S : Type 0} (kind : StoreKind S) (dev : Dev S) (kv mid : Store Key Value) (x : TxnView) → Stays key_cmp kv mid → KeepsPins kv mid
    → x.at.base ≤ kv.number → CanCommit kind dev kv x → CanCommit kind dev mid x
ready_along kind dev kv mid x stays pins below ready =
    let maps : KeepsMaps kv mid = λ n le. stays.maps n in
    record {
      going = ready.going;
      sound = ready.sound;
      fit = fit_after kv mid x x ready.fit refl refl refl below maps pins;
      inside = txn_kept kind (stores dev) dev.settings kv mid x x refl refl refl below maps ready.inside;
      inside_now = subst (IsStoredInside kind (stores dev) dev.settings) (sym (ap (metadata_at mid) stays.same.number ∙ stays.maps kv.number)) ready.inside_now;
      room = subst (λ n. n < 2 ^ 63) (sym stays.same.number) ready.room;
    }

-- a transaction whose changes were installed as they stood
pub finish_live : {S : Type 0} {kind : StoreKind S} → KindLaws kind → (dev : Dev S) (kv mid : Store Key Value) (x y : TxnView) (n : ℕ) → IsSoundDev kind dev
    → IsLog x.log → x.replayed ≡ length x.log.ops → IsInstalled key_cmp outcome_of x.at kv mid n → KeepsMaps kv mid → KeepsPins kv mid
    → FinishOf (turn kind dev dev kv mid x y) (Ok (answer.Committed n))
finish_live {kind = kind} laws dev kv mid x y n sound log live installed maps pins = record {
  ended = (installed.next, installed.number);
  installs = installs_live (scope kind dev dev) kv mid x n live (recalls_same kind dev dev refl) installed;
  meaning = λ ops start. final_from dev.settings.region kv (told_in kind dev) x ops start.3 mid n log live installed;
  named = named_none (λ P Q hole were. subst (MapBytes P Q) (sym (ap (metadata_at mid) installed.number ∙ installed.map))
      (with_bytes P Q hole x.at.changes (metadata_at kv kv.number) were.1 were.0.hand.changes));
  maps = maps;
  pins = pins;
  err_store = tt;
  fault = tt;
  due = tt;
  reads = reads_nothing kind (is_down_in dev) (stores dev);
  dev = goes_nowhere laws dev sound;
}
