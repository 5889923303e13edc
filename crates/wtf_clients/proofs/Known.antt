-- Over stores that tell, and lists that are true but where a byte of a slice was punched, which nothing names, a transaction may go on. And lists
-- that a call knew are known of its line.
use Rattle.wtf_clients.proofs.Common.{Settings, StoreKind, TellsAll, Store, Key, Value, Answer, Aborted', Op, ListFact, TellLists, InHand, MapBytes, Told}
use Rattle.wtf_clients.proofs.Common.{is_told, is_listed, lists_in, Map, metadata_at, IsRing, Dev, are_apart, GoesOn, stores, between, told_in, RemembersTrue}
use Rattle.wtf_clients.proofs.Common.{TellsFacts, TxnView, lists_have, LogStands, TellsMap, IsAwayTxn, turn, StartsSound, StartsNow, Scope, scope, Redoes}
use Rattle.wtf_clients.proofs.Common.{Recalled, Recalls, StopsAt, stops_later}
use Rattle.wtf_clients.proofs.Common.{IsInstall, redone_later, IsLent, lent_by, seeing, TablesView, of_client, metadata_now, AreTrue, ReadsLists, ◌≡◌, ℕ, ◌-◌}
use Rattle.wtf_clients.proofs.Common.{List, [], Some, length, refl, subst}
use Rattle.wtf_clients.proofs.Lives.{now_bytes}

module _ {S : Type 0} (kind : StoreKind S) (dev : Dev S) (all : TellsAll kind (stores dev)) (tables : TablesView)
    (kept : AreTrue dev.settings.region (told_in kind dev) (RemembersTrue kind dev) tables) where
  abbrev told : Told
  told = told_in kind dev

  abbrev size : ℕ
  size = dev.settings.region

  -- the stores tell all of a map
  abbrev TellsSo : Map → Type 0
  TellsSo w = MapBytes (is_told told) (is_listed size told) w

  -- and it names no byte of the ranges that were punched
  abbrev IsAway : Map → Type 0
  IsAway w = MapBytes (are_apart kept.ranges) (lists_have size told (are_apart kept.ranges)) w

  tells_map : (w : Map) → TellsSo w → IsAway w → TellsMap kind dev kept.ranges w
  tells_map w map away = record { all = all; map = map; cache = kept.cache; away = away }

  module _ (new : Dev S) (left : Store Key Value) (c : ℕ) (x y : TxnView) (ops : List (Op (List ℕ))) (there : of_client tables.clients c ≡ Some x)
      (base : TellsSo (metadata_at tables.kv x.at.base)) (sound : LogStands size tables.kv told x ops) where
    away : IsAwayTxn kind dev kept.ranges tables.kv x
    away = kept.away.each c x there

    pub starts_sound : StartsSound (turn kind dev new tables.kv left x y) ops
    starts_sound = (kept.ranges, tells_map (metadata_at tables.kv x.at.base) base away.hand.base, away, sound)

    pub starts_now : TellsSo (metadata_now tables.kv) → StartsNow (turn kind dev new tables.kv left x y) ops
    starts_now now = (
      kept.ranges,
      tells_map (metadata_now tables.kv) now
          (now_bytes (are_apart kept.ranges) (lists_have size told (are_apart kept.ranges)) tables kept.away),
      away,
      sound,
    )

-- the devices of a line
pub lent_to : {S : Type 0} (old new : Dev S) → IsRing old.settings.servers old.ring.now.points → IsLent (between old new) (lent_by old new) old new
lent_to old new ring = record { span_is = refl; settings_are = refl; lists_are = refl; left_are = refl; ring_is = ring }

-- lists that were asked for of these are so in what is seen of a line that was lent them
pub recalled_in : {S : Type 0} (kind : StoreKind S) (old new : Dev S) (facts : List ListFact) → Recalls kind old new facts
    → Recalled (seeing kind (between old new) (lent_by old new)) facts
recalled_in kind old new facts h = record { got = h.got; left = h.left }

module _ {S : Type 0} (kind : StoreKind S) (old new : Dev S) (goes : GoesOn kind old new []) where
  abbrev known : Scope
  known = ReadsLists (seeing kind (between old new) (lent_by old new))

  pub knows : (facts : List ListFact) → TellsFacts kind old new facts → known.known facts
  knows facts h = λ ranges cache tell apart. subst (λ (st : Settings). TellLists (lists_in st.region (told_in kind new)) facts) goes.settings
      (h ranges cache tell apart)

  abbrev pub knows_redone : (kv : Store Key Value) (x : TxnView) (k : ℕ) (was is : InHand) → Redoes (scope kind old new) kv x k was is
      → Redoes known kv x k was is
  knows_redone kv x k was is h = record {
    shown = h.shown;
    at_shown = h.at_shown;
    makes = record {
      op = h.makes.op;
      at_op = h.makes.at_op;
      lists = h.makes.lists;
      known = knows h.makes.lists h.makes.known;
      reads = h.makes.reads;
      acts = h.makes.acts;
      holds = h.makes.holds;
      logged = h.makes.logged;
    };
  }

  pub knows_stops : (kv : Store Key Value) (x : TxnView) (i : ℕ) (a : Answer) → StopsAt (scope kind old new) kv x i a → StopsAt known kv x i a
  knows_stops = stops_later (scope kind old new) known refl knows (recalled_in kind old new)

  pub knows_install : (kv after : Store Key Value) (x : TxnView) (a : Answer) → IsInstall (scope kind old new) kv after x a → IsInstall known kv after x a
  knows_install kv after x (Answer.Committed n) h = record {
    hand = h.hand;
    lists = h.lists;
    redone = redone_later (scope kind old new) known refl knows kv x (length x.log.ops - x.replayed) h.lists h.hand h.redone;
    recalls = recalled_in kind old new h.lists h.recalls;
    next = h.next;
    number = h.number;
    versions = h.versions;
  }
  knows_install kv after x (Aborted' i box a) h = record { stops = knows_stops kv x i a h.stops; versions = h.versions }
  knows_install kv after x a h = absurd h
