-- Lines of clients name what was named, or was just added; and whoever is open goes on from who was.
use Rattle.wtf_clients.proofs.Common.{Slice, Place, Store, Key, Value, MapBytes, MaybeBytes, ValueBytes, Told, is_told, is_listed, Map, metadata_at, TellsOn}
use Rattle.wtf_clients.proofs.Common.{maybe_stays, lists_have, KeepsMaps, TxnView, hand_of, again_weaker, JobView, target_region, BesideView, TablesView}
use Rattle.wtf_clients.proofs.Common.{of_client, of_label, was_job, AreSound, Sets, NamesTables, Ends, IsOwnTxn, IsOwnJob, FollowsTxn, FollowsJob, Went, ◌≡◌, ℕ}
use Rattle.wtf_clients.proofs.Common.{Bool, true, List, [], Option, None, Some, refl, sym, ap, ◌∙◌, subst, ⊎_elim}
use Rattle.wtf_clients.specs.Named.{ListedBytes}
use Rattle.wtf_clients.proofs.{JobPins.job_upto, JobPins.job_pinned, Lives.live_upto, Lives.pinned_live, Lives.Reaches, Lives.ended_reaches, Pins.number_cases}
use Rattle.wtf_clients.proofs.{SafeLaws.region_had, SafeLaws.map_region, ScanLaws.own_txn_along, ScanLaws.own_job_along, ToldLaws.listed_later}
use Rattle.wtf_clients.proofs.{ToldLaws.tables_later}

-- who stays follows himself
pub stays_txn : (Added : (List Place → Bool) → Type 0) (o : Option TxnView) (y : TxnView) → o ≡ Some y → FollowsTxn Added o y
stays_txn Added o y is = subst (λ p. FollowsTxn Added p y) (sym is) (refl, λ P added h. h)

pub stays_job : (Added : (List Place → Bool) → Type 0) (o : Option JobView) (y : JobView) → o ≡ Some y → FollowsJob Added o y
stays_job Added o y is = subst (λ p. FollowsJob Added p y) (sym is) refl

-- ---- over stores that tell more
module _ (size : ℕ) (told later : Told) (on : TellsOn told later) where
  map_had : (P : List Place → Bool) (w : Map) → MapBytes (is_told told) (is_listed size told) w → MapBytes P (lists_have size later P) w
      → MapBytes P (lists_have size told P) w
  map_had P w known h q = by (w q) (known q) (h q)
    where
      by : (v : Option Value) → ValueBytes (is_told told) (is_listed size told) v → ValueBytes P (lists_have size later P) v
          → ValueBytes P (lists_have size told P) v
      by None k b = tt
      by (Some (Value.Node n)) k b = tt
      by (Some (Value.Names ns)) k b = tt
      by (Some (Value.Count n)) k b = tt
      by (Some (Value.Last r)) k b = tt
      by (Some (Value.Region v)) k b = region_had size told later P on (Some v) k b

  pub own_txn_later : (kv : Store Key Value) (x : TxnView) → MapBytes (is_told told) (is_listed size told) (metadata_at kv x.at.base)
      → IsOwnTxn size told kv x → IsOwnTxn size later kv x
  own_txn_later kv x known own P hole base log =
      let was = own P hole (map_had P (metadata_at kv x.at.base) known base) log in
      let both = again_weaker kv (hand_of x) x.log P P (λ qs is. is) (lists_have size told P) (lists_have size later P) (listed_later size told later P on)
      (was.hand, was.log) in
      record { hand = both.0; log = both.1 }

  pub own_job_later : (kv : Store Key Value) (x : JobView) → MaybeBytes (is_told told) (is_listed size told) (target_region (metadata_at kv x.base) x.target)
      → IsOwnJob size told kv x → IsOwnJob size later kv x
  own_job_later kv x known own P hole base stored =
      maybe_stays P P (λ qs is. is) (lists_have size told P) (lists_have size later P) (listed_later size told later P on) x.value
      (own P hole (region_had size told later P on (target_region (metadata_at kv x.base) x.target) known base) stored)

  -- ---- one client alone has now this transaction, or none; what stands beside stays
  module _ (Added : (List Place → Bool) → Type 0) (old new : TablesView) (c : ℕ) (now : Option TxnView) (sound : AreSound old)
      (sets : Sets c now old.clients new.clients) (maps : KeepsMaps old.kv new.kv) (reach : Reaches old.kv new.kv)
      (beside : new.beside ≡ old.beside) (names : ListedBytes size told (is_told told) old) where
    was_there : (j : ℕ) (x : JobView) → of_label new.beside.jobs j ≡ Some x → of_label old.beside.jobs j ≡ Some x
    was_there j x is = ap (λ (b : BesideView). of_label b.jobs j) (sym beside) ∙ is

    pub client_went : ((P : List Place → Bool) → P [] ≡ true → Added P → ListedBytes size told P old → ListedBytes size later P new)
        → ((y : TxnView) → now ≡ Some y → FollowsTxn Added (of_client old.clients c) y)
        → ((y : TxnView) → now ≡ Some y → ((x : TxnView) → of_client old.clients c ≡ Some x → IsOwnTxn size told old.kv x) → IsOwnTxn size later new.kv y)
        → Went size told later Added old new
    client_went carries follows own = record {
      carries = carries;
      maps = λ n pinned. maps n (live_upto old n sound (reach n pinned));
      gc = ap (λ (b : BesideView). b.gc) beside;
      scan_tx = ap (λ (b : BesideView). b.scan_tx) beside;
      txns = λ d y is. ⊎_elim
          (λ same. subst (λ k. FollowsTxn Added (of_client old.clients k) y) (sym same)
          (follows y (sym sets.is ∙ ap (of_client new.clients) (sym same) ∙ is)))
          (λ other. stays_txn Added (of_client old.clients d) y (sym (sets.others d other) ∙ is))
          (number_cases d c);
      jobs = λ j y is. stays_job Added (of_label old.beside.jobs j) y (was_there j y is);
      scan_jobs = λ j x is. ap (λ (b : BesideView). was_job b j) beside;
      own_txns = λ owned d y is. ⊎_elim
          (λ same. own y (sym sets.is ∙ ap (of_client new.clients) (sym same) ∙ is) (λ x there. owned c x there))
          (λ other.
          let was : of_client old.clients d ≡ Some y = sym (sets.others d other) ∙ is in
          let based = (sound.each d y was).based in
          own_txn_along size later old.kv new.kv y (maps y.at.base based) (own_txn_later old.kv y (names.each d y was).hand.base (owned d y was)))
          (number_cases d c);
      own_jobs = λ owned j y is.
          let was = was_there j y is in
          let P : List Place → Bool = is_told told in
          let Q : Slice → Bool = is_listed size told in
          own_job_along size later old.kv new.kv y (maps y.base (job_upto old j y sound was)) (own_job_later old.kv y
          (map_region P Q (metadata_at old.kv y.base) (names.live y.base (pinned_live old.kv y.base (job_pinned old j y sound was)))
          y.target.inode y.target.region) (owned j y was));
    }

  -- one client's transaction stays, or has ended
  module _ (Added : (List Place → Bool) → Type 0) (old new : TablesView) (c : ℕ) (sound : AreSound old)
      (known : ListedBytes size told (is_told told) old) where
    -- where no more is named than was
    pub stays_went : (now : Option TxnView) → Sets c now old.clients new.clients → KeepsMaps old.kv new.kv → Reaches old.kv new.kv
        → new.beside ≡ old.beside → NamesTables old new → ((y : TxnView) → now ≡ Some y → of_client old.clients c ≡ Some y) → Went size told later Added old new
    stays_went now sets maps reach beside names was =
        client_went Added old new c now sound sets maps reach beside known
        (λ P hole added h. names P (lists_have size later P) hole (tables_later size told later P on old h))
        (λ y is. stays_txn Added (of_client old.clients c) y (was y is))
        (λ y is own.
        let there = was y is in
        own_txn_along size later old.kv new.kv y (maps y.at.base (sound.each c y there).based)
        (own_txn_later old.kv y (known.each c y there).hand.base (own y there)))

    -- where it left the store so
    pub ends_went : (mid : Store Key Value) (x : TxnView) → Ends old new mid c x
        → ((P : List Place → Bool) → P [] ≡ true → Added P → ListedBytes size told P old → ListedBytes size later P new) → Went size told later Added old new
    ends_went mid x ends carries =
        client_went Added old new c None sound ends.clients (λ n le. ap (λ (s : Store Key Value). metadata_at s n) ends.kv ∙ ends.maps n le)
        (ended_reaches old.kv mid new.kv x.at.base ends.pins ends.unpinned) ends.beside known carries
        (λ y is. absurd (none_some y is)) (λ y is own. absurd (none_some y is))
      where
        none_some : (y : TxnView) → ◌≡◌ {A = Option TxnView} None (Some y) → ⊥
        none_some y e = cc
