-- The tables stay sound: in each function that has them to write, and at each of its ends.
use Rattle.wtf_clients.proofs.Common.{Contains, option_map, remove_key, MatchOption, if◌then◌else◌, Contains-append_left, Contains-push_cases, Fault, StoreKind}
use Rattle.wtf_clients.proofs.Common.{Dev, Store, times_pinned, is_pinned, IsPinnedOnceMore, count-push, Key, Value, Answer, Aborted', Word, Op, metadata_at}
use Rattle.wtf_clients.proofs.Common.{call_refusal, try_refusal, step_refusal, IsStepped, IsEnded, IsFit, Turn, turn, CallOf, StepOf, TxnView, begun, Clients}
use Rattle.wtf_clients.proofs.Common.{BesideView, TablesView, of_client, of_label, watching, owned, all_owned, all_kept, IsOpen, AreSound, IsTidied, Sets}
use Rattle.wtf_clients.proofs.Common.{with_image, only_image, Saves, Begins, Ends, Commits, Retries, TryTurn, Tries, Refuses, ◌≡◌, ◌≤◌, ℕ, ◌+◌, ◌⊎◌, true}
use Rattle.wtf_clients.proofs.Common.{false, cond, nat_eq, count_by, IsTrue, List, [], ◌∷◌, Option, None, Some, is_some, Ok, Err, IfSome, refl, sym, ap, ◌∙◌}
use Rattle.wtf_clients.proofs.Common.{subst, inl, inr, ⊎_elim, true≢false, arith}
use Rattle.wtf_clients.proofs.{Frames.Turned, Frames.open_on, Frames.sound_turned, Images.none_in, Lives.pinned_live, Lives.upto_on, Lives.saved_reaches}
use Rattle.wtf_clients.proofs.{Lists.Writes, Lives.only_kept, Lives.added_kept, Lives.watching_kept, Pins.one_some, Pins.base_pinned, Making.refusal_of}
use Rattle.wtf_clients.proofs.{Making.as_words, ScanFrames.sound_scanned, Staying.goes_sound, Staying.keeps_stays, Staying.stays_sound}

-- ---- a transaction begins
module _ (old new : TablesView) (c : ℕ) (a : Answer) (sound : AreSound old) (none : of_client old.clients c ≡ None) (begins : Begins old new c a) where
  -- the client has a transaction of the next number, at the number now, which is pinned for it
  pub begins_turned : Turned old new c (Some (begun old.next_tx old.kv.number))
  begins_turned =
      let number : new.kv.number ≡ old.kv.number = ap (λ (k : Store Key Value). k.number) begins.kv in
      let next = begins.next_tx in
      let x : TxnView = begun old.next_tx old.kv.number in
      record {
        sets = begins.clients;
        later = omega (arith, number);
        maps = λ n le. ap (λ (k : Store Key Value). metadata_at k n) begins.kv;
        more = omega (arith, next);
        pins = λ n.
            let more = begins.pinned n in
            let was : owned n (of_client old.clients c) ≡ 0 = ap (owned n) none in
            omega (arith, more, was);
        beside = begins.beside;
        own = λ z is. subst (λ v. IsOpen new.kv new.next_tx v) (one_some (Some x) x z refl is) (record {
          going = refl;
          fit = begins.fit;
          based = omega (arith, number);
          older = omega (arith, next);
        });
        whose = λ z is. inl (ap (λ (v : TxnView). v.tx) (sym (one_some (Some x) x z refl is)));
      }

  -- the tables stay sound
  pub begins_sound : AreSound new
  begins_sound = sound_turned old new c (Some (begun old.next_tx old.kv.number)) sound begins_turned

-- ---- a transaction that has ended
module _ (old new : TablesView) (mid : Store Key Value) (c : ℕ) (x : TxnView) (sound : AreSound old) (here : of_client old.clients c ≡ Some x)
    (up : old.kv.number ≤ mid.number) (ends : Ends old new mid c x) where
  -- the number is what the transaction left
  pub ends_number : new.kv.number ≡ mid.number
  ends_number = ap (λ (s : Store Key Value). s.number) ends.kv

  -- and so are the maps, which do not read the pins
  pub ends_map : (n : ℕ) → metadata_at new.kv n ≡ metadata_at mid n
  ends_map n = ap (λ s. metadata_at s n) ends.kv

  -- a transaction ends, with its pin
  pub ends_turned : Turned old new c None
  ends_turned = record {
    sets = ends.clients;
    later = omega (arith, up, ends_number);
    maps = λ n le. ends_map n ∙ ends.maps n le;
    more = omega (arith, ends.next_tx);
    pins = λ n.
        let was : owned n (of_client old.clients c) ≡ owned n (Some x) = ap (owned n) here in
        let kept = ends.pins n in
        let fewer = ends.unpinned n in
        omega (arith, was, kept, fewer);
    beside = ends.beside;
    own = λ y e. absurd (cc);
    whose = λ y e. absurd (cc);
  }

  -- the tables stay sound
  pub ends_sound : AreSound new
  ends_sound = sound_turned old new c None sound ends_turned

-- a transaction that is given up
pub dropped_sound : (old : TablesView) (kv : Store Key Value) (clients : Clients) (c : ℕ) → AreSound old → is_some (of_client old.clients c) ≡ true
    → Sets c None old.clients clients → IfSome (of_client old.clients c) (λ x. kv ≡ record old.kv { pins = remove_key (nat_eq x.at.base) old.kv.pins })
    → IfSome (of_client old.clients c) (λ x. IsPinnedOnceMore x.at.base kv old.kv) → AreSound (record old { kv = kv; clients = clients })
dropped_sound old kv clients c sound some sets is once = by (of_client old.clients c) refl some is once
  where
    left : TablesView
    left = record old { kv = kv; clients = clients }

    by : (o : Option TxnView) → of_client old.clients c ≡ o → is_some o ≡ true
        → IfSome o (λ x. kv ≡ record old.kv { pins = remove_key (nat_eq x.at.base) old.kv.pins })
        → IfSome o (λ x. IsPinnedOnceMore x.at.base kv old.kv) → AreSound left
    by None here none is once = absurd (true≢false (sym none))
    by (Some x) here some is once = ends_sound old left old.kv c x sound here (omega arith) (record {
      clients = sets;
      next_tx = refl;
      beside = refl;
      maps = λ n le. refl;
      pins = λ n. refl;
      kv = is;
      unpinned = once;
    })

-- ---- a transaction that begins again at the number
module _ (old new : TablesView) (c : ℕ) (x : TxnView) (b n : ℕ) (sound : AreSound old) (here : of_client old.clients c ≡ Some x)
    (turn : Retries old new c x b n) where
  -- the transaction with its log, and nothing done
  abbrev pub again : TxnView
  again = turn.later

  -- it has its number, and the store's as its base
  pub retry_tx : again.tx ≡ x.tx
  retry_tx = ap (λ (v : TxnView). v.tx) turn.retried.is

  pub retry_base : again.at.base ≡ n
  retry_base = ap (λ (v : TxnView). v.at.base) turn.retried.is

  -- it is open at the number
  retry_open : IsOpen new.kv new.next_tx again
  retry_open =
      let was : IsOpen old.kv old.next_tx x = sound.each c x here in
      let number = turn.retried.number in
      let number_is = turn.retried.number_is in
      let next = turn.next_tx in
      let older = was.older in
      record {
        going = ap (λ (v : TxnView). v.ended) turn.retried.is ∙ was.going;
        fit = turn.fit;
        based = omega (arith, retry_base, number, number_is);
        older = omega (arith, retry_tx, next, older);
      }

  -- the pin of its base has moved to the number
  pub retry_turned : Turned old new c (Some again)
  retry_turned = record {
    sets = turn.clients;
    later = let number = turn.retried.number in omega (arith, number);
    maps = turn.maps;
    more = let next = turn.next_tx in omega (arith, next);
    pins = λ k.
        let was : owned k (of_client old.clients c) ≡ (if nat_eq k b then 1 else 0) = ap (owned k) here
        ∙ ap (λ j. if nat_eq k j then 1 else 0) (sym turn.retried.base_is) in
        let is : owned k (Some again) ≡ (if nat_eq k n then 1 else 0) = ap (λ j. if nat_eq k j then 1 else 0) retry_base in
        let moved = turn.retried.pins k in
        omega (arith, was, is, moved);
    beside = turn.beside;
    own = λ z e. let hit : again ≡ z = cc in subst (λ v. IsOpen new.kv new.next_tx v) hit retry_open;
    whose = λ z e. let hit : again ≡ z = cc in inr (x, here, ap (λ (v : TxnView). v.tx) (sym hit) ∙ retry_tx);
  }

  -- the tables stay sound
  retry_sound : AreSound new
  retry_sound = sound_turned old new c (Some again) sound retry_turned

-- a commit never takes the number down
pub ended_up : (kv after : Store Key Value) (a : Answer) → IsEnded kv after a → kv.number ≤ after.number
ended_up kv after (Answer.Committed n) h = let next = h.0 in let number = h.1 in omega (arith, next, number)
ended_up kv after (Aborted' i box a) h = omega (arith, h)
ended_up kv after a h = absurd h

-- a refusal
pub refuses_sound : (old new : TablesView) (c : ℕ) (w : Word) (a : Answer) → AreSound old → Refuses old new c w a → AreSound new
refuses_sound old new c w a sound refuses = stays_sound old new c sound (keeps_stays old new c refuses.keeps)

-- ---- a client's transaction that goes on, the store of versions as it was
module _ {S : Type 0} (kind : StoreKind S) (dev new : Dev S) (old : TablesView) (c : ℕ) (x y : TxnView) (sound : AreSound old)
    (clients : Clients) (writes : Writes c old.clients x y clients) where
  abbrev by_verb : Turn S
  by_verb = turn kind dev new old.kv old.kv x y

  abbrev set : TablesView
  set = record old { clients = clients }

  goes : y.tx ≡ x.tx → y.at.base ≡ x.at.base → y.ended ≡ x.ended → IsFit old.kv y → AreSound set
  goes tx base ended fit = goes_sound old set c x y sound writes.there
      (record { clients = writes.sets; kv = refl; next_tx = refl; beside = refl }) tx base ended fit

  -- as it was
  same : y ≡ x → IsFit old.kv y → AreSound set
  same is fit = goes (ap (λ (q : TxnView). q.tx) is) (ap (λ (q : TxnView). q.at.base) is) (ap (λ (q : TxnView). q.ended) is) fit

  -- by a call
  pub called_sound : (o : Op (List ℕ)) (a : Answer) → CallOf by_verb o (Ok a) → AreSound set
  called_sound o a did = by (call_refusal x) refl
    where
      by : (r : Option Word) → call_refusal x ≡ r → AreSound set
      by None free = let logged = (did.made (ap (option_map Answer.Refused) free)).called.logged in goes logged.tx logged.grows.base logged.ended did.fit
      by (Some w) word = same (refusal_of Fault x y dev new (call_refusal x) w a word (as_words x y dev new (Ok a) (call_refusal x) did.instead)).1 did.fit

  -- or one that failed
  pub call_lost_sound : (o : Op (List ℕ)) (why : Fault) → CallOf by_verb o (Err why) → AreSound set
  call_lost_sound o why did =
      let hand = did.err_hand in
      goes (ap (λ (q : TxnView). q.tx) hand) (ap (λ (q : TxnView). q.at.base) hand) (ap (λ (q : TxnView). q.ended) hand) did.fit

  -- by a step
  stepped : (a : Answer) → IsStepped x y a → y.ended ≡ false → IsFit old.kv y → AreSound set
  stepped (Answer.Replayed i) h still fit = goes (ap (λ (q : TxnView). q.tx) h.is) h.base (ap (λ (q : TxnView). q.ended) h.is) fit
  stepped (Aborted' i box a) h still fit = absurd (true≢false (sym h.over.ended ∙ still))
  stepped a h still fit = absurd h

  pub stepped_sound : (a : Answer) → StepOf by_verb (Ok a) → y.ended ≡ false → AreSound set
  stepped_sound a did still = by (step_refusal x) refl
    where
      by : (r : Option Word) → step_refusal x ≡ r → AreSound set
      by None free = stepped a (did.stepped free) still did.fit
      by (Some w) word = same (refusal_of Fault x y dev new (step_refusal x) w a word did.refused).1 did.fit

  pub step_lost_sound : (why : Fault) → StepOf by_verb (Err why) → AreSound set
  step_lost_sound why did = same did.err did.fit

-- ---- an attempt
-- a commit raises the number
pub commit_up : (old new : TablesView) (c : ℕ) (x : TxnView) (n : ℕ) (turn : Commits old new c x n) → old.kv.number ≤ turn.mid.number
commit_up old new c x n turn = let number = turn.committed.installed.number in let next = turn.committed.installed.next in omega (arith, number, next)

-- the tables stay sound
pub tries_sound : (old new : TablesView) (c : ℕ) (x : TxnView) (a : Answer) → AreSound old → of_client old.clients c ≡ Some x → Tries old new c x a
    → AreSound new
tries_sound old new c x (Answer.Committed n) sound here turn = ends_sound old new turn.mid c x sound here (commit_up old new c x n turn) turn.ends
tries_sound old new c x (Answer.Retry b n) sound here turn = retry_sound old new c x b n sound here turn
tries_sound old new c x a sound here turn = absurd turn

-- unless it is refused
pub try_sound : (old new : TablesView) (c : ℕ) (x : TxnView) (a : Answer) → AreSound old → of_client old.clients c ≡ Some x → TryTurn old new c x a
    → AreSound new
try_sound old new c x a sound here turn = by (try_refusal x) turn
  where
    by : (r : Option Word) → MatchOption r (Tries old new c x a) (λ w. Refuses old new c w a) → AreSound new
    by None h = tries_sound old new c x a sound here h
    by (Some w) h = refuses_sound old new c w a sound h

-- ---- images that may be on the keeper
module _ (old new : TablesView) (now : BesideView) (sound : AreSound old) (saves : Saves old new now) where
  saves_up : old.kv.number ≤ new.kv.number
  saves_up = let number = saves.number in omega (arith, number)

  saves_more : old.next_tx ≤ new.next_tx
  saves_more = let next = saves.next_tx in omega (arith, next)

  saves_was : (c : ℕ) (x : TxnView) → of_client new.clients c ≡ Some x → of_client old.clients c ≡ Some x
  saves_was c x there = ap (λ l. of_client l c) (sym saves.clients) ∙ there

  saves_pins : (n : ℕ) → times_pinned new.kv n ≡ all_owned n new.clients + all_kept n new.beside
  saves_pins n =
      let moved = saves.pins n in
      let was = sound.pins n in
      let owned : all_owned n new.clients ≡ all_owned n old.clients = ap (all_owned n) saves.clients in
      let kept : all_kept n new.beside ≡ all_kept n now = ap (all_kept n) saves.beside in
      omega (arith, moved, was, owned, kept)

  -- the tables stay sound, where no image is of an install to come, and none but that of the number is pinned once more
  pub saves_sound : now.jobs ≡ old.beside.jobs → ((n : ℕ) → Contains now.images n → n ≤ old.kv.number)
      → ((n : ℕ) → all_kept n now ≤ all_kept n old.beside + cond (nat_eq n old.kv.number) 1 0) → AreSound new
  saves_sound jobs upto most = record {
    begun = let was = sound.begun in let next = saves.next_tx in omega (arith, was, next);
    each = λ c x there.
        let was : of_client old.clients c ≡ Some x = saves_was c x there in
        open_on old.kv new.kv old.next_tx new.next_tx x (sound.each c x was) saves_up saves.maps saves_more
        (base_pinned new.kv new.clients new.beside c x saves_pins there);
    pins = saves_pins;
    upto = upto_on old new sound (saved_reaches old new now most saves) saves_up;
    kept = λ n there.
        let le = upto n (subst (λ (s : BesideView). Contains s.images n) saves.beside there) in
        let number = saves.number in
        omega (arith, le, number);
    apart = λ c d x y here there same. sound.apart c d x y (saves_was c x here) (saves_was d y there) same;
    formed = λ j x there. sound.formed j x (ap (λ l. of_label l j) (sym (ap (λ (s : BesideView). s.jobs) saves.beside ∙ jobs)) ∙ there);
  }

-- an image that is there is of the number, or was there before
pub added_cases : (s : BesideView) (k n : ℕ) → Contains (with_image s k).images n → Contains s.images n ⊎ (k ≡ n)
added_cases s k n there = Contains-push_cases s.images k n there

pub only_cases : (s : BesideView) (k n : ℕ) → Contains (only_image s k).images n → k ≡ n
only_cases s k n there = ⊎_elim (λ never. absurd (none_in n never)) (λ same. same) (Contains-push_cases [] k n there)

-- one image more, and the last one less
pub image_sound : (old new : TablesView) → AreSound old → Saves old new (with_image old.beside old.kv.number) → AreSound new
image_sound old new sound saves =
    saves_sound old new (with_image old.beside old.kv.number) sound saves refl
    (λ k there. ⊎_elim (λ was. sound.kept k was) (λ same. omega (arith, same)) (added_cases old.beside old.kv.number k there)) (added_kept old)

-- the number is watched
pub watched_sound : (old new : TablesView) → AreSound old → Saves old new (watching old.beside old.kv.number) → AreSound new
watched_sound old new sound saves = saves_sound old new (watching old.beside old.kv.number) sound saves refl sound.kept (watching_kept old)

module _ (old new : TablesView) (before : BesideView) (sound : AreSound old) (was : old.beside ≡ with_image before old.kv.number) where
  kept_less : (n : ℕ) → all_kept n before ≤ all_kept n old.beside
  kept_less n =
      let more = count-push n old.kv.number before.images in
      let same : all_kept n old.beside ≡ all_kept n (with_image before old.kv.number) = ap (all_kept n) was in
      omega (arith, more, same)

  pub forgot_sound : Saves old new before → AreSound new
  forgot_sound saves =
      saves_sound old new before sound saves (sym (ap (λ (s : BesideView). s.jobs) was))
      (λ k there. sound.kept k (subst (λ (s : BesideView). Contains s.images k) (sym was) (Contains-append_left before.images (old.kv.number ∷ []) k there)))
      (λ n. let less = kept_less n in omega (arith, less))

  pub settled_sound : Saves old new (only_image before old.kv.number) → AreSound new
  settled_sound saves =
      saves_sound old new (only_image before old.kv.number) sound saves (sym (ap (λ (s : BesideView). s.jobs) was))
      (λ k there. let same = only_cases before old.kv.number k there in omega (arith, same))
      (λ n.
      let one = only_kept (record old { beside = before }) old.kv.number n refl in
      let less = kept_less n in
      omega (arith, one, less))

-- ---- versions that no one sees are dropped
pub tidied_sound : (old new : TablesView) → AreSound old → IsTidied old new → AreSound new
tidied_sound old new sound tidy =
    sound_scanned old new sound tidy.number
    (λ n pinned. pinned_live old.kv n (subst (λ l. IsTrue (is_pinned (record old.kv { pins = l }) n)) tidy.pins pinned)) tidy.maps
    (λ n. ap (λ l. count_by (nat_eq n) l) tidy.pins ∙ sound.pins n ∙ ap (λ l. all_owned n l + all_kept n old.beside) (sym tidy.clients)
    ∙ ap (λ s. all_owned n new.clients + all_kept n s) (sym tidy.beside))
    tidy.clients tidy.next_tx (ap (λ (b : BesideView). b.images) tidy.beside) (ap (λ (b : BesideView). b.jobs) tidy.beside)
