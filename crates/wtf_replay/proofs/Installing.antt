-- What commits install, over stores that show the same and of transactions that stand the same.
use Rattle.std.proofs.Common.{◌≡◌, ℕ, zero, suc, ◌+◌, ◌-◌, List, [], ◌++◌, length, Option, refl, sym, ap, ◌∙◌, subst, arith}
use Rattle.wtf_kv.specs.Edits.{versions_with}
use Rattle.wtf_kv.specs.Stores.{Store, versions_of}
use Rattle.wtf_occ.specs.Tries.{IsInstalled}
use Rattle.wtf_model.specs.declared.answer.Answer.{Answer, Aborted'}
use Rattle.wtf_model.specs.declared.answer.Answer.TheVariants as answer
use Rattle.wtf_model.specs.Same.{IsAbortedAt}
use Rattle.wtf_values.specs.declared.key.Key.{Key}
use Rattle.wtf_values.specs.declared.value.Value.{Value}
use Rattle.wtf_values.specs.Keys.{key_cmp}
use Rattle.wtf_values.specs.Outcomes.{outcome_of}
use Rattle.wtf_log.specs.Calls.{own_of}
use Rattle.wtf_meta.specs.Lists.{ListFact}
use Rattle.wtf_meta.specs.Maps.{Map, with, metadata_at, seen}
use Rattle.wtf_meta.specs.Calls.{InHand}
use Rattle.wtf_replay.specs.Views.{TxnView, hand_of}
use Rattle.wtf_replay.specs.Tried.{KeepsVersions}
use Rattle.wtf_slicing.specs.Sights.{sight}
use Rattle.wtf_replay.specs.Effects.{Acts, CallHolds, CallReads, kept_len, Scope, MakesAgain, Redoes, AreRedone, AllRedone, StopsAt}
use Rattle.wtf_replay.specs.Works.{inode_at}
use Rattle.wtf_replay.specs.Installs.{Installs, GaveUp, IsInstall}
use Rattle.wtf_replay.proofs.EffectLaws.{redone_none}

-- what was made once more, over a store that shows the same maps
unfoldable makes_along : (b : Scope) (kv kv2 : Store Key Value) (x : TxnView) (k : ℕ) (a : Answer) (old new : InHand)
    → ((m : ℕ) → metadata_at kv2 m ≡ metadata_at kv m) → MakesAgain b kv x k a old new → MakesAgain b kv2 x k a old new
makes_along b kv kv2 x k a old new same h =
    let map : seen kv old.at ≡ seen kv2 old.at = sym (ap (with old.at.changes) (same old.at.base)) in
    record {
      op = h.op;
      at_op = h.at_op;
      lists = h.lists;
      known = h.known;
      reads = subst (λ (w : Map). CallReads (sight b.size w old.session (inode_at x.tx k) h.lists) h.op a) map h.reads;
      acts = subst (λ (w : Map). Acts (sight b.size w old.session (inode_at x.tx k) h.lists) (kept_len h.op) (own_of h.op) h.op a old.at new.at) map h.acts;
      holds = subst (λ (w : Map). CallHolds (sight b.size w old.session (inode_at x.tx k) h.lists) (own_of h.op) h.op a old.session new.session) map h.holds;
      logged = h.logged;
    }

unfoldable redo_along : (b : Scope) (kv kv2 : Store Key Value) (x : TxnView) (k : ℕ) (old new : InHand) → ((m : ℕ) → metadata_at kv2 m ≡ metadata_at kv m)
    → Redoes b kv x k old new → Redoes b kv2 x k old new
redo_along b kv kv2 x k old new same h =
    record { shown = h.shown; at_shown = h.at_shown; makes = makes_along b kv kv2 x k h.shown old new same h.makes }

pub redone_along : (b : Scope) (kv kv2 : Store Key Value) (x : TxnView) (n : ℕ) (lists : List ListFact) (hand : InHand)
    → ((m : ℕ) → metadata_at kv2 m ≡ metadata_at kv m) → AreRedone b kv x n lists hand → AreRedone b kv2 x n lists hand
unfolding redo_along makes_along
redone_along b kv kv2 x zero lists hand same h = h
redone_along b kv kv2 x (suc n) lists hand same h = (
  h.0,
  h.1,
  redone_along b kv kv2 x n h.1 h.0 same h.2,
  redo_along b kv kv2 x (x.replayed + n) h.0 hand same h.3,
  h.4,
)

pub stops_along : (b : Scope) (kv kv2 : Store Key Value) (x : TxnView) (i : ℕ) (a : Answer) → ((m : ℕ) → metadata_at kv2 m ≡ metadata_at kv m)
    → StopsAt b kv x i a → StopsAt b kv2 x i a
unfolding makes_along
stops_along b kv kv2 x i a same h = record {
  same = h.same;
  counted = h.counted;
  before = h.before;
  mid = h.mid;
  redone = redone_along b kv kv2 x h.same h.before h.mid same h.redone;
  new = h.new;
  makes = makes_along b kv kv2 x (x.replayed + h.same) a h.mid h.new same h.makes;
  differs = h.differs;
  recalls = h.recalls;
}

-- an attempt that made all calls once more was installed
pub installs_from : (b : Scope) (kv after : Store Key Value) (x : TxnView) (lists : List ListFact) (hand : InHand) (n : ℕ) → AllRedone b kv x lists hand
    → b.recalls lists → IsInstalled key_cmp outcome_of hand.at kv after n → Installs b kv after x n
installs_from b kv after x lists hand n redone recalls installed = record {
  hand = hand;
  lists = lists;
  redone = redone;
  recalls = recalls;
  next = installed.next;
  number = installed.number;
  versions = installed.versions;
}

-- or one that had none to make
pub installs_live : (b : Scope) (kv after : Store Key Value) (x : TxnView) (n : ℕ) → x.replayed ≡ length x.log.ops → b.recalls []
    → IsInstalled key_cmp outcome_of x.at kv after n → Installs b kv after x n
installs_live b kv after x n live recalls installed =
    let none : length x.log.ops - x.replayed ≡ 0 = omega (arith, live) in
    installs_from b kv after x [] (hand_of x) n (redone_none b kv x (length x.log.ops - x.replayed) (hand_of x) none refl) recalls installed

-- an answer that tells of calls that deviate
pub install_aborted : (r : Answer) (i : ℕ) (a : Answer) (b : Scope) (kv after : Store Key Value) (x : TxnView) → IsAbortedAt r i a → GaveUp b kv after x i a
    → IsInstall b kv after x r
install_aborted (Aborted' j box c) i a b kv after x is gave =
    subst (λ (n : ℕ). GaveUp b kv after x n c) (sym is.0) (subst (λ (d : Answer). GaveUp b kv after x i d) (sym is.1) gave)
install_aborted r i a b kv after x is gave = absurd is

-- and over stores that show the same
pub install_along : (r : Answer) (b : Scope) (kv kv2 after after2 : Store Key Value) (x : TxnView) → kv2.number ≡ kv.number
    → ((m : ℕ) → metadata_at kv2 m ≡ metadata_at kv m) → KeepsVersions kv kv2
    → after2.number ≡ after.number → KeepsVersions after after2 → IsInstall b kv after x r → IsInstall b kv2 after2 x r
install_along (answer.Committed n) b kv kv2 after after2 x number same keeps number2 keeps2 h =
    let map : metadata_at kv2 kv2.number ≡ metadata_at kv kv.number = ap (metadata_at kv2) number ∙ same kv.number in
    record {
      hand = h.hand;
      lists = h.lists;
      redone = redone_along b kv kv2 x (length x.log.ops - x.replayed) h.lists h.hand same h.redone;
      recalls = h.recalls;
      next = h.next ∙ ap (λ k. k + 1) (sym number);
      number = number2 ∙ h.number;
      versions = λ q.
          keeps2 q ∙ h.versions q
          ∙ ap (λ (w : Map). versions_with key_cmp outcome_of h.hand.at.changes n q (w q) (versions_of key_cmp kv q)) (sym map)
          ∙ ap (λ (l : List (ℕ × Option Value)). versions_with key_cmp outcome_of h.hand.at.changes n q (metadata_at kv2 kv2.number q) l) (sym (keeps q));
    }
install_along (Aborted' i box a) b kv kv2 after after2 x number same keeps number2 keeps2 h =
    record { stops = stops_along b kv kv2 x i a same h.stops; versions = λ q. keeps2 q ∙ h.versions q ∙ sym (keeps q) }
install_along r b kv kv2 after after2 x number same keeps number2 keeps2 h = absurd h
