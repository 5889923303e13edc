-- Calls that answer otherwise than was shown.
use Rattle.std.proofs.Common.{◌≡◌, ◌≢◌, suc, zero, ◌≤◌, ℕ, ◌+◌, ◌-◌, length, take, List, [], ◌∷◌, Some, refl, sym, ap, ◌∙◌, subst, arith, slice_get}
use Rattle.std.proofs.lemmas.List.{length-take-le}
use Rattle.wtf_kv.specs.Stores.{Store}
use Rattle.wtf_kv.proofs.EditLaws.{Agree-itself}
use Rattle.wtf_model.specs.declared.answer.Answer.{Answer}
use Rattle.wtf_model.specs.declared.op.Op.{Op}
use Rattle.wtf_model.specs.Session.{Session, fresh}
use Rattle.wtf_model.specs.Tree.{Tree}
use Rattle.wtf_model.specs.Call.{call}
use Rattle.wtf_model.specs.Transaction.{session_from, answers_from, answers_of, session_after}
use Rattle.wtf_values.specs.declared.key.Key.{Key}
use Rattle.wtf_values.specs.declared.value.Value.{Value}
use Rattle.wtf_log.proofs.StandingLaws.{OpsStandFor-length}
use Rattle.wtf_meta.specs.Maps.{with, metadata_at, seen}
use Rattle.wtf_meta.specs.Contents.{Told}
use Rattle.wtf_meta.specs.Trees.{Stands}
use Rattle.wtf_meta.specs.Calls.{cap_for, Ran}
use Rattle.wtf_replay.specs.Views.{TxnView}
use Rattle.wtf_replay.specs.Sounds.{tells_slice, caller_at, first_of, LogStands, IsDue}
use Rattle.wtf_replay.specs.Replays.{DeviatesOn}

-- the first of the answers are the answers to the first calls
pub answers_from-take : (cap : ℕ) (s : Session) (ops : List (Op (List ℕ))) (k : ℕ) → take k (answers_from cap s ops) ≡ answers_from cap s (take k ops)
unfolding answers_from
answers_from-take cap s [] zero = refl
answers_from-take cap s [] (suc k) = refl
answers_from-take cap s (o ∷ ops) zero = refl
answers_from-take cap s (o ∷ ops) (suc k) = ap (λ r. (call cap s o).answer ∷ r) (answers_from-take cap (call cap s o).session ops k)

-- and each answer is that of its call after those before it
pub answers_from-at : (cap : ℕ) (s : Session) (ops : List (Op (List ℕ))) (k : ℕ) (o : Op (List ℕ)) → slice_get ops k ≡ Some o
    → slice_get (answers_from cap s ops) k ≡ Some (call cap (session_from cap s (take k ops)) o).answer
unfolding answers_from session_from
answers_from-at cap s [] k o is = absurd (cc)
answers_from-at cap s (p ∷ ops) zero o is = let same : p ≡ o = cc in ap (λ x. Some (call cap s x).answer) same
answers_from-at cap s (p ∷ ops) (suc k) o is = answers_from-at cap (call cap s p).session ops k o is

module _ (size : ℕ) (kv : Store Key Value) (told : Told) (x : TxnView) (ops : List (Op (List ℕ))) (sound : LogStands size kv told x ops) where
  -- on the map at the base the calls that are done are the definitions' run
  pub at_base : (t : Tree) → Stands size told x.tx 0 (metadata_at kv x.at.base) t
      → Ran (caller_at size x.tx 0) told (metadata_at kv x.at.base) (with x.at.changes (metadata_at kv x.at.base)) x.session t (first_of x ops x.replayed)
  at_base t st =
      sound.run.acts told (metadata_at kv x.at.base) t (Agree-itself x.at.reads (metadata_at kv x.at.base)) sound.run.fits sound.told_are sound.lists_are st

  -- the map that the next call sees stands for the tree before it
  pub before_next : (t : Tree) → Stands size told x.tx 0 (metadata_at kv x.at.base) t → x.replayed ≤ length ops
      → Stands size told x.tx x.replayed (seen kv x.at) (session_after (cap_for (caller_at size x.tx 0)) t (take x.replayed ops)).tree
  before_next t st le =
      subst (λ n. Stands size told x.tx n (seen kv x.at) (session_after (cap_for (caller_at size x.tx 0)) t (take x.replayed ops)).tree)
      (length-take-le x.replayed ops le) (at_base t st).stands

  -- the next call answers otherwise than was shown
  pub deviates : (o : Op (List ℕ)) (a : Answer) → x.replayed ≤ length x.log.ops
      → IsDue told (caller_at size x.tx x.replayed) (seen kv x.at) x.session o a
      → slice_get ops x.replayed ≡ Some o → slice_get x.log.shown x.replayed ≢ Some a
      → DeviatesOn (metadata_at kv x.at.base) size told x ops (x.replayed + 1) a
  deviates o a most due at_op differs t st =
      let cap : ℕ = cap_for (caller_at size x.tx 0) in
      let same : length x.log.ops ≡ length ops = OpsStandFor-length (tells_slice told) x.log.ops ops sound.ops_are in
      let le : x.replayed ≤ length ops = omega (arith, most, same) in
      let ran = at_base t st in
      let S : Session = session_after cap t (take x.replayed ops) in
      let answer : (call cap S o).answer ≡ a = due S (before_next t st le) ran.holds in
      let down : x.replayed + 1 - 1 ≡ x.replayed = omega arith in
      record {
        counted = omega arith;
        agree = ap (λ n. take n (answers_of cap t ops)) down ∙ answers_from-take cap (fresh t) ops x.replayed ∙ ran.answers
            ∙ ap (λ n. take n x.log.shown) (sym down);
        answer_is = ap (slice_get (answers_of cap t ops)) down ∙ answers_from-at cap (fresh t) ops x.replayed o at_op ∙ ap Some answer;
        differs = λ e. differs (ap (slice_get x.log.shown) (sym down) ∙ e);
      }
