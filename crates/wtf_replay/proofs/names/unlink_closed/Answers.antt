use Rattle.std.proofs.Common.{◌≡◌, ℕ, Bool, List, refl, subst}
use Rattle.wtf_model.specs.Steps.{IsLogged}
use Rattle.wtf_model.specs.declared.op.Op.TheVariants as op
use Rattle.wtf_occ.specs.Attempts.{Attempted, GrowsBy}
use Rattle.wtf_values.specs.declared.key.Key.{Key}
use Rattle.wtf_values.specs.declared.value.Delta.{Delta}
use Rattle.wtf_meta.specs.Maps.{Map, seen}
use Rattle.wtf_meta.specs.Calls.{Caller, IsNameStep}
use Rattle.wtf_index.specs.Checks.{source_of}
use Rattle.wtf_index.specs.Recorded.{count_keys, unlink_keys}
use Rattle.wtf_index.specs.Changed.{unlink_changes}
use Rattle.wtf_replay.specs.Looked.{IsLooked}
use Rattle.wtf_replay.proofs.EffectLaws.{if_all, if_both, busy_went, free_went}
use Rattle.wtf_replay.proofs.Looking.{busy_call, looked_call}
use Rattle.wtf_replay.proofs.names.unlink_closed.Goals as goal

pub returns-then-busy-clause-taken : goal.returns-then-busy-clause-taken
returns-then-busy-clause-taken c =
    let at = c.args.at.now in
    let b : Map = seen c.args.kv.now at in
    let s = c.args.session.now in
    let p : List ℕ = c.args.p.now in
    let looked = subst (λ (busy : Bool). IsLooked b s p at c.is_busy.new.at busy) c.if-busy.true c.in_ok-busy.ensures.looked in (
      λ x. busy_call x b s p at c.is_busy.new.at (op.Unlink p) refl looked,
      busy_went b s p at c.is_busy.new.at (unlink_keys b p) (unlink_changes b p) looked,
      tt,
    )

pub returns-clause-taken : goal.returns-clause-taken
returns-clause-taken c =
    let at = c.args.at.now in
    let mid = c.is_busy.new.at in
    let new = c.unlink.new.at in
    let b : Map = seen c.args.kv.now at in
    let s = c.args.session.now in
    let p : List ℕ = c.args.p.now in
    let looked = subst (λ (busy : Bool). IsLooked b s p at mid busy) c.if-busy.false c.in_ok-busy.ensures.looked in
    if_all c.unlink.result (λ a. ((x : Caller) → IsNameStep x (seen c.args.kv.now mid) mid new (op.Unlink p) a) × IsLogged a) _ c.unlink.ensures.went
    (if_both c.unlink.result _ _ c.unlink.ensures.step c.unlink.ensures.logged) (λ a went both.
    let same : mid ≡ at = looked.0 in
    let here : GrowsBy at new (unlink_keys b p) (unlink_changes b p) =
    subst (λ (m : Attempted Key Delta). let w : Map = seen c.args.kv.now m in GrowsBy m new (unlink_keys w p) (unlink_changes w p)) same went in (
      λ x. looked_call x b s p at new (op.Unlink p) a (count_keys (source_of b p)) (unlink_changes b p) refl looked.1 here
          (subst (λ (m : Attempted Key Delta). IsNameStep x (seen c.args.kv.now m) m new (op.Unlink p) a) same (both.0 x)),
      free_went b s p at new (unlink_keys b p) (unlink_changes b p) looked.1 here,
      both.1,
    ))
