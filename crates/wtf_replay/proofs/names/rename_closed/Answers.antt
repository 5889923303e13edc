use Rattle.std.proofs.Common.{◌≡◌, ℕ, Bool, List, refl, subst}
use Rattle.wtf_model.specs.Steps.{IsLogged}
use Rattle.wtf_model.specs.declared.op.Op.TheVariants as op
use Rattle.wtf_occ.specs.Attempts.{Attempted, GrowsBy}
use Rattle.wtf_values.specs.declared.key.Key.{Key}
use Rattle.wtf_values.specs.declared.value.Delta.{Delta}
use Rattle.wtf_meta.specs.Maps.{Map, seen}
use Rattle.wtf_meta.specs.Calls.{Caller, IsNameStep}
use Rattle.wtf_index.specs.Checks.{source_of}
use Rattle.wtf_index.specs.Recorded.{rename_keys, keys_if, target_keys}
use Rattle.wtf_index.specs.Changed.{rename_changes}
use Rattle.wtf_replay.specs.Looked.{IsLooked}
use Rattle.wtf_replay.proofs.EffectLaws.{if_all, if_both, busy_went, free_went}
use Rattle.wtf_replay.proofs.Looking.{busy_call, looked_call}
use Rattle.wtf_replay.proofs.names.rename_closed.Goals as goal

pub returns-then-busy-clause-taken : goal.returns-then-busy-clause-taken
returns-then-busy-clause-taken c =
    let at = c.args.at.now in
    let b : Map = seen c.args.kv.now at in
    let s = c.args.session.now in
    let p : List ℕ = c.args.p.now in
    let q : List ℕ = c.args.q.now in
    let looked = subst (λ (busy : Bool). IsLooked b s p at c.is_busy.new.at busy) c.if-busy.true c.in_ok-busy.ensures.looked in (
      λ x. busy_call x b s p at c.is_busy.new.at (op.Rename p q) refl looked,
      busy_went b s p at c.is_busy.new.at (rename_keys b p q) (rename_changes b p q) looked,
      tt,
    )

pub returns-clause-taken : goal.returns-clause-taken
returns-clause-taken c =
    let at = c.args.at.now in
    let mid = c.is_busy.new.at in
    let new = c.rename.new.at in
    let b : Map = seen c.args.kv.now at in
    let s = c.args.session.now in
    let p : List ℕ = c.args.p.now in
    let q : List ℕ = c.args.q.now in
    let looked = subst (λ (busy : Bool). IsLooked b s p at mid busy) c.if-busy.false c.in_ok-busy.ensures.looked in
    if_all c.rename.result (λ a. ((x : Caller) → IsNameStep x (seen c.args.kv.now mid) mid new (op.Rename p q) a) × IsLogged a) _ c.rename.ensures.went
    (if_both c.rename.result _ _ c.rename.ensures.step c.rename.ensures.logged) (λ a went both.
    let same : mid ≡ at = looked.0 in
    let here : GrowsBy at new (rename_keys b p q) (rename_changes b p q) =
    subst (λ (m : Attempted Key Delta). let w : Map = seen c.args.kv.now m in GrowsBy m new (rename_keys w p q) (rename_changes w p q)) same went in (
      λ x. looked_call x b s p at new (op.Rename p q) a (keys_if (source_of b p) (target_keys b q)) (rename_changes b p q) refl looked.1 here
          (subst (λ (m : Attempted Key Delta). IsNameStep x (seen c.args.kv.now m) m new (op.Rename p q) a) same (both.0 x)),
      free_went b s p at new (rename_keys b p q) (rename_changes b p q) looked.1 here,
      both.1,
    ))
