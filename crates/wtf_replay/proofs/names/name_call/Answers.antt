use Rattle.std.proofs.Common.{◌≡◌, ◌+◌, ◌^◌, ◌<◌, ℕ, List, [], ◌∙◌, append-nil, refl, arith}
use Rattle.std.proofs.lemmas.Result.{IfOk-weaker}
use Rattle.wtf_model.specs.declared.op.Op.TheVariants as op
use Rattle.wtf_model.specs.Steps.{IsLogged}
use Rattle.wtf_meta.specs.Maps.{Map, seen}
use Rattle.wtf_meta.specs.Calls.{Caller, IsNameStep}
use Rattle.wtf_index.specs.Changed.{mkdir_changes, rmdir_changes, create_changes, unlink_changes, rename_changes, link_changes}
use Rattle.wtf_slicing.specs.Sights.{sight}
use Rattle.wtf_replay.specs.Effects.{taken_changes}
use Rattle.wtf_replay.proofs.EffectLaws.{if_all, if_both, acts_name}
use Rattle.wtf_replay.proofs.Looking.{quiet_call, is_named}
use Rattle.wtf_replay.proofs.names.name_call.Goals as goal

pub returns-in-Mkdir-clause-named : goal.returns-in-Mkdir-clause-named
returns-in-Mkdir-clause-named g c =
    let at = c.args.at.now in
    let new = c.mkdir.new.at in
    let b : Map = seen c.args.kv.now at in
    let s = c.args.session.now in
    let p : List ℕ = c.in-Mkdir.p in
    let made = c.args.new in
    if_all c.mkdir.result (λ a. ((x : Caller) → IsNameStep x b at new (op.Mkdir p) a) × IsLogged a) _
    c.mkdir.ensures.went
    (if_both c.mkdir.result _ _ c.mkdir.ensures.step c.mkdir.ensures.logged) (λ a went both. is_named c.args.op.now (op.Mkdir p) c.in-Mkdir.is
    (λ x next. quiet_call x b s at new (op.Mkdir p) a (both.0 x) tt)
    (λ size n own. acts_name (sight size b s made []) n own (op.Mkdir p) a at new (mkdir_changes b p) went (λ changes. changes))
    (λ size own. refl) both.1)

pub returns-in-Rmdir-clause-named : goal.returns-in-Rmdir-clause-named
returns-in-Rmdir-clause-named g c =
    let at = c.args.at.now in
    let new = c.rmdir.new.at in
    let b : Map = seen c.args.kv.now at in
    let s = c.args.session.now in
    let p : List ℕ = c.in-Rmdir.p in
    let made = c.args.new in
    if_all c.rmdir.result (λ a. ((x : Caller) → IsNameStep x b at new (op.Rmdir p) a) × IsLogged a) _
    c.rmdir.ensures.went
    (if_both c.rmdir.result _ _ c.rmdir.ensures.step c.rmdir.ensures.logged) (λ a went both. is_named c.args.op.now (op.Rmdir p) c.in-Rmdir.is
    (λ x next. quiet_call x b s at new (op.Rmdir p) a (both.0 x) tt)
    (λ size n own. acts_name (sight size b s made []) n own (op.Rmdir p) a at new (rmdir_changes b p) went (λ changes. changes))
    (λ size own. refl) both.1)

pub returns-in-Create-clause-named : goal.returns-in-Create-clause-named
returns-in-Create-clause-named g c =
    let at = c.args.at.now in
    let new = c.create.new.at in
    let b : Map = seen c.args.kv.now at in
    let s = c.args.session.now in
    let p : List ℕ = c.in-Create.p in
    let made = c.args.new in
    if_all c.create.result (λ a. ((x : Caller) → made.tx.0 ≡ x.tx → made.index ≡ x.calls + 1 → IsNameStep x b at new (op.Create p) a) × IsLogged a) _
    c.create.ensures.went
    (if_both c.create.result _ _ c.create.ensures.step c.create.ensures.logged) (λ a went both. is_named c.args.op.now (op.Create p) c.in-Create.is
    (λ x next. quiet_call x b s at new (op.Create p) a (both.0 x next.tx next.index) tt)
    (λ size n own. acts_name (sight size b s made []) n own (op.Create p) a at new (create_changes b p made) went (λ changes. changes))
    (λ size own. refl) both.1)

pub returns-in-Unlink-clause-named : goal.returns-in-Unlink-clause-named
returns-in-Unlink-clause-named g c =
    let at = c.args.at.now in
    let new = c.unlink_closed.new.at in
    let b : Map = seen c.args.kv.now at in
    let s = c.args.session.now in
    let p : List ℕ = c.in-Unlink.p in
    IfOk-weaker c.unlink_closed.result _ _ (λ a taken. is_named c.args.op.now (op.Unlink p) c.in-Unlink.is (λ x next. taken.0 x)
    (λ size n own. acts_name (sight size b s c.args.new []) n own (op.Unlink p) a at new
    (taken_changes b s p (unlink_changes b p)) taken.1 (λ changes. changes))
    (λ size own. refl) taken.2) c.unlink_closed.ensures.taken

pub returns-in-Rename-clause-named : goal.returns-in-Rename-clause-named
returns-in-Rename-clause-named g c =
    let at = c.args.at.now in
    let new = c.rename_closed.new.at in
    let b : Map = seen c.args.kv.now at in
    let s = c.args.session.now in
    let p : List ℕ = c.in-Rename.p in
    let q : List ℕ = c.in-Rename.q in
    IfOk-weaker c.rename_closed.result _ _ (λ a taken. is_named c.args.op.now (op.Rename p q) c.in-Rename.is (λ x next. taken.0 x)
    (λ size n own. acts_name (sight size b s c.args.new []) n own (op.Rename p q) a at new
    (taken_changes b s p (rename_changes b p q)) taken.1 (λ changes. changes))
    (λ size own. refl) taken.2) c.rename_closed.ensures.taken

pub returns-in-Link-clause-named : goal.returns-in-Link-clause-named
returns-in-Link-clause-named g c =
    let at = c.args.at.now in
    let new = c.link.new.at in
    let b : Map = seen c.args.kv.now at in
    let s = c.args.session.now in
    let p : List ℕ = c.in-Link.p in
    let q : List ℕ = c.in-Link.q in
    let made = c.args.new in
    if_all c.link.result (λ a. ((x : Caller) → x.calls < 2 ^ 32 → IsNameStep x b at new (op.Link p q) a) × IsLogged a) _
    c.link.ensures.went
    (if_both c.link.result _ _ c.link.ensures.step c.link.ensures.logged) (λ a went both. is_named c.args.op.now (op.Link p q) c.in-Link.is
    (λ x next. quiet_call x b s at new (op.Link p q) a (both.0 x (omega (arith, next.index, c.number_fits.ensures))) tt)
    (λ size n own. acts_name (sight size b s made []) n own (op.Link p q) a at new (link_changes b p q) went (λ changes. changes))
    (λ size own. refl) both.1)

pub returns-in-List-clause-named : goal.returns-in-List-clause-named
returns-in-List-clause-named g c =
    let at = c.args.at.now in
    let new = c.list.new.at in
    let b : Map = seen c.args.kv.now at in
    let s = c.args.session.now in
    let p : List ℕ = c.in-List.p in
    let made = c.args.new in
    if_all c.list.result (λ a. ((x : Caller) → IsNameStep x b at new (op.List p) a) × IsLogged a) _
    c.list.ensures.went
    (if_both c.list.result _ _ c.list.ensures.step c.list.ensures.logged) (λ a went both. is_named c.args.op.now (op.List p) c.in-List.is
    (λ x next. quiet_call x b s at new (op.List p) a (both.0 x) tt)
    (λ size n own. acts_name (sight size b s made []) n own (op.List p) a at new [] went (λ changes. changes ∙ append-nil at.changes))
    (λ size own. refl) both.1)
