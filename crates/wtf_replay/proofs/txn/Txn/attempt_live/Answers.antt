use Rattle.std.proofs.Common.{◌≡◌, ◌≤◌, ◌<◌, ◌+◌, ℕ, List, Option, Some, length, true, nat_eq, count_by, refl, sym, ap, ◌∙◌, subst, arith}
use Rattle.std.specs.Prelude.{IsSome, Ok, Err, if◌then◌else◌}
use Rattle.wtf_kv.specs.Stores.{Store, version_of, versions_of, times_pinned}
use Rattle.wtf_occ.specs.Attempts.{Attempted}
use Rattle.wtf_occ.specs.Tries.{IsTried, IsInstalled, IsConflict}
use Rattle.wtf_model.specs.declared.answer.Answer.TheVariants as answer
use Rattle.wtf_values.specs.declared.key.Key.{Key}
use Rattle.wtf_values.specs.declared.value.Value.{Value}
use Rattle.wtf_values.specs.declared.value.Delta.{Delta}
use Rattle.wtf_values.specs.Keys.{key_cmp}
use Rattle.wtf_values.specs.Outcomes.{outcome_of}
use Rattle.wtf_meta.specs.Maps.{metadata_at}
use Rattle.wtf_replay.specs.Views.{TxnView, rebased}
use Rattle.wtf_replay.specs.Refusals.{try_refusal}
use Rattle.wtf_replay.specs.Fits.{IsFit, IsLog}
use Rattle.wtf_replay.specs.Sounds.{LogStands}
use Rattle.wtf_replay.specs.Verbs.{AttemptOf}
use Rattle.wtf_replay.proofs.Starting.{sound_rebased}
use Rattle.wtf_replay.proofs.Trying.{final_from}
use Rattle.wtf_replay.proofs.Keeping.{fit_after, fit_rebased, moved_pinned}
use Rattle.wtf_replay.proofs.Turning.{if_none, try_none}
use Rattle.wtf_replay.proofs.txn.Txn.attempt_live.Goals as goal

-- no key was in the way
pub returns-in-Installed : goal.returns-in-Installed
returns-in-Installed c =
    let kv = c.args.kv.now in
    let after = c.install.new.kv in
    let n = c.in-Installed.n in
    let i = c.self.inside in
    let x : TxnView = record { tx = i.tx.0; at = i.at; session = i.session; log = i.log; replayed = i.replayed; ended = i.ended } in
    let new : TxnView = record x { at = c.install.new.self; ended = true } in
    let fit : IsFit kv x = subst (λ y. IsFit kv y) (sym c.self.view_is) c.requires.fit in
    let live : x.replayed ≡ length x.log.ops = subst (λ (y : TxnView). y.replayed ≡ length y.log.ops) (sym c.self.view_is) c.requires.live in
    let below : x.at.base ≤ kv.number = subst (λ m. x.at.base ≤ m) c.number-number.ensures.number (c.number-number.ensures.pins x.at.base fit.pinned) in
    let installed : IsInstalled key_cmp outcome_of x.at kv after n =
    subst (λ t. IsTried key_cmp outcome_of x.at kv after t) c.in-Installed.is c.in-Ok.ensures.tried in
    subst (λ (y : TxnView). AttemptOf kv after y new (Ok (answer.Committed n))) c.self.view_is (record {
      refused = if_none (try_refusal x) _ (try_none x live);
      tried = λ going. record {
        installed = installed;
        is = ap (λ (a : Attempted Key Delta). record x { at = a; ended = true }) c.install.ensures.attempt;
        pins = c.install.ensures.pins;
      };
      meaning = λ going size told ops sound. final_from size kv told x ops sound after n fit.log live installed;
      maps = c.install.ensures.maps;
      fit = fit_after kv after x new fit c.install.ensures.attempt refl refl below c.install.ensures.maps
          (λ m. ap (count_by (nat_eq m)) c.install.ensures.pins);
      err = tt;
      err_store = tt;
    })

-- a key was: it has a version above the base
pub returns-in-Conflict : goal.returns-in-Conflict
returns-in-Conflict c =
    let kv = c.args.kv.now in
    let mid = c.install.new.kv in
    let after = c.restart.new.kv in
    let i = c.self.inside in
    let x : TxnView = record { tx = i.tx.0; at = i.at; session = i.session; log = i.log; replayed = i.replayed; ended = i.ended } in
    let moved : TxnView = record x { at = c.install.new.self } in
    let new = c.restart.new.self in
    let log : IsLog x.log = subst (λ (y : TxnView). IsLog y.log) (sym c.self.view_is) c.requires.fit.log in
    let live : x.replayed ≡ length x.log.ops = subst (λ (y : TxnView). y.replayed ≡ length y.log.ops) (sym c.self.view_is) c.requires.live in
    let key = c.in-Conflict.key in
    let tried : IsConflict key_cmp outcome_of x.at kv mid key c.in-Conflict.seen c.in-Conflict.now =
    subst (λ t. IsTried key_cmp outcome_of x.at kv mid t) c.in-Conflict.is c.in-Ok.ensures.tried in
    let again = c.in_default.ensures in
    let same : moved ≡ x = ap (λ (a : Attempted Key Delta). record x { at = a }) c.install.ensures.attempt in
    let base : c.install.new.self.base ≡ x.at.base = ap (λ (a : Attempted Key Delta). a.base) c.install.ensures.attempt in
    let number : mid.number ≡ kv.number = tried.stays.same.number in
    let past : x.at.base < c.in-Conflict.now = tried.moved in
    let bound : c.in-Conflict.now ≤ kv.number = tried.bound in
    let above : x.at.base < version_of key_cmp kv kv.number key = subst (λ (n : ℕ). x.at.base < n) tried.now_is past in
    let from = c.base-base.ensures in
    let to = c.number-number-in-Conflict.ensures.number in
    let b : c.base-base.result ≡ x.at.base = cc in
    let n : c.number-number-in-Conflict.result ≡ kv.number = cc in
    let later : c.install.new.self.base < mid.number = omega (arith, number, past, bound, base) in
    subst (λ (y : TxnView). AttemptOf kv after y new (Ok (answer.Retry c.base-base.result c.number-number-in-Conflict.result))) c.self.view_is (record {
      refused = if_none (try_refusal x) _ (try_none x live);
      tried = λ going. record {
        in_the_way = subst (λ (o : Option Key). IsSome o) (sym tried.names) refl;
        moved = λ q way.
            let met : Some key ≡ Some q = sym tried.names ∙ way in
            let hit : key ≡ q = cc in
            subst (λ (k : Key). c.base-base.result < version_of key_cmp kv kv.number k) hit
            (subst (λ (m : ℕ). m < version_of key_cmp kv kv.number key) (sym b) above);
        base_is = b;
        number_is = n;
        later = omega (arith, b, n, past, bound);
        number = ap (λ (s : Store Key Value). s.number) again.shows ∙ number;
        versions = λ q. ap (λ (s : Store Key Value). versions_of key_cmp s q) again.shows ∙ tried.stays.same.versions q;
        pins = λ m.
            let Moves : ℕ → List ℕ → ℕ → Type 0 =
            λ from held to. times_pinned after m + (if nat_eq m from then 1 else 0) ≡ count_by (nat_eq m) held + (if nat_eq m to then 1 else 0) in
            subst (λ (k : ℕ). Moves k kv.pins c.number-number-in-Conflict.result) (base ∙ sym b)
            (subst (λ (k : ℕ). Moves c.install.new.self.base kv.pins k) (number ∙ sym n)
            (subst (λ (l : List ℕ). Moves c.install.new.self.base l mid.number) c.install.ensures.pins (again.pins m)));
        is = again.is ∙ ap (λ (y : TxnView). rebased y mid.number) same ∙ ap (λ (k : ℕ). rebased x k) (number ∙ sym n);
      };
      meaning = λ going size told ops sound.
          subst (λ y. LogStands size after told y ops) (sym again.is) (sound_rebased size after told moved mid.number ops sound.ops_are);
      maps = λ m le. ap (λ (s : Store Key Value). metadata_at s m) again.shows ∙ c.install.ensures.maps m le;
      fit = subst (λ y. IsFit after y) (sym again.is)
          (fit_rebased after moved mid.number log (moved_pinned c.install.new.self.base mid.number mid after later again.pins));
      err = tt;
      err_store = tt;
    })

-- memory was short where it was to begin again: the store shows what it showed
pub returns-in-Err-restart : goal.returns-in-Err-restart
returns-in-Err-restart c =
    let kv = c.args.kv.now in
    let mid = c.install.new.kv in
    let after = c.restart.new.kv in
    let i = c.self.inside in
    let x : TxnView = record { tx = i.tx.0; at = i.at; session = i.session; log = i.log; replayed = i.replayed; ended = i.ended } in
    let moved : TxnView = record x { at = c.install.new.self } in
    let why = c.in-Err-restart.why in
    let left = c.in-Err-restart.ensures.err in
    let fit : IsFit kv x = subst (λ y. IsFit kv y) (sym c.self.view_is) c.requires.fit in
    let live : x.replayed ≡ length x.log.ops = subst (λ (y : TxnView). y.replayed ≡ length y.log.ops) (sym c.self.view_is) c.requires.live in
    let below : x.at.base ≤ kv.number = subst (λ n. x.at.base ≤ n) c.number-number.ensures.number (c.number-number.ensures.pins x.at.base fit.pinned) in
    let same : c.restart.new.self ≡ x = left.0 ∙ ap (λ (a : Attempted Key Delta). record x { at = a }) c.install.ensures.attempt in
    let tried : IsConflict key_cmp outcome_of x.at kv mid c.in-Conflict.key c.in-Conflict.seen c.in-Conflict.now =
    subst (λ t. IsTried key_cmp outcome_of x.at kv mid t) c.in-Conflict.is c.in-Ok.ensures.tried in
    let there : AttemptOf kv mid x x (Err why) = record {
      refused = if_none (try_refusal x) _ (try_none x live);
      tried = λ going. tt;
      meaning = λ going. tt;
      maps = c.install.ensures.maps;
      fit = fit_after kv mid x x fit refl refl refl below c.install.ensures.maps (λ n. ap (count_by (nat_eq n)) c.install.ensures.pins);
      err = refl;
      err_store = tried.stays;
    } in
    subst (λ (y : TxnView). AttemptOf kv after y c.restart.new.self (Err why)) c.self.view_is
    (subst (λ (y : TxnView). AttemptOf kv after x y (Err why)) (sym same)
    (subst (λ (k : Store Key Value). AttemptOf kv k x x (Err why)) (sym left.1) there))
