use Rattle.wtf_clients.proofs.Common.{SameFrom, Settings, with_image, only_image, Saves, Rose, is_down, during, Answer, Event, SomeOut, AreUp, ◌≡◌, ◌<◌, ℕ}
use Rattle.wtf_clients.proofs.Common.{List, [], ◌∷◌}
use Rattle.wtf_clients.proofs.Common.{Some, sym, ap, ◌∙◌, subst, inl, inr}
use Rattle.wtf_clients.proofs.{SaveServing.save_serves, Images.kept_enough, Leaving.leaves_none, Leaving.save_leaves, Pinning.saves_then, Pinning.saves_enough}
use Rattle.wtf_clients.proofs.tables.Tables.save.Goals as goal

-- stores of no server of the settings
past_by : {S : Type 0} (old new : List S) (st settings : Settings) → st ≡ settings → SameFrom st.servers old new → SameFrom settings.servers old new
past_by old new st settings is h = subst (λ (s : Settings). SameFrom s.servers old new) is h

pub returns-in-Err-sync_all-clause-turn : goal.returns-in-Err-sync_all-clause-turn
returns-in-Err-sync_all-clause-turn g c =
    let old = c.args.self.now in
    let mid = c.keep_image.new.self in
    let kept = c.in_default.ensures.ok in
    let same : with_image old.beside old.kv.number ≡ with_image old.beside mid.kv.number = ap (with_image old.beside) (sym kept.number) in
    inl (saves_then old mid c.forget_image.new.self (with_image old.beside old.kv.number) old.beside kept
    (c.forget_image.ensures old.beside (kept.beside ∙ same)))

pub returns-in-Err-replace-clause-keeper : goal.returns-in-Err-replace-clause-keeper
returns-in-Err-replace-clause-keeper g c =
    inr (record {
      hands = record {
        bytes = c.in-Ok.bytes.items;
        image = c.in-Ok.ensures;
        handed = subst (λ (b : List ℕ). g.K.Keeper.follows c.args.keeper.now c.replace.new.self (b ∷ [])) c.as_slice.ensures.value c.replace.ensures.follows;
        synced = λ j below. c.in_default-sync_all.ensures.synced j (subst (λ (s : Settings). j < s.servers) (sym c.requires.settings) below);
      };
      rose = c.in-Err-replace.ensures.cause;
      refused = c.in-Err-replace.ensures.refused;
      beside = c.in_default.ensures.ok.beside;
    })

pub settle_image-requires-clause-pinned : goal.settle_image-requires-clause-pinned
settle_image-requires-clause-pinned g c =
    let old = c.args.self.now in
    saves_enough old c.keep_image.new.self (with_image old.beside old.kv.number) c.in_default.ensures.ok (kept_enough old c.number-number.ensures.sound)

pub returns-clause-turn : goal.returns-clause-turn
returns-clause-turn g c =
    let old = c.args.self.now in
    let mid = c.keep_image.new.self in
    let kept = c.in_default.ensures.ok in
    let same : with_image old.beside old.kv.number ≡ with_image old.beside mid.kv.number = ap (with_image old.beside) (sym kept.number) in
    let settled : Saves mid c.settle_image.new.self (only_image old.beside mid.kv.number) = c.settle_image.ensures old.beside (kept.beside ∙ same) in (
      c.number-number.ensures.number,
      λ k below. c.in_default-sync_all.ensures.up k (subst (λ (s : Settings). k < s.servers) (sym c.requires.settings) below),
      saves_then old mid c.settle_image.new.self (with_image old.beside old.kv.number) (only_image old.beside c.number-number.result) kept
          (subst (λ (n : ℕ). Saves mid c.settle_image.new.self (only_image old.beside n)) (kept.number ∙ sym c.number-number.ensures.number) settled),
    )

pub returns-clause-keeper : goal.returns-clause-keeper
returns-clause-keeper g c = record {
  hands = record {
    bytes = c.in-Ok.bytes.items;
    image = c.in-Ok.ensures;
    handed = subst (λ (b : List ℕ). g.K.Keeper.follows c.args.keeper.now c.replace.new.self (b ∷ [])) c.as_slice.ensures.value c.replace.ensures.follows;
    synced = λ j below. c.in_default-sync_all.ensures.synced j (subst (λ (s : Settings). j < s.servers) (sym c.requires.settings) below);
  };
  held = λ tells. c.in_default-replace.ensures.replaced tells ∙ ap Some c.as_slice.ensures.value;
}

pub returns-in-Err-sync_all-clause-serves : goal.returns-in-Err-sync_all-clause-serves
returns-in-Err-sync_all-clause-serves g c =
    save_serves g.met.S.SliceStore.laws (is_down c.args.replicas.now) c.args.shelf.now c.sync_all.new.shelf c.sync_all.ensures.follows
    c.sync_all.ensures.lengths c.args.settings c.requires.shelf
    (AreUp c.args.replicas.now c.args.settings.servers) (Rose (g.K.Keeper.view c.args.keeper.now).faults (g.K.Keeper.view c.args.keeper.now).faults)
    c.args.self.now c.forget_image.new.self c.number-number.ensures.sound c.requires.inside Answer.FaultSave (returns-in-Err-sync_all-clause-turn g c)
    (inl (subst (λ (s : Settings). SomeOut g.S.SliceStore.kind (during c.args.replicas.now c.args.shelf.now c.sync_all.new.shelf) s.servers) c.requires.settings
    c.in-Err-sync_all.ensures.cause))

pub returns-in-Err-replace-clause-serves : goal.returns-in-Err-replace-clause-serves
returns-in-Err-replace-clause-serves g c =
    save_serves g.met.S.SliceStore.laws (is_down c.args.replicas.now) c.args.shelf.now c.sync_all.new.shelf c.sync_all.ensures.follows
    c.sync_all.ensures.lengths c.args.settings c.requires.shelf
    (AreUp c.args.replicas.now c.args.settings.servers) (Rose (g.K.Keeper.view c.args.keeper.now).faults (g.K.Keeper.view c.replace.new.self).faults)
    c.args.self.now c.keep_image.new.self c.number-number.ensures.sound c.requires.inside Answer.FaultSave
    (inr c.in_default.ensures.ok) (inr c.in-Err-replace.ensures.cause)

pub returns-clause-serves : goal.returns-clause-serves
returns-clause-serves g c =
    save_serves g.met.S.SliceStore.laws (is_down c.args.replicas.now) c.args.shelf.now c.sync_all.new.shelf c.sync_all.ensures.follows
    c.sync_all.ensures.lengths c.args.settings c.requires.shelf
    (AreUp c.args.replicas.now c.args.settings.servers) (Rose (g.K.Keeper.view c.args.keeper.now).faults (g.K.Keeper.view c.replace.new.self).faults)
    c.args.self.now c.settle_image.new.self c.number-number.ensures.sound c.requires.inside (Answer.Saved c.number-number.result) (returns-clause-turn g c) tt

pub forget_image-requires-clause-last : goal.forget_image-requires-clause-last
forget_image-requires-clause-last g c =
    let old = c.args.self.now in
    let kept = c.in_default.ensures.ok in
    (old.beside, kept.beside ∙ ap (with_image old.beside) (sym kept.number))

pub settle_image-requires-clause-last : goal.settle_image-requires-clause-last
settle_image-requires-clause-last g c =
    let old = c.args.self.now in
    let kept = c.in_default.ensures.ok in
    (old.beside, kept.beside ∙ ap (with_image old.beside) (sym kept.number))

-- before the first sync the stores are what they were
pub returns-in-Err-clause-leaves : goal.returns-in-Err-clause-leaves
returns-in-Err-clause-leaves g c = λ lists.
    leaves_none g.S.SliceStore.kind (is_down c.args.replicas.now) c.args.shelf.now c.args.settings lists c.args.self.now Event.Save

pub returns-in-Err-keep_image-clause-leaves : goal.returns-in-Err-keep_image-clause-leaves
returns-in-Err-keep_image-clause-leaves g c = λ lists.
    leaves_none g.S.SliceStore.kind (is_down c.args.replicas.now) c.args.shelf.now c.args.settings lists c.args.self.now Event.Save

pub returns-in-Err-sync_all-clause-leaves : goal.returns-in-Err-sync_all-clause-leaves
returns-in-Err-sync_all-clause-leaves g c = λ lists.
    save_leaves g.S.SliceStore.kind (is_down c.args.replicas.now) c.args.shelf.now c.sync_all.new.shelf c.args.settings lists c.args.self.now
    c.sync_all.ensures.down (past_by c.args.shelf.now c.sync_all.new.shelf _ c.args.settings c.requires.settings c.sync_all.ensures.past)
    c.sync_all.ensures.lengths

pub returns-in-Err-replace-clause-leaves : goal.returns-in-Err-replace-clause-leaves
returns-in-Err-replace-clause-leaves g c = λ lists.
    save_leaves g.S.SliceStore.kind (is_down c.args.replicas.now) c.args.shelf.now c.sync_all.new.shelf c.args.settings lists c.args.self.now
    c.sync_all.ensures.down (past_by c.args.shelf.now c.sync_all.new.shelf _ c.args.settings c.requires.settings c.sync_all.ensures.past)
    c.sync_all.ensures.lengths

pub returns-clause-leaves : goal.returns-clause-leaves
returns-clause-leaves g c = λ lists.
    save_leaves g.S.SliceStore.kind (is_down c.args.replicas.now) c.args.shelf.now c.sync_all.new.shelf c.args.settings lists c.args.self.now
    c.sync_all.ensures.down (past_by c.args.shelf.now c.sync_all.new.shelf _ c.args.settings c.requires.settings c.sync_all.ensures.past)
    c.sync_all.ensures.lengths
