use Rattle.std.proofs.Common.{◌≡◌, Option, Some, length, length-append, sym, ap, ◌∙◌, subst, arith, inl, inr}
use Rattle.std.specs.Option.{option_copied}
use Rattle.wtf_values.specs.declared.key.Key.{Key}
use Rattle.wtf_meta.specs.FileEdits.{region_of}
use Rattle.wtf_meta.specs.Maps.{metadata_at}
use Rattle.wtf_healer.specs.Regions.{IsHealedOr, IsPutAt, bytes_restored}
use Rattle.wtf_healer.specs.Restored.{Grew}
use Rattle.wtf_healer.specs.declared.entries.Restored.{Restored}
use Rattle.wtf_healer.proofs.Passing.{region_is, put_at}
use Rattle.wtf_healer.proofs.regions.heal_at.Goals as goal

pub returns-in-Err-clause-fault : goal.returns-in-Err-clause-fault
returns-in-Err-clause-fault g c =
    let kv = c.args.kv.now in
    let w = metadata_at kv kv.number in
    let v = c.in-Some.value.now in
    let is : region_of (w c.args.key.now) ≡ Some v =
    ap (λ m. region_of (metadata_at kv m c.args.key.now)) (sym c.number.ensures.number) ∙ sym (ap region_of c.read_at.ensures) ∙ sym c.region_in.ensures
    ∙ ap option_copied c.in-Some.is in
    inr (record {
      inode = c.in-Region.inode;
      region = c.in-Region.region;
      value_is = v;
      key_is = c.in-Region.is;
      there = sym (ap w c.in-Region.is) ∙ region_is (w c.args.key.now) v is;
      cause = c.in-Err.ensures.fault;
    })

pub returns-clause-at : goal.returns-clause-at
returns-clause-at g c =
    let kind = g.S.SliceStore.kind in
    let kv = c.args.kv.now in
    let w = metadata_at kv kv.number in
    let v = c.in-Some.value.now in
    let old = c.args.dev.now in
    let new = c.healed_list.new.dev in
    let is : region_of (w c.args.key.now) ≡ Some v =
    ap (λ m. region_of (metadata_at kv m c.args.key.now)) (sym c.number.ensures.number) ∙ sym (ap region_of c.read_at.ensures) ∙ sym c.region_in.ensures
    ∙ ap option_copied c.in-Some.is in
    let put = c.in-Ok-add.ensures.put in
    inl (subst (λ (k : Key). IsPutAt kind (old, new) w k c.args.healed.now c.add.new.self) (sym c.in-Region.is)
    (put_at kind (old, new) w c.in-Region.inode c.in-Region.region v c.in-Some-made.made put.0 c.args.healed.now c.add.new.self
    (sym (ap w c.in-Region.is) ∙ region_is (w c.args.key.now) v is)
    (subst (λ (o : Option Restored). IsHealedOr kind old new (record { inode = c.in-Region.inode; region = c.in-Region.region }) v o) c.in-Some-made.is
    c.in-Ok.ensures.healed)
    put.1 put.2 c.in-Ok-add.ensures.bytes
    (subst (λ (o : Option Restored). Grew kind old new (bytes_restored o)) c.in-Some-made.is c.in-Ok.ensures.grew)))

pub returns-clause-progress : goal.returns-clause-progress
returns-clause-progress g c =
    let changes = c.args.healed.now.changes in
    let put = c.in-Ok-add.ensures.put in
    let more = ap length put.2 ∙ length-append changes _ in
    c.tell_progress.ensures (length changes) (omega (arith, more))
