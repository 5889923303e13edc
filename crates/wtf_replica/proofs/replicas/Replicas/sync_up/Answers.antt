use Rattle.std.proofs.Common.{◌≡◌, ◌∙◌, false, arith, below_more}
use Rattle.wtf_dev.proofs.Each.{each_on}
use Rattle.wtf_replica.specs.Downs.{is_down}
use Rattle.wtf_replica.specs.Outs.{HasSynced}
use Rattle.wtf_replica.proofs.Reading.{synced_on, synced_since}
use Rattle.wtf_replica.proofs.Spans.{each_kept, lows_on, risen_since, same_lengths_on}
use Rattle.wtf_replica.proofs.replicas.Replicas.sync_up.Goals as goal

pub returns-then-not-sync_if_up-clause-cause : goal.returns-then-not-sync_if_up-clause-cause
returns-then-not-sync_if_up-clause-cause g c =
    let was = c.loop-k.invariant in (
      c.loop-k.k,
      omega (arith, c.loop-k-test.true),
      c.sync_if_up.ensures.up c.if-not-sync_if_up.true,
      risen_since g.S.SliceStore.kind c.args.shelf.now c.loop-k.shelf c.sync_if_up.new.shelf was.each.same_length
          (each_kept g.met.S.SliceStore.laws was.each) c.loop-k.k (c.sync_if_up.ensures.failed c.if-not-sync_if_up.true),
    )

pub returns-then-not-sync_if_up-clause-follows : goal.returns-then-not-sync_if_up-clause-follows
returns-then-not-sync_if_up-clause-follows g c = each_on g.met.S.SliceStore.laws c.loop-k.invariant.each c.sync_if_up.ensures.follows

pub returns-then-not-sync_if_up-clause-down : goal.returns-then-not-sync_if_up-clause-down
returns-then-not-sync_if_up-clause-down g c =
    lows_on (is_down c.args.self.now) c.args.shelf.now c.loop-k.shelf c.sync_if_up.new.shelf c.loop-k.k c.loop-k.invariant.lows c.sync_if_up.ensures.down c.sync_if_up.ensures.elsewhere

pub returns-then-not-sync_if_up-clause-past : goal.returns-then-not-sync_if_up-clause-past
returns-then-not-sync_if_up-clause-past g c = λ j d low.
    c.sync_if_up.ensures.elsewhere j d (λ is. omega (arith, is, low, c.loop-k-test.true)) ∙ c.loop-k.invariant.past j d (omega (arith, low, c.loop-k-test.true))

pub loop-k-preserved : goal.loop-k-preserved
loop-k-preserved g c =
    let kind = g.S.SliceStore.kind in
    let laws = g.met.S.SliceStore.laws in
    let was = c.loop-k.invariant in
    let same = was.each.same_length in
    record {
      each = each_on laws was.each c.sync_if_up.ensures.follows;
      lows = lows_on (is_down c.args.self.now) c.args.shelf.now c.loop-k.shelf c.sync_if_up.new.shelf c.loop-k.k was.lows c.sync_if_up.ensures.down c.sync_if_up.ensures.elsewhere;
      lengths = same_lengths_on kind c.args.shelf.now c.loop-k.shelf c.sync_if_up.new.shelf same was.lengths c.sync_if_up.ensures.lengths;
      synced = below_more (λ j. is_down c.args.self.now j ≡ false → HasSynced kind c.args.shelf.now c.sync_if_up.new.shelf j) c.loop-k.k
          (λ j h up. synced_on kind c.args.shelf.now c.loop-k.shelf c.sync_if_up.new.shelf same (each_kept laws c.sync_if_up.ensures.follows) j (was.synced j h up))
          (λ up. synced_since kind c.args.shelf.now c.loop-k.shelf c.sync_if_up.new.shelf same (each_kept laws was.each) c.loop-k.k (c.sync_if_up.ensures.synced c.if-not-sync_if_up.false up));
      past = λ j d low. c.sync_if_up.ensures.elsewhere j d (λ is. omega (arith, is, low)) ∙ was.past j d (omega (arith, low));
    }

pub returns-clause-synced : goal.returns-clause-synced
returns-clause-synced g c k h up = c.loop-k.invariant.synced k (omega (arith, h, c.loop-k-test.false)) up

pub returns-clause-past : goal.returns-clause-past
returns-clause-past g c j d low = c.loop-k.invariant.past j d (omega (arith, low, c.loop-k.auto.k-end))
