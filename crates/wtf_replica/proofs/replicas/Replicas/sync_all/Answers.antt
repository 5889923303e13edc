use Rattle.std.proofs.Common.{◌≡◌, ◌∙◌, false, arith, below_more}
use Rattle.wtf_dev.proofs.Each.{each_on}
use Rattle.wtf_replica.specs.Downs.{is_down}
use Rattle.wtf_replica.specs.Outs.{HasSynced}
use Rattle.wtf_replica.proofs.Reading.{synced_on, synced_since}
use Rattle.wtf_replica.proofs.Spans.{each_kept, lows_on, same_lengths_on}
use Rattle.wtf_replica.proofs.replicas.Replicas.sync_all.Goals as goal

pub returns-then-not-try_sync-clause-follows : goal.returns-then-not-try_sync-clause-follows
returns-then-not-try_sync-clause-follows g c = each_on g.met.S.SliceStore.laws c.loop-k.invariant.each c.try_sync.ensures.follows

pub returns-then-not-try_sync-clause-down : goal.returns-then-not-try_sync-clause-down
returns-then-not-try_sync-clause-down g c =
    lows_on (is_down c.args.self.now) c.args.shelf.now c.loop-k.shelf c.try_sync.new.shelf c.loop-k.k c.loop-k.invariant.lows c.try_sync.ensures.down c.try_sync.ensures.elsewhere

pub returns-then-not-try_sync-clause-past : goal.returns-then-not-try_sync-clause-past
returns-then-not-try_sync-clause-past g c = λ j d low.
    c.try_sync.ensures.elsewhere j d (λ is. omega (arith, is, low, c.loop-k-test.true)) ∙ c.loop-k.invariant.past j d (omega (arith, low, c.loop-k-test.true))

pub loop-k-preserved : goal.loop-k-preserved
loop-k-preserved g c =
    let kind = g.S.SliceStore.kind in
    let laws = g.met.S.SliceStore.laws in
    let was = c.loop-k.invariant in
    let same = was.each.same_length in
    record {
      each = each_on laws was.each c.try_sync.ensures.follows;
      lows = lows_on (is_down c.args.self.now) c.args.shelf.now c.loop-k.shelf c.try_sync.new.shelf c.loop-k.k was.lows c.try_sync.ensures.down c.try_sync.ensures.elsewhere;
      lengths = same_lengths_on kind c.args.shelf.now c.loop-k.shelf c.try_sync.new.shelf same was.lengths c.try_sync.ensures.lengths;
      synced = below_more (HasSynced kind c.args.shelf.now c.try_sync.new.shelf) c.loop-k.k
          (λ j h. synced_on kind c.args.shelf.now c.loop-k.shelf c.try_sync.new.shelf same (each_kept laws c.try_sync.ensures.follows) j (was.synced j h))
          (synced_since kind c.args.shelf.now c.loop-k.shelf c.try_sync.new.shelf same (each_kept laws was.each) c.loop-k.k (c.try_sync.ensures.synced c.if-not-try_sync.false));
      up = below_more (λ j. is_down c.args.self.now j ≡ false) c.loop-k.k was.up (c.try_sync.ensures.up c.if-not-try_sync.false);
      past = λ j d low. c.try_sync.ensures.elsewhere j d (λ is. omega (arith, is, low)) ∙ was.past j d (omega (arith, low));
    }

pub returns-clause-synced : goal.returns-clause-synced
returns-clause-synced g c k h = c.loop-k.invariant.synced k (omega (arith, h, c.loop-k-test.false))

pub returns-clause-past : goal.returns-clause-past
returns-clause-past g c j d low = c.loop-k.invariant.past j d (omega (arith, low, c.loop-k.auto.k-end))
