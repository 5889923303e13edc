use Rattle.std.proofs.Common.{◌≡◌, ◌+◌, true, take}
use Rattle.wtf_base.specs.Slices.{pointers_of}
use Rattle.wtf_dev.proofs.Each.{each_on}
use Rattle.wtf_replica.specs.Downs.{is_down}
use Rattle.wtf_replica.specs.Spans.{span}
use Rattle.wtf_replica.specs.Copies.{IsFetched, SameBeside}
use Rattle.wtf_replica.proofs.Bytes.{fetched_up, fetched_bytes}
use Rattle.wtf_replica.proofs.Reading.{fetched, beside_all, past_copy, next_beside, next_last, next_out}
use Rattle.wtf_replica.proofs.Spans.{each_kept, lows_on, same_lengths_on, same_syncs_on}
use Rattle.wtf_replica.proofs.replicas.Replicas.fetch.Goals as goal

-- only the servers of the copies up to this one were asked
tried : (g : _) (c : goal.After-result-1 g) → SameBeside (take (c.loop-i.i + 1) (pointers_of c.args.slice.now)) c.args.shelf.now c.read_copy.new.shelf
tried g c =
    next_beside c.args.shelf.now c.loop-i.shelf c.read_copy.new.shelf (pointers_of c.args.slice.now) c.loop-i.i c.pointer-copy.result
    c.pointer-copy.ensures.value c.loop-i.invariant.beside c.read_copy.ensures.elsewhere

read : (g : _) (c : goal.After-result-1 g) → c.read_copy.result ≡ true
    → IsFetched g.S.SliceStore.kind (span (is_down c.args.self.now) c.args.shelf.now c.read_copy.new.shelf) c.args.slice.now c.args.off c.read_copy.new.out c.pointer-copy.result.server.0
read g c so =
    let laws = g.met.S.SliceStore.laws in
    let was = c.loop-i.invariant in
    fetched g.S.SliceStore.kind (is_down c.args.self.now) c.args.shelf.now c.loop-i.shelf c.read_copy.new.shelf was.each.same_length
    (each_kept laws was.each) (each_kept laws c.read_copy.ensures.follows)
    c.args.slice.now c.loop-i.i c.pointer-copy.result c.args.off c.read_copy.new.out c.pointer-copy.ensures.value c.requires.inside
    (c.read_copy.ensures.up so) (c.read_copy.ensures.bytes so) was.out

pub returns-then-read_copy-clause-fetched : goal.returns-then-read_copy-clause-fetched
returns-then-read_copy-clause-fetched g c = read g c c.if-read_copy.true

pub returns-then-read_copy-clause-shows : goal.returns-then-read_copy-clause-shows
returns-then-read_copy-clause-shows g c = fetched_bytes g.met.S.SliceStore.laws (read g c c.if-read_copy.true)

pub returns-then-read_copy-clause-shows_up : goal.returns-then-read_copy-clause-shows_up
returns-then-read_copy-clause-shows_up g c = fetched_up g.met.S.SliceStore.laws (read g c c.if-read_copy.true)

pub returns-then-read_copy-clause-follows : goal.returns-then-read_copy-clause-follows
returns-then-read_copy-clause-follows g c = each_on g.met.S.SliceStore.laws c.loop-i.invariant.each c.read_copy.ensures.follows

pub returns-then-read_copy-clause-down : goal.returns-then-read_copy-clause-down
returns-then-read_copy-clause-down g c =
    lows_on (is_down c.args.self.now) c.args.shelf.now c.loop-i.shelf c.read_copy.new.shelf c.pointer-copy.result.server.0 c.loop-i.invariant.lows c.read_copy.ensures.down c.read_copy.ensures.elsewhere

pub returns-then-read_copy-clause-beside : goal.returns-then-read_copy-clause-beside
returns-then-read_copy-clause-beside g c = beside_all c.args.shelf.now c.read_copy.new.shelf (pointers_of c.args.slice.now) (c.loop-i.i + 1) (tried g c)

pub returns-then-read_copy-clause-past : goal.returns-then-read_copy-clause-past
returns-then-read_copy-clause-past g c =
    past_copy c.args.shelf.now c.read_copy.new.shelf c.args.slice.now c.loop-i.i c.pointer-copy.result c.pointer-copy.ensures.value (tried g c)

pub loop-i-preserved : goal.loop-i-preserved
loop-i-preserved g c =
    let kind = g.S.SliceStore.kind in
    let laws = g.met.S.SliceStore.laws in
    let was = c.loop-i.invariant in
    let same = was.each.same_length in
    record {
      each = each_on laws was.each c.read_copy.ensures.follows;
      lows = lows_on (is_down c.args.self.now) c.args.shelf.now c.loop-i.shelf c.read_copy.new.shelf c.pointer-copy.result.server.0 was.lows c.read_copy.ensures.down c.read_copy.ensures.elsewhere;
      lengths = same_lengths_on kind c.args.shelf.now c.loop-i.shelf c.read_copy.new.shelf same was.lengths c.read_copy.ensures.lengths;
      syncs = same_syncs_on kind c.args.shelf.now c.loop-i.shelf c.read_copy.new.shelf same was.syncs c.read_copy.ensures.syncs;
      beside = next_beside c.args.shelf.now c.loop-i.shelf c.read_copy.new.shelf (pointers_of c.args.slice.now) c.loop-i.i c.pointer-copy.result
          c.pointer-copy.ensures.value was.beside c.read_copy.ensures.elsewhere;
      out = next_out kind (is_down c.args.self.now) c.args.shelf.now c.loop-i.shelf c.read_copy.new.shelf same
          (each_kept laws was.each) (each_kept laws c.read_copy.ensures.follows)
          (pointers_of c.args.slice.now) c.loop-i.i c.pointer-copy.result c.pointer-copy.ensures.value was.out (c.read_copy.ensures.out c.if-read_copy.false);
      last = next_last (pointers_of c.args.slice.now) c.loop-i.i c.pointer-copy.result 0 c.pointer-copy.ensures.value;
    }
