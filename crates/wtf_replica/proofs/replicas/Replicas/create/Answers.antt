use Rattle.std.proofs.Common.{◌≡◌, ◌+◌, ℕ, List, length, arith, sym, ◌∙◌, ap, subst}
use Rattle.wtf_base.specs.declared.pointer.Pointer.{Pointer}
use Rattle.wtf_base.specs.Slices.{pointers_of}
use Rattle.wtf_replica.specs.Downs.{is_down}
use Rattle.wtf_replica.specs.Spans.{span}
use Rattle.wtf_replica.specs.Faults.{AreTooFew}
use Rattle.wtf_replica.specs.Copies.{IsStored}
use Rattle.wtf_replica.proofs.Bytes.{stored_bytes}
use Rattle.wtf_replica.proofs.Writing.{is_slice_of, length-placed}
use Rattle.wtf_replica.proofs.Going.{Going, going_none, going_skip, going_take, grown_by, on_shelf, low_copies, stored_by, inside_by, too_few}
use Rattle.wtf_replica.proofs.replicas.Replicas.create.Goals as goal
use Rattle.wtf_replica.proofs.replicas.Replicas.create.Goals.{in-None, in-Some+else-len-self}

pub loop-i-init : goal.loop-i-init
loop-i-init g c =
    record {
      going = subst (λ (ps : List Pointer). Going g.S.SliceStore.kind (span (is_down c.args.self.now) c.args.shelf.now c.args.shelf.now) c.args.place.now 0 c.args.bytes.now ps)
          (sym c.new-found.ensures) (going_none g.met.S.SliceStore.laws (is_down c.args.self.now) c.args.shelf.now c.args.place.now c.args.bytes.now);
      few = omega (arith, ap length c.new-found.ensures, c.args.self.now.settings.limits);
      file = c.file-file.ensures.value;
      end = c.count-i-end.ensures.value;
    }

pub try_copy-requires-clause-server : goal.try_copy-requires-clause-server
try_copy-requires-clause-server g c =
    on_shelf c.args.place.now.servers c.count-i-end.result c.loop-i.i c.server-server.result.0
    c.count-i-end.ensures.order (omega (arith, c.requires.shelf, c.requires.place, c.count-i-end.ensures.value)) c.loop-i.invariant.going.each c.loop-i-test.true c.server-server.ensures

pub slice_of-requires : goal.slice_of-requires
slice_of-requires g c =
    let done = going_take g.met.S.SliceStore.laws c.loop-i.invariant.going (record { order = c.count-i-end.ensures.order; below = c.loop-i-test.true; at = c.server-server.ensures; each = c.try_copy.ensures.follows; others = λ f d other. c.try_copy.ensures.others f d (λ is. other (is ∙ c.loop-i.invariant.file)); elsewhere = c.try_copy.ensures.elsewhere; same = c.try_copy.ensures.down; syncs = c.try_copy.ensures.syncs }) c.put_in_order.new.found.items
    c.in-Some.copy c.file-file.result c.put_in_order.ensures c.in-Some.ensures.server c.loop-i.invariant.file c.in-Some.ensures.made c.in-Some.ensures.stored in
    is_slice_of (length c.args.bytes.now) c.put_in_order.new.found.items c.requires.some
    (omega (arith, ap length c.put_in_order.ensures, length-placed c.in-Some.copy c.loop-i.found.items))
    (omega (arith, c.if-len-self.true, c.len.ensures.value, c.args.self.now.settings.limits)) done.ascends
    (low_copies c.args.place.now.file c.args.bytes.now c.put_in_order.new.found.items done.copies)

-- the copies that were made, as the slice has them
made : (g : _) (c : goal.After-slice_of g)
    → Going g.S.SliceStore.kind (span (is_down c.args.self.now) c.args.shelf.now c.try_copy.new.shelf) c.args.place.now (c.loop-i.i + 1) c.args.bytes.now (pointers_of c.slice_of.result)
made g c =
    going_take g.met.S.SliceStore.laws c.loop-i.invariant.going (record { order = c.count-i-end.ensures.order; below = c.loop-i-test.true; at = c.server-server.ensures; each = c.try_copy.ensures.follows; others = λ f d other. c.try_copy.ensures.others f d (λ is. other (is ∙ c.loop-i.invariant.file)); elsewhere = c.try_copy.ensures.elsewhere; same = c.try_copy.ensures.down; syncs = c.try_copy.ensures.syncs }) (pointers_of c.slice_of.result)
    c.in-Some.copy c.file-file.result (c.slice_of.ensures ∙ c.put_in_order.ensures) c.in-Some.ensures.server c.loop-i.invariant.file c.in-Some.ensures.made c.in-Some.ensures.stored

stored : (g : _) (c : goal.After-slice_of g)
    → IsStored g.S.SliceStore.kind (span (is_down c.args.self.now) c.args.shelf.now c.try_copy.new.shelf) c.args.self.now.settings.replicas c.args.place.now c.args.bytes.now c.slice_of.result
stored g c =
    stored_by c.args.self.now.settings.replicas c.slice_of.result (made g c)
    (ap length c.slice_of.ensures ∙ sym c.len.ensures.value ∙ c.if-len-self.true) (omega (arith, c.loop-i.invariant.few))

pub returns-then-len-self-clause-stored : goal.returns-then-len-self-clause-stored
returns-then-len-self-clause-stored g c = stored g c

pub returns-then-len-self-clause-holds : goal.returns-then-len-self-clause-holds
returns-then-len-self-clause-holds g c = λ tells. stored_bytes (stored g c) (made g c).each.same_length tells

pub returns-then-len-self-clause-inside : goal.returns-then-len-self-clause-inside
returns-then-len-self-clause-inside g c = inside_by (omega (arith, c.file-file.ensures.value, c.file-file.ensures.known)) (made g c)

pub returns-then-len-self-clause-follows : goal.returns-then-len-self-clause-follows
returns-then-len-self-clause-follows g c = (made g c).each

pub returns-then-len-self-clause-down : goal.returns-then-len-self-clause-down
returns-then-len-self-clause-down g c = (made g c).lows

pub returns-then-len-self-clause-grows : goal.returns-then-len-self-clause-grows
returns-then-len-self-clause-grows g c = grown_by (made g c)

pub loop-i-preserved : goal.loop-i-preserved
loop-i-preserved g c = elim c.match-try_copy.branch [
  | in-None w ↦ record {
    going = going_skip g.met.S.SliceStore.laws c.loop-i.invariant.going (record { order = c.count-i-end.ensures.order; below = c.loop-i-test.true; at = c.server-server.ensures; each = c.try_copy.ensures.follows; others = λ f d other. c.try_copy.ensures.others f d (λ is. other (is ∙ c.loop-i.invariant.file)); elsewhere = c.try_copy.ensures.elsewhere; same = c.try_copy.ensures.down; syncs = c.try_copy.ensures.syncs }) c.match-try_copy.found.items (ap (λ v. v.items) w.found-is) w.in-None.ensures.out;
    few = omega (arith, c.loop-i.invariant.few, ap (λ v. length v.items) w.found-is);
    file = c.loop-i.invariant.file;
    end = c.loop-i.invariant.end;
  }
  | in-Some+else-len-self w ↦ record {
    going = going_take g.met.S.SliceStore.laws c.loop-i.invariant.going (record { order = c.count-i-end.ensures.order; below = c.loop-i-test.true; at = c.server-server.ensures; each = c.try_copy.ensures.follows; others = λ f d other. c.try_copy.ensures.others f d (λ is. other (is ∙ c.loop-i.invariant.file)); elsewhere = c.try_copy.ensures.elsewhere; same = c.try_copy.ensures.down; syncs = c.try_copy.ensures.syncs }) c.match-try_copy.found.items
        w.in-Some.copy c.file-file.result (ap (λ v. v.items) w.found-is ∙ w.put_in_order.ensures) w.in-Some.ensures.server c.loop-i.invariant.file w.in-Some.ensures.made w.in-Some.ensures.stored;
    few = omega (arith, c.loop-i.invariant.few, w.if-len-self.false, w.len.ensures.value, ap length w.put_in_order.ensures, ap (λ v. length v.items) w.found-is, length-placed w.in-Some.copy c.loop-i.found.items);
    file = c.loop-i.invariant.file;
    end = c.loop-i.invariant.end;
  }
]

pub returns-clause-fault : goal.returns-clause-fault
returns-clause-fault g c =
    let n : c.count-i-end.result ≡ c.args.self.now.settings.servers = c.count-i-end.ensures.value ∙ c.requires.place in
    subst (λ (m : ℕ). AreTooFew g.S.SliceStore.kind (span (is_down c.args.self.now) c.args.shelf.now c.loop-i.shelf) m c.args.self.now.settings.replicas) n
    (too_few c.count-i-end.result c.args.self.now.settings.replicas c.count-i-end.ensures.order c.loop-i-test.false c.loop-i.invariant.going c.loop-i.invariant.few)

pub returns-clause-grows : goal.returns-clause-grows
returns-clause-grows g c = grown_by c.loop-i.invariant.going
