use Rattle.std.proofs.Common.{refl}
use Rattle.wtf_kv.specs.Stores.{listed}
use Rattle.wtf_kv.proofs.Noting.{either, refused_sound, staged_shown, staged_sound}
use Rattle.wtf_kv.proofs.history.History.stage_key.Goals as goal

pub invariant_of-self : goal.invariant_of-self
invariant_of-self g c =
    let old = c.self.inside in
    refused_sound g.K.Ord.cmp old.number old.fresh old.recent c.note.new.recent old.touched.items c.note.new.touched.items (listed old.cells.entries) c.in_err-note.ensures.err c.note.ensures.kept c.self.invariant

pub invariant_of-self-2 : goal.invariant_of-self-2
invariant_of-self-2 g c =
    let old = c.self.inside in
    staged_sound g.K.Ord.cmp old.number old.fresh c.args.value old.recent c.note.new.recent old.touched.items c.note.new.touched.items c.args.key.now (listed old.cells.entries) (listed c.stage_cell.new.cells.entries)
    c.stage_cell.ensures.others (either c.stage_cell.result c.stage_cell.ensures.ok c.stage_cell.ensures.err) c.in_ok-note.ensures.ok c.note.ensures.kept c.in_ok-note.ensures.noted c.self.invariant

pub returns-clause-same : goal.returns-clause-same
returns-clause-same g c =
    let old = c.self.inside in
    rw (← c.self.view_is) (record {
      number = refl;
      pins = refl;
      versions = staged_shown g.K.Ord.cmp old.number old.fresh c.args.value old.recent c.note.new.recent old.touched.items c.note.new.touched.items c.args.key.now (listed old.cells.entries) (listed c.stage_cell.new.cells.entries)
          c.stage_cell.ensures.others (either c.stage_cell.result c.stage_cell.ensures.ok c.stage_cell.ensures.err);
    })
