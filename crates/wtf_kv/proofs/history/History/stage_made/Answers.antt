use Rattle.std.proofs.Common.{refl}
use Rattle.std.proofs.lemmas.Result.{on_ok_weaker}
use Rattle.wtf_kv.specs.Stores.{listed, versions_in}
use Rattle.wtf_kv.specs.Staging.{value_next, run_made}
use Rattle.wtf_kv.proofs.Noting.{either, refused_sound, staged_shown, staged_sound, staged_all}
use Rattle.wtf_kv.proofs.history.History.stage_made.Goals as goal

pub invariant_of-self : goal.invariant_of-self
invariant_of-self g c =
    let old = c.self.inside in
    refused_sound g.K.Ord.cmp old.number old.fresh old.recent c.note.new.recent old.touched.items c.note.new.touched.items (listed old.cells.entries) c.in_err-note.ensures.err c.note.ensures.kept c.self.invariant

pub invariant_of-self-2 : goal.invariant_of-self-2
invariant_of-self-2 g c =
    let old = c.self.inside in
    let now = value_next old.number (versions_in g.K.Ord.cmp (listed old.cells.entries) c.args.key.now) in
    let x = run_made g.C.Cell.outcome c.args.run.now now in
    staged_sound g.K.Ord.cmp old.number old.fresh x old.recent c.note.new.recent old.touched.items c.note.new.touched.items c.args.key.now (listed old.cells.entries) (listed c.stage_run_cell.new.cells.entries)
    c.stage_run_cell.ensures.others (either c.stage_run_cell.result c.stage_run_cell.ensures.ok c.stage_run_cell.ensures.err) c.in_ok-note.ensures.ok c.note.ensures.kept c.in_ok-note.ensures.noted c.self.invariant

pub returns-clause-same : goal.returns-clause-same
returns-clause-same g c =
    let old = c.self.inside in
    let now = value_next old.number (versions_in g.K.Ord.cmp (listed old.cells.entries) c.args.key.now) in
    let x = run_made g.C.Cell.outcome c.args.run.now now in
    rw (← c.self.view_is) (record {
      number = refl;
      pins = refl;
      versions = staged_shown g.K.Ord.cmp old.number old.fresh x old.recent c.note.new.recent old.touched.items c.note.new.touched.items c.args.key.now (listed old.cells.entries) (listed c.stage_run_cell.new.cells.entries)
          c.stage_run_cell.ensures.others (either c.stage_run_cell.result c.stage_run_cell.ensures.ok c.stage_run_cell.ensures.err);
    })

pub returns-clause-ok : goal.returns-clause-ok
returns-clause-ok g c =
    let old = c.self.inside in
    let now = value_next old.number (versions_in g.K.Ord.cmp (listed old.cells.entries) c.args.key.now) in
    let x = run_made g.C.Cell.outcome c.args.run.now now in
    rw (← c.self.view_is) (on_ok_weaker c.stage_run_cell.result
    (staged_all g.K.Ord.cmp old.number old.fresh x old.recent c.note.new.recent old.touched.items c.note.new.touched.items c.args.key.now (listed old.cells.entries) (listed c.stage_run_cell.new.cells.entries) c.stage_run_cell.ensures.others)
    c.stage_run_cell.ensures.ok)
