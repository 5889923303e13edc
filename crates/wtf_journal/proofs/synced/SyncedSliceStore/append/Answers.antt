use Rattle.std.proofs.Common.{◌∙◌, ◌+◌, [], length, arith, sym, subst}
use Rattle.wtf_dev.specs.Store.{Appended}
use Rattle.wtf_journal.specs.Follows.{SyncedState, SyncedFollows, is_there, view_of}
use Rattle.wtf_journal.proofs.Within.{over_get}
use Rattle.wtf_journal.proofs.Follow.{follows_within, misses_end, is_in, where_is}
use Rattle.wtf_journal.proofs.synced.SyncedSliceStore.append.Goals as goal

pub returns-in_err-write_through-clause-follows : goal.returns-in_err-write_through-clause-follows
returns-in_err-write_through-clause-follows g c =
    let old = c.self.inside.disk in
    let at = c.length-at.result in
    subst (λ (s : SyncedState g.row.D.Denot). SyncedFollows g.D.Disk.kind s
    (record { disk = c.write_through.new.disk; syncs = c.self.inside.syncs }) []) c.self.view_is
    (follows_within g.D.Disk.kind g.met.D.Disk.laws (record { disk = old; syncs = c.self.inside.syncs })
    (record { disk = c.write_through.new.disk; syncs = c.self.inside.syncs })
    c.args.file at (length c.args.bytes.now) [] c.write_through.ensures.kept
    (λ tells. misses_end c.args.file at (length c.args.bytes.now) _ (c.length-at.ensures.value ∙ sym (g.met.D.Disk.laws.lengths old c.args.file tells)))
    (omega arith))

pub returns-clause-follows : goal.returns-clause-follows
returns-clause-follows g c =
    let old = c.self.inside.disk in
    let at = c.length-at.result in
    subst (λ (s : SyncedState g.row.D.Denot). SyncedFollows g.D.Disk.kind s
    (record { disk = c.write_through.new.disk; syncs = c.self.inside.syncs }) []) c.self.view_is
    (follows_within g.D.Disk.kind g.met.D.Disk.laws (record { disk = old; syncs = c.self.inside.syncs })
    (record { disk = c.write_through.new.disk; syncs = c.self.inside.syncs })
    c.args.file at (length c.args.bytes.now) [] c.write_through.ensures.kept
    (λ tells. misses_end c.args.file at (length c.args.bytes.now) _ (c.length-at.ensures.value ∙ sym (g.met.D.Disk.laws.lengths old c.args.file tells)))
    (omega arith))

pub returns-clause-done : goal.returns-clause-done
returns-clause-done g c =
    let kind = g.D.Disk.kind in
    let old = c.self.inside.disk in
    let new = c.write_through.new.disk in
    let at = c.length-at.result in
    let bytes = c.args.bytes.now in
    let size = c.in_ok-write_through.ensures.length in
    let fits = c.in_ok-write_through.ensures.fits in
    subst (λ (s : SyncedState g.row.D.Denot). Appended (view_of kind s)
    (view_of kind (record { disk = new; syncs = c.self.inside.syncs })) c.args.file bytes at) c.self.view_is
    (record {
      at = omega (arith, c.length-at.ensures.value, c.length-at.ensures.fits);
      size = omega (arith, c.length-at.ensures.value, size, fits);
      bytes = λ tells k h.
          let lengths = g.met.D.Disk.laws.lengths old c.args.file tells in
          where_is (is_there (kind.view new) c.args.file (at + k)) _ _
          (is_in (kind.view new) c.args.file (at + k) (c.write_through.ensures.kept.goes_on.tells ∙ tells) c.requires
          (omega (arith, h, c.length-at.ensures.value, size, fits)))
          ((c.in_ok-write_through.ensures.lasts tells).told (at + k)
          ∙ over_get ((kind.view old).file c.args.file).seen bytes at k (omega (arith, c.length-at.ensures.value, lengths)) h);
    })
