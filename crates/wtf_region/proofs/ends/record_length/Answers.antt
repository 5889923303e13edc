use Rattle.wtf_occ.proofs.AttemptLaws.{Grows-on}
use Rattle.wtf_region.proofs.PieceEdits.{recorded_length}
use Rattle.wtf_region.proofs.ends.record_length.Goals as goal

pub returns-clause-recorded : goal.returns-clause-recorded
returns-clause-recorded c v is =
    recorded_length c.args.inode v c.args.end.region c.args.at.now c.record_last.new.at c.record_region.new.at is.region c.in_ok-record_last.ensures.recorded
    c.in_ok-record_region.ensures.recorded

pub returns-in_err-record_region-clause-grows : goal.returns-in_err-record_region-clause-grows
returns-in_err-record_region-clause-grows c =
    Grows-on c.args.at.now c.record_last.new.at c.record_region.new.at c.in_ok-record_last.ensures.grows c.in_err-record_region.ensures.grows

pub returns-clause-grows : goal.returns-clause-grows
returns-clause-grows c =
    Grows-on c.args.at.now c.record_last.new.at c.record_region.new.at c.in_ok-record_last.ensures.grows c.in_ok-record_region.ensures.grows
