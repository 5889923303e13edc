use Rattle.wtf_files_rows.proofs.bench.is_pinned_after.Goals as goal

pub drop_all-requires : goal.drop_all-requires
drop_all-requires c = c.in_ok-kv.ensures.fit.pinned
