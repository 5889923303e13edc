-- The names of specs and of the crates below that the proofs here cite, passed on from one place. Declares nothing.
pub use Rattle.std.proofs.Common.{Bool, Err, IsOk, Ok, OnOk, nat_lt, not, true, ◌-◌}
pub use Rattle.std.specs.{Bool.MatchBool, Cmp.IsTotalOrder, Cmp.nat_cmp_total, Cmp.tied_itself, Cmp.unsigned_tied, Cmp.Lexicographic.nat_list_cmp_total}
pub use Rattle.std.specs.{FinMap.Entries.find-append, FinMap.Entries.same_entries, List.AllByRecursion, List.flat_map, List.list_all, Option.option_copied}
pub use Rattle.std.specs.{Option.option_or, Ordering.ordering_reverse}
pub use Rattle.std.specs.FinMap.{FinMap, get-empty, get-remove, insert, len, nat_cmp-IsAntisymmetric, remove, slice_cmp-IsAntisymmetric}
pub use Rattle.std.specs.Prelude.{nat_eq, nat_le, slice_get, ◌||◌, ◌⊎◌}
pub use Rattle.std.proofs.{lemmas.List.append-nil, lemmas.List.append_cancel_left, lemmas.List.length-take, lemmas.List.map-append}
pub use Rattle.std.proofs.{lemmas.Option.slice_get-get_or, lemmas.Option.slice_get_within}
pub use Rattle.wtf_base.specs.{Limits.AreSettings, Places.Place}
pub use Rattle.wtf_base.proofs.{Elements.element}
pub use Rattle.wtf_dev.specs.{Keep.KeeperKept, Keep.KeeperView}
pub use Rattle.wtf_model.specs.{Call.call, Faults.or_refusal, Form.IsFormEvent, Items.bodies_at, Machines.cap_of, Machines.due, Machines.start}
pub use Rattle.wtf_model.specs.{Servers.down_after_event, Session.Session, Session.fresh, Transaction.session_after}
pub use Rattle.wtf_model.specs.Jobs.{MayPut, drop_answer, has_region, is_idle, job_changes, plan_answer}
pub use Rattle.wtf_model.specs.Lawful.{Deviates, MayAsk, MayCall, MayClient, MayCommit, MayInstall, MaySave, MayStep, MayTry, client_refusal, dump_answer}
pub use Rattle.wtf_model.specs.Lawful.{server_answer}
pub use Rattle.wtf_model.specs.Steps.{aborted, after, after_client, called, committed, dropped, ended, installed, is_call_refusal, is_logged, logged}
pub use Rattle.wtf_model.specs.Steps.{put_in_place, saved, stepped, tried, with_each, with_job, with_transaction, without_job}
pub use Rattle.wtf_model.specs.Tree.{path_count, paths_at, root, rows_of, shown_len, shown_row, source}
pub use Rattle.wtf_model.specs.declared.{answer.Word.TheVariants.Full, answer.Word.TheVariants.Live, answer.Word.TheVariants.Replaying}
pub use Rattle.wtf_model.specs.declared.{limits.TheConstants.MAX_LOGGED, lists.Row.Row}
pub use Rattle.wtf_model.proofs.{Growth.len-session_after, ItemLaws.get-each, ItemLaws.get-each_none, ItemLaws.get-each_some, ItemLaws.is_among-bodies}
pub use Rattle.wtf_model.proofs.{JobLaws.plan-taken, Laws.answers_from-push, Laws.get-number_other, Laws.get-number_same, ServerLaws.is_down-event}
pub use Rattle.wtf_model.proofs.{StepLaws.is_down-start, TreeLaws.same_or_other}
pub use Rattle.wtf_model.proofs.MachineLaws.{dropped-rest, put_in_place-rest, scanned-rest, scanning-rest, with_job-rest}
pub use Rattle.wtf_kv.specs.Order.{IsNextKey, IsReached, has_version, is_before, is_past, left_from}
pub use Rattle.wtf_kv.specs.{Seen.has_any, Seen.value_seen}
pub use Rattle.wtf_kv.proofs.{KeptLaws.kept_value, KeptLaws.pruned_kept, KeyLaws.left_less, KeyLaws.reached}
pub use Rattle.wtf_log.specs.{Calls.with_call}
pub use Rattle.wtf_log.proofs.{StandingLaws.OpsStandFor-form, StandingLaws.OpsStandFor-length}
pub use Rattle.wtf_replica.specs.{Bytes.shown_byte, Bytes.told_by}
pub use Rattle.wtf_replica.proofs.{Bytes.byte_at-within, Bytes.told_inside}
pub use Rattle.wtf_values.specs.{Keys.same_key, Names.no_names, declared.key.Key.TheVariants.Dir}
pub use Rattle.wtf_values.proofs.{KeyLaws.key_total}
pub use Rattle.wtf_meta.specs.{Calls.Caller, FileEdits.HasFile, FileEdits.IsLast, Lists.Lists, Sessions.Holds, Trees.IsFirst, Trees.NamesAt, Trees.count_of}
pub use Rattle.wtf_meta.proofs.{Standing.leads-paths, Starting.stands-first}
pub use Rattle.wtf_region.specs.{Cached.AreFrom, Cached.CacheInside, Inside.is_place_inside}
pub use Rattle.wtf_region.proofs.{Frames.CacheInside-on, Frames.CacheTrue-on, InsideLaws.place_to}
pub use Rattle.wtf_gc.specs.{Frees.AreGarbage, Frees.AreZeroed, Named.list_has, Parts.NamedIn, Parts.key_stands_in, Views.empty_scan, Views.length_in}
pub use Rattle.wtf_gc.specs.{Views.new_gc}
pub use Rattle.wtf_compact.specs.{Putting.IsInPlace}
pub use Rattle.wtf_compact.proofs.{PutLaws.put_stands}
pub use Rattle.wtf_image.specs.{Images.HasText, Kept.IsKept, Loading.AreSettingsOf, Loading.IsTaken, Outcome.IsLoadOf, Savable.IsSavable, Shapes.IsImage}
pub use Rattle.wtf_image.specs.{Tables.shown, Texts.image_text, declared.loads.Loaded.Loaded}
pub use Rattle.wtf_image.specs.Lookups.{place_cmp, plain, plain_region, region_at, region_entries, region_entry, row_at}
pub use Rattle.wtf_image.specs.Rows.{BaseRow, EntryRow, FileRow, ImageRows, RegionRow, base_row, entry_rows, part_row}
pub use Rattle.wtf_image.specs.Rules.{are_inside, is_base_inside, is_file_inside, is_part_inside, is_region_inside, lies_inside}
pub use Rattle.wtf_image.specs.Saving.{Says}
pub use Rattle.wtf_image.proofs.{Forms.one_image, Forms.text_some, PlainLaws.same_optional, Said.before_of, Said.says_itself, SaveMap.is_kept, SaveMap.says_all}
pub use Rattle.wtf_image.proofs.{SaveTree.some_value, SeedLaws.find-both, StandsLaws.stands_savable}
pub use Rattle.wtf_replay.specs.{Fits.IsLog, Tried.IsFinal, Views.is_full, Views.is_txn_live}
pub use Rattle.wtf_replay.proofs.{Deviating.answers_from-take, Deviating.at_base, Trying.final_ran}
pub use Rattle.wtf_clients.specs.{Asked.Lending, JobTurns.PlanRefused, JobTurns.PlansSoundly, Named.ListedBytes, Outcomes.load_of, Views.unsaved}
pub use Rattle.wtf_clients.specs.Keeping.{Hands, HasSaved, HoldsKept, IsHeldBy, IsImageAt, KeeperFailed, KeeperSpan, KeeperTurn, SyncFailed, keeper_span}
pub use Rattle.wtf_clients.specs.Turns.{Aborts, Calls, Finishes, GivesUp, LoneTurn, Replays, StepFails, TxnTurn}
pub use Rattle.wtf_clients.proofs.{Added.added_off, Added.sizes_grow, Alike.ShowsAlike, Alike.alike_stand, Caused.none_added, Caused.none_placed}
pub use Rattle.wtf_clients.proofs.{Caused.plain_caused, Caused.plain_failed, Dumping.uncollected, Freeing.Freed, Freeing.collect_freed, Freeing.front_apart}
pub use Rattle.wtf_clients.proofs.{JobFrames.JobTurned, JobFrames.job_stands, JobKeeping.keeps_later, JobKeeping.known_later, JobPins.job_upto, JobPins.no_job}
pub use Rattle.wtf_clients.proofs.{KeptNames.none_owned, KeptNames.none_planned, KeptNames.rests_alone, Lacking.any_entries, Later.Stands-later}
pub use Rattle.wtf_clients.proofs.{Leaving.leaves_none, Lining.alike_same, Lists.sets_same, OffLaws.lists_in_same, OffStanding.listed_where}
pub use Rattle.wtf_clients.proofs.{OffStanding.stands_where, Pins.number_cases, Alike.pruned_stand, Punched.listed_apart, Punched.out_apart}
pub use Rattle.wtf_clients.proofs.{Punched.tells_punched, Punched.tried_among, SafeLaws.garbage_unnamed, SafeLaws.lie_on, SafeLaws.went_safe}
pub use Rattle.wtf_clients.proofs.{SaveServing.save_names, ScanLaws.kept_names, ScanLaws.start_safe, Soundness.added_cases, Soundness.begins_turned}
pub use Rattle.wtf_clients.proofs.{Soundness.commit_up, Soundness.ends_map, Soundness.ends_number, Soundness.ends_turned, Soundness.only_cases}
pub use Rattle.wtf_clients.proofs.{Soundness.retry_base, Soundness.retry_turned, Soundness.retry_tx, ToldLaws.tables_later, ToldLaws.tables_weaker}
pub use Rattle.wtf_clients.proofs.{ToldServing.all_stays, TouchLaws.has_none}
pub use Rattle.wtf_clients.proofs.Collected.{collect_apart, collect_image, collect_lie, collect_safe, collect_tables, collect_tells, collect_wide}
pub use Rattle.wtf_clients.proofs.Collected.{collect_within}
pub use Rattle.wtf_clients.proofs.Frames.{Turned, job_on, label_on, slot_on, stands_kept, stands_turned, txn_on, untouched_job, untouched_same}
pub use Rattle.wtf_clients.proofs.Images.{before_more, before_none, before_own, before_same, image_on, kept_pinned, none_in, some_of_none}
pub use Rattle.wtf_clients.proofs.JobTurning.{drop_reaches, drop_turned, drops_bytes, plan_reaches, plan_turned, put_reaches, put_turned, puts_bytes}
pub use Rattle.wtf_clients.proofs.Lives.{Reaches, added_kept, begun_reaches, ended_reaches, live_cases, live_upto, moved_reaches, now_bytes, number_live}
pub use Rattle.wtf_clients.proofs.Lives.{only_kept, pinned_live, same_kept, same_reaches, saved_reaches}
pub use Rattle.wtf_clients.proofs.Naming.{bytes_alone, bytes_set, ends_bytes, leaves_bytes, now_along, stays_bytes, txn_along}
pub use Rattle.wtf_clients.proofs.PutFeet.{put_map, put_own, put_since, put_touched, stale_met}
pub use Rattle.wtf_clients.proofs.ScanFrames.{does_reads, does_sound, same_maps, start_maps, start_reads, start_sound}
pub use Rattle.wtf_clients.proofs.ScanMays.{collect_may, collect_stands, piece_may, piece_stands, scan_may, scan_stands}
pub use Rattle.wtf_clients.proofs.Scanning.{later_safe, piece_safe, piece_tells, pruned_keeps, pruned_live, pruned_safe, pruned_tells, tells_after}
pub use Rattle.wtf_clients.proofs.SinceLaws.{none_moved, retry_met, since_installed, since_kept, since_none, tidied_moved, touched_base, touched_installed}
pub use Rattle.wtf_clients.proofs.SinceLaws.{touched_kept}
pub use Rattle.wtf_clients.proofs.StampLaws.{Ages, FreshJob, FreshTxn, KeptJob, KeptTxn, stamps_on}
pub use Rattle.wtf_clients.proofs.Staying.{IsFault, fault_is, goes_turned, keeps_stays, stays_stand}
pub use Rattle.wtf_clients.proofs.Wents.{abort_went, attempt_went, begin_went, drop_went, put_went, save_went, tidy_went}
pub use Rattle.wtf_core.specs.{Answers.IsEvent, Copied.holds_memory, Ended.LineEnds, Ended.LineMade, Loading.IsCoreOf, Made.IsCoreMade, Named.CoreBytes}
pub use Rattle.wtf_core.specs.{Named.IsBareCore, Named.IsInside, Remembering.KeepsLists, Remembering.KeepsPunched, Standing.IsSmall, Standing.StandsFor}
pub use Rattle.wtf_core.specs.{Views.CoreView, Views.KnowsLists, Views.lent_of}
pub use Rattle.wtf_core.specs.Lent.{IsUnpunching, TablesDone, TablesLine, TablesTold, TablesTurn, is_of_tables}
pub use Rattle.wtf_core.specs.Pictured.{HoldsTaken, HoldsTree, HoldsWith, IsBareImage, IsImageFor, IsImageOfOne, IsImageOfTree, IsImageWith, IsTakenFor}
pub use Rattle.wtf_core.specs.Promises.{CoreDoes, CoreFails, CoreGoesOn, CoreLeaves, CoreStays, GoesOnTold, IsLeftBy, KeepsImage, LeavesNamed, Obeys, Scene}
pub use Rattle.wtf_core.specs.Promises.{scene}
pub use Rattle.wtf_core.specs.Punched.{AreFreed, ArePunchedBy, CorePunches, CountsAs, IsUncollected}
pub use Rattle.wtf_core.specs.Quiet.{AreIdle, FoundOnlyKept, HasBegun, HasCollected, HasScanned, HasScans, ImageNames, IsAtRest, IsAtStage, IsBegun, IsIdle}
pub use Rattle.wtf_core.specs.Quiet.{IsIdleAt, IsKeptByte, IsScanned, KeptNames, LeavesKept, MapNames, PartsName, Saved, Scanned, ScannedTwice, Scans}
pub use Rattle.wtf_core.specs.Quiet.{ScansAgain, Stage, WatchesNoOther, is_watched, next_stage, stage_begun, stage_done}
pub use Rattle.wtf_core.specs.Rows.{IsShown, ShownPaths, entries_of, map_now, path_cmp, shown_at, shown_below, shown_value, with_row}
pub use Rattle.wtf_core.specs.Telling.{GoesOnQuietly, IsToldLine, IsWide, IsWithin, KeepsImages, ServesTurn, TellsCore, ToldPiece, stores_of}
pub use Rattle.wtf_core.specs.Turns.{IsByDevices, IsLine, IsTreeAnswer, LineTurn, ServerTurn, ShowsTree, Switches, takes_no_memory}
pub use Rattle.wtf_clients.proofs.Common.{Aborted', AddsBytes, All, All-cons, All-head, All-meaning, All-nil, All-tail, All-weaker, Answer, AreBased, AreBefore}
pub use Rattle.wtf_clients.proofs.Common.{AreFull, AreSound, AreTrue, AreUp, AreUpto, AreWide, AreWithin, BaseBytes, Begins, BesideView, BodyOf, CacheTrue}
pub use Rattle.wtf_clients.proofs.Common.{CallFails, ClientTurn, Clients, CollectTurn, CollectsSome, Commits, Contains, Contains-append_left, Contains-push}
pub use Rattle.wtf_clients.proofs.Common.{Contains-push_cases, CountsFreed, Dev, DoesTurn, DropTurn, Drops, DropsJob, EachFollows, Ends, Entry, EntryBytes}
pub use Rattle.wtf_clients.proofs.Common.{Equal, Event, Extent, Extents, Fault, Feet, File, Finals, Finds, Folder, FreePlan, GcView, GoesOn, Greater, Has}
pub use Rattle.wtf_clients.proofs.Common.{HasKinds, HasLength, Held, HoldsOfAdded, IfOk, InTx, Inode, InodeId, IsAlike, IsBaseFault, IsDone, IsFit, IsImageTree}
pub use Rattle.wtf_clients.proofs.Common.{IsIn, IsJobPut, IsLogged, IsPieceFault, IsPlain, IsReadFault, IsRing, IsSafe, IsSoundDev, IsStale, IsTidied, IsTrue}
pub use Rattle.wtf_clients.proofs.Common.{Item, Job, JobInUse, JobKind, JobView, KeepsMaps, KeepsOthers, KeepsRegion, KeepsStore, KeepsVersions, Key, KindLaws}
pub use Rattle.wtf_clients.proofs.Common.{LeadsTo, LeavesAlone, Less, LieIn, LiesOn, Links, List, ListSlices, Load, LogStands, MAX_REGIONS, Machine, Map}
pub use Rattle.wtf_clients.proofs.Common.{MapBytes, MatchOption, MayFail, MayFailPlan, MayFailRead, MaybeBytes, NamesNone, NamesTables, NoJob, NoScan, NoServer}
pub use Rattle.wtf_clients.proofs.Common.{NoTx, NodeAt, None, OnErr, One, Op, Option, Ordering, OwnBytes, Part, PartBytes, Path, PieceFails, PieceTurn}
pub use Rattle.wtf_clients.proofs.Common.{PlanFails, PlanTurn, Plans, Pointer, PutTurn, Puts, Range, ReadsTold, Refuses, RefusesJob, Region, RegionBytes}
pub use Rattle.wtf_clients.proofs.Common.{RegionValue, Remembered, Result, Retries, Rose, RunView, SameLengths, SameSyncs, SaveTurn, Saves, ScanBusy, ScanTurn}
pub use Rattle.wtf_clients.proofs.Common.{ScanView, ScansStand, Seeing, ServesEvent, ServesLine, ServesTold, Sets, SetsClientAlone, Settings, SinceBase, Slice}
pub use Rattle.wtf_clients.proofs.Common.{Some, Span, Spill, StampsStand, Stands, StandsForJob, StandsForLabel, StandsForSlot, StandsForTxn, StartsTurn}
pub use Rattle.wtf_clients.proofs.Common.{StepTurn, Store, StoreKind, SyncsNone, T, TablesBytes, TablesStand, TablesStay, TablesView, TellLists, TellsAll}
pub use Rattle.wtf_clients.proofs.Common.{TellsOn, TellsTables, TellsWhere, Three, Told, Touched, Transaction, Tree, TreeNode, Tries, TryTurn, Two, TxnBytes}
pub use Rattle.wtf_clients.proofs.Common.{TxnView, Value, ValueBytes, Verb, Went, Word, Zero, [], above, all_kept, all_owned, all_seen, all_watched, and_from}
pub use Rattle.wtf_clients.proofs.Common.{and_parts, answers_of, any-count, any_byte, any_slice, ap, are_apart, arith, base_has, begun, below_all, between}
pub use Rattle.wtf_clients.proofs.Common.{both_ways, byte_at, byte_at-kept, call_refusal, caller_at, cap_for, cases_Bool, cases_lt, cond, cond-false, cond-true}
pub use Rattle.wtf_clients.proofs.Common.{count-any, count-push, count_by, each_same, entries, entries_sorted, eq-eqb, eq_by_cmp, eqb-true, extents_cover}
pub use Rattle.wtf_clients.proofs.Common.{false, false≢true, fault_answer, find, get, get-entries, get_or, goes_nowhere, goes_on, has_copies, has_list}
pub use Rattle.wtf_clients.proofs.Common.{if◌then◌else◌, inl, inr, inside_of, inside_stays, is_below, is_down, is_down_in, is_eq, is_garbage, is_inside}
pub use Rattle.wtf_clients.proofs.Common.{is_listed, is_live, is_lt, is_pinned, is_region_key, is_some, is_sorted, is_told, is_told-later, job_edits}
pub use Rattle.wtf_clients.proofs.Common.{kept_region, key_cmp, last_scan, last_seen, le-leb, le-ltb, leb-true, len_of, lending, length, length_push, lent_by}
pub use Rattle.wtf_clients.proofs.Common.{lie_in, lies_apart, lies_in, line_asked, list_any, lists_have, lists_in, lists_in-later, lt-ltb, ltb-true, map}
pub use Rattle.wtf_clients.proofs.Common.{map_stays, mark_of, meets, metadata_at, metadata_now, min, mod_below, nat_cmp, ne_eqb, next_parts, no_jobs, no_load}
pub use Rattle.wtf_clients.proofs.Common.{no_slice, not-true, nothing_kept, of_client, of_label, off, only_image, option_map, or_cases, or_left, or_none}
pub use Rattle.wtf_clients.proofs.Common.{or_right, own_has, part_has, part_of, place_in, plan_due, pointer_has, pointers-len, pointers_of, pointers_to}
pub use Rattle.wtf_clients.proofs.Common.{punched_on, reads_nothing, reads_of, rebased, refl, region_has, region_of_bytes, remembered, root_alone, run_on}
pub use Rattle.wtf_clients.proofs.Common.{scan_of, scanned, scanning, seeing, seen, shown_in, size_in, size_in-at, slice_get_past, slice_has, slice_index_or}
pub use Rattle.wtf_clients.proofs.Common.{sound_later, source_reads, span, step_refusal, stores, subst, suc, sym, take, take-length, target_region}
pub use Rattle.wtf_clients.proofs.Common.{tells_all-kept, tells_on, tells_slice, times_pinned, told_byte, told_in, touch, touch_job, tried_on, true≢false}
pub use Rattle.wtf_clients.proofs.Common.{try_refusal, under_has, unwrap_or, value_among, version_of, versions_of, was_job, with, with_bytes, with_finished}
pub use Rattle.wtf_clients.proofs.Common.{with_gc, with_image, with_ranges, with_run, writes_of, zero, ℕ, ⊎_elim, ⊤, ◌&&◌, ◌*◌, ◌++◌, ◌+◌, ◌<◌, ◌==◌, ◌>>=◌}
pub use Rattle.wtf_clients.proofs.Common.{◌^◌, ◌∙◌, ◌∷◌, ◌≡◌, ◌≢◌, ◌≤◌}
