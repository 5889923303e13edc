-- The names of specs and of the crates below that the proofs here cite, passed on from one place. Declares nothing.
pub use Rattle.std.proofs.Common.{IfErr, IfOk, List, None, OnErr, Option, Result, Some, T, [], add-one, ap, append-nil, arith, cond, count_by, drop, false}
pub use Rattle.std.proofs.Common.{get_or, inl, inr, is_some, length, map, min, nat_eq, nat_le, refl, set, slice_get, subst, suc, sym, take, zero, zero-add, ℕ}
pub use Rattle.std.proofs.Common.{⊎_elim, ◌%◌, ◌&&◌, ◌*◌, ◌++◌, ◌+◌, ◌/◌, ◌<◌, ◌==◌, ◌^◌, ◌||◌, ◌∙◌, ◌∷◌, ◌≡◌, ◌≢◌, ◌≤◌, ◌⊎◌}
pub use Rattle.indexmap.proofs.{CallerLemmas.insert_entry-new}
pub use Rattle.std.specs.{FinMap.entries, FinMap.entries_sorted, FinMap.get, FinMap.get-entries, FinMap.Entries.below_all, FinMap.Entries.find}
pub use Rattle.std.specs.{FinMap.Entries.is_sorted, HashMap.HashMap, HashMap.WritesThrough, Map.remove_entry, Map.set_value, Map.values_of}
pub use Rattle.std.specs.{Option.option_copied_mut, Option.option_map, Option.unwrap_or, Ordering.eq_by_cmp, Ordering.is_eq, Ordering.is_lt, Ordering.nat_cmp}
pub use Rattle.std.specs.{Set.remove_key, declared.cmp.Ordering.Ordering, declared.cmp.Ordering.TheVariants.Equal, declared.cmp.Ordering.TheVariants.Greater}
pub use Rattle.std.specs.{declared.cmp.Ordering.TheVariants.Less}
pub use Rattle.std.specs.List.{All, Contains, filter, list_any, sum_by}
pub use Rattle.std.specs.Prelude.{Bool, Err, IfSome, IsSome, IsTrue, MatchOption, Ok, if◌then◌else◌, nat_lt, not, slice_index_or, true, ⊤, ◌-◌}
pub use Rattle.std.proofs.{Math.Seq.take-append_seam, Math.Seq.take-length, Math.Seq.take-suc, lemmas.Cmp.nat_cmp_total, lemmas.Cmp.ranked}
pub use Rattle.std.proofs.{lemmas.Cmp.tied_itself, lemmas.Grind.same_number_lists, lemmas.List.Folds.list_any-append, lemmas.List.Sums.AllPass-from_list_all}
pub use Rattle.std.proofs.{lemmas.List.Sums.sum_by-append, lemmas.List.Sums.sum_by-cons, lemmas.List.Sums.sum_by-set, lemmas.Map.Entries.sum_by-remove_entry}
pub use Rattle.std.proofs.{lemmas.Map.Entries.sum_by-set_value, lemmas.Map.Steps.set_value_same, lemmas.Nat.div-mul-add, lemmas.Nat.mod_below}
pub use Rattle.std.proofs.{lemmas.Option.slice_get_past}
pub use Rattle.std.proofs.lemmas.Bool.{and_from, and_parts, both_ways, cases_Bool, cases_eq, cases_lt, cond-false, cond-true, eq-eqb, eqb-true}
pub use Rattle.std.proofs.lemmas.Bool.{false_from_ne_true, false≢true, le-leb, le-ltb, leb-true, lt-ltb, ltb-false, ltb-true, ne_eqb, not-true, or_cases}
pub use Rattle.std.proofs.lemmas.Bool.{or_from, or_left, or_parts, or_right, true≢false}
pub use Rattle.std.proofs.lemmas.List.{get_or_past, length-map, length_push, set-get_or, set-set, take-append-drop}
pub use Rattle.std.proofs.lemmas.List.Elements.{All-cons, All-head, All-map, All-nil, All-pop, All-push, All-tail, All-weaker, Contains-append_cases}
pub use Rattle.std.proofs.lemmas.List.Elements.{Contains-append_left, Contains-append_right, Contains-push, Contains-push_cases}
pub use Rattle.wtf_base.specs.{Extents.IsSound, Extents.pointers_to, Places.place_in, Places.places_of, Slices.len_of, Slices.pointers_of}
pub use Rattle.wtf_base.specs.declared.{fault.Fault.Fault, ids.InodeId.InodeId, ids.ServerId.ServerId, kept.Kept.Kept, memory.OutOfMemory.OutOfMemory}
pub use Rattle.wtf_base.specs.declared.{pointer.Pointer.Pointer, settings.Settings.Settings, slice.Extents.Extents, slice.Extents.TheVariants.One}
pub use Rattle.wtf_base.specs.declared.{slice.Extents.TheVariants.Three, slice.Extents.TheVariants.Two, slice.Slice.Slice}
pub use Rattle.wtf_base.proofs.{Pointers.pointers-len}
pub use Rattle.wtf_dev.specs.{Counts.Rose, Each.EachFollows, Each.on_server, Store.KindLaws, Store.Outside, Store.Range, Store.StoreKind, Sums.TellsAll}
pub use Rattle.wtf_dev.proofs.{Each.each_on, Each.each_same, Sums.tells_all-kept}
pub use Rattle.wtf_ring.specs.{Points.IsRing, Points.PlaceView}
pub use Rattle.wtf_overlay.specs.{Clips.clip_list, Lengths.HasLength, Meaning.meaning, Spilled.decoded, Spilled.encoded}
pub use Rattle.wtf_overlay.specs.Origin.{Place, origin, part_origin, pieces_len, pieces_origin}
pub use Rattle.wtf_overlay.specs.declared.{part.Entry.Entry, part.Part.Part, part.Part.TheVariants.Held, part.Part.TheVariants.Zero, part.Piece.Piece}
pub use Rattle.wtf_overlay.proofs.{Meanings.All-meaning, Meanings.meaning-All}
pub use Rattle.wtf_model.specs.Items.{is_among, meets, reads_of, source_reads, writes_of}
pub use Rattle.wtf_model.specs.{Jobs.MayFailPlan, Jobs.last_region, Machines.Machine, Transaction.Job, Transaction.Transaction, Transaction.answers_of}
pub use Rattle.wtf_model.specs.Lawful.{IsDone, IsReadFault, May, MayFail, MayFailRead, dumped, is_short, or_refusal}
pub use Rattle.wtf_model.specs.Scans.{MayCollect, MayFailPiece, client_or_job, collect_refusal, earlier, held_by, lowest, open_stamps, or_held}
pub use Rattle.wtf_model.specs.Scans.{piece_answer, was_open}
pub use Rattle.wtf_model.specs.Steps.{IsLogged, scanned, scanning, touch, touch_job}
pub use Rattle.wtf_model.specs.Tree.{Dir, File, PathSet, Tree, TreeNode, bytes_of, root_alone, ◌>>=◌}
pub use Rattle.wtf_model.specs.declared.{answer.Answer.Aborted', answer.Answer.Answer, answer.Word.Word, answer.Word.TheVariants.InTx}
pub use Rattle.wtf_model.specs.declared.{answer.Word.TheVariants.IsDir, answer.Word.TheVariants.JobInUse, answer.Word.TheVariants.Long}
pub use Rattle.wtf_model.specs.declared.{answer.Word.TheVariants.NoEnt, answer.Word.TheVariants.NoJob, answer.Word.TheVariants.NoRegion}
pub use Rattle.wtf_model.specs.declared.{answer.Word.TheVariants.NoScan, answer.Word.TheVariants.NoServer, answer.Word.TheVariants.NoTx}
pub use Rattle.wtf_model.specs.declared.{answer.Word.TheVariants.ScanBusy, event.Event.Event, event.Holder.Holder, event.Verb.Verb, item.Item.Item}
pub use Rattle.wtf_model.specs.declared.{item.Item.TheVariants.BodyOf, item.Item.TheVariants.LinksOf, item.Item.TheVariants.NamesOf}
pub use Rattle.wtf_model.specs.declared.{item.Item.TheVariants.NodeOf, limits.TheConstants.MAX_DUMPED, limits.TheConstants.MAX_JOBS}
pub use Rattle.wtf_model.specs.declared.{limits.TheConstants.MAX_REGIONS, limits.TheConstants.SCAN_PARTS, op.JobKind.JobKind, op.JobKind.TheVariants.Compact}
pub use Rattle.wtf_model.specs.declared.{op.Op.Op}
pub use Rattle.wtf_model.proofs.ItemLaws.{is_among-head, is_among-left, is_among-right, is_among-tail, meets-by}
pub use Rattle.wtf_model.proofs.{ScanLaws.piece_done, ScanLaws.piece_due, ScanLaws.piece_more, ScanLaws.scan_due}
pub use Rattle.wtf_occ.specs.{Attempts.Attempted, Tries.key_in_the_way}
pub use Rattle.wtf_kv.specs.{Edits.after_changes, Edits.any_touches, Edits.makes_version, Edits.versions_with, declared.changes.Change.Change}
pub use Rattle.wtf_kv.specs.Seen.{is_kept, is_reported, kept_versions, last_seen, number_seen, reported, upto}
pub use Rattle.wtf_kv.specs.Stores.{IsPinnedOnceMore, Store, is_live, is_pinned, map_at, times_pinned, version_of, versions_in, versions_of}
pub use Rattle.wtf_kv.proofs.{EditLaws.Agree-itself, KeptLaws.among_any, KeptLaws.seen_among, KeptLaws.value_among, PinLaws.any-count, PinLaws.count-any}
pub use Rattle.wtf_kv.proofs.{PinLaws.count-push}
pub use Rattle.wtf_log.specs.{Calls.Calls, Calls.own_of, Standing.OpsStandFor}
pub use Rattle.wtf_log.proofs.{StandingLaws.OpStandsFor-weaker}
pub use Rattle.wtf_replica.specs.{Bytes.byte_at, Copies.GrowsOnce, Copies.IsNewCopy, Copies.IsStored, Downs.during, Downs.is_down, Inside.size_in}
pub use Rattle.wtf_replica.specs.{Outs.IsLeftDown, Outs.IsOut}
pub use Rattle.wtf_replica.specs.{Outs.SameFrom, Outs.SameLengths, Outs.SameSyncs, Spans.Span, Spans.span}
pub use Rattle.wtf_replica.specs.Faults.{AreAllOut, AreTooFew, IsPunchFault, last_server, punched_on}
pub use Rattle.wtf_replica.proofs.{Bytes.byte_at-kept, InsideLaws.size_in-at, Spans.each_kept, Spans.out_since}
pub use Rattle.wtf_values.specs.{Keys.key_cmp, Outcomes.outcome_of}
pub use Rattle.wtf_values.specs.declared.{key.Key.Key, key.Key.TheVariants.Inode, key.Key.TheVariants.Links, key.Key.TheVariants.Path}
pub use Rattle.wtf_values.specs.declared.{key.Key.TheVariants.Region, region.RegionValue.RegionValue, region.Spill.Spill, value.Delta.Delta, value.Node.Node}
pub use Rattle.wtf_values.specs.declared.{value.Node.TheVariants.Folder, value.Value.Value}
pub use Rattle.wtf_meta.specs.{Appends.length_keys, FileEdits.edits_of, FileEdits.file_of, FileEdits.region_of, NameEdits.node_of}
pub use Rattle.wtf_meta.specs.{declared.session.Handle.Handle}
pub use Rattle.wtf_meta.specs.Bytes.{BaseBytes, DeltaBytes, EditsBytes, EntryBytes, FileBytes, ListSlices, ListsBytes, MapBytes, MaybeBytes, PartBytes}
pub use Rattle.wtf_meta.specs.Bytes.{PiecesBytes, RegionBytes, ValueBytes, any_slice, are_in}
pub use Rattle.wtf_meta.specs.Calls.{Fact, FactsBytes, InHand, TellFacts, cap_for}
pub use Rattle.wtf_meta.specs.Contents.{HasBytes, PiecesTell, SliceTells, TellBytes, Told, is_listed, is_told, list_has, lists_in}
pub use Rattle.wtf_meta.specs.Feet.{EachWritten, Feet, Has, ReadBy, WrittenBy}
pub use Rattle.wtf_meta.specs.Files.{FileView, IsFile, end_of, file_len, file_origin, region_origin}
pub use Rattle.wtf_meta.specs.Lists.{ListFact, TellLists, base_facts, or_none, region_facts, seen_list}
pub use Rattle.wtf_meta.specs.Maps.{AllFit, Edits, Map, metadata_at, seen, with}
pub use Rattle.wtf_meta.specs.Sessions.{SessionBytes, SessionView, at_label, handle_in, slice_in}
pub use Rattle.wtf_meta.specs.Trees.{IsBody, LeadsTo, NodeAt, Own, Stands}
pub use Rattle.wtf_meta.proofs.{FeetFiles.edits_are_of, FeetFiles.paths_kept, FeetLaws.read_in_the_way, FeetLaws.unfit-none, FeetLaws.written_at}
pub use Rattle.wtf_meta.proofs.{Labels.at_label_other, Labels.at_label_same, ListTests.entries_from, ListTests.has_list, ListTests.list_has-true}
pub use Rattle.wtf_meta.proofs.{MapBytes.with_bytes, Nodes.FileAt, Nodes.node-file, Nodes.node_of-is, Nothing.none_at, Nothing.nothing_kept, Standing.one_leads}
pub use Rattle.wtf_meta.proofs.Named.{file_bytes, pieces_named, plans_bytes, region_of_bytes, region_origin_bytes, region_slices}
pub use Rattle.wtf_meta.proofs.Telling.{TellBytes-later, TellLists-before, TellsOn, is_listed-later, is_told-later, lists_in-from, lists_in-is, lists_in-later}
pub use Rattle.wtf_meta.proofs.Telling.{meaning_later, region_later, told_byte, told_from, told_lists}
pub use Rattle.wtf_meta.proofs.Weaker.{base_stays, entries_stay, file_bytes_stay, map_stays, maybe_stays}
pub use Rattle.wtf_index.specs.{Checks.stands_at}
pub use Rattle.wtf_region.specs.{Apart.are_apart, Apart.lies_apart, Apart.lies_in, Apart.with_ranges, Bases.bases_in, Cached.CacheTrue, Cached.Remembered}
pub use Rattle.wtf_region.specs.{Cached.TrueBut, Inside.is_inside, Inside.list_lies_inside, declared.dev.Dev.Dev}
pub use Rattle.wtf_region.specs.Devs.{GoesOn, IsSoundDev, RemembersTrue, between, inside_of, is_down_in, remembered, shown_in, stores, told_in}
pub use Rattle.wtf_region.specs.Reads.{IsBaseFault, IsFileRead, IsRegionFault, IsSliceFault, LacksRegion, Recalls, TellsFacts}
pub use Rattle.wtf_region.specs.Showing.{AreReadable, IsShowFault, LacksPiece, OnlyRead, Shown, pieces_in}
pub use Rattle.wtf_region.proofs.{Frames.shows_told, InsideLaws.inside_stays, InsideLaws.list_inside-to, InsideLaws.readable_from, InsideLaws.slice_inside}
pub use Rattle.wtf_region.proofs.{Recalls.recalls_later, Recalls.recalls_same, Recording.still_seen, ShowLaws.reads_nothing, ShowLaws.shown_since}
pub use Rattle.wtf_region.proofs.{Spans.goes_nowhere, Spans.goes_on}
pub use Rattle.wtf_region.proofs.ListReads.{fetched_is, file_later, file_read_later, pieces_inside, some_bytes}
pub use Rattle.wtf_gc.specs.{Extents.extents_cover, Parts.Finds, Parts.IsIn, Parts.part_of, Parts.stands_in, Pinning.IsPinnedFor, Reading.PartLacksBase}
pub use Rattle.wtf_gc.specs.{Reading.PartsRead, declared.extent.Extent.Extent}
pub use Rattle.wtf_gc.specs.Frees.{AreApart, CountsFreed, FreesSome, IsCollectFault, LiesOn, lie_in, tried_on}
pub use Rattle.wtf_gc.specs.Named.{base_has, own_has, part_has, pointer_has, region_has, slice_has, under_has}
pub use Rattle.wtf_gc.specs.Scans.{AreHeld, DoesParts, IsPieceFault, IsPrunedFrom, next_parts, run_on, undone, with_finished, with_run}
pub use Rattle.wtf_gc.specs.Views.{GcView, RunView, ScanView, is_garbage, mark_in, mark_of}
pub use Rattle.wtf_gc.proofs.{Living.kept_region, Living.same_versions}
pub use Rattle.wtf_compact.specs.Jobs.{HasRegion, IsJobOf, JobView, job_edits, job_target, puts, region_in_map, target_region}
pub use Rattle.wtf_compact.specs.Planned.{GrowsByList, HasForm, IsPlanFault, IsPlanned, IsSpilled, IsUnstoredShort, KeepsRegion, LacksServers, SparesStores}
pub use Rattle.wtf_compact.specs.Planned.{StoresList, TellsRegion, spills}
pub use Rattle.wtf_compact.specs.{Putting.IsJobPut, Putting.IsStale, declared.target.Target.Target}
pub use Rattle.wtf_compact.proofs.{PutLaws.put_bytes}
pub use Rattle.wtf_steps.specs.{Faults.LacksBytes, Faults.MayStandFor, Faults.ShowPlaces, Leaving.LeavesStores, Recorded.found_in, Steps.IsRefusal}
pub use Rattle.wtf_steps.proofs.FaultWays.{All-middle, IsOfServers, file_fault_known, lacks_known, pieces_in-All, region_fault_known, servers_known, some_byte}
pub use Rattle.wtf_steps.proofs.{FileWays.file_len_cap}
pub use Rattle.wtf_image.specs.{Savable.AreBefore}
pub use Rattle.wtf_slicing.specs.{Ops.IsConcatFault, Ops.IsYankFault, Shown.LacksSlice}
pub use Rattle.wtf_rw.specs.{Ops.OwnBy, Ops.place_at, Ops.place_at_end, Reads.LacksRead, Stored.IsPutFault, Stored.SliceBytes}
pub use Rattle.wtf_replay.specs.{Built.call_data, Built.data_len, Called.IsCalled, Effects.Redoes, Effects.Scope, Effects.StopsAt, Effects.scope, Fits.IsFit}
pub use Rattle.wtf_replay.specs.{Installs.IsInstall}
pub use Rattle.wtf_replay.specs.{Keeps.LacksData, Refusals.call_refusal, Refusals.step_refusal, Refusals.try_refusal, Refusals.unmade}
pub use Rattle.wtf_replay.specs.Causes.{FaultAt, IsAgainFault, IsCallFault, IsCommitFault, IsOwnOf, IsPeekCause, IsReadCause, MayEndFault, MayFaultAt}
pub use Rattle.wtf_replay.specs.Causes.{ReplayFault, StoresNothing, fault_answer, grown_place}
pub use Rattle.wtf_replay.specs.Insides.{HandBytes, HaveNamed, IsInsideTxn, IsKnown, LogBytes, NamesNow, NamesTxn, TxnBytes, lists_have}
pub use Rattle.wtf_replay.specs.Replays.{IsEnded, IsStepped, IsTrueAttempt, IsTrueEnd, IsTrueStep}
pub use Rattle.wtf_replay.specs.Sounds.{IsAwayTxn, LogStands, TellsMap, caller_at, tells_slice}
pub use Rattle.wtf_replay.specs.Tried.{IsAttempted, KeepsMaps, KeepsPins, KeepsVersions, MovesPin, commit_from}
pub use Rattle.wtf_replay.specs.Verbs.{ActsAgain, CallOf, CommitOf, StartsNow, StartsSound, StepOf, Turn, turn}
pub use Rattle.wtf_replay.specs.Views.{TxnView, begun, hand_of, in_hand, rebased, untouched}
pub use Rattle.wtf_replay.proofs.{EffectLaws.redone_later, EffectLaws.stops_later, Froms.from_one, Insiding.inside_later, Insiding.map_later, Keeping.fit_after}
pub use Rattle.wtf_replay.proofs.{Later.Of}
pub use Rattle.wtf_replay.proofs.{Later.stands_later, Later.tells_all_on, Later.tells_on, Naming.again_weaker, Naming.named_inside, RwLaws.own_known}
pub use Rattle.wtf_replay.proofs.{RwLaws.own_told_of, RwLaws.told_slice, Sounding.sound_along, Sounding.sound_later}
pub use Rattle.wtf_clients.specs.Asked.{Asked, HasFailed, IsCallPlace, IsLent, IsPlaced, IsPlacedBy, LacksPunch, lending, lent_by, line_asked}
pub use Rattle.wtf_clients.specs.Dumped.{IsDumpAnswer, IsDumped, IsNoFile, IsShownFile, IsTrueFor, LacksDump, LacksFile, ReadsBases, dump_bases, dump_bases_of}
pub use Rattle.wtf_clients.specs.Dumped.{file_answer, file_bases}
pub use Rattle.wtf_clients.specs.JobTurns.{DropTurn, DropsJob, FreePlan, IsMadeOf, KeepsOthers, PlanFails, PlanTurn, Plans, PutTurn, Puts, RefusesJob, plan_due}
pub use Rattle.wtf_clients.specs.Leaving.{GrowsOnly, LeavesAlone, MakesNoCall, ReadsNoList, SyncsNone}
pub use Rattle.wtf_clients.specs.Lines.{Line, LineOf, TurnOf, lent_in, line, seen_in, through}
pub use Rattle.wtf_clients.specs.{Named.TablesBytes, Named.any_byte, Named.has_copies, Named.no_slice, Off.TellsWhere, Planning.has_region}
pub use Rattle.wtf_clients.specs.{Planning.plan_answer, Planning.refusal_at, Planning.refusal_of, Seeing.Recalled, Seeing.Seeing, Seeing.seeing}
pub use Rattle.wtf_clients.specs.Outcomes.{AddsBytes, AddsOnce, AddsThisList, AscendFrom, Data, Frees, HasCause, HasToStore, IsLost, IsNoList, IsUnread}
pub use Rattle.wtf_clients.specs.Outcomes.{IsUnspilled}
pub use Rattle.wtf_clients.specs.Outcomes.{Load, RegionList, SaveFault, SomeOut, data_of_op, last_of, load_of_job, no_load}
pub use Rattle.wtf_clients.specs.Safe.{AreUpto, FollowsJob, FollowsTxn, IsMissed, IsOwnJob, IsOwnTxn, IsSafe, LieIn, NamesNone, OwnBytes, Went, is_below}
pub use Rattle.wtf_clients.specs.Safe.{last_scan, off, scan_of}
pub use Rattle.wtf_clients.specs.Saves.{AreUp, HasImage, SaveTurn, Saves, only_image, with_image}
pub use Rattle.wtf_clients.specs.ScanTurns.{CollectTurn, CollectsAll, CollectsSome, DoesTurn, HoldsBack, IsLeast, IsPruned, IsScanHolder, KeepsBut, KeepsStore}
pub use Rattle.wtf_clients.specs.ScanTurns.{NoOldJob, NoneOld, PieceFails, PieceTurn, ScanTurn, SeesUpto, StartsTurn, is_old_job}
pub use Rattle.wtf_clients.specs.Serves.{AreBare, AreBased, AreFull, IsPlain, NamesTables, Serves, ServesEvent, ServesLine}
pub use Rattle.wtf_clients.specs.Sounds.{AreSound, IsAlike, IsOpen, IsTidied, Sets, SetsJob, all_kept, all_owned, all_planned, all_seen, all_watched, owned}
pub use Rattle.wtf_clients.specs.Sounds.{planned}
pub use Rattle.wtf_clients.specs.Standing.{HasKinds, IsImageTree, ScansStand, StampsStand, StandsForJob, StandsForLabel, StandsForSlot, StandsForTxn}
pub use Rattle.wtf_clients.specs.Standing.{TablesStand, is_region_key}
pub use Rattle.wtf_clients.specs.Telling.{AreWide, AreWithin, HoldsOfAdded, ListedBytes, ReadsTold, ServesTold, TellsTables}
pub use Rattle.wtf_clients.specs.Touched.{IsFileStill, NoneMoved, OwnStill, SinceBase, Touched, above}
pub use Rattle.wtf_clients.specs.Turns.{AreTrue, Begins, CallFails, ClientTurn, Commits, Drops, DumpReads, Dumps, Ends, Finals, ListsAreTold, ReadsLists}
pub use Rattle.wtf_clients.specs.Turns.{Refuses, Retries, SetsClientAlone, StepTurn, TablesStay, Tries, TryTurn}
pub use Rattle.wtf_clients.specs.Views.{BesideView, Clients, Jobs, TablesView, metadata_now, no_jobs, of_client, of_label, set_client, was_job, watching}
pub use Rattle.wtf_clients.specs.Views.{with_gc, with_jobs, with_labels, without_hand, without_hands}
