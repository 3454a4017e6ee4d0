-- The names that the proofs of this library cite of others and of its specs, passed on from one place. Declares nothing.
pub use Rattle.applications.proofs.Counting.{ending-next, ending-past, over-goes_on, steps-next, steps-past}
pub use Rattle.applications.proofs.Elsewhere.{launched-elsewhere, sizes-fresh, step-elsewhere}
pub use Rattle.applications.proofs.Quits.{end-elsewhere, ending-told}
pub use Rattle.applications.proofs.Runs.{keeps_promises}
pub use Rattle.applications.specs.Alone.{Ending, alone, ended_by, ending, ending_of, files_after, first_steps, heap_alone, quits}
pub use Rattle.applications.specs.Alone.{script_heap, stops}
pub use Rattle.applications.specs.Application.{line_told, lines_told}
pub use Rattle.applications.specs.Elsewhere.{course_elsewhere, moved}
pub use Rattle.applications.specs.Promises.{KeepsPromises}
pub use Rattle.applications.specs.Replies.{Came, Extends, end_by, end_if, exit_as, exit_of, has_ended}
pub use Rattle.applications.specs.Reports.{report, reports}
pub use Rattle.applications.specs.Step.{Course, Shown, is_wait, joined, step, unless_over}
pub use Rattle.applications.specs.Trying.{Blocks, is_fatal, last_code, launched_with, nowhere, own_resources}
pub use Rattle.applications.specs.declared.quitting.Exit.{Exit}
pub use Rattle.applications.specs.declared.quitting.Exit.TheVariants.{Quits, Stops}
pub use Rattle.block_store.specs.Block.{Block, fresh, sizes}
pub use Rattle.block_store.specs.Rest.{Site}
pub use Rattle.block_store.specs.Slot.{Slot}
pub use Rattle.desk.specs.Alone.{IsAsAlone, IsPlaceOf, LeftAsAlone, RunsAsAlone, launched_alone}
pub use Rattle.desk.specs.Desk.{Place, State, acted_at, acted_in, after_event, after_events, any_runs, begun_if, begun_in, begun_with}
pub use Rattle.desk.specs.Desk.{coming, each_turned, end_told, launch_answer, launch_reply, launched_at, launched_by, launched_in, left_by}
pub use Rattle.desk.specs.Desk.{longest, longest_or, outcome_of, place_come, places_acted, ready, reply_at, rested, round, rounds}
pub use Rattle.desk.specs.Desk.{size_granted, told, windows_after}
pub use Rattle.desk.specs.Free.{FreeThrough, IsFree, IsNeverGranted, StaysFree}
pub use Rattle.desk.specs.Halting.{Goes, Halt, HaltsAfter, IsLeft, WithinAct, WithinAt, WithinEvent, WithinOf, WithinPhase, WithinPlace}
pub use Rattle.desk.specs.Halting.{WithinPlaces, WithinRound, WithinRounds, WithinTurn, WithinTurns, WroteForks, halted}
pub use Rattle.desk.specs.Held.{AllMade, AreHoused, Fewer, IsHeld, MadeOf, closed, holders, left_window, one_of, opened, some_of, sum}
pub use Rattle.desk.specs.Job.{file_given, opening, place_given, start_of}
pub use Rattle.desk.specs.Live.{Lot, live_seen}
pub use Rattle.desk.specs.Lying.{AllLie, IsHeapOf, IsZone, LieAfter, LieAs, LieAtEnd, LiesAt, LiesOf, Lying}
pub use Rattle.desk.specs.Outcome.{AppResult, Launched, Outcome, fork_told, forks_of, forks_told, outcome_told, steps_of, steps_shown}
pub use Rattle.desk.specs.Phase.{Coming, Ended, Ends, GoesOn, Left, Live, Next, Phase, Running, Waiting, acted, acted_by, after_course}
pub use Rattle.desk.specs.Phase.{and_then, begun, called, come_by, ends, leaves, quitted, run_out, runs, step_of, stepped, told_of}
pub use Rattle.desk.specs.Phase.{turn_through, turned, waits, window_of}
pub use Rattle.desk.specs.Ready.{IsReady, sizes_seen}
pub use Rattle.desk.specs.Sizes.{Sizes, sizes_asked}
pub use Rattle.desk.specs.View.{DeskSeen, is_waiting, left_of, lot_of, lots, outcome_seen, phase_seen, place_seen, seen, told_seen}
pub use Rattle.desk.specs.Whole.{EachLaunched, InItsSteps, IsAlone, Law, OfEach, OfEachApp, OfLaunched, start_with, system_of}
pub use Rattle.desk.specs.declared.job.App.{App}
pub use Rattle.desk.specs.declared.job.Job.{Job}
pub use Rattle.desk.specs.declared.outcome.AppOutcome.{AppOutcome}
pub use Rattle.desk.specs.declared.partition.OpenZone.{OpenZone}
pub use Rattle.desk.specs.declared.seat.Seat.{Seat}
pub use Rattle.fork_format.proofs.Codes.{refused}
pub use Rattle.fork_format.specs.Content.{Content}
pub use Rattle.fork_format.specs.View.{view}
pub use Rattle.heap_calls.specs.Stored.{IsStored}
pub use Rattle.heap_calls.specs.declared.refusal.Refusal.{Refusal}
pub use Rattle.heap_calls.specs.declared.refusal.Refusal.TheVariants.{Code}
pub use Rattle.mac_words.proofs.Appending.{known-append, known-nil}
pub use Rattle.mac_words.proofs.Plain.{on_err}
pub use Rattle.mac_words.specs.declared.code.OsErr.{OsErr}
pub use Rattle.mac_words.specs.declared.code.TheConstants.OsErr.{MEM_FULL}
pub use Rattle.memory_windows.proofs.Listed.{All-without_window, length-with_window}
pub use Rattle.memory_windows.proofs.Ordered.{apart-taken_out, contains-counted, length-taken_out, none-counted, one-itself, times-put_in}
pub use Rattle.memory_windows.proofs.Ordered.{times-taken_out}
pub use Rattle.memory_windows.specs.Outside.{IsOutside, IsOutsideAll}
pub use Rattle.memory_windows.specs.Windows.{InOrder, IsApart, Misses, put_in, taken_out}
pub use Rattle.memory_windows.specs.Writes.{written}
pub use Rattle.memory_windows.specs.declared.Window.{Window}
pub use Rattle.partitions.proofs.Order.{given_back}
pub use Rattle.partitions.specs.Grant.{grant}
pub use Rattle.partitions.specs.Granted.{granted-order}
pub use Rattle.raw_region.proofs.WholeWindow.{whole_home, whole_there}
pub use Rattle.raw_region.specs.Memory.{Whole}
pub use Rattle.raw_zone.specs.Making.{LiesIn}
pub use Rattle.raw_zone.specs.Parted.{zone_of}
pub use Rattle.raw_zone.specs.declared.region_zones.RegionZones.{RegionZones}
pub use Rattle.res_calls.specs.Files.{Resources}
pub use Rattle.res_calls.specs.View.{view_file}
pub use Rattle.script_text.specs.DeskLog.{end_of, launch_of, refusal_of}
pub use Rattle.script_text.specs.Script.{ScriptParts}
pub use Rattle.script_text.specs.Transcript.{end_line, launch_line}
pub use Rattle.script_text.specs.declared.desk_log.TheConstants.{APP_ROOM}
pub use Rattle.script_text.specs.declared.job.Act.{Act}
pub use Rattle.script_text.specs.declared.job.Act.TheVariants.{Quit, Step, Turn}
pub use Rattle.script_text.specs.declared.job.Event.{Event}
pub use Rattle.script_text.specs.declared.script.Line.{Line}
pub use Rattle.std.proofs.Common.{Bool, Err, IfOk, IfSome, List, None, Ok, Option, Result, Some, [], ap, append-nil, append_assoc, arith}
pub use Rattle.std.proofs.Common.{cond, drop, false, get_or, inl, inr, length, map, max, option_map, refl, remove, rules, slice_get}
pub use Rattle.std.proofs.Common.{slice_index_or, slice_set, subst, suc, sym, take, true, zero, ℕ, ◌++◌, ◌+◌, ◌-◌, ◌<◌, ◌||◌, ◌∙◌, ◌∷◌, ◌≡◌}
pub use Rattle.std.proofs.Common.{◌≢◌, ◌≤◌, ◌⊎◌}
pub use Rattle.std.proofs.Math.Nat.{le-max_left, le-max_right}
pub use Rattle.std.proofs.Math.Seq.{map-set_same}
pub use Rattle.std.proofs.lemmas.Bool.{eqb-true, le-ltb}
pub use Rattle.std.proofs.lemmas.List.{at_drop_more, drop_all, length-append, length-map, map-append, map-set, map_more, nil_from_length}
pub use Rattle.std.proofs.lemmas.List.Concat.{flat_map-append}
pub use Rattle.std.proofs.lemmas.List.Elements.{All-contains}
pub use Rattle.std.proofs.lemmas.Option.{get_or_from_slice_get, slice_get-map, slice_get_cases, slice_get_past, slice_get_read}
pub use Rattle.std.proofs.lemmas.Option.{slice_get_within}
pub use Rattle.std.proofs.lemmas.Result.{IfErr-weaker, IfOk-weaker, on_err_weaker, on_ok_weaker}
pub use Rattle.std.specs.Borrow.{Bor}
pub use Rattle.std.specs.Io.KnownBytes.{append_known}
pub use Rattle.std.specs.List.{Contains, flat_map, list_any}
pub use Rattle.std.specs.Option.{ok_or}
pub use Rattle.std.specs.Prelude.{IsOk, OnErr, OnOk, is_ok, vec_len}
pub use Rattle.std.specs.Slice.{IsItemAt}
pub use Rattle.std.specs.Vec.{vec_capacity}
pub use Rattle.zone_bytes.specs.Laid.{LaysOut, LiesThere}
