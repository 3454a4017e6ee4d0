-- The names that the proofs of this library cite of others and of its specs, passed on from one place. Declares nothing.
pub use Rattle.applications.specs.Alone.{Ending, alone, end_told, ending, ending_of, files_after, first_steps, has_quit, heap_alone}
pub use Rattle.applications.specs.Alone.{left_after, quits, run_alone, stops}
pub use Rattle.applications.specs.Application.{bytes_told, line_told, lines_told, name_told, numbers_told, type_told, values_told}
pub use Rattle.applications.specs.Elsewhere.{course_elsewhere, event_elsewhere, line_end_elsewhere, moved}
pub use Rattle.applications.specs.Inside.{AreSeen, Glance, Sight, glance_of, glances, glances_after, glances_for, glances_grown, glances_in}
pub use Rattle.applications.specs.Inside.{glances_try, sight_after, sight_of}
pub use Rattle.applications.specs.Laws.{EachStep, EachTry, GoesByRule, HoldsPut, KeepsFiles, KeepsLocked, KeepsNonrelocatable}
pub use Rattle.applications.specs.Laws.{KeepsResources, KeepsTable, Kept, LeavesMemory, LinesStayPut, Linked, LockedStay}
pub use Rattle.applications.specs.Laws.{NonrelocatableStay, NothingBusy, OnlyStores, PurgesOnlyPurgeable, RefusedBinds, RefusedCosts}
pub use Rattle.applications.specs.Laws.{RefusedLeaves, SearchesFew, ShowsPut, StayPut, deed_takes_block, dropped_by, drops, freed_by, frees}
pub use Rattle.applications.specs.Laws.{is_answered, opens, put_at_launch, put_deed, put_event, put_events, put_found, taken_in}
pub use Rattle.applications.specs.Laws.{with_segment, writes_files}
pub use Rattle.applications.specs.Names.{Bindings, bind, binding, bound_to, lent_binding}
pub use Rattle.applications.specs.Promises.{KeepsPromises}
pub use Rattle.applications.specs.Replies.{Came, CameRound, Extends, GivenAs, IsTried, Says, Settled, TellsServed, TellsTold, end_by}
pub use Rattle.applications.specs.Replies.{end_if, exit_as, exit_of, goes_on, has_ended, left_if}
pub use Rattle.applications.specs.Reports.{report, reports}
pub use Rattle.applications.specs.Step.{Again, AlikeCourses, Ask, Course, Deed, Ends, Event, Find, Jump, LineEnd, Round, Shown, Steer}
pub use Rattle.applications.specs.Step.{after_asking, after_try, asked_for, continued, course_of, deed_of, ended, event_of, grown}
pub use Rattle.applications.specs.Step.{grown_for, grown_line, joined, kept_anew, made_room, marked, marked_for, most_rounds, names_given}
pub use Rattle.applications.specs.Step.{nothing_yet, number_given, round, stands, step, step_by_rule, step_in, unless_over, up_to_wait}
pub use Rattle.applications.specs.Stopping.{steps_alone, steps_taken}
pub use Rattle.applications.specs.Trying.{Blocks, Running, Tried, asked, code_told, heap_tried, is_fatal, is_full, last_code, launched}
pub use Rattle.applications.specs.Trying.{launched_with, managers_of, no_content, nowhere, once, own_files, own_resources, program_of}
pub use Rattle.applications.specs.Trying.{resource_asked, resource_tried, segment_tried, storing, with_stored}
pub use Rattle.applications.specs.declared.quitting.Exit.{Exit}
pub use Rattle.applications.specs.declared.quitting.Exit.TheVariants.{Quits, Stops}
pub use Rattle.applications.specs.declared.stepping.Next.{Next}
pub use Rattle.block_store.proofs.Zone.Alike.{sizes-free}
pub use Rattle.block_store.specs.Block.{Block, content_of, count, fresh, is_masters, is_relocatable, sizes}
pub use Rattle.block_store.specs.Rest.{Site, counted}
pub use Rattle.block_store.specs.Run.{has}
pub use Rattle.block_store.specs.declared.flags.Flags.{Flags}
pub use Rattle.byteorder.specs.Endian.{big_number}
pub use Rattle.fork_format.specs.Canonical.{canon}
pub use Rattle.fork_format.specs.Content.{Content}
pub use Rattle.heap_calls.proofs.Hearing.{hears-as, hears-none}
pub use Rattle.heap_calls.proofs.Promises.FewSearches.{unsearched}
pub use Rattle.heap_calls.proofs.Promises.Knowing.{holds-known, known-fresh}
pub use Rattle.heap_calls.proofs.Promises.StandingLaws.{next-new}
pub use Rattle.heap_calls.proofs.Promises.Taking.{StaysOr}
pub use Rattle.heap_calls.proofs.Tries.Costing.{same-costs, served_costs, slotted-costs, step_costs}
pub use Rattle.heap_calls.proofs.Tries.Elsewhere.{elsewhere, served-elsewhere}
pub use Rattle.heap_calls.proofs.Tries.Gating.{served-busy, served-holds, served-known, served-refused, served-shows, served_searches}
pub use Rattle.heap_calls.proofs.Tries.Keeping.{served_bytes, served_masters_no_fewer, served_no_more}
pub use Rattle.heap_calls.proofs.Tries.Parting.{less_stays, parted}
pub use Rattle.heap_calls.proofs.Tries.Taking.{served-empties, served-stands, served-stays}
pub use Rattle.heap_calls.specs.Answer.{Held, Known, code_of, handle_at, look_up, nothing, show, silent}
pub use Rattle.heap_calls.specs.Busy.{Places, barred, busied, eased, holds, idle, pointer_barred, unless_silent}
pub use Rattle.heap_calls.specs.Emptying.{has_purgeable}
pub use Rattle.heap_calls.specs.Gone.{Gone, Hears, IsIdle, Tells}
pub use Rattle.heap_calls.specs.Inner.Given.{IsAnswer}
pub use Rattle.heap_calls.specs.Inside.{has_block, new_inside, refill_inside}
pub use Rattle.heap_calls.specs.LastPut.{Holds}
pub use Rattle.heap_calls.specs.Locked.{locked_place}
pub use Rattle.heap_calls.specs.Path.{Cast, NewEmpty, NewFilled, Refill, Release, Step, put_reads, read_again, read_by, read_new, reads}
pub use Rattle.heap_calls.specs.Path.{refusal_of, stepped, walk}
pub use Rattle.heap_calls.specs.Pointers.{pointed_at, show_pointer}
pub use Rattle.heap_calls.specs.Purging.{is_resource}
pub use Rattle.heap_calls.specs.Refused.{code_left, refused_zone}
pub use Rattle.heap_calls.specs.Row.{Row, serve}
pub use Rattle.heap_calls.specs.Rows.{doing, new_handle, new_pointer, pointer_to_hand, purges_made}
pub use Rattle.heap_calls.specs.Serving.{told_as}
pub use Rattle.heap_calls.specs.Slots.{slotted_zone}
pub use Rattle.heap_calls.specs.Standing.{pointer_place}
pub use Rattle.heap_calls.specs.State.{Memory, Role, State, fresh_memory}
pub use Rattle.heap_calls.specs.Staying.{CostsAtMostMasters, ease, staying}
pub use Rattle.heap_calls.specs.Stored.{IsStored}
pub use Rattle.heap_calls.specs.Table.{Asked, answered, first_named, gone_in, row, second_named, served}
pub use Rattle.heap_calls.specs.declared.refusal.Refusal.{Refusal}
pub use Rattle.heap_calls.specs.declared.refusal.Refusal.TheVariants.{HostMemory}
pub use Rattle.indexmap.specs.IndexMap.{insert_entry}
pub use Rattle.mac_words.proofs.Appending.{known-append}
pub use Rattle.mac_words.proofs.Plain.{on_err, rest-next}
pub use Rattle.mac_words.specs.Told.{Bytes, Code, Done, Entry, Fetched, Given, Info, Kind, Number, Numbers, Offset, Refused, Told}
pub use Rattle.mac_words.specs.declared.call.Call.{Call}
pub use Rattle.mac_words.specs.declared.call.ControlCall.{ControlCall}
pub use Rattle.mac_words.specs.declared.call.HeapCall.{HeapCall}
pub use Rattle.mac_words.specs.declared.code.OsErr.{OsErr}
pub use Rattle.mac_words.specs.declared.code.TheConstants.OsErr.{IN_MEMORY, LOCKED, MEM_FULL, NO_ERR, OFFSET, PROFILE, SYSTEM_ERROR}
pub use Rattle.mac_words.specs.declared.code.TheConstants.OsErr.{WRONG_ZONE}
pub use Rattle.mac_words.specs.declared.name.Label.{Label}
pub use Rattle.mac_words.specs.declared.name.Name.{Name}
pub use Rattle.mac_words.specs.declared.name.OsType.{OsType}
pub use Rattle.mac_words.specs.declared.reply.Reply.{Reply}
pub use Rattle.mac_words.specs.declared.resource_call.ResourceCall.{ResourceCall}
pub use Rattle.mac_words.specs.declared.segment_call.SegmentCall.{SegmentCall}
pub use Rattle.memory_windows.specs.Writes.{piece, written}
pub use Rattle.res_calls.proofs.GoneElsewhere.{gone-elsewhere}
pub use Rattle.res_calls.proofs.Storing.{gone-files, heard-none}
pub use Rattle.res_calls.proofs.Walks.Launching.{preloaded-busy, preloaded-elsewhere, preloaded-fits, preloaded-known, preloaded-masters}
pub use Rattle.res_calls.proofs.Walks.Laws.{served-bytes, served-files, served-masters, served-no_more}
pub use Rattle.res_calls.proofs.Walks.Own.{own-reads, own-walks}
pub use Rattle.res_calls.proofs.Walks.Place.{releases-place, served_moved}
pub use Rattle.res_calls.proofs.Walks.Steps.{fetch_steps, fetch_steps_as, for_found, steps_of}
pub use Rattle.res_calls.specs.Asked.{GetResInfo, ResourceAsked, Served, named, tell_fetched, tell_info, telling}
pub use Rattle.res_calls.specs.Changing.{create_named, if_changeable, most_files, on_known, on_removable, set_file}
pub use Rattle.res_calls.specs.Fetch.{Answer, Managers, Reads, done, is_system, refused}
pub use Rattle.res_calls.specs.Fetching.{fetches}
pub use Rattle.res_calls.specs.Files.{File, Found, OpenFile, Resources, file_named, file_of, open_at}
pub use Rattle.res_calls.specs.Given.{IsAnswered, IsReply, managers}
pub use Rattle.res_calls.specs.Gone.{gone_for}
pub use Rattle.res_calls.specs.Leaving.{FilesClosed, first_code, last_opened, leave_files, left_file, update_code, updated_or}
pub use Rattle.res_calls.specs.Own.{fetch_own, find_own, own_datum, own_handle}
pub use Rattle.res_calls.specs.Partial.{is_in_memory, read_part_found, read_partial_resource, restored_unless, size_refusal, write_refusal}
pub use Rattle.res_calls.specs.Places.{seen_info}
pub use Rattle.res_calls.specs.Purging.{PurgesValue, heard, stored_gone, view_purged}
pub use Rattle.res_calls.specs.Rows.{bars, closed, greatest_number, handles_of, if_updated, keep_error, launched_resources, map_in}
pub use Rattle.res_calls.specs.Rows.{on_found, on_open, on_resource, open_fork, open_map, open_named, open_unless, resource_of, told_or}
pub use Rattle.res_calls.specs.Rows.{with_resources}
pub use Rattle.res_calls.specs.Update.{update}
pub use Rattle.res_calls.specs.View.{view_file}
pub use Rattle.res_calls.specs.Writing.{writes}
pub use Rattle.res_map.specs.Map.{Map, is_changed, is_protected, resized_datum}
pub use Rattle.res_map.specs.Split.{Split, place}
pub use Rattle.script_text.specs.Call.{is_allowed, word_of}
pub use Rattle.script_text.specs.Script.{ScriptParts, are_allowed, block_of}
pub use Rattle.script_text.specs.Transcript.{bytes_shown, grow_line, launch_line, name_shown, reply_line, type_shown, values_of}
pub use Rattle.script_text.specs.declared.script.Line.{Line}
pub use Rattle.script_text.specs.declared.word.CallWord.{CallWord}
pub use Rattle.segments.proofs.Laws.{told-refused}
pub use Rattle.segments.proofs.Purging.{refused-gone}
pub use Rattle.segments.proofs.Taking.{served-wants}
pub use Rattle.segments.specs.Asked.{tell_called, tell_loaded, tell_shown}
pub use Rattle.segments.specs.Calls.{Called, Program, call_entry, call_found, call_loaded, call_loading, call_through, called, code_type}
pub use Rattle.segments.specs.Calls.{is_there, load_by, load_datum, load_fetched, load_seg, show_entry, show_found, show_of, unload_handle}
pub use Rattle.segments.specs.Calls.{unload_seg}
pub use Rattle.segments.specs.Given.{program}
pub use Rattle.segments.specs.Table.{can_load, table_in}
pub use Rattle.std.proofs.Common.{Bool, Err, List, None, Ok, Option, Result, Some, [], ap, append-nil, append_assoc, arith, codes, cond}
pub use Rattle.std.proofs.Common.{drop, false, get_or, inl, inr, length, map, of_z, option_map, pos, refl, rules, slice_index_or, subst}
pub use Rattle.std.proofs.Common.{suc, sym, take, to_z, true, true≢false, zero, ℕ, ℤ, ◌++◌, ◌+◌, ◌-◌, ◌<◌, ◌==◌, ◌^◌, ◌||◌, ◌∙◌, ◌∷◌, ◌≡◌}
pub use Rattle.std.proofs.Common.{◌≢◌, ◌≤◌, ◌⊎◌}
pub use Rattle.std.proofs.Math.Seq.{take-append_seam}
pub use Rattle.std.proofs.lemmas.Bool.{and_left, le-ltb, lt-ltb, ltb-true}
pub use Rattle.std.proofs.lemmas.Bool.Decides.{Decides-eqb}
pub use Rattle.std.proofs.lemmas.Grind.{flat_map-append}
pub use Rattle.std.proofs.lemmas.Int.{to_z-of_z}
pub use Rattle.std.proofs.lemmas.List.{drop_all, map-append, take_all, take_more}
pub use Rattle.std.proofs.lemmas.List.Concat.{flat_map-cons}
pub use Rattle.std.proofs.lemmas.List.Folds.{list_all_at}
pub use Rattle.std.proofs.lemmas.Option.{get_or_from_slice_get, none-some, same_Some, slice_get_cases, slice_get_within}
pub use Rattle.std.specs.Global.{Global}
pub use Rattle.std.specs.Int.{w16}
pub use Rattle.std.specs.Io.KnownBytes.{append_known}
pub use Rattle.std.specs.Map.{lookup}
pub use Rattle.std.specs.Ordering.{int_eq}
pub use Rattle.std.specs.Prelude.{Box, FitsSigned, IfOk, IsOk, OnErr, OnOk, bytes_eq, if◌then◌else◌, is_some, nat_le, nat_lt, not}
pub use Rattle.std.specs.Prelude.{slice_get, ◌&&◌}
pub use Rattle.std.specs.declared.alloc.AllocError.{AllocError}
