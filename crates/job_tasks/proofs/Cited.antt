-- The names that the proofs of this library cite of others and of its specs, passed on from one place. Declares nothing.
pub use Rattle.desk.proofs.Givens.{has_started}
pub use Rattle.desk.specs.Live.{leaves_seen}
pub use Rattle.desk.specs.Outcome.{AppResult, Launched, Outcome}
pub use Rattle.desk.specs.View.{outcome_seen, told_seen}
pub use Rattle.desk.specs.Whole.{IsAlone, Law, OfEachApp, start_with, system_in, system_of}
pub use Rattle.desk.specs.declared.job.App.{App}
pub use Rattle.desk.specs.declared.job.Job.{Job}
pub use Rattle.desk.specs.declared.outcome.AppOutcome.{AppOutcome}
pub use Rattle.fork_commands.proofs.Contents.{stopped_there}
pub use Rattle.fork_commands.proofs.Pairs.{also_ok}
pub use Rattle.fork_commands.specs.Info.{info_text}
pub use Rattle.fork_commands.specs.Opening.{bytes_of}
pub use Rattle.fork_commands.specs.Packaging.{packed}
pub use Rattle.fork_commands.specs.Reading.{content_in, content_or_fault, fork_in}
unfoldable pub use Rattle.fork_commands.specs.Reading.{content_of_fork}
pub use Rattle.fork_commands.specs.States.{has_content, state_words}
pub use Rattle.fork_commands.specs.declared.fault.FileFault.{FileFault}
pub use Rattle.fork_commands.specs.declared.fault.FileFault.TheVariants.{Code}
pub use Rattle.fork_commands.specs.declared.packaging.Packaging.TheVariants.{AsRead}
pub use Rattle.fork_format.specs.Canonical.{canon}
pub use Rattle.fork_format.specs.Code.{content_or_code}
pub use Rattle.fork_format.specs.Content.{Content}
pub use Rattle.fork_format.specs.View.{view}
pub use Rattle.fork_tasks.proofs.Accesses.{also_err, ends_err, fork_ends, none, one_more, stops_from, told_err, unread_stops}
pub use Rattle.fork_tasks.proofs.Faults.{loud_write, quiet_from, quiet_silent}
pub use Rattle.fork_tasks.proofs.Packed.{none_read}
pub use Rattle.fork_tasks.proofs.Prints.{nothing}
pub use Rattle.fork_tasks.proofs.Writes.{Made, folder_at, front_at, further, later_at, sooner_at, stopped}
pub use Rattle.fork_tasks.specs.Accesses.{Access, Folder, IsUnread, Read, Stops, StopsAmong, StopsAt, Write, and_then, reads_at}
pub use Rattle.fork_tasks.specs.Delivering.{Delivers, IsUndelivered}
pub use Rattle.fork_tasks.specs.Fault.{CannotRead, CannotWrite, Dump, Fork, HostMemory, IsForkFault, IsQuiet, Message, NotLaunched, Script}
pub use Rattle.fork_tasks.specs.Fault.{Usage, message_of}
pub use Rattle.fork_tasks.specs.Listing.{listing}
pub use Rattle.fork_tasks.specs.declared.delivering.Target.TheVariants.{Printed}
pub use Rattle.fork_tasks.specs.declared.fault.ToolFault.{ToolFault}
pub use Rattle.fork_tasks.specs.declared.listing.Spelling.{Spelling}
pub use Rattle.job_tasks.specs.Dumping.{IsDumpFault, dump_message}
pub use Rattle.job_tasks.specs.Gathering.{Found, FoundApplication, GivenApp, GivenFile, GivenSource, IsGiven, IsStop, Reads, ReadsOf}
pub use Rattle.job_tasks.specs.Gathering.{Spoken, app_at, app_found, app_given, app_of, file_found, file_given, fork_at, fork_found}
pub use Rattle.job_tasks.specs.Gathering.{fork_told, gathered, given_then, name_of, nothing_given, owner_is_in, paths_of, reads_of}
pub use Rattle.job_tasks.specs.Gathering.{script_at, script_found, script_told, source_given, source_of, system_path, with_file, with_input}
pub use Rattle.job_tasks.specs.Gathering.{with_inputs, with_system}
pub use Rattle.job_tasks.specs.JobZones.{IsJobZone, IsShown, IsUnseen, IsUnshown, IsZoneFault, IsZoneLeft, Misstated, NotThere, Sees, Shows}
pub use Rattle.job_tasks.specs.JobZones.{Ungathered, Unprinted, Unseen, launched_as, launched_at, launched_of, launched_with, number_of}
pub use Rattle.job_tasks.specs.Loading.{AppFork, Given, forks_seen, own_path, part_seen, path_of, sources_of, with_found, with_part}
pub use Rattle.job_tasks.specs.Loading.{with_parts}
pub use Rattle.job_tasks.specs.Outputs.{HasRoom, Written, all_forks_left, desk_within, file_or, forks_left, forks_within, kept, left_by}
pub use Rattle.job_tasks.specs.Outputs.{log_left, log_within, logs_left, owner_source, source_at, sources_unless}
pub use Rattle.job_tasks.specs.Playing.{DoesPlay, IsLaunchFault, IsPlayUndone, IsTaken, IsUnplayed, IsUntaken, Misspelled, NotTaken, Plays}
pub use Rattle.job_tasks.specs.Playing.{Takes, Undone, Unfound, Unlaunched, Unread, Untaken, leaves_alone, left_alone, parts_of}
pub use Rattle.job_tasks.specs.Playing.{path_at_fault, paths_read, player_name, writes_alone}
pub use Rattle.job_tasks.specs.Running.{Halted, IsJobFault, IsStopped, IsUnleft, IsUnwell, Leaves, NotRun, NotWritten, Run, Runs, Stated}
pub use Rattle.job_tasks.specs.Running.{Taken, Unleft, Unnamed, Unspoken, reads_for, sources_for, write_of, writes_for}
pub use Rattle.job_tasks.specs.Size.{partition_size, within_limits}
pub use Rattle.job_tasks.specs.Sizing.{IsSized, IsUnnamed, size_asked, sized, unnamed_in}
pub use Rattle.job_tasks.specs.Speaking.{app_in_words, apps_in_words, written_of}
pub use Rattle.job_tasks.specs.Tasks.{IsFault, IsPrinted, IsRefusal, description_text, script_message}
pub use Rattle.job_tasks.specs.Work.{IsDescription, described}
pub use Rattle.job_tasks.specs.declared.job_zones.JobZone.{JobZone}
pub use Rattle.job_tasks.specs.declared.playing.PlayWork.{PlayWork}
pub use Rattle.job_tasks.specs.declared.playing.Playing.{Playing}
pub use Rattle.job_tasks.specs.declared.running.Errand.{Errand}
pub use Rattle.job_tasks.specs.declared.tasks.Work.{Work}
pub use Rattle.mac_words.specs.declared.code.OsErr.{OsErr}
pub use Rattle.real_zone_view.specs.Answers.{Tells, dump_fault}
pub use Rattle.real_zone_view.specs.declared.dump.DumpView.{DumpView}
pub use Rattle.real_zone_view.specs.declared.dump.ViewFault.{ViewFault}
pub use Rattle.res_calls.specs.Files.{Resources}
pub use Rattle.res_calls.specs.View.{view_file}
pub use Rattle.res_calls.specs.declared.files.File.{File}
pub use Rattle.script_text.proofs.Numerals.{numerals}
pub use Rattle.script_text.specs.Argument.{number_from}
pub use Rattle.script_text.specs.Job.{Input, System, app_name, app_names, file_names, given_names, greatest_memory, has_name, input_seen}
pub use Rattle.script_text.specs.Job.{job_of, job_seen, may_follow}
pub use Rattle.script_text.specs.JobFacts.{all_follow}
pub use Rattle.script_text.specs.Reading.{FailsAt}
pub use Rattle.script_text.specs.Script.{ScriptParts, Spelled, script_of, spelled}
pub use Rattle.script_text.specs.declared.fault.FaultKind.{FaultKind}
pub use Rattle.std.proofs.Common.{Bool, Err, IfErr, IfOk, List, None, Ok, OnOk, Option, Result, Some, Vec, [], ap, append-nil, append_assoc}
pub use Rattle.std.proofs.Common.{arith, drop, false, get_or, inl, inr, length, map, not, refl, rules, slice_get, slice_index_or, subst}
pub use Rattle.std.proofs.Common.{suc, sym, take, true, zero, ℕ, ◌*◌, ◌++◌, ◌+◌, ◌-◌, ◌<◌, ◌^◌, ◌∙◌, ◌∷◌, ◌≡◌, ◌≤◌}
pub use Rattle.std.proofs.lemmas.Bool.{and_parts}
pub use Rattle.std.proofs.lemmas.Grind.{common_steps}
pub use Rattle.std.proofs.lemmas.List.{drop-set-lt, drop_all, drop_more, length-map, map-append, take_all, take_more_set}
pub use Rattle.std.proofs.lemmas.List.Edits.{map_over_more}
pub use Rattle.std.proofs.lemmas.List.Elements.{filter_map-append}
pub use Rattle.std.proofs.lemmas.Option.{slice_get-map, slice_get_past, slice_get_read}
pub use Rattle.std.proofs.lemmas.Result.{on_ok_weaker}
pub use Rattle.std.proofs.lemmas.Str.Parse.{parse_digits}
pub use Rattle.std.specs.Borrow.{Bor}
pub use Rattle.std.specs.Char.{is_ascii_digit}
pub use Rattle.std.specs.Global.{Global}
pub use Rattle.std.specs.List.{flat_map, list_all, list_any, position_from}
pub use Rattle.std.specs.Prelude.{IsTrue, bytes_eq, codes, is_ok, nat_lt, option_map, slice_set, string_bytes, string_capacity, string_len}
pub use Rattle.std.specs.Prelude.{◌&&◌}
pub use Rattle.std.specs.Slice.{IsItemAt}
pub use Rattle.std.specs.Str.{encode_utf8_all}
pub use Rattle.std.specs.Str.Parse.{ParsesUnsigned}
