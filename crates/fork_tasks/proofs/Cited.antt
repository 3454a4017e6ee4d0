-- The names that the proofs of this library cite of others and of its specs, passed on from one place. Declares nothing.
pub use Rattle.byteorder.specs.Endian.{big_number}
pub use Rattle.fork_commands.proofs.Opens.{no_fork}
pub use Rattle.fork_commands.proofs.Pairs.{also_ok}
pub use Rattle.fork_commands.specs.BuiltIn.{built_in, types_with}
pub use Rattle.fork_commands.specs.Extracting.{ToWrite}
pub use Rattle.fork_commands.specs.Faults.{made_then}
pub use Rattle.fork_commands.specs.Opening.{opened}
pub use Rattle.fork_commands.specs.Packaging.{packed}
pub use Rattle.fork_commands.specs.Packing.{fork_of_files, listed_in, listed_paths}
pub use Rattle.fork_commands.specs.Pairs.{Gives, StopsPair, combined}
pub use Rattle.fork_commands.specs.Parts.{parted}
unfoldable pub use Rattle.fork_commands.specs.Parts.{data_in}
pub use Rattle.fork_commands.specs.Reading.{content_in, fork_in}
pub use Rattle.fork_commands.specs.Sources.{Faulty, Lacks, assembled}
pub use Rattle.fork_commands.specs.View.{view_file}
pub use Rattle.fork_commands.specs.Works.{made}
pub use Rattle.fork_commands.specs.declared.extracting.ResourceFile.{ResourceFile}
pub use Rattle.fork_commands.specs.declared.fault.FileFault.{FileFault}
pub use Rattle.fork_commands.specs.declared.fault.WorkFault.{WorkFault}
pub use Rattle.fork_commands.specs.declared.fault.WorkFault.TheVariants.{File}
pub use Rattle.fork_commands.specs.declared.packaging.Packaging.TheVariants.{AsRead}
pub use Rattle.fork_commands.specs.declared.pair.PairFault.{PairFault}
pub use Rattle.fork_commands.specs.declared.pair.Place.{Place}
pub use Rattle.fork_edits.specs.Contents.{Listed}
pub use Rattle.fork_edits.specs.View.{view_list}
pub use Rattle.fork_format.proofs.Bools.{and_both}
pub use Rattle.fork_format.specs.Content.{refs_of}
pub use Rattle.fork_format.specs.View.{view, view_group, view_ref}
pub use Rattle.fork_tasks.specs.Accesses.{Access, Ends, Failed, Fails, Folder, IsNextUnread, IsPartWritten, IsUnread, IsUnwritten, Read}
pub use Rattle.fork_tasks.specs.Accesses.{RefusesFile, RefusesWrite, Stops, StopsAmong, StopsAt, StopsReading, Write, and_then, reads_at}
pub use Rattle.fork_tasks.specs.Assembling.{Assembles, Forks, IsSourceFault, IsUnassembled, IsUnforked, IsUnplaced, IsUnput, IsUnstated}
pub use Rattle.fork_tasks.specs.Assembling.{Places, Puts, Refused, States, Unfit, Unforked, Unknown, Unplaced, Unread, Unstated, Unwritten}
pub use Rattle.fork_tasks.specs.Assembling.{lacked, path_from, paths_named, types_read}
pub use Rattle.fork_tasks.specs.Combining.{Combines, IsPairFault, IsUncombined, SecondUnread, names_of, pair_message, reads_both}
pub use Rattle.fork_tasks.specs.Converting.{Converts, IsUnconverted, Unmade}
pub use Rattle.fork_tasks.specs.Declaring.{Declares, IsUndeclared, IsUnknown, Knows, StopsDeclaring, Undeclared, declared_by}
pub use Rattle.fork_tasks.specs.Delivering.{Delivers, IsUndelivered}
pub use Rattle.fork_tasks.specs.Ending.{ending_of}
pub use Rattle.fork_tasks.specs.Extracting.{Extracts, IsUnextracted, to_write, write_in, writes_in}
pub use Rattle.fork_tasks.specs.Fault.{CannotRead, CannotWrite, Dump, Fork, HostMemory, IsForkFault, IsQuiet, Message, NotLaunched, Script}
pub use Rattle.fork_tasks.specs.Fault.{Usage, fork_message, message_of, write_message}
pub use Rattle.fork_tasks.specs.Linting.{Adds, AreLines, AreLinted, HasLinted, IsLinted, IsUnlinted, KnowsFor, KnowsIf, LeavesLines}
pub use Rattle.fork_tasks.specs.Linting.{LinesOf, Lints, PrintsLines, Undelivered, Unprinted, faulty_lines, is_clean, is_source, kind_at}
pub use Rattle.fork_tasks.specs.Linting.{lines_by, needs_types, paths_of, stopped_at}
pub use Rattle.fork_tasks.specs.Listing.{group_lines, listing}
pub use Rattle.fork_tasks.specs.Packing.{FileUnread, IsUnpacked, ListFaulty, Packs, list_path, reads_listed}
pub use Rattle.fork_tasks.specs.Printing.{PrintsBut, PrintsFront}
pub use Rattle.fork_tasks.specs.SourcePrinting.{IsSourceUnprinted, PrintsSource, source_of}
pub use Rattle.fork_tasks.specs.Surveying.{AreSeen, AreSurveyed, IsFolderSurveyed, IsSeen, IsSurveyed, IsUnlisted, OnlyReads, Went, is_good}
pub use Rattle.fork_tasks.specs.Surveying.{is_reading, line_of}
pub use Rattle.fork_tasks.specs.declared.assembling.Assembly.{Assembly}
pub use Rattle.fork_tasks.specs.declared.combining.Combination.{Combination}
pub use Rattle.fork_tasks.specs.declared.converting.Conversion.{Conversion}
pub use Rattle.fork_tasks.specs.declared.delivering.Target.{Target}
pub use Rattle.fork_tasks.specs.declared.delivering.Target.TheVariants.{NewFile, Printed}
pub use Rattle.fork_tasks.specs.declared.ending.Ending.{Ending}
pub use Rattle.fork_tasks.specs.declared.extracting.Extraction.{Extraction}
pub use Rattle.fork_tasks.specs.declared.extracting.Pieces.{Pieces}
pub use Rattle.fork_tasks.specs.declared.extracting.Pieces.TheVariants.{Resources}
pub use Rattle.fork_tasks.specs.declared.fault.ToolFault.{ToolFault}
pub use Rattle.fork_tasks.specs.declared.host.WriteError.{WriteError}
pub use Rattle.fork_tasks.specs.declared.linting.Linting.{Linting}
pub use Rattle.fork_tasks.specs.declared.linting.TextKind.{TextKind}
pub use Rattle.fork_tasks.specs.declared.packing.Packing.{Packing}
pub use Rattle.fork_tasks.specs.declared.source_printing.Printing.{Printing}
pub use Rattle.lint.specs.Seen.{seen}
pub use Rattle.lint.specs.declared.wrong.Fault.{Fault}
pub use Rattle.mac_words.proofs.Appending.{known-append, known-nil}
pub use Rattle.mac_words.proofs.Plain.{on_err}
pub use Rattle.mac_words.specs.Digits.{lower_digit}
pub use Rattle.rez_statements.specs.Types.{Declared}
pub use Rattle.rez_statements.specs.View.{types_of}
pub use Rattle.rez_text.specs.Reading.{Lacking, Wrong, read}
pub use Rattle.rez_text.specs.View.{content_stated}
pub use Rattle.rez_text.specs.declared.fault.FileName.{FileName}
pub use Rattle.script_text.specs.Transcript.{hex}
pub use Rattle.script_text.specs.declared.fault.FaultKind.{FaultKind}
pub use Rattle.std.proofs.Common.{Bool, Err, IfErr, IfSome, List, None, Ok, OnOk, Option, Result, Some, [], add-one, ap, append-nil}
pub use Rattle.std.proofs.Common.{append_assoc, arith, drop, false, get_or, inl, inr, length, length-append, map, refl, rules, set}
pub use Rattle.std.proofs.Common.{string_bytes, subst, suc, sym, take, true, ℕ, ◌%◌, ◌&&◌, ◌*◌, ◌++◌, ◌+◌, ◌/◌, ◌<◌, ◌==◌, ◌^◌, ◌∙◌, ◌∷◌}
pub use Rattle.std.proofs.Common.{◌≡◌, ◌≤◌}
pub use Rattle.std.proofs.Math.Bool.{and-true, and_assoc}
pub use Rattle.std.proofs.Math.Seq.{take-suc}
pub use Rattle.std.proofs.lemmas.Grind.{common_steps, flat_map-append, take-set_at}
pub use Rattle.std.proofs.lemmas.List.{length-map, length-set, length-take, map-append, take_all}
pub use Rattle.std.proofs.lemmas.List.Folds.{list_all-append}
pub use Rattle.std.proofs.lemmas.Result.{on_ok_weaker}
pub use Rattle.std.specs.Borrow.{Bor}
pub use Rattle.std.specs.Io.KnownBytes.{append_known}
pub use Rattle.std.specs.List.{flat_map, list_all, list_any}
pub use Rattle.std.specs.Option.{option_map}
pub use Rattle.std.specs.Prelude.{codes, not}
