-- The names that the proofs of this library cite of others and of its specs, passed on from one place. Declares nothing.
pub use Rattle.bin_hex.proofs.PutAgain.{file_is_read, put_read}
pub use Rattle.bin_hex.specs.BinHex.{decoded}
pub use Rattle.bin_hex.specs.File.{File}
pub use Rattle.bin_hex.specs.Putting.{Prevents, with_fork, with_resource_fork}
pub use Rattle.bin_hex.specs.declared.fault.Damage.{Damage}
pub use Rattle.bin_hex.specs.declared.fault.PutFault.{PutFault}
pub use Rattle.byteorder.specs.Endian.{big_number}
pub use Rattle.fork_commands.specs.Dates.{IsMoment, days_in_month, days_in_year, days_to, is_leap, moment, moment_at, moment_text, month_of}
pub use Rattle.fork_commands.specs.Dates.{seconds_to, year_of}
unfoldable pub use Rattle.fork_commands.specs.Dates.{day_in, days_of}
pub use Rattle.fork_commands.specs.Editing.{rename_fault, view_naming}
unfoldable pub use Rattle.fork_commands.specs.Editing.{edited}
pub use Rattle.fork_commands.specs.Extracting.{ToWrite, resource_files, within}
pub use Rattle.fork_commands.specs.Faults.{Stops, made_then, of_code}
pub use Rattle.fork_commands.specs.Info.{decoded_info, info_lines}
unfoldable pub use Rattle.fork_commands.specs.Info.{info_text, info_within}
pub use Rattle.fork_commands.specs.Opening.{IsOpen, bytes_of, decoded_or_fault, is_unwrapped}
unfoldable pub use Rattle.fork_commands.specs.Opening.{container_of, is_encoded, opened}
pub use Rattle.fork_commands.specs.Packaging.{of_put, of_rewrap, put_or_fault, recognized, then_packed, wrapped_or_fault}
unfoldable pub use Rattle.fork_commands.specs.Packaging.{packed}
pub use Rattle.fork_commands.specs.Pairs.{Bytes, Gives, Made, Names, StopsPair, at, bytes_alone, combined, compared, difference_lines}
pub use Rattle.fork_commands.specs.Pairs.{fork_set, forks_merged, good_fork_in, merged_or_fault, of_bytes, put_into, set_by, set_from}
pub use Rattle.fork_commands.specs.Pairs.{set_in, setting_change, source_stated, stated_in, stated_naming, stated_set, stopped_at, text_of}
pub use Rattle.fork_commands.specs.Pairs.{texts_compared}
unfoldable pub use Rattle.fork_commands.specs.Pairs.{of_both, with_setting, with_stated}
pub use Rattle.fork_commands.specs.Parts.{data_found, part_files, parted}
unfoldable pub use Rattle.fork_commands.specs.Parts.{data_in}
pub use Rattle.fork_commands.specs.Reading.{content_in, content_or_fault, fork_found, fork_within}
unfoldable pub use Rattle.fork_commands.specs.Reading.{content_of_fork, fork_in}
pub use Rattle.fork_commands.specs.Sources.{Faulty, HasEnough, HoldsStated, Lacks, StatesSelected, StopsAssembly, alone, assembled}
pub use Rattle.fork_commands.specs.Sources.{content_stated, file_name, fork_or_fault, is_selected, of_work, printed, selected}
pub use Rattle.fork_commands.specs.Sources.{selected_group, selected_groups, selected_source, some_source, source_with}
pub use Rattle.fork_commands.specs.States.{fault_why, fault_words, fork_words, form_word, found_words, has_content, is_bare, judged_words}
pub use Rattle.fork_commands.specs.States.{state_words}
unfoldable pub use Rattle.fork_commands.specs.States.{rule_of}
pub use Rattle.fork_commands.specs.View.{view_file}
pub use Rattle.fork_commands.specs.Works.{canonical, resource_at}
pub use Rattle.fork_commands.specs.declared.assembling.AssemblyFault.{AssemblyFault}
pub use Rattle.fork_commands.specs.declared.dates.DayIn.{DayIn}
pub use Rattle.fork_commands.specs.declared.editing.Edit.TheVariants.{Remove, Rename}
pub use Rattle.fork_commands.specs.declared.editing.Naming.{Naming}
pub use Rattle.fork_commands.specs.declared.fault.FileFault.{FileFault}
pub use Rattle.fork_commands.specs.declared.fault.FileFault.TheVariants.{Code, Source, Unfit, Wrapper}
pub use Rattle.fork_commands.specs.declared.fault.WorkFault.{WorkFault}
pub use Rattle.fork_commands.specs.declared.fault.WorkFault.TheVariants.{HostMemory}
pub use Rattle.fork_commands.specs.declared.opening.Container.{Container}
pub use Rattle.fork_commands.specs.declared.packaging.Packaging.{Packaging}
pub use Rattle.fork_commands.specs.declared.packaging.Packaging.TheVariants.{AsRead, Bare}
pub use Rattle.fork_commands.specs.declared.pair.PairFault.{PairFault}
pub use Rattle.fork_commands.specs.declared.pair.PairWork.TheVariants.{Diff, DiffText}
pub use Rattle.fork_commands.specs.declared.pair.Place.{Place}
pub use Rattle.fork_commands.specs.declared.pair.Place.TheVariants.{First, Second}
pub use Rattle.fork_commands.specs.declared.pair.Setting.{Setting}
pub use Rattle.fork_commands.specs.declared.selecting.Selection.{Selection}
pub use Rattle.fork_commands.specs.declared.selecting.Selection.TheVariants.{All, OfType, One}
pub use Rattle.fork_commands.specs.declared.source_form.SourceForm.{SourceForm}
pub use Rattle.fork_commands.specs.declared.source_form.SourceForm.TheVariants.{Data, Typed}
pub use Rattle.fork_commands.specs.declared.work.ResourceKey.{ResourceKey}
pub use Rattle.fork_edits.proofs.Keeping.{set_found, set_others}
pub use Rattle.fork_edits.proofs.Moving.{renamed_found, renamed_others}
pub use Rattle.fork_edits.specs.Contents.{Entry}
pub use Rattle.fork_edits.specs.Differences.{Difference, Order, differences, found_differences, or_order, same_content}
pub use Rattle.fork_edits.specs.Lines.{difference_line}
pub use Rattle.fork_edits.specs.Merging.{merged}
pub use Rattle.fork_edits.specs.Removing.{without_resource}
pub use Rattle.fork_edits.specs.Renaming.{Renaming, refusal, renamed, with_renamed}
pub use Rattle.fork_edits.specs.Resources.{found, is_at, others, rows}
pub use Rattle.fork_edits.specs.Setting.{Change, resource_set, with_resource}
pub use Rattle.fork_edits.specs.View.{view_difference, view_entry, view_filed, view_renaming}
pub use Rattle.fork_edits.specs.declared.renaming.RenameFault.{RenameFault}
pub use Rattle.fork_format.proofs.Bools.{and_both}
pub use Rattle.fork_format.proofs.Clear.{clear_clear, spelled_clear}
pub use Rattle.fork_format.proofs.Spelled.{spelled_references, spelled_types}
pub use Rattle.fork_format.specs.Canonical.{are_distinct, canon, clear, clear_group, clear_ref, fits, has_refs}
pub use Rattle.fork_format.specs.Code.{content_or_code, read_code}
pub use Rattle.fork_format.specs.Content.{Content, Group, IsContent, IsGroup, IsRef, Ref, distinct, is_of}
pub use Rattle.fork_format.specs.Fork.{IsUnspelled, Spells, area_of, content_of, data_start, group_at, is_fork, map_start, name_at}
pub use Rattle.fork_format.specs.Fork.{name_place, number, part, ref_at, ref_places, type_places}
pub use Rattle.fork_format.specs.View.{view, view_group, view_ref}
pub use Rattle.fork_format.specs.declared.fault.ForkFault.{ForkFault}
pub use Rattle.fork_rules.proofs.Bounds.{spelled_content}
pub use Rattle.fork_rules.proofs.Keeping.{keeps, kept}
pub use Rattle.fork_rules.proofs.Reading.{spelled}
pub use Rattle.fork_rules.specs.Breaking.{broken}
pub use Rattle.fork_rules.specs.Texts.{form_text, whole_text, why_text}
pub use Rattle.fork_rules.specs.declared.rules.Broken.{Broken}
pub use Rattle.fork_wrappers.proofs.Rewraps.{found_rewrapped}
pub use Rattle.fork_wrappers.specs.Info.{Info, data_fork_in, info_of}
pub use Rattle.fork_wrappers.specs.Rewrapped.{Refuses, rewrapped}
pub use Rattle.fork_wrappers.specs.Unwrapped.{unwrapped, wrapping_of}
pub use Rattle.fork_wrappers.specs.declared.fault.RewrapFault.{RewrapFault}
pub use Rattle.fork_wrappers.specs.declared.fault.WrapFault.{WrapFault}
pub use Rattle.fork_wrappers.specs.declared.wrapping.Wrapping.{Wrapping}
pub use Rattle.mac_roman.specs.Roman.{from_roman}
pub use Rattle.mac_roman.specs.declared.charset.Charset.{Charset}
pub use Rattle.mac_words.specs.declared.code.OsErr.{OsErr}
pub use Rattle.mac_words.specs.declared.code.TheConstants.OsErr.{END_OF_FILE, MAP_READ, RES_NOT_FOUND}
pub use Rattle.plain_laws.proofs.Bytes.{byte-at, bytes-drop, bytes-take}
pub use Rattle.plain_laws.proofs.Elements.{each-append}
pub use Rattle.rez_statements.specs.Types.{Declared}
pub use Rattle.rez_statements.specs.View.{types_of}
pub use Rattle.rez_templates.specs.Templates.{with_templates}
pub use Rattle.rez_text.proofs.Again.{same_again}
pub use Rattle.rez_text.proofs.Enough.{enough}
pub use Rattle.rez_text.specs.Bytes.{AreBytes, HasBytes, IsOfBytes}
pub use Rattle.rez_text.specs.Reading.{Lacking, ReadFault, Wrong, read}
pub use Rattle.rez_text.specs.View.{content_said, files_of, names_of}
pub use Rattle.rez_text.specs.declared.fault.FaultKind.{FaultKind}
pub use Rattle.rez_text.specs.declared.fault.FileName.{FileName}
pub use Rattle.rez_typed.proofs.TypedAgain.{typed_same_again}
pub use Rattle.std.proofs.Common.{Bool, Err, IfErr, IfOk, IsTrue, List, None, Ok, Option, Result, Some, Vec, [], ap, arith, cond, drop}
pub use Rattle.std.proofs.Common.{false, length, map, refl, replicate, rules, subst, suc, sym, true, zero, ℕ, ℤ, ◌%◌, ◌*◌, ◌++◌, ◌+◌, ◌-◌}
pub use Rattle.std.proofs.Common.{◌/◌, ◌<◌, ◌↔◌, ◌∙◌, ◌∷◌, ◌≡◌, ◌≢◌, ◌≤◌}
pub use Rattle.std.proofs.lemmas.Bool.{and_parts, ltb-false, ltb-true, ne_eqb}
pub use Rattle.std.proofs.lemmas.Bool.Decides.{Decides-int_eq}
pub use Rattle.std.proofs.lemmas.List.{append_assoc}
pub use Rattle.std.proofs.lemmas.Str.{IsUtf8-from_is_utf8, is_utf8-from_IsUtf8}
unfoldable pub use Rattle.std.specs.Fmt.{digits}
pub use Rattle.std.specs.List.{AllByRecursion, flat_map, list_all}
pub use Rattle.std.specs.Ordering.{int_eq}
pub use Rattle.std.specs.Prelude.{IfSome, codes, filter, if◌then◌else◌, is_ok, is_some, nat_le, nat_lt, not, option_map, string_bytes, ◌&&◌}
pub use Rattle.std.specs.Prelude.{◌==◌}
pub use Rattle.std.specs.Str.{IsUtf8, is_utf8}
pub use Rattle.std.specs.declared.alloc.Global.{Global}
pub use Rattle.text_diff.specs.Difference.{IsDifference}
