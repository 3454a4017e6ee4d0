-- The names that the proofs of this library cite of others and of its specs, passed on from one place. Declares nothing.
pub use Rattle.applications.proofs.Elsewhere.{glance_elsewhere, glances-elsewhere, launched-elsewhere, launched_course, sizes-fresh}
pub use Rattle.applications.proofs.Elsewhere.{step-elsewhere}
pub use Rattle.applications.proofs.Quits.{end_if-elsewhere, ending-told, launched-lies}
pub use Rattle.applications.proofs.Rounds.{over-of}
pub use Rattle.applications.specs.Alone.{ending, first_steps}
pub use Rattle.applications.specs.Application.{lines_told}
pub use Rattle.applications.specs.Elsewhere.{course_elsewhere, moved}
pub use Rattle.applications.specs.Inside.{Glance, glances}
pub use Rattle.applications.specs.Names.{Bindings, bound_to, lent_binding}
pub use Rattle.applications.specs.Replies.{end_if, exit_of}
pub use Rattle.applications.specs.Step.{Course, course_of, joined, step}
pub use Rattle.applications.specs.Trying.{Blocks, Running, launched_with, nowhere}
pub use Rattle.applications.specs.declared.quitting.Exit.{Exit}
pub use Rattle.block_store.proofs.Renamed.Renaming.{total-rename}
pub use Rattle.block_store.specs.Block.{Block, Free, Masters, Nonrelocatable, Relocatable, fresh, no_flags, rename, rename_block, sizes}
pub use Rattle.block_store.specs.Block.{total}
pub use Rattle.block_store.specs.Compact.{Placed, largest}
pub use Rattle.block_store.specs.Rest.{Site}
pub use Rattle.block_store.specs.Run.{runs}
pub use Rattle.block_store.specs.Seen.{seen}
pub use Rattle.block_store.specs.Slot.{Slot}
pub use Rattle.block_store.specs.declared.measures.TheConstants.{MASTERS_SIZE}
pub use Rattle.raw_region.proofs.WholeWindow.{whole_home, whole_there}
pub use Rattle.heap_calls.proofs.Numbering.Largest.{largest_free-rename, largest_run-rename, runs-rename}
pub use Rattle.heap_calls.specs.Answer.{silent}
pub use Rattle.heap_calls.specs.Busy.{pointer_barred, unless_silent}
pub use Rattle.heap_calls.specs.Contents.{shown}
pub use Rattle.heap_calls.specs.Inner.Numbered.{handle_number, leads_to, no_number, number_from, pointer_number, points_to}
pub use Rattle.heap_calls.specs.Pointers.{show_pointer}
pub use Rattle.heap_calls.specs.State.{Memory, State}
pub use Rattle.heap_calls.specs.declared.anchor.Anchor.{Anchor}
pub use Rattle.mac_words.proofs.Plain.{rest-next}
pub use Rattle.mac_words.specs.Size.{padded}
pub use Rattle.mac_words.specs.declared.code.OsErr.{OsErr}
pub use Rattle.mac_words.specs.declared.name.Label.{Label}
pub use Rattle.mac_words.specs.declared.reply.Reply.{Reply}
pub use Rattle.raw_zone.specs.Parted.{zone_of}
pub use Rattle.res_calls.specs.Files.{Resources}
pub use Rattle.res_calls.specs.View.{view_open}
pub use Rattle.res_map.specs.Map.{Reference, has_handle}
pub use Rattle.res_map.specs.View.{view_lent}
pub use Rattle.script_text.specs.Call.{word_of}
pub use Rattle.script_text.specs.Script.{ScriptParts}
unfoldable pub use Rattle.script_text.specs.Token.{after_blanks}
pub use Rattle.script_text.specs.Transcript.{Number, bytes_shown, launch_line, name_shown, type_shown, values_of}
pub use Rattle.script_text.specs.declared.script.Line.{Line}
pub use Rattle.script_text.specs.declared.word.CallWord.{CallWord}
pub use Rattle.std.proofs.Common.{Bool, IfOk, List, None, Option, Result, Some, Vec, [], add-one, ap, append-nil, append_assoc, arith}
pub use Rattle.std.proofs.Common.{codes, cond, drop, false, is_some, length, map, max, refl, replicate, slice_get, subst, suc, sym, take}
pub use Rattle.std.proofs.Common.{true, ℕ, ◌++◌, ◌+◌, ◌-◌, ◌<◌, ◌==◌, ◌^◌, ◌||◌, ◌∙◌, ◌∷◌, ◌≡◌, ◌≤◌}
pub use Rattle.std.proofs.Math.Seq.{drop-cons}
pub use Rattle.std.proofs.lemmas.Bool.{cond-true}
pub use Rattle.std.proofs.lemmas.Bool.Decides.{nat_tests}
pub use Rattle.std.proofs.lemmas.List.{drop_all, drop_more, map_push}
pub use Rattle.std.proofs.lemmas.Option.{get_or_from_slice_get, slice_get_within}
pub use Rattle.std.specs.BTreeMap.{BTreeMap, get}
pub use Rattle.std.specs.Borrow.{Bor}
pub use Rattle.std.specs.Global.{Global}
pub use Rattle.std.specs.Option.{option_map, option_or}
pub use Rattle.std.specs.Ordering.{nat_cmp}
pub use Rattle.std.specs.Prelude.{nat_lt}
pub use Rattle.std.specs.declared.alloc.AllocError.{AllocError}
pub use Rattle.transcript_words.specs.Changes.{changes, placed}
unfoldable pub use Rattle.transcript_words.specs.Code.{code_words}
pub use Rattle.transcript_words.specs.Source.{source}
pub use Rattle.transcript_words.specs.View.{view_lines}
pub use Rattle.transcript_words.specs.Words.{call_words, launch_words, step_words}
pub use Rattle.zone_drawing.specs.Inside.{added_with, inside}
pub use Rattle.zone_drawing.specs.Line.{Known, Tag, line, lines, no_tag}
pub use Rattle.zone_drawing.specs.Listing.{zone_text}
pub use Rattle.zone_drawing.specs.Quiet.{gathered}
pub use Rattle.zone_drawing.specs.Steps.{Moment, steps_svg}
pub use Rattle.zone_drawing.specs.Text.{widest}
pub use Rattle.zone_drawing.specs.Totals.{could_be_free, largest_of}
pub use Rattle.zone_drawing.specs.View.{known_by, tag_in, view_line, view_moment, view_tag}
pub use Rattle.zone_drawing.specs.declared.line.BlockLine.{BlockLine}
pub use Rattle.zone_drawing.specs.declared.line.Owner.{Owner}
pub use Rattle.zone_drawing.specs.declared.listing.Listing.{Listing}
pub use Rattle.zone_drawing.specs.declared.totals.Largest.{Largest}
pub use Rattle.zone_replay.specs.Behind.{last_words, step_told, steps_to, zone_behind}
pub use Rattle.zone_replay.specs.Drawn.{drawn_behind, moments_svg}
pub use Rattle.zone_replay.specs.Inside.{gathered_inside, glance_line, glance_moment, in_words, inside_behind, step_added, try_line, try_of}
pub use Rattle.zone_replay.specs.Inside.{unless_ended, view_try}
pub use Rattle.zone_replay.specs.Known.{entered, first_of, given, name_of, named_by, owned, owner, owner_in, owner_of, tag, tag_by}
pub use Rattle.zone_replay.specs.Moments.{moment, moments_behind, moments_of, step_moment, words_after}
pub use Rattle.zone_replay.specs.Shown.{block_lines, content_in, lines_shown, listing_of, unless_barred, zone_lines, zone_shown}
pub use Rattle.zone_replay.specs.Sight.{sight_text}
pub use Rattle.zone_replay.specs.Words.{end_told_in, standing, stands_for_handle, step_told_in, steps_told, telling_text, then_told}
pub use Rattle.zone_replay.specs.Words.{told_alone, told_between}
pub use Rattle.zone_replay.specs.declared.form.Details.{Details}
pub use Rattle.zone_replay.specs.declared.form.Form.{Form}
pub use Rattle.zone_replay.specs.declared.moments.Strips.{Strips}
