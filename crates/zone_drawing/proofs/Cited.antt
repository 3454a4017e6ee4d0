-- The names that the proofs of this library cite of others and of its specs, passed on from one place. Declares nothing.
pub use Rattle.block_store.proofs.Zone.Apart.{Apart, apart-above, apart-size, apart-tidied}
pub use Rattle.block_store.proofs.Zone.Edges.{edge-between}
pub use Rattle.block_store.proofs.Zone.Parted.{spot-end, spot_at-parted}
pub use Rattle.block_store.proofs.Zone.Totals.{total-append}
pub use Rattle.block_store.specs.Block.{Block, Free, Masters, Nonrelocatable, Relocatable, no_flags, size, sizes, tidy, total}
pub use Rattle.block_store.specs.Compact.{largest}
pub use Rattle.block_store.specs.Find.{IsEdge}
pub use Rattle.block_store.specs.Room.{Spot, spot_at}
pub use Rattle.block_store.specs.Run.{Stretch, segments}
pub use Rattle.block_store.specs.Seen.{seen}
pub use Rattle.block_store.specs.Walk.{seen_size}
pub use Rattle.block_store.specs.declared.measures.TheConstants.{GREATEST_ZONE}
pub use Rattle.block_store.specs.declared.sparing.Seen.{Seen}
pub use Rattle.mac_words.proofs.Plain.{rest-next}
pub use Rattle.std.proofs.Common.{Bool, List, None, Option, Some, [], ap, append-nil, append_assoc, arith, codes, cond, decimal, drop}
pub use Rattle.std.proofs.Common.{false, if◌then◌else◌, length, map, max, min, nat_le, not, pos, refl, replicate, rules, subst, sym, take}
pub use Rattle.std.proofs.Common.{true, ℕ, ◌&&◌, ◌*◌, ◌++◌, ◌+◌, ◌-◌, ◌/◌, ◌<◌, ◌^◌, ◌∙◌, ◌∷◌, ◌≡◌, ◌≤◌}
pub use Rattle.std.proofs.lemmas.Bool.{cond-false, cond-true}
pub use Rattle.std.proofs.lemmas.List.{drop_all, length-map, map-append, map_push, take-map}
pub use Rattle.std.proofs.lemmas.Option.{none-some, same_Some}
pub use Rattle.std.specs.BTreeMap.{get}
unfoldable pub use Rattle.std.specs.Fmt.{digits}
pub use Rattle.std.specs.List.{flat_map, list_all}
pub use Rattle.std.specs.Option.{option_map}
pub use Rattle.std.specs.Ordering.{nat_cmp}
pub use Rattle.zone_drawing.specs.Bytes.{byte_character, byte_digits, bytes_in, bytes_text, row_line, rows, rows_text}
pub use Rattle.zone_drawing.specs.Choice.{chosen, is_chosen}
unfoldable pub use Rattle.zone_drawing.specs.Digits.{digit_at, hex_digits}
pub use Rattle.zone_drawing.specs.Drawing.{attribute, escaped, line_sizes, svg_opened}
unfoldable pub use Rattle.zone_drawing.specs.Drawing.{scale, svg_legend, svg_style}
pub use Rattle.zone_drawing.specs.Inner.{could_be_free, in_run, pass}
pub use Rattle.zone_drawing.specs.Inside.{above_last, added_line, cleared_lines, lines_after, part_between, part_moment, parts}
pub use Rattle.zone_drawing.specs.Inside.{purged_lines, tries_strips, without}
pub use Rattle.zone_drawing.specs.Line.{Known, Line, Tag, lines, no_tag, seen_sizes}
pub use Rattle.zone_drawing.specs.Quiet.{added, after_last, same_lines}
pub use Rattle.zone_drawing.specs.Steps.{Moment, arrow_of, arrow_to, arrows, block_count, extent_of, greatest_size, least_of, line_arrow}
pub use Rattle.zone_drawing.specs.Steps.{moment_strips, passed_text, room, steps_by}
unfoldable pub use Rattle.zone_drawing.specs.Steps.{arrow, arrow_style, moment_by, moment_caption, passed_words, steps_head, steps_title}
unfoldable pub use Rattle.zone_drawing.specs.Steps.{steps_window}
pub use Rattle.zone_drawing.specs.Strip.{bins, bins_text, blocks_in, box_class, class_title, counted_by, counted_in, drawn_classes, is_full}
pub use Rattle.zone_drawing.specs.Strip.{is_in, least_bin, middle, piece, sized_by, sized_in}
unfoldable pub use Rattle.zone_drawing.specs.Strip.{all_parts, bin_box, bin_name, bin_text, box_opened, class_titles, class_words, name_at}
unfoldable pub use Rattle.zone_drawing.specs.Strip.{rectangle, strip, strip_opened, title_by}
pub use Rattle.zone_drawing.specs.Svg.{cell_box, cells, extent, shown_in, svg_height, window_of}
unfoldable pub use Rattle.zone_drawing.specs.Svg.{cell, overview, part_named, row, row_count, row_window, title_opened, window_svg}
pub use Rattle.zone_drawing.specs.Text.{is_locked, is_plain, line_text, lines_text, longest, type_text}
unfoldable pub use Rattle.zone_drawing.specs.Text.{head_after, head_before}
pub use Rattle.zone_drawing.specs.Totals.{counted, in_class, largest_of, largest_purged, sized}
pub use Rattle.zone_drawing.specs.View.{known_by, view_kept, view_line, view_moment}
pub use Rattle.zone_drawing.specs.declared.choice.Choice.{Choice}
pub use Rattle.zone_drawing.specs.declared.line.BlockLine.{BlockLine}
pub use Rattle.zone_drawing.specs.declared.line.Shape.{Shape}
pub use Rattle.zone_drawing.specs.declared.strip.Extent.{Extent}
pub use Rattle.zone_drawing.specs.declared.strip.Layer.{Layer}
pub use Rattle.zone_drawing.specs.declared.strip.Window.{Window}
pub use Rattle.zone_drawing.specs.declared.totals.Class.{Class}
