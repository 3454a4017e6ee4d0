-- The names that the proofs of this library cite of others and of its specs, passed on from one place. Declares nothing.
pub use Rattle.byteorder.specs.Endian.{big_number}
pub use Rattle.real_zone.specs.Blocks.{block_places, free_bytes, has_room, is_nonrelocatable, is_size, is_tiled, passed_from, passed_places}
pub use Rattle.real_zone.specs.Blocks.{places_from}
unfoldable pub use Rattle.real_zone.specs.Blocks.{free_size, is_passable, places}
pub use Rattle.real_zone.specs.Finding.{found_others, found_unnamed}
unfoldable pub use Rattle.real_zone.specs.Finding.{fourths}
pub use Rattle.real_zone.specs.Form.{alignment, header_size}
pub use Rattle.real_zone.specs.Header.{size_at, tag_at}
pub use Rattle.real_zone.specs.Lists.{first, first_found, is_empty}
pub use Rattle.real_zone.specs.Masters.{damages_of_list, zone_marks}
unfoldable pub use Rattle.real_zone.specs.Masters.{block_marks, covers, is_covered, list_damages, marks, may_be_free}
unfoldable pub use Rattle.real_zone.specs.Numbers.{number}
pub use Rattle.real_zone.specs.Resources.{all_references, entries, first_reference, named_by, reference_count, type_count, type_list}
pub use Rattle.real_zone.specs.Resources.{types_end}
unfoldable pub use Rattle.real_zone.specs.Resources.{has_references, has_types, is_resource_map, named_in_block, named_in_map}
unfoldable pub use Rattle.real_zone.specs.Resources.{named_in_type, resource_of, spaced}
pub use Rattle.real_zone.specs.Rules.{broken, damages_of_blocks, master_at}
unfoldable pub use Rattle.real_zone.specs.Rules.{block_damages, block_rules, correction_rule, handle_rule, is_master_place, keeps_rules}
unfoldable pub use Rattle.real_zone.specs.Rules.{kind_rule, length_rule, owner_rule, zone_rule}
pub use Rattle.real_zone.specs.Seen.{blocks_of, blocks_passed}
unfoldable pub use Rattle.real_zone.specs.Seen.{block_at, content_at, flags_at, kind_of, logical_size, master_of}
pub use Rattle.real_zone.specs.Zone.{damages_from, damages_of_sum, from_zone, has_limit, has_record, zone_bytes, zone_part}
unfoldable pub use Rattle.real_zone.specs.Zone.{damages, damages_of_zone, is_zone, is_zone_at}
pub use Rattle.real_zone.specs.declared.block.Block.{Block}
pub use Rattle.real_zone.specs.declared.fault.Damage.{Damage}
pub use Rattle.real_zone.specs.declared.fault.Rule.{Rule}
pub use Rattle.real_zone.specs.declared.finding.FoundZone.{FoundZone}
pub use Rattle.real_zone.specs.declared.form.Form.{Form}
pub use Rattle.real_zone.specs.declared.resource_map.Resource.{Resource}
pub use Rattle.std.proofs.Common.{Bool, List, None, Option, Some, [], add_assoc, ap, append_assoc, arith, cond, drop, false, filter, get_or}
pub use Rattle.std.proofs.Common.{inl, inr, length, map, not, pos, refl, replicate, rules, suc, sum_by, sym, take, true, zero, ℕ, ◌%◌, ◌&&◌}
pub use Rattle.std.proofs.Common.{◌*◌, ◌++◌, ◌+◌, ◌-ℤ◌, ◌-◌, ◌/◌, ◌<◌, ◌^◌, ◌||◌, ◌∙◌, ◌∷◌, ◌≡◌, ◌≤◌, ◌⊎◌}
pub use Rattle.std.proofs.lemmas.Bool.{and_from, and_left, and_parts, and_right, cases_lt, cond-false, cond-true, eq-eqb, eqb-true, le-leb}
pub use Rattle.std.proofs.lemmas.Bool.{leb-true, lt-leb, ltb-false, ne_eqb}
pub use Rattle.std.proofs.lemmas.List.{append-nil, drop_all, get_or-append_right, get_or_append_left, map-append}
pub use Rattle.std.proofs.lemmas.List.Sums.{sum_by-cons}
pub use Rattle.std.specs.BTreeMap.{get}
pub use Rattle.std.specs.List.{flat_map, list_all, list_any}
pub use Rattle.std.specs.Option.{option_or, option_to_list}
pub use Rattle.std.specs.Ordering.{nat_cmp}
pub use Rattle.std.specs.Prelude.{nat_le, nat_lt, ◌==◌}
