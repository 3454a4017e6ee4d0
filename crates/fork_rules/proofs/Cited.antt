-- The names that the proofs of this library cite of others and of its specs, passed on from one place. Declares nothing.
pub use Rattle.byteorder.specs.Endian.{big_bytes, big_number}
pub use Rattle.byteorder.specs.Numbers.{big_from-lt, big_from-take}
pub use Rattle.fork_format.proofs.Again.{ReferenceStands, reference_stands}
pub use Rattle.fork_format.proofs.Apart.{told_apart}
pub use Rattle.fork_format.proofs.Bools.{and_both}
pub use Rattle.fork_format.proofs.CanSpell.{can_spell}
pub use Rattle.fork_format.proofs.Extending.{FitsByParts, fits-tells}
pub use Rattle.fork_format.proofs.Groups.{AreLowGroups, GroupStands, group_stands}
pub use Rattle.fork_format.proofs.Loops.{offsets-left, sum-goes_on}
pub use Rattle.fork_format.proofs.Spelled.{area_whole, distinct-all}
pub use Rattle.fork_format.proofs.Standing.{StandsAt, number-stands, stands_first, stands_second}
pub use Rattle.fork_format.proofs.Vectors.{empty_fork, hi_fork, note_fork}
pub use Rattle.fork_format.proofs.Whole.{CanSpell, CanonStands, ListsStand, canon_stands, lists_stand}
pub use Rattle.fork_format.specs.Canonical.{all_within, are_distinct, canon, data_of, datum, fits, header, map_of, name, reference}
pub use Rattle.fork_format.specs.Canonical.{references, refs_offset, starts, types}
pub use Rattle.fork_format.specs.Content.{AreRefs, Content, Group, IsContent, IsGroup, IsRef, Ref, distinct, is_of, refs_of}
pub use Rattle.fork_format.specs.Fork.{IsUnspelled, all_data, all_refs, content_of, data_end, data_start, datum_fits, datum_place, group_at}
pub use Rattle.fork_format.specs.Fork.{is_fork, map_end, map_start, name_at, name_fits, name_list, name_place, number, offsets, part}
pub use Rattle.fork_format.specs.Fork.{ref_at, ref_count, ref_fits, ref_places, refs_fit, type_count, type_list, type_places}
pub use Rattle.fork_format.specs.Limits.{most_data, most_references}
pub use Rattle.fork_format.specs.View.{view}
pub use Rattle.fork_rules.specs.Breaking.{broken, broken_at, broken_limit, broken_list, broken_part, broken_reference, broken_type, first}
pub use Rattle.fork_rules.specs.Breaking.{first_of}
pub use Rattle.fork_rules.specs.Regions.{all_places, bytes_of, column, differences, differs}
pub use Rattle.fork_rules.specs.Sharing.{datum_offsets, do_rise, orders_data, shares_data}
pub use Rattle.fork_rules.specs.Texts.{accepted_text, damaged_text, form_text, next_text, whole_text, why_text}
pub use Rattle.fork_rules.specs.declared.regions.Region.{Region}
pub use Rattle.fork_rules.specs.declared.regions.TheConstants.{REGIONS}
pub use Rattle.fork_rules.specs.declared.rules.Broken.{Broken}
pub use Rattle.fork_rules.specs.declared.rules.ResourceKey.{ResourceKey}
pub use Rattle.fork_rules.specs.declared.rules.Rule.{Rule}
pub use Rattle.mac_words.proofs.Plain.{rest-next}
pub use Rattle.mac_words.specs.declared.name.OsType.{OsType}
pub use Rattle.std.proofs.Common.{Bool, Err, List, None, Ok, Option, Result, Some, [], ap, append_assoc, arith, cond, drop, false, get_or}
pub use Rattle.std.proofs.Common.{inl, inr, length, length-append, lit<, map, not, refl, replicate, rules, set, subst, suc, sum_by, sym}
pub use Rattle.std.proofs.Common.{take, true, zero, ℕ, ◌%◌, ◌&&◌, ◌*◌, ◌++◌, ◌+◌, ◌-◌, ◌<◌, ◌^◌, ◌∙◌, ◌∷◌, ◌≡◌, ◌≢◌, ◌≤◌, ◌⊎◌}
pub use Rattle.std.proofs.Math.Facts.{sfits_to_z}
pub use Rattle.std.proofs.Math.Seq.{drop-append_seam, take-add}
pub use Rattle.std.proofs.lemmas.Bool.{and_parts, le-leb, leb-true, ltb-true}
pub use Rattle.std.proofs.lemmas.Bool.Decides.{Decides-ltb, eqb_tells}
pub use Rattle.std.proofs.lemmas.List.{append-nil, drop-drop, drop_more, get_or-drop, length-drop, length-take, take-append-drop, take_rest}
pub use Rattle.std.proofs.lemmas.Nat.{and_le_l, and_le_r}
pub use Rattle.std.proofs.lemmas.Slice.Eq.{bytes_eq-Decides, slice_eq-Decides}
pub use Rattle.std.specs.Bool.{Decides}
pub use Rattle.std.specs.Cmp.Lexicographic.{pointwise}
unfoldable pub use Rattle.std.specs.Fmt.{digits}
pub use Rattle.std.specs.Int.{w16}
pub use Rattle.std.specs.List.{AllByRecursion, flat_map, list_all}
pub use Rattle.std.specs.Prelude.{IfSome, OnOk, codes, filter, nat_le, nat_lt, pos, slice_index, ◌==◌}
pub use Rattle.std.specs.Result.{is_ok}
pub use Rattle.std.specs.Str.{bytes_eq}
