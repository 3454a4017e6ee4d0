-- The names that the proofs of this library cite of others and of its specs, passed on from one place. Declares nothing.
pub use Rattle.mac_words.proofs.Appending.{also}
pub use Rattle.real_zone.proofs.Zones.{dump_whole}
pub use Rattle.real_zone.specs.Lists.{first, is_empty}
pub use Rattle.real_zone.specs.Resources.{resource_of}
pub use Rattle.real_zone.specs.Seen.{blocks_passed}
pub use Rattle.real_zone.specs.Zone.{damages, is_zone_at}
pub use Rattle.real_zone.specs.declared.block.Block.{Block}
pub use Rattle.real_zone.specs.declared.fault.Damage.{Damage}
pub use Rattle.real_zone.specs.declared.form.Form.{Form}
pub use Rattle.real_zone.specs.declared.resource_map.Resource.{Resource}
pub use Rattle.real_zone_view.specs.Answers.{damage_or}
pub use Rattle.real_zone_view.specs.Damages.{damages_text}
pub use Rattle.real_zone_view.specs.Drawing.{escaped}
unfoldable pub use Rattle.real_zone_view.specs.Drawing.{svg_legend, svg_style}
pub use Rattle.real_zone_view.specs.Finds.{find_text}
pub use Rattle.real_zone_view.specs.Picture.{bin_text, bins, bins_after, is_full, picture, rows_text, zone_picture}
unfoldable pub use Rattle.real_zone_view.specs.Picture.{picture_by, strip}
pub use Rattle.real_zone_view.specs.Text.{is_plain, lines_text, title_text}
pub use Rattle.real_zone_view.specs.Totals.{blocks_text, counted, sized, zone_text}
unfoldable pub use Rattle.real_zone_view.specs.Totals.{in_class}
pub use Rattle.real_zone_view.specs.declared.dump.DumpFault.{DumpFault}
pub use Rattle.real_zone_view.specs.declared.style.Style.{Style}
pub use Rattle.std.proofs.Common.{List, None, Option, Some, [], ap, append_assoc, arith, drop, false, if◌then◌else◌, refl, replicate, rules}
pub use Rattle.std.proofs.Common.{slice_index_or, subst, sym, true, ℕ, ◌*◌, ◌++◌, ◌+◌, ◌∙◌, ◌∷◌, ◌≡◌, ◌≤◌}
pub use Rattle.std.proofs.lemmas.List.{drop_more}
pub use Rattle.std.specs.BTreeMap.{get}
pub use Rattle.std.specs.Bool.{IsTrue}
pub use Rattle.std.specs.List.{flat_map, list_all}
pub use Rattle.std.specs.Ordering.{nat_cmp}
