use Rattle.std.specs.Prelude.{List, ℕ, Option, map, option_map, string_bytes}
use Rattle.byteorder.specs.Endian.{big_number}
use Rattle.mac_words.specs.declared.attributes.Attrs.{Attrs}
use Rattle.fork_format.specs.View.{view_name, view_ref}
use Rattle.fork_edits.specs.declared.entries.ContentsList.{ContentsList}
use Rattle.fork_edits.specs.declared.entries.ListedEntry.{ListedEntry}
use Rattle.fork_edits.specs.declared.listing.Draft.{Draft as StoredDraft}
use Rattle.fork_edits.specs.declared.listing.Fields.{Fields as StoredFields}
use Rattle.fork_edits.specs.declared.listed_name.ListedName.{ListedName}
use Rattle.fork_edits.specs.declared.filed.FiledRow.{FiledRow}
use Rattle.fork_edits.specs.Contents.{Entry, Listed}
use Rattle.fork_edits.specs.Listing.{Draft, Fields}
use Rattle.fork_edits.specs.declared.resources.Row.{Row as StoredRow}
use Rattle.fork_edits.specs.declared.setting.Change.{Change as StoredChange}
use Rattle.fork_edits.specs.declared.renaming.Renaming.{Renaming as StoredRenaming}
use Rattle.fork_edits.specs.declared.differences.Parts.{Parts as StoredParts}
use Rattle.fork_edits.specs.declared.differences.Difference.{Difference as StoredDifference}
use Rattle.fork_edits.specs.declared.differences.Difference.TheVariants as stored
use Rattle.fork_edits.specs.Differences.{Parts, Difference, Area, MapAttrs, Removed, Changed, Added, Order}
use Rattle.fork_edits.specs.Filed.{Filed}
use Rattle.fork_edits.specs.Resources.{Row}
use Rattle.fork_edits.specs.Setting.{Change}
use Rattle.fork_edits.specs.Renaming.{Renaming}

-- A resource with its type as a value, without the places where its name and its stored data lie in memory.
abbrev pub view_row : StoredRow → Row
view_row r = record { kind = big_number 4 r.ty.0; resource = view_ref r.resource }

-- A resource and the name of its file as a value.
abbrev pub view_filed : FiledRow → Filed
view_filed f = record { file = string_bytes f.file; row = view_row f.row }

-- A change as a value.
abbrev pub view_change : StoredChange → Change
view_change c = record {
  datum = c.datum.now;
  name = view_name c.name;
  attrs = option_map (λ (a : Attrs). a.0) c.attrs;
}

-- What a resource gets as a value.
abbrev pub view_renaming : StoredRenaming → Renaming
view_renaming new = record {
  id = new.id;
  name = option_map view_name new.name;
  attrs = option_map (λ (a : Attrs). a.0) new.attrs;
}

-- The parts that differ, as a value.
abbrev pub view_parts : StoredParts → Parts
view_parts p = record { name = p.name; attrs = p.attrs; datum = p.datum }

-- A difference as a value.
abbrev pub view_difference : StoredDifference → Difference
view_difference stored.Area = Area
view_difference stored.MapAttrs = MapAttrs
view_difference (stored.Removed old) = Removed (view_row old)
view_difference (stored.Changed ty id p) = Changed (big_number 4 ty.0) id (view_parts p)
view_difference (stored.Added new) = Added (view_row new)
view_difference stored.Order = Order

-- A name in a list as a value.
abbrev pub name_listed : ListedName → List ℕ
name_listed name = name.bytes.items

abbrev pub name_given : Option ListedName → Option (List ℕ)
name_given name = option_map name_listed name

-- What a list says of a resource, as a value.
abbrev pub view_entry : ListedEntry → Entry
view_entry e = record {
  kind = big_number 4 e.ty.0;
  id = e.id;
  attrs = e.attrs.0;
  file = string_bytes e.file;
  name = name_given e.name;
}

-- What a list says, as a value.
abbrev pub view_list : ContentsList → Listed
view_list l = record { attrs = l.attrs; area = l.area; entries = map view_entry l.entries.items }

-- The parts of a line as a value.
abbrev pub view_fields : StoredFields → Fields
view_fields f = record { kind = f.ty.now; id = f.id.now; attrs = f.attrs.now; file = f.file.now; name = f.name.now }

-- What the lines so far say, as a value.
abbrev pub view_draft : StoredDraft → Draft
view_draft d = record { attrs = d.attrs; area = d.area; entries = map view_entry d.entries.items }
