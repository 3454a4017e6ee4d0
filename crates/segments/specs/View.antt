use Rattle.std.specs.Prelude.{ℕ, ℤ, ◌&&◌, ◌==◌, Bool, Option, Some, None, List, map, length, take, drop, if◌then◌else◌}
use Rattle.std.specs.List.{list_all}
use Rattle.segments.specs.declared.entry.Entry.{Entry as StoredEntry}
use Rattle.segments.specs.declared.entries.Named.{Named}
use Rattle.segments.specs.Table.{Entry, is_of, can_load, first_entry, entry_count}

-- A jump table as the code keeps it.

abbrev pub view_entry : StoredEntry → Entry
view_entry e = record { segment = e.segment; loaded = e.loaded }

abbrev pub view_entries : List StoredEntry → List Entry
view_entries entries = map view_entry entries

-- Whether `count` entries from a place on are all in the table, and belong to segment n.
abbrev pub are_own : ℤ → ℕ → ℕ → List Entry → Bool
are_own n at count table =
    length (take count (drop at table)) == count && list_all (is_of n) (take count (drop at table))

-- The entries that a segment's resource names, where the segment can be loaded.
abbrev pub named_from : ℕ → ℕ → Named
named_from at count = record { first = at; count = count }

abbrev pub named_by : ℤ → List ℕ → List Entry → Option Named
named_by n code table =
    if can_load n code table then Some (named_from (first_entry code) (entry_count code)) else None
