use Rattle.std.specs.Prelude.{ℕ, ℤ, ◌+◌, ◌-◌, ◌/◌, ◌%◌, Bool, true, false, not, ◌&&◌, ◌==◌, nat_le, min, Option}
use Rattle.std.specs.Prelude.{Some, None}
use Rattle.std.specs.Prelude.{List, [], ◌∷◌, length, map, take, drop, if◌then◌else◌}
use Rattle.std.specs.List.{list_all}
use Rattle.std.specs.Int.{cast_signed, w16}
use Rattle.std.specs.Ordering.{int_eq}
use Rattle.fork_format.specs.Fork.{number, offsets}

-- The jump table of an application, through which its segments call one another. Inside Macintosh: Processes, chapter
-- 7, "The Jump Table" and "The Jump Table Segment".

-- An entry: its segment, if it belongs to one, and whether it is loaded.
pub record Entry : Type 0 where
  pub segment : Option ℤ
  pub loaded : Bool

-- Whether an entry is of the unloaded form: the offset of a routine, the instruction that pushes a segment's number,
-- that number, and the trap of LoadSeg.
abbrev pub is_entry : List ℕ → ℕ → Bool
is_entry code at = number 2 (at + 2) code == 0x3F3C && number 2 (at + 6) code == 0xA9F0

-- The entry at an offset of 'CODE' 0; an entry of another form belongs to no segment.
abbrev pub entry_at : List ℕ → ℕ → Entry
entry_at code at = record {
  segment = if is_entry code at then Some (cast_signed w16 (number 2 (at + 4) code)) else None;
  loaded = false;
}

-- The number of entries: as many as both the table's length and the resource hold after the 16 bytes of its header.
abbrev pub entries_of : List ℕ → ℕ
entries_of code = min (number 4 8 code / 8) ((length code - 16) / 8)

-- The jump table of 'CODE' 0; fewer than 16 bytes hold no entry.
-- See decision 68 (the jump table is read once, at the launch).
abbrev pub table_of : List ℕ → List Entry
table_of code = if nat_le 16 (length code) then map (entry_at code) (offsets 16 8 (entries_of code)) else []

-- The jump table of an application that may have no 'CODE' 0.
abbrev pub table_in : Option (List ℕ) → List Entry
table_in None = []
table_in (Some code) = table_of code

-- Whether an entry belongs to segment n.
abbrev pub is_segment : ℤ → Option ℤ → Bool
is_segment n None = false
is_segment n (Some m) = int_eq m n

abbrev pub is_of : ℤ → Entry → Bool
is_of n e = is_segment n e.segment

-- The place in the table of a segment's first entry, and the number of its entries, as the segment's resource states
-- them in its first 4 bytes.
-- See decision 70 (a segment's first two words are those that are stored).
abbrev pub first_entry : List ℕ → ℕ
first_entry code = number 2 0 code / 8

abbrev pub entry_count : List ℕ → ℕ
entry_count code = number 2 2 code

-- The entries that a segment's resource names, as far as they are in the table.
abbrev pub named : List ℕ → List Entry → List Entry
named code table = take (entry_count code) (drop (first_entry code) table)

-- Whether a segment can be loaded: its resource has 4 bytes and is not of the far model, the offset of its first
-- entry is a multiple of 8, and all entries that it names are in the table and its own. Where it names no entries,
-- their place does not matter.
-- See decision 71 (a segment that names no entries can be loaded).
abbrev pub can_load : ℤ → List ℕ → List Entry → Bool
can_load n code table =
    nat_le 4 (length code) && not (number 2 0 code == 0xFFFF) && number 2 0 code % 8 == 0
    && length (named code table) == entry_count code && list_all (is_of n) (named code table)

-- An entry, loaded or unloaded.
abbrev pub set_loaded : Bool → Entry → Entry
set_loaded loaded e = record e { loaded = loaded }

-- The table with n entries from a place on loaded.
abbrev pub loaded_from : ℕ → ℕ → List Entry → List Entry
loaded_from at n [] = []
loaded_from at n (e ∷ table) =
    if at == 0 then (if n == 0 then e ∷ table else set_loaded true e ∷ loaded_from 0 (n - 1) table)
    else e ∷ loaded_from (at - 1) n table

-- An entry, unloaded where it belongs to segment n.
abbrev pub unloaded_of : ℤ → Entry → Entry
unloaded_of n e = if is_of n e then set_loaded false e else e

-- The table with all entries of segment n unloaded.
abbrev pub unloaded : ℤ → List Entry → List Entry
unloaded n table = map (unloaded_of n) table
