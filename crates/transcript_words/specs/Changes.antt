use Rattle.std.specs.Prelude.{ℕ, ◌==◌, Bool, false, Option, Some, None, List, [], ◌∷◌, ◌++◌, codes, decimal}
use Rattle.std.specs.Prelude.{slice_get, unwrap_or, if◌then◌else◌}
use Rattle.std.specs.List.{find, flat_map}
use Rattle.std.specs.Option.{option_map}
use Rattle.zone_drawing.specs.Line.{Line}

-- What a step moved and purged, by the zone before it and after it. Inside Macintosh: Memory, chapter 1, "Heap
-- Management".

-- The block of a handle or a pointer: the number of that, where the block begins, and the script's name.
pub record Placed : Type 0 where
  pub number : ℕ
  pub place : ℕ
  pub name : Option (List ℕ)

abbrev pub placed_at : Line → Option ℕ → List Placed → List Placed
placed_at l None later = later
placed_at l (Some n) later = record { number = n; place = l.place; name = l.tag.name } ∷ later

-- The blocks of handles and pointers in a zone, the lowest first.
abbrev pub placed : List Line → List Placed
placed [] = []
placed (l ∷ lines) = placed_at l l.tag.number (placed lines)

-- The zone at a moment: the blocks of handles and pointers, and of each number whether it is that of a handle.
pub record Standing : Type 0 where
  pub blocks : List Placed
  pub handles : List Bool

-- Where the block of a number begins, if there is one.
abbrev pub place_of : List Placed → ℕ → Option ℕ
place_of blocks number = option_map (λ b. b.place) (find (λ b. b.number == number) blocks)

abbrev pub is_handle : List Bool → ℕ → Bool
is_handle handles number = unwrap_or (slice_get handles number) false

-- The name of a block; a - where the script has none.
abbrev pub name_words : Option (List ℕ) → List ℕ
name_words None = codes "-"
name_words (Some name) = name

-- A block that begins at another place, and one that a handle has no more.
abbrev pub moved_words : Placed → ℕ → List ℕ
moved_words b place = codes "; moved " ++ name_words b.name ++ codes " " ++ decimal b.place ++ codes " -> " ++ decimal place

abbrev pub purged_words : Placed → List ℕ
purged_words b = codes "; purged " ++ name_words b.name

-- What became of a block. One that its handle or pointer took along when that was disposed of is not named.
abbrev pub change_words : Placed → Option ℕ → Bool → List ℕ
change_words b None is_handle = if is_handle then purged_words b else []
change_words b (Some place) is_handle = if b.place == place then [] else moved_words b place

abbrev pub change_by : (ℕ → Option ℕ) → List Bool → Placed → List ℕ
change_by places handles b = change_words b (places b.number) (is_handle handles b.number)

-- What became of the blocks of a zone, the lowest first.
abbrev pub changes : Standing → Standing → List ℕ
changes before after = flat_map (change_by (place_of after.blocks) after.handles) before.blocks
