use Rattle.std.specs.Prelude.{Bool, Option, Some, None, if◌then◌else◌, ◌≡◌, ℕ, ◌<◌, ◌≤◌, ◌^◌, List, length}
use Rattle.fork_format.specs.declared.layout.Layout.{Layout}
use Rattle.fork_format.specs.Fork.{data_start, map_start, data_end, map_end, type_list, name_list}

-- Where the parts of a resource fork lie, of which resource data and map lie in its bytes.
-- More Macintosh Toolbox, chapter 1, "Resource File Format".
pub record IsLayout (l : Layout) (bytes : List ℕ) : Type 0 where
  pub data_start : l.data_start ≡ data_start bytes
  pub map_start : l.map_start ≡ map_start bytes
  pub data_end : l.data_end ≡ data_end bytes
  pub map_end : l.map_end ≡ map_end bytes
  pub type_list : l.type_list ≡ type_list bytes
  pub name_list : l.name_list ≡ name_list bytes
  pub data_inside : l.data_end ≤ length bytes
  pub map_inside : l.map_end ≤ length bytes
  pub small : l.data_start < 2 ^ 33
  pub small_map : l.map_start < 2 ^ 33
  pub small_lists : l.type_list < 2 ^ 33
  pub small_names : l.name_list < 2 ^ 33

-- A number where the test passes; else none.
abbrev pub sizes_if : Bool → ℕ → Option ℕ
sizes_if test n = if test then Some n else None
