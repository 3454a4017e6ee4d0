use Rattle.std.specs.Prelude.{◌≡◌, ℕ, ◌<◌, ◌≤◌, ◌^◌, List, [], ◌∷◌, length}
use Rattle.fork_format.specs.Fork.{data_start, map_start, data_end, map_end, type_list, name_list, type_places}
use Rattle.fork_rules.specs.declared.parts.Parts.{Parts}
use Rattle.fork_rules.specs.declared.places.Places.{Places}
use Rattle.fork_rules.specs.Regions.{all_places}

-- Where the parts of a resource fork lie, of which resource data and map lie in its bytes.
-- More Macintosh Toolbox, chapter 1, "Resource File Format".
pub record AreParts (p : Parts) (bytes : List ℕ) : Type 0 where
  pub data_start : p.data_start ≡ data_start bytes
  pub data_end : p.data_end ≡ data_end bytes
  pub map_start : p.map_start ≡ map_start bytes
  pub map_end : p.map_end ≡ map_end bytes
  pub type_list : p.type_list ≡ type_list bytes
  pub name_list : p.name_list ≡ name_list bytes
  pub data_inside : p.data_end ≤ length bytes
  pub map_inside : p.map_end ≤ length bytes
  pub small_data : p.data_start < 2 ^ 33
  pub small_map : p.map_start < 2 ^ 33
  pub small_types : p.type_list < 2 ^ 33
  pub small_names : p.name_list < 2 ^ 33

-- Where the parts begin, and where the entries of the type list and the references stand.
pub record ArePlaces (p : Places) (bytes : List ℕ) : Type 0 where
  pub parts : AreParts p.parts bytes
  pub header : p.header ≡ 0 ∷ []
  pub data_start : p.data ≡ data_start bytes ∷ []
  pub map_start : p.map ≡ map_start bytes ∷ []
  pub type_list : p.types ≡ type_list bytes ∷ []
  pub name_list : p.names ≡ name_list bytes ∷ []
  pub map_end : p.rest ≡ map_end bytes ∷ []
  pub entries : p.entries.items ≡ type_places bytes
  pub references : p.references.items ≡ all_places bytes
