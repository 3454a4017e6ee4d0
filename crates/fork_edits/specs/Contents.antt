use Rattle.std.specs.Prelude.{ℕ, ℤ, ◌==◌, Option, Some, None, List, [], ◌++◌, map, if◌then◌else◌, codes, decimal}
use Rattle.std.specs.List.{flat_map, list_all}
use Rattle.mac_roman.specs.declared.charset.Charset.TheVariants.{Ascii}
use Rattle.fork_format.specs.Content.{Content}
use Rattle.fork_edits.specs.Filed.{Filed, filed}
use Rattle.fork_edits.specs.Resources.{rows}
use Rattle.fork_edits.specs.Lines.{key_text}
use Rattle.fork_edits.specs.Texts.{hex_byte, name_text}

-- The list of what a fork holds that stands beside the files of its resources: what the files themselves do not say.

-- What the list says of a resource: its type, its ID, its attributes, the name of its file, and its name if it has one.
pub record Entry : Type 0 where
  pub kind : ℕ
  pub id : ℤ
  pub attrs : ℕ
  pub file : List ℕ
  pub name : Option (List ℕ)

-- What the list says: the attributes of the map, the 240 bytes after the header, and the resources.
pub record Listed : Type 0 where
  pub attrs : ℕ
  pub area : List ℕ
  pub entries : List Entry

-- What the list says of a resource and its file.
abbrev pub entry : Filed → Entry
entry f = record {
  kind = f.row.kind;
  id = f.row.resource.id;
  attrs = f.row.resource.attrs;
  file = f.file;
  name = f.row.resource.name;
}

-- What the list says of a content whose resources have these files.
abbrev pub listed : Content → List Filed → Listed
listed c files = record { attrs = c.attrs; area = c.area; entries = map entry files }

-- The name of a resource that has one.
abbrev pub name_field : Option (List ℕ) → List ℕ
name_field None = []
name_field (Some name) = codes " " ++ name_text Ascii (Some name)

-- The line of a resource: its type and ID, its attributes, the name of its file, and its name.
abbrev pub entry_line : Entry → List ℕ
entry_line e = key_text Ascii e.kind e.id ++ codes " " ++ decimal e.attrs ++ codes " " ++ e.file ++ name_field e.name ++ codes "\n"

-- The line of the map's attributes, if they are not 0.
abbrev pub attrs_line : ℕ → List ℕ
attrs_line attrs = if attrs == 0 then [] else codes "map " ++ decimal attrs ++ codes "\n"

-- The line of the 240 bytes after the header, if they are not all 0.
abbrev pub area_line : List ℕ → List ℕ
area_line area =
    if list_all (λ b. b == 0) area then [] else codes "area " ++ flat_map hex_byte area ++ codes "\n"

-- The list: a line of the map's attributes, one of the 240 bytes, and one of each resource, in their order.
abbrev pub listed_text : Listed → List ℕ
listed_text l = attrs_line l.attrs ++ area_line l.area ++ flat_map entry_line l.entries

-- The list of a content.
abbrev pub contents_text : Content → List ℕ
contents_text c = listed_text (listed c (filed (rows c.groups)))
