use Rattle.std.specs.Prelude.{ℕ, Option, Some, None, List, [], ◌++◌, length, codes, decimal}
use Rattle.std.specs.List.{flat_map}
use Rattle.std.specs.Fmt.{signed_decimal}
use Rattle.byteorder.specs.Endian.{big_bytes}
use Rattle.script_text.specs.Transcript.{hex}
use Rattle.fork_format.specs.Content.{Ref, Group, Content, refs_of}
use Rattle.fork_edits.specs.Texts.{type_text, name_text}
use Rattle.fork_edits.specs.Lines.{compressed_text}
use Rattle.fork_tasks.specs.declared.listing.Spelling.{Spelling}
use Rattle.fork_tasks.specs.declared.listing.Spelling.TheVariants.{Digits, Readable}

-- The listing of a resource fork. The words are those of More Macintosh Toolbox, chapter 1, "Resource File Format".

-- A type: its four bytes in hexadecimal digits, or as a person reads it.
abbrev pub type_listed : Spelling → ℕ → List ℕ
type_listed Digits kind = codes "$" ++ hex (big_bytes 4 kind)
type_listed (Readable charset) kind = type_text charset kind

-- A name in hexadecimal digits, or `-` for no name.
abbrev pub name_digits : Option (List ℕ) → List ℕ
name_digits None = codes "-"
name_digits (Some name) = codes "$" ++ hex name

-- A name: in hexadecimal digits, or as a person reads it.
abbrev pub name_listed : Spelling → Option (List ℕ) → List ℕ
name_listed Digits name = name_digits name
name_listed (Readable charset) name = name_text charset name

-- The numbers of a resource: its ID, attributes and length.
abbrev pub numbers_listed : Ref → List ℕ
numbers_listed r = codes " " ++ signed_decimal r.id ++ codes " " ++ decimal r.attrs ++ codes " "
    ++ decimal (length r.datum)

-- What is said of the attributes of a resource beside their number: that its data is compressed, where a person reads it.
abbrev pub remark_listed : Spelling → ℕ → List ℕ
remark_listed Digits attrs = []
remark_listed (Readable charset) attrs = compressed_text attrs

-- The line of a resource: its type, numbers and name.
abbrev pub line_of : Spelling → ℕ → Ref → List ℕ
line_of spelling kind r =
    type_listed spelling kind ++ numbers_listed r ++ codes " " ++ name_listed spelling r.name
    ++ remark_listed spelling r.attrs ++ codes "\n"

-- The lines of a type's resources.
abbrev pub group_lines : Spelling → Group → List ℕ
group_lines spelling g = flat_map (line_of spelling g.kind) g.refs

-- The first line: the map's attributes, the number of types, and the number of resources.
abbrev pub head_line : Content → List ℕ
head_line c =
    codes "map " ++ decimal c.attrs ++ codes " " ++ decimal (length c.groups) ++ codes " "
    ++ decimal (length (refs_of c.groups)) ++ codes "\n"

-- The lines above those of the resources, below others that say what the file is.
abbrev pub first_lines : List ℕ → Content → List ℕ
first_lines info c = info ++ head_line c

-- The listing of a content, below the lines that say what its file is.
abbrev pub listing : Spelling → List ℕ → Content → List ℕ
listing spelling info c = first_lines info c ++ flat_map (group_lines spelling) c.groups
