use Rattle.std.specs.Prelude.{ℕ, Option, List, Vec, option_map, map}
use Rattle.byteorder.specs.Endian.{big_number}
use Rattle.fork_format.specs.Content.{Ref, Group, Content}
use Rattle.std.specs.declared.alloc.Global.{Global}
use Rattle.rez_text.specs.declared.fault.FileName.{FileName}
use Rattle.rez_text.specs.declared.name.SourceName.{SourceName}
use Rattle.rez_text.specs.declared.source.SourceRef.{SourceRef}
use Rattle.rez_text.specs.declared.source.SourceGroup.{SourceGroup}
use Rattle.fork_format.specs.Canonical.{clear}
use Rattle.rez_text.specs.declared.source.Source.{Source}

-- What a source says, as values.

abbrev pub name_said : Option SourceName → Option (List ℕ)
name_said name = option_map (λ (n : SourceName). n.bytes.items) name

abbrev pub ref_said : SourceRef → Ref
ref_said r = record { id = r.id; name = name_said r.name; attrs = r.attrs; datum = r.datum.items }

abbrev pub group_said : SourceGroup → Group
group_said g = record { kind = big_number 4 g.ty.0; refs = map ref_said g.refs.items }

abbrev pub content_said : Source → Content
content_said s = record { area = s.area; attrs = s.attrs; groups = map group_said s.groups.list.items }

-- The bytes of a vector.
abbrev pub bytes_in : Vec ℕ Global → List ℕ
bytes_in v = v.items

-- The bytes of files, and the names of files.
abbrev pub files_of : List (Vec ℕ Global) → List (List ℕ)
files_of files = map (λ (f : Vec ℕ Global). f.items) files

abbrev pub names_of : List FileName → List (List ℕ)
names_of names = map (λ (n : FileName). n.bytes.items) names

-- The content that a source states: what it says without resChanged, mapCompact and mapChanged, which no stored fork has.
abbrev pub content_stated : Source → Content
content_stated s = clear (content_said s)
