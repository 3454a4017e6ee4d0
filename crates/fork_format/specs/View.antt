use Rattle.std.specs.Prelude.{ℕ, Option, List, option_map, map}
use Rattle.byteorder.specs.Endian.{big_number}
use Rattle.fork_format.specs.declared.content.RefName.{RefName}
use Rattle.fork_format.specs.declared.content.Ref.{Ref as StoredRef}
use Rattle.fork_format.specs.declared.content.Group.{Group as StoredGroup}
use Rattle.fork_format.specs.declared.content.Content.{Content as StoredContent}
use Rattle.fork_format.specs.Content.{Ref, Group, Content}

-- A name as a value, without the place where it lies in memory.
abbrev pub view_name : Option RefName → Option (List ℕ)
view_name name = option_map (λ (n : RefName). n.bytes.now) name

-- A resource as a value.
abbrev pub view_ref : StoredRef → Ref
view_ref r = record { id = r.id; name = view_name r.name; attrs = r.attrs.0; datum = r.datum.now }

-- A group as a value.
abbrev pub view_group : StoredGroup → Group
view_group g = record { kind = big_number 4 g.ty.0; refs = map view_ref g.refs.items }

-- A content as a value.
abbrev pub view : StoredContent → Content
view c = record { area = c.area; attrs = c.attrs; groups = map view_group c.groups.items }
