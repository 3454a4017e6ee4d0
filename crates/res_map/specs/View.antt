use Rattle.std.specs.Prelude.{ℕ, Option, List, Vec, map, option_map}
use Rattle.std.specs.declared.alloc.Global.{Global}
use Rattle.byteorder.specs.Endian.{big_number}
use Rattle.fork_format.specs.View.{view_ref}
use Rattle.res_map.specs.declared.stored.StoredName.{StoredName}
use Rattle.res_map.specs.declared.stored.StoredReference.{StoredReference}
use Rattle.res_map.specs.declared.lent.LentReference.{LentReference}
use Rattle.res_map.specs.Map.{Reference}

-- A name as a value, without the place where it lies in memory.
abbrev pub view_name : Option StoredName → Option (List ℕ)
view_name name = option_map (λ (n : StoredName). n.bytes.items) name

-- A reference as a value.
abbrev pub view_reference : StoredReference → Reference
view_reference r = record {
  kind = r.kind;
  stored = record {
    id = r.id;
    name = view_name r.rest.value.name;
    attrs = r.attrs.0;
    datum = r.rest.value.datum.items;
  };
  handle = r.rest.value.handle;
}

-- A reference that is lent as a value.
abbrev pub view_lent : LentReference → Reference
view_lent e = record { kind = big_number 4 e.ty.0; stored = view_ref e.stored; handle = e.handle }

-- Bytes that may be given, as a value.
abbrev pub view_bytes : Option (Vec ℕ Global) → Option (List ℕ)
view_bytes bytes = option_map (λ (v : Vec ℕ Global). v.items) bytes

-- The bytes that may be given for each of many references, as values.
abbrev pub view_all : List (Option (Vec ℕ Global)) → List (Option (List ℕ))
view_all all = map view_bytes all
