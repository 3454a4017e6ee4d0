use Rattle.std.specs.Prelude.{◌≡◌, ℕ, ℤ, zero, suc, ◌-◌, Bool, true, false, not, ◌&&◌, ◌||◌, ◌==◌, Option, Some, None, List, [], ◌∷◌}
use Rattle.std.specs.Prelude.{◌++◌, length, take, replicate, map, filter, if◌then◌else◌, option_map, unwrap_or, slice_get, bytes_eq}
use Rattle.std.specs.List.{flat_map, list_all, list_any}
use Rattle.std.specs.Ordering.{int_eq}
use Rattle.std.specs.Str.{str_to_ascii_lowercase}
use Rattle.fork_format.specs.Content.{Ref, Group, Content, distinct}
use Rattle.mac_words.specs.Attributes.{has_bit, unchanged}
use Rattle.mac_words.specs.declared.attributes.TheConstants.Attrs.{PROTECTED, PRELOAD, CHANGED}
use Rattle.res_map.specs.Split.{Split, behind}

-- The resource map of an open file: its references in order, each with its handle, if it has one.
-- More Macintosh Toolbox, chapter 1, "The Resource Map".

-- A resource reference: its type, what the file stores of it (ID, name, attributes and stored data), and its handle, if
-- it has one.
pub record Reference : Type 0 where
  pub kind : ℕ
  pub stored : Ref
  pub handle : Option ℕ

-- A resource map: the 240 bytes after the fork's header, the attributes of the map, and the references in order.
-- See decision 41 (a resource map keeps its references in one flat list).
pub record Map : Type 0 where
  pub area : List ℕ
  pub attrs : ℕ
  pub references : List Reference

-- The resource was changed in memory since its stored data was written (resChanged).
abbrev pub is_changed : Reference → Bool
is_changed r = has_bit CHANGED r.stored.attrs

-- The resource is read when its file is opened (resPreload).
abbrev pub is_preload : Reference → Bool
is_preload r = has_bit PRELOAD r.stored.attrs

-- The resource is protected from changes (resProtected).
abbrev pub is_protected : Reference → Bool
is_protected r = has_bit PROTECTED r.stored.attrs

-- The reference is of the type.
abbrev pub is_of : ℕ → Reference → Bool
is_of kind r = r.kind == kind

-- The reference is of the type and ID.
abbrev pub is_resource : ℕ → ℤ → Reference → Bool
is_resource kind id r = r.kind == kind && int_eq r.stored.id id

-- The text matches the name, where ASCII letters match in either case; no text matches where there is no name.
-- See decision 49 (a name of 0 bytes is a name).
abbrev pub same_name : List ℕ → Option (List ℕ) → Bool
same_name text None = false
same_name text (Some name) = bytes_eq (str_to_ascii_lowercase name) (str_to_ascii_lowercase text)

-- The reference is of the type, and the text matches its name.
abbrev pub is_named : ℕ → List ℕ → Reference → Bool
is_named kind text r = r.kind == kind && same_name text r.stored.name

-- The handle is h.
abbrev pub is_handle : ℕ → Option ℕ → Bool
is_handle h None = false
is_handle h (Some g) = g == h

-- The reference has the handle h.
abbrev pub has_handle : ℕ → Reference → Bool
has_handle h r = is_handle h r.handle

-- The reference with this handle, or with none.
abbrev pub with_handle : Option ℕ → Reference → Reference
with_handle handle r = record r { handle = handle }

-- The reference with other things stored of it.
abbrev pub with_stored : Ref → Reference → Reference
with_stored stored r = record r { stored = stored }

-- The reference with other attributes.
abbrev pub with_attrs : ℕ → Reference → Reference
with_attrs attrs r = with_stored (record r.stored { attrs = attrs }) r

-- The name that a text spells; the empty text leaves the name as it was.
abbrev pub name_by : List ℕ → Option (List ℕ) → Option (List ℕ)
name_by [] old = old
name_by (b ∷ text) old = Some (b ∷ text)

-- The reference with another ID, and with another name where the text isn't empty.
abbrev pub renamed : ℤ → List ℕ → Reference → Reference
renamed id text r = with_stored (record r.stored { id = id; name = name_by text r.stored.name }) r

-- The reference with other stored data, where bytes are given, and without resChanged.
abbrev pub stored_anew : Option (List ℕ) → Reference → Reference
stored_anew bytes r =
    with_stored (record r.stored { attrs = unchanged r.stored.attrs; datum = unwrap_or bytes r.stored.datum }) r

-- The reference with other stored data; it is changed in memory as it was, and has the handle that it had.
abbrev pub with_datum : List ℕ → Reference → Reference
with_datum bytes r = with_stored (record r.stored { datum = bytes }) r

-- Stored data cut, or filled with bytes 0, to a size.
abbrev pub resized_datum : ℕ → List ℕ → List ℕ
resized_datum n old = take n old ++ replicate (n - length old) 0

-- The references, each with the bytes that are given for it as its stored data.
abbrev pub all_anew : List (Option (List ℕ)) → List Reference → List Reference
all_anew (bytes ∷ all) (r ∷ references) = stored_anew bytes r ∷ all_anew all references
all_anew all references = references

-- The reference of a resource that is added with its handle: the resource is marked as changed, and has no stored data
-- yet.
abbrev pub new_reference : ℕ → ℤ → List ℕ → ℕ → Reference
new_reference kind id text h = record {
  kind = kind;
  stored = record { id = id; name = name_by text None; attrs = CHANGED; datum = [] };
  handle = Some h;
}

-- The references with one more, which is the last of its type; where the type is new, it is the last of all.
abbrev pub added : Reference → List Reference → List Reference
added new [] = new ∷ []
added new (r ∷ references) =
    if r.kind == new.kind && not (list_any (λ (x : Reference). x.kind == new.kind) references)
    then r ∷ new ∷ references else r ∷ added new references

-- The types of the references, in the order of the first reference of each.
-- See decision 64 (a type whose last reference is removed is gone).
abbrev pub types : List Reference → List ℕ
types references = distinct (map (λ r. r.kind) references)

-- The references of one type, in order.
abbrev pub of_type : ℕ → List Reference → List Reference
of_type kind references = filter (is_of kind) references

-- The list of types begins with this type.
abbrev pub starts_with : ℕ → List ℕ → Bool
starts_with kind [] = false
starts_with kind (k ∷ kinds) = k == kind

-- In the list of the references' types, no type comes again after another one.
abbrev pub stand_together : List ℕ → Bool
stand_together [] = true
stand_together (k ∷ kinds) = (starts_with k kinds || list_all (λ m. not (m == k)) kinds) && stand_together kinds

-- The law of a file's references, and of the types that are kept beside them: each type is kept once, in the order of
-- the first references, and the references of one type stand together.
pub record IsOrdered (kinds : List ℕ) (references : List Reference) : Type 0 where
  pub types : kinds ≡ types references
  pub together : stand_together (map (λ r. r.kind) references) ≡ true

-- The n-th item of a list, from 1.
abbrev pub nth : {A : Type 0} → ℕ → List A → Option A
nth zero xs = None
nth (suc n) xs = slice_get xs n

-- The n-th item that passes the test, from 1, in its place.
abbrev pub split_nth : {A : Type 0} → ℕ → (A → Bool) → List A → Option (Split A)
split_nth n test [] = None
split_nth n test (x ∷ xs) =
    if test x && n == 1 then Some (record { before = []; here = x; after = xs })
    else option_map (behind x) (split_nth (if test x then n - 1 else n) test xs)

-- The reference of a resource that is read: it has no handle.
abbrev pub read_reference : ℕ → Ref → Reference
read_reference kind r = record { kind = kind; stored = r; handle = None }

-- The references of a group, none of them with a handle.
abbrev pub of_group : Group → List Reference
of_group g = map (read_reference g.kind) g.refs

-- The references of a content's groups, in order.
abbrev pub of_groups : List Group → List Reference
of_groups groups = flat_map of_group groups

-- The group of a type: what is stored of its references, in order.
abbrev pub group_of : List Reference → ℕ → Group
group_of references kind = record { kind = kind; refs = map (λ (r : Reference). r.stored) (of_type kind references) }

-- The groups of the references, by type.
abbrev pub groups_of : List Reference → List Group
groups_of references = map (group_of references) (types references)

-- The content that a map makes: what the file's fork is to hold.
abbrev pub content : Map → Content
content m = record { area = m.area; attrs = m.attrs; groups = groups_of m.references }

-- The map of a content, as its file is opened.
abbrev pub map_of : Content → Map
map_of c = record { area = c.area; attrs = c.attrs; references = of_groups c.groups }
