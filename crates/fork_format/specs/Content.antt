use Rattle.std.specs.Prelude.{◌≡◌, ◌<◌, ◌≤◌, ◌^◌, IfSome, FitsSigned, ℕ, ℤ, Bool, not, ◌==◌, Option, List, [], ◌∷◌}
use Rattle.std.specs.Prelude.{length, map, filter}
use Rattle.std.specs.List.{flat_map, AllByRecursion}
use Rattle.std.specs.Int.{w16}

-- What a resource fork holds.
-- More Macintosh Toolbox, chapter 1, "Resource Files" and "Resource File Format".

-- A resource: its ID, its name if it has one, its attributes and its stored data.
pub record Ref : Type 0 where
  pub id : ℤ
  pub name : Option (List ℕ)
  pub attrs : ℕ
  pub datum : List ℕ

-- The resources of one type, in order. The type is the number whose four bytes are the type.
-- See decision 127 (in the definitions a type is the big-endian number of its four bytes).
pub record Group : Type 0 where
  pub kind : ℕ
  pub refs : List Ref

-- The content of a fork: the 240 bytes after the header, the attributes of the map, and the resources by type.
pub record Content : Type 0 where
  pub area : List ℕ
  pub attrs : ℕ
  pub groups : List Group

-- The group is of the type.
abbrev pub is_of : ℕ → Group → Bool
is_of kind g = g.kind == kind

-- Each number of the list once, at its first place.
abbrev pub distinct : List ℕ → List ℕ
distinct [] = []
distinct (n ∷ ns) = n ∷ filter (λ m. not (m == n)) (distinct ns)

-- The groups with all resources of a type joined in one group, in the order in which the types first occur.
abbrev pub joined : List Group → List Group
joined groups = map (λ kind. record { kind = kind; refs = flat_map (λ g. g.refs) (filter (is_of kind) groups) })
    (distinct (map (λ g. g.kind) groups))

-- All resources of the groups, in order.
abbrev pub refs_of : List Group → List Ref
refs_of groups = flat_map (λ g. g.refs) groups

-- The limits of a resource's parts: an ID of 16 bits, attributes of one byte, a name of at most 255 bytes.
pub record IsRef (r : Ref) : Type 0 where
  pub id : FitsSigned w16 r.id
  pub attrs : r.attrs < 256
  pub name : IfSome r.name (λ text. length text ≤ 255)

-- Each of the resources keeps the limits of its parts.
abbrev pub AreRefs : List Ref → Type 0
AreRefs refs = AllByRecursion IsRef refs

-- The limits of a group: a type of four bytes, and resources that keep their limits.
pub record IsGroup (g : Group) : Type 0 where
  pub kind : g.kind < 2 ^ 32
  pub refs : AreRefs g.refs

-- Each type has four bytes.
abbrev pub AreKinds : List Group → Type 0
AreKinds groups = AllByRecursion (λ (g : Group). g.kind < 2 ^ 32) groups

-- The resources of each group keep the limits of their parts.
abbrev pub HaveRefs : List Group → Type 0
HaveRefs groups = AllByRecursion (λ (g : Group). AreRefs g.refs) groups

-- The limits of a content: an area of 240 bytes, attributes of two bytes, and groups that keep their limits.
pub record IsContent (c : Content) : Type 0 where
  pub area : length c.area ≡ 240
  pub attrs : c.attrs < 65536
  pub groups : AllByRecursion IsGroup c.groups
