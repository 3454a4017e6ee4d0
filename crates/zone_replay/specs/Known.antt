use Rattle.std.specs.Prelude.{ℕ, ◌==◌, ◌^◌, nat_lt, Bool, true, false, ◌&&◌, Option, Some, None, List, [], ◌∷◌}
use Rattle.std.specs.Prelude.{if◌then◌else◌}
use Rattle.std.specs.Borrow.{Bor}
use Rattle.std.specs.BTreeMap.{BTreeMap, get}
use Rattle.std.specs.Cmp.Lexicographic.{slice_cmp}
use Rattle.std.specs.Option.{option_or, option_map}
use Rattle.std.specs.Ordering.{nat_cmp, match_ordering}
use Rattle.mac_words.specs.declared.name.Label.{Label}
use Rattle.res_map.specs.Map.{Reference, has_handle}
use Rattle.res_calls.specs.Files.{OpenFile}
use Rattle.applications.specs.Names.{Bindings}
use Rattle.applications.specs.Trying.{Running}
use Rattle.zone_drawing.specs.declared.line.Owner.{Owner}
use Rattle.zone_drawing.specs.Line.{Tag}

-- What is known of the handles and pointers of an application, each by its number.

-- Whether a name is before one that was found, as their bytes are ordered.
abbrev pub is_before : List ℕ → Option (List ℕ) → Bool
is_before name None = true
is_before name (Some found) = match_ordering (slice_cmp nat_cmp name found) true false false

-- The first of the names, as their bytes are ordered, that are bound to a number, where one may have been found before.
abbrev pub first_of : ℕ → Option (List ℕ) → Bindings → Option (List ℕ)
first_of n found [] = found
first_of n found (b ∷ names) = first_of n (if b.1 == n && is_before b.0 found then Some b.0 else found) names

abbrev pub name_of : ℕ → Bindings → Option (List ℕ)
name_of n names = first_of n None names

-- The resource of a reference in the open file of this number.
abbrev pub owner : ℕ → Reference → Owner
owner file r = record { kind = r.kind; id = r.stored.id; file = file }

-- The resource to which a handle belongs: that of the first reference which has the handle, in one open file, and in
-- all of them, the file opened last first.
abbrev pub owner_in : ℕ → ℕ → List Reference → Option Owner
owner_in n file [] = None
owner_in n file (r ∷ references) = if has_handle n r then Some (owner file r) else owner_in n file references

abbrev pub owner_of : ℕ → List OpenFile → Option Owner
owner_of n [] = None
owner_of n (f ∷ older) = option_or (owner_in n f.number f.map.references) (owner_of n older)

-- A number that is given is below 2 ^ 64.
abbrev pub given : ℕ → Option ℕ
given n = if nat_lt n (2 ^ 64) then Some n else None

-- What is known of a handle or a pointer of an application.
abbrev pub tag : Running → ℕ → Tag
tag r n = record { name = name_of n r.names; owner = owner_of n r.resources.chain; number = given n }

-- What maps hold.

-- A value that is entered at a key.
abbrev pub entered : {X : Type 0} → ℕ → X → ℕ → Option X
entered key value n = if key == n then Some value else None

-- The resource of a reference in the open file of this number, at its handle.
abbrev pub owned : ℕ → ℕ → Reference → Option Owner
owned n file r = if has_handle n r then Some (owner file r) else None

-- A name that is lent, as its bytes.
abbrev pub named_by : Option (Bor Label) → Option (List ℕ)
named_by name = option_map (λ (l : Bor Label). l.now.0.items) name

-- What maps of names and of resources have of a number.
abbrev pub tag_by : BTreeMap ℕ (Bor Label) → BTreeMap ℕ Owner → ℕ → Tag
tag_by names owners n = record { name = named_by (get nat_cmp names n); owner = get nat_cmp owners n; number = given n }
