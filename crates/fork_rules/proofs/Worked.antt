use Rattle.fork_rules.proofs.Cited.{◌≡◌, ℕ, List, [], ◌∷◌, ◌++◌, take, drop, set, replicate, true, false, refl, None, pos, codes, digits}
use Rattle.fork_rules.proofs.Cited.{OsType, canon, is_fork, content_of, empty_fork, hi_fork, note_fork, ResourceKey, broken, broken_at}
use Rattle.fork_rules.proofs.Cited.{differences, shares_data, orders_data, why_text}
use Rattle.fork_rules.specs.declared.rules.Rule.TheVariants as rule
use Rattle.fork_rules.specs.declared.regions.Region.TheVariants as region

-- forks, which break no rule
whole : (broken empty_fork ≡ None) × (broken hi_fork ≡ None) × (broken note_fork ≡ None)
whole = (refl, refl, refl)

-- cut off in the header, and in the map
cut : (broken [] ≡ broken_at rule.HeaderCutOff 0) × (broken (take 15 hi_fork) ≡ broken_at rule.HeaderCutOff 0)
    × (broken (take 311 hi_fork) ≡ broken_at rule.MapOutside 4)
cut = (refl, refl, refl)

-- 262 bytes of resource data in place of 6, and a map of 29 bytes
lengths : (broken (set hi_fork 10 1) ≡ broken_at rule.DataOutside 0)
    × (broken (set hi_fork 15 29) ≡ broken_at rule.MapTooShort 12)
lengths = (refl, refl)

-- a type list that begins 49 bytes above the start of the map, which has 50; one that begins 29 bytes above, where 85
-- types are counted
type_lists : (broken (set hi_fork 287 49) ≡ broken_at rule.TypeListOutside 286)
    × (broken (set hi_fork 287 29) ≡ broken_at rule.EntriesOutside 291)
type_lists = (refl, refl)

-- two types with 65,536 references and one
many : broken (set (set (set hi_fork 291 1) 296 255) 297 255) ≡ broken_at rule.TooManyReferences 290
many = refl

-- the type of these forks
abbrev text : OsType
text = record { 0 = 84 ∷ 69 ∷ 88 ∷ 84 ∷ [] }

abbrev key : ℕ → ResourceKey
key n = record { ty = text; id = pos n }

-- a second reference, above the end of the map
abbrev two_refs : List ℕ
two_refs = set hi_fork 297 1 ++ (0 ∷ 129 ∷ 255 ∷ 255 ∷ 0 ∷ 0 ∷ 0 ∷ 0 ∷ 0 ∷ 0 ∷ 0 ∷ 0 ∷ [])

second : broken two_refs ≡ broken_at (rule.ReferenceOutside text) 292
second = refl

-- a name and stored data that begin too far up, and stored data that is longer than the resource data
far : (broken (set note_fork 304 5) ≡ broken_at (rule.NameOutside (key 129)) 303)
    × (broken (set hi_fork 307 3) ≡ broken_at (rule.DatumOutside (key 128)) 305)
    × (broken (set hi_fork 259 3) ≡ broken_at (rule.DatumOutside (key 128)) 305)
far = (refl, refl, refl)

-- a canonical fork differs from itself in nothing; other forks of the same content, each in what was changed: the copy of
-- the header, the handle to the next map, the attributes of the map (mapChanged), those of a resource (resChanged), the
-- handle to a resource, a byte after the map
changed : (differences hi_fork hi_fork ≡ []) × (differences (set hi_fork 262 9) hi_fork ≡ region.HeaderCopy ∷ [])
    × (differences (set hi_fork 281 9) hi_fork ≡ region.NextMap ∷ [])
    × (differences (set hi_fork 285 32) hi_fork ≡ region.MapAttributes ∷ [])
    × (differences (set hi_fork 304 2) hi_fork ≡ region.Attributes ∷ [])
    × (differences (set hi_fork 311 1) hi_fork ≡ region.Handles ∷ [])
    × (differences (hi_fork ++ 9 ∷ []) hi_fork ≡ region.Rest ∷ [])
changed = (refl, refl, refl, refl, refl, refl, refl)

-- the map before the resource data
map_first : differences ((0 ∷ 0 ∷ 1 ∷ 50 ∷ 0 ∷ 0 ∷ 1 ∷ 0 ∷ 0 ∷ 0 ∷ 0 ∷ 6 ∷ 0 ∷ 0 ∷ 0 ∷ 50 ∷ []) ++ replicate 240 0
    ++ drop 262 hi_fork ++ take 6 (drop 256 hi_fork)) hi_fork
    ≡ region.DataOffset ∷ region.MapOffset ∷ region.HeaderCopy ∷ region.Rest ∷ []
map_first = refl

-- two resources whose stored data is shared, and the canonical fork of their content
abbrev two : List ℕ → List ℕ → ℕ → List ℕ
two header data_bytes second = header ++ replicate 240 0 ++ data_bytes ++ header ++ replicate 8 0
    ++ (0 ∷ 28 ∷ 0 ∷ 62 ∷ 0 ∷ 0 ∷ 84 ∷ 69 ∷ 88 ∷ 84 ∷ 0 ∷ 1 ∷ 0 ∷ 10 ∷ [])
    ++ (0 ∷ 128 ∷ 255 ∷ 255 ∷ 0 ∷ 0 ∷ 0 ∷ 0 ∷ 0 ∷ 0 ∷ 0 ∷ 0 ∷ [])
    ++ (0 ∷ 129 ∷ 255 ∷ 255 ∷ 0 ∷ 0 ∷ 0 ∷ second ∷ 0 ∷ 0 ∷ 0 ∷ 0 ∷ [])

abbrev hi_bytes : List ℕ
hi_bytes = 0 ∷ 0 ∷ 0 ∷ 2 ∷ 72 ∷ 105 ∷ []

abbrev shared : List ℕ
shared = two (0 ∷ 0 ∷ 1 ∷ 0 ∷ 0 ∷ 0 ∷ 1 ∷ 6 ∷ 0 ∷ 0 ∷ 0 ∷ 6 ∷ 0 ∷ 0 ∷ 0 ∷ 62 ∷ []) hi_bytes 0

abbrev apart : List ℕ
apart = two (0 ∷ 0 ∷ 1 ∷ 0 ∷ 0 ∷ 0 ∷ 1 ∷ 12 ∷ 0 ∷ 0 ∷ 0 ∷ 12 ∷ 0 ∷ 0 ∷ 0 ∷ 62 ∷ []) (hi_bytes ++ hi_bytes) 6

is_canonical : (is_fork shared ≡ true) × (canon (content_of shared) ≡ apart)
is_canonical = (refl, refl)

sharing : differences shared apart
    ≡ region.MapOffset ∷ region.DataLength ∷ region.Data ∷ region.DatumOffsets ∷ []
sharing = refl

-- what is said of them
said : (why_text hi_fork ≡ codes "canonical")
    × (why_text (set hi_fork 287 49) ≡ codes "damaged: the type list lies outside the map, at 286")
    × (why_text (set note_fork 304 5) ≡ codes "damaged: the name of 'TEXT' 129 lies outside the map, at 303")
    × (why_text (set hi_fork 311 1) ≡ codes "accepted: handles to resources")
unfolding digits lib.Utf8.encode
said = (refl, refl, refl, refl)

said_of_sharing : why_text shared
    ≡ codes "accepted: offset of the map, length of the resource data, resource data, offsets of the data"
said_of_sharing = refl

-- stored data that is shared, and stored data in the order of the references
order : (shares_data shared ≡ true) × (orders_data shared ≡ true) × (shares_data apart ≡ false) × (orders_data apart ≡ true)
order = (refl, refl, refl, refl)
