use Rattle.fork_format.proofs.Cited.{◌≡◌, ℕ, true, false, List, [], ◌∷◌, ◌++◌, replicate, take, drop, refl, Some, None, pos, ℤ, Ref}
use Rattle.fork_format.proofs.Cited.{Content, is_fork, Spells, canon, fits}
use Rattle.std.specs.Prelude.{Option}

-- the forks that a document prints
abbrev pub empty_fork : List ℕ
empty_fork = (0 ∷ 0 ∷ 1 ∷ 0 ∷ 0 ∷ 0 ∷ 1 ∷ 0 ∷ 0 ∷ 0 ∷ 0 ∷ 0 ∷ 0 ∷ 0 ∷ 0 ∷ 30 ∷ []) ++ (replicate 240 0)
    ++ (0 ∷ 0 ∷ 1 ∷ 0 ∷ 0 ∷ 0 ∷ 1 ∷ 0 ∷ 0 ∷ 0 ∷ 0 ∷ 0 ∷ 0 ∷ 0 ∷ 0 ∷ 30 ∷ 0 ∷ 0 ∷ 0 ∷ 0 ∷ 0 ∷ 0 ∷ 0 ∷ 0 ∷ 0
    ∷ 28 ∷ 0 ∷ 30 ∷ 255 ∷ 255 ∷ [])

abbrev pub hi_fork : List ℕ
hi_fork = (0 ∷ 0 ∷ 1 ∷ 0 ∷ 0 ∷ 0 ∷ 1 ∷ 6 ∷ 0 ∷ 0 ∷ 0 ∷ 6 ∷ 0 ∷ 0 ∷ 0 ∷ 50 ∷ []) ++ (replicate 240 0)
    ++ (0 ∷ 0 ∷ 0 ∷ 2 ∷ 72 ∷ 105 ∷ 0 ∷ 0 ∷ 1 ∷ 0 ∷ 0 ∷ 0 ∷ 1 ∷ 6 ∷ 0 ∷ 0 ∷ 0 ∷ 6 ∷ 0 ∷ 0 ∷ 0 ∷ 50 ∷ 0 ∷ 0 ∷ 0
    ∷ 0 ∷ 0 ∷ 0 ∷ 0 ∷ 0 ∷ 0 ∷ 28 ∷ 0 ∷ 50 ∷ 0 ∷ 0 ∷ 84 ∷ 69 ∷ 88 ∷ 84 ∷ 0 ∷ 0 ∷ 0 ∷ 10 ∷ 0 ∷ 128 ∷ 255 ∷ 255
    ∷ 0 ∷ 0 ∷ 0 ∷ 0 ∷ 0 ∷ 0 ∷ 0 ∷ 0 ∷ [])

abbrev pub note_fork : List ℕ
note_fork = (0 ∷ 0 ∷ 1 ∷ 0 ∷ 0 ∷ 0 ∷ 1 ∷ 7 ∷ 0 ∷ 0 ∷ 0 ∷ 7 ∷ 0 ∷ 0 ∷ 0 ∷ 55 ∷ []) ++ (replicate 240 0)
    ++ (0 ∷ 0 ∷ 0 ∷ 3 ∷ 72 ∷ 105 ∷ 33 ∷ 0 ∷ 0 ∷ 1 ∷ 0 ∷ 0 ∷ 0 ∷ 1 ∷ 7 ∷ 0 ∷ 0 ∷ 0 ∷ 7 ∷ 0 ∷ 0 ∷ 0 ∷ 55 ∷ 0
    ∷ 0 ∷ 0 ∷ 0 ∷ 0 ∷ 0 ∷ 0 ∷ 0 ∷ 0 ∷ 28 ∷ 0 ∷ 50 ∷ 0 ∷ 0 ∷ 84 ∷ 69 ∷ 88 ∷ 84 ∷ 0 ∷ 0 ∷ 0 ∷ 10 ∷ 0 ∷ 129 ∷ 0
    ∷ 0 ∷ 0 ∷ 0 ∷ 0 ∷ 0 ∷ 0 ∷ 0 ∷ 0 ∷ 0 ∷ 4 ∷ 78 ∷ 111 ∷ 116 ∷ 101 ∷ [])

-- a resource
abbrev pub a_ref : ℤ → Option (List ℕ) → ℕ → List ℕ → Ref
a_ref id name attrs datum = record { id = id; name = name; attrs = attrs; datum = datum }

-- their contents
abbrev pub no_content : Content
no_content = record { area = replicate 240 0; attrs = 0; groups = [] }

abbrev pub one_text : Ref → Content
one_text r = record { area = replicate 240 0; attrs = 0; groups = record { kind = 0x54455854; refs = r ∷ [] } ∷ [] }

abbrev pub hi : Content
hi = one_text (record { id = pos 128; name = None; attrs = 0; datum = 72 ∷ 105 ∷ [] })

abbrev pub note : Content
note = one_text (record {
  id = pos 129;
  name = Some (78 ∷ 111 ∷ 116 ∷ 101 ∷ []);
  attrs = 0;
  datum =
      72 ∷ 105 ∷ 33 ∷ [];
})

canon-empty : canon no_content ≡ empty_fork
canon-empty = refl

canon-hi : canon hi ≡ hi_fork
canon-hi = refl

canon-note : canon note ≡ note_fork
canon-note = refl

empty_spelled : Spells empty_fork no_content
empty_spelled = record { fork = refl; content = refl }

hi_spelled : Spells hi_fork hi
hi_spelled = record { fork = refl; content = refl }

note_spelled : Spells note_fork note
note_spelled = record { fork = refl; content = refl }

all_fit : (fits no_content ≡ true) × (fits hi ≡ true) × (fits note ≡ true)
all_fit = (refl, refl, refl)

-- cut short
cut : is_fork (take 305 hi_fork) ≡ false
cut = refl

cut_early : is_fork (take 15 hi_fork) ≡ false
cut_early = refl

cut_by_one : is_fork (take 317 note_fork) ≡ false
cut_by_one = refl

-- the reference list leaves the map
abbrev two_refs : List ℕ
two_refs = take 296 hi_fork ++ (0 ∷ 1 ∷ []) ++ drop 298 hi_fork
    ++ (0 ∷ 129 ∷ 255 ∷ 255 ∷ 0 ∷ 0 ∷ 0 ∷ 0 ∷ 0 ∷ 0 ∷ 0 ∷ 0 ∷ [])

too_many : is_fork two_refs ≡ false
too_many = refl

-- the map's copy of the header may hold anything
no_copy : Spells (take 262 hi_fork ++ replicate 16 0 ++ drop 278 hi_fork) hi
no_copy = record { fork = refl; content = refl }

-- the map before the data, from 256 on
map_first : Spells ((0 ∷ 0 ∷ 1 ∷ 50 ∷ 0 ∷ 0 ∷ 1 ∷ 0 ∷ 0 ∷ 0 ∷ 0 ∷ 6 ∷ 0 ∷ 0 ∷ 0 ∷ 50 ∷ []) ++ replicate 240 0
    ++ drop 262 hi_fork ++ take 6 (drop 256 hi_fork)) hi
map_first = record { fork = refl; content = refl }

-- a datum or a type list that leaves its part
far_datum : is_fork (take 307 hi_fork ++ (3 ∷ []) ++ drop 308 hi_fork) ≡ false
far_datum = refl

odd_types : is_fork (take 287 hi_fork ++ (29 ∷ []) ++ drop 288 hi_fork) ≡ false
odd_types = refl

-- the most references of one type that fit, and one more
abbrev many : ℕ → Content
many n = record {
  area = replicate 240 0;
  attrs = 0;
  groups =
      record { kind = 0x54455854; refs = replicate n (record { id = pos 0; name = None; attrs = 0; datum = [] }) } ∷ [];
}

most_refs : (fits (many 5458) ≡ true) × (fits (many 5459) ≡ false)
most_refs = (refl, refl)
