use Rattle.std.specs.Prelude.{ℕ, suc, List, [], ◌∷◌, map, take, drop, if◌then◌else◌}
use Rattle.fork_format.specs.Content.{Group}
use Rattle.res_map.specs.Map.{Reference, is_of}

-- References of one type that stand one after another.

-- The number of references before the first one of another type.
abbrev pub leading_count : ℕ → List Reference → ℕ
leading_count kind [] = 0
leading_count kind (r ∷ references) = if is_of kind r then suc (leading_count kind references) else 0

-- What is stored of the references, as a group of a type.
abbrev pub stored_group : ℕ → List Reference → Group
stored_group kind references = record { kind = kind; refs = map (λ (r : Reference). r.stored) references }

-- For each type in turn, the group of the references of that type with which the remaining references begin.
abbrev pub leading_groups : List ℕ → List Reference → List Group
leading_groups [] references = []
leading_groups (kind ∷ kinds) references = stored_group kind (take (leading_count kind references) references)
    ∷ leading_groups kinds (drop (leading_count kind references) references)
