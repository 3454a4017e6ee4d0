use Rattle.std.specs.Prelude.{ℕ, suc, Bool, true, false, Option, Some, None, List, [], ◌∷◌, ◌==◌}
use Rattle.res_map.specs.Map.{Reference}

-- The place after the last reference of a type, from whether the first reference is of the type and from the place
-- after the last of the others; none where there is no reference of the type.
abbrev pub end_after : Bool → Option ℕ → Option ℕ
end_after here (Some n) = Some (suc n)
end_after true None = Some 1
end_after false None = None

-- The place after the last reference of a type, if there is a reference of the type.
abbrev pub end_of : ℕ → List Reference → Option ℕ
end_of kind [] = None
end_of kind (r ∷ references) = end_after (r.kind == kind) (end_of kind references)
