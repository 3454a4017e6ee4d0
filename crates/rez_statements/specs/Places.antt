use Rattle.std.specs.Prelude.{ℕ, zero, suc, ◌==◌, Option, Some, None, List, [], ◌∷◌, if◌then◌else◌}
use Rattle.rez_statements.specs.declared.table.DeclaredType.{DeclaredType}

-- The place of the last declaration of a type.
abbrev pub last_place : ℕ → List DeclaredType → Option ℕ
last_place kind [] = None
last_place kind (t ∷ types) =
    elim (last_place kind types) [
      | None ↦ if t.kind == kind then Some zero else None
      | Some place ↦ Some (suc place)
    ]
