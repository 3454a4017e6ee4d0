use mir.Syntax.{Ty}
use base.Fml.{Fml, ftrue}
use denote.RattleType.{RattleType}
use denote.RawPtr.{Ptr}
use Rattle.std.specs.Prelude.{Option, Some, None}
use Rattle.std.specs.Box.Ownership.{box_owns}

-- What a pointer that C keeps owns: the box there and the right to free it, or nothing.
abbrev pub owns_if : (Ty → Ptr → Fml) → (R : RattleType) → Ptr → Option R.Denot → Fml
owns_if frees R at None = ftrue
owns_if frees R at (Some value) = box_owns frees R at value
