use Rattle.std.specs.Prelude.{Option, Some, None, Bool, if◌then◌else◌}

-- One step after another, where each may have nothing to go on with.

infixl 10 ◌>>=◌
abbrev pub ◌>>=◌ : {A B : Type 0} → Option A → (A → Option B) → Option B
(Some x) >>= f = f x
None >>= f = None

-- A value where something holds.
abbrev pub given : {A : Type 0} → Bool → A → Option A
given holds x = if holds then Some x else None
