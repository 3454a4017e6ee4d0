use Rattle.std.specs.Prelude.{Bool, Result, Ok, Err, if◌then◌else◌}
use Rattle.rez_declarations.specs.declared.unsound.Unsound.{Unsound}

-- Judgements in turn: the first fault stays.

infixl 10 ◌>>=◌
abbrev pub ◌>>=◌ : {A B : Type 0} → Result A Unsound → (A → Result B Unsound) → Result B Unsound
(Ok x) >>= f = f x
(Err e) >>= f = Err e

-- A fault where something is wrong.
abbrev pub unless : {A : Type 0} → Bool → Unsound → A → Result A Unsound
unless wrong fault x = if wrong then Err fault else Ok x
