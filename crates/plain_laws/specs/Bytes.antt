use Rattle.std.specs.Prelude.{ℕ, ◌<◌, List}
use Rattle.std.specs.List.{AllByRecursion}

-- Bytes are numbers below 256.
abbrev pub AreBytes : List ℕ → Type 0
AreBytes bytes = AllByRecursion (λ (b : ℕ). b < 256) bytes
