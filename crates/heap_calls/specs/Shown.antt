use Rattle.std.specs.Prelude.{◌≡◌, ◌⊎◌, ℕ, Some, List}
use Rattle.mac_words.specs.Told.{Told, Bytes}
use Rattle.heap_calls.specs.Table.{Asked, Show, ShowPtr}

-- What a call shows.

-- The bytes that a call shows of a handle or a pointer are these.
abbrev pub Shows : Asked → Told → (ℕ → List ℕ) → Type 0
Shows asked told bytes =
    (h : ℕ) (shown : List ℕ) → (asked ≡ Show (Some h)) ⊎ (asked ≡ ShowPtr (Some h)) → told ≡ Bytes shown
    → shown ≡ bytes h
