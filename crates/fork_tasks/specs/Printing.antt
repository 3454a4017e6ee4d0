use Rattle.std.specs.Prelude.{◌≡◌, ℕ, Option, List, ◌++◌}
use Rattle.std.specs.Io.KnownBytes.{append_known}

-- What has been printed before and after a call, if it is known.

-- The bytes were printed, except for a rest that was not printed.
-- See decision 167 (`Host` has ghosts of its own: what was printed, and the accesses to files).
abbrev pub PrintsBut : List ℕ → List ℕ → Option (List ℕ) → Option (List ℕ) → Type 0
PrintsBut bytes rest old new = (front : List ℕ) × (bytes ≡ front ++ rest) × (new ≡ append_known old front)

-- A front of the bytes was printed.
abbrev pub PrintsFront : List ℕ → Option (List ℕ) → Option (List ℕ) → Type 0
PrintsFront bytes old new = (rest : List ℕ) × PrintsBut bytes rest old new
