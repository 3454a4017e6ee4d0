use Rattle.std.specs.Prelude.{ℕ, ◌+◌, ◌-◌, ◌==◌, Bool, ◌&&◌, Option, Some, None, List, [], ◌∷◌, ◌++◌, length, take, drop, min}
use Rattle.std.specs.Prelude.{nat_le, bytes_eq, if◌then◌else◌}
use Rattle.mac_words.specs.declared.call.Target as declared
use Rattle.mac_words.specs.declared.call.Target.TheVariants as target
use Rattle.heap_calls.specs.declared.munging.Occurrence.{Occurrence}

-- What Munger replaces in the bytes of a block. Inside Macintosh: Text, chapter 5, "Modifying the Contents of Strings".
-- See decision 244 (`Munger` replaces what it finds, or what stands at the end).

-- Bytes like these, the first of them from an offset on; or so many bytes, those at the offset itself.
pub data Target : Type 0 where
  Like : (bytes : List ℕ) → Target
  Many : (count : ℕ) → Target

-- The same of a call in a script.
abbrev pub target_of : declared.Target → Target
target_of (target.Bytes bytes) = Like bytes.items
target_of (target.Length n) = Many n

abbrev pub occurrence : ℕ → ℕ → Occurrence
occurrence at count = record { at = at; count = count }

-- Whether bytes begin with x.
abbrev pub begins : List ℕ → List ℕ → Bool
begins x bytes = nat_le (length x) (length bytes) && bytes_eq (take (length x) bytes) x

-- The offset of the first bytes like x, counted from n.
abbrev pub first_from : ℕ → List ℕ → List ℕ → Option ℕ
first_from n x [] = if begins x [] then Some n else None
first_from n x (b ∷ bytes) = if begins x (b ∷ bytes) then Some n else first_from (n + 1) x bytes

-- The bytes from the offset i on, where there are some and x begins with them.
abbrev pub rest_like : List ℕ → ℕ → List ℕ → Option Occurrence
rest_like x i rest = if length rest == 0 then None else if begins rest x then Some (occurrence i (length rest)) else None

-- The bytes at this offset that are like x; where there are none, what the rest of the bytes is.
abbrev pub found_at : Option ℕ → List ℕ → ℕ → List ℕ → Option Occurrence
found_at None x i rest = rest_like x i rest
found_at (Some at) x i rest = Some (occurrence at (length x))

-- What is found in bytes from the offset i on.
abbrev pub found_in : Target → ℕ → List ℕ → Option Occurrence
found_in (Like x) i bytes = found_at (first_from i x (drop i bytes)) x i (drop i bytes)
found_in (Many n) i bytes = Some (occurrence i (min n (length bytes - i)))

-- The bytes that stand behind the new ones.
abbrev pub behind : Occurrence → List ℕ → List ℕ
behind found bytes = drop (found.at + found.count) bytes

-- Bytes with others in the place of what was found; as they are where nothing was.
abbrev pub munged : Option Occurrence → List ℕ → List ℕ → List ℕ
munged None new bytes = bytes
munged (Some found) new bytes = take found.at bytes ++ new ++ behind found bytes
