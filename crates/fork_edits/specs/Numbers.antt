use Rattle.std.specs.Prelude.{ℕ, ℤ, pos, neg_ℤ, ◌+◌, ◌-◌, ◌*◌, ◌&&◌, ◌==◌, nat_le, Option, Some, None, option_map, List, [], ◌∷◌}
use Rattle.std.specs.Prelude.{if◌then◌else◌, drop, length, slice_index}
use Rattle.fork_edits.specs.Types.{is_between}

-- Numbers in decimal.

-- The number that digits stand for, if it is within a limit: the digits follow those of the number n.
abbrev pub number_after : ℕ → ℕ → List ℕ → Option ℕ
number_after limit n [] = Some n
number_after limit n (c ∷ rest) = if is_between 48 57 c && nat_le (10 * n + (c - 48)) limit
    then number_after limit (10 * n + (c - 48)) rest else None

-- The number that a text of one or more digits stands for, if it is within a limit.
abbrev pub number_within : ℕ → List ℕ → Option ℕ
number_within limit text = if length text == 0 then None else number_after limit 0 text

-- An ID that is below 0.
abbrev pub below_zero : Option ℕ → Option ℤ
below_zero number = option_map (λ n. neg_ℤ (pos n)) number

-- The ID that a text stands for, from -32768 to 32767.
abbrev pub id_read : List ℕ → Option ℤ
id_read text = if nat_le 1 (length text) && slice_index text 0 == 45 then below_zero (number_within 32768 (drop 1 text))
    else option_map pos (number_within 32767 text)
