use Rattle.std.specs.Prelude.{ℕ, Bool, true, false, ◌||◌, ◌==◌, nat_le, Option, Some, None, List, [], ◌∷◌, ◌++◌}
use Rattle.std.specs.Prelude.{if◌then◌else◌, length}
use Rattle.fork_edits.specs.declared.quoted.Within.{Within}
use Rattle.fork_edits.specs.declared.quoted.Within.TheVariants as within
use Rattle.fork_edits.specs.Types.{byte_value}

-- Names in double quotes. A reader takes them byte by byte.

-- A byte where it has a value, or none.
abbrev pub as_list : Option ℕ → List ℕ
as_list None = []
as_list (Some b) = b ∷ []

-- Where a reader stands after two hexadecimal digits.
abbrev pub after_digits : Option ℕ → Option Within
after_digits None = None
after_digits (Some b) = Some within.Quotes

-- Where a reader stands after a byte, unless the byte can't stand there. Quotes end the name, unless they stand after a backslash.
abbrev pub next_within : Within → ℕ → Option Within
next_within within.Start b = if b == 34 then Some within.Quotes else None
next_within within.Quotes b = if b == 34 then Some within.End else if b == 92 then Some within.Escape else Some within.Quotes
next_within within.Escape b =
    if b == 48 then Some within.Zero else if b == 34 || b == 92 then Some within.Quotes else None
next_within within.Zero b = if b == 120 then Some within.High else None
next_within within.High b = Some (within.Low b)
next_within (within.Low high) b = after_digits (byte_value high b)
next_within within.End b = None

-- The byte of the name that a byte of the text completes, if it completes one.
abbrev pub completed : Within → ℕ → List ℕ
completed within.Quotes b = if b == 34 || b == 92 then [] else b ∷ []
completed within.Escape b = if b == 48 then [] else b ∷ []
completed (within.Low high) b = as_list (byte_value high b)
completed w b = []

-- A reader stands after the quotes at the end of a name.
abbrev pub is_end : Within → Bool
is_end within.End = true
is_end w = false

-- What follows where a byte may stand.
abbrev pub if_there : Option Within → (Within → Option (List ℕ)) → Option (List ℕ)
if_there None next = None
if_there (Some w) next = next w

-- The name at the end of a text, of which the reader has these bytes.
abbrev pub quoted_from : Within → List ℕ → List ℕ → Option (List ℕ)
quoted_from w name [] = if is_end w then Some name else None
quoted_from w name (b ∷ rest) = if_there (next_within w b) (λ v. quoted_from v (name ++ completed w b) rest)

-- A name has at most 255 bytes.
abbrev pub short_name : Option (List ℕ) → Option (List ℕ)
short_name None = None
short_name (Some name) = if nat_le (length name) 255 then Some name else None

-- The name that a text in double quotes stands for.
abbrev pub quoted_read : List ℕ → Option (List ℕ)
quoted_read text = short_name (quoted_from within.Start [] text)
