use Rattle.std.specs.Prelude.{ℕ, ◌+◌, Bool, true, ◌==◌, ◌||◌, not, nat_le, ◌&&◌, Result, Ok, Err, List, [], ◌∷◌}
use Rattle.std.specs.Prelude.{length, take, drop, unwrap_or, if◌then◌else◌}
use Rattle.std.specs.List.{position}
use Rattle.script_text.specs.declared.fault.FaultKind.{FaultKind}
use Rattle.script_text.specs.declared.fault.FaultKind.TheVariants.{BadArgument}

-- Whether a byte is a blank: a space or a tab.
-- See decision 117 (blanks and ends of lines are taken strictly).
abbrev pub is_blank : ℕ → Bool
is_blank c = c == 32 || c == 9

-- The place of the first byte that passes a test, or the end of the text.
abbrev pub place : (ℕ → Bool) → List ℕ → ℕ
place test text = unwrap_or (position test text) (length text)

-- The text without its leading blanks.
unfoldable pub after_blanks : List ℕ → List ℕ
after_blanks text = drop (place (λ b. not (is_blank b)) text) text

-- The length of the token at the front of a text: up to its closing quote, six bytes for a type, or up to the first
-- blank.
abbrev pub token_len : List ℕ → ℕ
token_len [] = 0
token_len (c ∷ rest) =
    if c == 34 then place (λ b. b == 34) rest + 2
    else if c == 39 then 6
    else place is_blank (c ∷ rest)

-- Whether a token may end before this text: at the end of the line, or at a blank.
abbrev pub may_end : List ℕ → Bool
may_end [] = true
may_end (c ∷ rest) = is_blank c

-- A text cut after n bytes, where a token may end there.
abbrev pub cut_token : ℕ → List ℕ → Result (List ℕ × List ℕ) FaultKind
cut_token n text =
    if nat_le n (length text) && may_end (drop n text) then Ok (take n text, drop n text) else Err BadArgument

-- The token at the front of a text, and the text after it.
unfoldable pub token_at : List ℕ → Result (List ℕ × List ℕ) FaultKind
token_at text = cut_token (token_len text) text
