use Rattle.std.specs.Prelude.{ℕ, ◌+◌, ◌-◌, ◌==◌, nat_lt, Bool, true, false, not, ◌&&◌, ◌||◌, List, [], ◌∷◌, length, if◌then◌else◌}
use Rattle.rez_text.specs.declared.mode.Quote.{Quote}
use Rattle.rez_text.specs.declared.mode.Quote.TheVariants as quotes
use Rattle.rez_text.specs.declared.scope.Spot.{Spot}
use Rattle.rez_text.specs.declared.scope.Spot.TheVariants as spot
use Rattle.rez_text.specs.declared.scope.Scope.{Scope}
use Rattle.rez_text.specs.Ascii.{ends_line, quote_byte}

-- Where the text of a statement stands among its braces, quotes and comments.

-- The same elsewhere.
abbrev pub at_spot : Spot → Scope → Scope
at_spot p s = record s { spot = p }

-- One brace deeper: braces are counted up to 255.
abbrev pub deeper : Scope → Scope
deeper s = record { spot = spot.Plain; depth = if nat_lt s.depth 255 then s.depth + 1 else s.depth }

-- One brace less deep.
abbrev pub shallower : Scope → Scope
shallower s = record { spot = spot.Plain; depth = s.depth - 1 }

-- A byte that stands outside of quotes and comments.
abbrev pub plain_step : ℕ → Scope → Scope
plain_step b s =
    if b == 123 then deeper s
    else if b == 125 then shallower s
    else if b == 34 then at_spot (spot.Quoted quotes.Double) s
    else if b == 39 then at_spot (spot.Quoted quotes.Single) s
    else if b == 36 then at_spot spot.Dollar s
    else if b == 47 then at_spot spot.Slash s
    else at_spot spot.Plain s

-- A byte after a `/`.
abbrev pub slash_step : ℕ → Scope → Scope
slash_step b s =
    if b == 42 then at_spot spot.Comment s
    else if b == 47 then at_spot spot.LineComment s
    else plain_step b s

-- A byte after a `$`.
abbrev pub dollar_step : ℕ → Scope → Scope
dollar_step b s = if b == 34 then at_spot spot.Hexadecimal s else plain_step b s

-- A byte in a hexadecimal string, which may go over lines.
abbrev pub hexadecimal_step : ℕ → Scope → Scope
hexadecimal_step b s = if b == 34 then at_spot spot.Plain s else s

-- A byte in a comment that `*/` ends, and one after a `*` there.
abbrev pub comment_step : ℕ → Scope → Scope
comment_step b s = if b == 42 then at_spot spot.Star s else at_spot spot.Comment s

abbrev pub star_step : ℕ → Scope → Scope
star_step b s = if b == 47 then at_spot spot.Plain s else comment_step b s

-- A byte in a comment that the line's end ends.
abbrev pub line_step : ℕ → Scope → Scope
line_step b s = if ends_line b then at_spot spot.Plain s else s

-- A byte between quotes, which the line's end ends too.
abbrev pub quoted_step : Quote → ℕ → Scope → Scope
quoted_step q b s =
    if b == quote_byte q || ends_line b then at_spot spot.Plain s
    else if b == 92 then at_spot (spot.Escaped q) s
    else s

-- A byte after a `\` there.
abbrev pub escaped_step : Quote → ℕ → Scope → Scope
escaped_step q b s = if ends_line b then at_spot spot.Plain s else at_spot (spot.Quoted q) s

-- One more byte.
abbrev pub step_at : Spot → ℕ → Scope → Scope
step_at spot.Plain b s = plain_step b s
step_at spot.Slash b s = slash_step b s
step_at spot.Comment b s = comment_step b s
step_at spot.Star b s = star_step b s
step_at spot.LineComment b s = line_step b s
step_at spot.Dollar b s = dollar_step b s
step_at spot.Hexadecimal b s = hexadecimal_step b s
step_at (spot.Quoted q) b s = quoted_step q b s
step_at (spot.Escaped q) b s = escaped_step q b s

unfoldable pub scope_step : ℕ → Scope → Scope
scope_step b s = step_at s.spot b s

-- A brace or a semicolon counts here.
abbrev pub open_at : Spot → Bool
open_at spot.Plain = true
open_at spot.Slash = true
open_at spot.Dollar = true
open_at p = false

abbrev pub is_open : Scope → Bool
is_open s = open_at s.spot

-- A text ends before a byte that counts, at a depth: before `}` at depth 1, before `;` at depth 0.
abbrev pub ends : ℕ → ℕ → ℕ → Scope → Bool
ends closing depth b s = b == closing && (is_open s && s.depth == depth)

-- The scope after a text.
abbrev pub scope_after : Scope → List ℕ → Scope
scope_after s [] = s
scope_after s (b ∷ bytes) = scope_after (scope_step b s) bytes

-- The text does not end on the way, and the byte that ends it counts after it.
abbrev pub keeps : ℕ → ℕ → Scope → List ℕ → Bool
keeps closing depth s [] = is_open s && s.depth == depth
keeps closing depth s (b ∷ bytes) = not (ends closing depth b s) && keeps closing depth (scope_step b s) bytes

-- The text ends with its last byte, and not before.
abbrev pub ends_last : ℕ → ℕ → Scope → List ℕ → Bool
ends_last closing depth s [] = false
ends_last closing depth s (b ∷ bytes) =
    if ends closing depth b s then length bytes == 0 else ends_last closing depth (scope_step b s) bytes

-- Before the text of a statement, and after its first brace.
abbrev pub outside : Scope
outside = record { spot = spot.Plain; depth = 0 }

abbrev pub inside : Scope
inside = record { spot = spot.Plain; depth = 1 }
