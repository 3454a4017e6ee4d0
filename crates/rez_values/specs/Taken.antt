use Rattle.std.specs.Prelude.{ℕ, zero, suc, ◌+◌, ◌^◌, ◌==◌, nat_lt, Bool, false, ◌&&◌}
use Rattle.std.specs.Prelude.{Option, Some, None, Result, Ok, List, [], ◌∷◌, length, slice_get, slice_set, if◌then◌else◌}
use Rattle.std.specs.List.{position}
use Rattle.rez_types.specs.Fields.{ArrayEnd, Fixed, Counted, Case}
use Rattle.rez_types.specs.Fields.{Field, Run, Fill, Align, Text, Point, Rect, Array, Switch, Declaration}
use Rattle.rez_types.specs.Values as value
use Rattle.rez_types.specs.Values.{Value}
use Rattle.rez_tokens.specs.Tokens.{Token, Lexeme, Word}
use Rattle.rez_values.specs.declared.fault.ValueFault.TheVariants as faults
use Rattle.rez_values.specs.Taking.{CountPlace, Taking, Fault, ◌>>=◌, bare, refused, lexeme, passed, is_mark, separated, trailed}
use Rattle.rez_values.specs.Taking.{lexeme_at, past, is_separator_in, with_stated, opened, closed, put}
use Rattle.rez_values.specs.Stating.{is_name, parts_taken, fill_taken, align_taken, text_taken, corners_taken}

-- The values that the tokens of a statement `resource` state, by a declaration in the language of Rez: Macintosh Programmer's
-- Workshop: Building and Managing Programs in MPW, chapter Rez.

-- An array closes here, or after a separator.
unfoldable pub closes : Taking → Bool
closes s = is_mark 125 (trailed s)

-- An element begins: after the separator before it, where that is the very next token. Where the bytes of a fill stand before the
-- separator, they may be the first ones of the element.
unfoldable pub begun : Taking → Taking
begun s =
    if s.stated && is_separator_in (lexeme_at s.tokens) then with_stated false (past s) else s

-- An element.
unfoldable pub element_taken : (Taking → Result Taking Fault) → Taking → Result Taking Fault
element_taken element s = put value.Element (begun s) >>= λ t. element t

-- At most n - 1 elements up to the closing brace, and how many they are with the `count` ones before them. Separators stand between
-- them as between any values.
abbrev pub elements_taken : (Taking → Result Taking Fault) → ℕ → ℕ → Taking → Result (ℕ × Taking) Fault
elements_taken element count zero s = refused faults.ClosingBraceNeeded s
elements_taken element count (suc n) s =
    if closes s then Ok (count, s)
    else (element_taken element s >>= λ t. elements_taken element (count + 1) n t)

-- The value of a count is set.
abbrev pub with_count : ℕ → CountPlace → Taking → Taking
with_count count c s = record s { values = slice_set s.values c.place (value.Count count) }

-- An array with so many elements is counted.
abbrev pub counted_by : ℕ → Option CountPlace → Taking → Result Taking Fault
counted_by count None s = refused faults.Unsound s
counted_by count (Some c) s =
    if nat_lt count (2 ^ c.width) then Ok (with_count count c s) else refused faults.ManyElements s

-- An array that ends so may have so many elements.
abbrev pub counted : ArrayEnd → ℕ → Taking → Result Taking Fault
counted (Fixed n) count s = if count == n then Ok s else refused (faults.ElementsNeeded n) s
counted (Counted place) count s = counted_by count (slice_get s.counts place) s
counted e count s = Ok s

-- An array. `element` takes the fields of an element.
unfoldable pub array_taken : (Taking → Result Taking Fault) → ArrayEnd → Taking → Result Taking Fault
array_taken element e s =
    separated faults.SeparatorNeeded s
    >>= λ t. opened faults.ArrayNeeded t
    >>= λ u. elements_taken element 0 (length u.tokens) u
    >>= λ (count, v). counted e count v
    >>= λ w. put value.NoElement w >>= λ x. closed faults.ClosingBraceNeeded x

-- A case has this name.
abbrev pub is_case_named : List ℕ → Case → Bool
is_case_named word c = is_name word c.name

-- The place of the case that a token names.
abbrev pub case_in : List Case → Lexeme → Option ℕ
case_in cases (Word word) = position (is_case_named word) cases
case_in cases l = None

-- A case that stands at a place among those of its switch. `inner` takes a block.
abbrev pub case_by : (ℕ → Taking → Result Taking Fault) → ℕ → Option Case → Taking → Result Taking Fault
case_by inner place None s = refused faults.CaseNeeded s
case_by inner place (Some c) s =
    put (value.Case place) (passed s)
    >>= λ t. opened faults.OpeningBraceNeeded t
    >>= λ u. inner c.block u >>= λ v. closed faults.ClosingBraceNeeded v

abbrev pub case_taken : (ℕ → Taking → Result Taking Fault) → List Case → Option ℕ → Taking → Result Taking Fault
case_taken inner cases None s = refused faults.CaseNeeded s
case_taken inner cases (Some place) s = case_by inner place (slice_get cases place) s

-- A switch: the case that the next token names. `inner` takes a block.
unfoldable pub switch_taken : (ℕ → Taking → Result Taking Fault) → List Case → Taking → Result Taking Fault
switch_taken inner cases s =
    separated faults.SeparatorNeeded s >>= λ t. case_taken inner cases (case_in cases (lexeme t)) t

-- A field. `inner` takes a block.
abbrev pub field_taken : (ℕ → Taking → Result Taking Fault) → Field → Taking → Result Taking Fault
field_taken inner (Run bytes parts) s = parts_taken parts s
field_taken inner (Fill bytes) s = fill_taken bytes s
field_taken inner (Align to) s = align_taken to s
field_taken inner (Text e is_hex constants) s = text_taken e constants s
field_taken inner Point s = corners_taken faults.PointNeeded 2 s
field_taken inner Rect s = corners_taken faults.RectangleNeeded 4 s
field_taken inner (Array name e block) s = array_taken (inner block) e s
field_taken inner (Switch key cases) s = switch_taken inner cases s

-- Fields in turn.
abbrev pub fields_taken : (ℕ → Taking → Result Taking Fault) → List Field → Taking → Result Taking Fault
fields_taken inner [] s = Ok s
fields_taken inner (f ∷ fields) s = field_taken inner f s >>= λ t. fields_taken inner fields t

-- The counts of another block.
abbrev pub with_counts : List CountPlace → Taking → Taking
with_counts counts s = record s { counts = counts }

-- The fields of a block, which has counts of its own.
abbrev pub taken_alone : (ℕ → Taking → Result Taking Fault) → List Field → Taking → Result Taking Fault
taken_alone inner fields s =
    fields_taken inner fields (with_counts [] s) >>= λ t. Ok (with_counts s.counts t)

-- A block, by its fields. `inner` takes the blocks in it.
abbrev pub block_by : (ℕ → Taking → Result Taking Fault) → Option (List Field) → Taking → Result Taking Fault
block_by inner None s = refused faults.Unsound s
block_by inner (Some fields) s = taken_alone inner fields s

-- A block, in which blocks stand at most `depth - 1` deep.
abbrev pub block_taken : ℕ → List (List Field) → ℕ → Taking → Result Taking Fault
block_taken zero blocks block s = refused faults.Unsound s
block_taken (suc depth) blocks block s = block_by (block_taken depth blocks) (slice_get blocks block) s

-- The line of the last token; 1 where there is none.
abbrev pub last_line : List Token → ℕ → ℕ
last_line [] line = line
last_line (t ∷ tokens) line = last_line tokens t.line

-- Before the first token.
abbrev pub untaken : List Token → Taking
untaken tokens = record { tokens = tokens; last = last_line tokens 1; values = []; counts = []; stated = false }

-- After the last value no token stands but a separator.
abbrev pub finished_by : List Token → Taking → Result Taking Fault
finished_by [] s = Ok s
finished_by (t ∷ tokens) s = refused faults.NothingMore s

unfoldable pub finished : Taking → Result Taking Fault
finished s = finished_by (bare (trailed s).tokens) (trailed s)

-- The values that a statement's tokens state, with blocks at most 8 deep.
unfoldable pub taken : Declaration → List Token → Result (List Value) Fault
taken d tokens =
    fields_taken (block_taken 8 d.blocks) d.fields (untaken tokens) >>= λ s. finished s >>= λ t. Ok t.values
