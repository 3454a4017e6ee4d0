use Rattle.std.specs.Prelude.{ℕ, zero, suc, ◌+◌, ◌/◌, ◌^◌, ◌==◌, nat_lt, Bool}
use Rattle.std.specs.Prelude.{Option, Some, None, List, [], ◌∷◌, ◌++◌, length, take, drop, slice_get, codes, if◌then◌else◌}
use Rattle.std.specs.List.{list_all}
use Rattle.byteorder.specs.Endian.{big_bytes}
use Rattle.rez_types.specs.declared.declaration.Form.{Form}
use Rattle.rez_types.specs.Fields.{NamedNumber, NamedText, Part, Integer, Constant, Count, FillBits, Case}
use Rattle.rez_types.specs.Fields.{Field, Run, Fill, Align, Text, Point, Rect, Array, Switch, Declaration}
use Rattle.rez_types.specs.Values.{Value}
use Rattle.rez_types.specs.Decoding.{is_zero}
use Rattle.rez_types.specs.Options.{◌>>=◌, given}
use Rattle.rez_types.specs.Encoding.{number_in, count_in, text_in, filled_in, case_in, more_in}
use Rattle.rez_printing.specs.declared.layout.Layout.{Layout}
use Rattle.rez_printing.specs.declared.layout.Layout.TheVariants as layout
use Rattle.rez_printing.specs.declared.layout.Gap.{Gap}
use Rattle.rez_printing.specs.declared.layout.Gap.TheVariants as gap
use Rattle.rez_printing.specs.declared.style.Numbering.{Numbering}
use Rattle.rez_printing.specs.declared.style.Numbering.TheVariants as numbering
use Rattle.rez_printing.specs.declared.style.Style.{Style}
use Rattle.rez_printing.specs.Layouts.{gap_text, fill_gap, gap_filled, gap_between, gap_first, array_gap, gap_next, array_end, last_line}
use Rattle.rez_printing.specs.Pieces.{fill_comment, array_comment, element_comment, signed_number, integer_text, named_text}

-- The values of a resource as the text of a statement, by its declaration.

-- How far the values are printed: in which style, those that follow, the text so far, and what stands before the next value that is
-- stated.
pub record Showing : Type 0 where
  pub style : Style
  pub values : List Value
  pub text : List ℕ
  pub gap : Gap

-- The next value.
unfoldable pub next_value : Showing → Option (Value × Showing)
next_value s = elim s.values [ [] ↦ None | v ∷ values ↦ Some (v, record s { values = values }) ]

-- The next value, where it is of a kind.
abbrev pub next_of : {A : Type 0} → (Value → Option A) → Showing → Option (A × Showing)
next_of kind s = next_value s >>= λ (v, t). kind v >>= λ x. Some (x, t)

-- The next number, which has at most so many bits.
unfoldable pub next_number : ℕ → Showing → Option (ℕ × Showing)
next_number width s = next_of number_in s >>= λ (n, t). given (nat_lt n (2 ^ width)) (n, t)

-- A text before the first of other values, which that value follows in such a way.
unfoldable pub opened : List ℕ → Gap → Showing → Showing
opened more first s = record s { text = s.text ++ gap_text s.gap ++ more; gap = first }

-- The text after the last of those values, and again such values as before.
unfoldable pub closed : List ℕ → Layout → Showing → Showing
closed more l s = record s { text = s.text ++ more; gap = gap_between l }

-- A value by its text.
abbrev pub stated : List ℕ → Layout → Showing → Showing
stated more l s = opened more (gap_between l) s

-- The next integer.
unfoldable pub shown_integer : Layout → ℕ → Form → List NamedNumber → Showing → Option Showing
shown_integer l width f constants s =
    next_number width s >>= λ (n, t). Some (stated (integer_text f width constants n) l t)

-- The bytes of a fill or an alignment, as a comment where they are not all 0.
unfoldable pub commented : List ℕ → Showing → Showing
commented bytes s = record s { text = s.text ++ fill_gap s.gap ++ fill_comment bytes; gap = gap_filled s.gap }

unfoldable pub filled : List ℕ → Showing → Showing
filled bytes s = if list_all is_zero bytes then s else commented bytes s

-- The next bits of a fill.
unfoldable pub shown_bits : ℕ → Showing → Option Showing
shown_bits width s = next_number width s >>= λ (n, t). Some (filled (big_bytes ((width + 7) / 8) n) t)

-- The next count, which no statement states.
unfoldable pub passed_count : Showing → Option Showing
passed_count s = next_of count_in s >>= λ (n, t). Some t

-- A part of a run.
abbrev pub shown_part : Layout → Part → Showing → Option Showing
shown_part l (Integer width form constants) s = shown_integer l width form constants s
shown_part l (Constant width pattern is_key) s = Some s
shown_part l (Count width is_less_one) s = passed_count s
shown_part l (FillBits width) s = shown_bits width s

-- The parts of a run in turn.
abbrev pub shown_parts : Layout → List Part → Showing → Option Showing
shown_parts l [] s = Some s
shown_parts l (p ∷ parts) s = shown_part l p s >>= λ t. shown_parts l parts t

-- The next bytes of a fill or an alignment.
unfoldable pub shown_fill : Showing → Option Showing
shown_fill s = next_of filled_in s >>= λ (bytes, t). Some (filled bytes t)

-- The next string.
unfoldable pub shown_text : Layout → Bool → List NamedText → Showing → Option Showing
shown_text l is_hex constants s =
    next_of text_in s >>= λ (bytes, t). Some (stated (named_text t.style l is_hex constants bytes) l t)

-- The next n coordinates, with commas between them.
abbrev pub shown_numbers : ℕ → Showing → Option Showing
shown_numbers zero s = Some s
shown_numbers (suc n) s =
    next_number 16 s >>= λ (here, t). shown_numbers n (stated (signed_number 16 here) layout.Flat t)

-- A point or a rectangle of n coordinates, in braces.
unfoldable pub shown_coordinates : Layout → ℕ → Showing → Option Showing
shown_coordinates l n s =
    shown_numbers n (opened (codes "{") gap.Nothing s) >>= λ t. Some (closed (codes "}") l t)

-- What stands before the next value.
abbrev pub with_gap : Gap → Showing → Showing
with_gap g s = record s { gap = g }

-- Before an element that so many others precede stands its number, where elements are numbered.
abbrev pub numbered_by : Numbering → Layout → ℕ → Showing → Showing
numbered_by numbering.None l count s = s
numbered_by numbering.Elements l count s = opened (element_comment count) (gap_first l) s

abbrev pub numbered : Layout → ℕ → Showing → Showing
numbered l count s = numbered_by s.style.numbering l count s

-- At most n - 1 elements up to the end of an array, after `count` others, and how many they are with those.
abbrev pub shown_elements : (Showing → Option Showing) → Layout → ℕ → ℕ → Showing → Option (ℕ × Showing)
shown_elements element l count zero s = None
shown_elements element l count (suc n) s =
    next_of more_in s
    >>= λ (more, t). if more
    then (element (numbered l count t) >>= λ u. shown_elements element l (count + 1) n (with_gap (gap_next l) u))
    else Some (count, t)

-- The elements of an array, and how many they are. Each, and their end, has a value.
abbrev pub all_elements : (Showing → Option Showing) → Layout → Showing → Option (ℕ × Showing)
all_elements element l s = shown_elements element l 0 (length s.values) s

-- How many elements an array has stands after the brace that opens it, where elements are numbered: here, at a place of the text.
unfoldable pub counted_at : Layout → List ℕ → ℕ → ℕ → Showing → Showing
counted_at l name place count s =
    record s { text = take place s.text ++ array_gap l ++ array_comment name count ++ drop place s.text }

abbrev pub counted_by : Numbering → Layout → List ℕ → ℕ → ℕ → Showing → Showing
counted_by numbering.None l name place count s = s
counted_by numbering.Elements l name place count s = counted_at l name place count s

abbrev pub counted : Layout → List ℕ → ℕ → ℕ → Showing → Showing
counted l name place count s = counted_by s.style.numbering l name place count s

-- The elements of an array, after its brace, and the other brace.
abbrev pub shown_inside : (Showing → Option Showing) → List ℕ → Layout → Showing → Option Showing
shown_inside element name l s =
    all_elements element l s >>= λ (count, t). Some (closed (array_end l) l (counted l name (length s.text) count t))

-- An array, in braces.
unfoldable pub shown_array : (Showing → Option Showing) → List ℕ → Layout → Showing → Option Showing
shown_array element name l s = shown_inside element name l (opened (codes "{") (gap_first l) s)

-- The values of a case, after its name.
abbrev pub opened_case : Case → Showing → Showing
opened_case c s = opened (c.name ++ codes " {") gap.Blank s

-- A switch: the name of the case that the next value states, and its values in braces. `inner` prints a block.
unfoldable pub shown_switch : (ℕ → Showing → Option Showing) → Layout → List Case → Showing → Option Showing
shown_switch inner l cases s =
    next_of case_in s
    >>= λ (place, t). slice_get cases place
    >>= λ c. inner c.block (opened_case c t)
    >>= λ u. Some (closed (codes " }") l u)

-- A field. `inner` prints a block.
abbrev pub shown_field : (ℕ → Showing → Option Showing) → Layout → Field → Showing → Option Showing
shown_field inner l (Run bytes parts) s = shown_parts l parts s
shown_field inner l (Fill bytes) s = shown_fill s
shown_field inner l (Align to) s = shown_fill s
shown_field inner l (Text end is_hex constants) s = shown_text l is_hex constants s
shown_field inner l Point s = shown_coordinates l 2 s
shown_field inner l Rect s = shown_coordinates l 4 s
shown_field inner l (Array name end block) s = shown_array (inner block) name l s
shown_field inner l (Switch key cases) s = shown_switch inner l cases s

-- Fields in turn.
abbrev pub shown_fields : (ℕ → Showing → Option Showing) → Layout → List Field → Showing → Option Showing
shown_fields inner l [] s = Some s
shown_fields inner l (f ∷ fields) s = shown_field inner l f s >>= λ t. shown_fields inner l fields t

-- A block, whose values stand side by side, and in which blocks stand at most `depth - 1` deep.
abbrev pub shown_block : ℕ → List (List Field) → ℕ → Showing → Option Showing
shown_block zero blocks block s = None
shown_block (suc depth) blocks block s =
    slice_get blocks block >>= λ fields. shown_fields (shown_block depth blocks) layout.Flat fields s

-- Before the first value.
abbrev pub unshown : Style → List Value → Showing
unshown style values = record { style = style; values = values; text = []; gap = gap.FirstLine }

-- The text of a resource's values, between the braces of its statement: all the values are printed, with blocks at most 8 deep.
unfoldable pub shown : Style → Declaration → List Value → Option (List ℕ)
shown style d values =
    shown_fields (shown_block 8 d.blocks) layout.Lines d.fields (unshown style values)
    >>= λ s. given (length s.values == 0) (s.text ++ last_line s.gap)
