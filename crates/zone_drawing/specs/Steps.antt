use Rattle.std.specs.Prelude.{ℕ, ◌+◌, ◌*◌, ◌/◌, ◌==◌, ◌&&◌, not, nat_le, nat_lt, Bool, false, Option, Some, None, List, [], ◌∷◌, ◌++◌}
use Rattle.std.specs.Prelude.{length, take, max, min, codes, decimal, if◌then◌else◌}
use Rattle.std.specs.List.{find, flat_map}
use Rattle.std.specs.Option.{option_map}
use Rattle.zone_drawing.specs.declared.line.Passed.{Passed}
use Rattle.zone_drawing.specs.declared.strip.Extent.{Extent}
use Rattle.zone_drawing.specs.declared.strip.Window.{Window}
use Rattle.zone_drawing.specs.declared.svg.Part.{Part}
use Rattle.zone_drawing.specs.Drawing.{attribute, escaped, group_opened, line_sizes, svg_opened, svg_style}
use Rattle.zone_drawing.specs.Line.{Line}
use Rattle.zone_drawing.specs.Strip.{is_in, least_bin, middle, strip}
use Rattle.zone_drawing.specs.Svg.{extent, legend_at, scale_at, title_opened, window_of}

-- Moments of one zone as a picture, in SVG: a strip for each moment, one below the other and in one scale, with the words
-- for the moment above it; and between two strips an arrow for each block that is in both, and begins at another place in
-- the lower one. The arrow goes from the middle of the block in the upper strip to its middle in the lower one. A block is
-- known again by the number of its handle or pointer.

-- A moment of a zone: the number of the line of its call, the words for it, which calls after it changed nothing, and the
-- blocks.
pub record Moment : Type 0 where
  pub number : ℕ
  pub caption : List ℕ
  pub passed : Option Passed
  pub lines : List Line

-- The block is that of the handle or pointer with this number.
abbrev pub has_number : ℕ → Option ℕ → Bool
has_number number None = false
has_number number (Some n) = n == number

abbrev pub is_of : ℕ → Line → Bool
is_of number l = has_number number l.tag.number

-- Where the block of a handle or a pointer stands, if the zone has one.
abbrev pub extent_of : List Line → ℕ → Option Extent
extent_of lines number = option_map extent (find (is_of number) lines)

-- An arrow from a block in the upper strip to the same block in the lower one.
unfoldable pub arrow : Window → Extent → Extent → List ℕ
arrow w upper lower = codes "<line" ++ attribute (codes "x1") (middle w upper) ++ attribute (codes "x2") (middle w lower)
    ++ codes " y2=\"54\"/>\n"

-- The arrow of a block, if it is in the lower strip too, begins at another place there, and any of it is shown in both.
abbrev pub are_in : Window → Extent → Extent → Bool
are_in w upper lower = is_in w upper && is_in w lower

abbrev pub arrow_to : Window → Extent → Option Extent → List ℕ
arrow_to w upper None = []
arrow_to w upper (Some lower) =
    if not (upper.place == lower.place) && are_in w upper lower then arrow w upper lower else []

-- The arrow of a block whose handle or pointer may be known; `below` says where the block of each stands in the lower
-- strip.
abbrev pub arrow_of : Window → (ℕ → Option Extent) → Extent → Option ℕ → List ℕ
arrow_of w below upper None = []
arrow_of w below upper (Some number) = arrow_to w upper (below number)

-- The arrows of the blocks of the upper strip that stand alone there.
abbrev pub line_arrow : Window → ℕ → (ℕ → Option Extent) → Line → List ℕ
line_arrow w least below l = if nat_le least l.size then arrow_of w below (extent l) l.tag.number else []

abbrev pub arrows : Window → ℕ → (ℕ → Option Extent) → List Line → List ℕ
arrows w least below lines = flat_map (line_arrow w least below) lines

-- The arrows from one moment to the next.
abbrev pub moved : Window → ℕ → List Line → List Line → List ℕ
moved w least upper lower = codes "<g class=\"a\" transform=\"translate(0,-57)\">\n" ++ arrows w least (extent_of lower) upper
    ++ codes "</g>\n"

-- The arrows from the moment before, if there is one.
abbrev pub moved_from : Window → ℕ → Option Moment → List Line → List ℕ
moved_from w least None lower = []
moved_from w least (Some before) lower = moved w least before.lines lower

-- The words for a moment, as far as there is room for them; and at the right which calls after it changed nothing.
unfoldable pub moment_caption : List ℕ → List ℕ
moment_caption words = codes "<text class=\"h\" y=\"-14\">" ++ escaped (take 62 words) ++ codes "</text>\n"

abbrev pub passed_numbers : Passed → List ℕ
passed_numbers p = if p.first == p.last then decimal p.first else decimal p.first ++ codes " to " ++ decimal p.last

unfoldable pub passed_words : Passed → List ℕ
passed_words p = codes "<text class=\"h\" x=\"696\" y=\"-14\" text-anchor=\"end\">" ++ passed_numbers p
    ++ codes ": nothing moved</text>\n"

abbrev pub passed_text : Option Passed → List ℕ
passed_text None = []
passed_text (Some p) = passed_words p

-- The strip of the moment that has this number, counted from 0, with the arrows from the moment before.
unfoldable pub moment_by : Window → ℕ → ℕ → Option Moment → List ℕ → Option Passed → List Line → List ℕ
moment_by w least i before words passed lines = group_opened 12 (92 + 92 * i) ++ moved_from w least before lines
    ++ moment_caption words ++ passed_text passed ++ strip w least lines ++ codes "</g>\n"

abbrev pub moment_strip : Window → ℕ → ℕ → Option Moment → Moment → List ℕ
moment_strip w least i before m = moment_by w least i before m.caption m.passed m.lines

-- The strips of moments that follow on one another.
abbrev pub moment_strips : Window → ℕ → ℕ → Option Moment → List Moment → List ℕ
moment_strips w least i before [] = []
moment_strips w least i before (m ∷ later) =
    moment_strip w least i before m ++ moment_strips w least (i + 1) (Some m) later

-- The number of bytes of the zone at the moment when it is largest, and the number of blocks of all moments.
abbrev pub greatest_size : List Moment → ℕ
greatest_size [] = 0
greatest_size (m ∷ later) = max (line_sizes m.lines) (greatest_size later)

abbrev pub block_count : List Moment → ℕ
block_count [] = 0
block_count (m ∷ later) = length m.lines + block_count later

-- The colours of arrows, and their heads.
unfoldable pub arrow_style : List ℕ
arrow_style = codes
    "<style>.a{stroke:#222;stroke-width:1;marker-end:url(#head)}.h{paint-order:stroke;stroke:#fff;stroke-width:4}#head path{fill:#222}@media(prefers-color-scheme:dark){.a{stroke:#eee}.h{stroke:#161616}#head path{fill:#eee}}</style>\n<marker id=\"head\" viewBox=\"0 0 6 6\" refX=\"6\" refY=\"3\" markerWidth=\"7\" markerHeight=\"7\" orient=\"auto\"><path d=\"M0 0L6 3L0 6z\"/></marker>\n"

-- How many moments are drawn of `n`, which have so many blocks together: no more than 40, and of these just some that have
-- together about 800.
abbrev pub room : ℕ → ℕ → ℕ
room n blocks = min 40 (max 4 (800 * n / max 1 blocks))

-- The title: how large the zone is, and how many moments there are, and how many of them are drawn.
unfoldable pub drawn_words : ℕ → List ℕ
drawn_words strips = codes "; the first " ++ decimal strips ++ codes " are drawn"

abbrev pub only_drawn : ℕ → ℕ → List ℕ
only_drawn n strips = if nat_lt strips n then drawn_words strips else []

unfoldable pub steps_title : ℕ → Window → ℕ → ℕ → List ℕ
steps_title size w n strips = title_opened size w ++ codes " bytes at " ++ decimal n
    ++ codes " moments, with an arrow for each block that moved" ++ only_drawn n strips ++ codes "</text>\n"

-- What stands above the first strip: the title, what the colours stand for, and the scale.
unfoldable pub steps_head : ℕ → Window → ℕ → ℕ → List ℕ
steps_head size w n strips = svg_style ++ arrow_style ++ steps_title size w n strips ++ legend_at 28 ++ scale_at 60 w

-- How many bytes a bin has that is full, in the strips of so many moments; and how high their picture is.
abbrev pub least_of : Window → ℕ → ℕ → ℕ
least_of w blocks strips = least_bin blocks (strips * w.width) w

abbrev pub steps_height : ℕ → ℕ
steps_height strips = 42 + 92 * strips

-- The picture of a window of a zone of this many bytes at moments, of `n`.
unfoldable pub steps_window : ℕ → Window → ℕ → ℕ → ℕ → List Moment → List ℕ
steps_window size w n strips least ms = svg_opened (steps_height strips) ++ steps_head size w n strips
    ++ moment_strips w least 0 None ms ++ codes "</svg>\n"

abbrev pub steps_by : ℕ → Window → ℕ → List Moment → List ℕ
steps_by size w n ms = steps_window size w n (length ms) (least_of w (block_count ms) (length ms)) ms

-- The picture of a part of a zone at moments.
abbrev pub steps_svg : Part → List Moment → List ℕ
steps_svg p ms = steps_by (greatest_size ms) (window_of (greatest_size ms) p) (length ms)
    (take (room (length ms) (block_count ms)) ms)
