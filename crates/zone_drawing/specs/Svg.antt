use Rattle.std.specs.Prelude.{ℕ, zero, suc, ◌+◌, ◌-◌, ◌*◌, ◌/◌, ◌%◌, nat_le, Option, Some, None, List, [], ◌∷◌, ◌++◌}
use Rattle.std.specs.Prelude.{length, min, codes, decimal, if◌then◌else◌}
use Rattle.std.specs.Fmt.{signed_decimal}
use Rattle.std.specs.List.{filter}
use Rattle.byteorder.specs.Endian.{big_bytes}
use Rattle.zone_drawing.specs.declared.line.Owner.{Owner}
use Rattle.zone_drawing.specs.declared.line.Shape.{Shape}
use Rattle.zone_drawing.specs.declared.strip.Extent.{Extent}
use Rattle.zone_drawing.specs.declared.strip.Window.{Window}
use Rattle.zone_drawing.specs.declared.svg.Part.{Part}
use Rattle.zone_drawing.specs.Drawing.{attribute, escaped, group_opened, kind_class, line_sizes, mark}
use Rattle.zone_drawing.specs.Drawing.{scale, svg_legend, svg_opened, svg_style}
use Rattle.zone_drawing.specs.Line.{Line}
use Rattle.zone_drawing.specs.Strip.{caption, is_in, least_bin, strip}
use Rattle.zone_drawing.specs.Text.{is_locked, is_purgeable, type_text}

-- A zone as a picture, in SVG: a strip with a scale, in which each block has the bytes that it has in the zone; then, of at
-- most 60 blocks, each in a cell of its own, four in a row, lowest first; and of more, the strip again, wrapped into rows.

-- The type and the ID of a resource.
abbrev pub owner_mark : Option Owner → List ℕ
owner_mark None = []
owner_mark (Some o) = escaped (type_text (big_bytes 4 o.kind)) ++ codes " " ++ signed_decimal o.id

-- What a line of text in a cell begins with, at this height.
abbrev pub text_opened : ℕ → List ℕ
text_opened y = codes "<text x=\"6\"" ++ attribute (codes "y") y ++ codes ">"

-- The rectangle of a cell, marked where the block is locked or purgeable.
abbrev pub cell_box : Shape → List ℕ
cell_box s = codes "<rect class=\"" ++ kind_class s ++ mark (is_locked s) (codes " l") ++ mark (is_purgeable s) (codes " p")
    ++ codes "\" width=\"168\" height=\"68\"/>"

-- The texts of a cell: the place and the physical size, the name, what the block is marked with, and its resource.
abbrev pub place_text : Line → List ℕ
place_text l = text_opened 16 ++ decimal l.place ++ codes " + " ++ decimal l.size ++ codes "</text>"

abbrev pub caption_text : Line → List ℕ
caption_text l = text_opened 31 ++ escaped (caption l.shape l.tag.name) ++ codes "</text>"

abbrev pub marks_text : Shape → List ℕ
marks_text s = text_opened 46 ++ mark (is_locked s) (codes "locked ") ++ mark (is_purgeable s) (codes "purgeable")
    ++ codes "</text>"

abbrev pub owner_text : Option Owner → List ℕ
owner_text o = text_opened 61 ++ owner_mark o ++ codes "</text>"

-- The cell of the block that has this number, counted from 0: four cells stand in a row.
abbrev pub cell_opened : ℕ → List ℕ
cell_opened i = group_opened (12 + 176 * (i % 4)) (112 + 76 * (i / 4))

unfoldable pub cell : ℕ → Line → List ℕ
cell i l = cell_opened i ++ cell_box l.shape ++ place_text l ++ caption_text l ++ marks_text l.shape
    ++ owner_text l.tag.owner ++ codes "</g>\n"

abbrev pub cells : ℕ → List Line → List ℕ
cells i [] = []
cells i (l ∷ lines) = cell i l ++ cells (i + 1) lines

-- How many rows there are: 48 at most, and 12 of so many blocks that these stand in bins; and the window of each of them.
unfoldable pub row_count : ℕ → ℕ
row_count count = if nat_le count 800 then min 48 (count / 12 + 1) else 12

unfoldable pub row_window : Window → ℕ → ℕ → Window
row_window w rows i =
    record { from = w.from + i * ((w.width + (rows - 1)) / rows); width = (w.width + (rows - 1)) / rows }

-- A row: the place where it begins, and its strip.
abbrev pub row_place : ℕ → List ℕ
row_place from = codes "<text y=\"-5\">" ++ decimal from ++ codes "</text>\n"

unfoldable pub row : Window → ℕ → ℕ → List Line → List ℕ
row w least i lines = group_opened 12 (128 + 52 * i) ++ row_place w.from ++ strip w least lines ++ codes "</g>\n"

-- The first rows, so many, of a window that is wrapped into `all` rows.
abbrev pub rows_text : Window → ℕ → ℕ → ℕ → List Line → List ℕ
rows_text w all least zero lines = []
rows_text w all least (suc n) lines = rows_text w all least n lines ++ row (row_window w all n) least n lines

-- What stands below the strip, by the number of blocks, and how high the picture is.
abbrev pub wrapped : Window → ℕ → List Line → List ℕ
wrapped w count lines =
    rows_text w (row_count count) (least_bin count w.width (row_window w (row_count count) 0)) (row_count count) lines

abbrev pub below : Window → ℕ → List Line → List ℕ
below w count lines = if nat_le count 60 then cells 0 lines else wrapped w count lines

abbrev pub svg_height : ℕ → ℕ
svg_height count = if nat_le count 60 then 116 + 76 * ((count + 3) / 4) else 118 + 52 * row_count count

-- The part of a zone of `size` bytes that is shown, and the blocks of which it has any bytes.
abbrev pub window_of : ℕ → Part → Window
window_of size p = record { from = min p.from size; width = min p.to size - min p.from size }

abbrev pub extent : Line → Extent
extent l = record { place = l.place; size = l.size }

abbrev pub shown_in : Window → List Line → List Line
shown_in w lines = filter (λ l. is_in w (extent l)) lines

-- The title: how large the zone is, which bytes are shown where not all are, and the step after which it is shown.
unfoldable pub part_named : Window → List ℕ
part_named w = codes "bytes " ++ decimal w.from ++ codes " to " ++ decimal (w.from + w.width) ++ codes " of a "

abbrev pub part_words : ℕ → Window → List ℕ
part_words size w = if nat_le size w.width then [] else part_named w

unfoldable pub title_opened : ℕ → Window → List ℕ
title_opened size w = codes "<text x=\"12\" y=\"18\" font-size=\"13\">" ++ part_words size w ++ codes "zone of " ++ decimal size

abbrev pub svg_title : ℕ → Window → List ℕ → List ℕ
svg_title size w step = title_opened size w ++ codes " bytes after " ++ escaped step ++ codes "</text>\n"

-- The strip of the whole window, its scale, and what the colours stand for.
unfoldable pub scale_at : ℕ → Window → List ℕ
scale_at y w = group_opened 12 y ++ scale w ++ codes "</g>\n"

unfoldable pub legend_at : ℕ → List ℕ
legend_at y = group_opened 12 y ++ svg_legend ++ codes "</g>\n"

unfoldable pub overview : Window → ℕ → List Line → List ℕ
overview w least lines = group_opened 12 28 ++ strip w least lines ++ codes "</g>\n" ++ scale_at 76 w ++ legend_at 88

-- How many bytes a bin has that is full, in the strip of the whole window. Where rows stand below it, it is a hundredth of the
-- window, since the rows have the blocks.
abbrev pub least_above : ℕ → Window → ℕ
least_above count w = if nat_le count 60 then 2 * w.width / 696 + 1 else w.width / 100 + 1

-- The picture of a window of a zone of this many bytes, which has these blocks, so many.
unfoldable pub window_svg : ℕ → Window → ℕ → List Line → List ℕ → List ℕ
window_svg size w count lines step = svg_opened (svg_height count) ++ svg_style ++ svg_title size w step
    ++ overview w (least_above count w) lines ++ below w count lines ++ codes "</svg>\n"

-- The picture of a part of a zone after a step.
abbrev pub part_svg : ℕ → Window → List Line → List ℕ → List ℕ
part_svg size w shown step = window_svg size w (length shown) shown step

abbrev pub zone_svg : Part → List Line → List ℕ → List ℕ
zone_svg p lines step = part_svg (line_sizes lines) (window_of (line_sizes lines) p)
    (shown_in (window_of (line_sizes lines) p) lines) step
