use Rattle.std.specs.Prelude.{ℕ, ◌+◌, ◌*◌, ◌/◌, ◌==◌, Bool, true, false, List, [], ◌∷◌, ◌++◌, codes, decimal, if◌then◌else◌}
use Rattle.std.specs.List.{flat_map}
use Rattle.zone_drawing.specs.declared.line.Shape.{Shape}
use Rattle.zone_drawing.specs.declared.line.Shape.TheVariants as shape
use Rattle.zone_drawing.specs.declared.strip.Window.{Window}
use Rattle.zone_drawing.specs.Line.{Line}

-- What the pictures of zones are made of, in SVG.

-- A text within SVG: `&`, `<` and `>` have names there.
abbrev pub escaped_byte : ℕ → List ℕ
escaped_byte b = if b == 38 then codes "&amp;" else (if b == 60 then codes "&lt;" else (if b == 62 then codes "&gt;" else b ∷ []))

abbrev pub escaped : List ℕ → List ℕ
escaped text = flat_map escaped_byte text

-- The class of a kind.
abbrev pub kind_class : Shape → List ℕ
kind_class shape.Free = codes "f"
kind_class shape.Nonrelocatable = codes "n"
kind_class shape.Masters = codes "m"
kind_class (shape.Relocatable flags) = codes "r"

-- The words for what a block is marked with.
abbrev pub mark : Bool → List ℕ → List ℕ
mark true word = word
mark false word = []

-- An attribute that is a number.
abbrev pub attribute : List ℕ → ℕ → List ℕ
attribute name n = codes " " ++ name ++ codes "=\"" ++ decimal n ++ codes "\""

-- What a part of the picture begins with, whose left upper corner lies at this place.
abbrev pub group_opened : ℕ → ℕ → List ℕ
group_opened x y = codes "<g transform=\"translate(" ++ decimal x ++ codes "," ++ decimal y ++ codes ")\">\n"

-- A number of the scale, at this place in it.
abbrev pub tick : ℕ → List ℕ → ℕ → List ℕ
tick x anchor n = codes "<text" ++ attribute (codes "x") x ++ codes " text-anchor=\"" ++ anchor ++ codes "\">" ++ decimal n
    ++ codes "</text>\n"

-- The scale of a strip: the places at its ends, and at its quarters.
unfoldable pub scale : Window → List ℕ
scale w = tick 0 (codes "start") w.from ++ tick 174 (codes "middle") (w.from + w.width / 4)
    ++ tick 348 (codes "middle") (w.from + w.width / 2) ++ tick 522 (codes "middle") (w.from + 3 * w.width / 4)
    ++ tick 696 (codes "end") (w.from + w.width)

-- What an SVG picture of this height begins with; the colours where pages are light or dark, and the ground in which the
-- picture stands; and what the colours stand for.
abbrev pub svg_opened : ℕ → List ℕ
svg_opened height = codes "<svg xmlns=\"http://www.w3.org/2000/svg\" width=\"720\"" ++ attribute (codes "height") height
    ++ codes " viewBox=\"0 0 720 " ++ decimal height ++ codes "\" font-family=\"monospace\" font-size=\"12\">\n"

unfoldable pub svg_style : List ℕ
svg_style = codes
    "<style>text{fill:#222}rect{stroke:#555;stroke-width:.7;fill:currentColor;vector-effect:non-scaling-stroke}.b{color:#fff;stroke:none}.f{color:#e6f2df}.n{color:#f2b27a}.m{color:#c8b6e6}.r{color:#9cc8ea}.l{color:#f0a0a0;stroke:#c22;stroke-width:2}.p{fill-opacity:.5;stroke-dasharray:5 3}.t rect{stroke:currentColor;stroke-width:1;stroke-dasharray:none}.s rect{stroke:#fff;stroke-width:1;stroke-dasharray:none}@media(prefers-color-scheme:dark){text{fill:#eee}rect{stroke:#aaa}.b{color:#161616}.f{color:#24361f}.n{color:#8a5524}.m{color:#5f4a86}.r{color:#2b5f86}.l{color:#8a3030;stroke:#f66}.s rect{stroke:#161616}}</style>\n<rect class=\"b\" width=\"100%\" height=\"100%\"/>\n"

unfoldable pub svg_legend : List ℕ
svg_legend = codes
    "<rect class=\"f\" x=\"0\" width=\"16\" height=\"12\"/><text x=\"21\" y=\"10\">free</text><rect class=\"n\" x=\"64\" width=\"16\" height=\"12\"/><text x=\"85\" y=\"10\">nonrelocatable</text><rect class=\"m\" x=\"200\" width=\"16\" height=\"12\"/><text x=\"221\" y=\"10\">master pointers</text><rect class=\"r\" x=\"343\" width=\"16\" height=\"12\"/><text x=\"364\" y=\"10\">relocatable</text><rect class=\"r l\" x=\"457\" width=\"16\" height=\"12\"/><text x=\"478\" y=\"10\">locked</text><rect class=\"r p\" x=\"535\" width=\"16\" height=\"12\"/><text x=\"556\" y=\"10\">purgeable</text>\n"

-- The sizes of blocks, summed.
abbrev pub line_sizes : List Line → ℕ
line_sizes [] = 0
line_sizes (l ∷ lines) = l.size + line_sizes lines
