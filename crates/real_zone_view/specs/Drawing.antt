use Rattle.std.specs.Prelude.{ℕ, ◌==◌, Bool, true, false, List, [], ◌∷◌, ◌++◌, codes, decimal, if◌then◌else◌}
use Rattle.std.specs.List.{flat_map}

-- What the picture of a zone is made of, in SVG.

-- A text within SVG: `&`, `<` and `>` have names there.
abbrev pub escaped_byte : ℕ → List ℕ
escaped_byte b = if b == 38 then codes "&amp;" else (if b == 60 then codes "&lt;" else (if b == 62 then codes "&gt;" else b ∷ []))

abbrev pub escaped : List ℕ → List ℕ
escaped text = flat_map escaped_byte text

-- A word where something holds.
abbrev pub mark : Bool → List ℕ → List ℕ
mark true word = word
mark false word = []

-- An attribute that is a number.
abbrev pub attribute : List ℕ → ℕ → List ℕ
attribute name n = codes " " ++ name ++ codes "=\"" ++ decimal n ++ codes "\""

-- What a picture of this height begins with; the colours where pages are light or dark, and the ground; and what the colours stand for.
abbrev pub svg_opened : ℕ → List ℕ
svg_opened height = codes "<svg xmlns=\"http://www.w3.org/2000/svg\" width=\"972\"" ++ attribute (codes "height") height
    ++ codes " viewBox=\"0 0 972 " ++ decimal height ++ codes "\" font-family=\"monospace\" font-size=\"11\">\n"

unfoldable pub svg_style : List ℕ
svg_style = codes
    "<style>text{fill:#222}rect{stroke:#555;stroke-width:.5;vector-effect:non-scaling-stroke}.b{fill:#fff}.u{fill:#777}.s{fill:#ddd29a}.f{fill:#f4f4f4}.n{fill:#f2b27a}.r{fill:#9cc8ea}.l{fill:#f0a0a0}.p{fill-opacity:.5}.d{fill:#c22}.b,.d{stroke:none}@media(prefers-color-scheme:dark){text{fill:#eee}rect{stroke:#aaa}.b{fill:#161616}.s{fill:#6b6236}.f{fill:#2c2c2c}.n{fill:#8a5524}.r{fill:#2b5f86}.l{fill:#8a3030}.d{fill:#f66}}</style>\n<rect class=\"b\" width=\"100%\" height=\"100%\"/>\n"

unfoldable pub svg_legend : List ℕ
svg_legend = codes
    "<rect class=\"f\" x=\"12\" y=\"46\" width=\"16\" height=\"12\"/><text x=\"34\" y=\"56\">free</text><rect class=\"n\" x=\"84\" y=\"46\" width=\"16\" height=\"12\"/><text x=\"106\" y=\"56\">nonrelocatable</text><rect class=\"r\" x=\"226\" y=\"46\" width=\"16\" height=\"12\"/><text x=\"248\" y=\"56\">relocatable</text><rect class=\"r l\" x=\"346\" y=\"46\" width=\"16\" height=\"12\"/><text x=\"368\" y=\"56\">locked</text><rect class=\"r p\" x=\"434\" y=\"46\" width=\"16\" height=\"12\"/><text x=\"456\" y=\"56\">purgeable</text><rect class=\"s\" x=\"542\" y=\"46\" width=\"16\" height=\"12\"/><text x=\"564\" y=\"56\">mixed or unknown</text><rect class=\"u\" x=\"696\" y=\"46\" width=\"16\" height=\"12\"/><text x=\"718\" y=\"56\">no block</text><rect class=\"d\" x=\"798\" y=\"46\" width=\"16\" height=\"12\"/><text x=\"820\" y=\"56\">damaged</text>\n"
