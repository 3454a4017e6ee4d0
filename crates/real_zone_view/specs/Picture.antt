use Rattle.std.specs.Prelude.{ℕ, zero, suc, ◌+◌, ◌-◌, ◌*◌, ◌/◌, min, nat_le, nat_lt, Bool, ◌||◌, List, [], ◌∷◌, ◌++◌, length, codes}
use Rattle.std.specs.Prelude.{decimal, Option, if◌then◌else◌}
use Rattle.std.specs.List.{flat_map}
use Rattle.real_zone.specs.Resources.{resource_of}
use Rattle.real_zone.specs.Seen.{blocks_passed}
use Rattle.real_zone.specs.declared.block.Block.{Block}
use Rattle.real_zone.specs.declared.fault.Damage.{Damage}
use Rattle.real_zone.specs.declared.form.Form.{Form}
use Rattle.real_zone.specs.declared.resource_map.Resource.{Resource}
use Rattle.real_zone_view.specs.declared.style.Digits.TheVariants as digits
use Rattle.real_zone_view.specs.declared.style.Fields.TheVariants as fields
use Rattle.real_zone_view.specs.declared.style.Style.{Style}
use Rattle.real_zone_view.specs.declared.totals.Class.{Class}
use Rattle.real_zone_view.specs.declared.totals.Class.TheVariants as class
use Rattle.real_zone_view.specs.Damages.{damaged_text}
use Rattle.real_zone_view.specs.Drawing.{attribute, escaped, mark, svg_legend, svg_opened, svg_style}
use Rattle.real_zone_view.specs.Fields.{hex_text}
use Rattle.real_zone_view.specs.Text.{lines_text, title_text}
use Rattle.real_zone_view.specs.Totals.{kinds_text, sized}

-- A zone as a picture: a strip of the whole zone, in which each block has the bytes that it has in the zone, wrapped into rows.

-- Texts in the picture are those of the list.
abbrev pub in_list : Style
in_list = record { fields = fields.Columns; digits = digits.Decimal }

-- Of more than 800 blocks neighbours are drawn as one bin until they have a 400th of the bytes; a block that has as many stands alone.
-- So there are no more than 800 bins.
unfoldable pub least_bin : List Block → ℕ
least_bin blocks = if nat_le (length blocks) 800 then 1 else sized class.All blocks / 400 + 1

abbrev pub is_full : ℕ → ℕ → Block → Bool
is_full least size block = nat_le least size || nat_le least block.physical_size

-- The bins of blocks, after a bin that is begun.
abbrev pub bins : ℕ → List Block → List Block → List (List Block)
bins least bin [] = bin ∷ []
bins least bin (b ∷ blocks) =
    if is_full least (sized class.All bin) b then bin ∷ bins least (b ∷ []) blocks else bins least (bin ++ (b ∷ [])) blocks

-- The classes of a bin: the kind that most of its bytes have, and what most of them are marked as.
abbrev pub most : Class → List Block → Bool
most c bin = nat_lt (sized class.All bin) (2 * sized c bin)

abbrev pub classes : List Block → List ℕ
classes bin = codes "s" ++ mark (most class.Free bin) (codes " f") ++ mark (most class.Nonrelocatable bin) (codes " n")
    ++ mark (most class.Relocatable bin) (codes " r") ++ mark (most class.Locked bin) (codes " l")
    ++ mark (most class.Purgeable bin) (codes " p")

-- The title of a bin: the line of its block, or the address of the first of several, and how many blocks and bytes it has of each kind.
abbrev pub kinds_at : ℕ → List Block → List ℕ
kinds_at address bin = hex_text address ++ codes "\n" ++ kinds_text in_list bin

abbrev pub bin_title : (ℕ → Option Resource) → List Block → List ℕ
bin_title named [] = []
bin_title named (b ∷ []) = lines_text in_list named (b ∷ [])
bin_title named (b ∷ c ∷ bin) = kinds_at b.address (b ∷ c ∷ bin)

-- A bin in the strip, whose unit is a byte.
abbrev pub bin_box : ℕ → ℕ → List Block → List ℕ
bin_box zone address bin = codes "<rect class=\"" ++ classes bin ++ codes "\"" ++ attribute (codes "x") (address - zone)
    ++ attribute (codes "width") (sized class.All bin)

abbrev pub bin_at : ℕ → ℕ → (ℕ → Option Resource) → List Block → List ℕ
bin_at zone address named bin = bin_box zone address bin ++ codes " height=\"1\"><title>" ++ escaped (bin_title named bin)
    ++ codes "</title></rect>\n"

unfoldable pub bin_text : ℕ → (ℕ → Option Resource) → List Block → List ℕ
bin_text zone named [] = []
bin_text zone named (b ∷ bin) = bin_at zone b.address named (b ∷ bin)

abbrev pub bins_after : ℕ → (ℕ → Option Resource) → ℕ → List Block → List Block → List ℕ
bins_after zone named least bin blocks = flat_map (bin_text zone named) (bins least bin blocks)

abbrev pub bins_text : ℕ → (ℕ → Option Resource) → List Block → List ℕ
bins_text zone named blocks = bins_after zone named (least_bin blocks) [] blocks

-- The place of the first rule that is broken, if one is.
abbrev pub mark_opened : ℕ → ℕ → ℕ → List ℕ
mark_opened zone width address = codes "<rect class=\"d\"" ++ attribute (codes "x") (address - zone)
    ++ attribute (codes "width") (width / 200 + 1) ++ codes " height=\"1\"><title>"

unfoldable pub damage_mark : ℕ → ℕ → List Damage → List ℕ
damage_mark zone width [] = []
damage_mark zone width (d ∷ damages) = mark_opened zone width d.address ++ damaged_text fields.Columns (d ∷ damages)
    ++ codes "</title></rect>\n"

-- The strip. What no block covers is the zone record, and what is not passed of a damaged zone.
abbrev pub strip_opened : ℕ → List ℕ
strip_opened size = codes "<defs><g id=\"z\"><rect class=\"u\" height=\"1\"" ++ attribute (codes "width") size
    ++ codes "><title>no block</title></rect>\n"

unfoldable pub strip : ℕ → ℕ → ℕ → (ℕ → Option Resource) → List Block → List Damage → List ℕ
strip zone size width named blocks damages =
    strip_opened size ++ bins_text zone named blocks ++ damage_mark zone width damages ++ codes "</g></defs>\n"

-- How many rows there are, 64 at most, and how many bytes a row shows.
unfoldable pub row_count : List Block → ℕ
row_count blocks = min 64 (length blocks / 12 + 1)

unfoldable pub row_width : ℕ → ℕ → ℕ
row_width size rows = size / rows + 1

-- A row: its part of the strip, and the address where it begins.
abbrev pub row_label : ℕ → ℕ → ℕ → List ℕ
row_label zone width i = codes "<text x=\"12\"" ++ attribute (codes "y") (85 + 24 * i) ++ codes ">" ++ hex_text (zone + i * width)
    ++ codes "</text>"

abbrev pub row_window : ℕ → ℕ → List ℕ
row_window width i = codes "<svg x=\"84\" width=\"876\" height=\"18\"" ++ attribute (codes "y") (72 + 24 * i) ++ codes " viewBox=\""
    ++ decimal (i * width) ++ codes " 0 " ++ decimal width ++ codes " 1\" preserveAspectRatio=\"none\"><use href=\"#z\"/></svg>\n"

unfoldable pub row_text : ℕ → ℕ → ℕ → List ℕ
row_text zone width i = row_label zone width i ++ row_window width i

-- The first rows, so many.
abbrev pub rows_text : ℕ → ℕ → ℕ → List ℕ
rows_text zone width zero = []
rows_text zone width (suc n) = rows_text zone width n ++ row_text zone width n

-- The titles of the picture: those of the list, and the first rule that is broken.
abbrev pub picture_head : Form → ℕ → ℕ → List Damage → List ℕ
picture_head form zone size damages = codes "<text x=\"12\" y=\"18\" font-size=\"13\">" ++ title_text in_list form zone size
    ++ codes "</text>\n<text x=\"12\" y=\"36\">" ++ damaged_text fields.Columns damages ++ codes "</text>\n"

-- The picture of a zone of this size, in so many rows, each of this width.
unfoldable pub picture_by : ℕ → ℕ → Form → ℕ → ℕ → (ℕ → Option Resource) → List Block → List Damage → List ℕ
picture_by rows width form zone size named blocks damages =
    svg_opened (84 + 24 * rows) ++ svg_style ++ picture_head form zone size damages ++ svg_legend
    ++ strip zone size width named blocks damages ++ rows_text zone width rows ++ codes "</svg>\n"

abbrev pub picture : Form → ℕ → ℕ → (ℕ → Option Resource) → List Block → List Damage → List ℕ
picture form zone size named blocks damages =
    picture_by (row_count blocks) (row_width size (row_count blocks)) form zone size named blocks damages

-- The picture of a zone in these bytes, which breaks these rules.
abbrev pub zone_picture : Form → ℕ → ℕ → List ℕ → List Damage → List ℕ
zone_picture form zone size bytes damages =
    picture form zone size (resource_of form bytes) (blocks_passed form zone bytes) damages
