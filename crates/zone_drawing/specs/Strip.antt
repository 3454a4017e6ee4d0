use Rattle.std.specs.Prelude.{ℕ, ◌+◌, ◌-◌, ◌*◌, ◌/◌, ◌==◌, Bool, ◌||◌, true, false, nat_le, nat_lt, Option, Some, None, List, [], ◌∷◌, ◌++◌}
use Rattle.std.specs.Prelude.{length, take, min, max, codes, decimal, if◌then◌else◌}
use Rattle.std.specs.List.{flat_map}
use Rattle.zone_drawing.specs.declared.line.Shape.{Shape}
use Rattle.zone_drawing.specs.declared.strip.Extent.{Extent}
use Rattle.zone_drawing.specs.declared.strip.Layer.{Layer}
use Rattle.zone_drawing.specs.declared.strip.Layer.TheVariants as layer
use Rattle.zone_drawing.specs.declared.strip.Window.{Window}
use Rattle.zone_drawing.specs.declared.totals.Class.{Class}
use Rattle.zone_drawing.specs.declared.totals.Class.TheVariants as class
use Rattle.zone_drawing.specs.Drawing.{attribute, escaped, line_sizes}
use Rattle.zone_drawing.specs.Line.{Line}
use Rattle.zone_drawing.specs.Text.{shape_text}
use Rattle.zone_drawing.specs.Totals.{class_text, counted, sized}

-- A part of a zone as a strip, 696 wide, in which each block has the bytes that it has in the zone. What would be too
-- narrow to be seen stands together with its neighbours in one bin.

-- What of a stretch of a zone lies in a window, and whether any of it does.
abbrev pub piece : Window → Extent → Extent
piece w e = record { place = max w.from e.place; size = min (w.from + w.width) (e.place + e.size) - max w.from e.place }

abbrev pub is_in : Window → Extent → Bool
is_in w e = nat_lt 0 (piece w e).size

-- The middle of that, in the strip of the window.
abbrev pub middle : Window → Extent → ℕ
middle w e = 696 * (2 * ((piece w e).place - w.from) + (piece w e).size) / max 1 (2 * w.width)

-- It has room for a text of so many characters.
abbrev pub has_room : Window → Extent → ℕ → Bool
has_room w e n = nat_le (8 * n) (696 * (piece w e).size / max 1 w.width)

-- It is too narrow for an outline.
abbrev pub is_narrow : Window → Extent → Bool
is_narrow w e = nat_le e.size (4 * w.width / 696)

-- The unit of a strip: a byte, and more only in a part of 16 megabytes and more, since browsers draw no wider rectangles.
abbrev pub unit : Window → ℕ
unit w = w.width / 16777216 + 1

abbrev pub in_units : Window → Extent → Extent
in_units w e = record { place = e.place / unit w; size = (e.place + e.size) / unit w - e.place / unit w }

-- How many bytes a bin has that is full: what two units of the strip have; and where there are more than 800 blocks, at
-- least a 150th of the part of the zone that is shown.
abbrev pub least_bin : ℕ → ℕ → Window → ℕ
least_bin count size w = max (2 * w.width / 696 + 1) (if nat_le count 800 then 1 else size / 150 + 1)

-- The bins of blocks, after a bin that is begun. A block that has as many bytes as a full bin stands alone.
abbrev pub is_full : ℕ → ℕ → Line → Bool
is_full least size l = nat_le least size || nat_le least l.size

abbrev pub bins : ℕ → List Line → List Line → List (List Line)
bins least bin [] = bin ∷ []
bins least bin (l ∷ lines) =
    if is_full least (line_sizes bin) l then bin ∷ bins least (l ∷ []) lines else bins least (bin ++ (l ∷ [])) lines

-- The blocks of bins, in their order; and how many blocks of a class there are in bins, and how many bytes these have.
abbrev pub blocks_in : List (List Line) → List Line
blocks_in [] = []
blocks_in (bin ∷ bins) = bin ++ blocks_in bins

abbrev pub counted_in : Class → List (List Line) → ℕ
counted_in c [] = 0
counted_in c (bin ∷ bins) = counted c bin + counted_in c bins

abbrev pub sized_in : Class → List (List Line) → ℕ
sized_in c [] = 0
sized_in c (bin ∷ bins) = sized c bin + sized_in c bins

-- The blocks of a bin are drawn by these classes, one above the other, each as high as its share of the bytes.
abbrev pub drawn_classes : List Class
drawn_classes = class.Free ∷ class.Nonrelocatable ∷ class.Masters ∷ class.Unmarked ∷ class.Purgeable ∷ class.LockedOnly ∷ class.Both ∷ []

-- How many blocks of some classes a bin has, and how many bytes they have.
abbrev pub counted_by : List Class → List Line → ℕ
counted_by [] bin = 0
counted_by (c ∷ classes) bin = counted c bin + counted_by classes bin

abbrev pub sized_by : List Class → List Line → ℕ
sized_by [] bin = 0
sized_by (c ∷ classes) bin = sized c bin + sized_by classes bin

-- The words by which a class has its colours.
abbrev pub colours : Class → List ℕ
colours class.Free = codes "f"
colours class.Nonrelocatable = codes "n"
colours class.Masters = codes "m"
colours class.Relocatable = codes "r"
colours class.Locked = codes "r l"
colours class.Purgeable = codes "r p"
colours class.Unmarked = codes "r"
colours class.LockedOnly = codes "r l"
colours class.Both = codes "r l p"
colours class.All = []

-- How far a number of bytes comes in a bin that is 100 high.
abbrev pub share : ℕ → ℕ → ℕ
share size bytes = 100 * bytes / max 1 size

-- The part of a bin that the blocks of a class have, after so many bytes of others.
unfoldable pub rectangle : List ℕ → Extent → ℕ → ℕ → List ℕ
rectangle words e top height = codes "<rect class=\"" ++ words ++ codes "\"" ++ attribute (codes "x") e.place
    ++ attribute (codes "y") top ++ attribute (codes "width") e.size ++ attribute (codes "height") height ++ codes "/>"

abbrev pub part : ℕ → Extent → ℕ → ℕ → Class → List ℕ
part size e before bytes c = if bytes == 0 then []
    else rectangle (colours c) e (share size before) (share size (before + bytes) - share size before)

abbrev pub parts : ℕ → Extent → List Line → ℕ → List Class → List ℕ
parts size e bin before [] = []
parts size e bin before (c ∷ classes) =
    part size e before (sized c bin) c ++ parts size e bin (before + sized c bin) classes

unfoldable pub all_parts : ℕ → Extent → List Line → List ℕ
all_parts size e bin = parts size e bin 0 drawn_classes

-- What a bin is called: a block by its name, as far as a cell has room for it, or by what it is; several by their number.
abbrev pub caption : Shape → Option (List ℕ) → List ℕ
caption s None = shape_text s
caption s (Some name) = take 21 name

abbrev pub label : List Line → List ℕ
label [] = []
label (l ∷ []) = caption l.shape l.tag.name
label (l ∷ k ∷ more) = decimal (counted class.All (l ∷ k ∷ more)) ++ codes " blocks"

-- The title of a bin: what it is called, its bytes, and how many blocks and bytes it has of each class.
unfoldable pub class_words : ℕ → ℕ → Class → List ℕ
class_words count bytes c = codes "; " ++ decimal count ++ codes " " ++ class_text c ++ codes " " ++ decimal bytes

abbrev pub class_title : List Line → Class → List ℕ
class_title bin c = if counted c bin == 0 then [] else class_words (counted c bin) (sized c bin) c

unfoldable pub class_titles : List Line → List ℕ
class_titles bin = flat_map (class_title bin) drawn_classes

unfoldable pub title_by : Extent → List ℕ → List Line → List ℕ
title_by e words bin = escaped words ++ codes ", " ++ decimal e.size ++ codes " bytes from " ++ decimal e.place ++ class_titles bin

-- A bin in the strip, with outlines of blocks where they can be seen; and its name, if there is room for it.
abbrev pub box_class : Bool → List Line → List ℕ
box_class true bin = codes " class=\"t\""
box_class false [] = []
box_class false (l ∷ []) = []
box_class false (l ∷ k ∷ more) = codes " class=\"s\""

unfoldable pub box_opened : List ℕ → List ℕ
box_opened words = codes "<g" ++ words ++ codes "><title>"

unfoldable pub bin_box : Window → Extent → List Line → List ℕ
bin_box w e bin = box_opened (box_class (is_narrow w e) bin) ++ title_by e (label bin) bin ++ codes "</title>"
    ++ all_parts e.size (in_units w e) bin ++ codes "</g>\n"

unfoldable pub name_at : ℕ → List ℕ → List ℕ
name_at x words = codes "<text" ++ attribute (codes "x") x ++ codes " y=\"20\">" ++ escaped words ++ codes "</text>\n"

unfoldable pub bin_name : Window → Extent → List ℕ → List ℕ
bin_name w e words = if has_room w e (length words) then name_at (middle w e) words else []

-- What a bin has in a layer of the strip, if any of it lies in the window.
abbrev pub bin_extent : ℕ → List Line → Extent
bin_extent place bin = record { place = place; size = line_sizes bin }

abbrev pub layer_text : Layer → Window → Extent → List Line → List ℕ
layer_text layer.Boxes w e bin = bin_box w e bin
layer_text layer.Names w e bin = bin_name w e (label bin)

abbrev pub bin_in : Layer → Window → Extent → List Line → List ℕ
bin_in which w e bin = if is_in w e then layer_text which w e bin else []

unfoldable pub bin_text : Layer → Window → List Line → List ℕ
bin_text which w [] = []
bin_text which w (l ∷ bin) = bin_in which w (bin_extent l.place (l ∷ bin)) (l ∷ bin)

abbrev pub bins_text : Layer → Window → ℕ → List Line → List Line → List ℕ
bins_text which w least bin lines = flat_map (bin_text which w) (bins least bin lines)

-- The strip of a window.
unfoldable pub strip_opened : Window → List ℕ
strip_opened w = codes "<svg width=\"696\" height=\"32\" viewBox=\"" ++ decimal (w.from / unit w) ++ codes " 0 "
    ++ decimal (w.width / unit w)
    ++ codes " 100\" preserveAspectRatio=\"none\">\n"

unfoldable pub strip : Window → ℕ → List Line → List ℕ
strip w least lines = strip_opened w ++ bins_text layer.Boxes w least [] lines
    ++ codes "</svg>\n<g text-anchor=\"middle\">\n" ++ bins_text layer.Names w least [] lines ++ codes "</g>\n"
