-- Worked strips, by computation.
use Rattle.zone_drawing.proofs.Cited.{◌≡◌, ℕ, true, false, List, [], ◌∷◌, Some, None, map, refl, codes, digits, no_flags, Window}
use Rattle.zone_drawing.proofs.Cited.{line_sizes, Known, Line, Tag, lines, no_tag, all_parts, bin_box, bin_name, bin_text, bins, box_opened}
use Rattle.zone_drawing.proofs.Cited.{class_titles, class_words, is_in, least_bin, middle, name_at, piece, rectangle, title_by, row_count}
use Rattle.zone_drawing.proofs.Cited.{row_window, svg_height}
use Rattle.block_store.specs.declared.sparing.Seen.TheVariants as see
use Rattle.zone_drawing.specs.declared.strip.Layer.TheVariants as layer
use Rattle.zone_drawing.specs.declared.totals.Class.TheVariants as class

abbrev known : Known
known = record { handle = λ slot. record { name = Some (codes "text"); owner = None; number = Some slot }; pointer = λ place. no_tag }

-- a block of master pointers, a locked block of a handle, and free bytes
abbrev small : List Line
small = lines known 0 (see.Masters ∷ see.Relocatable 0 (record { locked = true; purgeable = false }) 100 ∷ see.Free 624 ∷ [])

abbrev whole : Window
whole = record { from = 0; width = 1024 }

-- each block of a small zone stands alone
bins-small : map line_sizes (bins (least_bin 3 1024 whole) [] small) ≡ 0 ∷ 272 ∷ 128 ∷ 624 ∷ []
bins-small = refl

-- a locked block: its rectangle, with its title, and its name, for which there is room
abbrev text : List Line
text = lines known 272 (see.Relocatable 0 (record { locked = true; purgeable = false }) 100 ∷ [])

box-locked : bin_text layer.Boxes whole text
    ≡ codes
    "<g><title>text, 128 bytes from 272; 1 locked 128</title><rect class=\"r l\" x=\"272\" y=\"0\" width=\"128\" height=\"100\"/></g>\n"
unfolding bin_text bin_box box_opened title_by class_titles class_words all_parts rectangle digits
box-locked = refl

name-locked : bin_text layer.Names whole text ≡ codes "<text x=\"228\" y=\"20\">text</text>\n"
unfolding bin_text bin_name name_at digits
name-locked = refl

-- in a zone of 128 MB there is no room for it, and the block has no outline
abbrev large : Window
large = record { from = 0; width = 134217728 }

name-none : bin_text layer.Names large text ≡ []
unfolding bin_text bin_name
name-none = refl

-- blocks that are narrower than two units stand in one bin, up to a block that is wider
abbrev many : List Line
many = lines known 0 (see.Masters ∷ see.Relocatable 0 no_flags 100 ∷ see.Relocatable 1 (record { locked = false; purgeable = true }) 100
    ∷ see.Relocatable 2 (record { locked = true; purgeable = true }) 100 ∷ see.Free 134217072 ∷ [])

bins-many : map line_sizes (bins (least_bin 5 134217728 large) [] many) ≡ 656 ∷ 134217072 ∷ []
bins-many = refl

-- the bin has a part for each kind, as high as its share, in units of 9 bytes, and a title that says how many of what
abbrev few : List Line
few = lines known 0 (see.Masters ∷ see.Relocatable 0 no_flags 100 ∷ see.Relocatable 1 (record { locked = false; purgeable = true }) 100
    ∷ see.Free 128 ∷ [])

box-few : bin_text layer.Boxes large few
    ≡ codes
    "<g class=\"t\"><title>4 blocks, 656 bytes from 0; 1 free 128; 1 master pointers 272; 1 relocatable 128; 1 may be purged 128</title><rect class=\"f\" x=\"0\" y=\"0\" width=\"72\" height=\"19\"/><rect class=\"m\" x=\"0\" y=\"19\" width=\"72\" height=\"41\"/><rect class=\"r\" x=\"0\" y=\"60\" width=\"72\" height=\"20\"/><rect class=\"r p\" x=\"0\" y=\"80\" width=\"72\" height=\"20\"/></g>\n"
unfolding bin_text bin_box box_opened title_by class_titles class_words all_parts rectangle digits
box-few = refl

-- a part of a zone: what of a block lies in it, and where its middle is
abbrev half : Window
half = record { from = 512; width = 512 }

piece-half : (piece half (record { place = 400; size = 624 }) ≡ record { place = 512; size = 512 })
    × (is_in half (record { place = 272; size = 128 }) ≡ false) × (middle half (record { place = 400; size = 624 }) ≡ 348)
piece-half = (refl, refl, refl)

-- rows of a zone of 512 kB with 188 blocks, and of one with 3000; and how high the pictures are
rows-wrapped : (row_count 188 ≡ 16) × (row_window (record { from = 0; width = 524288 }) 16 3 ≡ record { from = 98304; width = 32768 })
    × (row_count 3000 ≡ 12)
unfolding row_count row_window
rows-wrapped = (refl, refl, refl)

heights : (svg_height 4 ≡ 192) × (svg_height 60 ≡ 1256) × (svg_height 61 ≡ 430) × (svg_height 800 ≡ 2614) × (svg_height 3000 ≡ 742)
unfolding row_count
heights = (refl, refl, refl, refl, refl)
