-- Worked zones, by computation.
use Rattle.zone_drawing.proofs.Cited.{◌≡◌, true, false, List, [], ◌∷◌, Some, None, map, replicate, refl, codes, pos, digits, Block, Free}
use Rattle.zone_drawing.proofs.Cited.{Nonrelocatable, Masters, Relocatable, no_flags, seen, row_line, rows, chosen, digit_at, hex_digits}
use Rattle.zone_drawing.proofs.Cited.{Known, Line, lines, no_tag, escaped, cell_box, line_text, type_text, counted, sized, largest_of}
use Rattle.zone_drawing.specs.declared.choice.Choice.TheVariants as choice
use Rattle.zone_drawing.specs.declared.digits.Digits.TheVariants as written
use Rattle.zone_drawing.specs.declared.line.Shape.TheVariants as shape
use Rattle.zone_drawing.specs.declared.style.Style.TheVariants as style
use Rattle.zone_drawing.specs.declared.totals.Class.TheVariants as class

-- a pointer's block; a locked, purgeable block; a new block of master pointers above it; a purgeable block; and free bytes
abbrev marked : List Block
marked = Masters ∷ Nonrelocatable 272 (replicate 20 0)
    ∷ Relocatable 0 (record { locked = true; purgeable = true }) (replicate 100 0) ∷ Masters
    ∷ Relocatable 1 (record { locked = false; purgeable = true }) [] ∷ Free 288 ∷ []

-- the purgeable block of 16 bytes can be had too, the locked one can't
largest-marked : largest_of marked ≡ record { now = 288; compacted = 288; purged = 304 }
largest-marked = refl

-- compaction joins the free bytes on both sides of a block
largest-joined : largest_of (Masters ∷ Free 128 ∷ Relocatable 0 no_flags (replicate 100 0) ∷ Free 496 ∷ [])
    ≡ record { now = 496; compacted = 624; purged = 624 }
largest-joined = refl

-- a locked block parts the free bytes
largest-parted : largest_of (Masters ∷ Free 128
    ∷ Relocatable 0 (record { locked = true; purgeable = true }) (replicate 100 0) ∷ Free 496 ∷ [])
    ≡ record { now = 496; compacted = 496; purged = 496 }
largest-parted = refl

-- what is known of the blocks of `marked`
abbrev nothing_known : Known
nothing_known = record { handle = λ slot. no_tag; pointer = λ place. record { name = Some (codes "p"); owner = None; number = None } }

abbrev shown : List Line
shown = lines nothing_known 0 (map seen marked)

places : map (λ (l : Line). l.place) shown ≡ 0 ∷ 272 ∷ 320 ∷ 448 ∷ 720 ∷ 736 ∷ []
places = refl

logical_sizes : map (λ (l : Line). l.bytes) shown ≡ 0 ∷ 20 ∷ 100 ∷ 0 ∷ 0 ∷ 0 ∷ []
logical_sizes = refl

totals : (counted class.Free shown ≡ 1) × (sized class.Free shown ≡ 288) × (counted class.Nonrelocatable shown ≡ 1)
    × (sized class.Nonrelocatable shown ≡ 48) × (counted class.Masters shown ≡ 2) × (sized class.Masters shown ≡ 544)
    × (counted class.Relocatable shown ≡ 2) × (sized class.Relocatable shown ≡ 144)
totals = (refl, refl, refl, refl, refl, refl, refl, refl)

marks : (counted class.Locked shown ≡ 1) × (sized class.Locked shown ≡ 128) × (counted class.Purgeable shown ≡ 1)
    × (sized class.Purgeable shown ≡ 16) × (counted class.All shown ≡ 6) × (sized class.All shown ≡ 1024)
marks = (refl, refl, refl, refl, refl, refl)

-- a locked block that holds the resource 'ST<>' -7 of the file 2
abbrev held : Line
held = record {
  place = 320;
  size = 128;
  shape = shape.Relocatable (record { locked = true; purgeable = false });
  bytes = 100;
  tag = record {
    name = Some (codes "a");
    owner = Some (record { kind = 1398029374; id = pos 7; file = 2 });
    number = None;
  };
}

line-tabs : line_text written.Decimal style.Tabs held ≡ codes "block\t320\t128\trelocatable\t100\ta\tlocked\t-\t'ST<>'\t7\t2\n"
unfolding digits
line-tabs = refl

-- distances and sizes with eight digits: of 272, of 1504 and of 2 ^ 32 - 16
hex : map hex_digits (272 ∷ 1504 ∷ 4294967280 ∷ []) ≡ codes "00000110" ∷ codes "000005E0" ∷ codes "FFFFFFF0" ∷ []
unfolding hex_digits digit_at
hex = refl

line-hex : line_text written.Hexadecimal style.Tabs held
    ≡ codes "block\t00000140\t00000080\trelocatable\t00000064\ta\tlocked\t-\t'ST<>'\t7\t2\n"
unfolding hex_digits digit_at digits
line-hex = refl

-- the locked block is purgeable too, and the pointers of `marked` have no number
chosen-places : (map (λ (l : Line). l.place) (chosen choice.Locked shown) ≡ 320 ∷ [])
    × (map (λ (l : Line). l.place) (chosen choice.Purgeable shown) ≡ 320 ∷ 720 ∷ [])
    × (map (λ (l : Line). l.place) (chosen choice.Free shown) ≡ 736 ∷ []) × (chosen (choice.Of 0) shown ≡ [])
chosen-places = (refl, refl, refl, refl)

-- a row that is not full, and two of 17 bytes
row-short : row_line 16 (0 ∷ 255 ∷ 127 ∷ 32 ∷ 126 ∷ [])
    ≡ codes "00000010  00 FF 7F 20 7E                                   ... ~\n"
unfolding hex_digits digit_at
row-short = refl

rows-two : rows [] (replicate 17 7) ≡ replicate 16 7 ∷ (7 ∷ []) ∷ []
rows-two = refl

-- a type with a byte that can't be printed, and one with a quote
types : (type_text (1 ∷ 65 ∷ 66 ∷ 67 ∷ []) ≡ codes "$01414243") × (type_text (codes "IT'S") ≡ codes "$49542753")
types = (refl, refl)

-- a cell of a locked block
box-marked : cell_box held.shape ≡ codes "<rect class=\"r l\" width=\"168\" height=\"68\"/>"
unfolding digits
box-marked = refl

text-escaped : escaped (codes "a<b>&c") ≡ codes "a&lt;b&gt;&amp;c"
text-escaped = refl
