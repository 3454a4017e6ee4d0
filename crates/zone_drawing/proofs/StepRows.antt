-- Worked moments of a zone, by computation.
use Rattle.zone_drawing.proofs.Cited.{◌≡◌, ℕ, List, [], ◌∷◌, Some, None, map, refl, codes, digits, no_flags, Window, line_sizes}
use Rattle.zone_drawing.proofs.Cited.{cleared_lines, parts, purged_lines, Known, Line, Tag, lines, no_tag, Moment, arrow, arrow_of, arrows}
use Rattle.zone_drawing.proofs.Cited.{extent_of, greatest_size, moment_caption, passed_text, passed_words}
use Rattle.block_store.specs.declared.sparing.Seen.TheVariants as see

abbrev numbered : ℕ → Tag
numbered n = record { name = None; owner = None; number = Some n }

abbrev handles : Known
handles = record { handle = numbered; pointer = λ place. no_tag }

-- blocks of the handles 0, 1 and 2, one above the other
abbrev upper : List Line
upper = lines handles 0 (see.Masters ∷ see.Relocatable 0 no_flags 100 ∷ see.Relocatable 1 no_flags 100
    ∷ see.Relocatable 2 no_flags 100 ∷ see.Free 368 ∷ [])

-- the block of handle 0 was purged, that of handle 1 stayed, that of handle 2 moved upward, and that of handle 3 was made
abbrev lower : List Line
lower = lines handles 0 (see.Masters ∷ see.Free 128 ∷ see.Relocatable 1 no_flags 100 ∷ see.Free 128
    ∷ see.Relocatable 2 no_flags 100 ∷ see.Relocatable 3 no_flags 100 ∷ see.Free 112 ∷ [])

whole-zones : (line_sizes upper ≡ 1024) × (line_sizes lower ≡ 1024)
whole-zones = (refl, refl)

-- where the blocks stand in the lower strip
places : (extent_of lower 0 ≡ None) × (extent_of lower 1 ≡ Some (record { place = 400; size = 128 }))
    × (extent_of lower 2 ≡ Some (record { place = 656; size = 128 }))
    × (extent_of lower 3 ≡ Some (record { place = 784; size = 128 }))
places = (refl, refl, refl, refl)

-- all of the zone, and its upper half
abbrev whole : Window
whole = record { from = 0; width = 1024 }

abbrev half : Window
half = record { from = 512; width = 512 }

-- the arrow of the block that moved, from 592 of 1024 bytes to 720
arrow-moved : arrow_of whole (extent_of lower) (record { place = 528; size = 128 }) (Some 2)
    ≡ codes "<line x1=\"402\" x2=\"489\" y2=\"54\"/>\n"
unfolding arrow digits
arrow-moved = refl

-- in the upper half, from 80 of 512 bytes to 208
arrow-half : arrow_of half (extent_of lower) (record { place = 528; size = 128 }) (Some 2)
    ≡ codes "<line x1=\"108\" x2=\"282\" y2=\"54\"/>\n"
unfolding arrow digits
arrow-half = refl

-- none for a block that stayed, that was purged, or that is not known again
arrow-none : (arrow_of whole (extent_of lower) (record { place = 400; size = 128 }) (Some 1) ≡ [])
    × (arrow_of whole (extent_of lower) (record { place = 272; size = 128 }) (Some 0) ≡ [])
    × (arrow_of whole (extent_of lower) (record { place = 0; size = 272 }) None ≡ [])
arrow-none = (refl, refl, refl)

-- of all blocks only one has an arrow: the block that was made has none; nor has one that does not stand alone
arrows-all : (arrows whole 3 (extent_of lower) upper ≡ codes "<line x1=\"402\" x2=\"489\" y2=\"54\"/>\n")
    × (arrows whole 200 (extent_of lower) upper ≡ [])
unfolding arrow digits
arrows-all = (refl, refl)

-- back from the lower strip to the upper one, the block that was made has no arrow, since the upper one has none of it
arrows-back : arrows whole 3 (extent_of upper) lower ≡ codes "<line x1=\"489\" x2=\"402\" y2=\"54\"/>\n"
unfolding arrow digits
arrows-back = refl

-- the scale is that of the largest zone
scale-greatest : greatest_size (record { number = 1; caption = codes "1 NewHandle a 100"; passed = None; lines = upper }
    ∷ record { number = 2; caption = codes "2 NewHandle b 100"; passed = None; lines = lower }
    ∷ record { number = 3; caption = []; passed = None; lines = [] } ∷ []) ≡ 1024
scale-greatest = refl

caption-escaped : moment_caption (codes "3 <NewHandle> 0") ≡ codes "<text class=\"h\" y=\"-14\">3 &lt;NewHandle&gt; 0</text>\n"
unfolding moment_caption
caption-escaped = refl

-- one call that changed nothing, and several
passed-one : passed_text (Some (record { first = 9; last = 9 }))
    ≡ codes "<text class=\"h\" x=\"696\" y=\"-14\" text-anchor=\"end\">9: nothing moved</text>\n"
unfolding passed_words digits
passed-one = refl

passed-several : passed_text (Some (record { first = 9; last = 14 }))
    ≡ codes "<text class=\"h\" x=\"696\" y=\"-14\" text-anchor=\"end\">9 to 14: nothing moved</text>\n"
unfolding passed_words digits
passed-several = refl

-- inside the call: once the block of handle 0 was purged, and once room was made for that of handle 3, with free bytes joined
inside-purged : purged_lines upper lower ≡ lines handles 0 (see.Masters ∷ see.Free 128 ∷ see.Relocatable 1 no_flags 100
    ∷ see.Relocatable 2 no_flags 100 ∷ see.Free 368 ∷ [])
inside-purged = refl

inside-cleared : cleared_lines upper lower ≡ lines handles 0 (see.Masters ∷ see.Free 128 ∷ see.Relocatable 1 no_flags 100
    ∷ see.Free 128 ∷ see.Relocatable 2 no_flags 100 ∷ see.Free 240 ∷ [])
inside-cleared = refl

inside-parts : map (λ (m : Moment). m.caption) (parts upper 4 lower)
    ≡ codes "4: blocks purged" ∷ codes "4: room made" ∷ []
unfolding digits
inside-parts = refl

-- a call that only frees a block, or that only makes one where there is room, has no strips inside it
inside-none : (parts upper 4 (purged_lines upper lower) ≡ []) × (parts (cleared_lines upper lower) 4 lower ≡ [])
unfolding digits
inside-none = (refl, refl)
