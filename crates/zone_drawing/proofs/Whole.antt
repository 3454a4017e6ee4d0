use Rattle.zone_drawing.proofs.Cited.{◌≡◌, ◌≤◌, ℕ, ◌+◌, ◌*◌, ◌/◌, Bool, true, false, not, ◌&&◌, List, [], ◌∷◌, ◌++◌, refl, sym, ◌∙◌, ap}
use Rattle.zone_drawing.proofs.Cited.{arith, cond, length, min, nat_le, append_assoc, line_sizes, Line, bins, blocks_in, counted_by}
use Rattle.zone_drawing.proofs.Cited.{counted_in, drawn_classes, is_full, sized_by, sized_in, counted, sized, Shape, Class}
use Rattle.zone_drawing.specs.declared.line.Shape.TheVariants as shape

-- No block is lost in the bins of a strip, nor in the parts of a bin.

abbrev next : ℕ → List Line → Line → List Line → Bool → List (List Line)
next least bin l lines full = cond full (bin ∷ bins least (l ∷ []) lines) (bins least (bin ++ (l ∷ [])) lines)

all-blocks : (least : ℕ) (lines bin : List Line) → blocks_in (bins least bin lines) ≡ bin ++ lines
all-blocks least [] bin = refl
all-blocks least (l ∷ lines) bin = cases (is_full least (line_sizes bin) l) (λ other. all-blocks least lines other)
  where
    cases : (full : Bool) → ((other : List Line) → blocks_in (bins least other lines) ≡ other ++ lines)
        → blocks_in (next least bin l lines full) ≡ bin ++ (l ∷ lines)
    cases true again = ap (λ x. bin ++ x) (again (l ∷ []))
    cases false again = again (bin ++ (l ∷ [])) ∙ append_assoc bin (l ∷ []) lines

pub each-block : (least : ℕ) (lines : List Line) → blocks_in (bins least [] lines) ≡ lines
each-block least lines = all-blocks least lines []

counted-both : (c : Class) (xs ys : List Line) → counted c (xs ++ ys) ≡ counted c xs + counted c ys
counted-both c [] ys = omega arith
counted-both c (x ∷ xs) ys = grind (arith, counted-both c xs ys)

sized-both : (c : Class) (xs ys : List Line) → sized c (xs ++ ys) ≡ sized c xs + sized c ys
sized-both c [] ys = omega arith
sized-both c (x ∷ xs) ys = grind (arith, sized-both c xs ys)

counted-in : (c : Class) (all : List (List Line)) → counted_in c all ≡ counted c (blocks_in all)
counted-in c [] = refl
counted-in c (bin ∷ rest) = ap (λ n. counted c bin + n) (counted-in c rest) ∙ sym (counted-both c bin (blocks_in rest))

sized-in : (c : Class) (all : List (List Line)) → sized_in c all ≡ sized c (blocks_in all)
sized-in c [] = refl
sized-in c (bin ∷ rest) = ap (λ n. sized c bin + n) (sized-in c rest) ∙ sym (sized-both c bin (blocks_in rest))

pub each-counted : (least : ℕ) (lines : List Line) (c : Class) → counted_in c (bins least [] lines) ≡ counted c lines
each-counted least lines c = counted-in c (bins least [] lines) ∙ ap (counted c) (each-block least lines)

pub each-sized : (least : ℕ) (lines : List Line) (c : Class) → sized_in c (bins least [] lines) ≡ sized c lines
each-sized least lines c = sized-in c (bins least [] lines) ∙ ap (sized c) (each-block least lines)

-- a block is of one of the classes
counted-one : (s : Shape) (l : Line) (bin : List Line) → l.shape ≡ s
    → counted_by drawn_classes (l ∷ bin) ≡ 1 + counted_by drawn_classes bin
counted-one s l bin is = ap (λ (t : Shape). counted_by drawn_classes (record l { shape = t } ∷ bin)) is ∙ cases s
  where
    flagged : (locked purgeable : Bool)
        → counted_by drawn_classes (record l { shape = shape.Relocatable (record { locked = locked; purgeable = purgeable }) } ∷ bin)
        ≡ 1 + counted_by drawn_classes bin
    flagged true true = omega arith
    flagged true false = omega arith
    flagged false true = omega arith
    flagged false false = omega arith

    cases : (t : Shape) → counted_by drawn_classes (record l { shape = t } ∷ bin) ≡ 1 + counted_by drawn_classes bin
    cases shape.Free = omega arith
    cases shape.Nonrelocatable = omega arith
    cases shape.Masters = omega arith
    cases (shape.Relocatable flags) = flagged flags.locked flags.purgeable

sized-one : (s : Shape) (l : Line) (bin : List Line) → l.shape ≡ s
    → sized_by drawn_classes (l ∷ bin) ≡ l.size + sized_by drawn_classes bin
sized-one s l bin is = ap (λ (t : Shape). sized_by drawn_classes (record l { shape = t } ∷ bin)) is ∙ cases s
  where
    flagged : (locked purgeable : Bool)
        → sized_by drawn_classes (record l { shape = shape.Relocatable (record { locked = locked; purgeable = purgeable }) } ∷ bin)
        ≡ l.size + sized_by drawn_classes bin
    flagged true true = omega arith
    flagged true false = omega arith
    flagged false true = omega arith
    flagged false false = omega arith

    cases : (t : Shape) → sized_by drawn_classes (record l { shape = t } ∷ bin) ≡ l.size + sized_by drawn_classes bin
    cases shape.Free = omega arith
    cases shape.Nonrelocatable = omega arith
    cases shape.Masters = omega arith
    cases (shape.Relocatable flags) = flagged flags.locked flags.purgeable

pub parts-counted : (bin : List Line) → counted_by drawn_classes bin ≡ length bin
parts-counted [] = refl
parts-counted (l ∷ bin) = counted-one l.shape l bin refl ∙ ap (λ n. 1 + n) (parts-counted bin) ∙ omega arith

pub parts-sized : (bin : List Line) → sized_by drawn_classes bin ≡ line_sizes bin
parts-sized [] = refl
parts-sized (l ∷ bin) = sized-one l.shape l bin refl ∙ ap (λ n. l.size + n) (parts-sized bin)
