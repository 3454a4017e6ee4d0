use Rattle.zone_drawing.proofs.Cited.{◌≡◌, List, [], ◌∷◌, ◌++◌, map, refl, sym, ap, ◌∙◌, map_push, above_last, added_line, Line, view_line}
use Rattle.zone_drawing.proofs.Cited.{BlockLine}

-- A block that is added above others.

added-last : (front : List Line) (last l : Line) → added_line (front ++ (last ∷ [])) l ≡ front ++ above_last last l
added-last [] last l = refl
added-last (a ∷ []) last l = refl
added-last (a ∷ b ∷ front) last l = ap (λ ls. a ∷ ls) (added-last (b ∷ front) last l)

-- the last was taken from the others, and put back with the block
pub added_line_last : (old front new : List BlockLine) (last l : BlockLine) → old ≡ front ++ (last ∷ [])
    → map view_line new ≡ map view_line front ++ above_last (view_line last) (view_line l)
    → map view_line new ≡ added_line (map view_line old) (view_line l)
added_line_last old front new last l from to = to
    ∙ sym (added-last (map view_line front) (view_line last) (view_line l))
    ∙ ap (λ ls. added_line ls (view_line l)) (sym (map_push view_line front last) ∙ ap (map view_line) (sym from))
