use Rattle.zone_drawing.proofs.Cited.{◌≡◌, Bool, List, [], ◌∷◌, ◌++◌, map, refl, sym, ap, ◌∙◌, map_push, added, after_last, Moment}
use Rattle.zone_drawing.proofs.Cited.{view_moment}
use Rattle.zone_drawing.specs.declared.line.Moment.{Moment as OwnMoment}

-- A moment that is added to others.

added-last : (all : Bool) (front : List Moment) (last m : Moment) → added all (front ++ (last ∷ [])) m ≡ front ++ after_last all last m
added-last all [] last m = refl
added-last all (a ∷ []) last m = refl
added-last all (a ∷ b ∷ front) last m = ap (λ ms. a ∷ ms) (added-last all (b ∷ front) last m)

-- the last was taken from the others, and put back with the moment
pub added_last : (all : Bool) (old front new : List OwnMoment) (last m : OwnMoment) → old ≡ front ++ (last ∷ [])
    → map view_moment new ≡ map view_moment front ++ after_last all (view_moment last) (view_moment m)
    → map view_moment new ≡ added all (map view_moment old) (view_moment m)
added_last all old front new last m from to = to
    ∙ sym (added-last all (map view_moment front) (view_moment last) (view_moment m))
    ∙ ap (λ ms. added all ms (view_moment m)) (sym (map_push view_moment front last) ∙ ap (map view_moment) (sym from))
