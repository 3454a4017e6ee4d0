use Rattle.zone_drawing.proofs.Cited.{◌≡◌, ℕ, Bool, true, false, List, [], ◌∷◌, ◌++◌, Option, Some, None, cond, nat_le, refl, ◌∙◌, ap}
use Rattle.zone_drawing.proofs.Cited.{Extent, Window, Line, arrow_of, arrow_to, line_arrow, arrows, extent}

-- Arrows are the same where the blocks of the lower strip stand at the same places.

same-of : (w : Window) (f g : ℕ → Option Extent) → ((number : ℕ) → f number ≡ g number) → (e : Extent) (s : Option ℕ)
    → arrow_of w f e s ≡ arrow_of w g e s
same-of w f g same e None = refl
same-of w f g same e (Some number) = ap (arrow_to w e) (same number)

same-arrow : (w : Window) (least : ℕ) (f g : ℕ → Option Extent) → ((number : ℕ) → f number ≡ g number) → (l : Line)
    → line_arrow w least f l ≡ line_arrow w least g l
same-arrow w least f g same l =
    ap (λ x. cond {A = List ℕ} (nat_le least l.size) x []) (same-of w f g same (extent l) l.tag.number)

pub same-arrows : (w : Window) (least : ℕ) (f g : ℕ → Option Extent) → ((number : ℕ) → f number ≡ g number) → (lines : List Line)
    → arrows w least f lines ≡ arrows w least g lines
same-arrows w least f g same [] = refl
same-arrows w least f g same (l ∷ lines) = ap (λ x. x ++ arrows w least f lines) (same-arrow w least f g same l)
    ∙ ap (λ x. line_arrow w least g l ++ x) (same-arrows w least f g same lines)
