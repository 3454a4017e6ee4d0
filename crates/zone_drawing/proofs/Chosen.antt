use Rattle.zone_drawing.proofs.Cited.{◌≡◌, ℕ, ◌+◌, Bool, true, false, not, ◌&&◌, List, [], ◌∷◌, refl, sym, ap, arith, ◌∙◌, cond, chosen}
use Rattle.zone_drawing.proofs.Cited.{is_chosen, Line, is_locked, counted, in_class, sized, Choice, Class}
use Rattle.zone_drawing.specs.declared.choice.Choice.TheVariants as choice
use Rattle.zone_drawing.specs.declared.totals.Class.TheVariants as class

-- The blocks that are chosen have the totals of their class.

pub all-chosen : (lines : List Line) → chosen choice.All lines ≡ lines
all-chosen [] = refl
all-chosen (l ∷ lines) = ap (λ rest. l ∷ rest) (all-chosen lines)

pub chosen-twice : (k : Choice) (lines : List Line) → chosen k (chosen k lines) ≡ chosen k lines
chosen-twice k [] = refl
chosen-twice k (l ∷ lines) = cases (is_chosen k l) refl (chosen-twice k lines)
  where
    cases : (b : Bool) → is_chosen k l ≡ b → chosen k (chosen k lines) ≡ chosen k lines
        → chosen k (cond b (l ∷ chosen k lines) (chosen k lines)) ≡ cond b (l ∷ chosen k lines) (chosen k lines)
    cases true is again = ap (λ c. cond c (l ∷ chosen k (chosen k lines)) (chosen k (chosen k lines))) is
        ∙ ap (λ rest. l ∷ rest) again
    cases false is again = again

-- each block of the class is chosen
abbrev pub AreChosen : Class → Choice → Type 0
AreChosen c k = (l : Line) → is_chosen k l ≡ false → in_class c l.shape ≡ false

pub counted-chosen : (c : Class) (k : Choice) → AreChosen c k → (lines : List Line) → counted c (chosen k lines) ≡ counted c lines
counted-chosen c k are [] = refl
counted-chosen c k are (l ∷ lines) = cases (is_chosen k l) (are l) (counted-chosen c k are lines)
  where
    cases : (b : Bool) → (b ≡ false → in_class c l.shape ≡ false) → counted c (chosen k lines) ≡ counted c lines
        → counted c (cond b (l ∷ chosen k lines) (chosen k lines)) ≡ counted c (l ∷ lines)
    cases true none rest = ap (λ n. cond {A = ℕ} (in_class c l.shape) 1 0 + n) rest
    cases false none rest =
        let nothing : counted c lines ≡ 0 + counted c lines = omega arith in
        rest ∙ nothing ∙ sym (ap (λ b. cond {A = ℕ} b 1 0 + counted c lines) (none refl))

pub sized-chosen : (c : Class) (k : Choice) → AreChosen c k → (lines : List Line) → sized c (chosen k lines) ≡ sized c lines
sized-chosen c k are [] = refl
sized-chosen c k are (l ∷ lines) = cases (is_chosen k l) (are l) (sized-chosen c k are lines)
  where
    cases : (b : Bool) → (b ≡ false → in_class c l.shape ≡ false) → sized c (chosen k lines) ≡ sized c lines
        → sized c (cond b (l ∷ chosen k lines) (chosen k lines)) ≡ sized c (l ∷ lines)
    cases true none rest = ap (λ n. cond {A = ℕ} (in_class c l.shape) l.size 0 + n) rest
    cases false none rest =
        let nothing : sized c lines ≡ 0 + sized c lines = omega arith in
        rest ∙ nothing ∙ sym (ap (λ b. cond {A = ℕ} b l.size 0 + sized c lines) (none refl))

pub free-chosen : AreChosen class.Free choice.Free
free-chosen l is = is

pub locked-chosen : AreChosen class.Locked choice.Locked
locked-chosen l is = is

-- a block of the class may be purged, and so is purgeable
pub purgeable-chosen : AreChosen class.Purgeable choice.Purgeable
purgeable-chosen l is = ap (λ b. b && not (is_locked l.shape)) is
