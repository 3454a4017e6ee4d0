use Rattle.zone_drawing.proofs.Cited.{◌≡◌, ◌≤◌, ℕ, ◌+◌, ◌*◌, ◌/◌, Bool, true, false, min, nat_le, cond, refl, arith, row_count}
use Rattle.zone_drawing.proofs.laws.pictures_are_low.Goals as goal

pub returns : goal.returns
unfolding row_count
returns c count = cases (nat_le count 60) (nat_le count 800) refl
  where
    cases : (few seen : Bool) → nat_le count 60 ≡ few
        → cond {A = ℕ} few (116 + 76 * ((count + 3) / 4)) (118 + 52 * cond {A = ℕ} seen (min 48 (count / 12 + 1)) 12) ≤ 4000
    cases true seen is = grind (arith, is)
    cases false true is = grind arith
    cases false false is = grind arith
