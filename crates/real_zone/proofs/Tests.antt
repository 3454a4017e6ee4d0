use Rattle.real_zone.proofs.Cited.{◌≡◌, Bool, true, false, ◌||◌, refl}

-- Tests whose answer is known.

-- one of two tests, where the other fails
pub or-false_left : (a b : Bool) → a ≡ false → (a || b) ≡ b
or-false_left false b h = refl
or-false_left true b h = cc

pub or-false_right : (a b : Bool) → b ≡ false → (a || b) ≡ a
or-false_right true b h = refl
or-false_right false b h = h
