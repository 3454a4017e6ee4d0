use Rattle.real_zone_view.proofs.Cited.{◌≡◌, ℕ, true, false, List, [], ◌∷◌, Option, Some, None, refl, subst, IsTrue, first, is_empty}
use Rattle.real_zone_view.proofs.Cited.{damages, is_zone_at, Damage, Form, dump_whole, DumpFault, damage_or}

-- A zone that keeps all rules has no damage that would be a fault.
pub sound_fault : (form : Form) (dump : List ℕ) (base zone : ℕ) (other : Option DumpFault)
    → IsTrue (is_zone_at form dump base zone) → damage_or (first (damages form dump base zone)) other ≡ other
sound_fault form dump base zone other stands =
    cases (damages form dump base zone) (subst IsTrue (dump_whole form dump base zone) stands)
  where
    cases : (found : List Damage) → IsTrue (is_empty found) → damage_or (first found) other ≡ other
    cases [] empty = refl
    cases (d ∷ found) empty = let f : false ≡ true = empty in cc
