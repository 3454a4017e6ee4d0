-- What each change of a zone owes of its landmarks.
use Rattle.zone_marks.proofs.Marks.Passing.{begins-here, at-other}
use Rattle.zone_marks.proofs.Cited.{left-zone, free-given, ◌≡◌, ℕ, ◌+◌, ◌-◌, ◌≤◌, false, List, ◌∷◌, ◌++◌, length, refl, sym, ap, ◌∙◌, subst}
use Rattle.zone_marks.proofs.Cited.{[], arith, written, length-written, Block, Free, Relocatable, size, free, free_of, free_sum, content_of}
use Rattle.zone_marks.proofs.Cited.{is_purgeable, with_content, is_free, filled, size-content, total-append, zone_in, AreOf}
use Rattle.zone_marks.proofs.Cited.{IsMarked, Replaced, ends_run, purgeable_of, purgeable_sum, Landmarks, Stays, one, space, Roomy}
use Rattle.zone_marks.proofs.Cited.{filled-is, free-content, span-free}
use Rattle.zone_marks.proofs.Marks.Keeping.{marks-same}

-- a block whose content is another of as many bytes
content-same : (x : List ℕ) (b : Block) → length x ≡ length (content_of b)
    → (ends_run (with_content x b) ≡ ends_run b) × (space (with_content x b) ≡ space b)
    × (is_purgeable (with_content x b) ≡ is_purgeable b) × (purgeable_of (with_content x b) ≡ purgeable_of b)
content-same x (Relocatable id flags content) e = grind arith
content-same x (Free n) e = (refl, refl, refl, refl)
content-same x _ e = (refl, refl, refl, refl)

module _ (xs : List ℕ) (free purgeable : ℕ) (l : Landmarks) where
  pub with-marks : free ≡ free_sum (zone_in xs) → AreOf l (zone_in xs) → purgeable ≡ purgeable_sum (zone_in xs)
      → IsMarked xs free purgeable l
  with-marks k a m = record { free_is = k; purgeable_is = m; marked = a }

  -- the same zone
  pub with-same : (zone : List Block) → free ≡ free_sum (zone_in xs) → zone_in xs ≡ zone → AreOf l zone
      → purgeable ≡ purgeable_sum zone → IsMarked xs free purgeable l
  with-same zone k e a m = with-marks k (subst (AreOf l) (sym e) a) (subst (λ z. purgeable ≡ purgeable_sum z) (sym e) m)

  -- a block that takes as many bytes, of which as many are Free, that comes to the same in runs and in spaces, and may be
  -- purged if the other may
  pub with-block : (below above : List Block) (b c : Block) (zone : List Block) → free ≡ free_sum (zone_in xs)
      → zone_in xs ≡ below ++ c ∷ above → zone ≡ below ++ b ∷ above → size c ≡ size b → free_of c ≡ free_of b
      → one c ≡ one b → space c ≡ space b → is_purgeable c ≡ is_purgeable b → AreOf l zone
      → purgeable ≡ purgeable_sum (below ++ c ∷ above) → IsMarked xs free purgeable l
  with-block below above b c zone k e was s f r h g a m =
      let w = subst (AreOf l) was a in
      let n = at-other (Stays l.lowest) 0 below above b c s (λ p t q. g ∙ t q) w.1 in
      grind (arith, marks-same)

  -- bytes were written over some of a block's content
  pub with-written : (below above : List Block) (b : Block) (from : ℕ) (x : List ℕ) (zone : List Block)
      → free ≡ free_sum (zone_in xs) → zone_in xs ≡ below ++ with_content (written from x (content_of b)) b ∷ above
      → zone ≡ below ++ b ∷ above → from + length x ≤ length (content_of b) → AreOf l zone
      → purgeable ≡ purgeable_sum zone → IsMarked xs free purgeable l
  with-written below above b from x zone k e was w a m =
      let long = length-written from x (content_of b) w in
      let same = content-same (written from x (content_of b)) b long in
      with-block _ _ b _ _ k e was (size-content _ b long) (free-content _ b) (grind arith) same.1 same.2 a
      (omega (arith, same.3, ap purgeable_sum was, total-append))

-- a block that isn't Free was put at the lower end of a Free one
pub filled-replaced : (xs : List ℕ) (place need : ℕ) (r : Roomy xs place need) (new : Block) → is_free new ≡ false
    → size new ≤ need → (bytes : ℕ) → bytes ≡ size r.s.here → (zone : List Block) → zone ≡ filled new r.s
    → Replaced place (place + bytes) (zone_in xs) zone
filled-replaced xs place need r new solid fits bytes e zone is =
    let k = size r.s.here - size new in
    let l : k + size new ≡ size r.s.here = omega (arith, ap size r.here) in
    record {
      below = r.s.below;
      here = r.s.here ∷ [];
      there = new ∷ free k;
      above = r.s.above;
      was = r.at.whole;
      is = is ∙ sym (filled-is xs place need r new solid k l);
      low = r.at.low;
      high = omega arith;
      span = omega (arith, span-free);
    }

-- the same change, of zones known by other names
pub replaced-as : (lo hi : ℕ) (old new was is : List Block) → was ≡ old → is ≡ new → Replaced lo hi old new
    → Replaced lo hi was is
replaced-as lo hi old new was is e f r = subst (λ z. Replaced lo hi z is) (sym e) (subst (Replaced lo hi old) (sym f) r)

-- what the bytes owe that purges would free
pub ruleset given_steps = (begins-here, left-zone, free-given)
