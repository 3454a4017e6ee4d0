-- What a block's header tells of where it ends, and its Free bytes.
use Rattle.zone_marks.proofs.Cited.{◌≡◌, ℕ, Bool, false, not, cond, ◌==◌, ◌+◌, ◌%◌, ◌<◌, ◌≤◌, List, length, refl, arith, word_at, Block}
use Rattle.zone_marks.proofs.Cited.{Free, size, free_of, is_room, runs_on, left_in, IsOnWay, Spans, stepped, same-here}

-- two words of a header tell where its block ends, its Free bytes, and whether it ends a run
pub span-made : (at : ℕ) (xs : List ℕ) (w : IsOnWay at xs) → at < length xs → (n t : ℕ) → n + t ≡ word_at at xs
    → n % 16 ≡ 0 → t ≤ 3 → (free : ℕ) → free ≡ cond (t == 0) n 0 → (barrier : Bool)
    → barrier ≡ not (runs_on t (word_at (at + 12) xs)) → Spans at (at + n) free barrier xs
span-made at xs w l n t e h k free f barrier b =
    let s = stepped at xs w l n t e h k in
    let o = stepped at xs w l n t e h k in
    let same = same-here at xs t o s.here (left_in (at + n) xs) s.is in
    grind arith

pub no-room : (p : ℕ) (b : Block) → 0 < size b → (0 < free_of b → p ≤ free_of b → ⊥) → is_room p b ≡ false
no-room p (Free n) s f = grind arith
no-room p _ s f = refl
