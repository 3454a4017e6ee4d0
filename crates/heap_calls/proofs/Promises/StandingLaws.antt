use Rattle.heap_calls.proofs.Cited.{◌≡◌, ℕ, ◌≤◌, Bool, true, false, ◌==◌, List, length, refl, sym, ◌∙◌, ap, subst, Some, Decides-eqb}
use Rattle.heap_calls.proofs.Cited.{none-some, Flags, Block, Free, Nonrelocatable, Masters, Relocatable, count, is_nonrelocatable}
use Rattle.heap_calls.proofs.Cited.{with_content, resized, in_run, not_nonrelocatable-relocatable, State, Memory, flagged, Asked, answered}
use Rattle.heap_calls.proofs.Cited.{OneBlockEach, pointer_place, disposes, NextIsNew, StaysNonrelocatable, stands-is, stands-none}
use Rattle.heap_calls.specs.Table as asked
use Rattle.heap_calls.proofs.Rows.Effects as effects
use Rattle.heap_calls.proofs.Rows.Effects.{Effect, effect_of}
use Rattle.heap_calls.proofs.Promises.Knowing.{Known, for_pointer, none-pointer, next-none}
use Rattle.heap_calls.proofs.Promises.AlikeCalls.{Steady, LeavesBy, alike-answered}

-- No call moves a pointer's block, unless it disposes of it.

pub steady-nonrelocatable : (p : ℕ) → Steady (is_nonrelocatable p)
steady-nonrelocatable p = record { rigid = rigid; sized = sized; filled = filled; masters = refl }
  where
    rigid : (b : Block) → in_run b ≡ true → is_nonrelocatable p b ≡ false
    rigid (Free n) e = refl
    rigid (Nonrelocatable id content) e = let f : false ≡ true = e in cc
    rigid Masters e = refl
    rigid (Relocatable id flags content) e = refl

    sized : (n : ℕ) (b : Block) → is_nonrelocatable p b ≡ is_nonrelocatable p (resized n b)
    sized n (Free m) = refl
    sized n (Nonrelocatable id content) = refl
    sized n Masters = refl
    sized n (Relocatable id flags content) = refl

    filled : (x : List ℕ) (b : Block) → is_nonrelocatable p b ≡ is_nonrelocatable p (with_content x b)
    filled x (Free n) = refl
    filled x (Nonrelocatable id content) = refl
    filled x Masters = refl
    filled x (Relocatable id flags content) = refl

pub flagged-nonrelocatable : (p : ℕ) (change : Flags → Flags) (b : Block) → is_nonrelocatable p b ≡ is_nonrelocatable p (flagged change b)
flagged-nonrelocatable p change (Free n) = refl
flagged-nonrelocatable p change (Nonrelocatable id content) = refl
flagged-nonrelocatable p change Masters = refl
flagged-nonrelocatable p change (Relocatable id flags content) = refl

-- the block of another pointer
other-nonrelocatable : (p k : ℕ) → (k == p) ≡ false → (b : Block) → is_nonrelocatable k b ≡ true → is_nonrelocatable p b ≡ false
other-nonrelocatable p k other (Free n) e = refl
other-nonrelocatable p k other (Nonrelocatable id content) e = ap (λ j. j == p) ((Decides-eqb id k).0 e) ∙ other
other-nonrelocatable p k other Masters e = refl
other-nonrelocatable p k other (Relocatable id flags content) e = refl

-- the block of the next number isn't that of a pointer with a place
next-apart : (p place next : ℕ) (zone : List Block) → count (is_nonrelocatable next) zone ≤ 0 → pointer_place p zone ≡ Some place
    → (next == p) ≡ false
next-apart p place next zone none is = cases (next == p) refl
  where
    cases : (t : Bool) → (next == p) ≡ t → t ≡ false
    cases false e = refl
    cases true e =
        let same : next ≡ p = (Decides-eqb next p).0 e in
        let few = subst (λ (j : ℕ). count (is_nonrelocatable j) zone ≤ 0) same none in
        absurd (none-some place (sym (stands-none (is_nonrelocatable p) zone few) ∙ sym (stands-is (is_nonrelocatable p) zone) ∙ is))

-- whether an effect disposes of a pointer: that of a call does so just where the call does
abbrev disposes_by : ℕ → Effect → Bool
disposes_by p (effects.DisposedPointer (Some k)) = k == p
disposes_by p e = false

disposes-effect : (p : ℕ) (a : Asked) → disposes_by p (effect_of a) ≡ disposes p a
disposes-effect p (asked.DisposePtr (Some k)) = refl
disposes-effect p a = refl

leaves-nonrelocatable : (p : ℕ) (zone : List Block) (e : Effect) → disposes_by p e ≡ false
    → LeavesBy (is_nonrelocatable p) zone e
leaves-nonrelocatable p zone (effects.Disposed (Some k)) keeps = not_nonrelocatable-relocatable p k
leaves-nonrelocatable p zone (effects.DisposedPointer (Some k)) keeps = other-nonrelocatable p k keeps
leaves-nonrelocatable p zone (effects.Flagged (Some k) change) keeps = λ at found. flagged-nonrelocatable p change at.here
leaves-nonrelocatable p zone e keeps = tt

pub stays-nonrelocatable : (a : Asked) (m : Memory) → OneBlockEach m.heap.zone → NextIsNew m.heap → StaysNonrelocatable a m
stays-nonrelocatable a m once new p place keeps is =
    let zone = m.heap.zone in
    let z = (answered a m).1.heap.zone in
    let alike = alike-answered (is_nonrelocatable p) (steady-nonrelocatable p) a m once (λ k loose. not_nonrelocatable-relocatable p k)
    (λ x. next-apart p place (length m.heap.names) zone new is) (leaves-nonrelocatable p zone (effect_of a)
    (disposes-effect p a ∙ keeps)) in
    stands-is (is_nonrelocatable p) z ∙ sym alike.1 ∙ sym (stands-is (is_nonrelocatable p) zone) ∙ is

-- the next number is new where each block is known
pub next-new : (s : State) (bytes : ℕ → List ℕ) → Known s bytes → NextIsNew s
next-new s bytes known = none-pointer s bytes known (length s.names) (ap for_pointer (next-none s.names))
