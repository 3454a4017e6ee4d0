use Rattle.heap_calls.proofs.Cited.{◌≡◌, ℕ, ◌/◌, ◌%◌, ◌≤◌, Bool, true, false, not, ◌&&◌, ◌==◌, List, ◌∷◌, refl, sym, ◌∙◌, ap, subst, cond}
use Rattle.heap_calls.proofs.Cited.{arith, Option, Some, None, cond-false, and_parts, Decides-eqb, none-some, Flags, Block, Free}
use Rattle.heap_calls.proofs.Cited.{Nonrelocatable, Masters, Relocatable, total, count, is_mover, is_relocatable, is_nonrelocatable}
use Rattle.heap_calls.proofs.Cited.{with_content, resized, in_run, Spot, spot, spot-is, spot-passes, total-append, total-le, Memory}
use Rattle.heap_calls.proofs.Cited.{flagged, is_loose, Asked, answered, is_locked, locked_place, releases, OneBlockEach, StaysLocked, apart}
use Rattle.heap_calls.proofs.Cited.{stands-is, locks, stands-none}
use Rattle.heap_calls.specs.Table as asked
use Rattle.heap_calls.proofs.Rows.Effects as effects
use Rattle.heap_calls.proofs.Rows.Effects.{Effect, effect_of}
use Rattle.heap_calls.proofs.Promises.KnownChanges.{none-spot}
use Rattle.heap_calls.proofs.Promises.AlikeCalls.{Steady, LeavesFlags, LeavesBy, LeavesLoose, flagged-number}
use Rattle.heap_calls.proofs.Promises.AlikeCalls.{alike-answered}

-- No call moves or empties a locked block, unless it releases it.

-- no block of a run is locked, and a lock hangs on neither size nor bytes
pub steady-locked : (h : ℕ) → Steady (is_locked h)
steady-locked h = record { rigid = rigid; sized = sized; filled = filled; masters = refl }
  where
    rigid : (b : Block) → in_run b ≡ true → is_locked h b ≡ false
    rigid (Free n) e = refl
    rigid (Nonrelocatable id content) e = refl
    rigid Masters e = refl
    rigid (Relocatable id flags content) e = cases (id == h) flags.locked e
      where
        cases : (t l : Bool) → not l ≡ true → (t && l) ≡ false
        cases t true e = let f : false ≡ true = e in cc
        cases true false e = refl
        cases false false e = refl

    sized : (n : ℕ) (b : Block) → is_locked h b ≡ is_locked h (resized n b)
    sized n (Free m) = refl
    sized n (Nonrelocatable id content) = refl
    sized n Masters = refl
    sized n (Relocatable id flags content) = refl

    filled : (x : List ℕ) (b : Block) → is_locked h b ≡ is_locked h (with_content x b)
    filled x (Free n) = refl
    filled x (Nonrelocatable id content) = refl
    filled x Masters = refl
    filled x (Relocatable id flags content) = refl

-- a locked block of a handle is one of its blocks
pub fewer : (h : ℕ) (bs : List Block) → total (locks (is_locked h)) bs ≤ count (is_relocatable h) bs
fewer h bs = total-le (locks (is_locked h)) (λ b. cond (is_relocatable h b) 1 0) each bs
  where
    each : (b : Block) → locks (is_locked h) b ≤ cond {A = ℕ} (is_relocatable h b) 1 0
    each (Free n) = omega arith
    each (Nonrelocatable id content) = omega arith
    each Masters = omega arith
    each (Relocatable id flags content) = cases (id == h) flags.locked
      where
        cases : (t l : Bool) → cond {A = ℕ} (t && l) 1 0 ≤ cond {A = ℕ} t 1 0
        cases true true = omega arith
        cases true false = omega arith
        cases false l = omega arith

-- there is a locked block where it has a place
pub some-locked : (h place : ℕ) (zone : List Block) → locked_place h zone ≡ Some place → (R : Type 0)
    → total (locks (is_locked h)) zone ≤ 0 → R
some-locked h place zone is R none = absurd (none-some place
    (sym (stands-none (is_locked h) zone none) ∙ sym (stands-is (is_locked h) zone) ∙ is))

-- the block of a handle that is locked
locked-only : (h place : ℕ) (zone : List Block) (s : Spot) → count (is_relocatable h) zone ≤ 1
    → spot (is_relocatable h) zone ≡ Some s → locked_place h zone ≡ Some place → is_locked h s.here ≡ true
locked-only h place zone s once found is = cases (is_locked h s.here) refl
  where
    cases : (t : Bool) → is_locked h s.here ≡ t → is_locked h s.here ≡ true
    cases true e = e
    cases false e =
        let a = apart (is_relocatable h) zone s found once in
        let below = fewer h s.below in let above = fewer h s.above in
        let here : locks (is_locked h) s.here ≡ 0 = cond-false (is_locked h s.here) 1 0 e in
        some-locked h place zone is (is_locked h s.here ≡ true)
        (omega (
          arith,
          ap (total (locks (is_locked h))) (spot-is (is_relocatable h) zone s found),
          total-append
              (locks (is_locked h)) s.below (s.here ∷ s.above),
        ))

locked-stands : (h : ℕ) (b : Block) → is_locked h b ≡ true → is_mover b ≡ false
locked-stands h (Free n) e = refl
locked-stands h (Nonrelocatable id content) e = refl
locked-stands h Masters e = refl
locked-stands h (Relocatable id flags content) e = ap not (and_parts (id == h) flags.locked e).1

-- a block of another handle
pub other-unlocked : (h k : ℕ) → (k == h) ≡ false → (b : Block) → is_relocatable k b ≡ true → is_locked h b ≡ false
other-unlocked h k other (Free n) e = refl
other-unlocked h k other (Nonrelocatable id content) e = refl
other-unlocked h k other Masters e = refl
other-unlocked h k other (Relocatable id flags content) e = ap (λ j. j == h && flags.locked) ((Decides-eqb id k).0 e)
    ∙ ap (λ t. t && flags.locked) other

-- a number is another one or the same
by_number : (h k : ℕ) (R : Type 0) → (k ≡ h → R) → ((k == h) ≡ false → R) → R
by_number h k R same other = cases (k == h) refl
  where
    cases : (t : Bool) → (k == h) ≡ t → R
    cases true e = same ((Decides-eqb k h).0 e)
    cases false e = other e

-- a handle without a locked block isn't that of the locked one
pub loose-unlocked : (h place : ℕ) (zone : List Block) → OneBlockEach zone → locked_place h zone ≡ Some place
    → LeavesLoose (is_locked h) zone
loose-unlocked h place zone once is k loose =
    by_number h k ((b : Block) → is_relocatable k b ≡ true → is_locked h b ≡ false)
    (λ same. by_spot (spot (is_relocatable h) zone) refl (subst
    (λ (j : ℕ). is_loose (spot (is_relocatable j) zone) ≡ true) same loose)) (other-unlocked h k)
  where
    by_spot : (o : Option Spot) → spot (is_relocatable h) zone ≡ o → is_loose o ≡ true → (b : Block)
        → is_relocatable k b ≡ true → is_locked h b ≡ false
    by_spot None found e b passes =
        let few = fewer h zone in let none = none-spot (is_relocatable h) zone found in
        some-locked h place zone is (is_locked h b ≡ false) (omega arith)
    by_spot (Some at) found e b passes = let f : true ≡ false = sym e
        ∙ locked-stands h at.here (locked-only h place zone at (once h) found is) in cc

-- other flags of the block of another handle
pub other-flags : (h k : ℕ) → (k == h) ≡ false → (zone : List Block) (change : Flags → Flags)
    → LeavesFlags (is_locked h) zone k change
other-flags h k other zone change at found =
    let passes = spot-passes (is_relocatable k) zone at found in
    other-unlocked h k other at.here passes ∙ sym (other-unlocked h k other (flagged change at.here)
    (flagged-number change k at.here ∙ passes))

-- other flags, where the lock of a locked block stays
flags-locked : (h place : ℕ) (zone : List Block) → OneBlockEach zone → locked_place h zone ≡ Some place
    → (k : ℕ) (change : Flags → Flags) → (k ≡ h → (b : Block) → is_locked h b ≡ true
    → is_locked h (flagged change b) ≡ true)
    → LeavesFlags (is_locked h) zone k change
flags-locked h place zone once is k change kept at found =
    by_number h k (is_locked h at.here ≡ is_locked h (flagged change at.here))
    (λ same. let locked = locked-only h place zone at (once h)
    (subst (λ (j : ℕ). spot (is_relocatable j) zone ≡ Some at) same found) is in
    locked ∙ sym (kept same at.here locked))
    (λ other. other-flags h k other zone change at found)

-- a change that locks, or leaves the lock
still-locked : (h : ℕ) (change : Flags → Flags) → ((f : Flags) → f.locked ≡ true → (change f).locked ≡ true)
    → (b : Block) → is_locked h b ≡ true → is_locked h (flagged change b) ≡ true
still-locked h change kept (Free n) e = e
still-locked h change kept (Nonrelocatable id content) e = e
still-locked h change kept Masters e = e
still-locked h change kept (Relocatable id flags content) e = let both = and_parts (id == h) flags.locked e in
    rw (both.0, kept flags both.1) refl

-- a change that leaves each lock
abbrev keeps_lock : (Flags → Flags) → Bool
keeps_lock change = (change (record { locked = true; purgeable = true })).locked
    && (change (record { locked = true; purgeable = false })).locked

locks-still : (change : Flags → Flags) → keeps_lock change ≡ true → (f : Flags) → f.locked ≡ true → (change f).locked ≡ true
locks-still change kept f = cases f.locked f.purgeable (and_parts
    (change (record { locked = true; purgeable = true })).locked
    (change (record { locked = true; purgeable = false })).locked kept)
  where
    cases : (l p : Bool) → ((change (record { locked = true; purgeable = true })).locked ≡ true)
        × ((change (record { locked = true; purgeable = false })).locked ≡ true)
        → l ≡ true → (change (record { locked = l; purgeable = p })).locked ≡ true
    cases true true both e = both.0
    cases true false both e = both.1
    cases false p both e = let f : false ≡ true = e in cc

-- whether an effect disposes of a handle, or may unlock its block: one that does is that of a call that releases it
abbrev is_name : ℕ → Option ℕ → Bool
is_name h None = false
is_name h (Some k) = k == h

abbrev releases_by : ℕ → Effect → Bool
releases_by h (effects.Disposed handle) = is_name h handle
releases_by h (effects.Flagged handle change) = not (keeps_lock change) && is_name h handle
releases_by h e = false

set-releases : (t u : Bool) → (u && not t) ≡ false → (not (t && t) && u) ≡ false
set-releases true u e = refl
set-releases false true e = e
set-releases false false e = e

releases-effect : (h : ℕ) (a : Asked) → releases h a ≡ false → releases_by h (effect_of a) ≡ false
releases-effect h (asked.DisposeHandle (Some k)) keeps = keeps
releases-effect h (asked.HUnlock (Some k)) keeps = keeps
releases-effect h (asked.HSetState None byte) keeps = set-releases (byte / 128 % 2 == 1) false keeps
releases-effect h (asked.HSetState (Some k) byte) keeps = set-releases (byte / 128 % 2 == 1) (k == h) keeps
releases-effect h a keeps = refl

leaves-locked : (h place : ℕ) (zone : List Block) → OneBlockEach zone → locked_place h zone ≡ Some place → (e : Effect)
    → releases_by h e ≡ false → LeavesBy (is_locked h) zone e
leaves-locked h place zone once is (effects.Disposed (Some k)) keeps = other-unlocked h k keeps
leaves-locked h place zone once is (effects.DisposedPointer (Some p)) keeps = unlocked
  where
    unlocked : (b : Block) → is_nonrelocatable p b ≡ true → is_locked h b ≡ false
    unlocked (Free n) e = refl
    unlocked (Nonrelocatable id content) e = refl
    unlocked Masters e = refl
    unlocked (Relocatable id flags content) e = let f : false ≡ true = e in cc
leaves-locked h place zone once is (effects.Flagged (Some k) change) keeps =
    flags-locked h place zone once is k change
    (λ same. still-locked h change (locks-still change (kept (keeps_lock change) ((Decides-eqb k h).1 same) keeps)))
  where
    kept : (t : Bool) → (k == h) ≡ true → (not t && (k == h)) ≡ false → t ≡ true
    kept true own e = refl
    kept false own e = sym e ∙ own
leaves-locked h place zone once is e keeps = tt

pub stays-locked : (a : Asked) (m : Memory) → OneBlockEach m.heap.zone → StaysLocked a m
stays-locked a m once h place keeps is =
    let zone = m.heap.zone in
    let z = (answered a m).1.heap.zone in
    let alike = alike-answered (is_locked h) (steady-locked h) a m once (loose-unlocked h place zone once is)
    (λ x. refl) (leaves-locked h place zone once is (effect_of a)
    (releases-effect h a keeps)) in
    stands-is (is_locked h) z ∙ sym alike.1 ∙ sym (stands-is (is_locked h) zone) ∙ is
