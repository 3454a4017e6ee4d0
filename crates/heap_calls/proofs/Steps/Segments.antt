use Rattle.heap_calls.proofs.Cited.{◌≡◌, ◌≢◌, ℕ, ◌≤◌, Bool, true, false, ◌&&◌, ◌==◌, List, ◌∷◌, ◌++◌, refl, sym, ◌∙◌, ap, cond, arith}
use Rattle.heap_calls.proofs.Cited.{Option, Some, None, Result, Ok, Err, slice_get, option_map, ok_or, OsErr, NIL_HANDLE, Flags, Block}
use Rattle.heap_calls.proofs.Cited.{Free, Nonrelocatable, Masters, Relocatable, sizes, total, count, is_masters, is_relocatable}
use Rattle.heap_calls.proofs.Cited.{is_nonrelocatable, has, Spot, spot, spot-is, total-append, has-count, SeesNoFree, apart, Alike}
use Rattle.heap_calls.proofs.Cited.{alike-then, stands-is, stands-none, locks, has-counts, not_nonrelocatable-relocatable, has-spot, State}
use Rattle.heap_calls.proofs.Cited.{Meaning, Handle, Pointer, Disposed, Held, known_as, held_at, look_up, for_found, flagged, change_flags}
use Rattle.heap_calls.proofs.Cited.{h_unlock, hoisted, is_locked, locked_place, pointer_place, held_high, loosened, has_block}
use Rattle.std.specs.Prelude.{is_some}
use Rattle.heap_calls.proofs.Promises.Knowing.{Known, for_handle, look_up-spot, none-handle}
use Rattle.heap_calls.proofs.Promises.KnownChanges.{known-flags, known-hoisted, hoisted-le, hoisted-all}
use Rattle.heap_calls.proofs.Rows.Effects as effects
use Rattle.heap_calls.proofs.Rows.Effects.{by-effect}
use Rattle.heap_calls.proofs.Promises.AlikeCalls.{Steady, LeavesFlags, never, steady-never, alike-flags}
use Rattle.heap_calls.proofs.Promises.AlikeCalls.{alike-locked_high, flagged-number}
use Rattle.heap_calls.proofs.Promises.LockedLaws.{steady-locked, loose-unlocked, other-flags, fewer}
use Rattle.heap_calls.proofs.Promises.StandingLaws.{steady-nonrelocatable, flagged-nonrelocatable}
use Rattle.heap_calls.proofs.Promises.EmptyingLaws.{masters}

-- What the Segment Manager's two steps leave of a heap: a block that is held high, and one that is loosened.

abbrev locking : Flags → Flags
locking f = record f { locked = true }

abbrev unlocking : Flags → Flags
unlocking f = record f { locked = false }

abbrev purging : Flags → Flags
purging f = record f { purgeable = true }

-- a heap with the block of a handle at the top of its run
abbrev moved_high : ℕ → State → State
moved_high h s = record s { zone = hoisted h s.zone }

-- a heap with other flags of the block at a spot
abbrev with_flags : (Flags → Flags) → Spot → State → State
with_flags change at s = record s { zone = at.below ++ flagged change at.here ∷ at.above }

-- What they leave known of each block's bytes.

pub held-known : (h : ℕ) (s : State) (bytes : ℕ → List ℕ) → Known s bytes → Known (held_high h s) bytes
held-known h s bytes known = by-effect (λ t. Known t bytes) (effects.LockedHigh (Some h)) s known
    (λ at found mover. known-flags locking h (moved_high h s) bytes (known-hoisted h s bytes known))

pub loosened-known : (h : ℕ) (s : State) (bytes : ℕ → List ℕ) → Known s bytes → Known (loosened h s) bytes
loosened-known h s bytes known =
    known-flags purging h (h_unlock (Some h) s).1 bytes (known-flags unlocking h s bytes known)

-- What stands still through them.

module _ (seen : Block → Bool) (steady : Steady seen) (h : ℕ)
  where
    alike-loosened : ((zone : List Block) (change : Flags → Flags) → LeavesFlags seen zone h change) → (s : State)
        → Alike seen s.zone (loosened h s).zone
    alike-loosened leaves s =
        let t = (h_unlock (Some h) s).1 in
        alike-then seen steady.rigid s.zone t.zone (loosened h s).zone
        (alike-flags seen steady unlocking h s (leaves s.zone unlocking))
        (alike-flags seen steady purging h t (leaves t.zone purging))

same-place : (seen : Block → Bool) (zone z : List Block) → Alike seen zone z
    → option_map (λ (at : Spot). sizes at.below) (spot seen z)
    ≡ option_map (λ (at : Spot). sizes at.below) (spot seen zone)
same-place seen zone z alike = stands-is seen z ∙ sym alike.1 ∙ sym (stands-is seen zone)

-- a locked block is where it was, unless it is the one that is loosened
pub held-locked : (h : ℕ) (s : State) (bytes : ℕ → List ℕ) → Known s bytes → (k place : ℕ)
    → locked_place k s.zone ≡ Some place → locked_place k (held_high h s).zone ≡ Some place
held-locked h s bytes known k place is =
    same-place (is_locked k) s.zone (held_high h s).zone
    (alike-locked_high (is_locked k) (steady-locked k) h s (loose-unlocked k place s.zone known.once is)) ∙ is

pub loosened-locked : (h k : ℕ) → (h == k) ≡ false → (s : State)
    → locked_place k (loosened h s).zone ≡ locked_place k s.zone
loosened-locked h k other s =
    same-place (is_locked k) s.zone (loosened h s).zone
    (alike-loosened (is_locked k) (steady-locked k) h (other-flags k h other) s)

-- a pointer's block is where it was
pub held-nonrelocatable : (h : ℕ) (s : State) (p : ℕ) → pointer_place p (held_high h s).zone ≡ pointer_place p s.zone
held-nonrelocatable h s p =
    same-place (is_nonrelocatable p) s.zone (held_high h s).zone
    (alike-locked_high (is_nonrelocatable p) (steady-nonrelocatable p) h s (λ k loose b is. not_nonrelocatable-relocatable p k b is))

pub loosened-nonrelocatable : (h : ℕ) (s : State) (p : ℕ) → pointer_place p (loosened h s).zone ≡ pointer_place p s.zone
loosened-nonrelocatable h s p =
    same-place (is_nonrelocatable p) s.zone (loosened h s).zone
    (alike-loosened (is_nonrelocatable p) (steady-nonrelocatable p) h (λ zone change at found. flagged-nonrelocatable p change at.here) s)

-- a zone has as many bytes as it had
pub held-bytes : (h : ℕ) (s : State) → sizes (held_high h s).zone ≡ sizes s.zone
held-bytes h s = sym (alike-locked_high never steady-never h s (λ k loose b is. refl)).0

pub loosened-bytes : (h : ℕ) (s : State) → sizes (loosened h s).zone ≡ sizes s.zone
loosened-bytes h s = sym (alike-loosened never steady-never h (λ zone change at found. refl) s).0

-- Which blocks are there after them.

-- a measure that sees neither Free blocks nor flags
module _ (of : Block → ℕ) (none : SeesNoFree of) (flags : (change : Flags → Flags) (b : Block)
    → of (flagged change b) ≡ of b)
  where
    flags-total : (change : Flags → Flags) (h : ℕ) (s : State)
        → total of (change_flags change (Some h) s).1.zone ≡ total of s.zone
    flags-total change h s =
        by-effect (λ t. total of t.zone ≡ total of s.zone) (effects.Flagged (Some h) change) s refl
        (λ at found. omega (
          arith,
          ap (total of) (spot-is (is_relocatable h) s.zone at found),
          total-append of at.below (at.here ∷ at.above),
          total-append of at.below (flagged change at.here ∷ at.above),
          flags change at.here,
        ))

    held-total : (h : ℕ) (s : State) → total of (held_high h s).zone ≡ total of s.zone
    held-total h s =
        by-effect (λ t. total of t.zone ≡ total of s.zone) (effects.LockedHigh (Some h)) s refl
        (λ at found mover.
        let less = hoisted-le of none h s.zone in
        let more = hoisted-all of none h s.zone in
        let flag = flags-total locking h (moved_high h s) in
        omega arith)

    loosened-total : (h : ℕ) (s : State) → total of (loosened h s).zone ≡ total of s.zone
    loosened-total h s = flags-total purging h (h_unlock (Some h) s).1 ∙ flags-total unlocking h s

-- 1 for a block of a handle
abbrev one : ℕ → Block → ℕ
one k b = cond (is_relocatable k b) 1 0

one-flags : (k : ℕ) (change : Flags → Flags) (b : Block) → one k (flagged change b) ≡ one k b
one-flags k change b = ap {B = ℕ} (λ (t : Bool). cond t 1 0) (flagged-number change k b)

masters-flags : (change : Flags → Flags) (b : Block) → masters (flagged change b) ≡ masters b
masters-flags change (Free n) = refl
masters-flags change (Nonrelocatable id content) = refl
masters-flags change Masters = refl
masters-flags change (Relocatable id flags content) = refl

-- a handle has a block as it had one
pub held-has : (h : ℕ) (s : State) (k : ℕ)
    → has (is_relocatable k) (held_high h s).zone ≡ has (is_relocatable k) s.zone
held-has h s k = has-counts (is_relocatable k) s.zone (held_high h s).zone
    (held-total (one k) (λ n. refl) (one-flags k) h s)

pub loosened-has : (h : ℕ) (s : State) (k : ℕ)
    → has (is_relocatable k) (loosened h s).zone ≡ has (is_relocatable k) s.zone
loosened-has h s k = has-counts (is_relocatable k) s.zone (loosened h s).zone
    (loosened-total (one k) (λ n. refl) (one-flags k) h s)

-- there are as many blocks of master pointers
pub held-masters : (h : ℕ) (s : State) → count is_masters (held_high h s).zone ≡ count is_masters s.zone
held-masters h s = held-total masters (λ n. refl) masters-flags h s

pub loosened-masters : (h : ℕ) (s : State) → count is_masters (loosened h s).zone ≡ count is_masters s.zone
loosened-masters h s = loosened-total masters (λ n. refl) masters-flags h s

-- What the numbers stand for after them.

-- They don't hang on where the heap lies, and leave that, the code that MemError tells, what is busy, and both counts.

-- What they come to.

-- a handle with a block is found
block-found : (h : ℕ) (s : State) (bytes : ℕ → List ℕ) → Known s bytes → has_block h s ≡ true → {code : OsErr}
    → look_up (Some h) s ≢ Err code
block-found h s bytes known there {code = code} =
    by_name (slice_get s.names h) (named (for_handle (slice_get s.names h)) refl)
  where
    named : (t : Bool) → for_handle (slice_get s.names h) ≡ t → for_handle (slice_get s.names h) ≡ true
    named true e = e
    named false e =
        let few = none-handle s bytes known h e in
        let some = has-count (is_relocatable h) s.zone there in
        absurd (omega arith)

    by_spot : (o : Option Spot) → is_some o ≡ true
        → ok_or {E = OsErr} (option_map (λ (at : Spot). let x : Held = record { number = h; at = at } in x) o)
        NIL_HANDLE ≢ Err code
    by_spot None some e = let f : false ≡ true = some in cc
    by_spot (Some at) some e = cc

    by_name : (o : Option Meaning) → for_handle o ≡ true → held_at (known_as h o) s ≢ Err code
    by_name None is = let f : false ≡ true = is in cc
    by_name (Some (Handle role)) is =
        by_spot (spot (is_relocatable h) s.zone) (sym (has-spot (is_relocatable h) s.zone) ∙ there)
    by_name (Some Pointer) is = let f : false ≡ true = is in cc
    by_name (Some Disposed) is = let f : false ≡ true = is in cc

-- a block that isn't locked
unlocked-now : (h : ℕ) (b : Block) → locks (is_locked h) (flagged unlocking b) ≡ 0
unlocked-now h (Free n) = refl
unlocked-now h (Nonrelocatable id content) = refl
unlocked-now h Masters = refl
unlocked-now h (Relocatable id flags content) = cases (id == h)
  where
    cases : (t : Bool) → cond {A = ℕ} (t && false) 1 0 ≡ 0
    cases true = refl
    cases false = refl

-- no block of a handle is locked once it is unlocked
none-locked : (h : ℕ) (s : State) (bytes : ℕ → List ℕ) → Known s bytes → has_block h s ≡ true
    → total (locks (is_locked h)) (h_unlock (Some h) s).1.zone ≤ 0
none-locked h s bytes known there =
    by_held (look_up (Some h) s) (λ code. block-found h s bytes known there {code = code})
    (λ held is. (look_up-spot h s held is).0)
  where
    by_held : (r : Result Held OsErr) → ((code : OsErr) → r ≢ Err code)
        → ((held : Held) → r ≡ Ok held → spot (is_relocatable h) s.zone ≡ Some held.at)
        → total (locks (is_locked h)) (for_found {T = Unit {0}} r s
        (λ held. (Ok tt, with_flags unlocking held.at s))).1.zone ≤ 0
    by_held (Err code) some found = absurd (some code refl)
    by_held (Ok held) some found =
        let rest = apart (is_relocatable h) s.zone held.at (found held refl) (known.once h) in
        let below = fewer h held.at.below in
        let above = fewer h held.at.above in
        omega (
          arith,
          total-append (locks (is_locked h)) held.at.below (flagged unlocking held.at.here ∷ held.at.above),
          unlocked-now h held.at.here,
        )

-- nor is one once it is purgeable too
purging-locks : (h : ℕ) (b : Block) → locks (is_locked h) (flagged purging b) ≡ locks (is_locked h) b
purging-locks h (Free n) = refl
purging-locks h (Nonrelocatable id content) = refl
purging-locks h Masters = refl
purging-locks h (Relocatable id flags content) = refl

pub loosened-none : (h : ℕ) (s : State) (bytes : ℕ → List ℕ) → Known s bytes → has_block h s ≡ true
    → locked_place h (loosened h s).zone ≡ None
loosened-none h s bytes known there =
    stands-is (is_locked h) (loosened h s).zone ∙ stands-none (is_locked h) (loosened h s).zone
    (by-effect (λ t. total (locks (is_locked h)) t.zone ≤ 0) (effects.Flagged (Some h) purging) now none
    (λ at found. omega (
      arith,
      ap (total (locks (is_locked h))) (spot-is (is_relocatable h) now.zone at found),
      total-append (locks (is_locked h)) at.below (at.here ∷ at.above),
      total-append (locks (is_locked h)) at.below (flagged purging at.here ∷ at.above),
      purging-locks h at.here,
      none,
    )))
  where
    now : State
    now = (h_unlock (Some h) s).1

    none : total (locks (is_locked h)) now.zone ≤ 0
    none = none-locked h s bytes known there
