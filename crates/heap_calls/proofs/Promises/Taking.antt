use Rattle.heap_calls.proofs.Cited.{◌≡◌, ◌≤◌, ◌+◌, ◌⊎◌, inl, inr, ℕ, ◌/◌, ◌%◌, ◌==◌, ◌&&◌, not, Bool, true, false, List, [], ◌∷◌, ◌++◌}
use Rattle.heap_calls.proofs.Cited.{refl, sym, ◌∙◌, ap, subst, cond, arith, Option, Some, None, Result, Ok, Err, slice_set, option_map}
use Rattle.heap_calls.proofs.Cited.{cond-false, and_parts, Decides-eqb, OsErr, Told, Flags, Block, Free, Nonrelocatable, Masters}
use Rattle.heap_calls.proofs.Cited.{Relocatable, sizes, total, count, is_relocatable, is_nonrelocatable, tidy, Spot, spot, freed}
use Rattle.heap_calls.proofs.Cited.{total-append, unless, apart, tidied, freed-is, counts-free, stands-is, stands-none, locks, State}
use Rattle.heap_calls.proofs.Cited.{Memory, Role, Plain, Resource, SystemResource, Disposed, Known, Held, look_up, handle_at, for_found}
use Rattle.heap_calls.proofs.Cited.{disposed_of, flagged, change_flags, pointed_at, dispose_pointer, Asked, told_as, answered, is_locked}
use Rattle.heap_calls.proofs.Cited.{locked_place, releases, OneBlockEach, pointer_place, disposes, NextIsNew}
use Rattle.mac_words.specs.Told.{Done}
use Rattle.heap_calls.specs.Table as asked
use Rattle.heap_calls.proofs.Promises.Knowing.{look_up-spot, pointed_at-spot}
use Rattle.heap_calls.proofs.Promises.Knowing.{handle_at-name}
use Rattle.heap_calls.proofs.Promises.LockedLaws.{fewer, stays-locked}
use Rattle.heap_calls.proofs.Promises.StandingLaws.{stays-nonrelocatable}

-- A call that takes a locked block or a pointer's block away is done, and leaves none.

-- a block stays where it was; or the call is done, it is one that takes the block away, and the block is gone
abbrev pub StaysOr : (taken : Bool) → ℕ → Told → Option ℕ → Type 0
StaysOr taken place told now = (now ≡ Some place) ⊎ ((now ≡ None) × (told ≡ Done) × (taken ≡ true))

-- what is told of a call that answers nothing else
abbrev done : Result (Unit {0}) OsErr → Told
done r = told_as {T = Unit {0}} (λ (u : Unit {0}). Done) r

-- where all blocks that pass are freed, none of them is seen
freed-none : (seen test : Block → Bool) → ((n : ℕ) → seen (Free n) ≡ false)
    → ((b : Block) → test b ≡ false → seen b ≡ false) → (zone : List Block)
    → total (locks seen) (tidy (freed test zone)) ≤ 0
freed-none seen test free_unseen others zone = omega (
  arith,
  tidied (locks seen) none (freed test zone),
  freed-is (locks seen) none test zone,
  left zone,
)
  where
    none : (n : ℕ) → locks seen (Free n) ≡ 0
    none = counts-free seen free_unseen

    left : (bs : List Block) → total (unless test (locks seen)) bs ≡ 0
    left [] = refl
    left (b ∷ bs) = cases (test b) refl (left bs)
      where
        cases : (t : Bool) → test b ≡ t → total (unless test (locks seen)) bs ≡ 0
            → cond t 0 (locks seen b) + total (unless test (locks seen)) bs ≡ 0
        cases true e rest = omega arith
        cases false e rest =
            let here : locks seen b ≡ 0 = cond-false (seen b) 1 0 (others b e) in omega arith

gone-none : (seen test : Block → Bool) → ((n : ℕ) → seen (Free n) ≡ false)
    → ((b : Block) → test b ≡ false → seen b ≡ false) → (zone : List Block)
    → option_map (λ (s : Spot). sizes s.below) (spot seen (tidy (freed test zone))) ≡ None
gone-none seen test free_unseen others zone =
    stands-is seen (tidy (freed test zone)) ∙ stands-none seen (tidy (freed test zone))
    (freed-none seen test free_unseen others zone)

-- the locked block of a handle is one of its blocks
locked-own : (h : ℕ) (b : Block) → is_relocatable h b ≡ false → is_locked h b ≡ false
locked-own h (Free n) e = refl
locked-own h (Nonrelocatable id content) e = refl
locked-own h Masters e = refl
locked-own h (Relocatable id flags content) e = ap (λ (t : Bool). t && flags.locked) e

pub gone-few : (h : ℕ) (zone : List Block) → total (locks (is_locked h)) (tidy (freed (is_relocatable h) zone)) ≤ 0
gone-few h = freed-none (is_locked h) (is_relocatable h) (λ n. refl) (locked-own h)

disposed-none : (h : ℕ) (zone : List Block) → locked_place h (tidy (freed (is_relocatable h) zone)) ≡ None
disposed-none h = gone-none (is_locked h) (is_relocatable h) (λ n. refl) (locked-own h)

pointer-none : (p : ℕ) (zone : List Block) → pointer_place p (tidy (freed (is_nonrelocatable p) zone)) ≡ None
pointer-none p = gone-none (is_nonrelocatable p) (is_nonrelocatable p) (λ n. refl) (λ b e. e)

-- a handle's only block is unlocked
unlocked-none : (h : ℕ) (zone : List Block) (at : Spot) → count (is_relocatable h) zone ≤ 1
    → spot (is_relocatable h) zone ≡ Some at → (change : Flags → Flags) → ((f : Flags) → (change f).locked ≡ false)
    → locked_place h (at.below ++ flagged change at.here ∷ at.above) ≡ None
unlocked-none h zone at once found change opens =
    let z = at.below ++ flagged change at.here ∷ at.above in
    let parts = apart (is_relocatable h) zone at found once in
    let below = fewer h at.below in
    let above = fewer h at.above in
    let here : locks (is_locked h) (flagged change at.here) ≡ 0 =
    cond-false (is_locked h (flagged change at.here)) 1 0 (open_now at.here) in
    stands-is (is_locked h) z ∙ stands-none (is_locked h) z
    (omega (arith, total-append (locks (is_locked h)) at.below (flagged change at.here ∷ at.above)))
  where
    open_now : (b : Block) → is_locked h (flagged change b) ≡ false
    open_now (Free n) = refl
    open_now (Nonrelocatable id content) = refl
    open_now Masters = refl
    open_now (Relocatable id flags content) =
        ap (λ (t : Bool). (id == h) && t) (opens flags) ∙ none (id == h)
      where
        none : (t : Bool) → (t && false) ≡ false
        none true = refl
        none false = refl

-- a change of flags that unlocks
unlocks-or : (h place : ℕ) (s : State) → count (is_relocatable h) s.zone ≤ 1 → locked_place h s.zone ≡ Some place
    → (change : Flags → Flags) → ((f : Flags) → (change f).locked ≡ false)
    → StaysOr true place (done (change_flags change (Some h) s).0)
    (locked_place h (change_flags change (Some h) s).1.zone)
unlocks-or h place s once is change opens = by_held (look_up (Some h) s) (λ held e. (look_up-spot h s held e).0)
  where
    by_held : (r : Result Held OsErr)
        → ((held : Held) → r ≡ Ok held → spot (is_relocatable h) s.zone ≡ Some held.at)
        → StaysOr true place (done (for_found {T = Unit {0}} r s (λ held.
        (Ok tt, record s { zone = held.at.below ++ flagged change held.at.here ∷ held.at.above }))).0)
        (locked_place h (for_found {T = Unit {0}} r s (λ held.
        (Ok tt, record s { zone = held.at.below ++ flagged change held.at.here ∷ held.at.above }))).1.zone)
    by_held (Err code) found = inl is
    by_held (Ok held) found = inr (unlocked-none h s.zone held.at once (found held refl) change opens, refl, refl)

-- a handle that is disposed of
disposes-or : (h place : ℕ) (s : State) → locked_place h s.zone ≡ Some place
    → StaysOr true place (done (for_found (handle_at (Some h) s) s (λ k. disposed_of k.role k.number s)).0)
    (locked_place h (for_found (handle_at (Some h) s) s (λ k. disposed_of k.role k.number s)).1.zone)
disposes-or h place s is = by_name (handle_at (Some h) s) (λ k e. (handle_at-name h s k e).1)
  where
    by_role : (role : Role) (k : ℕ) → k ≡ h
        → StaysOr true place (done (disposed_of role k s).0) (locked_place h (disposed_of role k s).1.zone)
    by_role Plain k own = inr (
      subst (λ (j : ℕ). locked_place h (tidy (freed (is_relocatable j) s.zone)) ≡ None) (sym own)
          (disposed-none h s.zone),
      refl,
      refl,
    )
    by_role Resource k own = inl is
    by_role SystemResource k own = inl is

    by_name : (r : Result Known OsErr) → ((k : Known) → r ≡ Ok k → k.number ≡ h)
        → StaysOr true place (done (for_found r s (λ k. disposed_of k.role k.number s)).0)
        (locked_place h (for_found r s (λ k. disposed_of k.role k.number s)).1.zone)
    by_name (Err code) found = inl is
    by_name (Ok k) found = by_role k.role k.number (found k refl)

-- a pointer that is disposed of
drops-or : (p place : ℕ) (s : State) → pointer_place p s.zone ≡ Some place
    → StaysOr true place (done (dispose_pointer (Some p) s).0) (pointer_place p (dispose_pointer (Some p) s).1.zone)
drops-or p place s is = by_held (pointed_at (Some p) s) (λ held e. (pointed_at-spot p s held e).1)
  where
    by_held : (r : Result Held OsErr) → ((held : Held) → r ≡ Ok held → held.number ≡ p)
        → StaysOr true place (done (for_found {T = Unit {0}} r s (λ held. (
          Ok tt,
          record {
            zone = tidy (freed (is_nonrelocatable held.number) s.zone);
            names = slice_set s.names held.number Disposed;
          },
        ))).0) (pointer_place p (for_found {T = Unit {0}} r s (λ held. (
          Ok tt,
          record {
            zone = tidy (freed (is_nonrelocatable held.number) s.zone);
            names = slice_set s.names held.number Disposed;
          },
        ))).1.zone)
    by_held (Err code) found = inl is
    by_held (Ok held) found = inr (
      subst (λ (j : ℕ). pointer_place p (tidy (freed (is_nonrelocatable j) s.zone)) ≡ None) (sym (found held refl))
          (pointer-none p s.zone),
      refl,
      refl,
    )

-- each call that releases a handle
releasing : (a : Asked) (m : Memory) → OneBlockEach m.heap.zone → (h place : ℕ) → releases h a ≡ true
    → locked_place h m.heap.zone ≡ Some place
    → StaysOr true place (answered a m).0 (locked_place h (answered a m).1.heap.zone)
releasing (asked.DisposeHandle (Some k)) m once h place takes is =
    subst (λ (j : ℕ). StaysOr true place (answered (asked.DisposeHandle (Some j)) m).0
    (locked_place h (answered (asked.DisposeHandle (Some j)) m).1.heap.zone)) (sym ((Decides-eqb k h).0 takes))
    (disposes-or h place m.heap is)
releasing (asked.HUnlock (Some k)) m once h place takes is =
    subst (λ (j : ℕ). StaysOr true place (answered (asked.HUnlock (Some j)) m).0
    (locked_place h (answered (asked.HUnlock (Some j)) m).1.heap.zone)) (sym ((Decides-eqb k h).0 takes))
    (unlocks-or h place m.heap (once h) is (λ f. record f { locked = false }) (λ f. refl))
releasing (asked.HSetState (Some k) byte) m once h place takes is =
    let both = and_parts (k == h) (not (byte / 128 % 2 == 1)) takes in
    subst (λ (j : ℕ). StaysOr true place (answered (asked.HSetState (Some j) byte) m).0
    (locked_place h (answered (asked.HSetState (Some j) byte) m).1.heap.zone)) (sym ((Decides-eqb k h).0 both.0))
    (unlocks-or h place m.heap (once h) is
    (λ f. record { locked = byte / 128 % 2 == 1; purgeable = byte / 64 % 2 == 1 })
    (λ f. opened (byte / 128 % 2 == 1) both.1))
  where
    opened : (t : Bool) → not t ≡ true → t ≡ false
    opened true e = let f : false ≡ true = e in cc
    opened false e = refl
releasing a m once h place takes is = let f : false ≡ true = takes in cc

-- a locked block stays where it is, or the call that releases it is done
pub stays-or-released : (a : Asked) (m : Memory) → OneBlockEach m.heap.zone → (h place : ℕ)
    → locked_place h m.heap.zone ≡ Some place
    → StaysOr (releases h a) place (answered a m).0 (locked_place h (answered a m).1.heap.zone)
stays-or-released a m once h place is = by_call (releases h a) refl
  where
    by_call : (t : Bool) → releases h a ≡ t
        → StaysOr t place (answered a m).0 (locked_place h (answered a m).1.heap.zone)
    by_call true e = releasing a m once h place e is
    by_call false e = inl (stays-locked a m once h place e is)

-- a pointer's block stays where it is, or the call that disposes of it is done
dropping : (a : Asked) (m : Memory) → (p place : ℕ) → disposes p a ≡ true → pointer_place p m.heap.zone ≡ Some place
    → StaysOr true place (answered a m).0 (pointer_place p (answered a m).1.heap.zone)
dropping (asked.DisposePtr (Some k)) m p place takes is =
    subst (λ (j : ℕ). StaysOr true place (answered (asked.DisposePtr (Some j)) m).0
    (pointer_place p (answered (asked.DisposePtr (Some j)) m).1.heap.zone)) (sym ((Decides-eqb k p).0 takes))
    (drops-or p place m.heap is)
dropping a m p place takes is = let f : false ≡ true = takes in cc

pub stays-or-dropped : (a : Asked) (m : Memory) → OneBlockEach m.heap.zone → NextIsNew m.heap → (p place : ℕ)
    → pointer_place p m.heap.zone ≡ Some place
    → StaysOr (disposes p a) place (answered a m).0 (pointer_place p (answered a m).1.heap.zone)
stays-or-dropped a m once new p place is = by_call (disposes p a) refl
  where
    by_call : (t : Bool) → disposes p a ≡ t
        → StaysOr t place (answered a m).0 (pointer_place p (answered a m).1.heap.zone)
    by_call true e = dropping a m p place e is
    by_call false e = inl (stays-nonrelocatable a m once new p place e is)
