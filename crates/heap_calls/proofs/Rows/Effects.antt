use Rattle.heap_calls.proofs.Cited.{◌≡◌, ℕ, ◌+◌, ◌/◌, ◌%◌, ◌==◌, ◌≤◌, Bool, true, false, ◌||◌, List, ◌∷◌, ◌++◌, length, take, drop, nat_le}
use Rattle.heap_calls.proofs.Cited.{slice_get, slice_set, refl, sym, ◌∙◌, subst, cond, leb-true, Option, Some, None, Result, Ok, Err, ok_or}
use Rattle.heap_calls.proofs.Cited.{option_map, phys, OsErr, NIL_HANDLE, LOCKED, PROFILE, PURGED, Flags, Block, is_mover, is_relocatable}
use Rattle.heap_calls.proofs.Cited.{is_nonrelocatable, content_of, with_content, written, tidy, freed, compacted, Spot, spot, spot-is}
use Rattle.heap_calls.proofs.Cited.{State, Memory, Meaning, Answer, Held, refused, known_as, handle_at, look_up, for_found, disposed_of}
use Rattle.heap_calls.proofs.Cited.{without, flagged, change_flags, hoisted, move_h_hi, h_lock_hi, compact_mem, dispose_handle, written_at}
use Rattle.heap_calls.proofs.Cited.{put, pointed, pointed_at, dispose_pointer, put_pointer, block_named, moved_into, block_move, emptied_at}
use Rattle.heap_calls.proofs.Cited.{empty_handle, Asked, answered, row, may_purge}
use Rattle.heap_calls.specs.State as names
use Rattle.heap_calls.specs.Table as asked
use Rattle.heap_calls.proofs.Promises.Knowing.{look_up-spot, handle_at-name}
use Rattle.heap_calls.proofs.Promises.NamedBlocks.{named-spot}
use Rattle.heap_calls.proofs.Same.Resizing.{held-spot, pointer-spot}
use Rattle.heap_calls.proofs.Rows.Reads.{reads, reads-same}

-- The effects of the calls that are no paths and purge nothing: what is shown of each effect holds of each such call.

-- what was found is dealt with
found-goes : {A T : Type 0} (P : State → Type 0) (s : State) → P s → (r : Result A OsErr) (answer : A → Answer T)
    → ((k : A) → r ≡ Ok k → P (answer k).1) → P (for_found r s answer).1
found-goes P s still (Err code) answer each = still
found-goes P s still (Ok k) answer each = each k refl

-- what is refused but where a test holds
if-goes : {T : Type 0} (P : State → Type 0) (s : State) → P s → (t : Bool) (done : Answer T) (code : OsErr)
    → (t ≡ true → P done.1) → P (cond t done (refused code s)).1
if-goes P s still true done code each = each refl
if-goes P s still false done code each = still

-- what is said of each heap that a call leaves which writes bytes into a block
abbrev pub Writes : (State → Type 0) → State → Type 0
Writes P s = (at : Spot) (i : ℕ) (x : List ℕ) → s.zone ≡ at.below ++ at.here ∷ at.above
    → i + length x ≤ length (content_of at.here)
    → P (record s { zone = at.below ++ with_content (written i x (content_of at.here)) at.here ∷ at.above })

-- and what is said of these, and of the heap before, is said of the one that the call leaves
abbrev pub OnlyWrites : (State → State) → Type 1
OnlyWrites call = (P : State → Type 0) (s : State) → P s → Writes P s → P (call s)

written-goes : (P : State → Type 0) (s : State) → P s → Writes P s → (test : Block → Bool) (i : ℕ) (x : List ℕ)
    (at : Spot) → spot test s.zone ≡ Some at → P (written_at i x at s).1
written-goes P s still law test i x at found =
    if-goes {T = Unit {0}} P s still (nat_le (i + length x) (length (content_of at.here)))
    (Ok tt, record s { zone = at.below ++ with_content (written i x (content_of at.here)) at.here ∷ at.above }) PROFILE
    (λ fits. law at i x (spot-is test s.zone at found) (leb-true (i + length x) (length (content_of at.here)) fits))

pub put-writes : (handle : Option ℕ) (i : ℕ) (x : List ℕ) → OnlyWrites (λ s. (put handle i x s).1)
put-writes handle i x = λ P s still law. found-goes P s still (look_up handle s) (λ held. written_at i x held.at s)
    (λ held is. written-goes P s still law (is_relocatable held.number) i x held.at (held-spot (handle_at handle s) s held is))

pub pointer-writes : (pointer : Option ℕ) (i : ℕ) (x : List ℕ) → OnlyWrites (λ s. (put_pointer pointer i x s).1)
pointer-writes pointer i x = λ P s still law. found-goes P s still (pointed_at pointer s) (λ held. written_at i x held.at s)
    (λ held is. written-goes P s still law (is_nonrelocatable held.number) i x held.at (pointer-spot pointer s held is))

pub move-writes : (from : Option ℕ) (i : ℕ) (to : Option ℕ) (j n : ℕ) → OnlyWrites (λ s. (block_move from i to j n s).1)
move-writes from i to j n = λ P s still law.
    found-goes P s still (block_named from s) (λ a. for_found (block_named to s) s (moved_into i j n a s))
    (λ a is. found-goes P s still (block_named to s) (moved_into i j n a s) (λ b e.
    let x = take n (drop i (content_of a.at.here)) in
    let there = named-spot to s b e in
    if-goes P s still (nat_le (i + n) (length (content_of a.at.here))) (written_at j x b.at s) PROFILE
    (λ fits. written-goes P s still law there.0 j x b.at there.1)))

-- Nothing changes; other flags come to a handle's block; the block goes high in its run, or does so and is locked; a
-- handle is disposed of, or a pointer; a handle is emptied; runs are compacted; or bytes are written into a block.
pub data Effect : Type 1 where
  Same : Effect
  Flagged : (handle : Option ℕ) (change : Flags → Flags) → Effect
  Hoisted : (handle : Option ℕ) → Effect
  LockedHigh : (handle : Option ℕ) → Effect
  Disposed : (handle : Option ℕ) → Effect
  DisposedPointer : (pointer : Option ℕ) → Effect
  Emptied : (handle : Option ℕ) → Effect
  Compacted : (size : ℕ) → Effect
  Written : (call : State → State) (only : OnlyWrites call) → Effect

-- each call's, but for what is purged
abbrev pub effect_of : Asked → Effect
effect_of (asked.DisposeHandle handle) = Disposed handle
effect_of (asked.EmptyHandle handle) = Emptied handle
effect_of (asked.HLock handle) = Flagged handle (λ f. record f { locked = true })
effect_of (asked.HUnlock handle) = Flagged handle (λ f. record f { locked = false })
effect_of (asked.HPurge handle) = Flagged handle (λ f. record f { purgeable = true })
effect_of (asked.HNoPurge handle) = Flagged handle (λ f. record f { purgeable = false })
effect_of (asked.HSetState handle byte) =
    Flagged handle (λ f. record { locked = byte / 128 % 2 == 1; purgeable = byte / 64 % 2 == 1 })
effect_of (asked.MoveHHi handle) = Hoisted handle
effect_of (asked.HLockHi handle) = LockedHigh handle
effect_of (asked.BlockMove from i to j n) = Written (λ s. (block_move from i to j n s).1) (move-writes from i to j n)
effect_of (asked.DisposePtr pointer) = DisposedPointer pointer
effect_of (asked.CompactMem n) = Compacted n
effect_of (asked.Put handle i x) = Written (λ s. (put handle i x s).1) (put-writes handle i x)
effect_of (asked.PutPtr pointer i x) = Written (λ s. (put_pointer pointer i x s).1) (pointer-writes pointer i x)
effect_of a = Same

abbrev pub affected : Effect → State → State
affected Same s = s
affected (Flagged handle change) s = (change_flags change handle s).1
affected (Hoisted handle) s = (move_h_hi handle s).1
affected (LockedHigh handle) s = (h_lock_hi handle s).1
affected (Disposed handle) s = (dispose_handle handle s).1
affected (DisposedPointer pointer) s = (dispose_pointer pointer s).1
affected (Emptied handle) s = (empty_handle handle s).1
affected (Compacted n) s = (compact_mem n s).1
affected (Written call only) s = call s

-- whether bytes are written
abbrev pub writes : Effect → Bool
writes (Written call only) = true
writes e = false

-- a call that purges nothing leaves what its effect does; those that only look, or may purge, are told apart
told-apart : (a : Asked) (m : Memory)
    → cond (reads a || may_purge (row a)) m.heap (answered a m).1.heap ≡ affected (effect_of a) m.heap
told-apart asked.MemError m = refl
told-apart a m = refl

pub effect-is : (a : Asked) (m : Memory) → may_purge (row a) ≡ false → (answered a m).1.heap ≡ affected (effect_of a) m.heap
effect-is a m quiet = cases (reads a) refl (may_purge (row a)) quiet (told-apart a m)
  where
    cases : (t : Bool) → reads a ≡ t → (u : Bool) → u ≡ false
        → cond (t || u) m.heap (answered a m).1.heap ≡ affected (effect_of a) m.heap
        → (answered a m).1.heap ≡ affected (effect_of a) m.heap
    cases true looks u off e = reads-same a looks m ∙ e
    cases false looks true off e = let f : true ≡ false = off in cc
    cases false looks false off e = e

-- what is said of each heap that an effect may come to, other than the one before
abbrev pub Changes : (State → Type 0) → State → Effect → Type 0
Changes P s (Flagged (Some k) change) = (at : Spot) → spot (is_relocatable k) s.zone ≡ Some at
    → P (record s { zone = at.below ++ flagged change at.here ∷ at.above })
Changes P s (Hoisted (Some k)) = (at : Spot) → spot (is_relocatable k) s.zone ≡ Some at → is_mover at.here ≡ true
    → P (record s { zone = hoisted k s.zone })
Changes P s (LockedHigh (Some k)) = (at : Spot) → spot (is_relocatable k) s.zone ≡ Some at → is_mover at.here ≡ true
    → P (change_flags (λ f. record f { locked = true }) (Some k) (record s { zone = hoisted k s.zone })).1
Changes P s (Disposed (Some k)) = slice_get s.names k ≡ Some (names.Handle names.Plain) → P (without k s)
Changes P s (DisposedPointer (Some p)) = slice_get s.names p ≡ Some names.Pointer
    → P (record { zone = tidy (freed (is_nonrelocatable p) s.zone); names = slice_set s.names p names.Disposed })
Changes P s (Emptied (Some k)) = (at : Spot) → spot (is_relocatable k) s.zone ≡ Some at → is_mover at.here ≡ true
    → P (record s { zone = tidy (freed (is_relocatable k) s.zone) })
Changes P s (Compacted n) = P (record s { zone = compacted (phys n) s.zone })
Changes P s (Written call only) = Writes P s
Changes P s e = Unit {0}

-- is said of the heap after the effect
pub by-effect : (P : State → Type 0) (e : Effect) (s : State) → P s → Changes P s e → P (affected e s)
by-effect P (Flagged (Some k) change) s still law =
    found-goes P s still (look_up (Some k) s) _ (λ held is. law held.at (look_up-spot k s held is).0)
by-effect P (Hoisted (Some k)) s still law =
    found-goes P s still (look_up (Some k) s) _ (λ held is.
    let f = look_up-spot k s held is in
    if-goes {T = Unit {0}} P s still (is_mover held.at.here) (Ok tt, record s { zone = hoisted held.number s.zone }) LOCKED
    (λ mover. subst (λ (j : ℕ). P (record s { zone = hoisted j s.zone })) (sym f.1) (law held.at f.0 mover)))
by-effect P (LockedHigh (Some k)) s still law = by_held (look_up (Some k) s) (look_up-spot k s)
  where
    locked : State → Answer (Unit {0})
    locked t = change_flags (λ f. record f { locked = true }) (Some k) t

    moved : ℕ → Bool → Answer (Unit {0})
    moved j t = cond t (Ok tt, record s { zone = hoisted j s.zone }) (refused LOCKED s)

    by_mover : (j : ℕ) → j ≡ k → (t : Bool) → (t ≡ true → P (locked (record s { zone = hoisted k s.zone })).1)
        → P (for_found (moved j t).0 s (λ (u : Unit {0}). locked (moved j t).1)).1
    by_mover j own true law =
        subst (λ (i : ℕ). P (locked (record s { zone = hoisted i s.zone })).1) (sym own) (law refl)
    by_mover j own false law = still

    by_held : (r : Result Held OsErr)
        → ((held : Held) → r ≡ Ok held → (spot (is_relocatable k) s.zone ≡ Some held.at) × (held.number ≡ k))
        → P (for_found (for_found {T = Unit {0}} r s (λ held. moved held.number (is_mover held.at.here))).0 s
        (λ (u : Unit {0}). locked (for_found {T = Unit {0}} r s
        (λ held. moved held.number (is_mover held.at.here))).1)).1
    by_held (Err code) found = still
    by_held (Ok held) found =
        let f = found held refl in by_mover held.number f.1 (is_mover held.at.here) (law held.at f.0)
by-effect P (Disposed (Some k)) s still law = by_name (slice_get s.names k) law
  where
    by_name : (o : Option Meaning) → (o ≡ Some (names.Handle names.Plain) → P (without k s))
        → P (for_found (known_as k o) s (λ found. disposed_of found.role found.number s)).1
    by_name (Some (names.Handle names.Plain)) law = law refl
    by_name o law = still
by-effect P (DisposedPointer (Some p)) s still law = by_name (slice_get s.names p) law
  where
    gone : ℕ → State
    gone j = record { zone = tidy (freed (is_nonrelocatable j) s.zone); names = slice_set s.names j names.Disposed }

    by_spot : (o : Option Spot) → P (gone p) → P (for_found {T = Unit {0}} (ok_or {E = OsErr} (option_map
        (λ (at : Spot). let held : Held = record { number = p; at = at } in held) o) NIL_HANDLE) s
        (λ held. (Ok tt, gone held.number))).1
    by_spot None law = still
    by_spot (Some at) law = law

    by_name : (o : Option Meaning) → (o ≡ Some names.Pointer → P (gone p))
        → P (for_found {T = Unit {0}} (pointed p o s) s (λ held. (Ok tt, gone held.number))).1
    by_name (Some names.Pointer) law = by_spot (spot (is_nonrelocatable p) s.zone) (law refl)
    by_name o law = still
by-effect P (Emptied (Some k)) s still law =
    found-goes P s still (handle_at (Some k) s) _ (λ found is.
    subst (λ (j : ℕ). P (emptied_at j (spot (is_relocatable j) s.zone) s).1) (sym (handle_at-name k s found is).1)
    (by_spot (spot (is_relocatable k) s.zone) law))
  where
    gone : State
    gone = record s { zone = tidy (freed (is_relocatable k) s.zone) }

    by_spot : (o : Option Spot) → ((at : Spot) → o ≡ Some at → is_mover at.here ≡ true → P gone) → P (emptied_at k o s).1
    by_spot None law = still
    by_spot (Some at) law = if-goes {T = Unit {0}} P s still (is_mover at.here) (Ok tt, gone) PURGED (law at refl)
by-effect P (Compacted n) s still law = law
by-effect P (Written call only) s still law = only P s still law
by-effect P e s still law = still

-- and so of the heap after each call that purges nothing
pub by-quiet : (P : State → Type 0) (a : Asked) (m : Memory) → may_purge (row a) ≡ false → P m.heap
    → Changes P m.heap (effect_of a) → P (answered a m).1.heap
by-quiet P a m quiet still law = subst P (sym (effect-is a m quiet)) (by-effect P (effect_of a) m.heap still law)
