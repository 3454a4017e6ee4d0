use Rattle.zone_script_laws.proofs.Cited.{◌≡◌, ℕ, true, false, ◌∷◌, ◌++◌, refl, ◌∙◌, ap, Option, Some, None, Ok, Result, slice_get}
use Rattle.zone_script_laws.proofs.Cited.{slice_set, option_map, ok_or, Told, Done, Given, OsErr, NIL_HANDLE, Flags, tidy, is_relocatable}
use Rattle.zone_script_laws.proofs.Cited.{is_nonrelocatable, Spot, spot, freed, State, Memory, Handle, Pointer, Disposed, Plain, Answer}
use Rattle.zone_script_laws.proofs.Cited.{Held, held_at, known_as, for_found, change_flags, flagged, pointed, dispose_pointer, Asked, Zeros}
use Rattle.zone_script_laws.proofs.Cited.{telling, noting, idle, known_bars, pointer_bars, unless, served, done}
use Rattle.heap_calls.specs.Table.{NewHandle, NewPtr, MoreMasters, HLock, HUnlock, HPurge, DisposePtr}
use Rattle.heap_calls.specs.Rows as rows
use Rattle.zone_script_laws.proofs.Calls.{Leaves}

-- The calls of a script as they are answered where no name is busy.

-- a call is answered so
pub record Serves (asked : Asked) (m : Memory) (reply : Told) (after : State) : Type 0 where
  pub told : (served asked m).0 ≡ reply
  pub heap : (served asked m).1.heap ≡ after
  pub idle : (served asked m).1.log.busy ≡ m.log.busy

pub serves-more_masters : (m : Memory) (after : State) → Leaves rows.more_masters m.heap tt after
    → Serves MoreMasters m Done after
serves-more_masters m after l = record { told = ap (λ r. told_of r) l.reply; heap = l.heap; idle = refl }
  where
    told_of : Result (Unit {0}) OsErr → Told
    told_of r = (telling done (r, m)).0

pub serves-new_handle : (n k : ℕ) (m : Memory) (after : State) → Leaves (rows.new_handle n) m.heap k after
    → Serves (NewHandle (Zeros n)) m (Given k) after
serves-new_handle n k m after l = record { told = ap (λ r. told_of r) l.reply; heap = l.heap; idle = refl }
  where
    told_of : Result ℕ OsErr → Told
    told_of r = (telling Given (r, m)).0

pub serves-new_pointer : (n k : ℕ) (m : Memory) (after : State) → Leaves (rows.new_pointer n) m.heap k after
    → Serves (NewPtr n) m (Given k) after
serves-new_pointer n k m after l = record { told = ap (λ r. told_of r) l.reply; heap = l.heap; idle = refl }
  where
    told_of : Result ℕ OsErr → Told
    told_of r = (telling Given (r, m)).0

-- the flags of a handle's block are changed
pub flags-changed : (change : Flags → Flags) (k : ℕ) (s : State) (at : Spot) → slice_get s.names k ≡ Some (Handle Plain)
    → spot (is_relocatable k) s.zone ≡ Some at
    → change_flags change (Some k) s ≡ (Ok tt, record s { zone = at.below ++ flagged change at.here ∷ at.above })
flags-changed change k s at known is =
    ap (λ o. for_found (held_at (known_as k o) s) s changed) known
    ∙ ap (λ o. for_found (ok_or (option_map held o) NIL_HANDLE) s changed) is
  where
    changed : Held → Answer (Unit {0})
    changed held = (Ok tt, record s { zone = held.at.below ++ flagged change held.at.here ∷ held.at.above })

    held : Spot → Held
    held at = record { number = k; at = at }

-- and nothing bars it
handle-free : (k : ℕ) (m : Memory) → m.log.busy ≡ idle → slice_get m.heap.names k ≡ Some (Handle Plain)
    → known_bars m.log.busy (known_as k (slice_get m.heap.names k)) ≡ None
handle-free k m free known = ap (λ o. known_bars m.log.busy (known_as k o)) known
    ∙ ap (λ b. known_bars b (Ok (record { number = k; role = Plain }))) free

pointer-free : (k : ℕ) (m : Memory) → m.log.busy ≡ idle → slice_get m.heap.names k ≡ Some Pointer
    → pointer_bars m.log.busy k (slice_get m.heap.names k) ≡ None
pointer-free k m free known = ap (λ o. pointer_bars m.log.busy k o) known
    ∙ ap (λ b. pointer_bars b k (Some Pointer)) free

-- an answer of a call that nothing bars
noted : (bar : Option OsErr) (call : State → Answer (Unit {0})) (m : Memory) (after : State) → bar ≡ None
    → call m.heap ≡ (Ok tt, after)
    → ((telling done (unless bar (noting call) m)).0 ≡ Done) × ((telling done (unless bar (noting call) m)).1.heap ≡ after)
    × ((telling done (unless bar (noting call) m)).1.log.busy ≡ m.log.busy)
noted bar call m after free is = (
  ap (λ b. (telling done (unless b (noting call) m)).0) free ∙ ap (λ (a : Answer (Unit {0})). (telling done (a.0, m)).0) is,
  ap (λ b. (telling done (unless b (noting call) m)).1.heap) free ∙ ap (λ (a : Answer (Unit {0})). a.1) is,
  ap (λ b. (telling done (unless b (noting call) m)).1.log.busy) free,
)

module _ (k : ℕ) (m : Memory) (at : Spot) (free : m.log.busy ≡ idle) (known : slice_get m.heap.names k ≡ Some (Handle Plain))
    (is : spot (is_relocatable k) m.heap.zone ≡ Some at)
  where
    abbrev pub after : (Flags → Flags) → State
    after change = record m.heap { zone = at.below ++ flagged change at.here ∷ at.above }

    pub serves-lock : Serves (HLock (Some k)) m Done (after (λ f. record f { locked = true }))
    serves-lock =
        let n = noted _ (change_flags (λ f. record f { locked = true }) (Some k)) m (after (λ f. record f { locked = true }))
        (handle-free k m free known)
        (flags-changed (λ f. record f { locked = true }) k m.heap at known is) in
        record { told = n.0; heap = n.1; idle = n.2 }

    pub serves-unlock : Serves (HUnlock (Some k)) m Done (after (λ f. record f { locked = false }))
    serves-unlock =
        let n = noted _ (change_flags (λ f. record f { locked = false }) (Some k)) m (after (λ f. record f { locked = false }))
        (handle-free k m free known)
        (flags-changed (λ f. record f { locked = false }) k m.heap at known is) in
        record { told = n.0; heap = n.1; idle = n.2 }

    pub serves-purge : Serves (HPurge (Some k)) m Done (after (λ f. record f { purgeable = true }))
    serves-purge =
        let n = noted _ (change_flags (λ f. record f { purgeable = true }) (Some k)) m (after (λ f. record f { purgeable = true }))
        (handle-free k m free known)
        (flags-changed (λ f. record f { purgeable = true }) k m.heap at known is) in
        record { told = n.0; heap = n.1; idle = n.2 }

-- a pointer is disposed of
pub serves-dispose : (k : ℕ) (m : Memory) (at : Spot) → m.log.busy ≡ idle → slice_get m.heap.names k ≡ Some Pointer
    → spot (is_nonrelocatable k) m.heap.zone ≡ Some at
    → Serves (DisposePtr (Some k)) m Done
    (record { zone = tidy (freed (is_nonrelocatable k) m.heap.zone); names = slice_set m.heap.names k Disposed })
serves-dispose k m at free known is =
    let n = noted _ (dispose_pointer (Some k)) m
    (record { zone = tidy (freed (is_nonrelocatable k) m.heap.zone); names = slice_set m.heap.names k Disposed })
    (pointer-free k m free known)
    (ap (λ o. for_found (pointed k o m.heap) m.heap gone) known
    ∙ ap (λ o. for_found (ok_or (option_map held o) NIL_HANDLE) m.heap gone) is) in
    record { told = n.0; heap = n.1; idle = n.2 }
  where
    gone : Held → Answer (Unit {0})
    gone held = (
      Ok tt,
      record { zone = tidy (freed (is_nonrelocatable held.number) m.heap.zone); names = slice_set m.heap.names held.number Disposed },
    )

    held : Spot → Held
    held at = record { number = k; at = at }
