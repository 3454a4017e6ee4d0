use Rattle.heap_calls.proofs.Cited.{◌≡◌, ℕ, Bool, true, false, List, [], length, refl, sym, subst, cond, Option, Some, None, Result, Ok}
use Rattle.heap_calls.proofs.Cited.{Err, slice_get, slice_set, is_some, if◌then◌else◌, phys, OsErr, Flags, Block, Masters, Relocatable}
use Rattle.heap_calls.proofs.Cited.{is_relocatable, freed, tidy, Move, Search, Purge, Put, Base, did, seek, if_fits, Along, along-if}
use Rattle.heap_calls.proofs.Cited.{along-then, along-seek, along-slot, State, Memory, Meaning, Role, nothing, handle_at, without}
use Rattle.heap_calls.proofs.Cited.{is_unused, Done, purges_made, told_blocks, new_filled, new_empty, refill, released, released_as, cast}
use Rattle.heap_calls.proofs.Cited.{cast_as, has_block, refill_inside, Step, NewFilled, NewEmpty, Refill, Release, Cast, stepped, gone_at}
use Rattle.heap_calls.proofs.Cited.{◌≤◌, arith, Free, total, if-most}
use Rattle.heap_calls.specs.State as names
use Rattle.heap_calls.specs.Answer as calls
use Rattle.heap_calls.specs.Rows.{changed, refused, for_found}
use Rattle.heap_calls.proofs.Promises.Knowing.{for_handle, handle_at-name}
use Rattle.heap_calls.proofs.Rows.Most.{slot-even, made-most}

-- The ways that a step on a heap may go.

-- a new block for a handle: there is no such handle; or room is sought for the block
pub refill-goes : (P : Done (Unit {0}) → Type 0) (h : ℕ) (flags : Flags) (bytes : List ℕ) (s : State)
    → ((code : OsErr) → P (refused code s))
    → (for_handle (slice_get s.names h) ≡ true
    → P (changed nothing (if_fits (length bytes) (seek (Put (Relocatable h flags bytes)) nothing s.zone)) s))
    → P (refill h flags bytes s)
refill-goes P h flags bytes s none found = by_name (handle_at (Some h) s) (handle_at-name h s)
  where
    sought : ℕ → Done (Unit {0})
    sought k = changed nothing (if_fits (length bytes) (seek (Put (Relocatable k flags bytes)) nothing s.zone)) s

    by_name : (r : Result calls.Known OsErr)
        → ((k : calls.Known) → r ≡ Ok k → (for_handle (slice_get s.names h) ≡ true) × (k.number ≡ h))
        → P (for_found r s (λ (k : calls.Known). sought k.number))
    by_name (Err code) named = none code
    by_name (Ok k) named = let f = named k refl in subst (λ (j : ℕ). P (sought j)) (sym f.1) (found f.0)

-- a handle that goes, if there is one
pub released-goes : (P : State → Type 0) (h : ℕ) (s : State) → P s
    → (for_handle (slice_get s.names h) ≡ true → P (without h s)) → P (released h s)
released-goes P h s none done = by_name (handle_at (Some h) s) (handle_at-name h s)
  where
    by_name : (r : Result calls.Known OsErr)
        → ((k : calls.Known) → r ≡ Ok k → (for_handle (slice_get s.names h) ≡ true) × (k.number ≡ h))
        → P (released_as r s)
    by_name (Err code) found = none
    by_name (Ok k) found = let f = found k refl in subst (λ (j : ℕ). P (without j s)) (sym f.1) (done f.0)

-- a handle in another role, if there is one
pub cast-goes : (P : State → Type 0) (change : Role → Role) (h : ℕ) (s : State) → P s
    → ((role : Role) → slice_get s.names h ≡ Some (names.Handle role)
    → P (record s { names = slice_set s.names h (names.Handle (change role)) }))
    → P (cast change h s)
cast-goes P change h s none done = by_name (slice_get s.names h) refl
  where
    by_name : (o : Option Meaning) → slice_get s.names h ≡ o → P (cast_as change (calls.known_as h o) s)
    by_name None e = none
    by_name (Some (names.Handle role)) e = done role e
    by_name (Some names.Pointer) e = none
    by_name (Some names.Disposed) e = none

-- the path of a step
abbrev pub path_of : Step → State → List Move
path_of (NewFilled role flags bytes) s = (new_filled role flags bytes s).path
path_of (NewEmpty role) s = (new_empty role s).path
path_of (Refill h flags bytes) s = if has_block h s then [] else (refill h flags bytes s).path
path_of (Release h) s = []
path_of (Cast change h) s = []

-- what a law of moves must allow of the block that a step puts
abbrev pub Puts : (Move → List Block → Type 0) → Step → State → Type 0
Puts M (NewFilled role flags bytes) s = (z : List Block) → M (Put (Relocatable (length s.names) flags bytes)) z
Puts M (Refill h flags bytes) s = has_block h s ≡ false → (z : List Block) → M (Put (Relocatable h flags bytes)) z
Puts M step s = Unit {0}

-- then the step's path keeps to it
module _ (M : Move → List Block → Type 0) (searches : (n : ℕ) (z : List Block) → M (Search n) z)
    (purges : (k : ℕ) (z : List Block) → M (Purge k) z) (masters : (z : List Block) → M (Base Masters) z)
  where
    put-along : (bytes : List ℕ) (new : Block) → ((z : List Block) → M (Put new) z) → (z : List Block)
        → Along M nothing (if_fits (length bytes) (seek (Put new) nothing z)).path z
    put-along bytes new puts z = along-if M nothing (is_some (phys (length bytes))) (seek (Put new) nothing z) z
        (along-seek M nothing searches purges (Put new) puts z)

    pub step-along : (step : Step) (s : State) → Puts M step s → Along M nothing (path_of step s) s.zone
    step-along (NewFilled role flags bytes) s puts =
        let new = Relocatable (length s.names) flags bytes in
        along-then M nothing _ (λ z. if_fits (length bytes) (seek (Put new) nothing z)) s.zone
        (along-slot M nothing searches purges masters (is_unused s) s.zone) (put-along bytes new puts)
    step-along (NewEmpty role) s puts = along-slot M nothing searches purges masters (is_unused s) s.zone
    step-along (Refill h flags bytes) s puts = by_block (has_block h s) refl
      where
        by_block : (t : Bool) → has_block h s ≡ t
            → Along M nothing (cond t [] (refill h flags bytes s).path) s.zone
        by_block true e = tt
        by_block false e = refill-goes (λ d. Along M nothing d.path s.zone) h flags bytes s (λ code. tt)
            (λ is. put-along bytes (Relocatable h flags bytes) (puts e) s.zone)
    step-along (Release h) s puts = tt
    step-along (Cast change h) s puts = tt

-- a step leaves a zone as its path does, but for the block of a handle that goes
abbrev pub Lets : (List Block → Type 0) → Step → State → Type 0
Lets P (Release h) s = P (tidy (freed (is_relocatable h) s.zone))
Lets P step s = Unit {0}

pub step-leaves : (P : List Block → Type 0) (step : Step) (m : Memory)
    → P (did nothing (path_of step m.heap) m.heap.zone).zone → Lets P step m.heap → P (stepped step m).heap.zone
step-leaves P (NewFilled role flags bytes) m left lets = left
step-leaves P (NewEmpty role) m left lets = left
step-leaves P (Refill h flags bytes) m left lets = by_block (has_block h m.heap) left
  where
    by_block : (t : Bool) → P (did nothing (cond t [] (refill h flags bytes m.heap).path) m.heap.zone).zone
        → P (cond t m (refill_inside h flags bytes m).1).heap.zone
    by_block true left = left
    by_block false left = refill-goes (λ d. P (did nothing d.path m.heap.zone).zone
        → P (did d.spared d.path m.heap.zone).zone) h flags bytes m.heap (λ code e. e) (λ is e. e) left
step-leaves P (Release h) m left lets = released-goes (λ s. P s.zone) h m.heap left (λ is. lets)
step-leaves P (Cast change h) m left lets = cast-goes (λ s. P s.zone) change h m.heap left (λ role is. left)

-- and purges what goes on it
pub gone-along : (step : Step) (m : Memory)
    → gone_at step m ≡ told_blocks (length m.heap.names) (did nothing (path_of step m.heap) m.heap.zone).gone
gone-along (NewFilled role flags bytes) m = refl
gone-along (NewEmpty role) m = refl
gone-along (Refill h flags bytes) m = by_block (has_block h m.heap)
  where
    n : ℕ
    n = length m.heap.names

    by_block : (t : Bool) → cond t [] (purges_made (refill h flags bytes) m.heap)
        ≡ told_blocks n (did nothing (cond t [] (refill h flags bytes m.heap).path) m.heap.zone).gone
    by_block true = refl
    by_block false = refill-goes (λ d. told_blocks n (did d.spared d.path m.heap.zone).gone
        ≡ told_blocks n (did nothing d.path m.heap.zone).gone) h flags bytes m.heap (λ code. refl) (λ is. refl)
gone-along (Release h) m = refl
gone-along (Cast change h) m = refl

-- by any measure it comes to no more than there was
pub steps-most : (of : Block → ℕ) (none : (k : ℕ) → of (Free k) ≡ 0) (masters : of Masters ≡ 0) (step : Step) (s : State)
    → total of (did nothing (path_of step s) s.zone).gone ≤ total of s.zone
steps-most of none masters (NewFilled role flags bytes) s =
    let new = Relocatable (length s.names) flags bytes in
    made-most of none masters s (names.Handle role) nothing (λ z. if_fits (length bytes) (seek (Put new) nothing z))
    (λ z. if-most of nothing none (is_some (phys (length bytes))) (Put new) (λ y. refl) z)
steps-most of none masters (NewEmpty role) s = omega (arith, slot-even of none masters s nothing)
steps-most of none masters (Refill h flags bytes) s = by_block (has_block h s)
  where
    by_block : (t : Bool) → total of (did nothing (cond t [] (refill h flags bytes s).path) s.zone).gone ≤ total of s.zone
    by_block true = omega arith
    by_block false = refill-goes (λ d. total of (did nothing d.path s.zone).gone ≤ total of s.zone) h flags bytes s
        (λ code. omega arith) (λ is. if-most of nothing none (is_some (phys (length bytes)))
        (Put (Relocatable h flags bytes)) (λ y. refl) s.zone)
steps-most of none masters (Release h) s = omega arith
steps-most of none masters (Cast change h) s = omega arith
