use Rattle.heap_calls.proofs.Cited.{◌≡◌, ℕ, ◌<◌, Bool, true, false, ◌&&◌, List, ◌∷◌, ◌++◌, refl, sym, ◌∙◌, ap, cond, Option, Some, None, Ok}
use Rattle.heap_calls.proofs.Cited.{Err, slice_get, subst, filter, arith, map-append, none-some, same_Some, le-leb, option_map, ok_or}
use Rattle.heap_calls.proofs.Cited.{IfSome, IsSomeAnd, IsTrue, Log, NIL_HANDLE, LOCKED, Flags, Block, Free, Nonrelocatable, Masters}
use Rattle.heap_calls.proofs.Cited.{Relocatable, free_of, free_sum, free, rename, rename_block, is_relocatable, is_mover, tidy, RunSpot}
use Rattle.heap_calls.proofs.Cited.{run_spot, run_at, change_run, with_run, has, has_free, others, high, seen, with_flags, Rest, IsRest}
use Rattle.heap_calls.proofs.Cited.{KeepsAllButPlaced, Spot, spot, spot_at, rename_spot, FindsLowestRun, change_run-rename, has-rename}
use Rattle.heap_calls.proofs.Cited.{others-rename, filter-rename, free-rename, total-rename, free_of-rename, tidy-rename, is_mover-rename}
use Rattle.heap_calls.proofs.Cited.{run_spot-passes, State, Memory, Answer, Held, look_up, for_found, refused, flagged, change_flags}
use Rattle.heap_calls.proofs.Cited.{hoisted, move_h_hi, silent, seen_flags, seen_mover, Anchor, state_of, memory_of, handle_number}
use Rattle.heap_calls.proofs.Cited.{pointer_number, no_number}
use Rattle.std.proofs.Common.{unwrap_or}
use Rattle.heap_calls.specs.declared.anchor.Anchor.TheVariants.{Handle}
use Rattle.heap_calls.proofs.Numbering.Answering.{look_up-by, held}
use Rattle.heap_calls.proofs.Numbering.Numbers.{Apart, is_relocatable-number}
use Rattle.heap_calls.proofs.Numbering.Changing.{silent-kept, silent-refused, unplaced, unplaced-is}

-- a block without flags has none to change
pub flags-none : (change : Flags → Flags) (b : Block) → seen_flags (Some (seen b)) ≡ None → flagged change b ≡ b
flags-none change (Free n) e = refl
flags-none change (Nonrelocatable id content) e = refl
flags-none change Masters e = refl
flags-none change (Relocatable id flags content) e = absurd (none-some _ (sym e))

pub flags-some : (change : Flags → Flags) (flags : Flags) (b : Block) → seen_flags (Some (seen b)) ≡ Some flags
    → with_flags (change flags) b ≡ flagged change b
flags-some change flags (Free n) e = refl
flags-some change flags (Nonrelocatable id content) e = refl
flags-some change flags Masters e = refl
flags-some change flags (Relocatable id old content) e = ap (λ f. Relocatable id (change f) content)
    (sym (same_Some _ _ e))

pub flagged-rename : (f g : ℕ → ℕ) (change : Flags → Flags) (b : Block)
    → flagged change (rename_block f g b) ≡ rename_block f g (flagged change b)
flagged-rename f g change (Free n) = refl
flagged-rename f g change (Nonrelocatable id content) = refl
flagged-rename f g change Masters = refl
flagged-rename f g change (Relocatable id flags content) = refl

pub seen_mover-is : (b : Block) → seen_mover (Some (seen b)) ≡ is_mover b
seen_mover-is (Free n) = refl
seen_mover-is (Nonrelocatable id content) = refl
seen_mover-is Masters = refl
seen_mover-is (Relocatable id flags content) = refl

-- what was seen at a place
pub seen-at : {A : Type 0} (of : Option _ → A) (place : ℕ) (zone : List Block) (s : Spot) (r : Option _)
    → spot_at place zone ≡ Some s → r ≡ option_map (λ (s : Spot). seen s.here) (spot_at place zone)
    → of r ≡ of (Some (seen s.here))
seen-at of place zone s r at is = ap of (is ∙ ap (option_map (λ (s : Spot). seen s.here)) at)

-- the rest is what it was
pub rest-same : (rest : Rest) → IsRest rest rest
rest-same rest = record { slots = λ k. refl; unused = refl; all = refl; moves = refl; placed = refl; window = refl }

-- the answer of a call that changes flags, where they were changed
pub change_flags-done : (change : Flags → Flags) (value : Memory) (zone zone' : List Block) (rest rest' : Rest)
    (es : List Anchor) (log : Log) (handle : Option ℕ) (h : ℕ) (s : Spot) → memory_of zone rest es log ≡ value
    → look_up handle (state_of zone rest.slots es) ≡ Ok (held h (rename_spot (handle_number es) (pointer_number es) s))
    → IsRest rest rest' → zone' ≡ s.below ++ flagged change s.here ∷ s.above
    → silent (change_flags change handle) value ≡ (Ok tt, memory_of zone' rest' es log)
change_flags-done change value zone zone' rest rest' es log handle h s is found now done =
    let state : State = state_of zone rest.slots es in
    silent-kept (change_flags change handle) value zone zone' rest rest' es log (Ok tt) is
    (ap (λ r. for_found r state (λ k. (
      Ok tt,
      record state {
        zone = k.at.below
            ++ flagged change k.at.here ∷ k.at.above;
      },
    ))) found
    ∙ ap (λ z. (Ok tt, record state { zone = z })) (ap (λ b. rename f g s.below ++ b ∷ rename f g s.above)
    (flagged-rename f g change s.here) ∙ sym (map-append (rename_block f g) s.below
    (flagged change s.here ∷ s.above)) ∙ ap (rename f g) (sym done))) now
  where
    f : ℕ → ℕ
    f = handle_number es

    g : ℕ → ℕ
    g = pointer_number es

-- moving a block to the top sees no names
pub high-rename : (f g : ℕ → ℕ) (p q : Block → Bool) → ((b : Block) → p (rename_block f g b) ≡ q b) → (run : List Block)
    → high p (rename f g run) ≡ rename f g (high q run)
high-rename f g p q same run =
    ap (λ l. l ++ free (free_sum (rename f g run)) ++ filter p (rename f g run)) (others-rename f g p q same run)
    ∙ ap (λ n. rename f g (others q run) ++ free n ++ filter p (rename f g run))
    (total-rename f g free_of free_of (free_of-rename f g) run)
    ∙ ap (λ l. rename f g (others q run) ++ free (free_sum run) ++ l) (filter-rename f g p q same run)
    ∙ ap (λ l. rename f g (others q run) ++ l ++ rename f g (filter q run)) (sym (free-rename f g (free_sum run)))
    ∙ ap (λ l. l ++ rename f g (filter q run)) (sym (map-append (rename_block f g) (others q run)
    (free (free_sum run))))
    ∙ sym (map-append (rename_block f g) (others q run ++ free (free_sum run)) (filter q run))

pub hoisted-rename : (f g : ℕ → ℕ) (h slot : ℕ) → ((b : Block)
    → is_relocatable h (rename_block f g b) ≡ is_relocatable slot b) → (zone : List Block)
    → hoisted h (rename f g zone) ≡ rename f g (hoisted slot zone)
hoisted-rename f g h slot same zone =
    ap (λ o. unwrap_or (option_map tidy o) (rename f g zone))
    (change_run-rename f g (has (is_relocatable h)) (has (is_relocatable slot)) (high (is_relocatable h))
    (high (is_relocatable slot))
    (λ run. has-rename f g (is_relocatable h) (is_relocatable slot) same run)
    (λ run. high-rename f g (is_relocatable h) (is_relocatable slot) same run) zone)
    ∙ cases (change_run (has (is_relocatable slot)) (high (is_relocatable slot)) zone)
  where
    cases : (o : Option (List Block)) → unwrap_or (option_map tidy (option_map (rename f g) o)) (rename f g zone)
        ≡ rename f g (unwrap_or (option_map tidy o) zone)
    cases None = refl
    cases (Some z) = tidy-rename f g z

-- the block of a slot, looked up by its handle
module _ (value : Memory) (zone : List Block) (rest : Rest) (es : List Anchor) (log : Log) (handle : Option ℕ)
    (h slot : ℕ) {guarded : Bool}
    (is : memory_of zone rest es log ≡ value) (bound : handle ≡ Some h)
    (at : slice_get es h ≡ Some (Handle slot guarded))
    (apart : Apart es) (small : h < no_number)
  where
    abbrev state : State
    state = state_of zone rest.slots es

    looked : (o : Option Spot) → spot (is_relocatable slot) zone ≡ o → look_up handle state
        ≡ ok_or (option_map (held h) (option_map (rename_spot (handle_number es) (pointer_number es)) o)) NIL_HANDLE
    looked o e = look_up-by zone rest.slots es handle h slot bound at apart small
        ∙ ap (λ o. ok_or (option_map (held h) (option_map (rename_spot (handle_number es) (pointer_number es)) o))
        NIL_HANDLE) e

    abbrev moved : Held → Answer (Unit {0})
    moved k = cond (is_mover k.at.here) (Ok tt, record state { zone = hoisted k.number state.zone })
        (refused LOCKED state)

    pub move_h_hi-emptied : spot (is_relocatable slot) zone ≡ None
        → silent (move_h_hi handle) value ≡ (Err NIL_HANDLE, value)
    move_h_hi-emptied none = silent-refused (move_h_hi handle) value zone rest es log NIL_HANDLE is
        (ap (λ r. for_found r state moved) (looked None none))

    -- what is answered at a block, by whether it can move
    row : (s : Spot) (t : Bool) → spot (is_relocatable slot) zone ≡ Some s → is_mover s.here ≡ t
        → move_h_hi handle state ≡ cond t (Ok tt, record state { zone = hoisted h state.zone }) (refused LOCKED state)
    row s t found can =
        ap (λ r. for_found r state moved) (looked (Some s) found)
        ∙ ap (λ t. cond t (Ok tt, record state { zone = hoisted h state.zone }) (refused LOCKED state))
        (is_mover-rename (handle_number es) (pointer_number es) s.here ∙ can)

    pub move_h_hi-locked : (s : Spot) → spot (is_relocatable slot) zone ≡ Some s → is_mover s.here ≡ false
        → silent (move_h_hi handle) value ≡ (Err LOCKED, value)
    move_h_hi-locked s found locked = silent-refused (move_h_hi handle) value zone rest es log LOCKED is
        (row s false found locked)

    pub move_h_hi-done : (zone' : List Block) (rest' : Rest) (s : Spot) → spot (is_relocatable slot) zone ≡ Some s
        → is_mover s.here ≡ true → KeepsAllButPlaced rest rest' → zone' ≡ hoisted slot zone
        → silent (move_h_hi handle) value ≡ (Ok tt, memory_of zone' rest' es log)
    move_h_hi-done zone' rest' s found free now done =
        let f : ℕ → ℕ = handle_number es in
        let g : ℕ → ℕ = pointer_number es in
        silent-kept (move_h_hi handle) value zone zone' rest (unplaced rest rest') es log (Ok tt) is
        (row s true found free ∙ ap (λ z. (Ok tt, record state { zone = z })) (hoisted-rename f g h slot
        (is_relocatable-number es h slot at apart small) zone ∙ ap (rename f g) (sym done))) (unplaced-is rest rest' now)

-- the run of a block, found with no Free bytes wanted
and-free : (test : List Block → Bool) (zone : List Block) → run_spot (λ run. test run && has_free 0 run) zone
    ≡ run_spot test zone
and-free test zone = ap (λ (p : List Block → Bool). run_spot p zone)
    (λ i run. (ap (λ t. test run && t) (le-leb 0 (free_sum run) (omega arith)) ∙ and_true (test run)) i)
  where
    and_true : (t : Bool) → (t && true) ≡ t
    and_true true = refl
    and_true false = refl

pub run-found : (test : List Block → Bool) (zone : List Block) (r : Option ℕ)
    → FindsLowestRun (λ run. test run && has_free 0 run) zone r → FindsLowestRun test zone r
run-found test zone None e = sym (and-free test zone) ∙ e
run-found test zone (Some p) found = (found.0, sym (and-free test zone) ∙ found.1, found.2, found.3)

pub hoist-allowed : (test : Block → Bool) (p : ℕ) (zone : List Block) → FindsLowestRun (has test) zone (Some p)
    → IsSomeAnd (run_at p zone) (λ r. IsTrue (has test r.run))
hoist-allowed test p zone found = let P : Option RunSpot → Type 0 = λ o. IsSomeAnd o (λ r. IsTrue (has test r.run)) in
    subst P (sym found.2) (run_spot-passes (has test) zone found.0 found.1)

-- the zone with the block of a slot at the top of its run
pub hoisted-done : (slot p : ℕ) (zone zone' : List Block) → FindsLowestRun (has (is_relocatable slot)) zone (Some p)
    → IfSome (run_at p zone) (λ r. zone' ≡ tidy (with_run (high (is_relocatable slot)) r)) → zone' ≡ hoisted slot zone
hoisted-done slot p zone zone' found h =
    let P : Option RunSpot → Type 0 = λ o. IfSome o (λ r. zone' ≡ tidy (with_run (high (is_relocatable slot)) r)) in
    let is : zone' ≡ tidy (with_run (high (is_relocatable slot)) found.0) = subst P found.2 h in
    is ∙ ap (λ o. unwrap_or (option_map tidy (option_map (with_run (high (is_relocatable slot))) o)) zone) (sym found.1)

pub hoisted-none : (slot : ℕ) (zone : List Block) → FindsLowestRun (has (is_relocatable slot)) zone None
    → zone ≡ hoisted slot zone
hoisted-none slot zone none = ap (λ o. unwrap_or (option_map tidy
    (option_map (with_run (high (is_relocatable slot))) o)) zone) (sym none)
