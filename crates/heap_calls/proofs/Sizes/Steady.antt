use Rattle.heap_calls.proofs.Cited.{◌≡◌, ℕ, ◌<◌, Bool, true, false, List, ◌∷◌, ◌++◌, refl, sym, ◌∙◌, ap, subst, Option, Some, None, Result}
use Rattle.heap_calls.proofs.Cited.{Ok, Err, is_some, take, IsSome, IfSome, IsSomeAnd, option_or, OnErr, none-some, same_Some, Block}
use Rattle.heap_calls.proofs.Cited.{Masters, size, resized, is_nonrelocatable, is_relocatable, tidy, content_of, with_content, written}
use Rattle.heap_calls.proofs.Cited.{RunSpot, run_at, with_run, has, Spot, spot, spot_at, FindsLowest, growth, grow_up, move_away, grow_last}
use Rattle.heap_calls.proofs.Cited.{grow_mover, spot-is, spot-passes, written_in, grown, CanGrowUp, KeepsNonrelocatable}
use Rattle.std.proofs.Common.{option_and_then}
use Rattle.std.specs.Result.{OnOk}
use Rattle.heap_calls.specs.Inner.Appending.{behind}
use Rattle.heap_calls.proofs.Numbering.Answering.{at_place}
use Rattle.heap_calls.proofs.Numbering.Changing.{nonrelocatable-at}
use Rattle.heap_calls.proofs.Room.Staying.{NoNonrelocatable, nonrelocatable-same, nonrelocatable-then, nonrelocatable-spot, alike-content}
use Rattle.heap_calls.proofs.Room.Staying.{nonrelocatable-grow_up, nonrelocatable-grow_mover, nonrelocatable-run_at, alike-resized}

-- The nonrelocatable blocks stay through each step of a growth.

pub some_of : {A : Type 0} (o : Option A) (P : A → Type 0) → IsSomeAnd o P → IsSome o
some_of None P h = absurd h
some_of (Some x) P h = refl

-- a run at a place was changed
pub nonrelocatable-changed_at : (change : List Block → List Block)
    → ((run : List Block) → NoNonrelocatable run → NoNonrelocatable (change run))
    → (place : ℕ) (zone after : List Block) → IsSome (run_at place zone)
    → IfSome (run_at place zone) (λ r. after ≡ tidy (with_run change r)) → KeepsNonrelocatable zone after
nonrelocatable-changed_at change keeps place zone after there done = cases (run_at place zone) refl there done
  where
    cases : (o : Option RunSpot) → run_at place zone ≡ o → IsSome o → IfSome o (λ r. after ≡ tidy (with_run change r))
        → KeepsNonrelocatable zone after
    cases None is there done p = let f : false ≡ true = there in cc
    cases (Some r) is there done p = ap (has (is_nonrelocatable p)) done ∙ nonrelocatable-run_at change keeps place zone r is p

-- a block grew into the Free block above it, where the host has memory
pub nonrelocatable-grown_up : {T E : Type 0} (result : Result T E) (test : Block → Bool) (n place : ℕ) (zone after : List Block)
    → CanGrowUp test n zone → FindsLowest test zone (Some place)
    → OnOk result (IfSome (spot_at place zone) (λ s. size s.here < size (resized n s.here)
    → IfSome (grow_up (resized n s.here) s) (λ z. after ≡ z))) → OnErr result (after ≡ zone) → KeepsNonrelocatable zone after
nonrelocatable-grown_up (Err error) test n place zone after can found done same = nonrelocatable-same zone after same
nonrelocatable-grown_up (Ok value) test n place zone after can found done same =
    let s = found.0 in
    let P : Spot → Type 0 = λ s. size s.here < size (resized n s.here) in
    let Q : Spot → Type 0 = λ s. is_some (grow_up (resized n s.here) s) ≡ true in
    let one = same_Some _ _ (sym can.1 ∙ found.1) in
    let more : P s = subst P one can.2 in
    let fits : Q s = subst Q one can.3 in
    let grew = at_place place zone s (λ s. size s.here < size (resized n s.here)
    → IfSome (grow_up (resized n s.here) s) (λ z. after ≡ z)) found.2 done more in
    nonrelocatable-at place zone after s found.2 (cases s (grow_up (resized n s.here) s) refl fits grew)
  where
    cases : (s : Spot) (o : Option (List Block)) → grow_up (resized n s.here) s ≡ o → is_some o ≡ true
        → IfSome o (λ z. after ≡ z) → KeepsNonrelocatable (s.below ++ s.here ∷ s.above) after
    cases s None is there grew = let f : false ≡ true = there in cc
    cases s (Some z) is there grew = nonrelocatable-grow_up (resized n s.here) s after (alike-resized n s.here)
        (is ∙ ap Some (sym grew))

-- bytes were written into a slot's block
pub nonrelocatable-behind : (slot len : ℕ) (x : List ℕ) (zone : List Block) → KeepsNonrelocatable zone (behind slot len x zone)
nonrelocatable-behind slot len x zone = cases (spot (is_relocatable slot) zone) refl
  where
    cases : (o : Option Spot) → spot (is_relocatable slot) zone ≡ o → KeepsNonrelocatable zone (written_in slot len x zone o)
    cases None is = λ p. refl
    cases (Some s) is =
        let content = written len x (content_of s.here) in
        nonrelocatable-then zone (s.below ++ s.here ∷ s.above) (s.below ++ with_content content s.here ∷ s.above)
        (nonrelocatable-same zone (s.below ++ s.here ∷ s.above) (sym (spot-is (is_relocatable slot) zone s is)))
        (nonrelocatable-spot s.below s.above s.here (with_content content s.here) (alike-content content s.here))

-- bytes of one slot's block were written into another's
pub nonrelocatable-copied : (source slot from to bytes i : ℕ) (zone after : List Block)
    → FindsLowest (is_relocatable source) zone (Some from) → FindsLowest (is_relocatable slot) zone (Some to)
    → IfSome (spot_at from zone) (λ t. IfSome (spot_at to zone)
    (λ s. after ≡ s.below ++ with_content (written i (take bytes (content_of t.here)) (content_of s.here)) s.here
    ∷ s.above)) → KeepsNonrelocatable zone after
nonrelocatable-copied source slot from to bytes i zone after a b copied =
    let t = a.0 in
    let s = b.0 in
    let content = written i (take bytes (content_of t.here)) (content_of s.here) in
    let inner = at_place from zone t (λ t. IfSome (spot_at to zone)
    (λ s. after ≡ s.below ++ with_content (written i (take bytes (content_of t.here)) (content_of s.here)) s.here
    ∷ s.above)) a.2 copied in
    let done = at_place to zone s (λ s. after ≡ s.below ++ with_content
    (written i (take bytes (content_of t.here)) (content_of s.here)) s.here ∷ s.above) b.2 inner in
    nonrelocatable-at to zone after s b.2
    (nonrelocatable-then (s.below ++ s.here ∷ s.above) (s.below ++ with_content content s.here ∷ s.above) after
    (nonrelocatable-spot s.below s.above s.here (with_content content s.here) (alike-content content s.here))
    (nonrelocatable-same (s.below ++ with_content content s.here ∷ s.above) after done))

-- a block got another size, and bytes behind its own
pub nonrelocatable-longer : (slot len : ℕ) (x : List ℕ) (zone between after : List Block) → KeepsNonrelocatable zone between
    → after ≡ behind slot len x between → KeepsNonrelocatable zone after
nonrelocatable-longer slot len x zone between after sized written =
    nonrelocatable-then zone between after sized (nonrelocatable-then between (behind slot len x between) after
    (nonrelocatable-behind slot len x between) (nonrelocatable-same (behind slot len x between) after written))

-- a block grew in one of its ways; the zone was packed before
pub nonrelocatable-carried : {T E : Type 0} (result : Result T E) (slot n : ℕ) (zone between after : List Block)
    → OnOk result (grow_mover (is_relocatable slot) (grown n (spot (is_relocatable slot) zone)) zone ≡ Some after)
    → KeepsNonrelocatable zone between → OnErr result (after ≡ between) → KeepsNonrelocatable zone after
nonrelocatable-carried (Err error) slot n zone between after done packed same = λ p. ap (has (is_nonrelocatable p)) same ∙ packed p
nonrelocatable-carried (Ok value) slot n zone between after done packed same = cases (spot (is_relocatable slot) zone) refl done
  where
    way : Spot → Option (List Block)
    way s = option_or (grow_up Masters s) (option_or (move_away (is_relocatable slot) Masters zone)
        (grow_last (is_relocatable slot) Masters (growth Masters s) zone))

    cases : (o : Option Spot) → spot (is_relocatable slot) zone ≡ o
        → grow_mover (is_relocatable slot) (grown n o) zone ≡ Some after → KeepsNonrelocatable zone after
    cases None is e = absurd (none-some _ (sym (ap (option_and_then way) is) ∙ e))
    cases (Some s) is e = nonrelocatable-grow_mover slot n s.here zone after (spot-passes (is_relocatable slot) zone s is) e
