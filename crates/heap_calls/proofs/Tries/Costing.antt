use Rattle.heap_calls.proofs.Cited.{◌≡◌, inl, inr, ℕ, ◌+◌, ◌-◌, Bool, true, false, List, refl, sym, ap, subst, arith, Option, Some, None}
use Rattle.heap_calls.proofs.Cited.{Result, Ok, Err, option_map, unwrap_or, phys, OsErr, Block, Free, Masters, size, total, free_sum}
use Rattle.heap_calls.proofs.Cited.{is_purgeable, is_relocatable, tidy, free, change_run, has_free, low, movers, purge, put_at_base, room}
use Rattle.heap_calls.proofs.Cited.{total-append, map-some, room-some, change_run-some, tidied, freely, three, movers-all, purged-all}
use Rattle.heap_calls.proofs.Cited.{one-run, alike-purged, alike-room, alike-based, State, Memory, Held, nothing, look_up, blocks_purged}
use Rattle.heap_calls.proofs.Cited.{Asked, gate, zone_behind, slotted_zone, copying_zone, zone_left, staying_of, CostsAtMostMasters}
use Rattle.heap_calls.proofs.Cited.{RefusedCostsAtMostMasters, StepCostsAtMostMasters, Step, NewFilled, NewEmpty, Refill, Release, Cast}
use Rattle.heap_calls.proofs.Cited.{left_zone, Base, did, seek_slot, is_unused}
use Rattle.heap_calls.specs.Table as asked
use Rattle.heap_calls.proofs.Promises.AlikeCalls.{never, steady-never}
use Rattle.heap_calls.proofs.Promises.EmptyingLaws.{masters, masters-goes}
use Rattle.heap_calls.proofs.Same.Agreeing.{seek-leaves}
use Rattle.heap_calls.proofs.Steps.Refusals.{step-refused}
use Rattle.heap_calls.proofs.Tries.Gating.{served-refused}
use Rattle.heap_calls.proofs.Tries.Parting.{no-free, staying-goes, parted}

-- A refused try costs at most one block of master pointers.

module _ (of : Block → ℕ) (none : (n : ℕ) → of (Free n) ≡ 0)
  where
    -- a new block at the base of a run is just what is more
    based-is : (new : Block) (passes : List Block → Bool) (zone z : List Block)
        → option_map tidy (change_run passes (low new) zone) ≡ Some z → total of z ≡ of new + total of zone
    based-is new passes zone z e =
        map-some tidy (change_run passes (low new) zone) z (total of z ≡ of new + total of zone) e
        (λ based changed is. change_run-some passes (low new) zone based (total of z ≡ of new + total of zone) changed
        (λ r zone_is all found made.
        let left : ℕ = free_sum r.run - size new in
        omega (
          arith,
          ap (total of) is,
          tidied of none based,
          ap (total of) zone_is,
          ap (total of) made,
          three of none r.below r.run r.above,
          three of none r.below (low new r.run) r.above,
          movers-all of none r.run (one-run r.run all),
          total-append of (movers r.run) (free left),
          freely of none left,
        )))

    module _ (goes : (b : Block) → is_purgeable b ≡ true → of b ≡ 0)
      where
        base-is : (new : Block) (sp : Block → Bool) (zone z : List Block) → room (put_at_base new) sp zone ≡ Some z
            → total of z ≡ of new + total of zone
        base-is new sp zone z e =
            let r = room-some (put_at_base new) sp zone z e in
            let b = based-is new (has_free (size new)) (purge r.0 sp zone) z r.1 in
            let p = purged-all of none goes r.0 sp zone in
            omega arith

-- nothing
pub same-costs : (zone : List Block) → CostsAtMostMasters zone zone
same-costs zone = inl (refl, refl)

-- purges leave what can be had
purged-costs : (k : ℕ) (zone : List Block) → CostsAtMostMasters zone (purge k nothing zone)
purged-costs k zone =
    let later : List Block = purge k nothing zone in
    let held = purged-all masters (λ n. refl) masters-goes k nothing zone in
    let kept = purged-all staying_of no-free staying-goes k nothing zone in
    let same = (alike-purged never steady-never.rigid k nothing zone).0 in
    let p = parted zone in
    let q = parted later in
    inl (omega arith, omega arith)

-- a new block of master pointers takes its bytes from what can be had
masters-costs : (sp : Block → Bool) (zone later : List Block) → room (put_at_base Masters) sp zone ≡ Some later
    → CostsAtMostMasters zone later
masters-costs sp zone later made =
    let held = base-is masters (λ n. refl) masters-goes Masters sp zone later made in
    let kept = base-is staying_of no-free staying-goes Masters sp zone later made in
    let same = (alike-room never steady-never.rigid (put_at_base Masters)
    (alike-based never steady-never.rigid Masters refl) sp zone later made).0 in
    let p = parted zone in
    let q = parted later in
    inr (omega arith, omega arith)

-- an unused master pointer, for which there may be a new block
pub slotted-costs : (sp : Block → Bool) (s : State) → CostsAtMostMasters s.zone (slotted_zone sp s)
slotted-costs sp s = cases (is_unused s)
  where
    by_room : (o : Option (List Block)) → room (put_at_base Masters) sp s.zone ≡ o
        → CostsAtMostMasters s.zone (unwrap_or o s.zone)
    by_room None e = same-costs s.zone
    by_room (Some zone) e = masters-costs sp s.zone zone e

    cases : (t : Bool) → CostsAtMostMasters s.zone (did sp (seek_slot t sp s.zone).path s.zone).zone
    cases true = same-costs s.zone
    cases false = subst (CostsAtMostMasters s.zone) (sym (seek-leaves sp (Base Masters) s.zone))
        (by_room (room (put_at_base Masters) sp s.zone) refl)

copying-costs : (r : Result Held OsErr) (s : State) → CostsAtMostMasters s.zone (copying_zone r s)
copying-costs (Err code) s = same-costs s.zone
copying-costs (Ok held) s = slotted-costs (is_relocatable held.number) s

-- each zone that a refused call leaves
pub left-costs : (a : Asked) (s : State) → CostsAtMostMasters s.zone (zone_left a s)
left-costs (asked.NewHandle x) s = slotted-costs nothing s
left-costs (asked.HandToHand handle) s = copying-costs (look_up handle s) s
left-costs (asked.PurgeMem n) s = purged-costs (blocks_purged (phys n) s.zone) s.zone
left-costs a s = same-costs s.zone

behind-costs : (o : Option OsErr) (a : Asked) (s : State) → CostsAtMostMasters s.zone (zone_behind o a s)
behind-costs None a s = left-costs a s
behind-costs (Some code) a s = same-costs s.zone

pub served_costs : (a : Asked) (m : Memory) → RefusedCostsAtMostMasters a m
served_costs a m code tells =
    subst (λ (s : State). CostsAtMostMasters m.heap.zone s.zone) (sym (served-refused a m code tells).0)
    (behind-costs (gate a m) a m.heap)

-- and each that a refused step leaves
step_left-costs : (step : Step) (s : State) → CostsAtMostMasters s.zone (left_zone step s)
step_left-costs (NewFilled role flags bytes) s = slotted-costs nothing s
step_left-costs (NewEmpty role) s = slotted-costs nothing s
step_left-costs (Refill h flags bytes) s = same-costs s.zone
step_left-costs (Release h) s = same-costs s.zone
step_left-costs (Cast change h) s = same-costs s.zone

pub step_costs : (step : Step) (m : Memory) → StepCostsAtMostMasters step m
step_costs step m code refused =
    subst (λ (s : State). CostsAtMostMasters m.heap.zone s.zone) (sym (step-refused step m code refused))
    (step_left-costs step m.heap)
