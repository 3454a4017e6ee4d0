use Rattle.heap_calls.proofs.Cited.{◌≡◌, ◌⊎◌, inl, inr, ℕ, Bool, true, false, List, refl, sym, ◌∙◌, ap, Option, Some, None, Result, Ok, Err}
use Rattle.heap_calls.proofs.Cited.{OsErr, Refused, Block, is_relocatable, has, State, Memory, Asked, told_as, gate, served, OneBlockEach}
use Rattle.heap_calls.proofs.Cited.{locked_place, releases, NextIsNew, pointer_place, disposes, takes_block, has_purgeable, zone_behind}
use Rattle.mac_words.specs.Told.{Done}
use Rattle.heap_calls.specs.Table as asked
use Rattle.heap_calls.proofs.Promises.Taking.{StaysOr, stays-or-released, stays-or-dropped}
use Rattle.heap_calls.proofs.Tries.Gating.{served-holds, served-purgeable, served-refused}

-- A try that takes a block away is answered, and one that is refused leaves the block.

-- a locked block stays where it is, or the call that releases it is done
pub served-stays : (a : Asked) (m : Memory) → OneBlockEach m.heap.zone → (h place : ℕ)
    → locked_place h m.heap.zone ≡ Some place
    → StaysOr (releases h a) place (served a m).0 (locked_place h (served a m).1.heap.zone)
served-stays a m once h place is =
    served-holds (λ t n. StaysOr (releases h a) place t (locked_place h n.heap.zone)) a m
    (stays-or-released a m once h place is) (λ why kept. inl is)

-- and so does a pointer's block
pub served-stands : (a : Asked) (m : Memory) → OneBlockEach m.heap.zone → NextIsNew m.heap → (p place : ℕ)
    → pointer_place p m.heap.zone ≡ Some place
    → StaysOr (disposes p a) place (served a m).0 (pointer_place p (served a m).1.heap.zone)
served-stands a m once new p place is =
    served-holds (λ t n. StaysOr (disposes p a) place t (pointer_place p n.heap.zone)) a m
    (stays-or-dropped a m once new p place is) (λ why kept. inl is)

-- a call that may let a handle go is done, or leaves the zone
pub done-or : (r : Result (Unit {0}) OsErr)
    → (told_as {T = Unit {0}} (λ (u : Unit {0}). Done) r ≡ Done)
    ⊎ ((code : OsErr) × (told_as {T = Unit {0}} (λ (u : Unit {0}). Done) r ≡ Refused code))
done-or (Ok u) = inl refl
done-or (Err code) = inr (code, refl)

done-or-same : (a : Asked) (m : Memory) → ((o : Option OsErr) → zone_behind o a m.heap ≡ m.heap.zone)
    → ((served a m).0 ≡ Done) ⊎ ((code : OsErr) × ((served a m).0 ≡ Refused code))
    → ((served a m).0 ≡ Done) ⊎ ((served a m).1.heap.zone ≡ m.heap.zone)
done-or-same a m same (inl is) = inl is
done-or-same a m same (inr (code, is)) =
    inr (ap (λ (s : State). s.zone) (served-refused a m code is).0 ∙ same (gate a m))

lets-or-same : (a : Asked) (m : Memory) (h : ℕ) → takes_block h a ≡ true
    → ((served a m).0 ≡ Done) ⊎ ((served a m).1.heap.zone ≡ m.heap.zone)
lets-or-same (asked.DisposeHandle handle) m h lets = done-or-same (asked.DisposeHandle handle) m same (done-or _)
  where
    same : (o : Option OsErr) → zone_behind o (asked.DisposeHandle handle) m.heap ≡ m.heap.zone
    same None = refl
    same (Some why) = refl
lets-or-same (asked.EmptyHandle handle) m h lets = done-or-same (asked.EmptyHandle handle) m same (done-or _)
  where
    same : (o : Option OsErr) → zone_behind o (asked.EmptyHandle handle) m.heap ≡ m.heap.zone
    same None = refl
    same (Some why) = refl
lets-or-same a m h lets = let f : false ≡ true = lets in cc

-- a handle's block that goes might be purged, or the call that let it go is done
pub served-empties : (a : Asked) (m : Memory) → OneBlockEach m.heap.zone → (h : ℕ)
    → has (is_relocatable h) m.heap.zone ≡ true → has (is_relocatable h) (served a m).1.heap.zone ≡ false
    → (has_purgeable h m.heap.zone ≡ true) ⊎ (((served a m).0 ≡ Done) × (takes_block h a ≡ true))
served-empties a m once h before after = by_call (takes_block h a) refl
  where
    by_done : takes_block h a ≡ true → ((served a m).0 ≡ Done) ⊎ ((served a m).1.heap.zone ≡ m.heap.zone)
        → (has_purgeable h m.heap.zone ≡ true) ⊎ (((served a m).0 ≡ Done) × (takes_block h a ≡ true))
    by_done lets (inl is) = inr (is, lets)
    by_done lets (inr same) =
        let f : true ≡ false = sym before ∙ sym (ap (λ (zone : List Block). has (is_relocatable h) zone) same) ∙ after
        in cc

    by_call : (t : Bool) → takes_block h a ≡ t
        → (has_purgeable h m.heap.zone ≡ true) ⊎ (((served a m).0 ≡ Done) × (takes_block h a ≡ true))
    by_call true e = by_done e (lets-or-same a m h e)
    by_call false e = inl (served-purgeable a m once h e before after)
