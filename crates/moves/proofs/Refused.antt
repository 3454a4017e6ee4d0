use Rattle.moves.proofs.Cited.{◌≡◌, ℕ, ◌+◌, Bool, true, false, List, [], ◌∷◌, ◌++◌, refl, sym, subst, cond, is_some, nat_le, phys, Block}
use Rattle.moves.proofs.Cited.{Masters, size, is_mover, resized, has_free, segments, Spot, purge, growth, grow_up, Move, Purge, Base, Grow}
use Rattle.moves.proofs.Cited.{Extend, Push, Cut, did, untouched, moved, run_above, Sought, no_room, at_hand, sought, purges_for, seek}
use Rattle.moves.proofs.Cited.{if_fits, seek_slot, seek_in_place, seek_resized, seek_size, around}

-- Where no room is found a path only searches, and so many times wherever it begins.

abbrev pub Only : (Block → Bool) → List Move → Type 0
Only spared path = (n : ℕ) × ((zone : List Block) → did spared path zone ≡ record (untouched zone) { searches = n })

abbrev pub Refuses : (Block → Bool) → Sought → Type 0
Refuses spared r = r.found ≡ false → Only spared r.path

module _ (spared : Block → Bool)
  where
    pub sought-refused : (k : ℕ) (found : Bool) (taking : List Move) → Refuses spared (sought k found taking)
    sought-refused k true taking e = let f : true ≡ false = e in cc
    sought-refused k false taking e = (k + 1 + 0, λ zone. refl)

    pub seek-refused : (m : Move) (zone : List Block) → Refuses spared (seek m spared zone)
    seek-refused m zone =
        let k = purges_for (λ z. is_some (moved spared m z)) spared zone in
        sought-refused k (is_some (moved spared m (purge k spared zone))) (Purge k ∷ m ∷ [])

    pub fits-refused : (n : ℕ) (r : Sought) → Refuses spared r → Refuses spared (if_fits n r)
    fits-refused n r only = cases (is_some (phys n))
      where
        cases : (t : Bool) → Refuses spared (cond t r no_room)
        cases true = only
        cases false = λ e. (0, λ zone. refl)

    pub slot-refused : (unused : Bool) (zone : List Block) → Refuses spared (seek_slot unused spared zone)
    slot-refused true zone e = let f : true ≡ false = e in cc
    slot-refused false zone e = seek-refused (Base Masters) zone e

    in-place-refused : (new : Block) (s : Spot) → Refuses spared (seek_in_place new spared s)
    in-place-refused new s = cases (is_some (grow_up new s))
      where
        k : ℕ
        k = purges_for (has_free (growth new s)) spared (segments s.above).first

        cases : (t : Bool) → Refuses spared (cond t (sought 0 true (Extend new ∷ []))
            (sought k (has_free (growth new s) (run_above k spared s)) (Push new k ∷ [])))
        cases true = sought-refused 0 true (Extend new ∷ [])
        cases false = sought-refused k (has_free (growth new s) (run_above k spared s)) (Push new k ∷ [])

    resized-refused : (new : Block) (zone : List Block) (s : Spot) → Refuses spared (seek_resized new spared zone s)
    resized-refused new zone s = cases (nat_le (size new) (size s.here)) (is_mover s.here)
      where
        cases : (t u : Bool) → Refuses spared
            (cond t (at_hand (Cut new ∷ [])) (cond u (seek (Grow new) spared zone) (seek_in_place new spared s)))
        cases true u = λ e. let f : true ≡ false = e in cc
        cases false true = seek-refused (Grow new) zone
        cases false false = in-place-refused new s

    -- a block that does not get another size
    pub size-refused : (n : ℕ) (zone : List Block) (s : Spot) → Refuses spared (seek_size n spared zone s)
    size-refused n zone s = fits-refused n (seek_resized (resized n s.here) spared zone s)
        (resized-refused (resized n s.here) zone s)

    -- moves before and after those into the room
    pub around-refused : (before later : List Move) (r : Sought) → Refuses spared r → Refuses spared (around before
        later r)
    around-refused before later r only none =
        subst (λ (t : Bool). Only spared (cond t (before ++ r.path ++ later) r.path))
        (sym none) (only none)
