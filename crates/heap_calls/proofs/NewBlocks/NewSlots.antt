use Rattle.heap_calls.proofs.Cited.{◌≡◌, ℕ, ◌+◌, ◌<◌, Bool, true, false, List, [], refl, sym, ◌∙◌, ap, subst, arith, Option, Some, None}
use Rattle.heap_calls.proofs.Cited.{is_some, is_some-map, option_map, unwrap_or, IfSome, IsSomeAnd, IsTrue, some_and, Block, Free, Masters}
use Rattle.heap_calls.proofs.Cited.{size, is_room, tidy, RunSpot, run_spot, run_at, has_free, with_run, low, Spot, spot_at, filled, purge}
use Rattle.heap_calls.proofs.Cited.{put_at_base, FindsLowestRun, least_or_last, serves, is_used, Rest, IsRest, KeepsSlots, counted}
use Rattle.heap_calls.proofs.Cited.{counted-none, KeepsAllButPlaced, spared, opened, purged, most_purges, Sparing, OpensNone, Base, did}
use Rattle.heap_calls.proofs.Cited.{moved, Sought, purges_for, seek, Went, told_along, told_named, gone_from, Anchor, filled_at, HasRoomAt}
use Rattle.heap_calls.proofs.Cited.{HasMore, GainsSlots, seek_unused, TakesSlot, HasSlot, IsTaken, KeepsTaken}
use Rattle.heap_calls.proofs.Going.{went-none, went-some, gone-none, gone-some, goes-named}
use Rattle.heap_calls.proofs.Numbering.Changing.{slots_kept}
use Rattle.heap_calls.proofs.Room.Packing.{base-found, free-filled}
use Rattle.heap_calls.proofs.Room.Placements.{slot-back}
use Rattle.heap_calls.proofs.Sizes.Growth.{opened-whole}

-- Room at the base of a run, and new slots there.

-- the zone with a block at the bottom of a run
abbrev pub at_base : Block → RunSpot → List Block
at_base new r = tidy (with_run (low new) r)

pub put_at_base-is : (new : Block) (zone : List Block) → put_at_base new zone
    ≡ option_map (at_base new) (run_spot (has_free (size new)) zone)
put_at_base-is new zone = cases (run_spot (has_free (size new)) zone)
  where
    cases : (o : Option RunSpot) → option_map tidy (option_map (with_run (low new)) o) ≡ option_map (at_base new) o
    cases None = refl
    cases (Some r) = refl

-- the search for p bytes at the base of a run, after the least number of purges that serves, for a block that takes them
module _ (p : ℕ) (nd : Sparing) (whole : OpensNone nd) (zone : List Block) (k : ℕ)
    (least : k ≡ least_or_last (serves p nd zone) (most_purges nd zone)) (new : Block) (sized : size new ≡ p)
  where
    abbrev sp : Block → Bool
    sp = spared nd

    same : opened nd zone ≡ zone
    same = opened-whole nd whole zone

    sees : (z : List Block) → is_some (run_spot (has_free p) z) ≡ is_some (put_at_base new z)
    sees z = ap (λ n. is_some (run_spot (has_free n) z)) (sym sized)
        ∙ sym (ap is_some (put_at_base-is new z) ∙ is_some-map (at_base new) (run_spot (has_free (size new)) z))

    fewest : k ≡ purges_for (λ z. is_some (moved sp (Base new) z)) sp zone
    fewest = least ∙ ap (λ z. purges_for (λ z. is_some (run_spot (has_free p) z)) sp z) same
        ∙ ap (λ (t : List Block → Bool). purges_for t sp zone) (λ i z. sees z i)

    ready : (t : Bool) → serves p nd zone k ≡ t → is_some (put_at_base new (purge k sp zone)) ≡ t
    ready t is = sym (sees (purge k sp zone)) ∙ ap (λ z. is_some (run_spot (has_free p) (purge k sp z))) (sym same) ∙ is

    pub base-unmade : serves p nd zone k ≡ false → (rest : Rest)
        → Went sp zone (seek (Base new) sp zone) false (k + 1) zone rest rest
    base-unmade is rest = went-none sp zone (Base new) refl (λ z. refl) k fewest (ready false is) rest

    pub base-untold : serves p nd zone k ≡ false → (es : List Anchor)
        → told_along es sp (seek (Base new) sp zone) zone ≡ []
    base-untold is es = ap (told_named es) (gone-none sp zone (Base new) refl (λ z. refl) k fewest (ready false is))

    pub base-told : serves p nd zone k ≡ true → (es : List Anchor)
        → gone_from es nd k zone ≡ told_along es sp (seek (Base new) sp zone) zone
    base-told is es = goes-named es nd whole k zone
        ∙ ap (told_named es) (sym (gone-some sp zone (Base new) refl (λ z. refl) k fewest (ready true is)))

    pub base-made : (place : ℕ) (zone1 after : List Block) → 0 < p → zone1 ≡ purged k nd zone
        → FindsLowestRun (has_free p) zone1 (Some place)
        → IfSome (run_at place zone1) (λ r. after ≡ tidy (with_run (low (Free p)) r))
        → (rest rest' : Rest) → rest'.moves ≡ rest.moves
        → Went sp zone (seek (Base new) sp zone) true (k + 1) (filled_at new (Some place) after) rest rest'
    base-made place zone1 after pos purged found h rest rest' still =
        let b = base-found p place zone1 after pos found h in
        went-some sp zone (Base new) refl (λ z. refl) k fewest (filled_at new (Some place) after)
        (put_at_base-is new (purge k sp zone)
        ∙ ap (λ n. option_map (at_base new) (run_spot (has_free n) (purge k sp zone))) sized
        ∙ ap (λ z. option_map (at_base new) (run_spot (has_free p) z)) (ap (purge k sp) (sym same) ∙ sym purged)
        ∙ ap (option_map (at_base new)) found.1
        ∙ ap Some (sym (ap (λ o. unwrap_or (option_map (filled new) o) after) b.at ∙ b.fills new sized)))
        rest rest' (still ∙ sym (counted-none rest.moves))

-- the place has room
pub base-room : (p place : ℕ) (zone after : List Block) → 0 < p → FindsLowestRun (has_free p) zone (Some place)
    → IfSome (run_at place zone) (λ r. after ≡ tidy (with_run (low (Free p)) r)) → HasRoomAt p (Some place) after
base-room p place zone after pos found h =
    let b = base-found p place zone after pos found h in
    subst (λ o. IsSomeAnd o (λ s. IsTrue (is_room p s.here))) (sym b.at) b.room

pub room-at : (p : ℕ) (o : Option ℕ) (place : ℕ) (zone : List Block) → o ≡ Some place → HasRoomAt p o zone
    → IsSomeAnd (spot_at place zone) (λ s. IsTrue (is_room p s.here))
room-at p o place zone is room = let P : Option ℕ → Type 0 = λ o. HasRoomAt p o zone in subst P is room

-- a block was put into the room that was made
module _ (new : Block) (o : Option ℕ) {sp : Block → Bool} {zone : List Block} (zone1 : List Block) {p : Sought} {n : ℕ}
    {rest rest1 : Rest} (w : Went sp zone p (is_some o) n (filled_at new o zone1) rest rest1)
  where
    pub went-filled : (k place : ℕ) → o ≡ Some place → HasRoomAt k o zone1 → (zone' : List Block)
        → IfSome (spot_at place zone1) (λ s. zone' ≡ filled new s) → (rest' : Rest) → rest'.moves ≡ rest1.moves
        → Went sp zone p (is_some o) n zone' rest rest'
    went-filled k place is room zone' done rest' still = record {
      finds = w.finds;
      leaves = cases (spot_at place zone1) (room-at k o place zone1 is room) done
          ∙ ap (λ o. filled_at new o zone1) (sym is) ∙ w.leaves;
      looks = w.looks;
      lowers = still ∙ w.lowers;
    }
      where
        cases : (t : Option Spot) → IsSomeAnd t (λ s. IsTrue (is_room k s.here)) → IfSome t (λ s. zone' ≡ filled new s)
            → zone' ≡ unwrap_or (option_map (filled new) t) zone1
        cases None wide done = absurd wide
        cases (Some s) wide done = done

    pub went-unfilled : o ≡ None → Went sp zone p (is_some o) n zone1 rest rest1
    went-unfilled is = record {
      finds = w.finds;
      leaves = ap (λ o. filled_at new o zone1) (sym is) ∙ w.leaves;
      looks = w.looks;
      lowers = w.lowers;
    }

-- a free block in it leaves the zone
pub went-free : (k : ℕ) (o : Option ℕ) (zone' : List Block) → tidy zone' ≡ zone' → HasRoomAt k o zone'
    → {sp : Block → Bool} {zone : List Block} {p : Sought} {n : ℕ} {rest rest' : Rest}
    → Went sp zone p (is_some o) n (filled_at (Free k) o zone') rest rest' → Went sp zone p (is_some o) n zone' rest rest'
went-free k o zone' tidied room w = record {
  finds = w.finds;
  leaves = sym (same o room) ∙ w.leaves;
  looks = w.looks;
  lowers = w.lowers;
}
  where
    same : (o : Option ℕ) → HasRoomAt k o zone' → filled_at (Free k) o zone' ≡ zone'
    same None room = refl
    same (Some place) room =
        let b = some_and (spot_at place zone') (λ s. IsTrue (is_room k s.here)) room in
        ap (λ o. unwrap_or (option_map (filled (Free k)) o) zone') b.1 ∙ free-filled k place zone' b.0 tidied b.1 b.2

-- what came of making 64 slots
pub gains-some : (rest rest1 rest' : Rest) (o : Option ℕ) (place : ℕ) → o ≡ Some place → KeepsAllButPlaced rest rest1
    → rest'.unused ≡ rest1.unused + 64 → rest'.all ≡ rest1.all + 64
    → ((k : ℕ) → IsTrue (is_used (rest1.slots k)) → rest'.slots k ≡ rest1.slots k) → rest'.window ≡ rest1.window
    → GainsSlots o rest rest'
gains-some rest rest1 rest' o place is now unused all slots window =
    let P : Option ℕ → Type 0 = λ o. GainsSlots o rest rest' in
    let more : HasMore rest rest' = record {
      slots = λ k used. slots k (ap is_used (now.slots k) ∙ used) ∙ now.slots k;
      counts = omega (arith, unused, all, now.unused, now.all);
      grows = omega (arith, all, now.all);
      window = window ∙ now.window;
    } in
    let done : P (Some place) = (more, unused ∙ ap (λ n. n + 64) now.unused) in
    subst P (sym is) done

pub gains-none : (rest rest' : Rest) (o : Option ℕ) → o ≡ None → KeepsAllButPlaced rest rest' → GainsSlots o rest rest'
gains-none rest rest' o is now =
    let P : Option ℕ → Type 0 = λ o. GainsSlots o rest rest' in
    let done : P None = slots_kept rest rest' now in
    subst P (sym is) done

-- where no slot is unused, the search for one is the search for a master pointer block's base
pub went-slot : (nd : Sparing) (zone zone1 zone2 zone' : List Block) (rest rest1 rest2 rest' : Rest) (found had : Bool)
    (n : ℕ) → rest.unused ≡ 0 → zone1 ≡ zone → rest1.moves ≡ rest.moves → had ≡ found
    → Went (spared nd) zone1 (seek (Base Masters) (spared nd) zone1) found n zone2 rest1 rest2
    → zone' ≡ zone2 → rest'.moves ≡ rest2.moves
    → Went (spared nd) zone (seek_unused nd rest.unused zone) had n zone' rest rest'
went-slot nd zone zone1 zone2 zone' rest rest1 rest2 rest' found had n none same still is went at still' =
    let w = subst (λ z. Went (spared nd) z (seek (Base Masters) (spared nd) z) found n zone2 rest1 rest2) same went in
    subst (λ (k : ℕ). Went (spared nd) zone (seek_unused nd k zone) had n zone' rest rest') (sym none) (record {
      finds = is ∙ w.finds;
      leaves = at ∙ w.leaves;
      looks = w.looks;
      lowers = still' ∙ w.lowers ∙ ap (λ m. counted m (did (spared nd) (seek (Base Masters) (spared nd) zone).path
          zone).lowered) still;
    })

-- slots that are kept are no fewer
pub more-kept : (rest more rest' : Rest) → HasMore rest more → KeepsSlots more rest' → HasMore rest rest'
more-kept rest more rest' has kept = record {
  slots = λ k used. kept.slots k ∙ has.slots k used;
  counts = let a = has.counts in omega (arith, kept.unused, kept.all);
  grows = let a = has.grows in omega (arith, kept.all);
  window = kept.window ∙ has.window;
}

pub kept-more : (rest rest' : Rest) → KeepsSlots rest rest' → HasMore rest rest'
kept-more rest rest' now = record {
  slots = λ k used. now.slots k;
  counts = omega (arith, now.unused, now.all);
  grows = omega (arith, now.all);
  window = now.window;
}

pub taken-kept : (slot : ℕ) (rest mid rest' : Rest) → IsTaken slot rest mid → KeepsSlots mid rest' → IsTaken slot rest rest'
taken-kept slot rest mid rest' t now = record {
  more = t.more;
  has_more = t.has_more;
  was = t.was;
  one = omega (arith, t.one, now.unused);
  slots = record {
    slots = λ k. now.slots k ∙ t.slots.slots k;
    unused = refl;
    all = now.all ∙ t.slots.all;
    moves = refl;
    placed = refl;
    window = now.window ∙ t.slots.window;
  };
}

pub has-kept : (o : Option ℕ) (rest mid rest' : Rest) → HasSlot o rest mid → IsRest mid rest' → HasSlot o rest rest'
has-kept o rest mid rest' has now = cases o has
  where
    kept : KeepsSlots mid rest'
    kept = record {
      slots = λ k. now.slots k;
      unused = now.unused;
      all = now.all;
      moves = refl;
      placed = refl;
      window = now.window;
    }

    cases : (o : Option ℕ) → HasSlot o rest mid → HasSlot o rest rest'
    cases None more = more-kept rest mid rest' more kept
    cases (Some slot) t = taken-kept slot rest mid rest' t kept

-- the slot that was taken, and then that of the new block
pub taken-slot : (slot : Option ℕ) (zone' : List Block) (rest rest' : Rest) → TakesSlot slot rest zone' rest'
    → HasSlot slot rest rest'
taken-slot None zone' rest rest' h = kept-more rest rest' h
taken-slot (Some slot) zone' rest rest' h = h.0

pub slot-kept : (o made : Option ℕ) (slot : ℕ) (zone1 : List Block) (rest rest1 rest' : Rest) → o ≡ Some slot
    → TakesSlot o rest zone1 rest1 → KeepsTaken slot made rest1 rest' → HasSlot made rest rest'
slot-kept o made slot zone1 rest rest1 rest' is took kept = cases made kept
  where
    t : IsTaken slot rest rest1
    t = let P : Option ℕ → Type 0 = λ o. TakesSlot o rest zone1 rest1 in
        let h : P (Some slot) = subst P is took in h.0

    cases : (made : Option ℕ) → KeepsTaken slot made rest1 rest' → HasSlot made rest rest'
    cases None back = more-kept rest t.more rest' t.has_more (slot-back t.more rest1 rest' slot t.was t.one t.slots back)
    cases (Some k) kept = subst (λ (k : ℕ). IsTaken k rest rest') (sym kept.0) (taken-kept slot rest rest1 rest' t kept.1)
