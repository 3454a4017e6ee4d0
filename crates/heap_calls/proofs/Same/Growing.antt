use Rattle.heap_calls.proofs.Cited.{◌≡◌, ℕ, ◌-◌, Bool, true, false, List, [], ◌∷◌, ◌++◌, nat_le, Option, Some, None, refl, sym, ◌∙◌, ap}
use Rattle.heap_calls.proofs.Cited.{cond, arith, is_some, cond-true, option_map, option_or, unwrap_or, option_and_then, nat_tests, phys}
use Rattle.heap_calls.proofs.Cited.{Block, Free, Nonrelocatable, Masters, Relocatable, size, free, free_sum, is_mover, is_relocatable}
use Rattle.heap_calls.proofs.Cited.{is_nonrelocatable, resized, has_free, segments, joined, movers, Spot, spot, filled, purge, room, Rest}
use Rattle.heap_calls.proofs.Cited.{growth, grow_up, grow_mover, grow_nonrelocatable, grow, grow_at, Purge, Grow, Extend, Push}
use Rattle.heap_calls.proofs.Cited.{Cut, did, is_same, run_above, Sought, at_hand, no_room, sought, purges_for, seek, seek_in_place}
use Rattle.heap_calls.proofs.Cited.{seek_resized, seek_size, Went, at_spot, seek_sized, grown, spot-passes}
use Rattle.moves.specs.Moves as moves
use Rattle.heap_calls.proofs.Same.Agreeing.{fewest, ready, room-is}

-- The growth of a block in a store.

-- the block at another size has the name that it had
pub same-resized : (n : ℕ) (b : Block) → is_same (resized n b) ≡ is_same b
same-resized n (Free m) = refl
same-resized n (Nonrelocatable id content) = refl
same-resized n Masters = refl
same-resized n (Relocatable id flags content) = refl

-- which is that of its handle or its pointer
pub same-handle : (h n : ℕ) (b : Block) → is_relocatable h b ≡ true → is_same (resized n b) ≡ is_relocatable h
same-handle h n (Free m) e = let f : false ≡ true = e in cc
same-handle h n (Nonrelocatable id content) e = let f : false ≡ true = e in cc
same-handle h n Masters e = let f : false ≡ true = e in cc
same-handle h n (Relocatable id flags content) e =
    let same : id ≡ h = grind (arith, nat_tests, e) in ap is_relocatable same

pub grown-named : (h n : ℕ) (zone : List Block) (s : Spot) → spot (is_relocatable h) zone ≡ Some s
    → is_same (grown n (spot (is_relocatable h) zone)) ≡ is_relocatable h
grown-named h n zone s found = ap (λ o. is_same (grown n o)) found
    ∙ same-handle h n s.here (spot-passes (is_relocatable h) zone s found)

pub same-pointer : (p n : ℕ) (b : Block) → is_nonrelocatable p b ≡ true → is_same (resized n b) ≡ is_nonrelocatable p
same-pointer p n (Free m) e = let f : false ≡ true = e in cc
same-pointer p n (Nonrelocatable id content) e =
    let same : id ≡ p = grind (arith, nat_tests, e) in ap is_nonrelocatable same
same-pointer p n Masters e = let f : false ≡ true = e in cc
same-pointer p n (Relocatable id flags content) e = let f : false ≡ true = e in cc

-- Where room was found the path leaves the zone that growth after as few purges as serve comes to.
module _ (new : Block) (sp : Block → Bool) (zone : List Block) (s : Spot) (here : spot (is_same new) zone ≡ Some s)
  where
    abbrev Leaves : Option (List Block) → Sought → Type 0
    Leaves o p = p.found ≡ true → o ≡ Some (did sp p.path zone).zone

    -- an unlocked block
    moves-leaves : Leaves (room (grow_mover (is_same new) new) sp zone) (seek (Grow new) sp zone)
    moves-leaves = cases (is_some (try (ready try sp zone))) refl
      where
        try : List Block → Option (List Block)
        try = grow_mover (is_same new) new

        some-is : (o : Option (List Block)) (z : List Block) → is_some o ≡ true → o ≡ Some (unwrap_or o z)
        some-is None z e = let f : false ≡ true = e in cc
        some-is (Some x) z e = refl

        cases : (t : Bool) → is_some (try (ready try sp zone)) ≡ t → Leaves (room try sp zone)
            (sought (fewest try sp zone) t (Purge (fewest try sp zone) ∷ Grow new ∷ []))
        cases false is e = let f : false ≡ true = e in cc
        cases true is e = room-is try sp zone ∙ some-is (try (ready try sp zone)) (ready try sp zone) is

    abbrev d : ℕ
    d = growth new s

    abbrev run : List Block
    run = (segments s.above).first

    abbrev k : ℕ
    k = purges_for (has_free d) sp run

    abbrev enough : List Block → Option (List Block)
    enough z = cond (has_free d z) (Some z) None

    fewest-is : fewest enough sp run ≡ k
    fewest-is = ap (λ (t : List Block → Bool). purges_for t sp run) (λ i z. same z (has_free d z) i)
      where
        same : (z : List Block) (t : Bool) → is_some (cond t (Some z) None) ≡ t
        same z true = refl
        same z false = refl

    -- a block that stays
    stays-leaves : Leaves (grow_nonrelocatable sp new s) (seek_in_place new sp s)
    stays-leaves = cases (grow_up new s) refl
      where
        taking : Option (List Block) → Option (List Block)
        taking o = option_map (λ above. s.below ++ new ∷ above) (option_map (λ z. joined (movers z
            ++ free (free_sum z - d)) (segments s.above).rest) o)

        pushed : (t : Bool) → has_free d (run_above k sp s) ≡ t
            → Leaves (taking (room enough sp run)) (sought k t (Push new k ∷ []))
        pushed false is e = let f : false ≡ true = e in cc
        pushed true is e =
            ap taking (room-is enough sp run ∙ ap (λ (j : ℕ). enough (purge j sp run)) fewest-is
            ∙ cond-true (has_free d (run_above k sp s)) _ _ is)
            ∙ ap Some (sym (ap (λ o. unwrap_or (option_map (moves.pushed k sp new) o) zone) here))

        cases : (o : Option (List Block)) → grow_up new s ≡ o → Leaves (option_or o (taking (room enough sp run)))
            (cond (is_some o) (sought 0 true (Extend new ∷ []))
            (sought k (has_free d (run_above k sp s)) (Push new k ∷ [])))
        cases None e found = pushed (has_free d (run_above k sp s)) refl found
        cases (Some z) e found = ap Some (sym (ap (λ o. unwrap_or (option_and_then (grow_up new) o) zone) here
            ∙ ap (λ o. unwrap_or o zone) e))

    resized-leaves : (test : Block → Bool) → is_same new ≡ test
        → Leaves (grow_at test sp new zone s) (seek_resized new sp zone s)
    resized-leaves test same = cases (nat_le (size new) (size s.here)) (is_mover s.here)
      where
        cases : (t u : Bool) → Leaves
            (cond t (Some (filled new s)) (cond u (room (grow_mover test new) sp zone) (grow_nonrelocatable sp new s)))
            (cond t (at_hand (Cut new ∷ [])) (cond u (seek (Grow new) sp zone) (seek_in_place new sp s)))
        cases true u found = ap Some (sym (ap (λ o. unwrap_or (option_map (filled new) o) zone) here))
        cases false true found =
            ap (λ (t : Block → Bool). room (grow_mover t new) sp zone) (sym same) ∙ moves-leaves found
        cases false false found = stays-leaves found

pub sized-grew : (test sp : Block → Bool) (n : ℕ) (zone : List Block) (s : Spot) → spot test zone ≡ Some s
    → is_same (resized n s.here) ≡ test → {m : ℕ} {zone' : List Block} {rest rest' : Rest}
    → Went sp zone (seek_sized test n sp zone) true m zone' rest rest' → grow test sp n zone ≡ Some zone'
sized-grew test sp n zone s found same w =
    ap (option_and_then (λ (t : Spot). grow_at test sp (resized n t.here) zone t)) found
    ∙ fits (is_some (phys n)) (sym (w.finds ∙ ap (λ (p : Sought). p.found) at))
    ∙ ap Some (sym (w.leaves ∙ ap (λ (p : Sought). (did sp p.path zone).zone) at))
  where
    new : Block
    new = resized n s.here

    at : seek_sized test n sp zone ≡ seek_size n sp zone s
    at = ap (at_spot (seek_size n sp zone)) found

    fits : (t : Bool) → (cond t (seek_resized new sp zone s) no_room).found ≡ true
        → grow_at test sp new zone s ≡ Some (did sp (cond t (seek_resized new sp zone s) no_room).path zone).zone
    fits true there = resized-leaves new sp zone s (ap (λ t. spot t zone) same ∙ found) test same there
    fits false there = let f : false ≡ true = there in cc
