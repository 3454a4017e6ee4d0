use Rattle.heap_calls.proofs.Cited.{arith, ◌≡◌, ℕ, ◌≤◌, ◌<◌, Bool, true, false, List, [], ◌∷◌, refl, sym, ◌∙◌, ap, subst, Option, Some}
use Rattle.heap_calls.proofs.Cited.{option_map, is_some, IfSome, IsSomeAnd, phys, Block, Free, Nonrelocatable, Masters, Relocatable, size}
use Rattle.heap_calls.proofs.Cited.{is_relocatable, is_nonrelocatable, is_mover, resized, in_run, has, Spot, spot, spot_at, filled, seen}
use Rattle.heap_calls.proofs.Cited.{FindsLowest, Seen, spot-passes, size-resized, seen_mover, Rest, KeepsNonrelocatable, Cut, Grow, grown}
use Rattle.heap_calls.proofs.Cited.{is_same, Sought, at_hand, seek, seek_in_place, Anchor, Went, at_spot, seek_sized, seek_growth}
use Rattle.heap_calls.proofs.Cited.{seek_still, told_along}
use Rattle.heap_calls.proofs.Going.{went-cut, sized-cut, sized-moves, sized-stays}
use Rattle.heap_calls.proofs.Numbering.Answering.{at_place}
use Rattle.heap_calls.proofs.Numbering.Changing.{phys-some, nonrelocatable-at}
use Rattle.heap_calls.proofs.Numbering.Hoisting.{seen_mover-is}
use Rattle.heap_calls.proofs.Room.Staying.{nonrelocatable-filled, alike-resized}
use Rattle.heap_calls.proofs.Same.Growing.{same-handle, same-pointer, same-resized}
use Rattle.heap_calls.proofs.Sizes.GrowingInPlace.{spot_and}
use Rattle.heap_calls.proofs.Sizes.PointerSizes.{nonrelocatable-size}

-- The size of the block of a handle or a pointer.

-- what is known of a block that takes so many bytes, and is to take others
pub record IsSized (test : Block → Bool) (place n bytes taken : ℕ) (zone : List Block) : Type 0 where
  pub s : Spot
  pub found : spot test zone ≡ Some s
  pub at : spot_at place zone ≡ Some s
  pub fits : is_some (phys n) ≡ true
  pub named : is_same (resized n s.here) ≡ test
  pub new_is : bytes ≡ size (resized n s.here)
  pub was : taken ≡ size s.here

pub handle-sized : (slot place n bytes taken : ℕ) (zone : List Block) → FindsLowest (is_relocatable slot) zone (Some place)
    → phys n ≡ Some bytes → IfSome (spot (is_relocatable slot) zone) (λ s. taken ≡ size s.here)
    → IsSized (is_relocatable slot) place n bytes taken zone
handle-sized slot place n bytes taken zone found fits takes =
    let passes = spot-passes (is_relocatable slot) zone found.0 found.1 in
    let P : Option Spot → Type 0 = λ o. IfSome o (λ s. taken ≡ size s.here) in
    record {
      s = found.0;
      found = found.1;
      at = found.2;
      fits = (phys-some n bytes fits).0;
      named = same-handle slot n found.0.here passes;
      new_is = (phys-some n bytes fits).1 ∙ sym (size-resized slot n found.0.here passes);
      was = subst P found.1 takes;
    }

pub pointer-sized : (place n bytes taken : ℕ) (zone : List Block) → FindsLowest (is_nonrelocatable place) zone (Some place)
    → phys n ≡ Some bytes → IfSome (spot_at place zone) (λ s. taken ≡ size s.here)
    → IsSized (is_nonrelocatable place) place n bytes taken zone
pointer-sized place n bytes taken zone found fits takes =
    let passes = spot-passes (is_nonrelocatable place) zone found.0 found.1 in
    record {
      s = found.0;
      found = found.1;
      at = found.2;
      fits = (phys-some n bytes fits).0;
      named = same-pointer place n found.0.here passes;
      new_is = (phys-some n bytes fits).1 ∙ sym (nonrelocatable-size place n found.0.here passes);
      was = at_place place zone found.0 (λ s. taken ≡ size s.here) found.2 takes;
    }

module _ {test : Block → Bool} {place n bytes taken : ℕ} {zone : List Block} (k : IsSized test place n bytes taken zone)
  where
    abbrev new : Block
    new = resized n k.s.here

    pub lowest : IsSomeAnd (spot_at place zone) (λ s. spot (is_same s.here) zone ≡ Some s)
    lowest = spot_and (spot_at place zone) k.s (λ s. spot (is_same s.here) zone ≡ Some s) k.at
        (ap (λ u. spot u zone) (sym (same-resized n k.s.here) ∙ k.named) ∙ k.found)

    -- whether it may move
    pub movable : (o : Option Seen) (t : Bool) → o ≡ option_map (λ (s : Spot). seen s.here) (spot_at place zone)
        → t ≡ seen_mover o → is_mover k.s.here ≡ t
    movable o t is told = sym (seen_mover-is k.s.here)
        ∙ sym (told ∙ ap seen_mover (is ∙ ap (option_map (λ (s : Spot). seen s.here)) k.at))

    -- it is cut
    abbrev IsCut : List Block → Type 0
    IsCut zone' = IfSome (spot_at place zone) (λ s. size (resized n s.here) ≤ size s.here → zone' ≡ filled (resized n s.here) s)

    module _ (less : bytes ≤ taken) (sp : Block → Bool)
      where
        smaller : size new ≤ size k.s.here
        smaller = omega (arith, k.new_is, k.was, less)

        cut-is : seek_sized test n sp zone ≡ at_hand (Cut new ∷ [])
        cut-is = sized-cut test n sp zone k.s k.found k.fits smaller

        cut-zone : (zone' : List Block) → IsCut zone' → zone' ≡ filled new k.s
        cut-zone zone' cut = at_place place zone k.s (λ s. size (resized n s.here) ≤ size s.here
            → zone' ≡ filled (resized n s.here) s) k.at cut smaller

        pub cut-went : (zone' : List Block) (rest rest' : Rest) → IsCut zone' → rest'.moves ≡ rest.moves
            → Went sp zone (seek_sized test n sp zone) true 0 zone' rest rest'
        cut-went zone' rest rest' cut kept =
            subst (λ (p : Sought). Went sp zone p true 0 zone' rest rest') (sym cut-is) (went-cut new sp zone k.s
            (ap (λ u. spot u zone) k.named ∙ k.found) rest rest' kept zone' (cut-zone zone' cut))

        pub cut-told : (es : List Anchor) → told_along es sp (seek_sized test n sp zone) zone ≡ []
        cut-told es = ap (λ (p : Sought). told_along es sp p zone) cut-is

        pub cut-nonrelocatable : (zone' : List Block) → IsCut zone' → KeepsNonrelocatable zone zone'
        cut-nonrelocatable zone' cut p = ap (has (is_nonrelocatable p)) (cut-zone zone' cut)
            ∙ nonrelocatable-at place zone (filled new k.s) k.s k.at
            (nonrelocatable-filled new k.s (alike-resized n k.s.here)) p

    -- or grows
    module _ (more : taken < bytes)
      where
        larger : size k.s.here < size new
        larger = omega (arith, k.new_is, k.was, more)

        pub grows : IsSomeAnd (spot_at place zone) (λ s. size s.here < size (resized n s.here))
        grows = spot_and (spot_at place zone) k.s (λ s. size s.here < size (resized n s.here)) k.at larger

        pub still : is_mover k.s.here ≡ false → IsSomeAnd (spot_at place zone) (λ s. in_run s.here ≡ false)
        still stays = spot_and (spot_at place zone) k.s (λ s. in_run s.here ≡ false) k.at
            (alone k.s.here larger ∙ stays)
          where
            alone : (b : Block) → size b < size (resized n b) → in_run b ≡ is_mover b
            alone (Free m) more = absurd (let z : m < m = more in omega arith)
            alone (Nonrelocatable id content) more = refl
            alone Masters more = refl
            alone (Relocatable id flags content) more = refl

        pub stays-is : is_mover k.s.here ≡ false → (sp : Block → Bool)
            → seek_sized test n sp zone ≡ seek_still place n sp zone
        stays-is stays sp = sized-stays test n sp zone k.s k.found k.fits larger stays
            ∙ sym (ap (at_spot (λ s. seek_in_place (resized n s.here) sp s)) k.at)

        pub moves-is : is_mover k.s.here ≡ true → (sp : Block → Bool)
            → seek_sized test n sp zone ≡ seek_growth test n sp zone
        moves-is moves sp = sized-moves test n sp zone k.s k.found k.fits larger moves
            ∙ ap (λ o. seek (Grow (grown n o)) sp zone) (sym k.found)
