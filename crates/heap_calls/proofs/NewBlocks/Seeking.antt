use Rattle.heap_calls.proofs.Cited.{◌≡◌, ℕ, ◌+◌, ◌++◌, Bool, true, false, List, refl, sym, ◌∙◌, ap, subst, cond, arith, length}
use Rattle.heap_calls.proofs.Cited.{cond-true, cond-false, map-append, is_some-map, Block, size, filled, place, rename, rename_block, Rest}
use Rattle.heap_calls.proofs.Cited.{counted, Put, Did, did, did-append, Sought, no_room, seek, seek_slot, then_seek, Anchor, Went}
use Rattle.heap_calls.proofs.Cited.{told_named, told_along, handle_number, pointer_number, is_some}
use Rattle.heap_calls.proofs.Cited.{spared, told_blocks, moved}
use Rattle.moves.specs.Moves as moves
use Rattle.heap_calls.proofs.GoneBlocks.{told-append}
use Rattle.heap_calls.proofs.Went.{gone-alike, seek-any}

-- One search after another: for a slot, and then for the place of a block.

module _ (sp : Block → Bool) (zone : List Block) (first : Sought) (next : List Block → Sought) {found : Bool} {n : ℕ}
    {zone1 : List Block} {rest rest1 : Rest} (w : Went sp zone first found n zone1 rest rest1)
  where
    abbrev both : Sought
    both = then_seek sp zone first next

    -- where the first found room
    module _ (is : found ≡ true)
      where
        both-is : both ≡ record { found = (next zone1).found; path = first.path ++ (next zone1).path }
        both-is = ap (λ z. cond first.found (record { found = (next z).found; path = first.path ++ (next z).path }) first)
            (sym w.leaves) ∙ cond-true first.found _ _ (sym w.finds ∙ is)

        did-both : did sp both.path zone ≡ moves.and_then (did sp first.path zone) (did sp (next zone1).path zone1)
        did-both = ap (λ (p : Sought). did sp p.path zone) both-is ∙ did-append sp first.path (next zone1).path zone
            ∙ ap (λ z. moves.and_then (did sp first.path zone) (did sp (next zone1).path z)) (sym w.leaves)

        pub went-then : {more : Bool} {m : ℕ} {zone' : List Block} {rest' : Rest}
            → Went sp zone1 (next zone1) more m zone' rest1 rest' → Went sp zone both more (n + m) zone' rest rest'
        went-then v =
            let looks = ap (λ (d : Did). d.searches) did-both in
            let a = w.looks in
            let b = v.looks in
            record {
              finds = v.finds ∙ sym (ap (λ (p : Sought). p.found) both-is);
              leaves = v.leaves ∙ sym (ap (λ (d : Did). d.zone) did-both);
              looks = omega arith;
              lowers = v.lowers ∙ ap (λ k. counted k (did sp (next zone1).path zone1).lowered) w.lowers
                  ∙ more rest.moves (did sp first.path zone).lowered (did sp (next zone1).path zone1).lowered
                  ∙ ap (counted rest.moves) (sym (ap (λ (d : Did). d.lowered) did-both));
            }
          where
            more : (n a b : ℕ) → counted (counted n a) b ≡ counted n (a + b)
            more n a b = omega arith

        pub told-then : (es : List Anchor)
            → told_along es sp first zone ++ told_along es sp (next zone1) zone1 ≡ told_along es sp both zone
        told-then es =
            let name = rename_block (handle_number es) (pointer_number es) in
            let a = (did sp first.path zone).gone in
            let b = (did sp (next zone1).path zone1).gone in
            sym (ap (λ (d : Did). told_named es d.gone) did-both
            ∙ ap (told_blocks (length es)) (map-append name a b)
            ∙ told-append (length es) (rename (handle_number es) (pointer_number es) a)
            (rename (handle_number es) (pointer_number es) b))

    -- and where it found none
    module _ (is : found ≡ false)
      where
        pub stops : both ≡ first
        stops = cond-false first.found _ _ (sym w.finds ∙ is)

        pub went-stop : Went sp zone both found n zone1 rest rest1
        went-stop = subst (λ (p : Sought). Went sp zone p found n zone1 rest rest1) (sym stops) w

-- a slot, and then a block, if it fits
abbrev pub seek_made : (Block → Bool) → Bool → Block → Bool → List Block → Sought
seek_made spared unused new fits zone = then_seek spared zone (seek_slot unused spared zone)
    (λ z. cond fits (seek (Put new) spared z) no_room)

-- blocks of one size take the same blocks, and one that finds no room has any name
module _ (p : Block → Bool) (a b : Block) (same : size a ≡ size b)
  where
    sees : (z : List Block) → is_some (moved p (Put b) z) ≡ is_some (moved p (Put a) z)
    sees z = is_some-map (filled b) (place (size b) z) ∙ ap (λ n. is_some (place n z)) (sym same)
        ∙ sym (is_some-map (filled a) (place (size a) z))

    pub fits-any : (fits : Bool) (z : List Block) → (cond fits (seek (Put a) p z) no_room).found ≡ false
        → cond fits (seek (Put a) p z) no_room ≡ cond fits (seek (Put b) p z) no_room
    fits-any true z none = seek-any p (Put a) (Put b) sees z none
    fits-any false z none = refl

    pub fits-alike : (fits : Bool) (z : List Block) → (did p (cond fits (seek (Put a) p z) no_room).path z).gone
        ≡ (did p (cond fits (seek (Put b) p z) no_room).path z).gone
    fits-alike true z = gone-alike p (Put a) (Put b) (λ z. refl) (λ z. refl) sees z
    fits-alike false z = refl

    pub made-alike : (unused fits : Bool) (zone : List Block) → (did p (seek_made p unused a fits zone).path zone).gone
        ≡ (did p (seek_made p unused b fits zone).path zone).gone
    made-alike unused fits zone = cases slot.found
      where
        slot : Sought
        slot = seek_slot unused p zone

        now : Did
        now = did p slot.path zone

        block : Block → Sought
        block c = cond fits (seek (Put c) p now.zone) no_room

        both : Sought → Sought
        both r = record { found = r.found; path = slot.path ++ r.path }

        cases : (t : Bool) → (did p (cond t (both (block a)) slot).path zone).gone
            ≡ (did p (cond t (both (block b)) slot).path zone).gone
        cases true = ap (λ (d : Did). d.gone) (did-append p slot.path (block a).path zone)
            ∙ ap (λ l. now.gone ++ l) (fits-alike fits now.zone)
            ∙ sym (ap (λ (d : Did). d.gone) (did-append p slot.path (block b).path zone))
        cases false = refl
