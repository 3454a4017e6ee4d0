use Rattle.heap_calls.proofs.Cited.{◌≡◌, ℕ, false, List, length, refl, sym, ◌∙◌, ap, subst, cond, Option, Some, None, is_some, IfSome}
use Rattle.heap_calls.proofs.Cited.{◌∷◌, replicate, IsTrue, cond-true, or_parts, list_any-append, map, phys, padded, Flags, Block}
use Rattle.heap_calls.proofs.Cited.{Relocatable, size, is_room, is_relocatable, has, Spot, spot_at, spot_at-is, filled, Rest, spared}
use Rattle.heap_calls.proofs.Cited.{opened}
use Rattle.heap_calls.proofs.Cited.{Sparing, OpensNone, Put, Sought, no_room, seek, Went, filled_at, HasRoomAt, MakesRoom, Room, some_and}
use Rattle.heap_calls.proofs.Cited.{fresh_block, replaced, replaced_at, seek_block, MakesBlock, IsFresh, Taken}
use Rattle.heap_calls.proofs.Cited.{inl, inr, true, IsSizeOf, IsReplaced, false≢true, length-replicate, no_flags, count}
use Rattle.heap_calls.proofs.Cited.{unwrap_or, Bool, ◌≤◌, cond-false, Anchor, told_along, MatchOption}
use Rattle.heap_calls.proofs.Filled.Replaced.{filled-replaced, filled-fresh, fresh-own, fresh-replaced}
use Rattle.heap_calls.proofs.Going.{went-nowhere}
use Rattle.heap_calls.proofs.NewBlocks.NewSlots.{room-at, went-filled}
use Rattle.heap_calls.proofs.NewBlocks.Seeking.{fits-any}
use Rattle.heap_calls.proofs.Numbering.Changing.{phys-some}
use Rattle.heap_calls.proofs.Room.Places.{went-there}
use Rattle.heap_calls.proofs.Sizes.Growth.{opened-whole}

-- A new block that is put into the room that was made for it, in the zone as its search sees it first.

module _ (sparing : Sparing) (n p : ℕ) (fits : phys n ≡ Some p) (seen zone1 : List Block) (rest rest1 : Rest)
    (room : Room) (went : MakesRoom p Put (spared sparing) seen room (cond (is_some room.place) zone1 seen) rest rest1)
  where
    sized : (x : List ℕ) → phys (length x) ≡ phys n → padded (length x) ≡ p
    sized x long = sym (phys-some (length x) p (long ∙ fits)).1

    searches-is : (new : Block) → seek (Put new) (spared sparing) seen ≡ seek_block sparing n new seen
    searches-is new = sym (cond-true {A = Sought} (is_some (phys n)) (seek (Put new) (spared sparing) seen) no_room
        (ap is_some fits))

    goes : (new : Block) → size new ≡ p → Went (spared sparing) seen (seek_block sparing n new seen) (is_some room.place)
        room.searches (filled_at new room.place (cond (is_some room.place) zone1 seen)) rest rest1
    goes new long = subst (λ (q : Sought). Went (spared sparing) seen q (is_some room.place) room.searches
        (filled_at new room.place (cond (is_some room.place) zone1 seen)) rest rest1) (searches-is new) (went new long)

    -- what the sink hears
    pub block-told : (es : List Anchor) (new : Block) → told_along es (spared sparing) (seek (Put new) (spared sparing) seen) seen
        ≡ told_along es (spared sparing) (seek_block sparing n new seen) seen
    block-told es new = ap (λ r. told_along es (spared sparing) r seen) (searches-is new)

    -- there was none
    pub makes-none : room.place ≡ None → MakesBlock (spared sparing) n (seek_block sparing n) seen
        (record { slot = None; searches = room.searches }) seen rest rest1
    makes-none is flags x long =
        let new = Relocatable 0 flags x in
        let P : Option ℕ → Type 0 = λ o. Went (spared sparing) seen (seek_block sparing n new seen) (is_some o)
        room.searches (filled_at new o (cond (is_some o) zone1 seen)) rest rest1 in
        let w : P None = subst P is (goes new (sized x long)) in w

    -- there was some
    module _ (slot place : ℕ) (is : room.place ≡ Some place) (wide : HasRoomAt p room.place zone1)
        (none : has (is_relocatable slot) zone1 ≡ false) (zone' : List Block)
        (done : IfSome (spot_at place zone1) (λ s. zone' ≡ filled (fresh_block slot n) s))
      where
        there : (s : Spot) × (spot_at place zone1 ≡ Some s) × IsTrue (is_room p s.here)
        there = some_and (spot_at place zone1) (λ s. IsTrue (is_room p s.here)) (room-at p room.place place zone1 is wide)

        now : zone' ≡ filled (fresh_block slot n) there.0
        now = let P : Option Spot → Type 0 = λ o. IfSome o (λ s. zone' ≡ filled (fresh_block slot n) s) in
            let h : P (Some there.0) = subst P there.1 done in h

        alone : (has (is_relocatable slot) there.0.below ≡ false) × (has (is_relocatable slot) there.0.above ≡ false)
        alone =
            let s = there.0 in
            let t = is_relocatable slot in
            let parts = or_parts (has t s.below) (has t (s.here ∷ s.above)) (sym (list_any-append t s.below (s.here ∷ s.above))
            ∙ ap (has t) (spot_at-is place zone1 s there.1) ∙ none) in
            (parts.0, (or_parts (t s.here) (has t s.above) parts.1).1)

        pub makes-fresh : IsFresh slot n zone'
        makes-fresh = subst (IsFresh slot n) (sym now) (filled-fresh slot n there.0 alone.0)

        pub makes-some : (rest' : Rest) → rest'.moves ≡ rest1.moves → MakesBlock (spared sparing) n (seek_block sparing n)
            seen (record { slot = Some slot; searches = room.searches }) zone' rest rest'
        makes-some rest' still flags x long =
            let new = Relocatable slot flags x in
            let same : map (replaced slot flags x) zone' ≡ filled new there.0 = ap (map (replaced slot flags x)) now
            ∙ filled-replaced slot flags x (replicate n 0) there.0 (sized x long ∙ sym (sized (replicate n 0)
            (ap phys (length-replicate n 0)))) alone.0 alone.1 in
            let P : Option Spot → Type 0 = λ o. IfSome o (λ s. map (replaced slot flags x) zone' ≡ filled new s) in
            let w = went-filled new room.place zone1
            (went-there new room.place place is zone1 seen (goes new (sized x long))) p place is wide
            (map (replaced slot flags x) zone') (subst P (sym there.1) same) rest' still in
            subst (λ (o : Option ℕ). Went (spared sparing) seen (seek_block sparing n new seen) (is_some o) room.searches
            (map (replaced slot flags x) zone') rest rest') is w

-- no block can have the size
pub makes-large : (sparing : Sparing) (n : ℕ) (seen : List Block) (rest : Rest) → phys n ≡ None
    → MakesBlock (spared sparing) n (seek_block sparing n) seen (record { slot = None; searches = 0 }) seen rest rest
makes-large sparing n seen rest large flags x long =
    subst (λ (p : Sought). Went (spared sparing) seen p false 0 seen rest rest) (sym (cond-false {A = Sought}
    (is_some (phys n)) (seek (Put (Relocatable 0 flags x)) (spared sparing) seen) no_room (ap is_some large)))
    (went-nowhere (spared sparing) seen rest)

-- a search that sees the zone as it is
pub makes-whole : (sparing : Sparing) → OpensNone sparing → (n slot : ℕ) (zone zone1 zone' : List Block)
    (rest rest1 rest' : Rest) (made : Taken) → MakesBlock (spared sparing) n (seek_block sparing n) (opened sparing zone) made
    (cond (is_some made.slot) zone1 (opened sparing zone)) rest rest1
    → MatchOption made.slot (zone1 ≡ zone) (λ k. k ≡ slot) → zone' ≡ zone1 → rest'.moves ≡ rest1.moves
    → MakesBlock (spared sparing) n (seek_block sparing n) zone made zone' rest rest'
makes-whole sparing whole n slot zone zone1 zone' rest rest1 rest' made makes here same still flags x long =
    let P : List Block → Type 0 = λ z. MakesBlock (spared sparing) n (seek_block sparing n) z made
    (cond (is_some made.slot) zone1 z) rest rest1 in
    let w = subst P (opened-whole sparing whole zone) makes flags x long in
    record {
      finds = w.finds;
      leaves = ap (replaced_at made.slot flags x) same ∙ cases made.slot here ∙ w.leaves;
      looks = w.looks;
      lowers = still ∙ w.lowers;
    }
  where
    cases : (o : Option ℕ) → MatchOption o (zone1 ≡ zone) (λ k. k ≡ slot)
        → replaced_at o flags x zone1 ≡ replaced_at o flags x (cond (is_some o) zone1 zone)
    cases None e = e
    cases (Some k) e = refl

-- the block of the slot for which it is made
pub makes-slot : (sparing : Sparing) (n slot : ℕ) (flags : Flags) (x : List ℕ) (zone : List Block) {m : ℕ} {zone' : List Block}
    {rest rest' : Rest} (P : Type 0) (o : Option ℕ) → MatchOption o P (λ k. k ≡ slot) → Went (spared sparing) zone
    (seek_block sparing n (Relocatable (unwrap_or o 0) flags x) zone) (is_some o) m zone' rest rest'
    → Went (spared sparing) zone (seek_block sparing n (Relocatable slot flags x) zone) (is_some o) m zone' rest rest'
makes-slot sparing n slot flags x zone {m = m} {zone' = zone'} {rest = rest} {rest' = rest'} P (Some k) is w =
    subst (λ (j : ℕ). Went (spared sparing) zone (seek_block sparing n (Relocatable j flags x) zone) true m zone' rest rest')
    is w
makes-slot sparing n slot flags x zone {m = m} {zone' = zone'} {rest = rest} {rest' = rest'} P None is w =
    subst (λ (p : Sought). Went (spared sparing) zone p false m zone' rest rest') (fits-any (spared sparing)
    (Relocatable 0 flags x) (Relocatable slot flags x) refl (is_some (phys n)) zone (sym w.finds)) w

-- with other flags and bytes written into the block that was made, and with its own
module _ (sp : Block → Bool) (n : ℕ) (search : Block → List Block → Sought) (zone : List Block) (made : Taken)
    (zone1 : List Block) (rest rest1 : Rest) (makes : MakesBlock sp n search zone made zone1 rest rest1)
  where
    pub makes-with : (flags : Flags) (x : List ℕ) → phys (length x) ≡ phys n → (zone' : List Block) (rest' : Rest)
        → zone' ≡ replaced_at made.slot flags x zone1 → rest'.moves ≡ rest1.moves → Went sp zone
        (search (Relocatable (unwrap_or made.slot 0) flags x) zone) (is_some made.slot) made.searches zone' rest rest'
    makes-with flags x long zone' rest' same still =
        let w = makes flags x long in
        record { finds = w.finds; leaves = same ∙ w.leaves; looks = w.looks; lowers = still ∙ w.lowers }

    pub makes-own : IfSome made.slot (λ k. IsFresh k n zone1) → ((k : ℕ) → count (is_relocatable k) zone1 ≤ 1) → Went sp
        zone (search (fresh_block (unwrap_or made.slot 0) n) zone) (is_some made.slot) made.searches zone1 rest rest1
    makes-own fresh once = makes-with no_flags (replicate n 0) (ap phys (length-replicate n 0)) zone1 rest1
        (own made.slot fresh) refl
      where
        own : (o : Option ℕ) → IfSome o (λ k. IsFresh k n zone1) → zone1 ≡ replaced_at o no_flags (replicate n 0) zone1
        own None h = refl
        own (Some k) h = sym (fresh-own k n zone1 h (once k))

-- A block that was made of n bytes, which are as many as some bytes, or no block can have either number.
module _ (n : ℕ) (x : List ℕ) (same : IsSizeOf (length x) n)
  where
    alike : phys (length x) ≡ phys n
    alike = elim same [
      | inl e ↦ ap phys (sym e)
      | inr both ↦ both.1 ∙ sym both.0
    ]

    pub fresh-sized : (zone1 : List Block) (o : Option ℕ) (k : ℕ) → o ≡ Some k → IfSome o (λ k. IsFresh k n zone1)
        → IfSome o (λ k. is_some (phys n) ≡ true) → IsFresh k (length x) zone1
    fresh-sized zone1 o k is fresh fits = elim same [
      | inl e ↦ subst (λ (j : ℕ). IsFresh k j zone1) e (at (λ k. IsFresh k n zone1) fresh)
      | inr both ↦ absurd (false≢true (sym (ap is_some both.0) ∙ at (λ k. is_some (phys n) ≡ true) fits))
    ]
      where
        at : (P : ℕ → Type 0) → IfSome o P → P k
        at P h = let Q : Option ℕ → Type 0 = λ o. IfSome o P in
            let now : Q (Some k) = subst Q is h in now

    -- by a search that is the same for each block that no block can have the size of
    module _ (sp : Block → Bool) (search : Bool → Block → List Block → Sought) (zone : List Block)
        (large : (a b : Block) → search false a zone ≡ search false b zone)
      where
        abbrev by_size : ℕ → Block → List Block → Sought
        by_size k = search (is_some (phys k))

        pub told-sized : (es : List Anchor) → told_along es sp (by_size n (fresh_block 0 n) zone) zone
            ≡ told_along es sp (by_size (length x) (fresh_block 0 (length x)) zone) zone
        told-sized es = elim same [
          | inl e ↦ ap (λ (k : ℕ). told_along es sp (by_size k (fresh_block 0 k) zone) zone) e
          | inr both ↦ ap (λ (r : Sought). told_along es sp r zone)
              (ap (λ (o : Option ℕ). search (is_some o) (fresh_block 0 n) zone) both.0
              ∙ large (fresh_block 0 n) (fresh_block 0 (length x))
              ∙ sym (ap (λ (o : Option ℕ). search (is_some o) (fresh_block 0 (length x)) zone) both.1))
        ]

        module _ (zone1 : List Block) (flags : Flags) (rest rest1 : Rest) (made : Taken)
            (makes : MakesBlock sp n (by_size n) zone made zone1 rest rest1)
          where
            abbrev Fills : List Block → Rest → Type 0
            Fills zone' rest' = Went sp zone (by_size (length x) (Relocatable (unwrap_or made.slot 0) flags x) zone)
                (is_some made.slot) made.searches zone' rest rest'

            filled-with : (zone' : List Block) (rest' : Rest) → zone' ≡ replaced_at made.slot flags x zone1
                → rest'.moves ≡ rest1.moves → Fills zone' rest'
            filled-with zone' rest' now still =
                let new = Relocatable (unwrap_or made.slot 0) flags x in
                subst (λ (o : Option ℕ). Went sp zone (search (is_some o) new zone) (is_some made.slot) made.searches zone' rest
                rest') (sym alike) (makes-with sp n (by_size n) zone made zone1 rest rest1 makes flags x alike zone' rest' now
                still)

            -- there is none
            pub not-filled : made.slot ≡ None → Fills zone1 rest1
            not-filled is = filled-with zone1 rest1 (sym (ap (λ o. replaced_at o flags x zone1) is)) refl

            -- the bytes are written into it
            pub is-filled : (k : ℕ) → made.slot ≡ Some k → IsFresh k (length x) zone1 → count (is_relocatable k) zone1 ≤ 1
                → (zone' : List Block) (rest' : Rest) → IsReplaced k flags x zone1 zone' → rest'.moves ≡ rest1.moves
                → Fills zone' rest'
            is-filled k is fresh once zone' rest' done still = filled-with zone' rest'
                (subst (λ (o : Option ℕ). zone' ≡ replaced_at o flags x zone1) (sym is)
                (fresh-replaced k (length x) zone1 fresh once flags x zone' done)) still
