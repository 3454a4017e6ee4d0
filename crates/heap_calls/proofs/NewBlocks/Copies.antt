use Rattle.heap_calls.proofs.Cited.{◌≡◌, ℕ, ◌+◌, ◌≤◌, Bool, true, false, ◌==◌, List, ◌∷◌, ◌++◌, length, take, drop, refl, sym, ◌∙◌, ap}
use Rattle.heap_calls.proofs.Cited.{subst, cond, arith, Option, Some, None, is_some, unwrap_or, filter, option_map, IfSome, IsSomeAnd}
use Rattle.heap_calls.proofs.Cited.{IsTrue, none-some, same_Some, false_from_ne_true, Decides-eqb, length-replicate, take-length}
use Rattle.heap_calls.proofs.Cited.{drop-length, phys, Block, Masters, Relocatable, count, is_relocatable, no_flags, content_of}
use Rattle.heap_calls.proofs.Cited.{with_content, written, Spot, spot, spot_at, room, put_in_place, FindsLowest, Unused, is_used, Rest}
use Rattle.heap_calls.proofs.Cited.{IsRest, some_and, fresh_block, filter-room_base, filter-room_place, here-same, IsFresh, HasSlot}
use Rattle.heap_calls.proofs.Cited.{MakesBlock, Taken, seek_new, some_left, bytes_of, replaced_at, Went, put_at_base, Put, Base, Did, did}
use Rattle.heap_calls.proofs.Cited.{did-append, Sought, no_room, seek, if_fits, seek_slot}
use Rattle.std.proofs.lemmas.List.{append-nil}
use Rattle.block_store.specs.declared.sparing.Sparing.TheVariants as sparing
use Rattle.heap_calls.proofs.Filled.Replaced.{fresh-replaced}
use Rattle.heap_calls.proofs.NewBlocks.Placing.{makes-with, makes-own}
use Rattle.heap_calls.proofs.Same.Agreeing.{seek-leaves}

-- A copy of a block: a new block of as many bytes 0, into which the bytes are written.

-- all bytes of one block written over all of another
written-over : (n : ℕ) (x y : List ℕ) → length x ≡ n → length y ≡ n → written 0 (take n x) y ≡ x
written-over n x y long long' =
    ap (λ l. written 0 l y) (ap (λ k. take k x) (sym long) ∙ take-length x)
    ∙ ap (λ l. x ++ l) (ap (λ k. drop k y) (let z : 0 + length x ≡ length y = omega (arith, long, long') in z)
    ∙ drop-length y)
    ∙ append-nil x

-- no block could be made
pub copy-none : (source n : ℕ) (zone zone1 : List Block) (rest rest1 : Rest) (made : Taken) → made.slot ≡ None
    → MakesBlock (is_relocatable source) n (seek_new (sparing.One source) rest.unused n) zone made zone1 rest rest1
    → IsSomeAnd (spot (is_relocatable source) zone) (λ s. length (content_of s.here) ≡ n) → Went (is_relocatable source) zone
    (seek_new (sparing.One source) rest.unused n (Relocatable (unwrap_or made.slot 0) no_flags
    (bytes_of (spot (is_relocatable source) zone))) zone) (is_some made.slot) made.searches zone1 rest rest1
copy-none source n zone zone1 rest rest1 made is makes sized =
    let block = some_and (spot (is_relocatable source) zone) (λ s. length (content_of s.here) ≡ n) sized in
    let x = bytes_of (spot (is_relocatable source) zone) in
    makes-with (is_relocatable source) n (seek_new (sparing.One source) rest.unused n) zone made zone1 rest rest1 makes
    no_flags x (ap (λ o. phys (length (bytes_of o))) block.1 ∙ ap phys block.2) zone1 rest1
    (sym (ap (λ o. replaced_at o no_flags x zone1) is)) refl

-- a new block beside the one that is copied
module _ (source n slot : ℕ) (zone zone1 : List Block) (rest rest1 : Rest) (made : Taken) (is : made.slot ≡ Some slot)
    (makes : MakesBlock (is_relocatable source) n (seek_new (sparing.One source) rest.unused n) zone made zone1 rest rest1)
    (fresh : IfSome made.slot (λ k. IsFresh k n zone1)) (had : HasSlot made.slot rest rest1)
    (used : IsTrue (is_used (rest.slots source))) (once : (k : ℕ) → count (is_relocatable k) zone1 ≤ 1)
    (sized : IsSomeAnd (spot (is_relocatable source) zone) (λ s. length (content_of s.here) ≡ n))
  where
    abbrev mine : Block → Bool
    mine = is_relocatable source

    abbrev new : Block
    new = fresh_block slot n

    other : (slot == source) ≡ false
    other =
        let t = subst (λ (o : Option ℕ). HasSlot o rest rest1) is had in
        let clash : t.more.slots source ≡ Unused → ⊥ = λ unused. let f : true ≡ false = sym used ∙ ap is_used
        (sym (t.has_more.slots source used) ∙ unused) in cc in
        false_from_ne_true (slot == source) (λ e. clash (ap t.more.slots (sym ((Decides-eqb slot source).0 e)) ∙ t.was))

    -- the one that is copied is what it was
    kept : filter mine zone1 ≡ filter mine zone
    kept =
        let w = subst (λ (o : Option ℕ). Went mine zone (seek_new (sparing.One source) rest.unused n
        (fresh_block (unwrap_or o 0) n) zone) (is_some o) made.searches zone1 rest rest1) is
        (makes-own mine n (seek_new (sparing.One source) rest.unused n) zone made zone1 rest rest1 makes fresh once) in
        ap (filter mine) w.leaves ∙ both first.found ∙ slotted (some_left rest.unused)
      where
        first : Sought
        first = seek_slot (some_left rest.unused) mine zone

        ready : List Block
        ready = (did mine first.path zone).zone

        more : Sought
        more = if_fits n (seek (Put new) mine ready)

        by_room : (o : Option (List Block)) (z : List Block)
            → ((after : List Block) → o ≡ Some after → filter mine after ≡ filter mine z)
            → filter mine (unwrap_or o z) ≡ filter mine z
        by_room None z each = refl
        by_room (Some after) z each = each after refl

        slotted : (u : Bool) → filter mine (did mine (seek_slot u mine zone).path zone).zone ≡ filter mine zone
        slotted true = refl
        slotted false = ap (filter mine) (seek-leaves mine (Base Masters) zone)
            ∙ by_room (room (put_at_base Masters) mine zone) zone
            (filter-room_base mine mine (λ n. refl) (λ b is. is) Masters refl zone)

        placed : (t : Bool) → filter mine (did mine (cond t (seek (Put new) mine ready) no_room).path ready).zone
            ≡ filter mine ready
        placed true = ap (filter mine) (seek-leaves mine (Put new) ready)
            ∙ by_room (room (put_in_place new) mine ready) ready
            (filter-room_place mine mine (λ n. refl) (λ b is. is) new other ready)
        placed false = refl

        both : (t : Bool) → filter mine (did mine (cond t (record { found = more.found; path = first.path ++ more.path }) first).path
            zone).zone ≡ filter mine ready
        both true = ap (λ (d : Did). filter mine d.zone) (did-append mine first.path more.path zone)
            ∙ placed (is_some (phys n))
        both false = refl

    block : (s : Spot) × (spot mine zone ≡ Some s) × (length (content_of s.here) ≡ n)
    block = some_and (spot mine zone) (λ s. length (content_of s.here) ≡ n) sized

    source-here : option_map (λ (s : Spot). s.here) (spot mine zone1) ≡ Some block.0.here
    source-here = here-same mine zone zone1 kept ∙ ap (option_map (λ (s : Spot). s.here)) block.1

    source-is : (t : Spot) → spot mine zone1 ≡ Some t → t.here ≡ block.0.here
    source-is t e = same_Some _ _ (sym (ap (option_map (λ (s : Spot). s.here)) e) ∙ source-here)

    source-long : (t : Spot) → spot mine zone1 ≡ Some t → length (content_of t.here) ≡ n
    source-long t e = ap (λ b. length (content_of b)) (source-is t e) ∙ block.2

    new-made : IsFresh slot n zone1
    new-made = subst (λ (o : Option ℕ). IfSome o (λ k. IsFresh k n zone1)) is fresh

    new-is : (t : Spot) → spot (is_relocatable slot) zone1 ≡ Some t → t.here ≡ new
    new-is t e = let P : Option Spot → Type 0 = λ o. IsSomeAnd o (λ s. s.here ≡ new) in
        let h : P (Some t) = subst P e new-made in h

    new-long : (t : Spot) → spot (is_relocatable slot) zone1 ≡ Some t → length (content_of t.here) ≡ n
    new-long t e = ap (λ b. length (content_of b)) (new-is t e) ∙ length-replicate n 0

    pub source-there : spot mine zone1 ≡ None → ⊥
    source-there none = none-some _ (sym (ap (option_map (λ (s : Spot). s.here)) none) ∙ source-here)

    pub new-there : spot (is_relocatable slot) zone1 ≡ None → ⊥
    new-there none = let P : Option Spot → Type 0 = λ o. IsSomeAnd o (λ s. s.here ≡ new) in
        let h : P None = subst P none new-made in h

    pub may-read : (from : ℕ) → FindsLowest mine zone1 (Some from)
        → IsSomeAnd (spot_at from zone1) (λ s. n ≤ length (content_of s.here))
    may-read from found =
        let P : Option Spot → Type 0 = λ o. IsSomeAnd o (λ s. n ≤ length (content_of s.here)) in
        subst P (sym found.2) (let e = source-long found.0 found.1 in omega (arith, e))

    pub may-write : (to : ℕ) → FindsLowest (is_relocatable slot) zone1 (Some to)
        → IsSomeAnd (spot_at to zone1) (λ s. 0 + n ≤ length (content_of s.here))
    may-write to found =
        let P : Option Spot → Type 0 = λ o. IsSomeAnd o (λ s. 0 + n ≤ length (content_of s.here)) in
        subst P (sym found.2) (let e = new-long found.0 found.1 in omega (arith, e))

    -- once the bytes are written
    module _ (zone' : List Block) (rest' : Rest) (now : IsRest rest1 rest')
      where
        pub copy-went : (from to : ℕ) → FindsLowest mine zone1 (Some from)
            → FindsLowest (is_relocatable slot) zone1 (Some to) → IfSome (spot_at from zone1)
            (λ t. IfSome (spot_at to zone1) (λ s. zone' ≡ s.below
            ++ with_content (written 0 (take n (content_of t.here)) (content_of s.here)) s.here ∷ s.above))
            → Went mine zone (seek_new (sparing.One source) rest.unused n (Relocatable (unwrap_or made.slot 0) no_flags
            (bytes_of (spot mine zone))) zone) (is_some made.slot) made.searches zone' rest rest'
        copy-went from to a b h =
            let x = content_of block.0.here in
            let bytes = ap bytes_of block.1 in
            let P : Option Spot → Type 0 = λ o. IfSome o (λ s. zone' ≡ s.below ++ Relocatable slot no_flags x ∷ s.above) in
            let done = fresh-replaced slot n zone1 new-made (once slot) no_flags x zone' (subst P (sym b.1) over) in
            makes-with mine n (seek_new (sparing.One source) rest.unused n) zone made zone1 rest rest1 makes no_flags
            (bytes_of (spot mine zone)) (ap (λ y. phys (length y)) bytes ∙ ap phys block.2) zone' rest'
            (done ∙ sym (ap (λ y. replaced_at made.slot no_flags y zone1) bytes
            ∙ ap (λ o. replaced_at o no_flags x zone1) is)) now.moves
          where
            P : Option Spot → Type 0
            P o = IfSome o (λ t. IfSome (spot_at to zone1) (λ s. zone' ≡ s.below
                ++ with_content (written 0 (take n (content_of t.here)) (content_of s.here)) s.here ∷ s.above))

            Q : Option Spot → Type 0
            Q o = IfSome o (λ s. zone' ≡ s.below ++ with_content (written 0 (take n (content_of a.0.here))
                (content_of s.here)) s.here ∷ s.above)

            over : zone' ≡ b.0.below ++ Relocatable slot no_flags (content_of block.0.here) ∷ b.0.above
            over =
                let first : P (Some a.0) = subst P a.2 h in
                let second : Q (Some b.0) = subst Q b.2 first in
                second
                ∙ ap (λ l. b.0.below ++ with_content l b.0.here ∷ b.0.above)
                (written-over n (content_of a.0.here) (content_of b.0.here) (source-long a.0 a.1) (new-long b.0 b.1)
                ∙ ap content_of (source-is a.0 a.1))
                ∙ ap (λ c. b.0.below ++ with_content (content_of block.0.here) c ∷ b.0.above) (new-is b.0 b.1)
