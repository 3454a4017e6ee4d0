use Rattle.heap_calls.proofs.Cited.{◌≡◌, ℕ, ◌+◌, ◌-◌, ◌≤◌, zero, suc, Bool, true, false, ◌==◌, List, [], ◌∷◌, ◌++◌, length, replicate, refl}
use Rattle.heap_calls.proofs.Cited.{sym, ◌∙◌, ap, cond, subst, map, arith, Option, Some, None, nat_le, drop, filter, option_map, IfSome}
use Rattle.heap_calls.proofs.Cited.{IsSome, IsSomeAnd, none-some, same_Some, or_parts, map-append, length-replicate, drop-length}
use Rattle.heap_calls.proofs.Cited.{filter-append, padded, written, Flags, Block, Free, Nonrelocatable, Masters, Relocatable, size}
use Rattle.heap_calls.proofs.Cited.{count, add, tidy, is_relocatable, is_nonrelocatable, no_flags, content_of, with_content, with_flags}
use Rattle.heap_calls.proofs.Cited.{has, Spot, spot, spot_at, raised, filled, FindsLowest}
use Rattle.heap_calls.proofs.Cited.{spot-is, spot-passes, filter-none, once-below, some_and, filter-tidy, spot-lowest, lowest}
use Rattle.heap_calls.proofs.Cited.{fresh_block, IsFresh, IsReplaced, replaced, KeepsNonrelocatable}
use Rattle.std.proofs.lemmas.List.{append-nil}
use Rattle.heap_calls.proofs.Numbering.Numbers.{leads_to-same}
use Rattle.heap_calls.proofs.Numbering.Changing.{nonrelocatable-at}
use Rattle.heap_calls.proofs.Room.Staying.{nonrelocatable-spot, nonrelocatable-same, nonrelocatable-then}

-- A new block that gets flags and bytes of its own is as one that was put in its place with them.

add-replaced : (slot : ℕ) (flags : Flags) (x : List ℕ) (b : Block) (bs : List Block)
    → add (replaced slot flags x b) (map (replaced slot flags x) bs) ≡ map (replaced slot flags x) (add b bs)
add-replaced slot flags x (Free zero) bs = refl
add-replaced slot flags x (Free (suc n)) [] = refl
add-replaced slot flags x (Free (suc n)) (Free m ∷ bs) = refl
add-replaced slot flags x (Free (suc n)) (Nonrelocatable id content ∷ bs) = refl
add-replaced slot flags x (Free (suc n)) (Masters ∷ bs) = refl
add-replaced slot flags x (Free (suc n)) (Relocatable id old content ∷ bs) = cases (id == slot)
  where
    cases : (t : Bool) → add (Free (suc n)) (cond t (Relocatable slot flags x) (Relocatable id old content)
        ∷ map (replaced slot flags x) bs) ≡ Free (suc n) ∷ cond t (Relocatable slot flags x)
        (Relocatable id old content)
        ∷ map (replaced slot flags x) bs
    cases true = refl
    cases false = refl
add-replaced slot flags x (Nonrelocatable id content) bs = refl
add-replaced slot flags x Masters bs = refl
add-replaced slot flags x (Relocatable id old content) bs = cases (id == slot)
  where
    cases : (t : Bool) → add (cond t (Relocatable slot flags x) (Relocatable id old content))
        (map (replaced slot flags x) bs)
        ≡ cond t (Relocatable slot flags x) (Relocatable id old content) ∷ map (replaced slot flags x) bs
    cases true = refl
    cases false = refl

tidy-replaced : (slot : ℕ) (flags : Flags) (x : List ℕ) (bs : List Block) → tidy (map (replaced slot flags x) bs)
    ≡ map (replaced slot flags x) (tidy bs)
tidy-replaced slot flags x [] = refl
tidy-replaced slot flags x (b ∷ bs) = ap (add (replaced slot flags x b)) (tidy-replaced slot flags x bs)
    ∙ add-replaced slot flags x b (tidy bs)

none-replaced : (slot : ℕ) (flags : Flags) (x : List ℕ) (bs : List Block) → has (is_relocatable slot) bs ≡ false
    → map (replaced slot flags x) bs ≡ bs
none-replaced slot flags x [] e = refl
none-replaced slot flags x (b ∷ bs) e =
    let parts = or_parts (is_relocatable slot b) (has (is_relocatable slot) bs) e in
    ap (λ t. cond t (Relocatable slot flags x) b ∷ map (replaced slot flags x) bs) parts.0
    ∙ ap (λ l. b ∷ l) (none-replaced slot flags x bs parts.1)

-- the new block of a slot, put in its place with other flags and bytes
pub filled-replaced : (slot : ℕ) (flags : Flags) (x y : List ℕ) (s : Spot) → padded (length x) ≡ padded (length y)
    → has (is_relocatable slot) s.below ≡ false → has (is_relocatable slot) s.above ≡ false
    → map (replaced slot flags x) (filled (Relocatable slot no_flags y) s) ≡ filled (Relocatable slot flags x) s
filled-replaced slot flags x y s same below above =
    sym (tidy-replaced slot flags x (s.below ++ Relocatable slot no_flags y ∷ Free left ∷ s.above))
    ∙ ap tidy (map-append (replaced slot flags x) s.below (Relocatable slot no_flags y ∷ Free left ∷ s.above))
    ∙ ap (λ l. tidy (l ++ replaced slot flags x (Relocatable slot no_flags y) ∷ Free left
    ∷ map (replaced slot flags x) s.above)) (none-replaced slot flags x s.below below)
    ∙ ap (λ t. tidy (s.below ++ cond t (Relocatable slot flags x) (Relocatable slot no_flags y) ∷ Free left
    ∷ map (replaced slot flags x) s.above)) (leads_to-same slot)
    ∙ ap (λ l. tidy (s.below ++ Relocatable slot flags x ∷ Free left ∷ l))
    (none-replaced slot flags x s.above above)
    ∙ ap (λ n. tidy (s.below ++ Relocatable slot flags x ∷ Free (size s.here - n) ∷ s.above)) (sym same)
  where
    left : ℕ
    left = size s.here - size (Relocatable slot no_flags y)

spot-replaced : (slot : ℕ) (flags : Flags) (x : List ℕ) (zone : List Block) (s : Spot)
    → spot (is_relocatable slot) zone ≡ Some s
    → count (is_relocatable slot) zone ≤ 1
    → map (replaced slot flags x) zone ≡ s.below ++ Relocatable slot flags x ∷ s.above
spot-replaced slot flags x zone s is once =
    let passes = spot-passes (is_relocatable slot) zone s is in
    let split = spot-is (is_relocatable slot) zone s is in
    let P : List Block → Type 0 = λ z. count (is_relocatable slot) z ≤ 1 in
    let none = once-below (is_relocatable slot) s.below s.above s.here passes (subst P split once) in
    ap (map (replaced slot flags x)) split ∙ map-append (replaced slot flags x) s.below (s.here ∷ s.above)
    ∙ ap (λ l. l ++ replaced slot flags x s.here ∷ map (replaced slot flags x) s.above)
    (none-replaced slot flags x s.below none.0)
    ∙ ap (λ t. s.below ++ cond t (Relocatable slot flags x) s.here ∷ map (replaced slot flags x) s.above) passes
    ∙ ap (λ l. s.below ++ Relocatable slot flags x ∷ l) (none-replaced slot flags x s.above none.1)

-- a new block that is put into a free one, below which its slot has none
filled-here : (slot n : ℕ) (s : Spot) → has (is_relocatable slot) s.below ≡ false
    → option_map (λ (s : Spot). s.here) (spot (is_relocatable slot) (filled (fresh_block slot n) s))
    ≡ Some (fresh_block slot n)
filled-here slot n s below =
    let new = fresh_block slot n in
    let left = size s.here - size new in
    spot-lowest (is_relocatable slot) (filled new s)
    ∙ ap lowest (filter-tidy (is_relocatable slot) (λ n. refl) (s.below ++ new ∷ Free left ∷ s.above)
    ∙ filter-append (is_relocatable slot) s.below (new ∷ Free left ∷ s.above))
    ∙ ap (λ l. lowest (l ++ filter (is_relocatable slot) (new ∷ Free left ∷ s.above)))
    (filter-none (is_relocatable slot) s.below below)
    ∙ ap (λ t. lowest (cond t (new ∷ filter (is_relocatable slot) s.above) (filter (is_relocatable slot) s.above)))
    (leads_to-same slot)

pub filled-fresh : (slot n : ℕ) (s : Spot) → has (is_relocatable slot) s.below ≡ false
    → IsFresh slot n (filled (fresh_block slot n) s)
filled-fresh slot n s below =
    cases (spot (is_relocatable slot) (filled (fresh_block slot n) s)) (filled-here slot n s below)
  where
    cases : (o : Option Spot) → option_map (λ (s : Spot). s.here) o ≡ Some (fresh_block slot n)
        → IsSomeAnd o (λ s. s.here ≡ fresh_block slot n)
    cases None e = absurd (none-some _ e)
    cases (Some s) e = same_Some _ _ e

-- a new block in a zone: with its own flags and bytes it is as it is, and with others it is as it is with those written
module _ (slot n : ℕ) (zone : List Block) (fresh : IsFresh slot n zone) (once : count (is_relocatable slot) zone ≤ 1)
  where
    there : (s : Spot) × (spot (is_relocatable slot) zone ≡ Some s) × (s.here ≡ fresh_block slot n)
    there = some_and (spot (is_relocatable slot) zone) (λ s. s.here ≡ fresh_block slot n) fresh

    pub fresh-own : map (replaced slot no_flags (replicate n 0)) zone ≡ zone
    fresh-own = spot-replaced slot no_flags (replicate n 0) zone there.0 there.1 once
        ∙ ap (λ b. there.0.below ++ b ∷ there.0.above) (sym there.2) ∙ sym (spot-is (is_relocatable slot) zone there.0 there.1)

    pub fresh-replaced : (flags : Flags) (x : List ℕ) (zone' : List Block) → IsReplaced slot flags x zone zone'
        → zone' ≡ map (replaced slot flags x) zone
    fresh-replaced flags x zone' done =
        let P : Option Spot → Type 0 = λ o. IfSome o (λ s. zone' ≡ s.below ++ Relocatable slot flags x ∷ s.above) in
        let now : P (Some there.0) = subst P there.1 done in
        now ∙ sym (spot-replaced slot flags x zone there.0 there.1 once)

-- another block at the spot of a place
pub spot_at-changed : (place : ℕ) (bs : List Block) (s : Spot) (b : Block) → spot_at place bs ≡ Some s
    → spot_at place (s.below ++ b ∷ s.above) ≡ Some (record s { here = b })
spot_at-changed place [] s b e = absurd (none-some _ e)
spot_at-changed place (c ∷ above) s b e = cases (place == 0) refl (nat_le (size c) place) refl
    (spot_at (place - size c) above) (λ q. spot_at-changed (place - size c) above q b) e
  where
    cases : (t : Bool) → (place == 0) ≡ t → (u : Bool) → nat_le (size c) place ≡ u → (o : Option Spot)
        → ((q : Spot) → o ≡ Some q → spot_at (place - size c) (q.below ++ b ∷ q.above) ≡ Some (record q { here = b }))
        → cond t (Some (record { below = []; here = c; above = above })) (cond u (option_map (raised c) o) None)
        ≡ Some s → spot_at place (s.below ++ b ∷ s.above) ≡ Some (record s { here = b })
    cases true is u fits o rest e =
        let P : Spot → Type 0 = λ s. spot_at place (s.below ++ b ∷ s.above) ≡ Some (record s { here = b }) in
        subst P (same_Some _ _ e)
        (ap (λ t. cond t (Some (let s : Spot = record { below = []; here = b; above = above } in s))
        (cond (nat_le (size b) place) (option_map (raised b) (spot_at (place - size b) above)) None)) is)
    cases false is false fits o rest e = absurd (none-some _ e)
    cases false is true fits None rest e = absurd (none-some _ e)
    cases false is true fits (Some q) rest e =
        let P : Spot → Type 0 = λ s. spot_at place (s.below ++ b ∷ s.above) ≡ Some (record s { here = b }) in
        subst P (same_Some _ _ e)
        (ap (λ t. cond t (Some (let s : Spot = record { below = []; here = c; above = q.below ++ b ∷ q.above } in s))
        (cond (nat_le (size c) place) (option_map (raised c) (spot_at (place - size c) (q.below ++ b ∷ q.above))) None))
        is
        ∙ ap (λ u. cond u (option_map (raised c) (spot_at (place - size c) (q.below ++ b ∷ q.above))) None) fits
        ∙ ap (option_map (raised c)) (rest q refl))

-- all bytes of a block are written anew
written-all : (x y : List ℕ) → length y ≡ length x → written 0 x y ≡ x
written-all x y same =
    ap (λ l. x ++ l) (ap (λ k. drop k y) (let z : 0 + length x ≡ length y = omega (arith, same) in z) ∙ drop-length y)
    ∙ append-nil x

-- the bytes and the flags of a new block, one after the other
module _ (slot place : ℕ) (flags : Flags) (x : List ℕ) (zone zone1 : List Block)
    (fresh : IsFresh slot (length x) zone) (found : FindsLowest (is_relocatable slot) zone (Some place))
  where
    here : found.0.here ≡ fresh_block slot (length x)
    here = let P : Option Spot → Type 0 = λ o. IsSomeAnd o (λ s. s.here ≡ fresh_block slot (length x)) in
        let h : P (Some found.0) = subst P found.1 fresh in h

    module _ (done : IfSome (spot_at place zone) (λ s. zone1 ≡ s.below
        ++ with_content (written 0 x (content_of s.here)) s.here ∷ s.above))
      where
        with_bytes : zone1 ≡ found.0.below ++ Relocatable slot no_flags x ∷ found.0.above
        with_bytes =
            let P : Option Spot → Type 0 = λ o. IfSome o (λ s. zone1 ≡ s.below
            ++ with_content (written 0 x (content_of s.here)) s.here ∷ s.above) in
            let first : P (Some found.0) = subst P found.2 done in
            first ∙ ap (λ b. found.0.below ++ with_content (written 0 x (content_of b)) b ∷ found.0.above) here
            ∙ ap (λ l. found.0.below ++ Relocatable slot no_flags l ∷ found.0.above)
            (written-all x (replicate (length x) 0) (length-replicate (length x) 0))

        still : spot_at place zone1 ≡ Some (record found.0 { here = Relocatable slot no_flags x })
        still = ap (spot_at place) with_bytes ∙ spot_at-changed place zone found.0 (Relocatable slot no_flags x) found.2

        pub may-flag : IsSome (spot_at place zone1)
        may-flag = let P : Option Spot → Type 0 = λ o. IsSome o in subst P (sym still) refl

        module _ (zone' : List Block) (flagged : IfSome (spot_at place zone1) (λ s. zone' ≡ s.below
            ++ with_flags flags s.here ∷ s.above))
          where
            both : zone' ≡ found.0.below ++ Relocatable slot flags x ∷ found.0.above
            both = let P : Option Spot → Type 0 = λ o. IfSome o (λ s. zone' ≡ s.below
                ++ with_flags flags s.here ∷ s.above) in
                let h : P (Some (record found.0 { here = Relocatable slot no_flags x })) = subst P still flagged in h

            pub is-replaced : IsReplaced slot flags x zone zone'
            is-replaced =
                let P : Option Spot → Type 0 = λ o. IfSome o (λ s. zone' ≡ s.below ++ Relocatable slot flags x
                ∷ s.above) in
                subst P (sym found.1) both

            pub nonrelocatable-replaced : KeepsNonrelocatable zone zone'
            nonrelocatable-replaced =
                let s = found.0 in
                let now = s.below ++ Relocatable slot flags x ∷ s.above in
                nonrelocatable-at place zone zone' s found.2
                (nonrelocatable-then (s.below ++ s.here ∷ s.above) now zone'
                (nonrelocatable-spot s.below s.above s.here (Relocatable slot flags x)
                (λ p. sym (ap (is_nonrelocatable p) here))) (nonrelocatable-same now zone' both))
