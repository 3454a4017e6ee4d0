use Rattle.heap_calls.proofs.Cited.{◌≡◌, ℕ, ◌-◌, ◌≤◌, zero, suc, Bool, true, false, ◌==◌, List, [], ◌∷◌, ◌++◌, length, take, replicate}
use Rattle.heap_calls.proofs.Cited.{refl, sym, ◌∙◌, ap, subst, cond, arith, Option, Some, None, is_some, take-append_seam, Decides-eqb}
use Rattle.heap_calls.proofs.Cited.{none-some, same_Some, option_map, IsSome, IfSome, IsSomeAnd, phys, Block, Free, Nonrelocatable, Masters}
use Rattle.heap_calls.proofs.Cited.{Relocatable, size, sizes, count, is_relocatable, resized, resized_content, content_of, Spot, spot}
use Rattle.heap_calls.proofs.Cited.{spot_at, grow, spot-passes, length-resized, size_for, bytes_of, Rest, Went, seek_sized}
use Rattle.heap_calls.proofs.Cited.{length_of, FindsLowest}
use Rattle.heap_calls.proofs.Numbering.Answering.{at_place}
use Rattle.heap_calls.proofs.Same.Growing.{same-handle, sized-grew}
use Rattle.heap_calls.proofs.Sizes.GrowingInPlace.{spot-small, some_spot, spot_and}
use Rattle.heap_calls.proofs.Sizes.Fronts.{own-grown, other-grown}

-- Bytes behind those of a block.

-- a block holds no more bytes than it takes
content-fits : (b : Block) → length (content_of b) ≤ size b
content-fits (Free n) = omega arith
content-fits (Nonrelocatable id content) = omega arith
content-fits Masters = omega arith
content-fits (Relocatable id flags content) = omega arith

take-whole : (n : ℕ) (c : List ℕ) → length c ≤ n → take n c ≡ c
take-whole zero [] le = refl
take-whole zero (x ∷ c) le = absurd (let f : suc (length c) ≤ 0 = le in omega arith)
take-whole (suc n) [] le = refl
take-whole (suc n) (x ∷ c) le = ap (λ l. x ∷ l) (take-whole n c (let f : suc (length c) ≤ suc n = le in omega arith))

content-resized : (slot n : ℕ) (b : Block) → is_relocatable slot b ≡ true
    → content_of (resized n b) ≡ resized_content n (content_of b)
content-resized slot n (Free m) e = let f : false ≡ true = e in cc
content-resized slot n (Nonrelocatable id content) e = refl
content-resized slot n Masters e = let f : false ≡ true = e in cc
content-resized slot n (Relocatable id flags content) e = refl

the-block : (o : Option Spot) (b : Block) → option_map (λ (s : Spot). s.here) o ≡ Some b → (t : Spot) × (o ≡ Some t)
    × (t.here ≡ b)
the-block None b e = absurd (none-some _ e)
the-block (Some t) b e = (t, refl, same_Some _ _ e)

pub size-is : (n m : ℕ) → size_for n ≡ Some m → (n ≡ m) × (is_some (phys n) ≡ true)
size-is n m e = cases (is_some (phys n)) refl e
  where
    cases : (t : Bool) → is_some (phys n) ≡ t → cond t (Some n) None ≡ Some m → (n ≡ m) × (is_some (phys n) ≡ true)
    cases true is e = (same_Some _ _ e, is)
    cases false is e = absurd (none-some _ e)

pub size-none : (n : ℕ) → size_for n ≡ None → is_some (phys n) ≡ false
size-none n e = cases (is_some (phys n)) e
  where
    cases : (t : Bool) → cond t (Some n) None ≡ None → t ≡ false
    cases true e = absurd (none-some _ (sym e))
    cases false e = refl

pub length-known : (slot place n : ℕ) (zone : List Block) → FindsLowest (is_relocatable slot) zone (Some place)
    → IfSome (spot_at place zone) (λ s. n ≡ length (content_of s.here))
    → (n ≡ length_of slot zone) × (n ≤ sizes zone)
length-known slot place n zone here is =
    let few : n ≡ length (content_of here.0.here) = at_place place zone here.0 (λ s. n ≡ length (content_of s.here))
    here.2 is in (
      few ∙ ap (λ o. length (bytes_of o)) (sym here.1),
      omega (arith, few, content-fits here.0.here, spot-small place zone here.0 here.2),
    )

-- where the block of a slot has room for n bytes, and the bytes of a source stay, behind its own where it is
-- the one that grew
pub record HasRoom (slot n source more : ℕ) (zone zone1 : List Block) : Type 0 where
  pub fits : IsSomeAnd (spot (is_relocatable slot) zone1) (λ t. n ≤ length (content_of t.here))
  pub there : IsSomeAnd (spot (is_relocatable source) zone1) (λ t. more ≤ length (content_of t.here))
  pub kept : take more (bytes_of (spot (is_relocatable source) zone1)) ≡ bytes_of (spot (is_relocatable source) zone)

-- the block of a slot has grown to n bytes
module _ (slot : ℕ) (sp : Block → Bool) (zone : List Block) (n : ℕ) (zone1 : List Block) {m : ℕ} {rest rest1 : Rest}
    (went : Went sp zone (seek_sized (is_relocatable slot) n sp zone) true m zone1 rest rest1) (s : Spot)
    (found : spot (is_relocatable slot) zone ≡ Some s) (once : count (is_relocatable slot) zone ≤ 1)
  where
    grew : grow (is_relocatable slot) sp n zone ≡ Some zone1
    grew = sized-grew (is_relocatable slot) sp n zone s found
        (same-handle slot n s.here (spot-passes (is_relocatable slot) zone s found)) went

    own : (t : Spot) × (spot (is_relocatable slot) zone1 ≡ Some t) × (t.here ≡ resized n s.here)
    own = the-block (spot (is_relocatable slot) zone1) (resized n s.here)
        (own-grown slot n sp zone zone1 grew s found once)

    own-content : content_of own.0.here ≡ resized_content n (content_of s.here)
    own-content = ap content_of own.2 ∙ content-resized slot n s.here (spot-passes (is_relocatable slot) zone s found)

    pub longer-fits : IsSomeAnd (spot (is_relocatable slot) zone1) (λ t. n ≤ length (content_of t.here))
    longer-fits =
        let e : length (content_of own.0.here) ≡ n = ap length own-content ∙ length-resized n (content_of s.here) in
        spot_and (spot (is_relocatable slot) zone1) own.0 (λ t. n ≤ length (content_of t.here)) own.1 (omega (arith, e))

    -- the bytes of a block that is spared stay, behind its own where it is the one that grew
    module _ (le : length_of slot zone ≤ n) (source : ℕ) (there : IsSome (spot (is_relocatable source) zone))
        (spares : (b : Block) → is_relocatable source b ≡ true → sp b ≡ true)
      where
        own-fits : length (content_of s.here) ≤ n
        own-fits = let e : length_of slot zone ≡ length (content_of s.here) = ap (λ o. length (bytes_of o)) found in
            omega (arith, e, le)

        abbrev a : Spot
        a = (some_spot (spot (is_relocatable source) zone) there).0

        at : spot (is_relocatable source) zone ≡ Some a
        at = (some_spot (spot (is_relocatable source) zone) there).1

        front : (t : Spot) × (spot (is_relocatable source) zone1 ≡ Some t)
            × (take (length (content_of a.here)) (content_of t.here) ≡ content_of a.here)
        front = cases (source == slot) refl
          where
            cases : (u : Bool) → (source == slot) ≡ u → (t : Spot) × (spot (is_relocatable source) zone1 ≡ Some t)
                × (take (length (content_of a.here)) (content_of t.here) ≡ content_of a.here)
            cases true e =
                let same : source ≡ slot = (Decides-eqb source slot).0 e in
                let c : List ℕ = content_of s.here in
                let same_block : a ≡ s = same_Some _ _ (sym at ∙ ap (λ n. spot (is_relocatable n) zone) same ∙ found) in
                let P : List ℕ → Type 0 = λ l. take (length l) (content_of own.0.here) ≡ l in
                let kept : take (length c) (content_of own.0.here) ≡ c =
                ap (take (length c)) (own-content ∙ ap (λ l. l ++ replicate (n - length c) 0) (take-whole n c own-fits))
                ∙ take-append_seam c (replicate (n - length c) 0) in (
                  own.0,
                  ap (λ n. spot (is_relocatable n) zone1) same
                      ∙ own.1,
                  subst P (ap (λ (t : Spot). content_of t.here) (sym same_block)) kept,
                )
            cases false e =
                let there = the-block (spot (is_relocatable source) zone1) a.here
                (other-grown slot n sp zone zone1 grew source e spares
                ∙ ap (option_map (λ (s : Spot). s.here)) at) in
                let P : Block → Type 0 = λ b. take (length (content_of a.here)) (content_of b) ≡ content_of a.here in (
                  there.0,
                  there.1,
                  subst P (sym there.2) (take-whole (length (content_of a.here)) (content_of a.here)
                      (omega arith)),
                )

        pub room-made : (more : ℕ) → more ≡ length_of source zone → HasRoom slot n source more zone zone1
        room-made more is =
            let f = front in
            let e : length (take (length (content_of a.here)) (content_of f.0.here)) ≡ length (content_of a.here) =
            ap length f.2 in
            let k_is : more ≡ length (content_of a.here) = is ∙ ap (λ o. length (bytes_of o)) at in
            record {
              fits = longer-fits;
              there = spot_and (spot (is_relocatable source) zone1) f.0 (λ t. more ≤ length (content_of t.here)) f.1
                  (omega (arith, k_is, e, take-le (length (content_of a.here)) (content_of f.0.here)));
              kept = ap (λ o. take more (bytes_of o)) f.1 ∙ ap (λ n. take n (content_of f.0.here)) k_is ∙ f.2
                  ∙ ap bytes_of (sym at);
            }
          where
            take-le : (n : ℕ) (l : List ℕ) → length (take n l) ≤ length l
            take-le zero l = omega arith
            take-le (suc n) [] = omega arith
            take-le (suc n) (y ∷ l) = let r = take-le n l in omega arith
