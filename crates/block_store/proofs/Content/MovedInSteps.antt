use Rattle.block_store.proofs.Cited.{◌≡◌, ℕ, ◌+◌, ◌-◌, ◌≤◌, ◌<◌, ◌==◌, zero, suc, Bool, true, false, List, [], ◌∷◌, ◌++◌, length, take}
use Rattle.block_store.proofs.Cited.{drop, replicate, filter, min, refl, sym, ◌∙◌, ap, cond, subst, arith, Option, Some, None, ◌⊎◌, inl}
use Rattle.block_store.proofs.Cited.{inr, false≢true, nat_tests, none-some, length-replicate, length-take, take_all, drop-replicate}
use Rattle.block_store.proofs.Cited.{map-append, filter-append, option_map, IfSome, IsSome, IsSomeAnd, padded, written, Block, Free}
use Rattle.block_store.proofs.Cited.{Nonrelocatable, Masters, Relocatable, size, sizes, is_room, resized, is_relocatable, is_nonrelocatable}
use Rattle.block_store.proofs.Cited.{content_of, with_content, resized_content, tidy, add, has, Spot, spot, spot_at, filled, freed}
use Rattle.block_store.proofs.Cited.{FindsLowest, seen, moved_away, Flags}
use Rattle.std.proofs.Common.{IsTrue}
use Rattle.block_store.specs.declared.sparing.Seen.TheVariants as see
use Rattle.block_store.proofs.Zone.Tidy.{add-joined, total-tidy, has-released}
use Rattle.block_store.proofs.Zone.Apart.{Apart, apart-tidy}
use Rattle.block_store.proofs.Zone.Aligned.{spot_at-is}
use Rattle.block_store.proofs.Zone.Listing.{size-freed}
use Rattle.block_store.proofs.Zone.Parted.{tidy-parted, spot_at-parted}
use Rattle.block_store.proofs.Nonrelocatable.Placing.{spot_at-below}
use Rattle.block_store.proofs.Purged.Sparing.{filter-tidy, here-same}
use Rattle.block_store.proofs.Content.Resizing.{found-has, if_found, length-resized, less_or_more}

-- A block that moves in steps: a nonrelocatable block at the place gets its bytes, the block goes, and the nonrelocatable one takes
-- its name.

sum : (n m : ℕ) → suc n + suc m ≡ suc (n + suc m)
sum n m = omega arith

other : (n m : ℕ) (b : Block) (bs : List Block) → ((k : ℕ) → add (Free (suc k)) (b ∷ bs) ≡ Free (suc k) ∷ b ∷ bs)
    → add (Free (suc n + suc m)) (b ∷ bs) ≡ add (Free (suc n)) (add (Free (suc m)) (b ∷ bs))
other n m b bs alone = subst (λ k. add (Free k) (b ∷ bs) ≡ Free k ∷ b ∷ bs) (sym (sum n m)) (alone (n + suc m))
    ∙ sym (ap (add (Free (suc n))) (alone m))

-- a Free block below a Free one is a Free block of all their bytes
add-twice : (n m : ℕ) (bs : List Block) → add (Free (n + m)) bs ≡ add (Free n) (add (Free m) bs)
add-twice zero m bs = let z : zero + m ≡ m = omega arith in ap (λ k. add (Free k) bs) z
add-twice (suc n) zero bs = let z : suc n + zero ≡ suc n = omega arith in ap (λ k. add (Free k) bs) z
add-twice (suc n) (suc m) [] = subst (λ k. add (Free k) [] ≡ Free k ∷ []) (sym (sum n m)) refl
add-twice (suc n) (suc m) (Free k ∷ bs) =
    subst (λ j. add (Free j) (Free k ∷ bs) ≡ Free (j + k) ∷ bs) (sym (sum n m)) refl
    ∙ (let z : suc n + suc m + k ≡ suc n + (suc m + k) = omega arith in ap (λ k. Free k ∷ bs) z)
add-twice (suc n) (suc m) (Nonrelocatable id content ∷ bs) = other n m (Nonrelocatable id content) bs (λ k. refl)
add-twice (suc n) (suc m) (Masters ∷ bs) = other n m Masters bs (λ k. refl)
add-twice (suc n) (suc m) (Relocatable id flags content ∷ bs) = other n m (Relocatable id flags content) bs (λ k. refl)

-- tidied before a block goes and after it is tidied after it
freed-tidy : (number : ℕ) (bs : List Block) → tidy (freed (is_relocatable number) (tidy bs))
    ≡ tidy (freed (is_relocatable number) bs)
freed-tidy number [] = refl
freed-tidy number (b ∷ bs) =
    add-joined (λ l. tidy (freed (is_relocatable number) l)) (λ l. refl)
    (λ n m l. add-twice n m (tidy (freed (is_relocatable number) l))) b (tidy bs)
    ∙ ap (add (cond (is_relocatable number b) (Free (size b)) b)) (freed-tidy number bs)

-- the Free block at a place, which has room for so many bytes
pub record RoomAt (place p : ℕ) (zone : List Block) : Type 0 where
  pub below : List Block
  pub bytes : ℕ
  pub above : List Block
  pub at : spot_at place zone ≡ Some (record { below = below; here = Free bytes; above = above })
  pub fits : is_room p (Free bytes) ≡ true

pub room-at : (place p : ℕ) (zone : List Block) → IsSomeAnd (spot_at place zone) (λ s. IsTrue (is_room p s.here))
    → RoomAt place p zone
room-at place p zone h = cases (spot_at place zone) refl h
  where
    free : (s : Spot) → spot_at place zone ≡ Some s → (b : Block) → s.here ≡ b → is_room p b ≡ true
        → RoomAt place p zone
    free s e (Free n) is room = record {
      below = s.below;
      bytes = n;
      above = s.above;
      at = e ∙ ap (λ b. Some (record { below = s.below; here = b; above = s.above })) is;
      fits = room;
    }
    free s e (Nonrelocatable id content) is room = absurd (false≢true room)
    free s e Masters is room = absurd (false≢true room)
    free s e (Relocatable id flags content) is room = absurd (false≢true room)

    cases : (o : Option Spot) → spot_at place zone ≡ o → IsSomeAnd o (λ s. IsTrue (is_room p s.here))
        → RoomAt place p zone
    cases None e h = absurd h
    cases (Some s) e h = free s e s.here refl h

-- what is seen of a slot's block
pub seen-is : (number n : ℕ) (flags : Flags) (b : Block) → seen b ≡ see.Relocatable number flags n
    → (b ≡ Relocatable number flags (content_of b)) × (length (content_of b) ≡ n)
seen-is number n flags (Free m) e = absurd (other e)
  where
    other : see.Free m ≡ see.Relocatable number flags n → ⊥
    other e = cc
seen-is number n flags (Nonrelocatable id content) e = absurd (other e)
  where
    other : see.Nonrelocatable (length content) ≡ see.Relocatable number flags n → ⊥
    other e = cc
seen-is number n flags Masters e = absurd (other e)
  where
    other : see.Masters ≡ see.Relocatable number flags n → ⊥
    other e = cc
seen-is number n flags (Relocatable id old content) e =
    let p = parts id number (length content) n old flags e in
    ((λ i. Relocatable (p.0 i) (p.1 i) content), p.2)
  where
    parts : (a b k m : ℕ) (f g : Flags) → see.Relocatable a f k ≡ see.Relocatable b g m
        → (a ≡ b) × (f ≡ g) × (k ≡ m)
    parts a b k m f g e = (cc, cc, cc)

some-found : (o : Option Spot) → IsSome o → (b : Block) × (option_map (λ (s : Spot). s.here) o ≡ Some b)
some-found None some = absurd (false≢true some)
some-found (Some s) some = (s.here, refl)

found-some : (o : Option Spot) (b : Block) → option_map (λ (s : Spot). s.here) o ≡ Some b → IsSome o
found-some None b e = absurd (none-some _ e)
found-some (Some s) b e = refl

-- a slot that leads to a block is a handle's
pub is-used : (used : Bool) (number : ℕ) (zone : List Block)
    → (used ≡ false → has (is_relocatable number) zone ≡ false) → IsSome (spot (is_relocatable number) zone)
    → used ≡ true
is-used true number zone none some = refl
is-used false number zone none some = absurd (found (spot (is_relocatable number) zone) refl some)
  where
    found : (o : Option Spot) → spot (is_relocatable number) zone ≡ o → IsSome o → ⊥
    found None e some = false≢true some
    found (Some s) e some = found-has (is_relocatable number) zone s e (none refl)

-- bytes written over zeros are the content at another size
pub resized-zeros : (bytes n : ℕ) (content : List ℕ) → n ≡ min (length content) bytes
    → written 0 (take n content) (replicate bytes 0) ≡ resized_content bytes content
resized-zeros bytes n content e =
    (λ i. k (less_or_more (length content) bytes) i ++ drop (0 + length (take n content)) (replicate bytes 0))
    ∙ ap (λ l. take bytes content ++ l) (drop-replicate (0 + length (take n content)) bytes 0
    ∙ ap (λ m. replicate m 0) rest)
  where
    k : (length content ≤ bytes) ⊎ (bytes < length content) → take n content ≡ take bytes content
    k (inl le) = let z : n ≡ length content = omega (arith, e) in ap (λ m. take m content) z
        ∙ take_all (length content) content (omega arith) ∙ sym (take_all bytes content le)
    k (inr more) = let z : n ≡ bytes = omega (arith, e) in ap (λ m. take m content) z

    rest : bytes - (0 + length (take n content)) ≡ bytes - length content
    rest = let l = length-take n content in omega (arith, e, l)

module _ (number place bytes : ℕ) (zone : List Block) (r : RoomAt place (padded bytes) zone) where
  abbrev goes : Block → Bool
  goes b = is_relocatable number b

  abbrev left : ℕ
  left = r.bytes - padded bytes

  abbrev lower : List Block
  lower = tidy r.below

  abbrev upper : List Block
  upper = tidy (Free left ∷ r.above)

  -- with a nonrelocatable block at the place
  abbrev stood : List ℕ → List Block
  stood content = lower ++ Nonrelocatable place content ∷ upper

  low : sizes r.below ≡ place
  low = spot_at-below place zone _ r.at

  stood-at : (content : List ℕ) → spot_at place (stood content)
      ≡ Some (record { below = lower; here = Nonrelocatable place content; above = upper })
  stood-at content =
      let e = tidy-parted r.below (Nonrelocatable place content) (Free left ∷ r.above) refl in
      let a = subst Apart e (apart-tidy (r.below ++ Nonrelocatable place content ∷ Free left ∷ r.above)) in
      subst (λ n. spot_at n (stood content)
      ≡ Some (record { below = lower; here = Nonrelocatable place content; above = upper }))
      (total-tidy size (λ n m. refl) r.below ∙ low) (spot_at-parted lower (Nonrelocatable place content) upper a)

  -- after the nonrelocatable block was made
  module _ (made : List Block) (is : IfSome (spot_at place zone) (λ s.
      made ≡ filled (Nonrelocatable place (replicate bytes 0)) s)) where
    made-filled : made ≡ tidy (r.below ++ Nonrelocatable place (replicate bytes 0) ∷ Free left ∷ r.above)
    made-filled = subst (λ (o : Option Spot). IfSome o (λ s. made ≡ filled (Nonrelocatable place (replicate bytes 0)) s)) r.at is
        ∙ ap (λ n. tidy (r.below ++ Nonrelocatable place (replicate bytes 0) ∷ Free (r.bytes - padded n) ∷ r.above))
        (length-replicate bytes 0)

    made-is : made ≡ stood (replicate bytes 0)
    made-is = made-filled ∙ tidy-parted r.below (Nonrelocatable place (replicate bytes 0)) (Free left ∷ r.above) refl

    same-block : option_map (λ (s : Spot). s.here) (spot goes made) ≡ option_map (λ (s : Spot). s.here) (spot goes zone)
    same-block = here-same goes zone made (ap (filter goes) made-filled
        ∙ filter-tidy goes (λ n. refl) (r.below ++ Nonrelocatable place (replicate bytes 0) ∷ Free left ∷ r.above)
        ∙ filter-append goes r.below (Nonrelocatable place (replicate bytes 0) ∷ Free left ∷ r.above)
        ∙ sym (filter-append goes r.below (Free r.bytes ∷ r.above)) ∙ ap (filter goes) (spot_at-is place zone _ r.at))

    -- the block that goes is still there
    pub still : IsSome (spot goes zone) → IsSome (spot goes made)
    still some = let b = some-found (spot goes zone) some in found-some (spot goes made) b.0 (same-block ∙ b.1)

    module _ (source long : ℕ) (flags : Flags) (found : FindsLowest goes made (Some source))
        (told : IfSome (spot goes made) (λ s. seen s.here ≡ see.Relocatable number flags long)) (n : ℕ)
        (least : n ≡ min long bytes) where
      abbrev old : Block
      old = found.0.here

      old-is : (old ≡ Relocatable number flags (content_of old)) × (length (content_of old) ≡ long)
      old-is = seen-is number long flags old (subst (λ (o : Option Spot). IfSome o (λ s. seen s.here
          ≡ see.Relocatable number flags long)) found.1 told)

      abbrev content : List ℕ
      content = resized_content bytes (content_of old)

      pub copies-to : IsSomeAnd (spot_at place made) (λ s. 0 + n ≤ length (content_of s.here))
      copies-to = subst (λ (l : List Block). IsSomeAnd (spot_at place l) (λ s. 0 + n ≤ length (content_of s.here)))
          (sym made-is) (subst (λ (o : Option Spot). IsSomeAnd o (λ s. 0 + n ≤ length (content_of s.here)))
          (sym (stood-at (replicate bytes 0))) (let l = length-replicate {A = ℕ} bytes 0 in omega (arith, l, least)))

      module _ (copied : List Block) (is_copied : IfSome (spot_at source made) (λ t. IfSome (spot_at place made) (λ s.
          copied ≡ s.below
          ++ with_content (written 0 (take n (content_of t.here)) (content_of s.here)) s.here ∷ s.above))) where
        copied-is : copied ≡ stood content
        copied-is =
            subst (λ (o : Option Spot). IfSome o (λ s. copied ≡ s.below
            ++ with_content (written 0 (take n (content_of old)) (content_of s.here)) s.here ∷ s.above))
            (ap (spot_at place) made-is ∙ stood-at (replicate bytes 0))
            (subst (λ (o : Option Spot). IfSome o (λ t. IfSome (spot_at place made) (λ s. copied ≡ s.below
            ++ with_content (written 0 (take n (content_of t.here)) (content_of s.here)) s.here ∷ s.above))) found.2
            is_copied)
            ∙ ap stood (resized-zeros bytes n (content_of old) (least ∙ ap (λ m. min m bytes) (sym old-is.1)))

        module _ (gone : List Block) (is_gone : gone ≡ tidy (freed goes copied)) where
          abbrev under : List Block
          under = tidy (freed goes r.below)

          abbrev over : List Block
          over = tidy (Free left ∷ freed goes r.above)

          gone-is : gone ≡ under ++ Nonrelocatable place content ∷ over
          gone-is =
              is_gone ∙ ap (λ l. tidy (freed goes l)) copied-is
              ∙ ap tidy (map-append (λ b. cond (goes b) (Free (size b)) b) lower (Nonrelocatable place content ∷ upper))
              ∙ tidy-parted (freed goes lower) (Nonrelocatable place content) (freed goes upper) refl
              ∙ (λ i. freed-tidy number r.below i ++ Nonrelocatable place content ∷ freed-tidy number (Free left ∷ r.above) i)

          gone-at : spot_at place gone ≡ Some (record { below = under; here = Nonrelocatable place content; above = over })
          gone-at =
              let e = tidy-parted (freed goes r.below) (Nonrelocatable place content) (Free left ∷ freed goes r.above) refl in
              let a = subst Apart e (apart-tidy (freed goes r.below
              ++ Nonrelocatable place content ∷ Free left ∷ freed goes r.above)) in
              ap (spot_at place) gone-is
              ∙ subst (λ n. spot_at n (under ++ Nonrelocatable place content ∷ over)
              ≡ Some (record { below = under; here = Nonrelocatable place content; above = over }))
              (total-tidy size (λ n m. refl) (freed goes r.below) ∙ size-freed goes r.below ∙ low)
              (spot_at-parted under (Nonrelocatable place content) over a)

          -- the nonrelocatable block stands at the place, and the slot leads to none
          pub stands : IsSomeAnd (spot_at place gone) (λ s. is_nonrelocatable place s.here ≡ true)
          stands = subst (λ (o : Option Spot). IsSomeAnd o (λ s. is_nonrelocatable place s.here ≡ true)) (sym gone-at)
              (let e : (place == place) ≡ true = grind (arith, nat_tests) in e)

          pub no-block : has goes gone ≡ false
          no-block = ap (has goes) is_gone ∙ has-released number copied

          module _ (named : List Block) (is_named : IfSome (spot_at place gone) (λ s.
              named ≡ s.below ++ Relocatable number flags (content_of s.here) ∷ s.above)) where
            abbrev new : Block
            new = Relocatable number flags content

            named-is : named ≡ filled (resized bytes old) (record {
              below = freed goes r.below;
              here = Free r.bytes;
              above = freed goes r.above;
            })
            named-is =
                subst (λ (o : Option Spot). IfSome o (λ s. named ≡ s.below
                ++ Relocatable number flags (content_of s.here) ∷ s.above)) gone-at is_named
                ∙ sym (tidy-parted (freed goes r.below) new (Free left ∷ freed goes r.above) refl)
                ∙ ap (λ m. tidy (freed goes r.below ++ new ∷ Free (r.bytes - padded m) ∷ freed goes r.above))
                (sym (length-resized bytes (content_of old)))
                ∙ ap (λ b. filled b (record {
                  below = freed goes r.below;
                  here = Free r.bytes;
                  above = freed goes r.above;
                })) (sym (ap (resized bytes) old-is.0))

            -- the block stands at its new place
            pub moved : IfSome (spot_at place zone) (λ s. IfSome (spot goes zone) (λ from.
                named ≡ filled (resized bytes from.here) (moved_away goes s)))
            moved = subst (λ (o : Option Spot). IfSome o (λ s. IfSome (spot goes zone) (λ from.
                named ≡ filled (resized bytes from.here) (moved_away goes s)))) (sym r.at)
                (if_found (λ b. named ≡ filled (resized bytes b) (record {
                  below = freed goes r.below;
                  here = Free r.bytes;
                  above = freed goes r.above;
                })) (spot goes zone) old (sym same-block ∙ ap (option_map (λ (s : Spot). s.here)) found.1) named-is)
