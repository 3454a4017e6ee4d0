-- The largest Free block of a zone, as it stands and after purges.
use Rattle.zone_marks.proofs.Cited.{◌≡◌, ◌⊎◌, ℕ, ◌+◌, ◌≤◌, ◌<◌, zero, suc, inl, inr, Bool, true, false, max, cond, List, [], ◌∷◌, ◌++◌}
use Rattle.zone_marks.proofs.Cited.{refl, ap, ◌∙◌, subst, arith, Block, Free, Relocatable, free_of, is_room, size, sizes, tidy}
use Rattle.zone_marks.proofs.Cited.{largest_free, lowest_purged, may_be_purged, purged, spared, top_free, largest-purged, largest_stretch}
use Rattle.zone_marks.proofs.Cited.{apart-top_free, lowest_purged-none, lowest_purged-stays, Apart, apart-size, apart-tidied, zone_in}
use Rattle.zone_marks.proofs.Cited.{IsSound, AtEach, Begins, NoRoom, above_all, MayStart, NoneGoes, Stays, purgeable_sum, left_in}
use Rattle.zone_marks.proofs.Cited.{sizes-length, left-zone}
use Rattle.block_store.specs.declared.sparing.Sparing.TheVariants as sparing
use Rattle.zone_marks.proofs.Marks.Lowering.{seen-from}
use Rattle.zone_marks.proofs.Marks.Passing.{at-left, at-map, at-right}

abbrev spares : Block → Bool
spares = spared sparing.Nothing

room-less : (m : ℕ) (b : Block) → is_room (m + 1) b ≡ false → free_of b ≤ m
room-less m (Free n) e = grind arith
room-less m _ e = omega arith

pub no-more-room : (p q lo hi x : ℕ) (blocks : List Block) → p ≤ q → AtEach (NoRoom p lo hi) x blocks
    → AtEach (NoRoom q lo hi) x blocks
no-more-room p q lo hi x blocks l = grind (arith, at-map)

-- where no room is for more, none is larger
largest-within : (m hi x : ℕ) (blocks : List Block) → x + sizes blocks < hi → AtEach (NoRoom (m + 1) 0 hi) x blocks
    → largest_free blocks ≤ m
largest-within m hi x [] l e = omega arith
largest-within m hi x (b ∷ blocks) l e =
    let r = largest-within m hi (x + size b) blocks (omega arith) e.1 in
    omega (arith, room-less m b (e.0 (omega arith) (omega arith)), r)

-- the largest of some blocks and others above them
largest-append : (below above : List Block)
    → largest_free (below ++ above) ≡ max (largest_free below) (largest_free above)
largest-append [] above = omega arith
largest-append (b ∷ below) above = omega (arith, largest-append below above)

module _ (xs : List ℕ) (first unused : ℕ) (i : IsSound xs first unused) where
  pub zone-largest : (m : ℕ) → AtEach (NoRoom (m + 1) 0 above_all) 0 (zone_in xs) → m ≤ largest_free (zone_in xs)
      → m ≡ largest_free (zone_in xs)
  zone-largest m e l = omega (arith, largest-within m above_all 0 (zone_in xs) (omega (arith, sizes-length)) e, l)

  pub left-largest : (p : ℕ) → Begins p 0 (zone_in xs) → largest_free (left_in p xs) ≤ largest_free (zone_in xs)
  left-largest p b = omega (arith, ap largest_free (seen-from xs first unused i p b).is, largest-append)

-- blocks that stay, below others
purged-above : (k bound x : ℕ) (below above : List Block) → AtEach (Stays bound) x below → x + sizes below ≤ bound
    → lowest_purged k spares (below ++ above) ≡ below ++ lowest_purged k spares above
purged-above k bound x [] above s l = refl
purged-above k bound x (b ∷ below) above s l = lowest_purged-stays k spares b _ (grind arith)
    ∙ ap (λ q. b ∷ q) (purged-above k _ (x + size b) below above s.1 (omega arith))

none-purged : (k : ℕ) (sp : Block → Bool) (bs : List Block) → purgeable_sum bs ≤ 0 → lowest_purged k sp bs ≡ bs
none-purged k sp [] l = lowest_purged-none k sp
none-purged k sp (b ∷ bs) l = lowest_purged-stays k sp b bs (grind arith)
    ∙ ap (λ q. b ∷ q) (none-purged k sp bs (omega arith))

pub stands-still : (k : ℕ) (zone : List Block) → tidy zone ≡ zone → purgeable_sum zone ≤ 0
    → purged k sparing.Nothing zone ≡ zone
stands-still k zone t l = ap tidy (none-purged k spares _ l) ∙ t

-- the largest stretch of Free blocks, by purges
stretch-rises : (f g : ℕ) (bs : List Block) → f ≤ g → largest_stretch f bs ≤ largest_stretch g bs
stretch-rises f g [] l = l
stretch-rises f g (Free n ∷ bs) l = stretch-rises (f + n) _ bs (omega arith)
stretch-rises f g _ l = omega arith

stretch-above : (f : ℕ) (below above : List Block) → largest_stretch 0 above ≤ largest_stretch f (below ++ above)
stretch-above f [] above = stretch-rises 0 f above (omega arith)
stretch-above f (Free n ∷ below) above = stretch-above _ below above
stretch-above f (_ ∷ below) above = let r = stretch-above 0 below above in omega arith

purged-rises : (f k : ℕ) (sp : Block → Bool) (bs : List Block)
    → max f (largest_free bs) ≤ largest_stretch f (lowest_purged k sp bs)
purged-rises f k sp [] = omega (arith, ap (largest_stretch f) (lowest_purged-none k sp))
purged-rises f k sp (Free n ∷ bs) =
    omega (arith, purged-rises (f + n) k sp bs, ap (largest_stretch f) (lowest_purged-stays k sp (Free n) bs refl))
purged-rises f zero sp (Relocatable id flags content ∷ bs) = let r = purged-rises 0 0 sp bs in omega arith
purged-rises f (suc k) sp (Relocatable id flags content ∷ bs) =
    cases (may_be_purged sp b) (purged-rises (f + size b) k sp bs) (purged-rises 0 (suc k) sp bs)
  where
    b : Block
    b = Relocatable id flags content

    cases : (t : Bool) → max (f + size b) (largest_free bs) ≤ largest_stretch (f + size b) (lowest_purged k sp bs)
        → max 0 (largest_free bs) ≤ largest_stretch 0 (lowest_purged (suc k) sp bs) → max f (max 0 (largest_free bs))
        ≤ largest_stretch f (cond t (Free (size b) ∷ lowest_purged k sp bs) (b ∷ lowest_purged (suc k) sp bs))
    cases true e g = omega arith
    cases false e g = omega arith
purged-rises f k sp (b ∷ bs) =
    let e = ap (largest_stretch f) (lowest_purged-stays k sp b bs refl) in omega (arith, purged-rises 0 k sp bs)

-- two lists end, or begin with one and the same block
abbrev SameFirst : List Block → List Block → Type 0
SameFirst [] [] = Unit {0}
SameFirst [] (c ∷ new) = ⊥
SameFirst (b ∷ old) [] = ⊥
SameFirst (b ∷ old) (c ∷ new) = b ≡ c

-- a stretch ends below a block that was there, unless it begins with the block
stretch-ends : (f : ℕ) (old new : List Block) → Apart old → (f ≡ 0) ⊎ (top_free old ≡ 0) → SameFirst old new
    → largest_stretch f new ≤ max f (largest_stretch 0 new)
stretch-ends f [] [] a e s = omega arith
stretch-ends f (b ∷ old) (c ∷ new) a (inl e) s = omega (arith, ap (λ g. largest_stretch g (c ∷ new)) e)
stretch-ends f (b ∷ old) (Free n ∷ new) a (inr e) s = grind (arith, apart-size)
stretch-ends f (b ∷ old) (_ ∷ new) a (inr e) s = omega arith
stretch-ends f _ _ a e s = absurd s

stretch-parts : (f : ℕ) (below old new : List Block) → Apart (below ++ old) → (f ≡ 0) ⊎ (top_free (below ++ old) ≡ 0)
    → SameFirst old new → largest_stretch f (below ++ new) ≤ max (max f (largest_free below)) (largest_stretch 0 new)
stretch-parts f [] old new a e s = let r = stretch-ends f _ _ a e s in omega arith
stretch-parts f (Free n ∷ below) old new a (inl e) s =
    let r = stretch-parts (f + n) below old new a.1 (inr (apart-top_free n (below ++ old) a.0)) s in omega arith
stretch-parts f (Free n ∷ below) old new a (inr e) s = omega (arith, apart-size)
stretch-parts f (_ ∷ below) old new a e s = let r = stretch-parts 0 below old new a.1 (inl refl) s in omega arith

-- where the first block stays, the lists begin alike
same-first : (k bound x : ℕ) (bs : List Block) → x < bound → AtEach (Stays bound) x bs
    → SameFirst bs (lowest_purged k spares bs)
same-first zero bound x [] l s = tt
same-first (suc k) bound x [] l s = tt
same-first k bound x (b ∷ bs) l s = grind (arith, lowest_purged-stays)

-- the largest Free block from a place on, and of the zone as it stands, after purges from there on
module _ (xs : List ℕ) (first unused : ℕ) (i : IsSound xs first unused) (k from : ℕ) (m : MayStart from (zone_in xs))
  where
    after-is : (zone : List Block) → largest_free (purged k sparing.Nothing zone)
        ≡ largest_stretch 0 (lowest_purged k spares zone)
    after-is zone = largest-purged sparing.Nothing k _

    rises : largest_free (zone_in xs) ≤ largest_free (purged k sparing.Nothing (zone_in xs))
    rises = omega (arith, purged-rises, after-is)

    parted : from < m.bound → largest_free (purged k sparing.Nothing (zone_in xs))
        ≡ max (largest_free (zone_in xs)) (largest_free (purged k sparing.Nothing (left_in from xs)))
    parted l =
        let s = seen-from xs first unused i from m.begins in
        let rest = left_in from xs in
        let stays = subst (NoneGoes m.bound) s.is m.none in
        let e = after-is _ ∙ ap (λ z. largest_stretch 0 (lowest_purged k spares z)) s.is
        ∙ ap (largest_stretch 0) (purged-above k _ 0 _ _ (at-left (Stays m.bound) 0 _ rest stays) (omega arith)) in
        let up = stretch-parts 0 s.below rest (lowest_purged k spares rest)
        (subst Apart s.is (apart-tidied (zone_in xs) i.tidied)) (inl refl) (grind (arith, same-first, at-right)) in
        omega (arith, stretch-above, after-is, largest-append, ap largest_free s.is, rises)

    pub largest-from : largest_free (purged k sparing.Nothing (zone_in xs))
        ≡ max (largest_free (zone_in xs)) (largest_free (purged k sparing.Nothing (left_in from xs)))
    largest-from = grind (arith, parted, left-zone, rises)
