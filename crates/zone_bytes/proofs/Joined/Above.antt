-- Free bytes that are made one with a Free block above them.
use Rattle.zone_bytes.proofs.Cited.{◌≡◌, ℕ, ◌+◌, ◌-◌, ◌<◌, ◌≤◌, List, [], ◌∷◌, ◌++◌, length, sym, refl, ap, ◌∙◌, subst, arith, append_assoc}
use Rattle.zone_bytes.proofs.Cited.{Block, Free, size, sizes, free, free_of, add, add-alone, add-free, kind, Lays, Freeing, MayFree}
use Rattle.zone_bytes.proofs.Cited.{Joining, MayJoin}
use Rattle.zone_bytes.proofs.Tiles.Tiling.{span-append}
use Rattle.zone_bytes.proofs.Tiles.Keeping.{span-free}
use Rattle.zone_bytes.proofs.Joined.Ways.{inside, Read, read}

pub free-is : (b : Block) → kind b ≡ 0 → b ≡ Free (size b)
free-is b k = grind arith

pub free-other : (b : Block) → 0 < kind b → free_of b ≡ 0
free-other b k = grind arith

module _ (j : Joining) (start at : ℕ) (xs : List ℕ) (m : MayJoin j start at xs) where
  here-laid : Lays xs ((j.below ++ free (at - start)) ++ j.above) j.slots j.unused
  here-laid = subst (λ k. Lays xs k j.slots j.unused) (sym (append_assoc j.below (free (at - start)) j.above)) m.lays

  here-low : sizes (j.below ++ free (at - start)) ≡ at
  here-low = omega (arith, span-append, span-free)

  -- the block above
  pub record Next : Type 0 where
    pub here : Block
    pub above : List Block
    pub is : j.above ≡ here ∷ above
    pub tells : Read xs here at

  pub next : at < length xs → Next
  next l = of j.above refl
    where
      of : (above : List Block) → j.above ≡ above → Next
      of [] e = absurd (omega (arith, inside _ _ _ j.slots _ here-laid _ here-low, ap sizes e))
      of (b ∷ above) e = record {
        here = b;
        above = above;
        is = e;
        tells = read _ _ b _ j.slots _
            (subst (λ k. Lays xs ((j.below ++ free (at - start)) ++ k) j.slots j.unused) e here-laid) _ here-low;
      }

  alone : add (Free (at - start)) j.above ≡ Free (at - start) ∷ j.above
      → Lays xs (j.below ++ add (Free (at - start)) j.above) j.slots j.unused
  alone e = grind arith

  -- no block above
  pub joined-none : length xs ≤ at → Lays xs (j.below ++ add (Free (at - start)) j.above) j.slots j.unused
  joined-none l = alone (of j.above refl)
    where
      of : (above : List Block) → j.above ≡ above → add (Free (at - start)) above ≡ Free (at - start) ∷ above
      of [] e = add-alone _ (omega arith)
      of (b ∷ above) e = let r = read _ _ b _ j.slots _
          (subst (λ k. Lays xs ((j.below ++ free (at - start)) ++ k) j.slots j.unused) e here-laid) _ here-low in
          absurd (omega arith)

  -- a block above that isn't Free
  pub joined-other : (l : at < length xs) → 0 < kind (next l).here
      → Lays xs (j.below ++ add (Free (at - start)) j.above) j.slots j.unused
  joined-other l k = grind arith

  module _ (l : at < length xs) (k : kind (next l).here ≡ 0) where
    abbrev pub one : Freeing
    one = record { below = j.below; here = (next l).here; above = (next l).above; slots = j.slots; unused = j.unused }

    pub may-free : MayFree one start at xs
    may-free = grind arith

    -- a Free block above
    pub joined-two : (new : List ℕ) → ((f : Freeing) → MayFree f start at xs
        → Lays new (f.below ++ (free (at + size f.here - start) ++ f.above)) f.slots f.unused)
        → Lays new (j.below ++ add (Free (at - start)) j.above) j.slots j.unused
    joined-two new made =
        let n = next l in
        let f : free (at + size n.here - start) ≡ Free (at - start + size n.here) ∷ [] = grind arith in
        subst (λ q. Lays new (j.below ++ q) j.slots j.unused)
        (ap (λ q. q ++ n.above) f ∙ sym (ap (add (Free (at - start))) (n.is ∙ ap (λ b. b ∷ n.above) (free-is _ k)) ∙
        add-free _ _ _ (omega arith))) (made one may-free)
