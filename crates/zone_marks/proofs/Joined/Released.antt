-- A block that is made Free, and its Free neighbours one with it.
use Rattle.zone_marks.proofs.Cited.{next, joined-none, joined-other, joined-two, kind, cases_lt, inl, inr, ◌≤◌, ◌≡◌, ℕ, ◌+◌, ◌-◌, ◌<◌, ◌⊎◌}
use Rattle.zone_marks.proofs.Cited.{length, List, [], ◌∷◌, ◌++◌, sym, refl, ap, ◌∙◌, subst, arith, append_assoc, Block, Free, size, sizes}
use Rattle.zone_marks.proofs.Cited.{free, add, tidy, last_free, apart-tidied, apart-above, tidy-apart, Ending, ending, apart-front}
use Rattle.zone_marks.proofs.Cited.{released-tidy, left_in, IsOnWay, Lays, free_first, Begins, Replaced, LeadsUp, Freeing, MayFree}
use Rattle.zone_marks.proofs.Cited.{MayRelease, Joining, MayJoin, span-append, span-free, way, left, inside, Read, read, GREATEST_ZONE}
use Rattle.zone_bytes.proofs.Joined.Above.{one, may-free as free-one}
use Rattle.zone_marks.proofs.Marks.Passing.{parts}
use Rattle.zone_marks.proofs.Marks.Keeping.{joined-replaced, first-small}

-- the Free bytes at the lower end tell whether the first block is Free
first-free : (b : Block) (above : List Block) → 0 < free_first (b ∷ above) → kind b ≡ 0
first-free (Free n) above s = refl
first-free _ above s = absurd (omega arith)

first-other : (b : Block) (above : List Block) → 16 ≤ size b → free_first (b ∷ above) ≤ 0 → 0 < kind b
first-other (Free n) above s z = absurd (omega arith)
first-other _ above s z = omega arith

module _ (f : Freeing) (place : ℕ) (xs : List ℕ) (m : MayRelease f place xs) where
  abbrev all : List Block
  all = f.below ++ f.here ∷ f.above

  -- a walk from a landmark comes to the block
  pub leads-up : (from : ℕ) → Begins from 0 all → (from < place) ⊎ (from ≡ 0) → LeadsUp from place xs
  leads-up from b u =
      let r = parts from 0 all b in
      let k : sizes r.below ≡ from = omega arith in
      let h = subst (λ z. Lays xs z f.slots f.unused) r.is m.lays in
      let l = left _ [] all f.slots f.unused m.lays 0 refl in
      let a = left _ _ _ f.slots _ h _ k in
      let w = way xs r.below r.above f.slots f.unused h from k in
      grind arith

  pub here-read : Read xs f.here place
  here-read = read xs f.below f.here f.above f.slots f.unused m.lays place m.low

  pub end : Ending f.below
  end = ending f.below (apart-front f.below (f.here ∷ f.above) (apart-tidied all m.tidied))

  above-tidy : tidy f.above ≡ f.above
  above-tidy = tidy-apart f.above (apart-above f.below (f.here ∷ f.above) (apart-tidied all m.tidied)).1

  -- the Free block below begins at `start`
  module _ (start : ℕ) (found : (below above : List Block) → left_in 0 xs ≡ below ++ above → sizes below ≡ place
      → start + last_free 0 below ≡ place) where
    starts : start + last_free 0 f.below ≡ place
    starts = found f.below (f.here ∷ f.above) (left xs [] all f.slots f.unused m.lays 0 refl) m.low

    pub below-is : f.below ≡ end.lower ++ free (place - start)
    below-is = end.is ∙ ap (λ n. end.lower ++ free n) (omega (arith, starts))

    abbrev pub lower : Freeing
    lower = record { below = end.lower; here = f.here; above = f.above; slots = f.slots; unused = f.unused }

    pub lower-low : sizes end.lower ≡ start
    lower-low = omega (arith, span-append, span-free, ap sizes below-is, starts)

    pub may-free : MayFree lower start place xs
    may-free = grind (arith, append_assoc, lower-low, starts)

    abbrev pub freed : Joining
    freed = record { below = end.lower; above = f.above; slots = f.slots; unused = f.unused }

    -- after the block became one with the Free bytes below it
    module _ (stop : ℕ) (t : stop ≡ place + size f.here) (mid : List ℕ)
        (made : (g : Freeing) → MayFree g start place xs
        → Lays mid (g.below ++ (free (place + size g.here - start) ++ g.above)) g.slots g.unused) where
      pub may-join : MayJoin freed start stop mid
      may-join = let z = made lower may-free in grind (arith, lower-low, starts, here-read)

      low-stop : sizes (end.lower ++ free (stop - start)) ≡ stop
      low-stop = omega (arith, span-append, span-free, lower-low, starts)

      lays-stop : Lays mid ((end.lower ++ free (stop - start)) ++ f.above) f.slots f.unused
      lays-stop = grind (arith, append_assoc, may-join)

      -- what is above it
      pub stop-way : IsOnWay stop mid
      stop-way = way mid (end.lower ++ free (stop - start)) f.above f.slots f.unused lays-stop stop low-stop

      pub stop-left : left_in stop mid ≡ f.above
      stop-left = left mid (end.lower ++ free (stop - start)) f.above f.slots f.unused lays-stop stop low-stop

      pub stop-fits : stop + sizes f.above ≡ length mid
      stop-fits = inside mid (end.lower ++ free (stop - start)) f.above f.slots f.unused lays-stop stop low-stop

      -- and with the Free block above it, if there is one
      released : (new : List ℕ) → Lays new (end.lower ++ add (Free (stop - start)) f.above) f.slots f.unused
          → Lays new (tidy (f.below ++ Free (size f.here) ∷ f.above)) f.slots f.unused
      released new joined =
          let z = released-tidy _ _ _ _ _ (omega (arith, here-read.some)) below-is end.apart end.closed above-tidy in
          subst (λ q. Lays new q f.slots f.unused) (ap (λ n. end.lower ++ add (Free n) f.above) (omega (arith, starts))
          ∙ sym z) joined

      module _ (more : ℕ) (e : more ≡ free_first (left_in stop mid)) where
        first : more ≡ free_first f.above
        first = e ∙ ap free_first stop-left

        pub stop-more : stop + more ≤ GREATEST_ZONE
        stop-more = omega (arith, first, first-small, stop-fits, lays-stop.small)

        pub freed-replaced : Replaced start (stop + more) all (tidy (f.below ++ Free (size f.here) ∷ f.above))
        freed-replaced =
            let k = here-read.some in
            joined-replaced _ _ _ _ _ _ _ _ _
            (ap (λ k. k ++ f.here ∷ f.above) below-is
            ∙ append_assoc end.lower (free (place - start)) (f.here ∷ f.above))
            (released-tidy _ _ _ _ _ (omega arith) below-is end.apart end.closed above-tidy) refl (omega arith)
            lower-low (omega (arith, first, starts))

        pub released-one : more ≤ 0 → Lays mid (tidy (f.below ++ Free (size f.here) ∷ f.above)) f.slots f.unused
        released-one z = released mid (elim (cases_lt stop (length mid)) [
          | inl l ↦ let n = next freed start stop mid may-join l in
              joined-other freed start stop mid may-join l
              (first-other n.here n.above n.tells.some (omega (arith, first ∙ ap free_first n.is)))
          | inr l ↦ joined-none freed start stop mid may-join l
        ])

        module _ (s : 0 < more) where
          some-there : stop < length mid
          some-there = omega (arith, first, first-small, stop-fits)

          free-there : kind (next freed start stop mid may-join some-there).here ≡ 0
          free-there = let n = next freed start stop mid may-join some-there in
              first-free n.here n.above (omega (arith, first ∙ ap free_first n.is))

          pub may-free-two : (g : Freeing) × MayFree g start stop mid
          may-free-two = (
            one freed start stop mid may-join some-there free-there,
            free-one freed start stop mid may-join some-there free-there,
          )

          pub released-two : (new : List ℕ) → ((g : Freeing) → MayFree g start stop mid
              → Lays new (g.below ++ (free (stop + size g.here - start) ++ g.above)) g.slots g.unused)
              → Lays new (tidy (f.below ++ Free (size f.here) ∷ f.above)) f.slots f.unused
          released-two new joined =
              released new (joined-two freed start stop mid may-join some-there free-there new joined)
