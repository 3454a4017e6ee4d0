-- One step of a pass that empties blocks, and its end.
use Rattle.zone_marks.proofs.Cited.{◌≡◌, ℕ, ◌+◌, ◌-◌, ◌≤◌, Some, None, List, [], ◌∷◌, ◌++◌, length, sym, ap, ◌∙◌, subst, arith}
use Rattle.zone_marks.proofs.Cited.{append_assoc, Block, size, sizes, free, free_of, free_sum, lowest_purged, Seen, spared, opened}
use Rattle.zone_marks.proofs.Cited.{opened_block, left_past, Sparing, total-append, Apart, apart-tidied, tidy-apart, joined-below}
use Rattle.zone_marks.proofs.Cited.{closed-apart, closed-tidy, closed-free, lowest_purged-none, lowest_purged-free, lowest_purged-kept}
use Rattle.zone_marks.proofs.Cited.{opened-same, size-opened, left_in, IsOnWay, Steps, Lays, Freeing, MayFree, Replaced, Purge, Purging}
use Rattle.zone_marks.proofs.Cited.{Purged, span-append, span-free, left-none, way, left, free-fits, GREATEST_ZONE}

module _ (p : Purge) (n : Sparing) (start at k freed : ℕ) (xs : List ℕ) (u : Purging p n start at k freed xs) where
  abbrev gap : List Block
  gap = free (at - start)

  here-laid : Lays xs ((u.done ++ gap) ++ u.rest) p.slots p.unused
  here-laid = subst (λ q. Lays xs q p.slots p.unused) (sym (append_assoc u.done gap u.rest)) u.lays

  here-low : sizes (u.done ++ gap) ≡ at
  here-low = omega (arith, span-append, span-free)

  pub freed-fits : freed ≤ GREATEST_ZONE
  freed-fits = omega (arith, free-fits)

  -- the blocks up to there became others
  replaced-as : (zone : List Block) → zone ≡ u.done ++ (gap ++ u.rest) → Replaced p.from at p.zone zone
  replaced-as zone e = record {
    below = u.below;
    here = u.was;
    there = u.now ++ gap;
    above = u.rest;
    was = u.zone_is;
    is = grind (arith, append_assoc);
    low = u.base;
    high = u.span;
    span = omega (arith, span-append, span-free (at - start), ap sizes u.done_is);
  }

  -- no purges are left, and no block counts as Free
  pub stopped : k ≡ 0 → at ≤ start → ((blocks : List Block) → opened n blocks ≡ blocks) → Purged p at freed xs
  stopped z l none = grind (arith, closed-apart, apart-tidied, tidy-apart, replaced-as)

  -- the pass goes on with a block, or is at the zone's end
  pub pass-way : IsOnWay at xs
  pass-way = way xs (u.done ++ gap) u.rest p.slots p.unused here-laid at here-low

  pub rest-is : left_in at xs ≡ u.rest
  rest-is = left xs (u.done ++ gap) u.rest p.slots p.unused here-laid at here-low

  pub purged : length xs ≤ at → Purged p at freed xs
  purged l =
      let e : u.rest ≡ [] = sym rest-is ∙ left-none at xs pass-way l in
      grind (arith, lowest_purged-none, closed-free, replaced-as)

  -- the next block
  pub record Next (stop : ℕ) : Type 0 where
    pub here : Block
    pub above : List Block
    pub is : u.rest ≡ here ∷ above
    pub up : at + size here ≡ stop

  abbrev pub next : (block : Seen) (stop : ℕ) → Steps at block stop xs → Next stop
  next block stop s =
      record { here = s.here; above = left_in stop xs; is = sym rest-is ∙ s.is; up = s.up }

  module _ (stop : ℕ) (v : Next stop) where
    -- the block becomes Free
    module _ (m : ℕ) (e : left_past (spared n) k (opened_block n v.here) ≡ Some m) where
      abbrev pub freeing : Freeing
      freeing = record { below = u.done; here = v.here; above = v.above; slots = p.slots; unused = p.unused }

      pub may-free : MayFree freeing start at xs
      may-free = grind arith

      pub freed-next : (new : List ℕ) → ((f : Freeing) → MayFree f start at xs
          → Lays new (f.below ++ (free (at + size f.here - start) ++ f.above)) f.slots f.unused)
          → (more : ℕ) → free_of v.here + more ≡ size v.here → Purging p n start stop m (freed + more) new
      freed-next new made more f =
          let after = lowest_purged m (spared n) (opened n v.above) in
          record {
            done = u.done;
            rest = v.above;
            lays = subst (λ q. Lays new (u.done ++ (free (q - start) ++ v.above)) p.slots p.unused) v.up
                (made freeing may-free);
            low = u.low;
            up = omega arith;
            tidied = u.tidied;
            closed = u.closed;
            will = grind (arith, joined-below, size-opened, lowest_purged-free);
            count = grind (arith, total-append);
            apart = tidy-apart v.above (subst Apart v.is (apart-tidied u.rest u.apart)).1;
            below = u.below;
            was = u.was ++ v.here ∷ [];
            now = u.now;
            zone_is = grind (arith, append_assoc);
            done_is = u.done_is;
            base = u.base;
            span = omega (arith, span-append);
          }

    -- the block stays
    module _ (e : left_past (spared n) k (opened_block n v.here) ≡ None) where
      abbrev more : List Block
      more = u.done ++ (gap ++ v.here ∷ [])

      pub kept-next : Purging p n stop stop k freed xs
      kept-next = record {
        done = more;
        rest = v.above;
        lays = grind (arith, append_assoc);
        low = omega (arith, span-append, span-free);
        up = omega arith;
        tidied = (closed-tidy u.done (at - start) v.here u.tidied u.closed (grind (arith, opened-same))).0;
        closed = (closed-tidy u.done (at - start) v.here u.tidied u.closed (grind (arith, opened-same))).1;
        will = grind (arith, opened-same, append_assoc, lowest_purged-kept);
        count = ap free_sum (grind (arith, append_assoc)) ∙ u.count;
        apart = tidy-apart v.above (subst Apart v.is (apart-tidied u.rest u.apart)).1;
        below = u.below;
        was = u.was ++ v.here ∷ [];
        now = u.now ++ (gap ++ v.here ∷ []);
        zone_is = grind (arith, append_assoc);
        done_is = ap (λ d. d ++ (gap ++ v.here ∷ [])) u.done_is ∙ append_assoc u.below u.now (gap ++ v.here ∷ []);
        base = u.base;
        span = omega (arith, span-append);
      }
