-- Where a pass that empties blocks begins, and what it makes of the zone that bytes spell.
use Rattle.zone_marks.proofs.Cited.{span-free, free_of, Block, size, sizes, free, free_sum, tidy, Seen, ◌≡◌, ℕ, zero, suc, Bool, true}
use Rattle.zone_marks.proofs.Cited.{false, cond, ◌+◌, ◌-◌, ◌≤◌, rules, Option, Some, None, List, [], ◌∷◌, ◌++◌, sym, refl, ap, ◌∙◌, subst}
use Rattle.zone_marks.proofs.Cited.{arith, append_assoc, append-nil, none-some, same_Some, option_map, Closed, last_free, Spot, raised}
use Rattle.zone_marks.proofs.Cited.{spot, spot_at, may_be_purged, lowest_purged, spared, opened, purged, Sparing, Apart, apart-tidied}
use Rattle.zone_marks.proofs.Cited.{apart-above, tidy-apart, total-tidy, spot-is, spot-passes, total-append, apart-front, ending}
use Rattle.zone_marks.proofs.Cited.{masters-lowest_purged, masters-opened, free_of-le, zone_in, Freeing, MayRelease, IsSound, Purge}
use Rattle.zone_marks.proofs.Cited.{Purging, Purged, MayPurge, purge_above, purge_zone, left_in, IsOnWay, Steps, Lays, slot_in, span-append}
use Rattle.zone_marks.proofs.Cited.{whole, low, left-zone, Read, read, way, Gained, gained}
use Rattle.zone_bytes.proofs.Joined.Ways.{left as left-there}

-- a pass may begin below blocks that are as they were
begun : (p : Purge) (n : Sparing) (start at k : ℕ) (xs : List ℕ) (done rest : List Block)
    → Lays xs p.zone p.slots p.unused → tidy p.zone ≡ p.zone → free_sum p.zone ≡ p.free
    → p.zone ≡ done ++ (free (at - start) ++ rest)
    → tidy (done ++ (free (at - start) ++ lowest_purged k (spared n) (opened n rest))) ≡ tidy p.goal
    → sizes done ≡ start → p.from ≡ start → start ≤ at → Closed done → Purging p n start at k 0 xs
begun p n start at k xs done rest lays tidied had is will low from up closed =
    let a = subst Apart is (apart-tidied p.zone tidied) in
    grind (arith, tidy-apart, apart-front, apart-above, append-nil)

-- so it does at the Free bytes above which no other of the blocks below a place lies
starts : (p : Purge) (n : Sparing) (at k : ℕ) (xs : List ℕ) (below rest : List Block) → Lays xs p.zone p.slots p.unused
    → tidy p.zone ≡ p.zone → free_sum p.zone ≡ p.free → p.zone ≡ below ++ rest
    → tidy (below ++ lowest_purged k (spared n) (opened n rest)) ≡ tidy p.goal → sizes below ≡ at
    → p.from + last_free 0 below ≡ at → Purging p n p.from at k 0 xs
starts p n at k xs below rest lays tidied had is will low from =
    let d = ending below (apart-front below rest (subst Apart is (apart-tidied p.zone tidied))) in
    let l : last_free 0 below ≡ at - p.from = omega arith in
    let parts : (above : List Block) → below ++ above ≡ d.lower ++ (free (at - p.from) ++ above) =
    λ above. ap (λ q. q ++ above) (d.is ∙ ap (λ k. d.lower ++ free k) l)
    ∙ append_assoc d.lower (free (at - p.from)) above in
    begun p n p.from at k xs d.lower rest lays tidied had (is ∙ parts rest) (ap tidy (sym (parts _)) ∙ will)
    (omega (arith, ap sizes d.is, span-append, span-free)) refl (omega arith) d.closed

last-one : (n : ℕ) (below : List Block) (b : Block) → last_free n (below ++ b ∷ []) ≡ free_of b
last-one n [] b = refl
last-one n (c ∷ below) b = last-one _ below b

-- above a block
module _ (f : Freeing) (place : ℕ) (xs : List ℕ) (m : MayPurge f place xs) where
  pub place-read : Read xs f.here place
  place-read = read xs f.below f.here f.above f.slots f.unused m.lays place m.low

  pub place-way : IsOnWay place xs
  place-way = way xs f.below (f.here ∷ f.above) f.slots f.unused m.lays place m.low

  module _ (purges : ℕ) (n now : Sparing) (same : (b : Block)
      → spared now b ≡ spared n b) (none : (blocks : List Block) → opened now blocks ≡ blocks) (block : Seen) (stop : ℕ)
      (s : Steps place block stop xs) where
    here-is : s.here ≡ f.here
    here-is =
        let e : s.here ∷ left_in stop xs ≡ f.here ∷ f.above =
        sym s.is ∙ left-there xs f.below (f.here ∷ f.above) f.slots f.unused m.lays place m.low in cc

    after : lowest_purged purges (spared now) (opened now f.above) ≡ lowest_purged purges (spared n) f.above
    after = ap (lowest_purged purges (spared now)) (none f.above) ∙ (λ i. lowest_purged purges (λ b. same b i) f.above)

    pub above-start : (bytes : ℕ) → bytes ≡ free_of s.here
        → Purging (purge_above (stop - bytes) f purges n) now (stop - bytes) stop purges 0 xs
    above-start bytes e =
        let q : stop ≡ place + size f.here = sym s.up ∙ ap (λ b. place + size b) here-is in
        let one = append_assoc f.below (f.here ∷ []) in
        starts (purge_above (stop - bytes) f purges n) now stop purges xs (f.below ++ f.here ∷ []) f.above m.lays
        m.tidied refl (sym (one f.above)) (ap tidy (one _) ∙ ap (λ q. tidy (f.below ++ f.here ∷ q)) after)
        (omega (arith, span-append))
        (omega (arith, last-one 0 f.below f.here, e ∙ ap free_of here-is, free_of-le f.here))

-- the blocks below the lowest that goes stay
lowest_purged-spot : (k : ℕ) (sp : Block → Bool) (zone : List Block) (s : Spot) → spot (may_be_purged sp) zone ≡ Some s
    → lowest_purged k sp zone ≡ s.below ++ lowest_purged k sp (s.here ∷ s.above)
lowest_purged-spot zero sp zone s e = spot-is (may_be_purged sp) _ s e
lowest_purged-spot (suc k) sp [] s e = absurd (none-some _ e)
lowest_purged-spot (suc k) sp (b ∷ zone) s e = cases (may_be_purged sp b) refl (spot (may_be_purged sp) zone)
    (lowest_purged-spot (suc k) sp zone) e
  where
    cases : (t : Bool) → may_be_purged sp b ≡ t → (o : Option Spot)
        → ((s : Spot) → o ≡ Some s → lowest_purged (suc k) sp zone ≡ s.below ++ lowest_purged (suc k) sp
        (s.here ∷ s.above))
        → cond t (Some (record { below = []; here = b; above = zone })) (option_map (raised b) o) ≡ Some s
        → lowest_purged (suc k) sp (b ∷ zone) ≡ s.below ++ lowest_purged (suc k) sp (s.here ∷ s.above)
    cases true is o more e = ap (λ (s : Spot). s.below ++ lowest_purged (suc k) sp (s.here ∷ s.above)) (same_Some _ _ e)
    cases false is None more e = absurd (none-some _ e)
    cases false is (Some s') more e = grind arith

module _ (xs : List ℕ) (first number : ℕ) (i : IsSound xs first number) (purges : ℕ) (n : Sparing) where
  -- over the whole zone
  pub all-start : Purging (purge_zone 0 xs i.unused purges n) n 0 0 purges 0 xs
  all-start = starts (purge_zone 0 xs i.unused purges n) n 0 purges xs [] (zone_in xs) i.lays i.tidied refl refl refl
      refl refl

  -- from the lowest block on that goes
  module _ (s : Spot) (e : spot (may_be_purged (spared n)) (zone_in xs) ≡ Some s) (place : ℕ)
      (low : sizes s.below ≡ place)
      (none : (blocks : List Block) → opened n blocks ≡ blocks) where
    abbrev pub going : Freeing
    going = record { below = s.below; here = s.here; above = s.above; slots = slot_in xs; unused = i.unused }

    pub going-is : zone_in xs ≡ s.below ++ s.here ∷ s.above
    going-is = spot-is (may_be_purged (spared n)) (zone_in xs) s e

    pub may-go : MayRelease going place xs
    may-go = grind (arith, going-is, spot-passes)

    module _ (start : ℕ) (found : (below above : List Block) → left_in 0 xs ≡ below ++ above → sizes below ≡ place
        → start + last_free 0 below ≡ place) where
      pub lowest-start : Purging (purge_zone start xs i.unused purges n) n start place purges 0 xs
      lowest-start = starts (purge_zone start xs i.unused purges n) n place purges xs s.below (s.here ∷ s.above) i.lays
          i.tidied refl going-is (ap (λ q. tidy (s.below ++ lowest_purged purges (spared n) q)) (none _)
          ∙ ap tidy (sym (lowest_purged-spot _ (spared n) _ s e))
          ∙ ap (λ q. tidy (lowest_purged purges (spared n) q)) (sym (none (zone_in xs)))) low
          (found s.below (s.here ∷ s.above) (left-zone xs ∙ going-is) low)

  pub purge-gained : (from stop : ℕ) (new : List ℕ) (more : ℕ)
      → Purged (purge_zone from xs i.unused purges n) stop more new
      → Gained xs new first number more (purged purges n (zone_in xs))
  purge-gained from stop new more d = search (rules, gained, total-tidy, masters-lowest_purged, masters-opened)

  -- above a place
  module _ (place : ℕ) (s : Spot) (e : spot_at place (zone_in xs) ≡ Some s) where
    abbrev pub spot-at : Freeing
    spot-at = record { below = s.below; here = s.here; above = s.above; slots = slot_in xs; unused = i.unused }

    is : zone_in xs ≡ s.below ++ s.here ∷ s.above
    is = whole xs first number i place s e

    pub may-purge : MayPurge spot-at place xs
    may-purge = let z = is in let l = low xs first number i place s e in grind arith

    abbrev left : List Block
    left = s.below ++ s.here ∷ lowest_purged purges (spared n) s.above

    pub above-gained : (from stop : ℕ) (new : List ℕ) (more : ℕ)
        → ((f : Freeing) → MayPurge f place xs → Purged (purge_above from f purges n) stop more new)
        → Gained xs new first number more (tidy (s.below ++ s.here ∷ lowest_purged purges (spared n) s.above))
    above-gained from stop new more after =
        let d = after spot-at may-purge in
        gained _ _ _ number more i left d.lays (d.count ∙ ap (λ z. free_sum z + more) (sym is))
        (grind (arith, total-tidy, total-append, masters-lowest_purged, is))
