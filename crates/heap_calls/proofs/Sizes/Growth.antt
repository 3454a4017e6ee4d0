use Rattle.heap_calls.proofs.Cited.{◌≡◌, ℕ, ◌+◌, ◌-◌, ◌<◌, zero, suc, Bool, true, false, not, ◌&&◌, List, [], ◌∷◌, ◌++◌, refl, sym, ◌∙◌, ap}
use Rattle.heap_calls.proofs.Cited.{subst, cond, Option, Some, None, is_some, none-some, same_Some, find, option_map, option_or, IfSome}
use Rattle.heap_calls.proofs.Cited.{IsSomeAnd, Block, is_purgeable, Free, size, add, tidy, has, has_free, run_spot, Spot, raised, spot}
use Rattle.heap_calls.proofs.Cited.{place, may_be_purged, lowest_purged, growth, taken, grow_up, grow_mover, move_away, FindsLowestRun}
use Rattle.heap_calls.proofs.Cited.{spared, opened, purged, FindsPlacement, FindsGrowth, Spares, OpensNone, Sparing, the_some, is_some-map}
use Rattle.heap_calls.proofs.Cited.{not_some, Placement, Growth, add-joined, map, map-id}
use Rattle.block_store.specs.declared.sparing.Sparing.TheVariants as sparing
use Rattle.heap_calls.specs.declared.growing.Growth.TheVariants as grows
use Rattle.heap_calls.proofs.Room.Searching.{placement-some}

module _ (test : Block → Bool) (new : Block) (zone : List Block) (d : ℕ) (r : Bool)
    (more : IsSomeAnd (spot test zone) (λ s. growth new s ≡ d))
    (above : IfSome (spot test zone) (λ s. r ≡ is_some (taken d s.above)))
  where
    at : (s : Spot) × (spot test zone ≡ Some s) × (growth new s ≡ d) × (r ≡ is_some (taken d s.above))
    at = the_some (spot test zone) (λ s. growth new s ≡ d) (λ s. r ≡ is_some (taken d s.above)) more above

    up : is_some (grow_up new at.0) ≡ r
    up = is_some-map (λ l. at.0.below ++ new ∷ l) (taken (growth new at.0) at.0.above)
        ∙ ap (λ n. is_some (taken n at.0.above)) at.2 ∙ sym at.3

    pub up-found : r ≡ true → FindsGrowth test new zone (Some grows.Up)
    up-found is = (at.0, at.1, up ∙ is)

    no-up : r ≡ false → grow_up new at.0 ≡ None
    no-up is = not_some (grow_up new at.0) (up ∙ is)

    pub away-found : (p : ℕ) (placement : Placement) → size new ≡ p → r ≡ false → FindsPlacement p zone (Some placement)
        → FindsGrowth test new zone (Some (grows.Away placement))
    away-found p placement e is found = let P : ℕ → Type 0 = λ n. FindsPlacement n zone (Some placement) in
        (at.0, at.1, no-up is, subst P (sym e) found)

    pub last-found : (p run : ℕ) → size new ≡ p → r ≡ false → place p zone ≡ None
        → FindsLowestRun (λ run. has test run && has_free d run) zone (Some run)
        → FindsGrowth test new zone (Some (grows.Last run))
    last-found p run e is none found =
        let P : ℕ → Type 0 = λ n. FindsLowestRun (λ run. has test run && has_free n run) zone (Some run) in
        (at.0, at.1, no-up is, ap (λ n. place n zone) e ∙ none, subst P (sym at.2) found)

    pub none-found : (p : ℕ) → size new ≡ p → r ≡ false → place p zone ≡ None
        → FindsLowestRun (λ run. has test run && has_free d run) zone None → FindsGrowth test new zone None
    none-found p e is none found = rw (
      at.1,
      no-up is,
      ap (λ n. place n zone) e
          ∙ none,
      ap (λ n. run_spot (λ run. has test run && has_free n run) zone) at.2 ∙ found,
    ) refl

-- where a way to grow is found, the block grows
pub growth-some : (test : Block → Bool) (new : Block) (zone : List Block) → 0 < size new → (o : Option Growth)
    → FindsGrowth test new zone o → is_some o ≡ true → is_some (grow_mover test new zone) ≡ true
growth-some test new zone pos None found is = let f : false ≡ true = is in cc
growth-some test new zone pos (Some grows.Up) found is = rw found.1 (either (grow_up new found.0) _ found.2)
  where
    either : (a b : Option (List Block)) → is_some a ≡ true → is_some (option_or a b) ≡ true
    either None b e = let f : false ≡ true = e in cc
    either (Some x) b e = refl
growth-some test new zone pos (Some (grows.Away placement)) found is =
    rw (found.1, found.2) (either (move_away test new zone) _ (is_some-map _ (place (size new) zone)
    ∙ placement-some (size new) zone pos (Some placement) found.3 refl))
  where
    either : (a b : Option (List Block)) → is_some a ≡ true → is_some (option_or a b) ≡ true
    either None b e = let f : false ≡ true = e in cc
    either (Some x) b e = refl
growth-some test new zone pos (Some (grows.Last run)) found is = rw (found.1, found.2, found.3, found.4.1) refl

pub spot-find : (test : Block → Bool) (bs : List Block) → option_map (λ (s : Spot). s.here) (spot test bs)
    ≡ find test bs
spot-find test [] = refl
spot-find test (b ∷ bs) = cases (test b) (spot test bs) (spot-find test bs)
  where
    cases : (t : Bool) (o : Option Spot) → option_map (λ (s : Spot). s.here) o ≡ find test bs
        → option_map (λ (s : Spot). s.here) (cond t (Some (record { below = []; here = b; above = bs }))
        (option_map (raised b) o)) ≡ cond t (Some b) (find test bs)
    cases true o e = refl
    cases false None e = e
    cases false (Some s) e = e

find-add : (test : Block → Bool) → ((n : ℕ) → test (Free n) ≡ false) → (b : Block) (bs : List Block)
    → find test (add b bs) ≡ cond (test b) (Some b) (find test bs)
find-add test none = add-joined (find test) (λ bs. rw (none 0) refl) (λ n m bs. rw (none (n + m), none n, none m) refl)

pub find-tidy : (test : Block → Bool) → ((n : ℕ) → test (Free n) ≡ false) → (bs : List Block)
    → find test (tidy bs) ≡ find test bs
find-tidy test none [] = refl
find-tidy test none (b ∷ bs) = find-add test none b (tidy bs) ∙ ap (cond (test b) (Some b)) (find-tidy test none bs)

-- a block that is spared stays
pub find-lowest_purged : (test sp : Block → Bool) → ((n : ℕ) → test (Free n) ≡ false)
    → ((b : Block) → test b ≡ true → sp b ≡ true) → (k : ℕ) (bs : List Block)
    → find test (lowest_purged k sp bs) ≡ find test bs
find-lowest_purged test sp none spares zero bs = refl
find-lowest_purged test sp none spares (suc k) [] = refl
find-lowest_purged test sp none spares (suc k) (b ∷ bs) = cases (may_be_purged sp b) refl
    (find-lowest_purged test sp none spares k bs)
    (find-lowest_purged test sp none spares (suc k) bs)
  where
    gone : (t u : Bool) → u ≡ true → (t && not u) ≡ false
    gone t true e = elim t as (λ t. (t && false) ≡ false) [ true ↦ refl | false ↦ refl ]
    gone t false e = let f : false ≡ true = e in cc

    stays : (t : Bool) → test b ≡ t → may_be_purged sp b ≡ true → test b ≡ false
    stays true e go = let f : false ≡ true = sym (gone (is_purgeable b) (sp b) (spares b e)) ∙ go in cc
    stays false e go = e

    cases : (m : Bool) → may_be_purged sp b ≡ m → find test (lowest_purged k sp bs) ≡ find test bs
        → find test (lowest_purged (suc k) sp bs) ≡ find test bs
        → find test (cond m (Free (size b) ∷ lowest_purged k sp bs) (b ∷ lowest_purged (suc k) sp bs))
        ≡ cond (test b) (Some b) (find test bs)
    cases true e one more = rw (none (size b), stays (test b) refl e) one
    cases false e one more = ap (cond (test b) (Some b)) more

-- a search that counts no block as Free looks at the zone as it is
pub opened-whole : (nd : Sparing) → OpensNone nd → (zone : List Block) → opened nd zone ≡ zone
opened-whole sparing.Nothing whole zone = refl
opened-whole (sparing.One slot) whole zone = refl
opened-whole (sparing.Two slot other) whole zone = refl
opened-whole (sparing.Freed slot) whole zone = (λ i. map (λ b. whole b i) zone) ∙ map-id zone

find-opened : (test : Block → Bool) (n : Sparing) → ((m : ℕ) → test (Free m) ≡ false) → (zone : List Block)
    → OpensNone n → find test (opened n zone) ≡ find test zone
find-opened test n none zone s = ap (find test) (opened-whole n s zone)

-- a block that is spared is the same after purges
pub find-purged : (test : Block → Bool) (n : Sparing) → ((m : ℕ) → test (Free m) ≡ false) → Spares n test → OpensNone n
    → (k : ℕ) (zone : List Block) → find test (purged k n zone) ≡ find test zone
find-purged test n none spares stays k zone = find-tidy test none (lowest_purged k (spared n) (opened n zone))
    ∙ find-lowest_purged test (spared n) none spares k (opened n zone) ∙ find-opened test n none zone stays

pub block-stays : (test : Block → Bool) (P : Block → Type 0) (n : Sparing) → ((m : ℕ) → test (Free m) ≡ false)
    → Spares n test → OpensNone n → (k : ℕ) (zone : List Block) → IsSomeAnd (spot test zone) (λ s. P s.here)
    → IsSomeAnd (spot test (purged k n zone)) (λ s. P s.here)
block-stays test P n none spares stays k zone h =
    by_here (spot test zone) (spot test (purged k n zone)) (spot-find test zone
    ∙ sym (spot-find test (purged k n zone) ∙ find-purged test n none spares stays k zone)) h
  where
    by_here : (a b : Option Spot) → option_map (λ (s : Spot). s.here) a ≡ option_map (λ (s : Spot). s.here) b
        → IsSomeAnd a (λ s. P s.here) → IsSomeAnd b (λ s. P s.here)
    by_here None b e h = absurd h
    by_here (Some s) None e h = absurd (none-some _ (sym e))
    by_here (Some s) (Some t) e h = subst P (same_Some _ _ e) h

pub growth-stays : (test : Block → Bool) (new : Block) (d : ℕ) (n : Sparing) → ((m : ℕ) → test (Free m) ≡ false)
    → Spares n test → OpensNone n → (k : ℕ) (zone : List Block) → IsSomeAnd (spot test zone) (λ s. growth new s ≡ d)
    → IsSomeAnd (spot test (purged k n zone)) (λ s. growth new s ≡ d)
growth-stays test new d n none spares stays k zone h =
    block-stays test (λ b. size new - size b ≡ d) n none spares stays k zone h
