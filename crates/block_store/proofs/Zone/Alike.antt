use Rattle.block_store.proofs.Cited.{◌≡◌, ℕ, ◌+◌, ◌-◌, ◌≤◌, zero, suc, Bool, true, false, not, ◌&&◌, List, [], ◌∷◌, ◌++◌, refl, sym, ◌∙◌}
use Rattle.block_store.proofs.Cited.{ap, cond, arith, Option, Some, None, filter, ◌⊎◌, inl, inr, cond-true, cond-false, and_parts, leb-true}
use Rattle.block_store.proofs.Cited.{option_and_then_some, option_map, option_or, Block, Free, Nonrelocatable, Masters, Relocatable, size}
use Rattle.block_store.proofs.Cited.{sizes, total, count, free, free_sum, is_mover, is_room, is_relocatable, add, tidy, resized, in_run}
use Rattle.block_store.proofs.Cited.{Stretch, segments, joined, change_run, has, has_free, movers, others, settle, high, low, Spot, spot}
use Rattle.block_store.proofs.Cited.{raised, filled, place, put_in_place, put_at_base, lowest_purged, purge, may_be_purged, room, growth}
use Rattle.block_store.proofs.Cited.{taken, taken_low, grow_up, grow_nonrelocatable, freed, move_away, grow_last, grow_mover, grow}
use Rattle.block_store.proofs.Cited.{settled_runs, settled, Loose}
use Rattle.block_store.proofs.Zone.Tidy.{spot-is, spot-passes}
use Rattle.block_store.proofs.Zone.Totals.{total-append, total-le}
use Rattle.block_store.proofs.Zone.Zones.{joined-segments}
use Rattle.block_store.proofs.Zone.Passing.{has-count}
use Rattle.block_store.proofs.Regroup.RunLists.{AreLoose, segments-loose}
use Rattle.block_store.proofs.Zone.Views.{map-some, or-some, room-some, change_run-some, place-some, taken-some}
use Rattle.block_store.proofs.Zone.Views.{taken_low-some, grow-some}
use Rattle.block_store.proofs.Zone.Keeping.{counts-free, apart, purged-le, filtered, freely, settle-le, high-le, three}

-- Changes of a zone that leave the lowest of certain blocks where it is: none of them is a block of a run.

-- a block that ends a run
abbrev barrier : Block → ℕ
barrier b = cond (in_run b) 0 1

-- no block ends a run
abbrev pub OneRun : List Block → Type 0
OneRun bs = total barrier bs ≤ 0

pub one-run : (bs : List Block) → Loose bs → OneRun bs
one-run [] all = omega arith
one-run (b ∷ bs) all = let r = one-run bs all.1 in let o : barrier b ≡ 0 = cond-true (in_run b) 0 1 all.0 in omega arith

-- Free bytes as blocks
pub sizes-free : (n : ℕ) → sizes (free n) ≡ n
sizes-free zero = refl
sizes-free (suc n) = omega arith

-- a run's bytes are those of the others, of those that pass and the Free ones
pub sizes-parted : (t : Block → Bool) → ((n : ℕ) → t (Free n) ≡ false) → (bs : List Block) → OneRun bs
    → sizes (others t bs) + (free_sum bs + sizes (filter t bs)) ≡ sizes bs
sizes-parted t never [] one = refl
sizes-parted t never (Free n ∷ bs) one = let r = sizes-parted t never bs (omega arith) in
    let z : filter t (Free n ∷ bs) ≡ filter t bs = rw (never n) refl in omega (arith, ap sizes z)
sizes-parted t never (Nonrelocatable id content ∷ bs) one = absurd (omega arith)
sizes-parted t never (Masters ∷ bs) one = absurd (omega arith)
sizes-parted t never (Relocatable id flags content ∷ bs) one =
    cases flags.locked (t b) one (λ le. sizes-parted t never bs le)
  where
    b : Block
    b = Relocatable id flags content

    cases : (l u : Bool) → cond {A = ℕ} (not l) 0 1 + total barrier bs ≤ 0
        → (OneRun bs → sizes (others t bs) + (free_sum bs + sizes (filter t bs)) ≡ sizes bs)
        → sizes (cond (not l && not u) (b ∷ others t bs) (others t bs)) +
        (0 + free_sum bs + sizes (cond u (b ∷ filter t bs) (filter t bs))) ≡ size b + sizes bs
    cases true u le rest = absurd (omega arith)
    cases false true le rest = let r = rest (omega arith) in omega arith
    cases false false le rest = let r = rest (omega arith) in omega arith

pub sizes-movers : (bs : List Block) → OneRun bs → sizes (movers bs) + free_sum bs ≡ sizes bs
sizes-movers [] one = refl
sizes-movers (Free n ∷ bs) one = let r = sizes-movers bs (omega arith) in omega arith
sizes-movers (Nonrelocatable id content ∷ bs) one = absurd (omega arith)
sizes-movers (Masters ∷ bs) one = absurd (omega arith)
sizes-movers (Relocatable id flags content ∷ bs) one = cases flags.locked one (λ le. sizes-movers bs le)
  where
    b : Block
    b = Relocatable id flags content

    cases : (l : Bool) → cond {A = ℕ} (not l) 0 1 + total barrier bs ≤ 0
        → (OneRun bs → sizes (movers bs) + free_sum bs ≡ sizes bs)
        → sizes (cond (not l) (b ∷ movers bs) (movers bs)) + (0 + free_sum bs) ≡ size b + sizes bs
    cases true le rest = absurd (omega arith)
    cases false le rest = let r = rest (omega arith) in omega arith

-- more bytes below
abbrev further : ℕ → Option ℕ → Option ℕ
further n o = option_map (λ k. n + k) o

further-none : (o : Option ℕ) → further 0 o ≡ o
further-none None = refl
further-none (Some k) = ap Some (let z : 0 + k ≡ k = omega arith in z)

further-twice : (n m : ℕ) (o : Option ℕ) → further n (further m o) ≡ further (n + m) o
further-twice n m None = refl
further-twice n m (Some k) = ap Some (let z : n + (m + k) ≡ n + m + k = omega arith in z)

-- the distance of the lowest block that is seen, told block by block
abbrev pub stands : (Block → Bool) → List Block → Option ℕ
stands seen [] = None
stands seen (b ∷ above) = cond (seen b) (Some 0) (further (size b) (stands seen above))

pub stands-is : (seen : Block → Bool) (zone : List Block) → option_map (λ (s : Spot). sizes s.below) (spot seen zone)
    ≡ stands seen zone
stands-is seen [] = refl
stands-is seen (b ∷ above) = cases (seen b) (spot seen above)
    ∙ ap (λ o. cond (seen b) (Some 0) (further (size b) o)) (stands-is seen above)
  where
    cases : (t : Bool) (o : Option Spot) → option_map (λ (s : Spot). sizes s.below)
        (cond t (Some (record { below = []; here = b; above = above })) (option_map (raised b) o))
        ≡ cond t (Some 0) (further (size b) (option_map (λ (s : Spot). sizes s.below) o))
    cases true o = refl
    cases false None = refl
    cases false (Some s) = refl

-- 1 for a block that is seen
abbrev pub locks : (Block → Bool) → Block → ℕ
locks seen b = cond (seen b) 1 0

locks-free : (seen : Block → Bool) (rigid : (b : Block) → in_run b ≡ true → seen b ≡ false) → (n : ℕ)
    → locks seen (Free n) ≡ 0
locks-free seen rigid n = cond-false (seen (Free n)) 1 0 (rigid (Free n) refl)

-- what is in a run isn't seen
pub unlocked-run : (seen : Block → Bool) (rigid : (b : Block) → in_run b ≡ true → seen b ≡ false) (bs : List Block)
    → OneRun bs → total (locks seen) bs ≤ 0
unlocked-run seen rigid bs one = let l = total-le (locks seen) barrier each bs in omega arith
  where
    each : (b : Block) → locks seen b ≤ barrier b
    each b = cases (in_run b) (seen b) (rigid b)
      where
        cases : (t u : Bool) → (t ≡ true → u ≡ false) → cond {A = ℕ} u 1 0 ≤ cond {A = ℕ} t 0 1
        cases true true never = let f : true ≡ false = never refl in cc
        cases true false never = omega arith
        cases false true never = omega arith
        cases false false never = omega arith

pub stands-none : (seen : Block → Bool) (bs : List Block) → total (locks seen) bs ≤ 0 → stands seen bs ≡ None
stands-none seen [] few = refl
stands-none seen (b ∷ bs) few = cases (seen b) few (λ le. stands-none seen bs le)
  where
    cases : (t : Bool) → cond {A = ℕ} t 1 0 + total (locks seen) bs ≤ 0
        → (total (locks seen) bs ≤ 0 → stands seen bs ≡ None) → cond t (Some 0) (further (size b) (stands seen bs))
        ≡ None
    cases true le rest = absurd (omega arith)
    cases false le rest = rw (rest (omega arith)) refl

pub stands-append : (seen : Block → Bool) (below above : List Block)
    → stands seen (below ++ above) ≡ option_or (stands seen below) (further (sizes below) (stands seen above))
stands-append seen [] above = sym (further-none (stands seen above))
stands-append seen (b ∷ below) above = ap (λ o. cond (seen b) (Some 0) (further (size b) o))
    (stands-append seen below above) ∙ cases (seen b) (stands seen below)
  where
    cases : (t : Bool) (o : Option ℕ) → cond t (Some 0) (further (size b)
        (option_or o (further (sizes below) (stands seen above))))
        ≡ option_or (cond t (Some 0) (further (size b) o)) (further (size b + sizes below) (stands seen above))
    cases true o = refl
    cases false None = further-twice (size b) (sizes below) (stands seen above)
    cases false (Some k) = refl

-- blocks of as many bytes, where the lowest that is seen stands at the same distance
abbrev pub Alike : (Block → Bool) → List Block → List Block → Type 0
Alike seen xs ys = (sizes xs ≡ sizes ys) × (stands seen xs ≡ stands seen ys)

module _ (seen : Block → Bool) (rigid : (b : Block) → in_run b ≡ true → seen b ≡ false)
  where
    pub alike-refl : (xs : List Block) → Alike seen xs xs
    alike-refl xs = (refl, refl)

    pub alike-then : (xs ys zs : List Block) → Alike seen xs ys → Alike seen ys zs → Alike seen xs zs
    alike-then xs ys zs a b = (a.0 ∙ b.0, a.1 ∙ b.1)

    pub alike-append : (xs xs' ys ys' : List Block) → Alike seen xs xs' → Alike seen ys ys'
        → Alike seen (xs ++ ys) (xs' ++ ys')
    alike-append xs xs' ys ys' a b = (
      total-append size xs ys ∙ ap (λ n. n + sizes ys) a.0 ∙ ap (λ n. sizes xs' + n) b.0
          ∙ sym (total-append size xs' ys'),
      stands-append seen xs ys ∙ ap (λ o. option_or o (further (sizes xs) (stands seen ys))) a.1
          ∙ ap (λ n. option_or (stands seen xs') (further n (stands seen ys))) a.0
          ∙ ap (λ o. option_or (stands seen xs') (further (sizes xs') o)) b.1 ∙ sym (stands-append seen xs' ys'),
    )

    -- one block of as many bytes, seen as the other
    pub alike-cons : (b c : Block) (xs ys : List Block) → seen b ≡ seen c → size b ≡ size c → Alike seen xs ys
        → Alike seen (b ∷ xs) (c ∷ ys)
    alike-cons b c xs ys lock same a = (
      ap (λ n. n + sizes xs) same ∙ ap (λ n. size c + n) a.0,
      ap (λ t. cond t (Some 0) (further (size b) (stands seen xs))) lock
          ∙ ap (λ n. cond (seen c) (Some 0) (further n (stands seen xs))) same
          ∙ ap (λ o. cond (seen c) (Some 0) (further (size c) o)) a.1,
    )

    -- blocks that aren't seen
    pub alike-unlocked : (xs ys : List Block) → total (locks seen) xs ≤ 0 → total (locks seen) ys ≤ 0
        → sizes xs ≡ sizes ys → Alike seen xs ys
    alike-unlocked xs ys few few' same = (same, stands-none seen xs few ∙ sym (stands-none seen ys few'))

    -- blocks that aren't seen, above one that may be
    pub alike-heads : (b c : Block) (xs ys : List Block) → seen b ≡ seen c → total (locks seen) xs ≤ 0
        → total (locks seen) ys ≤ 0 → size b + sizes xs ≡ size c + sizes ys → Alike seen (b ∷ xs) (c ∷ ys)
    alike-heads b c xs ys lock few few' same = (
      same,
      ap (λ t. cond t (Some 0) (further (size b) (stands seen xs))) lock
          ∙ ap (λ o. cond (seen c) (Some 0) (further (size b) o)) (stands-none seen xs few)
          ∙ ap (λ o. cond (seen c) (Some 0) (further (size c) o)) (sym (stands-none seen ys few')),
    )

    unseen : (n : ℕ) (bs : List Block) → stands seen (Free n ∷ bs) ≡ further n (stands seen bs)
    unseen n bs = ap (λ t. cond t (Some 0) (further n (stands seen bs))) (rigid (Free n) refl)

    alike-add : (b : Block) (bs : List Block) → Alike seen (b ∷ bs) (add b bs)
    alike-add (Free zero) bs = (
      (let z : 0 + sizes bs ≡ sizes bs = omega arith in z),
      unseen 0 bs
          ∙ further-none (stands seen bs),
    )
    alike-add (Free (suc n)) [] = (refl, refl)
    alike-add (Free (suc n)) (Free m ∷ bs) = (
      (let z : suc n + (m + sizes bs) ≡ suc n + m + sizes bs = omega arith in z),
      unseen (suc n) (Free m ∷ bs) ∙ ap (further (suc n)) (unseen m bs) ∙ further-twice (suc n) m (stands seen bs)
          ∙ sym (unseen (suc n + m) bs),
    )
    alike-add (Free (suc n)) (Nonrelocatable id content ∷ bs) = (refl, refl)
    alike-add (Free (suc n)) (Masters ∷ bs) = (refl, refl)
    alike-add (Free (suc n)) (Relocatable id flags content ∷ bs) = (refl, refl)
    alike-add (Nonrelocatable id content) bs = (refl, refl)
    alike-add Masters bs = (refl, refl)
    alike-add (Relocatable id flags content) bs = (refl, refl)

    pub alike-tidy : (bs : List Block) → Alike seen bs (tidy bs)
    alike-tidy [] = (refl, refl)
    alike-tidy (b ∷ bs) = alike-then (b ∷ bs) (b ∷ tidy bs) (add b (tidy bs))
        (alike-cons b b bs (tidy bs) refl refl (alike-tidy bs)) (alike-add b (tidy bs))

    -- what may go isn't seen
    may_be_purged-unlocked : (sp : Block → Bool) (b : Block) → may_be_purged sp b ≡ true → seen b ≡ false
    may_be_purged-unlocked sp (Free n) e = rigid (Free n) refl
    may_be_purged-unlocked sp (Nonrelocatable id content) e = let f : false ≡ true = e in cc
    may_be_purged-unlocked sp Masters e = let f : false ≡ true = e in cc
    may_be_purged-unlocked sp (Relocatable id flags content) e = rigid (Relocatable id flags content)
        (and_parts (not flags.locked) flags.purgeable (and_parts (not flags.locked && flags.purgeable)
        (not (sp (Relocatable id flags content))) e).0).0

    pub alike-lowest_purged : (k : ℕ) (sp : Block → Bool) (bs : List Block) → Alike seen bs (lowest_purged k sp bs)
    alike-lowest_purged zero sp bs = (refl, refl)
    alike-lowest_purged (suc k) sp [] = (refl, refl)
    alike-lowest_purged (suc k) sp (b ∷ bs) = cases (may_be_purged sp b) refl (alike-lowest_purged k sp bs)
        (alike-lowest_purged (suc k) sp bs)
      where
        cases : (t : Bool) → may_be_purged sp b ≡ t → Alike seen bs (lowest_purged k sp bs) → Alike seen bs
            (lowest_purged (suc k) sp bs)
            → Alike seen (b ∷ bs) (cond t (Free (size b) ∷ lowest_purged k sp bs) (b ∷ lowest_purged (suc k) sp bs))
        cases true e a a' = alike-cons b (Free (size b)) bs (lowest_purged k sp bs)
            (may_be_purged-unlocked sp b e ∙ sym (rigid (Free (size b)) refl)) refl a
        cases false e a a' = alike-cons b b bs (lowest_purged (suc k) sp bs) refl refl a'

    pub alike-purged : (k : ℕ) (sp : Block → Bool) (bs : List Block) → Alike seen bs (purge k sp bs)
    alike-purged k sp bs = alike-then bs (lowest_purged k sp bs) (purge k sp bs) (alike-lowest_purged k sp bs)
        (alike-tidy (lowest_purged k sp bs))

    -- blocks that aren't seen are Free
    pub alike-freed : (test : Block → Bool) → ((b : Block) → test b ≡ true → seen b ≡ false) → (bs : List Block)
        → Alike seen bs (freed test bs)
    alike-freed test apart [] = (refl, refl)
    alike-freed test apart (b ∷ bs) = cases (test b) refl (alike-freed test apart bs)
      where
        cases : (t : Bool) → test b ≡ t → Alike seen bs (freed test bs)
            → Alike seen (b ∷ bs) (cond t (Free (size b)) b ∷ freed test bs)
        cases true e a = alike-cons b (Free (size b)) bs (freed test bs) (apart b e ∙ sym (rigid (Free (size b)) refl))
            refl a
        cases false e a = alike-cons b b bs (freed test bs) refl refl a

    -- a run in place of another
    pub alike-changed : (passes : List Block → Bool) (change : List Block → List Block)
        → ((run : List Block) → OneRun run → passes run ≡ true → Alike seen run (change run))
        → (zone z : List Block) → change_run passes change zone ≡ Some z → Alike seen zone z
    alike-changed passes change same zone z e =
        change_run-some passes change zone z (Alike seen zone z) e
        (λ r is all passed new.
        let a = alike-append r.below r.below (r.run ++ r.above) (change r.run ++ r.above) (alike-refl r.below)
        (alike-append r.run (change r.run) r.above r.above (same r.run (one-run r.run all) passed)
        (alike-refl r.above)) in
        (ap sizes is ∙ a.0 ∙ ap sizes (sym new), ap (stands seen) is ∙ a.1 ∙ ap (stands seen) (sym new)))

    pub alike-settle : (run : List Block) → OneRun run → Alike seen run (settle run)
    alike-settle run one =
        let few = unlocked-run seen rigid run one in
        alike-unlocked run (settle run) few (let l = settle-le (locks seen) (locks-free seen rigid) run in omega arith)
        (sym (total-append size (movers run) (free (free_sum run))
        ∙ ap (λ n. sizes (movers run) + n) (sizes-free (free_sum run)) ∙ sizes-movers run one))

    pub alike-high : (k : ℕ) (run : List Block) → OneRun run → Alike seen run (high (is_relocatable k) run)
    alike-high k run one =
        let few = unlocked-run seen rigid run one in
        let t : Block → Bool = is_relocatable k in
        alike-unlocked run (high t run) few (let l = high-le (locks seen) (locks-free seen rigid) t run in omega arith)
        (omega (
          arith,
          total-append size (others t run ++ free (free_sum run)) (filter t run),
          total-append size
              (others t run) (free (free_sum run)),
          sizes-free (free_sum run),
          sizes-parted t (λ n. refl) run one,
        ))

    pub alike-settled : (k : ℕ) (run : List Block) (parts : List Stretch) → Loose run → AreLoose parts
        → Alike seen (joined run parts) (settled_runs k run parts)
    alike-settled zero run parts all rest = (refl, refl)
    alike-settled (suc k) run [] all rest = alike-settle run (one-run run all)
    alike-settled (suc k) run (p ∷ parts) all rest =
        alike-append run (settle run) (p.barrier ∷ joined p.run parts) (p.barrier ∷ settled_runs k p.run parts)
        (alike-settle run (one-run run all))
        (alike-cons p.barrier p.barrier (joined p.run parts) (settled_runs k p.run parts) refl refl
        (alike-settled k p.run parts rest.0 rest.1))

    pub alike-compacted : (k : ℕ) (zone : List Block) → Alike seen zone (settled k zone)
    alike-compacted k zone =
        let all = segments-loose zone in
        let a = alike-settled k (segments zone).first (segments zone).rest all.0 all.1 in
        (ap sizes (sym (joined-segments zone)) ∙ a.0, ap (stands seen) (sym (joined-segments zone)) ∙ a.1)

    -- the zone is another list
    alike-is : (zone zone' z : List Block) → zone ≡ zone' → Alike seen zone' z → Alike seen zone z
    alike-is zone zone' z is a = (ap sizes is ∙ a.0, ap (stands seen) is ∙ a.1)

    -- a block at the lower end of another, and the rest Free
    pub alike-carved : (here new : Block) (above : List Block) → seen here ≡ seen new → size new ≤ size here
        → Alike seen (here ∷ above) (new ∷ Free (size here - size new) ∷ above)
    alike-carved here new above lock less = (
      omega arith,
      ap (λ t. cond t (Some 0) (further (size here) (stands seen above))) lock
          ∙ ap (λ o. cond (seen new) (Some 0) o) (ap (λ n. further n (stands seen above))
          (let z : size here ≡ size new + (size here - size new) = omega arith in z)
          ∙ sym (further-twice (size new) (size here - size new) (stands seen above))
          ∙ ap (further (size new)) (sym (unseen (size here - size new) above))),
    )

    pub alike-filled : (zone : List Block) (new : Block) (s : Spot) → zone ≡ s.below ++ s.here ∷ s.above
        → seen s.here ≡ seen new → size new ≤ size s.here → Alike seen zone (filled new s)
    alike-filled zone new s is lock less =
        let left : List Block = new ∷ Free (size s.here - size new) ∷ s.above in
        alike-is zone (s.below ++ s.here ∷ s.above) (filled new s) is
        (alike-then (s.below ++ s.here ∷ s.above) (s.below ++ left) (filled new s)
        (alike-append s.below s.below (s.here ∷ s.above) left (alike-refl s.below)
        (alike-carved s.here new s.above lock less)) (alike-tidy (s.below ++ left)))

    -- a Free block isn't seen
    pub room-parts : (p : ℕ) (b : Block) → is_room p b ≡ true → (seen b ≡ false) × (p ≤ size b)
    room-parts p (Free n) e = (rigid (Free n) refl, leb-true p n e)
    room-parts p (Nonrelocatable id content) e = let f : false ≡ true = e in cc
    room-parts p Masters e = let f : false ≡ true = e in cc
    room-parts p (Relocatable id flags content) e = let f : false ≡ true = e in cc

    -- a place is in a zone alike
    pub alike-placed : (p : ℕ) (zone : List Block) (s : Spot) → place p zone ≡ Some s
        → Alike seen zone (s.below ++ s.here ∷ s.above) × (is_room p s.here ≡ true)
    alike-placed p zone s e =
        place-some p zone s (Alike seen zone (s.below ++ s.here ∷ s.above) × (is_room p s.here ≡ true)) e
        (λ found. (
          alike-is zone (s.below ++ s.here ∷ s.above) (s.below ++ s.here ∷ s.above)
              (spot-is (is_room p) zone s found) (alike-refl (s.below ++ s.here ∷ s.above)),
          spot-passes (is_room p) zone
              s found,
        ))
        (λ z changed found.
        let a = alike-changed (has_free p) settle (λ run one passed. alike-settle run one) zone z changed in
        let t = alike-tidy z in
        let is = spot-is (is_room p) (tidy z) s found in
        ((a.0 ∙ t.0 ∙ ap sizes is, a.1 ∙ t.1 ∙ ap (stands seen) is), spot-passes (is_room p) (tidy z) s found))

    pub alike-put : (new : Block) → seen new ≡ false → (zone z : List Block) → put_in_place new zone ≡ Some z
        → Alike seen zone z
    alike-put new open_new zone z e =
        map-some (filled new) (place (size new) zone) z (Alike seen zone z) e
        (λ s found is.
        let p = alike-placed (size new) zone s found in let r = room-parts (size new) s.here p.1 in
        let a = alike-then zone (s.below ++ s.here ∷ s.above) (filled new s) p.0
        (alike-filled (s.below ++ s.here ∷ s.above) new s refl (r.0 ∙ sym open_new) r.1) in
        (a.0 ∙ ap sizes is, a.1 ∙ ap (stands seen) is))

    -- what leaves such blocks, after purges too
    pub alike-room : (try : List Block → Option (List Block)) → ((zone z : List Block) → try zone ≡ Some z
        → Alike seen zone z) → (sp : Block → Bool) (zone z : List Block) → room try sp zone ≡ Some z → Alike seen zone z
    alike-room try same sp zone z e =
        let r = room-some try sp zone z e in
        alike-then zone (purge r.0 sp zone) z (alike-purged r.0 sp zone) (same (purge r.0 sp zone) z r.1)

    -- a new block at the base of a run
    pub alike-low : (new : Block) → seen new ≡ false → (run : List Block) → OneRun run → has_free (size new) run ≡ true
        → Alike seen run (low new run)
    alike-low new open_new run one fits =
        let few = unlocked-run seen rigid run one in
        let left : ℕ = free_sum run - size new in
        let enough : size new ≤ free_sum run = leb-true (size new) (free_sum run) fits in
        let new_none : locks seen new ≡ 0 = cond-false (seen new) 1 0 open_new in
        let few_left : total (locks seen) (low new run) ≤ 0 = (let f = filtered (locks seen) (locks-free seen rigid)
        is_mover run in omega (
          arith,
          total-append (locks seen) (movers run) (free left),
          freely (locks seen)
              (locks-free seen rigid) left,
        )) in
        alike-unlocked run (low new run) few few_left (omega (
          arith,
          total-append size (movers run) (free left),
          sizes-free left,
          sizes-movers run one,
        ))

    pub alike-based : (new : Block) → seen new ≡ false → (zone z : List Block) → put_at_base new zone ≡ Some z
        → Alike seen zone z
    alike-based new open_new zone z e =
        map-some tidy (change_run (has_free (size new)) (low new) zone) z (Alike seen zone z) e
        (λ based changed is.
        let a = alike-changed (has_free (size new)) (low new) (alike-low new open_new) zone based changed in
        let t = alike-tidy based in
        (a.0 ∙ t.0 ∙ ap sizes is, a.1 ∙ t.1 ∙ ap (stands seen) is))

    -- a block grows into the Free one that follows
    pub alike-taken : (here new : Block) (above z : List Block) → seen here ≡ seen new → size here ≤ size new
        → taken (size new - size here) above ≡ Some z → Alike seen (here ∷ above) (new ∷ z)
    alike-taken here new above z lock less e =
        taken-some (size new - size here) above z (Alike seen (here ∷ above) (new ∷ z)) e
        (λ next rest is fits new_above.
        let r = room-parts (size new - size here) next fits in
        let left : List Block = free (size next - (size new - size here)) in
        let next_none : locks seen next ≡ 0 = cond-false (seen next) 1 0 r.0 in
        let left_none : total (locks seen) left ≡ 0 = none (size next - (size new - size here)) in
        let a = alike-append (here ∷ next ∷ []) (new ∷ left) rest rest
        (alike-heads here new (next ∷ []) left lock (omega arith) (omega arith) (let le = r.1 in
        omega (arith, sizes-free (size next - (size new - size here))))) (alike-refl rest) in (
          ap (λ l. sizes (here ∷ l)) is ∙ a.0 ∙ ap (λ l. sizes (new ∷ l)) (sym new_above),
          ap
              (λ l. stands seen (here ∷ l)) is ∙ a.1 ∙ ap (λ l. stands seen (new ∷ l)) (sym new_above),
        ))
      where
        none : (n : ℕ) → total (locks seen) (free n) ≡ 0
        none = freely (locks seen) (locks-free seen rigid)

    -- a block grows into the run that follows
    pub alike-taken_low : (sp : Block → Bool) (here new : Block) (above z : List Block) → seen here ≡ seen new
        → size here ≤ size new → taken_low (size new - size here) sp above ≡ Some z
        → Alike seen (here ∷ above) (new ∷ z)
    alike-taken_low sp here new above z lock less e =
        taken_low-some (size new - size here) sp above z (Alike seen (here ∷ above) (new ∷ z)) e
        (λ run rest k all is fits new_above.
        let left : List Block = purge k sp run in
        let d : ℕ = size new - size here in
        let after : List Block = movers left ++ free (free_sum left - d) in
        let one = one-run run all in
        let one_left : OneRun left = (let p = purged-le barrier (λ n. refl) k sp run in omega arith) in
        let few = unlocked-run seen rigid run one in
        let few_left = unlocked-run seen rigid left one_left in
        let few_after : total (locks seen) after ≤ 0 = (let f = filtered (locks seen) (locks-free seen rigid) is_mover
        left in omega (
          arith,
          total-append (locks seen) (movers left) (free (free_sum left - d)),
          none
              (free_sum left - d),
        )) in
        let enough : d ≤ free_sum left = leb-true d (free_sum left) fits in
        let same : size here + sizes run ≡ size new + sizes after =
        (let s = (alike-purged k sp run).0 in omega (
          arith,
          total-append size (movers left)
              (free (free_sum left - d)),
          sizes-free (free_sum left - d),
          sizes-movers left one_left,
        )) in
        let a = alike-append (here ∷ run) (new ∷ after) rest rest
        (alike-heads here new run after lock few few_after same) (alike-refl rest) in (
          ap (λ l. sizes (here ∷ l)) is ∙ a.0 ∙ ap (λ l. sizes (new ∷ l)) (sym new_above),
          ap
              (λ l. stands seen (here ∷ l)) is ∙ a.1 ∙ ap (λ l. stands seen (new ∷ l)) (sym new_above),
        ))
      where
        none : (n : ℕ) → total (locks seen) (free n) ≡ 0
        none = freely (locks seen) (locks-free seen rigid)

    pub alike-grown_up : (zone z : List Block) (s : Spot) (new : Block) → zone ≡ s.below ++ s.here ∷ s.above
        → seen s.here ≡ seen new → size s.here ≤ size new → grow_up new s ≡ Some z → Alike seen zone z
    alike-grown_up zone z s new is lock less e =
        map-some (λ above. s.below ++ new ∷ above) (taken (growth new s) s.above) z (Alike seen zone z) e
        (λ above took same.
        let a = alike-append s.below s.below (s.here ∷ s.above) (new ∷ above) (alike-refl s.below)
        (alike-taken s.here new s.above above lock less took) in
        (ap sizes is ∙ a.0 ∙ ap sizes same, ap (stands seen) is ∙ a.1 ∙ ap (stands seen) same))

    pub alike-stood : (sp : Block → Bool) (zone z : List Block) (s : Spot) (new : Block)
        → zone ≡ s.below ++ s.here ∷ s.above → seen s.here ≡ seen new → size s.here ≤ size new
        → grow_nonrelocatable sp new s ≡ Some z → Alike seen zone z
    alike-stood sp zone z s new is lock less e = cases (or-some (grow_up new s) _ z e)
      where
        cases : (grow_up new s ≡ Some z) ⊎ (option_map (λ above. s.below ++ new ∷ above)
            (taken_low (growth new s) sp s.above) ≡ Some z) → Alike seen zone z
        cases (inl e) = alike-grown_up zone z s new is lock less e
        cases (inr e) =
            map-some (λ above. s.below ++ new ∷ above) (taken_low (growth new s) sp s.above) z (Alike seen zone z) e
            (λ above took same.
            let a = alike-append s.below s.below (s.here ∷ s.above) (new ∷ above) (alike-refl s.below)
            (alike-taken_low sp s.here new s.above above lock less took) in
            (ap sizes is ∙ a.0 ∙ ap sizes same, ap (stands seen) is ∙ a.1 ∙ ap (stands seen) same))

-- the bytes of the blocks that pass
abbrev held : (Block → Bool) → Block → ℕ
held t b = cond (t b) (size b) 0

held-free : (t : Block → Bool) → ((n : ℕ) → t (Free n) ≡ false) → (n : ℕ) → held t (Free n) ≡ 0
held-free t never n = cond-false (t (Free n)) n 0 (never n)

held-none : (t : Block → Bool) (bs : List Block) → count t bs ≤ 0 → total (held t) bs ≡ 0
held-none t [] few = refl
held-none t (b ∷ bs) few = cases (t b) few (λ le. held-none t bs le)
  where
    cases : (u : Bool) → cond {A = ℕ} u 1 0 + count t bs ≤ 0 → (count t bs ≤ 0 → total (held t) bs ≡ 0)
        → cond u (size b) 0 + total (held t) bs ≡ 0
    cases true le rest = absurd (omega arith)
    cases false le rest = let r = rest (omega arith) in omega arith

sizes-filter : (t : Block → Bool) (bs : List Block) → sizes (filter t bs) ≡ total (held t) bs
sizes-filter t [] = refl
sizes-filter t (b ∷ bs) = cases (t b) (sizes-filter t bs)
  where
    cases : (u : Bool) → sizes (filter t bs) ≡ total (held t) bs
        → sizes (cond u (b ∷ filter t bs) (filter t bs)) ≡ cond u (size b) 0 + total (held t) bs
    cases true r = omega arith
    cases false r = omega arith

-- the only block that passes takes the bytes of all that pass
held-spot : (t : Block → Bool) (zone : List Block) (s : Spot) → spot t zone ≡ Some s → count t zone ≤ 1
    → total (held t) zone ≡ size s.here
held-spot t zone s e once =
    let a = apart t zone s e once in
    let here : held t s.here ≡ size s.here = cond-true (t s.here) (size s.here) 0 (spot-passes t zone s e) in
    omega (
      arith,
      ap (total (held t)) (spot-is t zone s e),
      total-append (held t) s.below (s.here ∷ s.above),
      held-none
          t s.below a.0,
      held-none t s.above a.1,
    )

-- the block that is left after purges takes no more
purged-size : (t : Block → Bool) → ((n : ℕ) → t (Free n) ≡ false)
    → (k : ℕ) (sp : Block → Bool) (zone : List Block) (s s' : Spot) → spot t zone ≡ Some s → count t zone ≤ 1
    → spot t (purge k sp zone) ≡ Some s' → size s'.here ≤ size s.here
purged-size t never k sp zone s s' e once e' =
    let whole = held-spot t zone s e once in
    let counted = purged-le (λ (b : Block). cond {A = ℕ} (t b) 1 0) (counts-free t never) k sp zone in
    let left = held-spot t (purge k sp zone) s' e' (omega arith) in
    let less = purged-le (held t) (λ n. ap {B = ℕ} (λ (u : Bool). cond u n 0) (never n)) k sp zone in
    omega arith

-- A block that isn't seen, and grows.
module _ (seen : Block → Bool) (rigid : (b : Block) → in_run b ≡ true → seen b ≡ false) (test : Block → Bool)
    (never : (n : ℕ) → test (Free n) ≡ false) (apart_from : (b : Block) → test b ≡ true → seen b ≡ false)
    (new : Block) (new-unlocked : seen new ≡ false)
  where
    went : (zone z : List Block) → move_away test new zone ≡ Some z → Alike seen zone z
    went zone z e =
        map-some (λ (s : Spot). filled new (record s { below = freed test s.below; above = freed test s.above }))
        (place (size new) zone) z (Alike seen zone z) e
        (λ s found is.
        let p = alike-placed seen rigid (size new) zone s found in
        let r = room-parts seen rigid (size new) s.here p.1 in
        let moved : Spot = record s { below = freed test s.below; above = freed test s.above } in
        let a = alike-append seen rigid s.below moved.below (s.here ∷ s.above) (s.here ∷ moved.above)
        (alike-freed seen rigid test apart_from s.below) (alike-cons seen rigid s.here s.here s.above moved.above
        refl refl (alike-freed seen rigid test apart_from s.above)) in
        let f = alike-filled seen rigid (moved.below ++ moved.here ∷ moved.above) new moved refl
        (r.0 ∙ sym new-unlocked) r.1 in
        (p.0.0 ∙ a.0 ∙ f.0 ∙ ap sizes is, p.0.1 ∙ a.1 ∙ f.1 ∙ ap (stands seen) is))

    lasts : (zone z : List Block) (s : Spot) → spot test zone ≡ Some s → count test zone ≤ 1 → size s.here ≤ size new
        → grow_last test new (growth new s) zone ≡ Some z → Alike seen zone z
    lasts zone z s found once less e =
        change_run-some (λ run. has test run && has_free (growth new s) run)
        (λ run. others test run ++ new ∷ free (free_sum run - growth new s)) zone z (Alike seen zone z) e
        (λ r is all passed new_zone.
        let d : ℕ = growth new s in
        let after : List Block = others test r.run ++ new ∷ free (free_sum r.run - d) in
        let parts = and_parts (has test r.run) (has_free d r.run) passed in
        let enough : d ≤ free_sum r.run = leb-true d (free_sum r.run) parts.1 in
        let inside = has-count test r.run parts.0 in
        let counted = three (λ (b : Block). cond {A = ℕ} (test b) 1 0) (counts-free test never) r.below r.run r.above in
        let whole : count test zone ≡ count test (r.below ++ (r.run ++ r.above)) = ap (count test) is in
        let bytes : total (held test) r.run ≡ size s.here = omega (
          arith,
          held-spot test zone s found once,
          ap (total (held test)) is,
          three (held test)
              (held-free test never) r.below r.run r.above,
          held-none test r.below (omega arith),
          held-none test r.above
              (omega arith),
        ) in
        let one = one-run r.run all in
        let few = unlocked-run seen rigid r.run one in
        let new_none : locks seen new ≡ 0 = cond-false (seen new) 1 0 new-unlocked in
        let few_after : total (locks seen) after ≤ 0 = (let o = filtered (locks seen) (locks-free seen rigid)
        (λ b. is_mover b && not (test b)) r.run in omega (
          arith,
          total-append (locks seen) (others test r.run)
              (new ∷ free (free_sum r.run - d)),
          none (free_sum r.run - d),
        )) in
        let same : sizes r.run ≡ sizes after = omega (
          arith,
          total-append size (others test r.run)
              (new ∷ free (free_sum r.run - d)),
          sizes-free (free_sum r.run - d),
          sizes-parted test never r.run one,
          sizes-filter test r.run,
        ) in
        let a = alike-append seen rigid r.below r.below (r.run ++ r.above) (after ++ r.above)
        (alike-refl seen rigid r.below) (alike-append seen rigid r.run after r.above r.above
        (alike-unlocked seen rigid r.run after few few_after same) (alike-refl seen rigid r.above)) in
        (ap sizes is ∙ a.0 ∙ ap sizes (sym new_zone), ap (stands seen) is ∙ a.1 ∙ ap (stands seen) (sym new_zone)))
      where
        none : (n : ℕ) → total (locks seen) (free n) ≡ 0
        none = freely (locks seen) (locks-free seen rigid)

    pub alike-moved : (zone z : List Block) → ((s : Spot) → spot test zone ≡ Some s → size s.here ≤ size new)
        → count test zone ≤ 1 → grow_mover test new zone ≡ Some z → Alike seen zone z
    alike-moved zone z less once e =
        option_and_then_some (λ s. option_or (grow_up new s) (option_or (move_away test new zone)
        (grow_last test new (growth new s) zone))) (spot test zone) z e
        (λ s found is. first s found (or-some (grow_up new s) _ z is))
      where
        second : (s : Spot) → spot test zone ≡ Some s → (move_away test new zone ≡ Some z)
            ⊎ (grow_last test new (growth new s) zone ≡ Some z) → Alike seen zone z
        second s found (inl e) = went zone z e
        second s found (inr e) = lasts zone z s found once (less s found) e

        first : (s : Spot) → spot test zone ≡ Some s → (grow_up new s ≡ Some z)
            ⊎ (option_or (move_away test new zone) (grow_last test new (growth new s) zone) ≡ Some z)
            → Alike seen zone z
        first s found (inl e) = alike-grown_up seen rigid zone z s new (spot-is test zone s found)
            (apart_from s.here (spot-passes test zone s found) ∙ sym new-unlocked) (less s found) e
        first s found (inr e) = second s found (or-some (move_away test new zone) _ z e)

-- a block at another size, where one that may move isn't seen
pub alike-grown : (seen : Block → Bool) (rigid : (b : Block) → in_run b ≡ true → seen b ≡ false)
    (same_size : (n : ℕ) (b : Block) → seen b ≡ seen (resized n b)) (test : Block → Bool)
    (never : (n : ℕ) → test (Free n) ≡ false) (sp : Block → Bool) (n : ℕ) (zone z : List Block)
    → ((s : Spot) → spot test zone ≡ Some s → is_mover s.here ≡ true → ((b : Block) → test b ≡ true → seen b ≡ false)
    × (count test zone ≤ 1)) → grow test sp n zone ≡ Some z → Alike seen zone z
alike-grown seen rigid same_size test never sp n zone z movable e =
    grow-some test sp n zone z (Alike seen zone z)
    (λ s found small is.
    let a = alike-filled seen rigid zone (resized n s.here) s (spot-is test zone s found) (same_size n s.here) small in
    (a.0 ∙ ap sizes (sym is), a.1 ∙ ap (stands seen) (sym is)))
    (λ s j found more mover e.
    let m = movable s found mover in
    let once = m.1 in
    let counted = purged-le (λ (b : Block). cond {A = ℕ} (test b) 1 0) (counts-free test never) j sp zone in
    let smaller : (s' : Spot) → spot test (purge j sp zone) ≡ Some s' → size s'.here ≤ size (resized n s.here) =
    λ s' found'. (let p = purged-size test never j sp zone s s' found once found' in omega arith) in
    alike-then seen rigid zone (purge j sp zone) z (alike-purged seen rigid j sp zone)
    (alike-moved seen rigid test never m.0 (resized n s.here) (sym (same_size n s.here)
    ∙ m.0 s.here (spot-passes test zone s found)) (purge j sp zone) z smaller (omega arith) e))
    (λ s found more nonrelocatable e. alike-stood seen rigid sp zone z s (resized n s.here) (spot-is test zone s found)
    (same_size n s.here) (omega arith) e)
    e
