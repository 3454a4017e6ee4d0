use Rattle.block_store.proofs.Cited.{◌≡◌, ℕ, ◌+◌, ◌-◌, ◌*◌, ◌≤◌, ◌<◌, zero, suc, Bool, true, false, ◌&&◌, List, [], ◌∷◌, ◌++◌, length, take}
use Rattle.block_store.proofs.Cited.{drop, refl, sym, ◌∙◌, ap, cond, arith, Option, Some, None, nat_lt, subst, none-some, same_Some}
use Rattle.block_store.proofs.Cited.{cond-true, cond-false, lt-ltb, IfSome, IsSome, Block, Free, Nonrelocatable, Masters, Relocatable, size}
use Rattle.block_store.proofs.Cited.{sizes, total, count, tidy, is_masters, is_relocatable, add, spot_at, may_be_purged, lowest_purged}
use Rattle.block_store.proofs.Cited.{with_flags, Slot, Flags, freed, spared, opened, purged, is_free, opened_block, left_past, Sparing}
use Rattle.block_store.proofs.Cited.{Aligned, Placed}
use Rattle.block_store.specs.declared.sparing.Sparing.TheVariants as sparing
use Rattle.block_store.proofs.Zone.Listing.{size-freed}
use Rattle.block_store.proofs.Zone.Tidy.{total-tidy}
use Rattle.block_store.proofs.Zone.Apart.{Apart, apart-tidied, tidy-apart, tidy-tidy}
use Rattle.block_store.proofs.Zone.Spots.{sizes-same}
use Rattle.block_store.proofs.Zone.Leading.{count-freed, count-same, count-none, none-count, masters-released}
use Rattle.block_store.proofs.Content.Filling.{Lawful}
use Rattle.block_store.proofs.Zone.Aligned.{spot_at-is, aligned-append, aligned-below, aligned-above, aligned-tidy}
use Rattle.block_store.proofs.Zone.Aligned.{aligned-lowest_purged, aligned-opened, aligned-spot, aligned-same}
use Rattle.block_store.proofs.Zone.Aligned.{sixteens-flags}
use Rattle.block_store.proofs.Nonrelocatable.Placing.{size-flags, placed-tidy, placed-lowest_purged, placed-opened}
use Rattle.block_store.proofs.Nonrelocatable.Placing.{placed-purged_above, placed-flags, placed-spot}
use Rattle.block_store.proofs.Plain.Options.{some_there}

-- Blocks of which the lowest that may go are purged.

-- the purged blocks take what they took
pub sizes-lowest_purged : (k : ℕ) (sp : Block → Bool) (bs : List Block) → sizes (lowest_purged k sp bs) ≡ sizes bs
sizes-lowest_purged zero sp bs = refl
sizes-lowest_purged (suc k) sp [] = refl
sizes-lowest_purged (suc k) sp (b ∷ bs) = cases (may_be_purged sp b) (sizes-lowest_purged k sp bs)
    (sizes-lowest_purged (suc k) sp bs)
  where
    cases : (t : Bool) → sizes (lowest_purged k sp bs) ≡ sizes bs → sizes (lowest_purged (suc k) sp bs) ≡ sizes bs
        → sizes (cond t (Free (size b) ∷ lowest_purged k sp bs) (b ∷ lowest_purged (suc k) sp bs)) ≡ sizes (b ∷ bs)
    cases true one more = ap (λ n. size b + n) one
    cases false one more = ap (λ n. size b + n) more

-- a block more was looked at, and purged
goes_at : (sp : Block → Bool) (bs : List Block) (i left : ℕ) (b : Block) (rest : List Block) → drop i bs ≡ b ∷ rest
    → may_be_purged sp b ≡ true
    → take (suc i) (take i bs ++ Free (size b) ∷ rest) ++ lowest_purged left sp
    (drop (suc i) (take i bs ++ Free (size b) ∷ rest)) ≡ take i bs ++ lowest_purged (suc left) sp (drop i bs)
goes_at sp bs zero left b rest is goes = sym (ap (lowest_purged (suc left) sp) is
    ∙ cond-true (may_be_purged sp b) (Free (size b) ∷ lowest_purged left sp rest) (b ∷ lowest_purged (suc left) sp rest)
    goes)
goes_at sp [] (suc i) left b rest is goes = cc
goes_at sp (x ∷ bs) (suc i) left b rest is goes = ap (λ l. x ∷ l) (goes_at sp bs i left b rest is goes)

pub emptied-goes : (sp : Block → Bool) (bs bs' : List Block) (i left : ℕ) (b : Block) → 0 < left
    → drop i bs ≡ b ∷ drop (i + 1) bs → may_be_purged sp b ≡ true → bs' ≡ take i bs ++ Free (size b) ∷ drop (i + 1) bs
    → take (i + 1) bs' ++ lowest_purged (left - 1) sp (drop (i + 1) bs') ≡ take i bs ++ lowest_purged left sp
    (drop i bs)
emptied-goes sp bs bs' i zero b some is goes after = absurd (let z : 0 < 0 = some in omega arith)
emptied-goes sp bs bs' i (suc left) b some is goes after =
    ap (λ n. take n bs' ++ lowest_purged (suc left - 1) sp (drop n bs')) (let z : i + 1 ≡ suc i = omega arith in z)
    ∙ ap (λ n. take (suc i) bs' ++ lowest_purged n sp (drop (suc i) bs'))
    (let z : suc left - 1 ≡ left = omega arith in z)
    ∙ ap (λ l. take (suc i) l ++ lowest_purged left sp (drop (suc i) l)) after
    ∙ goes_at sp bs i left b (drop (i + 1) bs) is goes

-- a block more was looked at, and stays
stays_at : (sp : Block → Bool) (bs : List Block) (i left : ℕ) (b : Block) (rest : List Block) → drop i bs ≡ b ∷ rest
    → (nat_lt 0 left && may_be_purged sp b) ≡ false
    → take (suc i) bs ++ lowest_purged left sp (drop (suc i) bs) ≡ take i bs ++ lowest_purged left sp (drop i bs)
stays_at sp [] zero left b rest is stays = cc
stays_at sp (x ∷ bs) zero zero b rest is stays = refl
stays_at sp (x ∷ bs) zero (suc left) b rest is stays =
    let same : x ≡ b = cc in
    sym (cond-false (may_be_purged sp x) (Free (size x) ∷ lowest_purged left sp bs) (x ∷ lowest_purged (suc left) sp bs)
    (ap (may_be_purged sp) same ∙ failed (nat_lt 0 (suc left)) (may_be_purged sp b) (lt-ltb 0 (suc left) (omega arith))
    stays))
  where
    failed : (t u : Bool) → t ≡ true → (t && u) ≡ false → u ≡ false
    failed true u is e = e
    failed false u is e = let f : false ≡ true = is in cc
stays_at sp [] (suc i) left b rest is stays = cc
stays_at sp (x ∷ bs) (suc i) left b rest is stays = ap (λ l. x ∷ l) (stays_at sp bs i left b rest is stays)

pub lowest_purged-stays : (sp : Block → Bool) (bs : List Block) (i left : ℕ) (b : Block) → drop i bs ≡ b ∷ drop (i + 1)
    bs
    → (nat_lt 0 left && may_be_purged sp b) ≡ false
    → take (i + 1) bs ++ lowest_purged left sp (drop (i + 1) bs) ≡ take i bs ++ lowest_purged left sp (drop i bs)
lowest_purged-stays sp bs i left b is stays =
    ap (λ n. take n bs ++ lowest_purged left sp (drop n bs)) (let z : i + 1 ≡ suc i = omega arith in z)
    ∙ stays_at sp bs i left b (drop (i + 1) bs) is stays

-- all were looked at
pub lowest_purged-end : (sp : Block → Bool) (bs : List Block) (left i : ℕ) → length bs ≤ i
    → take i bs ++ lowest_purged left sp (drop i bs) ≡ bs
lowest_purged-end sp [] zero zero le = refl
lowest_purged-end sp [] (suc left) zero le = refl
lowest_purged-end sp [] zero (suc i) le = refl
lowest_purged-end sp [] (suc left) (suc i) le = refl
lowest_purged-end sp (b ∷ bs) left zero le = absurd (let z : suc (length bs) ≤ 0 = le in omega arith)
lowest_purged-end sp (b ∷ bs) left (suc i) le = ap (λ l. b ∷ l) (lowest_purged-end sp bs left i
    (let z : suc (length bs) ≤ suc i = le in omega arith))

-- a block that is Free or is purged, among blocks of which the lowest are purged
free_is : (b : Block) → is_free b ≡ true → b ≡ Free (size b)
free_is (Free n) e = refl
free_is (Nonrelocatable id content) e = let f : false ≡ true = e in cc
free_is Masters e = let f : false ≡ true = e in cc
free_is (Relocatable id flags content) e = let f : false ≡ true = e in cc

pub lowest_purged-free : (sp : Block → Bool) (k left : ℕ) (b : Block) (above : List Block) → left_past sp k b
    ≡ Some left
    → lowest_purged k sp (b ∷ above) ≡ Free (size b) ∷ lowest_purged left sp above
lowest_purged-free sp zero left b above e = cases (is_free b) refl e
  where
    cases : (t : Bool) → is_free b ≡ t → cond t (Some 0) None ≡ Some left
        → b ∷ above ≡ Free (size b) ∷ lowest_purged left sp above
    cases true is e = ap (λ c. c ∷ above) (free_is b is) ∙ ap (λ n. Free (size b) ∷ lowest_purged n sp above)
        (same_Some _ _ e)
    cases false is e = absurd (none-some _ e)
lowest_purged-free sp (suc k) left b above e = cases (may_be_purged sp b) (is_free b) refl refl e
  where
    cases : (t u : Bool) → may_be_purged sp b ≡ t → is_free b ≡ u → cond t (Some k) (cond u (Some (suc k)) None)
        ≡ Some left
        → cond t (Free (size b) ∷ lowest_purged k sp above) (b ∷ lowest_purged (suc k) sp above)
        ≡ Free (size b) ∷ lowest_purged left sp above
    cases true u goes is e = ap (λ n. Free (size b) ∷ lowest_purged n sp above) (same_Some _ _ e)
    cases false true goes is e = ap (λ c. c ∷ lowest_purged (suc k) sp above) (free_is b is)
        ∙ ap (λ n. Free (size b) ∷ lowest_purged n sp above) (same_Some _ _ e)
    cases false false goes is e = absurd (none-some _ e)

-- a block that stays
pub lowest_purged-kept : (sp : Block → Bool) (k : ℕ) (b : Block) (above : List Block) → left_past sp k b ≡ None
    → lowest_purged k sp (b ∷ above) ≡ b ∷ lowest_purged k sp above
lowest_purged-kept sp zero b above e = refl
lowest_purged-kept sp (suc k) b above e = cases (may_be_purged sp b) e
  where
    cases : (t : Bool) → cond t (Some k) (cond (is_free b) (Some (suc k)) None) ≡ None
        → cond t (Free (size b) ∷ lowest_purged k sp above) (b ∷ lowest_purged (suc k) sp above) ≡ b ∷ lowest_purged
        (suc k) sp above
    cases true e = absurd (none-some _ (sym e))
    cases false e = refl

pub kept-not_free : (sp : Block → Bool) (k : ℕ) (b : Block) → left_past sp k b ≡ None → is_free b ≡ false
kept-not_free sp zero b e = cases (is_free b) e
  where
    cases : (t : Bool) → cond {A = Option ℕ} t (Some 0) None ≡ None → t ≡ false
    cases true e = absurd (none-some _ (sym e))
    cases false e = refl
kept-not_free sp (suc k) b e = cases (may_be_purged sp b) (is_free b) e
  where
    cases : (t u : Bool) → cond {A = Option ℕ} t (Some k) (cond u (Some (suc k)) None) ≡ None → u ≡ false
    cases true u e = absurd (none-some _ (sym e))
    cases false true e = absurd (none-some _ (sym e))
    cases false false e = refl

-- a block that isn't Free as a search begins to look at it is what it was
pub opened-same : (n : Sparing) (b : Block) → is_free (opened_block n b) ≡ false → opened_block n b ≡ b
opened-same sparing.Nothing b e = refl
opened-same (sparing.One slot) b e = refl
opened-same (sparing.Two slot other) b e = refl
opened-same (sparing.Freed slot) b e = cases (is_relocatable slot b) e
  where
    cases : (t : Bool) → is_free (cond t (Free (size b)) b) ≡ false → cond t (Free (size b)) b ≡ b
    cases true e = let f : true ≡ false = e in cc
    cases false e = refl

pub sizes-opened : (n : Sparing) (bs : List Block) → sizes (opened n bs) ≡ sizes bs
sizes-opened sparing.Nothing bs = refl
sizes-opened (sparing.One slot) bs = refl
sizes-opened (sparing.Two slot other) bs = refl
sizes-opened (sparing.Freed slot) bs = size-freed (is_relocatable slot) bs

-- the purged blocks no longer pass, the others are counted as before
pub count-lowest_purged : (test : Block → Bool) → ((n : ℕ) → test (Free n) ≡ false)
    → (k : ℕ) (sp : Block → Bool) (bs : List Block) → count test (lowest_purged k sp bs) ≤ count test bs
count-lowest_purged test none zero sp bs = omega arith
count-lowest_purged test none (suc k) sp [] = omega arith
count-lowest_purged test none (suc k) sp (b ∷ bs) = cases (may_be_purged sp b) (count-lowest_purged test none k sp bs)
    (count-lowest_purged test none (suc k) sp bs)
  where
    cases : (t : Bool) → count test (lowest_purged k sp bs) ≤ count test bs
        → count test (lowest_purged (suc k) sp bs) ≤ count test bs → count test
        (cond t (Free (size b) ∷ lowest_purged k sp bs) (b ∷ lowest_purged (suc k) sp bs)) ≤ count test (b ∷ bs)
    cases true one more = let z : cond (test (Free (size b))) 1 0 ≡ 0 =
        ap {B = ℕ} (λ (v : Bool). cond v 1 0) (none (size b)) in omega (arith, z, one)
    cases false one more = omega (arith, more)

go-not_masters : (sp : Block → Bool) (b : Block) → may_be_purged sp b ≡ true → is_masters b ≡ false
go-not_masters sp (Free n) e = refl
go-not_masters sp (Nonrelocatable id content) e = refl
go-not_masters sp Masters e = let f : false ≡ true = e in cc
go-not_masters sp (Relocatable id flags content) e = refl

pub masters-lowest_purged : (k : ℕ) (sp : Block → Bool) (bs : List Block)
    → count is_masters (lowest_purged k sp bs) ≡ count is_masters bs
masters-lowest_purged zero sp bs = refl
masters-lowest_purged (suc k) sp [] = refl
masters-lowest_purged (suc k) sp (b ∷ bs) = cases (may_be_purged sp b) refl (masters-lowest_purged k sp bs)
    (masters-lowest_purged (suc k) sp bs)
  where
    cases : (t : Bool) → may_be_purged sp b ≡ t → count is_masters (lowest_purged k sp bs) ≡ count is_masters bs
        → count is_masters (lowest_purged (suc k) sp bs) ≡ count is_masters bs
        → count is_masters (cond t (Free (size b) ∷ lowest_purged k sp bs) (b ∷ lowest_purged (suc k) sp bs))
        ≡ count is_masters (b ∷ bs)
    cases true e one more = let z : cond {A = ℕ} (is_masters b) 1 0 ≡ 0 =
        ap {B = ℕ} (λ (v : Bool). cond v 1 0) (go-not_masters sp b e) in omega (arith, z, one)
    cases false e one more = ap (λ n. cond (is_masters b) 1 0 + n) more

pub count-opened : (test : Block → Bool) → ((n : ℕ) → test (Free n) ≡ false) → (n : Sparing) (bs : List Block)
    → count test (opened n bs) ≤ count test bs
count-opened test none sparing.Nothing bs = omega arith
count-opened test none (sparing.One slot) bs = omega arith
count-opened test none (sparing.Two slot other) bs = omega arith
count-opened test none (sparing.Freed slot) bs = count-freed test (is_relocatable slot) none bs

pub masters-opened : (n : Sparing) (bs : List Block) → count is_masters (opened n bs) ≡ count is_masters bs
masters-opened sparing.Nothing bs = refl
masters-opened (sparing.One slot) bs = refl
masters-opened (sparing.Two slot other) bs = refl
masters-opened (sparing.Freed slot) bs = sym (total-tidy (λ (b : Block). cond (is_masters b) 1 0) (λ n m. refl)
    (freed (is_relocatable slot) bs)) ∙ masters-released slot bs

-- blocks of which some became Free, with Free neighbours made one
pub lawful-fewer : (slots : ℕ → Slot) (bytes all : ℕ) (zone fewer zone' : List Block) → Lawful slots bytes all zone
    → sizes fewer ≡ sizes zone → count is_masters fewer ≡ count is_masters zone
    → ((k : ℕ) → count (is_relocatable k) fewer ≤ count (is_relocatable k) zone) → Aligned fewer → zone' ≡ tidy fewer
    → Placed 0 (tidy fewer) → Lawful slots bytes all zone'
lawful-fewer slots bytes all zone fewer zone' lawful whole same less sixteens after placed =
    let counts : (k : ℕ) → count (is_relocatable k) zone' ≤ count (is_relocatable k) zone =
    λ k. let e = ap (count (is_relocatable k)) after ∙ total-tidy (λ (b : Block). cond (is_relocatable k b) 1 0)
    (λ n m. refl) fewer in let l = less k in omega arith in
    record {
      covered = ap sizes after ∙ total-tidy size (λ n m. refl) fewer ∙ whole ∙ lawful.covered;
      masters = lawful.masters ∙ ap (λ n. 64 * n) (sym (ap (count is_masters) after
          ∙ total-tidy (λ (b : Block). cond (is_masters b) 1 0) (λ n m. refl) fewer ∙ same));
      no_block = λ k unused. none-count (is_relocatable k) zone' (let n = counts k in
          let z = count-none (is_relocatable k) zone (lawful.no_block k unused) in omega arith);
      once = λ k. let n = counts k in let z = lawful.once k in omega arith;
      tidied = ap tidy after ∙ tidy-tidy fewer ∙ sym after;
      aligned = subst Aligned (sym after) (aligned-tidy fewer sixteens);
      placed = subst (Placed 0) (sym after) placed;
    }

-- the lowest blocks that may go are purged
pub lawful-purged : (slots : ℕ → Slot) (bytes all : ℕ) (zone zone' : List Block) (k : ℕ) (n : Sparing)
    → Lawful slots bytes all zone → zone' ≡ purged k n zone → Lawful slots bytes all zone'
lawful-purged slots bytes all zone zone' k n lawful after =
    lawful-fewer slots bytes all zone (lowest_purged k (spared n) (opened n zone)) zone' lawful
    (sizes-lowest_purged k (spared n) (opened n zone) ∙ sizes-opened n zone)
    (masters-lowest_purged k (spared n) (opened n zone) ∙ masters-opened n zone)
    (λ j. let e = count-lowest_purged (is_relocatable j) (λ n. refl) k (spared n) (opened n zone) in
    let o = count-opened (is_relocatable j) (λ n. refl) n zone in omega arith)
    (aligned-lowest_purged k (spared n) (opened n zone) (aligned-opened n zone lawful.aligned)) after
    (placed-tidy 0 (lowest_purged k (spared n) (opened n zone)) (placed-lowest_purged 0 k (spared n) (opened n zone)
    (placed-opened 0 n zone lawful.placed)))

-- the lowest blocks that may go above a place are purged
pub lawful-purged_above : (slots : ℕ → Slot) (bytes all : ℕ) (zone zone' : List Block) (place k : ℕ) (sp : Block → Bool)
    → Lawful slots bytes all zone → IsSome (spot_at place zone)
    → IfSome (spot_at place zone) (λ s. zone' ≡ tidy (s.below ++ s.here ∷ lowest_purged k sp s.above))
    → Lawful slots bytes all zone'
lawful-purged_above slots bytes all zone zone' place k sp lawful some after =
    let at = some_there (spot_at place zone) (λ s. zone' ≡ tidy (s.below ++ s.here ∷ lowest_purged k sp s.above)) some
    after in
    let s = at.0 in
    let whole = spot_at-is place zone s at.1 in
    let fewer = s.below ++ s.here ∷ lowest_purged k sp s.above in
    lawful-fewer slots bytes all zone fewer zone' lawful (kept size s.below s.here (lowest_purged k sp s.above) s.above
    (sizes-lowest_purged k sp s.above) ∙ ap sizes whole)
    (kept (λ b. cond (is_masters b) 1 0) s.below s.here (lowest_purged k sp s.above) s.above
    (masters-lowest_purged k sp s.above)
    ∙ ap (count is_masters) whole)
    (λ j. let l = less (λ b. cond (is_relocatable j b) 1 0) s.below s.here (lowest_purged k sp s.above) s.above
    (count-lowest_purged (is_relocatable j) (λ n. refl) k sp s.above) in let e = ap (count (is_relocatable j)) whole in
    omega arith)
    (let a = aligned-spot place zone s lawful.aligned at.1 in aligned-append s.below
    (s.here ∷ lowest_purged k sp s.above)
    (aligned-below s.below (s.here ∷ s.above) a) (
      (aligned-above s.below (s.here ∷ s.above) a).0,
      aligned-lowest_purged k
          sp s.above (aligned-above s.below (s.here ∷ s.above) a).1,
    )) at.2
    (placed-purged_above 0 k sp s.below s.here s.above (placed-spot place zone s lawful.placed at.1))
  where
    kept : (of : Block → ℕ) (below : List Block) (b : Block) (new above : List Block) → total of new ≡ total of above
        → total of (below ++ b ∷ new) ≡ total of (below ++ b ∷ above)
    kept of [] b new above e = ap (λ n. of b + n) e
    kept of (c ∷ below) b new above e = ap (λ n. of c + n) (kept of below b new above e)

    less : (of : Block → ℕ) (below : List Block) (b : Block) (new above : List Block) → total of new ≤ total of above
        → total of (below ++ b ∷ new) ≤ total of (below ++ b ∷ above)
    less of [] b new above e = omega arith
    less of (c ∷ below) b new above e = let r = less of below b new above e in omega arith

-- other flags leave blocks apart
below-flags : (c : Block) (id : ℕ) (old flags : Flags) (content : List ℕ) (below above : List Block)
    → add c (below ++ Relocatable id old content ∷ above) ≡ c ∷ below ++ Relocatable id old content ∷ above
    → add c (below ++ Relocatable id flags content ∷ above) ≡ c ∷ below ++ Relocatable id flags content ∷ above
below-flags (Free zero) id old flags content below above e =
    absurd (let l : length (below ++ Relocatable id old content ∷ above)
    ≡ suc (length (below ++ Relocatable id old content ∷ above)) = ap length e in omega arith)
below-flags (Free (suc n)) id old flags content [] above e = refl
below-flags (Free (suc n)) id old flags content (Free m ∷ below) above e =
    absurd (let l : suc (length (below ++ Relocatable id old content ∷ above))
    ≡ suc (suc (length (below ++ Relocatable id old content ∷ above))) = ap length e in omega arith)
below-flags (Free (suc n)) id old flags content (Nonrelocatable k x ∷ below) above e = refl
below-flags (Free (suc n)) id old flags content (Masters ∷ below) above e = refl
below-flags (Free (suc n)) id old flags content (Relocatable k f x ∷ below) above e = refl
below-flags (Nonrelocatable k x) id old flags content below above e = refl
below-flags Masters id old flags content below above e = refl
below-flags (Relocatable k f x) id old flags content below above e = refl

apart-flags : (id : ℕ) (old flags : Flags) (content : List ℕ) (below above : List Block)
    → Apart (below ++ Relocatable id old content ∷ above) → Apart (below ++ Relocatable id flags content ∷ above)
apart-flags id old flags content [] above a = (refl, a.1)
apart-flags id old flags content (c ∷ below) above a = (
  below-flags c id old flags content below above a.0,
  apart-flags
      id old flags content below above a.1,
)

pub tidy-flags : (flags : Flags) (below : List Block) (b : Block) (above : List Block)
    → tidy (below ++ b ∷ above) ≡ below ++ b ∷ above → tidy (below ++ with_flags flags b ∷ above) ≡ below
    ++ with_flags flags b ∷ above
tidy-flags flags below (Free n) above e = e
tidy-flags flags below (Nonrelocatable id content) above e = e
tidy-flags flags below Masters above e = e
tidy-flags flags below (Relocatable id old content) above e =
    tidy-apart (below ++ Relocatable id flags content ∷ above)
    (apart-flags id old flags content below above (apart-tidied (below ++ Relocatable id old content ∷ above) e))

is_masters-flags : (flags : Flags) (b : Block) → is_masters (with_flags flags b) ≡ is_masters b
is_masters-flags flags (Free n) = refl
is_masters-flags flags (Nonrelocatable id content) = refl
is_masters-flags flags Masters = refl
is_masters-flags flags (Relocatable id old content) = refl

is_relocatable-flags : (k : ℕ) (flags : Flags) (b : Block) → is_relocatable k (with_flags flags b) ≡ is_relocatable k b
is_relocatable-flags k flags (Free n) = refl
is_relocatable-flags k flags (Nonrelocatable id content) = refl
is_relocatable-flags k flags Masters = refl
is_relocatable-flags k flags (Relocatable id old content) = refl

-- other flags of a block
pub lawful-flagged : (slots : ℕ → Slot) (bytes all : ℕ) (zone zone' : List Block) (place : ℕ) (flags : Flags)
    → Lawful slots bytes all zone → IsSome (spot_at place zone)
    → IfSome (spot_at place zone) (λ s. zone' ≡ s.below ++ with_flags flags s.here ∷ s.above)
    → Lawful slots bytes all zone'
lawful-flagged slots bytes all zone zone' place flags lawful some after =
    let at = some_there (spot_at place zone) (λ s. zone' ≡ s.below ++ with_flags flags s.here ∷ s.above) some after in
    let s = at.0 in
    let whole = spot_at-is place zone s at.1 in
    let e : zone' ≡ s.below ++ with_flags flags s.here ∷ s.above = at.2 in
    let counts : (k : ℕ) → count (is_relocatable k) zone' ≡ count (is_relocatable k) zone =
    λ k. ap (count (is_relocatable k)) e ∙ count-same (is_relocatable k) s.below s.above s.here
    (with_flags flags s.here) (is_relocatable-flags k flags s.here) ∙ ap (count (is_relocatable k)) whole in
    record {
      covered = ap sizes e ∙ sizes-same s.below s.above s.here (with_flags flags s.here) (size-flags flags s.here)
          ∙ ap sizes whole ∙ lawful.covered;
      masters = lawful.masters ∙ ap (λ n. 64 * n) (sym (ap (count is_masters) e
          ∙ count-same is_masters s.below s.above s.here (with_flags flags s.here) (is_masters-flags flags s.here)
          ∙ ap (count is_masters) whole));
      no_block = λ k unused. none-count (is_relocatable k) zone' (let n = counts k in
          let z = count-none (is_relocatable k) zone (lawful.no_block k unused) in omega arith);
      once = λ k. let n = counts k in let z = lawful.once k in omega arith;
      tidied = ap tidy e ∙ tidy-flags flags s.below s.here s.above (ap tidy whole ∙ lawful.tidied ∙ sym whole) ∙ sym e;
      aligned = let a = aligned-spot place zone s lawful.aligned at.1 in
          subst Aligned (sym e) (aligned-same s.below s.above s.here (with_flags flags s.here)
          (sixteens-flags flags s.here (aligned-above s.below (s.here ∷ s.above) a).0) a);
      placed = subst (Placed 0) (sym e) (placed-flags 0 flags s.below s.here s.above
          (placed-spot place zone s lawful.placed at.1));
    }
