use Rattle.block_store.proofs.Cited.{◌≡◌, ℕ, ◌+◌, ◌*◌, ◌%◌, ◌≤◌, zero, suc, Bool, true, false, not, List, [], ◌∷◌, ◌++◌, append_assoc, refl}
use Rattle.block_store.proofs.Cited.{sym, ◌∙◌, ap, cond, subst, arith, Option, Some, None, Result, Ok, Err, cond-true, none-some, same_Some}
use Rattle.block_store.proofs.Cited.{option_map, IsSome, IfSome, IsSomeAnd, OnOk, OnErr, IsTrue, Block, Free, Nonrelocatable, Masters}
use Rattle.block_store.proofs.Cited.{Relocatable, size, sizes, total, count, free, free_sum, is_masters, is_relocatable, add, tidy, RunSpot}
use Rattle.block_store.proofs.Cited.{has, has_free, movers, settle, low, high, with_run, run_at, Spot, raised, spot, distance, NoneRises}
use Rattle.block_store.proofs.Cited.{Aligned, Placed, Slot, Loose}
use Rattle.block_store.proofs.Zone.Tidy.{Adds, total-tidy, add-joined}
use Rattle.block_store.proofs.Zone.Apart.{tidy-tidy}
use Rattle.block_store.proofs.Zone.Leading.{count-none, none-count}
use Rattle.block_store.proofs.Content.Filling.{Lawful}
use Rattle.block_store.proofs.Zone.Aligned.{aligned-tidy, aligned-run, aligned-settle, aligned-high, aligned-low}
use Rattle.block_store.proofs.Nonrelocatable.Placing.{placed-settled, placed-hoisted, placed-risen}
use Rattle.block_store.proofs.Regroup.RunLists.{run_at-parts}
use Rattle.block_store.proofs.Regroup.Packed.{total-run, settle-total, low-total, high-total, free-enough}
use Rattle.block_store.proofs.Plain.Options.{the_some, some_there}

-- What a run's change keeps.

-- a change of a run that keeps what its blocks come to
pub lawful-run : (slots : ℕ → Slot) (bytes all : ℕ) (zone zone' : List Block) (place : ℕ) (r : RunSpot)
    (change : List Block → List Block) → Lawful slots bytes all zone → run_at place zone ≡ Some r
    → zone' ≡ tidy (with_run change r)
    → ((of : Block → ℕ) → Adds of → Loose r.run → total of (change r.run) ≡ total of r.run)
    → ((run : List Block) → Aligned run → Aligned (change run)) → Placed 0 (tidy (with_run change r))
    → Lawful slots bytes all zone'
lawful-run slots bytes all zone zone' place r change lawful found is keeps sixteens placed =
    let parts = run_at-parts place zone r found in
    let same : (of : Block → ℕ) → Adds of → total of zone' ≡ total of zone =
    λ of adds. ap (total of) is ∙ total-tidy of adds (with_run change r) ∙ total-run of change r
    ∙ ap (λ n. total of r.below + n + total of r.above) (keeps of adds parts.loose) ∙ sym (total-run of (λ l. l) r)
    ∙ ap (total of) parts.whole in
    let counts : (k : ℕ) → count (is_relocatable k) zone' ≡ count (is_relocatable k) zone =
    λ k. same (λ (b : Block). cond (is_relocatable k b) 1 0) (λ n m. refl) in
    record {
      covered = same size (λ n m. refl) ∙ lawful.covered;
      masters = lawful.masters ∙ ap (λ n. 64 * n) (sym (same (λ (b : Block). cond (is_masters b) 1 0) (λ n m. refl)));
      no_block = λ k unused. none-count (is_relocatable k) zone' (let n = counts k in
          let z = count-none (is_relocatable k) zone (lawful.no_block k unused) in omega arith);
      once = λ k. let n = counts k in let z = lawful.once k in omega arith;
      tidied = ap tidy is ∙ tidy-tidy (with_run change r) ∙ sym is;
      aligned = subst Aligned (sym is) (aligned-tidy (with_run change r)
          (aligned-run change place zone r sixteens lawful.aligned found));
      placed = subst (Placed 0) (sym is) placed;
    }

-- a settled run
pub lawful-settled : (slots : ℕ → Slot) (bytes all : ℕ) (zone zone' : List Block) (place : ℕ)
    → Lawful slots bytes all zone → IsSome (run_at place zone)
    → IfSome (run_at place zone) (λ r. zone' ≡ tidy (with_run settle r)) → Lawful slots bytes all zone'
lawful-settled slots bytes all zone zone' place lawful there after =
    let at = some_there (run_at place zone) (λ r. zone' ≡ tidy (with_run settle r)) there after in
    lawful-run slots bytes all zone zone' place at.0 settle lawful at.1 at.2
    (λ of adds loose. settle-total of adds at.0.run loose) aligned-settle
    (placed-settled place zone at.0 lawful.placed at.1)

-- a run with a block of a slot at its top
pub lawful-hoisted : (slots : ℕ → Slot) (bytes all : ℕ) (zone zone' : List Block) (place number : ℕ)
    → Lawful slots bytes all zone → IsSomeAnd (run_at place zone) (λ r. IsTrue (has (is_relocatable number) r.run))
    → IfSome (run_at place zone) (λ r. zone' ≡ tidy (with_run (high (is_relocatable number)) r))
    → Lawful slots bytes all zone'
lawful-hoisted slots bytes all zone zone' place number lawful there after =
    let at = the_some (run_at place zone) (λ r. IsTrue (has (is_relocatable number) r.run))
    (λ r. zone' ≡ tidy (with_run (high (is_relocatable number)) r)) there after in
    lawful-run slots bytes all zone zone' place at.0 (high (is_relocatable number)) lawful at.1 at.3
    (λ of adds loose. high-total of adds number at.0.run loose) (aligned-high (is_relocatable number))
    (placed-hoisted place number zone at.0 lawful.placed at.1)

-- a run with Free bytes at its bottom, or the host had no memory for it
pub lawful-raised : {T E : Type 0} (result : Result T E) (slots : ℕ → Slot) (bytes all : ℕ) (zone zone' : List Block)
    (place n : ℕ) → n % 16 ≡ 0 → Lawful slots bytes all zone → IsSomeAnd (run_at place zone)
    (λ r. IsTrue (has_free n r.run))
    → OnOk result (IfSome (run_at place zone) (λ r. zone' ≡ tidy (with_run (low (Free n)) r)))
    → OnErr result (zone' ≡ zone) → Lawful slots bytes all zone'
lawful-raised (Ok x) slots bytes all zone zone' place n even lawful there ok err =
    let at = the_some (run_at place zone) (λ r. IsTrue (has_free n r.run))
    (λ r. zone' ≡ tidy (with_run (low (Free n)) r)) there ok in
    lawful-run slots bytes all zone zone' place at.0 (low (Free n)) lawful at.1 at.3
    (λ of adds loose. low-total of adds n at.0.run loose (free-enough n zone place at.0 at.1 there))
    (λ run a. aligned-low (Free n) run even a) (placed-risen place n zone at.0 at.2 lawful.placed at.1)
lawful-raised (Err e) slots bytes all zone zone' place n even lawful there ok err =
    subst (Lawful slots bytes all) (sym err) lawful

-- the bytes below the block of a slot, or all where it has none
abbrev pub reach : ℕ → List Block → ℕ
reach k [] = 0
reach k (b ∷ above) = cond (is_relocatable k b) 0 (size b + reach k above)

pub reach-distance : (k : ℕ) (bs : List Block) (d : ℕ) → distance k bs ≡ Some d → reach k bs ≡ d
reach-distance k [] d e = absurd (none-some _ e)
reach-distance k (b ∷ bs) d e = cases (is_relocatable k b) (spot (is_relocatable k) bs) (λ d e. reach-distance k bs d e)
    e
  where
    cases : (t : Bool) (o : Option Spot) → ((d : ℕ) → option_map (λ (s : Spot). sizes s.below) o ≡ Some d
        → reach k bs ≡ d)
        → option_map (λ (s : Spot). sizes s.below) (cond t (Some (record { below = []; here = b; above = bs }))
        (option_map (raised b) o)) ≡ Some d → cond t 0 (size b + reach k bs) ≡ d
    cases true o rest e = same_Some _ _ e
    cases false None rest e = absurd (none-some _ e)
    cases false (Some s) rest e = ap (λ n. size b + n) (rest (sizes s.below) refl) ∙ same_Some _ _ e

reach-add : (k : ℕ) (b : Block) (bs : List Block) → reach k (add b bs) ≡ reach k (b ∷ bs)
reach-add k = add-joined (reach k) (λ bs. let z : 0 + reach k bs ≡ reach k bs = omega arith in z)
    (λ n m bs. let z : n + m + reach k bs ≡ n + (m + reach k bs) = omega arith in z)

pub reach-tidy : (k : ℕ) (bs : List Block) → reach k (tidy bs) ≡ reach k bs
reach-tidy k [] = refl
reach-tidy k (b ∷ bs) = reach-add k b (tidy bs) ∙ ap (λ n. cond (is_relocatable k b) 0 (size b + n)) (reach-tidy k bs)

pub reach-below : (k : ℕ) (below xs ys : List Block) → reach k xs ≤ reach k ys
    → reach k (below ++ xs) ≤ reach k (below ++ ys)
reach-below k [] xs ys le = le
reach-below k (b ∷ below) xs ys le = cases (is_relocatable k b) (reach-below k below xs ys le)
  where
    cases : (t : Bool) → reach k (below ++ xs) ≤ reach k (below ++ ys)
        → cond t 0 (size b + reach k (below ++ xs)) ≤ cond t 0 (size b + reach k (below ++ ys))
    cases true le = omega arith
    cases false le = let z : size b + reach k (below ++ xs) ≤ size b + reach k (below ++ ys) = omega arith in z

reach-free : (k n : ℕ) (above : List Block) → reach k (free n ++ above) ≡ n + reach k above
reach-free k zero above = let z : reach k above ≡ 0 + reach k above = omega arith in z
reach-free k (suc n) above = refl

-- so many Free bytes more below a run: its settled form is no higher than that
pub reach-settle : (k more : ℕ) (run above : List Block) → Loose run
    → reach k (movers run ++ free (more + free_sum run) ++ above) ≤ more + reach k (run ++ above)
reach-settle k more [] above l = let e : reach k (free (more + 0) ++ above) ≡ more + 0 + reach k above =
    reach-free k (more + 0) above in let z : reach k (free (more + 0) ++ above) ≤ more + reach k above = omega arith in
    z
reach-settle k more (Free n ∷ run) above l =
    let r = reach-settle k (more + n) run above l.1 in
    let e = ap (λ m. reach k (movers run ++ free m ++ above)) (let z : more + (n + free_sum run)
    ≡ more + n + free_sum run = omega arith in z) in
    let z : reach k (movers run ++ free (more + (n + free_sum run)) ++ above) ≤ more + (n + reach k (run ++ above)) =
    omega arith in z
reach-settle k more (Nonrelocatable id content ∷ run) above l = let f : false ≡ true = l.0 in cc
reach-settle k more (Masters ∷ run) above l = let f : false ≡ true = l.0 in cc
reach-settle k more (Relocatable id flags content ∷ run) above l =
    let b = Relocatable id flags content in
    let e : reach k (movers (b ∷ run) ++ free (more + (0 + free_sum run)) ++ above)
    ≡ reach k (b ∷ movers run ++ free (more + free_sum run) ++ above) =
    ap (λ m. reach k (m ++ free (more + (0 + free_sum run)) ++ above))
    (cond-true (not flags.locked) (b ∷ movers run) (movers run) l.0)
    ∙ ap (λ m. reach k (b ∷ movers run ++ free m ++ above)) (let z : more + (0 + free_sum run)
    ≡ more + free_sum run = omega arith in z) in
    let P : ℕ → Type 0 = λ n. n ≤ more + reach k (b ∷ run ++ above) in
    subst P (sym e) (cases b (is_relocatable k b) (reach-settle k more run above l.1))
  where
    cases : (b : Block) (t : Bool) → reach k (movers run ++ free (more + free_sum run) ++ above) ≤ more + reach k
        (run ++ above)
        → cond t 0 (size b + reach k (movers run ++ free (more + free_sum run) ++ above)) ≤ more + cond t 0
        (size b + reach k (run ++ above))
    cases b true le = omega arith
    cases b false le = let z : size b + reach k (movers run ++ free (more + free_sum run) ++ above) ≤ more +
        (size b + reach k (run ++ above)) = omega arith in z

-- no block is higher where a run is settled
pub none-rises : (zone zone' : List Block) (place : ℕ) → IsSome (run_at place zone)
    → IfSome (run_at place zone) (λ r. zone' ≡ tidy (with_run settle r)) → NoneRises zone zone'
none-rises zone zone' place there after = λ k was is e f.
    let at = some_there (run_at place zone) (λ r. zone' ≡ tidy (with_run settle r)) there after in
    let r = at.0 in
    let parts = run_at-parts place zone r at.1 in
    let old : reach k (r.below ++ (r.run ++ r.above)) ≡ was = ap (reach k)
    (sym (append_assoc r.below r.run r.above) ∙ parts.whole) ∙ reach-distance k zone was e in
    let new : is ≡ reach k (r.below ++ (settle r.run ++ r.above)) =
    sym (reach-distance k zone' is f) ∙ ap (reach k) at.2 ∙ reach-tidy k (with_run settle r)
    ∙ ap (reach k) (append_assoc r.below (settle r.run) r.above) in
    let plain : reach k (settle r.run ++ r.above) ≡ reach k (movers r.run ++ free (0 + free_sum r.run) ++ r.above) =
    ap (λ n. reach k (movers r.run ++ free n ++ r.above)) (let z : free_sum r.run
    ≡ 0 + free_sum r.run = omega arith in z) in
    let less : reach k (movers r.run ++ free (0 + free_sum r.run) ++ r.above) ≤ 0 + reach k (r.run ++ r.above) =
    reach-settle k 0 r.run r.above parts.loose in
    let all = reach-below k r.below (settle r.run ++ r.above) (r.run ++ r.above) (omega arith) in
    omega arith
