use Rattle.block_store.proofs.Cited.{◌≡◌, ℕ, ◌+◌, ◌≤◌, ◌<◌, zero, suc, Bool, true, false, ◌||◌, List, [], ◌∷◌, refl, sym, ◌∙◌, ap, cond}
use Rattle.block_store.proofs.Cited.{arith, Option, Some, None, is_some, nat_le, max, le-leb, leb-true, cond-true, cond-false, Block, Free}
use Rattle.block_store.proofs.Cited.{Nonrelocatable, Masters, Relocatable, size, is_room, free_of, add, free_sum, tidy, in_run, has}
use Rattle.block_store.proofs.Cited.{has_free, run_spot, segments, Segments, may_be_purged, lowest_purged, purge, count_of, has_room}
use Rattle.block_store.proofs.Cited.{largest_free, largest_run, spared, opened, purged, most_purges, Sparing, is_free}
use Rattle.block_store.proofs.Zone.Tidy.{total-tidy, add-joined}
use Rattle.block_store.proofs.Zone.Apart.{Apart, apart-size, apart-tidy}
use Rattle.block_store.proofs.Purged.PurgedSums.{largest_stretch, largest-purged}
use Rattle.block_store.proofs.Regroup.MostRoom.{room-largest, run-there}
use Rattle.block_store.proofs.Zone.Listing.{free_of-le}
use Rattle.block_store.proofs.Regroup.RunLooks.{largest_from}

-- What some purges give, more purges give too.

-- the lowest block, where it may go and where it stays
count-goes : (sp : Block → Bool) (b : Block) (bs : List Block) → may_be_purged sp b ≡ true
    → count_of sp (b ∷ bs) ≡ suc (count_of sp bs)
count-goes sp b bs e = ap {B = ℕ} (λ (t : Bool). cond {A = ℕ} t 1 0 + count_of sp bs) e
    ∙ (let z : 1 + count_of sp bs ≡ suc (count_of sp bs) = omega arith in z)

count-stays : (sp : Block → Bool) (b : Block) (bs : List Block) → may_be_purged sp b ≡ false
    → count_of sp (b ∷ bs) ≡ count_of sp bs
count-stays sp b bs e = ap {B = ℕ} (λ (t : Bool). cond {A = ℕ} t 1 0 + count_of sp bs) e
    ∙ (let z : 0 + count_of sp bs ≡ count_of sp bs = omega arith in z)

pub lowest_purged-goes : (k : ℕ) (sp : Block → Bool) (b : Block) (bs : List Block) → may_be_purged sp b ≡ true
    → lowest_purged (suc k) sp (b ∷ bs) ≡ Free (size b) ∷ lowest_purged k sp bs
lowest_purged-goes k sp b bs e = cond-true (may_be_purged sp b) (Free (size b) ∷ lowest_purged k sp bs)
    (b ∷ lowest_purged (suc k) sp bs) e

pub lowest_purged-stays : (k : ℕ) (sp : Block → Bool) (b : Block) (bs : List Block) → may_be_purged sp b ≡ false
    → lowest_purged k sp (b ∷ bs) ≡ b ∷ lowest_purged k sp bs
lowest_purged-stays zero sp b bs e = refl
lowest_purged-stays (suc k) sp b bs e =
    cond-false (may_be_purged sp b) (Free (size b) ∷ lowest_purged k sp bs) (b ∷ lowest_purged (suc k) sp bs) e

pub lowest_purged-none : (k : ℕ) (sp : Block → Bool) → lowest_purged k sp [] ≡ []
lowest_purged-none zero sp = refl
lowest_purged-none (suc k) sp = refl

-- where all that may go are gone, no purge does more
lowest_purged-all : (sp : Block → Bool) (bs : List Block) (k m : ℕ) → count_of sp bs ≤ k → count_of sp bs ≤ m
    → lowest_purged k sp bs ≡ lowest_purged m sp bs
lowest_purged-all sp [] k m l r = lowest_purged-none k sp ∙ sym (lowest_purged-none m sp)
lowest_purged-all sp (b ∷ bs) k m l r = cases (may_be_purged sp b) refl k m l r (lowest_purged-all sp bs)
  where
    cases : (t : Bool) → may_be_purged sp b ≡ t → (k m : ℕ) → count_of sp (b ∷ bs) ≤ k → count_of sp (b ∷ bs) ≤ m
        → ((k m : ℕ) → count_of sp bs ≤ k → count_of sp bs ≤ m → lowest_purged k sp bs ≡ lowest_purged m sp bs)
        → lowest_purged k sp (b ∷ bs) ≡ lowest_purged m sp (b ∷ bs)
    cases true e zero m l r rest = absurd (omega (arith, count-goes sp b bs e, l))
    cases true e (suc k) zero l r rest = absurd (omega (arith, count-goes sp b bs e, r))
    cases true e (suc k) (suc m) l r rest =
        lowest_purged-goes k sp b bs e
        ∙ ap (λ above. Free (size b) ∷ above) (rest k m (omega (arith, count-goes sp b bs e, l))
        (omega (arith, count-goes sp b bs e, r)))
        ∙ sym (lowest_purged-goes m sp b bs e)
    cases false e k m l r rest =
        lowest_purged-stays k sp b bs e
        ∙ ap (λ above. b ∷ above) (rest k m (omega (arith, count-stays sp b bs e, l))
        (omega (arith, count-stays sp b bs e, r)))
        ∙ sym (lowest_purged-stays m sp b bs e)

pub purge-all : (sp : Block → Bool) (bs : List Block) (k : ℕ) → count_of sp bs ≤ k
    → purge k sp bs ≡ purge (count_of sp bs) sp bs
purge-all sp bs k le = ap tidy (lowest_purged-all sp bs k (count_of sp bs) le (omega arith))

pub purged-all : (n : Sparing) (zone : List Block) (k : ℕ) → most_purges n zone ≤ k
    → purged k n zone ≡ purged (most_purges n zone) n zone
purged-all n zone k le = purge-all (spared n) (opened n zone) k le

-- the Free bytes rise
lowest_purged-rises : (sp : Block → Bool) (bs : List Block) (k m : ℕ) → k ≤ m
    → free_sum (lowest_purged k sp bs) ≤ free_sum (lowest_purged m sp bs)
lowest_purged-rises sp [] k m le = omega (arith, ap free_sum (lowest_purged-none k sp))
lowest_purged-rises sp (b ∷ bs) k m le = cases (may_be_purged sp b) refl k m le (lowest_purged-rises sp bs)
  where
    cases : (t : Bool) → may_be_purged sp b ≡ t → (k m : ℕ) → k ≤ m
        → ((k m : ℕ) → k ≤ m → free_sum (lowest_purged k sp bs) ≤ free_sum (lowest_purged m sp bs))
        → free_sum (lowest_purged k sp (b ∷ bs)) ≤ free_sum (lowest_purged m sp (b ∷ bs))
    cases true e zero zero le rest = omega arith
    cases true e zero (suc m) le rest =
        omega (arith, ap free_sum (lowest_purged-goes m sp b bs e), free_of-le b, rest 0 m (omega arith))
    cases true e (suc k) zero le rest = absurd (omega (arith, le))
    cases true e (suc k) (suc m) le rest =
        omega (
          arith,
          ap free_sum (lowest_purged-goes k sp b bs e),
          ap free_sum (lowest_purged-goes m sp b bs e),
          rest k m (omega (arith, le)),
        )
    cases false e k m le rest =
        omega (
          arith,
          ap free_sum (lowest_purged-stays k sp b bs e),
          ap free_sum (lowest_purged-stays m sp b bs e),
          rest
              k m le,
        )

free-rises : (sp : Block → Bool) (bs : List Block) (k m : ℕ) → k ≤ m
    → free_sum (purge k sp bs) ≤ free_sum (purge m sp bs)
free-rises sp bs k m le = omega (
  arith,
  total-tidy free_of (λ n m. refl) (lowest_purged k sp bs),
  total-tidy free_of (λ n m. refl) (lowest_purged m sp bs),
  lowest_purged-rises sp bs k m le,
)

pub enough-rises : (d : ℕ) (sp : Block → Bool) (bs : List Block) (k m : ℕ) → k ≤ m
    → has_free d (purge k sp bs) ≡ true → has_free d (purge m sp bs) ≡ true
enough-rises d sp bs k m le e = le-leb d (free_sum (purge m sp bs))
    (omega (arith, leb-true d (free_sum (purge k sp bs)) e, free-rises sp bs k m le))

-- the most bytes of neighbouring blocks, where a block either adds its bytes to those below, or begins anew
module _ (most : ℕ → List Block → ℕ) (adds : Block → Bool) (bytes : Block → ℕ)
    (ends : (free : ℕ) → most free [] ≡ free)
    (more_is : (free : ℕ) (b : Block) (above : List Block)
    → most free (b ∷ above) ≡ cond (adds b) (most (free + bytes b) above) (max free (most 0 above)))
    (free_adds : (n : ℕ) → adds (Free n) ≡ true) (free_bytes : (n : ℕ) → bytes (Free n) ≡ n)
    (few : (b : Block) → bytes b ≤ size b)
  where
    most-least : (free : ℕ) (bs : List Block) → free ≤ most free bs
    most-least free [] = omega (arith, ends free)
    most-least free (b ∷ bs) = omega (arith, more_is free b bs, cases (adds b) (most-least (free + bytes b) bs))
      where
        cases : (t : Bool) → free + bytes b ≤ most (free + bytes b) bs
            → free ≤ cond t (most (free + bytes b) bs) (max free (most 0 bs))
        cases true le = omega (arith, le)
        cases false le = omega arith

    -- where a block went
    most-goes : (free k : ℕ) (sp : Block → Bool) (b : Block) (bs : List Block) → may_be_purged sp b ≡ true
        → most free (lowest_purged (suc k) sp (b ∷ bs)) ≡ most (free + size b) (lowest_purged k sp bs)
    most-goes free k sp b bs e =
        ap (most free) (lowest_purged-goes k sp b bs e) ∙ more_is free (Free (size b)) (lowest_purged k sp bs)
        ∙ cond-true (adds (Free (size b))) _ _ (free_adds (size b))
        ∙ ap (λ n. most (free + n) (lowest_purged k sp bs)) (free_bytes (size b))

    -- they are more after more purges
    most-rises : (sp : Block → Bool) (bs : List Block) (k m free free' : ℕ) → k ≤ m → free ≤ free'
        → most free (lowest_purged k sp bs) ≤ most free' (lowest_purged m sp bs)
    most-rises sp [] k m free free' le more = omega (
      arith,
      ap (most free) (lowest_purged-none k sp),
      ap (most free') (lowest_purged-none m sp),
      ends free,
      ends free',
      more,
    )
    most-rises sp (b ∷ bs) k m free free' le more = cases (may_be_purged sp b) refl k m le (most-rises sp bs)
      where
        either : (t : Bool) (one one' two two' : ℕ) → one ≤ one' → two ≤ two'
            → cond t one (max free two) ≤ cond t one' (max free' two')
        either true one one' two two' first second = first
        either false one one' two two' first second = omega (arith, second, more)

        within : (t : Bool) (one two all : ℕ) → one ≤ all → free ≤ all → two ≤ all → cond t one (max free two) ≤ all
        within true one two all first low second = first
        within false one two all first low second = omega (arith, low, second)

        cases : (t : Bool) → may_be_purged sp b ≡ t → (k m : ℕ) → k ≤ m → ((k m free free' : ℕ) → k ≤ m → free ≤ free'
            → most free (lowest_purged k sp bs) ≤ most free' (lowest_purged m sp bs))
            → most free (lowest_purged k sp (b ∷ bs)) ≤ most free' (lowest_purged m sp (b ∷ bs))
        cases true e zero zero le rest = omega (
          arith,
          more_is free b bs,
          more_is free' b bs,
          either (adds b) (most (free + bytes b) bs) (most (free' + bytes b) bs) (most 0 bs) (most 0 bs)
              (rest 0 0 (free + bytes b) (free' + bytes b) le (omega (arith, more))) (rest 0 0 0 0 le le),
        )
        cases true e zero (suc m) le rest = omega (
          arith,
          more_is free b bs,
          most-goes free' m sp b bs e,
          within (adds b) (most (free + bytes b) bs) (most 0 bs) (most (free' + size b) (lowest_purged m sp bs))
              (rest 0 m (free + bytes b) (free' + size b) (omega arith) (omega (arith, more, few b)))
              (omega (arith, more, most-least (free' + size b) (lowest_purged m sp bs)))
              (rest 0 m 0 (free' + size b) (omega arith) (omega arith)),
        )
        cases true e (suc k) zero le rest = absurd (omega (arith, le))
        cases true e (suc k) (suc m) le rest = omega (
          arith,
          most-goes free k sp b bs e,
          most-goes free' m sp b bs e,
          rest k m (free + size b) (free' + size b) (omega (arith, le)) (omega (arith, more)),
        )
        cases false e k m le rest = omega (
          arith,
          ap (most free) (lowest_purged-stays k sp b bs e) ∙ more_is free b (lowest_purged k sp bs),
          ap (most free') (lowest_purged-stays m sp b bs e) ∙ more_is free' b (lowest_purged m sp bs),
          either (adds b) (most (free + bytes b) (lowest_purged k sp bs)) (most (free' + bytes b) (lowest_purged m sp bs))
              (most 0 (lowest_purged k sp bs)) (most 0 (lowest_purged m sp bs))
              (rest k m (free + bytes b) (free' + bytes b) le (omega (arith, more))) (rest k m 0 0 le (omega arith)),
        )

-- so the largest Free block is larger
largest-rises : (n : Sparing) (zone : List Block) (k m : ℕ) → k ≤ m
    → largest_free (purged k n zone) ≤ largest_free (purged m n zone)
largest-rises n zone k m le = omega (
  arith,
  largest-purged n k zone,
  largest-purged n m zone,
  most-rises largest_stretch is_free size (λ free. refl) (λ free b above. refl) (λ n. refl) (λ n. refl)
      (λ b. omega arith) (spared n) (opened n zone) k m 0 0 le (omega arith),
)

-- where blocks stand apart, a Free block has a byte
room-one : (bs : List Block) → Apart bs → has (is_room 0) bs ≡ has (is_room 1) bs
room-one [] apart = refl
room-one (Free n ∷ bs) apart =
    ap (λ t. t || has (is_room 0) bs) (le-leb 0 n (omega arith)
    ∙ sym (le-leb 1 n (omega (arith, apart-size (Free n) bs apart.0))))
    ∙ ap (λ t. nat_le 1 n || t) (room-one bs apart.1)
room-one (Nonrelocatable id content ∷ bs) apart = room-one bs apart.1
room-one (Masters ∷ bs) apart = room-one bs apart.1
room-one (Relocatable id flags content ∷ bs) apart = room-one bs apart.1

-- a Free block of so many bytes is there after more purges
some-rises : (p : ℕ) (n : Sparing) (zone : List Block) (k m : ℕ) → 0 < p → k ≤ m
    → has (is_room p) (purged k n zone) ≡ true → has (is_room p) (purged m n zone) ≡ true
some-rises p n zone k m pos le is =
    let fits = leb-true p (largest_free (purged k n zone)) (room-largest p (purged k n zone) pos ∙ is) in
    sym (room-largest p (purged m n zone) pos)
    ∙ le-leb p (largest_free (purged m n zone)) (omega (arith, fits, largest-rises n zone k m le))

room-rises : (p : ℕ) (n : Sparing) (zone : List Block) (k m : ℕ) → k ≤ m → has (is_room p) (purged k n zone) ≡ true
    → has (is_room p) (purged m n zone) ≡ true
room-rises zero n zone k m le is =
    room-one (purged m n zone) (apart-tidy (lowest_purged m (spared n) (opened n zone)))
    ∙ some-rises 1 n zone k m (omega arith) le
    (sym (room-one (purged k n zone) (apart-tidy (lowest_purged k (spared n) (opened n zone)))) ∙ is)
room-rises (suc p) n zone k m le is = some-rises (suc p) n zone k m (omega arith) le is

pub has_room-rises : (p : Option ℕ) (n : Sparing) (zone : List Block) (k m : ℕ) → k ≤ m
    → has_room p (purged k n zone) ≡ true → has_room p (purged m n zone) ≡ true
has_room-rises None n zone k m le is = is
has_room-rises (Some p) n zone k m le is = room-rises p n zone k m le is

-- the most Free bytes of a run, where the lowest one has so many below
abbrev most_from : ℕ → List Block → ℕ
most_from free bs = largest_from free (segments bs)

most-on : (free : ℕ) (b : Block) (above : List Block) → most_from free (b ∷ above)
    ≡ cond (in_run b) (most_from (free + free_of b) above) (max free (most_from 0 above))
most-on free b above = cases (in_run b)
  where
    cases : (t : Bool) → largest_from free (cond {A = Segments} t
        (record { first = b ∷ (segments above).first; rest = (segments above).rest })
        (record { first = []; rest = record { barrier = b; run = (segments above).first } ∷ (segments above).rest }))
        ≡ cond t (most_from (free + free_of b) above) (max free (most_from 0 above))
    cases true = omega arith
    cases false = omega arith

-- it is the same where Free blocks are made one
most-add : (free : ℕ) (b : Block) (bs : List Block) → most_from free (add b bs) ≡ most_from free (b ∷ bs)
most-add free = add-joined (most_from free)
    (λ bs. let z : most_from free (Free 0 ∷ bs) ≡ most_from free bs = omega arith in z)
    (λ n m bs. let z : most_from free (Free (n + m) ∷ bs) ≡ most_from free (Free n ∷ Free m ∷ bs) = omega arith in z)

most-tidy : (free : ℕ) (bs : List Block) → most_from free (tidy bs) ≡ most_from free bs
most-tidy free [] = refl
most-tidy free (b ∷ bs) =
    most-add free b (tidy bs) ∙ most-on free b (tidy bs)
    ∙ ap (λ n. cond (in_run b) n (max free (most_from 0 (tidy bs)))) (most-tidy (free + free_of b) bs)
    ∙ ap (λ n. cond (in_run b) (most_from (free + free_of b) bs) (max free n)) (most-tidy 0 bs)
    ∙ sym (most-on free b bs)

most-purged : (n : Sparing) (k : ℕ) (zone : List Block)
    → largest_run (purged k n zone) ≡ most_from 0 (lowest_purged k (spared n) (opened n zone))
most-purged n k zone =
    (let z : largest_run (purged k n zone) ≡ most_from 0 (purged k n zone) = omega arith in z)
    ∙ most-tidy 0 (lowest_purged k (spared n) (opened n zone))

-- so a run with enough bytes is there after more purges
pub run-rises : (p : ℕ) (n : Sparing) (zone : List Block) (k m : ℕ) → k ≤ m
    → is_some (run_spot (has_free p) (purged k n zone)) ≡ true
    → is_some (run_spot (has_free p) (purged m n zone)) ≡ true
run-rises p n zone k m le is =
    let fits = leb-true p (largest_run (purged k n zone)) (sym (run-there p (purged k n zone)) ∙ is) in
    run-there p (purged m n zone) ∙ le-leb p (largest_run (purged m n zone)) (omega (
      arith,
      fits,
      most-purged n k zone,
      most-purged n m zone,
      most-rises most_from in_run free_of (λ free. omega arith) most-on (λ n. refl) (λ n. refl) free_of-le (spared n)
          (opened n zone) k m 0 0 le (omega arith),
    ))
