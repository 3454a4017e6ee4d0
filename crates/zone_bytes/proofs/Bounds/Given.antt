-- What blocks would give if they were emptied, through each change of a zone.
use Rattle.zone_bytes.proofs.Cited.{◌≡◌, ℕ, zero, suc, ◌+◌, ◌-◌, ◌≤◌, ◌<◌, ◌^◌, Bool, true, false, cond, Option, Some, List, [], ◌∷◌, ◌++◌}
use Rattle.zone_bytes.proofs.Cited.{map, refl, ap, ◌∙◌, arith, and_parts, option_map, Block, Free, Relocatable, size, sizes, total, free_of}
use Rattle.zone_bytes.proofs.Cited.{free_sum, count, is_purgeable, fresh, tidy, freed, grow_up, Spot, spot, raised, filled, may_be_purged}
use Rattle.zone_bytes.proofs.Cited.{lowest_purged, most_purges, purged, spared, free-purged, total-sized, SeesNoFree, unless, unless-none}
use Rattle.zone_bytes.proofs.Cited.{freely, freed-is, tidied, total-tidy, total-append, total-le, emptied, zone_in, IsSound}
use Rattle.zone_bytes.proofs.Cited.{Became, purgeable_of, purgeable_sum, purgeable_at}
use Rattle.block_store.specs.declared.sparing.Sparing.TheVariants as sparing
use Rattle.zone_bytes.proofs.Bounds.Emptying.{all-purged}
use Rattle.zone_bytes.proofs.Laws.Lawful.{sizes-length}
use Rattle.zone_bytes.proofs.Places.Walks.{free_span-le}

-- no Free block would give anything
pub none-free : SeesNoFree purgeable_of
none-free n = refl

pub given-tidy : (zone : List Block) → purgeable_sum (tidy zone) ≡ purgeable_sum zone
given-tidy zone = tidied purgeable_of none-free zone

-- a block with others below and above
pub given-parts : (below : List Block) (b : Block) (above : List Block)
    → purgeable_sum (below ++ b ∷ above) ≡ purgeable_sum below + (purgeable_of b + purgeable_sum above)
given-parts below b above = total-append purgeable_of _ _

-- a block at the lower end of another's place
pub given-filled : (new : Block) (s : Spot)
    → purgeable_sum (filled new s) ≡ purgeable_sum s.below + (purgeable_of new + purgeable_sum s.above)
given-filled new s = omega (arith, given-tidy, given-parts)

-- blocks that would give nothing were freed
pub given-freed : (test : Block → Bool) → ((b : Block) → test b ≡ true → purgeable_of b ≡ 0) → (zone : List Block)
    → purgeable_sum (tidy (freed test zone)) ≡ purgeable_sum zone
given-freed test nothing zone = grind (arith, given-tidy, freed-is)

-- where one block at most passes, what it would give is gone with it
pub given-released : (test : Block → Bool) (zone : List Block) → count test zone ≤ 1
    → purgeable_sum (tidy (freed test zone)) + purgeable_at (spot test zone) ≡ purgeable_sum zone
given-released test zone once =
    omega (arith, given-tidy (freed test zone), freed-is purgeable_of none-free test zone, beside zone once)
  where
    beside : (zone : List Block) → count test zone ≤ 1
        → total (unless test purgeable_of) zone + purgeable_at (spot test zone) ≡ purgeable_sum zone
    beside [] once = refl
    beside (b ∷ zone) once = cases (test b) (spot test zone) (beside zone) (unless-none test purgeable_of _) once
      where
        cases : (t : Bool) (o : Option Spot)
            → (count test zone ≤ 1 → total (unless test purgeable_of) zone + purgeable_at o ≡ purgeable_sum zone)
            → (count test zone ≤ 0 → total (unless test purgeable_of) zone ≡ purgeable_sum zone)
            → cond {A = ℕ} t 1 0 + count test zone ≤ 1
            → cond {A = ℕ} t 0 (purgeable_of b) + total (unless test purgeable_of) zone
            + purgeable_at (cond t (Some (record { below = []; here = b; above = zone })) (option_map (raised b) o))
            ≡ purgeable_of b + purgeable_sum zone
        cases t o more none once = grind arith

-- what is emptied becomes Free
pub given-lowest_purged : (k : ℕ) (sp : Block → Bool) (zone : List Block)
    → free_sum (lowest_purged k sp zone) + purgeable_sum (lowest_purged k sp zone) ≡ free_sum zone + purgeable_sum zone
given-lowest_purged zero sp zone = refl
given-lowest_purged (suc k) sp [] = refl
given-lowest_purged (suc k) sp (b ∷ zone) = cases (may_be_purged sp b) refl (given-lowest_purged k sp _)
    (given-lowest_purged (suc k) sp zone)
  where
    gives : (b : Block) → is_purgeable b ≡ true → (free_of b ≡ 0) × (purgeable_of b ≡ size b)
    gives (Relocatable id flags content) p = (refl, ap (λ t. cond t (size (Relocatable id flags content)) 0) p)
    gives _ p = let f : false ≡ true = p in cc

    cases : (t : Bool) → may_be_purged sp b ≡ t
        → free_sum (lowest_purged k sp zone) + purgeable_sum (lowest_purged k sp zone) ≡ free_sum zone + purgeable_sum
        zone → free_sum (lowest_purged (suc k) sp zone) + purgeable_sum (lowest_purged (suc k) sp zone)
        ≡ free_sum zone + purgeable_sum zone
        → free_sum (cond t (Free (size b) ∷ lowest_purged k sp zone) (b ∷ lowest_purged (suc k) sp zone))
        + purgeable_sum (cond t (Free (size b) ∷ lowest_purged k sp zone) (b ∷ lowest_purged (suc k) sp zone))
        ≡ free_sum (b ∷ zone) + purgeable_sum (b ∷ zone)
    cases t e r r' = grind (arith, gives, and_parts)

-- no blocks would give more bytes than they take
pub given-sizes : (zone : List Block) → purgeable_sum zone ≤ sizes zone
given-sizes zone = grind (arith, total-le)

-- all that may be purged is purged
pub all-given : (zone : List Block) → free_sum (purged (most_purges sparing.Nothing zone) sparing.Nothing zone)
    ≡ free_sum zone + purgeable_sum zone
all-given zone = free-purged sparing.Nothing (most_purges sparing.Nothing zone) zone
    ∙ ap free_sum (all-purged (spared sparing.Nothing) zone) ∙ sum zone
  where
    one : (b : Block) → free_of (emptied (spared sparing.Nothing) b) ≡ free_of b + purgeable_of b
    one (Relocatable id flags content) = grind arith
    one _ = omega arith

    sum : (zone : List Block) → free_sum (map (emptied (spared sparing.Nothing)) zone) ≡ free_sum zone + purgeable_sum
        zone
    sum [] = refl
    sum (b ∷ zone) = omega (arith, one b, sum zone)

-- no zone has, and would give, more bytes than a number holds
pub given-fits : (xs : List ℕ) (first unused : ℕ) → IsSound xs first unused
    → free_sum (zone_in xs) + purgeable_sum (zone_in xs) < 2 ^ 32
given-fits xs first unused i = omega (arith, given-sizes, free_span-le, sizes-length)

-- a block that grew into the Free block above it
pub given-grown : (new : Block) (s : Spot) (z : List Block) → grow_up new s ≡ Some z
    → purgeable_sum z ≡ purgeable_sum s.below + (purgeable_of new + purgeable_sum s.above)
given-grown new s z e = grind (arith, total-sized)

-- a fresh zone would give nothing
pub given-fresh : (n : ℕ) → purgeable_sum (fresh n) ≡ 0
given-fresh n = let f = freely purgeable_of none-free (n - 272) in omega arith

-- a block that would give nothing, at the lower end of a Free block's place
pub given-put : (new : Block) → purgeable_of new ≡ 0 → (s : Spot) (zone : List Block)
    → zone ≡ s.below ++ s.here ∷ s.above → (n : ℕ) → s.here ≡ Free n → purgeable_sum (filled new s) ≡ purgeable_sum zone
given-put new none s zone whole n free = grind (arith, given-filled, given-parts)

-- a block became another
pub given-became : (place : ℕ) (old new : List Block) (b : Became place old new)
    → (purgeable_sum new + purgeable_of b.here ≡ purgeable_sum old + purgeable_of b.there)
    × (purgeable_of b.here ≤ purgeable_sum old)
given-became place old new b = grind (arith, given-parts)

-- the zone that bytes spell would give no more than it has
pub given-small : (xs : List ℕ) (first unused : ℕ) → IsSound xs first unused → purgeable_sum (zone_in xs) < 2 ^ 32
given-small xs first unused i = omega (arith, given-sizes, sizes-length)

-- blocks above one were emptied
pub given-purged : (below : List Block) (b : Block) (k : ℕ) (sp : Block → Bool) (above zone : List Block)
    → zone ≡ below ++ b ∷ above → (freed : ℕ)
    → free_sum (tidy (below ++ b ∷ lowest_purged k sp above)) ≡ free_sum zone + freed
    → purgeable_sum (tidy (below ++ b ∷ lowest_purged k sp above)) + freed ≡ purgeable_sum zone
given-purged below b k sp above zone whole freed f = grind (arith, total-tidy, given-lowest_purged, total-append)
