-- A zone that has too few bytes, and one that has nothing to give.
use Rattle.zone_bytes.proofs.Cited.{◌≡◌, ℕ, ◌+◌, ◌≤◌, ◌<◌, Bool, true, false, cond, None, List, ap, arith, Block, Free, count, free_of}
use Rattle.zone_bytes.proofs.Cited.{free_sum, is_room, run_spot, spot, may_be_purged, spared, opened, purged, most_purges, Sparing}
use Rattle.zone_bytes.proofs.Cited.{free-purged, unless-le, freed-is, purged-le, tidied, spot-is, spot-passes, total-append, total-le}
use Rattle.zone_bytes.proofs.Cited.{run_spot-is, purgeable_of, purgeable_sum}
use Rattle.zone_bytes.proofs.Bounds.Given.{none-free, given-lowest_purged}
use Rattle.zone_bytes.proofs.Places.Options.{no-spot}

-- where a zone has less than p Free bytes, no run has so many
pub no-run : (passes : List Block → Bool) (p : ℕ) → ((run : List Block) → passes run ≡ true → p ≤ free_sum run)
    → (zone : List Block) → free_sum zone < p → run_spot passes zone ≡ None
no-run passes p means zone short = no-spot (run_spot passes zone) (λ r e.
    let v = run_spot-is passes zone r e in omega (arith, ap free_sum v.0, total-append))

-- and no Free block has
pub no-room : (p : ℕ) (zone : List Block) → free_sum zone < p → spot (is_room p) zone ≡ None
no-room p zone short = no-spot (spot (is_room p) zone) (λ s e.
    let a = means s.here (spot-passes (is_room p) zone s e) in
    omega (arith, ap free_sum (spot-is (is_room p) zone s e), a, total-append, short))
  where
    means : (b : Block) → is_room p b ≡ true → p ≤ free_of b
    means (Free n) r = grind arith
    means _ r = let f : false ≡ true = r in cc

-- nothing counts as Free that isn't
abbrev pub FreesNone : Sparing → Type 0
FreesNone s = (zone : List Block) → opened s zone ≡ zone

-- no purges make more Free than what the zone has and would give
pub free-given : (s : Sparing) → FreesNone s → (k : ℕ) (zone : List Block)
    → free_sum (purged k s zone) + purgeable_sum (purged k s zone) ≡ free_sum zone + purgeable_sum zone
free-given s none k zone = grind (arith, tidied, free-purged, given-lowest_purged)

-- what counts as Free would give nothing more
given-opened : (s : Sparing) (zone : List Block) → purgeable_sum (opened s zone) ≤ purgeable_sum zone
given-opened s zone = grind (arith, freed-is, unless-le)

-- each block that may go would give something
pub one-gives : (sp : Block → Bool) (b : Block) → cond {A = ℕ} (may_be_purged sp b) 1 0 ≤ purgeable_of b
one-gives sp b = grind arith

count-given : (sp : Block → Bool) (zone : List Block) → count (may_be_purged sp) zone ≤ purgeable_sum zone
count-given sp zone = total-le (λ b. cond {A = ℕ} (may_be_purged sp b) 1 0) purgeable_of (one-gives sp) _

-- where a zone would give nothing, no block may go
pub none-goes : (s : Sparing) (zone : List Block) → purgeable_sum zone ≤ 0 → most_purges s zone ≡ 0
none-goes s zone none = omega (arith, count-given, given-opened)

pub none-next : (s : Sparing) (k : ℕ) (zone : List Block) → purgeable_sum zone ≤ 0
    → spot (may_be_purged (spared s)) (purged k s zone) ≡ None
none-next s k zone none = no-spot (spot (may_be_purged (spared s)) (purged k s zone)) (λ b e.
    let z = ap purgeable_sum (spot-is (may_be_purged (spared s)) (purged k s zone) b e) in
    let q : cond {A = ℕ} (may_be_purged (spared s) b.here) 1 0 ≡ 1 =
    ap (λ v. cond {A = ℕ} v 1 0) (spot-passes (may_be_purged (spared s)) (purged k s zone) b e) in
    let l = purged-le purgeable_of none-free k (spared s) (opened s zone) in
    omega (arith, total-append, one-gives, given-opened))
