use Rattle.heap_calls.proofs.Cited.{◌≡◌, ℕ, ◌+◌, ◌*◌, ◌%◌, ◌≤◌, ◌<◌, zero, suc, Bool, true, false, not, ◌&&◌, List, [], ◌∷◌, length, refl}
use Rattle.heap_calls.proofs.Cited.{◌∙◌, ap, cond, arith, padded, Block, Free, Nonrelocatable, Masters, Relocatable, size, sizes, total}
use Rattle.heap_calls.proofs.Cited.{count, free_of, free_sum, is_purgeable, is_masters, lowest_purged, may_be_purged, count_of, total-tidy}
use Rattle.heap_calls.proofs.Cited.{purged-all, sizes-lowest_purged, nothing, ease, staying_of, staying, Parted}
use Rattle.heap_calls.proofs.Promises.EmptyingLaws.{masters, masters-goes}

-- What can be had of a zone, what stays and the master pointers make up its bytes.

-- the bytes of a block that may be purged
abbrev goes_of : Block → ℕ
goes_of b = cond (may_be_purged nothing b) (size b) 0

-- a block is Free, or stays, or has master pointers, or may be purged
one-part : (b : Block) → free_of b + staying_of b + 272 * masters b + goes_of b ≡ size b
one-part (Free n) = omega arith
one-part (Nonrelocatable id content) = omega arith
one-part Masters = refl
one-part (Relocatable id flags content) = cases (not flags.locked && flags.purgeable)
  where
    cases : (t : Bool) → 0 + cond t 0 (padded (length content)) + 272 * 0 + cond (t && true) (padded (length content)) 0
        ≡ padded (length content)
    cases true = omega arith
    cases false = omega arith

all-parts : (bs : List Block) → free_sum bs + staying bs + 272 * total masters bs + total goes_of bs ≡ sizes bs
all-parts [] = refl
all-parts (b ∷ bs) = let one = one-part b in let rest = all-parts bs in omega arith

-- once all are emptied that may be, there are no more
none-left : (k : ℕ) (bs : List Block) → count_of nothing bs ≤ k → total goes_of (lowest_purged k nothing bs) ≡ 0
none-left zero [] few = refl
none-left (suc k) [] few = refl
none-left zero (b ∷ bs) few = cases (may_be_purged nothing b) few (none-left zero bs)
  where
    cases : (t : Bool) → cond {A = ℕ} t 1 0 + count_of nothing bs ≤ 0
        → (count_of nothing bs ≤ 0 → total goes_of bs ≡ 0) → cond t (size b) 0 + total goes_of bs ≡ 0
    cases true le rest = absurd (let f : 1 + count_of nothing bs ≤ 0 = le in omega arith)
    cases false le rest = let r = rest (omega arith) in omega arith
none-left (suc k) (b ∷ bs) few =
    cases (may_be_purged nothing b) refl few (none-left k bs) (none-left (suc k) bs)
  where
    cases : (t : Bool) → may_be_purged nothing b ≡ t → cond {A = ℕ} t 1 0 + count_of nothing bs ≤ suc k
        → (count_of nothing bs ≤ k → total goes_of (lowest_purged k nothing bs) ≡ 0)
        → (count_of nothing bs ≤ suc k → total goes_of (lowest_purged (suc k) nothing bs) ≡ 0)
        → total goes_of (cond t (Free (size b) ∷ lowest_purged k nothing bs) (b ∷ lowest_purged (suc k) nothing bs)) ≡ 0
    cases true is le fewer rest = let r = fewer (omega arith) in omega arith
    cases false is le fewer rest =
        let r = rest (omega arith) in
        let none : goes_of b ≡ 0 = ap {B = ℕ} (λ (t : Bool). cond t (size b) 0) is in
        omega arith

-- a block that may be purged doesn't stay
pub staying-goes : (b : Block) → is_purgeable b ≡ true → staying_of b ≡ 0
staying-goes (Free n) e = refl
staying-goes (Nonrelocatable id content) e = let f : false ≡ true = e in cc
staying-goes Masters e = refl
staying-goes (Relocatable id flags content) e = ap {B = ℕ} (λ (t : Bool). cond t 0 (padded (length content))) e

pub no-free : (n : ℕ) → staying_of (Free n) ≡ 0
no-free n = refl

pub parted : (zone : List Block) → Parted zone
parted zone =
    let k : ℕ = count_of nothing zone in
    let left : List Block = lowest_purged k nothing zone in
    let all = all-parts left in
    let none = none-left k zone (omega arith) in
    let had : ease zone ≡ free_sum left = total-tidy free_of (λ n m. refl) left in
    let stays = total-tidy staying_of (λ n m. refl) left in
    let kept = purged-all staying_of no-free staying-goes k nothing zone in
    let tables = total-tidy masters (λ n m. refl) left in
    let held = purged-all masters (λ n. refl) masters-goes k nothing zone in
    let same = sizes-lowest_purged k nothing zone in
    omega arith

-- Each part is a multiple of 16 bytes where the zone is.

sixteens-stay : (zone : List Block) → staying zone % 16 ≡ 0
sixteens-stay [] = refl
sixteens-stay (b ∷ zone) = let one = each b in let rest = sixteens-stay zone in
    let z : (staying_of b + staying zone) % 16 ≡ 0 = omega arith in z
  where
    either : (t : Bool) (n : ℕ) → cond t 0 (padded n) % 16 ≡ 0
    either true n = refl
    either false n = let z : padded n % 16 ≡ 0 = omega arith in z

    each : (b : Block) → staying_of b % 16 ≡ 0
    each (Free n) = refl
    each (Nonrelocatable id content) = either false (length content)
    each Masters = refl
    each (Relocatable id flags content) = either (not flags.locked && flags.purgeable) (length content)

ease-sixteens : (zone : List Block) → sizes zone % 16 ≡ 0 → ease zone % 16 ≡ 0
ease-sixteens zone whole = let p = parted zone in let s = sixteens-stay zone in omega arith

-- where more can be had of as many bytes, it is 16 bytes more at least
pub rises_by_sixteen : (before after : List Block) → sizes before % 16 ≡ 0 → sizes after ≡ sizes before
    → ease before < ease after → ease before + 16 ≤ ease after
rises_by_sixteen before after whole same rose =
    let p = ease-sixteens before whole in
    let q = ease-sixteens after (ap (λ (n : ℕ). n % 16) same ∙ whole) in
    omega arith

-- where more can be had of as many bytes with no fewer master pointers, less stays
pub less_stays : (before after : List Block) → sizes after ≡ sizes before
    → count is_masters before ≤ count is_masters after → ease before < ease after → staying after < staying before
less_stays before after same few rose = let p = parted before in let q = parted after in omega arith
