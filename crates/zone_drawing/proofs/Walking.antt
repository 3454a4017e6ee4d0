use Rattle.zone_drawing.proofs.Cited.{◌≡◌, ℕ, ◌+◌, ◌-◌, ◌≤◌, ◌<◌, List, [], ◌∷◌, ◌++◌, refl, sym, ◌∙◌, ap, subst, arith, Option, Some, None}
use Rattle.zone_drawing.proofs.Cited.{map, append_assoc, append-nil, map-append, none-some, same_Some, option_map, Block, size, sizes, tidy}
use Rattle.zone_drawing.proofs.Cited.{IsEdge, Spot, spot_at, seen, seen_size, Seen, seen_sizes, Apart, apart-size, apart-tidied}
use Rattle.zone_drawing.proofs.Cited.{apart-above, edge-between, spot_at-parted, spot-end, total-append}
use Rattle.block_store.proofs.Walks.Telling.{size-seen as seen-size}

-- A walk over the blocks of a zone, lowest first.

-- How far a walk has come: the blocks below a place were read, and those above it are still to be read.
pub record Walked (zone : List Block) (place : ℕ) (read : List Seen) : Type 0 where
  pub below : List Block
  pub above : List Block
  pub whole : below ++ above ≡ zone
  pub here : sizes below ≡ place
  pub seen : read ≡ map seen below

pub walked-edge : (zone : List Block) (place : ℕ) (read : List Seen) → Walked zone place read → IsEdge place zone
walked-edge zone place read w = edge-between place zone w.below w.above w.whole w.here

pub walk-begun : (zone : List Block) → Walked zone 0 []
walk-begun zone = record { below = []; above = zone; whole = refl; here = refl; seen = refl }

-- the sizes of blocks are seen
pub seen-sizes : (zone : List Block) → seen_sizes (map seen zone) ≡ sizes zone
seen-sizes [] = refl
seen-sizes (b ∷ zone) = let size_is = seen-size b in let rest = seen-sizes zone in omega (arith, size_is, rest)

-- What is reported at a place is the lowest block that is still to be read, and the walk goes on above it.
pub record Stepped (zone : List Block) (place : ℕ) (read : List Seen) (b : Seen) : Type 0 where
  pub fits : place + seen_size b ≤ sizes zone
  pub more : 0 < seen_size b
  pub next : Walked zone (place + seen_size b) (read ++ b ∷ [])

-- a block as it is told at a place
abbrev told_at : ℕ → List Block → Option Seen
told_at place zone = option_map (λ (s : Spot). seen s.here) (spot_at place zone)

told-none : (below : List Block) → Apart (below ++ []) → told_at (sizes below) (below ++ []) ≡ None
told-none below apart = ap (told_at (sizes below)) (append-nil below)
    ∙ ap (option_map (λ (s : Spot). seen s.here)) (spot-end below (subst Apart (append-nil below) apart))

told-some : (below : List Block) (x : Block) (above : List Block) → Apart (below ++ x ∷ above)
    → told_at (sizes below) (below ++ x ∷ above) ≡ Some (seen x)
told-some below x above apart = ap (option_map (λ (s : Spot). seen s.here)) (spot_at-parted below x above apart)

steps : (below above : List Block) (read : List Seen) (b : Seen) → Apart (below ++ above) → read ≡ map seen below
    → Some b ≡ told_at (sizes below) (below ++ above) → Stepped (below ++ above) (sizes below) read b
steps below [] read b apart is told = absurd (none-some b (sym (told ∙ told-none below apart)))
steps below (x ∷ above) read b apart is told =
    let same : b ≡ seen x = same_Some _ _ (told ∙ told-some below x above apart) in
    let size_is : seen_size b ≡ size x = ap seen_size same ∙ seen-size x in
    let big : 0 < size x = apart-size x above (apart-above below (x ∷ above) apart).0 in
    let all : sizes (below ++ x ∷ above) ≡ sizes below + (size x + sizes above) = total-append size below (x ∷ above) in
    let more : sizes (below ++ x ∷ []) ≡ sizes below + (size x + 0) = total-append size below (x ∷ []) in
    record {
      fits = omega (arith, size_is, all);
      more = omega (arith, size_is, big);
      next = record {
        below = below ++ x ∷ [];
        above = above;
        whole = append_assoc below (x ∷ []) above;
        here = omega (arith, size_is, more);
        seen = ap (λ r. r ++ b ∷ []) is ∙ ap (λ c. map seen below ++ c ∷ []) same
            ∙ sym (map-append seen below (x ∷ []));
      };
    }

pub walk-steps : (zone : List Block) (place : ℕ) (read : List Seen) (b : Seen) → tidy zone ≡ zone
    → Walked zone place read → Some b ≡ option_map (λ (s : Spot). seen s.here) (spot_at place zone)
    → Stepped zone place read b
walk-steps zone place read b tidied w told =
    let apart : Apart (w.below ++ w.above) = subst Apart (sym w.whole) (apart-tidied zone tidied) in
    let told' : Some b ≡ told_at (sizes w.below) (w.below ++ w.above) =
    told ∙ ap (λ z. told_at place z) (sym w.whole) ∙ ap (λ p. told_at p (w.below ++ w.above)) (sym w.here) in
    let P : List Block → Type 0 = λ z. Stepped z place read b in
    let Q : ℕ → Type 0 = λ p. Stepped (w.below ++ w.above) p read b in
    subst P w.whole (subst Q w.here (steps w.below w.above read b apart w.seen told'))

all-read : (below above : List Block) (read : List Seen) → read ≡ map seen below → above ≡ []
    → read ≡ map seen (below ++ above)
all-read below above read is none = is ∙ ap (map seen) (sym (append-nil below) ∙ ap (λ l. below ++ l) (sym none))

pub walk-ends : (zone : List Block) (place : ℕ) (read : List Seen) → tidy zone ≡ zone
    → Walked zone place read → None ≡ option_map (λ (s : Spot). seen s.here) (spot_at place zone)
    → read ≡ map seen zone
walk-ends zone place read tidied w told =
    let apart : Apart (w.below ++ w.above) = subst Apart (sym w.whole) (apart-tidied zone tidied) in
    let told' : None ≡ told_at (sizes w.below) (w.below ++ w.above) =
    told ∙ ap (λ z. told_at place z) (sym w.whole) ∙ ap (λ p. told_at p (w.below ++ w.above)) (sym w.here) in
    all-read w.below w.above read w.seen (none w.above apart told') ∙ ap (map seen) w.whole
  where
    none : (above : List Block) → Apart (w.below ++ above) → None ≡ told_at (sizes w.below) (w.below ++ above)
        → above ≡ []
    none [] apart told = refl
    none (x ∷ above) apart told = absurd (none-some (seen x) (told ∙ told-some w.below x above apart))

pub walk-over : (zone : List Block) (place : ℕ) (read : List Seen) → tidy zone ≡ zone
    → Walked zone place read → sizes zone ≤ place → read ≡ map seen zone
walk-over zone place read tidied w over =
    let apart : Apart (w.below ++ w.above) = subst Apart (sym w.whole) (apart-tidied zone tidied) in
    let full : sizes (w.below ++ w.above) ≤ sizes w.below = omega (arith, ap sizes w.whole, w.here, over) in
    all-read w.below w.above read w.seen (none w.above apart full) ∙ ap (map seen) w.whole
  where
    none : (above : List Block) → Apart (w.below ++ above) → sizes (w.below ++ above) ≤ sizes w.below → above ≡ []
    none [] apart full = refl
    none (x ∷ above) apart full = absurd (
        let big : 0 < size x = apart-size x above (apart-above w.below (x ∷ above) apart).0 in
        let all : sizes (w.below ++ x ∷ above) ≡ sizes w.below + (size x + sizes above) =
        total-append size w.below (x ∷ above) in
        omega (arith, big, all, full)
        )
