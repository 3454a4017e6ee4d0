use Rattle.list_store.proofs.Cited.{◌≡◌, ℕ, ◌+◌, ◌-◌, ◌<◌, suc, List, [], ◌∷◌, ◌++◌, length, take, drop, get_or, refl, sym, ◌∙◌, ap, map}
use Rattle.list_store.proofs.Cited.{arith, Option, Some, slice_set, subst, IfSome, IsSomeAnd, set_split, map-append, take-map, drop-map}
use Rattle.list_store.proofs.Cited.{set-set, Block, Free, Nonrelocatable, Masters, Relocatable, content_of, Spot, spot_at, Flags}
use Rattle.list_store.proofs.Cited.{StoredBlock, block_of, blocks_of, nth_spot}
use Rattle.list_store.specs.declared.entries.StoredBlock.TheVariants as entry
use Rattle.list_store.proofs.Zone.Listing.{set-in_front, nth_spot-at, drop-blocks}

-- what holds of the spot of an entry holds of the spot at its place
pub by_entry : (es es' : List StoredBlock) (place i : ℕ) (e : StoredBlock) (P : Option Spot → Type 0) → es' ≡ es
    → (i < length es') × (spot_at place (blocks_of es') ≡ nth_spot i (blocks_of es')) → e ≡ get_or es i e
    → P (Some (record { below = take i (blocks_of es); here = block_of e; above = drop (i + 1) (blocks_of es) }))
    → P (spot_at place (blocks_of es))
by_entry es es' place i e P same found is holds =
    let within : i < length es = subst (λ (l : List StoredBlock). i < length l) same found.0 in
    let spotted : spot_at place (blocks_of es) ≡ nth_spot i (blocks_of es) =
    subst (λ (l : List StoredBlock). spot_at place (blocks_of l) ≡ nth_spot i (blocks_of l)) same found.1 in
    subst P (sym (spotted ∙ nth_spot-at i (blocks_of es) (block_of e)
    (drop (i + 1) (blocks_of es)) (drop-blocks es i e within is))) holds

pub at_entry : (es es' : List StoredBlock) (place i : ℕ) (e : StoredBlock) (P : Spot → Type 0) → es' ≡ es
    → (i < length es') × (spot_at place (blocks_of es') ≡ nth_spot i (blocks_of es')) → e ≡ get_or es i e
    → P (record { below = take i (blocks_of es); here = block_of e; above = drop (i + 1) (blocks_of es) })
    → IfSome (spot_at place (blocks_of es)) P
at_entry es es' place i e P = by_entry es es' place i e (λ o. IfSome o P)

-- what a condition on the spot of a place says of the entry
pub from_entry : (es es' : List StoredBlock) (place i : ℕ) (e : StoredBlock) (P : Spot → Type 0) → es' ≡ es
    → (i < length es') × (spot_at place (blocks_of es') ≡ nth_spot i (blocks_of es')) → e ≡ get_or es i e
    → IsSomeAnd (spot_at place (blocks_of es)) P
    → P (record { below = take i (blocks_of es); here = block_of e; above = drop (i + 1) (blocks_of es) })
from_entry es es' place i e P same found is holds =
    let within : i < length es = subst (λ (l : List StoredBlock). i < length l) same found.0 in
    let spotted : spot_at place (blocks_of es) ≡ nth_spot i (blocks_of es) =
    subst (λ (l : List StoredBlock). spot_at place (blocks_of l) ≡ nth_spot i (blocks_of l)) same found.1 in
    subst (λ (o : Option Spot). IsSomeAnd o P) (spotted ∙ nth_spot-at i (blocks_of es) (block_of e)
    (drop (i + 1) (blocks_of es)) (drop-blocks es i e within is)) holds

pub content-other : (e : StoredBlock) → ((p : ℕ) (v : _) → e ≡ entry.Nonrelocatable p v → ⊥)
    → ((n : ℕ) (f : Flags) (v : _) → e ≡ entry.Relocatable n f v → ⊥) → [] ≡ content_of (block_of e)
content-other (entry.Free n) a b = refl
content-other (entry.Nonrelocatable p v) a b = absurd (a p v refl)
content-other entry.Masters a b = refl
content-other (entry.Relocatable n f v) a b = absurd (b n f v refl)

-- an entry is set
pub blocks-set : (es : List StoredBlock) (i : ℕ) (w : StoredBlock) → i < length es
    → blocks_of (slice_set es i w) ≡ take i (blocks_of es) ++ block_of w ∷ drop (i + 1) (blocks_of es)
blocks-set es i w within =
    ap blocks_of (set_split es i w within) ∙ map-append block_of (take i es) (w ∷ drop (suc i) es)
    ∙ ap (λ l. l ++ block_of w ∷ map block_of (drop (suc i) es)) (sym (take-map block_of i es))
    ∙ ap (λ l. take i (blocks_of es) ++ block_of w ∷ l) (ap (λ n. map block_of (drop n es))
    (let z : suc i ≡ i + 1 = omega arith in z) ∙ sym (drop-map block_of (i + 1) es))

-- an entry is taken out, and what is made of it is put in its place
pub changed-at : (es now : List StoredBlock) (place i : ℕ) (e seen left w : StoredBlock) (f : Block → Block) → now ≡ es
    → (i < length now) × (spot_at place (blocks_of now) ≡ nth_spot i (blocks_of now)) → e ≡ seen
    → seen ≡ get_or es i seen → block_of w ≡ f (block_of e)
    → IfSome (spot_at place (blocks_of es))
    (λ s. blocks_of (slice_set (slice_set es i left) i w) ≡ s.below ++ f s.here ∷ s.above)
changed-at es now place i e seen left w f same found taken is made =
    let within : i < length es = subst (λ (l : List StoredBlock). i < length l) same found.0 in
    at_entry es now place i e
    (λ s. blocks_of (slice_set (slice_set es i left) i w) ≡ s.below ++ f s.here ∷ s.above) same found
    (taken ∙ is ∙ ap (get_or es i) (sym taken))
    (ap blocks_of (set-set es i left w) ∙ blocks-set es i w within
    ∙ ap (λ b. take i (blocks_of es) ++ b ∷ drop (i + 1) (blocks_of es)) made)

-- a block in place of another, and the rest of it Free
pub blocks-carved : (es : List StoredBlock) (i left : ℕ) (new : StoredBlock) → i < length es
    → blocks_of (slice_set (take (i + 1) es ++ entry.Free left ∷ drop (i + 1) es) i new) ≡ take i (blocks_of es)
    ++ block_of new ∷ Free left ∷ drop (i + 1) (blocks_of es)
blocks-carved es i left new within =
    ap blocks_of (set-in_front es i new (entry.Free left ∷ drop (i + 1) es) within)
    ∙ map-append block_of (take i es) (new ∷ entry.Free left ∷ drop (i + 1) es)
    ∙ ap (λ l. l ++ block_of new ∷ Free left ∷ map block_of (drop (i + 1) es)) (sym (take-map block_of i es))
    ∙ ap (λ l. take i (blocks_of es) ++ block_of new ∷ Free left ∷ l) (sym (drop-map block_of (i + 1) es))
