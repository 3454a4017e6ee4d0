use Rattle.list_store.proofs.Cited.{◌≡◌, ℕ, ◌+◌, ◌-◌, ◌≤◌, ◌<◌, zero, suc, true, false, List, [], ◌∷◌, ◌++◌, length, take, drop, get_or}
use Rattle.list_store.proofs.Cited.{slice_set, sym, ◌∙◌, ap, cond, map, subst, arith, Option, Some, None, ◌⊎◌, inl, inr, cond-true}
use Rattle.list_store.proofs.Cited.{length-map, map-append, take-map, drop-map, length-take, length-append, take-append-drop, IfSome}
use Rattle.list_store.proofs.Cited.{IsSome, IsSomeAnd, Block, Free, size, sizes, free, is_room, is_relocatable, total, Spot, spot_at, taken}
use Rattle.list_store.proofs.Cited.{growth, grow_up, freed, block_of, blocks_of, nth_spot, StoredBlock, total-append, size-freed, room-size}
use Rattle.list_store.proofs.Cited.{free-some, found, if_some, taken-room, taken-fits, grow_up-taken, moved-carved}
use Rattle.list_store.specs.declared.entries.StoredBlock.TheVariants as entry
use Rattle.list_store.proofs.Zone.Listing.{entry_fits, drop-blocks, blocks-remove, nth_spot-at}
use Rattle.list_store.proofs.Zone.Spots.{from_entry, by_entry, blocks-set}

pub within-taken : (d i : ℕ) (es : List StoredBlock) → IsSome (taken d (drop i (blocks_of es))) → i < length es
within-taken d zero [] is = let f : false ≡ true = is in cc
within-taken d (suc i) [] is = let f : false ≡ true = is in cc
within-taken d zero (e ∷ es) is = omega arith
within-taken d (suc i) (e ∷ es) is = let r = within-taken d i es is in omega arith

pub taken-at : (es : List StoredBlock) (i d : ℕ) (e : StoredBlock) → i < length es → e ≡ get_or es i e
    → IsSome (taken d (drop i (blocks_of es)))
    → (d ≤ size (block_of e)) × (taken d (drop i (blocks_of es))
    ≡ Some (free (size (block_of e) - d) ++ drop (i + 1) (blocks_of es)))
taken-at es i d e within is some =
    let split = drop-blocks es i e within is in
    let room = taken-room d (block_of e) (drop (i + 1) (blocks_of es))
    (subst (λ (l : List Block). IsSome (taken d l)) split some) in
    (room-size d (block_of e) room, ap (taken d) split ∙ cond-true (is_room d (block_of e)) _ _ room)

-- the entry goes, or is what is left
pub taken-none : (es es' : List StoredBlock) (i d : ℕ) (e : StoredBlock) → es' ≡ take i es ++ drop (suc i) es
    → i < length es → e ≡ get_or es i e → IsSome (taken d (drop i (blocks_of es))) → size (block_of e) - d ≡ 0
    → IfSome (taken d (drop i (blocks_of es))) (λ above. blocks_of es' ≡ take i (blocks_of es) ++ above)
taken-none es es' i d e after within is some none =
    if_some (λ above. blocks_of es' ≡ take i (blocks_of es) ++ above) _ _ (taken-at es i d e within is some).1
    (ap blocks_of after ∙ blocks-remove es i ∙ ap (λ n. take i (blocks_of es)
    ++ (free n ++ drop (i + 1) (blocks_of es))) (sym none))

pub taken-some : (es : List StoredBlock) (i d left : ℕ) (e : StoredBlock) → i < length es → e ≡ get_or es i e
    → IsSome (taken d (drop i (blocks_of es))) → size (block_of e) - d ≡ left → (left ≡ 0 → ⊥)
    → IfSome (taken d (drop i (blocks_of es))) (λ above. blocks_of (slice_set es i (entry.Free left))
    ≡ take i (blocks_of es) ++ above)
taken-some es i d left e within is some same more =
    if_some (λ above. blocks_of (slice_set es i (entry.Free left)) ≡ take i (blocks_of es) ++ above) _ _
    (taken-at es i d e within is some).1
    (blocks-set es i (entry.Free left) within ∙ ap (λ l. take i (blocks_of es) ++ (l ++ drop (i + 1) (blocks_of es)))
    (sym (free-some left (omega arith)) ∙ ap free (sym same)))

-- a block and those above it are no more than all
pub sizes-from : (es : List StoredBlock) (i : ℕ) (e : StoredBlock) → i < length es → e ≡ get_or es i e
    → size (block_of e) + sizes (drop (i + 1) (blocks_of es)) ≤ sizes (blocks_of es)
sizes-from es i e within is =
    let a : sizes (take i (blocks_of es) ++ block_of e ∷ drop (i + 1) (blocks_of es)) ≡ sizes (blocks_of es) =
    ap (λ l. sizes (take i (blocks_of es) ++ l)) (sym (drop-blocks es i e within is))
    ∙ ap sizes (take-append-drop i (blocks_of es)) in
    let b = total-append size (take i (blocks_of es)) (block_of e ∷ drop (i + 1) (blocks_of es)) in
    omega arith

pub grown-within : (es es' : List StoredBlock) (i d : ℕ) → i < length es
    → IsSome (taken d (drop (i + 1) (blocks_of es))) → IfSome (taken d (drop (i + 1) (blocks_of es)))
    (λ above. blocks_of es' ≡ take (i + 1) (blocks_of es) ++ above) → i < length es'
grown-within es es' i d within some is = cases (taken d (drop (i + 1) (blocks_of es))) some is
  where
    cases : (o : Option (List Block)) → IsSome o → IfSome o (λ above. blocks_of es' ≡ take (i + 1) (blocks_of es)
        ++ above) → i < length es'
    cases None some is = let f : false ≡ true = some in cc
    cases (Some above) some is =
        let a : length (blocks_of es') ≡ length es' = length-map es' block_of in
        let b : length (blocks_of es) ≡ length es = length-map es block_of in
        let c = ap length is ∙ length-append (take (i + 1) (blocks_of es)) above in
        let d = length-take (i + 1) (blocks_of es) in
        omega arith

-- the spot of an entry
abbrev pub entry_spot : List StoredBlock → ℕ → StoredBlock → Spot
entry_spot es i e = record { below = take i (blocks_of es); here = block_of e; above = drop (i + 1) (blocks_of es) }

-- what is true of an entry's spot
pub and_entry : (es es' : List StoredBlock) (place i : ℕ) (e : StoredBlock) (P : Spot → Type 0) → es' ≡ es
    → (i < length es') × (spot_at place (blocks_of es') ≡ nth_spot i (blocks_of es')) → e ≡ get_or es i e
    → P (entry_spot es i e) → IsSomeAnd (spot_at place (blocks_of es)) P
and_entry es es' place i e P = by_entry es es' place i e (λ o. IsSomeAnd o P)

-- a block that has room in place of an entry takes no more than all
sized-fits : (es : List StoredBlock) (i : ℕ) (e : StoredBlock) (new : Block) → i < length es → e ≡ get_or es i e
    → (size new ≤ size (block_of e)) ⊎ IsSome (grow_up new (entry_spot es i e)) → size new ≤ sizes (blocks_of es)
sized-fits es i e new within is room = cases room
  where
    all : size (block_of e) + sizes (drop (i + 1) (blocks_of es)) ≤ sizes (blocks_of es)
    all = sizes-from es i e within is

    cases : (size new ≤ size (block_of e)) ⊎ IsSome (grow_up new (entry_spot es i e)) → size new ≤ sizes (blocks_of es)
    cases (inl le) = omega (arith, all)
    cases (inr some) =
        let d : size new - size (block_of e) ≤ sizes (drop (i + 1) (blocks_of es)) =
        taken-fits (size new - size (block_of e)) (drop (i + 1) (blocks_of es))
        (grow_up-taken new (entry_spot es i e) some) in
        omega (arith, all)

-- the entry of an index, whose place a block takes: in its bytes, or grown
pub record SizedAt (es : List StoredBlock) (i : ℕ) (e : StoredBlock) (new : Block) : Type 0 where
  pub within : i < length es
  pub room : (size new ≤ size (block_of e)) ⊎ IsSome (grow_up new (entry_spot es i e))
  pub old : size (block_of e) ≤ sizes (blocks_of es)
  pub fits : size new ≤ sizes (blocks_of es)

sized-entry : (es : List StoredBlock) (i : ℕ) (e : StoredBlock) (new : Block) → i < length es → e ≡ get_or es i e
    → (size new ≤ size (block_of e)) ⊎ IsSome (grow_up new (entry_spot es i e)) → SizedAt es i e new
sized-entry es i e new within is room = record {
  within = within;
  room = room;
  old = let le = entry_fits es i e within is in omega arith;
  fits = sized-fits es i e new within is room;
}

pub sized-at : (es now : List StoredBlock) (place i : ℕ) (e : StoredBlock) (new : Block) → now ≡ es
    → (i < length now) × (spot_at place (blocks_of now) ≡ nth_spot i (blocks_of now)) → e ≡ get_or es i e
    → IsSomeAnd (spot_at place (blocks_of es)) (λ s. (size new ≤ size s.here) ⊎ IsSome (grow_up new s))
    → SizedAt es i e new
sized-at es now place i e new same found is room =
    sized-entry es i e new (subst (λ (l : List StoredBlock). i < length l) same found.0) is
    (from_entry es now place i e (λ s. (size new ≤ size s.here) ⊎ IsSome (grow_up new s)) same found is room)

-- and one that grows there
pub record GrowsAt (es : List StoredBlock) (i : ℕ) (e : StoredBlock) (new : Block) : Type 0 where
  pub sized : SizedAt es i e new
  pub more : size (block_of e) < size new
  pub above : IsSome (taken (growth new (entry_spot es i e)) (drop (i + 1) (blocks_of es)))

pub grows-at : (es now : List StoredBlock) (place i : ℕ) (e : StoredBlock) (new : Block) → now ≡ es
    → (i < length now) × (spot_at place (blocks_of now) ≡ nth_spot i (blocks_of now)) → e ≡ get_or es i e
    → IsSomeAnd (spot_at place (blocks_of es)) (λ s. size s.here < size new)
    → IsSomeAnd (spot_at place (blocks_of es)) (λ s. IsSome (grow_up new s)) → GrowsAt es i e new
grows-at es now place i e new same found is more room =
    let here = from_entry es now place i e (λ s. IsSome (grow_up new s)) same found is room in
    record {
      sized = sized-entry es i e new (subst (λ (l : List StoredBlock). i < length l) same found.0) is (inr here);
      more = from_entry es now place i e (λ s. size s.here < size new) same found is more;
      above = grow_up-taken new (entry_spot es i e) here;
    }

-- a Free entry more
pub blocks-inserted : (es : List StoredBlock) (i left : ℕ) → blocks_of (take i es ++ entry.Free left ∷ drop i es)
    ≡ take i (blocks_of es) ++ Free left ∷ drop i (blocks_of es)
blocks-inserted es i left =
    map-append block_of (take i es) (entry.Free left ∷ drop i es)
    ∙ ap (λ l. l ++ Free left ∷ map block_of (drop i es)) (sym (take-map block_of i es))
    ∙ ap (λ l. take i (blocks_of es) ++ Free left ∷ l) (sym (drop-map block_of i es))

blocks-moved : (number : ℕ) (es es' : List StoredBlock) (i left : ℕ) (new : StoredBlock) → i < length es
    → i < length es' → blocks_of es' ≡ freed (is_relocatable number)
    (take (i + 1) (blocks_of es) ++ Free left ∷ drop (i + 1) (blocks_of es))
    → blocks_of (slice_set es' i new) ≡ freed (is_relocatable number) (take i (blocks_of es))
    ++ block_of new ∷ Free left ∷ freed (is_relocatable number) (drop (i + 1) (blocks_of es))
blocks-moved number es es' i left new within within' is =
    blocks-set es' i new within' ∙ ap (λ l. take i l ++ block_of new ∷ drop (i + 1) l) is
    ∙ moved-carved number (blocks_of es) i left (block_of new)
    (let z : length (blocks_of es) ≡ length es = length-map es block_of in omega arith)

pub sizes-moved : (number : ℕ) (es : List StoredBlock) (i left : ℕ) (e : StoredBlock) (new : Block) → i < length es
    → e ≡ get_or es i e → size new + left ≡ size (block_of e)
    → sizes (freed (is_relocatable number) (take i (blocks_of es))
    ++ new ∷ Free left ∷ freed (is_relocatable number) (drop (i + 1) (blocks_of es))) ≡ sizes (blocks_of es)
sizes-moved number es i left e new within is same =
    let t = is_relocatable number in
    let below = take i (blocks_of es) in
    let above = drop (i + 1) (blocks_of es) in
    let a = total-append size (freed t below) (new ∷ Free left ∷ freed t above) in
    let b = size-freed t below in
    let c = size-freed t above in
    let d : sizes (below ++ block_of e ∷ above) ≡ sizes (blocks_of es) =
    ap (λ l. sizes (below ++ l)) (sym (drop-blocks es i e within is))
    ∙ ap sizes (take-append-drop i (blocks_of es)) in
    let f = total-append size below (block_of e ∷ above) in
    omega arith

moved-within : (number : ℕ) (es es' : List StoredBlock) (i left : ℕ) → i < length es
    → blocks_of es' ≡ freed (is_relocatable number) (take (i + 1) (blocks_of es)
    ++ Free left ∷ drop (i + 1) (blocks_of es)) → i < length es'
moved-within number es es' i left within is =
    let a : length (blocks_of es') ≡ length es' = length-map es' block_of in
    let b : length (blocks_of es) ≡ length es = length-map es block_of in
    let c : length (blocks_of es') ≡ length (take (i + 1) (blocks_of es) ++ Free left ∷ drop (i + 1) (blocks_of es)) =
    ap length is ∙ length-map (take (i + 1) (blocks_of es) ++ Free left ∷ drop (i + 1) (blocks_of es))
    (λ b. cond (is_relocatable number b) (Free (size b)) b) in
    let d = length-append (take (i + 1) (blocks_of es)) (Free left ∷ drop (i + 1) (blocks_of es)) in
    let f = length-take (i + 1) (blocks_of es) in
    omega arith

-- the block of a slot is freed, after a Free entry was put in, and another is set below that
pub moved-at : (number : ℕ) (es inserted es' : List StoredBlock) (i left : ℕ) (new : StoredBlock) → i < length es
    → inserted ≡ take (i + 1) es ++ entry.Free left ∷ drop (i + 1) es
    → blocks_of es' ≡ freed (is_relocatable number) (blocks_of inserted)
    → blocks_of (slice_set es' i new) ≡ freed (is_relocatable number) (take i (blocks_of es))
    ++ block_of new ∷ Free left ∷ freed (is_relocatable number) (drop (i + 1) (blocks_of es))
moved-at number es inserted es' i left new within put is =
    let after = is ∙ ap (freed (is_relocatable number)) (ap blocks_of put ∙ blocks-inserted es (i + 1) left) in
    blocks-moved number es es' i left new within (moved-within number es es' i left within after) after

-- a block in place of what a place's spot makes of it
pub if_entry : (es es' : List StoredBlock) (place i : ℕ) (e : StoredBlock) (f : Block → Block) (new : Block)
    (P : Block → Spot → Type 0) → es' ≡ es → (i < length es') × (spot_at place (blocks_of es')
    ≡ nth_spot i (blocks_of es')) → e ≡ get_or es i e → new ≡ f (block_of e)
    → IfSome (spot_at place (blocks_of es)) (λ s. P new s) → IfSome (spot_at place (blocks_of es)) (λ s. P (f s.here) s)
if_entry es es' place i e f new P same found is made holds =
    let within : i < length es = subst (λ (l : List StoredBlock). i < length l) same found.0 in
    let spotted : spot_at place (blocks_of es) ≡ nth_spot i (blocks_of es) =
    subst (λ (l : List StoredBlock). spot_at place (blocks_of l) ≡ nth_spot i (blocks_of l)) same found.1 in
    let at = spotted ∙ nth_spot-at i (blocks_of es) (block_of e) (drop (i + 1) (blocks_of es))
    (drop-blocks es i e within is) in
    let here : P new (entry_spot es i e) = subst (λ (o : Option Spot). IfSome o (λ s. P new s)) at holds in
    subst (λ (o : Option Spot). IfSome o (λ s. P (f s.here) s)) (sym at)
    (subst (λ (b : Block). P b (entry_spot es i e)) made here)
