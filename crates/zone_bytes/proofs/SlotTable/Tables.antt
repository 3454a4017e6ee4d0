-- A slot's word is written.
use Rattle.zone_bytes.proofs.Cited.{◌≡◌, ℕ, Bool, ◌+◌, ◌%◌, ◌≤◌, inl, inr, List, [], ◌∷◌, length, drop, sym, false, refl, ◌∙◌, subst, arith}
use Rattle.zone_bytes.proofs.Cited.{IsTrue, ne_eqb, eq-eqb, written, piece, word, length-word, length-written, Block, Relocatable, size}
use Rattle.zone_bytes.proofs.Cited.{is_relocatable, Slot, Unused, Used, set_slot, is_resource, is_used, head_of, Tiles, IsSlot, names}
use Rattle.zone_bytes.proofs.Cited.{names_of, Apart, Each, Pairs, Lies, Has, Chain, Says, IsUsed, Lays, has, eqb_tells}
use Rattle.zone_bytes.proofs.Tiles.Tiling.{length-tiles, slot-inside, tiles-slot, slot-even}
use Rattle.zone_bytes.proofs.Tiles.Leading.{Clear, piece-clear, each-map, each-left, each-right, leads-written}
use Rattle.zone_bytes.proofs.Tiles.Heads.{length-masters}

pub each-both : {A : Type 0} (P Q R : A → Type 0) → ((x : A) → P x → Q x → R x) → (xs : List A) → Each P xs
    → Each Q xs → Each R xs
each-both P Q R f [] h k = tt
each-both P Q R f (x ∷ xs) h k = (f x h.0 k.0, each-both P Q R f xs h.1 k.1)

-- one of a list
pub each-has : (P : ℕ → Type 0) (xs : List ℕ) (s : ℕ) → Each P xs → Has xs s → P s
each-has P [] s h k = absurd k
each-has P (x ∷ xs) s h (inl e) = subst P e h.0
each-has P (x ∷ xs) s h (inr k) = each-has P xs s h.1 k

-- no block has a name that none of them has
pub none-other : (s : ℕ) (blocks : List Block) → Each (λ t. t ≡ s → ⊥) (names blocks)
    → has (is_relocatable s) blocks ≡ false
none-other s [] e = refl
none-other s (Relocatable id flags content ∷ blocks) e = rw (ne_eqb id s e.0) (none-other s blocks e.1)
none-other s (_ ∷ blocks) e = none-other s blocks e

pub none-apart : (s : ℕ) (blocks : List Block) → Each (Apart s) (names blocks) → has (is_relocatable s) blocks ≡ false
none-apart s blocks a = none-other s blocks (grind (arith, each-map))

-- and each has another where none has it
pub no-name : (s : ℕ) (blocks : List Block) → has (is_relocatable s) blocks ≡ false
    → Each (λ t. s ≡ t → ⊥) (names blocks)
no-name s [] e = tt
no-name s (Relocatable id flags content ∷ blocks) e = grind (arith, eqb_tells, no-name s blocks)
no-name s (_ ∷ blocks) e = no-name s blocks e

-- a slot's word is clear of another's
pub apart-clear : (s n t : ℕ) → Apart s t → Clear s (length (word n)) t
apart-clear s n t h = grind (arith, length-word)

-- resource flags that agree at the blocks' slots
head-agree : (f g : ℕ → Bool) (b : Block) → Each (λ s. f s ≡ g s) (names_of b) → head_of f b ≡ head_of g b
unfolding head_of
head-agree f g b e = grind arith

pub tiles-agree : (f g : ℕ → Bool) (xs : List ℕ) (blocks : List Block) → Each (λ s. f s ≡ g s) (names blocks)
    → Tiles (head_of f) xs blocks → Tiles (head_of g) xs blocks
tiles-agree f g xs [] e t = grind (arith)
tiles-agree f g xs (b ∷ blocks) e t = (
  let q = head-agree f g b (each-left (λ s. f s ≡ g s) (names_of b) (names blocks) e) in rw (← q) t.0,
  tiles-agree f g (drop (size b) xs) blocks (each-right (λ s. f s ≡ g s) (names_of b) (names blocks) e) t.1,
)

pub lies-agree : (f g : ℕ → Bool) (xs : List ℕ) (blocks : List Block) → Each (λ s. f s ≡ g s) (names blocks)
    → Lies f blocks xs → Lies g blocks xs
lies-agree f g xs blocks e l = grind (arith, tiles-agree)

-- the state of another slot
pub set-other : (slots : ℕ → Slot) (s t : ℕ) (state : Slot) → (t ≡ s → ⊥) → set_slot slots s state t ≡ slots t
set-other slots s t state h = rw (ne_eqb t s h) refl

pub set-same : (slots : ℕ → Slot) (s t : ℕ) (state : Slot) → t ≡ s → set_slot slots s state t ≡ state
set-same slots s t state h = rw (eq-eqb t s h) refl

pub used-is : (st : Slot) → IsTrue (is_used st) → (r : Bool) × (st ≡ Used r)
used-is (Used r) u = (r, refl)
used-is _ u = grind arith

module _ (xs : List ℕ) (blocks : List Block) (slots : ℕ → Slot) (unused : List ℕ)
    (h : Lays xs blocks slots unused) where
  -- two slots are apart
  pub apart-of : (s t : ℕ) → IsSlot s blocks → IsSlot t blocks → (s ≡ t → ⊥) → Apart s t
  apart-of s t i j n = grind (arith, slot-even)

  -- the slot of a handle is apart from the unused ones
  pub used-apart : (s : ℕ) (r : Bool) → IsSlot s blocks → slots s ≡ Used r → Each (Apart s) unused
  used-apart s r i u = grind (arith, each-map, apart-of)

  pub slot-in : (s : ℕ) → IsSlot s blocks → (s % 4 ≡ 0) × (s + 4 ≤ length xs)
  slot-in s i = ((slot-even (head_of _) _ s _ h.lies.tiles i), omega (arith, slot-inside, length-tiles))

  -- a slot that leads to no handle is not that of a block
  pub unused-apart : (s : ℕ) → IsSlot s blocks → slots s ≡ Unused → Each (Apart s) (names blocks)
  unused-apart s i u = grind (arith, each-both, apart-of)

  pub chain-written : (s n : ℕ) (us : List ℕ) → s ≤ length xs → Each (Apart s) us → Chain xs us
      → Chain (written s (word n) xs) us
  chain-written s n [] l a c = tt
  chain-written s n (u ∷ us) l a c = (
    piece-clear s (word n) xs u l (apart-clear s n u a.0) ∙ c.0,
    chain-written s n us l a.1 c.1,
  )

  -- the same blocks, with another state of a slot
  module _ (s : ℕ) (state : Slot) (new now : List ℕ) (lies : Lies (λ t. is_resource
      (set_slot slots s state t)) blocks new)
      (used : Each (λ t. IsUsed (set_slot slots s state t)) (names blocks)) (l : length new ≡ length xs)
      (same : (t : ℕ) → (t ≡ s → ⊥) → IsSlot t blocks → piece t 4 new ≡ piece t 4 xs)
      (kept : (t : ℕ) → (t ≡ s → ⊥) → slots t ≡ Unused → Has unused t → Has now t) (mine : Says blocks new now s state)
      (chain : Chain new now) (ok : Each (λ u. IsSlot u blocks × (set_slot slots s state u ≡ Unused)) now)
      (once : Pairs Apart now) where
    pub lays-set : Lays new blocks (set_slot slots s state) now
    lays-set = grind arith

  -- of one that has no block, and whose word is written
  pub lays-written : (s n : ℕ) (state : Slot) (now : List ℕ) (i : IsSlot s blocks) (a : Each (Apart s) (names blocks))
      → ((t : ℕ) → (t ≡ s → ⊥) → slots t ≡ Unused → Has unused t → Has now t)
      → Says blocks (written s (word n) xs) now s state → Chain (written s (word n) xs) now
      → Each (λ u. IsSlot u blocks × (set_slot slots s state u ≡ Unused)) now → Pairs Apart now
      → Lays (written s (word n) xs) blocks (set_slot slots s state) now
  lays-written s n state now i a kept mine chain ok once =
      let b = slot-in s i in
      let other : (t : ℕ) → Apart s t → set_slot slots s state t ≡ slots t = grind arith in
      lays-set s state (written s (word n) xs) now
      (grind (arith, lies-agree, each-map, other, tiles-slot, length-masters, length-word, leads-written, slot-in))
      (grind (arith, each-both, other))
      (length-written s (word n) xs (omega (arith, length-word)))
      (λ t d j. piece-clear s (word n) xs t (omega arith) (apart-clear s n t (apart-of s t i j (λ m. d (sym m)))))
      kept mine chain ok once
