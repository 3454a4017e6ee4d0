-- Bytes spell one table of slots.
use Rattle.zone_bytes.proofs.Cited.{◌≡◌, ℕ, Bool, true, cond, nat_le, ◌&&◌, ◌==◌, ◌+◌, ◌-◌, ◌*◌, ◌%◌, ◌<◌, ◌≤◌, inl, inr, List, [], ◌∷◌}
use Rattle.zone_bytes.proofs.Cited.{length, take, drop, sym, refl, ap, ◌∙◌, subst, arith, length-drop, drop-drop, false≢true, or_left}
use Rattle.zone_bytes.proofs.Cited.{or_right, or_cases, and_from, and_parts, piece, word, word_at, read_back, Block, Masters, Relocatable}
use Rattle.zone_bytes.proofs.Cited.{size, is_masters, Slot, NoSlot, Unused, Used, is_resource, head_of, Tiles, IsSlot, IsSlotOf, names}
use Rattle.zone_bytes.proofs.Cited.{Leads, Each, zone_in, Has, empty_word, Chain, Says, Lays, is_slot, slot_of_word, slot_in, GREATEST_ZONE}
use Rattle.zone_bytes.proofs.Tiles.Tiling.{length-tiles, slot-inside}
use Rattle.zone_bytes.proofs.Tiles.Leading.{each-map}
use Rattle.zone_bytes.proofs.Tiles.Heads.{relocatable-told}
use Rattle.zone_bytes.proofs.Tiles.Decoding.{flag_word-small, zone-back}

pub is_slot-true : (s : ℕ) (blocks : List Block) → IsSlot s blocks → is_slot s blocks ≡ true
is_slot-true s [] i = absurd i
is_slot-true s (Masters ∷ blocks) (inl i) =
    let t : (nat_le 16 s && (nat_le (s + 4) 272 && (s % 4 == 0))) ≡ true = grind arith in or_left _ _ t
is_slot-true s (_ ∷ blocks) (inl i) = absurd i
is_slot-true s (b ∷ blocks) (inr i) = or_right _ _ (and_from _ _ (grind arith) (is_slot-true (s - size b) blocks i.1))

pub le-back : (m n : ℕ) → nat_le m n ≡ true → m ≤ n
le-back m n h = grind arith

pub is_slot-back : (s : ℕ) (blocks : List Block) → is_slot s blocks ≡ true → IsSlot s blocks
is_slot-back s [] e = absurd (false≢true e)
is_slot-back s (b ∷ blocks) e = elim (or_cases _ (nat_le (size b) s && is_slot (s - size b) blocks) e) [
  | inl p ↦ inl (own b p)
  | inr p ↦
      let q = and_parts (nat_le (size b) s) (is_slot (s - size b) blocks) p in
      inr (le-back (size b) s q.0, is_slot-back (s - size b) blocks q.1)
]
  where
    own : (b : Block) → (is_masters b && (nat_le 16 s && (nat_le (s + 4) 272 && (s % 4 == 0)))) ≡ true → IsSlotOf b s
    own Masters p = (grind arith, grind arith, grind arith)
    own _ p = absurd (false≢true p)

word-emptied : (xs : List ℕ) (w : ℕ) (r : Bool) → w ≡ empty_word r → slot_of_word xs w ≡ Used r
word-emptied xs w r e = grind arith

module _ (resource : ℕ → Bool) (xs : List ℕ) (small : length xs ≤ GREATEST_ZONE) (s : ℕ) where
  named-word : (o : ℕ) (blocks : List Block) → o % 16 ≡ 0 → Tiles (head_of resource) (drop o xs) blocks
      → Leads o blocks xs → Has (names blocks) s → slot_of_word xs (word_at s xs) ≡ Used (resource s)
  unfolding head_of
  named-word o [] e t l h = absurd h
  named-word o (Relocatable slot flags content ∷ blocks) e t l (inl h) =
      let q = relocatable-told resource o xs slot flags content t.0 in
      let g = flag_word-small flags (resource slot) in
      let w = read_back s o xs (omega (arith, length-drop o xs)) (ap (λ k. take 4 (drop k xs)) (sym h) ∙ l.0) in
      (grind arith)
  named-word o (Relocatable slot flags content ∷ blocks) e t l (inr h) =
      named-word (o + size (Relocatable slot flags content)) blocks (omega arith) (grind (arith, drop-drop)) l.1 h
  named-word o (b ∷ blocks) e t l h =
      named-word (o + size b) blocks (omega arith)
      (subst (λ k. Tiles (head_of resource) k blocks) (drop-drop (size b) o xs) t.1) l.1 h

module _ (xs : List ℕ) (blocks : List Block) (slots : ℕ → Slot) (unused : List ℕ)
    (h : Lays xs blocks slots unused) where
  pub zone-of : zone_in xs ≡ blocks
  zone-of = grind (arith, zone-back, each-map, slot-inside, length-tiles)

  chain-word : (us : List ℕ) → Each (λ u. IsSlot u blocks × (slots u ≡ Unused)) us → Chain xs us → (s : ℕ) → Has us s
      → (k : ℕ) × (k < GREATEST_ZONE) × (piece s 4 xs ≡ word (16 * k + 1))
  chain-word [] e c s h1 = absurd h1
  chain-word (u ∷ us) e c s (inr k) = chain-word us e.1 c.1 s k
  chain-word (u ∷ []) e c s (inl k) = (0, omega arith, subst (λ m. piece m 4 xs ≡ word 1) k c.0)
  chain-word (u ∷ v ∷ us) e c s (inl k) = grind (arith, slot-inside, length-tiles)

  state : (s : ℕ) (st : Slot) → slots s ≡ st → Says blocks xs unused s st
      → cond (is_slot s blocks) (slot_of_word xs (word_at s xs)) NoSlot ≡ st
  state s NoSlot e q = grind (arith, is_slot-back)
  state s Unused e q = grind (arith, chain-word, is_slot-true, read_back)
  state s (Used r) e q =
      ap (λ v. cond v (slot_of_word xs (word_at s xs)) NoSlot) (is_slot-true s blocks q.0) ∙ elim q.1 [
        | inl k ↦ named-word (λ t. is_resource (slots t)) _ h.small s 0 _ refl h.lies.tiles h.lies.leads k
            ∙ ap (λ t. Used (is_resource t)) e
        | inr k ↦ word-emptied xs (word_at s xs) r (read_back s (empty_word r) xs (grind arith) k.1)
      ]

  pub slots-of : (s : ℕ) → slot_in xs s ≡ slots s
  unfolding slot_in
  slots-of s = grind (arith, zone-of, state)
