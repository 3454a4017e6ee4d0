-- A zone with one relocatable block more, or one fewer.
use Rattle.zone_bytes.proofs.Cited.{◌≡◌, ℕ, Bool, inl, inr, List, ◌∷◌, length, ap, ◌∙◌, subst, piece, word, Block, Slot, Used, is_resource}
use Rattle.zone_bytes.proofs.Cited.{IsSlot, names, Apart, Each, ArePlaced, Lies, HasSlots, SameOthers, IsUsed, empty_word, Lays}
use Rattle.zone_bytes.proofs.Tiles.Leading.{each-map}
use Rattle.zone_bytes.proofs.Tiles.Permuted.{SameNames, each-front}
use Rattle.zone_bytes.proofs.SlotTable.Tables.{unused-apart}
use Rattle.zone_bytes.proofs.Tiles.Keeping.{lays-changed}

pub has-fewer : (blocks now : List Block) (s : ℕ) → ((t : ℕ) → IsSlot t blocks → IsSlot t now)
    → SameNames (names blocks) (s ∷ names now) → HasSlots blocks → HasSlots now
has-fewer blocks now s i n h = record {
  slots = each-map (λ t. IsSlot t blocks) (λ t. IsSlot t now) i _ (each-front (λ t. IsSlot t blocks) n h.slots).1;
  apart = (n.apart h.apart).1;
}

module _ (xs new : List ℕ) (blocks now : List Block) (slots : ℕ → Slot) (unused : List ℕ)
    (h : Lays xs blocks slots unused)
    (lies : Lies (λ t. is_resource (slots t)) now new) (has : HasSlots now) (i : (t : ℕ) → IsSlot t blocks
    → IsSlot t now) (j : (t : ℕ) → IsSlot t now → IsSlot t blocks)
    (placed : ArePlaced 0 now) (l : length new ≡ length xs) where
  -- the block of s is gone, and its handle is emptied
  module _ (s : ℕ) (r : Bool) (u : slots s ≡ Used r) (n : SameNames (names blocks) (s ∷ names now))
      (w : piece s 4 new ≡ word (empty_word r)) (o : SameOthers blocks xs new) where
    pub lays-removed : Lays new now slots unused
    lays-removed = lays-changed xs new blocks now slots unused h lies has i j placed l
        (each-front (λ t. IsUsed (slots t)) n h.used).1 (λ t p e k q. elim q [
          | inl v ↦ elim (n.to t v) [
            | inl m ↦ inr (
              subst (λ v. Each (Apart v) (names now)) m (n.apart h.has_slots.apart).0,
              subst (λ v. piece v 4 new ≡ word (empty_word p)) m (w ∙ ap (λ v. word (empty_word v)) (cc)),
            )
            | inr m ↦ inl m
          ]
          | inr v ↦ inr ((each-front (Apart t) n v.0).1, o t k v.0 ∙ v.1)
        ]) (λ t k e. o t k (unused-apart xs blocks slots unused h t k e))
