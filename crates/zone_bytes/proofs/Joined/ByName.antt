-- The block that a handle's slot leads to.
use Rattle.zone_bytes.proofs.Cited.{◌≡◌, ℕ, Bool, true, false, ◌+◌, ◌%◌, ◌≤◌, ◌⊎◌, inl, inr, List, ◌∷◌, IsTrue, ◌++◌, length, sym, refl, ap}
use Rattle.zone_bytes.proofs.Cited.{◌∙◌, subst, arith, map-append, word_at, Block, Free, Relocatable, size, sizes, tidy, free_sum}
use Rattle.zone_bytes.proofs.Cited.{is_relocatable, freed, is_used, is_resource, total-tidy, total-append, names, Apart, Pairs, Replaced}
use Rattle.zone_bytes.proofs.Cited.{Freeing, MayRelease, HasHandle, Table, empty_word, has, freed-absent, eq-eqb}
use Rattle.zone_bytes.proofs.Tiles.Leading.{names-append, pairs-before, pairs-after}
use Rattle.zone_bytes.proofs.SlotTable.Tables.{none-apart}
use Rattle.zone_bytes.proofs.SlotTable.Handles.{IsEmptyHandle, HasBlock, handle-in, flag, state}

-- one block is made Free
pub freed-one : (t : Block → Bool) (below : List Block) (b : Block) (above : List Block) → has t below ≡ false
    → t b ≡ true → has t above ≡ false → freed t (below ++ b ∷ above) ≡ below ++ Free (size b) ∷ above
freed-one t below b above l h u = grind (arith, map-append, freed-absent)

emptied-odd : (r : Bool) → empty_word r % 16 ≡ 2
emptied-odd r = grind arith

module _ (t : Table) (slot : ℕ) (xs : List ℕ) (h : HasHandle t slot xs) where
  is : IsTrue (is_used (t.slots slot))
  is = ap is_used h.used

  pub handle-fits : (slot % 4 ≡ 0) × (slot + 4 ≤ length xs)
  handle-fits = handle-in xs t.blocks t.slots t.unused h.lays slot is

  -- the handle has a block
  pub record Found : Type 0 where
    pub block : HasBlock xs t.blocks (λ s. is_resource (t.slots s)) slot (word_at slot xs)
    pub place : word_at slot xs ≡ sizes block.below
    pub whole : word_at slot xs % 16 ≡ 0

  found : HasBlock xs t.blocks (λ s. is_resource (t.slots s)) slot (word_at slot xs) → Found
  found b = record { block = b; place = sym b.low; whole = b.even }

  either : IsEmptyHandle xs t.blocks slot (flag xs t.blocks t.slots t.unused h.lays slot is).0
      ⊎ HasBlock xs t.blocks (λ s. is_resource (t.slots s)) slot (word_at slot xs)
  either = state xs t.blocks t.slots t.unused h.lays slot is

  pub leads : word_at slot xs % 16 ≡ 0 → Found
  leads e = elim either [
    | inl k ↦
        let o = emptied-odd (flag xs t.blocks t.slots t.unused h.lays slot is).0 in
        absurd (omega (arith, k.reads))
    | inr b ↦ found b
  ]

  -- the handle is emptied
  pub emptied-is : (word_at slot xs % 16 ≡ 0 → ⊥) → tidy (freed (is_relocatable slot) t.blocks) ≡ t.blocks
  emptied-is n = grind (arith, either, freed-absent, none-apart, found)

  module _ (f : Found) where
    abbrev pub leading : Freeing
    leading = record {
      below = f.block.below;
      here = Relocatable slot f.block.flags f.block.content;
      above = f.block.above;
      slots = t.slots;
      unused = t.unused;
    }

    pub may-release : (w : ℕ) → w ≡ word_at slot xs → MayRelease leading w xs
    may-release w e = grind arith

    pub leading-is : tidy (freed (is_relocatable slot) t.blocks) ≡ tidy
        (f.block.below ++ Free (size (Relocatable slot f.block.flags f.block.content)) ∷ f.block.above)
    leading-is =
        let p = subst (Pairs Apart) (ap names f.block.whole
        ∙ names-append f.block.below (Relocatable slot f.block.flags f.block.content ∷ f.block.above))
        h.lays.has_slots.apart in
        ap tidy (ap (freed (is_relocatable slot)) f.block.whole ∙ freed-one (is_relocatable slot) _ _ _
        (none-apart slot f.block.below (pairs-before slot (names f.block.below) (names f.block.above) p))
        (eq-eqb slot slot refl) (none-apart slot f.block.above (pairs-after slot (names f.block.below)
        (names f.block.above) p)))

    pub leading-replaced : (lo hi : ℕ) → Replaced lo hi (leading.below ++ leading.here ∷ leading.above)
        (tidy (leading.below ++ Free (size leading.here) ∷ leading.above))
        → Replaced lo hi t.blocks (tidy (freed (is_relocatable slot) t.blocks))
    leading-replaced lo hi r = grind (arith, leading-is)

    pub leading-free : (n : ℕ) → n ≡ size (Relocatable slot f.block.flags f.block.content)
        → free_sum (tidy (freed (is_relocatable slot) t.blocks)) ≡ free_sum t.blocks + n
    leading-free n e = ap free_sum leading-is ∙ (grind (arith, total-tidy, total-append)) ∙ (λ i. free_sum (sym
        f.block.whole i) + sym e i)
