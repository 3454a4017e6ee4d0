-- A change that keeps the names and the slots keeps the table.
use Rattle.zone_bytes.proofs.Cited.{◌≡◌, ℕ, ◌+◌, ◌-◌, inl, inr, List, [], ◌∷◌, ◌++◌, length, sym, refl, ap, ◌∙◌, subst, arith, cond, Bool}
use Rattle.zone_bytes.proofs.Cited.{◌⊎◌, append-nil, false≢true, piece, word, Block, Free, Nonrelocatable, Masters, Relocatable, size, free}
use Rattle.zone_bytes.proofs.Cited.{sizes, movers, settle, Slot, NoSlot, Unused, Used, is_resource, Loose, sizes-settle, in-settle, IsSlot}
use Rattle.zone_bytes.proofs.Cited.{names, Apart, Each, ArePlaced, Leads, Lies, HasSlots, SameOthers, Relaid, IsUsed, Chain, Says, Lays}
use Rattle.zone_bytes.proofs.Cited.{Has, empty_word}
pub use Rattle.block_store.proofs.Regroup.Parts.{in-free as each-free}
use Rattle.zone_bytes.proofs.Tiles.Tiling.{slot-swap}
use Rattle.zone_bytes.proofs.Tiles.Leading.{names-append, each-map}
use Rattle.zone_bytes.proofs.Tiles.Permuted.{SameNames, each-moved}
use Rattle.zone_bytes.proofs.SlotTable.Tables.{unused-apart}

pub chain-kept : (xs new : List ℕ) (us : List ℕ) → Each (λ u. piece u 4 new ≡ piece u 4 xs) us → Chain xs us
    → Chain new us
chain-kept xs new [] e c = tt
chain-kept xs new (u ∷ us) e c = (e.0 ∙ c.0, chain-kept _ new us e.1 c.1)

pub slots-moved : (blocks now : List Block) → ((s : ℕ) → IsSlot s blocks → IsSlot s now)
    → SameNames (names blocks) (names now) → HasSlots blocks → HasSlots now
slots-moved blocks now i n h = record {
  slots = each-moved (λ s. IsSlot s now) _ _ n.from (each-map (λ s. IsSlot s blocks) (λ s. IsSlot s now) i _ h.slots);
  apart = n.apart h.apart;
}

-- a used slot leads to one of the blocks, or is empty
abbrev pub Stands : List Block → List ℕ → ℕ → Bool → Type 0
Stands blocks xs s r = Has (names blocks) s ⊎ (Each (Apart s) (names blocks) × (piece s 4 xs ≡ word (empty_word r)))

module _ (xs new : List ℕ) (blocks now : List Block) (slots : ℕ → Slot) (unused : List ℕ)
    (h : Lays xs blocks slots unused) where
  -- other blocks with the same slots
  pub lays-changed : Lies (λ s. is_resource (slots s)) now new → HasSlots now
      → ((s : ℕ) → IsSlot s blocks → IsSlot s now) → ((s : ℕ) → IsSlot s now → IsSlot s blocks) → ArePlaced 0 now
      → length new ≡ length xs → Each (λ s. IsUsed (slots s)) (names now)
      → ((s : ℕ) (r : Bool) → slots s ≡ Used r → IsSlot s blocks → Stands blocks xs s r → Stands now new s r)
      → ((s : ℕ) → IsSlot s blocks → slots s ≡ Unused → piece s 4 new ≡ piece s 4 xs) → Lays new now slots unused
  lays-changed lies has i j placed l used stands kept =
      record {
        lies = lies;
        has_slots = has;
        placed = placed;
        small = omega arith;
        used = used;
        says = λ s. of s (slots s) refl (h.says s);
        chain = chain-kept _ _ _ (each-map (λ u. IsSlot u blocks × (slots u ≡ Unused))
            (λ u. piece u 4 new ≡ piece u 4 xs) (λ u q. kept u q.0 q.1) _ h.unused_slots) h.chain;
        unused_slots = each-map (λ u. IsSlot u blocks × (slots u ≡ Unused)) (λ u. IsSlot u now × (slots u ≡ Unused))
            (λ u q. (i u q.0, q.1)) _ h.unused_slots;
        once = h.once;
      }
    where
      of : (s : ℕ) (st : Slot) → slots s ≡ st → Says blocks xs unused s st → Says now new unused s st
      of s NoSlot e q = λ k. q (j s k)
      of s Unused e q = (i s q.0, q.1)
      of s (Used r) e q = (i s q.0, stands s r e q.0 q.1)

  -- where the names may stand in another order
  pub lays-permuted : Lies (λ s. is_resource (slots s)) now new → SameNames (names blocks) (names now)
      → ((s : ℕ) → IsSlot s blocks → IsSlot s now) → ((s : ℕ) → IsSlot s now → IsSlot s blocks)
      → ArePlaced 0 now → SameOthers blocks xs new → length new ≡ length xs → Lays new now slots unused
  lays-permuted lies n i j p o l = grind (arith, lays-changed, slots-moved, each-moved, unused-apart)

-- a run has no Masters block
pub run-no_slot : (s : ℕ) (run : List Block) → Loose run → IsSlot s run → ⊥
run-no_slot s [] h i = i
run-no_slot s (Masters ∷ run) h (inl i) = false≢true h.0
run-no_slot s (b ∷ run) h (inr i) = run-no_slot (s - size b) run h.1 i.1
run-no_slot s (_ ∷ run) h (inl i) = i

pub names-movers : (run : List Block) → Loose run → names (movers run) ≡ names run
names-movers [] h = refl
names-movers (Free n ∷ run) h = names-movers run h.1
names-movers (Relocatable slot flags content ∷ run) h =
    ap (λ v. names (cond v (Relocatable slot flags content ∷ movers run) (movers run))) h.0
    ∙ ap (λ k. slot ∷ k) (names-movers run h.1)
names-movers _ h = absurd (false≢true h.0)

pub names-left : (blocks : List Block) (n : ℕ) → names (blocks ++ free n) ≡ names blocks
names-left blocks n = grind (arith, names-append, append-nil)

pub span-free : (n : ℕ) → sizes (free n) ≡ n
span-free n = grind arith

pub leads-free : (o n : ℕ) (xs : List ℕ) → Leads o (free n) xs
leads-free o n xs = grind arith

-- one run in the place of another
pub slot-run : (s : ℕ) (below run now above : List Block) → Loose run → sizes now ≡ sizes run
    → IsSlot s (below ++ (run ++ above)) → IsSlot s (below ++ (now ++ above))
slot-run s below run now above r e i = slot-swap s _ _ _ _ (run-no_slot _ run r) e i

pub placed-append : (o : ℕ) (ls ms : List Block) → ArePlaced o ls → ArePlaced (o + sizes ls) ms → ArePlaced o (ls ++ ms)
placed-append o [] ms h k = let e : o + 0 ≡ o = omega arith in subst (λ j. ArePlaced j ms) e k
placed-append o (b ∷ ls) ms h k = (h.0, placed-append (o + size b) ls ms h.1 (grind arith))

pub placed-left : (o : ℕ) (ls ms : List Block) → ArePlaced o (ls ++ ms) → ArePlaced o ls
placed-left o [] ms h = tt
placed-left o (b ∷ ls) ms h = (h.0, placed-left (o + size b) ls ms h.1)

pub placed-right : (o : ℕ) (ls ms : List Block) → ArePlaced o (ls ++ ms) → ArePlaced (o + sizes ls) ms
placed-right o [] ms h = let e : o ≡ o + 0 = omega arith in subst (λ j. ArePlaced j ms) e h
placed-right o (b ∷ ls) ms h = subst (λ j. ArePlaced j ms) (omega arith) (placed-right (o + size b) ls ms h.1)

-- other blocks in the place of some, of as many bytes
pub placed-swap : (o : ℕ) (below was now above : List Block) → sizes now ≡ sizes was → ArePlaced (o + sizes below) now
    → ArePlaced o (below ++ (was ++ above)) → ArePlaced o (below ++ (now ++ above))
placed-swap o below was now above e n h = grind (arith, placed-right, placed-append, placed-left)

pub placed-run : (o : ℕ) (run : List Block) → Loose run → ArePlaced o run
placed-run o [] h = tt
placed-run o (Nonrelocatable id content ∷ run) h = absurd (false≢true h.0)
placed-run o (b ∷ run) h = (tt, placed-run (o + size b) run h.1)

-- another run may stand in the place of one: it has as many bytes, and the same names
pub record Instead (below was now above : List Block) : Type 0 where
  pub in_was : Loose was
  pub in_now : Loose now
  pub span : sizes now ≡ sizes was
  pub names_are : SameNames (names (below ++ (was ++ above))) (names (below ++ (now ++ above)))

pub instead : (below was now above : List Block) → Loose was → Loose now → sizes now ≡ sizes was
    → names now ≡ names was → Instead below was now above
instead below was now above w r e n = grind (arith, names-append)

pub instead-settle : (below run above : List Block) → Loose run → Instead below run (settle run) above
instead-settle below run above r = grind (arith, instead, in-settle, sizes-settle, names-left, names-movers)

module _ {below was now above : List Block} (k : Instead below was now above) where
  abbrev old : List Block
  old = below ++ (was ++ above)

  abbrev new : List Block
  new = below ++ (now ++ above)

  pub slot-now : (s : ℕ) → IsSlot s old → IsSlot s new
  slot-now s i = slot-run s below was now above k.in_was k.span i

  -- the slots of the blocks
  pub slots-now : HasSlots old → HasSlots new
  slots-now h = slots-moved old new slot-now k.names_are h

  -- the slots of no block stay
  pub others-now : (xs ys zs : List ℕ) → SameOthers old xs ys → SameOthers new ys zs → SameOthers old xs zs
  others-now xs ys zs p o s i a = grind (arith, slot-now, each-moved)

  pub lays-run : (xs ys : List ℕ) (slots : ℕ → Slot) (unused : List ℕ) → Lays xs old slots unused
      → Relaid (λ s. is_resource (slots s)) old new xs ys → Lays ys new slots unused
  lays-run xs ys slots unused h d =
      let placed = placed-swap 0 below was now above k.span (placed-run _ now k.in_now) h.placed in
      lays-permuted xs ys old new slots unused h d.lies k.names_are
      slot-now (λ s i. slot-run s below now was above k.in_now (sym k.span) i) placed d.others d.kept
