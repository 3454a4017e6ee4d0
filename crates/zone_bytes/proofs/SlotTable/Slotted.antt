-- A RawZone whose slot is taken or given back.
use Rattle.zone_bytes.proofs.Cited.{◌≡◌, ℕ, Bool, true, false, IsTrue, eqb, ◌+◌, ◌-◌, ◌<◌, ◌≤◌, inl, inr, [], ◌∷◌, ◌==◌, ◌%◌, List, length}
use Rattle.zone_bytes.proofs.Cited.{sym, refl, ap, ◌∙◌, subst, arith, ◌*◌, false≢true, eqb_tells, length-le_from_distinct_below, IsDistinct}
use Rattle.zone_bytes.proofs.Cited.{AllByRecursion, list_any, is_relocatable, Block, has, Unused, Used, set_slot, is_used, is_resource}
use Rattle.zone_bytes.proofs.Cited.{Slot, zone_in, IsSound, Table, Says, Lays, MayGive, slot_in, first_of, IsSlot, names, Apart, Each}
use Rattle.zone_bytes.proofs.Cited.{Pairs, word_at, word, read_back, length-word, written, piece-written, GREATEST_ZONE}
use Rattle.zone_bytes.proofs.SlotTable.Tables.{each-both, apart-of, slot-in, each-has, no-name, set-other, used-apart}
use Rattle.zone_bytes.proofs.SlotTable.Tables.{unused-apart, chain-written, lays-written, set-same, used-is}
use Rattle.zone_bytes.proofs.Tiles.Zones.{SomeUnused}
use Rattle.zone_bytes.proofs.Laws.Lawful.{Made, made}

module _ {xs : List ℕ} {blocks : List Block} {slots : ℕ → Slot} {first : ℕ} {unused : List ℕ}
    (h : Lays xs blocks slots (first ∷ unused)) where
  pub first-in : (first % 4 ≡ 0) × (first + 4 ≤ length xs)
  first-in = slot-in xs blocks slots (first ∷ unused) h first h.unused_slots.0.0

  pub taken : Lays (written first (word 2) xs) blocks (set_slot slots first (Used false)) unused
  taken =
      let i = h.unused_slots.0.0 in
      let a = unused-apart xs blocks slots (first ∷ unused) h first i h.unused_slots.0.1 in
      let b = first-in in
      lays-written _ _ slots _ h _ 2 _ _ i a (λ t d e k. elim k [ inl m ↦ absurd (d (sym m)) | inr m ↦ m ])
      (i, inr (a, piece-written _ _ xs 4 (sym (length-word 2)) (omega arith)))
      (chain-written xs blocks slots (first ∷ unused) h first 2 unused (omega arith) h.once.0 h.chain.1)
      (grind (arith, each-both, set-other)) h.once.1

pub first-small : {xs : List ℕ} {blocks : List Block} {slots : ℕ → Slot} {all : List ℕ} → Lays xs blocks slots all
    → (unused : List ℕ) → Each (λ s. IsSlot s blocks × (slots s ≡ Unused)) unused → first_of unused < GREATEST_ZONE
first-small h [] u = omega arith
first-small h (s ∷ unused) u = let b = slot-in _ _ _ _ h s u.0.0 in omega (arith, h.small)

-- the word of the first unused slot
pub first-reads : {xs : List ℕ} {blocks : List Block} {slots : ℕ → Slot} {first : ℕ} {unused : List ℕ}
    → Lays xs blocks slots (first ∷ unused) → word_at first xs ≡ 16 * first_of unused + 1
first-reads {xs} {blocks} {slots} {first} {unused} h =
    let s = first-small h unused h.unused_slots.1 in
    read_back first (16 * first_of unused + 1) xs (omega arith) h.chain.0

module _ {xs : List ℕ} {t : Table} {s first : ℕ} (q : MayGive xs t s first) where
  used-slot : IsSlot s t.blocks
  used-slot = (subst (Says t.blocks xs t.unused s) q.used (q.lays.says s)).0

  pub slot-fits : (s % 4 ≡ 0) × (s + 4 ≤ length xs)
  slot-fits = slot-in xs t.blocks t.slots t.unused q.lays s used-slot

  pub first-fits : first < GREATEST_ZONE
  first-fits = omega (arith, first-small q.lays t.unused q.lays.unused_slots, q.begins)

  pub given : Lays (written s (word (16 * first + 1)) xs) t.blocks (set_slot t.slots s Unused) (s ∷ t.unused)
  given =
      let n = 16 * first + 1 in
      let far = used-apart xs t.blocks t.slots t.unused q.lays s q.resource used-slot q.used in
      let b = slot-fits in
      lays-written _ _ t.slots _ q.lays s n _ _ used-slot q.apart (λ t d e k. inr k) (used-slot, inl refl) (
        piece-written s (word n) xs 4 (sym (length-word n)) (omega arith) ∙ ap (λ k. word (16 * k + 1)) q.begins,
        chain-written xs t.blocks t.slots t.unused q.lays s n t.unused (omega arith) far q.lays.chain,
      ) ((used-slot, set-same t.slots s s Unused refl), grind (arith, each-both, set-other)) (far, q.lays.once)

module _ (xs : List ℕ) (first count : ℕ) (i : IsSound xs first count) where
  module _ (some : 0 < count) where
    one : SomeUnused first i.unused
    one = grind arith

    abbrev table : Table
    table = record { blocks = zone_in xs; slots = slot_in xs; unused = one.rest }

    pub may-take : (t : Table) × Lays xs t.blocks t.slots (first ∷ t.unused)
    may-take = (table, rw one.is at i.lays)

    pub taken-made : (new : List ℕ) (next : ℕ) → ((t : Table) → Lays xs t.blocks t.slots (first ∷ t.unused)
        → Lays new t.blocks (set_slot t.slots first (Used false)) t.unused × (next ≡ first_of t.unused))
        → Made new next (count - 1) (zone_in xs) (set_slot (slot_in xs) first (Used false))
    taken-made new next e =
        let d = e table (rw one.is at i.lays) in
        made _ _ (set_slot (slot_in xs) first (Used false)) _ d.0 _ _ i.tidied d.1 (grind (arith, one, i))

-- unused slots are no more than there are bytes
all-apart : (s : ℕ) (us : List ℕ) → Each (Apart s) us → AllByRecursion (λ u. eqb s u ≡ false) us
all-apart s [] a = tt
all-apart s (u ∷ us) a = (grind arith, all-apart s us a.1)

distinct-apart : (us : List ℕ) → Pairs Apart us → IsDistinct eqb us
unfolding IsDistinct
distinct-apart [] p = tt
distinct-apart (u ∷ us) p = (all-apart u _ p.0, distinct-apart us p.1)

any-has : (P : ℕ → Type 0) (us : List ℕ) (q : ℕ) → Each P us → list_any (eqb q) us ≡ true → P q
any-has P [] q e h = absurd (false≢true h)
any-has P (u ∷ us) q e h = grind (arith, eqb_tells, any-has P us q e.1)

pub count-small : (xs : List ℕ) (first count : ℕ) → IsSound xs first count → count ≤ GREATEST_ZONE
count-small xs first count i =
    let l = length-le_from_distinct_below i.unused (length xs) (distinct-apart i.unused i.lays.once) (λ q k.
    let h = any-has (λ s. IsSlot s (zone_in xs) × (slot_in xs s ≡ Unused)) i.unused q i.lays.unused_slots k in
    omega (arith, slot-in xs (zone_in xs) (slot_in xs) i.unused i.lays q h.0)) in
    omega (arith, i.lays.small, i.counted)

-- a slot that no block has is apart from those that blocks have
module _ (xs : List ℕ) (first count : ℕ) (i : IsSound xs first count) (slot : ℕ)
    (used : IsTrue (is_used (slot_in xs slot))) (none : has (is_relocatable slot) (zone_in xs) ≡ false) where
  abbrev pub flag : (r : Bool) × (slot_in xs slot ≡ Used r)
  flag = used-is (slot_in xs slot) used

  pub slot-is : IsSlot slot (zone_in xs)
  slot-is = grind (arith, flag, i)

  pub name-apart : Each (Apart slot) (names (zone_in xs))
  name-apart = let n = no-name slot (zone_in xs) none in grind (arith, each-both, apart-of)

  pub slot-reads-in : (slot % 4 ≡ 0) × (slot + 4 ≤ length xs)
  slot-reads-in = slot-in xs (zone_in xs) (slot_in xs) i.unused i.lays slot slot-is

  -- the slot's word tells whether its empty handle is a resource's
  pub flag-kept : (word_at slot xs == 18) ≡ is_resource (slot_in xs slot)
  flag-kept = grind (arith, each-has, name-apart, read_back)

  abbrev pub may-give : (t : Table) × MayGive xs t slot first
  may-give = (
    record { blocks = zone_in xs; slots = slot_in xs; unused = i.unused },
    record { lays = i.lays; begins = i.begins; resource = flag.0; used = flag.1; apart = name-apart },
  )

  pub given-made : (new : List ℕ)
      → ((t : Table) → MayGive xs t slot first → Lays new t.blocks (set_slot t.slots slot Unused) (slot ∷ t.unused))
      → Made new slot (count + 1) (zone_in xs) (set_slot (slot_in xs) slot Unused)
  given-made new e =
      made _ _ (set_slot (slot_in xs) slot Unused) _ (e may-give.0 may-give.1) _ _ i.tidied refl (omega arith)
