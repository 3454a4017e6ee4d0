-- Bytes are laid out lawfully in one way at most, so that a part can keep this fact.
use Rattle.std.specs.Prelude.{◌≡◌, ℕ, ◌+◌, ◌*◌, ◌-◌, ◌≤◌, ◌<◌, ◌⊎◌, List, [], ◌∷◌, length, drop}
use Rattle.std.proofs.Common.{inl, inr, refl, sym, ap, subst, ◌∙◌, arith}
use Rattle.std.proofs.Props.{props}
use Rattle.std.proofs.lemmas.List.{length-drop, length-take}
use native.Mathlib.Bridge.{le_prop}
use native.Mathlib.Nat.{ℕ_set}
use mathlib.Core.HLevel.{is_prop→PathP}
use Rattle.block_headers.proofs.Words.{length-word, read_back}
use Rattle.block_headers.specs.Words.{word, word_at}
use Rattle.memory_windows.specs.Writes.{piece}
use Rattle.block_store.specs.Block.{Block, Nonrelocatable, Masters, Relocatable, size, tidy}
use Rattle.block_store.specs.Slot.{Slot, NoSlot, Unused, Used}
use Rattle.block_store.specs.declared.measures.TheConstants.{GREATEST_ZONE}
use Rattle.zone_bytes.specs.Decode.{zone_in}
use Rattle.zone_bytes.specs.Layout.{Apart, ArePlaced, Each, IsSlot, IsSlotOf, Leads, Pairs, Tiles, names}
use Rattle.zone_bytes.specs.Lawful.{IsSound}
use Rattle.zone_bytes.specs.Table.{Chain, Has, IsUsed, Lays, Says, empty_word, first_of, slot_in}

-- one of two facts that exclude each other
exclusive : {P Q : Type 0} → IsProp P → IsProp Q → (P → Q → ⊥) → IsProp (P ⊎ Q)
exclusive p q not (inl x) (inl y) = ap inl (p x y)
exclusive p q not (inl x) (inr y) = absurd (not x y)
exclusive p q not (inr x) (inl y) = absurd (not y x)
exclusive p q not (inr x) (inr y) = ap inr (q x y)

each-prop : {A : Type 0} {P : A → Type 0} → ((x : A) → IsProp (P x)) → (xs : List A) → IsProp (Each P xs)
each-prop p [] = hlevel
each-prop p (x ∷ xs) = hlevel (p x, each-prop p xs)

apart-prop : (s t : ℕ) → IsProp (Apart s t)
apart-prop s t = exclusive le_prop le_prop (λ l r. omega arith)

pairs-prop : (ss : List ℕ) → IsProp (Pairs Apart ss)
pairs-prop [] = hlevel
pairs-prop (s ∷ ss) = hlevel (each-prop (apart-prop s) ss, pairs-prop ss)

apart-none : (s : ℕ) (ss : List ℕ) → Each (Apart s) ss → Has ss s → ⊥
apart-none s [] a h = h
apart-none s (t ∷ ss) a (inl e) = elim a.0 [ inl l ↦ omega (arith, e, l) | inr l ↦ omega (arith, e, l) ]
apart-none s (t ∷ ss) a (inr h) = apart-none s ss a.1 h

has-prop : (ss : List ℕ) (s : ℕ) → Pairs Apart ss → IsProp (Has ss s)
has-prop [] s p = hlevel
has-prop (t ∷ ss) s p = exclusive (ℕ_set t s) (has-prop ss s p.1)
    (λ e h. apart-none t ss p.0 (subst (Has ss) (sym e) h))

slot_of-prop : (b : Block) (s : ℕ) → IsProp (IsSlotOf b s)
slot_of-prop Masters s = hlevel (le_prop, ℕ_set)
slot_of-prop _ s = hlevel

slot_of-below : (b : Block) (s : ℕ) → IsSlotOf b s → size b ≤ s → ⊥
slot_of-below Masters s i l = omega (arith, i, l)
slot_of-below _ s i l = absurd i

slot-prop : (s : ℕ) (blocks : List Block) → IsProp (IsSlot s blocks)
slot-prop s [] = hlevel
slot-prop s (b ∷ blocks) = exclusive (slot_of-prop b s) (hlevel (le_prop, slot-prop (s - size b) blocks))
    (λ i j. slot_of-below b s i j.0)

tiles-prop : (head : Block → List ℕ) (xs : List ℕ) (blocks : List Block) → IsProp (Tiles head xs blocks)
tiles-prop head xs [] = hlevel props
tiles-prop head xs (b ∷ blocks) = hlevel (props, tiles-prop head (drop (size b) xs) blocks)

leads-prop : (o : ℕ) (blocks : List Block) (xs : List ℕ) → IsProp (Leads o blocks xs)
leads-prop o [] xs = hlevel
leads-prop o (Relocatable slot flags content ∷ blocks) xs =
    hlevel (props, leads-prop (o + size (Relocatable slot flags content)) blocks xs)
leads-prop o (b ∷ blocks) xs = hlevel (leads-prop (o + size b) blocks xs)

placed-prop : (o : ℕ) (blocks : List Block) → IsProp (ArePlaced o blocks)
placed-prop o [] = hlevel
placed-prop o (Nonrelocatable id content ∷ blocks) =
    hlevel (props, placed-prop (o + size (Nonrelocatable id content)) blocks)
placed-prop o (b ∷ blocks) = hlevel (placed-prop (o + size b) blocks)

used-prop : (state : Slot) → IsProp (IsUsed state)
used-prop (Used resource) = hlevel
used-prop _ = hlevel

says-prop : (blocks : List Block) (xs unused : List ℕ) → Pairs Apart (names blocks) → Pairs Apart unused
    → (s : ℕ) (state : Slot) → IsProp (Says blocks xs unused s state)
says-prop blocks xs unused n u s NoSlot = hlevel
says-prop blocks xs unused n u s Unused = hlevel (slot-prop s blocks, has-prop unused s u)
says-prop blocks xs unused n u s (Used resource) =
    let empty : IsProp (Each (Apart s) (names blocks) × (piece s 4 xs ≡ word (empty_word resource))) =
    hlevel (props, each-prop (apart-prop s) (names blocks)) in
    hlevel (slot-prop s blocks, exclusive (has-prop (names blocks) s n) empty (λ h a. apart-none s (names blocks) a.0 h))

chain-prop : (xs ss : List ℕ) → IsProp (Chain xs ss)
chain-prop xs [] = hlevel
chain-prop xs (s ∷ ss) = hlevel (props, chain-prop xs ss)

lays-prop : (xs : List ℕ) (blocks : List Block) (slots : ℕ → Slot) (unused : List ℕ)
    → IsProp (Lays xs blocks slots unused)
lays-prop xs blocks slots unused x y =
    let says : (s : ℕ) → IsProp (Says blocks xs unused s (slots s)) = λ s.
    says-prop blocks xs unused x.has_slots.apart x.once s (slots s) in
    let state : (s : ℕ) → IsProp (slots s ≡ Unused) = hlevel props in
    let all : IsProp (Lays xs blocks slots unused) = hlevel (
      props,
      tiles-prop,
      leads-prop,
      placed-prop,
      each-prop (λ s. slot-prop s blocks) (names blocks),
      each-prop (λ s. used-prop (slots s)) (names blocks),
      each-prop {P = λ s. IsSlot s blocks × (slots s ≡ Unused)} (λ s. hlevel (slot-prop s blocks, state s)) unused,
      pairs-prop,
      says,
      chain-prop,
    ) in
    all x y

-- the list of unused slots begins inside the bytes
chain-fits : (xs ss : List ℕ) → length xs ≤ GREATEST_ZONE → Chain xs ss → first_of ss < GREATEST_ZONE
chain-fits xs [] l c = omega arith
chain-fits xs (s ∷ ss) l c =
    omega (arith, ap length c.0, length-word (16 * first_of ss + 1), length-take 4 (drop s xs), length-drop s xs, l)

-- the words of its slots say how it goes on
one-chain : (xs ss ts : List ℕ) → length xs ≤ GREATEST_ZONE → length ss ≡ length ts → first_of ss ≡ first_of ts
    → Chain xs ss → Chain xs ts → ss ≡ ts
one-chain xs [] [] l k f c d = refl
one-chain xs [] (t ∷ ts) l k f c d = absurd (omega (arith, k))
one-chain xs (s ∷ ss) [] l k f c d = absurd (omega (arith, k))
one-chain xs (s ∷ ss) (t ∷ ts) l k f c d =
    let a = read_back s (16 * first_of ss + 1) xs (omega (arith, chain-fits xs ss l c.1)) c.0 in
    let b = read_back t (16 * first_of ts + 1) xs (omega (arith, chain-fits xs ts l d.1)) d.0 in
    let next : first_of ss ≡ first_of ts = omega (arith, a, b, ap (λ u. word_at u xs) f) in
    ap (λ us. s ∷ us) (one-chain xs ss ts l (omega (arith, k)) next c.1 d.1) ∙ ap (λ u. u ∷ ts) f

pub sound-prop : (xs : List ℕ) (first count : ℕ) → IsProp (IsSound xs first count)
sound-prop xs first count x y =
    let same = one-chain xs x.unused y.unused x.lays.small (sym x.counted ∙ y.counted) (sym x.begins ∙ y.begins)
    x.lays.chain y.lays.chain in
    let tidied : IsProp (tidy (zone_in xs) ≡ zone_in xs) = hlevel props in
    λ i. record {
      unused = same i;
      lays = is_prop→PathP (λ k. Lays xs (zone_in xs) (slot_in xs) (same k))
          (λ k. lays-prop xs (zone_in xs) (slot_in xs) (same k)) x.lays y.lays i;
      begins = is_prop→PathP (λ k. first ≡ first_of (same k)) (λ k. ℕ_set first (first_of (same k))) x.begins y.begins i;
      counted = is_prop→PathP (λ k. count ≡ length (same k)) (λ k. ℕ_set count (length (same k))) x.counted y.counted i;
      tidied = tidied x.tidied y.tidied i;
    }
