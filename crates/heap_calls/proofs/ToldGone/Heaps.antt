use Rattle.heap_calls.proofs.Cited.{◌≡◌, inl, inr, ℕ, ◌+◌, ◌≤◌, ◌<◌, Bool, true, false, ◌==◌, List, [], ◌∷◌, length, refl, sym, ◌∙◌, ap}
use Rattle.heap_calls.proofs.Cited.{subst, cond, arith, Some, map, slice_get, Decides-eqb, length-map, slice_get_cases, same_Some, Block}
use Rattle.heap_calls.proofs.Cited.{Free, Nonrelocatable, Masters, Relocatable, sizes, count, is_relocatable, rename, rename_block, Rest}
use Rattle.heap_calls.proofs.Cited.{GREATEST_ZONE, total-rename, Anchor, Log, Memory, memory_of, name_of, handle_number, pointer_number}
use Rattle.heap_calls.proofs.Cited.{leads_to, no_number, Agrees}
use Rattle.heap_calls.specs.declared.anchor.Anchor.TheVariants.{Handle, Pointer, Disposed}
use Rattle.heap_calls.proofs.Numbering.Answering.{sizes-rename}
use Rattle.heap_calls.proofs.Numbering.Numbers.{number_from-found, is_relocatable-number}

-- In each heap's zone no handle has two blocks, and no block is larger than a block can be.

-- a number that is no handle's has no block
apart-number : (es : List Anchor) (h : ℕ) (e : Anchor) → slice_get es h ≡ Some e → ((slot : ℕ) → leads_to slot e ≡ false)
    → h < no_number → (b : Block) → is_relocatable h (rename_block (handle_number es) (pointer_number es) b) ≡ false
apart-number es h e at none small (Free n) = refl
apart-number es h e at none small (Nonrelocatable id content) = refl
apart-number es h e at none small Masters = refl
apart-number es h e at none small (Relocatable id flags content) = cases (handle_number es id == h) refl
  where
    cases : (t : Bool) → (handle_number es id == h) ≡ t → t ≡ false
    cases true same =
        let found = number_from-found 0 (leads_to id) es h ((Decides-eqb (handle_number es id) h).0 same) small in
        let place : h ≡ 0 + found.0 = found.2 in
        let own : h ≡ found.0 = omega arith in
        let both : Some found.1 ≡ Some e = sym found.3 ∙ ap (slice_get es) (sym own) ∙ at in
        sym found.4 ∙ ap (leads_to id) (same_Some _ _ both) ∙ none id
    cases false same = refl

-- 1 for a block that passes
abbrev one : (Block → Bool) → Block → ℕ
one test b = cond (test b) 1 0

count-never : (bs : List Block) → count (λ b. false) bs ≡ 0
count-never [] = refl
count-never (b ∷ bs) = omega (arith, count-never bs)

once-named : (zone : List Block) (rest : Rest) (es : List Anchor) → Agrees zone rest es → length es ≤ no_number
    → ((slot : ℕ) → count (is_relocatable slot) zone ≤ 1) → (h : ℕ) → h < length es
    → count (is_relocatable h) (rename (handle_number es) (pointer_number es) zone) ≤ 1
once-named zone rest es agrees few once h within = elim (slice_get_cases es h).1 [
  | inl found ↦ by_kind found.0 found.2
  | inr past ↦ absurd (let p = past.0 in omega arith)
]
  where
    f : ℕ → ℕ
    f = handle_number es

    g : ℕ → ℕ
    g = pointer_number es

    never : (e : Anchor) → slice_get es h ≡ Some e → ((slot : ℕ) → leads_to slot e ≡ false)
        → count (is_relocatable h) (rename f g zone) ≤ 1
    never e at none =
        let z = total-rename f g (one (is_relocatable h)) (one (λ b. false))
        (λ b. ap {B = ℕ} (λ (t : Bool). cond t 1 0) (apart-number es h e at none (omega arith) b)) zone in
        omega (arith, z, count-never zone)

    by_kind : (e : Anchor) → slice_get es h ≡ Some e → count (is_relocatable h) (rename f g zone) ≤ 1
    by_kind (Handle slot guarded) at =
        let z = total-rename f g (one (is_relocatable h)) (one (is_relocatable slot))
        (λ b. ap {B = ℕ} (λ (t : Bool). cond t 1 0)
        (is_relocatable-number es h slot at agrees.apart (omega arith) b)) zone in
        let o = once slot in
        omega (arith, z)
    by_kind (Pointer place) at = never (Pointer place) at (λ slot. refl)
    by_kind Disposed at = never Disposed at (λ slot. refl)

pub heap-once : (value : Memory) (zone : List Block) (rest : Rest) (es : List Anchor) (log : Log)
    → memory_of zone rest es log ≡ value → Agrees zone rest es → length es ≤ no_number
    → ((slot : ℕ) → count (is_relocatable slot) zone ≤ 1)
    → (h : ℕ) → h < length value.heap.names → count (is_relocatable h) value.heap.zone ≤ 1
heap-once value zone rest es log is agrees few once =
    subst (λ (m : Memory). (h : ℕ) → h < length m.heap.names → count (is_relocatable h) m.heap.zone ≤ 1) is
    (λ h within. once-named zone rest es agrees few once h
    (let l : length (map (name_of rest.slots) es) ≡ length es = length-map es (name_of rest.slots) in omega arith))

pub heap-small : (value : Memory) (zone : List Block) (rest : Rest) (es : List Anchor) (log : Log)
    → memory_of zone rest es log ≡ value → sizes zone ≤ GREATEST_ZONE → sizes value.heap.zone ≤ GREATEST_ZONE
heap-small value zone rest es log is small =
    subst (λ (m : Memory). sizes m.heap.zone ≤ GREATEST_ZONE) is
    (omega (arith, small, sizes-rename (handle_number es) (pointer_number es) zone))
