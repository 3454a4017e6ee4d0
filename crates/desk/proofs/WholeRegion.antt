-- A zone that fills a region, cut from it and joined again.
use Rattle.desk.proofs.Cited.{◌≡◌, ◌∙◌, ◌+◌, ◌++◌, ℕ, false, List, length, Result, Ok, Err, IfOk, ap, subst, sym, arith}
use Rattle.desk.proofs.Cited.{drop_all, written, Block, Slot, IsStored, LaysOut, ScriptParts, Resources}
use Rattle.desk.proofs.Cited.{own_resources, heap_alone, script_heap, LieAs, IsZone}
use Rattle.std.proofs.lemmas.List.{append-nil}
use Rattle.heap_calls.specs.State.{State as Heap}

-- bytes written over as many are all there are
whole_written : (at : ℕ) (ys xs : List ℕ) → at ≡ 0 → length ys ≡ length xs → written at ys xs ≡ ys
whole_written at ys xs a l =
    ap (λ k. written k ys xs) a
    ∙ ap (λ (zs : List ℕ). ys ++ zs) (drop_all (0 + length ys) xs (omega (arith, l))) ∙ append-nil ys

-- a zone lies in the region, since one lay in the part that was all of it
pub whole_laid : (zone : List Block) (at : ℕ) (part before after : List ℕ) (slots : ℕ → Slot) → at ≡ 0
    → length part ≡ length before → after ≡ written at part before → LaysOut part zone slots → IsZone after
whole_laid zone at part before after slots a l h laid =
    (zone, slots, subst (λ bytes. LaysOut bytes zone slots) (sym (h ∙ whole_written at part before a l)) laid)

-- what lies in the bytes of the region, where the zone lay in the part that was all of it
pub whole_lies : {A E : Type 0} (r : Result A E) (zone : List Block) (n m : ℕ) (heap : ℕ → Heap) → n ≡ m
    → (at : ℕ) (part before after : List ℕ) (slots : ℕ → Slot) → at ≡ 0 → length part ≡ length before
    → after ≡ written at part before → IfOk r (λ _. IsStored zone slots (heap n)) → LaysOut part zone slots
    → IfOk r (λ _. LieAs (heap m) after)
whole_lies (Err e) zone n m heap k at part before after slots a l h stored laid = tt
whole_lies (Ok x) zone n m heap k at part before after slots a l h stored laid = (
  zone,
  slots,
  subst (λ j. IsStored zone slots (heap j)) k stored,
  subst (λ bytes. LaysOut bytes zone slots) (sym (h ∙ whole_written at part before a l)) laid,
)

-- what a script leaves lies in the region
pub script_lies : {A E F : Type 0} (own : Result Resources E) (given : Result A F) (resources : Resources) (a : A) (n : ℕ)
    (script : ScriptParts) (steps : ℕ) (bytes : List ℕ) → own ≡ Ok resources → given ≡ Ok a
    → IfOk own (λ r. r ≡ own_resources) → steps ≡ length script.steps + 1
    → IfOk given (λ _. LieAs (heap_alone resources n script steps false) bytes) → LieAs (script_heap n script) bytes
script_lies (Ok r) (Ok b) resources a n script steps bytes is done here count lies =
    let same : r ≡ resources = cc in
    subst (λ rs. LieAs (heap_alone rs n script (length script.steps + 1) false) bytes) (sym same ∙ here)
    (subst (λ k. LieAs (heap_alone resources n script k false) bytes) count lies)
script_lies (Ok r) (Err f) resources a n script steps bytes is done here count lies = absurd cc
script_lies (Err e) given resources a n script steps bytes is done here count lies = absurd cc
