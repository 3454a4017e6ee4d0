-- What C gets of a call on a zone, from what the method answers.
use Rattle.macmem_c.proofs.Cited.{◌≡◌, ◌∙◌, ℕ, ℤ, false, Some, Result, Ok, Err, inl, inr, refl, sym, ap, subst, IsTrue, List, w32, SFits}
use Rattle.macmem_c.proofs.Cited.{to_z, of_z, to_z-of_z, ◌≢◌, ◌⊎◌, false≢true, Told, OsErr, NO_ERR, Memory, CountedMemory, Asked, told_as}
use Rattle.macmem_c.proofs.Cited.{telling, served, Gone, Step, DidNothing, DidAStep, IsAnswer, Refusal, Code, code_told, host_memory}
use Rattle.macmem_c.proofs.Cited.{code_of, code_in, number_of, number_in, Serves, number_or, number_after}
use Rattle.std.proofs.Common.{Option, None}
use Rattle.heap_calls.specs.Left.{Stops}
use Rattle.heap_calls.specs.declared.refusal.Refusal.TheVariants.{HostMemory}

-- A reply of this kind has no code of its own.
abbrev pub Codeless : {T : Type 0} → (T → Told) → Type 0
Codeless {T} tell = (value : T) → code_told (tell value) ≡ NO_ERR

-- What a zone is before and after a call that answers so: `r` is the result of the method.
pub record Answers {T : Type 0} (asked : Asked) (tell : T → Told) (kept now : Option CountedMemory) (r : Result T OsErr) : Type 0 where
  pub before : CountedMemory
  pub after : CountedMemory
  pub was : kept ≡ Some before
  pub is : now ≡ Some after
  pub answer : served asked before.memory ≡ (told_as tell r, after.memory)

code-told : {T : Type 0} (tell : T → Told) (r : Result T OsErr) → Codeless tell → (code_told (told_as tell r)).0 ≡ code_of r
code-told tell (Ok value) plain = ap (λ c. c.0) (plain value)
code-told tell (Err code) plain = refl

pub serves : {T : Type 0} (asked : Asked) (tell : T → Told) (kept now : Option CountedMemory) (r : Result T OsErr) (code : ℤ)
    → Codeless tell → Answers asked tell kept now r → code ≡ code_of r → Serves asked kept now code
serves asked tell kept now r code plain a is = subst (λ k. Serves asked k now code) (sym a.was)
    (subst (λ k. Serves asked (Some a.before) k code) (sym a.is) (record {
      code_is = is ∙ sym (code-told tell r plain) ∙ ap (λ x. (code_told x.0).0) (sym a.answer);
      heap_is = ap (λ x. x.1) (sym a.answer);
    }))

-- the same of the code as it crosses to C, which has 32 bits
pub serves-c : {T : Type 0} (asked : Asked) (tell : T → Told) (kept now : Option CountedMemory) (r : Result T OsErr) (code : ℤ)
    → SFits w32 code → Codeless tell → Answers asked tell kept now r → code ≡ code_of r
    → Serves asked kept now (to_z w32 (of_z w32 code))
serves-c asked tell kept now r code fits plain a is =
    subst (Serves asked kept now) (sym (to_z-of_z w32 code fits)) (serves asked tell kept now r code plain a is)

-- the number that C has
number-told : (tell : ℕ → Told) (r : Result ℕ OsErr) (old : ℕ) → ((n : ℕ) → number_or old (tell n) ≡ n)
    → number_or old (told_as tell r) ≡ number_of old r
number-told tell (Ok value) old plain = plain value
number-told tell (Err code) old plain = refl

pub numbers : (asked : Asked) (tell : ℕ → Told) (kept now : Option CountedMemory) (r : Result ℕ OsErr) (old new : ℕ)
    → ((n : ℕ) → number_or old (tell n) ≡ n) → Answers asked tell kept now r → new ≡ number_of old r
    → new ≡ number_after asked kept old
numbers asked tell kept now r old new plain a is = subst (λ k. new ≡ number_after asked k old) (sym a.was)
    (is ∙ sym (number-told tell r old plain) ∙ ap (λ x. number_or old x.0) (sym a.answer))

-- A method that may find the host out of memory.
pub record AnswersIn {T : Type 0} (asked : Asked) (tell : T → Told) (kept now : Option CountedMemory) (r : Result T Refusal) : Type 0 where
  pub before : CountedMemory
  pub after : CountedMemory
  pub was : kept ≡ Some before
  pub is : now ≡ Some after
  pub result : Result T OsErr × Memory
  pub row : served asked before.memory ≡ telling tell result
  pub answer : IsAnswer result r after.memory

-- the call was done, or refused with a code
abbrev pub as_code : {T : Type 0} → Result T Refusal → Option (Result T OsErr)
as_code (Ok value) = Some (Ok value)
as_code (Err (Code code)) = Some (Err code)
as_code (Err HostMemory) = None

pub serves-in : {T : Type 0} (asked : Asked) (tell : T → Told) (kept now : Option CountedMemory) (r : Result T Refusal) (code : ℤ)
    → Codeless tell → AnswersIn asked tell kept now r → code ≡ code_in r → code ≢ host_memory → Serves asked kept now code
serves-in asked tell kept now (Ok value) code plain a is other = serves asked tell kept now (Ok value) code plain
    (record { before = a.before; after = a.after; was = a.was; is = a.is; answer = a.row ∙ ap (telling tell) a.answer }) is
serves-in asked tell kept now (Err (Code c)) code plain a is other = serves asked tell kept now (Err c) code plain
    (record { before = a.before; after = a.after; was = a.was; is = a.is; answer = a.row ∙ ap (telling tell) a.answer }) is
serves-in asked tell kept now (Err HostMemory) code plain a is other = absurd (other is)

-- the same of the code as it crosses to C
pub serves-in-c : {T : Type 0} (asked : Asked) (tell : T → Told) (kept now : Option CountedMemory) (r : Result T Refusal) (code : ℤ)
    → SFits w32 code → Codeless tell → AnswersIn asked tell kept now r → code ≡ code_in r
    → to_z w32 (of_z w32 code) ≢ host_memory → Serves asked kept now (to_z w32 (of_z w32 code))
serves-in-c asked tell kept now r code fits plain a is =
    subst (λ (c : ℤ). c ≢ host_memory → Serves asked kept now c) (sym (to_z-of_z w32 code fits))
    (serves-in asked tell kept now r code plain a is)

pub numbers-in : (asked : Asked) (tell : ℕ → Told) (kept now : Option CountedMemory) (r : Result ℕ Refusal) (old new : ℕ) (code : ℤ)
    → ((n : ℕ) → number_or old (tell n) ≡ n) → AnswersIn asked tell kept now r → new ≡ number_in old r → code ≡ code_in r
    → code ≢ host_memory → new ≡ number_after asked kept old
numbers-in asked tell kept now (Ok value) old new code plain a is told other = numbers asked tell kept now (Ok value) old new plain
    (record { before = a.before; after = a.after; was = a.was; is = a.is; answer = a.row ∙ ap (telling tell) a.answer }) is
numbers-in asked tell kept now (Err (Code c)) old new code plain a is told other = numbers asked tell kept now (Err c) old new plain
    (record { before = a.before; after = a.after; was = a.was; is = a.is; answer = a.row ∙ ap (telling tell) a.answer }) is
numbers-in asked tell kept now (Err HostMemory) old new code plain a is told other = absurd (other told)

-- the same, where the code crosses to C
pub numbers-in-c : (asked : Asked) (tell : ℕ → Told) (kept now : Option CountedMemory) (r : Result ℕ Refusal) (old new : ℕ) (code : ℤ)
    → SFits w32 code → ((n : ℕ) → number_or old (tell n) ≡ n) → AnswersIn asked tell kept now r → new ≡ number_in old r
    → code ≡ code_in r → to_z w32 (of_z w32 code) ≢ host_memory → new ≡ number_after asked kept old
numbers-in-c asked tell kept now r old new code fits plain a is told =
    subst (λ (c : ℤ). c ≢ host_memory → new ≡ number_after asked kept old) (sym (to_z-of_z w32 code fits))
    (numbers-in asked tell kept now r old new code plain a is told)

-- over a store that takes no host memory, and with a sink that does not listen, a call that the host stops did nothing
pub stopped-same : {A : Type 0} (told : A → List Gone → Type 0) (keeps : Memory → Memory → Type 0) (first : Option Step)
    (old new : CountedMemory) (sink heard : A) → Stops false told (λ _. false) keeps ⊥ first old new sink heard → new ≡ old
stopped-same told keeps first old new sink heard stops = by_left first stops.left
  where
    by_left : (first : Option Step) → IsTrue false ⊎ (DidNothing told (λ _. false) ⊥ old new sink heard
        ⊎ DidAStep told (λ _. false) first old.memory new.memory sink heard) → new ≡ old
    by_left first (inl none) = absurd (false≢true none)
    by_left first (inr (inl nothing)) = nothing.same
    by_left None (inr (inr step)) = absurd step
    by_left (Some first) (inr (inr step)) = absurd (false≢true step.why)

-- the same of what C keeps
pub same-kept : {A : Type 0} (told : A → List Gone → Type 0) (keeps : Memory → Memory → Type 0) (first : Option Step)
    (before after : CountedMemory) (kept now : Option CountedMemory) (sink heard : A) → kept ≡ Some before → now ≡ Some after
    → Stops false told (λ _. false) keeps ⊥ first before after sink heard → now ≡ kept
same-kept told keeps first before after kept now sink heard was is stops =
    is ∙ ap Some (stopped-same told keeps first before after sink heard stops) ∙ sym was
