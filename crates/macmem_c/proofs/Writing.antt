-- What is handed over to C where no bytes are at fault.
use Rattle.macmem_c.proofs.Cited.{◌≡◌, ℕ, ℤ, List, Result, Ok, Err, IfOk, IfErr, length, sym, subst, w32, SFits, to_z, of_z, to_z-of_z}
use Rattle.macmem_c.proofs.Cited.{noErr, host_memory, laid_over, Writes, Written, Unwritten}

-- What was made is handed over, or nothing is.
written_so : {V E : Type 0} (items : V → List ℕ) (Is : List ℕ → Type 0) (made : Result V E) (before after : List ℕ)
    (count now : ℕ) (code : ℤ) → IfOk made (λ v. Is (items v))
    → IfOk made (λ v. (code ≡ noErr) × (after ≡ laid_over (items v) before) × (now ≡ length (items v)))
    → IfErr made (λ _. (code ≡ host_memory) × (after ≡ before) × (now ≡ count))
    → Writes Is before count after now code
written_so items Is (Ok v) before after count now code is (done, front, all) _ = Written (items v) is front all done
written_so items Is (Err e) before after count now code _ _ (at, same, kept) = Unwritten same kept at

-- the same, where the code is that of a call
pub written : {V E : Type 0} (items : V → List ℕ) (Is : List ℕ → Type 0) (made : Result V E) (before after : List ℕ)
    (count now : ℕ) (code : ℤ) → SFits w32 code → IfOk made (λ v. Is (items v))
    → IfOk made (λ v. (code ≡ noErr) × (after ≡ laid_over (items v) before) × (now ≡ length (items v)))
    → IfErr made (λ _. (code ≡ host_memory) × (after ≡ before) × (now ≡ count))
    → Writes Is before count after now (to_z w32 (of_z w32 code))
written items Is made before after count now code fits is done at =
    subst (Writes Is before count after now) (sym (to_z-of_z w32 code fits))
    (written_so items Is made before after count now code is done at)
