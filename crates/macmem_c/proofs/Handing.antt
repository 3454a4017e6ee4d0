-- What is handed over to C of what was made of a file.
use Rattle.macmem_c.proofs.Cited.{◌≡◌, ℕ, ℤ, List, Result, Ok, Err, IfOk, IfErr, length, sym, subst, w32, SFits, to_z, of_z, to_z-of_z}
use Rattle.macmem_c.proofs.Cited.{noErr, FileFault, WorkFault, File, HostMemory, Stops, laid_over, Tells, HandsOver, Made, AtFault}
use Rattle.macmem_c.proofs.Cited.{NoMemory, Fault}

-- What was made is handed over, or why nothing was.
handed_so : {T V : Type 0} (items : V → List T) (made : Result V WorkFault) (wanted : Result (List T) FileFault)
    (before after : List T) (count now : ℕ) (old new : Fault) (code : ℤ)
    → IfOk made (λ v. wanted ≡ Ok (items v)) → IfErr made (λ f. Stops f wanted)
    → IfOk made (λ v. (code ≡ noErr) × (after ≡ laid_over (items v) before) × (now ≡ length (items v)) × (new ≡ old))
    → IfErr made (λ f. Tells f old new code × (after ≡ before) × (now ≡ count))
    → HandsOver wanted before count old after now new code
handed_so items (Ok v) wanted before after count now old new code is _ (done, front, all, kept) _ =
    Made (items v) is front all kept done
handed_so items (Err (File f)) wanted before after count now old new code _ stops _ ((at, told), same, kept) =
    AtFault (record { fault = f; is_refused = stops; is_told = told }) same kept at
handed_so items (Err HostMemory) wanted before after count now old new code _ _ _ ((at, untold), same, kept) =
    NoMemory same kept untold at

-- the same, where the code is that of a call
pub handed : {T V : Type 0} (items : V → List T) (made : Result V WorkFault) (wanted : Result (List T) FileFault)
    (before after : List T) (count now : ℕ) (old new : Fault) (code : ℤ) → SFits w32 code
    → IfOk made (λ v. wanted ≡ Ok (items v)) → IfErr made (λ f. Stops f wanted)
    → IfOk made (λ v. (code ≡ noErr) × (after ≡ laid_over (items v) before) × (now ≡ length (items v)) × (new ≡ old))
    → IfErr made (λ f. Tells f old new code × (after ≡ before) × (now ≡ count))
    → HandsOver wanted before count old after now new (to_z w32 (of_z w32 code))
handed items made wanted before after count now old new code fits is stops done at =
    subst (HandsOver wanted before count old after now new) (sym (to_z-of_z w32 code fits))
    (handed_so items made wanted before after count now old new code is stops done at)
