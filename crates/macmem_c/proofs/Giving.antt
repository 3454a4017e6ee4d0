-- What is handed over to C of a script.
use Rattle.macmem_c.proofs.Cited.{◌≡◌, ℕ, ℤ, List, Result, Ok, Err, IfOk, IfErr, length, sym, subst, w32, SFits, to_z, of_z, to_z-of_z}
use Rattle.macmem_c.proofs.Cited.{noErr, FaultKind, ScriptFault, laid_over, Hands, Made, AtFault, NoMemory, IsUnread, TellsKind}
use Rattle.macmem_c.proofs.Cited.{IsScriptFault, Fault}
use Rattle.script_text.specs.declared.fault.FaultKind.TheVariants as kind

-- where a script was not run, C is told of its first faulty line, or the host is out of memory
stopped : (Is : List ℕ → Type 0) (text : List ℕ) (k : FaultKind) (line : ℕ) (before after : List ℕ) (count now : ℕ) (old new : Fault)
    (code : ℤ) → IsUnread text (record { line = line; kind = k })
    → TellsKind k line old new code → after ≡ before → now ≡ count
    → Hands Is (IsScriptFault text) before count old after now new code
stopped Is text kind.HostMemory line before after count now old new code _ (at, untold) same kept = NoMemory same kept untold at
stopped Is text kind.UnknownCall line before after count now old new code unread (at, told) same kept =
    AtFault (record { line = line; kind = kind.UnknownCall; is_faulty = unread; is_told = told }) same kept at
stopped Is text kind.BadArgument line before after count now old new code unread (at, told) same kept =
    AtFault (record { line = line; kind = kind.BadArgument; is_faulty = unread; is_told = told }) same kept at
stopped Is text kind.NotAllowed line before after count now old new code unread (at, told) same kept =
    AtFault (record { line = line; kind = kind.NotAllowed; is_faulty = unread; is_told = told }) same kept at
stopped Is text kind.LongLine line before after count now old new code unread (at, told) same kept =
    AtFault (record { line = line; kind = kind.LongLine; is_faulty = unread; is_told = told }) same kept at

-- What was made of a script is handed over, or why nothing was.
given_so : {V : Type 0} (items : V → List ℕ) (Is : List ℕ → Type 0) (made : Result V ScriptFault) (text before after : List ℕ)
    (count now : ℕ) (old new : Fault) (code : ℤ) → IfOk made (λ v. Is (items v)) → IfErr made (IsUnread text)
    → IfOk made (λ v. (code ≡ noErr) × (after ≡ laid_over (items v) before) × (now ≡ length (items v)) × (new ≡ old))
    → IfErr made (λ f. TellsKind f.kind f.line old new code × (after ≡ before) × (now ≡ count))
    → Hands Is (IsScriptFault text) before count old after now new code
given_so items Is (Ok v) text before after count now old new code is _ (done, front, all, kept) _ = Made (items v) is front all kept done
given_so items Is (Err f) text before after count now old new code _ unread _ (told, same, kept) =
    stopped Is text f.kind f.line before after count now old new code unread told same kept

-- the same, where the code is that of a call
pub given : {V : Type 0} (items : V → List ℕ) (Is : List ℕ → Type 0) (made : Result V ScriptFault) (text before after : List ℕ)
    (count now : ℕ) (old new : Fault) (code : ℤ) → SFits w32 code → IfOk made (λ v. Is (items v)) → IfErr made (IsUnread text)
    → IfOk made (λ v. (code ≡ noErr) × (after ≡ laid_over (items v) before) × (now ≡ length (items v)) × (new ≡ old))
    → IfErr made (λ f. TellsKind f.kind f.line old new code × (after ≡ before) × (now ≡ count))
    → Hands Is (IsScriptFault text) before count old after now new (to_z w32 (of_z w32 code))
given items Is made text before after count now old new code fits is unread done at =
    subst (Hands Is (IsScriptFault text) before count old after now new) (sym (to_z-of_z w32 code fits))
    (given_so items Is made text before after count now old new code is unread done at)
