-- What is handed over to C of what was made of two files.
use Rattle.macmem_c.proofs.Cited.{◌≡◌, ℕ, ℤ, Bool, List, Result, Ok, Err, IfOk, IfErr, length, sym, subst, w32, SFits, to_z, of_z}
use Rattle.macmem_c.proofs.Cited.{to_z-of_z, noErr, FileFault, PairOutput, PairFault, Place, Names, Gives, StopsPair, laid_over, TellsPair}
use Rattle.macmem_c.proofs.Cited.{Hands, Made, AtFault, NoMemory, IsPaired, IsCombined, IsUnpaired, Combines, Fault}
use Rattle.fork_commands.specs.declared.pair.PairFault.TheVariants.{File, HostMemory}
use Rattle.fork_commands.specs.Pairs as pairs

-- What is handed over where something was made, and where it was not.
abbrev Handed : ℤ → List ℕ → List ℕ → ℕ → Bool → Fault → Fault → PairOutput → Type 0
Handed code before after now differs old new m = (code ≡ noErr) × (after ≡ laid_over m.out.items before)
    × (now ≡ length m.out.items) × (differs ≡ m.differs) × (new ≡ old)

abbrev Stopped : ℤ → List ℕ → List ℕ → ℕ → ℕ → Bool → Bool → Fault → Fault → PairFault → Type 0
Stopped code before after count now was differs old new f =
    TellsPair f old new code × (after ≡ before) × (now ≡ count) × (differs ≡ was)

-- What was made of two files is handed over with whether they differ, or why nothing was.
paired_so : (made : Result PairOutput PairFault) (wanted : Result pairs.Made (Place × FileFault)) (names : Names)
    (before after : List ℕ) (count now : ℕ) (was differs : Bool) (old new : Fault) (code : ℤ)
    → IfOk made (λ m. Gives names wanted m.out.items m.differs) → IfErr made (λ f. StopsPair f wanted)
    → IfOk made (Handed code before after now differs old new)
    → IfErr made (Stopped code before after count now was differs old new)
    → Hands (IsPaired wanted differs) (IsUnpaired wanted) before count old after now new code
paired_so (Ok m) wanted names before after count now was differs old new code gives _ (done, front, all, same, kept) _ =
    Made m.out.items (names, subst (λ d. Gives names wanted m.out.items d) (sym same) gives) front all kept done
paired_so (Err (File place f)) wanted names before after count now was differs old new code _ stops _ ((at, told), same, kept, _) =
    AtFault (record { place = place; fault = f; is_refused = stops; is_told = told }) same kept at
paired_so (Err HostMemory) wanted names before after count now was differs old new code _ _ _ ((at, untold), same, kept, _) =
    NoMemory same kept untold at

-- The same where C does not ask whether they differ.
combined_so : (made : Result PairOutput PairFault) (wanted : Result pairs.Made (Place × FileFault)) (names : Names)
    (before after : List ℕ) (count now : ℕ) (was differs : Bool) (old new : Fault) (code : ℤ)
    → IfOk made (λ m. Gives names wanted m.out.items m.differs) → IfErr made (λ f. StopsPair f wanted)
    → IfOk made (Handed code before after now differs old new)
    → IfErr made (Stopped code before after count now was differs old new)
    → Combines wanted before count old after now new code
combined_so (Ok m) wanted names before after count now was differs old new code gives _ (done, front, all, _, kept) _ =
    Made m.out.items (m.differs, (names, gives)) front all kept done
combined_so (Err (File place f)) wanted names before after count now was differs old new code _ stops _ ((at, told), same, kept, _) =
    AtFault (record { place = place; fault = f; is_refused = stops; is_told = told }) same kept at
combined_so (Err HostMemory) wanted names before after count now was differs old new code _ _ _ ((at, untold), same, kept, _) =
    NoMemory same kept untold at

-- the same, where the code is that of a call
pub paired : (made : Result PairOutput PairFault) (wanted : Result pairs.Made (Place × FileFault)) (names : Names)
    (before after : List ℕ) (count now : ℕ) (was differs : Bool) (old new : Fault) (code : ℤ) → SFits w32 code
    → IfOk made (λ m. Gives names wanted m.out.items m.differs) → IfErr made (λ f. StopsPair f wanted)
    → IfOk made (Handed code before after now differs old new)
    → IfErr made (Stopped code before after count now was differs old new)
    → Hands (IsPaired wanted differs) (IsUnpaired wanted) before count old after now new (to_z w32 (of_z w32 code))
paired made wanted names before after count now was differs old new code fits gives stops done at =
    subst (Hands (IsPaired wanted differs) (IsUnpaired wanted) before count old after now new) (sym (to_z-of_z w32 code fits))
    (paired_so made wanted names before after count now was differs old new code gives stops done at)

pub combines : (made : Result PairOutput PairFault) (wanted : Result pairs.Made (Place × FileFault)) (names : Names)
    (before after : List ℕ) (count now : ℕ) (was differs : Bool) (old new : Fault) (code : ℤ) → SFits w32 code
    → IfOk made (λ m. Gives names wanted m.out.items m.differs) → IfErr made (λ f. StopsPair f wanted)
    → IfOk made (Handed code before after now differs old new)
    → IfErr made (Stopped code before after count now was differs old new)
    → Combines wanted before count old after now new (to_z w32 (of_z w32 code))
combines made wanted names before after count now was differs old new code fits gives stops done at =
    subst (Combines wanted before count old after now new) (sym (to_z-of_z w32 code fits))
    (combined_so made wanted names before after count now was differs old new code gives stops done at)
