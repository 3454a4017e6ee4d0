use Rattle.job_tasks.proofs.Cited.{◌≡◌, ℕ, List, refl, sym, subst, DumpView, ViewFault, dump_fault, Tells, Message, dump_message}
use Rattle.job_tasks.proofs.Cited.{IsDumpFault}
use Rattle.real_zone_view.specs.declared.dump.ViewFault.TheVariants as view

-- the fault of a dump is reported with the dump's path
pub dump_stopped : (path : List ℕ) (asked : DumpView) (dump : List ℕ) (fault : ViewFault) (message : Message)
    → Tells fault (dump_fault asked dump) → message ≡ dump_message path fault → IsDumpFault path asked dump message
dump_stopped path asked dump view.HostMemory message told is = subst (λ m. IsDumpFault path asked dump m) (sym is) tt
dump_stopped path asked dump (view.Dump fault) message told is =
    subst (λ m. IsDumpFault path asked dump m) (sym is) (refl, told)
