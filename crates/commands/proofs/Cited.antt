-- The names that the proofs of this library cite of others and of its specs, passed on from one place. Declares nothing.
pub use Rattle.commands.specs.Asking.{AreParts, HasValue, HasValues, IsGiven, StandIn}
pub use Rattle.commands.specs.Doing.{Asks, ChecksOne, IsOneUnchecked, IsUndone, IsUnseen, Looks, Refused}
pub use Rattle.fork_commands.proofs.Pairs.{also_ok}
pub use Rattle.fork_tasks.proofs.Accesses.{also_err, told_err}
pub use Rattle.fork_tasks.proofs.Faults.{quiet_silent}
pub use Rattle.fork_tasks.proofs.Prints.{nothing}
pub use Rattle.fork_tasks.specs.Accesses.{Access}
pub use Rattle.fork_tasks.specs.Fault.{Message, message_of}
pub use Rattle.fork_tasks.specs.Surveying.{IsFolderSurveyed, IsUnlisted, Lists}
pub use Rattle.fork_tasks.specs.declared.ending.Ending.{Ending}
pub use Rattle.job_tasks.specs.Loading.{part_seen}
pub use Rattle.job_tasks.specs.Tasks.{IsRefusal}
pub use Rattle.job_tasks.specs.declared.tasks.Task.{Task}
pub use Rattle.std.proofs.Common.{Err, IfErr, List, Option, Some, [], ap, append_assoc, arith, drop, false, get_or, inl, inr, length, map}
pub use Rattle.std.proofs.Common.{refl, rules, subst, sym, take, true, ℕ, ◌++◌, ◌+◌, ◌-◌, ◌<◌, ◌∙◌, ◌∷◌, ◌≡◌, ◌≤◌}
pub use Rattle.std.proofs.lemmas.Bool.Decides.{Decides-eqb}
pub use Rattle.std.proofs.lemmas.Grind.{common_steps}
pub use Rattle.std.proofs.lemmas.List.{map-append, take-append-drop}
pub use Rattle.std.proofs.lemmas.Slice.Eq.{bytes_eq-Decides, strip_prefix_is}
pub use Rattle.std.specs.Borrow.{Bor}
pub use Rattle.std.specs.Prelude.{bytes_eq, codes}
