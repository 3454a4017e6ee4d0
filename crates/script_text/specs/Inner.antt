use Rattle.std.specs.Prelude.{◌≡◌, ℕ, true, false, Option, IfSome, List, bytes_eq, codes}
use Rattle.script_text.specs.declared.job.Event.{Event}
use Rattle.script_text.specs.declared.script_lines.Begun.{Begun}
use Rattle.script_text.specs.declared.script.Line.{Line}
use Rattle.script_text.specs.Job.{Input}
use Rattle.script_text.specs.JobFacts.{IsMemory, AreInOrder, AreEventsOf}
use Rattle.script_text.specs.Script.{AllAllowed, NoneIsUnused, are_allowed, has_block}

-- What holds while a script is read: no grow-zone script holds a call that is not allowed in one or is named `none`,
-- and the grow-zone script whose `end` is still to come has a new name.
pub record IsKept (blocks : List (List ℕ × List Line)) (begun : Option Begun) : Type 0 where
  pub allowed : AllAllowed blocks
  pub unused : NoneIsUnused blocks
  pub begun_allowed : IfSome begun (λ b. are_allowed b.lines.items ≡ true)
  pub begun_anew : IfSome begun (λ b. has_block b.name.0.items blocks ≡ false)
  pub begun_named : IfSome begun (λ b. bytes_eq b.name.0.items (codes "none") ≡ false)

-- What holds while a job is read.
pub record IsJobKept (memory : Option ℕ) (inputs : List Input) (events : List Event) : Type 0 where
  pub size : IfSome memory IsMemory
  pub order : AreInOrder inputs
  pub owners : AreEventsOf inputs events
