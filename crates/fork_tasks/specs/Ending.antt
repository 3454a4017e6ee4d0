use Rattle.std.specs.Prelude.{ℕ, Bool, true, false}
use Rattle.fork_tasks.specs.declared.ending.Ending.{Ending}
use Rattle.fork_tasks.specs.declared.ending.Ending.TheVariants.{Done, Differs}

-- How a request that was done ends.

-- The status with which the program ends.
abbrev pub status_of : Ending → ℕ
status_of Done = 0
status_of Differs = 1

-- The ending of a comparison, by whether it finds that the contents differ.
abbrev pub ending_of : Bool → Ending
ending_of false = Done
ending_of true = Differs
