use Rattle.applications.proofs.Cited.{◌≡◌, ◌++◌, map, binding, lent_binding}
use Rattle.applications.proofs.names.listed.Given as goal

-- the names that were taken, with those to come, are all
abbrev pub invariant-loop-name : goal.invariant-loop-name
invariant-loop-name l = map lent_binding l.listed.items ++ map binding l.name-iterator ≡ map binding l.bound.entries
