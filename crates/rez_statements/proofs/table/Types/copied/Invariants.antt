use Rattle.rez_statements.proofs.Cited.{◌≡◌, ◌++◌, drop, map, declared_of, types_of}
use Rattle.rez_statements.proofs.table.Types.copied.Given as goal

-- the types so far, with those to come, are all
abbrev pub invariant-loop-declared : goal.invariant-loop-declared
invariant-loop-declared l = types_of l.copy ++ map declared_of (drop l.declared-index l.self.list.items) ≡ types_of l.self
