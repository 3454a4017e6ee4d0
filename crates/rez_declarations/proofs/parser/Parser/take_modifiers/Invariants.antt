use Rattle.rez_declarations.proofs.Cited.{◌≡◌, ◌-◌, parsing_of, modified, plain}
use Rattle.rez_declarations.proofs.parser.Parser.take_modifiers.Given as goal

-- the words to come, with those so far, are all
abbrev pub invariant-loop-i : goal.invariant-loop-i
invariant-loop-i l = modified (4 - l.i) l.modified (parsing_of l.self) ≡ modified 4 plain (parsing_of l.fn.self)
