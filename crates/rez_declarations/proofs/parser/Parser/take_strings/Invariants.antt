use Rattle.rez_declarations.proofs.Cited.{◌≡◌, ◌-◌, [], length, parsing_of, string_on}
use Rattle.rez_declarations.proofs.parser.Parser.take_strings.Given as goal

-- the strings to come, with those so far, are all
abbrev pub invariant-loop-i : goal.invariant-loop-i
invariant-loop-i l = string_on (l.most - l.i) l.text.items (parsing_of l.self)
    ≡ string_on (length (parsing_of l.fn.self).tokens) [] (parsing_of l.fn.self)
