use Rattle.rez_declarations.proofs.Cited.{◌≡◌, ◌-◌, [], map, number_of, parsing_of, numbers_named}
use Rattle.rez_declarations.proofs.parser.Parser.take_numbers.Given as goal

-- the names to come lead to what all lead to
abbrev pub invariant-loop-i : goal.invariant-loop-i
invariant-loop-i l = numbers_named (256 - l.i) l.width.bits l.following (map number_of l.constants.items) (parsing_of l.self)
    ≡ numbers_named 256 l.width.bits 0 [] (parsing_of l.fn.self)
