use Rattle.rez_declarations.proofs.Cited.{◌≡◌, ◌-◌, [], map, text_of, parsing_of, texts_named}
use Rattle.rez_declarations.proofs.parser.Parser.take_texts.Given as goal

-- the names to come lead to what all lead to
abbrev pub invariant-loop-i : goal.invariant-loop-i
invariant-loop-i l = texts_named (256 - l.i) (map text_of l.constants.items) (parsing_of l.self)
    ≡ texts_named 256 [] (parsing_of l.fn.self)
