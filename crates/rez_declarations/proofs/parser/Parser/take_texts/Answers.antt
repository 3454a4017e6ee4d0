use Rattle.rez_declarations.proofs.Cited.{◌∙◌, sym, rules, parsing_of}
use Rattle.rez_declarations.proofs.Readings.{texts_last, texts_more}
use Rattle.rez_declarations.proofs.parser.Parser.take_texts.Goals as goal

pub returns-then-not-is_mark : goal.returns-then-not-is_mark
returns-then-not-is_mark c =
    sym c.loop-i.invariant
    ∙ texts_last 256 c.loop-i.i c.loop-i.constants.items c.push.new.self.items c.in_ok-text.text
    (parsing_of c.loop-i.self) (parsing_of c.take_named_text.new.self) c.loop-i-test.true c.in_ok-push.ensures.items c.in_ok-text.ensures
    (search rules)

pub loop-i-preserved : goal.loop-i-preserved
loop-i-preserved c =
    let on = texts_more 256 c.loop-i.i c.loop-i.constants.items c.push.new.self.items c.in_ok-text.text
    (parsing_of c.loop-i.self) (parsing_of c.take_named_text.new.self) c.loop-i-test.true c.in_ok-push.ensures.items c.in_ok-text.ensures
    (search rules) in
    search rules
