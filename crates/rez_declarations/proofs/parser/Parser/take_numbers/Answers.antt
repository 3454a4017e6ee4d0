use Rattle.rez_declarations.proofs.Cited.{◌∙◌, sym, rules, parsing_of}
use Rattle.rez_declarations.proofs.Readings.{numbers_last, numbers_more}
use Rattle.rez_declarations.proofs.parser.Parser.take_numbers.Goals as goal

pub returns-then-not-is_mark : goal.returns-then-not-is_mark
returns-then-not-is_mark c =
    sym c.loop-i.invariant
    ∙ numbers_last 256 c.loop-i.i c.args.width.bits c.loop-i.following c.loop-i.constants.items c.push.new.self.items c.in_ok-number.number
    (parsing_of c.loop-i.self) (parsing_of c.take_named_number.new.self) c.loop-i-test.true c.in_ok-push.ensures.items
    c.in_ok-number.ensures (search rules)

pub loop-i-preserved : goal.loop-i-preserved
loop-i-preserved c =
    let on = numbers_more 256 c.loop-i.i c.args.width.bits c.loop-i.following
    c.loop-i.constants.items c.push.new.self.items c.in_ok-number.number (parsing_of c.loop-i.self)
    (parsing_of c.take_named_number.new.self) c.loop-i-test.true c.in_ok-push.ensures.items c.in_ok-number.ensures (search rules) in
    search rules
