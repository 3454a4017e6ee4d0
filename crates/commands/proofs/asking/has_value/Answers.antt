use Rattle.commands.proofs.Asked.{same_text, within_at, beside_at}
use Rattle.commands.proofs.asking.has_value.Goals as goal

-- the option and its value are one word
pub returns-then-ends_in : goal.returns-then-ends_in
returns-then-ends_in c = λ yes. within_at c.args.words.now c.loop-i.i _ c.args.option.now c.args.begin.now c.args.value.now
    c.loop-i-test.true c.requires (c.ends_in.ensures c.if-ends_in.true)

-- the value is the word after the option
pub returns-then-eq-2 : goal.returns-then-eq-2
returns-then-eq-2 c = λ yes. beside_at c.args.words.now c.loop-i.i _ c.args.option.now c.args.value.now c.if-i-words.true
    (same_text _ _ c.if-eq.ensures) (same_text _ _ c.if-eq-2.ensures)
