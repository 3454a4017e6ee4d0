use Rattle.commands.proofs.Cited.{◌∙◌, sym}
use Rattle.commands.proofs.Asked.{same_text, given_within, given_beside}
use Rattle.commands.proofs.asking.gives.Goals as goal

-- the option and its value are one word
pub returns-then-ends_in : goal.returns-then-ends_in
returns-then-ends_in c = λ yes. given_within c.args.option.now c.args.begin.now c.args.value.now c.args.word.now _ c.requires
    (c.ends_in.ensures c.if-ends_in.true)

-- the value is the word after the option
pub returns-then-eq : goal.returns-then-eq
returns-then-eq c = λ same. given_beside c.args.option.now c.args.value.now c.args.word.now c.args.rest.now _
    c.in-len1-up.len_at_least (same_text _ _ c.if-eq.ensures) (same_text _ _ (sym same ∙ c.eq-then-eq.ensures))
