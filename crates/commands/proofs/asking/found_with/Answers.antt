use Rattle.commands.proofs.Cited.{◌∷◌, sym, subst, StandIn}
use Rattle.commands.proofs.Asked.{skip, next, same_text, split_or}
use Rattle.commands.proofs.asking.found_with.Goals as goal

-- the word is the next text
pub returns-then-eq-clause-so_far : goal.returns-then-eq-clause-so_far
returns-then-eq-clause-so_far c = λ words stand.
    subst (λ texts. StandIn (c.args.word.now ∷ words) texts)
    (sym (split_or c.args.texts.now c.args.found _ c.if-found-texts.true))
    (next c.args.word.now _ words _ (same_text _ _ c.if-eq.ensures) stand)

-- it is not
pub returns-clause-so_far : goal.returns-clause-so_far
returns-clause-so_far c = λ words stand. skip c.args.word.now words _ stand
