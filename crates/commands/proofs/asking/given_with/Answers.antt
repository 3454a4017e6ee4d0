use Rattle.commands.proofs.Cited.{◌∷◌, sym, subst, map, HasValues}
use Rattle.commands.proofs.Asked.{skip_values, next_value, split_or}
use Rattle.commands.proofs.asking.given_with.Goals as goal

-- the next value is given
pub returns-then-gives-clause-so_far : goal.returns-then-gives-clause-so_far
returns-then-gives-clause-so_far c = λ given.
    subst (λ values. HasValues (c.args.word.now ∷ map (λ w. w.now) c.args.rest.now) c.args.option.now values)
    (sym (split_or c.args.values.now c.args.found _ c.if-found-values.true))
    (next_value c.args.word.now _ c.args.option.now _ _ (c.gives.ensures c.if-gives.true) given)

-- it is not
pub returns-clause-so_far : goal.returns-clause-so_far
returns-clause-so_far c = λ given. skip_values c.args.word.now _ c.args.option.now _ given
