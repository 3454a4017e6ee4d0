use Rattle.res_map.proofs.Cited.{◌∙◌, sym, subst, ap, arith, IsRising, row_weights, place_in, raised_within}
use Rattle.res_map.proofs.Places.{raised-fits, raised-none}
use Rattle.res_map.proofs.Rows.{rising-moved, place-moved}
use Rattle.res_map.proofs.Weights.{weights-moved}
use Rattle.res_map.proofs.index.open_gap.Goals as goal

pub returns-then-from-len-clause-rising : goal.returns-then-from-len-clause-rising
returns-then-from-len-clause-rising c = λ rising.
    subst IsRising (sym c.raise_all.ensures.items) (rising-moved (raised_within c.args.from) c.args.rows.now.items rising)

pub returns-then-from-len-clause-tells : goal.returns-then-from-len-clause-tells
returns-then-from-len-clause-tells c = λ within kind id.
    ap (place_in kind id) c.raise_all.ensures.items ∙ place-moved (raised_within c.args.from) kind id c.args.rows.now.items
    ∙ raised-fits c.args.from c.args.len (place_in kind id c.args.rows.now.items) c.ranges.len.fits (within kind id)

pub returns-else-from-len-clause-tells : goal.returns-else-from-len-clause-tells
returns-else-from-len-clause-tells c = λ within kind id.
    raised-none c.args.from c.args.len (place_in kind id c.args.rows.now.items) (search arith) (within kind id)

pub returns-then-from-len-clause-weights : goal.returns-then-from-len-clause-weights
returns-then-from-len-clause-weights c = λ f. ap (row_weights f) c.raise_all.ensures.items
    ∙ weights-moved f (raised_within c.args.from) c.args.rows.now.items
