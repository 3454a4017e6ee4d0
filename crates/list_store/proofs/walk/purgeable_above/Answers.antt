use Rattle.list_store.proofs.Cited.{◌≡◌, ℕ, ◌+◌, ◌∙◌, ap, arith, List, Block, sizes, segments, count_of, spared}
use Rattle.list_store.proofs.Regroup.RunSpots.{above-place, blocks-from, sizes-from}
use Rattle.list_store.proofs.walk.purgeable_above.Goals as goal

pub walk_over-requires : goal.walk_over-requires
walk_over-requires c = omega (arith, c.requires.fits, sizes-from c.args.entries.now (c.in-Some.i + 1))

pub purgeable_in_run_in-requires : goal.purgeable_in_run_in-requires
purgeable_in_run_in-requires c =
    let same = ap sizes c.walk_over.ensures in
    omega (arith, same, c.requires.fits, sizes-from c.args.entries.now (c.in-Some.i + 1))

pub returns : goal.returns
returns c =
    let es = c.args.entries.now in
    let many : List Block → ℕ = λ above. count_of (spared c.args.sparing) (segments above).first in
    above-place es c.args.place c.in-Some.i (λ above. c.purgeable_in_run_in.result ≡ many above) c.in-Some.ensures.1
    (c.purgeable_in_run_in.ensures ∙ ap many (c.walk_over.ensures ∙ blocks-from es (c.in-Some.i + 1)))
