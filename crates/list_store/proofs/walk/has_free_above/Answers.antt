use Rattle.list_store.proofs.Cited.{◌≡◌, ◌+◌, ◌∙◌, ap, arith, List, Block, sizes, segments, has_free, lowest_purged, spared}
use Rattle.list_store.proofs.Regroup.RunSpots.{above-place, blocks-from, sizes-from}
use Rattle.list_store.proofs.walk.has_free_above.Goals as goal

pub walk_over-requires : goal.walk_over-requires
walk_over-requires c = omega (arith, c.requires.fits, sizes-from c.args.entries.now (c.in-Some.i + 1))

pub run_has_free_in-requires : goal.run_has_free_in-requires
run_has_free_in-requires c =
    let same = ap sizes c.walk_over.ensures in
    omega (arith, same, c.requires.fits, sizes-from c.args.entries.now (c.in-Some.i + 1))

pub returns : goal.returns
returns c =
    let es = c.args.entries.now in
    let test : List Block → _ = λ above. has_free c.args.bytes
    (lowest_purged c.args.purges (spared c.args.sparing) (segments above).first) in
    above-place es c.args.place c.in-Some.i (λ above. c.run_has_free_in.result ≡ test above) c.in-Some.ensures.1
    (c.run_has_free_in.ensures ∙ ap test (c.walk_over.ensures ∙ blocks-from es (c.in-Some.i + 1)))
