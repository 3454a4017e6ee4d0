use Rattle.list_store.proofs.Cited.{◌≡◌, ◌∙◌, drop, sym, ap, arith, sizes, segments, beyond, place_behind, blocks_of, above-told}
use Rattle.list_store.proofs.Cited.{above-within}
use Rattle.list_store.proofs.Regroup.RunSpots.{blocks-from, sizes-from}
use Rattle.list_store.proofs.walk.run_above.Goals.{After-next_run_in}
use Rattle.list_store.proofs.walk.run_above.Goals as goal

pub walk_over-requires : goal.walk_over-requires
walk_over-requires c = omega (arith, c.requires.fits, sizes-from c.args.entries.now c.in-Some.i)

pub next_run_in-requires : goal.next_run_in-requires
next_run_in-requires c =
    let same = ap sizes c.walk_over.ensures in
    omega (arith, same, c.requires.fits, sizes-from c.args.entries.now c.in-Some.i)

-- what was told of the blocks from the run's bottom on
behind : (c : After-next_run_in) → c.next_run_in.result
    ≡ place_behind (sizes (segments (drop c.in-Some.i (blocks_of c.args.entries.now))).first)
    (beyond (segments (drop c.in-Some.i (blocks_of c.args.entries.now))).rest)
behind c = c.next_run_in.ensures ∙ ap (λ l. place_behind (sizes (segments l).first) (beyond (segments l).rest))
    (c.walk_over.ensures ∙ blocks-from c.args.entries.now c.in-Some.i)

pub returns-in_default-next_run_in : goal.returns-in_default-next_run_in
returns-in_default-next_run_in c = above-told c.args.run c.in-Some.i (blocks_of c.args.entries.now) _
    c.in-Some.ensures.1
    (sym c.in_default-next_run_in.is ∙ behind (goal.at.returns-in_default-next_run_in c).After-next_run_in)

pub overflow_add-result : goal.overflow_add-result
overflow_add-result c = omega (
  arith,
  c.requires.fits,
  above-within c.args.run c.in-Some.i (blocks_of c.args.entries.now) c.in-Some-next_run_in.above c.in-Some.ensures.1
      (sym c.in-Some-next_run_in.is ∙ behind (goal.at.overflow_add-result c).After-next_run_in),
)

pub returns : goal.returns
returns c = above-told c.args.run c.in-Some.i (blocks_of c.args.entries.now) _ c.in-Some.ensures.1
    (sym c.in-Some-next_run_in.is ∙ behind (goal.at.returns c).After-next_run_in)
