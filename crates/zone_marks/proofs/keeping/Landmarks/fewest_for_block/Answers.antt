use Rattle.zone_marks.proofs.Marks.Lowering.{begins-end}
use Rattle.zone_marks.proofs.Cited.{◌≡◌, ◌∙◌, ap, arith, count_of, spared, prefix, stretch_of, Begins, zone_in, left_in, left-above}
use Rattle.zone_marks.proofs.Marks.Passing.{begins-left}
use Rattle.zone_marks.proofs.keeping.Landmarks.fewest_for_block.Goals.{In_ok-run, After-free_at-free}
use Rattle.zone_marks.proofs.keeping.Landmarks.fewest_for_block.Goals as goal
use Rattle.zone_marks.proofs.Stretches.BlockRuns.{IsRunOf, enough-now, fewest-of, never-enough, no-run-of, run-of}

pub returns-in_err-run : goal.returns-in_err-run
returns-in_err-run c = let t = c.args.sound.now.sound.tidied in rw c.from_residual.ensures
    (no-run-of _ _ _ _ (grind arith) c.requires.spared (grind arith))

-- the run of the block, and where it begins
found : (c : In_ok-run) → IsRunOf c.args.number c.args.bytes c.args.sparing (zone_in c.args.sound.now.part.bytes) c.in_ok-run.run'
found c = let r = rw c.in_ok-run.was at c.run_of.ensures in let t = c.args.sound.now.sound.tidied in grind (arith, run-of)

begins : (c : In_ok-run) → Begins c.in_ok-run.run' 0 (zone_in c.args.sound.now.part.bytes)
begins c = let r = found c in
    let e = begins-end 0 r.low in grind (arith, begins-left)

left : (c : In_ok-run) → left_in c.in_ok-run.run' c.args.sound.now.part.bytes ≡ (found c).rest
left c = let r = found c in left-above _ _ _ c.args.sound.now.sound r.low r.rest _ r.is r.at

pub free_at-free-requires-clause-begins : goal.free_at-free-requires-clause-begins
free_at-free-requires-clause-begins c = begins (goal.at.free_at-free-requires-clause-begins c).In_ok-run

-- its free bytes
now : (c : After-free_at-free) → c.free_at-free.result ≡ prefix (stretch_of (found c.before.before.before).rest)
now c = c.free_at-free.ensures ∙ ap (λ l. prefix (stretch_of l)) (c.requires.whole _ ∙ left c.before.before.before)

pub returns-then-bytes-free : goal.returns-then-bytes-free
returns-then-bytes-free c =
    let d = (goal.at.returns-then-bytes-free c).After-free_at-free in
    enough-now _ _ _ _ _ (found d.before.before.before) (omega (arith, now d))

pub walk_at-requires : goal.walk_at-requires
walk_at-requires c = begins (goal.at.walk_at-requires c).In_ok-run

pub returns-in_err-own : goal.returns-in_err-own
returns-in_err-own c =
    let d = (goal.at.returns-in_err-own c).After-free_at-free in
    rw c.from_residual-in_err-own.ensures (never-enough _ _ _ _ _ (found d.before.before.before) (omega (arith, now d))
    (let n = now d in let l = left d.before.before.before in grind arith))

pub count_below-requires-clause-run : goal.count_below-requires-clause-run
count_below-requires-clause-run c = begins (goal.at.count_below-requires-clause-run c).In_ok-run

pub returns : goal.returns
returns c =
    let d = (goal.at.returns c).After-free_at-free in
    let r = found d.before.before.before in
    let below = c.count_below.ensures.is r.low r.rest r.is r.at
    ∙ ap (count_of (spared c.args.sparing)) (c.requires.whole r.low) in
    rw below (fewest-of _ _ _ _ _ r _ (omega (arith, now d)) (let n = now d in let l = left d.before.before.before in grind arith))
