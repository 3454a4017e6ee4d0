use Rattle.raw_region.proofs.Cited.{List, ℕ, ◌+◌, take, drop, ap, ◌∙◌, arith, written}
use Rattle.raw_region.proofs.Moving.{stride_down}
use Rattle.raw_region.proofs.moves.move_down.Goals as goal

pub loop-i-preserved : goal.loop-i-preserved
loop-i-preserved c =
    let n = c.min-stride.result in
    let least = c.min-stride.ensures in
    let i = c.loop-i.i in
    let more = c.loop-i-test.true in
    let step = λ (ys : List ℕ). written (c.args.to + i) (take n (drop (c.args.from + i) ys)) ys in (
      omega (arith, least, more),
      c.carry.ensures ∙ ap step c.loop-i.invariant.1
          ∙ stride_down c.args.bytes.now c.args.from c.args.to i n c.requires.down
          (omega (arith, least, more, c.requires.inside)),
    )
