use Rattle.raw_region.proofs.Cited.{◌≡◌, List, ℕ, ◌+◌, ◌-◌, take, drop, ap, ◌∙◌, arith, written}
use Rattle.raw_region.proofs.Moving.{stride_up}
use Rattle.raw_region.proofs.moves.move_up.Goals as goal

pub loop-i-preserved : goal.loop-i-preserved
loop-i-preserved c =
    let n = c.min-stride.result in
    let least = c.min-stride.ensures in
    let j : ℕ = c.loop-i.i - n in
    let left : ℕ = c.args.count - c.loop-i.i in
    let low = c.loop-i.invariant.0 in
    let some = c.loop-i-test.true in
    let xs = c.args.bytes.now in
    let parts : c.loop-i.i ≡ j + n = omega (arith, least, some) in
    let rest : n + left ≡ c.args.count - j = omega (arith, least, low, some) in
    let step = λ (ys : List ℕ). written (c.args.to + j) (take n (drop (c.args.from + j) ys)) ys in (
      omega (arith, low),
      c.carry.ensures
          ∙ ap step (c.loop-i.invariant.1
          ∙ ap (λ k. written (c.args.to + k) (take left (drop (c.args.from + k) xs)) xs) parts)
          ∙ stride_up xs c.args.from c.args.to j n left c.requires.up
          (omega (arith, least, low, some, c.requires.inside))
          ∙ ap (λ m. written (c.args.to + j) (take m (drop (c.args.from + j) xs)) xs) rest,
    )
