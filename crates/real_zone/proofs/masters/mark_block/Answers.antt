use Rattle.real_zone.proofs.Cited.{◌≡◌, ◌-◌, ◌/◌, ◌++◌, ap, arith, size_at, marks, block_marks}
use Rattle.real_zone.proofs.Walking.{passes}
use Rattle.real_zone.proofs.Marking.{marks_end}
use Rattle.real_zone.proofs.masters.mark_block.Goals as goal

pub physical_size-count-requires : goal.physical_size-count-requires
physical_size-count-requires c = (passes c.args.form c.args.bytes.now c.args.at c.requires).room

pub loop-init : goal.loop-init
unfolding block_marks
loop-init c =
    let half = ap (λ n. n / 2) c.physical_size-count.ensures.size in
    let all : c.physical_size-count.result / 2 - 0 ≡ size_at c.args.form c.args.bytes.now c.args.at / 2 = omega (arith, half) in
    record {
      place = omega arith;
      marked = ap (λ n. c.args.marks.now.items ++ marks c.args.form c.args.bytes.now c.args.at n c.args.at) all;
    }

pub returns : goal.returns
returns c =
    marks_end c.args.form c.args.bytes.now c.args.at (c.physical_size-count.result / 2) c.loop.counter c.loop.master
    c.loop.marks.items _ c.loop-test.false c.loop.invariant.marked
