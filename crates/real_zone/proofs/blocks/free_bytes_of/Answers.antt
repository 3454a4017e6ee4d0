use Rattle.real_zone.proofs.Cited.{arith, free_size}
use Rattle.real_zone.proofs.Walking.{passes, tiled_here, tiled_after, sum_goes_on, sum_ends}
use Rattle.real_zone.proofs.blocks.free_bytes_of.Goals as goal

pub free_size_of-sum-requires : goal.free_size_of-sum-requires
free_size_of-sum-requires c =
    (passes c.args.form c.args.bytes.now c.loop-at.at
    (tiled_here c.args.form c.args.bytes.now c.loop-at.at c.loop-at-test.true c.loop-at.invariant.tiled)).room

pub returns : goal.returns
returns c =
    sum_ends c.args.form c.args.bytes.now (free_size c.args.form c.args.bytes.now) c.loop-at.at c.loop-at.sum _
    c.loop-at-test.false c.loop-at.invariant.rest

pub loop-at-preserved : goal.loop-at-preserved
loop-at-preserved c =
    let here = tiled_here c.args.form c.args.bytes.now c.loop-at.at c.loop-at-test.true c.loop-at.invariant.tiled in
    record {
      inside = c.after-at.ensures.inside;
      small = omega arith;
      tiled = rw c.after-at.ensures.place
          (tiled_after c.args.form c.args.bytes.now c.loop-at.at c.loop-at-test.true c.loop-at.invariant.tiled);
      rest = rw (c.after-at.ensures.place, c.free_size_of-sum.ensures.size)
          (sum_goes_on c.args.form c.args.bytes.now (free_size c.args.form c.args.bytes.now) c.loop-at.at c.loop-at.sum _ here
          c.loop-at.invariant.rest);
    }
