use Rattle.fork_format.proofs.Cited.{arith, ◌≡◌, ◌∙◌, ap, ◌++◌, ◌∷◌, [], kind_in}
use Rattle.fork_format.proofs.Loops.{map-goes_on}
use Rattle.fork_format.proofs.read.kinds_of.Goals as goal

pub loop-preserved : goal.loop-preserved
loop-preserved c =
    let e : c.push.new.self.items ≡ c.loop.kinds.items ++ kind_in c.args.bytes.now c.loop.at ∷ [] =
    c.in_ok-push.ensures.items ∙ ap (λ n. c.loop.kinds.items ++ n ∷ []) c.kind_at.ensures in
    record {
      at = omega arith;
      kinds = rw e (map-goes_on (kind_in c.args.bytes.now) c.loop.kinds.items c.loop.at 8 c.args.count c.loop.counter
          _ c.loop-test.true c.loop.invariant.kinds);
    }
