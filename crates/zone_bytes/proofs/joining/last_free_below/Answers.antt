use Rattle.zone_bytes.proofs.Cited.{arith}
use Rattle.zone_bytes.proofs.Tiles.Tags.{free-false}
use Rattle.zone_bytes.proofs.Places.Stepped.{may-read}
use Rattle.zone_bytes.proofs.Joined.Below.{below-from, below-done, below-up, below-free, below-other}
use Rattle.zone_bytes.proofs.joining.last_free_below.Goals as goal

pub loop-at-init : goal.loop-at-init
loop-at-init c = below-from _ _ _ c.requires.up c.requires.inside

pub read_header-header-requires : goal.read_header-header-requires
read_header-header-requires c = may-read _ _ c.loop-at.invariant.way (grind arith)

pub overflow_add-end : goal.overflow_add-end
overflow_add-end c =
    let u = below-up _ _ _ _ c.loop-at.invariant c.loop-at-test.true (omega arith) _ c.read_header-header.ensures in
    omega arith

pub loop-at-smaller-then-eq : goal.loop-at-smaller-then-eq
loop-at-smaller-then-eq c =
    let u = below-up _ _ _ _ c.loop-at.invariant c.loop-at-test.true (omega arith) _ c.read_header-header.ensures in
    omega arith

pub loop-at-preserved-then-eq : goal.loop-at-preserved-then-eq
loop-at-preserved-then-eq c =
    below-free _ _ _ _ c.loop-at.invariant c.loop-at-test.true (omega arith) _ c.read_header-header.ensures
    (grind arith)

pub loop-at-smaller : goal.loop-at-smaller
loop-at-smaller c =
    let u = below-up _ _ _ _ c.loop-at.invariant c.loop-at-test.true (omega arith) _ c.read_header-header.ensures in
    omega arith

pub loop-at-preserved : goal.loop-at-preserved
loop-at-preserved c =
    below-other _ _ _ _ c.loop-at.invariant c.loop-at-test.true (omega arith) _ c.read_header-header.ensures
    (free-false _ c.if-eq.ensures)

pub returns : goal.returns
returns c = below-done _ _ _ _ c.loop-at.invariant c.loop-at-test.false
