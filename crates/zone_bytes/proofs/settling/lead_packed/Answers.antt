use Rattle.zone_bytes.proofs.Cited.{◌≡◌, true, ◌+◌, ◌<◌, [], ◌∷◌, ◌++◌, refl, sym, ◌∙◌, subst, arith}
use Rattle.zone_bytes.proofs.Cited.{append_assoc, append-nil, Passing, sizes, movers}
use Rattle.zone_bytes.proofs.Runs.Packed.{NextMover, bounds, next-mover, passing-next, run-moved, within}
use Rattle.zone_bytes.proofs.Runs.Settled.{past-mover, begun, movers-more}
use Rattle.zone_bytes.proofs.Tiles.Heads.{next-may}
use Rattle.zone_bytes.proofs.Tiles.Tiling.{span-append}
use Rattle.zone_bytes.proofs.Tiles.Tags.{tag-small}
use Rattle.zone_bytes.proofs.settling.lead_packed.Given.{Over}
use Rattle.zone_bytes.proofs.settling.lead_packed.Goals.{After-may_move}
use Rattle.zone_bytes.proofs.settling.lead_packed.Goals as goal

pub loop-at-init : goal.loop-at-init
loop-at-init g c =
    ([], rw c.requires.0 (begun _ _ _ c.requires.1.0 _), (refl, refl, refl), λ base before e a. rw append-nil a)

pub read_header-header-requires : goal.read_header-header-requires
read_header-header-requires g c =
    next-may (passing-next _ _ _ (run-moved _ _ _ c.requires.1.0) c.loop-at.invariant.1.state (omega arith))

-- the next block is one of the run, and relocatable
mover : (g : Over) (c : After-may_move g) → c.may_move.result ≡ true
    → NextMover g.lay c.args.gap (c.args.place + sizes g.lay.run) c.loop-at.at c.loop-at.at c.loop-at.part.bytes
    c.loop-at.invariant.0 (movers c.loop-at.invariant.0) c.loop-at.invariant.1.rest c.read_header-header.result.size
    c.read_header-header.result.slot
mover g c t =
    let r = run-moved _ _ _ c.requires.1.0 in
    let p = c.loop-at.invariant.1 in
    next-mover _ _ _ r _ c.read_header-header.ensures _ p.state (λ b. within g.lay _ _ r _ c.read_header-header.ensures
    (subst (Passing g.lay _ _ _ _ _ _) b p.state) c.requires.1.1.0 (omega arith) (sym (c.may_move.ensures t).1))
    (c.may_move.ensures t).0

pub move_block-requires : goal.move_block-requires
move_block-requires g c =
    let m = mover g (goal.at.move_block-requires g c).After-may_move (grind arith) in
    let b = bounds _ _ _ (run-moved _ _ _ c.requires.1.0) c.loop-at.invariant.1.state in
    record {
      down = omega arith;
      inside = omega (arith, m.inside, b.inside);
      slot = m.slot_in;
      leads = (m.led c.loop-at.invariant.1.leads).0;
      fits = grind arith;
    }

pub overflow_add-at-in-loop-at : goal.overflow_add-at-in-loop-at
overflow_add-at-in-loop-at g c =
    let b = bounds _ _ _ (run-moved _ _ _ c.requires.1.0) c.loop-at.invariant.1.state in
    omega (arith, (mover g (goal.at.overflow_add-at-in-loop-at g c).After-may_move (grind arith)).inside, b)

pub loop-at-smaller : goal.loop-at-smaller
loop-at-smaller g c =
    let n = passing-next _ _ _ (run-moved _ _ _ c.requires.1.0) c.loop-at.invariant.1.state (omega arith) in
    let some : 0 < c.read_header-header.result.size = omega (arith, tag-small, n.big) in
    omega (arith, (mover g (goal.at.loop-at-smaller g c).After-may_move (grind arith)).inside, some)

pub loop-at-preserved : goal.loop-at-preserved
loop-at-preserved g c =
    let v = c.loop-at.invariant in
    let r = run-moved _ _ _ c.requires.1.0 in
    let m = mover g (goal.at.loop-at-preserved g c).After-may_move (grind arith) in
    let b = c.move_block.ensures in (
      v.0 ++ m.block ∷ [],
      rw b.bytes (past-mover _ _ _ r v.1 m 0 (grind arith)),
      (b.same.0 ∙ v.2.0, b.same.1 ∙ v.2.1, b.same.2 ∙ v.2.2),
      λ base before e a. rw (movers-more v.0 m.block m.mover, ← append_assoc before (movers v.0) (m.block ∷ []))
          (c.pass.ensures base (before ++ movers v.0) m.block
          (omega (arith, bounds _ _ _ r v.1.state, span-append)) (v.3 base before e a)),
    )
