use Rattle.zone_bytes.proofs.Cited.{◌≡◌, true, false, ◌+◌, ◌-◌, ◌<◌, ◌≤◌, ◌⊎◌, inl, inr, List, [], ◌∷◌, ◌++◌, refl, ◌∙◌, subst, arith}
use Rattle.zone_bytes.proofs.Cited.{append_assoc, rules, the_type, Block, Free, sizes, movers, Noted, Passing, gone_to}
use denote.Enum.Bare.{sameb}
use Rattle.block_headers.specs.declared.header.Tag.TheVariants.{Relocatable}
use Rattle.zone_bytes.proofs.Runs.Packed.{Bounds, NextMover, passing-next, run-moved, bounds, next-mover, next-free}
use Rattle.zone_bytes.proofs.Runs.Packed.{within, beyond}
use Rattle.zone_bytes.proofs.Runs.Settled.{past-free, past-mover, moves-bound, movers-more, movers-free}
use Rattle.zone_bytes.proofs.Runs.Settled.{until-none, until-free, gone-is}
use Rattle.zone_bytes.proofs.Tiles.Heads.{next-may, Next}
use Rattle.zone_bytes.proofs.Tiles.Tiling.{span-append, tiles-none}
use Rattle.zone_bytes.proofs.Tiles.Tags.{tag-true, tag-false, tag-small}
use Rattle.zone_bytes.proofs.settling.pack_until.Given.{Over}
use Rattle.zone_bytes.proofs.settling.pack_until.Goals.{In-loop-from, After-eq, Joined-eq, Left-loop-from, then-eq}
use Rattle.zone_bytes.proofs.settling.pack_until.Goals.{else-eq, else-loop-from-test}
use Rattle.zone_bytes.proofs.settling.pack_until.Goals.{then-loop-from-test+then-is_enough}
use Rattle.zone_bytes.proofs.settling.pack_until.Goals.{then-loop-from-test+else-is_enough+then-not-is_in_run}
use Rattle.zone_bytes.proofs.settling.pack_until.Goals as goal

pub loop-from-init : goal.loop-from-init
loop-from-init g c =
    let p = c.lead_packed-from.ensures.packed in
    (p.0, p.1, c.lead_packed-from.ensures.same, p.2)

-- a block is next
there : (g : Over) (c : In-loop-from g) → Next c.loop-from.part.bytes c.loop-from.from
there g c = passing-next _ _ _ (run-moved _ _ _ c.requires.1.0) c.loop-from.invariant.1.state (omega arith)

ends : (g : Over) (c : In-loop-from g) → let p = c.loop-from.invariant.1 in
    Bounds g.lay c.args.place (c.args.place + sizes g.lay.run) c.loop-from.from c.loop-from.to c.loop-from.part.bytes
    c.loop-from.invariant.0 (movers c.loop-from.invariant.0) p.rest
ends g c = bounds _ _ _ (run-moved _ _ _ c.requires.1.0) c.loop-from.invariant.1.state

pub read_header-header-requires : goal.read_header-header-requires
read_header-header-requires g c = search (rules, next-may, there)

-- it is one of the run
some : (g : Over) (c : After-eq g) → c.loop-from.invariant.1.rest ≡ [] → ⊥
some g c e =
    let p = c.loop-from.invariant.1 in
    within g.lay _ _ (run-moved _ _ _ c.requires.1.0) _ c.read_header-header.ensures
    (subst (Passing g.lay _ _ _ _ _ _) e p.state) c.requires.1.1.0 (omega arith) (search rules)

-- and a relocatable one
mover : (g : Over) (c : After-eq g) → true ≡ sameb the_type c.read_header-header.result.tag Relocatable
    → NextMover g.lay c.args.gap (c.args.place + sizes g.lay.run) c.loop-from.from c.loop-from.to
    c.loop-from.part.bytes c.loop-from.invariant.0 (movers c.loop-from.invariant.0) c.loop-from.invariant.1.rest
    c.read_header-header.result.size c.read_header-header.result.slot
mover g c t = next-mover _ _ _ (run-moved _ _ _ c.requires.1.0) _ c.read_header-header.ensures _
    c.loop-from.invariant.1.state (some g c) (tag-true _ t)

-- or a Free one
free : (g : Over) (c : After-eq g) → false ≡ sameb the_type c.read_header-header.result.tag Relocatable
    → (others : List Block) × (c.loop-from.invariant.1.rest ≡ Free c.read_header-header.result.size ∷ others)
free g c t = next-free _ _ _ (run-moved _ _ _ c.requires.1.0) _ c.read_header-header.ensures _
    c.loop-from.invariant.1.state (some g c) (tag-false _ t)

pub move_block-moves-requires : goal.move_block-moves-requires
move_block-moves-requires g c =
    let d = goal.at.move_block-moves-requires g c in
    let m = mover g d.After-eq c.if-eq.ensures in
    record {
      down = c.loop-from.invariant.1.state.down;
      inside = omega (arith, m.inside, ends g d.In-loop-from);
      slot = m.slot_in;
      leads = (m.led c.loop-from.invariant.1.leads).0;
      fits = grind arith;
    }

pub overflow_add-moves : goal.overflow_add-moves
overflow_add-moves g c =
    let r = run-moved _ _ _ c.requires.1.0 in
    omega (
      arith,
      moves-bound _ _ _ r (past-mover _ _ _ r c.loop-from.invariant.1
          (mover g (goal.at.overflow_add-moves g c).After-eq c.if-eq.ensures) _ c.move_block-moves.ensures.moves),
    )

pub overflow_add-to-then-eq : goal.overflow_add-to-then-eq
overflow_add-to-then-eq g c =
    let d = goal.at.overflow_add-to-then-eq g c in
    omega (arith, (mover g d.After-eq c.if-eq.ensures).inside, ends g d.In-loop-from)

-- the block ends in the run
up : (g : Over) (c : Joined-eq g) → c.loop-from.from + c.read_header-header.result.size ≤ c.args.place + sizes g.lay.run
up g c = elim c.if-eq.branch [
  | then-eq w ↦ (mover g c.before w.if-eq.ensures).inside
  | else-eq w ↦
      let r = run-moved _ _ _ c.requires.1.0 in
      let p = past-free _ _ _ r c.loop-from.invariant.1 _ (free g c.before w.if-eq.ensures) in
      omega (arith, bounds _ _ _ r p.state)
]

pub overflow_add-from : goal.overflow_add-from
overflow_add-from g c =
    let d = goal.at.overflow_add-from g c in
    omega (arith, up g d.Joined-eq, ends g d.In-loop-from)

pub loop-from-preserved : goal.loop-from-preserved
loop-from-preserved g c =
    let v = c.loop-from.invariant in
    let d = goal.at.loop-from-preserved g c in
    let r = run-moved _ _ _ c.requires.1.0 in
    elim c.if-eq.branch [
      | then-eq w ↦
          let m = mover g d.After-eq w.if-eq.ensures in
          let b = w.move_block-moves.ensures in
          rw (w.part-is, w.to-is, w.moves-is, w.edges-is) (
            v.0 ++ m.block ∷ [],
            rw b.bytes (past-mover _ _ _ r v.1 m _ b.moves),
            (b.same.0 ∙ v.2.0, b.same.1 ∙ v.2.1, b.same.2 ∙ v.2.2),
            λ base before e a. rw (movers-more v.0 m.block m.mover, ← append_assoc before (movers v.0) (m.block ∷ []))
                (w.pass.ensures base (before ++ movers v.0) m.block
                (omega (arith, ends g d.In-loop-from, span-append)) (v.3 base before e a)),
          )
      | else-eq w ↦
          let n = c.read_header-header.result.size in
          rw (w.part-is, w.to-is, w.moves-is, w.edges-is) (
            v.0 ++ Free n ∷ [],
            past-free _ _ _ r v.1 _ (free g d.After-eq w.if-eq.ensures),
            v.2,
            λ base before e a. rw (movers-free v.0 n) (v.3 base before e a),
          )
    ]

pub loop-from-smaller : goal.loop-from-smaller
loop-from-smaller g c =
    let b = (there g (goal.at.loop-from-smaller g c).In-loop-from).big in
    let some : 0 < c.read_header-header.result.size = omega (arith, tag-small) in
    omega (arith, up g (goal.at.loop-from-smaller g c).Joined-eq, some)

-- the run was gone over, or has enough
ended : (g : Over) (c : Left-loop-from g) → (c.loop-from.invariant.1.rest ≡ [])
    ⊎ ((c.args.place < c.loop-from.to) × (c.args.enough ≤ c.loop-from.from - c.loop-from.to))
ended g c =
    let p = c.loop-from.invariant.1 in
    let r = run-moved _ _ _ c.requires.1.0 in
    let b = bounds _ _ _ r p.state in
    elim c.loop-from-test.branch [
      | else-loop-from-test w ↦ inl (tiles-none _ _ p.rest _ p.state.high (omega arith))
      | then-loop-from-test+then-is_enough w ↦ inr (w.if-is_enough.ensures refl)
      | then-loop-from-test+else-is_enough+then-not-is_in_run w ↦
          inl (beyond _ _ _ r _ w.read_header-header.ensures _ p.state (search rules))
    ]

-- the edges are those of the blocks that were packed
noted : (g : Over) (c : Left-loop-from g) → Noted c.args.edges.now c.loop-from.edges (c.args.place + c.args.gap)
    (movers (gone_to g.lay c.loop-from.from))
noted g c = rw (← gone-is _ _ _ (run-moved _ _ _ c.requires.1.0) c.loop-from.invariant.1) c.loop-from.invariant.3

pub write_word-requires : goal.write_word-requires
write_word-requires g c =
    let b = bounds _ _ _ (run-moved _ _ _ c.requires.1.0) c.loop-from.invariant.1.state in
    (omega arith, omega arith)

pub returns-then-to-from-clause-packed : goal.returns-then-to-from-clause-packed
returns-then-to-from-clause-packed g c =
    rw c.write_word.ensures.bytes (until-free _ _ _ (run-moved _ _ _ c.requires.1.0) c.loop-from.invariant.1 _
    (ended g (goal.at.returns-then-to-from-clause-packed g c).Left-loop-from) c.if-to-from.true)

pub returns-else-to-from-clause-packed : goal.returns-else-to-from-clause-packed
returns-else-to-from-clause-packed g c = until-none _ _ _ (run-moved _ _ _ c.requires.1.0) c.loop-from.invariant.1 _
    (ended g (goal.at.returns-else-to-from-clause-packed g c).Left-loop-from) (omega arith)

pub returns-then-to-from-clause-edges : goal.returns-then-to-from-clause-edges
returns-then-to-from-clause-edges g c = noted g (goal.at.returns-then-to-from-clause-edges g c).Left-loop-from

pub returns-else-to-from-clause-edges : goal.returns-else-to-from-clause-edges
returns-else-to-from-clause-edges g c = noted g (goal.at.returns-else-to-from-clause-edges g c).Left-loop-from
