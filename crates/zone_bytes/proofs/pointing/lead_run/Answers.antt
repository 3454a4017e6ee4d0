use Rattle.zone_bytes.proofs.Cited.{◌+◌, ◌<◌, refl, arith, true, false, ◌≡◌, ◌∙◌, the_type, Pointing}
use denote.Enum.Bare.{sameb}
use Rattle.block_headers.specs.declared.header.Tag.TheVariants.{Relocatable}
use Rattle.zone_bytes.proofs.Runs.Packed.{NextMover, passing-next, next-mover, next-free}
use Rattle.zone_bytes.proofs.Runs.Pointers.{start-pointing, pointing-bounds, some-left, past-free, past-slot, pointed}
use Rattle.zone_bytes.proofs.Tiles.Tags.{tag-true, tag-false, tag-small}
use Rattle.zone_bytes.proofs.Tiles.Heads.{next-may, Next}
use Rattle.zone_bytes.proofs.pointing.lead_run.Given.{Over}
use Rattle.zone_bytes.proofs.pointing.lead_run.Goals.{In-loop-from, After-eq, then-eq, else-eq}
use Rattle.zone_bytes.proofs.pointing.lead_run.Goals as goal

pub loop-from-init : goal.loop-from-init
loop-from-init g c = (rw c.requires.0 (start-pointing _ _ _ c.requires.1), (refl, refl, refl))

-- a block is next
there : (g : Over) (c : In-loop-from g) → Next c.loop-from.part.bytes c.loop-from.from
there g c = passing-next _ _ _ c.requires.1 c.loop-from.invariant.0.state
    (omega (arith, pointing-bounds _ _ _ c.requires.1 c.loop-from.invariant.0))

pub read_header-header-requires : goal.read_header-header-requires
read_header-header-requires g c = next-may (there g (goal.at.read_header-header-requires g c).In-loop-from)

-- it is relocatable
slot : (g : Over) (c : After-eq g) → true ≡ sameb the_type c.read_header-header.result.tag Relocatable
    → let p = c.loop-from.invariant.0 in NextMover g.lay 0 c.args.stop c.loop-from.from c.loop-from.from
    c.loop-from.part.bytes p.done p.done p.rest c.read_header-header.result.size c.read_header-header.result.slot
slot g c t =
    let p = c.loop-from.invariant.0 in
    next-mover _ _ _ c.requires.1 _ c.read_header-header.ensures _ p.state
    (some-left _ _ _ c.requires.1 p c.loop-from-test.true) (tag-true _ t)

-- or Free
free : (g : Over) (c : After-eq g) → false ≡ sameb the_type c.read_header-header.result.tag Relocatable
    → Pointing g.lay (c.loop-from.from + c.read_header-header.result.size) c.loop-from.part.bytes
free g c t =
    let p = c.loop-from.invariant.0 in
    past-free _ _ _ c.requires.1 p _ (next-free _ _ _ c.requires.1 _ c.read_header-header.ensures _ p.state
    (some-left _ _ _ c.requires.1 p c.loop-from-test.true) (tag-false _ t))

pub write_word-requires : goal.write_word-requires
write_word-requires g c = (slot g (goal.at.write_word-requires g c).After-eq c.if-eq.ensures).slot_in

pub overflow_add-from : goal.overflow_add-from
overflow_add-from g c =
    let d = (goal.at.overflow_add-from g c).After-eq in
    let b = pointing-bounds _ _ _ c.requires.1 c.loop-from.invariant.0 in
    elim c.if-eq.branch [
      | then-eq w ↦ omega (arith, b, (slot g d w.if-eq.ensures).inside)
      | else-eq w ↦ omega (arith, b, pointing-bounds _ _ _ c.requires.1 (free g d w.if-eq.ensures))
    ]

pub loop-from-smaller : goal.loop-from-smaller
loop-from-smaller g c =
    let n = there g (goal.at.loop-from-smaller g c).In-loop-from in
    let some : 0 < c.read_header-header.result.size = omega (arith, tag-small) in
    omega arith

pub loop-from-preserved : goal.loop-from-preserved
loop-from-preserved g c =
    let d = (goal.at.loop-from-preserved g c).After-eq in
    let v = c.loop-from.invariant in
    elim c.if-eq.branch [
      | then-eq w ↦
          let b = w.write_word.ensures in
          rw w.part-is (
            rw b.bytes (past-slot _ _ _ c.requires.1 v.0 (slot g d w.if-eq.ensures)),
            (b.same.0 ∙ v.1.0, b.same.1 ∙ v.1.1, b.same.2 ∙ v.1.2),
          )
      | else-eq w ↦ rw w.part-is (free g d w.if-eq.ensures, v.1)
    ]

pub returns-clause-pointed : goal.returns-clause-pointed
returns-clause-pointed g c = pointed _ _ _ c.requires.1 c.loop-from.invariant.0 c.loop-from-test.false
