use Rattle.zone_marks.proofs.Cited.{drop, ◌≡◌, ◌∙◌, ap, arith, sym, drop_all, join, prefix, stretch_by, IsStretch, place_at, left_in}
use Rattle.zone_marks.proofs.Cited.{left-none}
use Rattle.zone_marks.specs.declared.landmark.Tally.TheVariants as tally
use Rattle.zone_marks.proofs.Bounds.Fewest.{known-fits, known-past}
use Rattle.zone_marks.proofs.Marks.Lowering.{begins-way, marks-parted}
use Rattle.zone_marks.proofs.Searches.Pieces.{edge-within, stretch-before, stretch-more}
use Rattle.zone_marks.proofs.largest.stretch_above.Goals.{After-loop-index, Joined-told, in-Known, in-Unknown}
use Rattle.zone_marks.proofs.largest.stretch_above.Goals as goal
use Rattle.zone_marks.proofs.Stretches.Monoid.{counted-none, join-unit_right}
use Rattle.zone_marks.proofs.Stretches.Sums.{ends-load}

pub walked_between-stretch-requires-clause-stretch : goal.walked_between-stretch-requires-clause-stretch
walked_between-stretch-requires-clause-stretch c =
    let m = c.requires.marked in
    let i = c.index_above-index in
    rw c.edge_of.ensures (stretch-before _ _ _ c.args.sound.now.sound c.args.counting tally.Unknown _
    (drop i.result c.args.marks.now) (marks-parted _ _ _ i.result m.marks).1 c.requires.begins i.ensures.above tt)

-- what the blocks up to the next place that is told of come to
next : (c : Joined-told) → IsStretch c.args.counting (tally.Known c.match-told.next)
    (place_at c.loop-index.index c.args.marks.now c.args.sound.now.part.bytes)
    (place_at c.told_from-told.result.above c.args.marks.now c.args.sound.now.part.bytes) c.args.sound.now.part.bytes
next c = elim c.match-told.branch [
  | in-Known w ↦ rw w.next-is (rw w.in-Known.is at c.told_from-told.ensures.stretch)
  | in-Unknown w ↦ rw w.next-is (rw w.edge_of-at.ensures at (rw w.edge_of-to.ensures at w.walked_between-next.ensures))
]

pub join-stretch-requires : goal.join-stretch-requires
join-stretch-requires c =
    let n = next c in
    let i = c.args.sound.now.sound in
    let low = known-fits _ _ _ _ _ c.loop-index.invariant in
    let high = known-fits _ _ _ _ _ n in
    omega (arith, ends-load c.loop-index.stretch c.match-told.next, edge-within _ _ _ i _ n.1.edge, i.lays.small)

pub loop-index-preserved : goal.loop-index-preserved
loop-index-preserved c =
    let n = next (goal.at.loop-index-preserved c).Joined-told in
    let s = stretch-more _ _ _ _ _ _ _ _ c.loop-index.invariant n c.join-stretch.ensures.is in
    grind arith

-- no block is left behind the last landmark
whole : (c : After-loop-index) → stretch_by c.args.counting (left_in c.args.from c.args.sound.now.part.bytes) ≡
    c.loop-index.stretch
whole c =
    let v = c.loop-index.invariant in
    known-past _ _ _ _ _ v ∙ ap (λ l. join c.loop-index.stretch (stretch_by c.args.counting l)) (left-none _ _
    (begins-way _ _ _ c.args.sound.now.sound _ v.1.edge) (grind (arith, drop_all)))
    ∙ ap (join c.loop-index.stretch) (counted-none _) ∙ join-unit_right _

pub returns-clause-low : goal.returns-clause-low
returns-clause-low c = sym (ap prefix (whole c))

pub returns-clause-all : goal.returns-clause-all
returns-clause-all c none = sym (whole c)

pub returns-then-matches-clause-low : goal.returns-then-matches-clause-low
returns-then-matches-clause-low c =
    let e = known-past _ _ _ _ _ c.loop-index.invariant in
    grind arith
