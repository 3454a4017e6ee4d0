use Rattle.zone_marks.proofs.Cited.{◌≡◌, ◌+◌, arith, rules, size, Freeing, MayRelease}
use Rattle.zone_marks.proofs.Joined.Released.{leads-up, stop-way, stop-more, freed-replaced, here-read, lower, may-free}
use Rattle.zone_marks.proofs.Joined.Released.{may-free-two, released-one, released-two}
use Rattle.zone_marks.proofs.freeing.free_block.Goals.{After-free_up-end, then-more-gt0, else-more-gt0}
use Rattle.zone_marks.proofs.freeing.free_block.Goals as goal

pub last_free_below-start-requires-clause-up : goal.last_free_below-start-requires-clause-up
last_free_below-start-requires-clause-up c = grind (arith, leads-up)

pub last_free_below-start-requires-clause-inside : goal.last_free_below-start-requires-clause-inside
last_free_below-start-requires-clause-inside c = let i = here-read _ _ _ c.requires.1 in omega arith

pub free_up-end-requires : goal.free_up-end-requires
free_up-end-requires c =
    let e = c.last_free_below-start.ensures in
    (lower _ _ _ c.requires.1 _ e, may-free _ _ _ c.requires.1 _ e)

-- where the block ends
end : (c : After-free_up-end) (f : Freeing) → MayRelease f c.args.place c.args.part.now.bytes
    → c.free_up-end.result ≡ c.args.place + size f.here
end c f m = let e = c.last_free_below-start.ensures in
    c.free_up-end.ensures.end (lower _ _ _ m _ e) (may-free _ _ _ m _ e)

pub free_up-requires : goal.free_up-requires
free_up-requires c = may-free-two _ _ _ c.requires.1 _ c.last_free_below-start.ensures _ (grind (arith, end)) _
    c.free_up-end.ensures.lays _ c.free_above-more.ensures c.if-more-gt0.true

pub overflow_sub-result : goal.overflow_sub-result
overflow_sub-result c = omega (arith, end (goal.at.overflow_sub-result c).After-free_up-end _ c.requires.1)

pub returns-clause-bytes : goal.returns-clause-bytes
returns-clause-bytes c = λ f m. omega (arith, end (goal.at.returns-clause-bytes c).After-free_up-end f m)

pub returns-clause-lays : goal.returns-clause-lays
returns-clause-lays c = λ f m.
    let e = c.last_free_below-start.ensures in
    let t = end (goal.at.returns-clause-lays c).After-free_up-end f m in
    let l = c.free_up-end.ensures.lays in
    let r = c.free_above-more.ensures in
    elim c.if-more-gt0.branch [
      | then-more-gt0 w ↦ rw w.part-is
          (released-two _ _ _ m _ e _ t _ l _ r w.if-more-gt0.true _ w.free_up.ensures.lays)
      | else-more-gt0 w ↦ rw w.part-is (released-one _ _ _ m _ e _ t _ l _ r w.if-more-gt0.false)
    ]

pub returns-clause-replaced : goal.returns-clause-replaced
returns-clause-replaced c = search (rules, freed-replaced, end)

pub free_above-more-requires : goal.free_above-more-requires
free_above-more-requires c = stop-way _ _ _ c.requires.1 _ c.last_free_below-start.ensures _
    (end (goal.at.free_above-more-requires c).After-free_up-end _ c.requires.1) _ c.free_up-end.ensures.lays

pub overflow_add-result : goal.overflow_add-result
overflow_add-result c = let k = stop-more _ _ _ c.requires.1 _ c.last_free_below-start.ensures _
    (grind (arith, end)) _ c.free_up-end.ensures.lays _ c.free_above-more.ensures in
    omega arith
