use Rattle.zone_marks.proofs.Cited.{◌≡◌, ◌+◌, ◌-◌, sym, ◌∙◌, arith, left_past, opened_block, spared, free_of-le, Purge, Purging}
use Rattle.zone_marks.proofs.Joined.Passing.{pass-way, next, freed-fits, freeing, may-free, freed-next, kept-next}
use Rattle.zone_marks.proofs.purging.pass_block.Goals.{After-free_of_seen, After-left_after}
use Rattle.zone_marks.proofs.purging.pass_block.Goals as goal

pub step_at-step-requires-clause-way : goal.step_at-step-requires-clause-way
step_at-step-requires-clause-way c = pass-way _ _ _ _ _ _ _ c.requires.pass.1

-- the purges that are left
left : (c : After-left_after) → left_past (spared c.args.sparing) c.args.pass.left
    (opened_block c.args.sparing c.step_at-step.ensures.here) ≡ c.left_after.result
left c = sym (c.left_after.ensures _ c.step_at-step.ensures.told)

pub returns-in_default-clause-pass : goal.returns-in_default-clause-pass
returns-in_default-clause-pass c = λ p u. kept-next p _ _ _ _ _ _ u _ (next p _ _ _ _ _ _ u _ _ c.step_at-step.ensures)
    (left (goal.at.returns-in_default-clause-pass c).After-left_after ∙ c.in_default.is)

pub free_up-requires : goal.free_up-requires
free_up-requires c =
    let u = c.requires.pass.1 in
    let v = next _ _ _ _ _ _ _ u _ _ c.step_at-step.ensures in
    let m = left (goal.at.free_up-requires c).After-left_after ∙ c.in-Some.is in
    (freeing _ _ _ _ _ _ _ u _ v _ m, may-free _ _ _ _ _ _ _ u _ v _ m)

-- a block that becomes free
freed : (c : After-free_of_seen) (p : Purge)
    → Purging p c.args.sparing c.args.pass.start c.args.pass.at c.args.pass.left c.args.pass.freed c.args.part.now.bytes
    → Purging p c.args.sparing c.args.pass.start c.step_at-step.result.end c.in-Some.left
    (c.args.pass.freed + (c.step_at-step.result.end - c.args.pass.at - c.free_of_seen.result)) c.free_up.new.part.bytes
freed c p u =
    let s = c.step_at-step.ensures in
    freed-next p _ _ _ _ _ _ u _ (next p _ _ _ _ _ _ u _ _ s) _ (sym (c.left_after.ensures _ s.told) ∙ c.in-Some.is)
    _ c.free_up.ensures.lays _
    (let e = c.free_of_seen.ensures s.here s.told in let u = s.up in omega (arith, free_of-le s.here))

pub overflow_add-result : goal.overflow_add-result
overflow_add-result c = omega (
  arith,
  freed-fits _ _ _ _ _ _ _
      (freed (goal.at.overflow_add-result c).After-free_of_seen _ c.requires.pass.1),
)

pub returns-clause-pass : goal.returns-clause-pass
returns-clause-pass c = freed (goal.at.returns-clause-pass c).After-free_of_seen
