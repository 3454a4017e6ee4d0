use Rattle.fork_wrappers.proofs.Cited.{◌≡◌, true, false, sym, ap, ◌∙◌, remade, same_wrapping, wrapping_of}
use Rattle.fork_wrappers.proofs.Rewraps.{is_recognized}
use Rattle.fork_wrappers.proofs.rewrapping.recognized_of.Goals.{After-is_same}
use Rattle.fork_wrappers.proofs.rewrapping.recognized_of.Goals as goal

-- whether the file that was made is taken for one that is wrapped so
judged : (c : After-is_same) → same_wrapping (wrapping_of c.in-Ok.new.items) c.args.how ≡ c.is_same.result
judged c = ap (λ xs. same_wrapping (wrapping_of xs) c.args.how) (sym c.as_slice.ensures.value)
    ∙ ap (λ w. same_wrapping w c.args.how) (sym c.wrapping.ensures.wrapping) ∙ sym c.is_same.ensures

pub returns-then-is_same-clause-made : goal.returns-then-is_same-clause-made
returns-then-is_same-clause-made c =
    let j = judged (goal.at.returns-then-is_same-clause-made c).After-is_same in
    is_recognized c.args.how (remade c.args.how c.args.file.now c.args.fork.now) c.in-Ok.new.items true
    c.in-Ok.ensures.made (j ∙ c.if-is_same.true)

pub returns-else-is_same-clause-fault : goal.returns-else-is_same-clause-fault
returns-else-is_same-clause-fault c =
    let j = judged (goal.at.returns-else-is_same-clause-fault c).After-is_same in
    is_recognized c.args.how (remade c.args.how c.args.file.now c.args.fork.now) c.in-Ok.new.items false
    c.in-Ok.ensures.made (j ∙ c.if-is_same.false)
