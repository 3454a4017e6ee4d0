use Rattle.lint.proofs.Cited.{◌≡◌, ◌+◌, drop, first_wrong}
use Rattle.lint.proofs.judging.wrong_argument.Given as goal

-- as many arguments were read as are counted, and the first wrong one of those that are still to be read is that of all
abbrev pub invariant-loop-role : goal.invariant-loop-role
invariant-loop-role l = (l.number ≡ l.role-index)
    × (first_wrong (l.number + 1) (drop l.role-index l.form.roles.now) l.rest ≡ first_wrong 1 l.form.roles.now l.text)
