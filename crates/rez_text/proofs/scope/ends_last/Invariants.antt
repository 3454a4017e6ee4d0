use Rattle.rez_text.proofs.Cited.{◌≡◌, drop}
use Rattle.rez_text.specs.Scopes as spec
use Rattle.rez_text.proofs.scope.ends_last.Given as goal

-- what is to be known of the rest is what is to be known of the whole text
abbrev pub invariant-loop-i : goal.invariant-loop-i
invariant-loop-i l =
    spec.ends_last l.fn.closing l.fn.depth l.scope (drop l.i l.fn.text) ≡ spec.ends_last l.fn.closing l.fn.depth l.fn.scope l.fn.text
