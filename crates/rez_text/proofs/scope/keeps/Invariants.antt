use Rattle.rez_text.proofs.Cited.{◌≡◌, drop}
use Rattle.rez_text.specs.Scopes as spec
use Rattle.rez_text.proofs.scope.keeps.Given as goal

-- what is to be known of the rest is what is to be known of the whole text
abbrev pub invariant-loop-byte : goal.invariant-loop-byte
invariant-loop-byte l =
    spec.keeps l.fn.closing l.fn.depth l.scope (drop l.byte-index l.fn.text)
    ≡ spec.keeps l.fn.closing l.fn.depth l.fn.scope l.fn.text
