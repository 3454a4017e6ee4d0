use Rattle.script_text.proofs.Cited.{ℕ, List, Some, None, sym, subst, codes, Begun, Line, put_named, IsKept}
use Rattle.script_text.proofs.Allowed.{allowed_put}
use Rattle.script_text.proofs.Naming.{absent_put}
use Rattle.script_text.proofs.script_lines.ScriptLines.end.Goals as goal

-- what is kept once a grow-zone script has its `end`
kept_added : (blocks : List (List ℕ × List Line)) (begun : Begun) → IsKept blocks (Some begun)
    → IsKept (put_named begun.name.0.items begun.lines.items blocks) None
kept_added blocks begun kept = record {
  allowed = allowed_put begun.name.0.items begun.lines.items blocks kept.allowed kept.begun_allowed;
  unused = absent_put (codes "none") begun.name.0.items begun.lines.items blocks kept.unused kept.begun_named;
  begun_allowed = tt;
  begun_anew = tt;
  begun_named = tt;
}

pub invariant_of-self : goal.invariant_of-self
invariant_of-self c =
    let kept = kept_added c.self.inside.blocks c.in-Some.begun
    (subst (IsKept c.self.inside.blocks) (sym c.in-Some.ensures.value) c.self.invariant) in
    rw (c.in_ok-add.ensures.added, c.in-Some.ensures.after) kept
