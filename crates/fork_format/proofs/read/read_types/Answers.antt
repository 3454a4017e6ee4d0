use Rattle.fork_format.proofs.Cited.{◌≡◌, ◌∙◌, sym, ap, subst, true, map, ℕ, List, IfOk, are_distinct, Group, kind_in, offsets, view_group}
use Rattle.fork_format.proofs.Apart.{joined-apart}
use Rattle.fork_format.proofs.read.read_types.Goals as goal

pub returns-then-are_apart : goal.returns-then-are_apart
returns-then-are_apart c =
    let ats : List ℕ = offsets c.args.first 8 c.args.count in
    let different : are_distinct (map (kind_in c.args.bytes.now) ats) ≡ true =
    ap are_distinct (sym (c.as_mut_slice.ensures.value ∙ c.in_ok-kinds.ensures)) ∙ sym c.are_apart.ensures
    ∙ c.if-are_apart.true in
    subst (λ (l : List Group). IfOk c.read_apart.result (λ v. map view_group v.items ≡ l))
    (sym (joined-apart c.args.bytes.now ats different)) c.read_apart.ensures
