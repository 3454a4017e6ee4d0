use Rattle.fork_format.proofs.Cited.{refl, sym, Spells, view}
use Rattle.fork_format.proofs.OneContent.{one_content}
use Rattle.fork_format.proofs.Spelled.{spelled_types, spelled_references}
use Rattle.fork_format.proofs.read.read_fork.Goals as goal

pub returns-clause-only : goal.returns-clause-only
returns-clause-only c =
    let s : Spells c.args.bytes.now (view c.in_ok-content.content) =
    record { fork = c.in-Some.ensures.fork.0 refl; content = sym c.in_ok-content.ensures } in
    λ d t. one_content c.args.bytes.now d (view c.in_ok-content.content) t s

pub returns-clause-bad_map : goal.returns-clause-bad_map
returns-clause-bad_map c =
    let s : Spells c.args.bytes.now (view c.in_ok-content.content) =
    record { fork = c.in-Some.ensures.fork.0 refl; content = sym c.in_ok-content.ensures } in
    (λ e. cc, λ h. absurd (h.1 (view c.in_ok-content.content) s))

pub returns-clause-distinct : goal.returns-clause-distinct
returns-clause-distinct c =
    let s : Spells c.args.bytes.now (view c.in_ok-content.content) =
    record { fork = c.in-Some.ensures.fork.0 refl; content = sym c.in_ok-content.ensures } in
    spelled_types c.args.bytes.now (view c.in_ok-content.content) s

pub returns-clause-references : goal.returns-clause-references
returns-clause-references c =
    let s : Spells c.args.bytes.now (view c.in_ok-content.content) =
    record { fork = c.in-Some.ensures.fork.0 refl; content = sym c.in_ok-content.ensures } in
    spelled_references c.args.bytes.now (view c.in_ok-content.content) s
