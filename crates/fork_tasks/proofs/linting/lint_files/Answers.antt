use Rattle.fork_tasks.proofs.Cited.{◌≡◌, ◌+◌, ◌∷◌, ◌∙◌, [], ℕ, List, drop, map, true, get_or, subst, arith, common_steps, on_err, types_of}
use Rattle.fork_tasks.proofs.Cited.{lines_by}
use Rattle.fork_tasks.proofs.Surveyed.{reads_on}
use Rattle.fork_tasks.proofs.Linted.{Come, further, all_linted}
use Rattle.fork_tasks.proofs.linting.lint_files.Goals as goal

pub loop-path-preserved : goal.loop-path-preserved
loop-path-preserved g c =
    let i : ℕ = c.loop-path.path-index in
    let x : List ℕ = (get_or c.args.paths.now i (record { ref_ptr = (0, 0); now = [] })).now in
    let more : List (List ℕ) = map (λ path. path.now) (drop (i + 1) c.args.paths.now) in
    let split : map (λ path. path.now) (drop i c.args.paths.now) ≡ x ∷ more = grind (arith, common_steps) in
    let come = subst (λ l. Come (lines_by c.args.asked (types_of c.args.types.now)) (map (λ path. path.now) c.args.paths.now) l
    (g.H.Host.accesses c.args.host.now) (g.H.Host.accesses c.loop-path.host) [] c.loop-path.lines.text.items
    true c.loop-path.lines.clean) split c.loop-path.invariant.come in
    let seen = c.in_ok-lint_file.ensures.seen in
    record {
      silent = c.in_ok-lint_file.ensures.silent ∙ c.loop-path.invariant.silent;
      come = further _ _ _ x _ _ _ _ _ _ _ _ _ seen.0 come seen.1 seen.2;
    }

pub returns-in_err-lint_file-clause-stopped : goal.returns-in_err-lint_file-clause-stopped
returns-in_err-lint_file-clause-stopped g c =
    let come = c.loop-path.invariant.come in
    on_err _ _ (reads_on _ _ _ come.accesses come.reads come.linted.made c.in_err-lint_file.ensures.stopped)

pub returns-clause-seen : goal.returns-clause-seen
returns-clause-seen g c =
    let none : map (λ path. path.now) (drop c.loop-path.path-index c.args.paths.now) ≡ [] = grind (arith, common_steps) in
    all_linted _ _ _ _ _ _ _ _ (subst (λ l.
    Come (lines_by c.args.asked (types_of c.args.types.now)) (map (λ path. path.now) c.args.paths.now) l (g.H.Host.accesses c.args.host.now)
    (g.H.Host.accesses c.loop-path.host) [] c.loop-path.lines.text.items true c.loop-path.lines.clean) none c.loop-path.invariant.come)
