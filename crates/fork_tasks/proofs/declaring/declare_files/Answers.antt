use Rattle.fork_tasks.proofs.Cited.{◌≡◌, ◌+◌, ◌∷◌, ◌∙◌, [], ℕ, List, Err, drop, get_or, map, subst, arith, rules, common_steps, types_of}
use Rattle.fork_tasks.proofs.Accesses.{told_err}
use Rattle.fork_tasks.proofs.Declared.{Known, further, all_known, stopped}
use Rattle.fork_tasks.proofs.declaring.declare_files.Goals as goal

pub loop-path-preserved : goal.loop-path-preserved
loop-path-preserved g c =
    let i : ℕ = c.loop-path.path-index in
    let x : List ℕ = (get_or c.args.paths.now i (record { ref_ptr = (0, 0); now = [] })).now in
    let more : List (List ℕ) = map (λ path. path.now) (drop (i + 1) c.args.paths.now) in
    let split : map (λ path. path.now) (drop i c.args.paths.now) ≡ x ∷ more = grind (arith, common_steps) in
    let come = subst (λ l. Known (map (λ path. path.now) c.args.paths.now) l (types_of c.args.types) (types_of c.loop-path.known)
    (g.H.Host.accesses c.args.host.now) (g.H.Host.accesses c.loop-path.host)) split c.loop-path.invariant.known in
    let said = c.in_ok-known.ensures.known in
    record {
      silent = c.in_ok-known.ensures.silent ∙ c.loop-path.invariant.silent;
      known = further _ more x said.0 _ _ _ _ _ _ come said.1 said.2;
    }

pub returns-in_err-known-clause-stopped : goal.returns-in_err-known-clause-stopped
returns-in_err-known-clause-stopped g c =
    let i : ℕ = c.loop-path.path-index in
    let x : List ℕ = (get_or c.args.paths.now i (record { ref_ptr = (0, 0); now = [] })).now in
    let more : List (List ℕ) = map (λ path. path.now) (drop (i + 1) c.args.paths.now) in
    let split : map (λ path. path.now) (drop i c.args.paths.now) ≡ x ∷ more = grind (arith, common_steps) in
    let come = subst (λ l. Known (map (λ path. path.now) c.args.paths.now) l (types_of c.args.types) (types_of c.loop-path.known)
    (g.H.Host.accesses c.args.host.now) (g.H.Host.accesses c.loop-path.host)) split c.loop-path.invariant.known in
    let same : c.from_residual.result ≡ Err c.in_err-known.field-0.0 = search rules in
    told_err _ _ _ same (stopped _ more x _ _ _ _ _ _ come c.in_err-known.ensures.stopped)

pub returns-clause-known : goal.returns-clause-known
returns-clause-known g c =
    let none : map (λ path. path.now) (drop c.loop-path.path-index c.args.paths.now) ≡ [] = grind (arith, common_steps) in
    all_known _ _ _ _ _ (subst (λ l. Known (map (λ path. path.now) c.args.paths.now) l (types_of c.args.types)
    (types_of c.loop-path.known) (g.H.Host.accesses c.args.host.now) (g.H.Host.accesses c.loop-path.host)) none
    c.loop-path.invariant.known)
