use Rattle.fork_tasks.proofs.Cited.{◌≡◌, ◌+◌, ◌∷◌, ◌∙◌, [], ℕ, List, drop, map, true, get_or, subst, arith, common_steps, on_err}
use Rattle.fork_tasks.proofs.Cited.{AreSurveyed}
use Rattle.fork_tasks.proofs.Surveyed.{Come, further, surveyed_step, surveyed_reads, reads_on, all_surveyed}
use Rattle.fork_tasks.proofs.surveying.surveyed.Goals as goal

pub loop-path-preserved : goal.loop-path-preserved
loop-path-preserved g c =
    let i : ℕ = c.loop-path.path-index in
    let x : List ℕ = (get_or c.args.paths.now i (record { ref_ptr = (0, 0); now = [] })).now in
    let more : List (List ℕ) = map (λ path. path.now) (drop (i + 1) c.args.paths.now) in
    let split : map (λ path. path.now) (drop i c.args.paths.now) ≡ x ∷ more = grind (arith, common_steps) in
    let come = subst (λ l. Come AreSurveyed c.args.why (map (λ path. path.now) c.args.paths.now) l
    (g.H.Host.accesses c.args.host.now) (g.H.Host.accesses c.loop-path.host) [] c.loop-path.lines.text.items
    true c.loop-path.lines.good) split c.loop-path.invariant.come in
    let seen = c.in_ok-survey_path.ensures.surveyed in
    record {
      silent = c.in_ok-survey_path.ensures.silent ∙ c.loop-path.invariant.silent;
      come = further AreSurveyed _ _ _ x _ _ _ _ _ _ _ _ _ seen.0 come (surveyed_step x more seen.0 seen.1)
          (surveyed_reads x seen.0 seen.1) seen.2;
    }

pub returns-in_err-survey_path-clause-stopped : goal.returns-in_err-survey_path-clause-stopped
returns-in_err-survey_path-clause-stopped g c =
    let come = c.loop-path.invariant.come in
    on_err _ _ (reads_on _ _ _ come.accesses come.reads come.went.made c.in_err-survey_path.ensures.stopped)

pub returns-clause-surveyed : goal.returns-clause-surveyed
returns-clause-surveyed g c =
    let none : map (λ path. path.now) (drop c.loop-path.path-index c.args.paths.now) ≡ [] = grind (arith, common_steps) in
    all_surveyed _ _ _ _ _ _ _ _ (subst (λ l. Come AreSurveyed c.args.why (map (λ path. path.now) c.args.paths.now) l
    (g.H.Host.accesses c.args.host.now) (g.H.Host.accesses c.loop-path.host) [] c.loop-path.lines.text.items
    true c.loop-path.lines.good) none c.loop-path.invariant.come)
