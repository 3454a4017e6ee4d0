use Rattle.fork_tasks.proofs.Cited.{◌≡◌, ◌+◌, ◌∷◌, ◌∙◌, [], ℕ, List, drop, map, string_bytes, subst, arith, common_steps, on_err, IsSeen}
use Rattle.fork_tasks.proofs.Cited.{AreSeen}
use Rattle.fork_tasks.proofs.Surveyed.{Come, further, seen_step, seen_reads, reads_on, all_seen}
use Rattle.fork_tasks.proofs.surveying.survey_files.Goals as goal

pub loop-file-preserved : goal.loop-file-preserved
loop-file-preserved g c =
    let i : ℕ = c.loop-file.file-index in
    let x : List ℕ = string_bytes c.file-item.result in
    let more : List (List ℕ) = map string_bytes (drop (i + 1) c.args.files.now) in
    let split : map string_bytes (drop i c.args.files.now) ≡ x ∷ more = grind (arith, common_steps) in
    let come = subst (λ l. Come AreSeen c.args.why (map string_bytes c.args.files.now) l (g.H.Host.accesses c.args.host.now)
    (g.H.Host.accesses c.loop-file.host) c.args.lines.now.text.items c.loop-file.lines.text.items
    c.args.lines.now.good c.loop-file.lines.good) split c.loop-file.invariant.come in
    let seen = c.in_ok-survey_file.ensures.seen in
    let is = subst (λ path. IsSeen path seen.0) c.as_str.ensures.value seen.1 in
    record {
      silent = c.in_ok-survey_file.ensures.silent ∙ c.loop-file.invariant.silent;
      come = further AreSeen _ _ _ x _ _ _ _ _ _ _ _ _ (seen.0 ∷ []) come (seen_step x more seen.0 is)
          (seen_reads x seen.0 is) seen.2;
    }

pub returns-in_err-survey_file-clause-stopped : goal.returns-in_err-survey_file-clause-stopped
returns-in_err-survey_file-clause-stopped g c =
    let come = c.loop-file.invariant.come in
    on_err _ _ (reads_on _ _ _ come.accesses come.reads come.went.made c.in_err-survey_file.ensures.stopped)

pub returns-clause-seen : goal.returns-clause-seen
returns-clause-seen g c =
    let none : map string_bytes (drop c.loop-file.file-index c.args.files.now) ≡ [] = grind (arith, common_steps) in
    all_seen _ _ _ _ _ _ _ _ (subst (λ l. Come AreSeen c.args.why (map string_bytes c.args.files.now) l
    (g.H.Host.accesses c.args.host.now) (g.H.Host.accesses c.loop-file.host) c.args.lines.now.text.items
    c.loop-file.lines.text.items c.args.lines.now.good c.loop-file.lines.good) none c.loop-file.invariant.come)
