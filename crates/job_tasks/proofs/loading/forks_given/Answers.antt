use Rattle.job_tasks.proofs.Cited.{◌≡◌, ◌+◌, ◌∷◌, ◌∙◌, [], ℕ, List, Err, drop, map, sym, ap, arith, rules, common_steps, message_of}
use Rattle.job_tasks.proofs.Cited.{AppFork, part_seen, forks_seen, with_parts}
use Rattle.job_tasks.proofs.Stops.{stop_given}
use Rattle.job_tasks.proofs.Loaded.{part_next, part_ends}
use Rattle.job_tasks.proofs.loading.forks_given.Goals as goal

-- a part more
pub loop-i-preserved : goal.loop-i-preserved
loop-i-preserved c =
    let i : ℕ = c.loop-i.i in
    let p : AppFork = part_seen c.index-parts-i.result in
    let bytes : List ℕ = c.index-texts-i.result.items in
    let more : List AppFork = map part_seen (drop (i + 1) c.args.parts.now) in
    let later : List (List ℕ) = map (λ text. text.items) (drop (i + 1) c.args.texts.now) in
    let first : map part_seen (drop i c.args.parts.now) ≡ p ∷ more = grind (arith, common_steps) in
    let text : map (λ text. text.items) (drop i c.args.texts.now) ≡ bytes ∷ later = grind (arith, common_steps) in
    part_next (forks_seen c.loop-i.forks) (forks_seen c.add_part.new.forks) p _ more bytes _ later _ first text
    (search rules) c.loop-i.invariant

-- a part whose fork is not found
pub returns-in_err-add_part : goal.returns-in_err-add_part
returns-in_err-add_part c =
    let i : ℕ = c.loop-i.i in
    let p : AppFork = part_seen c.index-parts-i.result in
    let bytes : List ℕ = c.index-texts-i.result.items in
    let more : List AppFork = map part_seen (drop (i + 1) c.args.parts.now) in
    let later : List (List ℕ) = map (λ text. text.items) (drop (i + 1) c.args.texts.now) in
    let first : map part_seen (drop i c.args.parts.now) ≡ p ∷ more = grind (arith, common_steps) in
    let text : map (λ text. text.items) (drop i c.args.texts.now) ≡ bytes ∷ later = grind (arith, common_steps) in
    let same : c.from_residual-in_err-add_part.result ≡ Err c.in_err-add_part.field-0.0 = search rules in
    stop_given forks_seen _ _ _ same (part_ends (forks_seen c.loop-i.forks) p _ more bytes _ later _
    (message_of c.in_err-add_part.field-0.0) first text (search rules) c.loop-i.invariant)

-- all parts are added
pub returns : goal.returns
returns c =
    let none : map part_seen (drop c.loop-i.i c.args.parts.now) ≡ [] = grind (arith, common_steps) in
    sym c.loop-i.invariant ∙ ap (λ l. with_parts (forks_seen c.loop-i.forks) l
    (map (λ text. text.items) (drop c.loop-i.i c.args.texts.now))) none
