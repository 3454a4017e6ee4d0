use Rattle.job_tasks.proofs.Cited.{◌≡◌, ◌-◌, ◌∙◌, Ok, Err, length, take, drop, map, ap, sym, subst, rules, message_of, IsStop, part_seen}
use Rattle.job_tasks.proofs.Cited.{forks_seen, with_parts, Misspelled, Unfound, told_err}
use Rattle.fork_tasks.specs.declared.fault.ToolFault.TheVariants.{HostMemory as NoMemory}
use Rattle.job_tasks.specs.Loading.{nothing_given}
use Rattle.job_tasks.proofs.Played.{first_of, others_count, unmade, is_taken}
use Rattle.job_tasks.proofs.playing.taken.Goals as goal

pub forks_given-requires : goal.forks_given-requires
forks_given-requires c =
    let parts : c.deref.result.now ≡ c.args.play.now.parts.items = search rules in
    others_count c.args.play.now c.args.texts.now c.requires ∙ ap length (sym parts)

-- the script is faulty
pub returns-in_err-script-in-len1-up-clause-fault : goal.returns-in_err-script-in-len1-up-clause-fault
returns-in_err-script-in-len1-up-clause-fault c =
    let same : c.from_residual.result ≡ Err c.in_err-script-in-len1-up.field-0.0 = search rules in
    told_err _ _ _ same (Misspelled _ _ (first_of (λ text. text.items) c.args.texts.now c.text-item.result _ c.as_slice.result.now
    c.in-len1-up.len_at_least c.text-item.is c.as_slice.ensures.value) c.in_err-script-in-len1-up.ensures.fault)

-- a wrapper is damaged
pub returns-in_err-forks-in-len1-up-clause-fault : goal.returns-in_err-forks-in-len1-up-clause-fault
returns-in_err-forks-in-len1-up-clause-fault c =
    let parts : c.deref.result.now ≡ c.args.play.now.parts.items = search rules in
    let same : c.from_residual-in_err-forks-in-len1-up.result ≡ Err c.in_err-forks-in-len1-up.field-0.0 = search rules in
    let split = first_of (λ text. text.items) c.args.texts.now c.text-item.result _ c.as_slice.result.now
    c.in-len1-up.len_at_least c.text-item.is c.as_slice.ensures.value in
    told_err _ _ _ same (Unfound _ _ split (subst (λ l. IsStop (with_parts nothing_given (map part_seen l)
    (map (λ text. text.items) (take (length c.args.texts.now - 1) (drop 1 c.args.texts.now))))
    (message_of c.in_err-forks-in-len1-up.field-0.0)) parts c.in_err-forks-in-len1-up.ensures))

-- there is no memory
pub returns-in_err-player-in-len1-up-clause-fault : goal.returns-in_err-player-in-len1-up-clause-fault
returns-in_err-player-in-len1-up-clause-fault c =
    let same : c.from_residual-in_err-player-in-len1-up.result ≡ Err NoMemory = search rules in
    told_err _ _ NoMemory same (unmade c.args.play.now (λ text. text.items) c.args.texts.now c.in-len1-up.len_at_least)

-- all is there
pub returns-clause-taken : goal.returns-clause-taken
returns-clause-taken c =
    let parts : c.deref.result.now ≡ c.args.play.now.parts.items = search rules in
    let split = first_of (λ text. text.items) c.args.texts.now c.text-item.result _ c.as_slice.result.now
    c.in-len1-up.len_at_least c.text-item.is c.as_slice.ensures.value in
    is_taken c.args.play.now _ _ _ _ _ _ (forks_seen c.in_ok-forks-in-len1-up.forks) _ split
    c.in_ok-script-in-len1-up.ensures.script c.in_ok-player-in-len1-up.ensures.script
    (subst (λ l. with_parts nothing_given (map part_seen l)
    (map (λ text. text.items) (take (length c.args.texts.now - 1) (drop 1 c.args.texts.now)))
    ≡ Ok (forks_seen c.in_ok-forks-in-len1-up.forks)) parts c.in_ok-forks-in-len1-up.ensures)
    c.in_ok-player-in-len1-up.ensures.system c.in_ok-player-in-len1-up.ensures.app c.in_ok-player-in-len1-up.ensures.sources
