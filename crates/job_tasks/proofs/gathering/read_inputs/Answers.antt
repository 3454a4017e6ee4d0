use Rattle.job_tasks.proofs.Cited.{◌≡◌, ◌+◌, ◌∷◌, ◌++◌, [], ℕ, List, Err, take, drop, map, true, sym, ap, subst, ◌∙◌, arith, rules}
use Rattle.job_tasks.proofs.Cited.{common_steps, Input, input_seen, app_names, all_follow, gathered}
use Rattle.job_tasks.proofs.Inputs.{Come, further, stopped, ended}
use Rattle.job_tasks.proofs.Owners.{order_after, names_more}
use Rattle.job_tasks.proofs.gathering.read_inputs.Goals as goal

pub loop-input-preserved : goal.loop-input-preserved
loop-input-preserved g c =
    let i : ℕ = c.loop-input.input-index in
    let x : Input = input_seen c.input-item.result in
    let above : List Input = map input_seen (take i c.args.inputs.now) in
    let more : List Input = map input_seen (drop (i + 1) c.args.inputs.now) in
    let next : map input_seen (take (i + 1) c.args.inputs.now) ≡ above ++ x ∷ [] = grind (arith, common_steps) in
    let split : map input_seen (drop i c.args.inputs.now) ≡ x ∷ more = grind (arith, common_steps) in
    let order : all_follow above (x ∷ more) ≡ true = subst (λ l. all_follow above l ≡ true) split c.loop-input.invariant.order in
    let come = subst (λ l. Come (map input_seen c.args.inputs.now) l (g.H.Host.accesses c.args.host.now)
    (g.H.Host.accesses c.loop-input.host) (gathered c.loop-input.all)) split c.loop-input.invariant.come in
    let read = c.in_ok-add.ensures.given in
    record {
      silent = c.in_ok-add.ensures.silent ∙ c.loop-input.invariant.silent;
      names = c.in_ok-add.ensures.names
          ∙ ap (λ names. names ++ app_names (x ∷ [])) c.loop-input.invariant.names
          ∙ sym (names_more above x)
          ∙ ap app_names (sym next);
      order = subst (λ l. all_follow l more ≡ true) (sym next) (order_after above more x order);
      come = further _ _ _ _ _ _ _ _ read.0 come read.1 read.2;
    }

pub returns-in_err-add-clause-given : goal.returns-in_err-add-clause-given
returns-in_err-add-clause-given g c =
    let i : ℕ = c.loop-input.input-index in
    let x : Input = input_seen c.input-item.result in
    let more : List Input = map input_seen (drop (i + 1) c.args.inputs.now) in
    let split : map input_seen (drop i c.args.inputs.now) ≡ x ∷ more = grind (arith, common_steps) in
    let come = subst (λ l. Come (map input_seen c.args.inputs.now) l (g.H.Host.accesses c.args.host.now)
    (g.H.Host.accesses c.loop-input.host) (gathered c.loop-input.all)) split c.loop-input.invariant.come in
    let same : c.from_residual.result ≡ Err c.in_err-add.field-0.0 = search rules in
    let read = c.in_err-add.ensures.given in
    stopped gathered _ _ _ _ _ _ _ read.0 _ _ come read.1 same read.2

pub returns-clause-given : goal.returns-clause-given
returns-clause-given g c =
    let none : map input_seen (drop c.loop-input.input-index c.args.inputs.now) ≡ [] = grind (arith, common_steps) in
    ended _ _ _ _ (subst (λ l. Come (map input_seen c.args.inputs.now) l (g.H.Host.accesses c.args.host.now)
    (g.H.Host.accesses c.loop-input.host) (gathered c.loop-input.all)) none c.loop-input.invariant.come)
