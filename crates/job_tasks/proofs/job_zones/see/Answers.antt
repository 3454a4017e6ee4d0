use Rattle.job_tasks.proofs.Cited.{◌≡◌, Ok, Err, map, subst, rules, job_seen, job_of, input_seen, message_of, system_path, source_given}
use Rattle.job_tasks.proofs.Cited.{Stated, Taken, IsJobFault, Misstated, told_err}
use Rattle.job_tasks.proofs.JobZones.{ungathered_zone, not_there, sees}
use Rattle.job_tasks.proofs.job_zones.see.Goals as goal

pub returns-in_err-text-clause-unseen : goal.returns-in_err-text-clause-unseen
returns-in_err-text-clause-unseen g c =
    let fault = c.in_err-text.field-0.0 in
    let same : c.from_residual-in_err-text.result ≡ Err fault = search rules in
    let text : c.deref.result.now ≡ c.in_ok-bytes.bytes.items = search rules in
    told_err _ _ _ same (Misstated c.in_ok-bytes.bytes.items c.in_ok-bytes.ensures.read
    (subst (λ t. IsJobFault c.args.asked.job.now t (message_of fault)) text c.in_err-text.ensures.fault))

pub returns-in_err-gathered-clause-unseen : goal.returns-in_err-gathered-clause-unseen
returns-in_err-gathered-clause-unseen g c =
    let same : c.from_residual-in_err-gathered.result ≡ Err c.in_err-gathered.field-0.0 = search rules in
    let states : job_of c.in_ok-bytes.bytes.items ≡ Ok (job_seen c.in_ok-text.text) = search rules in
    let stated : Stated =
    record { text = c.in_ok-bytes.bytes.items; lines = job_seen c.in_ok-text.text; states = states } in
    let h = c.in_err-gathered.ensures.given in
    told_err _ _ _ same (ungathered_zone c.args.asked stated h.0 _ _ _ _ c.in_ok-bytes.ensures.read h.1 h.2)

pub returns-clause-unseen : goal.returns-clause-unseen
returns-clause-unseen g c =
    let states : job_of c.in_ok-bytes.bytes.items ≡ Ok (job_seen c.in_ok-text.text) = search rules in
    let system : c.system_path-system.result.now ≡ system_path (map input_seen c.in_ok-text.text.inputs.items) =
    search rules in
    let h = c.in_ok-gathered.ensures.given in
    let taken : Taken = record {
      stated = record { text = c.in_ok-bytes.bytes.items; lines = job_seen c.in_ok-text.text; states = states };
      texts = h.0;
      job = c.in_ok-gathered.gathered.job;
      scripts = map (λ t. t.items) c.in_ok-gathered.gathered.scripts.items;
      sources = map source_given c.in_ok-gathered.gathered.sources.items;
      memory = c.in_ok-gathered.ensures.memory;
      events = c.in_ok-gathered.ensures.events;
      given = h.2;
    } in
    not_there c.args.asked _ taken _ _ _ (message_of c.in-Err.fault) system c.in_ok-bytes.ensures.read h.1
    c.in-Err.ensures.fault

pub returns-in-Ok-clause-sees : goal.returns-in-Ok-clause-sees
returns-in-Ok-clause-sees g c =
    let states : job_of c.in_ok-bytes.bytes.items ≡ Ok (job_seen c.in_ok-text.text) = search rules in
    let h = c.in_ok-gathered.ensures.given in
    let taken : Taken = record {
      stated = record { text = c.in_ok-bytes.bytes.items; lines = job_seen c.in_ok-text.text; states = states };
      texts = h.0;
      job = c.in_ok-gathered.gathered.job;
      scripts = map (λ t. t.items) c.in_ok-gathered.gathered.scripts.items;
      sources = map source_given c.in_ok-gathered.gathered.sources.items;
      memory = c.in_ok-gathered.ensures.memory;
      events = c.in_ok-gathered.ensures.events;
      given = h.2;
    } in
    sees c.args.asked c.in-Ok.text.items taken _ _ _ c.in_ok-bytes.ensures.read h.1 c.in-Ok.ensures.zone
