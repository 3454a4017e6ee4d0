use Rattle.job_tasks.proofs.Cited.{◌≡◌, Ok, Err, ap, map, refl, subst, rules, job_seen, job_of, input_seen, message_of, system_path}
use Rattle.job_tasks.proofs.Cited.{source_given, Stated, Taken, IsJobFault, told_err}
use Rattle.job_tasks.specs.Running.{Misstated}
use Rattle.job_tasks.proofs.Jobs.{ungathered, unnamed, unleft, runs}
use Rattle.job_tasks.proofs.running.run_job.Goals as goal

pub returns-in_err-text-clause-stopped : goal.returns-in_err-text-clause-stopped
returns-in_err-text-clause-stopped g c =
    let fault = c.in_err-text.field-0.0 in
    let same : c.from_residual-in_err-text.result ≡ Err fault = search rules in
    let text : c.deref.result.now ≡ c.in_ok-bytes.bytes.items = search rules in
    told_err _ _ _ same (Misstated c.in_ok-bytes.bytes.items refl c.in_ok-bytes.ensures.read
    (subst (λ t. IsJobFault c.args.errand.now.job.now t (message_of fault)) text c.in_err-text.ensures.fault))

pub returns-in_err-gathered-clause-stopped : goal.returns-in_err-gathered-clause-stopped
returns-in_err-gathered-clause-stopped g c =
    let same : c.from_residual-in_err-gathered.result ≡ Err c.in_err-gathered.field-0.0 = search rules in
    let states : job_of c.in_ok-bytes.bytes.items ≡ Ok (job_seen c.in_ok-text.text) = search rules in
    let stated : Stated =
    record { text = c.in_ok-bytes.bytes.items; lines = job_seen c.in_ok-text.text; states = states } in
    let h = c.in_err-gathered.ensures.given in
    told_err _ _ _ same (ungathered c.args.errand.now _ _ stated h.0 _ _ _ _ refl c.in_ok-bytes.ensures.read h.1 h.2)

pub returns-in_err-sized-clause-stopped : goal.returns-in_err-sized-clause-stopped
returns-in_err-sized-clause-stopped g c =
    let same : c.from_residual-in_err-sized.result ≡ Err c.in_err-sized.field-0.0 = search rules in
    let states : job_of c.in_ok-bytes.bytes.items ≡ Ok (job_seen c.in_ok-text.text) = search rules in
    let h = c.in_ok-gathered.ensures.given in
    let taken : Taken = record {
      stated = record { text = c.in_ok-bytes.bytes.items; lines = job_seen c.in_ok-text.text; states = states };
      texts = h.0;
      job = c.in_ok-gathered.gathered.job;
      scripts = map (λ t. t.items) c.in_ok-gathered.gathered.scripts.items;
      sources = map source_given c.in_ok-gathered.gathered.sources.items;
      memory = c.in_ok-gathered.ensures.memory;
      events = c.in_ok-gathered.ensures.events;
      given = h.2;
    } in
    told_err _ _ _ same
    (unnamed c.args.errand.now _ _ taken _ _ _ _ refl c.in_ok-bytes.ensures.read h.1 c.in_err-sized.ensures.fault)

pub returns-in_err-leave-clause-stopped : goal.returns-in_err-leave-clause-stopped
returns-in_err-leave-clause-stopped g c =
    let same : c.from_residual-in_err-leave.result ≡ Err c.in_err-leave.field-0.0 = search rules in
    let states : job_of c.in_ok-bytes.bytes.items ≡ Ok (job_seen c.in_ok-text.text) = search rules in
    let system : c.system_path-system.result.now ≡ system_path (map input_seen c.in_ok-text.text.inputs.items) =
    search rules in
    let h = c.in_ok-gathered.ensures.given in
    let taken : Taken = record {
      stated = record { text = c.in_ok-bytes.bytes.items; lines = job_seen c.in_ok-text.text; states = states };
      texts = h.0;
      job = c.in_ok-gathered.gathered.job;
      scripts = map (λ t. t.items) c.in_ok-gathered.gathered.scripts.items;
      sources = map source_given c.in_ok-gathered.gathered.sources.items;
      memory = c.in_ok-gathered.ensures.memory;
      events = c.in_ok-gathered.ensures.events;
      given = h.2;
    } in
    told_err _ _ _ same
    (unleft c.args.errand.now _ _ _ taken c.in_ok-sized.sized.job _ _ _ _ _ _ _ c.in_ok-sized.ensures.sized
    (ap (λ ts. map (λ t. t.items) ts.items) c.in_ok-sized.ensures.scripts)
    (ap (λ ss. map source_given ss.items) c.in_ok-sized.ensures.sources) system
    c.in_ok-bytes.ensures.read h.1 c.in_err-leave.ensures.unleft)

pub returns-clause-runs : goal.returns-clause-runs
returns-clause-runs g c =
    let states : job_of c.in_ok-bytes.bytes.items ≡ Ok (job_seen c.in_ok-text.text) = search rules in
    let h = c.in_ok-gathered.ensures.given in
    let taken : Taken = record {
      stated = record { text = c.in_ok-bytes.bytes.items; lines = job_seen c.in_ok-text.text; states = states };
      texts = h.0;
      job = c.in_ok-gathered.gathered.job;
      scripts = map (λ t. t.items) c.in_ok-gathered.gathered.scripts.items;
      sources = map source_given c.in_ok-gathered.gathered.sources.items;
      memory = c.in_ok-gathered.ensures.memory;
      events = c.in_ok-gathered.ensures.events;
      given = h.2;
    } in
    runs c.args.errand.now _ _ taken c.in_ok-sized.sized.job _ _ _ _ _ _ c.in_ok-sized.ensures.sized
    (ap (λ ts. map (λ t. t.items) ts.items) c.in_ok-sized.ensures.scripts)
    (ap (λ ss. map source_given ss.items) c.in_ok-sized.ensures.sources) c.in_ok-bytes.ensures.read h.1
    c.in_ok-leave.ensures.left
