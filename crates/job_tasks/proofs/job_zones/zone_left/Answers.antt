use Rattle.job_tasks.proofs.Cited.{rules, ◌≡◌, ◌<◌, Some, slice_get, length, sym, leaves_seen, outcome_seen, system_of, IsAlone, number_of}
use Rattle.job_tasks.proofs.Cited.{launched_at}
use Rattle.job_tasks.proofs.JobZones.{app_there, is_started, named_so}
use Rattle.job_tasks.proofs.job_zones.zone_left.Goals as goal

pub show_app-requires : goal.show_app-requires
show_app-requires c =
    let there : slice_get c.args.job.now.apps.items c.in-Some.number ≡ Some c.index.result.now =
    app_there c.args.job.now.apps.items c.in-Some.number c.index.result.now (search rules) (search rules) in
    is_started IsAlone (system_of c.args.job.now) c.args.job.now.apps.items (outcome_seen c.args.outcome.now).apps
    c.in-Some.number c.index.result.now (leaves_seen c.in-Some-launched_at.launched.now) there
    (sym c.in-Some-launched_at.ensures) c.requires

pub returns-clause-zone : goal.returns-clause-zone
returns-clause-zone c =
    let there : slice_get c.args.job.now.apps.items c.in-Some.number ≡ Some c.index.result.now =
    app_there c.args.job.now.apps.items c.in-Some.number c.index.result.now (search rules) (search rules) in
    let number : Some c.in-Some.number ≡ number_of c.args.asked.app.now c.args.job.now.apps.items = search rules in
    record {
      number = c.in-Some.number;
      app = c.index.result.now;
      launched = leaves_seen c.in-Some-launched_at.launched.now;
      named = named_so c.args.asked.app.now c.args.job.now.apps.items (outcome_seen c.args.outcome.now).apps
          c.in-Some.number (leaves_seen c.in-Some-launched_at.launched.now) number c.in-Some-launched_at.ensures;
      there = there;
      shown = c.in_ok-show_app.ensures;
    }
