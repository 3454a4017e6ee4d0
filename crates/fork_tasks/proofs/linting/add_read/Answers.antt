use Rattle.fork_tasks.proofs.Cited.{on_ok_weaker, types_of}
use Rattle.fork_tasks.specs.declared.linting.TextKind.TheVariants as kind
use Rattle.fork_tasks.proofs.Linted.{text_linted, text_clean}
use Rattle.fork_tasks.proofs.linting.add_read.Goals as goal

pub returns-in-Script-clause-text : goal.returns-in-Script-clause-text
returns-in-Script-clause-text c = on_ok_weaker c.add_script.result (λ h. text_linted c.args.asked (types_of c.args.types.now) kind.Script
    c.args.path.now c.args.bytes.now _ _ c.in-Script.ensures h) c.add_script.ensures.text

pub returns-in-Script-clause-clean : goal.returns-in-Script-clause-clean
returns-in-Script-clause-clean c = on_ok_weaker c.add_script.result (λ h. text_clean c.args.asked (types_of c.args.types.now) kind.Script
    c.args.path.now c.args.bytes.now _ _ c.in-Script.ensures h) c.add_script.ensures.clean

pub returns-in-Job-clause-text : goal.returns-in-Job-clause-text
returns-in-Job-clause-text c = on_ok_weaker c.add_job.result (λ h. text_linted c.args.asked (types_of c.args.types.now) kind.Job
    c.args.path.now c.args.bytes.now _ _ c.in-Job.ensures h) c.add_job.ensures.text

pub returns-in-Job-clause-clean : goal.returns-in-Job-clause-clean
returns-in-Job-clause-clean c = on_ok_weaker c.add_job.result (λ h. text_clean c.args.asked (types_of c.args.types.now) kind.Job
    c.args.path.now c.args.bytes.now _ _ c.in-Job.ensures h) c.add_job.ensures.clean

pub returns-in-Source-clause-text : goal.returns-in-Source-clause-text
returns-in-Source-clause-text c = on_ok_weaker c.add_source.result (λ h. text_linted c.args.asked (types_of c.args.types.now) kind.Source
    c.args.path.now c.args.bytes.now _ _ c.in-Source.ensures h) c.add_source.ensures.text

pub returns-in-Source-clause-clean : goal.returns-in-Source-clause-clean
returns-in-Source-clause-clean c = on_ok_weaker c.add_source.result (λ h. text_clean c.args.asked (types_of c.args.types.now) kind.Source
    c.args.path.now c.args.bytes.now _ _ c.in-Source.ensures h) c.add_source.ensures.clean
