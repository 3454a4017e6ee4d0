use Rattle.fork_rules.proofs.Cited.{ap, Err, view}
use Rattle.fork_rules.proofs.Forming.{on_ok, on_cond, formed, unformed}
use Rattle.fork_rules.proofs.texts.append_form.Goals as goal

pub returns-in-Ok : goal.returns-in-Ok
returns-in-Ok c = on_ok c.append_accepted.result (formed (view c.args.content.now) c.args.bytes.now
    c.args.text.now.items _ c.as_slice.result.now c.in-Ok.regions.items c.in-Ok.ensures.fits c.as_slice.ensures.value
    c.in-Ok.ensures.differences) c.append_accepted.ensures

pub returns-in-Err-TooLarge : goal.returns-in-Err-TooLarge
returns-in-Err-TooLarge c = on_ok c.extend_from_slice.result (unformed (view c.args.content.now) c.args.bytes.now
    c.args.text.now.items _ (c.in-Err-TooLarge.ensures.too_large.0 (ap Err c.in-Err-TooLarge.field-0-is)))
    (on_cond c.extend_from_slice.result c.extend_from_slice.new.self.items _ c.args.text.now.items
    c.extend_from_slice.ensures.items)
