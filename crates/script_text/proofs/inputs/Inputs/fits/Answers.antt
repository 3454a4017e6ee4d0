use Rattle.script_text.proofs.Cited.{map, ap, ◌∙◌, input_seen, may_follow}
use Rattle.script_text.proofs.JobKnown.{joins}
use Rattle.script_text.proofs.inputs.Inputs.fits.Goals as goal

pub returns : goal.returns
returns c =
    let i = input_seen c.args.input.now in
    c.fits.ensures ∙ joins c.self.inside.owners (map input_seen c.self.inside.items.items) i c.self.invariant
    ∙ ap (λ inputs. may_follow inputs i) c.self.view_is
