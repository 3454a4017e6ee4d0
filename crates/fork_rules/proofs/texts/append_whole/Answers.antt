use Rattle.fork_rules.proofs.Cited.{◌∙◌, ◌++◌, ap, sym, form_text}
use Rattle.fork_rules.proofs.texts.append_whole.Goals as goal

pub returns : goal.returns
returns c = c.in_ok-append_form.ensures ∙ ap (λ k. c.args.text.now.items ++ form_text k c.args.bytes.now)
    (sym c.in_ok-content.ensures.content)
