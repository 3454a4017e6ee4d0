use Rattle.script_text.proofs.Cited.{◌∙◌}
use Rattle.script_text.proofs.Allowed.{spoken_stands}
use Rattle.script_text.proofs.word.CallWord.of_one.Goals as goal

pub returns-clause-word : goal.returns-clause-word
returns-clause-word g c = spoken_stands c.args.self c.into_call.result _
    (c.into_call.ensures ∙ c.requires.made c.in_ok-a.a c.make.result c.make.ensures)
