use Rattle.res_calls.proofs.Cited.{◌∙◌, ap, map, List, replicate, view_group, Content, canon}
use Rattle.fork_format.specs.declared.content.Group.{Group}
use Rattle.res_calls.proofs.creating.empty_fork.Goals as goal

pub returns-in-Ok : goal.returns-in-Ok
returns-in-Ok c = c.in-Ok.ensures.fork ∙ ap (λ (l : List Group). canon (let d : Content =
    record { area = replicate 240 0; attrs = 0; groups = map view_group l } in d)) c.new.ensures.items
