use Rattle.fork_commands.proofs.Cited.{◌≡◌, ◌++◌, ◌∙◌, ap, append_assoc, codes, fault_why}
use Rattle.fork_commands.proofs.states.append_lost.Goals as goal

pub returns : goal.returns
returns c =
    let said : c.extend_from_slice.new.self.items ≡ c.args.text.now.items ++ codes "wrapper damaged" =
    c.in_ok-extend_from_slice.ensures.items in
    c.in_ok-append_fault_why.ensures ∙ ap (λ l. l ++ fault_why c.args.fault.now) said
    ∙ append_assoc c.args.text.now.items (codes "wrapper damaged") (fault_why c.args.fault.now)
