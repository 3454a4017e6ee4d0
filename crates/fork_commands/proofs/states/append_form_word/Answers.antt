use Rattle.fork_commands.proofs.Cited.{view}
use Rattle.fork_commands.proofs.Stated.{word_of_content}
use Rattle.fork_commands.proofs.states.append_form_word.Goals as goal

pub returns : goal.returns
returns c = word_of_content (view c.in_ok-content.content) c.args.fork.now c.args.text.now.items _ c.in_ok-content.ensures
    c.in_ok-append_word_of.ensures
