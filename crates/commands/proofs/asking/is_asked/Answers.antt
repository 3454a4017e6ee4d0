use Rattle.commands.proofs.Cited.{◌∙◌, Some, sym, ap}
use Rattle.commands.proofs.Asked.{same_text, head_two}
use Rattle.commands.proofs.asking.is_asked.Goals as goal

-- the second word is the command's, and the others name all
pub returns-then-eq : goal.returns-then-eq
returns-then-eq c = λ names. record {
  program = _;
  command = _;
  rest = _;
  split = head_two c.args.words.now _ c.in-len2-up.len_at_least;
  commanded = sym c.in-Some.ensures ∙ ap Some (sym (same_text _ _ c.if-eq.ensures));
  named = c.names.ensures names;
}
