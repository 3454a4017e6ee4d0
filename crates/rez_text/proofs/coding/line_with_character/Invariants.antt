use Rattle.rez_text.proofs.Cited.{◌≡◌, ◌+◌, ◌≤◌, drop, line_with}
use Rattle.rez_text.proofs.coding.line_with_character.Given as goal

-- the line of the character among those that are still to come is its line in the whole text
abbrev pub invariant-loop-here : goal.invariant-loop-here
invariant-loop-here l = record {
  counted : l.line ≤ l.here-index + 1;
  rest : line_with l.character l.line l.last (drop l.here-index l.text) ≡ line_with l.character 1 0 l.text;
}
