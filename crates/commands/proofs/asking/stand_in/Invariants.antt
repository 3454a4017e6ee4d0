use Rattle.commands.proofs.Cited.{◌≤◌, drop, length, map, StandIn}
use Rattle.commands.proofs.asking.stand_in.Given as goal

-- where the texts that are not yet found are among the words to come, all are words
abbrev pub invariant-loop-word : goal.invariant-loop-word
invariant-loop-word l = record {
  few : l.found ≤ length l.texts;
  so_far : StandIn (map (λ w. w.now) (drop l.word-index l.words)) (map (λ t. t.now) (drop l.found l.texts))
      → StandIn (map (λ w. w.now) l.words) (map (λ t. t.now) l.texts);
}
