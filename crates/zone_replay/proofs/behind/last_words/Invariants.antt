use Rattle.zone_replay.proofs.Cited.{◌≡◌, drop, [], last_words}
use Rattle.zone_replay.proofs.behind.last_words.Given as goal

-- the words so far, and what is still to be read
abbrev pub invariant-loop-byte : goal.invariant-loop-byte
invariant-loop-byte l = last_words l.words.items l.left (drop l.byte-index l.text) ≡ last_words [] 3 l.text
