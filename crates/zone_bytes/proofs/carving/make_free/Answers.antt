use Rattle.zone_bytes.proofs.Cited.{arith}
use Rattle.zone_bytes.proofs.Blocks.InPlace.{bounds, even, freed}
use Rattle.zone_bytes.proofs.carving.make_free.Goals as goal

pub write_word-requires : goal.write_word-requires
write_word-requires c = (omega (arith, even), omega (arith, even, bounds))

pub returns-clause-lies : goal.returns-clause-lies
returns-clause-lies c = λ z h. rw c.write_word.ensures.bytes (freed z _ _ _ h).0

pub returns-clause-outside : goal.returns-clause-outside
returns-clause-outside c = rw c.write_word.ensures.bytes (freed _ _ _ _ c.requires.1).1
