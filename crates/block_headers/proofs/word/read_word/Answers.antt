use Rattle.block_headers.proofs.Cited.{rules, word_at}
use Rattle.block_headers.proofs.word.read_word.Goals as goal

pub returns : goal.returns
unfolding word_at
returns c = search rules
