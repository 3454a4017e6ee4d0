use Rattle.block_headers.proofs.Cited.{ap, ◌∙◌, written, word}
use Rattle.block_headers.proofs.word.write_word.Goals as goal

pub returns-clause-bytes : goal.returns-clause-bytes
unfolding word
returns-clause-bytes c = c.put_word.ensures.bytes
    ∙ ap (λ w. written c.args.at w c.args.part.now.bytes) c.write_u32.ensures
