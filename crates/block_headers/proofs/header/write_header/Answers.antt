use Rattle.block_headers.proofs.Cited.{ap, ◌∙◌, ◌+◌, arith, written, word, header}
use Rattle.block_headers.proofs.Headers.{four_words}
use Rattle.block_headers.proofs.header.write_header.Goals as goal

pub returns-clause-bytes : goal.returns-clause-bytes
returns-clause-bytes c =
    let h = c.args.header in
    c.write_word-4.ensures.bytes
    ∙ ap (written (c.args.at + 12) (word h.flags)) (c.write_word-3.ensures.bytes
    ∙ ap (written (c.args.at + 8) (word h.slot)) (c.write_word-2.ensures.bytes
    ∙ ap (written (c.args.at + 4) (word h.logical)) c.write_word.ensures.bytes))
    ∙ four_words c.args.at (h.size + c.tag_code.result) h.logical h.slot h.flags c.args.part.now.bytes
    (omega (arith, c.requires.inside))
    ∙ ap (λ t.
    written c.args.at (header (h.size + t) h.logical h.slot h.flags) c.args.part.now.bytes) c.tag_code.ensures
