use Rattle.block_headers.proofs.Cited.{◌≡◌, ◌+◌, ◌∙◌, ap, arith, word_at}
use Rattle.block_headers.proofs.Headers.{word_within}
use Rattle.block_headers.proofs.header.read_header.Goals.{After-word_in-first}
use Rattle.block_headers.proofs.header.read_header.Goals as goal

first : (c : After-word_in-first) → c.word_in-first.result ≡ word_at c.args.at c.args.part.now.bytes
first c =
    let here : c.args.at + 0 ≡ c.args.at = omega arith in
    word_within c.args.at 0 _ _ _ c.bytes_at-words.ensures.bytes c.word_in-first.ensures (omega arith)
    ∙ ap (λ at. word_at at c.args.part.now.bytes) here

pub tag_of-requires : goal.tag_of-requires
tag_of-requires c =
    let f = first (goal.at.tag_of-requires c).After-word_in-first in
    omega (arith, f, c.requires.tag)

pub returns-clause-first : goal.returns-clause-first
returns-clause-first c =
    let f = first (goal.at.returns-clause-first c).After-word_in-first in
    omega (arith, f, c.tag_of.ensures)

pub returns-clause-logical : goal.returns-clause-logical
returns-clause-logical c = word_within c.args.at 4 _ _ _ c.bytes_at-words.ensures.bytes c.word_in-logical.ensures
    (omega arith)

pub returns-clause-slot : goal.returns-clause-slot
returns-clause-slot c = word_within c.args.at 8 _ _ _ c.bytes_at-words.ensures.bytes c.word_in-slot.ensures
    (omega arith)

pub returns-clause-flags : goal.returns-clause-flags
returns-clause-flags c = word_within c.args.at 12 _ _ _ c.bytes_at-words.ensures.bytes c.word_in-flags.ensures
    (omega arith)
