use Rattle.zone_bytes.proofs.Cited.{◌≡◌, ◌+◌, refl, sym, ap, ◌∙◌, arith, written, piece, word, written-same}
use Rattle.zone_bytes.proofs.settling.move_block.Goals as goal
use Rattle.zone_bytes.proofs.settling.move_block.Goals.{Else-to-from}

-- where it stays
still : (c : Else-to-from)
    → written c.args.to (piece c.args.from c.args.size c.args.part.now.bytes) c.args.part.now.bytes
    ≡ c.args.part.now.bytes
still c =
    let a = c.args in
    let xs = a.part.now.bytes in
    ap (λ k. written k (piece a.from a.size xs) xs) (omega arith) ∙ written-same _ _ _ _ c.requires.inside refl

pub returns-then-gap-gt0-clause-bytes : goal.returns-then-gap-gt0-clause-bytes
returns-then-gap-gt0-clause-bytes c = grind (arith, still)

pub returns-else-gap-gt0-clause-bytes : goal.returns-else-gap-gt0-clause-bytes
returns-else-gap-gt0-clause-bytes c =
    let a = c.args in
    let xs = a.part.now.bytes in
    let slot : written a.slot (word (a.to + a.gap)) xs ≡ xs = ap (λ k. written a.slot (word k) xs) (omega arith)
    ∙ written-same _ 4 _ xs c.requires.slot.1 c.requires.leads in
    sym (grind (arith, still))
