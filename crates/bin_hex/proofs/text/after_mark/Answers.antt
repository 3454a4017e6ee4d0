use Rattle.bin_hex.proofs.Cited.{◌+◌, sym, ◌∙◌, ap, Some, ◌==◌, starts_with, take_rest, mark}
use Rattle.bin_hex.proofs.Finding.{mark_here, mark_later}
use Rattle.bin_hex.proofs.text.after_mark.Goals as goal

pub returns-then-starts_with-clause-found : goal.returns-then-starts_with-clause-found
returns-then-starts_with-clause-found c =
    mark_here c.args.bytes.now c.loop-at.at _ c.loop-at-test.true
    (ap (λ rest. starts_with ◌==◌ rest mark) (sym (take_rest c.args.bytes.now c.loop-at.at))
    ∙ sym c.starts_with.ensures.value ∙ c.if-starts_with.true) c.loop-at.invariant
    ∙ ap Some (sym (take_rest c.args.bytes.now (c.loop-at.at + 28)))

pub loop-at-preserved : goal.loop-at-preserved
loop-at-preserved c =
    mark_later c.args.bytes.now c.loop-at.at _ c.loop-at-test.true
    (ap (λ rest. starts_with ◌==◌ rest mark) (sym (take_rest c.args.bytes.now c.loop-at.at))
    ∙ sym c.starts_with.ensures.value ∙ c.if-starts_with.false) c.loop-at.invariant
