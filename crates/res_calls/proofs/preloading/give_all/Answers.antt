use Rattle.res_calls.proofs.Cited.{rules, arith, ◌≡◌, ◌+◌, ◌∙◌, sym, subst, Map, ℕ, view_lent}
use Rattle.res_calls.proofs.Preloads.{IsGiven, given_here, given_on, given_none}
use Rattle.res_calls.proofs.preloading.give_all.Goals.{then-is_read_first, else-is_read_first}
use Rattle.res_calls.proofs.preloading.give_all.Goals as goal

pub loop-i-preserved : goal.loop-i-preserved
loop-i-preserved c =
    let entry = view_lent c.reference-entry.result in
    let P : Map → ℕ → Type 0 = λ f n. IsGiven c.args.file.now c.args.numbers.now (c.loop-i.i + 1) n f in
    elim c.if-is_read_first.branch [
      | then-is_read_first w ↦ subst (λ f. P f c.if-is_read_first.next) (sym w.file-is)
          (subst (P w.set_handle.new.self) (sym w.next-is) (given_here c.args.file.now c.loop-i.file
          w.set_handle.new.self c.loop-i.i c.loop-i.next entry c.args.numbers.now w.or-handle.result c.loop-i.invariant
          c.reference-entry.ensures (sym c.is_read_first.ensures ∙ w.if-is_read_first.true) (search rules)
          w.set_handle.ensures))
      | else-is_read_first w ↦ subst (λ f. P f c.if-is_read_first.next) (sym w.file-is)
          (subst (P c.loop-i.file) (sym w.next-is) (given_on c.args.file.now c.loop-i.file c.loop-i.i c.loop-i.next
          entry c.args.numbers.now c.loop-i.invariant c.reference-entry.ensures
          (sym c.is_read_first.ensures ∙ w.if-is_read_first.false)))
    ]

pub returns : goal.returns
returns c =
    let last : c.loop-i.i ≡ c.len-i-end.result = omega (arith, c.loop-i.auto.i-end, c.loop-i-test.false) in
    given_none c.args.file.now c.loop-i.file c.loop-i.i c.loop-i.next c.args.numbers.now c.loop-i.invariant
    (last ∙ c.len-i-end.ensures)
