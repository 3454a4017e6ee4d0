use Rattle.res_calls.proofs.Cited.{◌+◌, rules, ◌∙◌, ◌≡◌, sym, List, map, ◌++◌, drop, Filling, wanted_as, view_lent, wanted_of}
use Rattle.res_calls.proofs.Preloads.{wanted_here, wanted_on}
use Rattle.res_calls.proofs.preloading.gather.Goals.{then-is_read_first+in_ok-push, else-is_read_first}
use Rattle.res_calls.proofs.preloading.gather.Goals as goal

pub loop-i-preserved : goal.loop-i-preserved
loop-i-preserved c =
    let entry = view_lent c.reference-entry.result in
    let P : List Filling → Type 0 = λ l. map wanted_as l ++ wanted_of (drop (c.loop-i.i + 1) c.args.file.now.references)
    ≡ wanted_of c.args.file.now.references in
    elim c.if-is_read_first.branch [
      | then-is_read_first+in_ok-push w ↦ rw w.wanted-is (wanted_here c.args.file.now.references c.loop-i.i entry
          w.fill_of.result c.loop-i.wanted.items _ _ c.reference-entry.ensures
          (sym c.is_read_first.ensures ∙ w.if-is_read_first.true) w.fill_of.ensures (search rules) c.loop-i.invariant)
      | else-is_read_first w ↦ rw w.wanted-is (wanted_on c.args.file.now.references c.loop-i.i entry
          c.loop-i.wanted.items _ c.reference-entry.ensures (sym c.is_read_first.ensures ∙ w.if-is_read_first.false)
          c.loop-i.invariant)
    ]
