use Rattle.zone_marks.proofs.Cited.{◌≤◌, ◌∙◌, ap, arith, subst, sym, is_relocatable, sizes, spot, Apart, apart-tidied, left-zone, led-place}
use Rattle.zone_marks.proofs.Cited.{led-slot, if-spot}
use Rattle.zone_marks.proofs.Searches.SlotRuns.{none-there, slot-run}
use Rattle.zone_marks.proofs.keeping.Landmarks.run_of.Goals as goal

pub search_on-requires-clause-begins : goal.search_on-requires-clause-begins
search_on-requires-clause-begins c = c.run_below-scan.ensures.piece.edge

pub returns : goal.returns
returns c =
    let xs = c.args.sound.now.part.bytes in
    let i = c.args.sound.now.sound in
    let k = c.run_below-scan.ensures in
    let zone = sym (left-zone xs) ∙ k.piece.is in
    let none = none-there (is_relocatable c.args.slot) k.done _ (subst Apart zone (apart-tidied _ i.tidied))
    (if-spot _ (λ s. sizes k.done ≤ sizes s.below) (λ s e.
    let f = ap (spot (is_relocatable c.args.slot)) zone ∙ e in
    let l = led-slot _ _ _ i c.args.slot s f in
    omega (arith, k.piece.up, k.low, led-place xs _ _ i c.args.slot s f, c.word_of_slot-place.ensures l.0 l.1))) in
    slot-run _ _ xs _ k c.args.slot c.args.bytes _ none i.tidied c.search_on.ensures
