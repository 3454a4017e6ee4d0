use Rattle.zone_marks.proofs.Cited.{◌≡◌, ◌+◌, sym, ap, ◌∙◌, arith, tag_number, size, Freeing, MayFree, kind, empty_word, tag-true}
use Rattle.zone_marks.proofs.Cited.{tag-small, here-read, may-make, other-lays, slot-fits, slot-lays, led, empty-number}
use Rattle.zone_marks.proofs.freeing.free_up.Goals.{After-read_header-header}
use Rattle.zone_marks.proofs.freeing.free_up.Goals as goal

pub read_header-header-requires : goal.read_header-header-requires
read_header-header-requires c = (here-read _ _ _ _ c.requires.1).may

-- what the header says of the block
says : (c : After-read_header-header) (f : Freeing) → MayFree f c.args.start c.args.at c.args.part.now.bytes
    → (c.read_header-header.result.size ≡ size f.here) × (tag_number c.read_header-header.result.tag ≡ kind f.here)
says c f m = let e = c.read_header-header.ensures in (here-read _ _ _ _ m).says _ _ e.first e.size (tag-small _)

top : (c : After-read_header-header) (f : Freeing) → MayFree f c.args.start c.args.at c.args.part.now.bytes
    → c.args.at + size f.here ≡ c.args.at + c.read_header-header.result.size
top c f m = ap (λ n. c.args.at + n) (sym (says c f m).0)

pub overflow_add-end : goal.overflow_add-end
overflow_add-end c = grind (arith, here-read, says)

pub make_free-requires : goal.make_free-requires
make_free-requires c = may-make _ _ _ _ c.requires.1 _ (grind (arith, top))

pub write_slot-requires-clause-within : goal.write_slot-requires-clause-within
write_slot-requires-clause-within c =
    let d = (goal.at.write_slot-requires-clause-within c).After-read_header-header in
    let m = c.requires.1 in
    let l = led _ _ _ _ m (sym (says d _ m).1 ∙ tag-true _ c.if-eq.ensures) in
    rw c.read_header-header.ensures.slot
    (slot-fits _ _ _ _ m _ (top d _ m) _ c.make_free.ensures.lies c.make_free.ensures.outside _ l.named)

pub returns-then-eq-clause-end : goal.returns-then-eq-clause-end
returns-then-eq-clause-end c = λ f m. sym (top (goal.at.returns-then-eq-clause-end c).After-read_header-header f m)

pub returns-then-eq-clause-lays : goal.returns-then-eq-clause-lays
returns-then-eq-clause-lays c = λ f m.
    let d = (goal.at.returns-then-eq-clause-lays c).After-read_header-header in
    let l = led _ _ _ _ m (sym (says d f m).1 ∙ tag-true _ c.if-eq.ensures) in
    let e = c.read_header-header.ensures in
    rw (c.write_slot.ensures.bytes, empty-number, c.has_resource_flag.ensures, e.slot, e.flags)
    (slot-lays _ _ _ _ m _ (top d f m) _ c.make_free.ensures.lies c.make_free.ensures.outside _ l.named _
    (ap empty_word l.flag))

pub returns-else-eq-clause-end : goal.returns-else-eq-clause-end
returns-else-eq-clause-end c = λ f m. sym (top (goal.at.returns-else-eq-clause-end c).After-read_header-header f m)

pub returns-else-eq-clause-lays : goal.returns-else-eq-clause-lays
returns-else-eq-clause-lays c = λ f m. let d = (goal.at.returns-else-eq-clause-lays c).After-read_header-header in
    let s = says d f m in
    other-lays _ _ _ _ m _ (top d f m) _ c.make_free.ensures.lies c.make_free.ensures.outside (grind arith)
