use Rattle.zone_marks.proofs.Cited.{sym, ap, ◌∙◌, subst, arith, rules, free_sum, AreOf, Lays, handle-fits, leads, emptied-is, leading}
use Rattle.zone_marks.proofs.Cited.{may-release, leading-is, leading-free, leading-replaced}
use Rattle.zone_marks.proofs.Marks.Keeping.{same-replaced}
use Rattle.zone_marks.proofs.freeing.free_slot.Goals as goal

pub read_word-word-requires : goal.read_word-word-requires
read_word-word-requires c = handle-fits _ _ _ c.requires.1

pub free_block-requires : goal.free_block-requires
free_block-requires c =
    let e = c.read_word-word.ensures in
    let f = leads c.requires.0 c.args.slot c.args.part.now.bytes c.requires.1 (omega arith) in (
      leading c.requires.0 c.args.slot c.args.part.now.bytes c.requires.1 f,
      may-release _ _ _ c.requires.1 f _ e,
      subst (AreOf c.args.marks.now) f.block.whole c.requires.2,
    )

pub returns-then-word-eq0-clause-lays : goal.returns-then-word-eq0-clause-lays
returns-then-word-eq0-clause-lays c = λ t h. let f = leads t c.args.slot c.args.part.now.bytes h (grind arith) in
    subst (λ k. Lays c.free_block.new.part.bytes k t.slots t.unused) (sym (leading-is t _ _ h f))
    (c.free_block.ensures.lays (leading t _ _ h f) (may-release t _ _ h f _ c.read_word-word.ensures))

pub returns-then-word-eq0-clause-bytes : goal.returns-then-word-eq0-clause-bytes
returns-then-word-eq0-clause-bytes c = λ t h. let f = leads t c.args.slot c.args.part.now.bytes h (search rules) in
    leading-free t _ _ h f _ (c.free_block.ensures.bytes (leading t _ _ h f) (grind arith))

pub returns-else-word-eq0-clause-lays : goal.returns-else-word-eq0-clause-lays
returns-else-word-eq0-clause-lays c = λ t h. subst (λ k. Lays c.args.part.now.bytes k t.slots t.unused)
    (sym (emptied-is t _ _ h (λ q. omega arith))) h.lays

pub returns-else-word-eq0-clause-bytes : goal.returns-else-word-eq0-clause-bytes
returns-else-word-eq0-clause-bytes c = λ t h. ap free_sum (emptied-is t _ _ h (λ q. omega arith)) ∙ (grind arith)

pub returns-then-word-eq0-clause-replaced : goal.returns-then-word-eq0-clause-replaced
returns-then-word-eq0-clause-replaced c = λ t h. let f = leads t c.args.slot c.args.part.now.bytes h (grind arith) in
    leading-replaced t _ _ h f _ _ (c.free_block.ensures.replaced (leading t _ _ h f) (grind arith))

pub returns-else-word-eq0-clause-replaced : goal.returns-else-word-eq0-clause-replaced
returns-else-word-eq0-clause-replaced c = λ t h. same-replaced _ _ (emptied-is t _ _ h (λ q. omega arith))
