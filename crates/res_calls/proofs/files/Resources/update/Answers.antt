use Rattle.res_calls.proofs.Cited.{◌≡◌, ◌==◌, ◌∙◌, false, ap, map, arith, ne_eqb, Resources, view_open, resources_of}
use Rattle.res_calls.proofs.WritingAnew.{updated_open, reads_open}
use Rattle.res_calls.proofs.Soundness.Methods.{updated_in, number_missing}
use Rattle.res_calls.proofs.files.Resources.update.Goals as goal

pub returns-clause-answer : goal.returns-clause-answer
returns-clause-answer g c =
    let some : (c.args.number == 0) ≡ false = ne_eqb c.args.number 0 (λ e. omega (arith, e, c.if-number-eq0.false)) in
    rw (← c.self.view_is) (updated_open c.args.number c.in-Some.at (resources_of c.self.inside.files.items
    c.self.inside.chain.items c.self.inside.current c.self.inside.next c.self.inside.loading c.self.inside.purging c.self.inside.error)
    c.args.heap.now.memory c.self.inside.files.items c.update_at.new.files.items c.self.inside.chain.items
    c.update_at.new.chain.items c.update_at.result (rw c.deref.ensures.value at c.in-Some.ensures.found) some
    c.update_at.ensures.answer c.update_at.ensures.files c.update_at.ensures.chain)

pub returns-clause-read_again : goal.returns-clause-read_again
returns-clause-read_again g c =
    reads_open c.args.number c.in-Some.at c.args.self.now c.args.heap.now.memory.heap c.self.inside.chain.items
    c.update_at.result (ap (λ (r : Resources). r.chain) c.self.view_is)
    (rw c.deref.ensures.value at c.in-Some.ensures.found) c.update_at.ensures.read_again

pub invariant_of-self : goal.invariant_of-self
invariant_of-self g c =
    let some : (c.args.number == 0) ≡ false = ne_eqb c.args.number 0 (λ e. omega (arith, e, c.if-number-eq0.false)) in
    let r : Resources = resources_of c.self.inside.files.items c.self.inside.chain.items c.self.inside.current
    c.self.inside.next c.self.inside.loading c.self.inside.purging c.self.inside.error in
    updated_in c.args.number r c.args.heap.now.memory c.self.inside.files.items c.update_at.new.files.items
    c.self.inside.chain.items c.update_at.new.chain.items c.update_at.result c.self.invariant
    (updated_open c.args.number c.in-Some.at r c.args.heap.now.memory c.self.inside.files.items
    c.update_at.new.files.items c.self.inside.chain.items c.update_at.new.chain.items c.update_at.result
    (rw c.deref.ensures.value at c.in-Some.ensures.found) some c.update_at.ensures.answer c.update_at.ensures.files
    c.update_at.ensures.chain) c.update_at.ensures.files c.update_at.ensures.chain

pub returns-in_default-clause-answer : goal.returns-in_default-clause-answer
returns-in_default-clause-answer g c = number_missing c.args.number c.deref.result.now c.args.self.now
    (ap (map view_open) c.deref.ensures.value ∙ ap (λ (r : Resources). r.chain) c.self.view_is)
    c.in_default.ensures.found c.args.heap.now.memory _
