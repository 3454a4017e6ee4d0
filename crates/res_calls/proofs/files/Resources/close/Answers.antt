use Rattle.res_calls.proofs.Cited.{◌≡◌, ◌==◌, ◌∙◌, false, refl, arith, ap, map, subst, ne_eqb, IsAnswered, managers, close_res_file}
use Rattle.res_calls.proofs.Cited.{Resources, view_open, resources_of}
use Rattle.std.specs.Prelude.{Ok, Err}
use Rattle.res_calls.proofs.LettingGo.{closed_seen, close_refused}
use Rattle.res_calls.proofs.Soundness.Calls.{Sound_in, close_res_file_sound}
use Rattle.res_calls.proofs.Soundness.Methods.{number_missing, system_stays}
use Rattle.res_calls.proofs.WritingAnew.{reads_open}
use Rattle.res_calls.proofs.files.Resources.close.Goals as goal

pub returns-in-Err-clause-answer : goal.returns-in-Err-clause-answer
returns-in-Err-clause-answer g c =
    let some : (c.args.number == 0) ≡ false = ne_eqb c.args.number 0 (λ e. omega (arith, e, c.if-number-eq0.false)) in
    subst (λ (q : Resources). IsAnswered (λ (u : Unit {0}). u)
    (close_res_file c.args.number (managers q c.args.heap.now.memory)) (Err c.in-Err.refusal) (managers (resources_of
    c.update_at.new.files.items c.update_at.new.chain.items c.self.inside.current c.self.inside.next
    c.self.inside.loading c.self.inside.purging c.self.inside.error) c.args.heap.now.memory)) c.self.view_is
    (close_refused c.args.number
    c.in-Some.at (resources_of c.self.inside.files.items c.self.inside.chain.items c.self.inside.current
    c.self.inside.next c.self.inside.loading c.self.inside.purging c.self.inside.error)
    c.self.inside.files.items c.update_at.new.files.items c.self.inside.chain.items c.update_at.new.chain.items
    c.args.heap.now.memory c.in-Err.refusal (rw c.deref.ensures.value at c.in-Some.ensures.found) some
    c.in-Err.ensures.answer (c.in-Err.ensures.files refl) (c.in-Err.ensures.chain refl))

pub returns-clause-answer : goal.returns-clause-answer
returns-clause-answer g c =
    let some : (c.args.number == 0) ≡ false = ne_eqb c.args.number 0 (λ e. omega (arith, e, c.if-number-eq0.false)) in
    rw (← c.self.view_is, c.current_after-self-inside.ensures) (closed_seen c.args.number c.in-Some.at
    c.take_out-removed.result.older (resources_of c.self.inside.files.items c.self.inside.chain.items
    c.self.inside.current c.self.inside.next c.self.inside.loading c.self.inside.purging c.self.inside.error) c.self.inside.files.items
    c.update_at.new.files.items c.self.inside.chain.items c.update_at.new.chain.items
    c.take_out-removed.new.chain.items (view_open c.take_out-removed.result.file) c.args.heap.now.memory
    c.release_all.new.heap.memory (rw c.deref.ensures.value at c.in-Some.ensures.found) some
    c.in-Ok.ensures.answer c.take_out-removed.ensures.file c.take_out-removed.ensures.older
    c.take_out-removed.ensures.chain c.release_all.ensures.released)

pub returns-clause-read_again : goal.returns-clause-read_again
returns-clause-read_again g c =
    reads_open c.args.number c.in-Some.at c.args.self.now c.args.heap.now.memory.heap c.self.inside.chain.items
    (Ok tt) (ap (λ (r : Resources). r.chain) c.self.view_is)
    (rw c.deref.ensures.value at c.in-Some.ensures.found) c.in-Ok.ensures.read_again

pub returns-in_default-clause-answer : goal.returns-in_default-clause-answer
returns-in_default-clause-answer g c = number_missing c.args.number c.deref.result.now c.args.self.now
    (ap (map view_open) c.deref.ensures.value ∙ ap (λ (r : Resources). r.chain) c.self.view_is)
    c.in_default.ensures.found c.args.heap.now.memory _

pub returns-then-number-eq0-clause-answer : goal.returns-then-number-eq0-clause-answer
returns-then-number-eq0-clause-answer g c = system_stays c.args.number c.in-Some.at c.deref.result.now c.args.self.now
    (ap (map view_open) c.deref.ensures.value ∙ ap (λ (r : Resources). r.chain) c.self.view_is)
    c.in-Some.ensures.found c.if-number-eq0.true c.args.heap.now.memory

pub invariant_of-self-2 : goal.invariant_of-self-2
invariant_of-self-2 g c =
    let some : (c.args.number == 0) ≡ false = ne_eqb c.args.number 0 (λ e. omega (arith, e, c.if-number-eq0.false)) in
    let r : Resources = resources_of c.self.inside.files.items c.self.inside.chain.items c.self.inside.current
    c.self.inside.next c.self.inside.loading c.self.inside.purging c.self.inside.error in
    rw (c.current_after-self-inside.ensures) (subst Sound_in (closed_seen c.args.number c.in-Some.at
    c.take_out-removed.result.older r c.self.inside.files.items c.update_at.new.files.items c.self.inside.chain.items
    c.update_at.new.chain.items c.take_out-removed.new.chain.items (view_open c.take_out-removed.result.file)
    c.args.heap.now.memory c.release_all.new.heap.memory (rw c.deref.ensures.value at c.in-Some.ensures.found) some
    c.in-Ok.ensures.answer c.take_out-removed.ensures.file c.take_out-removed.ensures.older
    c.take_out-removed.ensures.chain c.release_all.ensures.released).1
    (close_res_file_sound c.args.number (managers r c.args.heap.now.memory) c.self.invariant))
