use Rattle.heap_calls.proofs.Cited.{◌≡◌, ◌<◌, subst, ap, ◌∙◌, count, is_masters, rename, tidy, tidy-rename, Memory, handle_number}
use Rattle.heap_calls.proofs.Cited.{pointer_number}
use Rattle.heap_calls.proofs.Numbering.Changing.{some-masters}
use Rattle.heap_calls.proofs.Tries.Counting.{try_few}
use Rattle.heap_calls.proofs.Numbering.Memories.{memory_as}
use Rattle.heap_calls.proofs.laws.a_heap_searches_few_times.Goals as goal

pub returns-clause-masters : goal.returns-clause-masters
returns-clause-masters g c =
    let a = c.heap.inside in
    let P : Memory → Type 0 = λ m. 0 < count is_masters m.heap.zone in
    subst P (memory_as c.heap.view_is) (some-masters (g.S.BlockStore.zone a.store) (g.S.BlockStore.rest a.store)
    a.names.items
    c.heap.invariant (g.met.S.BlockStore.masters a.store))

pub returns-clause-tidied : goal.returns-clause-tidied
returns-clause-tidied g c =
    let a = c.heap.inside in
    let f = handle_number a.names.items in
    let h = pointer_number a.names.items in
    let P : Memory → Type 0 = λ m. tidy m.heap.zone ≡ m.heap.zone in
    subst P (memory_as c.heap.view_is) (tidy-rename f h (g.S.BlockStore.zone a.store)
    ∙ ap (rename f h) (g.met.S.BlockStore.tidied a.store))

pub returns-clause-searches : goal.returns-clause-searches
returns-clause-searches g c =
    let a = c.heap.inside in
    let P : Memory → Type 0 = λ m. 0 < count is_masters m.heap.zone in
    λ asked. try_few asked c.args.heap.now.memory (subst P (memory_as c.heap.view_is) (some-masters (g.S.BlockStore.zone
    a.store)
    (g.S.BlockStore.rest a.store) a.names.items c.heap.invariant (g.met.S.BlockStore.masters a.store)))
