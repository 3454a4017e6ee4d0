use Rattle.heap_calls.proofs.Cited.{◌≡◌, ◌+◌, ℕ, sym, ◌∙◌, ap, refl, Option, arith, List, false, inr, rules, has_room, purge, nothing}
use Rattle.heap_calls.proofs.Cited.{silent, searching, blocks_purged, purge_mem, memory_of, purged, counted, sized_reply}
use Rattle.heap_calls.proofs.Cited.{err_from_is_err_and, purge_mem_searches, Anchor, Hears, purge_mem_gone, KeepsNames, gone_from}
use Rattle.heap_calls.proofs.Numbering.PurgeTrials.{searching-done, blocks_purged-few, purge_mem-done}
use Rattle.heap_calls.proofs.Numbering.PurgeTrials.{purge_mem_searches-is}
use Rattle.block_store.specs.declared.sparing.Sparing.TheVariants as sparing
use Rattle.heap_calls.proofs.Numbering.Changing.{agrees-same, heap-same}
use Rattle.heap_calls.proofs.Room.Staying.{nonrelocatable-purged, nonrelocatable-same, nonrelocatable-then}
use Rattle.heap_calls.proofs.Numbering.Memories.{memory_as, reply-as}
use Rattle.heap_calls.proofs.Hearing.{stops-halted, hears-as}
use Rattle.heap_calls.proofs.GoneBlocks.{told-all}
use Rattle.heap_calls.proofs.heap.Heap.purge_for.Given.{Over}
use Rattle.heap_calls.proofs.heap.Heap.purge_for.Goals.{After-account}
use Rattle.heap_calls.proofs.heap.Heap.purge_for.Goals as goal

pub overflow_add-purges : goal.overflow_add-purges
overflow_add-purges g c =
    let zone = g.S.BlockStore.zone c.self.inside.store in
    omega (
      arith,
      c.purges_for-purges.ensures,
      blocks_purged-few c.phys-bytes.result zone,
      g.met.S.BlockStore.small c.self.inside.store,
    )

-- what the call answers where the host has memory
told : (g : Over) (c : After-account g) → searching (purge_mem_searches c.args.size c.args.self.now.memory.heap)
    (silent (purge_mem c.args.size) c.args.self.now.memory) ≡ (c.account.result, c.account.new.self.memory)
told g c =
    let a = c.self.inside in
    let zone = g.S.BlockStore.zone a.store in
    let rest = g.S.BlockStore.rest a.store in
    let zone' = g.S.BlockStore.zone c.purge_telling.new.store in
    let rest' = g.S.BlockStore.rest c.purge_telling.new.store in
    let es = a.names.items in
    let n = c.args.size in
    let served = c.has_room-served.result in
    let many : c.purges_for-purges.result ≡ blocks_purged _ zone =
    c.purges_for-purges.ensures ∙ ap (λ (p : Option ℕ). blocks_purged p zone) c.phys-bytes.ensures in
    rw (c.account.ensures.reply, c.account.ensures.counted)
    (searching-done _ _ (silent (purge_mem n) c.args.self.now.memory) (sized_reply served) (memory_of zone' rest' es a.log)
    (memory_of zone' rest' es (record a.log { searches = counted a.log.searches (c.purges_for-purges.result + 1) }))
    (purge_mem-done c.args.self.now.memory n zone zone' rest rest' es a.log served (memory_as c.self.view_is)
    (c.in_ok-purge_telling.ensures.zone ∙ ap (λ k. purge k nothing zone) many) c.purge_telling.ensures.rest
    (c.has_room-served.ensures ∙ ap (λ (p : Option ℕ). has_room p zone') c.phys-bytes.ensures))
    (purge_mem_searches-is c.args.self.now.memory n zone rest es a.log (memory_as c.self.view_is)
    ∙ ap (λ k. k + 1) (sym many)) refl)

pub returns-in_err-account-clause-answer : goal.returns-in_err-account-clause-answer
returns-in_err-account-clause-answer g c =
    let p = err_from_is_err_and c.from_residual-in_err-account.result c.from_residual-in_err-account.ensures.1 in
    rw (p.1, p.2) (reply-as (told g (goal.at.returns-in_err-account-clause-answer g c).After-account)
    c.in_err-account.was)

pub returns-clause-answer : goal.returns-clause-answer
returns-clause-answer g c =
    reply-as (told g (goal.at.returns-clause-answer g c).After-account) c.in_ok-account.was

pub invariant_of-self-2 : goal.invariant_of-self-2
invariant_of-self-2 g c =
    let a = c.self.inside in
    let zone = g.S.BlockStore.zone a.store in
    let zone' = g.S.BlockStore.zone c.purge_telling.new.store in
    let purges = c.purges_for-purges.result in
    agrees-same zone zone' (g.S.BlockStore.rest a.store) (g.S.BlockStore.rest c.purge_telling.new.store) a.names.items
    c.self.invariant
    (nonrelocatable-then zone (purged purges sparing.Nothing zone) zone' (nonrelocatable-purged purges sparing.Nothing zone)
    (nonrelocatable-same (purged purges sparing.Nothing zone) zone' c.in_ok-purge_telling.ensures.zone)) c.purge_telling.ensures.rest

pub returns-in_err-purge_telling-clause-stops : goal.returns-in_err-purge_telling-clause-stops
returns-in_err-purge_telling-clause-stops g c host =
    let a = c.self.inside in
    stops-halted false g.K.PurgeSink.told g.K.PurgeSink.listens KeepsNames _ _ c.args.self.now _
    c.args.sink.now _ (search rules)
    (heap-same (g.S.BlockStore.zone a.store) (g.S.BlockStore.zone c.purge_telling.new.store) (g.S.BlockStore.rest a.store)
    (g.S.BlockStore.rest c.purge_telling.new.store) a.names.items a.names.items a.log c.self.view_is refl)
    (inr c.in_err-purge_telling.ensures.halts)

-- what the sink hears
heard : (g : Over) (c : After-account g) → (done : Type 0)
    → Hears g.K.PurgeSink.told g.K.PurgeSink.waits g.K.PurgeSink.listens done
    (purge_mem_gone c.args.size c.args.self.now.memory.heap) c.args.sink.now c.purge_telling.new.sink
heard g c done =
    let a = c.self.inside in
    let zone = g.S.BlockStore.zone a.store in
    let rest = g.S.BlockStore.rest a.store in
    let es = a.names.items in
    let now = c.args.self.now.memory in
    let many = c.purges_for-purges.ensures ∙ ap (λ (p : Option ℕ). blocks_purged p zone) c.phys-bytes.ensures in
    let row = purge_mem_searches-is now c.args.size zone rest es a.log (memory_as c.self.view_is) in
    let same = ap (λ (e : List Anchor). gone_from e sparing.Nothing c.purges_for-purges.result zone) c.deref.ensures.value
    ∙ told-all now zone rest es a.log c.purges_for-purges.result _ (memory_as c.self.view_is)
    (omega (arith, many, row)) in
    hears-as g.K.PurgeSink.told g.K.PurgeSink.waits g.K.PurgeSink.listens _ _ _ _ _ _ (λ some. refl) same
    c.in_ok-purge_telling.ensures.hears

pub returns-in_err-account-clause-hears : goal.returns-in_err-account-clause-hears
returns-in_err-account-clause-hears g c = heard g (goal.at.returns-in_err-account-clause-hears g c).After-account _

pub returns-clause-hears : goal.returns-clause-hears
returns-clause-hears g c = heard g (goal.at.returns-clause-hears g c).After-account _
