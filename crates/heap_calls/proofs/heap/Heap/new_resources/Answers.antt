use Rattle.heap_calls.proofs.Cited.{ℕ, List, inl, inr, ◌≡◌, ◌∙◌, ap, map, subst, on_ok_weaker, on_err_weaker, on_err, Block, Rest, Anchor}
use Rattle.heap_calls.proofs.Cited.{Log, Memory, all_gone, new_all, MadeSome, wanted_as, memory_of}
use Rattle.heap_calls.proofs.Hearing.{hears-if-on-ok}
use Rattle.heap_calls.proofs.Filled.Several.{stops-first}
use Rattle.heap_calls.proofs.Numbering.Memories.{memory_as}
use Rattle.heap_calls.proofs.heap.Heap.new_resources.Goals as goal

-- a memory for whose numbers room was reserved, once the count of reserved numbers is what it was
back : (zone : List Block) (rest : Rest) (es : List Anchor) (log : Log) (old mid : Memory) (kept more : ℕ)
    → memory_of zone rest es log ≡ mid → mid ≡ record old { log = record old.log { reserved = more } }
    → kept ≡ old.log.reserved → memory_of zone rest es (record log { reserved = kept }) ≡ old
back zone rest es log old mid kept more is reserves same =
    ap (λ (m : Memory). record m { log = record m.log { reserved = kept } }) (is ∙ reserves)
    ∙ ap (λ (n : ℕ). record old { log = record old.log { reserved = n } }) same

pub returns-in_err-reserve-2-clause-host : goal.returns-in_err-reserve-2-clause-host
returns-in_err-reserve-2-clause-host g c host = inr (inl c.in_err-reserve-2.ensures.unchanged)

pub returns-clause-answer : goal.returns-clause-answer
returns-clause-answer g c =
    let a = c.self-2.inside in
    let now : Memory = memory_of (g.S.BlockStore.zone c.add_resources.new.store)
    (g.S.BlockStore.rest c.add_resources.new.store) c.add_resources.new.names.items c.add_resources.new.log in
    on_ok_weaker c.add_resources.result
    (subst (λ (m : Memory). new_all (map wanted_as c.args.wanted.now) m ≡ (c.add_resources.new.numbers.items, now))
    (back (g.S.BlockStore.zone a.store) (g.S.BlockStore.rest a.store) a.names.items a.log c.args.self.now.memory
    c.reserve-2.new.self.memory c.self.inside.log.reserved _ (memory_as c.self-2.view_is)
    (memory_as c.in_ok-reserve-2.ensures.kept)
    (ap (λ (m : Memory). m.log.reserved) (memory_as c.self.view_is)))) c.add_resources.ensures.answer

pub returns-clause-hears : goal.returns-clause-hears
returns-clause-hears g c =
    let a = c.self-2.inside in
    let K = g.K.PurgeSink in
    let same = back (g.S.BlockStore.zone a.store) (g.S.BlockStore.rest a.store) a.names.items a.log
    c.args.self.now.memory c.reserve-2.new.self.memory c.self.inside.log.reserved _ (memory_as c.self-2.view_is)
    (memory_as c.in_ok-reserve-2.ensures.kept) (ap (λ (m : Memory). m.log.reserved) (memory_as c.self.view_is)) in
    hears-if-on-ok K.told K.waits K.listens c.add_resources.result _ _ c.args.sink.now c.add_resources.new.sink
    (ap (λ (m : Memory). all_gone (map wanted_as c.args.wanted.now) m) same) c.add_resources.ensures.told
    c.add_resources.ensures.rests

pub returns-clause-untold : goal.returns-clause-untold
returns-clause-untold g c =
    let a = c.self-2.inside in
    let now : Memory = memory_of (g.S.BlockStore.zone c.add_resources.new.store)
    (g.S.BlockStore.rest c.add_resources.new.store) c.add_resources.new.names.items c.add_resources.new.log in
    on_err_weaker c.add_resources.result (λ left. elim left [
      | inl takes ↦ inl takes
      | inr stops ↦ inr (subst (λ (m : Memory). MadeSome g.K.PurgeSink.told (map wanted_as c.args.wanted.now) m
          c.add_resources.new.numbers.items now c.args.sink.now c.add_resources.new.sink)
          (back (g.S.BlockStore.zone a.store) (g.S.BlockStore.rest a.store) a.names.items a.log c.args.self.now.memory
          c.reserve-2.new.self.memory c.self.inside.log.reserved _ (memory_as c.self-2.view_is)
          (memory_as c.in_ok-reserve-2.ensures.kept)
          (ap (λ (m : Memory). m.log.reserved) (memory_as c.self.view_is))) stops)
    ]) c.add_resources.ensures.left

pub returns-in_err-reserve-2-clause-untold : goal.returns-in_err-reserve-2-clause-untold
returns-in_err-reserve-2-clause-untold g c =
    on_err c.from_residual-in_err-reserve-2.result _ (inr (stops-first g.K.PurgeSink.told c.args.wanted.now
    c.args.self.now.memory _ c.reserve.new.self.items c.args.sink.now c.in_err-reserve-2.ensures.some
    (c.in_ok-reserve.ensures.items ∙ c.clear.ensures.items) (memory_as c.in_err-reserve-2.ensures.unchanged)))
