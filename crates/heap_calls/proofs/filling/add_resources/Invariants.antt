use Rattle.heap_calls.proofs.Cited.{◌≡◌, ◌+◌, ◌≤◌, length, drop, map, vec_len, vec_capacity, Memory, IsIdle, wanted_as, Agrees, memory_of}
use Rattle.heap_calls.proofs.Filled.Several.{MadeSoFar}
use Rattle.heap_calls.proofs.filling.add_resources.Given as goal

-- as many were made as the loop has come to
abbrev pub invariant-loop-filling : goal.invariant-loop-filling
invariant-loop-filling g l =
    let now : Memory = memory_of (g.S.BlockStore.zone l.store) (g.S.BlockStore.rest l.store) l.names.items l.log in
    let start : Memory = memory_of (g.S.BlockStore.zone l.initial.store) (g.S.BlockStore.rest l.initial.store)
    l.initial.names.items l.initial.log in
    record {
      made : MadeSoFar g.K.PurgeSink.told (g.K.PurgeSink.listens l.initial.sink) l.filling-index
          (map wanted_as l.wanted) start l.numbers.items now l.initial.sink l.sink;
      agrees : Agrees (g.S.BlockStore.zone l.store) (g.S.BlockStore.rest l.store) l.names.items;
      room : vec_len l.names + length (drop l.filling-index l.wanted) ≤ vec_capacity l.names;
      numbers : vec_len l.numbers + length (drop l.filling-index l.wanted) ≤ vec_capacity l.numbers;
      idle : IsIdle g.K.PurgeSink.told g.K.PurgeSink.waits l.sink;
      listens : g.K.PurgeSink.listens l.sink ≡ g.K.PurgeSink.listens l.initial.sink;
      lies : (g.S.BlockStore.rest l.store).window ≡ (g.S.BlockStore.rest l.initial.store).window;
      capacity : vec_capacity l.names ≡ vec_capacity l.initial.names;
      reserved : l.log.reserved ≡ l.initial.log.reserved;
    }
