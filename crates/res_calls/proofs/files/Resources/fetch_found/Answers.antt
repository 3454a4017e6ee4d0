use Rattle.res_calls.proofs.Cited.{resources_of}
use Rattle.res_calls.proofs.FetchGone.{told_at}
use Rattle.res_calls.proofs.Soundness.Methods.{fetched_in}
use Rattle.res_calls.proofs.files.Resources.fetch_found.Goals as goal

pub invariant_of-self : goal.invariant_of-self
invariant_of-self g c = fetched_in c.self.inside.chain.items c.fetch_in.new.files.items
    (resources_of c.self.inside.files.items c.self.inside.chain.items c.self.inside.current c.self.inside.next
    c.self.inside.loading c.self.inside.purging c.self.inside.error) c.args.self.now c.in-Some.at c.args.loading
    c.args.heap.now.memory
    c.fetch_in.new.heap.memory c.fetch_in.result c.self.invariant c.self.view_is
    (rw c.in-Some.is at c.requires.placed) c.fetch_in.ensures.answer (λ host. (c.fetch_in.ensures.stops host).rest)

pub returns-in-Some-clause-hears : goal.returns-in-Some-clause-hears
returns-in-Some-clause-hears g c = record {
  tells = λ some listens.
      told_at g.K.PurgeSink.told c.args.sink.now c.fetch_in.new.sink
      c.args.loading c.args.found c.in-Some.at _ c.args.self.now c.args.heap.now.memory c.in-Some.is c.self.view_is
      (rw c.in-Some.is at c.requires.placed) (λ u f e. c.fetch_in.ensures.told u f e some listens);
  rests = c.fetch_in.ensures.rests;
}
