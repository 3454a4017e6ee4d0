use Rattle.res_calls.proofs.Cited.{subst, Resources, noting, IsFetched, managers, fetch_wanted}
use Rattle.res_calls.specs.declared.find.Within.TheVariants as within
use Rattle.res_calls.specs.declared.find.Wanted.TheVariants as wanted
use Rattle.res_calls.proofs.FetchGone.{told_current}
use Rattle.res_calls.proofs.files.Resources.get_named_resource.Goals as goal

pub returns-clause-answer : goal.returns-clause-answer
returns-clause-answer g c =
    subst (λ (r : Resources). IsFetched
    (noting (fetch_wanted (within.UpTo r.current) (wanted.Named c.args.ty c.args.name) r.loading)
    (managers c.args.self.now c.args.heap.now.memory)) c.fetch_wanted.result
    (managers c.fetch_wanted.new.self c.fetch_wanted.new.heap.memory))
    c.self.view_is c.fetch_wanted.ensures.answer

pub returns-clause-hears : goal.returns-clause-hears
returns-clause-hears g c = record {
  tells = λ some listens.
      told_current g.K.PurgeSink.told c.args.sink.now c.fetch_wanted.new.sink within.UpTo (wanted.Named c.args.ty c.args.name) _
      c.args.self.now c.args.heap.now.memory c.self.view_is (c.fetch_wanted.ensures.hears.tells some listens);
  rests = c.fetch_wanted.ensures.hears.rests;
}
