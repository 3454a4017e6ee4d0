use Rattle.res_calls.proofs.Cited.{subst, to_z-of_z, Resources, noting, IsFetched, managers, fetch_wanted}
use Rattle.std.specs.Int.{w16}
use Rattle.res_calls.specs.declared.find.Within.TheVariants as within
use Rattle.res_calls.specs.declared.find.Wanted.TheVariants as wanted
use Rattle.res_calls.proofs.FetchGone.{told_current}
use Rattle.res_calls.proofs.files.Resources.get_resource.Goals as goal

pub returns-clause-answer : goal.returns-clause-answer
returns-clause-answer g c =
    let id = to_z-of_z w16 c.args.id c.ranges.id in
    subst (λ (r : Resources). IsFetched
    (noting (fetch_wanted (within.UpTo r.current) (wanted.Id c.args.ty c.args.id) r.loading)
    (managers c.args.self.now c.args.heap.now.memory)) c.fetch_wanted.result
    (managers c.fetch_wanted.new.self c.fetch_wanted.new.heap.memory))
    c.self.view_is (rw id at c.fetch_wanted.ensures.answer)

pub returns-clause-hears : goal.returns-clause-hears
returns-clause-hears g c = record {
  tells = λ some listens.
      told_current g.K.PurgeSink.told c.args.sink.now c.fetch_wanted.new.sink within.UpTo (wanted.Id c.args.ty c.args.id) _
      c.args.self.now c.args.heap.now.memory c.self.view_is (rw (to_z-of_z w16 c.args.id c.ranges.id) at
      c.fetch_wanted.ensures.hears.tells some listens);
  rests = c.fetch_wanted.ensures.hears.rests;
}
