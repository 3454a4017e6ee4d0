use Rattle.rez_statements.proofs.Lasts.{found, found-none, found-nowhere}
use Rattle.rez_statements.proofs.table.Types.in_force.Goals as goal

pub returns-in-Some-get : goal.returns-in-Some-get
returns-in-Some-get c =
    found c.args.kind c.in-Some.place c.args.self.now.list.items c.deref.result.now c.in-Some-get.declared.now
    c.in-Some.ensures c.deref.ensures.value c.in-Some-get.ensures.lookup.3.0 c.in-Some-get.ensures.lookup.1

pub returns-in-None-get : goal.returns-in-None-get
returns-in-None-get c =
    found-nowhere c.args.kind c.in-Some.place c.args.self.now.list.items c.deref.result.now c.in-Some.ensures
    c.deref.ensures.value c.in-None-get.ensures.lookup.3

pub returns-in-None : goal.returns-in-None
returns-in-None c = found-none c.args.kind c.args.self.now.list.items c.in-None.ensures
