use Rattle.res_calls.proofs.Cited.{rests-still, ap, map, ◌∙◌, Resources, view_file}
use Rattle.res_calls.proofs.OpeningForks.{open_already, open_anew}
use Rattle.res_calls.proofs.OpeningGone.{gone_missing, gone_already, gone_anew}
use Rattle.res_calls.proofs.Stopping.{stopped_anew}
use Rattle.res_calls.proofs.Soundness.Methods.{name_missing}
use Rattle.res_calls.proofs.files.Resources.open_named.Goals as goal

pub returns-in-Some-place_of_file-clause-answer : goal.returns-in-Some-place_of_file-clause-answer
returns-in-Some-place_of_file-clause-answer g c = open_already c.args.name.now.0.items c.in-Some.at
    c.in-Some-place_of_file.open c.args.self.now c.args.heap.now.memory c.deref.result.now c.self.inside.chain.items
    c.index.result.now (ap (map view_file) c.deref.ensures.value ∙ ap (λ (r : Resources). r.files) c.self.view_is)
    (ap (λ (r : Resources). r.chain) c.self.view_is) c.in-Some.ensures.found
    (rw c.deref-2.ensures.value at c.in-Some-place_of_file.ensures.found)
    (rw c.deref-2.ensures.value at c.in-Some-place_of_file.ensures.within) c.index.ensures

pub returns-in-None-clause-answer : goal.returns-in-None-clause-answer
returns-in-None-clause-answer g c = open_anew c.args.name.now.0.items c.in-Some.at c.args.self.now
    c.args.heap.now.memory c.deref.result.now c.self.inside.chain.items _ _
    (ap (map view_file) c.deref.ensures.value ∙ ap (λ (r : Resources). r.files) c.self.view_is)
    (ap (λ (r : Resources). r.chain) c.self.view_is) c.in-Some.ensures.found
    (rw c.deref-2.ensures.value at c.in-None.ensures.found) c.open_at.ensures.answer

pub returns-in_default-clause-answer : goal.returns-in_default-clause-answer
returns-in_default-clause-answer g c = name_missing c.args.name.now.0.items c.deref.result.now c.args.self.now
    (ap (map view_file) c.deref.ensures.value ∙ ap (λ (r : Resources). r.files) c.self.view_is)
    c.in_default.ensures.found c.args.heap.now.memory

pub returns-in_default-clause-hears : goal.returns-in_default-clause-hears
returns-in_default-clause-hears g c = record {
  tells = λ some listens. gone_missing g.K.PurgeSink.told c.args.sink.now
      c.args.name.now.0.items c.deref.result.now c.args.self.now c.args.heap.now.memory
      (ap (map view_file) c.deref.ensures.value ∙ ap (λ (r : Resources). r.files) c.self.view_is)
      c.in_default.ensures.found;
  rests = rests-still g.K.PurgeSink.told g.K.PurgeSink.waits g.K.PurgeSink.listens c.args.sink.now c.requires.idle;
}

pub returns-in-Some-place_of_file-clause-hears : goal.returns-in-Some-place_of_file-clause-hears
returns-in-Some-place_of_file-clause-hears g c = record {
  tells = λ some listens. gone_already g.K.PurgeSink.told c.args.sink.now
      c.args.name.now.0.items c.in-Some.at c.in-Some-place_of_file.open c.args.self.now c.args.heap.now.memory
      c.deref.result.now c.self.inside.chain.items
      (ap (map view_file) c.deref.ensures.value ∙ ap (λ (r : Resources). r.files) c.self.view_is)
      (ap (λ (r : Resources). r.chain) c.self.view_is) c.in-Some.ensures.found
      (rw c.deref-2.ensures.value at c.in-Some-place_of_file.ensures.found);
  rests = rests-still g.K.PurgeSink.told g.K.PurgeSink.waits g.K.PurgeSink.listens c.args.sink.now c.requires.idle;
}

pub returns-in-None-clause-hears : goal.returns-in-None-clause-hears
returns-in-None-clause-hears g c = record {
  tells = gone_anew g.K.PurgeSink.told c.args.sink.now c.open_at.new.sink
      c.args.name.now.0.items c.in-Some.at c.args.self.now c.args.heap.now.memory c.deref.result.now
      c.self.inside.chain.items
      _ _ (ap (map view_file) c.deref.ensures.value ∙ ap (λ (r : Resources). r.files) c.self.view_is)
      (ap (λ (r : Resources). r.chain) c.self.view_is) c.in-Some.ensures.found
      (rw c.deref-2.ensures.value at c.in-None.ensures.found) c.open_at.ensures.told;
  rests = c.open_at.ensures.rests;
}

pub returns-in-None-clause-stops : goal.returns-in-None-clause-stops
returns-in-None-clause-stops g c host = record {
  files = c.open_at.ensures.files host;
  unheard = c.open_at.ensures.kept host;
  same = c.open_at.ensures.host host;
  opens = stopped_anew g.K.PurgeSink.told g.S.BlockStore.TAKES_HOST
      c.args.name.now.0.items c.in-Some.at c.args.self.now c.args.heap.now.memory c.deref.result.now
      c.self.inside.chain.items
      _ _ c.args.sink.now c.open_at.new.sink
      (ap (map view_file) c.deref.ensures.value ∙ ap (λ (r : Resources). r.files) c.self.view_is)
      (ap (λ (r : Resources). r.chain) c.self.view_is) c.in-Some.ensures.found
      (rw c.deref-2.ensures.value at c.in-None.ensures.found) c.open_at.ensures.stopped host;
}
