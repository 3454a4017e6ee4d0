use Rattle.res_calls.proofs.Cited.{refl, ap, sym, ◌∙◌, Resources, managers, view_file, map_in, if_some}
use Rattle.res_calls.proofs.OpeningForks.{file_here, low_number, fork_refused, fork_opened}
use Rattle.res_calls.proofs.OpeningGone.{gone_refused, gone_opened}
use Rattle.res_calls.proofs.Stopping.{stopped_fork}
use Rattle.res_calls.proofs.files.Resources.open_at.Goals as goal

pub returns-in-Err-clause-answer : goal.returns-in-Err-clause-answer
returns-in-Err-clause-answer g c =
    let here = file_here c.args.self.now c.self.inside.files.items c.args.at c.index.result.now
    (ap (λ (r : Resources). r.files) c.self.view_is) c.requires.place c.index.ensures in
    let low = low_number c.self.inside.next c.args.self.now (ap (λ (r : Resources). r.next) c.self.view_is)
    c.if-self-gt-GREATEST_NUMBER.false in
    if_some _ _ (view_file c.index.result.now) here (fork_refused c.args.at c.index.result.now.fork.items
    c.args.self.now c.args.heap.now.memory c.in-Err.refusal c.deref.result.now low c.deref.ensures.value
    c.in-Err.ensures)

pub returns-clause-answer : goal.returns-clause-answer
returns-clause-answer g c =
    let here = file_here c.args.self.now c.self.inside.files.items c.args.at c.index.result.now
    (ap (λ (r : Resources). r.files) c.self.view_is) c.requires.place c.index.ensures in
    let low = low_number c.self.inside.next c.args.self.now (ap (λ (r : Resources). r.next) c.self.view_is)
    c.if-self-gt-GREATEST_NUMBER.false in
    if_some _ _ (view_file c.index.result.now) here (fork_opened c.args.at c.in_ok-open_read.field-0
    c.index.result.now.fork.items c.args.self.now c.args.heap.now.memory c.in-Ok.read _ c.deref.result.now low
    c.deref.ensures.value c.in-Ok.ensures c.in_ok-open_read.ensures.answer c.in_ok-open_read.ensures.after)

pub open_read-requires-clause-read : goal.open_read-requires-clause-read
open_read-requires-clause-read g c =
    let here = file_here c.args.self.now c.self.inside.files.items c.args.at c.index.result.now
    (ap (λ (r : Resources). r.files) c.self.view_is) c.requires.place c.index.ensures in
    if_some _ _ (view_file c.index.result.now) here (ap map_in (sym c.deref.ensures.value) ∙ c.in-Ok.ensures)

pub returns-in-Err-clause-told : goal.returns-in-Err-clause-told
returns-in-Err-clause-told g c =
    let here = file_here c.args.self.now c.self.inside.files.items c.args.at c.index.result.now
    (ap (λ (r : Resources). r.files) c.self.view_is) c.requires.place c.index.ensures in
    let low = low_number c.self.inside.next c.args.self.now (ap (λ (r : Resources). r.next) c.self.view_is)
    c.if-self-gt-GREATEST_NUMBER.false in
    if_some _ _ (view_file c.index.result.now) here (λ some listens. gone_refused g.K.PurgeSink.told c.args.sink.now
    c.index.result.now.fork.items c.args.self.now c.args.heap.now.memory c.in-Err.refusal c.deref.result.now low
    c.deref.ensures.value c.in-Err.ensures some)

pub returns-clause-told : goal.returns-clause-told
returns-clause-told g c =
    let here = file_here c.args.self.now c.self.inside.files.items c.args.at c.index.result.now
    (ap (λ (r : Resources). r.files) c.self.view_is) c.requires.place c.index.ensures in
    let low = low_number c.self.inside.next c.args.self.now (ap (λ (r : Resources). r.next) c.self.view_is)
    c.if-self-gt-GREATEST_NUMBER.false in
    if_some _ _ (view_file c.index.result.now) here (λ some listens. gone_opened g.K.PurgeSink.told c.args.sink.now
    c.open_read.new.sink c.index.result.now.fork.items c.args.self.now c.args.heap.now.memory c.in-Ok.read
    c.deref.result.now
    low c.deref.ensures.value c.in-Ok.ensures (c.in_ok-open_read.ensures.hears.tells refl listens))

pub returns-in_err-open_read-clause-stopped : goal.returns-in_err-open_read-clause-stopped
returns-in_err-open_read-clause-stopped g c =
    let here = file_here c.args.self.now c.self.inside.files.items c.args.at c.index.result.now
    (ap (λ (r : Resources). r.files) c.self.view_is) c.requires.place c.index.ensures in
    let low = low_number c.self.inside.next c.args.self.now (ap (λ (r : Resources). r.next) c.self.view_is)
    c.if-self-gt-GREATEST_NUMBER.false in
    if_some _ _ (view_file c.index.result.now) here (λ host. stopped_fork g.K.PurgeSink.told
    g.S.BlockStore.TAKES_HOST c.args.at c.index.result.now.fork.items c.args.self.now c.args.heap.now.memory
    c.in-Ok.read
    (managers c.open_read.new.self c.open_read.new.heap.memory) c.deref.result.now c.args.sink.now c.open_read.new.sink
    low
    c.deref.ensures.value c.in-Ok.ensures c.in_err-open_read.ensures.stopped)
