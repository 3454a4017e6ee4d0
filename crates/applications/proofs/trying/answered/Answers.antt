use Rattle.applications.proofs.Cited.{◌≡◌, sym, subst, List, ℕ, IfOk, OnOk, IsOk, HeapCall, Given, served, gone_in, Hears, doing}
use Rattle.applications.proofs.Cited.{purges_made, new_handle, new_pointer, pointer_to_hand, asked, TellsTold}
use Rattle.heap_calls.specs.Serving.{telling}
use Rattle.applications.proofs.Hearing.{hears_tried}
use Rattle.applications.proofs.GivenCalls.{given-told, given-after}
use Rattle.applications.proofs.trying.answered.Goals as goal

pub returns-in-NewHandle-clause-told : goal.returns-in-NewHandle-clause-told
returns-in-NewHandle-clause-told g c =
    subst (λ (k : HeapCall). IfOk c.given.result (λ tried. TellsTold tried
    (served (asked k c.args.names.now) c.args.heap.now.memory).0)) (sym c.in-NewHandle.is)
    (given-told (doing (new_handle c.in-NewHandle.size) c.args.heap.now.memory) c.new_handle.result
    c.new_handle.new.self.memory c.given.result c.new_handle.ensures.answer c.given.ensures.tried c.given.ensures.host)

pub returns-in-NewHandle-clause-after : goal.returns-in-NewHandle-clause-after
returns-in-NewHandle-clause-after g c =
    subst (λ (k : HeapCall). OnOk c.given.result (c.new_handle.new.self.memory
    ≡ (served (asked k c.args.names.now) c.args.heap.now.memory).1)) (sym c.in-NewHandle.is)
    (given-after (doing (new_handle c.in-NewHandle.size) c.args.heap.now.memory) c.new_handle.result
    c.new_handle.new.self.memory c.given.result c.new_handle.ensures.answer c.given.ensures.host)

pub returns-in-NewHandle-clause-hears : goal.returns-in-NewHandle-clause-hears
returns-in-NewHandle-clause-hears g c =
    subst (λ (k : HeapCall). Hears g.K.PurgeSink.told g.K.PurgeSink.waits g.K.PurgeSink.listens (IsOk c.given.result)
    (gone_in (asked k c.args.names.now) c.args.heap.now.memory) c.args.sink.now c.new_handle.new.sink)
    (sym c.in-NewHandle.is)
    (hears_tried g.K.PurgeSink.told g.K.PurgeSink.waits g.K.PurgeSink.listens c.given.result _
    (purges_made (new_handle c.in-NewHandle.size) c.args.heap.now.memory.heap) c.args.sink.now c.new_handle.new.sink
    c.given.ensures.host c.new_handle.ensures.hears)

pub returns-in-NewPtr-clause-told : goal.returns-in-NewPtr-clause-told
returns-in-NewPtr-clause-told g c =
    subst (λ (k : HeapCall). IfOk c.given-in-NewPtr.result (λ tried. TellsTold tried
    (served (asked k c.args.names.now) c.args.heap.now.memory).0)) (sym c.in-NewPtr.is)
    (given-told (doing (new_pointer c.in-NewPtr.size) c.args.heap.now.memory) c.new_pointer.result
    c.new_pointer.new.self.memory c.given-in-NewPtr.result c.new_pointer.ensures.answer
    c.given-in-NewPtr.ensures.tried c.given-in-NewPtr.ensures.host)

pub returns-in-PtrToHand-clause-told : goal.returns-in-PtrToHand-clause-told
returns-in-PtrToHand-clause-told g c =
    subst (λ (k : HeapCall). IfOk c.given-in-PtrToHand.result (λ tried. TellsTold tried
    (served (asked k c.args.names.now) c.args.heap.now.memory).0)) (sym c.in-PtrToHand.is)
    (subst (λ (x : List ℕ). IfOk c.given-in-PtrToHand.result (λ tried. TellsTold tried
    (telling Given (doing (pointer_to_hand x) c.args.heap.now.memory)).0)) c.deref.ensures.value
    (given-told (doing (pointer_to_hand c.deref.result.now) c.args.heap.now.memory) c.pointer_to_hand.result
    c.pointer_to_hand.new.self.memory c.given-in-PtrToHand.result c.pointer_to_hand.ensures.answer
    c.given-in-PtrToHand.ensures.tried c.given-in-PtrToHand.ensures.host))

pub returns-in-PtrToHand-clause-after : goal.returns-in-PtrToHand-clause-after
returns-in-PtrToHand-clause-after g c =
    subst (λ (k : HeapCall). OnOk c.given-in-PtrToHand.result (c.pointer_to_hand.new.self.memory
    ≡ (served (asked k c.args.names.now) c.args.heap.now.memory).1)) (sym c.in-PtrToHand.is)
    (subst (λ (x : List ℕ). OnOk c.given-in-PtrToHand.result (c.pointer_to_hand.new.self.memory
    ≡ (telling Given (doing (pointer_to_hand x) c.args.heap.now.memory)).1)) c.deref.ensures.value
    (given-after (doing (pointer_to_hand c.deref.result.now) c.args.heap.now.memory) c.pointer_to_hand.result
    c.pointer_to_hand.new.self.memory c.given-in-PtrToHand.result c.pointer_to_hand.ensures.answer
    c.given-in-PtrToHand.ensures.host))

pub returns-in-PtrToHand-clause-hears : goal.returns-in-PtrToHand-clause-hears
returns-in-PtrToHand-clause-hears g c =
    subst (λ (k : HeapCall). Hears g.K.PurgeSink.told g.K.PurgeSink.waits g.K.PurgeSink.listens
    (IsOk c.given-in-PtrToHand.result) (gone_in (asked k c.args.names.now) c.args.heap.now.memory) c.args.sink.now
    c.pointer_to_hand.new.sink) (sym c.in-PtrToHand.is)
    (subst (λ (x : List ℕ). Hears g.K.PurgeSink.told g.K.PurgeSink.waits g.K.PurgeSink.listens
    (IsOk c.given-in-PtrToHand.result) (purges_made (pointer_to_hand x) c.args.heap.now.memory.heap)
    c.args.sink.now c.pointer_to_hand.new.sink) c.deref.ensures.value
    (hears_tried g.K.PurgeSink.told g.K.PurgeSink.waits g.K.PurgeSink.listens c.given-in-PtrToHand.result _
    (purges_made (pointer_to_hand c.deref.result.now) c.args.heap.now.memory.heap) c.args.sink.now
    c.pointer_to_hand.new.sink c.given-in-PtrToHand.ensures.host c.pointer_to_hand.ensures.hears))
