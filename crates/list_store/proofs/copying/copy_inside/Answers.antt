use Rattle.list_store.proofs.Cited.{◌≡◌, ◌≤◌, ◌+◌, ◌++◌, ◌∷◌, ◌∙◌, take, drop, sym, ap, length, get_or, slice_set, arith, content_of}
use Rattle.list_store.proofs.Cited.{with_content, written, blocks_of}
use Rattle.list_store.proofs.Content.Copies.{at_nth, from_nth, blocks-replaced}
use Rattle.list_store.proofs.copying.copy_inside.Goals as goal

pub repeated_entry-requires-clause-source : goal.repeated_entry-requires-clause-source
repeated_entry-requires-clause-source c =
    let es = c.args.entries.now.items in
    let i = c.args.i in
    let e = c.replace-entry.result in
    let read : e ≡ get_or es i e = c.replace-entry.ensures.value ∙ c.index_mut.ensures.value
    ∙ ap (get_or es i) (sym c.replace-entry.ensures.value) in
    from_nth es i e (λ s. c.args.start + c.args.bytes ≤ length (content_of s.here)) (omega arith) read c.requires.source

pub repeated_entry-requires-clause-within : goal.repeated_entry-requires-clause-within
repeated_entry-requires-clause-within c =
    let es = c.args.entries.now.items in
    let i = c.args.i in
    let e = c.replace-entry.result in
    let read : e ≡ get_or es i e = c.replace-entry.ensures.value ∙ c.index_mut.ensures.value
    ∙ ap (get_or es i) (sym c.replace-entry.ensures.value) in
    from_nth es i e (λ s. c.args.from + c.args.bytes ≤ length (content_of s.here)) (omega arith) read c.requires.within

pub returns : goal.returns
returns c =
    let es = c.args.entries.now.items in
    let i = c.args.i in
    let e = c.replace-entry.result in
    let w = c.repeated_entry.result in
    let hole = c.replace-entry.new.dest in
    let read : e ≡ get_or es i e = c.replace-entry.ensures.value ∙ c.index_mut.ensures.value
    ∙ ap (get_or es i) (sym c.replace-entry.ensures.value) in
    at_nth es i e (λ s. blocks_of (slice_set (slice_set es i hole) i w) ≡ s.below
    ++ with_content (written c.args.from (take c.args.bytes (drop c.args.start (content_of s.here))) (content_of s.here)) s.here
    ∷ s.above) (omega arith) read
    (blocks-replaced es i hole w _ (omega arith) c.repeated_entry.ensures)
