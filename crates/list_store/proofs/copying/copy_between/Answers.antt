use Rattle.list_store.proofs.Cited.{◌≡◌, ◌≤◌, ◌+◌, ◌++◌, ◌∷◌, ◌∙◌, take, drop, sym, ap, length, get_or, slice_set, arith}
use Rattle.list_store.proofs.Cited.{add-sub_cancel_left, IfSome, get_or-set_other, length-set, length-drop, content_of, with_content}
use Rattle.list_store.proofs.Cited.{written, blocks_of, block_of, nth_spot, first-bytes}
use Rattle.list_store.proofs.Content.Copies.{at_nth, from_nth, blocks-replaced}
use Rattle.list_store.proofs.copying.copy_between.Goals as goal

pub index-requires : goal.index-requires
index-requires c = let z = length-set c.args.entries.now.items c.args.j c.replace-entry.new.dest in omega arith

pub slice_bounds-written_entry-end : goal.slice_bounds-written_entry-end
slice_bounds-written_entry-end c =
    let es = c.args.entries.now.items in
    let f = c.index.result.now in
    let read : f ≡ get_or es c.args.i f = c.index.ensures
    ∙ get_or-set_other es c.args.j c.args.i c.replace-entry.new.dest f c.requires.two in
    let fits : c.args.start + c.args.bytes ≤ length (content_of (block_of f)) =
    from_nth es c.args.i f (λ s. c.args.start + c.args.bytes ≤ length (content_of s.here)) (omega arith) read c.requires.source in
    let same = ap length c.content-source.ensures in
    omega (arith, fits, same)

pub written_entry-requires : goal.written_entry-requires
written_entry-requires c =
    let es = c.args.entries.now.items in
    let j = c.args.j in
    let e = c.replace-entry.result in
    let f = c.index.result.now in
    let read : f ≡ get_or es c.args.i f = c.index.ensures
    ∙ get_or-set_other es c.args.j c.args.i c.replace-entry.new.dest f c.requires.two in
    let fits : c.args.start + c.args.bytes ≤ length (content_of (block_of f)) =
    from_nth es c.args.i f (λ s. c.args.start + c.args.bytes ≤ length (content_of s.here)) (omega arith) read c.requires.source in
    let read' : e ≡ get_or es j e = c.replace-entry.ensures.value ∙ c.index_mut.ensures.value
    ∙ ap (get_or es j) (sym c.replace-entry.ensures.value) in
    let within : c.args.from + c.args.bytes ≤ length (content_of (block_of e)) =
    from_nth es j e (λ s. c.args.from + c.args.bytes ≤ length (content_of s.here)) (omega arith) read'
    c.requires.within in
    let same = ap length c.content-source.ensures in
    let left = length-drop c.args.start c.content-source.result.now in
    let many = first-bytes c.args.bytes (drop c.args.start c.content-source.result.now) (omega (arith, fits, same, left)) in
    rw (add-sub_cancel_left c.args.start c.args.bytes) (omega (arith, many, within))

pub returns : goal.returns
returns c =
    let es = c.args.entries.now.items in
    let i = c.args.i in
    let j = c.args.j in
    let e = c.replace-entry.result in
    let f = c.index.result.now in
    let w = c.written_entry.result in
    let hole = c.replace-entry.new.dest in
    let read : f ≡ get_or es i f = c.index.ensures ∙ get_or-set_other es j i hole f c.requires.two in
    let read' : e ≡ get_or es j e = c.replace-entry.ensures.value ∙ c.index_mut.ensures.value
    ∙ ap (get_or es j) (sym c.replace-entry.ensures.value) in
    let made = rw (add-sub_cancel_left c.args.start c.args.bytes) at c.written_entry.ensures in
    at_nth es i f (λ t. IfSome (nth_spot j (blocks_of es))
    (λ s. blocks_of (slice_set (slice_set es j hole) j w) ≡ s.below
    ++ with_content (written c.args.from (take c.args.bytes (drop c.args.start (content_of t.here))) (content_of s.here)) s.here
    ∷ s.above)) (omega arith) read (at_nth es j e (λ s. blocks_of (slice_set (slice_set es j hole) j w) ≡ s.below
    ++ with_content (written c.args.from (take c.args.bytes (drop c.args.start (content_of (block_of f)))) (content_of s.here)) s.here
    ∷ s.above) (omega arith) read' (blocks-replaced es j hole w _ (omega arith) (made
    ∙ ap (λ x. with_content (written c.args.from (take c.args.bytes (drop c.args.start x)) (content_of (block_of e))) (block_of e))
    c.content-source.ensures)))
