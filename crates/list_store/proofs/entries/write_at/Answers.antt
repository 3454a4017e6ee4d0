use Rattle.list_store.proofs.Cited.{◌≤◌, ◌+◌, ◌∙◌, sym, ap, length, get_or, content_of, with_content, written}
use Rattle.list_store.proofs.Zone.Spots.{from_entry, changed-at}
use Rattle.list_store.proofs.entries.write_at.Goals as goal

pub written_entry-requires : goal.written_entry-requires
written_entry-requires c =
    let es = c.args.entries.now.items in
    let i = c.in-Some.i in
    let taken = c.replace-entry.ensures.value in
    from_entry es _ c.args.place i c.replace-entry.result
    (λ s. c.args.from + length c.args.bytes.now ≤ length (content_of s.here)) c.deref.ensures.value c.in-Some.ensures
    (taken ∙ c.index_mut.ensures.value ∙ ap (get_or es i) (sym taken)) c.requires.within

pub returns : goal.returns
returns c =
    changed-at c.args.entries.now.items _ c.args.place c.in-Some.i c.replace-entry.result _ c.replace-entry.new.dest
    c.written_entry.result
    (λ b. with_content (written c.args.from c.args.bytes.now (content_of b)) b) c.deref.ensures.value c.in-Some.ensures
    c.replace-entry.ensures.value c.index_mut.ensures.value c.written_entry.ensures
