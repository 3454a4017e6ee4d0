use Rattle.script_text.proofs.Cited.{ap, refl, ◌∙◌, put_name, with_file}
use Rattle.script_text.proofs.JobKnown.{bytes_of, put_file}
use Rattle.script_text.proofs.owners.Owner.add.Goals as goal

pub returns-clause-added : goal.returns-clause-added
returns-clause-added c =
    let files = c.self.inside.files.keys in
    ap (λ names. record { name = c.self.inside.name.0.items; files = names })
    (ap bytes_of c.in_ok-insert.ensures.keys ∙ put_file _ (λ a b. refl) c.in_ok-copy_of.field-0 files
    ∙ ap (λ n. put_name n (bytes_of files)) c.in_ok-copy_of.ensures)
    ∙ ap (with_file c.args.name.now.0.items) c.self.view_is
