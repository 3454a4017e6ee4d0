use Rattle.fork_commands.proofs.Cited.{◌≡◌, Ok, rules, view, types_of, read, files_of, content_said}
use Rattle.rez_text.specs.View.{content_stated}
use Rattle.fork_commands.proofs.Sources.{assembled_of, read_by, stated_again}
use Rattle.fork_commands.proofs.assembling.assembled.Goals as goal

pub returns-in_ok-canonical-in-Ok-clause-made : goal.returns-in_ok-canonical-in-Ok-clause-made
returns-in_ok-canonical-in-Ok-clause-made c =
    let same : types_of c.in_ok-copied.field-0 ≡ types_of c.args.types.now = search rules in
    let has : view c.in_ok-content-in-Ok.content ≡ content_stated c.in-Ok.stated = search rules in
    let is : read (types_of c.in_ok-copied.field-0) (files_of c.args.files.items) c.args.source.now
    ≡ Ok (content_stated c.in-Ok.stated) = search rules in
    assembled_of (types_of c.args.types.now) (files_of c.args.files.items) c.args.source.now
    c.in_ok-canonical-in-Ok.field-0.items (content_stated c.in-Ok.stated) (view c.in_ok-content-in-Ok.content)
    (read_by _ _ _ _ _ same is) has (search rules)

pub returns-in_ok-canonical-in-Ok-clause-read_again : goal.returns-in_ok-canonical-in-Ok-clause-read_again
returns-in_ok-canonical-in-Ok-clause-read_again c =
    let same : types_of c.in_ok-copied.field-0 ≡ types_of c.args.types.now = search rules in
    let has : view c.in_ok-content-in-Ok.content ≡ content_stated c.in-Ok.stated = search rules in
    let is : read (types_of c.in_ok-copied.field-0) (files_of c.args.files.items) c.args.source.now
    ≡ Ok (content_stated c.in-Ok.stated) = search rules in
    stated_again (types_of c.args.types.now) (files_of c.args.files.items) c.args.source.now
    c.in_ok-canonical-in-Ok.field-0.items (content_said c.in-Ok.stated) (view c.in_ok-content-in-Ok.content)
    (read_by _ _ _ _ _ same is) has (search rules)
