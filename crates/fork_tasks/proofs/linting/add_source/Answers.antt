use Rattle.fork_tasks.proofs.Cited.{◌≡◌, [], Ok, Err, ap, rules, types_of, Wrong, Lacking, read, content_stated, stopped_at}
use Rattle.rez_text.specs.View.{names_of}
use Rattle.fork_tasks.proofs.Linted.{no_lines, none_clean, some_lines, some_clean}
use Rattle.fork_tasks.proofs.linting.add_source.Goals as goal

pub returns-in-Ok-clause-text : goal.returns-in-Ok-clause-text
returns-in-Ok-clause-text c =
    let is : read (types_of c.args.types.now) [] c.args.text.now ≡ Ok (content_stated c.in-Ok.field-0) = search rules in
    no_lines c.args.path.now _ _ (ap stopped_at is)

pub returns-in-Ok-clause-clean : goal.returns-in-Ok-clause-clean
returns-in-Ok-clause-clean c =
    let is : read (types_of c.args.types.now) [] c.args.text.now ≡ Ok (content_stated c.in-Ok.field-0) = search rules in
    none_clean _ _ (ap stopped_at is)

pub returns-in-Err-Files-clause-text : goal.returns-in-Err-Files-clause-text
returns-in-Err-Files-clause-text c =
    let is : read (types_of c.args.types.now) [] c.args.text.now ≡ Err (Lacking (names_of c.in-Err-Files.names.items)) = search rules in
    no_lines c.args.path.now _ _ (ap stopped_at is)

pub returns-in-Err-Files-clause-clean : goal.returns-in-Err-Files-clause-clean
returns-in-Err-Files-clause-clean c =
    let is : read (types_of c.args.types.now) [] c.args.text.now ≡ Err (Lacking (names_of c.in-Err-Files.names.items)) = search rules in
    none_clean _ _ (ap stopped_at is)

pub returns-in-Err-Text-clause-text : goal.returns-in-Err-Text-clause-text
returns-in-Err-Text-clause-text c =
    let is : read (types_of c.args.types.now) [] c.args.text.now ≡ Err (Wrong c.in-Err-Text.fault.line c.in-Err-Text.fault.kind) =
    search rules in
    some_lines c.add_unstated.result c.args.path.now _ _ _ _ (ap stopped_at is) c.add_unstated.ensures.text

pub returns-in-Err-Text-clause-clean : goal.returns-in-Err-Text-clause-clean
returns-in-Err-Text-clause-clean c =
    let is : read (types_of c.args.types.now) [] c.args.text.now ≡ Err (Wrong c.in-Err-Text.fault.line c.in-Err-Text.fault.kind) =
    search rules in
    some_clean c.add_unstated.result _ _ _ _ (ap stopped_at is) c.add_unstated.ensures.clean
