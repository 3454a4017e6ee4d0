use Rattle.fork_tasks.proofs.Cited.{◌≡◌, ◌∙◌, Err, rules}
use Rattle.fork_tasks.proofs.Accesses.{told_err}
use Rattle.fork_tasks.proofs.Extracted.{faulty, unwritten, extracts}
use Rattle.fork_tasks.proofs.Opened.{unwritten_pieces}
use Rattle.fork_tasks.proofs.extracting.extract.Goals as goal

pub returns-in_err-file-clause-stopped : goal.returns-in_err-file-clause-stopped
returns-in_err-file-clause-stopped g c =
    let same : c.from_residual-in_err-file.result ≡ Err c.in_err-file.field-0.0 = search rules in
    told_err _ _ _ same (faulty c.args.extraction c.as_slice.result.now _ _ _ _ c.in_ok-bytes.ensures.read (search rules)
    (unwritten_pieces c.args.extraction.pieces _ _ _ _ c.in_err-file.ensures.fault))

pub returns-in_err-files-clause-stopped : goal.returns-in_err-files-clause-stopped
returns-in_err-files-clause-stopped g c =
    let same : c.from_residual-in_err-files.result ≡ Err c.in_err-files.field-0.0 = search rules in
    told_err _ _ _ same (faulty c.args.extraction _ _ _ _ _ c.in_ok-bytes.ensures.read
    (c.in_ok-file.ensures.bytes ∙ c.as_slice.ensures.value) c.in_err-files.ensures.fault)

pub returns-in_err-write_all-clause-stopped : goal.returns-in_err-write_all-clause-stopped
returns-in_err-write_all-clause-stopped g c =
    let same : c.from_residual-in_err-write_all.result ≡ Err c.in_err-write_all.field-0.0 = search rules in
    told_err _ _ _ same (unwritten c.args.extraction _ _ _ _ _ _ _ _ c.in_ok-bytes.ensures.read
    (c.in_ok-file.ensures.bytes ∙ c.as_slice.ensures.value) (search rules) c.in_ok-files.ensures.made
    c.in_err-write_all.ensures.stopped)

pub returns-clause-extracts : goal.returns-clause-extracts
returns-clause-extracts g c =
    extracts c.args.extraction _ _ _ _ _ _ _ c.in_ok-bytes.ensures.read
    (c.in_ok-file.ensures.bytes ∙ c.as_slice.ensures.value) (search rules) c.in_ok-files.ensures.made
    c.in_ok-write_all.ensures.written
