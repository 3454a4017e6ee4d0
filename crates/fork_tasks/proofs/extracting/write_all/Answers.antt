use Rattle.fork_tasks.proofs.Cited.{◌≡◌, map, Err, rules, view_file}
use Rattle.fork_tasks.proofs.Accesses.{told_err}
use Rattle.fork_tasks.proofs.Extracted.{folder_stopped, files_stopped}
use Rattle.fork_tasks.proofs.extracting.write_all.Goals as goal

pub returns-in_err-make_folder-clause-stopped : goal.returns-in_err-make_folder-clause-stopped
returns-in_err-make_folder-clause-stopped g c =
    let same : c.from_residual.result ≡ Err c.in_err-make_folder.field-0.0 = search rules in
    told_err _ _ _ same (folder_stopped c.args.folder.now (map view_file c.args.files.now) _ _ _
    c.in_err-make_folder.ensures.stopped)

pub returns-in_err-write_files-clause-stopped : goal.returns-in_err-write_files-clause-stopped
returns-in_err-write_files-clause-stopped g c =
    let same : c.from_residual-in_err-write_files.result ≡ Err c.in_err-write_files.field-0.0 = search rules in
    told_err _ _ _ same (files_stopped c.args.folder.now (map view_file c.args.files.now) _ _ _ _
    c.in_ok-make_folder.ensures.made c.in_err-write_files.ensures.stopped)
