use Rattle.job_tasks.proofs.Cited.{◌≡◌, ◌∷◌, ◌∙◌, [], List, Err, map, refl, sym, subst, rules, string_bytes, Access, Folder, StopsAt}
use Rattle.job_tasks.proofs.Cited.{and_then, source_given, left_alone, write_of, told_err, folder_at, later_at}
use Rattle.job_tasks.proofs.playing.write_left.Goals as goal

pub returns-in_err-make_folder-clause-stopped : goal.returns-in_err-make_folder-clause-stopped
returns-in_err-make_folder-clause-stopped g c =
    let same : c.from_residual.result ≡ Err c.in_err-make_folder.field-0.0 = search rules in
    let path : string_bytes c.set_folder_path.new.path ≡ c.args.folder.now = search rules in
    let named : c.as_str.result.now ≡ string_bytes c.set_folder_path.new.path = search rules in
    let files : List Access =
    map write_of (left_alone c.args.folder.now (map source_given c.args.sources.now) c.args.given) in
    told_err _ _ _ same (subst (λ p. StopsAt (Folder c.args.folder.now ∷ files) (g.H.Host.accesses c.args.host.now)
    (g.H.Host.accesses c.make_folder.new.self) p c.in_err-make_folder.field-0.0) (sym path)
    (folder_at c.args.folder.now _ files _ _ _ c.in_err-make_folder.ensures.unmade (named ∙ path)))

pub returns-in_err-write_files-clause-stopped : goal.returns-in_err-write_files-clause-stopped
returns-in_err-write_files-clause-stopped g c =
    let files : List Access =
    map write_of (left_alone c.args.folder.now (map source_given c.args.sources.now) c.args.given) in
    let made : g.H.Host.accesses c.make_folder.new.self
    ≡ and_then (g.H.Host.accesses c.args.host.now) (Folder c.args.folder.now ∷ []) = search rules in
    let same : c.from_residual-in_err-write_files.result ≡ Err c.in_err-write_files.field-0.0 = search rules in
    told_err _ _ _ same (later_at _ (Folder c.args.folder.now ∷ []) files _ _ _ _ _ refl made c.in_err-write_files.ensures.stopped)
