use Rattle.desk.proofs.Cited.{rules, ◌≡◌, ◌≢◌, ◌∙◌, ◌<◌, [], length, slice_index_or, subst, sym, on_err, view_file, fork_told}
use Rattle.res_calls.specs.declared.files.File.{File as StoredFile}
use Rattle.desk.proofs.ForkLines.{files_next, still-lines}
use Rattle.desk.proofs.forks.write_files.Goals as goal

pub returns-in_err-write_file-clause-forks : goal.returns-in_err-write_file-clause-forks
returns-in_err-write_file-clause-forks c =
    let files = c.args.files.now in
    let i = c.loop-place.place in
    let less : i < length files = search rules in
    let f = c.index-files-place.result in
    let is : f ≡ slice_index_or files i f = search rules in
    on_err c.from_residual.result _
    (still-lines c.loop-place.text.items c.args.text.now.items _ _ _
    (sym (files_next c.loop-place.text.items c.args.name.now.0.items files i f less) ∙ c.loop-place.invariant.0)
    c.loop-place.invariant.1
    (subst (λ (x : StoredFile). fork_told c.args.name.now.0.items i (view_file x) ≢ []) is c.in_err-write_file.ensures.forks))
