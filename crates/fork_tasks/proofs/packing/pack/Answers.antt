use Rattle.fork_tasks.proofs.Cited.{◌≡◌, ◌∙◌, Err, length, map, rules, sym, length-map, on_ok_weaker, view_list}
use Rattle.std.specs.Prelude.{string_bytes}
use Rattle.fork_tasks.specs.declared.fault.ToolFault.TheVariants.{HostMemory as NoMemory}
use Rattle.fork_tasks.proofs.Accesses.{told_err, also_err}
use Rattle.fork_tasks.proofs.Packed.{no_paths, files_unread, all_read, unfit, unwritten, packs}
use Rattle.fork_tasks.proofs.packing.pack.Goals as goal

pub returns-in_err-paths-clause-stopped : goal.returns-in_err-paths-clause-stopped
returns-in_err-paths-clause-stopped g c =
    let said = c.in_ok-list.ensures.list in
    let same : c.from_residual-in_err-paths.result ≡ Err NoMemory = search rules in
    told_err _ _ NoMemory same (no_paths c.args.packing said.0 (view_list c.in_ok-list.list) _ _ said.1 said.2)

pub returns-in_err-files-clause-stopped : goal.returns-in_err-files-clause-stopped
returns-in_err-files-clause-stopped g c =
    let said = c.in_ok-list.ensures.list in
    let same : c.from_residual-in_err-files.result ≡ Err c.in_err-files.field-0.0 = search rules in
    told_err _ _ _ same (files_unread c.args.packing said.0 (view_list c.in_ok-list.list) _ _ _ _ _ said.1 said.2 (search rules)
    c.in_err-files.ensures.stopped)

pub returns-in_err-fork-clause-stopped : goal.returns-in_err-fork-clause-stopped
returns-in_err-fork-clause-stopped g c =
    let said = c.in_ok-list.ensures.list in
    let same : c.from_residual-in_err-fork.result ≡ Err c.in_err-fork.field-0.0 = search rules in
    told_err _ _ _ same (unfit c.args.packing said.0 (view_list c.in_ok-list.list) _ _ _ _ _ said.1
    (all_read c.args.packing said.0 (view_list c.in_ok-list.list) _ _ _ _ _ said.2 (search rules) c.in_ok-files.ensures.read) (search rules)
    c.in_err-fork.ensures.fault)

pub returns-clause-packs : goal.returns-clause-packs
returns-clause-packs g c =
    let said = c.in_ok-list.ensures.list in
    let count : length (map (λ file. file.items) c.in_ok-files.files.items) ≡ length (map string_bytes c.as_slice.result.now) =
    length-map c.in_ok-files.files.items (λ file. file.items) ∙ c.in_ok-files.ensures.count
    ∙ sym (length-map c.as_slice.result.now string_bytes) in
    on_ok_weaker c.deliver.result (λ h. packs c.args.packing said.0 (view_list c.in_ok-list.list)
    (map string_bytes c.as_slice.result.now) (map (λ file. file.items) c.in_ok-files.files.items) _ _ _ _ _ _ said.1
    (search rules) count
    (all_read c.args.packing said.0 (view_list c.in_ok-list.list) _ _ _ _ _ said.2 (search rules) c.in_ok-files.ensures.read)
    (search rules) c.in_ok-fork.ensures.made (search rules) h.1) c.deliver.ensures.delivered

pub returns-clause-stopped : goal.returns-clause-stopped
returns-clause-stopped g c =
    let said = c.in_ok-list.ensures.list in
    also_err _ _ c.deliver.result (λ fault h. unwritten c.args.packing said.0 (view_list c.in_ok-list.list) _ _ _ _ _ _ _ _ said.1
    (all_read c.args.packing said.0 (view_list c.in_ok-list.list) _ _ _ _ _ said.2 (search rules) c.in_ok-files.ensures.read) (search rules)
    c.in_ok-fork.ensures.made (search rules) h.1) c.deliver.ensures.undelivered
