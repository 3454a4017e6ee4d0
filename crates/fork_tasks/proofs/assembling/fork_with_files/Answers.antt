use Rattle.fork_tasks.proofs.Cited.{◌≡◌, ◌∙◌, Err, ap, length, map, refl, rules, string_bytes, sym, length-map, types_of, also_ok}
use Rattle.fork_tasks.proofs.Cited.{message_of}
use Rattle.fork_tasks.specs.declared.fault.ToolFault.TheVariants.{HostMemory as NoMemory}
use Rattle.fork_tasks.proofs.Accesses.{told_err, also_err}
use Rattle.fork_tasks.proofs.Assembled.{named_so, unstated_memory, unread_named, states_with, refused_with}
use Rattle.fork_tasks.proofs.assembling.fork_with_files.Goals as goal

pub returns-in_err-paths-clause-stopped : goal.returns-in_err-paths-clause-stopped
returns-in_err-paths-clause-stopped g c =
    let same : c.from_residual.result ≡ Err NoMemory = search rules in
    told_err _ _ NoMemory same (unstated_memory c.args.path.now (types_of c.args.types.now) c.args.text.now _ _ refl)

pub returns-in_err-files-clause-stopped : goal.returns-in_err-files-clause-stopped
returns-in_err-files-clause-stopped g c =
    let same : c.from_residual-in_err-files.result ≡ Err c.in_err-files.field-0.0 = search rules in
    let so = named_so c.args.path.now (types_of c.args.types.now) c.args.text.now c.args.names.now
    (map string_bytes c.as_slice.result.now) c.requires (ap (map string_bytes) c.as_slice.ensures.value ∙ c.in_ok-paths.ensures) in
    told_err _ _ _ same (unread_named c.args.path.now (types_of c.args.types.now) c.args.text.now _ _ _ _ so
    c.in_err-files.ensures.stopped)

pub returns-clause-states : goal.returns-clause-states
returns-clause-states g c =
    let so = named_so c.args.path.now (types_of c.args.types.now) c.args.text.now c.args.names.now
    (map string_bytes c.as_slice.result.now) c.requires (ap (map string_bytes) c.as_slice.ensures.value ∙ c.in_ok-paths.ensures) in
    let count : length (map (λ file. file.items) c.in_ok-files.files.items) ≡ length (map string_bytes c.as_slice.result.now) =
    length-map c.in_ok-files.files.items (λ file. file.items) ∙ c.in_ok-files.ensures.count
    ∙ sym (length-map c.as_slice.result.now string_bytes) in
    also_ok _ _ c.fork_with.result (λ fork h. states_with c.args.path.now (types_of c.args.types.now) c.args.text.now fork.items
    (map string_bytes c.as_slice.result.now) (map (λ file. file.items) c.in_ok-files.files.items) _ _ _ so count
    c.in_ok-files.ensures.read refl h) c.fork_with.ensures.made

pub returns-clause-stopped : goal.returns-clause-stopped
returns-clause-stopped g c =
    let so = named_so c.args.path.now (types_of c.args.types.now) c.args.text.now c.args.names.now
    (map string_bytes c.as_slice.result.now) c.requires (ap (map string_bytes) c.as_slice.ensures.value ∙ c.in_ok-paths.ensures) in
    let count : length (map (λ file. file.items) c.in_ok-files.files.items) ≡ length (map string_bytes c.as_slice.result.now) =
    length-map c.in_ok-files.files.items (λ file. file.items) ∙ c.in_ok-files.ensures.count
    ∙ sym (length-map c.as_slice.result.now string_bytes) in
    also_err _ _ c.fork_with.result (λ fault h. refused_with c.args.path.now (types_of c.args.types.now) c.args.text.now
    (map string_bytes c.as_slice.result.now) (map (λ file. file.items) c.in_ok-files.files.items) _ _ _ (message_of fault) so count
    c.in_ok-files.ensures.read refl h) c.fork_with.ensures.fault
