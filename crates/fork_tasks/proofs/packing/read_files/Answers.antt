use Rattle.fork_tasks.proofs.Cited.{◌≡◌, ◌+◌, ◌∷◌, [], ℕ, List, Err, drop, map, string_bytes, subst, arith, rules, ◌∙◌, ap, length}
use Rattle.fork_tasks.proofs.Cited.{length-append, sym, map-append, common_steps, Read, and_then, IsUnread, message_of}
use Rattle.fork_tasks.specs.declared.fault.ToolFault.TheVariants.{HostMemory as NoMemory}
use Rattle.fork_tasks.proofs.Accesses.{told_err}
use Rattle.fork_tasks.proofs.Packed.{Came, further, all_came, unread_file, unkept_file}
use Rattle.fork_tasks.proofs.packing.read_files.Goals as goal

pub loop-path-preserved : goal.loop-path-preserved
loop-path-preserved g c =
    let i : ℕ = c.loop-path.path-index in
    let x : List ℕ = string_bytes c.path-item.result in
    let more : List (List ℕ) = map string_bytes (drop (i + 1) c.args.paths.now) in
    let split : map string_bytes (drop i c.args.paths.now) ≡ x ∷ more = grind (arith, common_steps) in
    let came = subst (λ l. Came (map string_bytes c.args.paths.now) l (map (λ file. file.items) c.loop-path.files.items)
    (g.H.Host.accesses c.args.host.now) (g.H.Host.accesses c.loop-path.host)) split c.loop-path.invariant.came in
    let read = subst (λ p. g.H.Host.accesses c.read_input.new.host ≡ and_then (g.H.Host.accesses c.loop-path.host)
    (Read p c.in_ok-file.file.items ∷ [])) c.as_str.ensures.value c.in_ok-file.ensures.read in
    let grown = ap (map (λ file. file.items)) c.in_ok-push_file.ensures
    ∙ map-append (λ file. file.items) c.loop-path.files.items (c.in_ok-file.file ∷ []) in
    let one = ap length c.in_ok-push_file.ensures ∙ length-append c.loop-path.files.items (c.in_ok-file.file ∷ []) in
    let so_far = c.loop-path.invariant.count in
    record {
      silent = c.in_ok-file.ensures.silent ∙ c.loop-path.invariant.silent;
      count = omega (arith, one, so_far);
      came = subst (λ l. Came (map string_bytes c.args.paths.now) more l (g.H.Host.accesses c.args.host.now)
          (g.H.Host.accesses c.read_input.new.host)) (sym grown) (further _ more _ x _ _ _ _ came read);
    }

pub returns-in_err-file-clause-stopped : goal.returns-in_err-file-clause-stopped
returns-in_err-file-clause-stopped g c =
    let i : ℕ = c.loop-path.path-index in
    let x : List ℕ = string_bytes c.path-item.result in
    let more : List (List ℕ) = map string_bytes (drop (i + 1) c.args.paths.now) in
    let split : map string_bytes (drop i c.args.paths.now) ≡ x ∷ more = grind (arith, common_steps) in
    let same : c.from_residual.result ≡ Err c.in_err-file.field-0.0 = search rules in
    let came = subst (λ l. Came (map string_bytes c.args.paths.now) l (map (λ file. file.items) c.loop-path.files.items)
    (g.H.Host.accesses c.args.host.now) (g.H.Host.accesses c.loop-path.host)) split c.loop-path.invariant.came in
    let unread = subst (λ p. IsUnread p (g.H.Host.accesses c.loop-path.host) (g.H.Host.accesses c.read_input.new.host)
    (message_of c.in_err-file.field-0.0)) c.as_str.ensures.value c.in_err-file.ensures.unread in
    told_err _ _ _ same (unread_file _ more _ x _ _ _ _ came unread)

pub returns-in_err-push_file-clause-stopped : goal.returns-in_err-push_file-clause-stopped
returns-in_err-push_file-clause-stopped g c =
    let i : ℕ = c.loop-path.path-index in
    let x : List ℕ = string_bytes c.path-item.result in
    let more : List (List ℕ) = map string_bytes (drop (i + 1) c.args.paths.now) in
    let split : map string_bytes (drop i c.args.paths.now) ≡ x ∷ more = grind (arith, common_steps) in
    let came = subst (λ l. Came (map string_bytes c.args.paths.now) l (map (λ file. file.items) c.loop-path.files.items)
    (g.H.Host.accesses c.args.host.now) (g.H.Host.accesses c.loop-path.host)) split c.loop-path.invariant.came in
    let same : c.from_residual-in_err-push_file.result ≡ Err NoMemory = search rules in
    let read = subst (λ p. g.H.Host.accesses c.read_input.new.host ≡ and_then (g.H.Host.accesses c.loop-path.host)
    (Read p c.in_ok-file.file.items ∷ [])) c.as_str.ensures.value c.in_ok-file.ensures.read in
    told_err _ _ NoMemory same (unkept_file _ more _ x _ _ _ _ came read)

pub returns-clause-read : goal.returns-clause-read
returns-clause-read g c =
    let none : map string_bytes (drop c.loop-path.path-index c.args.paths.now) ≡ [] = grind (arith, common_steps) in
    all_came _ _ _ _ (subst (λ l. Came (map string_bytes c.args.paths.now) l (map (λ file. file.items) c.loop-path.files.items)
    (g.H.Host.accesses c.args.host.now) (g.H.Host.accesses c.loop-path.host)) none c.loop-path.invariant.came)
