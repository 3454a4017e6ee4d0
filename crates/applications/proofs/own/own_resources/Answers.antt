use Rattle.applications.proofs.Cited.{◌≡◌, ◌∙◌, ap, map, rules, false, [], ◌∷◌, view_file, own_files}
use Rattle.res_calls.specs.declared.files.File.{File as StoredFile}
use Rattle.applications.proofs.OwnFork.{never_refused, given_own}
use Rattle.applications.proofs.own.own_resources.Goals as goal

pub unreachable-requires : goal.unreachable-requires
unreachable-requires c =
    let file : StoredFile = record { name = c.own_name.result; fork = c.in_ok-own_fork.field-0; written = false } in
    let own : (record { name = c.own_name.result.0.items; fork = c.in_ok-own_fork.field-0.items; written = false } ∷ []) ≡ own_files =
    λ i. record { name = c.own_name.ensures i; fork = c.in_ok-own_fork.ensures i; written = false } ∷ [] in
    let files : c.push.new.self.items ≡ file ∷ [] = search rules in
    never_refused _ _ c.new.result _ _ (ap (map view_file) files ∙ own) c.empty_content-system.ensures c.new.ensures c.in-Err-Code.is
    c.in-Err-Code.field-0-is

pub returns-in-Ok : goal.returns-in-Ok
returns-in-Ok c =
    let file : StoredFile = record { name = c.own_name.result; fork = c.in_ok-own_fork.field-0; written = false } in
    let own : (record { name = c.own_name.result.0.items; fork = c.in_ok-own_fork.field-0.items; written = false } ∷ []) ≡ own_files =
    λ i. record { name = c.own_name.ensures i; fork = c.in_ok-own_fork.ensures i; written = false } ∷ [] in
    let files : c.push.new.self.items ≡ file ∷ [] = search rules in
    given_own _ _ c.new.result _ (ap (map view_file) files ∙ own) c.empty_content-system.ensures c.new.ensures c.in-Ok.is
