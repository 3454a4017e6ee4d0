use Rattle.fork_commands.proofs.Cited.{◌≡◌, ◌∙◌, ℕ, Some, refl, ap, option_map, big_number, Ref, Content, renamed, found, is_at, others}
use Rattle.fork_commands.proofs.Cited.{rows, resource_set, with_resource, set_found, set_others, renamed_found, renamed_others, Setting}
use Rattle.fork_commands.proofs.Cited.{bytes_alone, stated_naming, with_stated}
use Rattle.fork_commands.proofs.Pairs.{not_refused}

-- A resource was set to one that is stated.

pub stated_found : (s : Setting) (r : Ref) (c : Content) → found (big_number 4 s.key.ty.0) s.key.id (with_stated s r c)
    ≡ Some (renamed (stated_naming s r) (resource_set (big_number 4 s.key.ty.0) s.key.id (bytes_alone r) c))
unfolding with_stated
stated_found s r c =
    let kind : ℕ = big_number 4 s.key.ty.0 in
    renamed_found kind s.key.id (stated_naming s r) (with_resource kind s.key.id (bytes_alone r) c)
    (not_refused kind s.key.id (bytes_alone r) (stated_naming s r) c refl)
    ∙ ap (option_map (renamed (stated_naming s r))) (set_found kind s.key.id (bytes_alone r) c)

pub stated_others : (s : Setting) (r : Ref) (c : Content)
    → others (is_at (big_number 4 s.key.ty.0) s.key.id) (rows (with_stated s r c).groups)
    ≡ others (is_at (big_number 4 s.key.ty.0) s.key.id) (rows c.groups)
unfolding with_stated
stated_others s r c =
    let kind : ℕ = big_number 4 s.key.ty.0 in
    renamed_others kind s.key.id (stated_naming s r) (with_resource kind s.key.id (bytes_alone r) c)
    (not_refused kind s.key.id (bytes_alone r) (stated_naming s r) c refl)
    ∙ set_others kind s.key.id (bytes_alone r) c
