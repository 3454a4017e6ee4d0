use Rattle.res_calls.proofs.Cited.{◌≡◌, ℕ, List, [], ◌∷◌, ◌++◌, sym, ◌∙◌, ap, cond, ◌==◌, Option, Some, None, append_assoc, flat_map-append}
use Rattle.res_calls.proofs.Cited.{option_to_list, flat_map, cons_option, Memory, Role, inside, released, resource_role_at, released-roles}
use Rattle.res_calls.proofs.Cited.{Split, replaced, removed, Reference, is_handle, OpenFile, all_released, handles_of, role_in}
use Rattle.res_calls.proofs.Owning.Owners.{owner, owners_in, owners, OneOwnerEach}
use Rattle.res_calls.proofs.Owning.Lists.{lost}

-- A file is closed: its references go, and with them their handles.

-- references that go, between others that stay
released-owned : (before behind : List Role) (role : Role) (h : ℕ) (references : List Reference) (m : Memory)
    → before ++ (flat_map (owner h role) references ++ behind) ≡ option_to_list (resource_role_at h m.heap)
    → before ++ behind ≡ option_to_list (resource_role_at h (all_released (handles_of references) m).heap)
released-owned before behind role h [] m e = e
released-owned before behind role h (x ∷ references) m e =
    by_handle (λ n. released-owned before behind role h references n) x.handle e
  where
    rest : List Role
    rest = flat_map (owner h role) references

    by_handle : ((n : Memory) → before ++ (rest ++ behind) ≡ option_to_list (resource_role_at h n.heap)
        → before ++ behind ≡ option_to_list (resource_role_at h (all_released (handles_of references) n).heap))
        → (o : Option ℕ)
        → before ++ ((cond (is_handle h o) (role ∷ []) [] ++ rest) ++ behind)
        ≡ option_to_list (resource_role_at h m.heap)
        → before ++ behind
        ≡ option_to_list (resource_role_at h (all_released (cons_option o (handles_of references)) m).heap)
    by_handle again None e = again m e
    by_handle again (Some k) e =
        again (inside (released k) m)
        (lost (k == h) before (rest ++ behind) role (resource_role_at h m.heap)
        (ap (λ (l : List Role). before ++ l) (sym (append_assoc (cond (k == h) (role ∷ []) []) rest behind)) ∙ e)
        ∙ ap option_to_list (sym (released-roles k m.heap h)))

pub closed-owned : (chain : List OpenFile) (at : Split OpenFile) (m : Memory) → replaced at.here at ≡ chain
    → OneOwnerEach chain m.heap
    → OneOwnerEach (removed at) (all_released (handles_of at.here.map.references) m).heap
closed-owned chain at m whole one h =
    flat_map-append (owners_in h) at.before at.after
    ∙ released-owned (owners h at.before) (owners h at.after) (role_in at.here) h at.here.map.references m
    (sym (flat_map-append (owners_in h) at.before (at.here ∷ at.after)) ∙ ap (owners h) whole ∙ one h)
