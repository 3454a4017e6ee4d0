use Rattle.fork_commands.proofs.Cited.{◌≡◌, true, false, Option, Some, None, Ok, Err, refl, ap, sym, ◌∙◌, is_some, big_number}
use Rattle.fork_commands.proofs.Cited.{RES_NOT_FOUND, Ref, Content, RenameFault, found, without_resource, Renaming, with_renamed, refusal}
use Rattle.fork_commands.proofs.Cited.{Naming, Remove, Rename, FileFault, Code, ResourceKey, edited, rename_fault, view_naming}

-- Edits of one resource of a content.

-- a resource was taken out
pub removed_there : (key : ResourceKey) (c d : Content) (taken : Option Ref)
    → taken ≡ found (big_number 4 key.ty.0) key.id c → is_some taken ≡ true
    → d ≡ without_resource (big_number 4 key.ty.0) key.id c → edited (Remove key) c ≡ Ok d
unfolding edited
removed_there key c d taken is some left = rw (← is) (rw some (ap Ok (sym left)))

-- there was none
pub removed_not : (key : ResourceKey) (c : Content) (taken : Option Ref)
    → taken ≡ found (big_number 4 key.ty.0) key.id c → is_some taken ≡ false
    → edited (Remove key) c ≡ Err (Code RES_NOT_FOUND)
unfolding edited
removed_not key c taken is none = rw (← is) (rw none refl)

-- a resource was renamed
pub renamed_there : (key : ResourceKey) (new : Naming) (gets : Renaming) (c d : Content) → gets ≡ view_naming new
    → refusal (big_number 4 key.ty.0) key.id gets c ≡ None
    → d ≡ with_renamed (big_number 4 key.ty.0) key.id gets c → edited (Rename key new) c ≡ Ok d
unfolding edited
renamed_there key new gets c d given none is =
    let free : refusal (big_number 4 key.ty.0) key.id (view_naming new) c ≡ None =
    ap (λ g. refusal (big_number 4 key.ty.0) key.id g c) (sym given) ∙ none in
    rw free (ap Ok (sym (is ∙ ap (λ g. with_renamed (big_number 4 key.ty.0) key.id g c) given)))

-- why it was not
pub renamed_not : (key : ResourceKey) (new : Naming) (gets : Renaming) (c : Content) (why : RenameFault) (told : FileFault)
    → gets ≡ view_naming new → refusal (big_number 4 key.ty.0) key.id gets c ≡ Some why → told ≡ rename_fault why
    → edited (Rename key new) c ≡ Err told
unfolding edited
renamed_not key new gets c why told given some is =
    let refused : refusal (big_number 4 key.ty.0) key.id (view_naming new) c ≡ Some why =
    ap (λ g. refusal (big_number 4 key.ty.0) key.id g c) (sym given) ∙ some in
    rw refused (ap Err (sym is))
