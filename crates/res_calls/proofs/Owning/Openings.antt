use Rattle.res_calls.proofs.Cited.{◌≡◌, ℕ, Bool, true, false, ◌==◌, List, [], ◌∷◌, ◌++◌, refl, sym, ◌∙◌, ap, cond, Option, None, Result, Ok}
use Rattle.res_calls.proofs.Cited.{Err, append_assoc, map, Decides-eqb, flat_map-append, option_to_list, flat_map, OsErr, Ref, Group}
use Rattle.res_calls.proofs.Cited.{Memory, Role, Resource, new_inside, resource_role, resource_role_at, MakesHandle, filled-makes}
use Rattle.res_calls.proofs.Cited.{Reference, is_handle, is_preload, read_reference, of_group, of_groups, OpenFile, Managers, is_system}
use Rattle.res_calls.proofs.Cited.{flags_of, Loaded, given, preload_one, preload, loaded, with_loaded, role_in}
use Rattle.res_calls.proofs.Owning.Owners.{owner, owners, OneOwnerEach}
use Rattle.res_calls.proofs.Owning.Lists.{won, one-more}

-- A file is opened: none of its references has a handle yet, and those that are read then get one each.

-- references without handles
abbrev pub Bare : List Reference → Type 0
Bare [] = Unit {0}
Bare (x ∷ references) = (x.handle ≡ None) × Bare references

bare-append : (xs ys : List Reference) → Bare xs → Bare ys → Bare (xs ++ ys)
bare-append [] ys first later = later
bare-append (x ∷ xs) ys first later = (first.0, bare-append xs ys first.1 later)

bare-read : (kind : ℕ) (refs : List Ref) → Bare (map (read_reference kind) refs)
bare-read kind [] = tt
bare-read kind (r ∷ refs) = (refl, bare-read kind refs)

pub bare-groups : (groups : List Group) → Bare (of_groups groups)
bare-groups [] = tt
bare-groups (g ∷ groups) = bare-append (of_group g) (of_groups groups) (bare-read g.kind g.refs) (bare-groups groups)

-- such a reference owns no handle
bare-one : (h : ℕ) (role : Role) (x : Reference) → x.handle ≡ None → owner h role x ≡ []
bare-one h role x bare = ap (λ (o : Option ℕ). cond (is_handle h o) (role ∷ []) []) bare

pub bare-owners : (h : ℕ) (role : Role) (references : List Reference) → Bare references
    → flat_map (owner h role) references ≡ []
bare-owners h role [] bare = refl
bare-owners h role (x ∷ references) bare =
    ap (λ (l : List Role). l ++ flat_map (owner h role) references) (bare-one h role x bare.0)
    ∙ bare-owners h role references bare.1

-- what stands before the references and behind them, with what was loaded between
module _ (before behind : ℕ → List Role)
  where
    abbrev Between : Loaded → Type 0
    Between l = (h : ℕ) → (before h ++ flat_map (owner h Resource) l.references) ++ behind h
        ≡ option_to_list (resource_role_at h l.memory.heap)

    abbrev Around : Memory → Type 0
    Around m = (h : ℕ) → before h ++ behind h ≡ option_to_list (resource_role_at h m.heap)

    unread-between : (x : Reference) (m : Memory) → x.handle ≡ None → Around m
        → Between (record { references = x ∷ []; memory = m; reads = [] })
    unread-between x m bare around h =
        one-more (before h) (owner h Resource x) (behind h)
        ∙ ap (λ (l : List Role). before h ++ (l ++ behind h)) (bare-one h Resource x bare) ∙ around h

    given-between : (x : Reference) (m : Memory) → x.handle ≡ None → Around m → (y : Result ℕ OsErr × Memory)
        → MakesHandle Resource m.heap (y.0, y.1.heap) → Between (given x y)
    given-between x m bare around (Err code, n) made h =
        one-more (before h) (owner h Resource x) (behind h)
        ∙ ap (λ (l : List Role). before h ++ (l ++ behind h)) (bare-one h Resource x bare) ∙ around h
        ∙ ap option_to_list (sym (made h))
    given-between x m bare around (Ok k, n) made h =
        one-more (before h) (cond (k == h) (Resource ∷ []) []) (behind h)
        ∙ won (k == h) (before h) (behind h) Resource (resource_role_at h m.heap)
        (λ e. ap (λ (j : ℕ). resource_role_at j m.heap) (sym ((Decides-eqb k h).0 e)) ∙ made.0) (around h)
        ∙ ap option_to_list (sym (made.1 h))

    one-between : (x : Reference) (m : Memory) → x.handle ≡ None → Around m → Between (preload_one x m)
    one-between x m bare around = by_bit (is_preload x)
      where
        by_bit : (t : Bool)
            → Between (cond t (given x (new_inside Resource (flags_of x) x.stored.datum m))
            (record { references = x ∷ []; memory = m; reads = [] }))
        by_bit true = given-between x m bare around (new_inside Resource (flags_of x) x.stored.datum m)
            (filled-makes Resource (flags_of x) x.stored.datum m.heap)
        by_bit false = unread-between x m bare around

-- each reference that is read owns its handle
preload-owned : (references : List Reference) (m : Memory) (before behind : ℕ → List Role) → Bare references
    → ((h : ℕ) → before h ++ behind h ≡ option_to_list (resource_role_at h m.heap)) → (h : ℕ)
    → before h ++ (flat_map (owner h Resource) (preload references m).references ++ behind h)
    ≡ option_to_list (resource_role_at h (preload references m).memory.heap)
preload-owned [] m before behind bare around h = around h
preload-owned (x ∷ references) m before behind bare around h =
    let one : Loaded = preload_one x m in
    let rest : Loaded = preload references one.memory in
    let own : List Reference → List Role = flat_map (owner h Resource) in
    ap (λ (l : List Role). before h ++ (l ++ behind h))
    (flat_map-append (owner h Resource) one.references rest.references)
    ∙ ap (λ (l : List Role). before h ++ l) (append_assoc (own one.references) (own rest.references) (behind h))
    ∙ sym (append_assoc (before h) (own one.references) (own rest.references ++ behind h))
    ∙ preload-owned references one.memory (λ k. before k ++ flat_map (owner k Resource) one.references) behind bare.1
    (one-between before behind x m bare.0 around) h

-- a file of an application's own
pub loaded-owned : (f : OpenFile) (s : Managers) (older : List OpenFile) → is_system f ≡ false
    → Bare f.map.references → OneOwnerEach older s.memory.heap
    → OneOwnerEach (with_loaded (loaded f s) f ∷ older) (loaded f s).memory.heap
loaded-owned f s older own bare one h = by_loading s.resources.loading
  where
    unread : Loaded
    unread = record { references = f.map.references; memory = s.memory; reads = [] }

    role-is : role_in f ≡ Resource
    role-is = ap resource_role own

    by_role : (l : Loaded)
        → flat_map (owner h Resource) l.references ++ owners h older
        ≡ option_to_list (resource_role_at h l.memory.heap)
        → owners h (with_loaded l f ∷ older) ≡ option_to_list (resource_role_at h l.memory.heap)
    by_role l e =
        ap (λ (role : Role). flat_map (owner h role) l.references ++ owners h older) role-is ∙ e

    by_loading : (t : Bool)
        → owners h (with_loaded (cond t (preload f.map.references s.memory) unread) f ∷ older)
        ≡ option_to_list (resource_role_at h (cond t (preload f.map.references s.memory) unread).memory.heap)
    by_loading true = by_role (preload f.map.references s.memory)
        (preload-owned f.map.references s.memory (λ k. []) (λ k. owners k older) bare one h)
    by_loading false = by_role unread
        (ap (λ (l : List Role). l ++ owners h older) (bare-owners h Resource f.map.references bare) ∙ one h)
