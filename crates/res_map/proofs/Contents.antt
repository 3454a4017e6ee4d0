use Rattle.res_map.proofs.Cited.{◌≡◌, ℕ, Bool, true, false, not, cond, ◌||◌, List, [], ◌∷◌, ◌++◌, length, map, take, drop, Option, None}
use Rattle.res_map.proofs.Cited.{refl, sym, ◌∙◌, ap, suc, ◌==◌, list_all, and_parts, Ref, Group, Content, has_refs, are_distinct, same_self}
use Rattle.res_map.proofs.Cited.{and_both, Reference, Map, IsOrdered, types, starts_with, stand_together, read_reference, with_handle}
use Rattle.res_map.proofs.Cited.{of_groups, group_of, groups_of, all_anew, content, map_of, leading_count, stored_group, leading_groups}
use Rattle.res_map.proofs.Anew.{kinds-anew}
use Rattle.res_map.proofs.Order.{kinds_of, ordered-kinds}
use Rattle.res_map.proofs.Runs.{none-of, runs_are, runs-read}
use Rattle.res_map.proofs.TypeLists.{is_apart}
use Rattle.res_map.proofs.Types.{types-groups}

-- The map of a content, and the content of a map.

abbrev group_kinds : List Group → List ℕ
group_kinds groups = map (λ (g : Group). g.kind) groups

-- the references of a group stand together, before others
apart-group : (kind k : ℕ) (refs : List Ref) (rest : List Reference) → not (k == kind) ≡ true
    → is_apart kind (kinds_of rest) ≡ true → is_apart kind (kinds_of (map (read_reference k) refs ++ rest)) ≡ true
apart-group kind k [] rest other h = h
apart-group kind k (r ∷ refs) rest other h =
    and_both (not (k == kind)) (is_apart kind (kinds_of (map (read_reference k) refs ++ rest))) other
    (apart-group kind k refs rest other h)

apart-groups : (kind : ℕ) (groups : List Group) → is_apart kind (group_kinds groups) ≡ true
    → is_apart kind (kinds_of (of_groups groups)) ≡ true
apart-groups kind [] h = refl
apart-groups kind (g ∷ groups) h =
    let both : (not (g.kind == kind) ≡ true) × (is_apart kind (group_kinds groups) ≡ true) =
    and_parts (not (g.kind == kind)) (is_apart kind (group_kinds groups)) h in
    apart-group kind g.kind g.refs (of_groups groups) both.0 (apart-groups kind groups both.1)

or_true : (a : Bool) → (a || true) ≡ true
or_true true = refl
or_true false = refl

together-group : (k : ℕ) (refs : List Ref) (rest : List Reference) → is_apart k (kinds_of rest) ≡ true
    → stand_together (kinds_of rest) ≡ true
    → stand_together (kinds_of (map (read_reference k) refs ++ rest)) ≡ true
together-group k [] rest other h = h
together-group k (r ∷ []) rest other h =
    and_both (starts_with k (kinds_of rest) || is_apart k (kinds_of rest)) (stand_together (kinds_of rest))
    (ap (λ t. starts_with k (kinds_of rest) || t) other ∙ or_true (starts_with k (kinds_of rest))) h
together-group k (r ∷ s ∷ refs) rest other h =
    let more : List ℕ = kinds_of (map (read_reference k) (s ∷ refs) ++ rest) in
    and_both (starts_with k more || is_apart k more) (stand_together more)
    (ap (λ t. t || is_apart k more) (same_self k)) (together-group k (s ∷ refs) rest other h)

pub together-groups : (groups : List Group) → are_distinct (group_kinds groups) ≡ true
    → stand_together (kinds_of (of_groups groups)) ≡ true
together-groups [] h = refl
together-groups (g ∷ groups) h =
    let both : (is_apart g.kind (group_kinds groups) ≡ true) × (are_distinct (group_kinds groups) ≡ true) =
    and_parts (is_apart g.kind (group_kinds groups)) (are_distinct (group_kinds groups)) h in
    together-group g.kind g.refs (of_groups groups) (apart-groups g.kind groups both.0) (together-groups groups both.1)

-- the references of a content that is opened are ordered, beside its types
pub ordered_groups : (groups : List Group) (kinds : List ℕ) (references : List Reference)
    → are_distinct (group_kinds groups) ≡ true → list_all has_refs groups ≡ true → kinds ≡ group_kinds groups
    → references ≡ of_groups groups → IsOrdered kinds references
ordered_groups groups kinds references apart some kinds_are are = record {
  types = kinds_are ∙ sym (types-groups groups apart some) ∙ ap types (sym are);
  together = ap (λ l. stand_together (kinds_of l)) are ∙ together-groups groups apart;
}

-- the run of a group's references is all of it
run-group : (k : ℕ) (refs : List Ref) (rest : List Reference) → is_apart k (kinds_of rest) ≡ true
    → leading_count k (map (read_reference k) refs ++ rest) ≡ length refs
run-group k [] rest h = (none-of k rest h).1
run-group k (r ∷ refs) rest h =
    ap (λ t. cond t (suc (leading_count k (map (read_reference k) refs ++ rest))) 0) (same_self k)
    ∙ ap suc (run-group k refs rest h)

stored-group : (k : ℕ) (refs : List Ref) (rest : List Reference)
    → map (λ (r : Reference). r.stored) (take (length refs) (map (read_reference k) refs ++ rest)) ≡ refs
stored-group k [] rest = refl
stored-group k (r ∷ refs) rest = ap (λ l. r ∷ l) (stored-group k refs rest)

behind-group : (k : ℕ) (refs : List Ref) (rest : List Reference)
    → drop (length refs) (map (read_reference k) refs ++ rest) ≡ rest
behind-group k [] rest = refl
behind-group k (r ∷ refs) rest = behind-group k refs rest

runs-groups : (groups : List Group) → are_distinct (group_kinds groups) ≡ true
    → leading_groups (group_kinds groups) (of_groups groups) ≡ groups
runs-groups [] h = refl
runs-groups (g ∷ groups) h =
    let both : (is_apart g.kind (group_kinds groups) ≡ true) × (are_distinct (group_kinds groups) ≡ true) =
    and_parts (is_apart g.kind (group_kinds groups)) (are_distinct (group_kinds groups)) h in
    let all : List Reference = of_groups (g ∷ groups) in
    ap (λ n. stored_group g.kind (take n all) ∷ leading_groups (group_kinds groups) (drop n all))
    (run-group g.kind g.refs (of_groups groups) (apart-groups g.kind groups both.0))
    ∙ ap (λ l. (let x : Group = record { kind = g.kind; refs = l } in x)
    ∷ leading_groups (group_kinds groups) (drop (length g.refs) all)) (stored-group g.kind g.refs (of_groups groups))
    ∙ ap (λ l. g ∷ leading_groups (group_kinds groups) l) (behind-group g.kind g.refs (of_groups groups))
    ∙ ap (λ l. g ∷ l) (runs-groups groups both.1)

-- the groups of a content that is opened are its own
pub groups-told : (groups : List Group) → are_distinct (group_kinds groups) ≡ true → list_all has_refs groups ≡ true
    → groups_of (of_groups groups) ≡ groups
groups-told groups apart some =
    let kinds : group_kinds groups ≡ types (of_groups groups) = sym (types-groups groups apart some) in
    ap (map (group_of (of_groups groups))) (sym kinds)
    ∙ sym (runs_are (group_kinds groups) (of_groups groups) kinds (together-groups groups apart))
    ∙ runs-groups groups apart

-- a content that is opened is told again
pub content_told : (c : Content) → are_distinct (map (λ (g : Group). g.kind) c.groups) ≡ true
    → list_all has_refs c.groups ≡ true → content (map_of c) ≡ c
content_told c apart some =
    ap (λ l. let x : Content = record { area = c.area; attrs = c.attrs; groups = l } in x)
    (groups-told c.groups apart some)

-- what a map's content is opened as: its references, none with a handle
pub references-told : (references : List Reference) → stand_together (kinds_of references) ≡ true
    → of_groups (groups_of references) ≡ map (with_handle None) references
references-told references together =
    ap of_groups (sym (runs_are (types references) references refl together))
    ∙ runs-read (types references) references refl together

pub map_told : (m : Map) → stand_together (map (λ (r : Reference). r.kind) m.references) ≡ true
    → map_of (content m) ≡ record m { references = map (with_handle None) m.references }
map_told m together =
    ap (λ l. let x : Map = record { area = m.area; attrs = m.attrs; references = l } in x)
    (references-told m.references together)

-- references that are stored anew are ordered as they were
pub ordered_anew : (kinds : List ℕ) (all : List (Option (List ℕ))) (references stored : List Reference)
    → IsOrdered kinds references → stored ≡ all_anew all references → IsOrdered kinds stored
ordered_anew kinds all references stored is anew =
    ordered-kinds kinds references stored (ap kinds_of anew ∙ kinds-anew all references) is

-- the groups of ordered references are those of their runs
pub runs_ordered : (kinds : List ℕ) (references : List Reference) → IsOrdered kinds references
    → leading_groups kinds references ≡ groups_of references
runs_ordered kinds references is = runs_are kinds references is.types is.together
    ∙ ap (map (group_of references)) is.types
