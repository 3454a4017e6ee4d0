use Rattle.fork_format.proofs.Cited.{◌≡◌, ℕ, ◌+◌, Bool, true, false, cond, List, [], ◌∷◌, ◌++◌, map, refl, ◌∙◌, ap, subst, filter, flat_map}
use Rattle.fork_format.proofs.Cited.{and_assoc, map-append, Ref, Group, Content, is_of, distinct, joined, number, kept, map_kept, ref_at}
use Rattle.fork_format.proofs.Cited.{ref_places, group_at, type_places, content_of, Spells, map_start, clear_ref, clear_group, clear}

-- What bytes spell has none of the bits that a reader clears.

kept_kept : (attrs : ℕ) → kept (kept attrs) ≡ kept attrs
kept_kept attrs = and_assoc 253 attrs 253

map_kept_kept : (attrs : ℕ) → map_kept (map_kept attrs) ≡ map_kept attrs
map_kept_kept attrs = and_assoc 65439 attrs 65439

ref_clear : (bytes : List ℕ) (at : ℕ) → clear_ref (ref_at bytes at) ≡ ref_at bytes at
ref_clear bytes at = ap (λ attrs. record (ref_at bytes at) { attrs = attrs }) (kept_kept (number 1 (at + 4) bytes))

refs_clear : (bytes places : List ℕ) → map clear_ref (map (ref_at bytes) places) ≡ map (ref_at bytes) places
refs_clear bytes [] = refl
refs_clear bytes (at ∷ places) =
    ap (λ r. r ∷ map clear_ref (map (ref_at bytes) places)) (ref_clear bytes at)
    ∙ ap (λ refs. ref_at bytes at ∷ refs) (refs_clear bytes places)

-- the resources of the groups of a type
abbrev of_kind : List ℕ → List ℕ → ℕ → List Ref
of_kind bytes places kind = flat_map (λ g. g.refs) (filter (is_of kind) (map (group_at bytes) places))

-- a group more, of the type or of another
one_more : (bytes : List ℕ) (at : ℕ) (others : List Group) (t : Bool)
    → map clear_ref (flat_map (λ g. g.refs) others) ≡ flat_map (λ g. g.refs) others
    → map clear_ref (flat_map (λ g. g.refs) (cond t (group_at bytes at ∷ others) others))
    ≡ flat_map (λ g. g.refs) (cond t (group_at bytes at ∷ others) others)
one_more bytes at others false clear = clear
one_more bytes at others true clear =
    let refs : List Ref = map (ref_at bytes) (ref_places at bytes) in
    let rest : List Ref = flat_map (λ (g : Group). g.refs) others in
    map-append clear_ref refs rest ∙ ap (λ l. l ++ map clear_ref rest) (refs_clear bytes (ref_places at bytes))
    ∙ ap (λ l. refs ++ l) clear

some_clear : (bytes places : List ℕ) (kind : ℕ) → map clear_ref (of_kind bytes places kind) ≡ of_kind bytes places kind
some_clear bytes [] kind = refl
some_clear bytes (at ∷ places) kind =
    one_more bytes at (filter (is_of kind) (map (group_at bytes) places)) (is_of kind (group_at bytes at))
    (some_clear bytes places kind)

-- the groups of types
abbrev of_kinds : List ℕ → List ℕ → List ℕ → List Group
of_kinds bytes places kinds = map (λ kind. record { kind = kind; refs = of_kind bytes places kind }) kinds

groups_clear : (bytes places kinds : List ℕ)
    → map clear_group (of_kinds bytes places kinds) ≡ of_kinds bytes places kinds
groups_clear bytes places [] = refl
groups_clear bytes places (kind ∷ kinds) =
    ap (λ refs. record { kind = kind; refs = refs } ∷ map clear_group (of_kinds bytes places kinds))
    (some_clear bytes places kind)
    ∙ ap (λ gs. record { kind = kind; refs = of_kind bytes places kind } ∷ gs) (groups_clear bytes places kinds)

content_clear : (bytes : List ℕ) → clear (content_of bytes) ≡ content_of bytes
content_clear bytes =
    let places = type_places bytes in
    let groups : List Group = joined (map (group_at bytes) places) in
    let attrs : ℕ = number 2 (map_start bytes + 22) bytes in
    ap (λ n. record { area = (content_of bytes).area; attrs = n; groups = map clear_group groups }) (map_kept_kept attrs)
    ∙ ap (λ gs. record { area = (content_of bytes).area; attrs = map_kept attrs; groups = gs })
    (groups_clear bytes places (distinct (map (λ g. g.kind) (map (group_at bytes) places))))

pub spelled_clear : (bytes : List ℕ) (c : Content) → Spells bytes c → clear c ≡ c
spelled_clear bytes c spells = subst (λ d. clear d ≡ d) spells.content (content_clear bytes)

-- what is clear once is clear

ref_twice : (r : Ref) → clear_ref (clear_ref r) ≡ clear_ref r
ref_twice r = ap (λ attrs. record r { attrs = attrs }) (kept_kept r.attrs)

refs_twice : (refs : List Ref) → map clear_ref (map clear_ref refs) ≡ map clear_ref refs
refs_twice [] = refl
refs_twice (r ∷ refs) = ap (λ s. s ∷ map clear_ref (map clear_ref refs)) (ref_twice r)
    ∙ ap (λ l. clear_ref r ∷ l) (refs_twice refs)

groups_twice : (groups : List Group) → map clear_group (map clear_group groups) ≡ map clear_group groups
groups_twice [] = refl
groups_twice (g ∷ groups) =
    ap (λ refs. record g { refs = refs } ∷ map clear_group (map clear_group groups)) (refs_twice g.refs)
    ∙ ap (λ l. clear_group g ∷ l) (groups_twice groups)

pub clear_clear : (c : Content) → clear (clear c) ≡ clear c
clear_clear c =
    ap (λ attrs. record { area = c.area; attrs = attrs; groups = map clear_group (map clear_group c.groups) })
    (map_kept_kept c.attrs)
    ∙ ap (λ groups. record { area = c.area; attrs = map_kept c.attrs; groups = groups }) (groups_twice c.groups)
