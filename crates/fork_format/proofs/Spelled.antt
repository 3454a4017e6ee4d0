use Rattle.fork_format.proofs.Cited.{◌≡◌, ℕ, Bool, true, false, not, cond, ◌||◌, List, [], ◌∷◌, ◌++◌, length, map, refl, ◌≤◌, drop}
use Rattle.fork_format.proofs.Cited.{replicate, sym, ◌∙◌, ap, suc, ◌+◌, arith, ◌==◌, filter, nat_le, flat_map, list_all, list_any}
use Rattle.fork_format.proofs.Cited.{and_parts, le-leb, or_right, leb-true, length-take, length-drop, Ref, Group, Content, distinct, joined}
use Rattle.fork_format.proofs.Cited.{is_of, has_refs, are_distinct, Spells, group_at, ref_at, type_places, type_list, number, offsets}
use Rattle.fork_format.proofs.Cited.{area_of, part, data_start, map_start}
use Rattle.std.specs.Prelude.{◌&&◌}
use Rattle.fork_format.proofs.Bools.{same_self, and_both}
use Rattle.fork_format.proofs.Joining.{all_others, distinct-distinct}

-- The content that bytes spell: its groups have different types, and none is empty.

abbrev others : ℕ → List ℕ → List ℕ
others n ms = filter (λ m. not (m == n)) ms

-- a number that is among the types of groups is the type of one of them
is_weaker : (p q : ℕ → Bool) (ns : List ℕ) → ((n : ℕ) → p n ≡ true → q n ≡ true) → list_all p ns ≡ true
    → list_all q ns ≡ true
is_weaker p q [] weak h = refl
is_weaker p q (n ∷ ns) weak h =
    let both : (p n ≡ true) × (list_all p ns ≡ true) = and_parts (p n) (list_all p ns) h in
    and_both (q n) (list_all q ns) (weak n both.0) (is_weaker p q ns weak both.1)

kinds-any : (groups : List Group)
    → list_all (λ k. list_any (is_of k) groups) (map (λ (g : Group). g.kind) groups) ≡ true
kinds-any [] = refl
kinds-any (g ∷ groups) = and_both
    (list_any (is_of g.kind) (g ∷ groups)) _
    (ap (λ t. t || list_any (is_of g.kind) groups) (same_self g.kind))
    (is_weaker (λ k. list_any (is_of k) groups) (λ k. list_any (is_of k) (g ∷ groups))
    (map (λ (x : Group). x.kind) groups) (λ k h. or_right (is_of k g) (list_any (is_of k) groups) h)
    (kinds-any groups))

-- what all numbers pass, each of them once passes
pub distinct-all : (p : ℕ → Bool) (ns : List ℕ) → list_all p ns ≡ true → list_all p (distinct ns) ≡ true
distinct-all p [] h = refl
distinct-all p (n ∷ ns) h =
    let both : (p n ≡ true) × (list_all p ns ≡ true) = and_parts (p n) (list_all p ns) h in
    and_both (p n) (list_all p (others n (distinct ns))) both.0
    (all_others p n (distinct ns) (distinct-all p ns both.1))

-- a group of a type, joined
abbrev group_of : List Group → ℕ → Group
group_of groups k = record { kind = k; refs = flat_map (λ g. g.refs) (filter (is_of k) groups) }

some_first : (xs ys : List Ref) → nat_le 1 (length xs) ≡ true → nat_le 1 (length (xs ++ ys)) ≡ true
some_first [] ys h = cc
some_first (x ∷ xs) ys h = le-leb 1 (length ((x ∷ xs) ++ ys)) (omega arith)

has_refs-joined : (k : ℕ) (groups : List Group) → list_all has_refs groups ≡ true
    → list_any (is_of k) groups ≡ true → has_refs (group_of groups k) ≡ true
has_refs-joined k [] some any = cc
has_refs-joined k (g ∷ groups) some any =
    let both : (has_refs g ≡ true) × (list_all has_refs groups ≡ true) =
    and_parts (has_refs g) (list_all has_refs groups) some in
    cases (is_of k g) both.0 (has_refs-joined k groups both.1) any
  where
    cases : (t : Bool) → has_refs g ≡ true
        → (list_any (is_of k) groups ≡ true → has_refs (group_of groups k) ≡ true)
        → (t || list_any (is_of k) groups) ≡ true
        → nat_le 1 (length (flat_map (λ (x : Group). x.refs) (cond t (g ∷ filter (is_of k) groups)
        (filter (is_of k) groups)))) ≡ true
    cases true here again any = some_first g.refs _ here
    cases false here again any = again any

joined-has_refs : (groups : List Group) (ks : List ℕ) → list_all has_refs groups ≡ true
    → list_all (λ k. list_any (is_of k) groups) ks ≡ true → list_all has_refs (map (group_of groups) ks) ≡ true
joined-has_refs groups [] some any = refl
joined-has_refs groups (k ∷ ks) some any =
    let both : (list_any (is_of k) groups ≡ true)
    × (list_all (λ m. list_any (is_of m) groups) ks ≡ true) =
    and_parts (list_any (is_of k) groups) (list_all (λ m. list_any (is_of m) groups) ks) any in
    and_both (has_refs (group_of groups k)) (list_all has_refs (map (group_of groups) ks))
    (has_refs-joined k groups some both.0) (joined-has_refs groups ks some both.1)

kinds-joined : (groups : List Group) (ks : List ℕ) → map (λ (g : Group). g.kind) (map (group_of groups) ks) ≡ ks
kinds-joined groups [] = refl
kinds-joined groups (k ∷ ks) = ap (λ l. k ∷ l) (kinds-joined groups ks)

-- a type of a fork has a reference
some_offsets : (f : ℕ → Ref) (first n : ℕ) → nat_le 1 (length (map f (offsets first 12 (n + 1)))) ≡ true
some_offsets f first n =
    let e : n + 1 ≡ suc n = omega arith in
    ap (λ m. nat_le 1 (length (map f (offsets first 12 m)))) e
    ∙ le-leb 1 (suc (length (map f (offsets (first + 12) 12 n)))) (omega arith)

groups_have-refs : (bytes ats : List ℕ) → list_all has_refs (map (group_at bytes) ats) ≡ true
groups_have-refs bytes [] = refl
groups_have-refs bytes (at ∷ ats) = and_both (has_refs (group_at bytes at))
    (list_all has_refs (map (group_at bytes) ats))
    (some_offsets (ref_at bytes) (type_list bytes + number 2 (at + 6) bytes) (number 2 (at + 4) bytes))
    (groups_have-refs bytes ats)

pub spelled_types : (bytes : List ℕ) (c : Content) → Spells bytes c → are_distinct (map (λ g. g.kind) c.groups) ≡ true
spelled_types bytes c s =
    let gs : List Group = map (group_at bytes) (type_places bytes) in
    let is : c.groups ≡ joined gs = ap (λ (d : Content). d.groups) (sym s.content) in
    ap (λ l. are_distinct (map (λ (g : Group). g.kind) l)) is
    ∙ ap are_distinct (kinds-joined gs (distinct (map (λ (g : Group). g.kind) gs)))
    ∙ distinct-distinct (map (λ (g : Group). g.kind) gs)

pub spelled_references : (bytes : List ℕ) (c : Content) → Spells bytes c → list_all has_refs c.groups ≡ true
spelled_references bytes c s =
    let gs : List Group = map (group_at bytes) (type_places bytes) in
    let is : c.groups ≡ joined gs = ap (λ (d : Content). d.groups) (sym s.content) in
    ap (list_all has_refs) is
    ∙ joined-has_refs gs (distinct (map (λ (g : Group). g.kind) gs)) (groups_have-refs bytes (type_places bytes))
    (distinct-all (λ k. list_any (is_of k) gs) (map (λ (g : Group). g.kind) gs) (kinds-any gs))

-- the area after the header is always whole
pub area_whole : (bytes : List ℕ) → length (area_of bytes) ≡ 240
area_whole bytes = cases (nat_le 256 (length bytes)) (nat_le 256 (data_start bytes)) (nat_le 256 (map_start bytes)) refl
  where
    cases : (a b d : Bool) → nat_le 256 (length bytes) ≡ a
        → length (cond (a && b && d) (part 240 16 bytes) (replicate 240 0)) ≡ 240
    cases true true true e =
        let long : 256 ≤ length bytes = leb-true 256 (length bytes) e in
        let f = length-take 240 (drop 16 bytes) in let g = length-drop 16 bytes in omega (arith, f, g, long)
    cases true true false e = refl
    cases true false d e = refl
    cases false b d e = refl
