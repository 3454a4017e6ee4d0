use Rattle.fork_format.proofs.Cited.{◌≡◌, ℕ, ◌+◌, ◌*◌, ◌%◌, ◌<◌, ◌≤◌, ◌^◌, true, List, [], ◌∷◌, ◌++◌, length, map, refl, ◌∙◌, ap, subst}
use Rattle.fork_format.proofs.Cited.{arith, Option, Some, None, length-append, ◌⊎◌, inl, inr, nat_le, IfSome, flat_map, list_all}
use Rattle.fork_format.proofs.Cited.{AllByRecursion, leb-true, and_parts, big_bytes, Ref, Group, Content, refs_of, IsRef, IsGroup}
use Rattle.fork_format.proofs.Cited.{IsContent, datum, name, fits, has_refs, all_within, starts, name_start, name_starts, name_or_none}
use Rattle.fork_format.proofs.Cited.{refs_offset, names_offset, names_of, data_of, lists, types, references, Spells, canon, clear}
use Rattle.fork_format.proofs.Cited.{most_data}
use Rattle.fork_format.proofs.Again.{AreLow}
use Rattle.fork_format.proofs.Groups.{AreLowGroups, length-references}
use Rattle.fork_format.proofs.Whole.{CanSpell, length-types}
use Rattle.fork_format.proofs.Lying.{spells_again}
use Rattle.fork_format.proofs.Extending.{FitsByParts, fits-tells}

all_two : (xs ys : List Ref) → AllByRecursion IsRef xs → AllByRecursion IsRef ys → AllByRecursion IsRef (xs ++ ys)
all_two [] ys p q = q
all_two (x ∷ xs) ys p q = (p.0, all_two xs ys p.1 q)

all_refs : (groups : List Group) → AllByRecursion IsGroup groups → AllByRecursion IsRef (refs_of groups)
all_refs [] all = tt
all_refs (g ∷ groups) all = let first : IsGroup g = all.0 in
    all_two g.refs (refs_of groups) first.refs (all_refs groups all.1)

-- what the tests of the offsets tell of a first reference
low_name : (n : ℕ) (o : Option (List ℕ)) (others : List ℕ) → all_within 65534 (name_start n o others) ≡ true
    → IfSome o (λ text. n ≤ 65534) × (all_within 65534 others ≡ true)
low_name n None others h = (tt, h)
low_name n (Some text) others h = let both : (nat_le n 65534 ≡ true) × (all_within 65534 others ≡ true) =
    and_parts _ _ h in (leb-true n 65534 both.0, both.1)

low_refs : (refs : List Ref) (d n : ℕ) → AllByRecursion IsRef refs
    → all_within 16777215 (starts d (map (λ r. length (datum r)) refs)) ≡ true
    → all_within 65534 (name_starts n refs) ≡ true
    → length (flat_map datum refs) ≤ most_data → AreLow d n refs
low_refs [] d n all low names small = tt
low_refs (r ∷ refs) d n all low names small =
    let first : IsRef r = all.0 in
    let both : (nat_le d 16777215 ≡ true) × (all_within 16777215
    (starts (d + length (datum r)) (map (λ (x : Ref). length (datum x)) refs)) ≡ true) = and_parts _ _ low in
    let name_low : IfSome r.name (λ text. n ≤ 65534) × (all_within 65534 (name_starts (n + length (name r)) refs)
    ≡ true) = low_name n r.name (name_starts (n + length (name r)) refs) names in
    let size : length (flat_map datum (r ∷ refs)) ≡ length (datum r) + length (flat_map datum refs) =
    length-append (datum r) (flat_map datum refs) in (
      record { id = first.id; attrs = first.attrs; datum = omega arith },
      leb-true d 16777215 both.0,
      name_low.0,
      low_refs refs (d + length (datum r)) (n + length (name r)) all.1 both.1 name_low.1 (omega arith),
    )

low_split : (xs ys : List Ref) (d n : ℕ) → AreLow d n (xs ++ ys)
    → AreLow d n xs × AreLow (d + length (flat_map datum xs)) (n + length (flat_map name xs)) ys
low_split [] ys d n low = let e : d ≡ d + 0 = omega arith in let f : n ≡ n + 0 = omega arith in
    (tt, subst (λ k. AreLow (d + 0) k ys) f (subst (λ k. AreLow k n ys) e low))
low_split (x ∷ xs) ys d n low =
    let rest : AreLow (d + length (datum x)) (n + length (name x)) xs
    × AreLow (d + length (datum x) + length (flat_map datum xs)) (n + length (name x) + length (flat_map name xs))
    ys = low_split xs ys (d + length (datum x)) (n + length (name x)) low.3 in
    let e : d + length (datum x) + length (flat_map datum xs) ≡ d + length (flat_map datum (x ∷ xs)) =
    rw (length-append (datum x) (flat_map datum xs)) (omega arith) in
    let f : n + length (name x) + length (flat_map name xs) ≡ n + length (flat_map name (x ∷ xs)) =
    rw (length-append (name x) (flat_map name xs)) (omega arith) in (
      (low.0, low.1, low.2, rest.0),
      subst (λ k. AreLow (d + length (flat_map datum (x ∷ xs))) k ys) f
          (subst (λ k. AreLow k (n + length (name x) + length (flat_map name xs)) ys) e rest.1),
    )

low_groups : (groups : List Group) (at d n : ℕ) → AllByRecursion IsGroup groups → list_all has_refs groups ≡ true
    → all_within 65535 (starts at (map (λ g. 12 * length g.refs) groups)) ≡ true
    → length (refs_of groups) ≤ 65536 → AreLow d n (refs_of groups) → AreLowGroups at d n groups
low_groups [] at d n all some low few refs = tt
low_groups (g ∷ groups) at d n all some low few refs =
    let first : IsGroup g = all.0 in
    let both : (has_refs g ≡ true) × (list_all has_refs groups ≡ true) = and_parts _ _ some in
    let starts_low : (nat_le at 65535 ≡ true) × (all_within 65535
    (starts (at + 12 * length g.refs) (map (λ (x : Group). 12 * length x.refs) groups)) ≡ true) =
    and_parts _ _ low in
    let one : 1 ≤ length g.refs = leb-true 1 (length g.refs) both.0 in
    let two : AreLow d n g.refs × AreLow (d + length (flat_map datum g.refs)) (n + length (flat_map name g.refs))
    (refs_of groups) = low_split g.refs (refs_of groups) d n refs in
    let size : length (refs_of (g ∷ groups)) ≡ length g.refs + length (refs_of groups) =
    length-append g.refs (refs_of groups) in (
      first.kind,
      omega arith,
      omega arith,
      leb-true at 65535 starts_low.0,
      two.0,
      low_groups groups (at + 12 * length g.refs) _ _ all.1 both.1 starts_low.1 (omega arith) two.1,
    )

-- names that begin low enough end low enough
names_short : (refs : List Ref) (n : ℕ) → AllByRecursion IsRef refs → all_within 65534 (name_starts n refs) ≡ true
    → (length (flat_map name refs) ≡ 0) ⊎ (n + length (flat_map name refs) ≤ 65790)
names_short [] n all low = inl refl
names_short (r ∷ refs) n all low =
    let first : IsRef r = all.0 in
    let name_low : IfSome r.name (λ text. n ≤ 65534) × (all_within 65534 (name_starts (n + length (name r)) refs)
    ≡ true) = low_name n r.name (name_starts (n + length (name r)) refs) low in
    cases r.name first.name name_low.0 (names_short refs (n + length (name r)) all.1 name_low.1)
  where
    cases : (o : Option (List ℕ)) → IfSome o (λ text. length text ≤ 255) → IfSome o (λ text. n ≤ 65534)
        → (length (flat_map name refs) ≡ 0) ⊎ (n + length (name_or_none o) + length (flat_map name refs) ≤ 65790)
        → (length (name_or_none o ++ flat_map name refs) ≡ 0)
        ⊎ (n + length (name_or_none o ++ flat_map name refs) ≤ 65790)
    cases None short low (inl none) = inl none
    cases None short low (inr end) = inr (omega arith)
    cases (Some text) short low (inl none) = let size : length (text ++ flat_map name refs)
        ≡ length text + length (flat_map name refs) = length-append text (flat_map name refs) in inr (omega arith)
    cases (Some text) short low (inr end) = let size : length (text ++ flat_map name refs)
        ≡ length text + length (flat_map name refs) = length-append text (flat_map name refs) in inr (omega arith)

-- a content that fits can be spelled
pub can_spell : (c : Content) → IsContent c → fits c ≡ true → CanSpell c
can_spell c is h =
    let gs : List Group = c.groups in
    let p : FitsByParts gs = fits-tells c h in
    let names : names_offset gs ≤ 65535 = p.names_at in
    let small : length (data_of gs) ≤ most_data = p.small in
    let refs : AllByRecursion IsRef (refs_of gs) = all_refs gs is.groups in
    let low : AreLow 0 0 (refs_of gs) = low_refs (refs_of gs) 0 0 refs p.data_starts p.names small in
    let n2 : length (types (refs_offset gs) gs) ≡ 8 * length gs = length-types (refs_offset gs) gs in
    let n3 : length (references 0 0 (refs_of gs)) ≡ 12 * length (refs_of gs) = length-references 0 0 (refs_of gs) in
    let n4 : length (lists gs) ≡ 2 + 8 * length gs + 12 * length (refs_of gs) + length (names_of gs) =
    length-append (types2 gs ++ references 0 0 (refs_of gs)) (names_of gs)
    ∙ ap (λ n. n + length (names_of gs)) (length-append (types2 gs) (references 0 0 (refs_of gs))) ∙ omega arith in
    record {
      area = is.area;
      attrs = is.attrs;
      low = low_groups gs (refs_offset gs) 0 0 is.groups p.some p.lists (omega arith) low;
      different = p.different;
      few = p.few;
      names = names;
      small = small;
      short = short (names_short (refs_of gs) 0 refs p.names) n4 names;
    }
  where
    types2 : List Group → List ℕ
    types2 gs = big_bytes 2 ((length gs + 65535) % 65536) ++ types (refs_offset gs) gs

    short : (length (names_of c.groups) ≡ 0) ⊎ (0 + length (names_of c.groups) ≤ 65790)
        → length (lists c.groups) ≡ 2 + 8 * length c.groups + 12 * length (refs_of c.groups) + length
        (names_of c.groups)
        → names_offset c.groups ≤ 65535 → 28 + length (lists c.groups) < 2 ^ 32
    short (inl none) size low = omega arith
    short (inr end) size low = omega arith

-- a content that fits is spelled by its canonical fork, as it is read again
pub canon_spells : (c : Content) → IsContent c → fits c ≡ true → Spells (canon c) (clear c)
canon_spells c is h = spells_again c (can_spell c is h)
