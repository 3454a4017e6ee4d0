use Rattle.fork_format.proofs.Cited.{◌≡◌, ℕ, ◌+◌, ◌-◌, ◌*◌, ◌<◌, ◌≤◌, ◌^◌, List, [], ◌∷◌, ◌++◌, length, map, refl, sym, ◌∙◌, ap, subst}
use Rattle.fork_format.proofs.Cited.{arith, append_assoc, length-append, flat_map, big_bytes, Ref, Group, refs_of, number, offsets}
use Rattle.fork_format.proofs.Cited.{data_start, name_list, type_list, ref_at, ref_places, ref_count, group_at, datum, name, reference}
use Rattle.fork_format.proofs.Cited.{references, types, clear_ref, clear_group}
use Rattle.fork_format.proofs.Standing.{StandsAt, stands_first, stands_second, stands_same, number-stands}
use Rattle.fork_format.proofs.Again.{AreLow, refs_again}

pub flat_map-two : {A : Type 0} (f : A → List ℕ) (xs ys : List A)
    → flat_map f (xs ++ ys) ≡ flat_map f xs ++ flat_map f ys
flat_map-two f [] ys = refl
flat_map-two f (x ∷ xs) ys = ap (λ l. f x ++ l) (flat_map-two f xs ys)
    ∙ sym (append_assoc (f x) (flat_map f xs) (flat_map f ys))

pub length-references : (d n : ℕ) (refs : List Ref) → length (references d n refs) ≡ 12 * length refs
length-references d n [] = refl
length-references d n (r ∷ refs) =
    let e : length (references (d + length (datum r)) (n + length (name r)) refs) ≡ 12 * length refs =
    length-references (d + length (datum r)) (n + length (name r)) refs in
    length-append (reference d n r) (references (d + length (datum r)) (n + length (name r)) refs) ∙ omega arith

-- the data and names of more references stand behind those of the first ones
pub references-two : (d n : ℕ) (xs ys : List Ref) → references d n (xs ++ ys) ≡ references d n xs
    ++ references (d + length (flat_map datum xs)) (n + length (flat_map name xs)) ys
references-two d n [] ys = let e : d ≡ d + 0 = omega arith in let f : n ≡ n + 0 = omega arith in
    ap (λ k. references k n ys) e ∙ ap (λ k. references (d + 0) k ys) f
references-two d n (x ∷ xs) ys =
    let e : d + length (datum x) + length (flat_map datum xs) ≡ d + length (flat_map datum (x ∷ xs)) =
    rw (length-append (datum x) (flat_map datum xs)) (omega arith) in
    let f : n + length (name x) + length (flat_map name xs) ≡ n + length (flat_map name (x ∷ xs)) =
    rw (length-append (name x) (flat_map name xs)) (omega arith) in
    ap (λ l. reference d n x ++ l) (references-two (d + length (datum x)) (n + length (name x)) xs ys
    ∙ ap (λ k. references (d + length (datum x)) (n + length (name x)) xs
    ++ references k (n + length (name x) + length (flat_map name xs)) ys) e
    ∙ ap (λ k. references (d + length (datum x)) (n + length (name x)) xs
    ++ references (d + length (flat_map datum (x ∷ xs))) k ys) f)
    ∙ sym (append_assoc (reference d n x) (references (d + length (datum x)) (n + length (name x)) xs) _)

-- groups whose references, data and names begin low enough
abbrev pub AreLowGroups : ℕ → ℕ → ℕ → List Group → Type 0
AreLowGroups at d n [] = Unit {0}
AreLowGroups at d n (g ∷ groups) =
    (g.kind < 2 ^ 32) × (0 < length g.refs) × (length g.refs ≤ 65536) × (at ≤ 65535) × AreLow d n g.refs
    × AreLowGroups (at + 12 * length g.refs) (d + length (flat_map datum g.refs)) (n + length (flat_map name g.refs))
    groups

-- where the parts of a first group stand, and those of the groups behind it
pub record GroupStands (g : Group) (groups : List Group) (t at d n : ℕ) (bytes : List ℕ) : Type 0 where
  pub kind : number 4 t bytes ≡ g.kind
  pub counted : number 2 (t + 4) bytes + 1 ≡ length g.refs
  pub places : ref_places t bytes ≡ offsets (type_list bytes + at) 12 (length g.refs)
  pub own_refs : StandsAt (references d n g.refs) (type_list bytes + at) bytes
  pub own_data : StandsAt (flat_map datum g.refs) (data_start bytes + d) bytes
  pub own_names : StandsAt (flat_map name g.refs) (name_list bytes + n) bytes
  pub more_types : StandsAt (types (at + 12 * length g.refs) groups) (t + 8) bytes
  pub more_refs : StandsAt
      (references (d + length (flat_map datum g.refs)) (n + length (flat_map name g.refs)) (refs_of groups))
      (type_list bytes + (at + 12 * length g.refs)) bytes
  pub more_data : StandsAt (flat_map datum (refs_of groups))
      (data_start bytes + (d + length (flat_map datum g.refs))) bytes
  pub more_names : StandsAt (flat_map name (refs_of groups))
      (name_list bytes + (n + length (flat_map name g.refs))) bytes

pub group_stands : (g : Group) (groups : List Group) (t at d n : ℕ) (bytes : List ℕ)
    → AreLowGroups at d n (g ∷ groups)
    → StandsAt (types at (g ∷ groups)) t bytes
    → StandsAt (references d n (refs_of (g ∷ groups))) (type_list bytes + at) bytes
    → StandsAt (flat_map datum (refs_of (g ∷ groups))) (data_start bytes + d) bytes
    → StandsAt (flat_map name (refs_of (g ∷ groups))) (name_list bytes + n) bytes
    → GroupStands g groups t at d n bytes
group_stands g groups t at d n bytes low s in_list in_data in_names =
    let k : List ℕ = big_bytes 4 g.kind in
    let c : List ℕ = big_bytes 2 (length g.refs - 1) in
    let a : List ℕ = big_bytes 2 at in
    let more : List ℕ = types (at + 12 * length g.refs) groups in
    let d' : ℕ = d + length (flat_map datum g.refs) in
    let n' : ℕ = n + length (flat_map name g.refs) in
    let s3 : StandsAt (k ++ c ++ a) t bytes = stands_first (k ++ c ++ a) more t bytes s in
    let s2 : StandsAt (k ++ c) t bytes = stands_first (k ++ c) a t bytes s3 in
    let count : number 2 (t + 4) bytes ≡ length g.refs - 1 =
    number-stands 2 (length g.refs - 1) (t + 4) bytes (omega arith) (stands_second k c t bytes s2) in
    let place : number 2 (t + 6) bytes ≡ at = number-stands 2 at (t + 6) bytes (omega arith)
    (stands_second (k ++ c) a t bytes s3) in
    let full : number 2 (t + 4) bytes + 1 ≡ length g.refs = omega arith in
    let list : StandsAt (references d n g.refs ++ references d' n' (refs_of groups)) (type_list bytes + at) bytes =
    subst (λ l. StandsAt l (type_list bytes + at) bytes) (references-two d n g.refs (refs_of groups)) in_list in
    let datas : StandsAt (flat_map datum g.refs ++ flat_map datum (refs_of groups)) (data_start bytes + d) bytes =
    subst (λ l. StandsAt l (data_start bytes + d) bytes) (flat_map-two datum g.refs (refs_of groups)) in_data in
    let names : StandsAt (flat_map name g.refs ++ flat_map name (refs_of groups)) (name_list bytes + n) bytes =
    subst (λ l. StandsAt l (name_list bytes + n) bytes) (flat_map-two name g.refs (refs_of groups)) in_names in
    let len : length (references d n g.refs) ≡ 12 * length g.refs = length-references d n g.refs in
    record {
      kind = number-stands 4 g.kind t bytes low.0 (stands_first k c t bytes s2);
      counted = full;
      places = ap (λ p. offsets (type_list bytes + p) 12 (ref_count bytes t)) place
          ∙ ap (λ p. offsets (type_list bytes + at) 12 p) full;
      own_refs = stands_first (references d n g.refs) _ _ bytes list;
      own_data = stands_first (flat_map datum g.refs) _ _ bytes datas;
      own_names = stands_first (flat_map name g.refs) _ _ bytes names;
      more_types = stands_second (k ++ c ++ a) more t bytes s;
      more_refs = stands_same (references d' n' (refs_of groups)) _ _ bytes (omega arith)
          (stands_second (references d n g.refs) _ _ bytes list);
      more_data = stands_same (flat_map datum (refs_of groups)) _ _ bytes (omega arith)
          (stands_second (flat_map datum g.refs) _ _ bytes datas);
      more_names = stands_same (flat_map name (refs_of groups)) _ _ bytes (omega arith)
          (stands_second (flat_map name g.refs) _ _ bytes names);
    }

-- groups are read again, as their parts stand
pub groups_again : (groups : List Group) (t at d n : ℕ) (bytes : List ℕ) → AreLowGroups at d n groups
    → StandsAt (types at groups) t bytes
    → StandsAt (references d n (refs_of groups)) (type_list bytes + at) bytes
    → StandsAt (flat_map datum (refs_of groups)) (data_start bytes + d) bytes
    → StandsAt (flat_map name (refs_of groups)) (name_list bytes + n) bytes
    → map (group_at bytes) (offsets t 8 (length groups)) ≡ map clear_group groups
groups_again [] t at d n bytes low s in_list in_data in_names = refl
groups_again (g ∷ groups) t at d n bytes low s in_list in_data in_names =
    let e : GroupStands g groups t at d n bytes =
    group_stands g groups t at d n bytes low s in_list in_data in_names in
    let read : map (ref_at bytes) (ref_places t bytes) ≡ map clear_ref g.refs =
    ap (map (ref_at bytes)) e.places
    ∙ refs_again g.refs d n (type_list bytes + at) bytes low.4 e.own_refs e.own_data e.own_names in
    let others : map (group_at bytes) (offsets (t + 8) 8 (length groups)) ≡ map clear_group groups =
    groups_again groups (t + 8) (at + 12 * length g.refs) (d + length (flat_map datum g.refs))
    (n + length (flat_map name g.refs)) bytes low.5 e.more_types e.more_refs e.more_data e.more_names in
    same (number 4 t bytes) g.kind _ (map clear_ref g.refs) _ (map clear_group groups) e.kind read others
  where
    same : (k k' : ℕ) (r r' : List Ref) (gs gs' : List Group) → k ≡ k' → r ≡ r' → gs ≡ gs'
        → (let x : Group = record { kind = k; refs = r } in
        x) ∷ gs ≡ (let x : Group = record { kind = k'; refs = r' } in x) ∷ gs'
    same k k' r r' gs gs' p q s = cc
