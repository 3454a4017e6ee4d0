use Rattle.fork_rules.proofs.Cited.{◌≡◌, ℕ, ◌+◌, ◌*◌, true, List, [], ◌∷◌, ◌++◌, length, take, drop, refl, sym, ◌∙◌, ap, arith, zero, suc}
use Rattle.fork_rules.proofs.Cited.{length-append, flat_map, drop-append_seam, Group, Content, IsContent, refs_of, canon, fits, datum, name}
use Rattle.fork_rules.proofs.Cited.{references, types, refs_offset, data_of, header, map_of, part, offsets, data_start, map_start}
use Rattle.fork_rules.proofs.Cited.{type_list, name_list, type_count, ref_places, StandsAt, AreLowGroups, GroupStands, group_stands}
use Rattle.fork_rules.proofs.Cited.{CanSpell, CanonStands, canon_stands, ListsStand, lists_stand, can_spell, all_places}
use Rattle.fork_rules.proofs.Alike.{Follow}

-- The regions of a canonical fork follow one another.

-- offsets in two runs
two_runs : (m n at : ℕ) → offsets at 12 (m + n) ≡ offsets at 12 m ++ offsets (at + 12 * m) 12 n
two_runs zero n at = let e : at ≡ at + 12 * 0 = omega arith in let z : zero + n ≡ n = omega arith in
    ap (offsets at 12) z ∙ ap (λ k. offsets k 12 n) e
two_runs (suc m) n at =
    let e : at + 12 + 12 * m ≡ at + 12 * suc m = omega arith in
    let s : suc m + n ≡ suc (m + n) = omega arith in
    ap (offsets at 12) s ∙ ap (λ l. at ∷ l) (two_runs m n (at + 12) ∙ ap (λ k. offsets (at + 12) 12 m ++ offsets k 12 n) e)

-- the references of groups follow one another
places_follow : (groups : List Group) (t at d n : ℕ) (bytes : List ℕ) → AreLowGroups at d n groups
    → StandsAt (types at groups) t bytes
    → StandsAt (references d n (refs_of groups)) (type_list bytes + at) bytes
    → StandsAt (flat_map datum (refs_of groups)) (data_start bytes + d) bytes
    → StandsAt (flat_map name (refs_of groups)) (name_list bytes + n) bytes
    → flat_map (λ type. ref_places type bytes) (offsets t 8 (length groups))
    ≡ offsets (type_list bytes + at) 12 (length (refs_of groups))
places_follow [] t at d n bytes low s in_list in_data in_names = refl
places_follow (g ∷ groups) t at d n bytes low s in_list in_data in_names =
    let e : GroupStands g groups t at d n bytes =
    group_stands g groups t at d n bytes low s in_list in_data in_names in
    let more : flat_map (λ type. ref_places type bytes) (offsets (t + 8) 8 (length groups))
    ≡ offsets (type_list bytes + (at + 12 * length g.refs)) 12 (length (refs_of groups)) =
    places_follow groups (t + 8) (at + 12 * length g.refs) (d + length (flat_map datum g.refs))
    (n + length (flat_map name g.refs)) bytes low.5 e.more_types e.more_refs e.more_data e.more_names in
    let place : type_list bytes + (at + 12 * length g.refs) ≡ type_list bytes + at + 12 * length g.refs = omega arith in
    both e.places (more ∙ ap (λ k. offsets k 12 (length (refs_of groups))) place)
    ∙ sym (two_runs (length g.refs) (length (refs_of groups)) (type_list bytes + at))
    ∙ ap (offsets (type_list bytes + at) 12) (sym (length-append g.refs (refs_of groups)))
  where
    both : {xs xs' ys ys' : List ℕ} → xs ≡ xs' → ys ≡ ys' → (xs ++ ys) ≡ (xs' ++ ys')
    both p q = cc

-- the map begins with the header
copied : (c : Content) → length c.area ≡ 240 → map_start (canon c) ≡ 256 + length (data_of c.groups)
    → part 16 (map_start (canon c)) (canon c) ≡ part 16 0 (canon c)
copied c size start =
    let front : List ℕ = header c.groups ++ c.area ++ data_of c.groups in
    let m : List ℕ = map_of c.attrs c.groups in
    let long : length front ≡ 256 + length (data_of c.groups) =
    length-append (header c.groups ++ c.area) (data_of c.groups)
    ∙ ap (λ n. n + length (data_of c.groups)) (length-append (header c.groups) c.area) ∙ omega (arith, size) in
    let there : drop (map_start (canon c)) (canon c) ≡ m =
    ap (λ n. drop n (front ++ m)) (start ∙ sym long) ∙ drop-append_seam front m in
    ap (take 16) there

pub follow : (c : Content) → IsContent c → fits c ≡ true → Follow (canon c) (length (refs_of c.groups))
follow c is h =
    let bytes : List ℕ = canon c in
    let can : CanSpell c = can_spell c is h in
    let s : CanonStands c bytes = canon_stands c can in
    let l : ListsStand c bytes = lists_stand c bytes can s in
    let places : all_places bytes ≡ offsets (type_list bytes + refs_offset c.groups) 12 (length (refs_of c.groups)) =
    ap (flat_map (λ type. ref_places type bytes)) l.places
    ∙ places_follow c.groups (type_list bytes + 2) (refs_offset c.groups) 0 0 bytes can.low l.in_types l.in_refs l.in_data
    l.in_names in
    let start : type_list bytes + refs_offset c.groups ≡ type_list bytes + 2 + 8 * type_count bytes =
    let k = l.counted in omega (arith, k) in
    let at_types = s.at_types in
    let at_names = s.at_names in
    let counted = l.counted in
    let long = l.long in
    let map_size = s.map_length in
    record {
      at_data = s.at_data;
      at_map = s.at_map ∙ ap (λ k. 256 + k) (sym s.data_length);
      copy = copied c is.area s.at_map;
      at_types = s.at_types;
      references = places ∙ ap (λ k. offsets k 12 (length (refs_of c.groups))) start;
      names = omega (arith, at_types, at_names, counted);
      end = omega (arith, at_types, at_names, map_size, long);
    }
