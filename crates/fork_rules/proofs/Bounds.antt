use Rattle.fork_rules.proofs.Cited.{◌≡◌, ℕ, ◌+◌, ◌<◌, ◌≤◌, ◌^◌, Bool, true, false, cond, List, [], ◌∷◌, ◌++◌, length, map, drop, Option}
use Rattle.fork_rules.proofs.Cited.{Some, None, refl, arith, rules, slice_index, filter, nat_lt, IfSome, flat_map, list_all, AllByRecursion}
use Rattle.fork_rules.proofs.Cited.{w16, sfits_to_z, and_parts, ltb-true, Decides-ltb, get_or-drop, length-take, and_le_l, and_le_r}
use Rattle.fork_rules.proofs.Cited.{big_from-lt, Ref, Group, IsRef, IsGroup, AreRefs, IsContent, is_of, distinct, number, ref_at}
use Rattle.fork_rules.proofs.Cited.{ref_places, group_at, type_places, content_of, name_at, name_place, map_start, distinct-all, area_whole}
use Rattle.fork_rules.proofs.Cited.{and_both}

-- The content that bytes spell keeps the limits of its parts.

-- each of the numbers is a byte
abbrev pub AreBytes : List ℕ → Type 0
AreBytes bytes = (k : ℕ) → slice_index bytes k < 256

small_number : (n at : ℕ) (bytes : List ℕ) → AreBytes bytes → number n at bytes < 256 ^ n
small_number n at bytes are = big_from-lt 0 n (drop at bytes) (λ k.
    let e = get_or-drop at bytes k 0 in let low = are (at + k) in omega (arith, e, low))

name_short : (place : Option ℕ) (bytes : List ℕ) → AreBytes bytes → IfSome (name_at place bytes) (λ text. length text ≤ 255)
name_short None bytes are = tt
name_short (Some at) bytes are =
    let e = length-take (number 1 at bytes) (drop (at + 1) bytes) in
    let low : number 1 at bytes < 256 = small_number 1 at bytes are in
    omega (arith, e, low)

is_ref : (bytes : List ℕ) (at : ℕ) → AreBytes bytes → IsRef (ref_at bytes at)
is_ref bytes at are =
    let id : number 2 at bytes < 65536 = small_number 2 at bytes are in
    let attrs : number 1 (at + 4) bytes < 256 = small_number 1 (at + 4) bytes are in
    let less = and_le_l (number 1 (at + 4) bytes) 253 in
    record {
      id = sfits_to_z {w = w16} (search (rules, id));
      attrs = omega (arith, attrs, less);
      name = name_short (name_place at bytes) bytes are;
    }

are_refs : (bytes places : List ℕ) → AreBytes bytes → AreRefs (map (ref_at bytes) places)
are_refs bytes [] are = tt
are_refs bytes (at ∷ places) are = (is_ref bytes at are, are_refs bytes places are)

two_runs : (xs ys : List Ref) → AreRefs xs → AreRefs ys → AreRefs (xs ++ ys)
two_runs [] ys a b = b
two_runs (x ∷ xs) ys a b = (a.0, two_runs xs ys a.1 b)

-- the resources of the groups of a type
of_type : (k : ℕ) (bytes places : List ℕ) → AreBytes bytes
    → AreRefs (flat_map (λ (g : Group). g.refs) (filter (is_of k) (map (group_at bytes) places)))
of_type k bytes [] are = tt
of_type k bytes (at ∷ places) are = cases (is_of k (group_at bytes at)) (of_type k bytes places are)
  where
    cases : (t : Bool) → AreRefs (flat_map (λ (g : Group). g.refs) (filter (is_of k) (map (group_at bytes) places)))
        → AreRefs (flat_map (λ (g : Group). g.refs) (cond t (group_at bytes at ∷ filter (is_of k) (map (group_at bytes) places))
        (filter (is_of k) (map (group_at bytes) places))))
    cases true rest = two_runs (map (ref_at bytes) (ref_places at bytes)) _ (are_refs bytes (ref_places at bytes) are) rest
    cases false rest = rest

-- the group of a type
abbrev group_of : List Group → ℕ → Group
group_of groups k = record { kind = k; refs = flat_map (λ g. g.refs) (filter (is_of k) groups) }

abbrev is_small : ℕ → Bool
is_small k = nat_lt k 4294967296

are_small : (bytes places : List ℕ) → AreBytes bytes
    → list_all is_small (map (λ (g : Group). g.kind) (map (group_at bytes) places)) ≡ true
are_small bytes [] are = refl
are_small bytes (at ∷ places) are = and_both (is_small (number 4 at bytes)) _
    ((Decides-ltb (number 4 at bytes) 4294967296).1 (small_number 4 at bytes are)) (are_small bytes places are)

are_groups : (bytes places ks : List ℕ) → AreBytes bytes → list_all is_small ks ≡ true
    → AllByRecursion IsGroup (map (group_of (map (group_at bytes) places)) ks)
are_groups bytes places [] are small = tt
are_groups bytes places (k ∷ ks) are small =
    let both : (is_small k ≡ true) × (list_all is_small ks ≡ true) = and_parts (is_small k) (list_all is_small ks) small in (
      record { kind = ltb-true k 4294967296 both.0; refs = of_type k bytes places are },
      are_groups bytes places ks are both.1,
    )

pub spelled_content : (bytes : List ℕ) → AreBytes bytes → IsContent (content_of bytes)
spelled_content bytes are =
    let gs : List Group = map (group_at bytes) (type_places bytes) in
    let small = and_le_r (number 2 (map_start bytes + 22) bytes) 65439 in
    record {
      area = area_whole bytes;
      attrs = omega (arith, small);
      groups = are_groups bytes (type_places bytes) (distinct (map (λ (g : Group). g.kind) gs)) are
          (distinct-all is_small (map (λ (g : Group). g.kind) gs) (are_small bytes (type_places bytes) are));
    }
