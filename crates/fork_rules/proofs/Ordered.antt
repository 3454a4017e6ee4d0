use Rattle.fork_rules.proofs.Cited.{◌≡◌, ℕ, ◌+◌, ◌*◌, ◌<◌, ◌≤◌, true, false, not, List, [], ◌∷◌, length, map, refl, ◌∙◌, ap, arith, ◌==◌}
use Rattle.fork_rules.proofs.Cited.{nat_le, list_all, length-append, ◌⊎◌, inl, inr, ◌≢◌, and_parts, le-leb, leb-true, eqb_tells, big_bytes}
use Rattle.fork_rules.proofs.Cited.{Ref, Content, IsContent, refs_of, canon, fits, datum, name, reference, references, starts, all_within}
use Rattle.fork_rules.proofs.Cited.{are_distinct, refs_offset, number, offsets, type_list, type_count, and_both, StandsAt, stands_first}
use Rattle.fork_rules.proofs.Cited.{stands_second, number-stands, ReferenceStands, reference_stands, CanSpell, CanonStands, canon_stands}
use Rattle.fork_rules.proofs.Cited.{ListsStand, lists_stand, can_spell, FitsByParts, fits-tells, datum_offsets, shares_data, do_rise}
use Rattle.fork_rules.proofs.Cited.{orders_data}
use Rattle.fork_rules.proofs.Alike.{Follow}
use Rattle.fork_rules.proofs.Following.{follow}

-- The stored data of a canonical fork is not shared, and stands in the order of the references.

-- where the stored data of resources stands, from an offset on
abbrev data_from : ℕ → List Ref → List ℕ
data_from d refs = starts d (map (λ (r : Ref). length (datum r)) refs)

datum_long : (r : Ref) → 0 < length (datum r)
datum_long r = let e = length-append (big_bytes 4 (length r.datum)) r.datum in omega (arith, e)

-- each is no lower than the one before it
rise_from : (refs : List Ref) (d : ℕ) → do_rise (data_from d refs) ≡ true
rise_from [] d = refl
rise_from (r ∷ []) d = refl
rise_from (r ∷ s ∷ refs) d = and_both (nat_le d (d + length (datum r))) (do_rise (data_from (d + length (datum r)) (s ∷ refs)))
    (le-leb d (d + length (datum r)) (omega arith)) (rise_from (s ∷ refs) (d + length (datum r)))

-- all are above a lower offset
none_below : (refs : List Ref) (d e : ℕ) → d < e → list_all (λ m. not (m == d)) (data_from e refs) ≡ true
none_below [] d e h = refl
none_below (r ∷ refs) d e h = and_both (not (e == d)) (list_all (λ m. not (m == d)) (data_from (e + length (datum r)) refs))
    (cases (eqb_tells e d)) (none_below refs d (e + length (datum r)) (omega arith))
  where
    cases : ((e == d ≡ true) × (e ≡ d)) ⊎ ((e == d ≡ false) × (e ≢ d)) → not (e == d) ≡ true
    cases (inl t) = absurd (let same = t.1 in omega (arith, same))
    cases (inr t) = ap not t.0

distinct_from : (refs : List Ref) (d : ℕ) → are_distinct (data_from d refs) ≡ true
distinct_from [] d = refl
distinct_from (r ∷ refs) d = and_both (list_all (λ m. not (m == d)) (data_from (d + length (datum r)) refs)) _
    (none_below refs d (d + length (datum r)) (let long = datum_long r in omega (arith, long)))
    (distinct_from refs (d + length (datum r)))

-- the references give these offsets
given : (refs : List Ref) (d n at : ℕ) (bytes : List ℕ) → all_within 16777215 (data_from d refs) ≡ true
    → StandsAt (references d n refs) at bytes
    → map (λ place. number 3 (place + 5) bytes) (offsets at 12 (length refs)) ≡ data_from d refs
given [] d n at bytes low s = refl
given (r ∷ refs) d n at bytes low s =
    let e : List ℕ = reference d n r in
    let es : List ℕ = references (d + length (datum r)) (n + length (name r)) refs in
    let both : (nat_le d 16777215 ≡ true) × (all_within 16777215 (data_from (d + length (datum r)) refs) ≡ true) =
    and_parts (nat_le d 16777215) (all_within 16777215 (data_from (d + length (datum r)) refs)) low in
    let small : d ≤ 16777215 = leb-true d 16777215 both.0 in
    let stands : ReferenceStands d n r at bytes = reference_stands d n r at bytes (stands_first e es at bytes s) in
    let one : number 3 (at + 5) bytes ≡ d = number-stands 3 d (at + 5) bytes (omega arith) stands.datum in
    let others : map (λ place. number 3 (place + 5) bytes) (offsets (at + 12) 12 (length refs))
    ≡ data_from (d + length (datum r)) refs =
    given refs (d + length (datum r)) (n + length (name r)) (at + 12) bytes both.1 (stands_second e es at bytes s) in
    cc

canonical_offsets : (c : Content) → IsContent c → fits c ≡ true
    → datum_offsets (canon c) ≡ data_from 0 (refs_of c.groups)
canonical_offsets c is h =
    let bytes : List ℕ = canon c in
    let can : CanSpell c = can_spell c is h in
    let s : CanonStands c bytes = canon_stands c can in
    let l : ListsStand c bytes = lists_stand c bytes can s in
    let f : Follow bytes (length (refs_of c.groups)) = follow c is h in
    let p : FitsByParts c.groups = fits-tells c h in
    let counted = l.counted in
    let place : type_list bytes + 2 + 8 * type_count bytes ≡ type_list bytes + refs_offset c.groups = omega (arith, counted) in
    ap (map (λ at. number 3 (at + 5) bytes)) (f.references ∙ ap (λ k. offsets k 12 (length (refs_of c.groups))) place)
    ∙ given (refs_of c.groups) 0 0 (type_list bytes + refs_offset c.groups) bytes p.data_starts l.in_refs

pub not_shared : (c : Content) → IsContent c → fits c ≡ true → shares_data (canon c) ≡ false
not_shared c is h = ap (λ l. not (are_distinct l)) (canonical_offsets c is h) ∙ ap not (distinct_from (refs_of c.groups) 0)

pub in_order : (c : Content) → IsContent c → fits c ≡ true → orders_data (canon c) ≡ true
in_order c is h = ap do_rise (canonical_offsets c is h) ∙ rise_from (refs_of c.groups) 0
