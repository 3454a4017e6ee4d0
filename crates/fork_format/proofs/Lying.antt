use Rattle.fork_format.proofs.Cited.{◌≡◌, ℕ, ◌+◌, ◌*◌, ◌≤◌, Bool, true, false, cond, ◌&&◌, List, [], ◌∷◌, length, subst, refl, sym, ◌∙◌, ap}
use Rattle.fork_format.proofs.Cited.{arith, Option, Some, None, lit<, ◌⊎◌, inl, inr, ◌≢◌, length-append, sum_by, nat_le, ◌==◌, IfSome}
use Rattle.fork_format.proofs.Cited.{flat_map, list_all, sum_by-cons, eqb_tells, le-leb, big_bytes, big_number, Ref, Group, Content}
use Rattle.fork_format.proofs.Cited.{refs_of, number, offsets, data_start, data_end, map_start, map_end, name_list, type_list, name_place}
use Rattle.fork_format.proofs.Cited.{name_fits, datum_place, datum_fits, ref_fits, ref_size, refs_fit, types_fit, parts_fit, type_count}
use Rattle.fork_format.proofs.Cited.{all_refs, all_data, ref_places, ref_count, type_size, type_places, is_fork, Spells, datum, name}
use Rattle.fork_format.proofs.Cited.{name_offset, name_or_none, reference, references, types, canon, refs_offset, names_offset, data_of}
use Rattle.fork_format.proofs.Cited.{clear, most_data}
use Rattle.fork_format.proofs.Standing.{StandsAt, stands_first, stands_second, stands_same, stands_drop}
use Rattle.fork_format.proofs.Standing.{number-stands, stands_inside}
use Rattle.fork_format.proofs.Again.{AreLow, IsSized, ReferenceStands, reference_stands}
use Rattle.fork_format.proofs.Groups.{AreLowGroups, GroupStands, group_stands, flat_map-two}
use Rattle.fork_format.proofs.Whole.{CanSpell, CanonStands, canon_stands, ListsStand, lists_stand, content_again}
use Rattle.fork_format.proofs.Bools.{and_both}

and_three : (a b d : Bool) → a ≡ true → b ≡ true → d ≡ true → (a && b && d) ≡ true
and_three a b d p q r = and_both (a && b) d (and_both a b p q) r

and_four : (a b d e : Bool) → a ≡ true → b ≡ true → d ≡ true → e ≡ true → (a && b && d && e) ≡ true
and_four a b d e p q r s = and_both (a && b && d) e (and_three a b d p q r) s

and_five : (a b d e f : Bool) → a ≡ true → b ≡ true → d ≡ true → e ≡ true → f ≡ true → (a && b && d && e && f) ≡ true
and_five a b d e f p q r s t = and_both (a && b && d && e) f (and_four a b d e p q r s) t

-- a reference whose parts stand before the ends lies where it must, and its datum takes what it stores
pub ref_lies : (d n : ℕ) (r : Ref) (at : ℕ) (bytes : List ℕ) → IsSized r → d ≤ 16777215
    → IfSome r.name (λ text. n ≤ 65534) → StandsAt (reference d n r) at bytes
    → StandsAt (datum r) (data_start bytes + d) bytes → StandsAt (name r) (name_list bytes + n) bytes
    → map_end bytes ≡ length bytes → data_start bytes + d + length (datum r) ≤ data_end bytes
    → (ref_fits bytes at ≡ true) × (ref_size bytes at ≡ length (datum r))
ref_lies d n r at bytes sized low named s in_data in_names to_end inside =
    let e : ReferenceStands d n r at bytes = reference_stands d n r at bytes s in
    let o : number 3 (at + 5) bytes ≡ d = number-stands 3 d (at + 5) bytes (omega arith) e.datum in
    let place : datum_place at bytes ≡ data_start bytes + d = ap (λ k. data_start bytes + k) o in
    let size : number 4 (data_start bytes + d) bytes ≡ length r.datum =
    number-stands 4 (length r.datum) (data_start bytes + d) bytes sized.datum
    (stands_first (big_bytes 4 (length r.datum)) r.datum _ bytes in_data) in
    let size_at : number 4 (datum_place at bytes) bytes ≡ length r.datum = ap (λ k. number 4 k bytes) place ∙ size in
    let here : at + 12 ≤ length bytes = stands_inside (reference d n r) at bytes s in (
      and_three (nat_le (at + 12) (map_end bytes)) (name_fits (name_place at bytes) bytes)
          (datum_fits (datum_place at bytes) bytes)
          (le-leb (at + 12) (map_end bytes) (omega arith))
          (name_lies r.name in_names e.name named)
          (and_both (nat_le (datum_place at bytes + 4) (data_end bytes))
          (nat_le (datum_place at bytes + 4 + number 4 (datum_place at bytes) bytes) (data_end bytes))
          (le-leb _ _ (omega arith)) (le-leb _ _ (omega arith))),
      ap (λ k. 4 + k) size_at ∙ omega arith,
    )
  where
    name_lies : (m : Option (List ℕ)) → StandsAt (name_or_none m) (name_list bytes + n) bytes
        → StandsAt (big_bytes 2 (name_offset m n)) (at + 2) bytes → IfSome m (λ text. n ≤ 65534)
        → name_fits (name_place at bytes) bytes ≡ true
    name_lies None t offset low = rw (number-stands 2 65535 (at + 2) bytes (lit< tt) offset) refl
    name_lies (Some text) t offset low =
        let first : number 1 (name_list bytes + n) bytes ≡ length text =
        ap (big_number 1) (stands_drop (length text ∷ text) (name_list bytes + n) bytes t) ∙ omega arith in
        let inside : name_list bytes + n + length (length text ∷ text) ≤ length bytes =
        stands_inside (length text ∷ text) (name_list bytes + n) bytes t in
        let fits : name_fits (Some (name_list bytes + n)) bytes ≡ true =
        and_both (nat_le (name_list bytes + n + 1) (map_end bytes))
        (nat_le (name_list bytes + n + 1 + number 1 (name_list bytes + n) bytes) (map_end bytes))
        (le-leb _ _ (omega arith)) (le-leb _ _ (omega arith)) in
        rw (number-stands 2 n (at + 2) bytes (omega arith) offset) (cases (eqb_tells n 65535) fits)
      where
        cases : ((n == 65535 ≡ true) × (n ≡ 65535)) ⊎ ((n == 65535 ≡ false) × (n ≢ 65535))
            → name_fits (Some (name_list bytes + n)) bytes ≡ true
            → name_fits (cond (n == 65535) None (Some (name_list bytes + n))) bytes ≡ true
        cases (inl h) f = absurd (omega arith)
        cases (inr h) f = rw h.0 f

-- references whose parts stand before the ends lie where they must
pub refs_lie : (refs : List Ref) (d n at : ℕ) (bytes : List ℕ) → AreLow d n refs
    → StandsAt (references d n refs) at bytes
    → StandsAt (flat_map datum refs) (data_start bytes + d) bytes
    → StandsAt (flat_map name refs) (name_list bytes + n) bytes
    → map_end bytes ≡ length bytes → data_start bytes + d + length (flat_map datum refs) ≤ data_end bytes
    → (list_all (ref_fits bytes) (offsets at 12 (length refs)) ≡ true)
    × (sum_by (ref_size bytes) (offsets at 12 (length refs)) ≡ length (flat_map datum refs))
refs_lie [] d n at bytes low s in_data in_names to_end inside = (refl, refl)
refs_lie (r ∷ refs) d n at bytes low s in_data in_names to_end inside =
    let e : List ℕ = reference d n r in
    let d' : ℕ = d + length (datum r) in
    let n' : ℕ = n + length (name r) in
    let es : List ℕ = references d' n' refs in
    let size : length (flat_map datum (r ∷ refs)) ≡ length (datum r) + length (flat_map datum refs) =
    length-append (datum r) (flat_map datum refs) in
    let one : (ref_fits bytes at ≡ true) × (ref_size bytes at ≡ length (datum r)) =
    ref_lies d n r at bytes low.0 low.1 low.2 (stands_first e es at bytes s)
    (stands_first (datum r) (flat_map datum refs) (data_start bytes + d) bytes in_data)
    (stands_first (name r) (flat_map name refs) (name_list bytes + n) bytes in_names) to_end (omega arith) in
    let others : (list_all (ref_fits bytes) (offsets (at + 12) 12 (length refs)) ≡ true)
    × (sum_by (ref_size bytes) (offsets (at + 12) 12 (length refs)) ≡ length (flat_map datum refs)) =
    refs_lie refs d' n' (at + 12) bytes low.3 (stands_second e es at bytes s)
    (stands_same (flat_map datum refs) _ _ bytes (omega arith)
    (stands_second (datum r) (flat_map datum refs) (data_start bytes + d) bytes in_data))
    (stands_same (flat_map name refs) _ _ bytes (omega arith)
    (stands_second (name r) (flat_map name refs) (name_list bytes + n) bytes in_names)) to_end (omega arith) in (
      and_both _ _ one.0 others.0,
      sum_by-cons (ref_size bytes) at (offsets (at + 12) 12 (length refs)) ∙ omega (arith, one.1, others.1),
    )

-- what is told of the types at offsets
pub record TypesLie (bytes : List ℕ) (places : List ℕ) (groups : List Group) : Type 0 where
  pub fit : list_all (refs_fit bytes) places ≡ true
  pub refs : sum_by (ref_count bytes) places ≡ length (refs_of groups)
  pub size : sum_by (type_size bytes) places ≡ length (flat_map datum (refs_of groups))

-- types whose parts stand before the ends lie where they must
pub groups_lie : (groups : List Group) (t at d n : ℕ) (bytes : List ℕ) → AreLowGroups at d n groups
    → StandsAt (types at groups) t bytes
    → StandsAt (references d n (refs_of groups)) (type_list bytes + at) bytes
    → StandsAt (flat_map datum (refs_of groups)) (data_start bytes + d) bytes
    → StandsAt (flat_map name (refs_of groups)) (name_list bytes + n) bytes
    → map_end bytes ≡ length bytes → data_start bytes + d + length (flat_map datum (refs_of groups)) ≤ data_end bytes
    → TypesLie bytes (offsets t 8 (length groups)) groups
groups_lie [] t at d n bytes low s in_list in_data in_names to_end inside =
    record { fit = refl; refs = refl; size = refl }
groups_lie (g ∷ groups) t at d n bytes low s in_list in_data in_names to_end inside =
    let e : GroupStands g groups t at d n bytes =
    group_stands g groups t at d n bytes low s in_list in_data in_names in
    let size : length (flat_map datum (refs_of (g ∷ groups)))
    ≡ length (flat_map datum g.refs) + length (flat_map datum (refs_of groups)) =
    ap length (flat_map-two datum g.refs (refs_of groups))
    ∙ length-append (flat_map datum g.refs) (flat_map datum (refs_of groups)) in
    let refs : (list_all (ref_fits bytes) (offsets (type_list bytes + at) 12 (length g.refs)) ≡ true)
    × (sum_by (ref_size bytes) (offsets (type_list bytes + at) 12 (length g.refs))
    ≡ length (flat_map datum g.refs)) =
    refs_lie g.refs d n (type_list bytes + at) bytes low.4 e.own_refs e.own_data e.own_names to_end (omega arith) in
    let others : TypesLie bytes (offsets (t + 8) 8 (length groups)) groups =
    groups_lie groups (t + 8) (at + 12 * length g.refs) (d + length (flat_map datum g.refs))
    (n + length (flat_map name g.refs)) bytes low.5 e.more_types e.more_refs e.more_data e.more_names to_end
    (omega arith) in
    let own : sum_by (ref_size bytes) (ref_places t bytes) ≡ length (flat_map datum g.refs) =
    ap (sum_by (ref_size bytes)) e.places ∙ refs.1 in
    record {
      fit = and_both (refs_fit bytes t) _ (ap (list_all (ref_fits bytes)) e.places ∙ refs.0) others.fit;
      refs = sum_by-cons (ref_count bytes) t (offsets (t + 8) 8 (length groups))
          ∙ ap (λ m. ref_count bytes t + m) others.refs ∙ ap (λ m. m + length (refs_of groups)) e.counted
          ∙ sym (length-append g.refs (refs_of groups));
      size = sum_by-cons (type_size bytes) t (offsets (t + 8) 8 (length groups))
          ∙ omega (arith, own, others.size, size);
    }

-- a canonical fork is a fork
pub fork_again : (c : Content) → CanSpell c → is_fork (canon c) ≡ true
fork_again c can =
    let bytes : List ℕ = canon c in
    let gs : List Group = c.groups in
    let s : CanonStands c bytes = canon_stands c can in
    let l : ListsStand c bytes = lists_stand c bytes can s in
    let data_end_is : data_end bytes ≡ 256 + length (data_of gs) =
    ap (λ n. n + number 4 8 bytes) s.at_data ∙ ap (λ n. 256 + n) s.data_length in
    let map_end_is : map_end bytes ≡ length bytes = ap (λ n. map_start bytes + n) s.map_length ∙ sym s.whole in
    let lie : TypesLie bytes (type_places bytes) gs =
    subst (λ ps. TypesLie bytes ps gs) (sym l.places) (groups_lie gs (type_list bytes + 2) (refs_offset gs) 0 0 bytes
    can.low l.in_types l.in_refs l.in_data l.in_names map_end_is (omega (arith, s.at_data, data_end_is))) in
    let refs : all_refs bytes ≡ length (refs_of gs) = lie.refs in
    let size : all_data bytes ≡ length (data_of gs) = lie.size in
    let names : names_offset gs ≤ 65535 = can.names in
    let small : length (data_of gs) ≤ most_data = can.small in
    and_five (parts_fit bytes) (types_fit bytes) _ _ _
    (and_four (nat_le 16 (length bytes)) (nat_le (data_end bytes) (length bytes))
    (nat_le (map_end bytes) (length bytes)) (nat_le (map_start bytes + 30) (map_end bytes))
    (le-leb _ _ (omega (arith, s.whole, s.at_map))) (le-leb _ _ (omega (arith, s.whole, s.at_map, data_end_is)))
    (le-leb _ _ (omega arith)) (le-leb _ _ (omega (arith, s.whole))))
    (and_both (nat_le (type_list bytes + 2) (map_end bytes))
    (nat_le (type_list bytes + 2 + 8 * type_count bytes) (map_end bytes))
    (le-leb _ _ (omega (arith, s.whole, s.at_types)))
    (le-leb _ _ (omega (arith, s.whole, s.at_types, l.counted, l.long))))
    (le-leb _ _ (omega arith)) lie.fit (le-leb _ _ (omega arith))

-- the round trip: a canonical fork spells its content, as it is read again
pub spells_again : (c : Content) → CanSpell c → Spells (canon c) (clear c)
spells_again c can = record { fork = fork_again c can; content = content_again c can }
