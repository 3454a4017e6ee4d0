use Rattle.real_zone.proofs.Cited.{◌≡◌, ℕ, zero, suc, ◌+◌, ◌-◌, ◌<◌, ◌≤◌, Bool, true, false, ◌&&◌, cond, not, List, [], ◌∷◌, ◌++◌, length}
use Rattle.real_zone.proofs.Cited.{map, Option, Some, refl, sym, ◌∙◌, ap, append_assoc, ◌==◌, list_all, flat_map, option_to_list, lt-leb}
use Rattle.real_zone.proofs.Cited.{le-leb, cond-false, cond-true, append-nil, map-append, number, tag_at, first, has_room, is_passable}
use Rattle.real_zone.proofs.Cited.{places, places_from, is_tiled, free_bytes, length_rule, kind_rule, owner_rule, block_rules, broken}
use Rattle.real_zone.proofs.Cited.{block_damages, damages_of_blocks, master_at, may_be_free, list_damages, damages_of_list, damages_of_sum}
use Rattle.real_zone.proofs.Cited.{damages_of_zone, damages, damages_from, has_record, has_limit, from_zone, zone_part, Form, Rule, Damage}
use Rattle.real_zone.specs.declared.fault.Rule.TheVariants as rule
use Rattle.real_zone.proofs.Walking.{next, rest_after, first_place, next_places, no_places}
use Rattle.real_zone.proofs.Ruling.{damages_past}
use Rattle.real_zone.proofs.Zones.{with_record}

-- All that is wrong with a zone, in the order in which it is found.

-- a rule that is broken, with its address
abbrev pub with_address : ℕ → Option Rule → List Damage
with_address address broken_rule = map (broken address) (option_to_list broken_rule)

-- the rules of a block with a header
pub rules_pushed : (f : Form) (zone : ℕ) (bytes : List ℕ) (at : ℕ) (front : List Damage) → at + 12 ≤ length bytes
    → ((front ++ with_address (zone + at) (length_rule f bytes at))
    ++ with_address (zone + at) (kind_rule (tag_at bytes at) f bytes at))
    ++ with_address (zone + at) (owner_rule (tag_at bytes at) f zone bytes at)
    ≡ front ++ block_damages f zone bytes at
unfolding block_damages block_rules
rules_pushed f zone bytes at front h =
    three (option_to_list (length_rule f bytes at)) (option_to_list (kind_rule (tag_at bytes at) f bytes at))
    (option_to_list (owner_rule (tag_at bytes at) f zone bytes at))
    ∙ ap (λ l. front ++ map (broken (zone + at)) l) (sym (cond-false (not (has_room bytes at)) (rule.HeapLength ∷ [])
    (option_to_list (length_rule f bytes at) ++ option_to_list (kind_rule (tag_at bytes at) f bytes at)
    ++ option_to_list (owner_rule (tag_at bytes at) f zone bytes at)) (ap not (le-leb (at + 12) (length bytes) h))))
  where
    three : (xs ys zs : List Rule)
        → ((front ++ map (broken (zone + at)) xs) ++ map (broken (zone + at)) ys) ++ map (broken (zone + at)) zs
        ≡ front ++ map (broken (zone + at)) (xs ++ ys ++ zs)
    three xs ys zs =
        ap (λ l. l ++ map (broken (zone + at)) zs)
        (append_assoc front (map (broken (zone + at)) xs) (map (broken (zone + at)) ys))
        ∙ append_assoc front (map (broken (zone + at)) xs ++ map (broken (zone + at)) ys) (map (broken (zone + at)) zs)
        ∙ ap (λ l. front ++ (l ++ map (broken (zone + at)) zs)) (sym (map-append (broken (zone + at)) xs ys))
        ∙ ap (λ l. front ++ l) (sym (map-append (broken (zone + at)) (xs ++ ys) zs))

-- no header
pub no_room_pushed : (f : Form) (zone : ℕ) (bytes : List ℕ) (at : ℕ) (front : List Damage) → length bytes < at + 12
    → front ++ with_address (zone + at) (Some rule.HeapLength) ≡ front ++ block_damages f zone bytes at
unfolding block_damages block_rules
no_room_pushed f zone bytes at front h =
    ap (λ l. front ++ map (broken (zone + at)) l) (sym (cond-true (not (has_room bytes at)) (rule.HeapLength ∷ [])
    (option_to_list (length_rule f bytes at) ++ option_to_list (kind_rule (tag_at bytes at) f bytes at)
    ++ option_to_list (owner_rule (tag_at bytes at) f zone bytes at)) (ap not (lt-leb (at + 12) (length bytes) h))))

-- a passable block, before others
pub found_more : (f : Form) (zone : ℕ) (bytes : List ℕ) (at : ℕ) (front total : List Damage) → is_passable f bytes at ≡ true
    → front ++ damages_past f zone bytes at ≡ total
    → (front ++ block_damages f zone bytes at) ++ damages_past f zone bytes (next f bytes at) ≡ total
found_more f zone bytes at front total p e =
    append_assoc front (block_damages f zone bytes at) (damages_past f zone bytes (next f bytes at))
    ∙ ap (λ l. front ++ flat_map (block_damages f zone bytes) l) (sym (next_places f bytes at p)) ∙ e

-- one that is not passable is the last
pub last_place : (f : Form) (bytes : List ℕ) (at : ℕ) → at < length bytes → is_passable f bytes at ≡ false
    → places_from f bytes at ≡ at ∷ []
last_place f bytes at h stuck =
    first_place f bytes at h
    ∙ ap (λ l. at ∷ l) (cond-false (is_passable f bytes at) (places f bytes (length bytes - at - 1) (next f bytes at)) [] stuck)

pub found_last : (f : Form) (zone : ℕ) (bytes : List ℕ) (at : ℕ) (front total : List Damage) → at < length bytes
    → is_passable f bytes at ≡ false → front ++ damages_past f zone bytes at ≡ total
    → front ++ block_damages f zone bytes at ≡ total
found_last f zone bytes at front total h stuck e =
    ap (λ l. front ++ l) (sym (append-nil (block_damages f zone bytes at)))
    ∙ ap (λ l. front ++ flat_map (block_damages f zone bytes) l) (sym (last_place f bytes at h stuck)) ∙ e

-- at bkLim there are no more
pub found_all : (f : Form) (zone : ℕ) (bytes : List ℕ) (at : ℕ) (front total : List Damage) → length bytes ≤ at
    → front ++ damages_past f zone bytes at ≡ total → front ≡ total
found_all f zone bytes at front total h e =
    sym (append-nil front) ∙ ap (λ l. front ++ flat_map (block_damages f zone bytes) l) (sym (no_places f bytes at h)) ∙ e

-- whether the blocks tile the zone
pub tiled_more : (f : Form) (bytes : List ℕ) (at : ℕ) (total : Bool) → is_passable f bytes at ≡ true
    → list_all (is_passable f bytes) (places_from f bytes at) ≡ total
    → list_all (is_passable f bytes) (places_from f bytes (next f bytes at)) ≡ total
tiled_more f bytes at total p e =
    ap (λ t. t && list_all (is_passable f bytes) (places_from f bytes (next f bytes at))) (sym p)
    ∙ ap (list_all (is_passable f bytes)) (sym (next_places f bytes at p)) ∙ e

pub not_tiled : (f : Form) (bytes : List ℕ) (at : ℕ) (total : Bool) → at < length bytes → is_passable f bytes at ≡ false
    → list_all (is_passable f bytes) (places_from f bytes at) ≡ total → false ≡ total
not_tiled f bytes at total h stuck e =
    ap (λ t. t && list_all (is_passable f bytes) (rest_after f bytes at)) (sym stuck)
    ∙ ap (list_all (is_passable f bytes)) (sym (first_place f bytes at h)) ∙ e

pub all_tiled : (f : Form) (bytes : List ℕ) (at : ℕ) (total : Bool) → length bytes ≤ at
    → list_all (is_passable f bytes) (places_from f bytes at) ≡ total → true ≡ total
all_tiled f bytes at total h e = ap (list_all (is_passable f bytes)) (sym (no_places f bytes at h)) ∙ e

-- the list of free master pointers has one thing wrong at most, and so has the number of free bytes
one : (f : Form) (zone : ℕ) (bytes : List ℕ) (n address : ℕ)
    → option_to_list (first (list_damages f zone bytes n address)) ≡ list_damages f zone bytes n address
unfolding list_damages
one f zone bytes zero address = cases (address == 0)
  where
    cases : (t : Bool) → option_to_list (first (cond t [] (broken address rule.EndlessList ∷ [])))
        ≡ cond t [] (broken address rule.EndlessList ∷ [])
    cases true = refl
    cases false = refl
one f zone bytes (suc n) address =
    cases (address == 0) (not (may_be_free f bytes (address - zone)))
    (list_damages f zone bytes n (master_at f bytes (address - zone)))
    (one f zone bytes n (master_at f bytes (address - zone)))
  where
    cases : (t u : Bool) (rest : List Damage) → option_to_list (first rest) ≡ rest
        → option_to_list (first (cond t [] (cond u (broken address rule.FreeMaster ∷ []) rest)))
        ≡ cond t [] (cond u (broken address rule.FreeMaster ∷ []) rest)
    cases true u rest e = refl
    cases false true rest e = refl
    cases false false rest e = e

pub one_of_list : (f : Form) (zone : ℕ) (bytes : List ℕ)
    → option_to_list (first (damages_of_list f zone bytes)) ≡ damages_of_list f zone bytes
one_of_list f zone bytes = one f zone bytes _ _

pub one_of_sum : (f : Form) (zone : ℕ) (bytes : List ℕ)
    → option_to_list (first (damages_of_sum f zone bytes)) ≡ damages_of_sum f zone bytes
one_of_sum f zone bytes = cases (number 4 12 bytes == free_bytes f bytes)
  where
    cases : (t : Bool) → option_to_list (first (cond t [] (broken zone rule.FreeBytes ∷ [])))
        ≡ cond t [] (broken zone rule.FreeBytes ∷ [])
    cases true = refl
    cases false = refl

-- a zone that its blocks don't tile, and one that they do
pub untiled_zone : (f : Form) (zone : ℕ) (bytes : List ℕ) (front : List Damage) → is_tiled f bytes ≡ false
    → front ++ damages_of_blocks f zone bytes ≡ front ++ damages_of_zone f zone bytes
unfolding damages_of_zone
untiled_zone f zone bytes front h =
    ap (λ l. front ++ l) (sym (append-nil (damages_of_blocks f zone bytes)))
    ∙ ap (λ l. front ++ (damages_of_blocks f zone bytes ++ l))
    (sym (cond-false (is_tiled f bytes) (damages_of_list f zone bytes ++ damages_of_sum f zone bytes) [] h))

pub tiled_zone : (f : Form) (zone : ℕ) (bytes : List ℕ) (front : List Damage) → is_tiled f bytes ≡ true
    → ((front ++ damages_of_blocks f zone bytes) ++ option_to_list (first (damages_of_list f zone bytes)))
    ++ option_to_list (first (damages_of_sum f zone bytes)) ≡ front ++ damages_of_zone f zone bytes
unfolding damages_of_zone
tiled_zone f zone bytes front h =
    ap (λ l. ((front ++ damages_of_blocks f zone bytes) ++ l) ++ option_to_list (first (damages_of_sum f zone bytes)))
    (one_of_list f zone bytes)
    ∙ ap (λ l. ((front ++ damages_of_blocks f zone bytes) ++ damages_of_list f zone bytes) ++ l) (one_of_sum f zone bytes)
    ∙ append_assoc (front ++ damages_of_blocks f zone bytes) (damages_of_list f zone bytes) (damages_of_sum f zone bytes)
    ∙ append_assoc front (damages_of_blocks f zone bytes) (damages_of_list f zone bytes ++ damages_of_sum f zone bytes)
    ∙ ap (λ l. front ++ (damages_of_blocks f zone bytes ++ l))
    (sym (cond-true (is_tiled f bytes) (damages_of_list f zone bytes ++ damages_of_sum f zone bytes) [] h))

-- the zone record isn't in the dump, or bkLim isn't in its place
pub only_record : (f : Form) (dump : List ℕ) (base zone : ℕ) → false ≡ has_record dump base zone
    → broken zone rule.ZonePointer ∷ [] ≡ damages f dump base zone
unfolding damages
only_record f dump base zone h =
    sym (cond-true (not (has_record dump base zone)) (broken zone rule.ZonePointer ∷ [])
    (damages_from f zone (from_zone dump base zone)) (ap not (sym h)))

pub only_limit : (f : Form) (dump : List ℕ) (base zone : ℕ) → true ≡ has_record dump base zone
    → false ≡ has_limit f zone (from_zone dump base zone) → broken zone rule.Limit ∷ [] ≡ damages f dump base zone
only_limit f dump base zone h k =
    sym (with_record f dump base zone h
    ∙ cond-true (not (has_limit f zone (from_zone dump base zone))) (broken zone rule.Limit ∷ [])
    (damages_of_zone f zone (zone_part f zone (from_zone dump base zone))) (ap not (sym k)))
