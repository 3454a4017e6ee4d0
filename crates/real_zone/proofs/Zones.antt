use Rattle.real_zone.proofs.Cited.{◌≡◌, ℕ, ◌+◌, Bool, true, false, ◌&&◌, not, cond, List, [], ◌∷◌, ◌++◌, Some, None, refl, sym, ◌∙◌, ap}
use Rattle.real_zone.proofs.Cited.{◌==◌, list_all, flat_map, option_or, and_from, and_parts, cond-false, cond-true, number, first, is_empty}
use Rattle.real_zone.proofs.Cited.{is_passable, block_places, is_tiled, free_bytes, broken, keeps_rules, block_rules, block_damages}
use Rattle.real_zone.proofs.Cited.{damages_of_blocks, damages_of_list, is_zone, is_zone_at, zone_bytes, damages_of_sum, damages_of_zone}
use Rattle.real_zone.proofs.Cited.{damages, damages_from, has_record, has_limit, from_zone, zone_part, Form, Damage}
use Rattle.real_zone.specs.declared.fault.Rule.TheVariants as rule
use Rattle.real_zone.proofs.Firsts.{nothing, first-append, first-append_some, empty_if_none, full_if_some, is_empty-append, is_empty-map}
use Rattle.real_zone.proofs.Ruling.{passable_if_whole, keeps_passable}

-- What is wrong with a zone, from what is wrong with its parts.

-- where nothing is wrong with the blocks, they are all passable
all_passable : (f : Form) (zone : ℕ) (bytes xs : List ℕ) → flat_map (block_damages f zone bytes) xs ≡ []
    → list_all (is_passable f bytes) xs ≡ true
all_passable f zone bytes [] h = refl
all_passable f zone bytes (x ∷ xs) h =
    let parts = both (block_damages f zone bytes x) (flat_map (block_damages f zone bytes) xs) h in
    and_from (is_passable f bytes x) (list_all (is_passable f bytes) xs) (passable_if_whole f zone bytes x parts.0)
    (all_passable f zone bytes xs parts.1)
  where
    both : (xs ys : List Damage) → xs ++ ys ≡ [] → (xs ≡ []) × (ys ≡ [])
    both [] ys h = (refl, h)
    both (x ∷ xs) ys h = cc

pub tiled : (f : Form) (zone : ℕ) (bytes : List ℕ) → None ≡ first (damages_of_blocks f zone bytes) → is_tiled f bytes ≡ true
tiled f zone bytes h = all_passable f zone bytes (block_places f bytes) (nothing (damages_of_blocks f zone bytes) h)

-- something is wrong with the blocks
pub in_blocks : (f : Form) (zone : ℕ) (bytes : List ℕ) (d : Damage) → Some d ≡ first (damages_of_blocks f zone bytes)
    → Some d ≡ first (damages_of_zone f zone bytes)
unfolding damages_of_zone
in_blocks f zone bytes d h =
    first-append_some (damages_of_blocks f zone bytes)
    (cond (is_tiled f bytes) (damages_of_list f zone bytes ++ damages_of_sum f zone bytes) []) d h

-- nothing is
pub after_blocks : (f : Form) (zone : ℕ) (bytes : List ℕ) → None ≡ first (damages_of_blocks f zone bytes)
    → option_or (first (damages_of_list f zone bytes)) (first (damages_of_sum f zone bytes))
    ≡ first (damages_of_zone f zone bytes)
unfolding damages_of_zone
after_blocks f zone bytes h =
    first-append (damages_of_list f zone bytes) (damages_of_sum f zone bytes)
    ∙ ap first (sym (ap (λ l. l ++ cond (is_tiled f bytes) (damages_of_list f zone bytes ++ damages_of_sum f zone bytes) [])
    (nothing (damages_of_blocks f zone bytes) h)
    ∙ cond-true (is_tiled f bytes) (damages_of_list f zone bytes ++ damages_of_sum f zone bytes) [] (tiled f zone bytes h)))

-- the zone record isn't in the dump
pub no_record : (f : Form) (dump : List ℕ) (base zone : ℕ) → false ≡ has_record dump base zone
    → first (damages f dump base zone) ≡ Some (broken zone rule.ZonePointer)
unfolding damages
no_record f dump base zone h =
    ap first (cond-true (not (has_record dump base zone)) (broken zone rule.ZonePointer ∷ [])
    (damages_from f zone (from_zone dump base zone)) (ap not (sym h)))

-- it is
pub with_record : (f : Form) (dump : List ℕ) (base zone : ℕ) → true ≡ has_record dump base zone
    → damages f dump base zone ≡ damages_from f zone (from_zone dump base zone)
unfolding damages
with_record f dump base zone h =
    cond-false (not (has_record dump base zone)) (broken zone rule.ZonePointer ∷ [])
    (damages_from f zone (from_zone dump base zone)) (ap not (sym h))

-- bkLim isn't in its place
pub no_limit : (f : Form) (dump : List ℕ) (base zone : ℕ) → true ≡ has_record dump base zone
    → false ≡ has_limit f zone (from_zone dump base zone)
    → first (damages f dump base zone) ≡ Some (broken zone rule.Limit)
no_limit f dump base zone h k =
    ap first (with_record f dump base zone h
    ∙ cond-true (not (has_limit f zone (from_zone dump base zone))) (broken zone rule.Limit ∷ [])
    (damages_of_zone f zone (zone_part f zone (from_zone dump base zone))) (ap not (sym k)))

-- it is
pub with_limit : (f : Form) (dump : List ℕ) (base zone : ℕ) → true ≡ has_record dump base zone
    → true ≡ has_limit f zone (from_zone dump base zone)
    → damages f dump base zone ≡ damages_of_zone f zone (zone_part f zone (from_zone dump base zone))
with_limit f dump base zone h k =
    with_record f dump base zone h
    ∙ cond-false (not (has_limit f zone (from_zone dump base zone))) (broken zone rule.Limit ∷ [])
    (damages_of_zone f zone (zone_part f zone (from_zone dump base zone))) (ap not (sym k))

-- blocks keep their rules just where nothing is wrong with them
keeps : (f : Form) (zone : ℕ) (bytes : List ℕ) (at : ℕ)
    → keeps_rules f zone bytes at ≡ is_empty (block_damages f zone bytes at)
unfolding keeps_rules block_damages
keeps f zone bytes at = sym (is_empty-map (broken (zone + at)) (block_rules f zone bytes at))

all_keep : (f : Form) (zone : ℕ) (bytes xs : List ℕ)
    → list_all (keeps_rules f zone bytes) xs ≡ is_empty (flat_map (block_damages f zone bytes) xs)
all_keep f zone bytes [] = refl
all_keep f zone bytes (x ∷ xs) =
    ap (λ t. t && list_all (keeps_rules f zone bytes) xs) (keeps f zone bytes x)
    ∙ ap (λ t. is_empty (block_damages f zone bytes x) && t) (all_keep f zone bytes xs)
    ∙ sym (is_empty-append (block_damages f zone bytes x) (flat_map (block_damages f zone bytes) xs))

-- and where all do, they tile the zone
all_pass : (f : Form) (zone : ℕ) (bytes xs : List ℕ) → list_all (keeps_rules f zone bytes) xs ≡ true
    → list_all (is_passable f bytes) xs ≡ true
all_pass f zone bytes [] h = refl
all_pass f zone bytes (x ∷ xs) h =
    let parts = and_parts (keeps_rules f zone bytes x) (list_all (keeps_rules f zone bytes) xs) h in
    and_from (is_passable f bytes x) (list_all (is_passable f bytes) xs) (keeps_passable f zone bytes x parts.0)
    (all_pass f zone bytes xs parts.1)

-- bytes are a zone just where nothing is wrong with them
pub zone_whole : (f : Form) (zone : ℕ) (bytes : List ℕ) → is_zone f zone bytes ≡ is_empty (damages_of_zone f zone bytes)
unfolding is_zone damages_of_zone
zone_whole f zone bytes =
    join (list_all (keeps_rules f zone bytes) (block_places f bytes)) (is_tiled f bytes) (number 4 12 bytes == free_bytes f bytes)
    (damages_of_list f zone bytes) (all_pass f zone bytes (block_places f bytes))
    ∙ ap (λ t. t && is_empty (cond (is_tiled f bytes) (damages_of_list f zone bytes ++ damages_of_sum f zone bytes) []))
    (all_keep f zone bytes (block_places f bytes))
    ∙ sym (is_empty-append (damages_of_blocks f zone bytes)
    (cond (is_tiled f bytes) (damages_of_list f zone bytes ++ damages_of_sum f zone bytes) []))
  where
    sums : (e : Bool) → e ≡ is_empty (cond e [] (broken zone rule.FreeBytes ∷ []))
    sums true = refl
    sums false = refl

    join : (a t e : Bool) (ls : List Damage) → (a ≡ true → t ≡ true)
        → (a && is_empty ls && e) ≡ (a && is_empty (cond t (ls ++ cond e [] (broken zone rule.FreeBytes ∷ [])) []))
    join false t e ls h = refl
    join true t e ls h =
        ap (λ b. is_empty ls && b) (sums e)
        ∙ sym (is_empty-append ls (cond e [] (broken zone rule.FreeBytes ∷ [])))
        ∙ ap is_empty (sym (cond-true t (ls ++ cond e [] (broken zone rule.FreeBytes ∷ [])) [] (h refl)))

pub zone_stands : (f : Form) (zone : ℕ) (bytes : List ℕ) → None ≡ first (damages_of_zone f zone bytes)
    → is_zone f zone bytes ≡ true
zone_stands f zone bytes h = zone_whole f zone bytes ∙ empty_if_none (damages_of_zone f zone bytes) h

-- a zone stands in a dump just where nothing is wrong with it
pub dump_whole : (f : Form) (dump : List ℕ) (base zone : ℕ)
    → is_zone_at f dump base zone ≡ is_empty (damages f dump base zone)
unfolding is_zone_at damages
dump_whole f dump base zone =
    cases (has_record dump base zone) (has_limit f zone (from_zone dump base zone))
    (zone_whole f zone (zone_bytes f dump base zone))
  where
    cases : (r k : Bool) → is_zone f zone (zone_bytes f dump base zone) ≡ is_empty (damages_of_zone f zone (zone_bytes f dump base zone))
        → (r && k && is_zone f zone (zone_bytes f dump base zone))
        ≡ is_empty (cond (not r) (broken zone rule.ZonePointer ∷ []) (cond (not k) (broken zone rule.Limit ∷ [])
        (damages_of_zone f zone (zone_bytes f dump base zone))))
    cases false k e = refl
    cases true false e = refl
    cases true true e = e

pub stands : (f : Form) (dump : List ℕ) (base zone : ℕ) → None ≡ first (damages f dump base zone)
    → is_zone_at f dump base zone ≡ true
stands f dump base zone h = dump_whole f dump base zone ∙ empty_if_none (damages f dump base zone) h

pub denied : (f : Form) (dump : List ℕ) (base zone : ℕ) (d : Damage) → first (damages f dump base zone) ≡ Some d
    → is_zone_at f dump base zone ≡ false
denied f dump base zone d h = dump_whole f dump base zone ∙ full_if_some (damages f dump base zone) d h

-- the blocks of a zone keep their rules
pub zone_keeps : (f : Form) (zone : ℕ) (bytes : List ℕ) → is_zone f zone bytes ≡ true
    → list_all (keeps_rules f zone bytes) (block_places f bytes) ≡ true
unfolding is_zone
zone_keeps f zone bytes h =
    (and_parts (list_all (keeps_rules f zone bytes) (block_places f bytes)) (is_empty (damages_of_list f zone bytes))
    (and_parts (list_all (keeps_rules f zone bytes) (block_places f bytes) && is_empty (damages_of_list f zone bytes))
    (number 4 12 bytes == free_bytes f bytes) h).0).0
