use Rattle.real_zone.proofs.Cited.{◌≡◌, ℕ, ◌+◌, ◌<◌, ◌≤◌, Bool, true, false, ◌&&◌, cond, not, List, [], ◌∷◌, ◌++◌, length, Option, Some}
use Rattle.real_zone.proofs.Cited.{None, refl, sym, ◌∙◌, ap, nat_le, nat_lt, flat_map, option_to_list, option_or, lt-leb, le-leb, ltb-false}
use Rattle.real_zone.proofs.Cited.{cond-false, cond-true, tag_at, size_at, first, has_room, is_size, is_passable, places_from, length_rule}
use Rattle.real_zone.proofs.Cited.{kind_rule, owner_rule, block_rules, keeps_rules, broken, block_damages, Form, Rule, Damage}
use Rattle.real_zone.specs.declared.fault.Rule.TheVariants as rule
use Rattle.real_zone.proofs.Firsts.{first_of_options, first-map_some, first-map_none, map-nothing, nothing, empty, first-append_some}
use Rattle.real_zone.proofs.Walking.{next, rest_after, first_place, next_places, no_places}

-- What is wrong with a block, and with blocks one after the other.

-- the rules of a block with a header
abbrev three : Form → ℕ → List ℕ → ℕ → List Rule
three f zone bytes at = option_to_list (length_rule f bytes at) ++ option_to_list (kind_rule (tag_at bytes at) f bytes at)
    ++ option_to_list (owner_rule (tag_at bytes at) f zone bytes at)

-- no header would fit
pub no_room : (f : Form) (zone : ℕ) (bytes : List ℕ) (at : ℕ) → length bytes < at + 12
    → Some rule.HeapLength ≡ first (block_rules f zone bytes at)
unfolding block_rules
no_room f zone bytes at h =
    sym (ap first (cond-true (not (has_room bytes at)) (rule.HeapLength ∷ []) (three f zone bytes at)
    (ap not (lt-leb (at + 12) (length bytes) h))))

-- one would
pub first_of_three : (f : Form) (zone : ℕ) (bytes : List ℕ) (at : ℕ) → at + 12 ≤ length bytes
    → option_or (option_or (length_rule f bytes at) (kind_rule (tag_at bytes at) f bytes at))
    (owner_rule (tag_at bytes at) f zone bytes at) ≡ first (block_rules f zone bytes at)
unfolding block_rules
first_of_three f zone bytes at h =
    first_of_options (length_rule f bytes at) (kind_rule (tag_at bytes at) f bytes at)
    (owner_rule (tag_at bytes at) f zone bytes at)
    ∙ sym (ap first (cond-false (not (has_room bytes at)) (rule.HeapLength ∷ []) (three f zone bytes at)
    (ap not (le-leb (at + 12) (length bytes) h))))

-- the first rule that is broken, with its address
pub damaged : (f : Form) (zone : ℕ) (bytes : List ℕ) (at : ℕ) (r : Rule) → Some r ≡ first (block_rules f zone bytes at)
    → Some (broken (zone + at) r) ≡ first (block_damages f zone bytes at)
unfolding block_damages
damaged f zone bytes at r h = first-map_some (broken (zone + at)) (block_rules f zone bytes at) r h

pub undamaged : (f : Form) (zone : ℕ) (bytes : List ℕ) (at : ℕ) → None ≡ first (block_rules f zone bytes at)
    → None ≡ first (block_damages f zone bytes at)
unfolding block_damages
undamaged f zone bytes at h = first-map_none (broken (zone + at)) (block_rules f zone bytes at) h

-- a block that breaks no rule is passable
sound : (f : Form) (zone : ℕ) (bytes : List ℕ) (at : ℕ) → block_rules f zone bytes at ≡ [] → is_passable f bytes at ≡ true
unfolding block_rules is_passable length_rule
sound f zone bytes at h =
    cases (has_room bytes at) (is_size f (size_at f bytes at)) (nat_le (at + size_at f bytes at) (length bytes))
    (nat_lt (length bytes) (at + size_at f bytes at)) (kind_rule (tag_at bytes at) f bytes at)
    (owner_rule (tag_at bytes at) f zone bytes at)
    (λ e. le-leb (at + size_at f bytes at) (length bytes) (ltb-false (length bytes) (at + size_at f bytes at) e)) h
  where
    cases : (a b c d : Bool) (k o : Option Rule) → (d ≡ false → c ≡ true)
        → cond (not a) (rule.HeapLength ∷ []) (option_to_list (cond (not b) (Some rule.BlockLength)
        (cond d (Some rule.HeapLength) None)) ++ option_to_list k ++ option_to_list o) ≡ [] → (a && b && c) ≡ true
    cases false b c d k o r h = cc
    cases true false c d k o r h = cc
    cases true true c true k o r h = cc
    cases true true c false k o r h = r refl

pub passable : (f : Form) (zone : ℕ) (bytes : List ℕ) (at : ℕ) → None ≡ first (block_rules f zone bytes at)
    → is_passable f bytes at ≡ true
passable f zone bytes at h = sound f zone bytes at (nothing (block_rules f zone bytes at) h)

pub passable_if_whole : (f : Form) (zone : ℕ) (bytes : List ℕ) (at : ℕ) → block_damages f zone bytes at ≡ []
    → is_passable f bytes at ≡ true
unfolding block_damages
passable_if_whole f zone bytes at h =
    sound f zone bytes at (map-nothing (broken (zone + at)) (block_rules f zone bytes at) h)

-- a block that keeps all rules is passable
pub keeps_passable : (f : Form) (zone : ℕ) (bytes : List ℕ) (at : ℕ) → keeps_rules f zone bytes at ≡ true
    → is_passable f bytes at ≡ true
unfolding keeps_rules
keeps_passable f zone bytes at h = sound f zone bytes at (empty (block_rules f zone bytes at) h)

-- what is wrong from a place on
abbrev pub damages_past : Form → ℕ → List ℕ → ℕ → List Damage
damages_past f zone bytes at = flat_map (block_damages f zone bytes) (places_from f bytes at)

-- nothing is wrong with a block, before others
pub goes_on : (f : Form) (zone : ℕ) (bytes : List ℕ) (at : ℕ) (total : List Damage) → is_passable f bytes at ≡ true
    → None ≡ first (block_damages f zone bytes at) → damages_past f zone bytes at ≡ total
    → damages_past f zone bytes (next f bytes at) ≡ total
goes_on f zone bytes at total p none e =
    ap (λ l. l ++ damages_past f zone bytes (next f bytes at)) (sym (nothing (block_damages f zone bytes at) none))
    ∙ sym (ap (flat_map (block_damages f zone bytes)) (next_places f bytes at p)) ∙ e

-- something is
pub stops : (f : Form) (zone : ℕ) (bytes : List ℕ) (at : ℕ) (d : Damage) (total : List Damage) → at < length bytes
    → Some d ≡ first (block_damages f zone bytes at) → damages_past f zone bytes at ≡ total → Some d ≡ first total
stops f zone bytes at d total h is e =
    first-append_some (block_damages f zone bytes at) (flat_map (block_damages f zone bytes) (rest_after f bytes at)) d is
    ∙ ap first (sym (ap (flat_map (block_damages f zone bytes)) (first_place f bytes at h)) ∙ e)

-- no block is left
pub ends : (f : Form) (zone : ℕ) (bytes : List ℕ) (at : ℕ) (total : List Damage) → length bytes ≤ at
    → damages_past f zone bytes at ≡ total → None ≡ first total
ends f zone bytes at total h e =
    ap first (sym (ap (flat_map (block_damages f zone bytes)) (no_places f bytes at h)) ∙ e)
