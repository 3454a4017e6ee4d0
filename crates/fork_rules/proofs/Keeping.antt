use Rattle.fork_rules.proofs.Cited.{◌≡◌, ℕ, ◌+◌, ◌*◌, Bool, true, false, not, ◌&&◌, cond, List, [], ◌∷◌, Option, Some, None, refl, sym, ◌∙◌}
use Rattle.fork_rules.proofs.Cited.{ap, length, nat_le, list_all, is_fork, ref_fits, refs_fit, name_fits, name_place, datum_fits}
use Rattle.fork_rules.proofs.Cited.{datum_place, map_start, map_end, data_end, type_list, type_count, type_places, ref_places, all_refs}
use Rattle.fork_rules.proofs.Cited.{all_data, most_data, most_references, Rule, Broken, broken_at, first, first_of, broken_part}
use Rattle.fork_rules.proofs.Cited.{broken_list, broken_reference, broken_type, broken_limit, broken}
use Rattle.fork_rules.specs.declared.rules.Rule.TheVariants as rule

-- no rule is broken
abbrev none : Option Broken → Bool
none (Some b) = false
none None = true

from_none : (o : Option Broken) → none o ≡ true → o ≡ None
from_none None h = refl
from_none (Some b) h = cc

-- no rule is broken where none is broken first, and none next
none_first : (a b : Option Broken) → none (first a b) ≡ (none a && none b)
none_first (Some x) b = refl
none_first None b = refl

-- where a test passes, no rule is broken if none is next
none_next : (t : Bool) (r : Rule) (at : ℕ) (next : Option Broken) → none (cond (not t) (broken_at r at) next) ≡ (t && none next)
none_next true r at next = refl
none_next false r at next = refl

-- nor by what stands at offsets
none_of : (test : ℕ → Option Broken) (fits : ℕ → Bool) → ((at : ℕ) → none (test at) ≡ fits at) → (places : List ℕ)
    → none (first_of test places) ≡ list_all fits places
none_of test fits each [] = refl
none_of test fits each (at ∷ places) = none_first (test at) (first_of test places)
    ∙ ap (λ t. t && none (first_of test places)) (each at) ∙ ap (λ t. fits at && t) (none_of test fits each places)

in_order : (a b d : Bool) → (a && (b && (d && true))) ≡ (a && b && d)
in_order true true true = refl
in_order true true false = refl
in_order true false d = refl
in_order false b d = refl

none_reference : (bytes : List ℕ) (entry at : ℕ) → none (broken_reference bytes entry at) ≡ ref_fits bytes at
none_reference bytes entry at =
    let a : Bool = nat_le (at + 12) (map_end bytes) in
    let b : Bool = name_fits (name_place at bytes) bytes in
    let d : Bool = datum_fits (datum_place at bytes) bytes in
    none_next a _ entry _ ∙ ap (λ t. a && t) (none_next b _ (at + 2) _ ∙ ap (λ t. b && t) (none_next d _ (at + 5) None))
    ∙ in_order a b d

none_type : (bytes : List ℕ) (entry : ℕ) → none (broken_type bytes entry) ≡ refs_fit bytes entry
none_type bytes entry = none_of (broken_reference bytes entry) (ref_fits bytes) (none_reference bytes entry)
    (ref_places entry bytes)

none_part : (bytes : List ℕ) → none (broken_part bytes) ≡ (nat_le 16 (length bytes)
    && (nat_le (data_end bytes) (length bytes) && (nat_le (map_end bytes) (length bytes)
    && (nat_le (map_start bytes + 30) (map_end bytes) && true))))
none_part bytes =
    let a : Bool = nat_le 16 (length bytes) in
    let b : Bool = nat_le (data_end bytes) (length bytes) in
    let d : Bool = nat_le (map_end bytes) (length bytes) in
    none_next a rule.HeaderCutOff 0 _ ∙ ap (λ t. a && t) (none_next b rule.DataOutside 0 _
    ∙ ap (λ t. b && t) (none_next d rule.MapOutside 4 _
    ∙ ap (λ t. d && t) (none_next (nat_le (map_start bytes + 30) (map_end bytes)) rule.MapTooShort 12 None)))

none_list : (bytes : List ℕ) → none (broken_list bytes) ≡ (nat_le (type_list bytes + 2) (map_end bytes)
    && (nat_le (type_list bytes + 2 + 8 * type_count bytes) (map_end bytes)
    && (nat_le (all_refs bytes) most_references && true)))
none_list bytes =
    let a : Bool = nat_le (type_list bytes + 2) (map_end bytes) in
    let b : Bool = nat_le (type_list bytes + 2 + 8 * type_count bytes) (map_end bytes) in
    none_next a rule.TypeListOutside (map_start bytes + 24) _
    ∙ ap (λ t. a && t) (none_next b rule.EntriesOutside (type_list bytes) _
    ∙ ap (λ t. b && t) (none_next (nat_le (all_refs bytes) most_references) rule.TooManyReferences (type_list bytes) None))

-- the tests of the rules, one after another, are those of `is_fork`
all_in_order : (a b d e f g h i j : Bool) → ((a && (b && (d && (e && true)))) && ((f && (g && (h && true))) && (i && (j && true))))
    ≡ ((a && b && d && e) && (f && g) && h && i && j)
all_in_order false b d e f g h i j = refl
all_in_order true false d e f g h i j = refl
all_in_order true true false e f g h i j = refl
all_in_order true true true false f g h i j = refl
all_in_order true true true true false g h i j = refl
all_in_order true true true true true false h i j = refl
all_in_order true true true true true true false i j = refl
all_in_order true true true true true true true false j = refl
all_in_order true true true true true true true true false = refl
all_in_order true true true true true true true true true = refl

both : {a a' b b' : Bool} → a ≡ a' → b ≡ b' → (a && b) ≡ (a' && b')
both p q = cc

none_broken : (bytes : List ℕ) → none (broken bytes) ≡ is_fork bytes
none_broken bytes =
    none_first (broken_part bytes) _ ∙ both (none_part bytes) (none_first (broken_list bytes) _
    ∙ both (none_list bytes) (none_first (first_of (broken_type bytes) (type_places bytes)) (broken_limit bytes)
    ∙ both (none_of (broken_type bytes) (refs_fit bytes) (none_type bytes) (type_places bytes))
    (none_next (nat_le (all_data bytes) most_data) rule.TooMuchData (type_list bytes) None)))
    ∙ all_in_order (nat_le 16 (length bytes)) (nat_le (data_end bytes) (length bytes)) (nat_le (map_end bytes) (length bytes))
    (nat_le (map_start bytes + 30) (map_end bytes)) (nat_le (type_list bytes + 2) (map_end bytes))
    (nat_le (type_list bytes + 2 + 8 * type_count bytes) (map_end bytes)) (nat_le (all_refs bytes) most_references)
    (list_all (refs_fit bytes) (type_places bytes)) (nat_le (all_data bytes) most_data)

-- bytes that break no rule are a fork, and a fork breaks none
pub kept : (bytes : List ℕ) → broken bytes ≡ None → is_fork bytes ≡ true
kept bytes h = sym (none_broken bytes) ∙ ap none h

pub keeps : (bytes : List ℕ) → is_fork bytes ≡ true → broken bytes ≡ None
keeps bytes h = from_none (broken bytes) (none_broken bytes ∙ h)

-- all that is left of the rules is the limit of the stored data
pub limit_left : (bytes : List ℕ) → broken_part bytes ≡ None → broken_list bytes ≡ None
    → first_of (broken_type bytes) (type_places bytes) ≡ None → broken bytes ≡ broken_limit bytes
limit_left bytes p l t =
    ap (λ o. first o (first (broken_list bytes) (first (first_of (broken_type bytes) (type_places bytes)) (broken_limit bytes)))) p
    ∙ ap (λ o. first o (first (first_of (broken_type bytes) (type_places bytes)) (broken_limit bytes))) l
    ∙ ap (λ o. first o (broken_limit bytes)) t

-- which a fork keeps, and other bytes do not
pub limit_kept : (bytes : List ℕ) → broken_part bytes ≡ None → broken_list bytes ≡ None
    → first_of (broken_type bytes) (type_places bytes) ≡ None → is_fork bytes ≡ true → None ≡ broken_limit bytes
limit_kept bytes p l t fork = sym (keeps bytes fork) ∙ limit_left bytes p l t

pub limit_broken : (bytes : List ℕ) → broken_part bytes ≡ None → broken_list bytes ≡ None
    → first_of (broken_type bytes) (type_places bytes) ≡ None → is_fork bytes ≡ false
    → broken_at rule.TooMuchData (type_list bytes) ≡ broken_limit bytes
limit_broken bytes p l t no_fork = cases (nat_le (all_data bytes) most_data)
    (sym (ap none (limit_left bytes p l t)) ∙ none_broken bytes ∙ no_fork)
  where
    cases : (t : Bool) → none (cond (not t) (broken_at rule.TooMuchData (type_list bytes)) None) ≡ false
        → broken_at rule.TooMuchData (type_list bytes) ≡ cond (not t) (broken_at rule.TooMuchData (type_list bytes)) None
    cases false h = refl
    cases true h = cc
