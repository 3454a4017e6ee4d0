use Rattle.real_zone.proofs.Cited.{◌≡◌, ℕ, zero, suc, ◌+◌, ◌*◌, ◌-◌, ◌<◌, ◌≤◌, Bool, true, false, ◌&&◌, List, [], ◌∷◌, length, arith}
use Rattle.real_zone.proofs.Cited.{Option, Some, None, refl, sym, ◌∙◌, ap, sum_by, nat_le, list_all, option_or, and_parts, leb-true}
use Rattle.real_zone.proofs.Cited.{sum_by-cons, header_size, is_passable, first_found, number, spaced, entries, type_list, types_end}
use Rattle.real_zone.proofs.Cited.{has_types, has_references, reference_count, first_reference, is_resource_map, named_by, named_in_type}
use Rattle.real_zone.proofs.Cited.{logical_size, Form, Resource}
use Rattle.real_zone.specs.Resources.{has_room}
use Rattle.real_zone.specs.declared.form.Form.TheVariants as form
use Rattle.real_zone.proofs.Walking.{passes}

-- The resources that the maps in a zone name.

-- the content of a block lies in the zone
pub content_inside : (f : Form) (bytes : List ℕ) (at : ℕ) → is_passable f bytes at ≡ true
    → at + header_size f + logical_size f bytes at ≤ length bytes
unfolding logical_size
content_inside form.Bits24 bytes at h = let p = passes form.Bits24 bytes at h in omega (arith, p.room, p.whole)
content_inside form.Bits32 bytes at h = let p = passes form.Bits32 bytes at h in omega (arith, p.room, p.whole)

-- where a content has a type list
pub fixed_part : (content : List ℕ) → has_types content ≡ true → 28 ≤ length content
unfolding has_types
fixed_part content h =
    let a = nat_le 28 (length content) in
    let b = nat_le 28 (type_list content) in
    let c = nat_le (types_end content) (length content) in
    let x = and_parts (a && b && c) (nat_le (number 2 26 content) (length content)) h in
    leb-true 28 (length content) (and_parts a b (and_parts (a && b) c x.0).0).0

pub types_inside : (content : List ℕ) → has_types content ≡ true → types_end content ≤ length content
unfolding has_types
types_inside content h =
    let a = nat_le 28 (length content) in
    let b = nat_le 28 (type_list content) in
    let c = nat_le (types_end content) (length content) in
    let x = and_parts (a && b && c) (nat_le (number 2 26 content) (length content)) h in
    leb-true (types_end content) (length content) (and_parts (a && b) c x.0).1

-- a resource map has all its lists
pub map_types : (content : List ℕ) → is_resource_map content ≡ true → has_types content ≡ true
unfolding is_resource_map
map_types content h =
    let lists = list_all (has_references content) (entries content) in
    (and_parts (has_types content) lists (and_parts (has_types content && lists) (has_room content) h).0).0

pub map_references : (content : List ℕ) → is_resource_map content ≡ true
    → list_all (has_references content) (entries content) ≡ true
unfolding is_resource_map
map_references content h =
    let lists = list_all (has_references content) (entries content) in
    (and_parts (has_types content) lists (and_parts (has_types content && lists) (has_room content) h).0).1

-- the references of a type lie in the content
pub references_inside : (content : List ℕ) (entry : ℕ) → has_references content entry ≡ true
    → first_reference content entry + 12 * reference_count content entry ≤ length content
unfolding has_references
references_inside content entry h = leb-true _ (length content) h

-- places that are left: the next one, before others, and none
pub spaced_next : (gap n k at : ℕ) → k < n → spaced gap (n - k) at ≡ at ∷ spaced gap (n - (k + 1)) (at + gap)
unfolding spaced
spaced_next gap n k at h =
    let e : n - k ≡ suc (n - (k + 1)) = omega arith in
    ap (λ m. spaced gap m at) e

pub spaced_end : (gap n k at : ℕ) → n ≤ k → spaced gap (n - k) at ≡ []
unfolding spaced
spaced_end gap n k at h =
    let e : n - k ≡ zero = omega arith in
    ap (λ m. spaced gap m at) e

-- all references of a type
pub all_left : (f : Form) (content : List ℕ) (entry n at other : ℕ) (there : Option Resource) → n ≡ reference_count content entry
    → at ≡ first_reference content entry
    → option_or there (first_found (named_by f content entry other) (spaced 12 (n - 0) at))
    ≡ option_or there (named_in_type f content other entry)
unfolding named_in_type
all_left f content entry n at other there counted first =
    let e : n - 0 ≡ reference_count content entry = omega (arith, counted) in
    ap (λ m. option_or there (first_found (named_by f content entry other) (spaced 12 m at))) e
    ∙ ap (λ a. option_or there (first_found (named_by f content entry other) (spaced 12 (reference_count content entry) a))) first

-- numbers of places, summed
pub summed_more : (count : ℕ → ℕ) (gap n k at sum total : ℕ) → k < n → sum + sum_by count (spaced gap (n - k) at) ≡ total
    → sum + count at + sum_by count (spaced gap (n - (k + 1)) (at + gap)) ≡ total
summed_more count gap n k at sum total h e =
    let more = ap (sum_by count) (spaced_next gap n k at h) ∙ sum_by-cons count at (spaced gap (n - (k + 1)) (at + gap)) in
    omega (arith, more, e)

pub summed_end : (count : ℕ → ℕ) (gap n k at sum total : ℕ) → n ≤ k → sum + sum_by count (spaced gap (n - k) at) ≡ total
    → sum ≡ total
summed_end count gap n k at sum total h e =
    let none = ap (sum_by count) (spaced_end gap n k at h) in omega (arith, none, e)

-- a test that all places pass, or one does not
pub all_more : (p : ℕ → Bool) (gap n k at : ℕ) (whole : Bool) → k < n → p at ≡ true
    → list_all p (spaced gap (n - k) at) ≡ whole → list_all p (spaced gap (n - (k + 1)) (at + gap)) ≡ whole
all_more p gap n k at whole h holds e =
    ap (λ t. t && list_all p (spaced gap (n - (k + 1)) (at + gap))) (sym holds)
    ∙ ap (list_all p) (sym (spaced_next gap n k at h)) ∙ e

pub all_stop : (p : ℕ → Bool) (gap n k at : ℕ) (whole : Bool) → k < n → p at ≡ false
    → list_all p (spaced gap (n - k) at) ≡ whole → false ≡ whole
all_stop p gap n k at whole h fails e =
    ap (λ t. t && list_all p (spaced gap (n - (k + 1)) (at + gap))) (sym fails)
    ∙ ap (list_all p) (sym (spaced_next gap n k at h)) ∙ e

pub all_end : (p : ℕ → Bool) (gap n k at : ℕ) (whole : Bool) → n ≤ k → list_all p (spaced gap (n - k) at) ≡ whole → true ≡ whole
all_end p gap n k at whole h e = ap (list_all p) (sym (spaced_end gap n k at h)) ∙ e

pub all_here : (p : ℕ → Bool) (gap n k at : ℕ) → k < n → list_all p (spaced gap (n - k) at) ≡ true → p at ≡ true
all_here p gap n k at h all =
    (and_parts (p at) (list_all p (spaced gap (n - (k + 1)) (at + gap)))
    (ap (list_all p) (sym (spaced_next gap n k at h)) ∙ all)).0

-- what is there, or else nothing
pub no_more : {A : Type 0} (x : Option A) → x ≡ option_or x None
no_more None = refl
no_more (Some x) = refl

-- what was found at one thing more
pub found_more : {A B : Type 0} (find : A → Option B) (there there' : Option B) (x : A) (all rest : List A) (whole : Option B)
    → all ≡ x ∷ rest → there' ≡ option_or there (find x) → option_or there (first_found find all) ≡ whole
    → option_or there' (first_found find rest) ≡ whole
found_more find there there' x all rest whole e entered before =
    let grouped : option_or (option_or there (find x)) (first_found find rest)
    ≡ option_or there (option_or (find x) (first_found find rest)) = grind arith in
    ap (λ t. option_or t (first_found find rest)) entered ∙ grouped
    ∙ ap (λ l. option_or there (first_found find l)) (sym e) ∙ before

-- and at all
pub found_end : {A B : Type 0} (find : A → Option B) (there : Option B) (rest : List A) (whole : Option B)
    → rest ≡ [] → option_or there (first_found find rest) ≡ whole → there ≡ whole
found_end find there rest whole e before =
    no_more there ∙ ap (λ l. option_or there (first_found find l)) (sym e) ∙ before
