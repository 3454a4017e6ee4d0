use Rattle.zone_script_laws.proofs.Cited.{◌≡◌, ℕ, ◌+◌, ◌-◌, ◌/◌, ◌%◌, ◌≤◌, ◌<◌, zero, suc, Bool, true, false, ◌==◌, ◌&&◌, not, nat_le}
use Rattle.zone_script_laws.proofs.Cited.{nat_lt, List, [], ◌∷◌, ◌++◌, refl, sym, ◌∙◌, ap, cond, subst, map, arith, length, get_or}
use Rattle.zone_script_laws.proofs.Cited.{bytes_eq, Option, Some, None, list_all, option_to_list, cond-true, cond-false, and_parts}
use Rattle.zone_script_laws.proofs.Cited.{leb-true, eqb-true, eqb-false, false_from_ne_true, nat_tests, none-some, bytes_eq-Decides}
use Rattle.zone_script_laws.proofs.Cited.{is_empty, header_size, tag_at, owner_at, has_room, is_passable, places, is_master_place}
use Rattle.zone_script_laws.proofs.Cited.{master_at, length_rule, kind_rule, owner_rule, handle_rule, block_rules, keeps_rules, block_at}
use Rattle.zone_script_laws.proofs.Cited.{kind_of, master_of, is_zone, Form, Tag, Rule, passes, next, zone_keeps, hex_digit, digit_at}
use Rattle.zone_script_laws.proofs.Cited.{hex_text, part_as, part_of, parts_of, parts_in, Part, named, name_of, Others, NamesDiffer}
use Rattle.real_zone.specs.declared.form.Tag.TheVariants as tag
use Rattle.real_zone.specs.declared.fault.Rule.TheVariants as rule

-- The names of the blocks of a zone differ.

-- an address is known by its hexadecimal digits
unhex : ℕ → ℕ
unhex c = cond (nat_lt c 58) (c - 48) (c - 55)

unhex-digit : (d : ℕ) → d < 16 → unhex (hex_digit d) ≡ d
unfolding unhex
unhex-digit d small = cases (nat_lt d 10) refl
  where
    cases : (t : Bool) → nat_lt d 10 ≡ t
        → cond {A = ℕ} (nat_lt (cond t (48 + d) (55 + d)) 58) (cond t (48 + d) (55 + d) - 48) (cond t (48 + d) (55 + d) - 55) ≡ d
    cases true e =
        let l : d < 10 = grind (arith, nat_tests) in
        cond-true {A = ℕ} (nat_lt (48 + d) 58) (48 + d - 48) (48 + d - 55) (grind (arith, nat_tests))
        ∙ (let z : 48 + d - 48 ≡ d = omega arith in z)
    cases false e =
        let l : 10 ≤ d = grind (arith, nat_tests) in
        cond-false {A = ℕ} (nat_lt (55 + d) 58) (55 + d - 48) (55 + d - 55) (grind (arith, nat_tests))
        ∙ (let z : 55 + d - 55 ≡ d = omega arith in z)

same-hex : (x y : ℕ) → hex_digit (x % 16) ≡ hex_digit (y % 16) → x % 16 ≡ y % 16
same-hex x y e = sym (unhex-digit (x % 16) (omega arith)) ∙ ap unhex e ∙ unhex-digit (y % 16) (omega arith)

one-digit : (u v : ℕ) → u / 16 ≡ v / 16 → u % 16 ≡ v % 16 → u ≡ v
one-digit u v e f = omega arith

next-6 : (a : ℕ) → a / 0x1000000 / 16 ≡ a / 0x10000000
next-6 a = omega arith

next-5 : (a : ℕ) → a / 0x100000 / 16 ≡ a / 0x1000000
next-5 a = omega arith

next-4 : (a : ℕ) → a / 0x10000 / 16 ≡ a / 0x100000
next-4 a = omega arith

next-3 : (a : ℕ) → a / 0x1000 / 16 ≡ a / 0x10000
next-3 a = omega arith

next-2 : (a : ℕ) → a / 0x100 / 16 ≡ a / 0x1000
next-2 a = omega arith

next-1 : (a : ℕ) → a / 0x10 / 16 ≡ a / 0x100
next-1 a = omega arith

next-0 : (a : ℕ) → a / 1 / 16 ≡ a / 0x10
next-0 a = omega arith

alone-0 : (a : ℕ) → a / 1 ≡ a
alone-0 a = omega arith

first-digit : (a b : ℕ) → a < 4294967296 → b < 4294967296 → a / 0x10000000 % 16 ≡ b / 0x10000000 % 16
    → a / 0x10000000 ≡ b / 0x10000000
first-digit a b sa sb e = omega arith

pub same-address : (a b : ℕ) → a < 4294967296 → b < 4294967296 → hex_text a ≡ hex_text b → a ≡ b
unfolding hex_text digit_at
same-address a b sa sb e =
    let q7 = first-digit a b sa sb (same-hex (a / 0x10000000) (b / 0x10000000) (ap (λ l. get_or l 0 0) e)) in
    let q6 = one-digit (a / 0x1000000) (b / 0x1000000) (next-6 a ∙ q7 ∙ sym (next-6 b))
    (same-hex (a / 0x1000000) (b / 0x1000000) (ap (λ l. get_or l 1 0) e)) in
    let q5 = one-digit (a / 0x100000) (b / 0x100000) (next-5 a ∙ q6 ∙ sym (next-5 b))
    (same-hex (a / 0x100000) (b / 0x100000) (ap (λ l. get_or l 2 0) e)) in
    let q4 = one-digit (a / 0x10000) (b / 0x10000) (next-4 a ∙ q5 ∙ sym (next-4 b))
    (same-hex (a / 0x10000) (b / 0x10000) (ap (λ l. get_or l 3 0) e)) in
    let q3 =
    one-digit (a / 0x1000) (b / 0x1000) (next-3 a ∙ q4 ∙ sym (next-3 b)) (same-hex (a / 0x1000) (b / 0x1000) (ap (λ l. get_or l 4 0) e)) in
    let q2 =
    one-digit (a / 0x100) (b / 0x100) (next-2 a ∙ q3 ∙ sym (next-2 b)) (same-hex (a / 0x100) (b / 0x100) (ap (λ l. get_or l 5 0) e)) in
    let q1 = one-digit (a / 0x10) (b / 0x10) (next-1 a ∙ q2 ∙ sym (next-1 b)) (same-hex (a / 0x10) (b / 0x10) (ap (λ l. get_or l 6 0) e)) in
    let q0 = one-digit (a / 1) (b / 1) (next-0 a ∙ q1 ∙ sym (next-0 b)) (same-hex (a / 1) (b / 1) (ap (λ l. get_or l 7 0) e)) in
    sym (alone-0 a) ∙ q0 ∙ alone-0 b

-- a name is known by its letter and its address
same-letter : (l m x y : ℕ) → named l x ≡ named m y → l ≡ m
same-letter l m x y e = ap (λ n. get_or n 0 0) e

same-rest : (l m x y : ℕ) → named l x ≡ named m y → hex_text x ≡ hex_text y
same-rest l m x y e = ap tail e
  where
    tail : List ℕ → List ℕ
    tail [] = []
    tail (c ∷ cs) = cs

apart-letters : (l m x y : ℕ) → (l == m) ≡ false → named l x ≡ named m y → ⊥
apart-letters l m x y apart e = eqb-false l m apart (same-letter l m x y e)

-- the master pointer of a relocatable block
last-none : (rules : List Rule) (o : Option Rule) → is_empty (rules ++ option_to_list o) ≡ true → o ≡ None
last-none [] None e = refl
last-none [] (Some r) e = let f : false ≡ true = e in cc
last-none (r ∷ rules) o e = let f : false ≡ true = e in cc

owner-none : (f : Form) (zone : ℕ) (bytes : List ℕ) (at : ℕ) → keeps_rules f zone bytes at ≡ true
    → owner_rule (tag_at bytes at) f zone bytes at ≡ None
unfolding keeps_rules block_rules
owner-none f zone bytes at keeps = cases (has_room bytes at) keeps
  where
    cases : (t : Bool) → is_empty (cond (not t) (rule.HeapLength ∷ []) ((option_to_list (length_rule f bytes at)
        ++ option_to_list (kind_rule (tag_at bytes at) f bytes at)) ++ option_to_list (owner_rule (tag_at bytes at) f zone bytes at)))
        ≡ true
        → owner_rule (tag_at bytes at) f zone bytes at ≡ None
    cases true e = last-none (option_to_list (length_rule f bytes at) ++ option_to_list (kind_rule (tag_at bytes at) f bytes at))
        (owner_rule (tag_at bytes at) f zone bytes at) e
    cases false e = let g : false ≡ true = e in cc

both : (t u : Bool) → cond (not t) (Some rule.RelativeHandle) (cond (not u) (Some rule.MasterPointer) None) ≡ None
    → (t ≡ true) × (u ≡ true)
both true true e = (refl, refl)
both true false e = absurd (none-some _ (sym e))
both false u e = absurd (none-some _ (sym e))

record Led (f : Form) (zone : ℕ) (bytes : List ℕ) (at : ℕ) : Type 0 where
  inside : owner_at f bytes at + 4 ≤ length bytes
  leads : master_at f bytes (owner_at f bytes at) ≡ zone + at + header_size f

led : (f : Form) (zone : ℕ) (bytes : List ℕ) (at : ℕ) → keeps_rules f zone bytes at ≡ true
    → tag_at bytes at ≡ Some tag.Relocatable → Led f zone bytes at
unfolding owner_rule handle_rule is_master_place
led f zone bytes at keeps is =
    let none : owner_rule (Some tag.Relocatable) f zone bytes at ≡ None =
    subst (λ t. owner_rule t f zone bytes at ≡ None) is (owner-none f zone bytes at keeps) in
    let two = both (is_master_place f bytes (owner_at f bytes at))
    (master_at f bytes (owner_at f bytes at) == zone + at + header_size f) none in
    let parts = and_parts (nat_le 52 (owner_at f bytes at) && nat_le (owner_at f bytes at + 4) (length bytes)) _ two.0 in
    record {
      inside = leb-true (owner_at f bytes at + 4) (length bytes)
          (and_parts (nat_le 52 (owner_at f bytes at)) (nat_le (owner_at f bytes at + 4) (length bytes)) parts.0).1;
      leads = eqb-true (master_at f bytes (owner_at f bytes at)) (zone + at + header_size f) two.1;
    }

module _ (f : Form) (zone : ℕ) (bytes : List ℕ) (small : zone + length bytes ≤ 4294967296)
  where
    abbrev part_at : ℕ → Part
    part_at at = part_of (block_at f zone bytes at)

    -- the name by the kind
    abbrev name_by : Option Tag → ℕ → List ℕ
    name_by None at = named 112 (zone + at)
    name_by (Some tag.Free) at = named 102 (zone + at)
    name_by (Some tag.Nonrelocatable) at = named 112 (zone + at)
    name_by (Some tag.Relocatable) at = named 104 ((zone + owner_at f bytes at) % 0x100000000)

    name-is : (at : ℕ) → name_of (part_at at) ≡ name_by (tag_at bytes at) at
    unfolding block_at kind_of master_of
    name-is at = cases (tag_at bytes at)
      where
        cases : (t : Option Tag) → name_of (part_as (kind_of t f zone bytes at) (block_at f zone bytes at)) ≡ name_by t at
        cases None = refl
        cases (Some tag.Free) = refl
        cases (Some tag.Nonrelocatable) = refl
        cases (Some tag.Relocatable) = refl

    same-place : (l a b : ℕ) → a < b → b < length bytes → named l (zone + b) ≡ named l (zone + a) → ⊥
    same-place l a b less inside e =
        let z = same-address (zone + b) (zone + a) (omega arith) (omega arith) (same-rest l l (zone + b) (zone + a) e) in
        absurd (omega arith)

    same-master : (a b : ℕ) → a < b → Led f zone bytes a → Led f zone bytes b
        → named 104 ((zone + owner_at f bytes b) % 0x100000000) ≡ named 104 ((zone + owner_at f bytes a) % 0x100000000) → ⊥
    same-master a b less la lb e =
        let la-in = la.inside in
        let lb-in = lb.inside in
        let m = same-address ((zone + owner_at f bytes b) % 0x100000000) ((zone + owner_at f bytes a) % 0x100000000) (omega arith)
        (omega arith) (same-rest 104 104 _ _ e) in
        let o : owner_at f bytes b ≡ owner_at f bytes a = omega arith in
        let z : zone + b + header_size f ≡ zone + a + header_size f = sym lb.leads ∙ ap (master_at f bytes) o ∙ la.leads in
        absurd (omega arith)

    names-apart : (a b : ℕ) → a < b → b < length bytes → keeps_rules f zone bytes a ≡ true → keeps_rules f zone bytes b ≡ true
        → name_of (part_at b) ≡ name_of (part_at a) → ⊥
    names-apart a b less inside ka kb e = cases (tag_at bytes b) (tag_at bytes a) refl refl (sym (name-is b) ∙ e ∙ name-is a)
      where
        cases : (t s : Option Tag) → tag_at bytes b ≡ t → tag_at bytes a ≡ s → name_by t b ≡ name_by s a → ⊥
        cases None None ib ia e = same-place 112 a b less inside e
        cases None (Some tag.Free) ib ia e = apart-letters 112 102 _ _ refl e
        cases None (Some tag.Nonrelocatable) ib ia e = same-place 112 a b less inside e
        cases None (Some tag.Relocatable) ib ia e = apart-letters 112 104 _ _ refl e
        cases (Some tag.Free) None ib ia e = apart-letters 102 112 _ _ refl e
        cases (Some tag.Free) (Some tag.Free) ib ia e = same-place 102 a b less inside e
        cases (Some tag.Free) (Some tag.Nonrelocatable) ib ia e = apart-letters 102 112 _ _ refl e
        cases (Some tag.Free) (Some tag.Relocatable) ib ia e = apart-letters 102 104 _ _ refl e
        cases (Some tag.Nonrelocatable) None ib ia e = same-place 112 a b less inside e
        cases (Some tag.Nonrelocatable) (Some tag.Free) ib ia e = apart-letters 112 102 _ _ refl e
        cases (Some tag.Nonrelocatable) (Some tag.Nonrelocatable) ib ia e = same-place 112 a b less inside e
        cases (Some tag.Nonrelocatable) (Some tag.Relocatable) ib ia e = apart-letters 112 104 _ _ refl e
        cases (Some tag.Relocatable) None ib ia e = apart-letters 104 112 _ _ refl e
        cases (Some tag.Relocatable) (Some tag.Free) ib ia e = apart-letters 104 102 _ _ refl e
        cases (Some tag.Relocatable) (Some tag.Nonrelocatable) ib ia e = apart-letters 104 112 _ _ refl e
        cases (Some tag.Relocatable) (Some tag.Relocatable) ib ia e =
            same-master a b less (led f zone bytes a ka ia) (led f zone bytes b kb ib) e

    names-differ : (a b : ℕ) → a < b → b < length bytes → keeps_rules f zone bytes a ≡ true → keeps_rules f zone bytes b ≡ true
        → bytes_eq (name_of (part_at b)) (name_of (part_at a)) ≡ false
    names-differ a b less inside ka kb = false_from_ne_true (bytes_eq (name_of (part_at b)) (name_of (part_at a)))
        (λ e. names-apart a b less inside ka kb ((bytes_eq-Decides (name_of (part_at b)) (name_of (part_at a))).0 e))

    -- places from one on
    abbrev Between : ℕ → List ℕ → Type 0
    Between low [] = Unit {0}
    Between low (x ∷ xs) = (low ≤ x) × (x < length bytes) × Between low xs

    lower : (low high : ℕ) (xs : List ℕ) → low ≤ high → Between high xs → Between low xs
    lower low high [] less b = tt
    lower low high (x ∷ xs) less b = (omega (arith, b.0), b.1, lower low high xs less b.2)

    between : (n at : ℕ) → at ≤ length bytes → Between at (places f bytes n at)
    unfolding places
    between zero at inside = tt
    between (suc n) at inside = cases (at == length bytes) (is_passable f bytes at) refl refl
        (λ p. between n (next f bytes at) (passes f bytes at p).whole)
      where
        cases : (t u : Bool) → (at == length bytes) ≡ t → is_passable f bytes at ≡ u
            → (is_passable f bytes at ≡ true → Between (next f bytes at) (places f bytes n (next f bytes at)))
            → Between at (cond t [] (at ∷ cond u (places f bytes n (next f bytes at)) []))
        cases true u e p more = tt
        cases false false e p more = let d = eqb-false at (length bytes) e in (omega arith, below d, tt)
          where
            below : (at ≡ length bytes → ⊥) → at < length bytes
            below d = omega arith
        cases false true e p more =
            let d = eqb-false at (length bytes) e in
            let w = (passes f bytes at p).whole in
            let l = (passes f bytes at p).least in
            (omega arith, omega arith, lower at (next f bytes at) (places f bytes n (next f bytes at)) (omega arith) (more p))

    others : (a low : ℕ) (xs : List ℕ) → a < low → Between low xs → keeps_rules f zone bytes a ≡ true
        → list_all (keeps_rules f zone bytes) xs ≡ true → Others (name_of (part_at a)) (parts_of (map (block_at f zone bytes) xs))
    others a low [] less b ka all = tt
    others a low (x ∷ xs) less b ka all =
        let parts = and_parts (keeps_rules f zone bytes x) (list_all (keeps_rules f zone bytes) xs) all in
        (names-differ a x (omega (arith, b.0)) b.1 ka parts.0, others a low xs less b.2 ka parts.1)

    all-differ : (n at : ℕ) → at ≤ length bytes → list_all (keeps_rules f zone bytes) (places f bytes n at) ≡ true
        → NamesDiffer (parts_of (map (block_at f zone bytes) (places f bytes n at)))
    unfolding places
    all-differ zero at inside all = tt
    all-differ (suc n) at inside all = cases (at == length bytes) (is_passable f bytes at) refl all
        (λ p. between n (next f bytes at) (passes f bytes at p).whole)
        (λ p. all-differ n (next f bytes at) (passes f bytes at p).whole)
      where
        cases : (t u : Bool) → is_passable f bytes at ≡ u
            → list_all (keeps_rules f zone bytes) (cond t [] (at ∷ cond u (places f bytes n (next f bytes at)) [])) ≡ true
            → (is_passable f bytes at ≡ true → Between (next f bytes at) (places f bytes n (next f bytes at)))
            → (is_passable f bytes at ≡ true → list_all (keeps_rules f zone bytes) (places f bytes n (next f bytes at)) ≡ true
            → NamesDiffer (parts_of (map (block_at f zone bytes) (places f bytes n (next f bytes at)))))
            → NamesDiffer (parts_of (map (block_at f zone bytes) (cond t [] (at ∷ cond u (places f bytes n (next f bytes at)) []))))
        cases true u p all near more = tt
        cases false false p all near more = (tt, tt)
        cases false true p all near more =
            let parts =
            and_parts (keeps_rules f zone bytes at) (list_all (keeps_rules f zone bytes) (places f bytes n (next f bytes at))) all in
            let l = (passes f bytes at p).least in
            (others at (next f bytes at) (places f bytes n (next f bytes at)) (omega arith) (near p) parts.0 parts.1, more p parts.1)

-- so do those of all blocks of a zone
pub names_of_zone : (f : Form) (zone : ℕ) (bytes : List ℕ) → is_zone f zone bytes ≡ true → 52 ≤ length bytes
    → zone + length bytes ≤ 4294967296 → NamesDiffer (parts_in f zone bytes)
names_of_zone f zone bytes sound long small =
    all-differ f zone bytes small (length bytes - 52) 52 long (zone_keeps f zone bytes sound)
