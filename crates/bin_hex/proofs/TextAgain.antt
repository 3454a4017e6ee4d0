use Rattle.bin_hex.proofs.Cited.{◌≡◌, ℕ, ◌+◌, ◌<◌, Bool, true, false, not, ◌&&◌, cond, List, [], ◌∷◌, ◌++◌, map, drop, refl, sym, ◌∙◌, ap}
use Rattle.bin_hex.proofs.Cited.{arith, inl, inr, append_assoc, ◌==◌, if◌then◌else◌, Option, Some, Ok, is_some, filter, codes}
use Rattle.bin_hex.proofs.Cited.{AllByRecursion, list_all, agree_below_at, and_parts, and_cases, and_left, and_right, cases_Bool, character}
use Rattle.bin_hex.proofs.Cited.{is_blank, is_dark, role_of, begins, mark, after_mark, is_bin_hex, after_colon, sextets, read_from}
use Rattle.bin_hex.proofs.Cited.{with_first, put_in_line, column_after, in_lines, Role}
use Rattle.bin_hex.specs.declared.alphabet.Role.TheVariants as role

-- A text that is laid out in any lines is read again.

abbrev stands_for : Role → ℕ → Bool
stands_for (role.Sextet sextet) wanted = sextet == wanted
stands_for _ wanted = false

abbrev is_read_again : ℕ → Bool
is_read_again sextet = stands_for (role_of (character sextet)) sextet && is_dark (character sextet)

same_role : (what : Role) (sextet : ℕ) → stands_for what sextet ≡ true → what ≡ role.Sextet sextet
same_role role.Colon sextet h = cc
same_role role.Blank sextet h = cc
same_role (role.Sextet other) sextet h = grind arith
same_role role.Foreign sextet h = cc

again_below : (sextet : ℕ) → sextet < 64 → is_read_again sextet ≡ true
again_below sextet h = agree_below_at is_read_again (λ _. true) 64 sextet refl h

pub role_again : (sextet : ℕ) → sextet < 64 → role_of (character sextet) ≡ role.Sextet sextet
role_again sextet h = same_role (role_of (character sextet)) sextet (and_parts _ _ (again_below sextet h)).0

pub dark_again : (sextet : ℕ) → sextet < 64 → is_dark (character sextet) ≡ true
dark_again sextet h =
    (and_parts (stands_for (role_of (character sextet)) sextet) (is_dark (character sextet)) (again_below sextet h)).1

-- a blank is no colon
blank_apart : (byte : ℕ) (what : Role) → is_blank byte ≡ true
    → cond (byte == 58) role.Colon (cond (is_blank byte) role.Blank what) ≡ role.Blank
blank_apart byte what h = grind arith

blank_role : (byte : ℕ) → is_blank byte ≡ true → role_of byte ≡ role.Blank
blank_role byte h = blank_apart byte _ h

-- what is read from a byte on, once it is known what the byte is
after_byte : (at byte : ℕ) (bytes : List ℕ) (what : Role) → role_of byte ≡ what
    → sextets at (byte ∷ bytes) ≡ read_from what at (sextets (at + 1) bytes)
after_byte at byte bytes what h = ap (λ w. read_from w at (sextets (at + 1) bytes)) h

-- a character stands for the next group
next_group : (at byte : ℕ) (text after groups : List ℕ) → AllByRecursion (λ (g : ℕ). g < 64) groups
    → byte ∷ filter is_dark text ≡ map character groups
    → ((rest : List ℕ) → AllByRecursion (λ (g : ℕ). g < 64) rest → filter is_dark text ≡ map character rest
    → sextets (at + 1) (text ++ 58 ∷ after) ≡ Ok rest)
    → sextets at (byte ∷ (text ++ 58 ∷ after)) ≡ Ok groups
next_group at byte text after [] small same rest = cc
next_group at byte text after (group ∷ groups) small same rest =
    after_byte at byte (text ++ 58 ∷ after) (role.Sextet group)
    (ap role_of (let e : byte ≡ character group = cc in e) ∙ role_again group small.0)
    ∙ ap (with_first group) (rest groups small.1 (let e : filter is_dark text ≡ map character groups = cc in e))

pub read_again : (at : ℕ) (text groups after : List ℕ) → AllByRecursion (λ (g : ℕ). g < 64) groups
    → filter is_dark text ≡ map character groups → sextets at (text ++ 58 ∷ after) ≡ Ok groups
read_again at [] [] after small same = refl
read_again at [] (group ∷ groups) after small same = cc
read_again at (byte ∷ text) groups after small same =
    elim (cases_Bool (is_blank byte)) [
      | inl e ↦ after_byte at byte (text ++ 58 ∷ after) role.Blank (blank_role byte e)
          ∙ read_again (at + 1) text groups after small
          (sym (ap (λ t. cond (not t) (byte ∷ filter is_dark text) (filter is_dark text)) e) ∙ same)
      | inr e ↦ next_group at byte text after groups small
          (sym (ap (λ t. cond (not t) (byte ∷ filter is_dark text) (filter is_dark text)) e) ∙ same)
          (λ rest low alike. read_again (at + 1) text rest after low alike)
    ]

-- the mark begins in no other way than at its beginning
no_overlap : (text bytes more : List ℕ) → list_all (λ c. not (c == 40)) text ≡ true → begins text bytes ≡ false
    → begins text (bytes ++ 40 ∷ more) ≡ false
no_overlap [] bytes more other h = cc
no_overlap (wanted ∷ text) [] more other h =
    and_left (wanted == 40) (begins text more) (off (wanted == 40) (and_parts _ _ other).0)
  where
    off : (t : Bool) → not t ≡ true → t ≡ false
    off true h = cc
    off false h = refl
no_overlap (wanted ∷ text) (byte ∷ bytes) more other h =
    elim (and_cases (wanted == byte) (begins text bytes) h) [
      | inl e ↦ and_left (wanted == byte) (begins text (bytes ++ 40 ∷ more)) e
      | inr e ↦ and_right (wanted == byte) (begins text (bytes ++ 40 ∷ more))
          (no_overlap text bytes more (and_parts (not (wanted == 40)) _ other).1 e)
    ]

-- the mark after its first character
abbrev mark_rest : List ℕ
mark_rest = codes "This file must be converted"

none_before : (byte : ℕ) (bytes more : List ℕ) → begins mark (byte ∷ bytes) ≡ false
    → begins mark (byte ∷ (bytes ++ 40 ∷ more)) ≡ false
none_before byte bytes more h =
    elim (and_cases (40 == byte) (begins mark_rest bytes) h) [
      | inl e ↦ and_left (40 == byte) (begins mark_rest (bytes ++ 40 ∷ more)) e
      | inr e ↦ and_right (40 == byte) (begins mark_rest (bytes ++ 40 ∷ more)) (no_overlap mark_rest bytes more refl e)
    ]

pub mark_found : (before rest : List ℕ) → is_bin_hex before ≡ false → after_mark (before ++ (mark ++ rest)) ≡ Some rest
mark_found [] rest none = refl
mark_found (byte ∷ before) rest none =
    let here : begins mark (byte ∷ before) ≡ false =
    first (begins mark (byte ∷ before)) (drop 28 (byte ∷ before)) (after_mark before) none in
    let later : is_some (after_mark before) ≡ false =
    second (begins mark (byte ∷ before)) (drop 28 (byte ∷ before)) (after_mark before) none in
    ap (λ t. cond t (Some (drop 28 (byte ∷ (before ++ (mark ++ rest))))) (after_mark (before ++ (mark ++ rest))))
    (none_before byte before (mark_rest ++ rest) here)
    ∙ mark_found before rest later
  where
    first : (t : Bool) (found : List ℕ) (other : Option (List ℕ)) → is_some (cond t (Some found) other) ≡ false → t ≡ false
    first true found other h = cc
    first false found other h = refl

    second : (t : Bool) (found : List ℕ) (other : Option (List ℕ)) → is_some (cond t (Some found) other) ≡ false
        → is_some other ≡ false
    second true found other h = cc
    second false found other h = h

first_colon : (t : Bool) (between rest : List ℕ) → is_some (cond t (Some between) (after_colon between)) ≡ false
    → (is_some (after_colon between) ≡ false → after_colon (between ++ 58 ∷ rest) ≡ Some rest)
    → cond t (Some (between ++ 58 ∷ rest)) (after_colon (between ++ 58 ∷ rest)) ≡ Some rest
first_colon true between rest none later = cc
first_colon false between rest none later = later none

pub colon_found : (between rest : List ℕ) → is_some (after_colon between) ≡ false
    → after_colon (between ++ 58 ∷ rest) ≡ Some rest
colon_found [] rest none = refl
colon_found (byte ∷ between) rest none =
    first_colon (byte == 58) between rest none (λ h. colon_found between rest h)

abbrev colon : List ℕ
colon = 58 ∷ []

abbrev line_end : List ℕ
line_end = 10 ∷ []

-- the lines of characters before the colon at the end
abbrev pub body_of : ℕ → List ℕ → List ℕ
body_of column [] = if column == 64 then 10 ∷ [] else []
body_of column (byte ∷ bytes) = put_in_line column byte ++ body_of (column_after column) bytes

pub laid : (column : ℕ) (characters : List ℕ) → in_lines column (characters ++ 58 ∷ []) ≡ body_of column characters ++ 58 ∷ []
laid column [] = last (column == 64)
  where
    last : (t : Bool) → cond t (10 ∷ colon) colon ++ [] ≡ cond t line_end [] ++ colon
    last true = refl
    last false = refl
laid column (byte ∷ characters) =
    ap (λ text. put_in_line column byte ++ text) (laid (column_after column) characters)
    ∙ sym (append_assoc (put_in_line column byte) (body_of (column_after column) characters) (58 ∷ []))

-- they are the characters, but for the ends of lines
pub dark_body : (column : ℕ) (characters : List ℕ) → filter is_dark (body_of column characters) ≡ filter is_dark characters
dark_body column [] = last (column == 64)
  where
    last : (t : Bool) → filter is_dark (cond t line_end []) ≡ []
    last true = refl
    last false = refl
dark_body column (byte ∷ characters) =
    put (column == 64) (body_of (column_after column) characters)
    ∙ ap (λ rest. cond (is_dark byte) (byte ∷ rest) rest) (dark_body (column_after column) characters)
  where
    put : (t : Bool) (rest : List ℕ)
        → filter is_dark (cond t (10 ∷ byte ∷ []) (byte ∷ []) ++ rest) ≡ filter is_dark (byte ∷ rest)
    put true rest = refl
    put false rest = refl

-- each character is none of a blank
pub all_dark : (groups : List ℕ) → AllByRecursion (λ (g : ℕ). g < 64) groups
    → filter is_dark (map character groups) ≡ map character groups
all_dark [] small = refl
all_dark (group ∷ groups) small =
    ap (λ t. cond t (character group ∷ filter is_dark (map character groups)) (filter is_dark (map character groups)))
    (dark_again group small.0)
    ∙ ap (λ rest. character group ∷ rest) (all_dark groups small.1)
