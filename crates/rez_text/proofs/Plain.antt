-- Texts that do not say that they are in UTF-8.
use Rattle.rez_text.proofs.Cited.{◌≡◌, ◌==◌, ◌&&◌, ◌||◌, ℕ, Bool, true, false, cond, Option, Some, None, List, [], ◌∷◌, ◌++◌, refl, sym, ap}
use Rattle.rez_text.proofs.Cited.{◌∙◌, subst, eqb-true, nat_le, length, and_parts, flat_map, list_all, Ref, Group, Content, Declared}
use Rattle.rez_text.proofs.Cited.{Lettering, is_letter, is_blank, is_coded, as_roman, statement_head, statement, group_statements}
use Rattle.rez_text.proofs.Cited.{attributes_comment, attributes_remark, area_comment, area_remark, lettered_source, read, read_made}
use Rattle.rez_text.proofs.Cited.{read_roman}
use Rattle.std.specs.Prelude.{codes}

-- what stands after the first byte of a comment on the map's attributes, or on the bytes after the header
abbrev remark_follows : List ℕ → Bool
remark_follows [] = false
remark_follows (a ∷ []) = false
remark_follows (a ∷ s ∷ []) = false
remark_follows (a ∷ s ∷ c ∷ rest) = a == 42 && (s == 32 && (c == 109 || c == 104))

-- a text of nothing, or one that begins with a word or such a comment
abbrev pub opens_plainly : List ℕ → Bool
opens_plainly [] = true
opens_plainly (b ∷ rest) = is_letter b || (b == 47 && remark_follows rest)

follows_on : (xs ys : List ℕ) → remark_follows xs ≡ true → remark_follows (xs ++ ys) ≡ true
follows_on [] ys h = absurd (cc)
follows_on (a ∷ []) ys h = absurd (cc)
follows_on (a ∷ s ∷ []) ys h = absurd (cc)
follows_on (a ∷ s ∷ c ∷ xs) ys h = h

opens_on : (letter slash : Bool) (xs ys : List ℕ) → (letter || (slash && remark_follows xs)) ≡ true
    → (letter || (slash && remark_follows (xs ++ ys))) ≡ true
opens_on true slash xs ys h = refl
opens_on false true xs ys h = follows_on xs ys h
opens_on false false xs ys h = h

-- one such text after another
pub plain_both : (xs ys : List ℕ) → opens_plainly xs ≡ true → opens_plainly ys ≡ true → opens_plainly (xs ++ ys) ≡ true
plain_both [] ys one other = other
plain_both (x ∷ xs) ys one other = opens_on (is_letter x) (x == 47) xs ys one

pub plain_all : {X : Type 0} (f : X → List ℕ) (xs : List X) → ((x : X) → opens_plainly (f x) ≡ true)
    → opens_plainly (flat_map f xs) ≡ true
plain_all f [] each = refl
plain_all f (x ∷ xs) each = plain_both (f x) (flat_map f xs) (each x) (plain_all f xs each)

-- Such a text is no coded one.

nothing : (s t : Bool) → ((s && false) || (t && false)) ≡ false
nothing true true = refl
nothing true false = refl
nothing false true = refl
nothing false false = refl

no_letter : (k b : ℕ) → is_letter k ≡ false → is_letter b ≡ true → (b == k) ≡ false
no_letter k b other is = cases (b == k) refl
  where
    cases : (t : Bool) → (b == k) ≡ t → t ≡ false
    cases true h = sym is ∙ ap is_letter (eqb-true b k h) ∙ other
    cases false h = refl

letter_opens : (b : ℕ) (rest : List ℕ) → is_letter b ≡ true → is_coded (b ∷ rest) ≡ false
unfolding is_coded
letter_opens b rest is =
    let space = no_letter 32 b refl is in
    let tab = no_letter 9 b refl is in
    let feed = no_letter 10 b refl is in
    let return = no_letter 13 b refl is in
    let mark = no_letter 239 b refl is in
    let slash = no_letter 47 b refl is in
    rw (space, tab, feed, return, mark, slash) (nothing (nat_le 3 (length (b ∷ rest))) (nat_le 27 (length (b ∷ rest))))

remark_opens : (c : ℕ) (rest : List ℕ) → (c == 109 || c == 104) ≡ true → is_coded (47 ∷ 42 ∷ 32 ∷ c ∷ rest) ≡ false
unfolding is_coded
remark_opens c rest h = cases (c == 45) refl
  where
    cases : (t : Bool) → (c == 45) ≡ t → is_coded (47 ∷ 42 ∷ 32 ∷ c ∷ rest) ≡ false
    cases true e = absurd (let is = eqb-true c 45 e in let no : true ≡ false = sym h ∙ ap (λ n. n == 109 || n == 104) is in cc)
    cases false e = rw e (nothing (nat_le 3 (length (47 ∷ 42 ∷ 32 ∷ c ∷ rest))) (nat_le 27 (length (47 ∷ 42 ∷ 32 ∷ c ∷ rest))))

remarks_open : (b : ℕ) (rest : List ℕ) → (b == 47 && remark_follows rest) ≡ true → is_coded (b ∷ rest) ≡ false
remarks_open b [] h = let p = and_parts (b == 47) false h in absurd (cc)
remarks_open b (a ∷ []) h = let p = and_parts (b == 47) false h in absurd (cc)
remarks_open b (a ∷ s ∷ []) h = let p = and_parts (b == 47) false h in absurd (cc)
remarks_open b (a ∷ s ∷ c ∷ rest) h =
    let p = and_parts (b == 47) (remark_follows (a ∷ s ∷ c ∷ rest)) h in
    let q = and_parts (a == 42) (s == 32 && (c == 109 || c == 104)) p.1 in
    let r = and_parts (s == 32) (c == 109 || c == 104) q.1 in
    subst (λ n. is_coded (n ∷ a ∷ s ∷ c ∷ rest) ≡ false) (sym (eqb-true b 47 p.0))
    (subst (λ n. is_coded (47 ∷ n ∷ s ∷ c ∷ rest) ≡ false) (sym (eqb-true a 42 q.0))
    (subst (λ n. is_coded (47 ∷ 42 ∷ n ∷ c ∷ rest) ≡ false) (sym (eqb-true s 32 r.0)) (remark_opens c rest r.1)))

pub not_coded : (text : List ℕ) → opens_plainly text ≡ true → is_coded text ≡ false
unfolding is_coded
not_coded [] h = refl
not_coded (b ∷ rest) h = cases (is_letter b) refl h
  where
    cases : (t : Bool) → is_letter b ≡ t → (t || (b == 47 && remark_follows rest)) ≡ true → is_coded (b ∷ rest) ≡ false
    cases true e h = letter_opens b rest e
    cases false e h = remarks_open b rest h

-- any text that is not coded is read as its bytes
pub read_uncoded : (types : List Declared) (files : List (List ℕ)) (text : List ℕ) → is_coded text ≡ false
    → read types files text ≡ read_roman types files text
unfolding read as_roman
read_uncoded types files text e = rw e refl

pub read_plainly : (types : List Declared) (files : List (List ℕ)) (text : List ℕ) → opens_plainly text ≡ true
    → read types files text ≡ read_roman types files text
read_plainly types files text h = read_uncoded types files text (not_coded text h)

-- What is printed.

pub attributes_open : (attrs : ℕ) → opens_plainly (attributes_remark attrs) ≡ true
attributes_open attrs = cases (attrs == 0)
  where
    cases : (t : Bool) → opens_plainly (cond t [] (attributes_comment attrs)) ≡ true
    cases true = refl
    cases false = refl

pub area_opens : (area : List ℕ) → opens_plainly (area_remark area) ≡ true
area_opens area = cases (list_all (λ (b : ℕ). b == 0) area)
  where
    cases : (t : Bool) → opens_plainly (cond t [] (area_comment area)) ≡ true
    cases true = refl
    cases false = refl

pub statement_opens : (lettering : Lettering) (kind : ℕ) (r : Ref) → opens_plainly (statement lettering kind r) ≡ true
unfolding statement_head
statement_opens lettering kind r = refl

pub source_opens : (lettering : Lettering) (c : Content) → opens_plainly (lettered_source lettering c) ≡ true
source_opens lettering c =
    plain_both (attributes_remark c.attrs ++ area_remark c.area) (flat_map (group_statements lettering) c.groups)
    (plain_both (attributes_remark c.attrs) (area_remark c.area) (attributes_open c.attrs) (area_opens c.area))
    (plain_all (group_statements lettering) c.groups
    (λ (g : Group). plain_all (statement lettering g.kind) g.refs (λ (r : Ref). statement_opens lettering g.kind r)))
