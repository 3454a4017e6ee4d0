-- One more turn of a loop that reads tokens.
use Rattle.rez_declarations.proofs.Cited.{◌≡◌, ℕ, ◌+◌, ◌-◌, ◌<◌, ◌≤◌, Bool, Some, None, Ok, Result, List, [], ◌∷◌, ◌++◌, if◌then◌else◌}
use Rattle.rez_declarations.proofs.Cited.{length, map, true, false, codes, ap, arith, map_push, number_of, text_of, TypeFault, Modified}
use Rattle.rez_declarations.proofs.Cited.{NamedNumber, NamedText, Field, Draft, no_draft, closed, Parsing, ◌>>=◌, refused, lexeme, passed}
use Rattle.rez_declarations.proofs.Cited.{is_mark, is_word_in, Cases, drafted_at, number_named, numbers_named, string_part, string_on}
use Rattle.rez_declarations.proofs.Cited.{text_named, texts_named, modifier_in, with_modifier, modified, ends_here, field_read, fields_read}
use Rattle.rez_declarations.proofs.Cited.{fields_in, case_read, cases_read, left, above}
use Rattle.rez_types.specs.declared.declaration.NamedNumber.{NamedNumber as HeldNumber}
use Rattle.rez_types.specs.declared.declaration.NamedText.{NamedText as HeldText}
use Rattle.rez_declarations.specs.declared.type_fault.FaultKind.TheVariants as faults

none_left : (n i : ℕ) → n ≤ i → n - i ≡ 0
none_left n i h = omega arith

pub numbers_on : (n i width following : ℕ) (constants : List NamedNumber) (s : Parsing) → i < n
    → numbers_named (n - i) width following constants s
    ≡ (number_named width following s
    >>= λ (number, t).
    if is_mark 44 t then numbers_named (n - (i + 1)) width (number.pattern + 1) (constants ++ number ∷ []) (passed t)
    else Ok (constants ++ number ∷ [], t))
unfolding numbers_named
numbers_on n i width following constants s h = ap (λ k. numbers_named k width following constants s) (left n i h)

pub numbers_end : (n i width following : ℕ) (constants : List NamedNumber) (s : Parsing) → n ≤ i
    → numbers_named (n - i) width following constants s ≡ refused faults.ManyConstants s
unfolding numbers_named
numbers_end n i width following constants s h = ap (λ k. numbers_named k width following constants s) (none_left n i h)

-- the last of the named constants
pub numbers_last : (n i width following : ℕ) (xs ys : List HeldNumber) (x : HeldNumber) (s t : Parsing) → i < n
    → ys ≡ xs ++ x ∷ [] → number_named width following s ≡ Ok (number_of x, t) → is_mark 44 t ≡ false
    → numbers_named (n - i) width following (map number_of xs) s ≡ Ok (map number_of ys, t)
numbers_last n i width following xs ys x s t h pushed read none =
    rw (numbers_on n i width following (map number_of xs) s h, read, none, pushed, map_push number_of xs x)

-- one of the named constants, after which others follow
pub numbers_more : (n i width following : ℕ) (xs ys : List HeldNumber) (x : HeldNumber) (s t : Parsing) → i < n
    → ys ≡ xs ++ x ∷ [] → number_named width following s ≡ Ok (number_of x, t) → is_mark 44 t ≡ true
    → numbers_named (n - i) width following (map number_of xs) s
    ≡ numbers_named (n - (i + 1)) width (x.pattern + 1) (map number_of ys) (passed t)
numbers_more n i width following xs ys x s t h pushed read some =
    rw (numbers_on n i width following (map number_of xs) s h, read, some, pushed, map_push number_of xs x)

pub texts_on : (n i : ℕ) (constants : List NamedText) (s : Parsing) → i < n
    → texts_named (n - i) constants s
    ≡ (text_named s
    >>= λ (text, t).
    if is_mark 44 t then texts_named (n - (i + 1)) (constants ++ text ∷ []) (passed t) else Ok (constants ++ text ∷ [], t))
unfolding texts_named
texts_on n i constants s h = ap (λ k. texts_named k constants s) (left n i h)

pub texts_end : (n i : ℕ) (constants : List NamedText) (s : Parsing) → n ≤ i
    → texts_named (n - i) constants s ≡ refused faults.ManyConstants s
unfolding texts_named
texts_end n i constants s h = ap (λ k. texts_named k constants s) (none_left n i h)

-- the last of the named strings
pub texts_last : (n i : ℕ) (xs ys : List HeldText) (x : HeldText) (s t : Parsing) → i < n
    → ys ≡ xs ++ x ∷ [] → text_named s ≡ Ok (text_of x, t) → is_mark 44 t ≡ false
    → texts_named (n - i) (map text_of xs) s ≡ Ok (map text_of ys, t)
texts_last n i xs ys x s t h pushed read none =
    rw (texts_on n i (map text_of xs) s h, read, none, pushed, map_push text_of xs x)

-- one of the named strings, after which others follow
pub texts_more : (n i : ℕ) (xs ys : List HeldText) (x : HeldText) (s t : Parsing) → i < n
    → ys ≡ xs ++ x ∷ [] → text_named s ≡ Ok (text_of x, t) → is_mark 44 t ≡ true
    → texts_named (n - i) (map text_of xs) s ≡ texts_named (n - (i + 1)) (map text_of ys) (passed t)
texts_more n i xs ys x s t h pushed read some =
    rw (texts_on n i (map text_of xs) s h, read, some, pushed, map_push text_of xs x)

pub strings_on : (n i : ℕ) (bytes : List ℕ) (s : Parsing) → i < n
    → string_on (n - i) bytes s
    ≡ elim (string_part (lexeme s)) [ None ↦ (bytes, s) | Some more ↦ string_on (n - (i + 1)) (bytes ++ more) (passed s) ]
strings_on n i bytes s h = ap (λ k. string_on k bytes s) (left n i h)

pub modifiers_on : (n i : ℕ) (m : Modified) (s : Parsing) → i < n
    → modified (n - i) m s
    ≡ elim (modifier_in (lexeme s)) [ None ↦ (m, s) | Some word ↦ modified (n - (i + 1)) (with_modifier word m) (passed s) ]
modifiers_on n i m s h = ap (λ k. modified k m s) (left n i h)

pub fields_on : (inner : Bool → Parsing → Result (List Field × Parsing) TypeFault) (n i : ℕ) (is_case : Bool) (d : Draft) (s : Parsing)
    → i < n
    → fields_read inner (n - i) is_case d s
    ≡ (if ends_here is_case s then Ok (d, s)
    else (field_read inner d s >>= λ (e, t). fields_read inner (n - (i + 1)) is_case e t))
fields_on inner n i is_case d s h = ap (λ k. fields_read inner k is_case d s) (left n i h)

pub cases_on : (inner : Bool → Parsing → Result (List Field × Parsing) TypeFault) (n i : ℕ) (cases : Cases) (s : Parsing) → i < n
    → cases_read inner (n - i) cases s
    ≡ (if is_mark 125 s then Ok (cases, passed s)
    else if is_word_in (codes "case") (lexeme s)
    then (case_read inner cases (passed s) >>= λ (more, t). cases_read inner (n - (i + 1)) more t)
    else refused faults.CaseNeeded s)
cases_on inner n i cases s h = ap (λ k. cases_read inner k cases s) (left n i h)

pub deeper_on : (depth : ℕ) (is_case : Bool) (s : Parsing) → 0 < depth
    → fields_in depth is_case s
    ≡ (fields_read (fields_in (depth - 1)) (length s.tokens) is_case no_draft s
    >>= λ (d, t). drafted_at (closed d) t >>= λ (fields, u). Ok (fields, u))
deeper_on depth is_case s h = ap (λ k. fields_in k is_case s) (above depth h)
