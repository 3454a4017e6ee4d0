-- With as many files as the statements of a text name none is lacking: what a text names does not depend on what files are given.
use Rattle.rez_text.proofs.Cited.{◌≡◌, ◌==◌, ◌&&◌, ◌||◌, ℕ, zero, suc, ◌+◌, ◌-◌, ◌*◌, Bool, true, false, cond, nat_lt, nat_le, Option, Some}
use Rattle.rez_text.proofs.Cited.{None, Result, Ok, Err, List, [], ◌∷◌, ◌++◌, length, drop, codes, refl, sym, ap, ◌∙◌, subst, arith}
use Rattle.rez_text.proofs.Cited.{bytes_eq, Content, StatementFault, Declared, with_type, datum_stated, FaultKind, Lines, Form, Mode, Place}
use Rattle.rez_text.proofs.Cited.{Quote, Radix, Scope, clear, as_roman, ends_line, is_digit, is_letter, begins_word, quote_byte, base}
use Rattle.rez_text.proofs.Cited.{digit_in, ends, State, with_types, start, gather, in_mode, come_to, with_content, ◌>>=◌, is_blank}
use Rattle.rez_text.proofs.Cited.{hex_value, begins, bytes_after, with_map_attributes, with_area, after_blanks, remarked, comment}
use Rattle.rez_text.proofs.Cited.{comment_at, refused, attribute, with_attributes, word, word_at, type_token, type_at, attributes_in}
use Rattle.rez_text.proofs.Cited.{number, number_at, named, file_named, string, string_at, datum, datum_at, of_text, type_statement}
use Rattle.rez_text.proofs.Cited.{resource_body, with_datum, opened, mark, mark_at, statement_begun, declaration_begun, between, slash}
use Rattle.rez_text.proofs.Cited.{in_comment, star, line_comment, declaring, body, after_word, in_word, number_ended, number_on, grown}
use Rattle.rez_text.proofs.Cited.{in_number, by_digit, prefixed, after_zero, string_opened, dollar, hex_string, hex_half, closed, quoted}
use Rattle.rez_text.proofs.Cited.{escaped_byte, escape_grown, escape_on, escape_number, escape_by, escape, escape_zero, step, step_in}
use Rattle.rez_text.proofs.Cited.{Wrong, Lacking, finish, ended, ended_in, first_line, lines_at, at_line, read_from, stated, unless_lacking}
use Rattle.rez_text.proofs.Cited.{read_made, read_roman, read}
use Rattle.rez_text.specs.declared.fault.FaultKind.TheVariants as faults
use Rattle.rez_text.specs.declared.mode.Form.TheVariants as forms
use Rattle.rez_text.specs.declared.mode.Mode.TheVariants as mode
use Rattle.rez_text.specs.declared.mode.Place.TheVariants as place
use Rattle.rez_text.specs.declared.mode.Quote.TheVariants as quotes
use Rattle.rez_text.specs.declared.mode.Radix.TheVariants as radix

-- what has been read but for data, and for the files that are given
abbrev blur : State → State
blur s = record {
  mode = s.mode;
  place = s.place;
  gathered = s.gathered;
  kind = s.kind;
  draft = record { id = s.draft.id; name = s.draft.name; attrs = s.draft.attrs; datum = [] };
  said = record {
    content = record { area = s.said.content.area; attrs = s.said.content.attrs; groups = [] };
    types = s.said.types;
    form = s.said.form;
    files = record { given = []; named = s.said.files.named };
  };
}

abbrev blurred : Result State FaultKind → Result State FaultKind
blurred (Ok s) = Ok (blur s)
blurred (Err e) = Err e

-- two readings are the same but for that
abbrev Same : Result State FaultKind → Result State FaultKind → Type 0
Same x y = blurred x ≡ blurred y

either : (t : Bool) (x y p q : Result State FaultKind) → Same x p → Same y q → Same (cond t x y) (cond t p q)
either true x y p q one other = one
either false x y p q one other = other

either_ok : (t : Bool) (x y p q : State) → Same (Ok x) (Ok p) → Same (Ok y) (Ok q) → Same (Ok (cond t x y)) (Ok (cond t p q))
either_ok true x y p q one other = one
either_ok false x y p q one other = other

inside : (s t : State) → Same (Ok s) (Ok t) → blur s ≡ blur t
inside s t e = ap (λ r. elim r [ Ok u ↦ u | Err k ↦ blur s ]) e

bound : (x p : Result State FaultKind) (f : State → Result State FaultKind) → Same x p → ((s : State) → Same (f s) (f (blur s)))
    → Same (x >>= f) (p >>= f)
bound (Ok s) (Ok t) f same each = each s ∙ ap (λ u. blurred (f u)) (inside s t same) ∙ sym (each t)
bound (Ok s) (Err k) f same each = absurd (cc)
bound (Err e) (Ok t) f same each = absurd (cc)
bound (Err e) (Err k) f same each = same

-- Tokens.

attributes_same : (o : Option ℕ) (s : State) → Same (with_attributes o s) (with_attributes o (blur s))
attributes_same None s = refl
attributes_same (Some bits) s = refl

word_at_same : (p : Place) (s : State) → Same (word_at p s) (word_at p (blur s))
word_at_same place.Outside s =
    either (bytes_eq s.gathered (codes "data")) _ _ _ _ refl (either (bytes_eq s.gathered (codes "resource")) _ _ _ _ refl
    (either (bytes_eq s.gathered (codes "read")) _ _ _ _ refl (either (bytes_eq s.gathered (codes "type")) _ _ _ _ refl refl)))
word_at_same place.Declaration s =
    either (bytes_eq s.gathered (codes "type")) _ _ _ _ refl (either (bytes_eq s.gathered (codes "data")) _ _ _ _ refl
    (either (bytes_eq s.gathered (codes "resource")) _ _ _ _ refl (either (bytes_eq s.gathered (codes "read")) _ _ _ _ refl refl)))
word_at_same place.NameOrAttribute s = attributes_same (attribute s.gathered) s
word_at_same place.Attribute s = attributes_same (attribute s.gathered) s
word_at_same p s = refl

word_same : (s : State) → Same (word s) (word (blur s))
unfolding word
word_same s = word_at_same s.place s

type_at_same : (p : Place) (s : State) → Same (type_at p s) (type_at p (blur s))
type_at_same place.Type s = either (length s.gathered == 4) _ _ _ _ refl refl
type_at_same p s = refl

type_same : (s : State) → Same (type_token s) (type_token (blur s))
unfolding type_token
type_same s = type_at_same s.place s

number_at_same : (p : Place) (n : ℕ) (s : State) → Same (number_at p n s) (number_at p n (blur s))
number_at_same place.Id n s = either (nat_lt 32767 n) _ _ _ _ refl refl
number_at_same place.Negative n s = either (nat_lt 32768 n) _ _ _ _ refl refl
number_at_same place.NameOrAttribute n s = either (nat_lt 255 n) _ _ _ _ refl refl
number_at_same place.Attribute n s = either (nat_lt 255 n) _ _ _ _ refl refl
number_at_same p n s = refl

number_same : (n : ℕ) (s : State) → Same (number n s) (number n (blur s))
unfolding number
number_same n s = number_at_same s.place n s

file_same : (f : Form) (s : State) → Same (file_named f s) (file_named f (blur s))
file_same forms.Read s = refl
file_same f s = refl

string_at_same : (p : Place) (s : State) → Same (string_at p s) (string_at p (blur s))
string_at_same place.NameOrAttribute s = either (nat_lt 255 (length s.gathered)) _ _ _ _ refl refl
string_at_same place.Brace s = file_same s.said.form s
string_at_same place.Data s = refl
string_at_same p s = refl

string_same : (s : State) → Same (string s) (string (blur s))
unfolding string
string_same s = string_at_same s.place s

datum_at_same : (p : Place) (s : State) → Same (datum_at p s) (datum_at p (blur s))
datum_at_same place.Data s = refl
datum_at_same p s = refl

datum_same : (s : State) → Same (datum s) (datum (blur s))
unfolding datum
datum_same s = datum_at_same s.place s

text_same : {A : Type 0} (r : Result A (ℕ × StatementFault)) (f g : A → State) → ((x : A) → Same (Ok (f x)) (Ok (g x)))
    → Same (of_text r f) (of_text r g)
text_same (Ok x) f g each = each x
text_same (Err e) f g each = refl

types_same : (s : State) → Same (type_statement s) (type_statement (blur s))
unfolding type_statement
types_same s = text_same (with_type s.gathered s.said.types) _ _ (λ types. refl)

body_same : (s : State) → Same (resource_body s) (resource_body (blur s))
unfolding resource_body
body_same s = text_same (datum_stated s.kind s.gathered s.said.types) _ _ (λ bytes. refl)

opened_same : (f : Form) (s : State) → Same (opened f s) (opened f (blur s))
opened_same forms.Data s = refl
opened_same forms.Resource s = refl
opened_same forms.Read s = refl

mark_at_same : (p : Place) (b : ℕ) (s : State) → Same (mark_at p b s) (mark_at p b (blur s))
mark_at_same place.Parenthesis b s = either (b == 40) _ _ _ _ refl refl
mark_at_same place.Id b s = either (b == 45) _ _ _ _ refl refl
mark_at_same place.AfterId b s = either (b == 44) _ _ _ _ refl (either (b == 41) _ _ _ _ refl refl)
mark_at_same place.AfterArgument b s = either (b == 44) _ _ _ _ refl (either (b == 41) _ _ _ _ refl refl)
mark_at_same place.Brace b s = either (b == 123) _ _ _ _ (opened_same s.said.form s) refl
mark_at_same place.Data b s = either (b == 125) _ _ _ _ refl refl
mark_at_same place.Semicolon b s = either (b == 59) _ _ _ _ refl refl
mark_at_same p b s = refl

mark_same : (b : ℕ) (s : State) → Same (mark b s) (mark b (blur s))
unfolding mark
mark_same b s = mark_at_same s.place b s

-- Comments.

-- a content without its resources
abbrev bare : Content → Content
bare c = record { area = c.area; attrs = c.attrs; groups = [] }

-- the place after a comment that states a content
abbrev remarked_at : State → Content → Result State FaultKind
remarked_at s c = Ok (come_to place.Outside (record s { said = with_content c s.said }))

either_bound : (t : Bool) (x y p q : Result Content FaultKind) (f g : Content → Result State FaultKind) → Same (x >>= f) (p >>= g)
    → Same (y >>= f) (q >>= g) → Same (cond t x y >>= f) (cond t p q >>= g)
either_bound true x y p q f g one other = one
either_bound false x y p q f g one other = other

map_same : (o : Option (List ℕ)) (s : State)
    → Same (with_map_attributes o s.said.content >>= remarked_at s) (with_map_attributes o (bare s.said.content) >>= remarked_at (blur s))
map_same None s = refl
map_same (Some bytes) s = refl

area_same : (o : Option (List ℕ)) (s : State)
    → Same (with_area o s.said.content >>= remarked_at s) (with_area o (bare s.said.content) >>= remarked_at (blur s))
area_same None s = refl
area_same (Some bytes) s = refl

comment_at_same : (p : Place) (s : State) → Same (comment_at p s) (comment_at p (blur s))
unfolding remarked
comment_at_same place.Outside s =
    let text = after_blanks s.gathered in
    either_bound (begins (codes "map attributes") text) _ _ _ _ (remarked_at s) (remarked_at (blur s))
    (map_same (bytes_after (codes "map attributes $") 2 text) s)
    (either_bound (begins (codes "header bytes") text) _ _ _ _ (remarked_at s) (remarked_at (blur s))
    (area_same (bytes_after (codes "header bytes") 240 text) s) refl)
comment_at_same p s = refl

comment_same : (s : State) → Same (comment s) (comment (blur s))
unfolding comment
comment_same s = comment_at_same s.place s

-- Byte by byte.

between_same : (b : ℕ) (s : State) → Same (between b s) (between b (blur s))
unfolding between
between_same b s =
    either (is_blank b) _ _ _ _ refl
    (either (b == 47) _ _ _ _ refl (either (b == 34) _ _ _ _ refl (either (b == 39) _ _ _ _ refl (either (b == 36) _ _ _ _ refl
    (either (b == 48) _ _ _ _ refl (either (is_digit b) _ _ _ _ refl (either (begins_word b) _ _ _ _ refl (mark_same b s))))))))

declaring_same : (r : Scope) (b : ℕ) (s : State) → Same (declaring r b s) (declaring r b (blur s))
unfolding declaring
declaring_same r b s = either (ends 59 0 b r) _ _ _ _ (types_same (gather b mode.Between s)) refl

after_word_same : (m : Mode) (b : ℕ) (s : State) → Same (after_word m b s) (after_word m b (blur s))
after_word_same (mode.Declaring r) b s = declaring_same r b s
after_word_same m b s = between_same b s

ended_same : (n b : ℕ) (s : State) → Same (number_ended n b s) (number_ended n b (blur s))
ended_same n b s = bound (number n s) (number n (blur s)) (between b) (number_same n s) (between_same b)

number_on_same : (o : Option ℕ) (r : Radix) (n b : ℕ) (s : State) → Same (number_on o r n b s) (number_on o r n b (blur s))
number_on_same (Some d) r n b s = either (nat_lt 4294967295 (base r * n + d)) _ _ _ _ refl refl
number_on_same None r n b s = ended_same n b s

in_number_same : (r : Radix) (n b : ℕ) (s : State) → Same (in_number r n b s) (in_number r n b (blur s))
unfolding in_number
in_number_same r n b s = number_on_same (digit_in r b) r n b s

digit_same : (fault : FaultKind) (o : Option ℕ) (f g : ℕ → State) → ((d : ℕ) → Same (Ok (f d)) (Ok (g d)))
    → Same (by_digit fault o f) (by_digit fault o g)
digit_same fault None f g each = refl
digit_same fault (Some d) f g each = each d

opened_string_same : (p : Place) (s : State) → Same (string_opened p s) (string_opened p (blur s))
opened_string_same place.Data s = refl
opened_string_same p s = refl

closed_same : (q : Quote) (s : State) → Same (closed q s) (closed q (blur s))
closed_same quotes.Double s = string_same s
closed_same quotes.Single s = type_same s

escape_on_same : (o : Option ℕ) (q : Quote) (r : Radix) (left n : ℕ) (s : State)
    → Same (escape_on o q r left n s) (escape_on o q r left n (blur s))
escape_on_same None q r left n s = refl
escape_on_same (Some d) q r left n s = either (nat_lt 255 (base r * n + d)) _ _ _ _ refl (either (nat_le left 1) _ _ _ _ refl refl)

escape_number_same : (q : Quote) (r : Radix) (left n b : ℕ) (s : State)
    → Same (escape_number q r left n b s) (escape_number q r left n b (blur s))
unfolding escape_number
escape_number_same q r left n b s = escape_on_same (digit_in r b) q r left n s

escape_by_same : (o : Option ℕ) (q : Quote) (b : ℕ) (s : State) → Same (escape_by o q b s) (escape_by o q b (blur s))
escape_by_same (Some c) q b s = refl
escape_by_same None q b s = escape_number_same q radix.Octal 3 0 b s

step_in_same : (m : Mode) (b : ℕ) (s : State) → Same (step_in m b s) (step_in m b (blur s))
unfolding slash in_comment star line_comment body in_word after_zero prefixed dollar hex_string hex_half quoted escape escape_zero
step_in_same mode.Between b s = between_same b s
step_in_same mode.Slash b s = either (b == 42) _ _ _ _ refl (either (b == 47) _ _ _ _ refl refl)
step_in_same mode.Comment b s = either_ok (b == 42) _ _ _ _ refl refl
step_in_same mode.Star b s = either (b == 47) _ _ _ _ (comment_same s) (either (b == 42) _ _ _ _ refl refl)
step_in_same mode.LineComment b s = either_ok (ends_line b) _ _ _ _ refl refl
step_in_same (mode.Declaring r) b s = declaring_same r b s
step_in_same (mode.Body r) b s = either (ends 125 1 b r) _ _ _ _ (body_same s) refl
step_in_same mode.Word b s =
    either (is_letter b || is_digit b) _ _ _ _ refl
    (bound (word s) (word (blur s)) (λ t. after_word t.mode b t) (word_same s) (λ t. after_word_same t.mode b t))
step_in_same mode.Zero b s =
    either (b == 120 || b == 88) _ _ _ _ refl (either (b == 98 || b == 66) _ _ _ _ refl (in_number_same radix.Decimal 0 b s))
step_in_same (mode.Prefixed r) b s = digit_same faults.DigitNeeded (digit_in r b) _ _ (λ d. refl)
step_in_same (mode.Number r n) b s = in_number_same r n b s
step_in_same mode.Dollar b s =
    either (b == 34) _ _ _ _ (opened_string_same s.place s) (digit_same faults.HexadecimalNeeded (hex_value b) _ _ (λ d. refl))
step_in_same mode.HexString b s =
    either (b == 34) _ _ _ _ (datum_same s) (either (is_blank b) _ _ _ _ refl (digit_same faults.NotADigit (hex_value b) _ _ (λ d. refl)))
step_in_same (mode.HexHalf high) b s =
    either (b == 34) _ _ _ _ refl (either (is_blank b) _ _ _ _ refl (digit_same faults.NotADigit (hex_value b) _ _ (λ d. refl)))
step_in_same (mode.Quoted q) b s =
    either (b == quote_byte q) _ _ _ _ (closed_same q s) (either (b == 92) _ _ _ _ refl (either (ends_line b) _ _ _ _ refl refl))
step_in_same (mode.Escape q) b s =
    either (b == 48) _ _ _ _ refl (either (b == 36) _ _ _ _ refl (escape_by_same (escaped_byte b) q b s))
step_in_same (mode.EscapeZero q) b s =
    either (b == 120 || b == 88) _ _ _ _ refl
    (either (b == 98) _ _ _ _ refl (either (b == 100) _ _ _ _ refl (escape_number_same q radix.Octal 2 0 b s)))
step_in_same (mode.EscapeNumber q r left n) b s = escape_number_same q r left n b s

step_same : (b : ℕ) (s : State) → Same (step b s) (step b (blur s))
unfolding step
step_same b s = step_in_same s.mode b s

ended_in_same : (p : Place) (s : State) → Same (ended_in p s) (ended_in p (blur s))
ended_in_same place.Outside s = refl
ended_in_same place.Declaration s = refl
ended_in_same p s = refl

end_same : (m : Mode) (s : State) → Same (ended m s) (ended m (blur s))
end_same mode.Between s = ended_in_same s.place s
end_same m s = refl

finish_same : (s : State) → Same (finish s) (finish (blur s))
unfolding finish
finish_same s = bound (step 10 s) (step 10 (blur s)) (λ t. ended t.mode t) (step_same 10 s) (λ t. end_same t.mode t)

-- Whole texts.

abbrev seen : Result State (ℕ × FaultKind) → Result State (ℕ × FaultKind)
seen (Ok s) = Ok (blur s)
seen (Err e) = Err e

on_same : (l : Lines) (x p : Result State FaultKind) (f g : State → Result State (ℕ × FaultKind)) → Same x p
    → ((s t : State) → blur s ≡ blur t → seen (f s) ≡ seen (g t)) → seen (at_line l x f) ≡ seen (at_line l p g)
on_same l (Ok s) (Ok t) f g same each = each s t (inside s t same)
on_same l (Ok s) (Err k) f g same each = absurd (cc)
on_same l (Err e) (Ok t) f g same each = absurd (cc)
on_same l (Err e) (Err k) f g same each =
    let is : e ≡ k = ap (λ r. elim r [ Ok u ↦ e | Err n ↦ n ]) same in
    ap (λ n. seen (at_line l (Err n) f)) is

both_same : (f : State → Result State FaultKind) (s t : State) → ((u : State) → Same (f u) (f (blur u))) → blur s ≡ blur t
    → Same (f s) (f t)
both_same f s t each e = each s ∙ ap (λ u. blurred (f u)) e ∙ sym (each t)

read_same : (text : List ℕ) (l : Lines) (s t : State) → blur s ≡ blur t → seen (read_from l s text) ≡ seen (read_from l t text)
read_same [] l s t e =
    on_same l (finish s) (finish t) (λ u. Ok u) (λ u. Ok u) (both_same finish s t finish_same e) (λ u v k. ap Ok k)
read_same (b ∷ rest) l s t e =
    let is : s.mode ≡ t.mode = ap (λ u. u.mode) e in
    on_same (lines_at s.mode b l) (step b s) (step b t) (λ u. read_from (lines_at s.mode b l) u rest)
    (λ u. read_from (lines_at s.mode b l) u rest) (both_same (step b) s t (step_same b) e)
    (λ u v k. read_same rest (lines_at s.mode b l) u v k)
    ∙ ap (λ m. seen (at_line (lines_at m b l) (step b t) (λ u. read_from (lines_at m b l) u rest))) is

drop_all : (xs : List (List ℕ)) → drop (length xs) xs ≡ []
drop_all [] = refl
drop_all (x ∷ xs) = drop_all xs

are_lacking : (names more : List (List ℕ)) (c : Content) → unless_lacking names c ≡ Err (Lacking more) → names ≡ more
are_lacking [] more c e = absurd (cc)
are_lacking (n ∷ names) more c e = ap (λ r. elim r [ Ok x ↦ n ∷ names | Err k ↦ elim k [ Wrong line kind ↦ n ∷ names | Lacking l ↦ l ] ]) e

none_lack : (names more : List (List ℕ)) (c : Content) → names ≡ [] → unless_lacking names c ≡ Err (Lacking more) → ⊥
none_lack [] more c none e = absurd (cc)
none_lack (n ∷ names) more c none e = absurd (cc)

stated_enough : (count : ℕ) (r p : Result State (ℕ × FaultKind)) (names more : List (List ℕ)) → seen r ≡ seen p
    → stated 0 r ≡ Err (Lacking names) → count ≡ length names → stated count p ≡ Err (Lacking more) → ⊥
stated_enough count (Ok s) (Ok t) names more same lacks many still =
    let is : s.said.files.named ≡ names = are_lacking s.said.files.named names (clear s.said.content) lacks in
    let alike : s.said.files.named ≡ t.said.files.named =
    ap (λ r. elim r [ Ok u ↦ u.said.files.named | Err e ↦ s.said.files.named ]) same in
    let all : drop count t.said.files.named ≡ [] =
    ap (λ n. drop n t.said.files.named) many ∙ ap (λ l. drop (length names) l) (sym alike ∙ is) ∙ drop_all names in
    none_lack (drop count t.said.files.named) more (clear t.said.content) all still
stated_enough count (Ok s) (Err e) names more same lacks many still = absurd (cc)
stated_enough count (Err e) p names more same lacks many still = absurd (cc)

made_enough : (types : List Declared) (files : List (List ℕ)) (made : Result (List ℕ) (ℕ × FaultKind)) (names more : List (List ℕ))
    → read_made types [] made ≡ Err (Lacking names) → length files ≡ length names
    → read_made types files made ≡ Err (Lacking more) → ⊥
unfolding read_roman
made_enough types files (Ok text) names more lacks many still =
    stated_enough (length files) (read_from first_line (start place.Outside types []) text)
    (read_from first_line (start place.Outside types files) text) names more
    (read_same text first_line (start place.Outside types []) (start place.Outside types files) refl) lacks many still
made_enough types files (Err e) names more lacks many still = absurd (cc)

pub enough : (types : List Declared) (files : List (List ℕ)) (text : List ℕ) (names more : List (List ℕ))
    → read types [] text ≡ Err (Lacking names) → length files ≡ length names
    → read types files text ≡ Err (Lacking more) → ⊥
unfolding read
enough types files text names more lacks many still = made_enough types files (as_roman text) names more lacks many still
