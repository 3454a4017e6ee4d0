use Rattle.zone_script_laws.proofs.Cited.{◌≡◌, ℕ, ◌+◌, ◌≤◌, true, false, ◌==◌, nat_lt, List, [], ◌∷◌, ◌++◌, refl, sym, ◌∙◌, ap, subst, Some}
use Rattle.zone_script_laws.proofs.Cited.{None, Result, Ok, Err, arith, length, take, drop, append_assoc, append-nil, length-append}
use Rattle.zone_script_laws.proofs.Cited.{bytes_eq, codes, decimal, list_all, AllByRecursion, ok_or, lines, take-append_seam}
use Rattle.zone_script_laws.proofs.Cited.{drop-append_seam, and_parts, and_from, cond-false, le-ltb, list_all-append, FaultKind}
use Rattle.zone_script_laws.proofs.Cited.{UnknownCall, LongLine, CallWord, ◌>>=◌, place, is_blank, after_blanks, may_end, Label, Size}
use Rattle.zone_script_laws.proofs.Cited.{Value, Letters, Number, is_label_byte, arguments, value, kinds, meant, word_spelled, Above}
use Rattle.zone_script_laws.proofs.Cited.{Statement, with_statement, with_token, with_text, longest_line, read_at, read_from, at_line, says}
use Rattle.zone_script_laws.proofs.Cited.{Line, MoreMasters, NewHandle, NewPtr, HLock, HPurge, HUnlock, DisposePtr, named_text, sized_text}
use Rattle.zone_script_laws.proofs.Cited.{line_text, lines_text, said_of, stated_from}
use Rattle.script_text.specs.declared.word.CallWord.TheVariants as word
use Rattle.zone_script_laws.proofs.Letters.{letter-not, letter-blank, is_plain, all-plain}
use Rattle.zone_script_laws.proofs.Lines.{line-first}
use Rattle.zone_script_laws.proofs.Tokens.{after-none, place-blank, one-argument, two-arguments}
use Rattle.zone_script_laws.proofs.Words.{IsName, name-value, decimal-some, decimal-letters, decimal-long, number-value}

-- The written lines of calls are read again.

-- what stands above a line: these steps, and no grow-zone script
abbrev pub above : List Statement → Above
above steps = record { steps = steps; blocks = []; begun = None }

-- a line by its first token, which spells a word
said-so : (w : CallWord) (token rest : List ℕ) (values : List Value) (n : ℕ) (steps : List Statement)
    → bytes_eq token (codes "grow") ≡ false → bytes_eq token (codes "end") ≡ false → word_spelled token ≡ Some w
    → arguments (kinds w) rest ≡ Ok values
    → with_token n (above steps) token rest ≡ Ok (above (steps ++ says n (meant w) values ∷ []))
unfolding with_token
said-so w token rest values n steps no-grow no-end spelled read =
    cond-false (bytes_eq token (codes "grow")) _ _ no-grow ∙ cond-false (bytes_eq token (codes "end")) _ _ no-end
    ∙ ap (λ o. ok_or o UnknownCall >>= said) spelled
    ∙ ap (λ r. (r >>= λ values. Ok (meant w, values)) >>= add) read
  where
    add : CallWord × List Value → Result Above FaultKind
    add call = Ok (with_statement (says n call.0 call.1) (above steps) None)

    said : CallWord → Result Above FaultKind
    said word = (arguments (kinds word) rest >>= λ values. Ok (meant word, values)) >>= add

-- a line that begins with a letter
read-so : (n : ℕ) (steps : List Statement) (c : ℕ) (w rest : List ℕ) (next : Above)
    → list_all is_label_byte (c ∷ w) ≡ true → may_end rest ≡ true → length ((c ∷ w) ++ rest) ≤ 65535
    → with_token n (above steps) (c ∷ w) rest ≡ Ok next → read_at n (above steps) ((c ∷ w) ++ rest) ≡ Ok next
unfolding read_at
read-so n steps c w rest next letters end short read =
    let is = (and_parts (is_label_byte c) (list_all is_label_byte w) letters).0 in
    cond-false (nat_lt longest_line (length ((c ∷ w) ++ rest))) (Err LongLine) (with_text n (above steps) (after_blanks ((c ∷ w) ++ rest)))
    (le-ltb 65535 (length ((c ∷ w) ++ rest)) short)
    ∙ ap (with_text n (above steps)) (after-none c (w ++ rest) (letter-blank c is))
    ∙ cond-false (c == 35) (Ok (above steps)) (at_place (place is_blank ((c ∷ w) ++ rest))) (letter-not c 35 is refl)
    ∙ ap at_place (place-blank (c ∷ w) rest letters end)
    ∙ ap (λ t. with_token n (above steps) t (drop (length (c ∷ w)) ((c ∷ w) ++ rest))) (take-append_seam (c ∷ w) rest)
    ∙ ap (λ r. with_token n (above steps) (c ∷ w) r) (drop-append_seam (c ∷ w) rest)
    ∙ read
  where
    at_place : ℕ → Result Above FaultKind
    at_place k = with_token n (above steps) (take k ((c ∷ w) ++ rest)) (drop k ((c ∷ w) ++ rest))

-- the arguments of calls
named-argument : (name : List ℕ) → IsName name → arguments (Label ∷ []) (32 ∷ name) ≡ Ok (Letters name ∷ [])
named-argument [] h = let f : false ≡ true = h.begins in cc
named-argument (c ∷ w) h = one-argument Label c w (Letters (c ∷ w)) h.letters (name-value (c ∷ w) h)

number-argument : (size : ℕ) (text : List ℕ) → decimal size ≡ text → size ≤ 2147483647
    → arguments (Size ∷ []) (32 ∷ text) ≡ Ok (Number size ∷ [])
number-argument size [] e small = let z = ap length e in absurd (omega (arith, decimal-some size small))
number-argument size (c ∷ w) e small = one-argument Size c w (Number size)
    (subst (λ t. list_all is_label_byte t ≡ true) e (decimal-letters size (omega arith)))
    (ap (λ t. value Size t) (sym e) ∙ number-value size small)

sized-arguments : (name : List ℕ) (size : ℕ) → IsName name → size ≤ 2147483647
    → arguments (Label ∷ Size ∷ []) (32 ∷ name ++ 32 ∷ decimal size) ≡ Ok (Letters name ∷ Number size ∷ [])
sized-arguments [] size h small = let f : false ≡ true = h.begins in cc
sized-arguments (c ∷ w) size h small =
    two-arguments Label Size c w (decimal size) (Letters (c ∷ w)) (Number size) h.letters (name-value (c ∷ w) h)
    (number-argument size (decimal size) refl small)

-- what the reader can read: names that are names, and sizes that are no larger than an argument can be
abbrev pub Readable : Line → Type 0
Readable MoreMasters = Unit {0}
Readable (NewHandle name size) = IsName name × (size ≤ 2147483647)
Readable (NewPtr name size) = IsName name × (size ≤ 2147483647)
Readable (HLock name) = IsName name
Readable (HPurge name) = IsName name
Readable (HUnlock name) = IsName name
Readable (DisposePtr name) = IsName name

-- the text of a line without its end: its first token, and what follows
abbrev first : Line → List ℕ
first MoreMasters = codes "MoreMasters"
first (NewHandle name size) = codes "NewHandle"
first (NewPtr name size) = codes "NewPtr"
first (HLock name) = codes "HLock"
first (HPurge name) = codes "HPurge"
first (HUnlock name) = codes "HUnlock"
first (DisposePtr name) = codes "DisposePtr"

abbrev others : Line → List ℕ
others MoreMasters = []
others (NewHandle name size) = 32 ∷ name ++ 32 ∷ decimal size
others (NewPtr name size) = 32 ∷ name ++ 32 ∷ decimal size
others (HLock name) = 32 ∷ name
others (HPurge name) = 32 ∷ name
others (HUnlock name) = 32 ∷ name
others (DisposePtr name) = 32 ∷ name

named-is : (word name more : List ℕ) → named_text word name ++ more ≡ (word ++ 32 ∷ name) ++ 10 ∷ more
unfolding named_text
named-is word name more = simp append_assoc

sized-is : (word name : List ℕ) (size : ℕ) (more : List ℕ)
    → sized_text word name size ++ more ≡ (word ++ (32 ∷ name ++ 32 ∷ decimal size)) ++ 10 ∷ more
unfolding sized_text
sized-is word name size more = simp append_assoc

line-is : (l : Line) (more : List ℕ) → line_text l ++ more ≡ (first l ++ others l) ++ 10 ∷ more
line-is MoreMasters more = refl
line-is (NewHandle name size) more = sized-is (codes "NewHandle") name size more
line-is (NewPtr name size) more = sized-is (codes "NewPtr") name size more
line-is (HLock name) more = named-is (codes "HLock") name more
line-is (HPurge name) more = named-is (codes "HPurge") name more
line-is (HUnlock name) more = named-is (codes "HUnlock") name more
line-is (DisposePtr name) more = named-is (codes "DisposePtr") name more

-- it is plain
name-plain : (name : List ℕ) → IsName name → list_all is_plain (32 ∷ name) ≡ true
name-plain name h = all-plain name h.letters

sized-plain : (name : List ℕ) (size : ℕ) → IsName name → size ≤ 2147483647 → list_all is_plain (32 ∷ name ++ 32 ∷ decimal size) ≡ true
sized-plain name size h small =
    list_all-append is_plain name (32 ∷ decimal size)
    ∙ and_from (list_all is_plain name) (list_all is_plain (decimal size)) (all-plain name h.letters)
    (all-plain (decimal size) (decimal-letters size (omega arith)))

pub plain-after : (word rest : List ℕ) → list_all is_plain word ≡ true → list_all is_plain rest ≡ true
    → list_all is_plain (word ++ rest) ≡ true
plain-after word rest one more = list_all-append is_plain word rest ∙ and_from (list_all is_plain word) (list_all is_plain rest) one more

line-plain : (l : Line) → Readable l → list_all is_plain (first l ++ others l) ≡ true
line-plain MoreMasters h = refl
line-plain (NewHandle name size) h = sized-plain name size h.0 h.1
line-plain (NewPtr name size) h = sized-plain name size h.0 h.1
line-plain (HLock name) h = name-plain name h
line-plain (HPurge name) h = name-plain name h
line-plain (HUnlock name) h = name-plain name h
line-plain (DisposePtr name) h = name-plain name h

sized-long : (name : List ℕ) (size : ℕ) → IsName name → size ≤ 2147483647 → length (name ++ 32 ∷ decimal size) ≤ 20
sized-long name size h small = let long = h.long in omega (arith, length-append name (32 ∷ decimal size), decimal-long size small)

-- and is read as its call
line-read : (l : Line) (n : ℕ) (steps : List Statement) → Readable l
    → read_at n (above steps) (first l ++ others l) ≡ Ok (above (steps ++ record { line = n; said = said_of l } ∷ []))
unfolding word_spelled after_blanks
line-read MoreMasters n steps h =
    read-so n steps 77 (codes "oreMasters") [] _ refl refl (omega arith)
    (said-so word.MoreMasters (codes "MoreMasters") [] [] n steps refl refl refl refl)
line-read (NewHandle name size) n steps h =
    read-so n steps 78 (codes "ewHandle") (32 ∷ name ++ 32 ∷ decimal size) _ refl refl (omega (arith, sized-long name size h.0 h.1))
    (said-so word.NewHandle (codes "NewHandle") _ _ n steps refl refl refl (sized-arguments name size h.0 h.1))
line-read (NewPtr name size) n steps h =
    read-so n steps 78 (codes "ewPtr") (32 ∷ name ++ 32 ∷ decimal size) _ refl refl (omega (arith, sized-long name size h.0 h.1))
    (said-so word.NewPtr (codes "NewPtr") _ _ n steps refl refl refl (sized-arguments name size h.0 h.1))
line-read (HLock name) n steps h =
    let long = h.long in
    read-so n steps 72 (codes "Lock") (32 ∷ name) _ refl refl (omega arith)
    (said-so word.HLock (codes "HLock") _ _ n steps refl refl refl (named-argument name h))
line-read (HPurge name) n steps h =
    let long = h.long in
    read-so n steps 72 (codes "Purge") (32 ∷ name) _ refl refl (omega arith)
    (said-so word.HPurge (codes "HPurge") _ _ n steps refl refl refl (named-argument name h))
line-read (HUnlock name) n steps h =
    let long = h.long in
    read-so n steps 72 (codes "Unlock") (32 ∷ name) _ refl refl (omega arith)
    (said-so word.HUnlock (codes "HUnlock") _ _ n steps refl refl refl (named-argument name h))
line-read (DisposePtr name) n steps h =
    let long = h.long in
    read-so n steps 68 (codes "isposePtr") (32 ∷ name) _ refl refl (omega arith)
    (said-so word.DisposePtr (codes "DisposePtr") _ _ n steps refl refl refl (named-argument name h))

-- a line that is read, before others
pub read-next : (n : ℕ) (old new : Above) (line more : List ℕ) → list_all is_plain line ≡ true → read_at n old line ≡ Ok new
    → read_from n old (lines (line ++ 10 ∷ more)) ≡ read_from (n + 1) new (lines more)
read-next n old new line more plain read =
    ap (read_from n old) (line-first line more plain) ∙ ap (λ r. at_line n r (λ next. read_from (n + 1) next (lines more))) read

-- all lines
pub all-read : (calls : List Line) (n : ℕ) (steps : List Statement) → AllByRecursion Readable calls
    → read_from n (above steps) (lines (lines_text calls)) ≡ Ok (above (steps ++ stated_from n calls))
all-read [] n steps h = ap (λ s. Ok (above s)) (sym (append-nil steps))
all-read (l ∷ calls) n steps h =
    ap (λ t. read_from n (above steps) (lines t)) (line-is l (lines_text calls))
    ∙ read-next n (above steps) (above (steps ++ one)) (first l ++ others l) (lines_text calls) (line-plain l h.0) (line-read l n steps h.0)
    ∙ all-read calls (n + 1) (steps ++ one) h.1
    ∙ ap (λ s. Ok (above s)) (append_assoc steps one (stated_from (n + 1) calls))
  where
    one : List Statement
    one = record { line = n; said = said_of l } ∷ []
