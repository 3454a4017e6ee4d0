-- The files of a content in a folder: no two have one name, so each keeps its bytes.
use Rattle.fork_edits.proofs.Cited.{◌≡◌, ◌≢◌, ℕ, ◌+◌, ◌<◌, ◌^◌, Bool, true, false, cond, List, [], ◌∷◌, map, length, Some, None, refl, sym}
use Rattle.fork_edits.proofs.Cited.{◌∙◌, ap, arith, bytes_eq, is_some, AllByRecursion, find, str_to_ascii_lowercase, eq-eqb, Decides-int_eq}
use Rattle.fork_edits.proofs.Cited.{bytes_eq-Decides, Content, is_same, Filed, filed_fixed, filed_numbered, numbered_from, filed_by, filed}
use Rattle.fork_edits.proofs.Cited.{HasNoName, AreApart, file_bytes, HasFiles, IsListable, Row, rows, twin}
use Rattle.fork_edits.proofs.Doubles.{seen_none}
use Rattle.fork_edits.proofs.Extracting.{IsStated, rows_stated}
use Rattle.fork_edits.proofs.Fixing.{fixed_apart}
use Rattle.fork_edits.proofs.Naming.{names_apart}

-- names by number
numbers_other : (n m : ℕ) (x : Row) (xs : List Row) → n < m → m + length xs < 2 ^ 64
    → HasNoName (filed_numbered n x) (numbered_from m xs)
numbers_other n m x [] less few = tt
numbers_other n m x (y ∷ xs) less few = (
  λ e. absurd (omega (arith, names_apart n m x y (omega arith) (omega arith) e)),
  numbers_other n (m + 1) x xs (omega arith) (omega arith),
)

numbers_apart : (n : ℕ) (xs : List Row) → n + length xs < 2 ^ 64 → AreApart (numbered_from n xs)
numbers_apart n [] few = tt
numbers_apart n (x ∷ xs) few =
    (numbers_other n (n + 1) x xs (omega arith) (omega arith), numbers_apart (n + 1) xs (omega arith))

-- names by type and ID
fixed_same : (x y : Row) → IsStated x → IsStated y → is_same x y ≡ false
    → str_to_ascii_lowercase (filed_fixed x).file ≢ str_to_ascii_lowercase (filed_fixed y).file
fixed_same x y k h other e =
    let both = fixed_apart x.kind y.kind x.resource.id y.resource.id k.kind h.kind k.ref.id h.ref.id e in
    let same : is_same x y ≡ true =
    rw (eq-eqb y.kind x.kind (sym both.0), (Decides-int_eq y.resource.id x.resource.id).1 (sym both.1)) refl in
    cc

fixed_other : (x : Row) (xs : List Row) → IsStated x → AllByRecursion IsStated xs → is_some (find (is_same x) xs) ≡ false
    → HasNoName (filed_fixed x) (map filed_fixed xs)
fixed_other x [] k h none = tt
fixed_other x (y ∷ xs) k h none =
    let past = by_test (is_same x y) refl none in
    (fixed_same x y k h.0 past.0, fixed_other x xs k h.1 past.1)
  where
    by_test : (t : Bool) → is_same x y ≡ t → is_some (cond t (Some y) (find (is_same x) xs)) ≡ false
        → (is_same x y ≡ false) × (is_some (find (is_same x) xs) ≡ false)
    by_test true e h = cc
    by_test false e h = (e, h)

fixed_files_apart : (xs : List Row) → AllByRecursion IsStated xs → twin xs ≡ None → AreApart (map filed_fixed xs)
fixed_files_apart [] h none = tt
fixed_files_apart (x ∷ xs) h none =
    let past = by_test (is_some (find (is_same x) xs)) refl none in
    (fixed_other x xs h.0 h.1 past.0, fixed_files_apart xs h.1 past.1)
  where
    by_test : (t : Bool) → is_some (find (is_same x) xs) ≡ t → cond t (Some x) (twin xs) ≡ None
        → (is_some (find (is_same x) xs) ≡ false) × (twin xs ≡ None)
    by_test true e h = cc
    by_test false e h = (e, h)

files_by : (t : Bool) (xs : List Row) → is_some (twin xs) ≡ t → length xs < 2 ^ 32 → AllByRecursion IsStated xs → AreApart (filed_by t xs)
files_by true xs e few h = numbers_apart 1 xs (omega arith)
files_by false xs e few h = fixed_files_apart xs h (seen_none (twin xs) e)

-- no two files of a content have one name
pub files_apart : (c : Content) → IsListable c → AreApart (filed (rows c.groups))
files_apart c h = files_by (is_some (twin (rows c.groups))) (rows c.groups) refl h.few (rows_stated c.groups h.limits.groups)

-- files that are written in a folder, of which no two have one name, are there
other_name : (f g : Filed) → str_to_ascii_lowercase f.file ≢ str_to_ascii_lowercase g.file → bytes_eq f.file g.file ≡ false
other_name f g other = by_test (bytes_eq f.file g.file) refl
  where
    by_test : (t : Bool) → bytes_eq f.file g.file ≡ t → t ≡ false
    by_test true e = absurd (other (ap str_to_ascii_lowercase ((bytes_eq-Decides f.file g.file).0 e)))
    by_test false e = refl

has_past : (f : Filed) (all files : List Filed) → HasNoName f files → HasFiles (file_bytes all) files
    → HasFiles (file_bytes (f ∷ all)) files
has_past f all [] other h = tt
has_past f all (g ∷ files) other h =
    (ap (λ t. cond t f.row.resource.datum (file_bytes all g.file)) (other_name f g other.0) ∙ h.0, has_past f all files other.1 h.1)

has_files : (files : List Filed) → AreApart files → HasFiles (file_bytes files) files
has_files [] h = tt
has_files (f ∷ files) h = (
  ap (λ t. cond t f.row.resource.datum (file_bytes files f.file)) ((bytes_eq-Decides f.file f.file).1 refl),
  has_past f files files h.0 (has_files files h.1),
)

pub folder_has : (c : Content) → IsListable c → HasFiles (file_bytes (filed (rows c.groups))) (filed (rows c.groups))
folder_has c h = has_files (filed (rows c.groups)) (files_apart c h)
