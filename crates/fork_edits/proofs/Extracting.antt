-- What was extracted from a fork is packed again.
use Rattle.fork_edits.proofs.Cited.{◌≡◌, ℕ, ◌+◌, ◌<◌, ◌^◌, Bool, true, false, List, [], ◌∷◌, map, length, refl, sym, ◌∙◌, ap, arith, Ok}
use Rattle.fork_edits.proofs.Cited.{is_some, AllByRecursion, each-append, canon, Ref, Group, Content, IsRef, IsGroup, Entry, Listed, entry}
use Rattle.fork_edits.proofs.Cited.{listed, contents_text, Filed, filed_fixed, filed_numbered, numbered_from, filed_by, filed}
use Rattle.fork_edits.proofs.Cited.{contents_read, with_rows, packed_rows, packed_content, named_files, HasFiles, HasByteName, IsListable}
use Rattle.fork_edits.proofs.Cited.{Row, row, group_rows, rows, twin}
use Rattle.fork_edits.proofs.Filing.{IsFile, fixed_file, numbered_file}
use Rattle.fork_edits.proofs.Relisting.{IsEntry, list_again}
use Rattle.fork_edits.proofs.Repacking.{packed_again}

-- the limits of a resource and its type
pub record IsStated (x : Row) : Type 0 where
  pub kind : x.kind < 2 ^ 32
  pub ref : IsRef x.resource

refs_stated : (k : ℕ) (refs : List Ref) → k < 2 ^ 32 → AllByRecursion IsRef refs → AllByRecursion IsStated (map (row k) refs)
refs_stated k [] low h = tt
refs_stated k (r ∷ refs) low h = (record { kind = low; ref = h.0 }, refs_stated k refs low h.1)

pub rows_stated : (groups : List Group) → AllByRecursion IsGroup groups → AllByRecursion IsStated (rows groups)
rows_stated [] h = tt
rows_stated (g ∷ groups) h =
    each-append IsStated (group_rows g) (rows groups) (refs_stated g.kind g.refs h.0.kind h.0.refs) (rows_stated groups h.1)

-- the lines of resources and their files
entry_is : (f : Filed) → IsFile f.file → IsStated f.row → HasByteName f.row → IsEntry (entry f)
entry_is f file h bytes = record {
  kind = h.kind;
  id = h.ref.id;
  attrs = h.ref.attrs;
  file = file;
  short = h.ref.name;
  bytes = bytes;
}

fixed_entries : (xs : List Row) → AllByRecursion IsStated xs → AllByRecursion HasByteName xs
    → AllByRecursion IsEntry (map entry (map filed_fixed xs))
fixed_entries [] h bytes = tt
fixed_entries (x ∷ xs) h bytes =
    (entry_is (filed_fixed x) (fixed_file x.kind x.resource.id h.0.ref.id) h.0 bytes.0, fixed_entries xs h.1 bytes.1)

numbered_entries : (n : ℕ) (xs : List Row) → n + length xs < 2 ^ 64 → AllByRecursion IsStated xs → AllByRecursion HasByteName xs
    → AllByRecursion IsEntry (map entry (numbered_from n xs))
numbered_entries n [] few h bytes = tt
numbered_entries n (x ∷ xs) few h bytes = (
  entry_is (filed_numbered n x) (numbered_file n x (omega arith) h.0.ref.id bytes.0) h.0 bytes.0,
  numbered_entries (n + 1) xs (omega arith) h.1 bytes.1,
)

filed_entries : (t : Bool) (xs : List Row) → length xs < 2 ^ 32 → AllByRecursion IsStated xs → AllByRecursion HasByteName xs
    → AllByRecursion IsEntry (map entry (filed_by t xs))
filed_entries true xs few h bytes = numbered_entries 1 xs (omega arith) h bytes
filed_entries false xs few h bytes = fixed_entries xs h bytes

-- the list of a content is read again
pub listed_again : (c : Content) → IsListable c → contents_read (contents_text c) ≡ Ok (listed c (filed (rows c.groups)))
listed_again c h =
    list_again (listed c (filed (rows c.groups))) h.limits.attrs h.limits.area h.area
    (filed_entries (is_some (twin (rows c.groups))) (rows c.groups) h.few (rows_stated c.groups h.limits.groups) h.names)

-- the resources of the files are those that were written
rows_numbered : (n : ℕ) (xs : List Row) → map (λ (f : Filed). f.row) (numbered_from n xs) ≡ xs
rows_numbered n [] = refl
rows_numbered n (x ∷ xs) = ap (λ l. x ∷ l) (rows_numbered (n + 1) xs)

rows_fixed : (xs : List Row) → map (λ (f : Filed). f.row) (map filed_fixed xs) ≡ xs
rows_fixed [] = refl
rows_fixed (x ∷ xs) = ap (λ l. x ∷ l) (rows_fixed xs)

rows_filed : (t : Bool) (xs : List Row) → map (λ (f : Filed). f.row) (filed_by t xs) ≡ xs
rows_filed true xs = rows_numbered 1 xs
rows_filed false xs = rows_fixed xs

packed_is : (folder : List ℕ → List ℕ) (files : List Filed) → HasFiles folder files
    → packed_rows (map entry files) (map (λ (e : Entry). folder e.file) (map entry files)) ≡ map (λ (f : Filed). f.row) files
packed_is folder [] h = refl
packed_is folder (f ∷ files) h =
    let with_datum : List ℕ → Row =
    λ d. row f.row.kind (record { id = f.row.resource.id; name = f.row.resource.name; attrs = f.row.resource.attrs; datum = d }) in
    ap (λ d. with_datum d ∷ packed_rows (map entry files) (map (λ (e : Entry). folder e.file) (map entry files))) h.0
    ∙ ap (λ l. f.row ∷ l) (packed_is folder files h.1)

listed_packed : (c : Content) (folder : List ℕ → List ℕ) → IsListable c → HasFiles folder (filed (rows c.groups))
    → packed_content (listed c (filed (rows c.groups))) (named_files folder (listed c (filed (rows c.groups)))) ≡ c
listed_packed c folder h files =
    let with_groups : List Group → Content = λ groups. record { area = c.area; attrs = c.attrs; groups = groups } in
    ap (λ xs. with_groups (with_rows xs []))
    (packed_is folder (filed (rows c.groups)) files ∙ rows_filed (is_some (twin (rows c.groups))) (rows c.groups))
    ∙ ap with_groups (packed_again c.groups h.resources h.types)

-- a content is packed again from its list and its files
pub content_again : (c : Content) (folder : List ℕ → List ℕ) (l : Listed) → IsListable c → HasFiles folder (filed (rows c.groups))
    → contents_read (contents_text c) ≡ Ok l → packed_content l (named_files folder l) ≡ c
content_again c folder l h files read =
    let same : l ≡ listed c (filed (rows c.groups)) = cc (sym read ∙ listed_again c h) in
    ap (λ (k : Listed). packed_content k (named_files folder k)) same ∙ listed_packed c folder h files

pub fork_again : (c : Content) (folder : List ℕ → List ℕ) (l : Listed) → IsListable c → HasFiles folder (filed (rows c.groups))
    → contents_read (contents_text c) ≡ Ok l → canon (packed_content l (named_files folder l)) ≡ canon c
fork_again c folder l h files read = ap canon (content_again c folder l h files read)
