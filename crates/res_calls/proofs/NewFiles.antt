use Rattle.res_calls.proofs.Cited.{◌≡◌, ◌<◌, ℕ, true, false, Some, None, refl, sym, ◌∙◌, ap, List, [], ◌∷◌, ◌++◌, map, length, arith}
use Rattle.res_calls.proofs.Cited.{get_or, option_map, bytes_eq, lt-leb, length-map, Memory, Refusal, Code, DUPLICATE_FILE, Split, split}
use Rattle.res_calls.proofs.Cited.{place, create_named, create_res_file, most_files, new_file, new_fork, File, Resources, IsAnswered}
use Rattle.res_calls.proofs.Cited.{managers, at_index, written, written_at, filed_in, view_file}
use Rattle.std.specs.Prelude.{Ok, Err, Result, ◌==◌, nat_le}
use Rattle.res_calls.specs.declared.files.File.{File as StoredFile}
use Rattle.res_calls.proofs.Standing.{index_stands}
use Rattle.res_calls.proofs.WritingAnew.{here_seen, found_stands}

-- Files that are made.

-- one is made behind the others
pub one_more : (name fork : List ℕ) (r : Resources) (m : Memory) (xs ys : List StoredFile)
    → length xs < most_files → fork ≡ new_fork → map view_file ys
    ≡ map view_file xs ++ (let f : File = record { name = name; fork = fork; written = true } in f) ∷ []
    → IsAnswered (λ (u : Unit {0}). u) (create_named name None (managers (filed_in xs r) m)) (Ok tt)
    (managers (filed_in ys r) m)
one_more name fork r m xs ys few is pushed =
    let long : length (map view_file xs) ≡ length xs = length-map xs view_file in
    let under : nat_le most_files (length (map view_file xs)) ≡ false =
    lt-leb most_files (length (map view_file xs)) (omega (arith, long, few)) in
    let so : map view_file ys ≡ map view_file xs ++ new_file name ∷ [] =
    pushed ∙ ap (λ l. map view_file xs ++ (let f : File = record { name = name; fork = l; written = true } in f) ∷ []) is in
    rw (under, so) (refl, refl)

-- the file of a name has a fork of a byte or more, or gets a new one
pub has_bytes : (name : List ℕ) (f : Split File) (r : Resources) (m : Memory) (xs : List StoredFile) (i : ℕ)
    (x : StoredFile) → i < length xs → x ≡ get_or xs i x → (length x.fork.items == 0) ≡ false
    → at_index i (map view_file xs) ≡ Some f
    → IsAnswered (λ (u : Unit {0}). u) (create_named name (Some f) (managers (filed_in xs r) m))
    (Err (Code DUPLICATE_FILE)) (managers (filed_in xs r) m)
has_bytes name f r m xs i x inside is some at =
    let here : f.here ≡ view_file x = here_seen view_file xs i x f inside is at in
    rw (here, some) (refl, refl)

pub gets_fork : (name : List ℕ) (f : Split File) (r : Resources) (m : Memory) (xs ys : List StoredFile) (i : ℕ)
    (x : StoredFile) (fork : List ℕ) → i < length xs → x ≡ get_or xs i x → (length x.fork.items == 0) ≡ true
    → fork ≡ new_fork → map view_file ys ≡ written_at (Some i) fork (map view_file xs)
    → at_index i (map view_file xs) ≡ Some f
    → IsAnswered (λ (u : Unit {0}). u) (create_named name (Some f) (managers (filed_in xs r) m)) (Ok tt)
    (managers (filed_in ys r) m)
gets_fork name f r m xs ys i x fork inside is none made put at =
    let here : f.here ≡ view_file x = here_seen view_file xs i x f inside is at in
    let placed : place f ≡ i = (index_stands i (map view_file xs) f at).placed in
    let so : map view_file ys ≡ written (place f) new_fork (map view_file xs) =
    put ∙ ap (λ l. written i l (map view_file xs)) made ∙ ap (λ k. written k new_fork (map view_file xs)) (sym placed) in
    rw (so, here, none) (refl, refl)

-- a file of the name was found
pub named_found : (name : List ℕ) (i : ℕ) (r : Resources) (m : Memory) (xs ys : List StoredFile)
    (result : Result (Unit {0}) Refusal)
    → Some i ≡ option_map place (split (λ (f : File). bytes_eq f.name name) (map view_file xs))
    → ((f : Split File) → at_index i (map view_file xs) ≡ Some f → IsAnswered (λ (u : Unit {0}). u)
    (create_named name (Some f) (managers (filed_in xs r) m)) result (managers (filed_in ys r) m))
    → IsAnswered (λ (u : Unit {0}). u) (create_res_file name (managers (filed_in xs r) m)) result
    (managers (filed_in ys r) m)
named_found name i r m xs ys result found each =
    let at = found_stands (λ (f : File). bytes_eq f.name name) i (map view_file xs) found in
    rw at.1.0 (each at.0 at.1.1)
