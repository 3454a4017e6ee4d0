use Rattle.desk.proofs.Cited.{◌≡◌, ◌≢◌, ℕ, ◌+◌, ◌<◌, ◌++◌, List, [], length, map, drop, slice_index_or, sym, ◌∙◌}
use Rattle.desk.proofs.Cited.{append_assoc, ap, arith, nil_from_length, length-append, at_drop_more, flat_map, view_file, Extends}
use Rattle.desk.proofs.Cited.{AppOutcome, fork_told, forks_told, forks_of, told_seen}
use Rattle.res_calls.specs.declared.files.File.{File as StoredFile}

-- The lines of forks that were written: what is written so far, followed by the rest, is the whole.

pub files_next : (text name : List ℕ) (files : List StoredFile) (i : ℕ) (f : StoredFile) → i < length files
    → text ++ forks_told name i (map view_file (drop i files))
    ≡ (text ++ fork_told name i (view_file (slice_index_or files i f)))
    ++ forks_told name (i + 1) (map view_file (drop (i + 1) files))
files_next text name files i f less =
    at_drop_more (λ (fs : List StoredFile). text ++ forks_told name i (map view_file fs)) files i f less
    ∙ sym (append_assoc text (fork_told name i (view_file (slice_index_or files i f)))
    (forks_told name (i + 1) (map view_file (drop (i + 1) files))))

pub apps_next : (text : List ℕ) (apps : List AppOutcome) (i : ℕ) (a : AppOutcome) → i < length apps
    → text ++ flat_map forks_of (map told_seen (drop i apps))
    ≡ (text ++ forks_of (told_seen (slice_index_or apps i a)))
    ++ flat_map forks_of (map told_seen (drop (i + 1) apps))
apps_next text apps i a less =
    at_drop_more (λ (xs : List AppOutcome). text ++ flat_map forks_of (map told_seen xs)) apps i a less
    ∙ sym (append_assoc text (forks_of (told_seen (slice_index_or apps i a)))
    (flat_map forks_of (map told_seen (drop (i + 1) apps))))

-- A fork that was written has a line.

-- where a line is still to come, there are lines
pub still-lines : (text old item rest all : List ℕ) → (text ++ item) ++ rest ≡ old ++ all → Extends old text → item ≢ []
    → all ≢ []
still-lines text old item rest all is front some none = some (nil_from_length item (
    let same = sym (length-append (text ++ item) rest) ∙ ap (λ (xs : List ℕ). length xs) is ∙ length-append old all in
    let first = length-append text item in
    let long = ap (λ (xs : List ℕ). length xs) front.1 ∙ length-append old front.0 in
    let empty : length all ≡ 0 = ap (λ (xs : List ℕ). length xs) none in
    omega (arith, same, first, long, empty)))
