use Rattle.res_calls.proofs.Cited.{◌≡◌, ◌<◌, ◌≤◌, ℕ, zero, suc, Bool, List, [], ◌∷◌, ◌++◌, map, length, get_or, refl, sym, ◌∙◌, ap, arith}
use Rattle.res_calls.proofs.Cited.{Option, Some, slice_set, option_to_list, length-map, Replaced, File, Resources, Sound, given_back}
use Rattle.res_calls.proofs.Cited.{put_back, undone, view_file}
use Rattle.res_calls.specs.declared.files.File.{File as StoredFile}
use Rattle.res_calls.proofs.Soundness.Changes.{sound-files}

-- The forks that updates replaced are put back.

-- what was replaced first, and what was replaced behind it
pub undone-append : (front back : List Replaced) (files : List File)
    → undone (front ++ back) files ≡ undone front (undone back files)
undone-append [] back files = refl
undone-append (u ∷ front) back files = ap (put_back u) (undone-append front back files)

-- there are as many files
given-many : (i : ℕ) (fork : List ℕ) (mark : Bool) (files : List File)
    → length (given_back i fork mark files) ≡ length files
given-many i fork mark [] = refl
given-many zero fork mark (f ∷ files) = refl
given-many (suc i) fork mark (f ∷ files) = ap suc (given-many i fork mark files)

undone-many : (undo : List Replaced) (files : List File) → length (undone undo files) ≡ length files
undone-many [] files = refl
undone-many (u ∷ undo) files =
    given-many u.place u.fork.items u.written (undone undo files) ∙ undone-many undo files

-- what holds of the open files
pub sound_undone : (r : Resources) (undo : List Replaced) (files : List File) → files ≡ undone undo r.files → Sound r
    → Sound (record r { files = files })
sound_undone r undo files is sound =
    let many : length r.files ≤ length files = omega (arith, ap length is, undone-many undo r.files) in
    sound-files r files many sound

-- a fork is put into its place, if there is such a place
pub put_here : (fork : List ℕ) (mark : Bool) (xs : List StoredFile) (i : ℕ) (d y : StoredFile) → i < length xs
    → d ≡ get_or xs i d → view_file y ≡ record (view_file d) { fork = fork; written = mark }
    → map view_file (slice_set xs i y) ≡ given_back i fork mark (map view_file xs)
put_here fork mark [] i d y inside is put = absurd (let no : ⊥ = omega arith in no)
put_here fork mark (x ∷ xs) zero d y inside is put =
    ap (λ f. f ∷ map view_file xs)
    (put ∙ ap (λ (z : StoredFile). (let f : File = record (view_file z) { fork = fork; written = mark } in f)) is)
put_here fork mark (x ∷ xs) (suc i) d y inside is put =
    ap (λ l. view_file x ∷ l) (put_here fork mark xs i d y (omega arith) is put)

past : (fork : List ℕ) (mark : Bool) (files : List File) (i : ℕ) → length files ≤ i
    → files ≡ given_back i fork mark files
past fork mark [] i none = refl
past fork mark (f ∷ files) zero none = absurd (let no : ⊥ = omega arith in no)
past fork mark (f ∷ files) (suc i) none = ap (λ l. f ∷ l) (past fork mark files i (omega arith))

pub put_past : (fork : List ℕ) (mark : Bool) (xs : List StoredFile) (i : ℕ) → length xs ≤ i
    → map view_file xs ≡ given_back i fork mark (map view_file xs)
put_past fork mark xs i none =
    let many : length (map view_file xs) ≡ length xs = length-map xs view_file in
    past fork mark (map view_file xs) i (omega (arith, none, many))

-- a fork that was replaced, and is put back
pub back_again : (fork : List ℕ) (mark : Bool) (xs : List StoredFile) (i : ℕ) (d y : StoredFile) → i < length xs
    → d ≡ get_or xs i d → view_file d ≡ record (view_file y) { fork = fork; written = mark }
    → given_back i fork mark (map view_file (slice_set xs i y)) ≡ map view_file xs
back_again fork mark [] i d y inside is put = absurd (let no : ⊥ = omega arith in no)
back_again fork mark (x ∷ xs) zero d y inside is put =
    ap (λ f. f ∷ map view_file xs) (sym put ∙ ap view_file is)
back_again fork mark (x ∷ xs) (suc i) d y inside is put =
    ap (λ l. view_file x ∷ l) (back_again fork mark xs i d y (omega arith) is put)

-- the last is put back, and then the others
pub restored_next : (undo rest : List Replaced) (o : Option Replaced) (u : Replaced) (files later before : List File)
    → undo ≡ rest ++ option_to_list o → o ≡ Some u → later ≡ put_back u files → undone undo files ≡ before
    → undone rest later ≡ before
restored_next undo rest o u files later before popped is put so =
    ap (undone rest) put ∙ sym (undone-append rest (u ∷ []) files)
    ∙ ap (λ l. undone l files) (sym (popped ∙ ap (λ p. rest ++ option_to_list p) is)) ∙ so

-- what an update replaced is kept behind the rest
pub kept_next : (undo more : List Replaced) (o : Option Replaced) (old new : List File)
    → more ≡ undo ++ option_to_list o → undone (option_to_list o) new ≡ old → undone more new ≡ undone undo old
kept_next undo more o old new kept is =
    ap (λ l. undone l new) kept ∙ undone-append undo (option_to_list o) new ∙ ap (undone undo) is
