-- Storing purged blocks stores of each changed resource that is not protected the bytes of its own handle's block, where
-- it is among them.
use Rattle.res_calls.proofs.Cited.{◌≡◌, ℕ, ◌+◌, ◌≤◌, ◌==◌, Bool, true, false, cond, List, [], ◌∷◌, ◌++◌, map, Option, Some, None, refl, sym}
use Rattle.res_calls.proofs.Cited.{◌∙◌, ap, arith, count_by, sum_by-cons, sum_by-append, Gone, told_of, option_or, Split, split, replaced}
use Rattle.res_calls.proofs.Cited.{behind, Reference, is_handle, has_handle, stored_anew, flips, is_to_write, OpenFile, Resources, Found}
use Rattle.res_calls.proofs.Cited.{find, find_open, found_in, found_behind, with_reference, references, stored_found, stored_gone}
use Rattle.res_calls.proofs.Cited.{stored_first, stored_of, stored_by, file_stored, all_stored}
use Rattle.std.specs.Option.{option_map}
use Rattle.res_calls.proofs.Owning.Places.{Stands, same-there, find-finds}
use Rattle.res_calls.proofs.StoringChanged.{stored-unchanged}
use Rattle.res_calls.proofs.ToldGone.Filled.{told-append}

-- no two references have one handle
abbrev pub Apart : List OpenFile → Type 0
Apart chain = (h : ℕ) → count_by (has_handle h) (references chain) ≤ 1

-- what is stored first, and then
unwritten : (bytes : List (List ℕ)) (x : Reference) → is_to_write x ≡ false → stored_first bytes x ≡ x
unwritten [] x kept = refl
unwritten (b ∷ bytes) x kept = rw kept refl

then-first : (first later : List (List ℕ)) (x : Reference)
    → stored_first later (stored_first first x) ≡ stored_first (first ++ later) x
then-first [] later x = refl
then-first (b ∷ first) later x = by_test (is_to_write x) refl
  where
    by_test : (t : Bool) → is_to_write x ≡ t
        → stored_first later (cond t (stored_anew (Some b) x) x) ≡ cond t (stored_anew (Some b) x) x
    by_test true e = unwritten later (stored_anew (Some b) x) (stored-unchanged b x)
    by_test false e = unwritten later x e

first-handle : (bytes : List (List ℕ)) (x : Reference) → (stored_first bytes x).handle ≡ x.handle
first-handle [] x = refl
first-handle (b ∷ bytes) x = by_test (is_to_write x)
  where
    by_test : (t : Bool) → (cond t (stored_anew (Some b) x) x).handle ≡ x.handle
    by_test true = refl
    by_test false = refl

of-handle : (gone : List Gone) (o : Option ℕ) (x : Reference) → (stored_of gone o x).handle ≡ x.handle
of-handle gone None x = refl
of-handle gone (Some h) x = first-handle (told_of h gone) x

then-of : (g : Gone) (gone : List Gone) (o : Option ℕ) (x : Reference)
    → stored_of gone o (stored_of (g ∷ []) o x) ≡ stored_of (g ∷ gone) o x
then-of g gone None x = refl
then-of g gone (Some h) x = then-first (told_of h (g ∷ [])) (told_of h gone) x
    ∙ ap (λ (l : List (List ℕ)). stored_first l x) (sym (told-append h (g ∷ []) gone))

then-by : (g : Gone) (gone : List Gone) (x : Reference) → stored_by gone (stored_by (g ∷ []) x) ≡ stored_by (g ∷ gone) x
then-by g gone x = ap (λ (o : Option ℕ). stored_of gone o (stored_by (g ∷ []) x)) (of-handle (g ∷ []) x.handle x)
    ∙ then-of g gone x.handle x

then-references : (g : Gone) (gone : List Gone) (xs : List Reference)
    → map (stored_by gone) (map (stored_by (g ∷ [])) xs) ≡ map (stored_by (g ∷ gone)) xs
then-references g gone [] = refl
then-references g gone (x ∷ xs) =
    ap (λ (y : Reference). y ∷ map (stored_by gone) (map (stored_by (g ∷ [])) xs)) (then-by g gone x)
    ∙ ap (λ (ys : List Reference). stored_by (g ∷ gone) x ∷ ys) (then-references g gone xs)

-- a file with other references
abbrev pub with_references : OpenFile → List Reference → OpenFile
with_references f xs = record f { map = record f.map { references = xs } }

then-files : (g : Gone) (gone : List Gone) (chain : List OpenFile)
    → map (file_stored gone) (map (file_stored (g ∷ [])) chain) ≡ map (file_stored (g ∷ gone)) chain
then-files g gone [] = refl
then-files g gone (f ∷ chain) =
    ap (λ (xs : List Reference). with_references f xs ∷ map (file_stored gone) (map (file_stored (g ∷ [])) chain))
    (then-references g gone f.map.references)
    ∙ ap (λ (fs : List OpenFile). file_stored (g ∷ gone) f ∷ fs) (then-files g gone chain)

-- nothing is stored where there is nothing to store
none-of : (o : Option ℕ) (x : Reference) → stored_of [] o x ≡ x
none-of None x = refl
none-of (Some h) x = refl

none-references : (xs : List Reference) → map (stored_by []) xs ≡ xs
none-references [] = refl
none-references (x ∷ xs) = ap (λ (y : Reference). y ∷ map (stored_by []) xs) (none-of x.handle x)
    ∙ ap (λ (ys : List Reference). x ∷ ys) (none-references xs)

none-files : (chain : List OpenFile) → map (file_stored []) chain ≡ chain
none-files [] = refl
none-files (f ∷ chain) =
    ap (λ (xs : List Reference). with_references f xs ∷ map (file_stored []) chain) (none-references f.map.references)
    ∙ ap (λ (fs : List OpenFile). f ∷ fs) (none-files chain)

-- of one block: the reference that has its handle, and others
abbrev anew : Gone → Reference → Reference
anew g x = cond (is_to_write x) (stored_anew (Some g.1) x) x

one-of : (g : Gone) (o : Option ℕ) (x : Reference) → stored_of (g ∷ []) o x ≡ cond (is_handle g.0 o) (anew g x) x
one-of g None x = refl
one-of g (Some h) x = by_test (g.0 == h) (h == g.0) (flips g.0 h)
  where
    by_test : (t u : Bool) → t ≡ u → stored_first (cond t (g.1 ∷ []) []) x ≡ cond u (anew g x) x
    by_test true true e = refl
    by_test false false e = refl
    by_test true false e = cc
    by_test false true e = cc

one-by : (g : Gone) (x : Reference) (t : Bool) → has_handle g.0 x ≡ t → stored_by (g ∷ []) x ≡ cond t (anew g x) x
one-by g x t e = one-of g x.handle x ∙ ap (λ (u : Bool). cond u (anew g x) x) e

-- how many there are
count-next : (h : ℕ) (x : Reference) (xs : List Reference)
    → count_by (has_handle h) (x ∷ xs) ≡ cond {A = ℕ} (has_handle h x) 1 0 + count_by (has_handle h) xs
count-next h x xs = sum_by-cons (λ (y : Reference). cond {A = ℕ} (has_handle h y) 1 0) x xs

count-more : (h : ℕ) (xs ys : List Reference)
    → count_by (has_handle h) (xs ++ ys) ≡ count_by (has_handle h) xs + count_by (has_handle h) ys
count-more h xs ys = sum_by-append (λ (y : Reference). cond {A = ℕ} (has_handle h y) 1 0) xs ys

counted : (g : Gone) (x : Reference) (xs : List Reference) (t : Bool) → has_handle g.0 x ≡ t
    → count_by (has_handle g.0) (x ∷ xs) ≡ cond {A = ℕ} t 1 0 + count_by (has_handle g.0) xs
counted g x xs t e = count-next g.0 x xs
    ∙ ap {B = ℕ} (λ (u : Bool). cond {A = ℕ} u 1 0 + count_by (has_handle g.0) xs) e

others : (g : Gone) (xs : List Reference) → count_by (has_handle g.0) xs ≤ 0 → map (stored_by (g ∷ [])) xs ≡ xs
others g [] none = refl
others g (x ∷ xs) none = by_test (has_handle g.0 x) refl (λ less. others g xs less)
  where
    by_test : (t : Bool) → has_handle g.0 x ≡ t
        → (count_by (has_handle g.0) xs ≤ 0 → map (stored_by (g ∷ [])) xs ≡ xs)
        → stored_by (g ∷ []) x ∷ map (stored_by (g ∷ [])) xs ≡ x ∷ xs
    by_test true e rest = absurd (omega (arith, counted g x xs true e))
    by_test false e rest = ap (λ (y : Reference). y ∷ map (stored_by (g ∷ [])) xs) (one-by g x false e)
        ∙ ap (λ (ys : List Reference). x ∷ ys) (rest (omega (arith, counted g x xs false e)))

-- in a file
abbrev InFile : Gone → List Reference → Option (Split Reference) → Type 0
InFile g xs None = (map (stored_by (g ∷ [])) xs ≡ xs) × (count_by (has_handle g.0) xs ≤ 0)
InFile g xs (Some at) =
    (map (stored_by (g ∷ [])) xs ≡ replaced (anew g at.here) at) × (1 ≤ count_by (has_handle g.0) xs)

not-first : (g : Gone) (x : Reference) (xs : List Reference) → has_handle g.0 x ≡ false
    → (o : Option (Split Reference)) → InFile g xs o → InFile g (x ∷ xs) (option_map (behind x) o)
not-first g x xs e None rest = (
  ap (λ (y : Reference). y ∷ map (stored_by (g ∷ [])) xs) (one-by g x false e)
      ∙ ap (λ (ys : List Reference). x ∷ ys) rest.0,
  let r = rest.1 in omega (arith, counted g x xs false e),
)
not-first g x xs e (Some at) rest = (
  ap (λ (y : Reference). y ∷ map (stored_by (g ∷ [])) xs) (one-by g x false e)
      ∙ ap (λ (ys : List Reference). x ∷ ys) rest.0,
  let r = rest.1 in omega (arith, counted g x xs false e),
)

in-file : (g : Gone) (xs : List Reference) → count_by (has_handle g.0) xs ≤ 1
    → InFile g xs (split (has_handle g.0) xs)
in-file g [] few = (refl, omega arith)
in-file g (x ∷ xs) few = by_test (has_handle g.0 x) refl (λ less. in-file g xs less)
  where
    by_test : (t : Bool) → has_handle g.0 x ≡ t
        → (count_by (has_handle g.0) xs ≤ 1 → InFile g xs (split (has_handle g.0) xs))
        → InFile g (x ∷ xs) (cond t (Some (record { before = []; here = x; after = xs }))
        (option_map (behind x) (split (has_handle g.0) xs)))
    by_test true e rest = (
      ap (λ (y : Reference). y ∷ map (stored_by (g ∷ [])) xs) (one-by g x true e)
          ∙ ap (λ (ys : List Reference). anew g x ∷ ys) (others g xs (omega (arith, counted g x xs true e))),
      omega (arith, counted g x xs true e),
    )
    by_test false e rest = not-first g x xs e (split (has_handle g.0) xs) (rest (omega (arith, counted g x xs false e)))

-- in the open files
other-files : (g : Gone) (chain : List OpenFile) → count_by (has_handle g.0) (references chain) ≤ 0
    → map (file_stored (g ∷ [])) chain ≡ chain
other-files g [] none = refl
other-files g (f ∷ chain) none =
    let both = count-more g.0 f.map.references (references chain) in
    ap (λ (xs : List Reference). with_references f xs ∷ map (file_stored (g ∷ [])) chain)
    (others g f.map.references (omega (arith, both)))
    ∙ ap (λ (fs : List OpenFile). f ∷ fs) (other-files g chain (omega (arith, both)))

abbrev InFiles : Gone → List OpenFile → Option Found → Type 0
InFiles g chain None = map (file_stored (g ∷ [])) chain ≡ chain
InFiles g chain (Some at) = map (file_stored (g ∷ [])) chain ≡ with_reference (anew g at.reference.here) at

later-file : (g : Gone) (f : OpenFile) (chain : List OpenFile) → file_stored (g ∷ []) f ≡ f → (o : Option Found)
    → InFiles g chain o → InFiles g (f ∷ chain) (option_map (found_behind f) o)
later-file g f chain same None rest = ap (λ (h : OpenFile). h ∷ map (file_stored (g ∷ [])) chain) same
    ∙ ap (λ (fs : List OpenFile). f ∷ fs) rest
later-file g f chain same (Some at) rest = ap (λ (h : OpenFile). h ∷ map (file_stored (g ∷ [])) chain) same
    ∙ ap (λ (fs : List OpenFile). f ∷ fs) rest

in-files : (g : Gone) (chain : List OpenFile) → count_by (has_handle g.0) (references chain) ≤ 1
    → InFiles g chain (find (λ f. true) (has_handle g.0) chain)
in-files g [] few = refl
in-files g (f ∷ chain) few =
    by_file (split test f.map.references) (in-file g f.map.references (omega (arith, both)))
    (λ less. in-files g chain less)
  where
    test : Reference → Bool
    test = has_handle g.0

    both : count_by test (f.map.references ++ references chain)
        ≡ count_by test f.map.references + count_by test (references chain)
    both = count-more g.0 f.map.references (references chain)

    by_file : (o : Option (Split Reference)) → InFile g f.map.references o
        → (count_by test (references chain) ≤ 1 → InFiles g chain (find (λ f. true) test chain))
        → InFiles g (f ∷ chain) (option_or (option_map (found_in f chain) o)
        (option_map (found_behind f) (find (λ f. true) test chain)))
    by_file None here rest = later-file g f chain (ap (with_references f) here.0) (find (λ f. true) test chain)
        (rest (omega (arith, both)))
    by_file (Some at) here rest =
        let some = here.1 in
        ap (λ (xs : List Reference). with_references f xs ∷ map (file_stored (g ∷ [])) chain) here.0
        ∙ ap (λ (fs : List OpenFile). with_references f (replaced (anew g at.here) at) ∷ fs)
        (other-files g chain (omega (arith, both)))

-- of one block
one-all : (g : Gone) (r : Resources) → Apart r.chain
    → stored_found (find_open (has_handle g.0) r) g.1 r ≡ all_stored (g ∷ []) r
one-all g r apart = by_found (find_open (has_handle g.0) r) refl (in-files g r.chain (apart g.0))
  where
    by_found : (o : Option Found) → find_open (has_handle g.0) r ≡ o → InFiles g r.chain o
        → stored_found o g.1 r ≡ all_stored (g ∷ []) r
    by_found None e same = ap (λ (chain : List OpenFile). record r { chain = chain }) (sym same)
    by_found (Some at) e is = by_test (is_to_write at.reference.here) refl
        ∙ ap (λ (chain : List OpenFile). record r { chain = chain }) (sym is)
      where
        found : Stands r.chain at
        found = (find-finds (λ f. true) (has_handle g.0) r.chain at e).0

        by_test : (t : Bool) → is_to_write at.reference.here ≡ t
            → cond t (record r { chain = with_reference (stored_anew (Some g.1) at.reference.here) at }) r
            ≡ record r { chain = with_reference (cond t (stored_anew (Some g.1) at.reference.here) at.reference.here) at }
        by_test true e = refl
        by_test false e = ap (λ (chain : List OpenFile). record r { chain = chain }) (sym (same-there r.chain at found))

-- the handles stay
count-stored : (gone : List Gone) (h : ℕ) (xs : List Reference)
    → count_by (has_handle h) (map (stored_by gone) xs) ≡ count_by (has_handle h) xs
count-stored gone h [] = refl
count-stored gone h (x ∷ xs) =
    let same = ap {B = ℕ} (λ (o : Option ℕ). cond {A = ℕ} (is_handle h o) 1 0) (of-handle gone x.handle x) in
    omega (
      arith,
      same,
      count-next h x xs,
      count-next h (stored_by gone x) (map (stored_by gone) xs),
      count-stored gone h xs,
    )

count-all : (gone : List Gone) (h : ℕ) (chain : List OpenFile)
    → count_by (has_handle h) (references (map (file_stored gone) chain)) ≡ count_by (has_handle h) (references chain)
count-all gone h [] = refl
count-all gone h (f ∷ chain) =
    omega (
      arith,
      count-more h (map (stored_by gone) f.map.references) (references (map (file_stored gone) chain)),
      count-more h f.map.references (references chain),
      count-stored gone h f.map.references,
      count-all gone h chain,
    )

apart-stored : (gone : List Gone) (chain : List OpenFile) → Apart chain → Apart (map (file_stored gone) chain)
apart-stored gone chain apart h = let a = apart h in omega (arith, count-all gone h chain)

-- of all
pub stores-all : (gone : List Gone) (r : Resources) → Apart r.chain → stored_gone gone r ≡ all_stored gone r
stores-all [] r apart = ap (λ (chain : List OpenFile). record r { chain = chain }) (sym (none-files r.chain))
stores-all (g ∷ gone) r apart =
    let one : stored_found (find_open (has_handle g.0) r) g.1 r ≡ all_stored (g ∷ []) r = one-all g r apart in
    ap (stored_gone gone) one
    ∙ stores-all gone (all_stored (g ∷ []) r) (apart-stored (g ∷ []) r.chain apart)
    ∙ ap (λ (chain : List OpenFile). record r { chain = chain }) (then-files g gone r.chain)
