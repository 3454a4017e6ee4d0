use Rattle.res_calls.proofs.Cited.{◌≡◌, ◌≢◌, ◌⊎◌, inl, inr, ◌<◌, ◌+◌, ℕ, Bool, true, false, true≢false, Option, Some, None, zero, suc, not}
use Rattle.res_calls.proofs.Cited.{Ok, List, [], ◌∷◌, ◌++◌, refl, sym, ◌∙◌, ap, cond, length, ◌==◌, nat_le, arith, ◌-◌, bit_and}
use Rattle.res_calls.proofs.Cited.{if◌then◌else◌, eqb-suc-zero, and-not, and_comm, and-not_self, has_bit, unchanged, NO_ERR, DISK_FULL}
use Rattle.res_calls.proofs.Cited.{DUPLICATE_FILE, PROFILE, Done, Content, IsContent, canon, clear, fits, Spells, canon_spells, spelled}
use Rattle.res_calls.proofs.Cited.{State, code_of, Split, place, replaced, Reference, Map, is_changed, stored_anew, with_attrs, with_stored}
use Rattle.res_calls.proofs.Cited.{content, map_of, File, OpenFile, Resources, file_of, file_named, Managers, Answer, done, refused}
use Rattle.res_calls.proofs.Cited.{bytes_held, updated_reference, updated_map, written, written_at, fork_of, rewritten, update, if_updated}
use Rattle.res_calls.proofs.Cited.{on_updated, on_open, closed_file, with_resources, keep_error, map_in, map_read, noting, split-whole}
use Rattle.res_calls.proofs.Cited.{most_files, new_fork, new_file, with_files, create_named, ResourceAsked, Served, telling, served}
use Rattle.res_calls.proofs.Cited.{Rewrites, Renews, Creates, Written}
use Rattle.std.proofs.Common.{bytes_eq}
use Rattle.res_calls.specs.Asked as asks
use Rattle.res_calls.proofs.Walks.Going.{all_done}
use Rattle.res_calls.proofs.Walks.Laws.{served-files}

-- What the calls that write forks do to the files.

-- the resources after an update: with the files that there were, or with those of a touched file that fits
pub updated_files : (heap : State) (at : Split OpenFile) (r after : Resources) → update heap at r ≡ Some after
    → (after.files ≡ r.files) ⊎ ((at.here.touched ≡ true) × (fits (content (updated_map heap at.here.map)) ≡ true)
    × (after.files ≡ written_at at.here.file (fork_of heap at.here) r.files))
updated_files heap at r after is = by_tests at.here.touched refl (fits (content (updated_map heap at.here.map))) refl is
  where
    by_tests : (t : Bool) → at.here.touched ≡ t → (f : Bool)
        → fits (content (updated_map heap at.here.map)) ≡ f
        → cond t (cond f (Some (rewritten heap at r)) None) (Some r) ≡ Some after
        → (after.files ≡ r.files) ⊎ ((at.here.touched ≡ true)
        × (fits (content (updated_map heap at.here.map)) ≡ true)
        × (after.files ≡ written_at at.here.file (fork_of heap at.here) r.files))
    by_tests true touched true low e =
        let same : rewritten heap at r ≡ after = cc in
        inr (touched, low, ap (λ (x : Resources). x.files) (sym same))
    by_tests true touched false low e = cc
    by_tests false touched f low e = let same : r ≡ after = cc in inl (ap (λ (x : Resources). x.files) (sym same))

-- a call that updates an open file first
updating_files : (n : ℕ) (s : Managers) (system : Answer (Unit {0}))
    (answer : Split OpenFile → Resources → Answer (Unit {0}))
    → system.after.resources.files ≡ s.resources.files
    → ((at : Split OpenFile) (r : Resources) → (answer at r).after.resources.files ≡ r.files)
    → (o : Option (Split OpenFile)) → file_of n s.resources ≡ o → (own : Bool) → (n == 0) ≡ own
    → let files : List File =
    (on_open o s (λ at. cond own system (on_updated at s (answer at)))).after.resources.files in
    (files ≡ s.resources.files) ⊎ Rewrites n s files
updating_files n s system answer stays keeps None found own is = inl refl
updating_files n s system answer stays keeps (Some at) found true is = inl stays
updating_files n s system answer stays keeps (Some at) found false is =
    by_update (update s.memory.heap at s.resources) refl
  where
    different : n ≢ 0
    different e = true≢false (ap (λ (k : ℕ). k == 0) (sym e) ∙ is)

    by_update : (o : Option Resources) → update s.memory.heap at s.resources ≡ o
        → let files : List File = (if_updated o s (answer at)).after.resources.files in
        (files ≡ s.resources.files) ⊎ Rewrites n s files
    by_update None e = inl refl
    by_update (Some r) e = by_files (updated_files s.memory.heap at s.resources r e)
      where
        by_files : (r.files ≡ s.resources.files)
            ⊎ ((at.here.touched ≡ true) × (fits (content (updated_map s.memory.heap at.here.map)) ≡ true)
            × (r.files ≡ written_at at.here.file (fork_of s.memory.heap at.here) s.resources.files))
            → ((answer at r).after.resources.files ≡ s.resources.files)
            ⊎ Rewrites n s (answer at r).after.resources.files
        by_files (inl same) = inl (keeps at r ∙ same)
        by_files (inr (touched, low, same)) = inr (at, found, different, touched, low, keeps at r ∙ same)

-- UpdateResFile and CloseResFile leave the files, or write the fork of the file that they update
pub update_writes_fork : (n : ℕ) (s : Managers)
    → ((served (asks.UpdateResFile n) s).after.resources.files ≡ s.resources.files)
    ⊎ Rewrites n s (served (asks.UpdateResFile n) s).after.resources.files
update_writes_fork n s = updating_files n s (done tt s) (λ at r. done tt (with_resources r s)) refl (λ at r. refl)
    (file_of n s.resources) refl (n == 0) refl

pub close_writes_fork : (n : ℕ) (s : Managers)
    → ((served (asks.CloseResFile n) s).after.resources.files ≡ s.resources.files)
    ⊎ Rewrites n s (served (asks.CloseResFile n) s).after.resources.files
close_writes_fork n s = updating_files n s (refused PROFILE s) (λ at r. done tt (closed_file at r s)) refl
    (λ at r. refl) (file_of n s.resources) refl (n == 0) refl

-- an update of an untouched file, and of the System's, only notes its code
pub untouched_stays : (heap : State) (at : Split OpenFile) (r : Resources) → at.here.touched ≡ false
    → update heap at r ≡ Some r
untouched_stays heap at r untouched =
    ap (λ (t : Bool). cond t (cond (fits (content (updated_map heap at.here.map))) (Some (rewritten heap at r)) None)
    (Some r)) untouched

-- what an update of what was found tells, and what it leaves
abbrev updating : Managers → Bool → Split OpenFile → Answer (Unit {0})
updating s system at =
    if system then done all_done s else on_updated at s (λ r. done all_done (with_resources r s))

abbrev told_update : ℕ → Managers → Option (Split OpenFile) → Served
told_update n s o = telling (λ x. Done) (noting (λ (m : Managers). on_open o m (updating m (n == 0))) s)

abbrev only_noted : Managers → Served
only_noted s = record { told = Done; reads = []; reading = None; after = keep_error NO_ERR s }

pub update_untouched : (n : ℕ) (s : Managers) (at : Split OpenFile) → file_of n s.resources ≡ Some at
    → at.here.touched ≡ false
    → served (asks.UpdateResFile n) s
    ≡ record { told = Done; reads = []; reading = None; after = keep_error NO_ERR s }
update_untouched n s at found untouched = ap (told_update n s) found ∙ by_number (n == 0)
  where
    by_answer : Answer (Unit {0}) → Served
    by_answer a = telling (λ x. Done) (record a { after = keep_error (code_of a.reply) a.after })

    by_number : (t : Bool) → by_answer (updating s t at) ≡ only_noted s
    by_number true = refl
    by_number false =
        ap (λ (o : Option Resources). by_answer (if_updated o s (λ r. done all_done (with_resources r s))))
        (untouched_stays s.memory.heap at s.resources untouched)

-- an item in its place, with another fork
written_here : (before : List File) (x : File) (fork : List ℕ) (after : List File)
    → written (length before) fork (before ++ x ∷ after)
    ≡ before ++ record x { fork = fork; written = true } ∷ after
written_here [] x fork after = refl
written_here (f ∷ before) x fork after =
    ap (λ (t : Bool). cond t (record f { fork = fork; written = true } ∷ before ++ x ∷ after)
    (f ∷ written (suc (length before) - 1) fork (before ++ x ∷ after))) (eqb-suc-zero (length before))
    ∙ ap (λ (i : ℕ). f ∷ written i fork (before ++ x ∷ after)) less
    ∙ ap (λ (files : List File). f ∷ files) (written_here before x fork after)
  where
    less : suc (length before) - 1 ≡ length before
    less = omega arith

-- CreateResFile leaves the files, or puts a new fork in the place of one of no bytes, or a new file behind the others
pub create_makes_file : (name : List ℕ) (s : Managers)
    → ((served (asks.CreateResFile name) s).after.resources.files ≡ s.resources.files)
    ⊎ (Renews name s (served (asks.CreateResFile name) s).after.resources.files
    ⊎ Creates name s (served (asks.CreateResFile name) s).after.resources.files)
create_makes_file name s = by_file (file_named name s.resources) refl
  where
    By : List File → Type 0
    By files = (files ≡ s.resources.files) ⊎ (Renews name s files ⊎ Creates name s files)

    by_file : (o : Option (Split File)) → file_named name s.resources ≡ o
        → By (create_named name o s).after.resources.files
    by_file None none = by_count (nat_le most_files (length s.resources.files))
      where
        by_count : (full : Bool) → By (cond full (refused {T = Unit {0}} DISK_FULL s)
            (done tt (with_files (s.resources.files ++ new_file name ∷ []) s))).after.resources.files
        by_count true = inl refl
        by_count false = inr (inr (none, refl))
    by_file (Some at) found = by_fork at.here.fork refl
      where
        whole : replaced at.here at ≡ s.resources.files
        whole = split-whole (λ f. bytes_eq f.name name) s.resources.files at found

        by_fork : (fork : List ℕ) → at.here.fork ≡ fork → By (cond (length fork == 0)
            (done tt (with_files (written (place at) new_fork s.resources.files) s))
            (refused {T = Unit {0}} DUPLICATE_FILE s)).after.resources.files
        by_fork [] empty = inr (inl (
          at,
          found,
          empty,
          ap (λ (files : List File). written (place at) new_fork files) (sym whole)
              ∙ written_here at.before at.here new_fork at.after,
        ))
        by_fork (b ∷ fork) some = inl (ap (λ (t : Bool). (cond t
            (done tt (with_files (written (place at) new_fork s.resources.files) s))
            (refused {T = Unit {0}} DUPLICATE_FILE s)).after.resources.files) (eqb-suc-zero (length fork)))

-- an attribute byte without resChanged
pub unchanged_same : (a : ℕ) → a < 256 → has_bit 2 a ≡ false → unchanged a ≡ a
unchanged_same a low unset =
    let parts : bit_and 253 a + bit_and 2 a ≡ a = and-not 8 2 a (omega arith) (omega arith) in
    let none : bit_and a 2 ≡ 0 = is_zero (bit_and a 2) unset in
    let none2 : bit_and 2 a ≡ 0 = and_comm 2 a ∙ none in
    let turned : bit_and a 253 ≡ bit_and 253 a = and_comm a 253 in
    omega arith
  where
    is_zero : (n : ℕ) → not (n == 0) ≡ false → n ≡ 0
    is_zero zero e = refl
    is_zero (suc n) e = absurd (true≢false (sym (ap not (eqb-suc-zero n)) ∙ e))

-- a reference that isn't changed is left by an update
pub unchanged_reference_stays : (heap : State) (r : Reference) → r.stored.attrs < 256 → is_changed r ≡ false
    → updated_reference heap r ≡ r
unchanged_reference_stays heap r low unset =
    ap (λ (t : Bool). stored_anew (cond t (bytes_held r.handle heap) None) r) unset
    ∙ ap (λ (a : ℕ). with_attrs a r) (unchanged_same r.stored.attrs low unset)

pub emptied_reference_keeps : (heap : State) (r : Reference) → bytes_held r.handle heap ≡ None
    → (updated_reference heap r).stored.datum ≡ r.stored.datum
emptied_reference_keeps heap r none = by_bit (is_changed r)
  where
    by_bit : (t : Bool) → (stored_anew (cond t (bytes_held r.handle heap) None) r).stored.datum ≡ r.stored.datum
    by_bit true = ap (λ (o : Option (List ℕ)). (stored_anew o r).stored.datum) none
    by_bit false = refl

-- the canonical fork of what a map holds is read again
pub spelled_is_read : (fork : List ℕ) (c : Content) → Spells fork c → map_in fork ≡ Ok (map_of c)
spelled_is_read fork c spells = ap map_read (spelled fork c spells)

pub canon_is_read : (m : Map) → IsContent (content m) → fits (content m) ≡ true
    → map_in (canon (content m)) ≡ Ok (map_of (clear (content m)))
canon_is_read m is low = spelled_is_read (canon (content m)) (clear (content m)) (canon_spells (content m) is low)

pub fork_is_read : (heap : State) (f : OpenFile) → IsContent (content (updated_map heap f.map))
    → fits (content (updated_map heap f.map)) ≡ true
    → map_in (fork_of heap f) ≡ Ok (map_of (clear (content (updated_map heap f.map))))
fork_is_read heap f is low = canon_is_read (updated_map heap f.map) is low

-- a call leaves the files, or writes the fork of a file that it updates, or makes a file
pub files_by_call : (a : ResourceAsked) (s : Managers) → Written a s (served a s).after.resources.files
files_by_call (asks.UpdateResFile n) s = update_writes_fork n s
files_by_call (asks.CloseResFile n) s = close_writes_fork n s
files_by_call (asks.CreateResFile name) s = create_makes_file name s
files_by_call a s = served-files a s refl
