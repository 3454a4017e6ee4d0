use Rattle.res_calls.proofs.Cited.{◌≡◌, ◌==◌, ◌&&◌, ◌||◌, ◌⊎◌, inl, inr, ℕ, zero, suc, Bool, true, false, true≢false, not, Option, Some}
use Rattle.res_calls.proofs.Cited.{None, List, [], ◌∷◌, length, refl, sym, ◌∙◌, ap, subst, arith, and_parts, eqb-true, ltb-true, not-true}
use Rattle.res_calls.proofs.Cited.{Decides-eqb, slice_get, list_all, list_any, NO_ERR, fits, content, File, OpenFile, Resources, is_at}
use Rattle.res_calls.proofs.Cited.{Managers, is_system, FilesClosed, update_code, updated_or, left_file, last_opened, first_code, leave}
use Rattle.res_calls.proofs.Cited.{leave_files, has_own, Sound, falls, update, updated_map, written, written_at, fork_of}
use Rattle.std.specs.Prelude.{nat_lt}
use Rattle.res_calls.proofs.LastOpened.{next_code, next_after, no_more, sound_left_file}
use Rattle.res_calls.proofs.Soundness.Changes.{written-at-many}
use Rattle.res_calls.proofs.Walks.Forks.{updated_files, untouched_stays}
use Rattle.res_calls.proofs.WritingAnew.{written_cons}

-- What an application that leaves leaves of its files.

-- what is kept as a file is left is kept as all are
pub leave_keeps : (P : Managers → Type 0)
    → ((f : OpenFile) (older : List OpenFile) (s : Managers) → s.resources.chain ≡ f ∷ older → is_system f ≡ false
    → P s → P (left_file (last_opened f older) s))
    → (chain : List OpenFile) (s : Managers) → s.resources.chain ≡ chain → P s → P (leave_files chain s).after
leave_keeps P each [] s is holds = holds
leave_keeps P each (f ∷ older) s is holds =
    by_number (λ own. leave_keeps P each older (left_file (last_opened f older) s) refl (each f older s is own holds))
    (is_system f) refl
  where
    by_number : (is_system f ≡ false → P (leave (left_file (last_opened f older) s)).after) → (t : Bool)
        → is_system f ≡ t → P (leave_files (f ∷ older) s).after
    by_number behind true e = subst P (sym (ap (λ (l : FilesClosed). l.after) (no_more (f ∷ older) s (ap not e)))) holds
    by_number behind false e = subst P (sym (next_after (f ∷ older) s (ap not e))) (behind e)

-- what holds of the open files
pub sound_left : (s : Managers) → Sound s.resources → Sound (leave s).after.resources
sound_left s sound = leave_keeps (λ q. Sound q.resources)
    (λ f older q is own holds. sound_left_file f older q is own holds) s.resources.chain s refl sound

-- the System's is open alone
ends : (chain : List OpenFile) (s : Managers) → s.resources.chain ≡ chain
    → has_own (leave_files chain s).after.resources.chain ≡ false
ends [] s is = ap has_own is
ends (f ∷ older) s is = by_number (ends older (left_file (last_opened f older) s) refl) (is_system f) refl
  where
    by_number : has_own (leave (left_file (last_opened f older) s)).after.resources.chain ≡ false → (t : Bool)
        → is_system f ≡ t → has_own (leave_files (f ∷ older) s).after.resources.chain ≡ false
    by_number behind true e = ap (λ (l : FilesClosed). has_own l.after.resources.chain)
        (no_more (f ∷ older) s (ap not e))
        ∙ ap has_own is ∙ ap not e
    by_number behind false e =
        ap (λ (q : Managers). has_own q.resources.chain) (next_after (f ∷ older) s (ap not e)) ∙ behind

alone : (chain : List OpenFile) → falls chain ≡ true → has_own chain ≡ false
    → (f : OpenFile) × (chain ≡ f ∷ []) × (f.number ≡ 0)
alone [] fall none = cc
alone (f ∷ []) fall none = (f, refl, eqb-true f.number 0 fall)
alone (f ∷ g ∷ older) fall none =
    let less = ltb-true g.number f.number (and_parts (nat_lt g.number f.number) (falls (g ∷ older)) fall).0 in
    let zero : f.number ≡ 0 = eqb-true f.number 0 (by_test (f.number == 0) none) in
    absurd (let no : ⊥ = omega arith in no)
  where
    by_test : (t : Bool) → not t ≡ false → t ≡ true
    by_test true e = refl
    by_test false e = absurd (true≢false e)

pub leaves_system : (s : Managers) → Sound s.resources
    → (f : OpenFile) × ((leave s).after.resources.chain ≡ f ∷ []) × (f.number ≡ 0)
leaves_system s sound =
    alone (leave s).after.resources.chain (sound_left s sound).falls (ends s.resources.chain s refl)

-- the files after one is left: as they were, or with another fork in its place if it was touched
left_files : (f : OpenFile) (older : List OpenFile) (s : Managers)
    → ((left_file (last_opened f older) s).resources.files ≡ s.resources.files)
    ⊎ ((f.touched ≡ true) × ((left_file (last_opened f older) s).resources.files
    ≡ written_at f.file (fork_of s.memory.heap f) s.resources.files))
left_files f older s = by_update (update s.memory.heap (last_opened f older) s.resources)
    (updated_files s.memory.heap (last_opened f older) s.resources)
  where
    By : Resources → Type 0
    By r = (r.files ≡ s.resources.files)
        ⊎ ((f.touched ≡ true) × (r.files ≡ written_at f.file (fork_of s.memory.heap f) s.resources.files))

    by_files : (r : Resources) → (r.files ≡ s.resources.files)
        ⊎ ((f.touched ≡ true) × (fits (content (updated_map s.memory.heap f.map)) ≡ true)
        × (r.files ≡ written_at f.file (fork_of s.memory.heap f) s.resources.files)) → By r
    by_files r (inl same) = inl same
    by_files r (inr (touched, low, wrote)) = inr (touched, wrote)

    by_update : (o : Option Resources)
        → ((r : Resources) → o ≡ Some r → (r.files ≡ s.resources.files)
        ⊎ ((f.touched ≡ true) × (fits (content (updated_map s.memory.heap f.map)) ≡ true)
        × (r.files ≡ written_at f.file (fork_of s.memory.heap f) s.resources.files)))
        → By (updated_or o s.resources)
    by_update None each = inl refl
    by_update (Some r) each = by_files r (each r refl)

-- there are as many as before
pub leaves_count : (s : Managers) → length (leave s).after.resources.files ≡ length s.resources.files
leaves_count s = leave_keeps (λ q. length q.resources.files ≡ length s.resources.files)
    (λ f older q is own same. by_files f older q (left_files f older q) ∙ same) s.resources.chain s refl refl
  where
    by_files : (f : OpenFile) (older : List OpenFile) (q : Managers)
        → ((left_file (last_opened f older) q).resources.files ≡ q.resources.files)
        ⊎ ((f.touched ≡ true) × ((left_file (last_opened f older) q).resources.files
        ≡ written_at f.file (fork_of q.memory.heap f) q.resources.files))
        → length (left_file (last_opened f older) q).resources.files ≡ length q.resources.files
    by_files f older q (inl same) = ap length same
    by_files f older q (inr (touched, wrote)) =
        ap length wrote ∙ written-at-many f.file (fork_of q.memory.heap f) q.resources.files

-- a file is as it was, or has another fork, which was written
abbrev pub SameButWritten : File → File → Type 0
SameButWritten f g = (g ≡ f) ⊎ (g ≡ record f { fork = g.fork; written = true })

alike-again : (f g h : File) → SameButWritten f g → SameButWritten g h → SameButWritten f h
alike-again f g h (inl one) (inl other) = inl (other ∙ one)
alike-again f g h (inl one) (inr other) =
    inr (other ∙ ap (λ (x : File). (let y : File = record x { fork = h.fork; written = true } in y)) one)
alike-again f g h (inr one) (inl other) = inr (other ∙ one
    ∙ ap (λ (x : File). (let y : File = record f { fork = x.fork; written = true } in y)) (sym other))
alike-again f g h (inr one) (inr other) =
    inr (other ∙ ap (λ (x : File). (let y : File = record x { fork = h.fork; written = true } in y)) one)

written_each : (j : ℕ) (fork : List ℕ) (files : List File) (i : ℕ) (f : File) → slice_get files i ≡ Some f
    → (g : File) × (slice_get (written j fork files) i ≡ Some g) × SameButWritten f g
written_each j fork [] i f e = cc
written_each zero fork (x ∷ files) zero f e = let is : x ≡ f = cc in (
  record x { fork = fork; written = true },
  refl,
  inr (ap (λ (y : File). (let z : File = record y { fork = fork; written = true } in z)) is),
)
written_each zero fork (x ∷ files) (suc i) f e = (f, e, inl refl)
written_each (suc j) fork (x ∷ files) zero f e =
    (f, ap (λ (l : List File). slice_get l zero) (written_cons j fork x files) ∙ e, inl refl)
written_each (suc j) fork (x ∷ files) (suc i) f e =
    let behind = written_each j fork files i f e in
    (behind.0, ap (λ (l : List File). slice_get l (suc i)) (written_cons j fork x files) ∙ behind.1, behind.2)

written_at_each : (o : Option ℕ) (fork : List ℕ) (files : List File) (i : ℕ) (f : File) → slice_get files i ≡ Some f
    → (g : File) × (slice_get (written_at o fork files) i ≡ Some g) × SameButWritten f g
written_at_each None fork files i f e = (f, e, inl refl)
written_at_each (Some j) fork files i f e = written_each j fork files i f e

pub leaves_alike : (s : Managers) (i : ℕ) (f : File) → slice_get s.resources.files i ≡ Some f
    → (g : File) × (slice_get (leave s).after.resources.files i ≡ Some g)
    × ((g ≡ f) ⊎ (g ≡ record f { fork = g.fork; written = true }))
leaves_alike s i f e = leave_keeps By
    (λ x older q is own holds. by_files x older q (left_files x older q) holds) s.resources.chain s refl
    (f, e, inl refl)
  where
    By : Managers → Type 0
    By q = (g : File) × (slice_get q.resources.files i ≡ Some g) × SameButWritten f g

    by_files : (x : OpenFile) (older : List OpenFile) (q : Managers)
        → ((left_file (last_opened x older) q).resources.files ≡ q.resources.files)
        ⊎ ((x.touched ≡ true) × ((left_file (last_opened x older) q).resources.files
        ≡ written_at x.file (fork_of q.memory.heap x) q.resources.files))
        → By q → By (left_file (last_opened x older) q)
    by_files x older q (inl same) (g, there, alike) =
        (g, ap (λ (l : List File). slice_get l i) same ∙ there, alike)
    by_files x older q (inr (touched, wrote)) (g, there, alike) =
        let next = written_at_each x.file (fork_of q.memory.heap x) q.resources.files i g there in
        (next.0, ap (λ (l : List File). slice_get l i) wrote ∙ next.1, alike-again f g next.0 alike next.2)

-- a file that isn't open, or not touched, is as it was
written_past : (j : ℕ) (fork : List ℕ) (files : List File) (i : ℕ) → (j ≡ i → ⊥)
    → slice_get (written j fork files) i ≡ slice_get files i
written_past j fork [] i other = refl
written_past zero fork (x ∷ files) zero other = absurd (other refl)
written_past zero fork (x ∷ files) (suc i) other = refl
written_past (suc j) fork (x ∷ files) zero other =
    ap (λ (l : List File). slice_get l zero) (written_cons j fork x files)
written_past (suc j) fork (x ∷ files) (suc i) other =
    ap (λ (l : List File). slice_get l (suc i)) (written_cons j fork x files)
    ∙ written_past j fork files i (λ e. other (ap suc e))

written_at_past : (o : Option ℕ) (fork : List ℕ) (files : List File) (i : ℕ) → is_at i o ≡ false
    → slice_get (written_at o fork files) i ≡ slice_get files i
written_at_past None fork files i other = refl
written_at_past (Some j) fork files i other = written_past j fork files i
    (λ e. true≢false (sym (same j) ∙ ap (λ (k : ℕ). j == k) e ∙ other))
  where
    same : (n : ℕ) → (n == n) ≡ true
    same n = (Decides-eqb n n).1 refl

abbrev pub is_touched_at : ℕ → OpenFile → Bool
is_touched_at i f = f.touched && is_at i f.file

pub leaves_untouched : (s : Managers) (i : ℕ)
    → list_any (λ (f : OpenFile). f.touched && is_at i f.file) s.resources.chain ≡ false
    → slice_get (leave s).after.resources.files i ≡ slice_get s.resources.files i
leaves_untouched s i none =
    (leave_keeps By (λ f older q is own holds. by_files f older q is (left_files f older q) holds)
    s.resources.chain s refl (none, refl)).1
  where
    By : Managers → Type 0
    By q = (list_any (is_touched_at i) q.resources.chain ≡ false)
        × (slice_get q.resources.files i ≡ slice_get s.resources.files i)

    parts : (a b : Bool) → (a || b) ≡ false → (a ≡ false) × (b ≡ false)
    parts true b e = absurd (true≢false e)
    parts false b e = (refl, e)

    second : (a b : Bool) → a ≡ true → (a && b) ≡ false → b ≡ false
    second true b e none = none
    second false b e none = absurd (true≢false (sym e))

    by_files : (f : OpenFile) (older : List OpenFile) (q : Managers) → q.resources.chain ≡ f ∷ older
        → ((left_file (last_opened f older) q).resources.files ≡ q.resources.files)
        ⊎ ((f.touched ≡ true) × ((left_file (last_opened f older) q).resources.files
        ≡ written_at f.file (fork_of q.memory.heap f) q.resources.files))
        → By q → By (left_file (last_opened f older) q)
    by_files f older q is wrote (quiet, there) =
        let both = parts (is_touched_at i f) (list_any (is_touched_at i) older)
        (ap (list_any (is_touched_at i)) (sym is) ∙ quiet) in
        (both.1, by_case wrote both.0 ∙ there)
      where
        by_case : ((left_file (last_opened f older) q).resources.files ≡ q.resources.files)
            ⊎ ((f.touched ≡ true) × ((left_file (last_opened f older) q).resources.files
            ≡ written_at f.file (fork_of q.memory.heap f) q.resources.files))
            → is_touched_at i f ≡ false
            → slice_get (left_file (last_opened f older) q).resources.files i ≡ slice_get q.resources.files i
        by_case (inl same) e = ap (λ (l : List File). slice_get l i) same
        by_case (inr (touched, wrote)) e = ap (λ (l : List File). slice_get l i) wrote
            ∙ written_at_past f.file (fork_of q.memory.heap f) q.resources.files i
            (second f.touched (is_at i f.file) touched e)

-- where none is touched all are, and no code is told
nothing_touched : (chain : List OpenFile) (s : Managers)
    → list_all (λ (f : OpenFile). not f.touched) chain ≡ true
    → ((leave_files chain s).code ≡ NO_ERR) × ((leave_files chain s).after.resources.files ≡ s.resources.files)
nothing_touched [] s quiet = (refl, refl)
nothing_touched (f ∷ older) s quiet =
    by_number (nothing_touched older (left_file (last_opened f older) s) each.1) (is_system f) refl
  where
    each : (not f.touched ≡ true) × (list_all (λ (f : OpenFile). not f.touched) older ≡ true)
    each = and_parts (not f.touched) (list_all (λ (f : OpenFile). not f.touched) older) quiet

    stays : update s.memory.heap (last_opened f older) s.resources ≡ Some s.resources
    stays = untouched_stays s.memory.heap (last_opened f older) s.resources (not-true f.touched each.0)

    later : Managers
    later = left_file (last_opened f older) s

    by_number : ((leave later).code ≡ NO_ERR) × ((leave later).after.resources.files ≡ later.resources.files)
        → (t : Bool) → is_system f ≡ t → ((leave_files (f ∷ older) s).code ≡ NO_ERR)
        × ((leave_files (f ∷ older) s).after.resources.files ≡ s.resources.files)
    by_number rest true e = let last = no_more (f ∷ older) s (ap not e) in (
      ap (λ (l : FilesClosed). l.code) last,
      ap (λ (l : FilesClosed). l.after.resources.files) last,
    )
    by_number rest false e = (
      next_code (f ∷ older) s (ap not e)
          ∙ ap (λ (o : Option Resources). first_code (update_code o) (leave later).code) stays ∙ rest.0,
      ap (λ (q : Managers). q.resources.files) (next_after (f ∷ older) s (ap not e)) ∙ rest.1
          ∙ ap (λ (o : Option Resources). (updated_or o s.resources).files) stays,
    )

pub leaves_nothing_touched : (s : Managers)
    → list_all (λ (f : OpenFile). not f.touched) s.resources.chain ≡ true
    → ((leave s).code ≡ NO_ERR) × ((leave s).after.resources.files ≡ s.resources.files)
leaves_nothing_touched s quiet = nothing_touched s.resources.chain s quiet
