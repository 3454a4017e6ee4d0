use Rattle.fork_commands.proofs.Cited.{◌≡◌, ◌∷◌, ◌∙◌, ℕ, ℤ, Bool, true, false, List, [], None, Some, Result, Ok, Err, IfOk, IfErr, refl}
use Rattle.fork_commands.proofs.Cited.{sym, ap, subst, map, length, arith, not, ◌==◌, if◌then◌else◌, ne_eqb, Decides-int_eq, int_eq}
use Rattle.fork_commands.proofs.Cited.{set_found, Charset, big_number, Ref, Content, RenameFault, Change, with_resource, Difference, Order}
use Rattle.fork_commands.proofs.Cited.{differences, found_differences, or_order, same_content, view_difference, Renaming, with_renamed}
use Rattle.fork_commands.proofs.Cited.{refusal, IsDifference, WorkFault, HostMemory, Diff, DiffText, First, Second, PairFault, Setting}
use Rattle.fork_commands.proofs.Cited.{FileFault, Packaging, AsRead, SourceForm, made_then, Stops, packed, then_packed, fork_in, content_in}
use Rattle.fork_commands.proofs.Cited.{canonical, resource_at, Names, Made, Bytes, Gives, at, of_bytes, setting_change, with_setting}
use Rattle.fork_commands.proofs.Cited.{fork_set, set_in, good_fork_in, put_into, difference_lines, compared, combined, StopsPair}
use Rattle.fork_commands.proofs.Cited.{stopped_at, bytes_alone, stated_naming, with_stated, stated_set, set_by, set_from, source_stated}
use Rattle.fork_commands.proofs.Cited.{stated_in, merged_or_fault, forks_merged, of_both, text_of, texts_compared, Place, merged}
use Rattle.fork_edits.specs.declared.differences.Difference.{Difference as StoredDifference}
use Rattle.fork_commands.specs.declared.fault.WorkFault.TheVariants.{File}
use Rattle.fork_commands.specs.declared.pair.PairFault.TheVariants as pair_fault

-- a content with a resource set
pub set_there : (s : Setting) (bytes : List ℕ) (gets : Change) (c d : Content) → gets ≡ setting_change s bytes
    → d ≡ with_resource (big_number 4 s.key.ty.0) s.key.id gets c → d ≡ with_setting s bytes c
unfolding with_setting
set_there s bytes gets c d given is = is ∙ ap (λ g. with_resource (big_number 4 s.key.ty.0) s.key.id g c) given

-- a resource was set
pub set_made : (s : Setting) (p : Packaging) (first second out : List ℕ) → fork_set s p first second ≡ Ok out
    → set_in s p first second ≡ Ok (Bytes out false)
set_made s p first second out made = ap (λ r. of_bytes (at First r)) made

-- why no resource was set
pub set_stopped : (s : Setting) (p : Packaging) (first second : List ℕ) (fault : WorkFault) (told : PairFault)
    → told ≡ stopped_at First fault → Stops fault (fork_set s p first second)
    → StopsPair told (set_in s p first second)
set_stopped s p first second HostMemory told is stops =
    subst (λ f. StopsPair f (set_in s p first second)) (sym is) tt
set_stopped s p first second (File fault) told is stops =
    subst (λ f. StopsPair f (set_in s p first second)) (sym is) (ap (λ r. of_bytes (at First r)) stops)

-- a fault of the first of two files, and of the second
pub stopped_first : {A : Type 0} (place : Place) (made : Result A FileFault) (fault : WorkFault) (told : PairFault)
    → told ≡ stopped_at place fault → Stops fault made → StopsPair told (at place made)
stopped_first place made HostMemory told is stops = subst (λ f. StopsPair f (at place made)) (sym is) tt
stopped_first place made (File fault) told is stops =
    subst (λ f. StopsPair f (at place made)) (sym is) (ap (at place) stops)

-- what follows something of which nothing was made
then_stops : {A B F : Type 0} (made : Result A F) (next : A → Result B F) (fault : F) → made ≡ Err fault
    → made_then made next ≡ Err fault
then_stops made next fault is = ap (λ r. made_then r next) is

-- what follows the contents of two forks
abbrev Next : Type 0
Next = Content → Content → Result Made (Place × FileFault)

-- why the first of two forks has none
pub first_stopped : (next : Next) (first second : List ℕ) (told : PairFault) → StopsPair told (at First (content_in first))
    → StopsPair told (of_both first second next)
unfolding of_both
first_stopped next first second pair_fault.HostMemory stops = tt
first_stopped next first second (pair_fault.File place fault) stops = then_stops (at First (content_in first)) _ (place, fault) stops

-- why the second has none
pub second_stopped : (next : Next) (first second : List ℕ) (c : Content) (told : PairFault) → content_in first ≡ Ok c
    → StopsPair told (at Second (content_in second)) → StopsPair told (of_both first second next)
unfolding of_both
second_stopped next first second c pair_fault.HostMemory has stops = tt
second_stopped next first second c (pair_fault.File place fault) has stops =
    rw has (then_stops (at Second (content_in second)) (λ d. next c d) (place, fault) stops)

-- both were read
pub both_there : (next : Next) (first second : List ℕ) (c d : Content) (made : Result Made (Place × FileFault))
    → content_in first ≡ Ok c → content_in second ≡ Ok d → next c d ≡ made → of_both first second next ≡ made
unfolding of_both
both_there next first second c d made has too is = rw (has, too) is

-- why nothing was made of them
pub both_stopped : (next : Next) (first second : List ℕ) (c d : Content) (told : PairFault)
    → content_in first ≡ Ok c → content_in second ≡ Ok d → StopsPair told (next c d)
    → StopsPair told (of_both first second next)
unfolding of_both
both_stopped next first second c d told has too stops = rw (has, too) stops

-- two forks were compared
pub both_compared : (charset : Charset) (first second : List ℕ) (c d : Content) (out : List ℕ) (differs : Bool)
    → content_in first ≡ Ok c → content_in second ≡ Ok d → out ≡ difference_lines charset c d → differs ≡ not (same_content c d)
    → combined (Diff charset) first second ≡ Ok (Bytes out differs)
both_compared charset first second c d out differs has too lines is =
    both_there (λ c d. Ok (compared charset c d)) first second c d (Ok (Bytes out differs)) has too (rw (lines, is) refl)

-- so were their sources
pub both_texts : (form : SourceForm) (names : Names) (first second : List ℕ) (c d : Content) (out : List ℕ) (differs : Bool)
    → content_in first ≡ Ok c → content_in second ≡ Ok d
    → IsDifference names.first names.second (text_of form c) (text_of form d) out → differs ≡ not (same_content c d)
    → Gives names (combined (DiffText form) first second) out differs
both_texts form names first second c d out differs has too text is = subst (λ r. Gives names r out differs)
    (sym (both_there (λ c d. Ok (texts_compared form c d)) first second c d (Ok (texts_compared form c d)) has too refl)) (text, is)

-- bytes that were made are what is made
pub gives : (names : Names) (made : Result Made (Place × FileFault)) (out : List ℕ) (differs : Bool) → made ≡ Ok (Bytes out differs)
    → Gives names made out differs
gives names made out differs is = subst (λ r. Gives names r out differs) (sym is) (refl, refl)

-- there are differences where the contents are not the same
some_difference : (same : Bool) (ds : List Difference) (xs : List StoredDifference)
    → map view_difference xs ≡ (if same then [] else or_order ds) → not (length xs == 0) ≡ not same
some_difference true ds [] is = refl
some_difference true ds (x ∷ xs) is = absurd (let no : view_difference x ∷ map view_difference xs ≡ [] = is in cc)
some_difference false [] [] is = absurd (let no : [] ≡ Order ∷ [] = is in cc)
some_difference false (d ∷ ds) [] is = absurd (let no : [] ≡ d ∷ ds = is in cc)
some_difference false ds (x ∷ xs) is = rw (ne_eqb (length (x ∷ xs)) 0 (λ e. omega (arith, e))) refl

pub differs_of : (c d : Content) (xs : List StoredDifference) → map view_difference xs ≡ differences c d
    → not (length xs == 0) ≡ not (same_content c d)
differs_of c d xs is = some_difference (same_content c d) (found_differences c d) xs is

-- a resource was set, and the fork of what came of it was written
pub setting_made : (s : Setting) (p : Packaging) (first second out : List ℕ) (c d : Content) → content_in first ≡ Ok c
    → d ≡ with_setting s second c → then_packed p first (canonical d) ≡ Ok out → fork_set s p first second ≡ Ok out
setting_made s p first second out c d has is made =
    rw has (ap (λ x. then_packed p first (canonical x)) (sym is) ∙ made)

-- why that fork was not written
pub setting_stopped : (s : Setting) (p : Packaging) (first second : List ℕ) (c d : Content) (fault : WorkFault)
    → content_in first ≡ Ok c → d ≡ with_setting s second c → Stops fault (then_packed p first (canonical d))
    → Stops fault (fork_set s p first second)
setting_stopped s p first second c d fault has is stops =
    rw has (subst (λ x. Stops fault (then_packed p first (canonical x))) is stops)

-- a fork was made of the second file and put into the first
pub put_made : (first fork out : List ℕ) → packed AsRead first fork ≡ Ok out → put_into first (Ok fork) ≡ Ok (Bytes out false)
put_made first fork out made = ap (λ r. of_bytes (at First r)) made

-- why it was not put there
pub put_stopped : (first fork : List ℕ) (fault : WorkFault) (told : PairFault) → told ≡ stopped_at First fault
    → Stops fault (packed AsRead first fork) → StopsPair told (put_into first (Ok fork))
put_stopped first fork HostMemory told is stops = subst (λ f. StopsPair f (put_into first (Ok fork))) (sym is) tt
put_stopped first fork (File fault) told is stops =
    subst (λ f. StopsPair f (put_into first (Ok fork))) (sym is) (ap (λ r. of_bytes (at First r)) stops)

-- what else is known of a result
pub also_ok : {X E : Type 0} (P Q : X → Type 0) (r : Result X E) → ((x : X) → P x → Q x) → IfOk r P → IfOk r Q
also_ok P Q (Ok x) next h = next x h
also_ok P Q (Err e) next h = tt

-- what else is known of a fault
pub also_err : {X E : Type 0} (P Q : E → Type 0) (r : Result X E) → ((e : E) → P e → Q e) → IfErr r P → IfErr r Q
also_err P Q (Ok x) next h = tt
also_err P Q (Err e) next h = next e h

-- what was made of the second file was put into the first
pub put_there : (first fork out : List ℕ) (differs : Bool) (made : Result (List ℕ) FileFault) → made ≡ Ok fork
    → put_into first (Ok fork) ≡ Ok (Bytes out differs) → put_into first made ≡ Ok (Bytes out differs)
put_there first fork out differs made is put = ap (put_into first) is ∙ put

-- why it was not put there
pub put_not : (first fork : List ℕ) (told : PairFault) (made : Result (List ℕ) FileFault) → made ≡ Ok fork
    → StopsPair told (put_into first (Ok fork)) → StopsPair told (put_into first made)
put_not first fork told made is stops = subst (λ m. StopsPair told (put_into first m)) (sym is) stops

-- why nothing was made of the second file
pub put_unmade : (first : List ℕ) (fault : WorkFault) (told : PairFault) (made : Result (List ℕ) FileFault)
    → told ≡ stopped_at Second fault → Stops fault made → StopsPair told (put_into first made)
put_unmade first HostMemory told made is stops = subst (λ f. StopsPair f (put_into first made)) (sym is) tt
put_unmade first (File fault) told made is stops =
    subst (λ f. StopsPair f (put_into first made)) (sym is) (ap (put_into first) stops)

-- two contents were merged, and the fork was written
pub merged_there : (replaces : Bool) (p : Packaging) (first out : List ℕ) (c d m : Content)
    → merged_or_fault (merged replaces c d) ≡ Ok m → then_packed p first (canonical m) ≡ Ok out
    → forks_merged replaces p first c d ≡ Ok (Bytes out false)
merged_there replaces p first out c d m has made = rw has (ap (λ r. of_bytes (at First r)) made)

-- why they were not merged
pub merged_not : (replaces : Bool) (p : Packaging) (first : List ℕ) (c d : Content) (fault : WorkFault) (told : PairFault)
    → told ≡ stopped_at Second fault → Stops fault (merged_or_fault (merged replaces c d))
    → StopsPair told (forks_merged replaces p first c d)
merged_not replaces p first c d HostMemory told is stops =
    subst (λ f. StopsPair f (forks_merged replaces p first c d)) (sym is) tt
merged_not replaces p first c d (File fault) told is stops =
    subst (λ f. StopsPair f (forks_merged replaces p first c d)) (sym is) (rw stops refl)

-- why the fork was not written
pub merged_unwritten : (replaces : Bool) (p : Packaging) (first : List ℕ) (c d m : Content) (fault : WorkFault) (told : PairFault)
    → merged_or_fault (merged replaces c d) ≡ Ok m → told ≡ stopped_at First fault
    → Stops fault (then_packed p first (canonical m)) → StopsPair told (forks_merged replaces p first c d)
merged_unwritten replaces p first c d m HostMemory told has is stops =
    subst (λ f. StopsPair f (forks_merged replaces p first c d)) (sym is) tt
merged_unwritten replaces p first c d m (File fault) told has is stops =
    subst (λ f. StopsPair f (forks_merged replaces p first c d)) (sym is)
    (rw has (ap (λ r. of_bytes (at First r)) stops))

-- the resource that is set is there, and has its own ID, so that it is not refused a name and attributes
pub not_refused : (kind : ℕ) (id : ℤ) (change : Change) (new : Renaming) (c : Content) → new.id ≡ None
    → refusal kind id new (with_resource kind id change c) ≡ None
not_refused kind id change new c own =
    let there = set_found kind id change c in
    let same : int_eq id id ≡ true = (Decides-int_eq id id).1 refl in
    rw (own, there, same) refl

pub no_refusal : (kind : ℕ) (id : ℤ) (change : Change) (new : Renaming) (c d : Content) (fault : RenameFault) → new.id ≡ None
    → d ≡ with_resource kind id change c → refusal kind id new d ≡ Some fault → ⊥
no_refusal kind id change new c d fault own set refused =
    let both : None ≡ Some fault = sym (not_refused kind id change new c own) ∙ ap (refusal kind id new) (sym set) ∙ refused in cc

-- a resource is set to one that is stated
pub stated_there : (s : Setting) (r : Ref) (gets : Renaming) (c d e : Content) → gets ≡ stated_naming s r
    → d ≡ with_resource (big_number 4 s.key.ty.0) s.key.id (bytes_alone r) c
    → e ≡ with_renamed (big_number 4 s.key.ty.0) s.key.id gets d → e ≡ with_stated s r c
unfolding with_stated
stated_there s r gets c d e given set is =
    is ∙ ap (λ g. with_renamed (big_number 4 s.key.ty.0) s.key.id g d) given
    ∙ ap (with_renamed (big_number 4 s.key.ty.0) s.key.id (stated_naming s r)) set

-- the fork of what came of it was written
pub stated_made : (s : Setting) (p : Packaging) (first out : List ℕ) (r : Ref) (c d : Content) → d ≡ with_stated s r c
    → then_packed p first (canonical d) ≡ Ok out → stated_set s p first c r ≡ Ok (Bytes out false)
stated_made s p first out r c d is made = ap (λ x. of_bytes (at First (then_packed p first (canonical x)))) (sym is)
    ∙ ap (λ x. of_bytes (at First x)) made

-- why it was not
pub stated_stopped : (s : Setting) (p : Packaging) (first : List ℕ) (r : Ref) (c d : Content) (fault : WorkFault) (told : PairFault)
    → d ≡ with_stated s r c → told ≡ stopped_at First fault → Stops fault (then_packed p first (canonical d))
    → StopsPair told (stated_set s p first c r)
stated_stopped s p first r c d HostMemory told is tells stops =
    subst (λ f. StopsPair f (stated_set s p first c r)) (sym tells) tt
stated_stopped s p first r c d (File fault) told is tells stops = subst (λ f. StopsPair f (stated_set s p first c r)) (sym tells)
    (ap (λ x. of_bytes (at First (then_packed p first (canonical x)))) (sym is) ∙ ap (λ x. of_bytes (at First x)) stops)

-- the resource is stated
pub by_made : (s : Setting) (p : Packaging) (first : List ℕ) (r : Ref) (c stated : Content) (made : Result Made (Place × FileFault))
    → resource_at s.key stated ≡ Ok r → stated_set s p first c r ≡ made → set_by s p first c stated ≡ made
by_made s p first r c stated made has is = rw has is

pub by_stopped : (s : Setting) (p : Packaging) (first : List ℕ) (r : Ref) (c stated : Content) (told : PairFault)
    → resource_at s.key stated ≡ Ok r → StopsPair told (stated_set s p first c r) → StopsPair told (set_by s p first c stated)
by_stopped s p first r c stated told has stops = rw has stops

-- it is not
pub by_missing : (s : Setting) (p : Packaging) (first : List ℕ) (c stated : Content) (fault : WorkFault) (told : PairFault)
    → told ≡ stopped_at Second fault → Stops fault (resource_at s.key stated) → StopsPair told (set_by s p first c stated)
by_missing s p first c stated HostMemory told is stops =
    subst (λ f. StopsPair f (set_by s p first c stated)) (sym is) tt
by_missing s p first c stated (File fault) told is stops =
    subst (λ f. StopsPair f (set_by s p first c stated)) (sym is) (rw stops refl)

-- the source was read
pub from_made : (s : Setting) (p : Packaging) (first second : List ℕ) (c stated : Content) (made : Result Made (Place × FileFault))
    → source_stated second ≡ Ok stated → set_by s p first c stated ≡ made → set_from s p first second c ≡ made
from_made s p first second c stated made says is = rw says is

pub from_stopped : (s : Setting) (p : Packaging) (first second : List ℕ) (c stated : Content) (told : PairFault)
    → source_stated second ≡ Ok stated → StopsPair told (set_by s p first c stated) → StopsPair told (set_from s p first second c)
from_stopped s p first second c stated told says stops = rw says stops

-- why it was not
pub from_unread : (s : Setting) (p : Packaging) (first second : List ℕ) (c : Content) (told : PairFault)
    → StopsPair told (at Second (source_stated second)) → StopsPair told (set_from s p first second c)
from_unread s p first second c pair_fault.HostMemory stops = tt
from_unread s p first second c (pair_fault.File place fault) stops =
    then_stops (at Second (source_stated second)) (set_by s p first c) (place, fault) stops

-- the fork was read
pub in_made : (s : Setting) (p : Packaging) (first second : List ℕ) (c : Content) (made : Result Made (Place × FileFault))
    → content_in first ≡ Ok c → set_from s p first second c ≡ made → stated_in s p first second ≡ made
in_made s p first second c made has is = rw has is

pub in_stopped : (s : Setting) (p : Packaging) (first second : List ℕ) (c : Content) (told : PairFault)
    → content_in first ≡ Ok c → StopsPair told (set_from s p first second c) → StopsPair told (stated_in s p first second)
in_stopped s p first second c told has stops = rw has stops

-- why it was not
pub in_unread : (s : Setting) (p : Packaging) (first second : List ℕ) (told : PairFault) → StopsPair told (at First (content_in first))
    → StopsPair told (stated_in s p first second)
in_unread s p first second pair_fault.HostMemory stops = tt
in_unread s p first second (pair_fault.File place fault) stops =
    then_stops (at First (content_in first)) (set_from s p first second) (place, fault) stops

-- a fork that has a content was copied
pub good_there : (bytes fork : List ℕ) (c : Content) → content_in bytes ≡ Ok c → fork_in bytes ≡ Ok fork
    → good_fork_in bytes ≡ Ok fork
good_there bytes fork c has found = rw has found

-- why it was not
pub good_not : (bytes : List ℕ) (c : Content) (fault : WorkFault) → content_in bytes ≡ Ok c → Stops fault (fork_in bytes)
    → Stops fault (good_fork_in bytes)
good_not bytes c fault has stops = rw has stops
