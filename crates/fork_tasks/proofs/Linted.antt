-- Texts whose faulty lines are printed, one text after the other.
use Rattle.fork_tasks.proofs.Cited.{◌≡◌, ◌∷◌, ◌++◌, ◌∙◌, ◌&&◌, ◌==◌, ◌<◌, ◌≤◌, ◌+◌, ℕ, Bool, true, false, List, [], Option, Result, Ok, Err}
use Rattle.fork_tasks.proofs.Cited.{OnOk, refl, sym, ap, subst, append_assoc, append-nil, map, length, drop, get_or, arith, codes, not, Bor}
use Rattle.fork_tasks.proofs.Cited.{list_all, append_known, and_assoc, and-true, common_steps, length-map, list_all-append, and_both}
use Rattle.fork_tasks.proofs.Cited.{FaultKind, Declared, seen, Fault, Printed, Ending, Linting, TextKind, Knows, IsUnknown, Access, Read}
use Rattle.fork_tasks.proofs.Cited.{Failed, and_then, IsUndelivered, ending_of, Message, Adds, AreLines, IsLinted, AreLinted, HasLinted}
use Rattle.fork_tasks.proofs.Cited.{PrintsLines, LeavesLines, Undelivered, is_clean, LinesOf, faulty_lines, kind_at, lines_by, Lints}
use Rattle.fork_tasks.proofs.Cited.{IsUnlinted, Unprinted, paths_of, KnowsFor, KnowsIf, needs_types, IsSeen, AreSeen, is_reading}
use Rattle.fork_tasks.specs.Linting.{line_of}
use Rattle.fork_tasks.specs.Linting.{types_read}
use Rattle.fork_tasks.proofs.Accesses.{none, one_more}
use Rattle.fork_tasks.proofs.Surveyed.{seen_reads, seen_step}

-- What is added to a text now, with any lines of the faulty lines that are left, is the lines of all.
abbrev pub GoesOn : List ℕ → List ℕ → List ℕ → List ℕ → List ℕ → Type 0
GoesOn path all left old text = (rest : List ℕ) → AreLines path left rest → Adds (AreLines path all) old (text ++ rest)

one_line : (path all more old text new words : List ℕ) (n : ℕ) → GoesOn path all (n ∷ more) old text
    → new ≡ text ++ line_of path n words → GoesOn path all more old new
one_line path all more old text new words n so_far is rest h =
    subst (Adds (AreLines path all) old)
    (sym (ap (λ t. t ++ rest) is ∙ append_assoc text (line_of path n words) rest))
    (so_far (line_of path n words ++ rest) (words, rest, refl, h))

all_lines : (path all old text : List ℕ) → GoesOn path all [] old text → Adds (AreLines path all) old text
all_lines path all old text so_far = subst (Adds (AreLines path all) old) (append-nil text) (so_far [] refl)

-- the numbers of the lines of faults
abbrev pub lines_of : List Fault → List ℕ
lines_of faults = map (λ (f : Fault). f.line) faults

-- the line of one fault more, and the lines of all
pub next_line : (path : List ℕ) (faults : List Fault) (i : ℕ) (d : Fault) (old text new words : List ℕ) → i < length faults
    → GoesOn path (lines_of faults) (lines_of (drop i faults)) old text
    → new ≡ text ++ line_of path (get_or faults i d).line words
    → GoesOn path (lines_of faults) (lines_of (drop (i + 1) faults)) old new
next_line path faults i d old text new words inside so_far is =
    let split : lines_of (drop i faults) ≡ (get_or faults i d).line ∷ lines_of (drop (i + 1) faults)
    = grind (arith, common_steps) in
    one_line path (lines_of faults) (lines_of (drop (i + 1) faults)) old text new words (get_or faults i d).line
    (subst (λ l. GoesOn path (lines_of faults) l old text) split so_far) is

pub every_line : (path : List ℕ) (faults : List Fault) (i : ℕ) (old text : List ℕ) → length faults ≤ i
    → GoesOn path (lines_of faults) (lines_of (drop i faults)) old text → Adds (AreLines path (lines_of faults)) old text
every_line path faults i old text past so_far =
    let none : lines_of (drop i faults) ≡ [] = grind (arith, common_steps) in
    all_lines path (lines_of faults) old text (subst (λ l. GoesOn path (lines_of faults) l old text) none so_far)

-- the numbers of the faults that were found
numbers : (faults : List Fault) → map (λ (f : ℕ × FaultKind). f.0) (map seen faults) ≡ map (λ (f : Fault). f.line) faults
numbers [] = refl
numbers (f ∷ faults) = ap (λ l. f.line ∷ l) (numbers faults)

-- the lines of the faults that were found are those of the faulty lines
pub lines_found : (found : List (ℕ × FaultKind)) (faults slice : List Fault) → map seen faults ≡ found → slice ≡ faults
    → map (λ (f : Fault). f.line) slice ≡ map (λ (f : ℕ × FaultKind). f.0) found
lines_found found faults slice is same =
    ap (map (λ (f : Fault). f.line)) same ∙ sym (numbers faults) ∙ ap (map (λ (f : ℕ × FaultKind). f.0)) is

pub found_lines : (path old new : List ℕ) (found : List (ℕ × FaultKind)) (faults slice : List Fault) → map seen faults ≡ found
    → slice ≡ faults → Adds (AreLines path (map (λ (f : Fault). f.line) slice)) old new
    → Adds (AreLines path (map (λ (f : ℕ × FaultKind). f.0) found)) old new
found_lines path old new found faults slice is same h =
    subst (λ l. Adds (AreLines path l) old new) (lines_found found faults slice is same) h

pub found_clean : (was is : Bool) (found : List (ℕ × FaultKind)) (faults slice : List Fault) → map seen faults ≡ found
    → slice ≡ faults → is ≡ (was && (length slice == 0))
    → is ≡ (was && (length (map (λ (f : ℕ × FaultKind). f.0) found) == 0))
found_clean was is found faults slice so same h = h ∙ ap (λ n. was && (n == 0))
    (sym (length-map slice (λ (f : Fault). f.line)) ∙ ap length (lines_found found faults slice so same))

alone : (faulty : LinesOf) (a : Access) (old new : List ℕ) → Adds (IsLinted faulty a) old new
    → Adds (AreLinted faulty (a ∷ [])) old new
alone faulty a old new (added, is, h) = (added, is, (added, [], sym (append-nil added), h, refl))

pub none_linted : (faulty : LinesOf) (path old new : List ℕ) → new ≡ old ++ (path ++ codes ": cannot read\n")
    → Adds (AreLinted faulty (Failed path ∷ [])) old new
none_linted faulty path old new is = alone faulty (Failed path) old new (path ++ codes ": cannot read\n", is, refl)

-- the lines of a text, by what it is read as
pub text_linted : (asked : Option TextKind) (known : List Declared) (kind : TextKind) (path bytes old new : List ℕ)
    → kind ≡ kind_at asked path → Adds (AreLines path (faulty_lines known kind bytes)) old new
    → Adds (AreLinted (lines_by asked known) (Read path bytes ∷ [])) old new
text_linted asked known kind path bytes old new is h = alone (lines_by asked known) (Read path bytes) old new
    (subst (λ k. Adds (AreLines path (faulty_lines known k bytes)) old new) is h)

pub text_clean : (asked : Option TextKind) (known : List Declared) (kind : TextKind) (path bytes : List ℕ) (was is : Bool)
    → kind ≡ kind_at asked path → is ≡ (was && (length (faulty_lines known kind bytes) == 0))
    → is ≡ (was && is_clean (lines_by asked known) (Read path bytes))
text_clean asked known kind path bytes was is so h =
    subst (λ k. is ≡ (was && (length (faulty_lines known k bytes) == 0))) so h

-- a source that can be read has no line
pub no_lines : (path old lines : List ℕ) → lines ≡ [] → Adds (AreLines path lines) old old
no_lines path old lines is = subst (λ l. Adds (AreLines path l) old old) (sym is) ([], sym (append-nil old), refl)

pub none_clean : (was : Bool) (lines : List ℕ) → lines ≡ [] → was ≡ (was && (length lines == 0))
none_clean was lines is = subst (λ l. was ≡ (was && (length l == 0))) (sym is) (sym (and-true was))

-- another has one
pub one_alone : (path words old new : List ℕ) (n : ℕ) → new ≡ old ++ line_of path n words
    → Adds (AreLines path (n ∷ [])) old new
one_alone path words old new n is =
    (line_of path n words, is, (words, [], sym (append-nil (line_of path n words)), refl))

pub some_lines : {X E : Type 0} (r : Result X E) (path old new lines : List ℕ) (n : ℕ) → lines ≡ n ∷ []
    → OnOk r (Adds (AreLines path (n ∷ [])) old new) → OnOk r (Adds (AreLines path lines) old new)
some_lines (Ok x) path old new lines n is h = subst (λ l. Adds (AreLines path l) old new) (sym is) h
some_lines (Err e) path old new lines n is h = tt

never : (b : Bool) → (b && false) ≡ false
never true = refl
never false = refl

pub some_clean : {X E : Type 0} (r : Result X E) (was now : Bool) (lines : List ℕ) (n : ℕ) → lines ≡ n ∷ []
    → OnOk r (now ≡ false) → OnOk r (now ≡ (was && (length lines == 0)))
some_clean (Ok x) was now lines n is h =
    subst (λ l. now ≡ (was && (length l == 0))) (sym is) (h ∙ sym (never was))
some_clean (Err e) was now lines n is h = tt

-- a file that can't be read
pub unread_linted : {X E : Type 0} (faulty : LinesOf) (path : List ℕ) (r : Result X E) (old new : Option (List Access))
    (text more : List ℕ) (was is : Bool) → new ≡ and_then old (Failed path ∷ [])
    → OnOk r ((f : LinesOf) → Adds (AreLinted f (Failed path ∷ [])) text more) → OnOk r (is ≡ false)
    → OnOk r ((access : Access) × IsSeen path access × HasLinted faulty (access ∷ []) old new text more was is)
unread_linted faulty path (Ok x) old new text more was is made h k =
    (Failed path, refl, record { made = made; lines = h faulty; clean = k ∙ sym (never was) })
unread_linted faulty path (Err e) old new text more was is made h k = tt

-- what is printed of files after others
both_linted : (faulty : LinesOf) (xs ys : List Access) (t u : List ℕ) → AreLinted faulty xs t → AreLinted faulty ys u
    → AreLinted faulty (xs ++ ys) (t ++ u)
both_linted faulty [] ys t u h k = subst (λ l. AreLinted faulty ys (l ++ u)) (sym h) k
both_linted faulty (a ∷ xs) ys t u (first, rest, is, h, more) k =
    (first, rest ++ u, ap (λ l. l ++ u) is ∙ append_assoc first rest u, h, both_linted faulty xs ys rest u more k)

adds_both : (faulty : LinesOf) (xs ys : List Access) (t u v : List ℕ) → Adds (AreLinted faulty xs) t u
    → Adds (AreLinted faulty ys) u v → Adds (AreLinted faulty (xs ++ ys)) t v
adds_both faulty xs ys t u v (first, is, h) (more, then, k) = (
  first ++ more,
  then ∙ ap (λ l. l ++ more) is ∙ append_assoc t first more,
  both_linted faulty xs ys first more h k,
)

linted_on : (faulty : LinesOf) (xs ys : List Access) (a b c : Option (List Access)) (t u v : List ℕ) (p q r : Bool)
    → HasLinted faulty xs a b t u p q → HasLinted faulty ys b c u v q r → HasLinted faulty (xs ++ ys) a c t v p r
linted_on faulty xs ys a b c t u v p q r w z = record {
  made = z.made ∙ ap (λ o. and_then o ys) w.made ∙ one_more a xs ys;
  lines = adds_both faulty xs ys t u v w.lines z.lines;
  clean = z.clean ∙ ap (λ g. g && list_all (is_clean faulty) ys) w.clean
      ∙ and_assoc p (list_all (is_clean faulty) xs) (list_all (is_clean faulty) ys)
      ∙ ap (λ g. p && g) (sym (list_all-append (is_clean faulty) xs ys));
}

-- Of these files all but the rest are read.
pub record Come (faulty : LinesOf) (all rest : List (List ℕ)) (old new : Option (List Access)) (text more : List ℕ) (was is : Bool)
    : Type 0 where
  pub accesses : List Access
  pub done : (xs : List Access) → AreSeen rest xs → AreSeen all (accesses ++ xs)
  pub reads : list_all is_reading accesses ≡ true
  pub linted : HasLinted faulty accesses old new text more was is

pub begun : (faulty : LinesOf) (all : List (List ℕ)) (old : Option (List Access)) (text : List ℕ) (was : Bool)
    → Come faulty all all old old text text was was
begun faulty all old text was = record {
  accesses = [];
  done = λ xs h. h;
  reads = refl;
  linted = record { made = none old; lines = ([], sym (append-nil text), refl); clean = sym (and-true was) };
}

pub further : (faulty : LinesOf) (all rest : List (List ℕ)) (x : List ℕ) (old mid new : Option (List Access))
    (text more next : List ℕ) (was is now : Bool) (a : Access) → Come faulty all (x ∷ rest) old mid text more was is → IsSeen x a
    → HasLinted faulty (a ∷ []) mid new more next is now → Come faulty all rest old new text next was now
further faulty all rest x old mid new text more next was is now a come seen linted = record {
  accesses = come.accesses ++ a ∷ [];
  done = λ xs h. subst (AreSeen all) (sym (append_assoc come.accesses (a ∷ []) xs))
      (come.done ((a ∷ []) ++ xs) (seen_step x rest a seen xs h));
  reads = list_all-append is_reading come.accesses (a ∷ []) ∙ and_both _ _ come.reads (seen_reads x a seen);
  linted = linted_on faulty come.accesses (a ∷ []) old mid new text more next was is now come.linted linted;
}

pub all_linted : (faulty : LinesOf) (all : List (List ℕ)) (old new : Option (List Access)) (text more : List ℕ) (was is : Bool)
    → Come faulty all [] old new text more was is
    → (accesses : List Access) × AreSeen all accesses × HasLinted faulty accesses old new text more was is
all_linted faulty all old new text more was is come =
    (come.accesses, subst (AreSeen all) (append-nil come.accesses) (come.done [] refl), come.linted)

-- the lines were printed
pub prints : (faulty : LinesOf) (paths : List (List ℕ)) (xs : List Access) (sent : List ℕ) (clean : Bool) (ending : Ending)
    (p mid q : Option (List ℕ)) (old then new : Option (List Access)) → mid ≡ p → AreSeen paths xs
    → HasLinted faulty xs old then [] sent true clean → q ≡ append_known mid sent → new ≡ then → ending ≡ ending_of (not clean)
    → PrintsLines faulty paths ending p q old new
prints faulty paths xs sent clean ending p mid q old then new silent are linted sends same ends = (
  xs,
  linted.lines.0,
  are,
  linted.lines.2,
  same ∙ linted.made,
  sends ∙ ap (append_known mid) linted.lines.1 ∙ ap (λ o. append_known o linted.lines.0) silent,
  ends ∙ ap (λ b. ending_of (not b)) linted.clean,
)

-- the lines were not printed to their end
pub unprinted : (faulty : LinesOf) (paths : List (List ℕ)) (xs : List Access) (sent : List ℕ) (p mid q : Option (List ℕ))
    (old then new : Option (List Access)) (message : Message) → mid ≡ p → AreSeen paths xs → then ≡ and_then old xs
    → Adds (AreLinted faulty xs) [] sent → IsUndelivered Printed sent mid q then new message
    → LeavesLines faulty paths p q old new message
unprinted faulty paths xs sent p mid q old then new message silent are is (text, all, linted) h = Undelivered xs text are linted
    (subst (λ x. IsUndelivered Printed x p q (and_then old xs) new message) all
    (subst (λ a. IsUndelivered Printed sent p q a new message) is
    (subst (λ x. IsUndelivered Printed sent x q then new message) silent h)))

-- paths that are lent are the same paths
pub same_paths : (slice items : List (Bor (List ℕ))) → slice ≡ items
    → map (λ (path : Bor (List ℕ)). path.now) slice ≡ map (λ (path : Bor (List ℕ)). path.now) items
same_paths slice items same = ap (map (λ (path : Bor (List ℕ)). path.now)) same

-- the types of a file of declarations were not declared
pub unknown_all : (l : Linting) (paths : List (List ℕ)) (old new : Option (List Access)) (message : Message)
    → paths ≡ types_read l → IsUnknown paths old new message → IsUnknown (types_read l) old new message
unknown_all l paths old new message same h = subst (λ t. IsUnknown t old new message) same h

-- what is known where types are needed, and where they are not
pub known_needed : (l : Linting) (paths : List (List ℕ)) (known : List Declared) (old new : Option (List Access))
    → needs_types l ≡ true → paths ≡ types_read l → Knows paths known old new → KnowsFor l known old new
known_needed l paths known old new need same h = subst (λ b. KnowsIf b (types_read l) known old new) (sym need)
    (subst (λ t. Knows t known old new) same h)

pub known_spared : (l : Linting) (known : List Declared) (old new : Option (List Access)) → needs_types l ≡ false
    → known ≡ [] → new ≡ old → KnowsFor l known old new
known_spared l known old new need none same =
    subst (λ b. KnowsIf b (types_read l) known old new) (sym need) (none, same)

-- with the types that are known, the lines were printed, or not to their end
pub lints : (l : Linting) (paths : List (List ℕ)) (known : List Declared) (ending : Ending) (p mid q : Option (List ℕ))
    (old then new : Option (List Access)) → mid ≡ p → paths ≡ paths_of l → KnowsFor l known old then
    → PrintsLines (lines_by l.asked known) paths ending mid q then new → Lints l ending p q old new
lints l paths known ending p mid q old then new silent are knows h = (
  known,
  then,
  knows,
  subst (λ t. PrintsLines (lines_by l.asked known) t ending p q then new) are
      (subst (λ x. PrintsLines (lines_by l.asked known) paths ending x q then new) silent h),
)

pub unlinted : (l : Linting) (paths : List (List ℕ)) (known : List Declared) (p mid q : Option (List ℕ))
    (old then new : Option (List Access)) (message : Message) → mid ≡ p → paths ≡ paths_of l
    → KnowsFor l known old then → LeavesLines (lines_by l.asked known) paths mid q then new message
    → IsUnlinted l p q old new message
unlinted l paths known p mid q old then new message silent are knows h = Unprinted known then knows
    (subst (λ t. LeavesLines (lines_by l.asked known) t p q then new message) are
    (subst (λ x. LeavesLines (lines_by l.asked known) paths x q then new message) silent h))
