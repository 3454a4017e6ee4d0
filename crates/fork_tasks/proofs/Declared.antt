-- Files of declarations, read one after another.
use Rattle.fork_tasks.proofs.Cited.{◌≡◌, ◌∷◌, ◌++◌, ◌∙◌, ℕ, List, [], Option, Result, Ok, Err, refl, sym, ap, subst, append-nil, length}
use Rattle.fork_tasks.proofs.Cited.{Declared, FileFault, built_in, types_with, made_then, Access, Read, and_then, declared_by, Declares}
use Rattle.fork_tasks.proofs.Cited.{IsUndeclared, StopsDeclaring, Knows, IsUnknown, Undeclared, Message, IsForkFault}
use Rattle.fork_tasks.specs.Declaring.{Faulty}
use Rattle.fork_tasks.proofs.Packed.{Came, begun as none_came, further as came_further, all_came}

-- Of the files at these paths all but the rest are read, and their types are known.
pub record Known (paths rest : List (List ℕ)) (types known : List Declared) (old new : Option (List Access)) : Type 0 where
  pub texts : List (List ℕ)
  pub came : Came paths rest texts old new
  pub declares : declared_by types texts ≡ Ok known

pub begun : (paths : List (List ℕ)) (types : List Declared) (a : Option (List Access)) → Known paths paths types types a a
begun paths types a = record { texts = []; came = none_came paths a; declares = refl }

-- the types of one text more
one_after : (r : Result (List Declared) FileFault) (texts : List (List ℕ)) (text : List ℕ) (known more : List Declared)
    → ((m : List Declared) → declared_by m texts ≡ Ok known → declared_by m (texts ++ text ∷ []) ≡ Ok more)
    → made_then r (λ m. declared_by m texts) ≡ Ok known → made_then r (λ m. declared_by m (texts ++ text ∷ [])) ≡ Ok more
one_after (Ok m) texts text known more next so = next m so
one_after (Err fault) texts text known more next so = absurd (let no : Err fault ≡ Ok known = so in cc)

one_declared : (types known more : List Declared) (texts : List (List ℕ)) (text : List ℕ) → declared_by types texts ≡ Ok known
    → types_with known text ≡ Ok more → declared_by types (texts ++ text ∷ []) ≡ Ok more
one_declared types known more [] text is with_text =
    let same : types ≡ known = cc in
    ap (λ r. made_then r (λ m. declared_by m [])) (subst (λ t. types_with t text ≡ Ok more) (sym same) with_text)
one_declared types known more (first ∷ texts) text is with_text = one_after (types_with types first) texts text known more
    (λ m so. one_declared m known more texts text so with_text) is

pub further : (paths rest : List (List ℕ)) (x text : List ℕ) (types known more : List Declared)
    (old mid new : Option (List Access)) → Known paths (x ∷ rest) types known old mid → types_with known text ≡ Ok more
    → new ≡ and_then mid (Read x text ∷ []) → Known paths rest types more old new
further paths rest x text types known more old mid new so_far with_text read = record {
  texts = so_far.texts ++ text ∷ [];
  came = came_further paths rest so_far.texts x text old mid new so_far.came read;
  declares = one_declared types known more so_far.texts text so_far.declares with_text;
}

-- the types of all are known
pub all_known : (paths : List (List ℕ)) (types known : List Declared) (old new : Option (List Access))
    → Known paths [] types known old new → Declares paths types known old new
all_known paths types known old new so_far = (
  so_far.texts,
  so_far.came.count ∙ ap length (sym (so_far.came.split ∙ append-nil so_far.came.first)),
  so_far.declares,
  all_came paths so_far.texts old new so_far.came,
)

-- those of the next are not declared
pub stopped : (paths rest : List (List ℕ)) (x : List ℕ) (types known : List Declared) (old mid new : Option (List Access))
    (message : Message) → Known paths (x ∷ rest) types known old mid → IsUndeclared x known mid new message
    → StopsDeclaring paths types old new message
stopped paths rest x types known old mid new message so_far stops = record {
  first = so_far.came.first;
  next = x;
  rest = rest;
  split = so_far.came.split;
  known = known;
  mid = mid;
  declares = (so_far.texts, so_far.came.count, so_far.declares, so_far.came.reads);
  stops = stops;
}

-- a file was read
pub declares_one : (path text read : List ℕ) (types known : List Declared) (old new : Option (List Access))
    → new ≡ and_then old (Read path read ∷ []) → text ≡ read → types_with types text ≡ Ok known
    → (t : List ℕ) × (types_with types t ≡ Ok known) × (new ≡ and_then old (Read path t ∷ []))
declares_one path text read types known old new is same so = (read, subst (λ t. types_with types t ≡ Ok known) same so, is)

pub undeclared_one : (path text read : List ℕ) (types : List Declared) (old new : Option (List Access)) (message : Message)
    → new ≡ and_then old (Read path read ∷ []) → text ≡ read → IsForkFault path (types_with types text) message
    → IsUndeclared path types old new message
undeclared_one path text read types old new message is same fault =
    Faulty read is (subst (λ t. IsForkFault path (types_with types t) message) same fault)

-- the types that were known before are those of the table
pub knows_all : (paths : List (List ℕ)) (types known : List Declared) (old new : Option (List Access)) → types ≡ built_in
    → Declares paths types known old new → Knows paths known old new
knows_all paths types known old new is declares = subst (λ t. Declares paths t known old new) is declares

pub unknown_all : (paths : List (List ℕ)) (types : List Declared) (old new : Option (List Access)) (message : Message)
    → types ≡ built_in → StopsDeclaring paths types old new message → IsUnknown paths old new message
unknown_all paths types old new message is stops = Undeclared (subst (λ t. StopsDeclaring paths t old new message) is stops)
