use Rattle.std.specs.Prelude.{ℕ, List}
use Rattle.std.specs.BTreeMap.{insert_entry}
use Rattle.std.specs.Cmp.Lexicographic.{slice_cmp}
use Rattle.std.specs.Ordering.{nat_cmp}

-- What names stand for, in the order of the names, byte by byte. No name stands twice.

-- Where a name stands for something else from now on, or for the first time.
abbrev pub put_named : {X : Type 0} → List ℕ → X → List (List ℕ × X) → List (List ℕ × X)
put_named name x entries = insert_entry (slice_cmp nat_cmp) entries name x
