use Rattle.std.specs.Prelude.{ℕ, zero, suc, Bool, List, [], ◌∷◌}
use Rattle.res_calls.specs.declared.undoing.Replaced.{Replaced}
use Rattle.res_calls.specs.Files.{File}

-- What updates replaced of the files of an application, and the files as they were before the updates.

-- The files where the file at place `i` has the given fork and the given mark: whether the fork was written.
abbrev pub given_back : ℕ → List ℕ → Bool → List File → List File
given_back i fork mark [] = []
given_back zero fork mark (f ∷ files) = record f { fork = fork; written = mark } ∷ files
given_back (suc i) fork mark (f ∷ files) = f ∷ given_back i fork mark files

-- The files where the fork that an update replaced stands in its place again.
abbrev pub put_back : Replaced → List File → List File
put_back u files = given_back u.place u.fork.items u.written files

-- The files where the forks that updates replaced stand in their places again; the last replaced is put back first.
abbrev pub undone : List Replaced → List File → List File
undone [] files = files
undone (u ∷ undo) files = put_back u (undone undo files)
