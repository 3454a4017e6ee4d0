use Rattle.std.specs.Prelude.{ℕ, zero, suc, ◌≡◌, nat_lt, Bool, true, false, ◌&&◌, ◌||◌, not, List, [], ◌∷◌, ◌++◌, map, length}
use Rattle.std.specs.Prelude.{bytes_eq, if◌then◌else◌}
use Rattle.std.specs.List.{list_any}
use Rattle.script_text.specs.Job.{Input, System, App, File, is_system, app_names, given_names, has_name}

-- What is known of the inputs of a job while they are read, so that a new one is not compared with each of them.

-- An application: its name, and the names of the files that lines give to it, in the order of the lines.
pub record KnownApp : Type 0 where
  pub name : List ℕ
  pub files : List (List ℕ)

-- Whether there is a System file, and the applications in the order of their lines.
pub record Known : Type 0 where
  pub system : Bool
  pub apps : List KnownApp

-- What is known of no inputs.
abbrev pub none_known : Known
none_known = record { system = false; apps = [] }

-- The names of the applications.
abbrev pub known_names : List KnownApp → List (List ℕ)
known_names apps = map (λ a. a.name) apps

-- The names of the files that lines give to the n-th application.
abbrev pub known_files : ℕ → List KnownApp → List (List ℕ)
known_files n [] = []
known_files zero (a ∷ apps) = a.files
known_files (suc n) (a ∷ apps) = known_files n apps

-- Names with one more, which stands last if it is new.
abbrev pub put_name : List ℕ → List (List ℕ) → List (List ℕ)
put_name name names = if has_name name names then names else names ++ name ∷ []

-- An application that has one more file.
abbrev pub with_file : List ℕ → KnownApp → KnownApp
with_file name a = record { name = a.name; files = put_name name a.files }

-- The applications, of which the n-th has one more file.
abbrev pub with_file_at : ℕ → List ℕ → List KnownApp → List KnownApp
with_file_at n name [] = []
with_file_at zero name (a ∷ apps) = with_file name a ∷ apps
with_file_at (suc n) name (a ∷ apps) = a ∷ with_file_at n name apps

-- What is known once there is one more input.
abbrev pub known_with : Known → Input → Known
known_with known (System path) = record { system = true; apps = known.apps }
known_with known (App name fork script) = record {
  system = known.system;
  apps = known.apps ++ record { name = name; files = [] } ∷ [];
}
known_with known (File app name path) = record { system = known.system; apps = with_file_at app name known.apps }

-- Whether an application may have one more file, of this name.
abbrev pub may_have : List ℕ → KnownApp → Bool
may_have name a = nat_lt (length a.files) 255 && not (bytes_eq name a.name || has_name name a.files)

-- Whether the n-th application is there, and may have one more file, of this name.
abbrev pub may_have_at : ℕ → List ℕ → List KnownApp → Bool
may_have_at n name [] = false
may_have_at zero name (a ∷ apps) = may_have name a
may_have_at (suc n) name (a ∷ apps) = may_have_at n name apps

-- Whether an input may follow those of which this is known.
abbrev pub may_join : Known → Input → Bool
may_join known (System path) = not known.system
may_join known (App name fork script) = nat_lt (length known.apps) 64 && not (has_name name (known_names known.apps))
may_join known (File app name path) = may_have_at app name known.apps

-- What is known is so of these inputs.
pub record IsKnown (known : Known) (inputs : List Input) : Type 0 where
  pub system : known.system ≡ list_any is_system inputs
  pub names : known_names known.apps ≡ app_names inputs
  pub files : (n : ℕ) → known_files n known.apps ≡ given_names n inputs
