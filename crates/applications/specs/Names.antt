use Rattle.std.specs.Prelude.{ℕ, Option, Some, None, List, [], ◌∷◌, bytes_eq, if◌then◌else◌}
use Rattle.mac_words.specs.declared.name.Label.{Label}
use Rattle.applications.specs.declared.names.Bound.{Bound}

-- The numbers that names are bound to, in the order in which the names were first bound.
abbrev pub Bindings : Type 0
Bindings = List (List ℕ × ℕ)

-- The number that a name is bound to, or None for an unbound name.
abbrev pub bound_to : List ℕ → Bindings → Option ℕ
bound_to name [] = None
bound_to name (b ∷ names) = if bytes_eq name b.0 then Some b.1 else bound_to name names

-- The bindings where a name is bound to a number, again or for the first time.
abbrev pub bind : List ℕ → ℕ → Bindings → Bindings
bind name number [] = (name, number) ∷ []
bind name number (b ∷ names) = if bytes_eq name b.0 then (b.0, number) ∷ names else b ∷ bind name number names

-- A name with the number that the name is bound to.
abbrev pub binding : Label × ℕ → List ℕ × ℕ
binding e = (e.0.0.items, e.1)

-- A name that is lent with its number.
abbrev pub lent_binding : Bound → List ℕ × ℕ
lent_binding b = (b.name.now.0.items, b.number)
