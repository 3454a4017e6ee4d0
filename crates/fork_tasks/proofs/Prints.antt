use Rattle.fork_tasks.proofs.Cited.{◌≡◌, ℕ, List, [], ◌++◌, Option, refl, sym, ◌∙◌, ap, append_assoc, append_known, known-nil, known-append}
use Rattle.fork_tasks.proofs.Cited.{PrintsBut, PrintsFront}

-- Bytes that are printed one after the other.

-- nothing was printed
pub nothing : (bytes : List ℕ) (a : Option (List ℕ)) → PrintsFront bytes a a
nothing bytes a = (bytes, ([], refl, known-nil a))

-- what waited was printed, but for a rest
pub further : (bytes mid rest : List ℕ) (a b c : Option (List ℕ)) → PrintsBut bytes mid a b → PrintsBut mid rest b c
    → PrintsBut bytes rest a c
further bytes mid rest a b c (front, is, grown) (more, was, next) = (
  front ++ more,
  is ∙ ap (λ l. front ++ l) was ∙ sym (append_assoc front more rest),
  next ∙ ap (λ k. append_known k more) grown ∙ known-append a front more,
)

-- a front of what waited was printed
pub front-further : (bytes mid sent : List ℕ) (a b c : Option (List ℕ)) → PrintsBut bytes mid a b → sent ≡ mid
    → PrintsFront sent b c → PrintsFront bytes a c
front-further bytes mid sent a b c before same (rest, (front, is, grown)) =
    (rest, further bytes mid rest a b c before (front, sym same ∙ is, grown))

-- the first of what waited was printed, but for a rest
pub first-further : (bytes mid first rest more : List ℕ) (a b c : Option (List ℕ)) → PrintsBut bytes mid a b
    → mid ≡ first ++ more → PrintsBut first rest b c → PrintsBut bytes (rest ++ more) a c
first-further bytes mid first rest more a b c before split (front, is, grown) =
    further bytes mid (rest ++ more) a b c before
    (front, split ∙ ap (λ l. l ++ more) is ∙ append_assoc front rest more, grown)

-- a front of the first of what waited was printed
pub first-front-further : (bytes mid first more : List ℕ) (a b c : Option (List ℕ)) → PrintsBut bytes mid a b
    → mid ≡ first ++ more → PrintsFront first b c → PrintsFront bytes a c
first-front-further bytes mid first more a b c before split (rest, now) =
    (rest ++ more, first-further bytes mid first rest more a b c before split now)
