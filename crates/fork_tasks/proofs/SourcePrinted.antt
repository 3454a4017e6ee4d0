-- A fork that was read once the types of files are known, and what is printed of it.
use Rattle.fork_tasks.proofs.Cited.{◌≡◌, ◌∷◌, ◌∙◌, ℕ, List, [], Option, Ok, map, subst, Bor, Declared, Printed, Printing, Access, Read}
use Rattle.fork_tasks.proofs.Cited.{and_then, IsUnread, Knows, IsUnknown, Delivers, IsUndelivered, Message, IsForkFault, source_of}
use Rattle.fork_tasks.proofs.Cited.{PrintsSource, IsSourceUnprinted}
use Rattle.fork_tasks.specs.SourcePrinting.{types_read, Unknown, Unread, Unmade, Unprinted}

-- the paths of the files of declarations, as they were handed on
knows_so : (r : Printing) (paths : List (Bor (List ℕ))) (known : List Declared) (old new : Option (List Access))
    → paths ≡ r.types.items → Knows (map (λ path. path.now) paths) known old new → Knows (types_read r) known old new
knows_so r paths known old new is knows = subst (λ l. Knows (map (λ path. path.now) l) known old new) is knows

-- the types of a file are not declared
pub unknown : (r : Printing) (paths : List (Bor (List ℕ))) (p q : Option (List ℕ)) (old new : Option (List Access))
    (message : Message) → q ≡ p → paths ≡ r.types.items → IsUnknown (map (λ path. path.now) paths) old new message
    → IsSourceUnprinted r p q old new message
unknown r paths p q old new message silent is stops =
    Unknown silent (subst (λ l. IsUnknown (map (λ path. path.now) l) old new message) is stops)

-- the fork can't be read
pub unread : (r : Printing) (paths : List (Bor (List ℕ))) (known : List Declared) (p mid q : Option (List ℕ))
    (old then new : Option (List Access)) (message : Message) → mid ≡ p → q ≡ mid → paths ≡ r.types.items
    → Knows (map (λ path. path.now) paths) known old then → IsUnread r.fork.now then new message
    → IsSourceUnprinted r p q old new message
unread r paths known p mid q old then new message silent quiet is knows stops =
    Unread known then (quiet ∙ silent) (knows_so r paths known old then is knows) stops

-- nothing is made of the fork's bytes
pub unmade : (r : Printing) (paths : List (Bor (List ℕ))) (known : List Declared) (bytes read : List ℕ) (p mid q : Option (List ℕ))
    (old then new : Option (List Access)) (message : Message) → mid ≡ p → q ≡ mid → paths ≡ r.types.items
    → Knows (map (λ path. path.now) paths) known old then
    → new ≡ and_then then (Read r.fork.now read ∷ []) → bytes ≡ read → IsForkFault r.fork.now (source_of r known bytes) message
    → IsSourceUnprinted r p q old new message
unmade r paths known bytes read p mid q old then new message silent quiet are knows is same fault =
    Unmade known then read (quiet ∙ silent) (knows_so r paths known old then are knows) is
    (subst (λ b. IsForkFault r.fork.now (source_of r known b) message) same fault)

-- what was made is not printed to its end
pub unprinted : (r : Printing) (paths : List (Bor (List ℕ))) (known : List Declared) (bytes read out sent : List ℕ)
    (p first mid q : Option (List ℕ)) (old then last new : Option (List Access)) (message : Message) → first ≡ p → mid ≡ first
    → paths ≡ r.types.items → Knows (map (λ path. path.now) paths) known old then → last ≡ and_then then (Read r.fork.now read ∷ [])
    → bytes ≡ read → sent ≡ out
    → source_of r known bytes ≡ Ok out → IsUndelivered Printed sent mid q last new message
    → IsSourceUnprinted r p q old new message
unprinted r paths known bytes read out sent p first mid q old then last new message silent quiet are knows is same all made_so h =
    Unprinted known then read out (knows_so r paths known old then are knows) (subst (λ b. source_of r known b ≡ Ok out) same made_so)
    (subst (λ x. IsUndelivered Printed x p q (and_then then (Read r.fork.now read ∷ [])) new message) all
    (subst (λ a. IsUndelivered Printed sent p q a new message) is
    (subst (λ x. IsUndelivered Printed sent x q last new message) (quiet ∙ silent) h)))

-- all of it is printed
pub prints : (r : Printing) (paths : List (Bor (List ℕ))) (known : List Declared) (bytes read out sent : List ℕ)
    (p first mid q : Option (List ℕ)) (old then last new : Option (List Access)) → first ≡ p → mid ≡ first
    → paths ≡ r.types.items → Knows (map (λ path. path.now) paths) known old then → last ≡ and_then then (Read r.fork.now read ∷ [])
    → bytes ≡ read → sent ≡ out
    → source_of r known bytes ≡ Ok out → Delivers Printed sent mid q last new → PrintsSource r p q old new
prints r paths known bytes read out sent p first mid q old then last new silent quiet are knows is same all made_so h = record {
  known = known;
  mid = then;
  knows = knows_so r paths known old then are knows;
  bytes = read;
  out = out;
  made = subst (λ b. source_of r known b ≡ Ok out) same made_so;
  prints = subst (λ x. Delivers Printed x p q (and_then then (Read r.fork.now read ∷ [])) new) all
      (subst (λ a. Delivers Printed sent p q a new) is
      (subst (λ x. Delivers Printed sent x q last new) (quiet ∙ silent) h));
}
