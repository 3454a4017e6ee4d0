-- Slot words that lead to their blocks.
use Rattle.zone_bytes.proofs.Cited.{◌≡◌, ℕ, ◌+◌, ◌≤◌, ◌⊎◌, inl, inr, List, [], ◌∷◌, ◌++◌, length, sym, refl, ap, ◌∙◌, subst, arith, written}
use Rattle.zone_bytes.proofs.Cited.{piece, piece-written_below, piece-written_above, Block, Relocatable, size, sizes, names, names_of}
use Rattle.zone_bytes.proofs.Cited.{Leads, Apart, Each, Pairs}

module _ {A : Type 0} (P : A → Type 0) where
  pub each-append : (xs ys : List A) → Each P xs → Each P ys → Each P (xs ++ ys)
  each-append [] ys h k = k
  each-append (x ∷ xs) ys h k = (h.0, each-append xs ys h.1 k)

  pub each-left : (xs ys : List A) → Each P (xs ++ ys) → Each P xs
  each-left [] ys h = tt
  each-left (x ∷ xs) ys h = (h.0, each-left xs ys h.1)

  pub each-right : (xs ys : List A) → Each P (xs ++ ys) → Each P ys
  each-right [] ys h = h
  each-right (x ∷ xs) ys h = each-right xs ys h.1

  pub each-map : (Q : A → Type 0) → ((x : A) → P x → Q x) → (xs : List A) → Each P xs → Each Q xs
  each-map Q f [] h = tt
  each-map Q f (x ∷ xs) h = (f x h.0, each-map Q f xs h.1)

pub apart-turned : (s t : ℕ) → Apart s t → Apart t s
apart-turned s t h = grind arith

-- an element against those before it
pub pairs-before : (s : ℕ) (xs ys : List ℕ) → Pairs Apart (xs ++ s ∷ ys) → Each (Apart s) xs
pairs-before s [] ys h = tt
pairs-before s (x ∷ xs) ys h =
    (apart-turned x s (each-right (Apart x) xs (s ∷ ys) h.0).0, pairs-before s xs ys h.1)

-- and against those after it
pub pairs-after : (s : ℕ) (xs ys : List ℕ) → Pairs Apart (xs ++ s ∷ ys) → Each (Apart s) ys
pairs-after s [] ys h = h.0
pairs-after s (x ∷ xs) ys h = pairs-after s xs ys h.1

pub names-append : (ls ms : List Block) → names (ls ++ ms) ≡ names ls ++ names ms
names-append [] ms = refl
names-append (b ∷ ls) ms = ap (λ q. names_of b ++ q) (names-append ls ms) ∙ sym (grind arith)

pub each-names : (P : ℕ → Type 0) (ls ms : List Block) → Each P (names (ls ++ ms)) → Each P (names ls) × Each P
    (names ms)
each-names P ls ms e = let k = subst (Each P) (names-append ls ms) e in (each-left P _ _ k, each-right P _ _ k)

-- the word at s and n bytes from `at` on have no byte in common
abbrev pub Clear : ℕ → ℕ → ℕ → Type 0
Clear at n s = (s + 4 ≤ at) ⊎ (at + n ≤ s)

pub piece-clear : (at : ℕ) (ys xs : List ℕ) (s : ℕ) → at ≤ length xs → Clear at (length ys) s
    → piece s 4 (written at ys xs) ≡ piece s 4 xs
piece-clear at ys xs s l (inl h) = piece-written_below _ _ _ s 4 h l
piece-clear at ys xs s l (inr h) = piece-written_above _ _ _ s 4 h l

module _ (xs : List ℕ) where
  pub leads-append : (o : ℕ) (ls ms : List Block) → Leads o ls xs → Leads (o + sizes ls) ms xs → Leads o (ls ++ ms) xs
  leads-append o [] ms h k = let e : o + 0 ≡ o = omega arith in subst (λ j. Leads j ms xs) e k
  leads-append o (b ∷ ls) ms h k = (h.0, leads-append (o + size b) ls ms h.1 (grind arith))

  pub leads-left : (o : ℕ) (ls ms : List Block) → Leads o (ls ++ ms) xs → Leads o ls xs
  leads-left o [] ms h = tt
  leads-left o (b ∷ ls) ms h = (h.0, leads-left (o + size b) ls ms h.1)

  pub leads-right : (o : ℕ) (ls ms : List Block) → Leads o (ls ++ ms) xs → Leads (o + sizes ls) ms xs
  leads-right o [] ms h = let e : o ≡ o + 0 = omega arith in subst (λ j. Leads j ms xs) e h
  leads-right o (b ∷ ls) ms h = subst (λ j. Leads j ms xs) (omega arith) (leads-right (o + size b) ls ms h.1)

pub leads-from : (xs : List ℕ) (ls ms : List Block) (lo : ℕ) → sizes ls ≡ lo → Leads 0 (ls ++ ms) xs → Leads lo ms xs
leads-from xs ls ms lo a h = grind (arith, leads-right)

pub leads-joined : (xs : List ℕ) (ls ms ns : List Block) (lo hi : ℕ) → sizes ls ≡ lo → lo + sizes ms ≡ hi
    → Leads 0 ls xs → Leads lo ms xs → Leads hi ns xs → Leads 0 (ls ++ (ms ++ ns)) xs
leads-joined xs ls ms ns lo hi a b h k m = grind (arith, leads-append)

-- the words of the slots are the same
pub leads-same : (old new : List ℕ) (o : ℕ) (blocks : List Block)
    → Each (λ s. piece s 4 new ≡ piece s 4 old) (names blocks) → Leads o blocks old → Leads o blocks new
leads-same old new o [] e h = tt
leads-same old new o (Relocatable slot flags content ∷ blocks) e h =
    (e.0 ∙ h.0, leads-same old new (o + size (Relocatable slot flags content)) blocks e.1 h.1)
leads-same old new o (b ∷ blocks) e h = (tt, leads-same old new (o + size b) blocks e h.1)

-- a write that is clear of the blocks' slots
pub leads-written : (at : ℕ) (ys xs : List ℕ) (o : ℕ) (blocks : List Block) → at ≤ length xs
    → Each (Clear at (length ys)) (names blocks) → Leads o blocks xs → Leads o blocks (written at ys xs)
leads-written at ys xs o blocks l c h = grind (arith, leads-same, each-map, piece-clear)
