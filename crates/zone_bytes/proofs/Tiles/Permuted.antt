-- Names in another order.
use Rattle.zone_bytes.proofs.Cited.{◌≡◌, ℕ, inl, inr, List, [], ◌∷◌, ◌++◌, refl, subst, arith, append-nil, Apart, Each, Pairs, Has}
use Rattle.zone_bytes.proofs.Tiles.Leading.{apart-turned, each-append}
use Rattle.zone_bytes.proofs.SlotTable.Tables.{each-has}

-- the same names in another order
pub record SameNames (was now : List ℕ) : Type 0 where
  pub to : (s : ℕ) → Has was s → Has now s
  pub from : (s : ℕ) → Has now s → Has was s
  pub apart : Pairs Apart was → Pairs Apart now

pub each-of : (P : ℕ → Type 0) (xs : List ℕ) → ((s : ℕ) → Has xs s → P s) → Each P xs
each-of P [] f = tt
each-of P (x ∷ xs) f = (f x (inl refl), each-of P xs (λ s h. f s (inr h)))

-- what holds of each name holds of each in another order
pub each-moved : (P : ℕ → Type 0) (was now : List ℕ) → ((s : ℕ) → Has now s → Has was s) → Each P was → Each P now
each-moved P was now f e = each-of P _ (λ s h. each-has P _ s e (f s h))

pub has-left : (xs ys : List ℕ) (s : ℕ) → Has xs s → Has (xs ++ ys) s
has-left [] ys s h = absurd h
has-left (x ∷ xs) ys s (inl e) = inl e
has-left (x ∷ xs) ys s (inr h) = inr (has-left xs ys s h)

pub has-right : (xs ys : List ℕ) (s : ℕ) → Has ys s → Has (xs ++ ys) s
has-right [] ys s h = h
has-right (x ∷ xs) ys s h = inr (has-right xs ys s h)

-- each name of the one list is apart from each of the other
abbrev pub Across : List ℕ → List ℕ → Type 0
Across xs ys = Each (λ x. Each (Apart x) ys) xs

pub pairs-join : (xs ys : List ℕ) → Pairs Apart xs → Pairs Apart ys → Across xs ys → Pairs Apart (xs ++ ys)
pairs-join [] ys p q a = q
pairs-join (x ∷ xs) ys p q a = (each-append (Apart x) _ _ p.0 a.0, pairs-join xs ys p.1 q a.1)

-- and, where one of them is first, of that one and of each other
pub each-front : (P : ℕ → Type 0) {was now : List ℕ} {s : ℕ} → SameNames was (s ∷ now) → Each P was → P s × Each P now
each-front P {was} {now} {s} n e = each-moved P was (s ∷ now) n.from e

pub same-names : (was now : List ℕ) → was ≡ now → SameNames was now
same-names was now e = subst (λ k. SameNames was k) e (record { to = λ s h. h; from = λ s h. h; apart = λ p. p })

again : (ks ls ms : List ℕ) → SameNames ks ls → SameNames ls ms → SameNames ks ms
again ks ls ms p q = search (p.to, q.to, p.from, q.from, p.apart, q.apart)

under : (x : ℕ) (ls ms : List ℕ) → SameNames ls ms → SameNames (x ∷ ls) (x ∷ ms)
under x ls ms p = grind (arith, each-moved)

-- one of the names stands first
pub front : (ls : List ℕ) (s : ℕ) (ms : List ℕ) → SameNames (ls ++ s ∷ ms) (s ∷ (ls ++ ms))
front [] s ms = same-names _ _ refl
front (x ∷ ls) s ms = again _ _ _ (under x _ _ (front ls s ms)) (grind (arith, apart-turned))

-- and goes back among the others
pub among : (ls : List ℕ) (s : ℕ) (ms : List ℕ) → SameNames (s ∷ (ls ++ ms)) (ls ++ s ∷ ms)
among [] s ms = same-names _ _ refl
among (x ∷ ls) s ms = again _ _ _ (grind (arith, apart-turned)) (under x _ _ (among ls s ms))

-- two stretches of names change places
behind : (ls ms : List ℕ) → SameNames (ls ++ ms) (ms ++ ls)
behind ls [] = same-names _ _ (append-nil ls)
behind ls (m ∷ ms) = again _ _ _ (front ls m ms) (under m _ _ (behind ls ms))

below : (ks ls ms : List ℕ) → SameNames ls ms → SameNames (ks ++ ls) (ks ++ ms)
below [] ls ms p = p
below (k ∷ ks) ls ms p = under k _ _ (below ks ls ms p)

pub turned : (ks ls ms ns : List ℕ) → SameNames (ks ++ ((ls ++ ms) ++ ns)) (ks ++ ((ms ++ ls) ++ ns))
turned ks ls ms ns = below ks _ _ (again _ _ _ (behind (ls ++ ms) ns)
    (again _ _ _ (below ns _ _ (behind ls ms)) (behind ns (ms ++ ls))))
