-- A stretch of a zone that is written anew.
use Rattle.zone_bytes.proofs.Cited.{◌≡◌, ℕ, ◌+◌, ◌-◌, ◌≤◌, inl, inr, List, ◌++◌, length, take, drop, sym, refl, ap, ◌∙◌, subst, arith}
use Rattle.zone_bytes.proofs.Cited.{take-take, drop-drop, drop-take, take-append-drop, take-add, written, piece, length-written}
use Rattle.zone_bytes.proofs.Cited.{take-written_below, drop-written_above, Block, sizes, Tiles, names, Leads, Each, SameOutside}
use Rattle.zone_bytes.proofs.Tiles.Tiling.{tiles-append, tiles-split}
use Rattle.zone_bytes.proofs.Tiles.Leading.{Clear, leads-same, each-map, leads-joined, leads-left, leads-right}

pub outside-same : (lo hi : ℕ) (xs : List ℕ) → lo ≤ hi → hi ≤ length xs → SameOutside lo hi xs xs
outside-same lo hi xs l h = record { kept = refl; ordered = (l, h); low = refl; high = refl }

-- one more write inside
pub outside-written : (lo hi : ℕ) (old new : List ℕ) (at : ℕ) (ys : List ℕ) → lo ≤ at → at + length ys ≤ hi
    → SameOutside lo hi old new → SameOutside lo hi old (written at ys new)
outside-written lo hi old new at ys l h s = grind (arith, length-written, take-written_below, drop-written_above)

-- a word outside is the same
pub piece-outside : (lo hi : ℕ) (old new : List ℕ) (s : ℕ) → SameOutside lo hi old new → Clear lo (hi - lo) s
    → piece s 4 new ≡ piece s 4 old
piece-outside lo hi old new s o (inl h) =
    let whole : (xs : List ℕ) → piece s 4 xs ≡ drop s (take (s + 4) (take lo xs)) = λ xs. sym
    (ap (drop s) (take-take (s + 4) lo xs h) ∙ drop-take s 4 xs) in
    whole new ∙ ap (λ k. drop s (take (s + 4) k)) o.low ∙ sym (whole old)
piece-outside lo hi old new s o (inr h) =
    let whole : (xs : List ℕ) → piece s 4 xs ≡ take 4 (drop (s - hi) (drop hi xs)) = λ xs. ap
    (λ k. take 4 (drop k xs)) (sym (omega arith)) ∙ ap (take 4) (sym (drop-drop (s - hi) hi xs)) in
    whole new ∙ ap (λ k. take 4 (drop (s - hi) k)) o.high ∙ sym (whole old)

pub leads-outside : (lo hi : ℕ) (old new : List ℕ) (o : ℕ) (blocks : List Block) → SameOutside lo hi old new
    → Each (Clear lo (hi - lo)) (names blocks) → Leads o blocks old → Leads o blocks new
leads-outside lo hi old new o blocks s c h = grind (arith, leads-same, each-map, piece-outside)

module _ (head : Block → List ℕ) where
  -- three stretches of blocks
  pub tiles-joined : (new : List ℕ) (ls here ns : List Block) (lo hi : ℕ) → lo ≤ hi → Tiles head (take lo new) ls
      → Tiles head (piece lo (hi - lo) new) here → Tiles head (drop hi new) ns → Tiles head new (ls ++ (here ++ ns))
  tiles-joined new ls here ns lo hi o low h high =
      let e : lo + (hi - lo) ≡ hi = omega arith in
      subst (λ k. Tiles head k (ls ++ (here ++ ns))) (take-append-drop lo new) (tiles-append _ _ _ ls (here ++ ns) low
      (subst (λ k. Tiles head k (here ++ ns)) (take-append-drop (hi - lo) (drop lo new))
      (tiles-append _ _ _ here ns h (rw (drop-drop (hi - lo) lo new, e) high))))

  -- two stretches, one after the other
  pub tiles-next : (xs : List ℕ) (at m n : ℕ) (ls ms : List Block) → Tiles head (piece at m xs) ls
      → Tiles head (piece (at + m) n xs) ms → Tiles head (piece at (m + n) xs) (ls ++ ms)
  tiles-next xs at m n ls ms t u = rw (take-add m n (drop at xs), drop-drop m at xs) (tiles-append _ _ _ ls ms t u)

  pub tiles-parts : (xs : List ℕ) (ls ms ns : List Block) (lo hi : ℕ) → sizes ls ≡ lo → lo + sizes ms ≡ hi
      → Tiles head xs (ls ++ (ms ++ ns)) → Tiles head (take lo xs) ls × Tiles head (drop lo xs) (ms ++ ns)
      × Tiles head (piece lo (hi - lo) xs) ms × Tiles head (drop hi xs) ns
  tiles-parts xs ls ms ns lo hi a b t = grind (arith, tiles-split, drop-drop)

  -- a stretch of blocks in the place of another
  pub tiles-splice : (old new : List ℕ) (ls ms ns here : List Block) (lo hi : ℕ) → sizes ls ≡ lo → lo + sizes ms ≡ hi
      → Tiles head old (ls ++ (ms ++ ns)) → SameOutside lo hi old new
      → Tiles head (piece lo (hi - lo) new) here → Tiles head new (ls ++ (here ++ ns))
  tiles-splice old new ls ms ns here lo hi a b t s h =
      let p = tiles-parts old ls ms ns lo hi a b t in
      tiles-joined new ls here ns lo hi s.ordered.0 (rw s.low p.0) h (rw s.high p.3)

-- where the slots of the other blocks lead
pub leads-splice : (old new : List ℕ) (ls ms ns here : List Block) (lo hi : ℕ) → sizes ls ≡ lo → lo + sizes ms ≡ hi
    → sizes here ≡ sizes ms → Leads 0 (ls ++ (ms ++ ns)) old → SameOutside lo hi old new
    → Each (Clear lo (hi - lo)) (names ls) → Each (Clear lo (hi - lo)) (names ns) → Leads lo here new
    → Leads 0 (ls ++ (here ++ ns)) new
leads-splice old new ls ms ns here lo hi a b e t s c d h =
    grind (arith, leads-right, leads-left, leads-joined, leads-outside)
