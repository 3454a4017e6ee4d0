-- Bytes of one block written into another.
use Rattle.zone_bytes.proofs.Cited.{◌≡◌, ℕ, ◌+◌, ◌-◌, ◌≤◌, Some, List, ◌∷◌, ◌++◌, length, take, drop, sym, ap, ◌∙◌, arith, length-take-le}
use Rattle.zone_bytes.proofs.Cited.{length-drop, drop-take, drop-drop, take-take, written, free_sum, count, is_masters, content_of}
use Rattle.zone_bytes.proofs.Cited.{with_content, Spot, spot_at, zone_in, slot_in, IsSound}
use Rattle.zone_bytes.proofs.Blocks.Writes.{content-room, written-in, masters-kept, free-kept}
use Rattle.zone_bytes.proofs.Laws.Lawful.{Made, kept-made}
use Rattle.zone_bytes.proofs.Placed.Standing.{Standing, standing, held-piece}

-- a block at a place that holds so many bytes
pub holds-inside : (xs : List ℕ) (place n : ℕ) (s : Spot) → Standing xs place s → n ≤ length (content_of s.here)
    → place + 16 + n ≤ length xs
holds-inside xs place n s a l = omega (arith, content-room)

-- the bytes of a piece that begins at a place
piece-inside : (xs content : List ℕ) (at start n : ℕ) → start + n ≤ length content → take (length content) (drop at xs) ≡ content
    → take n (drop (at + start) xs) ≡ take n (drop start content)
piece-inside xs content at start n l e =
    let more = length content - (start + n) in
    let sum : length content ≡ start + (n + more) = omega arith in
    let cut : take n (drop start (take (start + (n + more)) (drop at xs))) ≡ take n (drop (at + start) xs) =
    ap (take n) (drop-take start (n + more) (drop at xs)) ∙ take-take n (n + more) (drop start (drop at xs)) (omega arith)
    ∙ ap (take n) (drop-drop start at xs) in
    sym cut ∙ ap (λ (k : ℕ). take n (drop start (take k (drop at xs)))) (sym sum) ∙ ap (λ l. take n (drop start l)) e

module _ (xs : List ℕ) (first unused source start n place from : ℕ) (i : IsSound xs first unused) (t s : Spot)
    (at : spot_at source (zone_in xs) ≡ Some t) (to : spot_at place (zone_in xs) ≡ Some s)
    (l : start + n ≤ length (content_of t.here)) (w : from + n ≤ length (content_of s.here)) where
  abbrev x : List ℕ
  x = take n (drop start (content_of t.here))

  abbrev new : List ℕ
  new = written (place + 16 + from) (take n (drop (source + 16 + start) xs)) xs

  pub copied : Made new first unused (s.below
      ++ with_content (written from x (content_of s.here)) s.here ∷ s.above) (slot_in xs)
  copied =
      let a = standing xs first unused place i s to in
      let b = standing xs first unused source i t at in
      let rest = length-drop start (content_of t.here) in
      let e : take n (drop (source + 16 + start) xs) ≡ x =
      piece-inside xs (content_of t.here) (source + 16) start n l (held-piece _ _ source xs b.tile) in
      rw e (written-in _ _ _ i _ _ x _ _ _ a.whole a.low
      (omega (arith, length-take-le n (drop start (content_of t.here)) (omega arith))))

  pub copied-kept : (free : ℕ) → free ≡ free_sum (zone_in xs) → free ≡ free_sum (zone_in new)
  copied-kept free f =
      kept-made _ _ _ _ _ (slot_in xs) copied (f ∙ ap free_sum (standing xs first unused place i s to).whole ∙ sym
      (free-kept _ _ _ _))

  pub copied-masters : count is_masters (zone_in new) ≡ count is_masters (zone_in xs)
  copied-masters =
      ap (count is_masters) copied.zone ∙ masters-kept _ _ _ _
      ∙ ap (count is_masters) (sym (standing _ _ _ _ i s to).whole)
