use Rattle.heap_calls.proofs.Cited.{◌≡◌, ℕ, ◌+◌, ◌≤◌, ◌<◌, Bool, true, false, List, ◌∷◌, ◌++◌, length, take, drop, refl, sym, ◌∙◌, ap, cond}
use Rattle.heap_calls.proofs.Cited.{arith, Option, Result, Ok, Err, nat_le, inl, inr, ◌&&◌, le-leb, leb-true, leb-false, length-drop}
use Rattle.heap_calls.proofs.Cited.{length-take-le, OsErr, PROFILE, written, Block, content_of, with_content, Rest, IsRest, Spot}
use Rattle.heap_calls.proofs.Cited.{rename_spot, State, Memory, Answer, Held, for_found, refused, silent, written_at, block_named}
use Rattle.heap_calls.proofs.Cited.{block_move, moved_into, handle_number, pointer_number, memory_of, state_of, FindsHeld, Anchor, Log}
use Rattle.std.specs.Prelude.{◌⊎◌}
use Rattle.heap_calls.proofs.Numbering.Answering.{held, on_held, refused_by, content_of-rename}
use Rattle.heap_calls.proofs.Numbering.Changing.{written-done, written-outside}

-- What BlockMove answers, by what a store finds for its names.

-- both stretches lie within their blocks, by a test of both
pub both-within : (a b c d : ℕ) (r : Bool) → r ≡ (nat_le a b && nat_le c d) → r ≡ true → (a ≤ b) × (c ≤ d)
both-within a b c d r is said = cases (nat_le a b) refl (sym is ∙ said)
  where
    cases : (u : Bool) → nat_le a b ≡ u → (u && nat_le c d) ≡ true → (a ≤ b) × (c ≤ d)
    cases true e both = (leb-true a b e, leb-true c d both)
    cases false e both = cc

-- or one of them doesn't
pub one-past : (a b c d : ℕ) (r : Bool) → r ≡ (nat_le a b && nat_le c d) → r ≡ false → (b < a) ⊎ (d < c)
one-past a b c d r is said = cases (nat_le a b) refl (sym is ∙ said)
  where
    cases : (u : Bool) → nat_le a b ≡ u → (u && nat_le c d) ≡ false → (b < a) ⊎ (d < c)
    cases true e past = inr (leb-false c d past)
    cases false e past = inl (leb-false a b e)

module _ (value : Memory) (zone : List Block) (rest : Rest) (es : List Anchor) (log : Log)
    (is : memory_of zone rest es log ≡ value) (from to : Option ℕ) (i j n : ℕ)
  where
    abbrev state : State
    state = state_of zone rest.slots es

    abbrev seen : ℕ → Spot → Held
    seen h s = held h (rename_spot (handle_number es) (pointer_number es) s)

    abbrev answer : State → Held → Answer (Unit {0})
    answer s a = for_found (block_named to s) s (moved_into i j n a s)

    -- the first name leads nowhere
    pub first-refused : (code : OsErr) → FindsHeld (block_named from state) zone es (Err code)
        → silent (block_move from i to j n) value ≡ (Err code, value)
    first-refused code found = refused_by (block_named from) code zone rest es log value is found answer

    -- what the second leads to, in this heap
    second-named : (r : Result Held OsErr) → block_named to state ≡ r → block_named to value.heap ≡ r
    second-named r found = ap (λ (m : Memory). block_named to m.heap) (sym is) ∙ found

    module _ (h : ℕ) (s : Spot) (first : block_named from state ≡ Ok (seen h s)) where
      -- the bytes that are copied
      abbrev copied : List ℕ
      copied = take n (drop i (content_of (seen h s).at.here))

      same : content_of (seen h s).at.here ≡ content_of s.here
      same = content_of-rename (handle_number es) (pointer_number es) s.here

      -- the row by whether they end within the first block
      abbrev tested : Bool → State → Answer (Unit {0})
      tested t s = for_found (block_named to s) s (λ b. cond t (written_at j copied b.at s) (refused PROFILE s))

      by-test : (t : Bool) → nat_le (i + n) (length (content_of s.here)) ≡ t
          → silent (block_move from i to j n) value ≡ silent (tested t) value
      by-test t e = on_held (block_named from) zone rest es log value (seen h s) is first answer
          ∙ ap (λ (u : Bool). silent (tested u) value)
          (ap (λ (l : List ℕ). nat_le (i + n) (length l)) same ∙ e)

      -- the second name leads nowhere
      pub second-refused : (code : OsErr) → block_named to state ≡ Err code
          → silent (block_move from i to j n) value ≡ (Err code, value)
      second-refused code found = on_held (block_named from) zone rest es log value (seen h s) is first answer
          ∙ ap (λ (r : Result Held OsErr). silent (λ s'. for_found r s' (moved_into i j n (seen h s) s')) value)
          (second-named (Err code) found)

      module _ (k : ℕ) (t : Spot) (second : block_named to state ≡ Ok (seen k t)) where
        -- the bytes would end past the one or the other
        pub move-outside : (length (content_of s.here) < i + n) ⊎ (length (content_of t.here) < j + n)
            → silent (block_move from i to j n) value ≡ (Err PROFILE, value)
        move-outside past = cases (nat_le (i + n) (length (content_of s.here))) refl past
          where
            long : i + n ≤ length (content_of s.here) → length copied ≡ n
            long fits =
                let c = content_of (seen h s).at.here in
                let l = ap length same in
                let d = length-drop i c in
                length-take-le n (drop i c) (omega arith)

            cases : (u : Bool) → nat_le (i + n) (length (content_of s.here)) ≡ u
                → (length (content_of s.here) < i + n) ⊎ (length (content_of t.here) < j + n)
                → silent (block_move from i to j n) value ≡ (Err PROFILE, value)
            cases false e past = by-test false e
                ∙ ap (λ (r : Result Held OsErr). silent {T = Unit {0}} (λ s'. for_found r s' (λ b. refused PROFILE s')) value)
                (second-named (Ok (seen k t)) second)
            cases true e (inl less) = let fits = leb-true (i + n) (length (content_of s.here)) e in absurd (omega arith)
            cases true e (inr less) =
                let fits = leb-true (i + n) (length (content_of s.here)) e in
                by-test true e ∙ written-outside value zone rest es log (block_named to) k j copied t is second
                (omega (arith, long fits))

        -- and where they don't
        pub move-done : (zone' : List Block) (rest' : Rest) → i + n ≤ length (content_of s.here)
            → j + n ≤ length (content_of t.here) → IsRest rest rest'
            → zone' ≡ t.below ++ with_content (written j (take n (drop i (content_of s.here))) (content_of t.here)) t.here
            ∷ t.above
            → silent (block_move from i to j n) value ≡ (Ok tt, memory_of zone' rest' es log)
        move-done zone' rest' fits within now done =
            by-test true (le-leb (i + n) (length (content_of s.here)) fits)
            ∙ written-done value zone zone' rest rest' es log (block_named to) k j copied t is second now
            (let long : length copied ≡ n =
            (let c = content_of (seen h s).at.here in
            let l = ap length same in
            let d = length-drop i c in
            length-take-le n (drop i c) (omega arith)) in omega arith)
            (done ∙ ap (λ (l : List ℕ). t.below ++ with_content (written j (take n (drop i l)) (content_of t.here)) t.here
            ∷ t.above) (sym same))
