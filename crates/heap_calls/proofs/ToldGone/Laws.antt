use Rattle.heap_calls.proofs.Cited.{◌≡◌, ℕ, ◌+◌, ◌≤◌, ◌<◌, Bool, true, false, ◌&&◌, ◌||◌, ◌==◌, List, [], ◌∷◌, ◌++◌, refl, sym, ◌∙◌, ap}
use Rattle.heap_calls.proofs.Cited.{subst, cond, arith, Option, Some, None, Result, Ok, Err, ◌⊎◌, inl, inr, length, nat_lt, is_some}
use Rattle.heap_calls.proofs.Cited.{replicate, cond-true, cond-false, Decides-eqb, nat_tests, bytes_eq-Decides, bytes_eq, if◌then◌else◌}
use Rattle.heap_calls.proofs.Cited.{OsErr, PURGED, Told, phys, Flags, Block, Free, Nonrelocatable, Masters, Relocatable, sizes, total}
use Rattle.heap_calls.proofs.Cited.{count, is_purgeable, is_relocatable, resized, no_flags, has, spot, freed, GREATEST_ZONE, count-none}
use Rattle.heap_calls.proofs.Cited.{has-count, unless, freed-is, State, Memory, Known, handle_at, nothing, is_loose, Asked, answered, row}
use Rattle.heap_calls.proofs.Cited.{keep_code, gate, gated, notes, takes_block, Gone, gone_of, gone_unless, PutsNone, gone_in, told_of}
use Rattle.heap_calls.proofs.Cited.{bytes_in, TellsWhatGoes, TellsOfPurgeable, StepTellsWhatGoes, has_block, Step, NewFilled, Refill}
use Rattle.heap_calls.proofs.Cited.{Release, stepped, gone_at, step_disposes, Put, Drop, seek, if_fits, around, again-most, work}
use Rattle.heap_calls.proofs.Cited.{told_blocks}
use Rattle.heap_calls.specs.Table as asked
use Rattle.heap_calls.proofs.Gates.Served.{served-gated}
use Rattle.heap_calls.specs.Rows as rows
use Rattle.heap_calls.proofs.Rows.Kinds.{none-by, gated-by}
use Rattle.heap_calls.proofs.Rows.Telling.{path-told}
use Rattle.heap_calls.proofs.Rows.Weighing.{Renews}
use Rattle.heap_calls.proofs.Promises.Knowing.{handle_at-name}
use Rattle.heap_calls.proofs.Promises.EmptyingLaws.{purges, of-quiet, of-gone, is_of, is_of-filled}
use Rattle.heap_calls.proofs.Promises.EmptyingLaws.{other-unseen, spares-others, renewed-there}
use Rattle.heap_calls.proofs.ToldGone.Sums.{Adds}
use Rattle.heap_calls.proofs.ToldGone.Bounds.{told-most, step-most}
use Rattle.heap_calls.proofs.Steps.Ways.{Puts, Lets, step-leaves}
use Rattle.heap_calls.proofs.ToldGone.Rows.{row_gone, rows-even, step-even}
pub use Rattle.moves.proofs.Told.{weight, by_bytes, weighed}

-- What a call tells of a handle is what the handle loses.

-- how many there are
abbrev pub many : List (List ℕ) → ℕ
many = weight (λ x. 1)

told-adds : (f : List ℕ → ℕ) (h : ℕ) → Adds (λ l. weight f (told_of h l))
told-adds f h [] ys = omega arith
told-adds f h (g ∷ xs) ys = cases (g.0 == h) (told-adds f h xs ys)
  where
    cases : (t : Bool) → weight f (told_of h (xs ++ ys)) ≡ weight f (told_of h xs) + weight f (told_of h ys)
        → weight f (cond t (g.1 ∷ told_of h (xs ++ ys)) (told_of h (xs ++ ys)))
        ≡ weight f (cond t (g.1 ∷ told_of h xs) (told_of h xs)) + weight f (told_of h ys)
    cases true r = omega arith
    cases false r = omega arith

-- a block that is told of comes to what it is told to have
told-one : (f : List ℕ → ℕ) (h n : ℕ) → h < n → (b : Block) → weight f (told_of h (gone_of n b)) ≡ by_bytes f h b
told-one f h n within (Free m) = refl
told-one f h n within (Nonrelocatable id content) = refl
told-one f h n within Masters = refl
told-one f h n within (Relocatable id flags content) = cases (nat_lt id n) (id == h) refl refl
  where
    cases : (t u : Bool) → nat_lt id n ≡ t → (id == h) ≡ u
        → weight f (told_of h (cond t ((id, content) ∷ []) [])) ≡ cond u (f content) 0
    cases true true is same = ap (λ v. weight f (cond v (content ∷ []) [])) same ∙ (omega arith)
    cases true false is same = ap (λ v. weight f (cond v (content ∷ []) [])) same
    cases false true is same = absurd (let e : id ≡ h = (Decides-eqb id h).0 same in grind (arith, nat_tests, is, within))
    cases false false is same = refl

-- nothing but where there is none
pub many-none : (xs : List (List ℕ)) → many xs ≤ 0 → xs ≡ []
many-none [] le = refl
many-none (x ∷ xs) le = absurd (omega arith)

weigh-same : (x y : List ℕ) → (λ (z : List ℕ). cond {A = ℕ} (bytes_eq z x) 0 1) y ≤ 0 → y ≡ x
weigh-same x y le = cases (bytes_eq y x) refl le
  where
    cases : (t : Bool) → bytes_eq y x ≡ t → cond {A = ℕ} t 0 1 ≤ 0 → y ≡ x
    cases true e le = (bytes_eq-Decides y x).0 e
    cases false e le = absurd (let f : 1 ≤ 0 = le in omega arith)

-- what is told, where a handle has one block at most
only : (told bytes : List (List ℕ)) (after : ℕ) → many bytes ≤ 1 → many bytes ≤ after + many told
    → (told ≡ []) ⊎ (after + many told ≤ many bytes) → ((f : List ℕ → ℕ) → weight f told ≤ weight f bytes)
    → (t : Bool) → (t ≡ true → 1 ≤ after) → (t ≡ false → after ≡ 0) → told ≡ cond t [] bytes
only [] bytes after once least most each true some gone = refl
only [] bytes after once least most each false some gone =
    let z = gone refl in sym (many-none bytes (omega arith))
only (y ∷ more) bytes after once least (inl none) each t some gone = cc
only (y ∷ more) bytes after once least (inr most) each true some gone = absurd (let s = some refl in omega arith)
only (y ∷ more) [] after once least (inr most) each false some gone = absurd (omega arith)
only (y ∷ more) (x ∷ others) after once least (inr most) each false some gone =
    let none_more : more ≡ [] = many-none more (omega arith) in
    let none_other : others ≡ [] = many-none others (omega arith) in
    let f : List ℕ → ℕ = λ z. cond {A = ℕ} (bytes_eq z x) 0 1 in
    let own : f x ≡ 0 = cond-true (bytes_eq x x) 0 1 ((bytes_eq-Decides x x).1 refl) in
    let le = each f in
    let others_none : weight f others ≡ 0 = ap (weight f) none_other in
    let same : y ≡ x = weigh-same x y (omega (arith, le, own, others_none)) in
    ap (λ (l : List (List ℕ)). y ∷ l) none_more ∙ ap (λ (z : List ℕ). z ∷ []) same
    ∙ ap (λ (l : List (List ℕ)). x ∷ l) (sym none_other)

-- whether a call takes a handle's block away, or puts another in its place
abbrev lets_go : ℕ → Asked → Bool
lets_go h (asked.ReallocateHandle (Some k) n) = k == h
lets_go h a = takes_block h a

-- a call that lets no block of a handle go
renews-others : (h : ℕ) (a : Asked) → lets_go h a ≡ false → Renews (is_of h) a
renews-others h (asked.ReallocateHandle (Some k) n) keeps = other-unseen h k keeps
renews-others h a keeps = tt

-- or takes none away
spares-takes : (h : ℕ) (a : Asked) → lets_go h a ≡ false → takes_block h a ≡ false
spares-takes h (asked.DisposeHandle (Some k)) keeps = keeps
spares-takes h (asked.EmptyHandle (Some k)) keeps = keeps
spares-takes h a keeps = refl

is_of-sized : (h k : ℕ) (b : Block) → is_of h b ≡ is_of h (resized k b)
is_of-sized h k (Free m) = refl
is_of-sized h k (Nonrelocatable id content) = refl
is_of-sized h k Masters = refl
is_of-sized h k (Relocatable id flags content) = refl

-- a call that purges nothing tells of nothing
row-none : (a : Asked) (s : State) → purges a ≡ false → row_gone a s ≡ []
row-none a s e = none-by (row a) s e

-- what a try tells of, by its gate
gone-gated : (a : Asked) (m : Memory) → gone_in a m ≡ gone_unless (gate a m) (row_gone a m.heap)
gone-gated a m = gated-by (row a) m

module _ (h : ℕ) (m : Memory) (within : h < length m.heap.names)
    (once : (k : ℕ) → k < length m.heap.names → count (is_relocatable k) m.heap.zone ≤ 1)
    (small : sizes m.heap.zone ≤ GREATEST_ZONE)
  where
    fresh : (flags : Flags) (content : List ℕ) → is_of h (Relocatable (length m.heap.names) flags content) ≡ 0
    fresh flags content = cond-false (length m.heap.names == h) 1 0 (grind (arith, nat_tests, within))

    -- as many blocks of a handle go as are told of
    balance : (a : Asked) → lets_go h a ≡ false
        → (count (is_relocatable h) m.heap.zone ≤ count (is_relocatable h) (answered a m).1.heap.zone
        + many (told_of h (row_gone a m.heap)))
        × ((told_of h (row_gone a m.heap) ≡ []) ⊎ (count (is_relocatable h) (answered a m).1.heap.zone
        + many (told_of h (row_gone a m.heap)) ≤ count (is_relocatable h) m.heap.zone))
    balance a keeps = by_purging (purges a) refl
      where
        by_purging : (t : Bool) → purges a ≡ t
            → (count (is_relocatable h) m.heap.zone ≤ count (is_relocatable h) (answered a m).1.heap.zone
            + many (told_of h (row_gone a m.heap)))
            × ((told_of h (row_gone a m.heap) ≡ []) ⊎ (count (is_relocatable h) (answered a m).1.heap.zone
            + many (told_of h (row_gone a m.heap)) ≤ count (is_relocatable h) m.heap.zone))
        by_purging true e =
            let even = rows-even m (is_of h) (λ k. refl) refl (λ id content. refl) fresh
            (λ l. many (told_of h l)) refl (told-adds (λ x. 1) h)
            (λ b goes. told-one (λ x. 1) h (length m.heap.names) within b) (is_of-sized h) (is_of-filled h) once small a e
            (renews-others h a keeps) in
            (omega (arith, even), inr (omega (arith, even)))
        by_purging false e =
            let le = of-quiet (is_of h) (λ k. refl) (is_of-filled h) a m e
            (spares-others h a (spares-takes h a keeps)) in
            (omega arith, inl (ap (told_of h) (row-none a m.heap e)))

    -- nothing is told of a handle whose block a call lets go
    taken-none : (a : Asked) → lets_go h a ≡ true → told_of h (row_gone a m.heap) ≡ []
    taken-none (asked.DisposeHandle (Some k)) takes = refl
    taken-none (asked.EmptyHandle (Some k)) takes = refl
    taken-none (asked.ReallocateHandle (Some k) n) takes =
        many-none _ (by_found (handle_at (Some k) m.heap) (λ found e. (handle_at-name k m.heap found e).1))
      where
        zone : List Block
        zone = m.heap.zone

        zero_left : (bs : List Block) → total (unless (is_relocatable h) (is_of h)) bs ≡ 0
        zero_left [] = refl
        zero_left (b ∷ bs) = omega (arith, zero_left bs, cases (is_relocatable h b))
          where
            cases : (t : Bool) → cond {A = ℕ} t 0 (cond {A = ℕ} t 1 0) ≡ 0
            cases true = refl
            cases false = refl

        answer : ℕ → Bool → rows.Done (Unit {0})
        answer j t = if t then rows.changed nothing (around (Drop j ∷ []) [] (if_fits n
            (seek (Put (Relocatable j no_flags (replicate n 0))) nothing (freed (is_relocatable j) zone)))) m.heap
            else rows.refused PURGED m.heap

        by_tests : (j : ℕ) → j ≡ h → (t : Bool)
            → many (told_of h (told_blocks (length m.heap.names) (work (answer j t) m.heap).gone)) ≤ 0
        by_tests j same false = omega arith
        by_tests j same true = omega (
          arith,
          path-told (length m.heap.names) (is_of h) (λ i. refl) (λ l. many (told_of h l)) refl (told-adds (λ x. 1) h)
              (λ b goes. told-one (λ x. 1) h (length m.heap.names) within b) nothing (answer j true).path zone,
          again-most (is_of h) nothing (λ i. refl) (is_some (phys n)) j (Relocatable j no_flags (replicate n 0)) zone,
          freed-is (is_of h) (λ i. refl) (is_relocatable j) zone,
          ap (λ (i : ℕ). total (unless (is_relocatable i) (is_of h)) zone) same,
          zero_left zone,
        )

        by_found : (r : Result Known OsErr) → ((found : Known) → r ≡ Ok found → found.number ≡ k)
            → many (told_of h (told_blocks (length m.heap.names) (work (rows.for_found r m.heap
            (λ found. answer found.number (is_loose (spot (is_relocatable found.number) zone)))) m.heap).gone)) ≤ 0
        by_found (Err code) named = omega arith
        by_found (Ok found) named = by_tests found.number (named found refl ∙ (Decides-eqb k h).0 takes)
            (is_loose (spot (is_relocatable found.number) zone))
    taken-none a takes = let f : false ≡ true = takes in cc

    -- all that is told of a handle comes to no more than its blocks
    told-few : (a : Asked) (f : List ℕ → ℕ)
        → weight f (told_of h (gone_in a m)) ≤ weight f (bytes_in h m.heap.zone)
    told-few a f =
        let most = told-most (length m.heap.names) (by_bytes f h) (λ k. refl) refl (λ l. weight f (told_of h l)) refl
        (told-adds f h) (λ b goes. let one = told-one f h (length m.heap.names) within b in omega arith) a m refl in
        omega (arith, most, weighed f h m.heap.zone)

    -- where a call is barred, the handle keeps its block
    kept : (t : Bool) (zone : List Block) → [] ≡ cond (t || has (is_relocatable h) zone) [] (bytes_in h zone)
    kept true zone = refl
    kept false zone = cases (has (is_relocatable h) zone) refl
      where
        cases : (t : Bool) → has (is_relocatable h) zone ≡ t → [] ≡ cond t [] (bytes_in h zone)
        cases true e = refl
        cases false e = sym (many-none (bytes_in h zone)
            (omega (arith, weighed (λ x. 1) h zone, count-none (is_relocatable h) zone e)))

    -- and that is what the handle loses
    taken-tells : (a : Asked) → lets_go h a ≡ true
        → [] ≡ cond (takes_block h a || has (is_relocatable h) (answered a m).1.heap.zone) [] (bytes_in h m.heap.zone)
    taken-tells (asked.DisposeHandle (Some k)) takes =
        sym (ap (λ t. cond (t || has (is_relocatable h) (answered (asked.DisposeHandle (Some k)) m).1.heap.zone) []
        (bytes_in h m.heap.zone)) takes)
    taken-tells (asked.EmptyHandle (Some k)) takes =
        sym (ap (λ t. cond (t || has (is_relocatable h) (answered (asked.EmptyHandle (Some k)) m).1.heap.zone) []
        (bytes_in h m.heap.zone)) takes)
    taken-tells (asked.ReallocateHandle (Some k) n) takes = by_block (has (is_relocatable h) m.heap.zone) refl
      where
        after : List Block
        after = (answered (asked.ReallocateHandle (Some k) n) m).1.heap.zone

        none : (t : Bool) → cond {A = List (List ℕ)} t [] [] ≡ []
        none true = refl
        none false = refl

        by_block : (t : Bool) → has (is_relocatable h) m.heap.zone ≡ t
            → [] ≡ cond (has (is_relocatable h) after) [] (bytes_in h m.heap.zone)
        by_block true e =
            sym (ap (λ t. cond t [] (bytes_in h m.heap.zone)) (renewed-there h k n m takes e))
        by_block false e =
            let held : bytes_in h m.heap.zone ≡ [] = many-none (bytes_in h m.heap.zone)
            (omega (arith, weighed (λ x. 1) h m.heap.zone, count-none (is_relocatable h) m.heap.zone e)) in
            sym (ap (λ l. cond (has (is_relocatable h) after) [] l) held ∙ none (has (is_relocatable h) after))
    taken-tells a takes = let f : false ≡ true = takes in cc

    -- what a call's row tells of a handle
    row-tells : (a : Asked) → ((f : List ℕ → ℕ)
        → weight f (told_of h (row_gone a m.heap)) ≤ weight f (bytes_in h m.heap.zone))
        → told_of h (row_gone a m.heap)
        ≡ cond (takes_block h a || has (is_relocatable h) (answered a m).1.heap.zone) [] (bytes_in h m.heap.zone)
    row-tells a each = by_going (lets_go h a) refl
      where
        after : List Block
        after = (answered a m).1.heap.zone

        bytes : List (List ℕ)
        bytes = bytes_in h m.heap.zone

        by_going : (t : Bool) → lets_go h a ≡ t
            → told_of h (row_gone a m.heap) ≡ cond (takes_block h a || has (is_relocatable h) after) [] bytes
        by_going true e = taken-none a e ∙ taken-tells a e
        by_going false e =
            let even = balance a e in
            let counted : count (is_relocatable h) m.heap.zone ≡ many bytes = weighed (λ x. 1) h m.heap.zone in
            let one = once h within in
            only (told_of h (row_gone a m.heap)) bytes (count (is_relocatable h) after)
            (omega (arith, counted)) (let l = even.0 in omega (arith, counted, l))
            (elim even.1 [ inl none ↦ inl none | inr most ↦ inr (omega (arith, counted, most)) ]) each
            (has (is_relocatable h) after) (has-count (is_relocatable h) after) (count-none (is_relocatable h) after)
            ∙ ap (λ t. cond (t || has (is_relocatable h) after) [] bytes) (sym (spares-takes h a e))

    -- what a step tells of a handle comes to no more than its blocks
    step-few : (step : Step) (f : List ℕ → ℕ)
        → weight f (told_of h (gone_at step m)) ≤ weight f (bytes_in h m.heap.zone)
    step-few step f =
        let most = step-most (length m.heap.names) (by_bytes f h) (λ k. refl) refl (λ l. weight f (told_of h l)) refl
        (told-adds f h) (λ b goes. let one = told-one f h (length m.heap.names) within b in omega arith) step m refl in
        omega (arith, most, weighed f h m.heap.zone)

    -- as many blocks of a handle go as a step tells of
    abbrev StepBalance : Step → List Block → Type 0
    StepBalance step after =
        (count (is_relocatable h) m.heap.zone ≤ count (is_relocatable h) after + many (told_of h (gone_at step m)))
        × ((told_of h (gone_at step m) ≡ [])
        ⊎ (count (is_relocatable h) after + many (told_of h (gone_at step m)) ≤ count (is_relocatable h) m.heap.zone))

    unseen-put : (step : Step) → has (is_relocatable h) m.heap.zone ≡ true → Puts (PutsNone (is_of h)) step m.heap
    unseen-put (NewFilled role flags bytes) here = λ z. fresh flags bytes
    unseen-put (Refill k flags bytes) here = λ none z. cond-false (k == h) 1 0 (cases (k == h) refl none)
      where
        cases : (t : Bool) → (k == h) ≡ t → has_block k m.heap ≡ false → t ≡ false
        cases true e none = sym here ∙ ap (λ (j : ℕ). has_block j m.heap) (sym ((Decides-eqb k h).0 e)) ∙ none
        cases false e none = refl
    unseen-put step here = tt

    let-go : (step : Step) → step_disposes step h ≡ false → Lets (StepBalance step) step m.heap
    let-go (Release k) keeps =
        let le = of-gone (is_of h) (λ j. refl) (is_of-filled h) (is_relocatable k) (other-unseen h k keeps) m.heap.zone in
        (omega arith, inl refl)
    let-go step keeps = tt

    step-balance : (step : Step) → step_disposes step h ≡ false → has (is_relocatable h) m.heap.zone ≡ true
        → StepBalance step (stepped step m).heap.zone
    step-balance step keeps here =
        let even = step-even m (is_of h) (λ k. refl) refl (λ id content. refl) fresh (λ l. many (told_of h l)) refl
        (told-adds (λ x. 1) h) (λ b goes. told-one (λ x. 1) h (length m.heap.names) within b) (is_of-sized h)
        (is_of-filled h) once small step (unseen-put step here) in
        step-leaves (StepBalance step) step m (omega (arith, even), inr (omega (arith, even))) (let-go step keeps)

    -- what a step tells of a handle
    step-tells : (step : Step) → told_of h (gone_at step m)
        ≡ cond (step_disposes step h || has (is_relocatable h) (stepped step m).heap.zone) [] (bytes_in h m.heap.zone)
    step-tells step = by_disposal (step_disposes step h) refl
      where
        after : List Block
        after = (stepped step m).heap.zone

        bytes : List (List ℕ)
        bytes = bytes_in h m.heap.zone

        counted : count (is_relocatable h) m.heap.zone ≡ many bytes
        counted = weighed (λ x. 1) h m.heap.zone

        disposed : (step : Step) → step_disposes step h ≡ true → told_of h (gone_at step m) ≡ []
        disposed (Release k) e = refl
        disposed step e = let f : false ≡ true = e in cc

        unheld : many bytes ≤ 0 → (t : Bool) → told_of h (gone_at step m) ≡ cond t [] bytes
        unheld none t =
            let few = step-few step (λ x. 1) in
            many-none (told_of h (gone_at step m)) (omega arith) ∙ by_test t
          where
            by_test : (t : Bool) → [] ≡ cond t [] bytes
            by_test true = refl
            by_test false = sym (many-none bytes none)

        by_block : (t : Bool) → has (is_relocatable h) m.heap.zone ≡ t → step_disposes step h ≡ false
            → told_of h (gone_at step m) ≡ cond (has (is_relocatable h) after) [] bytes
        by_block false e keeps = unheld
            (omega (arith, counted, count-none (is_relocatable h) m.heap.zone e)) (has (is_relocatable h) after)
        by_block true e keeps =
            let even = step-balance step keeps e in
            let one = once h within in
            only (told_of h (gone_at step m)) bytes (count (is_relocatable h) after)
            (omega (arith, counted)) (let l = even.0 in omega (arith, counted, l))
            (elim even.1 [ inl none ↦ inl none | inr most ↦ inr (omega (arith, counted, most)) ]) (step-few step)
            (has (is_relocatable h) after) (has-count (is_relocatable h) after) (count-none (is_relocatable h) after)

        by_disposal : (t : Bool) → step_disposes step h ≡ t
            → told_of h (gone_at step m) ≡ cond (t || has (is_relocatable h) after) [] bytes
        by_disposal true e = disposed step e
        by_disposal false e = by_block (has (is_relocatable h) m.heap.zone) refl e

-- what a try of a call tells of a handle is what the handle loses
pub tells-what-goes : (a : Asked) (m : Memory)
    → ((k : ℕ) → k < length m.heap.names → count (is_relocatable k) m.heap.zone ≤ 1)
    → sizes m.heap.zone ≤ GREATEST_ZONE → TellsWhatGoes a m
tells-what-goes a m once small h within =
    ap (told_of h) (gone-gated a m)
    ∙ by_gate (gate a m) (λ f. subst (λ (l : List Gone). weight f (told_of h l) ≤ weight f (bytes_in h m.heap.zone))
    (gone-gated a m) (told-few h m within once small a f))
    ∙ ap (λ (answer : Told × Memory). cond (takes_block h a || has (is_relocatable h) answer.1.heap.zone) []
    (bytes_in h m.heap.zone)) (sym (served-gated a m))
  where
    by_notes : (why : OsErr) (t : Bool) → [] ≡ cond (takes_block h a
        || has (is_relocatable h) (cond t (keep_code why m) m).heap.zone) [] (bytes_in h m.heap.zone)
    by_notes why true = kept h m within once small (takes_block h a) m.heap.zone
    by_notes why false = kept h m within once small (takes_block h a) m.heap.zone

    by_gate : (o : Option OsErr) → ((f : List ℕ → ℕ)
        → weight f (told_of h (gone_unless o (row_gone a m.heap))) ≤ weight f (bytes_in h m.heap.zone))
        → told_of h (gone_unless o (row_gone a m.heap)) ≡ cond (takes_block h a
        || has (is_relocatable h) (gated o a m).1.heap.zone) [] (bytes_in h m.heap.zone)
    by_gate None each = row-tells h m within once small a each
    by_gate (Some why) each = by_notes why (notes a)

-- each block that is told of is of a handle, and might be purged
pub tells-of-purgeable : (a : Asked) (m : Memory) → TellsOfPurgeable a m
tells-of-purgeable a m h some = (
  by_number (nat_lt h n) refl,
  by_test (has own m.heap.zone) refl,
)
  where
    n : ℕ
    n = length m.heap.names

    own : Block → Bool
    own b = is_relocatable h b && is_purgeable b

    long : List Gone → ℕ
    long l = length (told_of h l)

    long-adds : Adds long
    long-adds [] ys = omega arith
    long-adds (g ∷ xs) ys = cases (g.0 == h) (long-adds xs ys)
      where
        cases : (t : Bool) → length (told_of h (xs ++ ys)) ≡ length (told_of h xs) + length (told_of h ys)
            → length (cond t (g.1 ∷ told_of h (xs ++ ys)) (told_of h (xs ++ ys)))
            ≡ length (cond t (g.1 ∷ told_of h xs) (told_of h xs)) + length (told_of h ys)
        cases true r = omega (arith, r)
        cases false r = r

    one : (b : Block) → is_purgeable b ≡ true → long (gone_of n b) ≤ cond {A = ℕ} (own b) 1 0
    one (Free k) goes = omega arith
    one (Nonrelocatable id content) goes = omega arith
    one Masters goes = omega arith
    one (Relocatable id flags content) goes =
        let z : cond {A = ℕ} (id == h && is_purgeable (Relocatable id flags content)) 1 0
        ≡ cond {A = ℕ} (id == h && true) 1 0 = ap {B = ℕ} (λ (t : Bool). cond (id == h && t) 1 0) goes in
        let l = cases (nat_lt id n) in omega (arith, z, l)
      where
        own_number : (u : Bool) → length (cond u (content ∷ []) []) ≤ cond {A = ℕ} (u && true) 1 0
        own_number true = omega arith
        own_number false = omega arith

        cases : (t : Bool) → long (cond t ((id, content) ∷ []) []) ≤ cond {A = ℕ} (id == h && true) 1 0
        cases true = own_number (id == h)
        cases false = omega arith

    -- a number that was not given is told of nowhere
    none : nat_lt h n ≡ false → (b : Block) → long (gone_of n b) ≤ 0
    none high (Free k) = omega arith
    none high (Nonrelocatable id content) = omega arith
    none high Masters = omega arith
    none high (Relocatable id flags content) = cases (nat_lt id n) (id == h) refl refl
      where
        cases : (t u : Bool) → nat_lt id n ≡ t → (id == h) ≡ u → long (cond t ((id, content) ∷ []) []) ≤ 0
        cases true true is same =
            absurd (let e : id ≡ h = (Decides-eqb id h).0 same in grind (arith, nat_tests, is, high))
        cases true false is same =
            let z : long ((id, content) ∷ []) ≡ 0 = ap {B = ℕ} (λ (u : Bool). length (cond u (content ∷ []) [])) same in
            omega (arith, z)
        cases false u is same = omega arith

    nothing_seen : (zone : List Block) → total (λ b. 0) zone ≡ 0
    nothing_seen [] = refl
    nothing_seen (b ∷ zone) = omega (arith, nothing_seen zone)

    by_number : (t : Bool) → nat_lt h n ≡ t → h < n
    by_number true e = grind (arith, nat_tests, e)
    by_number false e = absurd (
        let most = told-most n (λ b. 0) (λ k. refl) refl long refl long-adds (λ b goes. none e b) a m refl in
        omega (arith, some, most, nothing_seen m.heap.zone))

    by_test : (t : Bool) → has own m.heap.zone ≡ t → t ≡ true
    by_test true e = refl
    by_test false e = absurd (
        let most = told-most n (λ b. cond {A = ℕ} (own b) 1 0) (λ k. refl) refl long refl long-adds one a m refl in
        omega (arith, some, most, count-none own m.heap.zone e))

-- what a step of the Resource Manager tells of a handle is what the handle loses
pub step-tells-what-goes : (step : Step) (m : Memory)
    → ((k : ℕ) → k < length m.heap.names → count (is_relocatable k) m.heap.zone ≤ 1)
    → sizes m.heap.zone ≤ GREATEST_ZONE → StepTellsWhatGoes step m
step-tells-what-goes step m once small h within = step-tells h m within once small step
