use Rattle.heap_calls.proofs.Cited.{◌≡◌, ℕ, ◌+◌, ◌≤◌, Bool, true, false, not, ◌&&◌, ◌==◌, List, [], ◌∷◌, ◌++◌, length, replicate, Some}
use Rattle.heap_calls.proofs.Cited.{refl, sym, ◌∙◌, ap, cond, arith, is_some, cond-false, Decides-eqb, phys, padded, written, Block, Free}
use Rattle.heap_calls.proofs.Cited.{Nonrelocatable, Masters, Relocatable, size, total, is_mover, is_relocatable, content_of, with_content}
use Rattle.heap_calls.proofs.Cited.{no_flags, resized, resized_content, in_run, Spot, spot, length-resized, Alike, SeesNoFree, unless}
use Rattle.heap_calls.proofs.Cited.{length-written, spot-is, spot-passes, total-append, total-le, is_same, did, seek_size, seek_resized}
use Rattle.heap_calls.proofs.Cited.{along-if, resized-stays, size-new, steady, State, Memory, Held, nothing, is_loose, Asked, Row}
use Rattle.heap_calls.proofs.Cited.{answer_of, OneBlockEach}
use Rattle.moves.proofs.Steady.{Stays}
use Rattle.heap_calls.proofs.Same.Growing.{same-handle}
use Rattle.heap_calls.proofs.Rows.Kinds.{has_path, of-path}
use Rattle.heap_calls.proofs.Rows.Along.{Keeps, Allows, IsNext, Spared}
use Rattle.heap_calls.proofs.Rows.Weighing.{named-there, alone, pointer-there, never-moves}

-- What a test that no block of a run passes must know of the path of each row.

-- bytes that are written into a block leave its size
pub written-size : (i : ℕ) (x : List ℕ) (b : Block) → i + length x ≤ length (content_of b)
    → size b ≡ size (with_content (written i x (content_of b)) b)
written-size i x (Free n) fits = refl
written-size i x (Nonrelocatable id content) fits = ap padded (sym (length-written i x content fits))
written-size i x Masters fits = refl
written-size i x (Relocatable id flags content) fits = ap padded (sym (length-written i x content fits))

-- 1 for a handle's block that doesn't have n bytes
abbrev misfit : ℕ → ℕ → Block → ℕ
misfit k n b = cond (is_relocatable k b && not (length (content_of b) == n)) 1 0

-- a handle's block that got n bytes has them
pub sized-fits : (k n : ℕ) (zone z : List Block) (s : Spot) → spot (is_relocatable k) zone ≡ Some s
    → ((of : Block → ℕ) → SeesNoFree of → total of z ≤ of (resized n s.here) + total (unless (is_relocatable k) of)
    zone)
    → (at : Spot) → spot (is_relocatable k) z ≡ Some at → length (content_of at.here) ≡ n
sized-fits k n zone z s was less at found =
    let l = less (misfit k n) (λ m. refl) in
    let o = total-le (unless (is_relocatable k) (misfit k n)) (λ b. 0) none zone in
    let new = fits s.here (spot-passes (is_relocatable k) zone s was) in
    let whole : total (misfit k n) z ≡ total (misfit k n) (at.below ++ at.here ∷ at.above) =
    ap (total (misfit k n)) (spot-is (is_relocatable k) z at found) in
    let few : misfit k n at.here ≤ 0 = omega (
      arith,
      total-append (misfit k n) at.below (at.here ∷ at.above),
      nothing_there zone,
    ) in
    let here : misfit k n at.here ≡ cond (not (length (content_of at.here) == n)) 1 0 =
    ap {B = ℕ} (λ (t : Bool). cond (t && not (length (content_of at.here) == n)) 1 0)
    (spot-passes (is_relocatable k) z at found) in
    by_length (length (content_of at.here) == n) refl (omega arith)
  where
    fits : (b : Block) → is_relocatable k b ≡ true → misfit k n (resized n b) ≡ 0
    fits (Free m) passes = refl
    fits (Nonrelocatable id content) passes = refl
    fits Masters passes = refl
    fits (Relocatable id flags content) passes = cond-false (id == k && not (length (resized_content n content) == n)) 1
        0 (rw (passes, (Decides-eqb (length (resized_content n content)) n).1 (length-resized n content)) refl)

    none : (b : Block) → unless (is_relocatable k) (misfit k n) b ≤ 0
    none b = cases (is_relocatable k b) (not (length (content_of b) == n))
      where
        cases : (t u : Bool) → cond {A = ℕ} t 0 (cond (t && u) 1 0) ≤ 0
        cases true u = omega arith
        cases false u = omega arith

    nothing_there : (bs : List Block) → total (λ b. 0) bs ≡ 0
    nothing_there [] = refl
    nothing_there (b ∷ bs) = omega (arith, nothing_there bs)

    by_length : (t : Bool) → (length (content_of at.here) == n) ≡ t → cond {A = ℕ} (not t) 1 0 ≤ 0
        → length (content_of at.here) ≡ n
    by_length true is le = (Decides-eqb (length (content_of at.here)) n).0 is
    by_length false is le = absurd (omega arith)

module _ (seen : Block → Bool) (rigid : (b : Block) → in_run b ≡ true → seen b ≡ false)
    (sized : (n : ℕ) (b : Block) → seen b ≡ seen (resized n b))
    (filled : (x : List ℕ) (b : Block) → seen b ≡ seen (with_content x b)) (masters : seen Masters ≡ false)
  where
    pub allows-stays : (a : Asked) (s : State) → OneBlockEach s.zone
        → ((k : ℕ) → is_loose (spot (is_relocatable k) s.zone) ≡ true → (b : Block) → is_relocatable k b ≡ true
        → seen b ≡ false) → ((x : List ℕ) → seen (Nonrelocatable (length s.names) x) ≡ false)
        → Allows (λ sp. Stays seen rigid sp) s a
    allows-stays a s once loose pointers = record {
      searches = λ sp n z. tt;
      purges = λ sp k z. tt;
      puts = λ sp new next z. unseen new next;
      bases = λ sp new next z. unseen new next;
      sizes = λ sp n held at. along-if (Stays seen rigid sp) sp (is_some (phys n))
          (seek_resized (resized n held.at.here) sp s.zone held.at) s.zone
          (resized-stays (resized n held.at.here) sp s.zone held.at seen rigid (sized n held.at.here) (apart sp n held
          at)
          (named-there n sp s held at) (alone n sp s held at (once held.number)));
      pointers = λ n held at. along-if (Stays seen rigid nothing) nothing (is_some (phys n))
          (seek_resized (resized n held.at.here) nothing s.zone held.at) s.zone
          (resized-stays (resized n held.at.here) nothing s.zone held.at seen rigid (sized n held.at.here)
          (λ mover. never-moves s held at mover) (pointer-there n s held at) (λ mover. never-moves s held at mover));
      writes = λ sp held n i x at within found s' there. (
        filled (written i x (content_of s'.here)) s'.here,
        written-size i x s'.here (fits sp held n i x at within found s' there),
      );
      renews = λ h n is free. (loose h free, λ z. rigid (Relocatable h no_flags (replicate n 0)) refl);
    }
      where
        unseen : (new : Block) → IsNext (length s.names) new → seen new ≡ false
        unseen (Free p) next = rigid (Free p) refl
        unseen (Nonrelocatable id content) next = ap (λ (i : ℕ). seen (Nonrelocatable i content)) next ∙ pointers
            content
        unseen Masters next = masters
        unseen (Relocatable id flags content) next =
            ap (λ f. seen (Relocatable id f content)) next.1 ∙ rigid (Relocatable id no_flags content) refl

        apart : (sp : Block → Bool) (n : ℕ) (held : Held) → Spared sp s held → is_mover held.at.here ≡ true
            → (b : Block) → is_same (resized n held.at.here) b ≡ true → seen b ≡ false
        apart sp n held at mover b e =
            let test = is_relocatable held.number in
            let named = same-handle held.number n held.at.here (spot-passes test s.zone held.at at.there) in
            loose held.number (ap is_loose at.there ∙ mover) b (sym (ap (λ (t : Block → Bool). t b) named) ∙ e)

        fits : (sp : Block → Bool) (held : Held) (n i : ℕ) (x : List ℕ) → Spared sp s held → i + length x ≤ n
            → (seek_size n sp s.zone held.at).found ≡ true → (s' : Spot)
            → spot (is_relocatable held.number) (did sp (seek_size n sp s.zone held.at).path s.zone).zone ≡ Some s'
            → i + length x ≤ length (content_of s'.here)
        fits sp held n i x at within found s' there =
            let test = is_relocatable held.number in
            let named = same-handle held.number n held.at.here (spot-passes test s.zone held.at at.there) in
            let l = sized-fits held.number n s.zone (did sp (seek_size n sp s.zone held.at).path s.zone).zone held.at
            at.there (λ of none. size-new of sp none n s.zone held.at test named at.there (once held.number) found) s'
            there
            in
            omega arith

    pub row-steady : (r : Row) (m : Memory) → has_path r ≡ true → Keeps (λ sp. Stays seen rigid sp) r m.heap
        → Alike seen m.heap.zone (answer_of r m).1.heap.zone
    row-steady r m = of-path (λ r. Keeps (λ sp. Stays seen rigid sp) r m.heap
        → Alike seen m.heap.zone (answer_of r m).1.heap.zone)
        (λ T bar tell does stays. let d = does m.heap in steady seen rigid d.spared d.path m.heap.zone stays)
        (λ left r kept. kept) r
