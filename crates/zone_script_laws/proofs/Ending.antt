use Rattle.zone_script_laws.proofs.Cited.{◌≡◌, ℕ, ◌<◌, suc, Bool, true, false, List, [], ◌∷◌, ◌++◌, refl, sym, ◌∙◌, ap, cond, subst, map}
use Rattle.zone_script_laws.proofs.Cited.{Some, arith, length, replicate, slice_get, slice_set, append_assoc, flat_map, length-replicate}
use Rattle.zone_script_laws.proofs.Cited.{padded, Done, Block, Free, Nonrelocatable, Relocatable, free, tidy, is_nonrelocatable, has, freed}
use Rattle.zone_script_laws.proofs.Cited.{spot, tidy-parted, State, Memory, Meaning, Disposed, Bindings, bound_to, Part, Relocated, Fixed}
use Rattle.zone_script_laws.proofs.Cited.{Gap, numbered, block_of, Line, HUnlock, DisposePtr, name_of, ending, Runs}
use Rattle.heap_calls.specs.Table as asks
use Rattle.zone_script_laws.proofs.Parted.{spot-relocatable, spot-nonrelocatable, freed-nonrelocatable}
use Rattle.zone_script_laws.proofs.Serving.{Serves, serves-dispose}
use Rattle.zone_script_laws.proofs.Steps.{Stands, step, AllBound, get-after-set}
use Rattle.zone_script_laws.proofs.Numbers.{held, Below, below-block, later-held, same-number}
use Rattle.zone_script_laws.proofs.Making.{meaning, unlock-step, one-more}

-- The calls that end the script: blocks are unlocked, and those that held the places of free ones are disposed of.

-- the numbers of parts stand for what they were given for
abbrev pub AllNamed : List Meaning → ℕ → List Part → Type 0
AllNamed names n [] = Unit {0}
AllNamed names n (p ∷ parts) = (slice_get names n ≡ Some (meaning p)) × AllNamed names (suc n) parts

pub named-set : (names : List Meaning) (i n : ℕ) (x : Meaning) (parts : List Part) → i < n → AllNamed names n parts
    → AllNamed (slice_set names i x) n parts
named-set names i n x [] less all = tt
named-set names i n x (p ∷ parts) less all =
    (get-after-set names i n x less ∙ all.0, named-set names i (suc n) x parts (omega arith) all.1)

named-at : (done : List Meaning) (x : Meaning) (more : List Meaning) → slice_get (done ++ x ∷ more) (length done) ≡ Some x
named-at [] x more = refl
named-at (y ∷ done) x more = named-at done x more

pub all-named : (done : List Meaning) (parts : List Part) → AllNamed (done ++ map meaning parts) (length done) parts
all-named done [] = tt
all-named done (p ∷ parts) = (
  named-at done (meaning p) (map meaning parts),
  subst (λ l. AllNamed l (suc (length done)) parts) (append_assoc done (meaning p ∷ []) (map meaning parts))
      (subst (λ k. AllNamed ((done ++ meaning p ∷ []) ++ map meaning parts) k parts) (one-more done (meaning p))
      (all-named (done ++ meaning p ∷ []) parts)),
)

-- one part
pub end-one : (p : Part) (lines : List Line) (m : Memory) (b : Bindings) (holds : Memory → Bindings → Type 0) (below : List Block)
    (n : ℕ) (names : List Meaning) (above : List Block) → Stands (tidy (below ++ held n p ∷ above)) names m → Below n below
    → has (is_nonrelocatable n) above ≡ false → slice_get names n ≡ Some (meaning p) → bound_to (name_of p) b ≡ Some n
    → ((m' : Memory) (names' : List Meaning) → Stands (tidy (below ++ block_of n p ∷ above)) names' m'
    → ((left : List Part) (k : ℕ) → n < k → AllNamed names k left → AllNamed names' k left) → Runs lines m' b holds)
    → Runs (ending p ++ lines) m b holds
end-one (Relocated master flags size) lines m b holds below n names above s low none known bound next =
    unlocked flags.locked refl
  where
    go : (t : Bool) → flags.locked ≡ t → (m' : Memory)
        → Stands (tidy (below ++ Relocatable n (record { locked = t; purgeable = flags.purgeable }) (replicate size 0) ∷ above)) names m'
        → Runs lines m' b holds
    go t e m' s' = next m' names (subst (λ z. Stands z names m')
        (ap (λ u. tidy (below ++ Relocatable n (record { locked = u; purgeable = flags.purgeable }) (replicate size 0) ∷ above)) (sym e))
        s') (λ left k less all. all)

    unlocked : (t : Bool) → flags.locked ≡ t
        → Runs (cond t [] (HUnlock (name_of (Relocated master flags size)) ∷ []) ++ lines) m b holds
    unlocked true e = go true e m s
    unlocked false e = unlock-step (name_of (Relocated master flags size)) n lines m b holds
        (tidy (below ++ held n (Relocated master flags size) ∷ above)) (tidy below) (record flags { locked = true }) (replicate size 0)
        (tidy above) names bound known s
        (spot-relocatable n (record flags { locked = true }) (replicate size 0) below above (same-number n) ((low n (omega arith)).handle))
        (λ m' s'. go false e m' (subst (λ z. Stands z names m')
        (sym (tidy-parted below (Relocatable n (record { locked = false; purgeable = flags.purgeable }) (replicate size 0)) above refl))
        s'))
end-one (Fixed address size) lines m b holds below n names above s low none known bound next =
    next m names s (λ left k less all. all)
end-one (Gap address size) lines m b holds below n names above s low none known bound next =
    step (DisposePtr (name_of (Gap address size))) lines m b holds Done _ (tidy (below ++ Free (padded size) ∷ above))
    (slice_set names n Disposed) (subst (λ o. Serves (asks.DisposePtr o) m Done
    (record { zone = tidy (freed (is_nonrelocatable n) m.heap.zone); names = slice_set m.heap.names n Disposed })) (sym bound)
    (serves-dispose n m (record { below = tidy below; here = Nonrelocatable n (replicate size 0); above = tidy above }) s.calm
    (ap (λ (h : State). slice_get h.names n) s.heap ∙ known) (ap (λ (h : State). spot (is_nonrelocatable n) h.zone) s.heap
    ∙ spot-nonrelocatable n (replicate size 0) below above (same-number n) ((low n (omega arith)).pointer))))
    (ap (λ (h : State). let k : State = record {
      zone = tidy (freed (is_nonrelocatable n) h.zone);
      names = slice_set h.names n Disposed;
    } in k) s.heap
    ∙ ap (λ z. let k : State = record { zone = z; names = slice_set names n Disposed } in k)
    (freed-nonrelocatable n (replicate size 0) below above (same-number n) ((low n (omega arith)).pointer) none
    ∙ ap (λ k. tidy (below ++ Free (padded k) ∷ above)) (length-replicate {A = ℕ} size 0)))
    refl s.calm
    (λ m' s'. next m' (slice_set names n Disposed) s' (λ left k less all. named-set names n k Disposed left less all))

-- all parts
pub ending-all : (left : List Part) (m : Memory) (b : Bindings) (holds : Memory → Bindings → Type 0) (below : List Block) (n g : ℕ)
    (names : List Meaning) → Stands (tidy (below ++ (numbered held n left ++ free g))) names m → Below n below
    → AllNamed names n left → AllBound b n left
    → ((m' : Memory) → m'.heap.zone ≡ tidy (below ++ (numbered block_of n left ++ free g)) → holds m' b)
    → Runs (flat_map ending left) m b holds
ending-all [] m b holds below n g names s low named bound next = next m (ap (λ (h : State). h.zone) s.heap)
ending-all (p ∷ left) m b holds below n g names s low named bound next =
    end-one p (flat_map ending left) m b holds below n names (numbered held (suc n) left ++ free g) s low
    (later-held (suc n) n g left (omega arith)) named.0 bound.0
    (λ m' names' s' kept. ending-all left m' b holds (below ++ block_of n p ∷ []) (suc n) g names'
    (subst (λ z. Stands (tidy z) names' m') (sym (append_assoc below (block_of n p ∷ []) (numbered held (suc n) left ++ free g))) s')
    (below-block n p below low) (kept left (suc n) (omega arith) named.1) bound.1
    (λ m'' e. next m'' (e ∙ ap tidy (append_assoc below (block_of n p ∷ []) (numbered block_of (suc n) left ++ free g)))))
