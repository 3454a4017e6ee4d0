use Rattle.heap_calls.proofs.Cited.{◌≡◌, ℕ, ◌+◌, ◌≤◌, Bool, true, false, List, ◌∷◌, ◌++◌, length, refl, sym, ◌∙◌, ap, Option, Some, None}
use Rattle.heap_calls.proofs.Cited.{option_map, unwrap_or, phys, Flags, Block, Free, Nonrelocatable, Masters, Relocatable, size, sizes}
use Rattle.heap_calls.proofs.Cited.{is_relocatable, is_nonrelocatable, content_of, with_content, tidy, resized, written, in_run, change_run}
use Rattle.heap_calls.proofs.Cited.{has, high, runs, Spot, spot, freed, runs_settled, settled, spot-is, spot-passes, State, Memory, nothing}
use Rattle.heap_calls.proofs.Cited.{flagged, change_flags, hoisted, is_loose, blocks_purged, purgeable, purged_all, Asked, answered, row}
use Rattle.heap_calls.proofs.Cited.{OneBlockEach, stands, Alike, alike-refl, alike-then, alike-append, alike-cons, alike-tidy, alike-purged}
use Rattle.heap_calls.proofs.Cited.{alike-freed, alike-changed, alike-high, alike-compacted}
use Rattle.heap_calls.specs.Answer as calls
use Rattle.moves.proofs.Steady.{Stays}
use Rattle.heap_calls.proofs.Rows.Shapes.{by-kind}
use Rattle.heap_calls.proofs.Rows.Along.{row-along}
use Rattle.heap_calls.proofs.Rows.Standing.{allows-stays, row-steady, written-size}
use Rattle.heap_calls.proofs.Rows.Effects as effects
use Rattle.heap_calls.proofs.Rows.Effects.{Effect, effect_of, Changes, by-effect, by-quiet}

-- What each call leaves of the lowest block that passes a test, where no block of a run does.

-- a test that hangs on neither size nor bytes, and that neither a block of a run nor a Masters block passes
pub record Steady (seen : Block → Bool) : Type 0 where
  pub rigid : (b : Block) → in_run b ≡ true → seen b ≡ false
  pub sized : (n : ℕ) (b : Block) → seen b ≡ seen (resized n b)
  pub filled : (x : List ℕ) (b : Block) → seen b ≡ seen (with_content x b)
  pub masters : seen Masters ≡ false

-- a test that no block passes
abbrev pub never : Block → Bool
never b = false

pub steady-never : Steady never
steady-never = record { rigid = λ b e. refl; sized = λ n b. refl; filled = λ x b. refl; masters = refl }

-- other flags of the block of a handle leave whether it is seen
abbrev pub LeavesFlags : (Block → Bool) → List Block → ℕ → (Flags → Flags) → Type 0
LeavesFlags seen zone k change = (at : Spot) → spot (is_relocatable k) zone ≡ Some at
    → seen at.here ≡ seen (flagged change at.here)

-- an effect that disposes of a block or changes its flags leaves what is seen, and so does a call of that effect
abbrev pub LeavesBy : (Block → Bool) → List Block → Effect → Type 0
LeavesBy seen zone (effects.Disposed (Some k)) = (b : Block) → is_relocatable k b ≡ true → seen b ≡ false
LeavesBy seen zone (effects.DisposedPointer (Some p)) = (b : Block) → is_nonrelocatable p b ≡ true → seen b ≡ false
LeavesBy seen zone (effects.Flagged (Some k) change) = LeavesFlags seen zone k change
LeavesBy seen zone e = Unit {0}

abbrev pub Leaves : (Block → Bool) → List Block → Asked → Type 0
Leaves seen zone a = LeavesBy seen zone (effect_of a)

-- a block of a handle that may move or be emptied isn't seen
abbrev pub LeavesLoose : (Block → Bool) → List Block → Type 0
LeavesLoose seen zone = (k : ℕ) → is_loose (spot (is_relocatable k) zone) ≡ true → (b : Block)
    → is_relocatable k b ≡ true → seen b ≡ false

flagged-size : (change : Flags → Flags) (b : Block) → size b ≡ size (flagged change b)
flagged-size change (Free n) = refl
flagged-size change (Nonrelocatable id content) = refl
flagged-size change Masters = refl
flagged-size change (Relocatable id flags content) = refl

pub flagged-number : (change : Flags → Flags) (k : ℕ) (b : Block)
    → is_relocatable k (flagged change b) ≡ is_relocatable k b
flagged-number change k (Free n) = refl
flagged-number change k (Nonrelocatable id content) = refl
flagged-number change k Masters = refl
flagged-number change k (Relocatable id flags content) = refl

module _ (seen : Block → Bool) (steady : Steady seen)
  where
    rigid : (b : Block) → in_run b ≡ true → seen b ≡ false
    rigid = steady.rigid

    same : (zone : List Block) → Alike seen zone zone
    same zone = alike-refl seen rigid zone

    -- one block in place of another of as many bytes, seen as that
    alike-swapped : (zone : List Block) (s : Spot) (new : Block) → zone ≡ s.below ++ s.here ∷ s.above
        → seen s.here ≡ seen new → size s.here ≡ size new → Alike seen zone (s.below ++ new ∷ s.above)
    alike-swapped zone s new is alike same_size =
        let a = alike-append seen rigid s.below s.below (s.here ∷ s.above) (new ∷ s.above) (same s.below)
        (alike-cons seen rigid s.here new s.above s.above alike same_size (same s.above)) in
        (ap sizes is ∙ a.0, ap (stands seen) is ∙ a.1)

    -- other flags
    alike-flagged : (change : Flags → Flags) (k : ℕ) (zone : List Block) → LeavesFlags seen zone k change → (at : Spot)
        → spot (is_relocatable k) zone ≡ Some at → Alike seen zone (at.below ++ flagged change at.here ∷ at.above)
    alike-flagged change k zone kept at found =
        alike-swapped zone at (flagged change at.here) (spot-is (is_relocatable k) zone at found) (kept at found)
        (flagged-size change at.here)

    pub alike-flags : (change : Flags → Flags) (k : ℕ) (s : State) → LeavesFlags seen s.zone k change
        → Alike seen s.zone (change_flags change (Some k) s).1.zone
    alike-flags change k s kept = by-effect (λ t. Alike seen s.zone t.zone) (effects.Flagged (Some k) change) s
        (same s.zone) (alike-flagged change k s.zone kept)

    alike-hoisted : (k : ℕ) (zone : List Block) → Alike seen zone (hoisted k zone)
    alike-hoisted k zone = cases (change_run (has (is_relocatable k)) (high (is_relocatable k)) zone)
        (λ z e. alike-changed seen rigid (has (is_relocatable k)) (high (is_relocatable k))
        (λ run one passed. alike-high seen rigid k run one) zone z e)
      where
        cases : (o : Option (List Block)) → ((z : List Block) → o ≡ Some z → Alike seen zone z)
            → Alike seen zone (unwrap_or (option_map tidy o) zone)
        cases None a = same zone
        cases (Some z) a = alike-then seen rigid zone z (tidy z) (a z refl) (alike-tidy seen rigid z)

    -- bytes that are put into a block
    alike-written : (i : ℕ) (x : List ℕ) (zone : List Block) (at : Spot) → zone ≡ at.below ++ at.here ∷ at.above
        → i + length x ≤ length (content_of at.here)
        → Alike seen zone (at.below ++ with_content (written i x (content_of at.here)) at.here ∷ at.above)
    alike-written i x zone at is fits =
        let new : Block = with_content (written i x (content_of at.here)) at.here in
        alike-swapped zone at new is (steady.filled (written i x (content_of at.here)) at.here)
        (written-size i x at.here fits)

    -- blocks that aren't seen are gone
    pub alike-gone : (test : Block → Bool) → ((b : Block) → test b ≡ true → seen b ≡ false) → (zone : List Block)
        → Alike seen zone (tidy (freed test zone))
    alike-gone test apart zone = alike-then seen rigid zone (freed test zone) (tidy (freed test zone))
        (alike-freed seen rigid test apart zone) (alike-tidy seen rigid (freed test zone))

    -- each effect
    alike-changes : (e : Effect) (s : State) → LeavesLoose seen s.zone → LeavesBy seen s.zone e
        → Changes (λ t. Alike seen s.zone t.zone) s e
    alike-changes (effects.Flagged (Some k) change) s loose leaves = alike-flagged change k s.zone leaves
    alike-changes (effects.Hoisted (Some k)) s loose leaves = λ at found mover. alike-hoisted k s.zone
    alike-changes (effects.LockedHigh (Some k)) s loose leaves = λ at found mover.
        let now : State = record s { zone = hoisted k s.zone } in
        let apart = loose k (ap is_loose found ∙ mover) in
        alike-then seen rigid s.zone now.zone (change_flags lock (Some k) now).1.zone (alike-hoisted k s.zone)
        (alike-flags lock k now (λ spot found.
        let is = spot-passes (is_relocatable k) now.zone spot found in
        apart spot.here is ∙ sym (apart (flagged lock spot.here) (flagged-number lock k spot.here ∙ is))))
      where
        lock : Flags → Flags
        lock f = record f { locked = true }
    alike-changes (effects.Disposed (Some k)) s loose leaves = λ is. alike-gone (is_relocatable k) leaves s.zone
    alike-changes (effects.DisposedPointer (Some p)) s loose leaves = λ is. alike-gone (is_nonrelocatable p) leaves s.zone
    alike-changes (effects.Emptied (Some k)) s loose leaves = λ at found mover.
        alike-gone (is_relocatable k) (loose k (ap is_loose found ∙ mover)) s.zone
    alike-changes (effects.Compacted n) s loose leaves = alike-compacted seen rigid (runs_settled (phys n) s.zone) s.zone
    alike-changes (effects.Written call only) s loose leaves = λ at i x is fits. alike-written i x s.zone at is fits
    alike-changes e s loose leaves = tt

    -- what was moved and is locked by HLockHi wasn't seen
    pub alike-locked_high : (k : ℕ) (s : State) → LeavesLoose seen s.zone
        → Alike seen s.zone (calls.h_lock_hi (Some k) s).1.zone
    alike-locked_high k s loose = by-effect (λ t. Alike seen s.zone t.zone) (effects.LockedHigh (Some k)) s (same s.zone)
        (alike-changes (effects.LockedHigh (Some k)) s loose tt)

    -- each call
    pub alike-answered : (a : Asked) (m : Memory) → OneBlockEach m.heap.zone → LeavesLoose seen m.heap.zone
        → ((x : List ℕ) → seen (Nonrelocatable (length m.heap.names) x) ≡ false) → Leaves seen m.heap.zone a
        → Alike seen m.heap.zone (answered a m).1.heap.zone
    alike-answered a m once loose new = by-kind (λ b. Leaves seen m.heap.zone b
        → Alike seen m.heap.zone (answered b m).1.heap.zone)
        (λ b path leaves. row-steady seen rigid steady.sized steady.filled steady.masters (row b) m path
        (row-along (λ sp. Stays seen rigid sp) m.heap b
        (allows-stays seen rigid steady.sized steady.filled steady.masters b m.heap once loose new)))
        (λ n leaves. alike-purged seen rigid (blocks_purged (phys n) m.heap.zone) nothing m.heap.zone)
        (λ leaves.
        let left : List Block = purged_all m.heap.zone in
        alike-then seen rigid m.heap.zone left (settled (length (runs left)) left)
        (alike-purged seen rigid (purgeable m.heap.zone) nothing m.heap.zone)
        (alike-compacted seen rigid (length (runs left)) left))
        (λ b quiet leaves. by-quiet (λ t. Alike seen m.heap.zone t.zone) b m quiet (same m.heap.zone)
        (alike-changes (effect_of b) m.heap loose leaves)) a
