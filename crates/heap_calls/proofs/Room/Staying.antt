use Rattle.heap_calls.proofs.Cited.{◌≡◌, ℕ, ◌-◌, zero, suc, Bool, true, false, ◌&&◌, ◌||◌, List, [], ◌∷◌, ◌++◌, filter, refl, sym, ◌∙◌, ap}
use Rattle.heap_calls.proofs.Cited.{Option, Some, None, Result, Ok, Err, option_map, option_or, IfSome, IsSomeAnd, option_and_then}
use Rattle.heap_calls.proofs.Cited.{IsTrue, OnErr, none-some, same_Some, list_any-append, Block, Free, Nonrelocatable, Masters, Relocatable}
use Rattle.heap_calls.proofs.Cited.{size, free, free_sum, resized, is_nonrelocatable, is_mover, is_room, is_relocatable, with_content, tidy}
use Rattle.heap_calls.proofs.Cited.{Flags, RunSpot, change_run, run_spot, run_at, with_run, has, has_free, movers, others, settle, low}
use Rattle.heap_calls.proofs.Cited.{high, Stretch, segments, joined, Spot, spot, filled, place, lowest_purged, freed}
use Rattle.heap_calls.proofs.Cited.{growth, grow_up, move_away, grow_last, grow_mover, spared, opened}
use Rattle.heap_calls.proofs.Cited.{purged, with_flags, moved_away, settled_runs, settled, Sparing, has-tidy, spot-is, spot-passes}
use Rattle.heap_calls.proofs.Cited.{joined-segments, none-append, run_spot-parts, run_at-parts, AreLoose, segments-loose}
use Rattle.heap_calls.proofs.Cited.{not_nonrelocatable-relocatable, not_nonrelocatable-room, has-counts, is_nonrelocatable-content}
use Rattle.heap_calls.proofs.Cited.{is_nonrelocatable-flags, is_nonrelocatable-resized, Loose, KeepsNonrelocatable, none-filter, none-free}
use Rattle.std.specs.Result.{OnOk}
use Rattle.block_store.proofs.Nonrelocatable.Counts as counts

-- A nonrelocatable block stays whatever is done to the others.

pub nonrelocatable-same : (old new : List Block) → new ≡ old → KeepsNonrelocatable old new
nonrelocatable-same old new same p = ap (has (is_nonrelocatable p)) same

pub nonrelocatable-then : (old mid new : List Block) → KeepsNonrelocatable old mid → KeepsNonrelocatable mid new
    → KeepsNonrelocatable old new
nonrelocatable-then old mid new one two p = two p ∙ one p

pub nonrelocatable-tidy : (bs : List Block) → KeepsNonrelocatable bs (tidy bs)
nonrelocatable-tidy bs p = has-tidy (is_nonrelocatable p) (λ n. refl) bs

-- two blocks of the same name, or that both aren't nonrelocatable
abbrev pub SameNonrelocatable : Block → Block → Type 0
SameNonrelocatable b c = (p : ℕ) → is_nonrelocatable p c ≡ is_nonrelocatable p b

-- another block in place of one
pub nonrelocatable-spot : (below above : List Block) (b c : Block) → SameNonrelocatable b c
    → KeepsNonrelocatable (below ++ b ∷ above) (below ++ c ∷ above)
nonrelocatable-spot [] above b c same p = ap (λ t. t || has (is_nonrelocatable p) above) (same p)
nonrelocatable-spot (d ∷ below) above b c same p = ap (λ t. is_nonrelocatable p d || t) (nonrelocatable-spot below above b c same p)

-- a block at the lower end of another
pub nonrelocatable-filled : (new : Block) (s : Spot) → SameNonrelocatable s.here new → KeepsNonrelocatable (s.below ++ s.here ∷ s.above)
    (filled new s)
nonrelocatable-filled new s same p = has-counts (is_nonrelocatable p) (s.below ++ s.here ∷ s.above) (filled new s)
    (counts.nonrelocatable-filled p new s (same p))

pub alike-content : (x : List ℕ) (b : Block) → SameNonrelocatable b (with_content x b)
alike-content x b p = is_nonrelocatable-content p x b

pub alike-flags : (f : Flags) (b : Block) → SameNonrelocatable b (with_flags f b)
alike-flags f b p = is_nonrelocatable-flags p f b

-- blocks that became Free, none of them of this name
pub nonrelocatable-freed_other : (p : ℕ) (t : Block → Bool) → ((b : Block) → t b ≡ true → is_nonrelocatable p b ≡ false)
    → (bs : List Block) → has (is_nonrelocatable p) (freed t bs) ≡ has (is_nonrelocatable p) bs
nonrelocatable-freed_other p t other bs = has-counts (is_nonrelocatable p) bs (freed t bs) (counts.nonrelocatable-freed p t other bs)

pub nonrelocatable-freed : (slot : ℕ) (bs : List Block) → KeepsNonrelocatable bs (freed (is_relocatable slot) bs)
nonrelocatable-freed slot bs p = nonrelocatable-freed_other p (is_relocatable slot) (not_nonrelocatable-relocatable p slot) bs

pub nonrelocatable-released : (slot : ℕ) (bs : List Block) → KeepsNonrelocatable bs (tidy (freed (is_relocatable slot) bs))
nonrelocatable-released slot bs p = nonrelocatable-tidy (freed (is_relocatable slot) bs) p ∙ nonrelocatable-freed slot bs p

-- purges
pub nonrelocatable-lowest_purged : (k : ℕ) (sp : Block → Bool) (bs : List Block) → KeepsNonrelocatable bs (lowest_purged k sp bs)
nonrelocatable-lowest_purged k sp bs p = has-counts (is_nonrelocatable p) bs (lowest_purged k sp bs)
    (counts.nonrelocatable-lowest_purged p k sp bs)

nonrelocatable-opened : (n : Sparing) (zone : List Block) → KeepsNonrelocatable zone (opened n zone)
nonrelocatable-opened n zone p = has-counts (is_nonrelocatable p) zone (opened n zone) (counts.nonrelocatable-opened p n zone)

pub nonrelocatable-purge : (k : ℕ) (sp : Block → Bool) (zone : List Block) → KeepsNonrelocatable zone (tidy (lowest_purged k sp zone))
nonrelocatable-purge k sp zone p = nonrelocatable-tidy (lowest_purged k sp zone) p ∙ nonrelocatable-lowest_purged k sp zone p

pub nonrelocatable-purged : (k : ℕ) (n : Sparing) (zone : List Block) → KeepsNonrelocatable zone (purged k n zone)
nonrelocatable-purged k n zone p = nonrelocatable-purge k (spared n) (opened n zone) p ∙ nonrelocatable-opened n zone p

-- a run has no nonrelocatable block
abbrev pub NoNonrelocatable : List Block → Type 0
NoNonrelocatable run = (p : ℕ) → has (is_nonrelocatable p) run ≡ false

none-loose : (run : List Block) → Loose run → NoNonrelocatable run
none-loose [] loose p = refl
none-loose (Free n ∷ run) loose p = none-loose run loose.1 p
none-loose (Nonrelocatable id content ∷ run) loose p = let f : false ≡ true = loose.0 in cc
none-loose (Masters ∷ run) loose p = none-loose run loose.1 p
none-loose (Relocatable id flags content ∷ run) loose p = none-loose run loose.1 p

pub none-run : (passes : List Block → Bool) (zone : List Block) (r : RunSpot) → run_spot passes zone ≡ Some r
    → NoNonrelocatable r.run
none-run passes zone r e = none-loose r.run (run_spot-parts passes zone r e).loose

-- packed runs have none either
pub none-settle : (run : List Block) → NoNonrelocatable run → NoNonrelocatable (settle run)
none-settle run none p = none-append (is_nonrelocatable p) (movers run) (free (free_sum run))
    (none-filter (is_nonrelocatable p) is_mover run (none p)) (none-free (is_nonrelocatable p) (λ n. refl) (free_sum run))

pub none-low : (n : ℕ) (run : List Block) → NoNonrelocatable run → NoNonrelocatable (low (Free n) run)
none-low n run none p = none-append (is_nonrelocatable p) (movers run) (free (free_sum run - n))
    (none-filter (is_nonrelocatable p) is_mover run (none p)) (none-free (is_nonrelocatable p) (λ n. refl) (free_sum run - n))

pub none-high : (test : Block → Bool) (run : List Block) → NoNonrelocatable run → NoNonrelocatable (high test run)
none-high test run none p =
    none-append (is_nonrelocatable p) (others test run ++ free (free_sum run)) (filter test run)
    (none-append (is_nonrelocatable p) (others test run) (free (free_sum run)) (none-filter (is_nonrelocatable p) _ run (none p))
    (none-free (is_nonrelocatable p) (λ n. refl) (free_sum run)))
    (none-filter (is_nonrelocatable p) test run (none p))

-- a run changed to blocks that aren't nonrelocatable
pub nonrelocatable-with_run : (change : List Block → List Block) (r : RunSpot) → NoNonrelocatable r.run → NoNonrelocatable (change r.run)
    → KeepsNonrelocatable (r.below ++ r.run ++ r.above) (with_run change r)
nonrelocatable-with_run change r was now p =
    list_any-append (is_nonrelocatable p) (r.below ++ change r.run) r.above
    ∙ ap (λ t. t || has (is_nonrelocatable p) r.above) (list_any-append (is_nonrelocatable p) r.below (change r.run)
    ∙ ap (λ t. has (is_nonrelocatable p) r.below || t) (now p ∙ sym (was p))
    ∙ sym (list_any-append (is_nonrelocatable p) r.below r.run))
    ∙ sym (list_any-append (is_nonrelocatable p) (r.below ++ r.run) r.above)

pub nonrelocatable-run : (change : List Block → List Block) → ((run : List Block) → NoNonrelocatable run → NoNonrelocatable (change run))
    → (passes : List Block → Bool) (zone : List Block) (r : RunSpot) → run_spot passes zone ≡ Some r
    → KeepsNonrelocatable zone (tidy (with_run change r))
nonrelocatable-run change keeps passes zone r is p =
    let none = none-run passes zone r is in
    nonrelocatable-tidy (with_run change r) p ∙ nonrelocatable-with_run change r none (keeps r.run none) p
    ∙ ap (has (is_nonrelocatable p)) (run_spot-parts passes zone r is).whole

-- compaction
nonrelocatable-settled_runs : (k : ℕ) (run : List Block) (parts : List Stretch) → NoNonrelocatable run → AreLoose parts
    → KeepsNonrelocatable (joined run parts) (settled_runs k run parts)
nonrelocatable-settled_runs zero run parts here rest p = refl
nonrelocatable-settled_runs (suc k) run [] here rest p = none-settle run here p ∙ sym (here p)
nonrelocatable-settled_runs (suc k) run (q ∷ parts) here rest p =
    list_any-append (is_nonrelocatable p) (settle run) (q.barrier ∷ settled_runs k q.run parts)
    ∙ ap (λ t. t || (is_nonrelocatable p q.barrier || has (is_nonrelocatable p) (settled_runs k q.run parts)))
    (none-settle run here p ∙ sym (here p))
    ∙ ap (λ t. has (is_nonrelocatable p) run || (is_nonrelocatable p q.barrier || t))
    (nonrelocatable-settled_runs k q.run parts (none-loose q.run rest.0) rest.1 p)
    ∙ sym (list_any-append (is_nonrelocatable p) run (q.barrier ∷ joined q.run parts))

pub nonrelocatable-settled : (k : ℕ) (zone : List Block) → KeepsNonrelocatable zone (settled k zone)
nonrelocatable-settled k zone p =
    let loose = segments-loose zone in
    nonrelocatable-settled_runs k (segments zone).first (segments zone).rest (none-loose (segments zone).first loose.0) loose.1 p
    ∙ ap (has (is_nonrelocatable p)) (joined-segments zone)

pub nonrelocatable-run_at : (change : List Block → List Block) → ((run : List Block) → NoNonrelocatable run → NoNonrelocatable (change run))
    → (place : ℕ) (zone : List Block) (r : RunSpot) → run_at place zone ≡ Some r
    → KeepsNonrelocatable zone (tidy (with_run change r))
nonrelocatable-run_at change keeps place zone r is p =
    let parts = run_at-parts place zone r is in
    let none = none-loose r.run parts.loose in
    nonrelocatable-tidy (with_run change r) p ∙ nonrelocatable-with_run change r none (keeps r.run none) p
    ∙ ap (has (is_nonrelocatable p)) parts.whole

-- a run that is packed upward, where the host has memory
pub nonrelocatable-raised : {T E : Type 0} (result : Result T E) (place d : ℕ) (zone after : List Block)
    → IsSomeAnd (run_at place zone) (λ r. IsTrue (has_free d r.run))
    → OnOk result (IfSome (run_at place zone) (λ r. after ≡ tidy (with_run (low (Free d)) r)))
    → OnErr result (after ≡ zone) → KeepsNonrelocatable zone after
nonrelocatable-raised (Err error) place d zone after allowed done same = nonrelocatable-same zone after same
nonrelocatable-raised (Ok value) place d zone after allowed done same = cases (run_at place zone) refl allowed done
  where
    cases : (o : Option RunSpot) → run_at place zone ≡ o → IsSomeAnd o (λ r. IsTrue (has_free d r.run))
        → IfSome o (λ r. after ≡ tidy (with_run (low (Free d)) r)) → KeepsNonrelocatable zone after
    cases None is allowed done p = absurd allowed
    cases (Some r) is allowed done p = ap (has (is_nonrelocatable p)) done
        ∙ nonrelocatable-run_at (low (Free d)) (none-low d) place zone r is p

-- purges above a block
pub nonrelocatable-above_emptied : (below : List Block) (b : Block) (above : List Block) (k : ℕ) (sp : Block → Bool)
    → KeepsNonrelocatable (below ++ b ∷ above) (tidy (below ++ b ∷ lowest_purged k sp above))
nonrelocatable-above_emptied below b above k sp p = has-counts (is_nonrelocatable p) (below ++ b ∷ above)
    (tidy (below ++ b ∷ lowest_purged k sp above)) (counts.nonrelocatable-purged_above p k sp below b above)

-- growth
pub alike-resized : (n : ℕ) (b : Block) → SameNonrelocatable b (resized n b)
alike-resized n b p = is_nonrelocatable-resized p n b

pub nonrelocatable-grow_up : (new : Block) (s : Spot) (after : List Block) → SameNonrelocatable s.here new → grow_up new s ≡ Some after
    → KeepsNonrelocatable (s.below ++ s.here ∷ s.above) after
nonrelocatable-grow_up new s after same e p = has-counts (is_nonrelocatable p) (s.below ++ s.here ∷ s.above) after
    (counts.nonrelocatable-grow_up p new s after (same p) e)

-- the lowest run that passes, changed
nonrelocatable-changed : (change : List Block → List Block) → ((run : List Block) → NoNonrelocatable run → NoNonrelocatable (change run))
    → (passes : List Block → Bool) (zone after : List Block) → change_run passes change zone ≡ Some after
    → KeepsNonrelocatable zone after
nonrelocatable-changed change keeps passes zone after e = cases (run_spot passes zone) refl e
  where
    cases : (o : Option RunSpot) → run_spot passes zone ≡ o → option_map (with_run change) o ≡ Some after
        → KeepsNonrelocatable zone after
    cases None is e p = absurd (none-some _ e)
    cases (Some r) is e p =
        let none = none-run passes zone r is in
        ap (has (is_nonrelocatable p)) (sym (same_Some _ _ e)) ∙ nonrelocatable-with_run change r none (keeps r.run none) p
        ∙ ap (has (is_nonrelocatable p)) (run_spot-parts passes zone r is).whole

-- the place of a relocatable block
pub nonrelocatable-place : (n : ℕ) (zone : List Block) (s : Spot) → place n zone ≡ Some s → (is_room n s.here ≡ true)
    × KeepsNonrelocatable zone (s.below ++ s.here ∷ s.above)
nonrelocatable-place n zone s e = cases (spot (is_room n) zone) (change_run (has_free n) settle zone) refl refl e
  where
    found : (z : List Block) (s : Spot) → spot (is_room n) z ≡ Some s → (is_room n s.here ≡ true)
        × KeepsNonrelocatable z (s.below ++ s.here ∷ s.above)
    found z s is = (
      spot-passes (is_room n) z s is,
      nonrelocatable-same z (s.below ++ s.here ∷ s.above)
          (sym (spot-is (is_room n) z s is)),
    )

    cases : (o : Option Spot) (c : Option (List Block)) → spot (is_room n) zone ≡ o
        → change_run (has_free n) settle zone ≡ c → option_or o (option_and_then (spot (is_room n)) (option_map tidy c))
        ≡ Some s
        → (is_room n s.here ≡ true) × KeepsNonrelocatable zone (s.below ++ s.here ∷ s.above)
    cases (Some t) c is packed e = found zone s (is ∙ e)
    cases None None is packed e = absurd (none-some _ e)
    cases None (Some z) is packed e =
        let there = found (tidy z) s e in (
          there.0,
          nonrelocatable-then zone (tidy z) (s.below ++ s.here ∷ s.above)
              (nonrelocatable-then zone z (tidy z) (nonrelocatable-changed settle none-settle (has_free n) zone z packed)
              (nonrelocatable-tidy z)) there.1,
        )

-- a slot's block that goes elsewhere at another size
nonrelocatable-move_away : (slot : ℕ) (new : Block) (zone after : List Block) → ((p : ℕ) → is_nonrelocatable p new ≡ false)
    → move_away (is_relocatable slot) new zone ≡ Some after → KeepsNonrelocatable zone after
nonrelocatable-move_away slot new zone after none e = cases (place (size new) zone) refl e
  where
    cases : (o : Option Spot) → place (size new) zone ≡ o → option_map
        (λ (s : Spot). filled new (record s {
          below = freed (is_relocatable slot) s.below;
          above = freed
              (is_relocatable slot) s.above;
        })) o ≡ Some after → KeepsNonrelocatable zone after
    cases None is e p = absurd (none-some _ e)
    cases (Some s) is e p =
        let there = nonrelocatable-place (size new) zone s is in
        ap (has (is_nonrelocatable p)) (sym (same_Some _ _ e))
        ∙ has-counts (is_nonrelocatable p) (s.below ++ s.here ∷ s.above) (filled new (moved_away (is_relocatable slot) s))
        (counts.nonrelocatable-moved p slot new s (none p ∙ sym (not_nonrelocatable-room p (size new) s.here there.0)))
        ∙ there.1 p

-- or becomes the last of its run
nonrelocatable-grow_last : (test : Block → Bool) (new : Block) (d : ℕ) (zone after : List Block)
    → ((p : ℕ) → is_nonrelocatable p new ≡ false) → grow_last test new d zone ≡ Some after → KeepsNonrelocatable zone after
nonrelocatable-grow_last test new d zone after none e = nonrelocatable-changed (λ run. others test run ++ new ∷ free (free_sum run - d))
    keeps (λ run. has test run && has_free d run) zone after e
  where
    keeps : (run : List Block) → NoNonrelocatable run → NoNonrelocatable (others test run ++ new ∷ free (free_sum run - d))
    keeps run clear p =
        none-append (is_nonrelocatable p) (others test run) (new ∷ free (free_sum run - d))
        (none-filter (is_nonrelocatable p) _ run (clear p))
        (ap (λ t. t || has (is_nonrelocatable p) (free (free_sum run - d))) (none p)
        ∙ none-free (is_nonrelocatable p) (λ n. refl) (free_sum run - d))

pub nonrelocatable-grow_mover : (slot n : ℕ) (b : Block) (zone after : List Block) → is_relocatable slot b ≡ true
    → grow_mover (is_relocatable slot) (resized n b) zone ≡ Some after → KeepsNonrelocatable zone after
nonrelocatable-grow_mover slot n b zone after mine e = cases (spot (is_relocatable slot) zone) refl e
  where
    new : Block
    new = resized n b

    none : (p : ℕ) → is_nonrelocatable p new ≡ false
    none p = alike-resized n b p ∙ not_nonrelocatable-relocatable p slot b mine

    choose : (s : Spot) → KeepsNonrelocatable zone (s.below ++ s.here ∷ s.above) → SameNonrelocatable s.here new
        → (u v w : Option (List Block)) → grow_up new s ≡ u → move_away (is_relocatable slot) new zone ≡ v
        → grow_last (is_relocatable slot) new (growth new s) zone ≡ w
        → option_or u (option_or v w) ≡ Some after → KeepsNonrelocatable zone after
    choose s whole same (Some x) v w up away end e = nonrelocatable-then zone (s.below ++ s.here ∷ s.above) after whole
        (nonrelocatable-grow_up new s after same (up ∙ e))
    choose s whole same None (Some x) w up away end e = nonrelocatable-move_away slot new zone after none (away ∙ e)
    choose s whole same None None w up away end e = nonrelocatable-grow_last (is_relocatable slot) new (growth new s) zone after
        none (end ∙ e)

    cases : (o : Option Spot) → spot (is_relocatable slot) zone ≡ o
        → option_and_then (λ (s : Spot). option_or (grow_up new s)
        (option_or (move_away (is_relocatable slot) new zone) (grow_last (is_relocatable slot) new (growth new s)
        zone))) o ≡ Some after → KeepsNonrelocatable zone after
    cases None is e = absurd (none-some _ e)
    cases (Some s) is e =
        choose s (nonrelocatable-same zone (s.below ++ s.here ∷ s.above) (sym (spot-is (is_relocatable slot) zone s is)))
        (λ p. none p ∙ sym (not_nonrelocatable-relocatable p slot s.here (spot-passes (is_relocatable slot) zone s is)))
        (grow_up new s) (move_away (is_relocatable slot) new zone)
        (grow_last (is_relocatable slot) new (growth new s) zone) refl refl refl e
