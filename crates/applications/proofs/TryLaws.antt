use Rattle.applications.proofs.Cited.{◌≡◌, ◌≤◌, ◌<◌, ◌^◌, ◌+◌, ◌⊎◌, ℕ, ℤ, length, Bool, true, false, List, [], Some, inl, inr, Option, None}
use Rattle.applications.proofs.Cited.{refl, sym, ap, subst, true≢false, ◌∙◌, arith, same_Some, none-some, Call, OsErr, ControlCall}
use Rattle.applications.proofs.Cited.{SegmentCall, Block, count, is_masters, is_relocatable, has, counted, locked_place, pointer_place}
use Rattle.applications.proofs.Cited.{has_purgeable, State, Memory, fresh_memory, Told, Done, Given, Fetched, Number, Numbers, Offset, Code}
use Rattle.applications.proofs.Cited.{Bytes, Kind, Info, Entry, Refused, Asked, served, gone_in, holds-known, known-fresh, next-new}
use Rattle.applications.proofs.Cited.{unsearched, StaysOr, served-known, served-shows, served_searches, served-busy, CostsAtMostMasters}
use Rattle.applications.proofs.Cited.{served_costs, same-costs, served_masters_no_fewer, served-stays, served-stands, served-empties}
use Rattle.applications.proofs.Cited.{Resources, Managers, Reads, ResourceAsked, Program, block_of, Line, put_reads, Running, Blocks, once}
use Rattle.applications.proofs.Cited.{storing, asked, resource_asked, managers_of, program_of, nowhere, heard, stored_gone, gone-files}
use Rattle.applications.proofs.Cited.{heard-none, launched_with, Deed, Ask, Find, Jump, Steer, deed_of, event_of, put_found, put_deed}
use Rattle.applications.proofs.Cited.{put_event, ShowsPut, HoldsPut, frees, drops, deed_takes_block, opens, Kept, KeepsLocked}
use Rattle.applications.proofs.Cited.{KeepsNonrelocatable, PurgesOnlyPurgeable, SearchesFew, RefusedLeaves, RefusedCosts, with_segment}
use Rattle.applications.proofs.Cited.{OnlyStores, KeepsResources, writes_files, KeepsFiles, KeepsTable, is_answered, StayPut, put_at_launch}
use Rattle.applications.proofs.Cited.{preloaded-known, preloaded-masters, preloaded-fits, refused-gone}
use Rattle.std.proofs.Common.{◌&&◌}
use Rattle.mac_words.specs.declared.call.Call.TheVariants as call
use Rattle.mac_words.specs.declared.call.ControlCall.TheVariants as control
use Rattle.heap_calls.specs.Table as asks
use Rattle.heap_calls.proofs.Promises.Knowing.{Known}
use Rattle.res_calls.specs.Asked as finds
use Rattle.segments.specs.Asked as jumps
use Rattle.res_calls.specs.Gone as purges
use Rattle.segments.specs.Gone as jump_purges
use Rattle.applications.proofs.Refusals.{asked-leaves, found-leaves, found-costs, Fetches, fetched_by, jumped-stops, jumped-costs}
use Rattle.applications.specs.Laws.{jumps as is_jump}
use Rattle.res_calls.proofs.Walks.Laws as laws
use Rattle.res_calls.proofs.Walks.Taking.{served-stays as found-stays, served-empties as found-empties}
use Rattle.segments.proofs.Laws as jumping
use Rattle.segments.proofs.Taking.{served-stays as jumped-stays}

-- The laws of one try, by any application that a run reaches.

-- what is known of an application's memory between two tries
pub record Sound (m : Memory) (bytes : ℕ → List ℕ) : Type 0 where
  pub known : Known m.heap bytes
  pub masters : 0 < count is_masters m.heap.zone
  pub fits : m.log.searches < 2 ^ 64

-- a fresh memory
pub sound-fresh : (n : ℕ) → Sound (fresh_memory n nowhere) (λ h. [])
sound-fresh n = record { known = known-fresh n; masters = omega arith; fits = omega arith }

-- that of an application that was just launched
pub sound-launched : (resources : Resources) (n : ℕ)
    → Sound (launched_with resources n nowhere).memory (put_at_launch resources n)
sound-launched resources n =
    let s : Managers = record { memory = fresh_memory n nowhere; resources = resources } in
    let fresh = sound-fresh n in
    let some = fresh.masters in
    let kept = preloaded-masters s in record {
      known = preloaded-known s (λ h. []) fresh.known;
      masters = omega arith;
      fits = preloaded-fits s fresh.masters fresh.fits;
    }

-- an application after a call of the heap's table, of the Resource Manager's, or of the Segment Manager's
abbrev pub asked_after : Asked → Running → Running
asked_after a r = storing r.resources.purging (gone_in a r.memory) (record r { memory = (served a r.memory).1 })

abbrev pub found_after : ResourceAsked → Running → Running
found_after a r = storing r.resources.purging (purges.gone_for a (managers_of r)) (record r {
  memory = (finds.served a (managers_of r)).after.memory;
  resources = (finds.served a (managers_of r)).after.resources;
})

abbrev pub jumped_after : SegmentCall → Running → Running
jumped_after c r = storing r.resources.purging (jump_purges.gone_for c (program_of r)) (record r {
  memory = (jumps.served c (program_of r)).after.managers.memory;
  resources = (jumps.served c (program_of r)).after.managers.resources;
  table = (jumps.served c (program_of r)).after.table;
})

-- what holds of each call of the heap's table, of each of the Resource Manager's, of each of the Segment Manager's, and
-- of one that leaves them all, holds of each try
pub of-try : (Q : Deed → Told → Reads → Running → Type 0) (blocks : Blocks) (c : Call) (r : Running)
    → ((a : Asked) → Q (Ask a) (served a r.memory).0 [] (asked_after a r))
    → ((a : ResourceAsked) → Q (Find a) (finds.served a (managers_of r)).told (finds.served a (managers_of r)).reads
    (found_after a r))
    → ((c : SegmentCall) → Q (Jump c) (jumps.served c (program_of r)).told (jumps.served c (program_of r)).reads
    (jumped_after c r))
    → ((k : ControlCall) (grow : List Line) → Q (Steer k) Done [] (record r { grow = grow }))
    → Q (deed_of c r.names) (once blocks c r).told (once blocks c r).reads (once blocks c r).after
of-try Q blocks (call.Heap c) r asks finds jumps steers = asks (asked c r.names)
of-try Q blocks (call.Resource c) r asks finds jumps steers = finds (resource_asked c r.names)
of-try Q blocks (call.Segment c) r asks finds jumps steers = jumps c
of-try Q blocks (call.Control (control.SetGrowZone name)) r asks finds jumps steers =
    steers (control.SetGrowZone name) (block_of name.0.items blocks)
of-try Q blocks (call.Control control.WaitNextEvent) r asks finds jumps steers = steers control.WaitNextEvent r.grow
of-try Q blocks (call.Control control.ExitToShell) r asks finds jumps steers = steers control.ExitToShell r.grow

-- a try binds no name
pub once-names : (blocks : Blocks) (c : Call) (r : Running) → (once blocks c r).after.names ≡ r.names
once-names blocks c r = of-try (λ d told reads after. after.names ≡ r.names) blocks c r
    (λ a. refl) (λ a. refl) (λ c. refl) (λ k grow. refl)

-- and leaves which numbers are busy
pub once-busy : (blocks : Blocks) (c : Call) (r : Running)
    → (once blocks c r).after.memory.log.busy ≡ r.memory.log.busy
once-busy blocks c r = of-try (λ d told reads after. after.memory.log.busy ≡ r.memory.log.busy) blocks c r
    (λ a. served-busy a r.memory) (λ a. laws.served-busy a (managers_of r))
    (λ c. jumping.served-busy c (program_of r)) (λ k grow. refl)

-- what is known is kept by each call of the heap's table
served-sound : (a : Asked) (m : Memory) (bytes : ℕ → List ℕ) → Sound m bytes
    → Sound (served a m).1 (put_deed (Ask a) (served a m).0 [] bytes)
served-sound a m bytes sound =
    let few = served_searches a m sound.masters sound.fits in
    let count = few.2 in
    let kept = served_masters_no_fewer a m sound.known.once in
    let some = sound.masters in
    record { known = served-known a m bytes sound.known; masters = omega arith; fits = omega arith }

-- where a call that was refused read nothing, what was read counts
found-put : (told : Told) (reads : Reads) (bytes : ℕ → List ℕ)
    → ((code : OsErr) → told ≡ Refused code → reads ≡ []) → put_found told reads bytes ≡ put_reads reads bytes
found-put (Refused code) reads bytes none = ap (λ (x : Reads). put_reads x bytes) (sym (none code refl))
found-put Done reads bytes none = refl
found-put (Given n) reads bytes none = refl
found-put (Fetched handle read) reads bytes none = refl
found-put (Number n) reads bytes none = refl
found-put (Numbers one other) reads bytes none = refl
found-put (Offset offset) reads bytes none = refl
found-put (Code code) reads bytes none = refl
found-put (Bytes x) reads bytes none = refl
found-put (Kind kind) reads bytes none = refl
found-put (Info id kind name) reads bytes none = refl
found-put (Entry segment flag) reads bytes none = refl

-- and by each of the Resource Manager's
found-sound : (a : ResourceAsked) (s : Managers) (bytes : ℕ → List ℕ) → Sound s.memory bytes
    → Sound (finds.served a s).after.memory (put_found (finds.served a s).told (finds.served a s).reads bytes)
found-sound a s bytes sound =
    let kept = laws.served-masters a s bytes sound.known in
    let some = sound.masters in record {
      known = subst (Known (finds.served a s).after.memory.heap)
          (sym (found-put (finds.served a s).told (finds.served a s).reads bytes (laws.served-unread a s)))
          (laws.served-known a s bytes sound.known);
      masters = omega arith;
      fits = laws.served-fits a s sound.masters sound.fits;
    }

-- and by each of the Segment Manager's
jumped-sound : (c : SegmentCall) (p : Program) (bytes : ℕ → List ℕ) → Sound p.managers.memory bytes
    → Sound (jumps.served c p).after.managers.memory (put_reads (jumps.served c p).reads bytes)
jumped-sound c p bytes sound =
    let few = jumping.served-searches c p sound.masters sound.fits in
    let count = few.2 in
    let kept = jumping.served-masters c p in
    let some = sound.masters in
    record { known = jumping.served-known c p bytes sound.known; masters = omega arith; fits = omega arith }

-- and so by each try, with the bytes that it put
pub once-sound : (blocks : Blocks) (c : Call) (r : Running) (bytes : ℕ → List ℕ) → Sound r.memory bytes
    → Sound (once blocks c r).after.memory
    (put_deed (deed_of c r.names) (once blocks c r).told (once blocks c r).reads bytes)
once-sound blocks c r bytes sound = of-try
    (λ d told reads after. Sound after.memory (put_deed d told reads bytes)) blocks c r
    (λ a. served-sound a r.memory bytes sound) (λ a. found-sound a (managers_of r) bytes sound)
    (λ c. jumped-sound c (program_of r) bytes sound) (λ k grow. sound)

-- bytes that a try shows are those last put
pub once-shows : (blocks : Blocks) (l : Line) (r : Running) (bytes : ℕ → List ℕ) → Sound r.memory bytes
    → ShowsPut bytes (event_of l r (once blocks l.call r))
once-shows blocks l r bytes sound = of-try
    (λ d told reads after. (h : ℕ) (shown : List ℕ)
    → (d ≡ Ask (asks.Show (Some h))) ⊎ (d ≡ Ask (asks.ShowPtr (Some h)))
    → told ≡ Bytes shown → shown ≡ bytes h) blocks l.call r shows found jumped none
  where
    same : (a b : Asked) → Ask a ≡ Ask b → a ≡ b
    same a b e = cc

    shows : (a : Asked) (h : ℕ) (shown : List ℕ)
        → (Ask a ≡ Ask (asks.Show (Some h))) ⊎ (Ask a ≡ Ask (asks.ShowPtr (Some h)))
        → (served a r.memory).0 ≡ Bytes shown → shown ≡ bytes h
    shows a h shown (inl is) tells = served-shows a r.memory bytes sound.known h shown
        (inl (same a (asks.Show (Some h)) is)) tells
    shows a h shown (inr is) tells = served-shows a r.memory bytes sound.known h shown
        (inr (same a (asks.ShowPtr (Some h)) is)) tells

    found : (a : ResourceAsked) (h : ℕ) (shown : List ℕ)
        → (Find a ≡ Ask (asks.Show (Some h))) ⊎ (Find a ≡ Ask (asks.ShowPtr (Some h)))
        → (finds.served a (managers_of r)).told ≡ Bytes shown → shown ≡ bytes h
    found a h shown (inl is) tells = cc
    found a h shown (inr is) tells = cc

    jumped : (c : SegmentCall) (h : ℕ) (shown : List ℕ)
        → (Jump c ≡ Ask (asks.Show (Some h))) ⊎ (Jump c ≡ Ask (asks.ShowPtr (Some h)))
        → (jumps.served c (program_of r)).told ≡ Bytes shown → shown ≡ bytes h
    jumped c h shown (inl is) tells = cc
    jumped c h shown (inr is) tells = cc

    none : (k : ControlCall) (grow : List Line) (h : ℕ) (shown : List ℕ)
        → (Steer k ≡ Ask (asks.Show (Some h))) ⊎ (Steer k ≡ Ask (asks.ShowPtr (Some h)))
        → Done ≡ Bytes shown → shown ≡ bytes h
    none k grow h shown is tells = cc

-- after a try each block holds the bytes last put into it
pub once-holds : (blocks : Blocks) (l : Line) (r : Running) (bytes : ℕ → List ℕ) → Sound r.memory bytes
    → HoldsPut bytes (event_of l r (once blocks l.call r))
once-holds blocks l r bytes sound = holds-known (once blocks l.call r).after.memory.heap
    (put_event (event_of l r (once blocks l.call r)) bytes) (once-sound blocks l.call r bytes sound).known

-- a block that stays where it was, or is gone after a call that took it away and is done, stays put
stays-put : (place_of : ℕ → List Block → Option ℕ) (taken : ℕ → Bool) (told : Told) (before after : State)
    → ((n place : ℕ) → place_of n before.zone ≡ Some place → StaysOr (taken n) place told (place_of n after.zone))
    → StayPut place_of (λ n. is_answered told && taken n) before after
stays-put place_of taken told before after each = record { stays = stays; goes = goes }
  where
    stays : (n here there : ℕ) → place_of n before.zone ≡ Some here → place_of n after.zone ≡ Some there
        → there ≡ here
    stays n here there was is = by_way (each n here was)
      where
        by_way : StaysOr (taken n) here told (place_of n after.zone) → there ≡ here
        by_way (inl same) = same_Some there here (sym is ∙ same)
        by_way (inr gone) = absurd (none-some there (sym gone.0 ∙ is))

    goes : (n here : ℕ) → place_of n before.zone ≡ Some here → place_of n after.zone ≡ None
        → (is_answered told && taken n) ≡ true
    goes n here was is = by_way (each n here was)
      where
        by_way : StaysOr (taken n) here told (place_of n after.zone) → (is_answered told && taken n) ≡ true
        by_way (inl same) = absurd (none-some here (sym is ∙ same))
        by_way (inr gone) = rw (gone.1, gone.2) refl

-- a try leaves locked blocks where they are
pub once-locked : (blocks : Blocks) (l : Line) (r : Running) (bytes : ℕ → List ℕ) → Sound r.memory bytes
    → KeepsLocked bytes (event_of l r (once blocks l.call r))
once-locked blocks l r bytes sound = of-try
    (λ d told reads after. StayPut locked_place (λ h. is_answered told && frees h d r) r.memory.heap after.memory.heap)
    blocks l.call r
    (λ a. stays-put locked_place (λ h. frees h (Ask a) r) (served a r.memory).0 r.memory.heap
    (served a r.memory).1.heap (served-stays a r.memory sound.known.once))
    (λ a. stays-put locked_place (λ h. frees h (Find a) r) (finds.served a (managers_of r)).told r.memory.heap
    (finds.served a (managers_of r)).after.memory.heap
    (found-stays a (managers_of r) bytes sound.known))
    (λ c. stays-put locked_place (λ h. frees h (Jump c) r) (jumps.served c (program_of r)).told r.memory.heap
    (jumps.served c (program_of r)).after.managers.memory.heap
    (jumped-stays c (program_of r) bytes sound.known))
    (λ k grow. stays-put locked_place (λ h. frees h (Steer k) r) Done r.memory.heap r.memory.heap (λ h place is. inl is))

-- and pointers' blocks
pub once-nonrelocatable : (blocks : Blocks) (l : Line) (r : Running) (bytes : ℕ → List ℕ) → Sound r.memory bytes
    → KeepsNonrelocatable bytes (event_of l r (once blocks l.call r))
once-nonrelocatable blocks l r bytes sound = of-try
    (λ d told reads after. StayPut pointer_place (λ p. is_answered told && drops p d) r.memory.heap after.memory.heap)
    blocks l.call r
    (λ a. stays-put pointer_place (λ p. drops p (Ask a)) (served a r.memory).0 r.memory.heap
    (served a r.memory).1.heap
    (served-stands a r.memory sound.known.once (next-new r.memory.heap bytes sound.known)))
    (λ a. stays-put pointer_place (λ p. drops p (Find a)) (finds.served a (managers_of r)).told r.memory.heap
    (finds.served a (managers_of r)).after.memory.heap
    (λ p place is. inl (laws.served-nonrelocatable a (managers_of r) bytes sound.known p place is)))
    (λ c. stays-put pointer_place (λ p. drops p (Jump c)) (jumps.served c (program_of r)).told r.memory.heap
    (jumps.served c (program_of r)).after.managers.memory.heap
    (λ p place is. inl (jumping.served-nonrelocatable c (program_of r) bytes sound.known p place is)))
    (λ k grow. stays-put pointer_place (λ p. drops p (Steer k)) Done r.memory.heap r.memory.heap
    (λ p place is. inl is))

-- and purges only blocks that may be purged, or that its call lets go
pub once-purgeable : (blocks : Blocks) (l : Line) (r : Running) (bytes : ℕ → List ℕ) → Sound r.memory bytes
    → PurgesOnlyPurgeable bytes (event_of l r (once blocks l.call r))
once-purgeable blocks l r bytes sound h = of-try
    (λ d told reads after. has (is_relocatable h) r.memory.heap.zone ≡ true
    → has (is_relocatable h) after.memory.heap.zone ≡ false
    → (has_purgeable h r.memory.heap.zone ≡ true) ⊎ ((is_answered told && deed_takes_block h d r)
    ≡ true)) blocks l.call r
    (λ a before after. done_lets (deed_takes_block h (Ask a) r) (served a r.memory).0
    (served-empties a r.memory sound.known.once h before after))
    (λ a before after. done_lets (deed_takes_block h (Find a) r) (finds.served a (managers_of r)).told
    (found-empties a (managers_of r) h before after))
    (λ c before after. inl (jumping.served-purgeable c (program_of r) bytes sound.known h before after))
    (λ k grow before after. absurd (true≢false (sym before ∙ after)))
  where
    done_lets : (deed_takes_block : Bool) (told : Told)
        → (has_purgeable h r.memory.heap.zone ≡ true) ⊎ ((told ≡ Done) × (deed_takes_block ≡ true))
        → (has_purgeable h r.memory.heap.zone ≡ true) ⊎ ((is_answered told && deed_takes_block) ≡ true)
    done_lets deed_takes_block told (inl may) = inl may
    done_lets deed_takes_block told (inr both) = inr (rw (both.0, both.1) refl)

-- it searches for room few times
pub once-searches : (blocks : Blocks) (l : Line) (r : Running) (bytes : ℕ → List ℕ) → Sound r.memory bytes
    → SearchesFew bytes (event_of l r (once blocks l.call r))
once-searches blocks l r bytes sound = of-try
    (λ d told reads after. opens d ≡ false → (n : ℕ) × (n ≤ length r.memory.heap.zone + 1)
    × (after.memory.log.searches ≡ counted r.memory.log.searches n)) blocks l.call r
    (λ a opens. served_searches a r.memory sound.masters sound.fits)
    (λ a opens. laws.served-searches a (managers_of r) opens sound.masters sound.fits)
    (λ c opens. jumping.served-searches c (program_of r) sound.masters sound.fits)
    (λ k grow opens. unsearched r.memory.heap.zone r.memory.log.searches sound.fits)

-- where it is refused it leaves the memory
pub once-refused : (blocks : Blocks) (l : Line) (r : Running) (bytes : ℕ → List ℕ) → Sound r.memory bytes
    → RefusedLeaves bytes (event_of l r (once blocks l.call r))
once-refused blocks l r bytes sound code tells = (
  of-try (λ d told reads after. told ≡ Refused code → Kept d code r after) blocks l.call r
      (λ a is. (asked-leaves a r.memory code is, refl))
      (λ a is. (
        found-leaves a (managers_of r) code is,
        ap (stored_gone (heard r.resources.purging (purges.gone_for a (managers_of r))))
            (laws.served-refused a (managers_of r) code is).1,
      ))
      (λ c is. (
        λ other.
            ap (λ (p : Program). storing r.resources.purging (jump_purges.gone_for c (program_of r)) (kept p))
            (jumping.served-refused c (program_of r) code is other)
            ∙ ap (λ l. storing r.resources.purging l r) (refused-gone c (program_of r) code is other)
            ∙ ap (λ l. record r { resources = stored_gone l r.resources }) (heard-none r.resources.purging),
        fetched c (jumped-stops c (program_of r) code is),
      ))
      (λ k grow is. let no : Done ≡ Refused code = is in cc) tells,
  once-names blocks l.call r,
)
  where
    kept : Program → Running
    kept p = record r { memory = p.managers.memory; resources = p.managers.resources; table = p.table }

    same : (n : Option ℤ) → kept (fetched_by n (program_of r)) ≡ with_segment n r
    same None = refl
    same (Some n) = refl

    fetched : (c : SegmentCall) → Fetches (program_of r) (jumps.served c (program_of r)).after (jumps.served c (program_of r)).reads
        → (n : Option ℤ)
        × (jumped_after c r ≡ storing r.resources.purging (jump_purges.gone_for c (program_of r)) (with_segment n r))
    fetched c left = (
      left.0,
      ap (λ (p : Program). storing r.resources.purging
          (jump_purges.gone_for c (program_of r)) (kept p)) left.1
          ∙ ap (storing r.resources.purging (jump_purges.gone_for c (program_of r))) (same left.0),
    )

-- and costs at most one block of master pointers
pub once-costs : (blocks : Blocks) (l : Line) (r : Running) (bytes : ℕ → List ℕ) → Sound r.memory bytes
    → RefusedCosts bytes (event_of l r (once blocks l.call r))
once-costs blocks l r bytes sound code = of-try
    (λ d told reads after. told ≡ Refused code → reads ≡ []
    → CostsAtMostMasters r.memory.heap.zone after.memory.heap.zone) blocks l.call r
    (λ a is none. served_costs a r.memory code is)
    (λ a is none. found-costs a (managers_of r) code is)
    (λ c is none. jumped-costs c (program_of r) code is none)
    (λ k grow is none. same-costs r.memory.heap.zone)

-- a call of the heap's table only stores what it purges
pub once-keeps-resources : (blocks : Blocks) (l : Line) (r : Running) (bytes : ℕ → List ℕ) → Sound r.memory bytes
    → KeepsResources bytes (event_of l r (once blocks l.call r))
once-keeps-resources blocks l r bytes sound = of-try
    (λ d told reads after. OnlyStores d r after) blocks l.call r
    (λ a. refl) (λ a. tt) (λ c. tt) (λ k grow. refl)

-- and each try that makes or updates no file the files
pub once-keeps-files : (blocks : Blocks) (l : Line) (r : Running) (bytes : ℕ → List ℕ) → Sound r.memory bytes
    → KeepsFiles bytes (event_of l r (once blocks l.call r))
once-keeps-files blocks l r bytes sound = of-try
    (λ d told reads after. writes_files d ≡ false → after.resources.files ≡ r.resources.files) blocks l.call r
    (λ a is. gone-files (heard r.resources.purging (gone_in a r.memory)) r.resources)
    (λ a is. gone-files (heard r.resources.purging (purges.gone_for a (managers_of r)))
    (finds.served a (managers_of r)).after.resources ∙ laws.served-files a (managers_of r) is)
    (λ c is. gone-files (heard r.resources.purging (jump_purges.gone_for c (program_of r)))
    (jumps.served c (program_of r)).after.managers.resources
    ∙ jumping.served-files c (program_of r)) (λ k grow is. refl)

-- and each but those of the Segment Manager's calls the jump table
pub once-keeps-table : (blocks : Blocks) (l : Line) (r : Running) (bytes : ℕ → List ℕ) → Sound r.memory bytes
    → KeepsTable bytes (event_of l r (once blocks l.call r))
once-keeps-table blocks l r bytes sound = of-try (λ d told reads after. is_jump d ≡ false → after.table ≡ r.table)
    blocks l.call r (λ a is. refl) (λ a is. refl) (λ c is. cc) (λ k grow is. refl)
