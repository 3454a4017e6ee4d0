use Rattle.heap_calls.proofs.Cited.{arith, ◌≡◌, ℕ, ◌+◌, ◌-◌, ◌≤◌, Bool, true, false, ◌||◌, List, [], ◌∷◌, ◌++◌, length, replicate, ℤ}
use Rattle.heap_calls.proofs.Cited.{Option, Some, None, Result, Ok, Err, refl, sym, ◌∙◌, ap, subst, is_some, nat_le, phys, OsErr}
use Rattle.heap_calls.proofs.Cited.{NIL_HANDLE, PURGED, PROFILE, Block, Free, Nonrelocatable, Masters, Relocatable, is_relocatable}
use Rattle.heap_calls.proofs.Cited.{content_of, no_flags, spot, freed, Put, Base, Drop, no_room, seek, if_fits, seek_slot, seek_size}
use Rattle.heap_calls.proofs.Cited.{around, State, Plain, Handle, Pointer, Held, look_up, handle_at, nothing, pointed_at, is_loose, Asked}
use Rattle.heap_calls.proofs.Cited.{is_unused, next_block, Row, row, found_in, behind, Occurrence, leb-true, if◌then◌else◌, cond, pos}
use Rattle.heap_calls.proofs.Cited.{negsuc, may_purge, not, not-true, slotted_zone, copying_zone, left_by}
use Rattle.heap_calls.specs.Serving.{new_bytes, new_size}
use Rattle.heap_calls.specs.Table as asked
use Rattle.heap_calls.specs.Rows as rows
use Rattle.heap_calls.specs.Row as table
use Rattle.heap_calls.proofs.Rows.Kinds.{has_path}
use Rattle.heap_calls.proofs.Rows.Found.{or-false}
use Rattle.heap_calls.proofs.Promises.Knowing.{handle_at-name}
use Rattle.heap_calls.proofs.Finding.{found-within, behind-fits}

-- The shapes that the paths of rows have: what is shown of each shape holds of each row that is a path.

-- each call is a path, or purges nothing, or is PurgeMem or MaxMem
pub by-kind : (P : Asked → Type 0) → ((a : Asked) → has_path (row a) ≡ true → P a)
    → ((n : ℕ) → P (asked.PurgeMem n)) → P asked.MaxMem → ((a : Asked) → may_purge (row a) ≡ false → P a)
    → (a : Asked) → P a
by-kind P path purge max rest (asked.PurgeMem n) = purge n
by-kind P path purge max rest asked.MaxMem = max
by-kind P path purge max rest a = cases (has_path (row a)) refl refl
  where
    cases : (t : Bool) → has_path (row a) ≡ t → (t || not (may_purge (row a))) ≡ true → P a
    cases true e either = path a e
    cases false e either = rest a (not-true (may_purge (row a)) either)

-- what is said of what a call did, of a row that is a path
abbrev pub ForPath : ((T : Type 0) → rows.Done T → Type 0) → Row → State → Type 0
ForPath P (table.Does {T = T} bar tell does) s = P T (does s)
ForPath P (table.Leaves left r) s = ForPath P r s
ForPath P r s = Unit {0}

-- a row leaves the zone as it was where its call is refused
abbrev pub Stays : Asked → State → Type 0
Stays a s = left_by (row a) s ≡ s.zone

-- A call is refused; makes a handle with a block, one without, or a pointer; makes a master pointer block, or a free
-- block; gives a handle's block, or a pointer's, a size; does so and writes into it; replies with another value; finds
-- nothing to do; or frees a handle's block for a new one. The first argument of each is what the row leaves where the
-- call is refused: a handle that was to be made leaves an unused master pointer, all others the zone as it was.
pub record Shapes (P : (T : Type 0) → rows.Done T → Type 0) (s : State) (a : Asked) : Type 1 where
  pub refuses : Stays a s → (T : Type 0) (code : OsErr) → P T (rows.refused code s)
  pub makes : (sp : Block → Bool) → left_by (row a) s ≡ slotted_zone sp s → (fits : Bool) (bytes : List ℕ)
      → P ℕ (rows.made (Handle Plain) sp (λ z. cond fits (seek (Put (next_block bytes s)) sp z) no_room) s)
  pub empties : Stays a s → P ℕ (rows.given (Handle Plain) nothing (seek_slot (is_unused s) nothing s.zone) s)
  pub points : Stays a s → (fits : Bool) (bytes : List ℕ) → P ℕ (rows.given Pointer nothing
      (cond fits (seek (Base (Nonrelocatable (length s.names) bytes)) nothing s.zone) no_room) s)
  pub masters : Stays a s → P (Unit {0}) (rows.changed nothing (seek (Base Masters) nothing s.zone) s)
  pub reserves : Stays a s → (p : ℕ) → P (Unit {0}) (rows.changed nothing (seek (Base (Free p)) nothing s.zone) s)
  pub nowhere : Stays a s → P (Unit {0}) (rows.changed nothing no_room s)
  pub sizes : Stays a s → (handle : Option ℕ) (held : Held) → look_up handle s ≡ Ok held → (n : ℕ) → P (Unit {0})
      (rows.changed (is_relocatable held.number) (seek_size n (is_relocatable held.number) s.zone held.at) s)
  pub pointers : Stays a s → (pointer : Option ℕ) (held : Held) → pointed_at pointer s ≡ Ok held → (n : ℕ)
      → P (Unit {0}) (rows.changed nothing (seek_size n nothing s.zone held.at) s)
  pub writes : Stays a s → (sp : Block → Bool) (handle : Option ℕ) (held : Held) → look_up handle s ≡ Ok held
      → ((b : Block) → sp b ≡ false → is_relocatable held.number b ≡ false) → (n i : ℕ) (x : List ℕ)
      → i + length x ≤ n → P (Unit {0}) (rows.sized_written sp held n i x s)
  pub replies : (T U : Type 0) (value : U) (d : rows.Done T) → P T d → P U (rows.replying value d)
  pub rests : (T : Type 0) (value : T) (sp : Block → Bool)
      → P T (record { reply = Ok value; names = s.names; spared = sp; path = [] })
  pub renews : Stays a s → (h n : ℕ) → a ≡ asked.ReallocateHandle (Some h) n
      → is_loose (spot (is_relocatable h) s.zone) ≡ true
      → P (Unit {0}) (rows.changed nothing (around (Drop h ∷ []) [] (if_fits n (seek
      (Put (Relocatable h no_flags (replicate n 0))) nothing (freed (is_relocatable h) s.zone)))) s)

-- what was found, or a refusal
found-shape : (P : (T : Type 0) → rows.Done T → Type 0) (s : State) {A T : Type 0} (r : Result A OsErr)
    (call : A → rows.Done T) → ((code : OsErr) → r ≡ Err code → P T (rows.refused code s))
    → ((k : A) → r ≡ Ok k → P T (call k)) → P T (rows.for_found r s call)
found-shape P s (Err code) call refuses each = refuses code refl
found-shape P s (Ok k) call refuses each = each k refl

-- each row that is a path has one of these shapes
pub by-shape : (P : (T : Type 0) → rows.Done T → Type 0) (s : State) (a : Asked) → Shapes P s a → ForPath P (row a) s
by-shape P s (asked.NewHandle x) law =
    law.makes nothing refl (is_some (phys (new_size x))) (new_bytes x)
by-shape P s asked.NewEmptyHandle law = law.empties refl
by-shape P s (asked.SetHandleSize handle n) law =
    found-shape P s (look_up handle s) _ (λ code e. law.refuses refl _ code) (λ held e. law.sizes refl handle held e n)
by-shape P s (asked.ReallocateHandle None n) law = law.refuses refl (Unit {0}) NIL_HANDLE
by-shape P s (asked.ReallocateHandle (Some h) n) law =
    found-shape P s (handle_at (Some h) s) _ (λ code e. law.refuses refl _ code)
    (λ k e. cases k.number (handle_at-name h s k e).1 (is_loose (spot (is_relocatable k.number) s.zone)) refl)
  where
    renewed : ℕ → rows.Done (Unit {0})
    renewed j = rows.changed nothing (around (Drop j ∷ []) [] (if_fits n (seek
        (Put (Relocatable j no_flags (replicate n 0))) nothing (freed (is_relocatable j) s.zone)))) s

    cases : (j : ℕ) → j ≡ h → (t : Bool) → is_loose (spot (is_relocatable j) s.zone) ≡ t
        → P (Unit {0}) (cond t (renewed j) (rows.refused PURGED s))
    cases j same true loose =
        subst (λ (i : ℕ). P (Unit {0}) (renewed i)) (sym same)
        (law.renews refl h n refl (ap (λ (i : ℕ). is_loose (spot (is_relocatable i) s.zone)) (sym same) ∙ loose))
    cases j same false loose = law.refuses refl (Unit {0}) PURGED
by-shape P s (asked.HandToHand handle) law =
    found-shape P s (look_up handle s) _
    (λ code e. law.refuses (ap (λ (r : Result Held OsErr). copying_zone r s) e) ℕ code)
    (λ held e. law.makes (is_relocatable held.number) (ap (λ (r : Result Held OsErr). copying_zone r s) e) true
    (content_of held.at.here))
by-shape P s (asked.HandAndHand from to) law =
    found-shape P s (look_up from s) _ (λ code e. law.refuses refl _ code) (λ a is. found-shape P s (look_up to s) _ (λ code e. law.refuses refl _ code) (λ b e.
    let len = length (content_of b.at.here) in
    let x = content_of a.at.here in
    law.writes refl (λ block. is_relocatable a.number block || is_relocatable b.number block) to b e
    (λ block not. or-false (is_relocatable a.number block) (is_relocatable b.number block) not) (len + length x) len x
    (omega arith)))
by-shape P s (asked.PtrAndHand handle x) law =
    found-shape P s (look_up handle s) _ (λ code e. law.refuses refl _ code) (λ held e.
    let len = length (content_of held.at.here) in
    law.writes refl (is_relocatable held.number) handle held e (λ b not. not) (len + length x) len x (omega arith))
by-shape P s (asked.PtrToXHand handle x) law =
    found-shape P s (look_up handle s) _ (λ code e. law.refuses refl _ code) (λ held e.
    law.writes refl (is_relocatable held.number) handle held e (λ b not. not) (length x) 0 x (omega arith))
by-shape P s (asked.Munger handle i old x) law =
    found-shape P s (look_up handle s) (λ held. call held (nat_le i (length (bytes held)))) (λ code e. law.refuses refl _ code)
    (λ held e. by_test held e (nat_le i (length (bytes held))) refl)
  where
    bytes : Held → List ℕ
    bytes held = content_of held.at.here

    call : Held → Bool → rows.Done ℤ
    call held t = if t then rows.replaced (is_relocatable held.number) held (found_in old i (bytes held)) x s
        else rows.refused PROFILE s

    by_found : (held : Held) → look_up handle s ≡ Ok held → i ≤ length (bytes held) → (o : Option Occurrence)
        → found_in old i (bytes held) ≡ o → P ℤ (rows.replaced (is_relocatable held.number) held o x s)
    by_found held e within None is = law.rests ℤ (negsuc 0) (is_relocatable held.number)
    by_found held e within (Some f) is =
        let n = length (bytes held) - f.count + length x in
        let y = x ++ behind f (bytes held) in
        law.replies (Unit {0}) ℤ (pos (f.at + length x)) (rows.sized_written (is_relocatable held.number) held n f.at y s)
        (law.writes refl (is_relocatable held.number) handle held e (λ b not. not) n f.at y
        (omega (arith, behind-fits f x (bytes held) (found-within old i (bytes held) f within is))))

    by_test : (held : Held) → look_up handle s ≡ Ok held → (t : Bool) → nat_le i (length (bytes held)) ≡ t
        → P ℤ (call held t)
    by_test held e true fits =
        by_found held e (leb-true i (length (bytes held)) fits) (found_in old i (bytes held)) refl
    by_test held e false fits = law.refuses refl ℤ PROFILE
by-shape P s (asked.NewPtr n) law = law.points refl (is_some (phys n)) (replicate n 0)
by-shape P s (asked.SetPtrSize pointer n) law =
    found-shape P s (pointed_at pointer s) _ (λ code e. law.refuses refl _ code) (λ held e. law.pointers refl pointer held e n)
by-shape P s (asked.ReserveMem n) law = cases (phys n)
  where
    cases : (o : Option ℕ) → P (Unit {0}) (rows.changed nothing (rows.room_for o s.zone) s)
    cases None = law.nowhere refl
    cases (Some p) = law.reserves refl p
by-shape P s asked.MoreMasters law = law.masters refl
by-shape P s a law = tt
