use Rattle.heap_calls.proofs.Cited.{◌≡◌, ℕ, ◌+◌, ◌<◌, ◌≤◌, Bool, true, false, List, ◌∷◌, [], length, replicate, Option, Some, Ok, refl}
use Rattle.heap_calls.proofs.Cited.{is_some, phys, Block, Free, Nonrelocatable, Masters, Relocatable, is_purgeable, is_relocatable}
use Rattle.heap_calls.proofs.Cited.{is_nonrelocatable, no_flags, spot, may_be_purged, Move, Search, Purge, Put, Base, Drop, Write, did}
use Rattle.heap_calls.proofs.Cited.{Sought, seek, seek_slot, seek_size, Along, along-if, along-then, along-later, along-seek, along-slot}
use Rattle.heap_calls.proofs.Cited.{again-along, State, Held, look_up, nothing, is_loose, Asked, is_unused, next_block, Row, row, cond}
use Rattle.heap_calls.proofs.Cited.{no_room, Handle, Plain}
use Rattle.heap_calls.specs.Table as asked
use Rattle.heap_calls.specs.Rows as rows
use Rattle.heap_calls.proofs.Same.Resizing.{pointer-spot}
use Rattle.heap_calls.proofs.Rows.Found.{look_up-within, spared-stays}
use Rattle.heap_calls.proofs.Rows.Shapes.{ForPath, Shapes, by-shape}

-- What a law of moves must allow, for the path of each row to keep to it.

-- the path of a row, if it has one, keeps to a law of a move in a zone, by which blocks are spared
abbrev pub Keeps : ((Block → Bool) → Move → List Block → Type 0) → Row → State → Type 0
Keeps M r s = ForPath (λ (T : Type 0) d. Along (M d.spared) d.spared d.path s.zone) r s

-- a block that a call puts: it has no name, or the next number
abbrev pub IsNext : ℕ → Block → Type 0
IsNext n (Free p) = Unit {0}
IsNext n (Nonrelocatable id content) = id ≡ n
IsNext n Masters = Unit {0}
IsNext n (Relocatable id flags content) = (id ≡ n) × (flags ≡ no_flags)

-- the block of a handle, which is spared
pub record Spared (sp : Block → Bool) (s : State) (held : Held) : Type 0 where
  pub within : held.number < length s.names
  pub there : spot (is_relocatable held.number) s.zone ≡ Some held.at
  pub kept : (b : Block) → may_be_purged sp b ≡ true → is_relocatable held.number b ≡ false

pub record Allows (M : (Block → Bool) → Move → List Block → Type 0) (s : State) (a : Asked) : Type 0 where
  pub searches : (sp : Block → Bool) (n : ℕ) (z : List Block) → M sp (Search n) z
  pub purges : (sp : Block → Bool) (k : ℕ) (z : List Block) → M sp (Purge k) z
  pub puts : (sp : Block → Bool) (new : Block) → IsNext (length s.names) new → (z : List Block) → M sp (Put new) z
  pub bases : (sp : Block → Bool) (new : Block) → IsNext (length s.names) new → (z : List Block) → M sp (Base new) z
  pub sizes : (sp : Block → Bool) (n : ℕ) (held : Held) → Spared sp s held
      → Along (M sp) sp (seek_size n sp s.zone held.at).path s.zone
  pub pointers : (n : ℕ) (held : Held) → spot (is_nonrelocatable held.number) s.zone ≡ Some held.at
      → Along (M nothing) nothing (seek_size n nothing s.zone held.at).path s.zone
  pub writes : (sp : Block → Bool) (held : Held) (n i : ℕ) (x : List ℕ) → Spared sp s held → i + length x ≤ n
      → (seek_size n sp s.zone held.at).found ≡ true
      → M sp (Write held.number i x) (did sp (seek_size n sp s.zone held.at).path s.zone).zone
  pub renews : (h n : ℕ) → a ≡ asked.ReallocateHandle (Some h) n → is_loose (spot (is_relocatable h) s.zone) ≡ true
      → M nothing (Drop h) s.zone × ((z : List Block) → M nothing (Put (Relocatable h no_flags (replicate n 0))) z)

-- what a search that spares a block finds of it
pub is-spared : (sp : Block → Bool) (handle : Option ℕ) (s : State) (held : Held) → look_up handle s ≡ Ok held
    → ((b : Block) → sp b ≡ false → is_relocatable held.number b ≡ false) → Spared sp s held
is-spared sp handle s held e spares =
    let found = look_up-within handle s held e in
    record { within = found.0; there = found.1; kept = λ b may. spares b (spared-stays (is_purgeable b) (sp b) may) }

module _ (M : (Block → Bool) → Move → List Block → Type 0) (s : State) (a : Asked) (law : Allows M s a)
  where
    put-along : (sp : Block → Bool) (new : Block) → IsNext (length s.names) new → (z : List Block)
        → Along (M sp) sp (seek (Put new) sp z).path z
    put-along sp new next z = along-seek (M sp) sp (law.searches sp) (law.purges sp) (Put new) (law.puts sp new next) z

    base-along : (new : Block) → IsNext (length s.names) new → Along (M nothing) nothing (seek (Base new) nothing
        s.zone).path s.zone
    base-along new next = along-seek (M nothing) nothing (law.searches nothing) (law.purges nothing) (Base new)
        (law.bases nothing new next) s.zone

    slot-along : (sp : Block → Bool) → Along (M sp) sp (seek_slot (is_unused s) sp s.zone).path s.zone
    slot-along sp = along-slot (M sp) sp (law.searches sp) (law.purges sp) (law.bases sp Masters tt) (is_unused s)
        s.zone

    made-along : (sp : Block → Bool) (block : List Block → Sought)
        → ((z : List Block) → Along (M sp) sp (block z).path z) → Along (M sp) sp (rows.made (Handle Plain) sp block s).path s.zone
    made-along sp block each =
        along-then (M sp) sp (seek_slot (is_unused s) sp s.zone) block s.zone (slot-along sp) each

    written-along : (sp : Block → Bool) (held : Held) (n i : ℕ) (x : List ℕ) → Spared sp s held → i + length x ≤ n
        → Along (M sp) sp (rows.sized_written sp held n i x s).path s.zone
    written-along sp held n i x there within =
        along-later (M sp) sp (Write held.number i x ∷ []) (seek_size n sp s.zone held.at) s.zone
        (law.sizes sp n held there) (λ found. (law.writes sp held n i x there within found, tt))

    shapes-along : Shapes (λ (T : Type 0) d. Along (M d.spared) d.spared d.path s.zone) s a
    shapes-along = record {
      refuses = λ left T code. tt;
      makes = λ sp left fits bytes. made-along sp (λ z. cond fits (seek (Put (next_block bytes s)) sp z) no_room)
          (λ z. along-if (M sp) sp fits (seek (Put (next_block bytes s)) sp z) z
          (put-along sp (next_block bytes s) (refl, refl) z));
      empties = λ left. slot-along nothing;
      points = λ left fits bytes.
          let new = Nonrelocatable (length s.names) bytes in
          along-if (M nothing) nothing fits (seek (Base new) nothing s.zone) s.zone (base-along new refl);
      masters = λ left. base-along Masters tt;
      reserves = λ left p. base-along (Free p) tt;
      nowhere = λ left. tt;
      sizes = λ left handle held e n.
          let sp = is_relocatable held.number in
          law.sizes sp n held (is-spared sp handle s held e (λ b not. not));
      pointers = λ left pointer held e n. law.pointers n held (pointer-spot pointer s held e);
      writes = λ left sp handle held e spares n i x within.
          written-along sp held n i x (is-spared sp handle s held e spares) within;
      replies = λ T U value d along. along;
      rests = λ T value sp. tt;
      renews = λ left h n is loose.
          let own = law.renews h n is loose in
          again-along (M nothing) nothing (law.searches nothing) (law.purges nothing) (is_some (phys n)) h
          (Relocatable h no_flags (replicate n 0)) s.zone own.0 own.1;
    }

-- each row
pub row-along : (M : (Block → Bool) → Move → List Block → Type 0) (s : State) (a : Asked) → Allows M s a
    → Keeps M (row a) s
row-along M s a law = by-shape _ s a (shapes-along M s a law)
