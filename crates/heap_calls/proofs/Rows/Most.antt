use Rattle.heap_calls.proofs.Cited.{◌≡◌, ℕ, ◌+◌, ◌≤◌, Bool, true, false, List, [], ◌∷◌, ◌++◌, length, replicate, refl, ap, cond, arith}
use Rattle.heap_calls.proofs.Cited.{is_some, phys, Block, Free, Nonrelocatable, Masters, Relocatable, total, is_relocatable, no_flags}
use Rattle.heap_calls.proofs.Cited.{unless-le, freed-is, total-append, Move, Put, Base, Write, Did, did, Sought, seek, seek_slot, seek_size}
use Rattle.heap_calls.proofs.Cited.{did-append, along-slot, Weighs, PutsNone, puts-none, conserved, seek-most, if-most, size-most}
use Rattle.heap_calls.proofs.Cited.{again-most, State, Held, nothing, Asked, work, is_unused, next_block, Row, row, no_room, Meaning}
use Rattle.heap_calls.proofs.Cited.{Handle, Plain}
use Rattle.heap_calls.specs.Rows as rows
use Rattle.heap_calls.proofs.Rows.Shapes.{ForPath, Shapes, by-shape}

-- What the path of a row purges comes to no more than there was, by any measure.

-- what a row that is a path purges
abbrev pub PurgesMost : (Block → ℕ) → Row → State → Type 0
PurgesMost of r s = ForPath (λ (T : Type 0) d. total of (work d s).gone ≤ total of s.zone) r s

module _ (of : Block → ℕ) (none : (k : ℕ) → of (Free k) ≡ 0) (masters : of Masters ≡ 0) (s : State)
  where
    pub slot-even : (sp : Block → Bool) → total of (did sp (seek_slot (is_unused s) sp s.zone).path s.zone).zone
        + total of (did sp (seek_slot (is_unused s) sp s.zone).path s.zone).gone ≡ total of s.zone
    slot-even sp =
        let path = (seek_slot (is_unused s) sp s.zone).path in
        conserved of none sp path (puts-none of sp path s.zone (along-slot (PutsNone of) sp (λ n z. refl) (λ k z. refl)
        (λ z. masters) (is_unused s) s.zone)) s.zone
        (along-slot (Weighs of) sp (λ n z. tt) (λ k z. tt) (λ z. tt) (is_unused s) s.zone)

    pub made-most : (name : Meaning) (sp : Block → Bool) (block : List Block → Sought)
        → ((z : List Block) → total of (did sp (block z).path z).gone ≤ total of z)
        → total of (work (rows.made name sp block s) s).gone ≤ total of s.zone
    made-most name sp block each = cases slot.found
      where
        slot : Sought
        slot = seek_slot (is_unused s) sp s.zone

        before : Did
        before = did sp slot.path s.zone

        more : Sought
        more = block before.zone

        cases : (t : Bool)
            → total of (did sp (cond t (record { found = more.found; path = slot.path ++ more.path }) slot).path
            s.zone).gone
            ≤ total of s.zone
        cases true = omega (
          arith,
          ap (λ (d : Did). total of d.gone) (did-append sp slot.path more.path s.zone),
          total-append of before.gone (did sp more.path before.zone).gone,
          each before.zone,
          slot-even sp,
        )
        cases false = omega (arith, slot-even sp)

    written-most : (sp : Block → Bool) (held : Held) (n i : ℕ) (x : List ℕ)
        → total of (work (rows.sized_written sp held n i x s) s).gone ≤ total of s.zone
    written-most sp held n i x = cases (seek_size n sp s.zone held.at).found
      where
        path : List Move
        path = (seek_size n sp s.zone held.at).path

        write : List Move
        write = Write held.number i x ∷ []

        sized : total of (did sp path s.zone).gone ≤ total of s.zone
        sized = size-most of sp none n s.zone held.at

        cases : (t : Bool) → total of (did sp (cond t (path ++ write) path) s.zone).gone ≤ total of s.zone
        cases true = omega (
          arith,
          ap (λ (d : Did). total of d.gone) (did-append sp path write s.zone),
          total-append of (did sp path s.zone).gone [],
          sized,
        )
        cases false = sized

    shapes-most : (a : Asked) → Shapes (λ (T : Type 0) d. total of (work d s).gone ≤ total of s.zone) s a
    shapes-most a = record {
      refuses = λ left T code. omega arith;
      makes = λ sp left fits bytes. made-most (Handle Plain) sp (λ z. cond fits (seek (Put (next_block bytes s)) sp z) no_room)
          (λ z. if-most of sp none fits (Put (next_block bytes s)) (λ y. refl) z);
      empties = λ left. omega (arith, slot-even nothing);
      points = λ left fits bytes. if-most of nothing none fits (Base (Nonrelocatable (length s.names) bytes)) (λ y. refl) s.zone;
      masters = λ left. seek-most of nothing none (Base Masters) (λ y. refl) s.zone;
      reserves = λ left p. seek-most of nothing none (Base (Free p)) (λ y. refl) s.zone;
      nowhere = λ left. omega arith;
      sizes = λ left handle held e n. size-most of (is_relocatable held.number) none n s.zone held.at;
      pointers = λ left pointer held e n. size-most of nothing none n s.zone held.at;
      writes = λ left sp handle held e spares n i x within. written-most sp held n i x;
      replies = λ T U value d most. most;
      rests = λ T value sp. omega arith;
      renews = λ left h n is loose. omega (
        arith,
        again-most of nothing none (is_some (phys n)) h (Relocatable h no_flags (replicate n 0)) s.zone,
        freed-is of none (is_relocatable h) s.zone,
        unless-le (is_relocatable h) of s.zone,
      );
    }

    pub row-most : (a : Asked) → PurgesMost of (row a) s
    row-most a = by-shape _ s a (shapes-most a)
