-- A block that is made one with the Free bytes below it.
use Rattle.zone_bytes.proofs.Tiles.Permuted.{SameNames, each-front, front, same-names}
use Rattle.zone_bytes.proofs.Cited.{◌≡◌, ℕ, Bool, ◌+◌, ◌-◌, ◌%◌, ◌<◌, ◌≤◌, nat_le, List, [], ◌∷◌, ◌++◌, length, drop, sym, ap, ◌∙◌, subst}
use Rattle.zone_bytes.proofs.Cited.{arith, append_assoc, written, piece, length-written, piece-written, word, word_at, length-word, Flags}
use Rattle.zone_bytes.proofs.Cited.{Block, Free, Relocatable, size, sizes, free, Slot, Used, is_resource, kind, head_of, Tile, IsSlot}
use Rattle.zone_bytes.proofs.Cited.{names, names_of, Apart, Each, ArePlaced, Lies, Splice, SameOutside, IsSplice, Freeing, MayFree, IsUsed}
use Rattle.zone_bytes.proofs.Cited.{Lays, empty_word, free-some}
use Rattle.zone_bytes.proofs.Tiles.Tiling.{span-append, length-tiles, slot-inside, tiles-slot, slot-swap, slot-even}
use Rattle.zone_bytes.proofs.Tiles.Leading.{each-right, each-map, names-append, apart-turned, piece-clear}
use Rattle.zone_bytes.proofs.Tiles.Leading.{leads-written}
use Rattle.zone_bytes.proofs.Tiles.Keeping.{lays-permuted, each-free, names-left, placed-run, span-free, slot-run}
use Rattle.zone_bytes.proofs.Tiles.Keeping.{placed-swap}
use Rattle.zone_bytes.proofs.Tiles.Changing.{lays-removed, has-fewer}
use Rattle.zone_bytes.proofs.Blocks.InPlace.{is-splice, zone, outside}
use Rattle.zone_bytes.proofs.Tiles.Splices.{piece-outside}
use Rattle.zone_bytes.proofs.SlotTable.Tables.{apart-clear}
use Rattle.zone_bytes.proofs.Tiles.Heads.{length-masters, relocatable-told}
use Rattle.zone_bytes.proofs.Joined.Ways.{Read, read, tile-at}

used-is : (st : Slot) → IsUsed st → st ≡ Used (is_resource st)
used-is st u = grind arith

module _ (f : Freeing) (start at : ℕ) (xs : List ℕ) (m : MayFree f start at xs) where
  abbrev resource : ℕ → Bool
  resource = λ s. is_resource (f.slots s)

  abbrev gap : List Block
  gap = free (at - start)

  -- the block and the Free bytes below it
  abbrev joined : List Block
  joined = gap ++ f.here ∷ []

  abbrev all : List Block
  all = f.below ++ (joined ++ f.above)

  laid : Lays xs all f.slots f.unused
  laid = subst (λ k. Lays xs (f.below ++ k) f.slots f.unused) (sym (append_assoc gap (f.here ∷ []) f.above)) m.lays

  here-laid : Lays xs ((f.below ++ gap) ++ f.here ∷ f.above) f.slots f.unused
  here-laid = subst (λ k. Lays xs k f.slots f.unused) (sym (append_assoc f.below gap (f.here ∷ f.above))) m.lays

  pub here-read : Read xs f.here at
  here-read = read xs (f.below ++ gap) f.here f.above f.slots f.unused here-laid at
      (omega (arith, span-append, span-free))

  span-joined : start + sizes joined ≡ at + size f.here
  span-joined = omega (arith, span-append, span-free)

  none : (s : ℕ) → IsSlot s joined → ⊥
  none s i = grind arith

  -- what the header of a relocatable block tells of its slot
  pub record Led : Type 0 where
    pub named : names_of f.here ≡ word_at (at + 8) xs ∷ []
    pub flag : nat_le 32 (word_at (at + 12) xs % 64) ≡ is_resource (f.slots (word_at (at + 8) xs))

  names-all : names all ≡ names f.below ++ (names_of f.here ++ names f.above)
  names-all = grind (arith, names-append)

  led-by : (slot : ℕ) (flags : Flags) (content : List ℕ) → f.here ≡ Relocatable slot flags content → Led
  led-by slot flags content e =
      let t = subst (λ c. Tile (head_of resource c) (size c) (drop at xs)) e
      (tile-at _ _ _ _ f.slots f.unused here-laid at (omega (arith, span-append, span-free))) in
      let q = relocatable-told resource at xs slot flags content t in
      let i = each-right (λ s. IsSlot s all) _ (slot ∷ names f.above) (subst (Each (λ s. IsSlot s all))
      (names-all ∙ ap (λ k. names f.below ++ (k ++ names f.above)) (ap names_of e)) laid.has_slots.slots) in
      let l = length-tiles (head_of resource) xs all laid.lies.tiles in
      let v = q.named (omega (arith, slot-inside)) in
      grind arith

  pub led : kind f.here ≡ 3 → Led
  led k = grind (arith, led-by)

  module _ (top : ℕ) (t : at + size f.here ≡ top) where
    some : start < top
    some = omega (arith, here-read.some)

    abbrev z : Splice
    z = zone xs f.below joined f.above f.slots f.unused laid start top m.low (span-joined ∙ t) some none

    is : IsSplice z start top xs
    is = is-splice xs f.below joined f.above f.slots f.unused laid start top m.low (span-joined ∙ t) some none

    pub may-make : (z : Splice) × IsSplice z start top xs
    may-make = (z, is)

    module _ (mid : List ℕ) (made : (z : Splice) → IsSplice z start top xs
        → Lies z.resource (z.below ++ (Free (top - start) ∷ [] ++ z.above)) mid) (out : SameOutside start top xs mid)
      where
        abbrev one : List Block
        one = free (at + size f.here - start)

        abbrev now : List Block
        now = f.below ++ (one ++ f.above)

        lies : Lies resource now mid
        lies =
            let e : Free (top - start) ∷ [] ≡ one =
            sym (free-some _ (omega (arith, some))) ∙ ap (λ k. free (k - start)) (sym t) in
            subst (λ n. Lies resource (f.below ++ (n ++ f.above)) mid) e (made z is)

        span-one : sizes one ≡ sizes joined
        span-one = omega (arith, span-free, span-joined)

        into : (s : ℕ) → IsSlot s all → IsSlot s now
        into s i = slot-swap s f.below joined one f.above (none _) span-one i

        back : (s : ℕ) → IsSlot s now → IsSlot s all
        back s i = slot-run s f.below one joined f.above (each-free _) (sym span-one) i

        placed : ArePlaced 0 now
        placed = placed-swap 0 f.below joined one f.above span-one (placed-run _ one (each-free _)) laid.placed

        stay : (s : ℕ) → IsSlot s all → piece s 4 mid ≡ piece s 4 xs
        stay s i = piece-outside start top xs mid s out (outside z start top xs is s i)

        names-now : names now ≡ names f.below ++ names f.above
        names-now = grind (arith, names-append, names-left)

        -- a block that no handle led to
        pub other-lays : names_of f.here ≡ [] → Lays mid now f.slots f.unused
        other-lays e = lays-permuted xs mid _ _ f.slots _ laid lies
            (same-names _ _ (names-all ∙ ap (λ k. names f.below ++ (k ++ names f.above)) e ∙ sym names-now)) into back
            placed (λ s i a. stay s i) out.kept

        -- a block that a handle led to
        module _ (slot : ℕ) (n : names_of f.here ≡ slot ∷ []) where
          gone : SameNames (names all) (slot ∷ names now)
          gone = grind (arith, names-all, names-now, front)

          slot-is : IsSlot slot all
          slot-is = (each-front (λ s. IsSlot s all) gone laid.has_slots.slots).0

          pub slot-fits : (slot % 4 ≡ 0) × (slot + 4 ≤ length mid)
          slot-fits = grind (arith, slot-inside, slot-is, length-tiles, slot-even)

          pub slot-lays : (w : ℕ) → w ≡ empty_word (is_resource (f.slots slot))
              → Lays (written slot (word w) mid) now f.slots f.unused
          slot-lays w e =
              let wl = length-word w in
              let fits : slot ≤ length mid = omega (arith, slot-fits) in
              let far = (gone.apart laid.has_slots.apart).0 in
              let used = (each-front (λ s. IsUsed (f.slots s)) gone laid.used).0 in
              lays-removed _ _ _ _ f.slots _ laid (record {
                tiles = tiles-slot (head_of resource) (length-masters resource) _ _ _ _ wl
                    (into slot slot-is) lies.tiles;
                leads = leads-written _ _ _ 0 _ fits
                    (each-map (Apart slot) _ (λ t p. apart-clear slot w t p) (names now) far) lies.leads;
              }) (has-fewer _ _ slot into gone laid.has_slots) into back placed
              (length-written slot (word w) mid (omega (arith, slot-fits)) ∙ out.kept) _ _ (used-is (f.slots slot) used)
              gone (piece-written slot (word w) mid 4 (sym wl) fits ∙ ap word e)
              (λ s i a. piece-clear _ _ _ s fits (apart-clear slot w s
              (apart-turned s slot (each-front (Apart s) gone a).0)) ∙ stay s i)
