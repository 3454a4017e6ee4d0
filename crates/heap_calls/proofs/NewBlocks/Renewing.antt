use Rattle.heap_calls.proofs.Cited.{◌≡◌, ℕ, ◌<◌, ◌≤◌, Bool, List, [], ◌∷◌, refl, sym, ◌∙◌, ap, cond, Option, Some, None, Ok, Err, slice_get, is_some}
use Rattle.heap_calls.proofs.Cited.{IfSome, replicate, length-replicate, phys, OsErr, Block, no_flags, rename, rename_block, count}
use Rattle.heap_calls.proofs.Cited.{is_relocatable, freed, Rest, freed-rename, Freed, Nothing, Put, Drop, Sought, seek, if_fits, around}
use Rattle.heap_calls.proofs.Cited.{rename_sought, PathNames, seek-rename, Refuses, fits-refused, seek-refused, Anchor, State, nothing}
use Rattle.heap_calls.proofs.Cited.{changed, reallocate_handle, fresh_block, loose_at, FindsLoose, state_of, handle_number, pointer_number}
use Rattle.heap_calls.proofs.Cited.{no_number, Taken, MakesBlock, IsFresh, seek_block, replaced_at, Went, told_along, told_named}
use Rattle.heap_calls.specs.declared.anchor.Anchor.TheVariants.{Handle}
use Rattle.heap_calls.specs.Rows.{refused}
use Rattle.std.specs.Prelude.{MatchOption}
use Rattle.heap_calls.proofs.Filled.Replaced.{fresh-own}
use Rattle.heap_calls.proofs.Going.{went-dropped, gone-dropped}
use Rattle.heap_calls.proofs.NewBlocks.Placing.{makes-slot}
use Rattle.heap_calls.proofs.NewBlocks.Seeking.{fits-alike}
use Rattle.heap_calls.proofs.Numbering.Loosening.{known, reallocate-loose}
use Rattle.heap_calls.proofs.Numbering.Numbers.{Apart, is_relocatable-number, handle_number-at}
use Rattle.heap_calls.proofs.Same.Resizing.{again}
use Rattle.heap_calls.proofs.Sizes.Grown.{IsCall, around-names, around-rename, fits-names}
use Rattle.heap_calls.proofs.Went.{seek-names, fits-rename}

-- A new block for a handle, for which its old one counts as Free.

-- the path of ReallocateHandle, by the handle's number
module _ (zone : List Block) (rest : Rest) (es : List Anchor) (handle : Option ℕ) (n : ℕ)
  where
    abbrev s : State
    s = state_of zone rest.slots es

    pub not-loose : (code : OsErr) → FindsLoose zone rest.slots es handle (Err code)
        → reallocate_handle handle n s ≡ refused code s
    not-loose code found = reallocate-loose handle n s (Err code) found

    module _ (h slot : ℕ) {guarded : Bool} (found : loose_at handle s ≡ Ok (known rest.slots h slot guarded))
        (at : slice_get es h ≡ Some (Handle slot guarded)) (apart : Apart es) (small : h < no_number)
      where
        abbrev f : ℕ → ℕ
        f = handle_number es

        abbrev g : ℕ → ℕ
        g = pointer_number es

        abbrev open_zone : List Block
        open_zone = freed (is_relocatable slot) zone

        abbrev sought_it : Sought
        sought_it = if_fits n (seek (Put (fresh_block slot n)) nothing open_zone)

        number : f slot ≡ h
        number = handle_number-at es h slot at apart

        row : reallocate_handle handle n s ≡ changed nothing (rename_sought f g (again slot n zone)) s
        row =
            reallocate-loose handle n s (Ok (known rest.slots h slot guarded)) found
            ∙ ap (λ z. changed nothing (around (Drop h ∷ []) [] (if_fits n (seek (Put (fresh_block h n)) nothing z))) s)
            (freed-rename f g (is_relocatable h) (is_relocatable slot)
            (is_relocatable-number es h slot at apart small) zone)
            ∙ ap (λ (k : ℕ). changed nothing (around (Drop k ∷ []) [] (if_fits n (seek (Put (fresh_block k n)) nothing
            (rename f g open_zone)))) s) (sym number)
            ∙ ap (λ r. changed nothing (around (Drop (f slot) ∷ []) [] (if_fits n r)) s)
            (seek-rename f g nothing nothing (λ b. refl) (Put (fresh_block slot n)) tt open_zone)
            ∙ ap (λ r. changed nothing (around (Drop (f slot) ∷ []) [] r) s)
            (fits-rename f g (is_some (phys n)) (seek (Put (fresh_block slot n)) nothing open_zone))
            ∙ ap (λ r. changed nothing r s) (around-rename f g (Drop slot ∷ []) [] sought_it)

        names : PathNames f g (again slot n zone).path
        names = around-names f g (Drop slot ∷ []) [] sought_it (
          λ b. ap (λ (k : ℕ). is_relocatable k (rename_block f g b)) number
              ∙ is_relocatable-number es h slot at apart small b,
          tt,
        )
            (fits-names f g (is_some (phys n)) (seek (Put (fresh_block slot n)) nothing open_zone)
            (seek-names f g nothing (Put (fresh_block slot n)) tt open_zone)) tt

        pub reallocate-call : IsCall zone rest es (reallocate_handle handle n) nothing Nothing (again slot n zone)
        reallocate-call = record { spares = λ b. refl; names = names; row = row }

-- a block that is made for a slot once its old one counts as free: the path frees the old one first
module _ (slot n : ℕ) (zone : List Block)
  where
    abbrev seen : List Block
    seen = freed (is_relocatable slot) zone

    abbrev path : Sought
    path = seek_block (Freed slot) n (fresh_block slot n) seen

    refuses : Refuses nothing path
    refuses = fits-refused nothing n (seek (Put (fresh_block slot n)) nothing seen)
        (seek-refused nothing (Put (fresh_block slot n)) seen)

    pub renewed-told : (es : List Anchor) → told_along es nothing (seek_block (Freed slot) n (fresh_block 0 n) seen) seen
        ≡ told_along es nothing (again slot n zone) zone
    renewed-told es = ap (told_named es) (fits-alike nothing (fresh_block 0 n) (fresh_block slot n) refl (is_some (phys n)) seen
        ∙ gone-dropped slot zone path refuses)

    pub renews : (zone1 : List Block) (rest rest1 : Rest) (made : Taken) → MakesBlock nothing n (seek_block (Freed slot) n) seen
        made (cond (is_some made.slot) zone1 seen) rest rest1 → MatchOption made.slot (zone1 ≡ zone) (λ k. k ≡ slot)
        → IfSome made.slot (λ k. IsFresh k n zone1) → ((k : ℕ) → count (is_relocatable k) zone1 ≤ 1)
        → Went nothing zone (again slot n zone) (is_some made.slot) made.searches zone1 rest rest1
    renews zone1 rest rest1 made makes here fresh once = went-dropped slot zone path refuses zone1
        (makes-slot (Freed slot) n slot no_flags (replicate n 0) seen (zone1 ≡ zone) made.slot here
        (makes no_flags (replicate n 0) (ap phys (length-replicate n 0)))) (ends made.slot here fresh)
      where
        ends : (o : Option ℕ) → MatchOption o (zone1 ≡ zone) (λ k. k ≡ slot) → IfSome o (λ k. IsFresh k n zone1)
            → zone1 ≡ cond (is_some o) (replaced_at o no_flags (replicate n 0) (cond (is_some o) zone1 seen)) zone
        ends None e fresh = e
        ends (Some k) e fresh = sym (fresh-own k n zone1 fresh (once k))
