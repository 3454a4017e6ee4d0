use Rattle.heap_calls.proofs.Cited.{is_used, ◌≡◌, ℕ, ◌*◌, zero, suc, List, ◌∙◌, ap, subst, map, arith, count_by, Block, count, rename}
use Rattle.heap_calls.proofs.Cited.{is_masters, Rest, Log, Anchor, State, Memory, used_slots, all_slots, uses_slot, some_left, nat_tests}
use Rattle.heap_calls.proofs.Cited.{is_unused, ◌+◌, HasMore, state_of, memory_of, name_of, handle_number, pointer_number}
use Rattle.heap_calls.proofs.Cited.{KeepsNonrelocatable, Agrees}
use Rattle.heap_calls.proofs.Numbering.Changing.{names-same, masters-rename, es'}

-- A store's new slots and blocks, seen as the heap's.

-- the names of a store that has more slots
pub names-more : {zone : List Block} (rest more : Rest) (es : List Anchor) → Agrees zone rest es → HasMore rest more
    → map (name_of more.slots) es ≡ map (name_of rest.slots) es
names-more rest more es agrees has = names-same rest.slots more.slots es
    (λ h s g at. has.slots s (agrees.used h s g at))

pub agrees-more : {zone : List Block} (zone' : List Block) (rest more : Rest) (es : List Anchor) → Agrees zone rest es
    → KeepsNonrelocatable zone zone' → HasMore rest more → Agrees zone' more es
agrees-more zone' rest more es agrees nonrelocatable has = record {
  used = λ h s g at. ap is_used (has.slots s (agrees.used h s g at)) ∙ agrees.used h s g at;
  apart = agrees.apart;
  pointed = λ h p at. nonrelocatable p ∙ agrees.pointed h p at;
  lone = agrees.lone;
  counted =
      let a = agrees.counted in
      let e : count_by uses_slot (map (name_of more.slots) es) ≡ count_by uses_slot (map (name_of rest.slots) es) =
      ap (count_by uses_slot) (names-more rest more es agrees has) in
      omega (arith, has.counts);
  masters = let a = agrees.masters in omega (arith, has.grows);
}

-- a slot of the heap is one of its store
module _ (zone : List Block) (rest : Rest) (es : List Anchor) (masters : rest.all ≡ 64 * count is_masters zone)
    (agrees : Agrees zone rest es)
  where
    abbrev f : ℕ → ℕ
    f = handle_number es

    abbrev g : ℕ → ℕ
    g = pointer_number es

    abbrev s : State
    s = state_of zone rest.slots es

    -- the heap has a master pointer left where the store has a slot left
    pub unused-is : is_unused s ≡ some_left rest.unused
    unused-is =
        let a = agrees.counted in
        let m = masters-rename f g zone in
        cases rest.unused (omega (arith, masters))
      where
        cases : (left : ℕ) → left + used_slots s ≡ all_slots s → is_unused s ≡ some_left left
        cases zero e = grind (arith, nat_tests)
        cases (suc left) e = grind (arith, nat_tests)

-- all but the zone is what it was, where the host had no memory, and how many blocks were moved
pub kept-memory : (value : Memory) (zone zone' : List Block) (rest rest' : Rest) (es es' : List Anchor) (log : Log)
    → memory_of zone rest es log ≡ value → es' ≡ es → Agrees zone rest es → HasMore rest rest'
    → memory_of zone' rest' es' log ≡ record value {
      heap = record value.heap
          { zone = rename (handle_number es') (pointer_number es') zone' };
      moves = rest'.moves;
    }
kept-memory value zone zone' rest rest' es es' log is same agrees has =
    let P : Memory → Type 0 = λ m. memory_of zone' rest' es' log
    ≡ record m {
      heap = record m.heap { zone = rename (handle_number es') (pointer_number es') zone' };
      moves =
          rest'.moves;
    } in
    let kept : map (name_of rest'.slots) es' ≡ map (name_of rest.slots) es = ap (map (name_of rest'.slots)) same
    ∙ names-more rest rest' es agrees has in
    subst P is
    (ap (λ l. record {
      heap = record { zone = rename (handle_number es') (pointer_number es') zone'; names = l };
      log =
          log;
      moves = rest'.moves;
      window = rest'.window;
    }) kept
    ∙ ap (λ w. record {
      heap = record {
        zone = rename (handle_number es') (pointer_number es') zone';
        names = map
            (name_of rest.slots) es;
      };
      log = log;
      moves = rest'.moves;
      window = w;
    }) has.window)

-- and where none was moved
pub kept-still : (value : Memory) (zone zone' : List Block) (rest rest' : Rest) (es es' : List Anchor) (log : Log)
    → memory_of zone rest es log ≡ value → es' ≡ es → Agrees zone rest es → HasMore rest rest'
    → rest'.moves ≡ rest.moves
    → memory_of zone' rest' es' log ≡ record value {
      heap = record value.heap
          { zone = rename (handle_number es') (pointer_number es') zone' };
    }
kept-still value zone zone' rest rest' es es' log is same agrees has still =
    kept-memory value zone zone' rest rest' es es' log is same agrees has
    ∙ ap (λ m. record value {
      heap = record value.heap { zone = rename (handle_number es') (pointer_number es') zone' };
      moves = m;
    }) (still ∙ ap (λ (m : Memory). m.moves) is)
