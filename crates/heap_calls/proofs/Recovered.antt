use Rattle.heap_calls.proofs.Cited.{◌≡◌, ℕ, ◌+◌, ◌≤◌, ◌<◌, ◌==◌, Bool, cond, List, length, drop, sym, ◌∙◌, ap, Option, Some, None, Result}
use Rattle.heap_calls.proofs.Cited.{Ok, drop_more, drop_all, ok_or, OsErr, WRONG_ZONE, Block, Slot, Rest, HEADER_SIZE, Meaning, Disposed}
use Rattle.heap_calls.proofs.Cited.{State, Memory, look_up, silent, stands_at, handle_from, recover_handle, FindsBlock, handle_number}
use Rattle.heap_calls.proofs.Cited.{pointer_number, memory_of, state_of, Anchor, Log}
use Rattle.heap_calls.proofs.Numbering.Answering.{sizes-rename}

-- The handle whose block's content stands at a place.

-- whether the content of a handle's block stands there, by what was found for the handle
pub stands-found : (place at : ℕ) (zone : List Block) (slots : ℕ → Slot) (es : List Anchor) (handle : Option ℕ)
    → FindsBlock zone slots es handle (Ok at)
    → (at + HEADER_SIZE == place) ≡ stands_at place (look_up handle (state_of zone slots es))
stands-found place at zone slots es handle found =
    ap (λ (n : ℕ). n + HEADER_SIZE == place)
    (sym (sizes-rename (handle_number es) (pointer_number es) found.1.below ∙ found.4))
    ∙ ap (stands_at place) (sym found.2)

-- the first of the numbers that are left
pub handle-next : (place n : ℕ) (s : State) → n < length s.names → (t : Bool)
    → stands_at place (look_up (Some n) s) ≡ t → handle_from place n (drop n s.names) s
    ≡ cond t (Some n) (handle_from place (n + 1) (drop (n + 1) s.names) s)
handle-next place n s less t is =
    ap (λ (l : List Meaning). handle_from place n l s) (drop_more s.names n Disposed less)
    ∙ ap (λ (u : Bool). cond u (Some n) (handle_from place (n + 1) (drop (n + 1) s.names) s)) is

-- and where none is left
pub handle-last : (place n : ℕ) (s : State) → length s.names ≤ n → handle_from place n (drop n s.names) s ≡ None
handle-last place n s past = ap (λ (l : List Meaning). handle_from place n l s) (drop_all n s.names past)

-- what RecoverHandle answers, by what a store's entries have
pub recovered : (place : ℕ) (zone : List Block) (rest : Rest) (es es' : List Anchor) (log : Log) (value : Memory)
    (found : Option ℕ) (r : Result ℕ OsErr) → memory_of zone rest es log ≡ value → es' ≡ es
    → found ≡ handle_from place 0 (state_of zone rest.slots es').names (state_of zone rest.slots es')
    → r ≡ ok_or found WRONG_ZONE → silent (recover_handle place) value ≡ (r, value)
recovered place zone rest es es' log value found r is same there said =
    let at : State → Result ℕ OsErr = λ s. ok_or (handle_from place 0 s.names s) WRONG_ZONE in
    ap (λ (x : Result ℕ OsErr). (x, value)) (sym (said ∙ ap (λ (o : Option ℕ). ok_or o WRONG_ZONE) there
    ∙ ap (λ (l : List Anchor). at (state_of zone rest.slots l)) same ∙ ap (λ (m : Memory). at m.heap) is))
