use Rattle.heap_calls.proofs.Cited.{◌≡◌, ℕ, List, Option, Result, Ok, Err, ap, sym, is_ok, OsErr, Block, Slot, Held, look_up, FindsBlock}
use Rattle.heap_calls.proofs.Cited.{state_of, FindsHeld, Anchor}

-- What bars a call, as a store's names and slots say it.

-- a handle has a block where its block was found
pub found-held : (zone : List Block) (slots : ℕ → Slot) (es : List Anchor) (handle : Option ℕ) (r : Result ℕ OsErr)
    → FindsBlock zone slots es handle r → is_ok r ≡ is_ok (look_up handle (state_of zone slots es))
found-held zone slots es handle (Ok place) found = sym (ap (λ (o : Result Held OsErr). is_ok o) found.2)
found-held zone slots es handle (Err code) found = sym (ap (λ (o : Result Held OsErr). is_ok o) found)

-- the same for what the name of a handle or a pointer leads to
pub found-named : (looked : Result Held OsErr) (zone : List Block) (es : List Anchor) (r : Result ℕ OsErr)
    → FindsHeld looked zone es r → is_ok r ≡ is_ok looked
found-named looked zone es (Ok place) found = sym (ap (λ (o : Result Held OsErr). is_ok o) found.2)
found-named looked zone es (Err code) found = sym (ap (λ (o : Result Held OsErr). is_ok o) found)
