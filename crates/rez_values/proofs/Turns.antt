-- One more turn of a loop that counts.
use Rattle.rez_values.proofs.Cited.{◌≡◌, ℕ, ◌+◌, ◌-◌, ◌<◌, false, Some, None, Ok, Err, Result, List, ◌++◌, if◌then◌else◌, refl, ap, sym}
use Rattle.rez_values.proofs.Cited.{subst, ◌∙◌, slice_get, left, above, Field, ValueFault, same, TakeFault, Takes, TakesTo, Taking, Fault}
use Rattle.rez_values.proofs.Cited.{◌>>=◌, lexeme, passed, separated, put, number, string_in, strings_on, coordinates_taken, closes}
use Rattle.rez_values.proofs.Cited.{element_taken, elements_taken, block_by, block_taken}
use Rattle.rez_types.specs.Values as value
use Rattle.rez_values.specs.declared.fault.TakeFault.TheVariants as fault

pub strings_turn : (n i : ℕ) (bytes : List ℕ) (s : Taking) → i < n
    → strings_on (n - i) bytes s
    ≡ elim (string_in (lexeme s)) [ None ↦ (bytes, s) | Some more ↦ strings_on (n - (i + 1)) (bytes ++ more) (passed s) ]
strings_turn n i bytes s h = ap (λ k. strings_on k bytes s) (left n i h)

pub coordinates_on : (kind : ValueFault) (n i : ℕ) (s : Taking) → i < n
    → coordinates_taken kind (n - i) s
    ≡ (separated kind s
    >>= λ t. number 16 kind t
    >>= λ (here, u). put (value.Number here) u >>= λ v. coordinates_taken kind (n - (i + 1)) v)
coordinates_on kind n i s h = ap (λ k. coordinates_taken kind k s) (left n i h)

pub elements_on : (element : Taking → Result Taking Fault) (count n i : ℕ) (s : Taking) → i < n
    → elements_taken element count (n - i) s
    ≡ (if closes s then Ok (count, s)
    else (element_taken element s >>= λ t. elements_taken element (count + 1) (n - (i + 1)) t))
elements_on element count n i s h = ap (λ k. elements_taken element count k s) (left n i h)

-- one more element
pub element_on : (element : Taking → Result Taking Fault) (count n i : ℕ) (s t : Taking) → i < n → closes s ≡ false
    → element_taken element s ≡ Ok t
    → elements_taken element count (n - i) s ≡ elements_taken element (count + 1) (n - (i + 1)) t
element_on element count n i s t h open_yet takes = rw (elements_on element count n i s h, open_yet, takes) refl

-- an element that is refused refuses all
pub element_fault : {A : Type 0} (element : Taking → Result Taking Fault) (count n i : ℕ) (s t : Taking) (e : TakeFault)
    (x : Result A TakeFault) (r : Result ℕ TakeFault) (all : Result (ℕ × Taking) Fault) → i < n → closes s ≡ false
    → Takes x t (element_taken element s) → x ≡ Err e → elements_taken element count (n - i) s ≡ all → r ≡ Err e
    → TakesTo same r t all
element_fault element count n i s t fault.HostMemory x r all h open_yet takes by whole err = rw err tt
element_fault element count n i s t (fault.Wrong e) x r all h open_yet takes by whole err =
    let k : element_taken element s ≡ Err (e.line, e.kind) = subst (λ y. Takes y t (element_taken element s)) by takes in
    let none : elements_taken element count (n - i) s ≡ Err (e.line, e.kind) =
    rw (elements_on element count n i s h, open_yet, k) refl in
    rw err (sym whole ∙ none)

pub block_on : (depth : ℕ) (blocks : List (List Field)) (block : ℕ) (s : Taking) → 0 < depth
    → block_taken depth blocks block s ≡ block_by (block_taken (depth - 1) blocks) (slice_get blocks block) s
block_on depth blocks block s h = ap (λ k. block_taken k blocks block s) (above depth h)
