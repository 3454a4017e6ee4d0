-- One more turn of a loop that counts.
use Rattle.rez_printing.proofs.Cited.{◌≡◌, ℕ, ◌+◌, ◌-◌, ◌<◌, ◌≤◌, Option, Some, List, [], if◌then◌else◌, length, get_or, refl, ap, ◌∙◌, sym}
use Rattle.rez_printing.proofs.Cited.{append_assoc, take, slice_get, option_map, slice_get-map, slice_get_read, slice_get_past, Block}
use Rattle.rez_printing.proofs.Cited.{block_of, blocks_of, Field, ◌>>=◌, more_in, left, above, Layout, gap_next, signed_number, row_text}
use Rattle.rez_printing.proofs.Cited.{more_rows, Showing, next_number, next_of, stated, with_gap, numbered, shown_numbers, shown_elements}
use Rattle.rez_printing.proofs.Cited.{shown_fields, shown_block, block_text, fields_from, fields_text}
use Rattle.std.specs.Prelude.{◌++◌, drop}
use Rattle.rez_printing.specs.declared.layout.Layout.TheVariants as layout

pub numbers_on : (n i : ℕ) (s : Showing) → i < n → shown_numbers (n - i) s
    ≡ (next_number 16 s >>= λ (here, t). shown_numbers (n - (i + 1)) (stated (signed_number 16 here) layout.Flat t))
numbers_on n i s h = ap (λ k. shown_numbers k s) (left n i h)

pub elements_on : (element : Showing → Option Showing) (l : Layout) (n i : ℕ) (s : Showing) → i < n
    → shown_elements element l i (n - i) s
    ≡ (next_of more_in s
    >>= λ (more, t). if more
    then (element (numbered l i t)
    >>= λ u. shown_elements element l (i + 1) (n - (i + 1)) (with_gap (gap_next l) u))
    else Some (i, t))
elements_on element l n i s h = ap (λ k. shown_elements element l i k s) (left n i h)

pub rows_on : (before : List ℕ) (row n i : ℕ) (bytes : List ℕ) → i < n
    → more_rows before row (n - i) bytes
    ≡ before ++ row_text (take row bytes) ++ more_rows before row (n - (i + 1)) (drop row bytes)
rows_on before row n i bytes h = ap (λ k. more_rows before row k bytes) (left n i h)

-- one more row
pub row_more : (before out extended pushed here rest more all : List ℕ) (row n i : ℕ) → i < n → extended ≡ out ++ before
    → pushed ≡ extended ++ row_text here → here ≡ take row rest → more ≡ drop row rest
    → out ++ more_rows before row (n - i) rest ≡ all → pushed ++ more_rows before row (n - (i + 1)) more ≡ all
row_more before out extended pushed here rest more all row n i less e p h m so_far =
    let rows = more_rows before row (n - (i + 1)) (drop row rest) in
    let points = row_text (take row rest) in
    rw (p, e, h, m)
    (ap (λ l. l ++ rows) (append_assoc out before points) ∙ append_assoc out (before ++ points) rows
    ∙ ap (λ l. out ++ l) (sym (rows_on before row n i rest less)) ∙ so_far)

pub block_on : (depth : ℕ) (blocks : List (List Field)) (block : ℕ) (s : Showing) → 0 < depth
    → shown_block depth blocks block s
    ≡ (slice_get blocks block >>= λ fields. shown_fields (shown_block (depth - 1) blocks) layout.Flat fields s)
block_on depth blocks block s h = ap (λ k. shown_block k blocks block s) (above depth h)

block_text_on : (depth : ℕ) (blocks : List (List Field)) (block : ℕ) → 0 < depth
    → block_text depth blocks block ≡ fields_text (block_text (depth - 1) blocks) (slice_get blocks block)
block_text_on depth blocks block h = ap (λ k. block_text k blocks block) (above depth h)

-- a block that is there, and one that is not
pub block_there : (depth : ℕ) (bs : List Block) (k : ℕ) (b : Block) → 0 < depth → k < length bs → b ≡ get_or bs k b
    → block_text depth (blocks_of bs) k
    ≡ fields_from (block_text (depth - 1) (blocks_of bs)) (block_of b) 0 (block_of b)
block_there depth bs k b deep inside here =
    block_text_on depth (blocks_of bs) k deep
    ∙ ap (fields_text (block_text (depth - 1) (blocks_of bs)))
    (slice_get-map block_of bs k ∙ ap (option_map block_of) (slice_get_read bs (length bs) k b refl inside here))

pub block_absent : (depth : ℕ) (bs : List Block) (k : ℕ) → 0 < depth → length bs ≤ k → block_text depth (blocks_of bs) k ≡ []
block_absent depth bs k deep past =
    block_text_on depth (blocks_of bs) k deep
    ∙ ap (fields_text (block_text (depth - 1) (blocks_of bs)))
    (slice_get-map block_of bs k ∙ ap (option_map block_of) (slice_get_past bs k past))
