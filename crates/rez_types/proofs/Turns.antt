-- One more turn of a loop that counts.
use Rattle.rez_types.proofs.Cited.{◌≡◌, ℕ, suc, ◌+◌, ◌-◌, ◌<◌, Option, Some, List, if◌then◌else◌, ap, arith, Value, Field, ArrayEnd, ◌>>=◌}
use Rattle.rez_types.proofs.Cited.{Decoding, put, next_number, decoded, decoded_alone, decoded_coordinates, decoded_elements, decoded_until}
use Rattle.rez_types.proofs.Cited.{ends_before, big_bytes, Encoding, write, encoded, encoded_alone, encoded_coordinates, encoded_element}
use Rattle.rez_types.proofs.Cited.{encoded_elements, next_of, more_in, slice_get}
use Rattle.rez_types.specs.Values as value
use Rattle.rez_types.specs.Encoding as writing

-- what is left of n turns before the i-th
pub left : (n i : ℕ) → i < n → n - i ≡ suc (n - (i + 1))
left n i h = omega arith

-- a number above 0
pub above : (n : ℕ) → 0 < n → n ≡ suc (n - 1)
above n h = omega arith

pub coordinates_on : (n i : ℕ) (s : Decoding) → i < n → decoded_coordinates (n - i) s
    ≡ (next_number 2 s >>= λ (here, t). put (value.Number here) t >>= λ u. decoded_coordinates (n - (i + 1)) u)
coordinates_on n i s h = ap (λ k. decoded_coordinates k s) (left n i h)

pub elements_on : (element : Decoding → Option Decoding) (n i : ℕ) (s : Decoding) → i < n
    → decoded_elements element (n - i) s
    ≡ (put value.Element s >>= λ t. element t >>= λ u. decoded_elements element (n - (i + 1)) u)
elements_on element n i s h = ap (λ k. decoded_elements element k s) (left n i h)

pub until_on : (element : Decoding → Option Decoding) (end : ArrayEnd) (n i : ℕ) (s : Decoding) → i < n
    → decoded_until element end (n - i) s
    ≡ (if ends_before end s.rest then put value.NoElement s
    else (put value.Element s >>= λ t. element t >>= λ u. decoded_until element end (n - (i + 1)) u))
until_on element end n i s h = ap (λ k. decoded_until element end k s) (left n i h)

pub block_on : (depth : ℕ) (blocks : List (List Field)) (block : ℕ) (s : Decoding) → 0 < depth
    → decoded depth blocks block s
    ≡ (slice_get blocks block >>= λ fields. decoded_alone (decoded (depth - 1) blocks) fields s)
block_on depth blocks block s h = ap (λ k. decoded k blocks block s) (above depth h)

pub written_on : (n i : ℕ) (s : Encoding) → i < n → encoded_coordinates (n - i) s
    ≡ (writing.next_number 16 s >>= λ (here, t). write (big_bytes 2 here) t >>= λ u. encoded_coordinates (n - (i + 1)) u)
written_on n i s h = ap (λ k. encoded_coordinates k s) (left n i h)

pub each_on : (element : Encoding → Option Encoding) (end : ArrayEnd) (count n i : ℕ) (s : Encoding) → i < n
    → encoded_elements element end count (n - i) s
    ≡ (next_of more_in s
    >>= λ (more, t).
    if more then (encoded_element element end t >>= λ u. encoded_elements element end (count + 1) (n - (i + 1)) u)
    else Some (count, t))
each_on element end count n i s h = ap (λ k. encoded_elements element end count k s) (left n i h)

pub written_block_on : (depth : ℕ) (blocks : List (List Field)) (block : ℕ) (s : Encoding) → 0 < depth
    → encoded depth blocks block s
    ≡ (slice_get blocks block >>= λ fields. encoded_alone (encoded (depth - 1) blocks) fields s)
written_block_on depth blocks block s h = ap (λ k. encoded k blocks block s) (above depth h)
