-- Flags that are set in a header.
use Rattle.std.specs.Prelude.{ℕ, ◌+◌, ◌%◌, ◌==◌, false, if◌then◌else◌, List}
use Rattle.memory_windows.specs.Writes.{written}
use Rattle.block_headers.specs.Words.{word, word_at}
use Rattle.block_store.specs.declared.flags.Flags.{Flags}
use Rattle.zone_bytes.specs.Layout.{flag_word}

-- The bytes with other flags in the header at `place`, if it is that of a relocatable block.
abbrev pub flagged : Flags → ℕ → List ℕ → List ℕ
flagged flags place xs = if word_at place xs % 16 == 3 then written (place + 12)
    (word (flag_word flags false + word_at (place + 12) xs % 64)) xs else xs
