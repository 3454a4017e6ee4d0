use Rattle.std.specs.Prelude.{ℕ, ◌+◌, Option, Some, None, List, [], ◌∷◌}
use Rattle.std.specs.Option.{option_or}
use Rattle.block_store.specs.Block.{Block, Free, Nonrelocatable, Masters, Relocatable, size}
use Rattle.block_store.specs.Seen.{seen}
use Rattle.mac_words.specs.declared.code.OsErr.{OsErr}
use Rattle.heap_calls.specs.Busy.{pointer_barred}
use Rattle.heap_calls.specs.Contents.{bytes_of, shown}
use Rattle.heap_calls.specs.Pointers.{show_pointer}
use Rattle.heap_calls.specs.State.{Memory}
use Rattle.applications.specs.Names.{Bindings, bound_to}
use Rattle.applications.specs.Trying.{Running}
use Rattle.zone_drawing.specs.Bytes.{block_text}
use Rattle.zone_drawing.specs.Line.{Tag, Line, no_tag, shape_of, logical}
use Rattle.zone_drawing.specs.Listing.{zone_text}
use Rattle.zone_drawing.specs.Svg.{zone_svg}
use Rattle.zone_drawing.specs.Text.{widest}
use Rattle.zone_drawing.specs.Totals.{largest_of}
use Rattle.zone_drawing.specs.declared.choice.Choice.{Choice}
use Rattle.zone_drawing.specs.declared.choice.Choice.TheVariants as choice
use Rattle.zone_drawing.specs.declared.listing.Listing.{Listing}
use Rattle.zone_drawing.specs.declared.style.Style.{Style}
use Rattle.zone_drawing.specs.declared.style.Style.TheVariants as style
use Rattle.zone_drawing.specs.declared.totals.Largest.{Largest}
use Rattle.zone_replay.specs.Known.{tag}
use Rattle.zone_replay.specs.Spelled.{spelled}
use Rattle.zone_replay.specs.declared.form.Details.{Details}
use Rattle.zone_replay.specs.declared.form.Form.{Form}
use Rattle.zone_replay.specs.declared.form.Form.TheVariants as form
use Rattle.zone_replay.specs.declared.form.Only.{Only}
use Rattle.zone_replay.specs.declared.form.Only.TheVariants as only

-- The zone of an application as it is shown.

-- What is known of a block, by the number of its handle or pointer.
abbrev pub known_of : (ℕ → Tag) → Block → Tag
known_of known (Free n) = no_tag
known_of known (Nonrelocatable id content) = known id
known_of known Masters = no_tag
known_of known (Relocatable id flags content) = known id

-- The line of a block that begins at a place, and those of blocks one above the other.
abbrev pub block_line : (ℕ → Tag) → ℕ → Block → Line
block_line known place b = record {
  place = place;
  size = size b;
  shape = shape_of (seen b);
  bytes = logical (seen b);
  tag = known_of known b;
}

abbrev pub block_lines : (ℕ → Tag) → ℕ → List Block → List Line
block_lines known place [] = []
block_lines known place (b ∷ above) = block_line known place b ∷ block_lines known (place + size b) above

-- The lines of the blocks of a zone, lowest first.
abbrev pub zone_lines : (ℕ → Tag) → List Block → List Line
zone_lines known zone = block_lines known 0 zone

-- The blocks that are listed, by the names of the script: that of a name is the block of the number to which it is bound.
abbrev pub numbered : Option ℕ → Choice
numbered None = choice.Nothing
numbered (Some n) = choice.Of n

abbrev pub choice_of : Bindings → Only → Choice
choice_of names (only.Blocks c) = c
choice_of names (only.Named name) = numbered (bound_to (spelled name) names)

-- How a zone is listed in a style.
abbrev pub listing_of : Bindings → Details → Style → Listing
listing_of names d s = record { style = s; digits = d.digits; choice = choice_of names d.only }

-- The bytes of the block of a number's pointer, as ShowPtr shows them: none while a call waits that names the pointer.
abbrev pub unless_barred : Option OsErr → Option (List ℕ) → Option (List ℕ)
unless_barred None bytes = bytes
unless_barred (Some code) bytes = None

abbrev pub pointer_content : Memory → ℕ → Option (List ℕ)
pointer_content m n = unless_barred (pointer_barred (Some n) m) (shown (show_pointer (Some n) m.heap).0)

-- The bytes of the block of a number's handle or pointer; `None` where it has none.
abbrev pub content_in : Memory → ℕ → Option (List ℕ)
content_in m n = option_or (bytes_of n m.heap) (pointer_content m n)

-- The bytes of the block of what a name stands for, by those of the numbers' blocks.
abbrev pub content_of : (ℕ → Option (List ℕ)) → Option ℕ → Option (List ℕ)
content_of contents None = None
content_of contents (Some n) = contents n

-- A zone in a form, by the names of the script, the bytes of the numbers' blocks, the lines of the blocks and what could
-- be allocated, after a step of its application.
abbrev pub lines_shown : Form → Bindings → (ℕ → Option (List ℕ)) → List Line → Largest → List ℕ → List ℕ
lines_shown (form.Columns d) names contents lines largest behind =
    zone_text (listing_of names d (style.Columns (widest lines))) lines largest behind
lines_shown (form.Tabs d) names contents lines largest behind =
    zone_text (listing_of names d style.Tabs) lines largest behind
lines_shown (form.Picture part) names contents lines largest behind = zone_svg part lines behind
lines_shown (form.Bytes name) names contents lines largest behind =
    block_text (spelled name) (content_of contents (bound_to (spelled name) names)) behind

-- The zone of an application.
abbrev pub zone_shown : Form → Running → List ℕ → List ℕ
zone_shown f r behind = lines_shown f r.names (λ n. content_in r.memory n) (zone_lines (tag r) r.memory.heap.zone)
    (largest_of r.memory.heap.zone) behind
