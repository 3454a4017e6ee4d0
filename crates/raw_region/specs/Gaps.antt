-- The windows in use, and the free bytes between them.
use Rattle.std.specs.Prelude.{◌≡◌, ℕ, ◌+◌, ◌-◌, ◌^◌, ◌<◌, ◌≤◌, Bool, List, [], ◌∷◌, ◌++◌, length, take, drop, map}
use Rattle.std.specs.Prelude.{replicate}
use denote.RawPtr.{Ptr}
use Rattle.memory_windows.specs.Windows.{window, ends_by, is_window}
use Rattle.memory_windows.specs.declared.Window.{Window}
use Rattle.std.specs.List.{All}
use Rattle.raw_region.specs.declared.raw.OwnBytes.{OwnBytes}
use Rattle.raw_region.specs.declared.gaps.Gap.{Gap}

-- The window of an entry.
abbrev pub window_of : Gap → Window
window_of g = window g.at g.len

-- Reports whether the window of `g` ends at or below the place `at`.
abbrev pub gap_ends_by : ℕ → Gap → Bool
gap_ends_by at g = ends_by at (window_of g)

-- Reports whether the window of `g` is the one of `len` bytes at `at`.
abbrev pub gap_is : ℕ → ℕ → Gap → Bool
gap_is at len g = is_window at len (window_of g)

-- No sum of a window's place and length overflows 64 bits.
abbrev pub EndsFit : List Gap → Type 0
EndsFit gs = All (λ g. g.at + g.len < 2 ^ 64) gs

-- A window of `len` bytes at `at` lies within the free bytes after `g`, and its end does not overflow 64 bits.
abbrev pub Fits : ℕ → ℕ → Gap → Type 0
Fits at len g = (g.at + g.len ≤ at) × (at + len ≤ g.at + g.len + length g.after.items) × (at + len < 2 ^ 64)

-- The number of free bytes between the window of `g` and the place `at`.
abbrev pub before : ℕ → Gap → ℕ
before at g = at - (g.at + g.len)

-- The entry `g`, followed only by the free bytes below a new window at `at`.
abbrev pub front : ℕ → Gap → Gap
front at g = record {
  at = g.at;
  len = g.len;
  after = record { home = g.after.home; at = g.after.at; items = take (before at g) g.after.items; room = 0 };
}

-- The bytes of a new window of `len` bytes at `at`.
abbrev pub middle : ℕ → ℕ → Gap → OwnBytes
middle at len g = record {
  home = g.after.home;
  at = g.after.at + before at g;
  items = take len (drop (before at g) g.after.items);
  room = 0;
}

-- The entry of a new window of `len` bytes at `at`, followed by the free bytes above it.
abbrev pub back : ℕ → ℕ → Gap → Gap
back at len g =
    record {
      at = at;
      len = len;
      after = record {
        home = g.after.home;
        at = g.after.at + before at g + len;
        items = drop len (drop (before at g) g.after.items);
        room = g.after.room;
      };
    }

-- The run `r` lies between the free bytes after `a` and those after `b`, with nothing between.
abbrev pub Beside : Gap → OwnBytes → Gap → Type 0
Beside a r b = (r.home ≡ a.after.home) × (b.after.home ≡ a.after.home) × (r.at ≡ a.after.at + length a.after.items)
    × (b.after.at ≡ r.at + length r.items)

-- The entry `a`, followed by its own free bytes, the run `r`, and the free bytes after `b`.
abbrev pub joined : Gap → OwnBytes → Gap → Gap
joined a r b = record {
  at = a.at;
  len = a.len;
  after = record {
    home = a.after.home;
    at = a.after.at;
    items = a.after.items ++ r.items ++ b.after.items;
    room = b.after.room;
  };
}

-- The runs `f` and `s` are the first `n` bytes of the run `r` and its other bytes, with its room.
abbrev pub IsCut : OwnBytes → ℕ → OwnBytes → OwnBytes → Type 0
IsCut r n f s = ((f.home ≡ r.home) × (f.at ≡ r.at) × (f.items ≡ take n r.items) × (f.room ≡ 0))
    × ((s.home ≡ r.home) × (s.at ≡ r.at + n) × (s.items ≡ drop n r.items) × (s.room ≡ r.room))

-- The run `t` is the run `r` followed by the run `s`, with the room of `s`.
abbrev pub IsGlued : OwnBytes → OwnBytes → OwnBytes → Type 0
IsGlued r s t = (t.home ≡ r.home) × (t.at ≡ r.at) × (t.items ≡ r.items ++ s.items) × (t.room ≡ s.room)

-- The bytes of the region that were woken, in which each byte of a window in use is 0.
abbrev pub bytes_of : List Gap → List ℕ
bytes_of [] = []
bytes_of (g ∷ gs) = replicate g.len 0 ++ (g.after.items ++ bytes_of gs)

-- The windows in use; the first entry, which stands for the region's start, is left out.
abbrev pub windows_of : List Gap → List Window
windows_of gs = map window_of (drop 1 gs)

-- The entries and their free bytes lie one after another from place `o` on, in the region at the address `h`.
abbrev pub IsLaid : Ptr → ℕ → List Gap → Type 0
IsLaid h o [] = Unit {0}
IsLaid h o (g ∷ gs) = (g.at ≡ o) × (g.after.home ≡ h) × (g.after.at ≡ o + g.len)
    × IsLaid h (o + (g.len + length g.after.items)) gs

-- The first entry stands for the region's start: its window has no bytes.
abbrev pub IsStart : List Gap → Type 0
IsStart [] = ⊥
IsStart (g ∷ gs) = g.len ≡ 0

-- The number of bytes of the room after the last entry.
abbrev pub room_of : List Gap → ℕ
room_of [] = 0
room_of (g ∷ []) = g.after.room
room_of (g ∷ h ∷ gs) = room_of (h ∷ gs)

-- The entry `g`, whose bytes are followed by `n` bytes of its room, each 0.
abbrev pub woken : ℕ → Gap → Gap
woken n g = record {
  at = g.at;
  len = g.len;
  after = record {
    home = g.after.home;
    at = g.after.at;
    items = g.after.items ++ replicate n 0;
    room = g.after.room - n;
  };
}

-- The entries, once `n` bytes are woken of the room after the last of them.
abbrev pub awake : ℕ → List Gap → List Gap
awake n [] = []
awake n (g ∷ []) = woken n g ∷ []
awake n (g ∷ h ∷ gs) = g ∷ awake n (h ∷ gs)
