use Rattle.std.specs.Prelude.{◌≡◌, ℕ, ◌+◌, ◌⊎◌, List, [], ◌∷◌, length, Option, Some, None, map}
use Rattle.memory_windows.specs.declared.Window.{Window}
use Rattle.memory_windows.specs.Windows.{put_in, taken_out}
use Rattle.memory_windows.specs.Counted.{one, times}
use Rattle.block_store.specs.Rest.{Site}
use Rattle.desk.specs.Phase.{Left, window_of}
use Rattle.desk.specs.Desk.{Place}
use Rattle.desk.specs.Live.{Lot}

-- The windows that applications hold, and where zones lie.

abbrev pub holders : List Place → List (Option Window)
holders places = map (λ (p : Place). window_of p.phase) places

-- The number of times that a window is held: 1 or 0.
abbrev pub one_of : ℕ → ℕ → Option Window → ℕ
one_of at n None = 0
one_of at n (Some w) = one at n w

abbrev pub sum : (Option Window → ℕ) → List (Option Window) → ℕ
sum f [] = 0
sum f (o ∷ os) = f o + sum f os

abbrev pub some_of : Option Window → ℕ
some_of None = 0
some_of (Some w) = 1

-- Each window in use is held by one application, and no other window is held.
pub record IsHeld (os : List (Option Window)) (ws : List Window) : Type 0 where
  pub counts : (at len : ℕ) → times at len ws ≡ sum (one_of at len) os
  pub number : length ws ≡ sum some_of os

abbrev pub MadeOf : (Window → Site → Type 0) → Option Lot → Type 0
MadeOf Made None = Unit {0}
MadeOf Made (Some lot) = Made lot.0 lot.1

abbrev pub AllMade : (Window → Site → Type 0) → List (Option Lot) → Type 0
AllMade Made [] = Unit {0}
AllMade Made (lot ∷ lots) = MadeOf Made lot × AllMade Made lots

-- Each lot is what it was, or was given back.
abbrev pub Fewer : List (Option Lot) → List (Option Lot) → Type 0
Fewer [] [] = Unit {0}
Fewer (old ∷ olds) (new ∷ news) = ((new ≡ None) ⊎ (new ≡ old)) × Fewer olds news
Fewer [] (new ∷ news) = ⊥
Fewer (old ∷ olds) [] = ⊥

-- The window that an application leaves.
abbrev pub left_window : Option Left → Option Window
left_window None = None
left_window (Some l) = Some l.window

-- The windows in use after one was granted, if one was, and after one was given back, if one was.
abbrev pub opened : Option Window → List Window → List Window
opened None ws = ws
opened (Some w) ws = put_in w ws

abbrev pub closed : Option Window → List Window → List Window
closed None ws = ws
closed (Some w) ws = taken_out w ws

-- Zones are open in the windows in use; each of these windows is held by one application, and a store lies there.
pub record AreHoused (Made : Window → Site → Type 0) (zones windows : List Window) (places : List Place)
    (lots : List (Option Lot)) : Type 0 where
  pub same : zones ≡ windows
  pub held : IsHeld (holders places) windows
  pub made : AllMade Made lots
