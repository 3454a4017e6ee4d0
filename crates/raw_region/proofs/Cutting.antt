-- What `cut` and `join` make of a region's gaps.
use Rattle.raw_region.proofs.Cited.{◌≡◌, ℕ, ◌+◌, ◌-◌, ◌<◌, ◌≤◌, List, [], ◌∷◌, ◌++◌, length, take, drop, get_or, replicate, refl, sym, ap}
use Rattle.raw_region.proofs.Cited.{◌∙◌}
use Rattle.raw_region.proofs.Cited.{subst, arith, zero, suc, vec_len, vec_capacity, length-map, length-append, length-drop, length-take-le}
use Rattle.raw_region.proofs.Cited.{length-replicate}
use Rattle.raw_region.proofs.Cited.{prefix_len-le-length, prefix_len, insert, prefix_len-map, MOST_BYTES, Whole, window, IsApart}
use Rattle.raw_region.proofs.Cited.{with_window, written}
use Rattle.raw_region.proofs.Cited.{bytes_of, windows_of, window_of, gap_ends_by, IsLaid, IsStart, Fits, front, middle, back, EndsFit}
use Rattle.raw_region.proofs.Cited.{room_of, asleep, region_view, IsRegion, Inside, OwnBytes, Gap}
use denote.RawPtr.{null_ptr, InBlock}
use Rattle.raw_region.proofs.GapBytes.{round, opened_laid, opened_length, opened_bytes, middle_bytes, middle_at}
use Rattle.raw_region.proofs.GapBytes.{middle_home}
use Rattle.raw_region.proofs.GapWindows.{opened_windows, fits_in, ends_fit}
use Rattle.raw_region.proofs.Waking.{room_past, room_kept, written_before, read_before, longer}

-- any gap
abbrev pub none : Gap
none = record { at = 0; len = 0; after = record { home = null_ptr; at = 0; items = []; room = 0 } }

pub start_some : (gs : List Gap) → IsStart gs → 0 < length gs
start_some [] s = absurd s
start_some (g ∷ gs) s = omega arith

-- the first windows of a list that begins
pub long_windows : (gs : List Gap) → IsStart gs → length (windows_of gs) + 1 ≡ length gs
long_windows [] s = absurd s
long_windows (g ∷ gs) s = let e = length-map gs window_of in omega (arith, e)

module _ (r : Inside) (I : IsRegion r) where
  pub in_memory : length (bytes_of r.gaps.items) ≤ MOST_BYTES
  in_memory = let w = I.whole in let t = I.rest in let l = I.long in let s = I.small in omega (arith, w, t, l, s)

  pub fit : EndsFit r.gaps.items
  fit = let f = in_memory in ends_fit r.home r.gaps.items I.laid (omega (arith, f))

module _ (r : Inside) (I : IsRegion r) (at len : ℕ) (some : 16 ≤ len)
    (within : at + len ≤ length (bytes_of r.gaps.items)) (apart : IsApart at len (windows_of r.gaps.items)) (i : ℕ)
    (is : i ≡ prefix_len (gap_ends_by at) (drop 1 r.gaps.items)) where
  pub low : i < length r.gaps.items
  low =
      let p = prefix_len-le-length (gap_ends_by at) (drop 1 r.gaps.items) in let l = length-drop 1 r.gaps.items in
      let s = start_some r.gaps.items I.first in
      omega (arith, p, l, s, is)

  pub room_left : length (windows_of r.gaps.items) < 64 → (i < vec_len r.gaps) × (vec_len r.gaps < vec_capacity r.gaps)
  room_left few = let l = long_windows r.gaps.items I.first in let o = r.gaps.ok.0 in let c = I.room in let a = low in
      (omega (arith, a, o), omega (arith, l, o, c, few))

  pub fits : (d : Gap) → Fits at len (get_or r.gaps.items i d)
  fits d = let f = in_memory r I in
      subst (λ k. Fits at len (get_or r.gaps.items k d)) (sym is)
      (fits_in r.home at len (omega (arith, within, f))
      (omega (arith, some)) r.gaps.items I.laid I.first within apart d)

  abbrev g : Gap
  g = get_or r.gaps.items i none

  abbrev pre : List Gap
  pre = take i r.gaps.items

  abbrev post : List Gap
  post = drop (i + 1) r.gaps.items

  whole_is : r.gaps.items ≡ pre ++ g ∷ post
  whole_is = round r.gaps.items i none low

  laid : IsLaid r.home 0 (pre ++ g ∷ post)
  laid = subst (IsLaid r.home 0) whole_is I.laid

  pub cut_bytes : bytes_of (pre ++ front at g ∷ back at len g ∷ post)
      ≡ written at (replicate len 0) (bytes_of r.gaps.items)
  cut_bytes = opened_bytes r.home pre g post at len laid (fits none)
      ∙ ap (λ l. written at (replicate len 0) (bytes_of l)) (sym whole_is)

  pub cut_windows : windows_of (pre ++ front at g ∷ back at len g ∷ post) ≡ with_window at len (windows_of r.gaps.items)
  cut_windows = opened_windows at len r.gaps.items i none low
      ∙ ap (λ k. insert (windows_of r.gaps.items) k (window at len)) (is
      ∙ sym (prefix_len-map window_of _ (drop 1 r.gaps.items)))

  pub cut_laid : IsLaid r.home 0 (pre ++ front at g ∷ back at len g ∷ post)
  cut_laid = opened_laid r.home pre g post at len laid (fits none)

  pub cut_whole : length (bytes_of (pre ++ front at g ∷ back at len g ∷ post)) ≡ r.used
  cut_whole = opened_length r.home pre g post at len laid (fits none) ∙ ap (λ l. length (bytes_of l)) (sym whole_is)
      ∙ I.whole

  pub cut_room : room_of (pre ++ front at g ∷ back at len g ∷ post) ≡ room_of r.gaps.items
  cut_room = room_past pre (front at g) (back at len g ∷ post) ∙ room_kept (back at len g) g post refl
      ∙ sym (room_past pre g post) ∙ ap room_of (sym whole_is)

  pub cut_first : IsStart (pre ++ front at g ∷ back at len g ∷ post)
  cut_first = starts r.gaps.items i low I.first
    where
      starts : (gs : List Gap) (i : ℕ) → i < length gs → IsStart gs
          → IsStart (take i gs ++ front at (get_or gs i none) ∷ back at len (get_or gs i none) ∷ drop (i + 1) gs)
      starts [] i h s = absurd s
      starts (x ∷ gs) zero h s = s
      starts (x ∷ gs) (suc i) h s = s

  pub middle_is : (middle at len g).items ≡ take len (drop at (bytes_of r.gaps.items))
  middle_is = sym (ap (λ l. take len (drop at (bytes_of l))) whole_is
      ∙ middle_bytes r.home pre g post at len laid (fits none))

  pub middle_place : ((middle at len g).home ≡ r.home) × ((middle at len g).at ≡ at)
  middle_place = (
    middle_home r.home pre g post at len laid (fits none),
    middle_at r.home pre g post at len laid (fits none),
  )

-- with other gaps of as many bytes, in the same room, it is still a region
pub still_region : (r : Inside) → IsRegion r → (gs : List Gap) → IsLaid r.home 0 gs → IsStart gs
    → length (bytes_of gs) ≡ r.used → room_of gs ≡ room_of r.gaps.items → (s : Inside) → s.frame ≡ r.frame
    → s.home ≡ r.home → s.len ≡ r.len → s.used ≡ r.used → s.gaps.items ≡ gs
    → vec_capacity s.gaps ≡ vec_capacity r.gaps → IsRegion s
still_region r I gs laid first whole room s p q l u e k = record {
  start = ap (λ f. f.ptr) p ∙ I.start ∙ sym q;
  placed = subst InBlock (sym q) I.placed;
  whole = ap (λ x. length (bytes_of x)) e ∙ whole ∙ sym u;
  rest = (let a = ap room_of e ∙ room in let b = I.rest in omega (arith, a, b, u, l));
  small = (let a = ap (λ f. f.len) p in let b = I.small in omega (arith, a, b));
  long = l ∙ I.long ∙ sym (ap (λ f. f.len) p);
  laid = subst (λ x. IsLaid s.home 0 x) (sym e) (subst (λ x. IsLaid x 0 gs) (sym q) laid);
  first = subst IsStart (sym e) first;
  room = (let b = I.room in omega (arith, k, b));
}

-- what a window at i makes of r's gaps
abbrev pub parted : Inside → ℕ → ℕ → ℕ → List Gap
parted r at len i =
    let g = get_or r.gaps.items i none in
    take i r.gaps.items ++ front at g ∷ back at len g ∷ drop (i + 1) r.gaps.items

-- a window of r, which is seen as w, can be taken from the bytes after the i-th gap, and this is what is then there
pub record CanPart (r : Inside) (w : Whole) (at len i : ℕ) : Type 0 where
  pub there : i < vec_len r.gaps
  pub room : vec_len r.gaps < vec_capacity r.gaps
  pub fits : (d : Gap) → Fits at len (get_or r.gaps.items i d)
  pub bytes : bytes_of (parted r at len i) ++ asleep r ≡ written at (replicate len 0) w.bytes
  pub long : length (bytes_of (parted r at len i) ++ asleep r) ≡ length w.bytes
  pub out : windows_of (parted r at len i) ≡ with_window at len w.out
  pub region : (s : Inside) → s.frame ≡ r.frame → s.home ≡ r.home → s.len ≡ r.len → s.used ≡ r.used
      → s.gaps.items ≡ parted r at len i → vec_capacity s.gaps ≡ vec_capacity r.gaps → IsRegion s
  pub run : (run : OwnBytes) → run ≡ middle at len (get_or r.gaps.items i none)
      → (run.home ≡ w.home) × (run.at ≡ at) × (run.items ≡ take len (drop at w.bytes)) × (run.room ≡ 0)
  pub run_long : length (take len (drop at w.bytes)) ≡ len

-- the same, from what `cut` has at hand
module _ (r : Inside) (I : IsRegion r) (w : Whole) (v : region_view r ≡ w) (at len : ℕ) (some : 16 ≤ len)
    (awake : at + len ≤ length (bytes_of r.gaps.items)) (away : IsApart at len w.out) (few : length w.out < 64)
    (l : List Gap) (same : l ≡ r.gaps.items) (n : ℕ) (counts : n ≡ 1 + prefix_len (gap_ends_by at) (drop 1 l)) where
  abbrev gs : List Gap
  gs = r.gaps.items

  place : n - 1 ≡ prefix_len (gap_ends_by at) (drop 1 gs)
  place = let f = ap (λ gs. prefix_len (gap_ends_by at) (drop 1 gs)) same in omega (arith, counts, f)

  clear : IsApart at len (windows_of gs)
  clear = subst (λ z. IsApart at len z.out) (sym v) away

  space : (n - 1 < vec_len r.gaps) × (vec_len r.gaps < vec_capacity r.gaps)
  space = let e = ap (λ z. length z.out) v in
      room_left r I at len some awake clear (n - 1) place (omega (arith, e, few))

  whole : length (bytes_of (parted r at len (n - 1))) ≡ r.used
  whole = cut_whole r I at len some awake clear (n - 1) place

  zeros : at + length {A = ℕ} (replicate len 0) ≤ length (bytes_of gs)
  zeros = let z = length-replicate {A = ℕ} len 0 in omega (arith, z, awake)

  pub parts : CanPart r w at len (n - 1)
  parts = record {
    there = space.0;
    room = space.1;
    fits = fits r I at len some awake clear (n - 1) place;
    bytes =
        ap (λ b. b ++ asleep r) (cut_bytes r I at len some awake clear (n - 1) place)
        ∙ sym (written_before at (bytes_of gs) (asleep r) (replicate len 0) zeros)
        ∙ ap (λ z. written at (replicate len 0) z.bytes) v;
    long = longer (bytes_of (parted r at len (n - 1))) (bytes_of gs) (asleep r) (whole ∙ sym I.whole)
        ∙ ap (λ z. length z.bytes) v;
    out = cut_windows r I at len some awake clear (n - 1) place ∙ ap (λ z. with_window at len z.out) v;
    region = still_region r I (parted r at len (n - 1)) (cut_laid r I at len some awake clear (n - 1) place)
        (cut_first r I at len some awake clear (n - 1) place) whole
        (cut_room r I at len some awake clear (n - 1) place);
    run = (λ run is. let m = middle_place r I at len some awake clear (n - 1) place in (
      ap (λ z. z.home) is ∙ m.0 ∙ ap (λ z. z.home) v,
      ap (λ z. z.at) is ∙ m.1,
      ap (λ z. z.items) is ∙ middle_is r I at len some awake clear (n - 1) place
          ∙ sym (read_before at (bytes_of gs) (asleep r) len awake) ∙ ap (λ z. take len (drop at z.bytes)) v,
      ap (λ z. z.room) is,
    ));
    run_long =
        (let d = length-drop at w.bytes in
        let e = length-append (bytes_of gs) (asleep r) in
        let f = ap (λ z. length z.bytes) v in
        length-take-le len (drop at w.bytes) (omega (arith, d, e, f, awake)));
  }
