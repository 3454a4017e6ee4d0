-- What `join` makes of a region's gaps.
use Rattle.raw_region.proofs.Cited.{◌≡◌, ℕ, ◌+◌, ◌-◌, ◌<◌, ◌≤◌, List, [], ◌∷◌, ◌++◌, length, take, drop, get_or, refl, sym, ap, ◌∙◌, subst}
use Rattle.raw_region.proofs.Cited.{arith, zero, suc, vec_len, vec_capacity, length-drop, drop_more, get_or-drop, get_or_default}
use Rattle.raw_region.proofs.Cited.{position_or_len, remove, Contains, prefix_len-map, Whole, Bytes, window, without_window, written}
use Rattle.raw_region.proofs.Cited.{bytes_of, windows_of, window_of, gap_is, IsLaid, IsStart, joined, Beside, room_of, asleep, region_view}
use Rattle.raw_region.proofs.Cited.{IsRegion, Inside}
use Rattle.raw_region.proofs.Cited.{OwnBytes, Gap}
use Rattle.raw_region.proofs.GapBytes.{round, is_beside, ends_within, shut_bytes, shut_length, shut_laid}
use Rattle.raw_region.proofs.GapWindows.{shut_windows, found, is_out}
use Rattle.raw_region.proofs.Cutting.{none, still_region}
use Rattle.raw_region.proofs.Waking.{room_past, room_kept, written_before, longer}

-- what a run put back at n makes of r's gaps
abbrev pub healed : Inside → OwnBytes → ℕ → List Gap
healed r run n =
    take (n - 1) r.gaps.items ++ joined (get_or r.gaps.items (n - 1) none) run (get_or r.gaps.items n none)
    ∷ drop (n + 1) r.gaps.items

-- the run of p can be put back for the n-th gap of r, which is seen as w, and this is what is then there
pub record Joins (r : Inside) (w : Whole) (p : Bytes) (run : OwnBytes) (n : ℕ) : Type 0 where
  pub not_start : 0 < n
  pub there : n < vec_len r.gaps
  pub beside : (d : Gap) → Beside (get_or r.gaps.items (n - 1) d) run (get_or r.gaps.items n d)
  pub bytes : bytes_of (healed r run n) ++ asleep r ≡ written p.at p.bytes w.bytes
  pub long : length (bytes_of (healed r run n) ++ asleep r) ≡ length w.bytes
  pub out : windows_of (healed r run n) ≡ without_window p.at (length p.bytes) w.out
  pub region : (s : Inside) → s.frame ≡ r.frame → s.home ≡ r.home → s.len ≡ r.len → s.used ≡ r.used
      → s.gaps.items ≡ healed r run n → vec_capacity s.gaps ≡ vec_capacity r.gaps → IsRegion s

module _ (r : Inside) (I : IsRegion r) (w : Whole) (v : region_view r ≡ w) (p : Bytes) (home : p.home ≡ w.home)
    (out : Contains w.out (window p.at (length p.bytes)))
    (run : OwnBytes) (rh : run.home ≡ p.home) (ra : run.at ≡ p.at) (ri : run.items ≡ p.bytes) (l : List Gap)
    (same : l ≡ r.gaps.items)
    (n : ℕ) (counts : n ≡ 1 + position_or_len (gap_is p.at (length p.bytes)) (drop 1 l)) where
  abbrev len : ℕ
  len = length p.bytes

  abbrev gs : List Gap
  gs = r.gaps.items

  abbrev k : ℕ
  k = position_or_len (gap_is p.at len) (drop 1 gs)

  count : n ≡ 1 + k
  count = counts ∙ ap (λ xs. 1 + position_or_len (gap_is p.at len) (drop 1 xs)) same

  below : k < length (drop 1 gs)
  below = is_out p.at len gs (subst (λ z. Contains z.out (window p.at len)) (sym v) out)

  inside : n < length gs
  inside = let b = below in let c = count in let d = length-drop 1 gs in omega (arith, b, c, d)

  behind_start : 0 < n
  behind_start = let c = count in omega (arith, c)

  abbrev a : Gap
  a = get_or gs (n - 1) none

  abbrev b : Gap
  b = get_or gs n none

  abbrev pre : List Gap
  pre = take (n - 1) gs

  abbrev post : List Gap
  post = drop (n + 1) gs

  whole_is : gs ≡ pre ++ a ∷ b ∷ post
  whole_is =
      let i = inside in let c = count in
      let e : n - 1 + 1 ≡ n = omega (arith, c) in
      round gs (n - 1) none (omega (arith, i)) ∙ ap (λ m. pre ++ a ∷ drop m gs) e
      ∙ ap (λ xs. pre ++ a ∷ xs) (drop_more gs n none i)

  b_is : (b.at ≡ p.at) × (b.len ≡ len)
  b_is =
      let e : get_or (drop 1 gs) k none ≡ b = get_or-drop 1 gs k none ∙ ap (λ m. get_or gs m none) (sym count) in
      let f = found p.at len (drop 1 gs) none below in
      (sym (ap (λ g. g.at) e) ∙ f.0, sym (ap (λ g. g.len) e) ∙ f.1)

  laid : IsLaid r.home 0 (pre ++ a ∷ b ∷ post)
  laid = subst (IsLaid r.home 0) whole_is I.laid

  long : length run.items ≡ b.len
  long = ap length ri ∙ sym b_is.1

  here : run.home ≡ r.home
  here = rh ∙ home ∙ sym (ap (λ z. z.home) v)

  beside_it : Beside a run b
  beside_it = is_beside r.home pre a run b post laid long here (ra ∙ sym b_is.0)

  glue : (d : Gap) → Beside (get_or gs (n - 1) d) run (get_or gs n d)
  glue d =
      let i = inside in
      subst (λ g. Beside g run (get_or gs n d)) (get_or_default gs (n - 1) none d (omega (arith, i)))
      (subst (λ g. Beside a run g) (get_or_default gs n none d i) beside_it)

  -- the window that is out lies below the end
  under : p.at + len ≤ length (bytes_of gs)
  under = let i = inside in let e = ends_within r.home 0 gs I.laid n none i in let f = b_is in
      omega (arith, e, f.0, f.1)

  new_bytes : bytes_of (healed r run n) ++ asleep r ≡ written p.at p.bytes w.bytes
  new_bytes =
      let back : pre ++ a ∷ b ∷ post ≡ gs = sym whole_is in
      ap (λ x. x ++ asleep r) (shut_bytes r.home pre a run b post laid long
      ∙ (λ j. written (b_is.0 j) (ri j) (bytes_of (back j))))
      ∙ sym (written_before p.at (bytes_of gs) (asleep r) p.bytes under) ∙ ap (λ z. written p.at p.bytes z.bytes) v

  new_length : length (bytes_of (healed r run n)) ≡ length (bytes_of gs)
  new_length = shut_length r.home pre a run b post laid long ∙ ap (λ y. length (bytes_of y)) (sym whole_is)

  new_room : room_of (healed r run n) ≡ room_of gs
  new_room = room_past pre (joined a run b) post ∙ room_kept (joined a run b) b post refl
      ∙ sym (room_past pre a (b ∷ post)) ∙ ap room_of (sym whole_is)

  new_out : windows_of (healed r run n) ≡ without_window p.at len w.out
  new_out =
      let c = count in let i = inside in
      let e : n ≡ n - 1 + 1 = omega (arith, c) in
      let f : n - 1 ≡ k = omega (arith, c) in
      (λ j. windows_of (pre ++ joined a run (get_or gs (e j) none) ∷ drop (e j + 1) gs))
      ∙ shut_windows gs (n - 1) run none (omega (arith, i, c))
      ∙ ap (remove (windows_of gs)) (f ∙ sym (prefix_len-map window_of _ (drop 1 gs)))
      ∙ ap (λ z. without_window p.at len z.out) v

  starts : (gs : List Gap) (m : ℕ) (d : Gap) → 0 < m → IsStart gs
      → IsStart (take (m - 1) gs ++ joined (get_or gs (m - 1) d) run (get_or gs m d) ∷ drop (m + 1) gs)
  starts [] m d h s = absurd s
  starts (x ∷ gs) m d h s = let q : ℕ = m - 1 in go q refl
    where
      go : (q : ℕ) → m - 1 ≡ q
          → IsStart (take (m - 1) (x ∷ gs) ++ joined (get_or (x ∷ gs) (m - 1) d) run (get_or (x ∷ gs) m d)
          ∷ drop (m + 1) (x ∷ gs))
      go zero e =
          subst (λ z.
          IsStart (take z (x ∷ gs) ++ joined (get_or (x ∷ gs) z d) run (get_or (x ∷ gs) m d) ∷ drop (m + 1) (x ∷ gs)))
          (sym e) s
      go (suc q) e =
          subst (λ z.
          IsStart (take z (x ∷ gs) ++ joined (get_or (x ∷ gs) z d) run (get_or (x ∷ gs) m d) ∷ drop (m + 1) (x ∷ gs)))
          (sym e) s

  pub joins : Joins r w p run n
  joins = record {
    not_start = behind_start;
    there = (let i = inside in let o = r.gaps.ok.0 in omega (arith, i, o));
    beside = glue;
    bytes = new_bytes;
    long = longer (bytes_of (healed r run n)) (bytes_of gs) (asleep r) new_length ∙ ap (λ z. length z.bytes) v;
    out = new_out;
    region = still_region r I (healed r run n) (shut_laid r.home pre a run b post laid long)
        (starts gs n none behind_start I.first)
        (new_length ∙ I.whole) new_room;
  }
