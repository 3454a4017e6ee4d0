-- Where zones lie, as applications are launched, end and leave.
use Rattle.desk.proofs.Cited.{◌≡◌, ℕ, ◌<◌, ◌⊎◌, inl, inr, zero, suc, List, [], ◌∷◌, ◌++◌, length, map, remove, Option, Some, None, IfSome}
use Rattle.desk.proofs.Cited.{slice_get, slice_set, slice_index_or, refl, sym, ◌∙◌, ap, subst, true, arith, Contains, Window, put_in, Site}
use Rattle.desk.proofs.Cited.{Content, Act, App, Live, Running, waits, window_of, Place, windows_after, places_acted, left_by, place_given}
use Rattle.desk.proofs.Cited.{Lot, holders, IsHeld, MadeOf, AllMade, Fewer, AreHoused, closed}
use Rattle.std.proofs.lemmas.List.{append-nil}
use Rattle.desk.proofs.Holding.{acted_held, started_held, first_held, first_in, none_held, given_held}

module _ (M : Window → Site → Type 0) where
  made_given : (apps : List App) → AllMade M (map (λ app. None) apps)
  made_given [] = tt
  made_given (app ∷ apps) = (tt, made_given apps)

  made_one : (o n : Option Lot) → (n ≡ None) ⊎ (n ≡ o) → MadeOf M o → MadeOf M n
  made_one o n (inl e) h = subst (MadeOf M) (sym e) tt
  made_one o n (inr e) h = subst (MadeOf M) (sym e) h

  made_fewer : (os ns : List (Option Lot)) → Fewer os ns → AllMade M os → AllMade M ns
  made_fewer [] [] f h = tt
  made_fewer (o ∷ os) (n ∷ ns) f h = (made_one o n f.0 h.0, made_fewer os ns f.1 h.1)
  made_fewer [] (n ∷ ns) f h = absurd f
  made_fewer (o ∷ os) [] f h = absurd f

  made_set : (os : List (Option Lot)) (i : ℕ) (l : Option Lot) → MadeOf M l → AllMade M os → AllMade M (slice_set os i l)
  made_set [] i l m h = tt
  made_set (o ∷ os) zero l m h = (m, h.1)
  made_set (o ∷ os) (suc i) l m h = (h.0, made_set os i l m h.1)

  there : (o l : Option Lot) → Some o ≡ Some l → MadeOf M o → MadeOf M l
  there o l e h = subst (MadeOf M) (let s : o ≡ l = cc in s) h

  made_at : (os : List (Option Lot)) (i : ℕ) (l : Option Lot) → slice_get os i ≡ Some l → AllMade M os → MadeOf M l
  made_at [] i l e h = absurd (let none : (let n : Option (Option Lot) = None in n) ≡ Some l = e in cc)
  made_at (o ∷ os) zero l e h = there o l e h.0
  made_at (o ∷ os) (suc i) l e h = made_at os i l e h.1

-- the store of one who ends was made where it lies
pub ended_made : {D : Type 0} (v : D → Lot) (M : Window → Site → Type 0) (ls : List (Option Lot)) (i : ℕ) (o : Option D) (d : D)
    → o ≡ Some d → IfSome o (λ d. slice_get ls i ≡ Some (Some (v d))) → AllMade M ls → M (v d).0 (v d).1
ended_made v M ls i o d is h all =
    made_at M ls i (Some (v d)) (subst (λ q. IfSome q (λ d. slice_get ls i ≡ Some (Some (v d)))) is h) all

module _ (M N : Window → Site → Type 0) (k : (w : Window) (site : Site) → M w site → N w site) where
  one_kept : (o : Option Lot) → MadeOf M o → MadeOf N o
  one_kept None h = tt
  one_kept (Some lot) h = k lot.0 lot.1 h

  made_kept : (os : List (Option Lot)) → AllMade M os → AllMade N os
  made_kept [] h = tt
  made_kept (o ∷ os) h = (one_kept o h.0, made_kept os h.1)

-- before the first event no application holds a window
pub housed_given : (M : Window → Site → Type 0) (system : Content) (apps : List App) (zs ws : List Window)
    (ps : List Place) (ls : List (Option Lot)) → zs ≡ [] → ws ≡ [] → ps ≡ map (place_given system) apps
    → ls ≡ map (λ app. None) apps → AreHoused M zs ws ps ls
housed_given M system apps zs ws ps ls hz hw hp hl = record {
  same = hz ∙ sym hw;
  held = subst (λ vs. IsHeld (holders ps) vs) (sym hw)
      (subst (λ (qs : List Place). IsHeld (holders qs) []) (sym hp) (given_held system apps));
  made = subst (AllMade M) (sym hl) (made_given M apps);
}

-- the host had no memory for what one did
pub housed_same : (M : Window → Site → Type 0) (zs ws : List Window) (ps qs : List Place) (ls ns : List (Option Lot))
    → holders qs ≡ holders ps → Fewer ls ns → AreHoused M zs ws ps ls → AreHoused M zs ws qs ns
housed_same M zs ws ps qs ls ns hq hn h = record {
  same = h.same;
  held = subst (λ os. IsHeld os ws) (sym hq) h.held;
  made = made_fewer M ls ns hn h.made;
}

-- stores stay where they were made
pub housed_kept : (M N : Window → Site → Type 0) (zs ws ys vs : List Window) (ps : List Place) (ls : List (Option Lot))
    → ((w : Window) (site : Site) → M w site → N w site) → ys ≡ vs → vs ≡ ws → AreHoused M zs ws ps ls
    → AreHoused N ys vs ps ls
housed_kept M N zs ws ys vs ps ls k hy hv h = record {
  same = hy;
  held = subst (λ us. IsHeld (holders ps) us) (sym hv) h.held;
  made = made_kept M N k ls h.made;
}

-- one did something, and gave its window back if it ended
pub housed_acted : (M N : Window → Site → Type 0) (act : Act) (i : ℕ) (zs ws ys vs : List Window) (ps qs : List Place)
    (ls ns : List (Option Lot)) → ((w : Window) (site : Site) → M w site → N w site) → ys ≡ vs
    → vs ≡ windows_after (left_by act (slice_get ps i)) ws → qs ≡ places_acted act i (slice_get ps i) ps → Fewer ls ns
    → AreHoused M zs ws ps ls → AreHoused N ys vs qs ns
housed_acted M N act i zs ws ys vs ps qs ls ns k hy hv hq hn h = record {
  same = hy;
  held = subst (λ us. IsHeld (holders qs) us) (sym hv)
      (subst (λ (rs : List Place). IsHeld (holders rs) (windows_after (left_by act (slice_get ps i)) ws)) (sym hq)
      (acted_held act ps i ws h.held));
  made = made_kept M N k ns (made_fewer M ls ns hn h.made);
}

-- one was launched
pub housed_started : (M N : Window → Site → Type 0) (i : ℕ) (live : Live) (site : Site) (p : Place)
    (zs ws ys vs : List Window) (ps qs : List Place) (ls ns : List (Option Lot))
    → ((v : Window) (s : Site) → M v s → N v s) → N live.window site → slice_get ps i ≡ Some p → waits p.phase ≡ true
    → ys ≡ vs → vs ≡ put_in live.window ws → qs ≡ slice_set ps i (record p { phase = Running live })
    → ns ≡ slice_set ls i (Some (live.window, site))
    → AreHoused M zs ws ps ls → AreHoused N ys vs qs ns
housed_started M N i live site p zs ws ys vs ps qs ls ns k m here waiting hy hv hq hn h = record {
  same = hy;
  held = subst (λ us. IsHeld (holders qs) us) (sym hv)
      (subst (λ (rs : List Place). IsHeld (holders rs) (put_in live.window ws)) (sym hq)
      (started_held live ps i p ws here waiting h.held));
  made = subst (AllMade N) (sym hn) (made_set N ls i (Some (live.window, site)) m (made_kept M N k ls h.made));
}

-- the first of those who are left leaves
pub first_out : (M : Window → Site → Type 0) (zs ws : List Window) (ps rest : List Place) (p : Place)
    (ls : List (Option Lot)) → ps ≡ p ∷ rest → AreHoused M zs ws ps ls → IfSome (window_of p.phase) (λ w. Contains ws w)
first_out M zs ws ps rest p ls e h =
    first_in (window_of p.phase) (holders rest) ws (subst (λ (qs : List Place). IsHeld (holders qs) ws) e h.held)

pub first_made : (M : Window → Site → Type 0) (zs ws : List Window) (ps : List Place) (l : Option Lot)
    (ls rest : List (Option Lot)) → ls ≡ l ∷ rest → AreHoused M zs ws ps ls → MadeOf M l
first_made M zs ws ps l ls rest e h = (let all = subst (AllMade M) e h.made in all.0)

pub housed_next : (M N : Window → Site → Type 0) (zs ws ys vs : List Window) (p : Place) (l : Option Lot)
    (ps rest : List Place) (ls lots : List (Option Lot)) → ((w : Window) (site : Site) → M w site → N w site)
    → ps ≡ p ∷ rest → ls ≡ l ∷ lots → ys ≡ vs → vs ≡ closed (window_of p.phase) ws → AreHoused M zs ws ps ls
    → AreHoused N ys vs rest lots
housed_next M N zs ws ys vs p l ps rest ls lots k hp hl hy hv h = record {
  same = hy;
  held = subst (λ us. IsHeld (holders rest) us) (sym hv)
      (first_held (window_of p.phase) (holders rest) ws
      (subst (λ (qs : List Place). IsHeld (holders qs) ws) hp h.held));
  made = made_kept M N k lots (let all = subst (AllMade M) hl h.made in all.1);
}

-- all have left
pub none_out : (M : Window → Site → Type 0) (zs ws : List Window) (ps : List Place) (ls : List (Option Lot)) → ps ≡ []
    → AreHoused M zs ws ps ls → zs ≡ []
none_out M zs ws ps ls e h = h.same ∙ none_held ws (subst (λ (qs : List Place). IsHeld (holders qs) ws) e h.held)

-- the first of a list
pub split_first : {X : Type 0} (xs rest : List X) (x : X) → 0 < length xs → x ≡ slice_index_or xs 0 x → rest ≡ remove xs 0
    → xs ≡ x ∷ rest
split_first [] rest x lt e r = absurd (omega (arith, lt))
split_first (y ∷ ys) rest x lt e r = ap (λ z. z ∷ ys) (sym e) ∙ ap (λ zs. x ∷ zs) (sym r)

pub no_length : {X : Type 0} (xs : List X) → length xs ≡ 0 → xs ≡ []
no_length [] e = refl
no_length (x ∷ xs) e = absurd (omega (arith, e))

-- what was told, and what is to be told
module _ {X P T : Type 0} (u : X → T) (v : P → T) where
  append_one : (out : List X) (a : X) (rest : List T) → map u (out ++ a ∷ []) ++ rest ≡ map u out ++ (u a ∷ rest)
  append_one [] a rest = refl
  append_one (o ∷ out) a rest = ap (λ (l : List T). u o ∷ l) (append_one out a rest)

  pub told_next : (out next : List X) (a : X) (ps rest all : List P) (p : P) → next ≡ out ++ a ∷ [] → u a ≡ v p
      → ps ≡ p ∷ rest → map u out ++ map v ps ≡ map v all → map u next ++ map v rest ≡ map v all
  told_next out next a ps rest all p e t s h =
      ap (λ (l : List X). map u l ++ map v rest) e ∙ append_one out a (map v rest)
      ∙ ap (λ (x : T). map u out ++ (x ∷ map v rest)) t ∙ ap (λ (l : List P). map u out ++ map v l) (sym s) ∙ h

  pub told_end : (out : List X) (ps all : List P) → ps ≡ [] → map u out ++ map v ps ≡ map v all → map u out ≡ map v all
  told_end out ps all e h =
      sym (append-nil (map u out)) ∙ sym (ap (λ (l : List P). map u out ++ map v l) e) ∙ h
