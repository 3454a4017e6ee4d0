-- What lies in the memory as the applications leave, one after the other.
use Rattle.desk.proofs.Cited.{◌≡◌, ℕ, List, [], ◌∷◌, ◌++◌, Option, Some, None, option_map, Result, Ok, Err, IfSome, IfOk, refl, sym, ◌∙◌}
use Rattle.desk.proofs.Cited.{ap, subst, append_assoc, All-contains, Contains, Window, IsApart, InOrder, Misses, All-without_window}
use Rattle.desk.proofs.Cited.{apart-taken_out, Block, Slot, Content, Job, Phase, Waiting, Running, Ended, window_of, Place, after_events}
use Rattle.desk.proofs.Cited.{opening, closed, OpenZone, Lying, IsHeapOf, LiesOf, LiesAt, AllLie, LieAfter, LieAtEnd, system_of}
use Rattle.std.proofs.lemmas.List.{append-nil}

-- the windows of those who left meet no window that is out
abbrev pub AllClear : List Window → List Place → Type 0
AllClear ws [] = Unit {0}
AllClear ws (p ∷ places) = IfSome (window_of p.phase) (λ w. IsApart w.at w.len ws) × AllClear ws places

-- some have left, and the rest are still to leave
abbrev pub LeftSo : Lying → List Window → List Place → List Place → Type 0
LeftSo Left ws rest places = (front : List Place) × (places ≡ front ++ rest) × AllLie Left front × AllClear ws front

-- the zone of who leaves lies in its window
pub lies_of : {S : Type 0} (zone : S → List Block) (slots : S → ℕ → Slot) (Left : Lying) (phase : Phase)
    (freed : Option (OpenZone S)) → option_map (λ z. z.window) freed ≡ window_of phase
    → IfSome freed (λ z. IsHeapOf phase (zone z.store) (slots z.store))
    → IfSome freed (λ z. Left z.window (zone z.store) (slots z.store)) → LiesOf Left phase
lies_of zone slots Left (Running live) (Some z) same stored lies =
    let is : z.window ≡ live.window = cc in
    (zone z.store, slots z.store, stored, subst (λ v. Left v (zone z.store) (slots z.store)) is lies)
lies_of zone slots Left (Running live) None same stored lies = absurd cc
lies_of zone slots Left (Waiting start) freed same stored lies = tt
lies_of zone slots Left (Ended launched) freed same stored lies = tt

-- what lies in windows that miss the one that is closed stays
module _ (L N : Lying) (o : Option Window) (ws : List Window) (here : IfSome o (λ v. Contains ws v))
    (k : (w : Window) (blocks : List Block) (slots : ℕ → Slot) → IfSome o (λ v. Misses w v)
    → L w blocks slots → N w blocks slots) where
  misses : (w : Window) (p : Option Window) → IfSome p (λ v. Contains ws v) → IsApart w.at w.len ws
      → IfSome p (λ v. Misses w v)
  misses w None c a = tt
  misses w (Some v) c a = All-contains (λ u. Misses w u) ws v a c

  lies_kept : (phase : Phase) → IfSome (window_of phase) (λ w. IsApart w.at w.len ws) → LiesOf L phase → LiesOf N phase
  lies_kept (Waiting start) c l = tt
  lies_kept (Running live) c l = (l.0, l.1, l.2, k live.window l.0 l.1 (misses live.window o here c) l.3)
  lies_kept (Ended launched) c l = tt

  all_kept : (ps : List Place) → AllClear ws ps → AllLie L ps → AllLie N ps
  all_kept [] c l = tt
  all_kept (p ∷ ps) c l = (lies_kept p.phase c.0 l.0, all_kept ps c.1 l.1)

-- fewer windows are out
apart_closed : (o : Option Window) (ws : List Window) (w : Window) → IsApart w.at w.len ws
    → IsApart w.at w.len (closed o ws)
apart_closed None ws w a = a
apart_closed (Some v) ws w a = All-without_window v.at v.len ws (λ u. Misses w u) a

clear_one : (o p : Option Window) (ws : List Window) → IfSome p (λ w. IsApart w.at w.len ws)
    → IfSome p (λ w. IsApart w.at w.len (closed o ws))
clear_one o None ws c = tt
clear_one o (Some w) ws c = apart_closed o ws w c

clear_all : (o : Option Window) (ws : List Window) (ps : List Place) → AllClear ws ps → AllClear (closed o ws) ps
clear_all o ws [] c = tt
clear_all o ws (p ∷ ps) c = (clear_one o (window_of p.phase) ws c.0, clear_all o ws ps c.1)

-- the window that is closed meets none of the others
clear_first : (n : ℕ) (ws : List Window) (o : Option Window) → InOrder 0 ws n → IfSome o (λ w. Contains ws w)
    → IfSome o (λ w. IsApart w.at w.len (closed o ws))
clear_first n ws None order c = tt
clear_first n ws (Some w) order c = apart-taken_out 0 n w ws order c

all_lie_end : (L : Lying) (ps : List Place) (p : Place) → AllLie L ps → LiesAt L p → AllLie L (ps ++ p ∷ [])
all_lie_end L [] p l m = (m, tt)
all_lie_end L (q ∷ ps) p l m = (l.0, all_lie_end L ps p l.1 m)

all_clear_end : (ws : List Window) (ps : List Place) (p : Place) → AllClear ws ps
    → IfSome (window_of p.phase) (λ w. IsApart w.at w.len ws) → AllClear ws (ps ++ p ∷ [])
all_clear_end ws [] p c d = (d, tt)
all_clear_end ws (q ∷ ps) p c d = (c.0, all_clear_end ws ps p c.1 d)

-- none has left
pub left_begins : (L : Lying) (ws : List Window) (places : List Place) → LeftSo L ws places places
left_begins L ws places = ([], refl, tt, tt)

one_left : (L N : Lying) (n : ℕ) (ws : List Window) (p : Place) (rest places : List Place) → InOrder 0 ws n
    → IfSome (window_of p.phase) (λ w. Contains ws w)
    → ((w : Window) (blocks : List Block) (slots : ℕ → Slot) → IfSome (window_of p.phase) (λ v. Misses w v)
    → L w blocks slots → N w blocks slots)
    → LiesAt N p → LeftSo L ws (p ∷ rest) places → LeftSo N (closed (window_of p.phase) ws) rest places
one_left L N n ws p rest places order here k lies so =
    let o = window_of p.phase in
    let front = so.0 in (
      front ++ p ∷ [],
      so.1 ∙ sym (append_assoc front (p ∷ []) rest),
      all_lie_end N front p (all_kept L N o ws here k front so.3 so.2) lies,
      all_clear_end (closed o ws) front p (clear_all o ws front so.3) (clear_first n ws o order here),
    )

-- one more has left
pub left_next : (L N : Lying) (n : ℕ) (ws vs : List Window) (p : Place) (ps rest places : List Place) → ps ≡ p ∷ rest
    → vs ≡ closed (window_of p.phase) ws → InOrder 0 ws n → IfSome (window_of p.phase) (λ w. Contains ws w)
    → ((w : Window) (blocks : List Block) (slots : ℕ → Slot) → IfSome (window_of p.phase) (λ v. Misses w v)
    → L w blocks slots → N w blocks slots)
    → LiesAt N p → LeftSo L ws ps places → LeftSo N vs rest places
left_next L N n ws vs p ps rest places is after order here k lies so =
    subst (λ us. LeftSo N us rest places) (sym after)
    (one_left L N n ws p rest places order here k lies
    (subst (λ (qs : List Place). LeftSo L ws qs places) is so))

-- all have left
pub left_end : (L : Lying) (ws : List Window) (ps places : List Place) → ps ≡ [] → LeftSo L ws ps places → AllLie L places
left_end L ws ps places e so =
    subst (AllLie L) (sym (so.1 ∙ ap (λ (qs : List Place). so.0 ++ qs) e ∙ append-nil so.0)) so.2

-- by the System file's content
pub lie-at-end : {E O : Type 0} (L : Lying) (Whole : O → Type 0) (job : Job) (content : Content) (result : Result O E)
    (outcome : O) → system_of job ≡ Ok content
    → IfOk result (λ o. Whole o
    → AllLie L (after_events job.events.items (opening job.memory content job.apps.items)).places)
    → result ≡ Ok outcome → Whole outcome → LieAtEnd L job
lie-at-end L Whole job content (Ok o) outcome system lies is whole =
    let same : o ≡ outcome = cc in
    subst (λ s. LieAfter L s job.memory job.apps.items job.events.items) (sym system) (lies (subst Whole (sym same) whole))
lie-at-end L Whole job content (Err fault) outcome system lies is whole = absurd cc
