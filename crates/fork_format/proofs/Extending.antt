use Rattle.fork_format.proofs.Cited.{◌≡◌, ℕ, ◌+◌, ◌*◌, ◌<◌, ◌≤◌, Bool, true, false, cond, ◌&&◌, List, [], ◌∷◌, ◌++◌, length, map, refl, sym}
use Rattle.fork_format.proofs.Cited.{◌∙◌, ap, arith, Option, Some, None, ◌⊎◌, inl, inr, ◌≢◌, length-append, nat_le, is_some, IsSome}
use Rattle.fork_format.proofs.Cited.{flat_map, list_all, le-leb, leb-true, and_parts, Ref, Group, Content, refs_of, datum, name, fits}
use Rattle.fork_format.proofs.Cited.{has_refs, are_distinct, all_within, starts, list_starts, data_starts, name_start, name_starts}
use Rattle.fork_format.proofs.Cited.{refs_offset, names_offset, data_of, names_of, is_low, is_name_low, next, behind, no_starts, refs_end}
use Rattle.fork_format.proofs.Cited.{is_short, are_short, AreExtents, Extents, Starts, most_data}
use Rattle.fork_format.proofs.Groups.{flat_map-two}
use Rattle.fork_format.proofs.Bools.{and_both}

-- what is behind a group has no end, so the whole has none
refs_end-behind : (at : ℕ) (g : Group) (groups : List Group) → refs_end (at + 12 * length g.refs) groups ≡ None
    → refs_end at (g ∷ groups) ≡ None
refs_end-behind at g groups none = cases (nat_le 1 (length g.refs))
  where
    cases : (t : Bool) → cond t (refs_end (at + 12 * length g.refs) groups) None ≡ None
    cases true = none
    cases false = refl

-- references that begin too late end too late
pub refs_end-late : (at : ℕ) (groups : List Group) → 65507 < at → refs_end at groups ≡ None
refs_end-late at [] late = cases (nat_le at 65507) refl
  where
    cases : (t : Bool) → nat_le at 65507 ≡ t → cond t (Some at) None ≡ None
    cases true h = absurd (let e : at ≤ 65507 = leb-true at 65507 h in omega arith)
    cases false h = refl
refs_end-late at (g ∷ groups) late =
    refs_end-behind at g groups (refs_end-late (at + 12 * length g.refs) groups (omega arith))

-- a group that is empty, or too large
pub refs_end-stops : (at n : ℕ) (g : Group) (groups : List Group) → length g.refs ≡ n
    → (n ≡ 0) ⊎ (65507 < at + 12 * n) → refs_end at (g ∷ groups) ≡ None
refs_end-stops at n g groups size (inl none) = cases (nat_le 1 (length g.refs)) refl
  where
    cases : (t : Bool) → nat_le 1 (length g.refs) ≡ t → cond t (refs_end (at + 12 * length g.refs) groups) None ≡ None
    cases true h = absurd (let e : 1 ≤ length g.refs = leb-true 1 (length g.refs) h in omega arith)
    cases false h = refl
refs_end-stops at n g groups size (inr late) =
    refs_end-behind at g groups (refs_end-late (at + 12 * length g.refs) groups (omega arith))

-- what an end of the references tells of the groups
pub record ListsFit (at e : ℕ) (groups : List Group) : Type 0 where
  pub some : list_all has_refs groups ≡ true
  pub lists : all_within 65535 (starts at (map (λ g. 12 * length g.refs) groups)) ≡ true
  pub end : e ≡ at + 12 * length (refs_of groups)
  pub low : e ≤ 65507

pub refs_end-tells : (at end : ℕ) (groups : List Group) → refs_end at groups ≡ Some end → ListsFit at end groups
refs_end-tells at end [] h = cases (nat_le at 65507) refl h
  where
    cases : (t : Bool) → nat_le at 65507 ≡ t → cond t (Some at) None ≡ Some end → ListsFit at end []
    cases true low h = let same : at ≡ end = cc in let e : at ≤ 65507 = leb-true at 65507 low in
        record { some = refl; lists = refl; end = omega arith; low = omega arith }
    cases false low h = cc
refs_end-tells at end (g ∷ groups) h = cases (nat_le 1 (length g.refs)) refl h
    (refs_end-tells (at + 12 * length g.refs) end groups)
  where
    cases : (t : Bool) → nat_le 1 (length g.refs) ≡ t → cond t (refs_end (at + 12 * length g.refs) groups) None
        ≡ Some end
        → (refs_end (at + 12 * length g.refs) groups ≡ Some end → ListsFit (at + 12 * length g.refs) end groups)
        → ListsFit at end (g ∷ groups)
    cases true first h again =
        let rest : ListsFit (at + 12 * length g.refs) end groups = again h in
        let size : length (refs_of (g ∷ groups)) ≡ length g.refs + length (refs_of groups) =
        length-append g.refs (refs_of groups) in
        let ends : end ≡ at + 12 * length g.refs + 12 * length (refs_of groups) = rest.end in
        let low : end ≤ 65507 = rest.low in
        record {
          some = and_both (has_refs g) (list_all has_refs groups) first rest.some;
          lists =
              and_both (nat_le at 65535) _ (le-leb at 65535 (omega arith)) rest.lists;
          end = omega arith;
          low = low;
        }
    cases false first h again = cc

pub refs_end-is : (at : ℕ) (groups : List Group) → list_all has_refs groups ≡ true
    → at + 12 * length (refs_of groups) ≤ 65507 → refs_end at groups ≡ Some (at + 12 * length (refs_of groups))
refs_end-is at [] some low = let same : at ≡ at + 12 * 0 = omega arith in
    rw (le-leb at 65507 (omega arith)) (ap Some same)
refs_end-is at (g ∷ groups) some low =
    let both : (has_refs g ≡ true) × (list_all has_refs groups ≡ true) =
    and_parts (has_refs g) (list_all has_refs groups) some in
    let size : length (refs_of (g ∷ groups)) ≡ length g.refs + length (refs_of groups) =
    length-append g.refs (refs_of groups) in
    let same : at + 12 * length g.refs + 12 * length (refs_of groups) ≡ at + 12 * length (refs_of (g ∷ groups)) =
    omega arith in
    rw both.0 (refs_end-is (at + 12 * length g.refs) groups both.1 (omega arith) ∙ ap Some same)

-- resources behind others
pub behind-stops : (s : Starts) (xs ys : List Ref) → behind s xs ≡ None → behind s (xs ++ ys) ≡ None
behind-stops s [] ys h = cc
behind-stops s (x ∷ xs) ys h = cases (is_low s x) h (behind-stops (next s x) xs ys)
  where
    cases : (t : Bool) → cond t (behind (next s x) xs) None ≡ None
        → (behind (next s x) xs ≡ None → behind (next s x) (xs ++ ys) ≡ None)
        → cond t (behind (next s x) (xs ++ ys)) None ≡ None
    cases true h again = again h
    cases false h again = refl

pub behind-goes_on : (s t : Starts) (xs ys : List Ref) → behind s xs ≡ Some t → behind s (xs ++ ys) ≡ behind t ys
behind-goes_on s t [] ys h = let same : s ≡ t = cc in ap (λ u. behind u ys) same
behind-goes_on s t (x ∷ xs) ys h = cases (is_low s x) h (behind-goes_on (next s x) t xs ys)
  where
    cases : (b : Bool) → cond b (behind (next s x) xs) None ≡ Some t
        → (behind (next s x) xs ≡ Some t → behind (next s x) (xs ++ ys) ≡ behind t ys)
        → cond b (behind (next s x) (xs ++ ys)) None ≡ behind t ys
    cases true h again = again h
    cases false h again = cc

-- what starts behind resources tell of them
pub record DataFit (s t : Starts) (refs : List Ref) : Type 0 where
  pub data_low : all_within 16777215 (starts s.datum (map (λ r. length (datum r)) refs)) ≡ true
  pub names_low : all_within 65534 (name_starts s.name refs) ≡ true
  pub datum : t.datum ≡ s.datum + length (flat_map datum refs)
  pub name : t.name ≡ s.name + length (flat_map name refs)
  pub small : t.datum ≤ most_data

name_start-low : (n : ℕ) (o : Option (List ℕ)) (others : List ℕ)
    → all_within 65534 (name_start n o others) ≡ (is_name_low n o && all_within 65534 others)
name_start-low n None others = refl
name_start-low n (Some text) others = refl

pub behind-tells : (s t : Starts) (refs : List Ref) → s.datum ≤ most_data → behind s refs ≡ Some t → DataFit s t refs
behind-tells s t [] small h = let same : s ≡ t = cc in
    let d : s.datum ≡ t.datum = ap (λ (u : Starts). u.datum) same in
    let n : s.name ≡ t.name = ap (λ (u : Starts). u.name) same in
    record { data_low = refl; names_low = refl; datum = omega arith; name = omega arith; small = omega arith }
behind-tells s t (r ∷ refs) small h = cases (is_low s r) refl h (behind-tells (next s r) t refs)
  where
    cases : (b : Bool) → is_low s r ≡ b → cond b (behind (next s r) refs) None ≡ Some t
        → ((next s r).datum ≤ most_data → behind (next s r) refs ≡ Some t → DataFit (next s r) t refs)
        → DataFit s t (r ∷ refs)
    cases true low h again =
        let both : ((nat_le s.datum 16777215 && is_name_low s.name r.name) ≡ true)
        × (nat_le (s.datum + length (datum r)) most_data ≡ true) = and_parts _ _ low in
        let two : (nat_le s.datum 16777215 ≡ true) × (is_name_low s.name r.name ≡ true) = and_parts _ _ both.0 in
        let rest : DataFit (next s r) t refs = again (leb-true _ _ both.1) h in
        let d : length (flat_map datum (r ∷ refs)) ≡ length (datum r) + length (flat_map datum refs) =
        length-append (datum r) (flat_map datum refs) in
        let n : length (flat_map name (r ∷ refs)) ≡ length (name r) + length (flat_map name refs) =
        length-append (name r) (flat_map name refs) in
        let td : t.datum ≡ s.datum + length (datum r) + length (flat_map datum refs) = rest.datum in
        let tn : t.name ≡ s.name + length (name r) + length (flat_map name refs) = rest.name in
        record {
          data_low = and_both (nat_le s.datum 16777215) _ two.0 rest.data_low;
          names_low = name_start-low s.name r.name _ ∙ and_both (is_name_low s.name r.name) _ two.1 rest.names_low;
          datum = omega arith;
          name = omega arith;
          small = rest.small;
        }
    cases false low h again = cc

pub behind-is : (s : Starts) (refs : List Ref) → all_within 16777215
    (starts s.datum (map (λ r. length (datum r)) refs)) ≡ true → all_within 65534 (name_starts s.name refs) ≡ true
    → s.datum + length (flat_map datum refs) ≤ most_data
    → behind s refs ≡ Some (record {
      datum = s.datum + length (flat_map datum refs);
      name =
          s.name + length (flat_map name refs);
    })
behind-is s [] datas names small = same s.datum (s.datum + 0) s.name (s.name + 0) (omega arith) (omega arith)
  where
    same : (d d' n n' : ℕ) → d ≡ d' → n ≡ n' → Some (let x : Starts = record { datum = d; name = n } in
        x) ≡ Some (record { datum = d'; name = n' })
    same d d' n n' p q = cc
behind-is s (r ∷ refs) datas names small =
    let d : length (flat_map datum (r ∷ refs)) ≡ length (datum r) + length (flat_map datum refs) =
    length-append (datum r) (flat_map datum refs) in
    let n : length (flat_map name (r ∷ refs)) ≡ length (name r) + length (flat_map name refs) =
    length-append (name r) (flat_map name refs) in
    let both : (nat_le s.datum 16777215 ≡ true) × (all_within 16777215
    (starts (s.datum + length (datum r)) (map (λ (x : Ref). length (datum x)) refs)) ≡ true) =
    and_parts _ _ datas in
    let named : (is_name_low s.name r.name ≡ true) × (all_within 65534 (name_starts (s.name + length (name r)) refs)
    ≡ true) = and_parts _ _ (sym (name_start-low s.name r.name _) ∙ names) in
    let low : is_low s r ≡ true = and_both _ _ (and_both (nat_le s.datum 16777215) (is_name_low s.name r.name) both.0
    named.0) (le-leb (s.datum + length (datum r)) most_data (omega arith)) in
    rw low (behind-is (next s r) refs both.1 named.1 (omega arith) ∙ same _ _ _ _ (omega arith) (omega arith))
  where
    same : (d d' n n' : ℕ) → d ≡ d' → n ≡ n' → Some (let x : Starts = record { datum = d; name = n } in
        x) ≡ Some (record { datum = d'; name = n' })
    same d d' n n' p q = cc

-- the parts of the test whether a content fits
pub record FitsByParts (groups : List Group) : Type 0 where
  pub some : list_all has_refs groups ≡ true
  pub different : are_distinct (map (λ (g : Group). g.kind) groups) ≡ true
  pub few : length groups ≤ 65535
  pub lists : all_within 65535 (list_starts groups) ≡ true
  pub names_at : names_offset groups ≤ 65535
  pub names : all_within 65534 (name_starts 0 (refs_of groups)) ≡ true
  pub data_starts : all_within 16777215 (starts 0 (map (λ (r : Ref). length (datum r)) (refs_of groups))) ≡ true
  pub small : length (data_of groups) ≤ most_data

pub fits-tells : (c : Content) → fits c ≡ true → FitsByParts c.groups
fits-tells c h =
    let gs : List Group = c.groups in
    let h7 : (_ ≡ true) × (nat_le (length (data_of gs)) most_data ≡ true) = and_parts _ _ h in
    let h6 : (_ ≡ true) × (all_within 16777215 (data_starts (refs_of gs)) ≡ true) = and_parts _ _ h7.0 in
    let h5 : (_ ≡ true) × (all_within 65534 (name_starts 0 (refs_of gs)) ≡ true) = and_parts _ _ h6.0 in
    let h4 : (_ ≡ true) × (nat_le (names_offset gs) 65535 ≡ true) = and_parts _ _ h5.0 in
    let h3 : (_ ≡ true) × (all_within 65535 (list_starts gs) ≡ true) = and_parts _ _ h4.0 in
    let h2 : (_ ≡ true) × (nat_le (length gs) 65535 ≡ true) = and_parts _ _ h3.0 in
    let h1 : (list_all has_refs gs ≡ true) × (are_distinct (map (λ (g : Group). g.kind) gs) ≡ true) =
    and_parts _ _ h2.0 in
    record {
      some = h1.0;
      different = h1.1;
      few = leb-true _ _ h2.1;
      lists = h3.1;
      names_at = leb-true _ _ h4.1;
      names = h5.1;
      data_starts = h6.1;
      small = leb-true _ _ h7.1;
    }

pub parts-fit : (c : Content) → FitsByParts c.groups → fits c ≡ true
parts-fit c p =
    let gs : List Group = c.groups in
    and_both _ _ (and_both _ _ (and_both _ _ (and_both _ _
    (and_both _ _ (and_both _ _ (and_both (list_all has_refs gs) (are_distinct (map (λ (g : Group). g.kind) gs))
    p.some p.different)
    (le-leb (length gs) 65535 p.few)) p.lists) (le-leb (names_offset gs) 65535 p.names_at)) p.names) p.data_starts)
    (le-leb (length (data_of gs)) most_data p.small)

-- ends that are found tell what the parts take, and that the content fits
pub fits-found : (c : Content) (end : ℕ) (t : Starts) → refs_end (refs_offset c.groups) c.groups ≡ Some end
    → behind no_starts (refs_of c.groups) ≡ Some t
    → are_distinct (map (λ (g : Group). g.kind) c.groups) ≡ true → FitsByParts c.groups
fits-found c end t ends begins different =
    let l : ListsFit (refs_offset c.groups) end c.groups = refs_end-tells (refs_offset c.groups) end c.groups ends in
    let d : DataFit no_starts t (refs_of c.groups) = behind-tells no_starts t (refs_of c.groups) (omega arith) begins in
    let e : end ≡ refs_offset c.groups + 12 * length (refs_of c.groups) = l.end in
    let low : end ≤ 65507 = l.low in
    let small : t.datum ≤ most_data = d.small in
    let size : t.datum ≡ 0 + length (data_of c.groups) = d.datum in
    record {
      some = l.some;
      different = different;
      few = omega arith;
      lists = l.lists;
      names_at = omega arith;
      names =
          d.names_low;
      data_starts = d.data_low;
      small = omega arith;
    }

pub extents-found : (e : Extents) (groups : List Group) (t : Starts)
    → refs_end (refs_offset groups) groups ≡ Some e.refs_end → behind no_starts (refs_of groups) ≡ Some t
    → e.data_len ≡ t.datum → e.names_len ≡ t.name → t.name ≤ 65790 → AreExtents e groups
extents-found e groups t ends begins data_len names_len short =
    let l : ListsFit (refs_offset groups) e.refs_end groups =
    refs_end-tells (refs_offset groups) e.refs_end groups ends in
    let d : DataFit no_starts t (refs_of groups) = behind-tells no_starts t (refs_of groups) (omega arith) begins in
    let at : e.refs_end ≡ refs_offset groups + 12 * length (refs_of groups) = l.end in
    let low : e.refs_end ≤ 65507 = l.low in
    let small : t.datum ≤ most_data = d.small in
    let size : t.datum ≡ 0 + length (data_of groups) = d.datum in
    let names : t.name ≡ 0 + length (names_of groups) = d.name in
    record {
      names_at = omega arith;
      data_len = omega arith;
      names_len = omega arith;
      low = omega arith;
      small =
          omega arith;
      short = omega arith;
    }

-- sums behind resources
pub behind-sums : (s t : Starts) (refs : List Ref) → behind s refs ≡ Some t
    → (t.datum ≡ s.datum + length (flat_map datum refs)) × (t.name ≡ s.name + length (flat_map name refs))
behind-sums s t [] h = let same : s ≡ t = cc in let d : s.datum ≡ t.datum = ap (λ (u : Starts). u.datum) same in
    let n : s.name ≡ t.name = ap (λ (u : Starts). u.name) same in (omega arith, omega arith)
behind-sums s t (r ∷ refs) h = cases (is_low s r) h (behind-sums (next s r) t refs)
  where
    cases : (b : Bool) → cond b (behind (next s r) refs) None ≡ Some t
        → (behind (next s r) refs ≡ Some t → (t.datum ≡ (next s r).datum + length (flat_map datum refs))
        × (t.name ≡ (next s r).name + length (flat_map name refs)))
        → (t.datum ≡ s.datum + length (flat_map datum (r ∷ refs)))
        × (t.name ≡ s.name + length (flat_map name (r ∷ refs)))
    cases true h again =
        let rest : (t.datum ≡ s.datum + length (datum r) + length (flat_map datum refs))
        × (t.name ≡ s.name + length (name r) + length (flat_map name refs)) = again h in
        let d : length (flat_map datum (r ∷ refs)) ≡ length (datum r) + length (flat_map datum refs) =
        length-append (datum r) (flat_map datum refs) in
        let n : length (flat_map name (r ∷ refs)) ≡ length (name r) + length (flat_map name refs) =
        length-append (name r) (flat_map name refs) in
        let td : t.datum ≡ s.datum + length (datum r) + length (flat_map datum refs) = rest.0 in
        let tn : t.name ≡ s.name + length (name r) + length (flat_map name refs) = rest.1 in
        (omega arith, omega arith)
    cases false h again = cc

-- a content that fits has ends
pub refs_end-some : (c : Content) → fits c ≡ true → IsSome (refs_end (refs_offset c.groups) c.groups)
refs_end-some c h =
    let p : FitsByParts c.groups = fits-tells c h in
    let low : names_offset c.groups ≤ 65535 = p.names_at in
    ap is_some (refs_end-is (refs_offset c.groups) c.groups p.some (omega arith))

pub behind-some : (c : Content) → fits c ≡ true → IsSome (behind no_starts (refs_of c.groups))
behind-some c h =
    let p : FitsByParts c.groups = fits-tells c h in
    let small : length (data_of c.groups) ≤ most_data = p.small in
    ap is_some (behind-is no_starts (refs_of c.groups) p.data_starts p.names (omega arith))

-- data that are small in all are short
short_refs : (refs : List Ref) → length (flat_map datum refs) ≤ most_data → list_all is_short refs ≡ true
short_refs [] small = refl
short_refs (r ∷ refs) small =
    let size : length (flat_map datum (r ∷ refs)) ≡ length (datum r) + length (flat_map datum refs) =
    length-append (datum r) (flat_map datum refs) in
    and_both (is_short r) (list_all is_short refs) (le-leb (length r.datum) most_data (omega arith))
    (short_refs refs (omega arith))

short_groups : (groups : List Group) → length (flat_map datum (refs_of groups)) ≤ most_data
    → list_all are_short groups ≡ true
short_groups [] small = refl
short_groups (g ∷ groups) small =
    let size : length (flat_map datum (g.refs ++ refs_of groups))
    ≡ length (flat_map datum g.refs) + length (flat_map datum (refs_of groups)) =
    ap length (flat_map-two datum g.refs (refs_of groups))
    ∙ length-append (flat_map datum g.refs) (flat_map datum (refs_of groups)) in
    and_both (are_short g) (list_all are_short groups) (short_refs g.refs (omega arith))
    (short_groups groups (omega arith))

pub fits-short : (c : Content) → fits c ≡ true → list_all are_short c.groups ≡ true
fits-short c h = let p : FitsByParts c.groups = fits-tells c h in short_groups c.groups p.small

-- a content without ends doesn't fit
pub refs_end-found : (c : Content) → fits c ≡ true → refs_end (refs_offset c.groups) c.groups ≢ None
refs_end-found c h none = let some : IsSome (refs_end (refs_offset c.groups) c.groups) = refs_end-some c h in
    let no_end : is_some (refs_end (refs_offset c.groups) c.groups) ≡ false = ap is_some none in cc

pub behind-found : (c : Content) → fits c ≡ true → behind no_starts (refs_of c.groups) ≢ None
behind-found c h none = let some : IsSome (behind no_starts (refs_of c.groups)) = behind-some c h in
    let no_start : is_some (behind no_starts (refs_of c.groups)) ≡ false = ap is_some none in cc

-- the first of two parts has starts behind it
pub behind-front : (s : Starts) (xs ys : List Ref) → IsSome (behind s (xs ++ ys)) → IsSome (behind s xs)
behind-front s xs ys h = cases (behind s xs) refl
  where
    cases : (o : Option Starts) → behind s xs ≡ o → IsSome o
    cases (Some t) is = refl
    cases None is = let none : is_some (behind s (xs ++ ys)) ≡ false = ap is_some (behind-stops s xs ys is) in cc
