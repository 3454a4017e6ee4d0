-- What a launch makes of the desk.
use Rattle.desk.proofs.Cited.{◌≡◌, ℕ, Option, Some, None, option_map, Result, Ok, Err, List, ◌++◌, length, map, IsOk, OnOk, true, false}
use Rattle.desk.proofs.Cited.{slice_get, slice_set, slice_index_or, IfSome, ◌<◌, refl, sym, ◌∙◌, ap, subst, Bor, IsItemAt, ok_or}
use Rattle.desk.proofs.Cited.{slice_get-map, slice_get_read, slice_get_past, Window, All-contains, put_in, IsOutside, OsErr, Resources}
use Rattle.desk.proofs.Cited.{Refusal, Code, grant, launch_of, refusal_of, Phase, Waiting, Running, Ended, begun, waits, Sizes, sizes_asked}
use Rattle.desk.proofs.Cited.{IsReady, Place, State, IsFree, launch_reply, reply_at, size_granted, begun_in, begun_with, begun_if, ready}
use Rattle.desk.proofs.Cited.{launched_by, launched_in, launched_at}
use Rattle.desk.proofs.Holding.{contains-put_in}

-- a state by its parts
stands : (s : State) (m : ℕ) (ws : List Window) (ps : List Place) (text : List ℕ) → m ≡ s.memory → ws ≡ s.windows
    → ps ≡ s.places → text ≡ s.log → let t : State = record { memory = m; windows = ws; places = ps; log = text } in t ≡ s
stands s m ws ps text hm hw hp ht = rw (hm, hw, hp, ht) refl

-- what is ready waits
pub waits_ready : (phase : Phase) (r : Resources) → ready phase ≡ Ok r → waits phase ≡ true
waits_ready (Waiting start) r e = refl
waits_ready (Running live) r e = absurd (cc)
waits_ready (Ended launched) r e = absurd (cc)

module _ (i : ℕ) (s : State) (p : Place) (here : slice_get s.places i ≡ Some p) where
  -- it can't be launched
  pub launched-refused : (code : OsErr) (m : ℕ) (ws : List Window) (ps : List Place) (text : List ℕ)
      → ready p.phase ≡ Err code → m ≡ s.memory → ws ≡ s.windows → ps ≡ s.places
      → text ≡ s.log ++ refusal_of p.name code.0
      → let t : State = record { memory = m; windows = ws; places = ps; log = text } in t ≡ launched_at i s
  launched-refused code m ws ps text e hm hw hp ht =
      stands (launched_by (begun_if p.size (Err code) s) i p s) m ws ps text hm hw hp ht
      ∙ sym (ap (λ o. launched_in i o s) here ∙ ap (λ r. launched_by (begun_if p.size r s) i p s) e)

  pub answered : (r : Resources) (sizes : Sizes) (o : Option Window) → ready p.phase ≡ Ok r
      → sizes ≡ sizes_asked p.size r → o ≡ grant s.memory s.windows sizes.preferred sizes.minimum
      → launched_at i s ≡ launched_by (begun_in r o) i p s
  answered r sizes o e hs ho =
      ap (λ q. launched_in i q s) here ∙ ap (λ q. launched_by (begun_if p.size q s) i p s) e
      ∙ ap (λ (z : Sizes). launched_by (begun_with r z s) i p s) (sym hs)
      ∙ ap (λ q. launched_by (begun_in r q) i p s) (sym ho)

  -- a place that is free after the launch is outside the window that the launch is granted
  pub out_granted : (place : ℕ) (r : Resources) (sizes : Sizes) → ready p.phase ≡ Ok r → sizes ≡ sizes_asked p.size r
      → IsFree place (launched_at i s)
      → IfSome (grant s.memory s.windows sizes.preferred sizes.minimum) (λ w. IsOutside place w)
  out_granted place r sizes e hs f =
      by_grant (grant s.memory s.windows sizes.preferred sizes.minimum)
      (subst (IsFree place) (answered r sizes (grant s.memory s.windows sizes.preferred sizes.minimum) e hs refl) f)
    where
      by_grant : (o : Option Window) → IsFree place (launched_by (begun_in r o) i p s)
          → IfSome o (λ w. IsOutside place w)
      by_grant None f = tt
      by_grant (Some w) f =
          All-contains (λ v. IsOutside place v) (put_in w s.windows) w f (contains-put_in w s.windows)

  -- there is no room for it
  pub launched-full : (r : Resources) (sizes : Sizes) (m : ℕ) (ws : List Window) (ps : List Place) (text : List ℕ)
      → ready p.phase ≡ Ok r → sizes ≡ sizes_asked p.size r
      → None ≡ grant s.memory s.windows sizes.preferred sizes.minimum → m ≡ s.memory → ws ≡ s.windows → ps ≡ s.places
      → (code : OsErr) → Err code ≡ begun_in r None → text ≡ s.log ++ refusal_of p.name code.0
      → let t : State = record { memory = m; windows = ws; places = ps; log = text } in t ≡ launched_at i s
  launched-full r sizes m ws ps text e hs ho hm hw hp code hc ht =
      stands (launched_by (Err code) i p s) m ws ps text hm hw hp ht
      ∙ ap (λ q. launched_by q i p s) hc ∙ sym (answered r sizes None e hs ho)

  -- it is launched
  pub launched-begins : (r : Resources) (sizes : Sizes) (w : Window) (m : ℕ) (ws : List Window) (ps : List Place)
      (text : List ℕ) → ready p.phase ≡ Ok r → sizes ≡ sizes_asked p.size r
      → Some w ≡ grant s.memory s.windows sizes.preferred sizes.minimum → m ≡ s.memory → ws ≡ put_in w s.windows
      → ps ≡ slice_set s.places i (record p { phase = Running (begun r w) }) → text ≡ s.log ++ launch_of p.name w.len
      → let t : State = record { memory = m; windows = ws; places = ps; log = text } in t ≡ launched_at i s
  launched-begins r sizes w m ws ps text e hs ho hm hw hp ht =
      stands (launched_by (Ok (begun r w)) i p s) m ws ps text hm hw hp ht ∙ sym (answered r sizes (Some w) e hs ho)

  -- what it is told
  pub replied-refused : (code : OsErr) → ready p.phase ≡ Err code → Err code ≡ reply_at i s
  replied-refused code e = sym (ap (λ o. launch_reply o s) here ∙ ap (λ r. size_granted (begun_if p.size r s)) e)

  pub replied-begun : (r : Resources) (sizes : Sizes) (o : Option Window) → ready p.phase ≡ Ok r
      → sizes ≡ sizes_asked p.size r → o ≡ grant s.memory s.windows sizes.preferred sizes.minimum
      → size_granted (begun_in r o) ≡ reply_at i s
  replied-begun r sizes o e hs ho =
      sym (ap (λ q. launch_reply q s) here ∙ ap (λ q. size_granted (begun_if p.size q s)) e
      ∙ ap (λ (z : Sizes). size_granted (begun_with r z s)) (sym hs)
      ∙ ap (λ q. size_granted (begun_in r q)) (sym ho))

-- a window that was granted
pub granted-some : {A E : Type 0} (r : Result A E) (o : Option A) (e : E) (x : A) → r ≡ ok_or o e → r ≡ Ok x → o ≡ Some x
granted-some r None e x is ok = cc
granted-some r (Some y) e x is ok = cc

-- what was written stays, once it is told
pub through : {A B E : Type 0} (r : Result A E) (w : Result B E) (P : Type 0) → OnOk r (IsOk w) → OnOk w P → OnOk r P
through (Ok a) (Ok b) P same so = so
through (Ok a) (Err e) P same so = absurd (let no : false ≡ true = same in cc)
through (Err e) w P same so = tt

-- there is none of that number
pub launched-none : (i : ℕ) (s : State) → slice_get s.places i ≡ None → s ≡ launched_at i s
launched-none i s e = sym (ap (λ (o : Option Place). launched_in i o s) e)

-- what the code read at a place of the list
pub seen-some : {X : Type 0} (v : X → Place) (xs ys : List X) (i : ℕ) (x : X) → ys ≡ xs → i < length ys
    → x ≡ slice_index_or ys i x → slice_get (map v xs) i ≡ Some (v x)
seen-some v xs ys i x same lt is =
    ap (λ zs. slice_get (map v zs) i) (sym same) ∙ slice_get-map v ys i
    ∙ ap (option_map v) (slice_get_read ys (length ys) i x refl lt is)

pub seen-none : {X : Type 0} (v : X → Place) (xs ys : List X) (i : ℕ) (r : Option (Bor X)) → ys ≡ xs → IsItemAt ys i r
    → r ≡ None → slice_get (map v xs) i ≡ None
seen-none v xs ys i r same item is =
    ap (λ zs. slice_get (map v zs) i) (sym same) ∙ slice_get-map v ys i
    ∙ ap (option_map v) (slice_get_past ys i (subst (λ q. IsItemAt ys i q) is item).3)

pub refused-ready : (start : Result Resources OsErr) (r : Refusal) (code : OsErr) → r ≡ Code code → IsReady start (Err r)
    → start ≡ Err code
refused-ready start r code is h = subst (λ q. IsReady start (Err q)) is h

pub at-some : {A : Type 0} (o : Option A) (x : A) (P : A → Type 0) → o ≡ Some x → IfSome o P → P x
at-some o x P is h = subst (λ q. IfSome q P) is h
