use Rattle.heap_calls.proofs.Cited.{◌≡◌, ℕ, ◌+◌, ◌<◌, Bool, true, List, [], ◌∷◌, ◌++◌, length, take, Option, inl, inr, refl, sym, ◌∙◌, ap}
use Rattle.heap_calls.proofs.Cited.{append_assoc, append-nil, subst, map, get_or, get_or-map, take_more, length-map, Flags, Memory}
use Rattle.heap_calls.proofs.Cited.{Resource, nothing, Gone, Tells, slot_gone, purges_made, new_filled, all_gone, new_inside, new_all}
use Rattle.heap_calls.proofs.Cited.{number_if, LeavesMasters, LeavesUnmade, MadeSome, IsNext, wanted_as, Filling}

-- New resources one after another, as far as they were made, and what a sink was told of them.

-- the first k were made, and the sink was told if it listens
pub record MadeSoFar {A : Type 0} (told : A → List Gone → Type 0) (listens : Bool) (k : ℕ)
    (wanted : List (Flags × List ℕ)) (old : Memory) (numbers : List (Option ℕ)) (new : Memory) (before after : A)
    : Type 0 where
  pub numbered : numbers ≡ (new_all (take k wanted) old).0
  pub memory : new ≡ (new_all (take k wanted) old).1
  pub tells : listens ≡ true → Tells told (all_gone (take k wanted) old) before after

-- one more behind those that were made
all-more : (ws : List (Flags × List ℕ)) (w : Flags × List ℕ) (m : Memory) → new_all (ws ++ w ∷ []) m ≡ (
  (new_all ws m).0 ++ number_if (new_inside Resource w.0 w.1 (new_all ws m).1).0 ∷ [],
  (new_inside Resource w.0 w.1 (new_all ws m).1).1,
)
all-more [] w m = refl
all-more (v ∷ ws) w m =
    ap (λ (p : List (Option ℕ) × Memory). (number_if (new_inside Resource v.0 v.1 m).0 ∷ p.0, p.1))
    (all-more ws w (new_inside Resource v.0 v.1 m).1)

gone-more : (ws : List (Flags × List ℕ)) (w : Flags × List ℕ) (m : Memory)
    → all_gone (ws ++ w ∷ []) m ≡ all_gone ws m ++ purges_made (new_filled Resource w.0 w.1) (new_all ws m).1.heap
gone-more [] w m = append-nil (purges_made (new_filled Resource w.0 w.1) m.heap)
gone-more (v ∷ ws) w m =
    ap (λ l. purges_made (new_filled Resource v.0 v.1) m.heap ++ l) (gone-more ws w (new_inside Resource v.0 v.1 m).1)
    ∙ sym (append_assoc (purges_made (new_filled Resource v.0 v.1) m.heap) (all_gone ws (new_inside Resource v.0 v.1 m).1)
    (purges_made (new_filled Resource w.0 w.1) (new_all ws (new_inside Resource v.0 v.1 m).1).1.heap))

-- what is told behind what was told
tells-on : {A : Type 0} (told : A → List Gone → Type 0) (first more all : List Gone) (a b c : A)
    → Tells told first a b → Tells told more b c → all ≡ first ++ more → Tells told all a c
tells-on told first more all a b c was on same before told' =
    subst (told c) (append_assoc before first more ∙ ap (λ l. before ++ l) (sym same))
    (on (before ++ first) (was before told'))

module _ {A : Type 0} (told : A → List Gone → Type 0) (listens : Bool) (k : ℕ) (ws : List (Flags × List ℕ))
    (old : Memory) (numbers : List (Option ℕ)) (mid : Memory) (before s : A)
    (made : MadeSoFar told listens k ws old numbers mid before s)
  where
    made-more : (w : Flags × List ℕ) (number : Option ℕ) (new : Memory) (after : A)
        → take (k + 1) ws ≡ take k ws ++ w ∷ [] → IsNext w.0 w.1 mid number new
        → (listens ≡ true → Tells told (purges_made (new_filled Resource w.0 w.1) mid.heap) s after)
        → MadeSoFar told listens (k + 1) ws old (numbers ++ number ∷ []) new before after
    made-more w number new after on next tells =
        let all = ap (λ l. new_all l old) on ∙ all-more (take k ws) w old in
        record {
          numbered = ap (λ l. l ++ number ∷ []) made.numbered
              ∙ ap (λ n. (new_all (take k ws) old).0 ++ n ∷ [])
              (sym next.0 ∙ ap (λ m. number_if (new_inside Resource w.0 w.1 m).0) made.memory)
              ∙ sym (ap (λ (p : List (Option ℕ) × Memory). p.0) all);
          memory = sym next.1 ∙ ap (λ m. (new_inside Resource w.0 w.1 m).1) made.memory
              ∙ sym (ap (λ (p : List (Option ℕ) × Memory). p.1) all);
          tells = λ is. tells-on told (all_gone (take k ws) old) (purges_made (new_filled Resource w.0 w.1) mid.heap)
              (all_gone (take (k + 1) ws) old) before s after (made.tells is) (tells is)
              (ap (λ l. all_gone l old) on ∙ gone-more (take k ws) w old
              ∙ ap (λ (m : Memory). all_gone (take k ws) old ++ purges_made (new_filled Resource w.0 w.1) m.heap) (sym made.memory));
        }

    stops-there : k < length ws → listens ≡ true → (new : Memory) (after : A) → LeavesUnmade told mid new s after
        → MadeSome told ws old numbers new before after
    stops-there less is new after left = (
      k,
      record {
        some = less;
        made = made.numbered;
        left = elim left [
          | inl same ↦ inl (same.0 ∙ made.memory, λ b was. same.1 _ (made.tells is b was))
          | inr slot ↦ inr (
            subst (λ (m : Memory). LeavesMasters nothing m new) made.memory slot.0,
            tells-on told (all_gone (take k ws) old) (slot_gone nothing mid.heap)
                (all_gone (take k ws) old ++ slot_gone nothing (new_all (take k ws) old).1.heap) before s after
                (made.tells is) slot.1
                (ap (λ (m : Memory). all_gone (take k ws) old ++ slot_gone nothing m.heap) (sym made.memory)),
          )
        ];
      },
    )

module _ {A : Type 0} (told : A → List Gone → Type 0) (listens : Bool) (k : ℕ) (wanted : List Filling)
    (old : Memory) (numbers : List (Option ℕ)) (mid : Memory) (before s : A)
    (made : MadeSoFar told listens k (map wanted_as wanted) old numbers mid before s) (less : k < length wanted)
  where
    within : k < length (map wanted_as wanted)
    within = subst (λ n. k < n) (sym (length-map wanted wanted_as)) less

    -- the next was made
    pub made-next : (d : Filling) (number : Option ℕ) (new : Memory) (after : A)
        → IsNext (get_or wanted k d).flags (get_or wanted k d).bytes.now mid number new
        → (listens ≡ true → Tells told (purges_made (new_filled Resource
        (get_or wanted k d).flags (get_or wanted k d).bytes.now) mid.heap) s after)
        → MadeSoFar told listens (k + 1) (map wanted_as wanted) old (numbers ++ number ∷ []) new before after
    made-next d number new after next tells =
        made-more told listens k (map wanted_as wanted) old numbers mid before s made (wanted_as (get_or wanted k d))
        number new after
        (take_more (map wanted_as wanted) k (wanted_as d) within
        ∙ ap (λ w. take k (map wanted_as wanted) ++ w ∷ []) (get_or-map wanted_as wanted k d)) next tells

    -- the next could not be made
    pub stops-here : listens ≡ true → (new : Memory) (after : A) → LeavesUnmade told mid new s after
        → MadeSome told (map wanted_as wanted) old numbers new before after
    stops-here is new after left = stops-there told listens k (map wanted_as wanted) old numbers mid before s made within
        is new after left

-- none was made, where there is no room to note them
pub stops-first : {A : Type 0} (told : A → List Gone → Type 0) (wanted : List Filling) (old new : Memory)
    (numbers : List (Option ℕ)) (sink : A) → 0 < length wanted → numbers ≡ [] → new ≡ old
    → MadeSome told (map wanted_as wanted) old numbers new sink sink
stops-first told wanted old new numbers sink some none same = (
  0,
  record {
    some = subst (λ n. 0 < n) (sym (length-map wanted wanted_as)) some;
    made = none;
    left = inl (same, λ before was. subst (told sink) (sym (append-nil before)) was);
  },
)
