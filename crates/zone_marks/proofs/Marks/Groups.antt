-- The groups of landmarks.
use Rattle.zone_marks.proofs.Cited.{length-take, ◌≡◌, ◌⊎◌, ℕ, ◌+◌, ◌*◌, ◌≤◌, ◌<◌, inl, inr, List, length, take, drop, get_or, set, sym, ap}
use Rattle.zone_marks.proofs.Cited.{◌∙◌, subst, arith, length-set, replicate, IsGroup, AreGroups, marks_in, no_group, no_mark, told}
use Rattle.zone_marks.proofs.Cited.{Stretch, eqb_tells, get_or-take, get_or-drop, get_or-set_same, get_or-set_other, length-drop}
use Rattle.zone_marks.proofs.Cited.{get_or-replicate, length-replicate, drop-take, drop-set-lt, take-set-le, Group, Landmark, Tallies}
use Rattle.zone_marks.proofs.Cited.{GROUP, Counting}
use Rattle.zone_marks.specs.declared.stretch.Counting.TheVariants as counting
use Rattle.zone_marks.specs.declared.landmark.Tally.TheVariants as tally

-- nothing known is nothing that is known, in either way
abbrev pub unknown : Tallies
unknown = record { runs = tally.Unknown; spaces = tally.Unknown }

never : (c : Counting) (s : Stretch) → told c unknown ≡ tally.Known s → ⊥
never counting.Runs s e = cc
never counting.Spaces s e = cc

-- the landmarks of a group that has not the one that becomes another
marks-apart : (marks : List Landmark) (m : Landmark) (index low n : ℕ) → (index < low) ⊎ (low + n ≤ index)
    → take n (drop low (set marks index m)) ≡ take n (drop low marks)
marks-apart marks m index low n (inl l) = ap (take n) (drop-set-lt low marks index m l)
marks-apart marks m index low n (inr l) =
    sym (drop-take low n (set marks index m)) ∙ ap (drop low) (take-set-le (low + n) marks index m l) ∙ drop-take low
    n marks

-- a landmark of a group, by its index among all
member : (group : ℕ) (marks : List Landmark) (j : ℕ) → j < GROUP
    → get_or (marks_in group marks) j no_mark ≡ get_or marks (GROUP * group + j) no_mark
member group marks j l = get_or-take GROUP (drop (GROUP * group) marks) j no_mark l
    ∙ get_or-drop (GROUP * group) marks j no_mark

-- a landmark becomes another, of which its group knows no more than a bound
pub group-raised : (groups : List Group) (marks : List Landmark) (group index : ℕ) (g : Group) (m : Landmark)
    → AreGroups groups marks → group < length groups → GROUP * group ≤ index → index < GROUP * group + GROUP
    → (get_or groups group no_group).most ≤ g.most → m.most ≤ g.most → g.tally ≡ unknown
    → AreGroups (set groups group g) (set marks index m)
group-raised groups marks group index g m a l low high was is none =
    let w = a.whole in
    let n = length-set marks index m in
    let k = length-set groups group g in
    record {
      whole = omega arith;
      each = λ other j. elim (eqb_tells other group) [
        | inl t ↦ subst (λ o. IsGroup (get_or (set groups group g) o no_group) (marks_in o (set marks index m)))
            (sym t.1) (rw (get_or-set_same groups group g no_group l) here)
        | inr t ↦ rw (
          get_or-set_other groups group other g no_group t.1,
          marks-apart marks m index (GROUP * other) GROUP (grind arith),
        ) (a.each other (omega arith))
      ];
    }
  where
    here : IsGroup g (marks_in group (set marks index m))
    here =
        let w = a.whole in
        let n = length-set marks index m in
        record {
          most = λ j v.
              let k : j < GROUP = omega (arith, v, length-take GROUP (drop (GROUP * group) (set marks index m))) in
              elim (eqb_tells (GROUP * group + j) index) [
                | inl t ↦ subst (λ z. z.most ≤ g.most) (sym (member group (set marks index m) j k
                    ∙ ap (λ q. get_or (set marks index m) q no_mark) t.1
                    ∙ get_or-set_same marks index m no_mark (omega arith))) is
                | inr t ↦ subst (λ z. z.most ≤ g.most) (sym (member group (set marks index m) j k
                    ∙ get_or-set_other marks index (GROUP * group + j) m no_mark t.1 ∙ sym (member group marks j k)))
                    (omega (
                      arith,
                      (a.each group l).most j (omega (
                        arith,
                        length-take GROUP (drop (GROUP * group) marks),
                        length-drop (GROUP * group) marks,
                      )),
                      was,
                    ))
              ];
          known = λ c s e. absurd (never c s (sym (ap (told c) none) ∙ e));
        }

-- landmarks that all note the same, and of which groups know no more
pub same-groups : (count groups : ℕ) (m : Landmark) → count ≡ GROUP * groups
    → AreGroups (replicate groups (record { most = m.most; tally = unknown })) (replicate count m)
same-groups count groups m e =
    let g : Group = record { most = m.most; tally = unknown } in
    record {
      whole = omega (arith, length-replicate count m, length-replicate groups g);
      each = λ group l. rw (get_or-replicate groups group g no_group (omega (arith, length-replicate groups g)))
          (record {
            most = λ j v.
                let n = length-replicate count m in
                let k = length-take GROUP (drop (GROUP * group) (replicate count m)) in
                let d = length-drop (GROUP * group) (replicate count m) in
                rw (member group (replicate count m) j (omega arith))
                (rw (get_or-replicate count (GROUP * group + j) m no_mark (omega arith)) (omega arith));
            known = λ c s q. absurd (never c s q);
          });
    }
