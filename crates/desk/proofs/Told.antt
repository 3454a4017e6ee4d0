-- What a watch is told: the reports so far, and one more.
use Rattle.desk.proofs.Cited.{◌≡◌, ℕ, ◌+◌, ◌++◌, Option, List, sym, ◌∙◌, ap, suc, arith, append_known, known-append, report, reports}

-- one more is told
pub told_more : (h now next : Option (List ℕ)) (i n : ℕ) → now ≡ append_known h (reports i n)
    → next ≡ append_known now (report (i + 1) n) → next ≡ append_known h (reports (i + 1) n)
told_more h now next i n so is =
    let count : i + 1 ≡ suc i = omega arith in
    is ∙ ap (λ (k : Option (List ℕ)). append_known k (report (i + 1) n)) so ∙ known-append h (reports i n) (report (i + 1) n)
    ∙ ap (λ (k : ℕ). append_known h (reports i n ++ report k n)) count
    ∙ ap (λ (k : ℕ). append_known h (reports k n)) (sym count)
