-- A window that is all of a region, cut out and joined again.
use Rattle.raw_region.proofs.Cited.{◌≡◌, ◌∙◌, ℕ, List, [], nil_from_length, ap, subst, sym, arith, Contains, Window, window}
use Rattle.raw_region.proofs.Cited.{with_window, without_window, put_in, taken_out, contains-counted, length-taken_out, one-itself}

alone_out : (w : Window) → taken_out w (put_in w []) ≡ []
alone_out w =
    let o = one-itself w in
    let e = length-taken_out w (put_in w []) (contains-counted w (put_in w []) (omega (arith, o))) in
    nil_from_length (taken_out w (put_in w [])) (omega (arith, e))

-- no window is out, once the one that was cut is home
pub whole_home : (at len : ℕ) (before out after : List Window) (from n : ℕ) → before ≡ []
    → out ≡ with_window from n before → at ≡ from → len ≡ n → after ≡ without_window at len out → after ≡ []
whole_home at len before out after from n b o a l h =
    h ∙ (λ i. without_window (a i) (l i) (o i)) ∙ ap (λ ws. without_window from n (with_window from n ws)) b
    ∙ alone_out (window from n)

-- the window that was cut is out
pub whole_there : (at len : ℕ) (before out : List Window) (from n : ℕ) → before ≡ [] → out ≡ with_window from n before
    → at ≡ from → len ≡ n → Contains out (window at len)
whole_there at len before out from n b o a l =
    let is : out ≡ with_window at len [] = o ∙ (λ i. with_window (sym a i) (sym l i) (b i)) in
    let w = window at len in
    let one = one-itself w in
    subst (λ ws. Contains ws w) (sym is) (contains-counted w (put_in w []) (omega (arith, one)))
