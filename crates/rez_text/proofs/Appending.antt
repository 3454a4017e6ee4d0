-- Texts that are appended one after another, and lines that are appended one by one.
use Rattle.rez_text.proofs.Cited.{◌≡◌, ◌<◌, ℕ, suc, ◌+◌, ◌-◌, List, [], ◌∷◌, ◌++◌, take, drop, replicate, sym, ap, ◌∙◌, arith, append_assoc}
use Rattle.rez_text.proofs.Cited.{line_count}

-- four pieces
pub four : (old a b d e one two three new : List ℕ) → one ≡ old ++ a → two ≡ one ++ b → three ≡ two ++ d
    → new ≡ three ++ e → new ≡ old ++ (a ++ b ++ d ++ e)
four old a b d e one two three new h i j k =
    k ∙ ap (λ l. l ++ e) (j ∙ ap (λ l. l ++ d) (i ∙ ap (λ l. l ++ b) h))
    ∙ ap (λ l. (l ++ d) ++ e) (append_assoc old a b) ∙ ap (λ l. l ++ e) (append_assoc old (a ++ b) d)
    ∙ append_assoc old (a ++ b ++ d) e

-- three pieces
pub three : (old a b d one two new : List ℕ) → one ≡ old ++ a → two ≡ one ++ b → new ≡ two ++ d
    → new ≡ old ++ (a ++ b ++ d)
three old a b d one two new h i j =
    j ∙ ap (λ l. l ++ d) (i ∙ ap (λ l. l ++ b) h) ∙ ap (λ l. l ++ d) (append_assoc old a b)
    ∙ append_assoc old (a ++ b) d

-- a blank more
pub one_blank : (i count : ℕ) (old new whole : List ℕ) → i < count → new ≡ old ++ 32 ∷ []
    → old ++ replicate (count - i) 32 ≡ whole → new ++ replicate (count - (i + 1)) 32 ≡ whole
one_blank i count old new whole inside e h =
    let less : suc (count - (i + 1)) ≡ count - i = omega arith in
    ap (λ l. l ++ replicate (count - (i + 1)) 32) e ∙ append_assoc old (32 ∷ []) (replicate (count - (i + 1)) 32)
    ∙ ap (λ n. old ++ replicate n 32) less ∙ h

-- a line more, of lines that `lines` puts one after another, each by `f`
pub one_line : (f : List ℕ → List ℕ) (lines : ℕ → List ℕ → List ℕ)
    → ((n : ℕ) (xs : List ℕ) → lines (suc n) xs ≡ f (take 16 xs) ++ lines n (drop 16 xs))
    → (xs line rest old new whole : List ℕ) → line ≡ take 16 xs → rest ≡ drop 16 xs
    → line_count xs ≡ suc (line_count rest) → new ≡ old ++ f line → old ++ lines (line_count xs) xs ≡ whole
    → new ++ lines (line_count rest) rest ≡ whole
one_line f lines by xs line rest old new whole front behind count e h =
    let all : lines (line_count xs) xs ≡ f (take 16 xs) ++ lines (line_count rest) (drop 16 xs) =
    ap (λ n. lines n xs) count ∙ by (line_count rest) xs in
    ap (λ l. l ++ lines (line_count rest) rest) (e ∙ ap (λ l. old ++ f l) front)
    ∙ append_assoc old (f (take 16 xs)) (lines (line_count rest) rest)
    ∙ ap (λ l. old ++ (f (take 16 xs) ++ lines (line_count rest) l)) behind ∙ ap (λ l. old ++ l) (sym all) ∙ h
