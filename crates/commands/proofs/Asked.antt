-- Words that ask for a request.
use Rattle.commands.proofs.Cited.{◌≡◌, ◌<◌, ◌≤◌, ◌+◌, ◌-◌, ◌∷◌, ◌++◌, ◌∙◌, ℕ, true, List, [], take, drop, get_or, length, map, inl, inr}
use Rattle.commands.proofs.Cited.{refl, ap, sym, arith, take-append-drop, map-append, bytes_eq, codes, bytes_eq-Decides, common_steps, Bor}
use Rattle.commands.proofs.Cited.{StandIn, HasValue, IsGiven, HasValues}

-- what stands among words does so with a word before them
pub skip : (word : List ℕ) (words texts : List (List ℕ)) → StandIn words texts → StandIn (word ∷ words) texts
skip word words [] stand = tt
skip word words (text ∷ texts) (before, rest, is, more) = (word ∷ before, rest, ap (λ l. word ∷ l) is, more)

-- the next text is the word before them
pub next : (word text : List ℕ) (words texts : List (List ℕ)) → word ≡ text → StandIn words texts
    → StandIn (word ∷ words) (text ∷ texts)
next word text words texts same more = ([], words, ap (λ w. w ∷ words) same, more)

-- a text of a list
pub split_at : (xs : List (Bor (List ℕ))) (i : ℕ) (x : Bor (List ℕ)) → i < length xs → x ≡ get_or xs i x
    → map (λ (x : Bor (List ℕ)). x.now) (drop i xs) ≡ x.now ∷ map (λ (x : Bor (List ℕ)). x.now) (drop (i + 1) xs)
split_at xs i x inside is = grind (arith, common_steps)

pub split_or : (xs : List (Bor (List ℕ))) (i : ℕ) (d : Bor (List ℕ)) → i < length xs
    → map (λ (x : Bor (List ℕ)). x.now) (drop i xs)
    ≡ (get_or xs i d).now ∷ map (λ (x : Bor (List ℕ)). x.now) (drop (i + 1) xs)
split_or xs i d inside = grind (arith, common_steps)

pub whole_at : (xs : List (Bor (List ℕ))) (i : ℕ) (d : Bor (List ℕ)) → i < length xs
    → map (λ (x : Bor (List ℕ)). x.now) xs
    ≡ map (λ (x : Bor (List ℕ)). x.now) (take i xs) ++ (get_or xs i d).now ∷ map (λ (x : Bor (List ℕ)). x.now) (drop (i + 1) xs)
whole_at xs i d inside = ap (λ l. map (λ (x : Bor (List ℕ)). x.now) l) (sym (take-append-drop i xs))
    ∙ map-append (λ (x : Bor (List ℕ)). x.now) (take i xs) (drop i xs)
    ∙ ap (λ l. map (λ (x : Bor (List ℕ)). x.now) (take i xs) ++ l) (split_or xs i d inside)

pub two_at : (xs : List (Bor (List ℕ))) (i : ℕ) (d : Bor (List ℕ)) → i + 1 < length xs
    → map (λ (x : Bor (List ℕ)). x.now) xs
    ≡ map (λ (x : Bor (List ℕ)). x.now) (take i xs)
    ++ (get_or xs i d).now ∷ (get_or xs (i + 1) d).now ∷ map (λ (x : Bor (List ℕ)). x.now) (drop (i + 1 + 1) xs)
two_at xs i d inside = whole_at xs i d (omega arith)
    ∙ ap (λ l. map (λ (x : Bor (List ℕ)). x.now) (take i xs) ++ (get_or xs i d).now ∷ l) (split_or xs (i + 1) d inside)

pub head_two : (xs : List (Bor (List ℕ))) (d : Bor (List ℕ)) → 2 ≤ length xs
    → map (λ (x : Bor (List ℕ)). x.now) xs
    ≡ (get_or xs 0 d).now ∷ (get_or xs 1 d).now ∷ map (λ (x : Bor (List ℕ)). x.now) (take (length xs - 2) (drop 2 xs))
head_two xs d two = two_at xs 0 d (omega arith)
    ∙ ap (λ l. (get_or xs 0 d).now ∷ (get_or xs 1 d).now ∷ map (λ (x : Bor (List ℕ)). x.now) l)
    (let all : drop 2 xs ≡ take (length xs - 2) (drop 2 xs) = grind (arith, common_steps) in all)

-- texts that compare equal
pub same_text : (a b : List ℕ) → true ≡ bytes_eq a b → a ≡ b
same_text a b same = (bytes_eq-Decides a b).0 (sym same)

-- an option and its value are one word, or two that follow one another
pub within_at : (words : List (Bor (List ℕ))) (i : ℕ) (d : Bor (List ℕ)) (option begin value : List ℕ) → i < length words
    → begin ≡ option ++ codes "=" → (get_or words i d).now ≡ begin ++ value
    → HasValue (map (λ (x : Bor (List ℕ)). x.now) words) option value
within_at words i d option begin value inside is word = inr (
  map (λ (x : Bor (List ℕ)). x.now) (take i words),
  map (λ (x : Bor (List ℕ)). x.now) (drop (i + 1) words),
  whole_at words i d inside
      ∙ ap (λ w. map (λ (x : Bor (List ℕ)). x.now) (take i words) ++ w ∷ map (λ (x : Bor (List ℕ)). x.now) (drop (i + 1) words))
      (word ∙ ap (λ b. b ++ value) is),
  tt,
)

pub beside_at : (words : List (Bor (List ℕ))) (i : ℕ) (d : Bor (List ℕ)) (option value : List ℕ) → i + 1 < length words
    → (get_or words i d).now ≡ option → (get_or words (i + 1) d).now ≡ value
    → HasValue (map (λ (x : Bor (List ℕ)). x.now) words) option value
beside_at words i d option value inside first second = inl (
  map (λ (x : Bor (List ℕ)). x.now) (take i words),
  map (λ (x : Bor (List ℕ)). x.now) (drop (i + 1 + 1) words),
  two_at words i d inside
      ∙ ap (λ w. map (λ (x : Bor (List ℕ)). x.now) (take i words) ++ w ∷ (get_or words (i + 1) d).now
      ∷ map (λ (x : Bor (List ℕ)). x.now) (drop (i + 1 + 1) words)) first
      ∙ ap (λ w. map (λ (x : Bor (List ℕ)). x.now) (take i words) ++ option ∷ w
      ∷ map (λ (x : Bor (List ℕ)). x.now) (drop (i + 1 + 1) words)) second,
)

-- values that are given among words are so with a word before them
pub skip_values : (word : List ℕ) (words : List (List ℕ)) (option : List ℕ) (values : List (List ℕ))
    → HasValues words option values → HasValues (word ∷ words) option values
skip_values word words option [] given = tt
skip_values word words option (value ∷ values) (before, first, rest, is, gives, more) =
    (word ∷ before, first, rest, ap (λ l. word ∷ l) is, gives, more)

-- the next value is given by the word before them
pub next_value : (word : List ℕ) (words : List (List ℕ)) (option value : List ℕ) (values : List (List ℕ))
    → IsGiven option value word words → HasValues words option values → HasValues (word ∷ words) option (value ∷ values)
next_value word words option value values gives more = ([], word, words, refl, gives, more)

-- by one word, or by it and the one after it
pub given_within : (option begin value word : List ℕ) (rest : List (List ℕ)) → begin ≡ option ++ codes "="
    → word ≡ begin ++ value → IsGiven option value word rest
given_within option begin value word rest is same = inl (same ∙ ap (λ b. b ++ value) is)

pub given_beside : (option value word : List ℕ) (rest : List (Bor (List ℕ))) (d : Bor (List ℕ)) → 1 ≤ length rest
    → word ≡ option → (get_or rest 0 d).now ≡ value → IsGiven option value word (map (λ (x : Bor (List ℕ)). x.now) rest)
given_beside option value word rest d long first second = inr (
  first,
  map (λ (x : Bor (List ℕ)). x.now) (drop 1 rest),
  split_or rest 0 d long ∙ ap (λ w. w ∷ map (λ (x : Bor (List ℕ)). x.now) (drop 1 rest)) second,
)
