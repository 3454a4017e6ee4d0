-- Bytes that were read below a limit.
use Rattle.fork_tasks.proofs.Cited.{◌≡◌, ◌≤◌, ◌<◌, ℕ, List, [], ◌++◌, length, take, Option, Some, None, IfSome, ap, ◌∙◌, arith, option_map}
use Rattle.fork_tasks.proofs.Cited.{length-take, take_all}

-- a front that is shorter than its limit is the whole
take_whole : (n : ℕ) (xs : List ℕ) → length (take n xs) < n → take n xs ≡ xs
take_whole n xs short = let l = length-take n xs in let most : length xs ≤ n = grind (arith, l) in take_all n xs most

-- bytes that were read up to a limit, and are fewer, are all that were known
pub below_limit : (known : Option (List ℕ)) (n : ℕ) (front bytes : List ℕ) → front ≡ [] → length bytes < n
    → IfSome (option_map (take n) known) (λ xs. bytes ≡ front ++ xs) → IfSome known (λ xs. bytes ≡ xs)
below_limit None n front bytes empty short is = tt
below_limit (Some xs) n front bytes empty short is =
    let same : bytes ≡ take n xs = is ∙ ap (λ fs. fs ++ take n xs) empty in
    let fewer : length (take n xs) < n = rw (← same) short in
    same ∙ take_whole n xs fewer
