-- The state of a file, by the fork that is found in it.
use Rattle.fork_commands.proofs.Cited.{◌≡◌, ◌∙◌, ℕ, Bool, true, false, List, [], ◌∷◌, ◌++◌, Some, None, Result, Ok, Err, length, refl, sym}
use Rattle.fork_commands.proofs.Cited.{ap, arith, ne_eqb, ◌==◌, is_ok, codes, OsErr, content_or_code, Content, is_fork, content_of, Broken}
use Rattle.fork_commands.proofs.Cited.{broken, form_text, whole_text, why_text, kept, keeps, FileFault, Container, container_of}
use Rattle.fork_commands.proofs.Cited.{content_or_fault, fork_in, content_of_fork, made_then, form_word, rule_of, judged_words, fork_words}
use Rattle.fork_commands.proofs.Cited.{fault_words, found_words, is_bare, state_words, has_content}

-- the word for a fork, by the content that was read
pub word_of_content : (c : Content) (fork text new : List ℕ) → c ≡ content_of fork → new ≡ text ++ form_word c fork
    → new ≡ text ++ form_word (content_of fork) fork
word_of_content c fork text new is has = has ∙ ap (λ k. text ++ form_word k fork) is

-- what a fork that breaks no rule is
pub why_of_whole : (fork text new : List ℕ) → rule_of fork ≡ None → new ≡ text ++ why_text fork
    → new ≡ text ++ form_text (content_of fork) fork
unfolding rule_of
why_of_whole fork text new is has = has ∙ ap (λ o. text ++ whole_text o fork) is

-- a fork has a content
known : (fork : List ℕ) → is_fork fork ≡ is_ok (content_or_code fork)
known [] = refl
known (b ∷ bytes) = cases (is_fork (b ∷ bytes)) refl
  where
    cases : (t : Bool) → is_fork (b ∷ bytes) ≡ t → t ≡ is_ok (content_or_code (b ∷ bytes))
    cases true is = rw (ne_eqb (length (b ∷ bytes)) 0 (λ e. omega (arith, e)), is) refl
    cases false is = rw (ne_eqb (length (b ∷ bytes)) 0 (λ e. omega (arith, e)), is) refl

either : (r : Result Content OsErr) → is_ok r ≡ is_ok (content_or_fault r)
either (Ok c) = refl
either (Err code) = refl

has_one : (fork : List ℕ) → is_fork fork ≡ is_ok (content_of_fork fork)
unfolding content_of_fork
has_one fork = known fork ∙ either (content_or_code fork)

-- bytes that break no rule have a content, and others have none
pub is_whole : (fork : List ℕ) → rule_of fork ≡ None → is_fork fork ≡ true
unfolding rule_of
is_whole fork is = kept fork is

pub whole_content : (fork : List ℕ) → rule_of fork ≡ None → true ≡ is_ok (content_of_fork fork)
whole_content fork is = sym (is_whole fork is) ∙ has_one fork

not_whole : (fork : List ℕ) (b : Broken) → broken fork ≡ Some b → is_fork fork ≡ false
not_whole fork b is = by-test (is_fork fork) refl
  where
    by-test : (t : Bool) → is_fork fork ≡ t → t ≡ false
    by-test false e = refl
    by-test true e = let both : Some b ≡ None = sym is ∙ keeps fork e in cc

pub broken_content : (fork : List ℕ) (b : Broken) → rule_of fork ≡ Some b → false ≡ is_ok (content_of_fork fork)
unfolding rule_of
broken_content fork b is = sym (not_whole fork b is) ∙ has_one fork

none : (fork : List ℕ) → (length fork == 0) ≡ true → fork ≡ []
none [] is = refl
none (b ∷ bytes) is = absurd (let both : false ≡ true = sym (ne_eqb (length (b ∷ bytes)) 0 (λ e. omega (arith, e))) ∙ is in cc)

pub no_bytes : (fork : List ℕ) → (length fork == 0) ≡ true → false ≡ is_ok (content_of_fork fork)
unfolding content_of_fork
no_bytes [] is = refl
no_bytes (b ∷ bytes) is = absurd (let no : b ∷ bytes ≡ [] = none (b ∷ bytes) is in cc)

-- the words for no bytes, and for others
pub no_words : (why bare : Bool) (fork text new : List ℕ) → (length fork == 0) ≡ true → new ≡ text ++ codes "no fork"
    → new ≡ text ++ fork_words why bare fork
no_words why bare [] text new is has = has
no_words why bare (b ∷ bytes) text new is has = absurd (let no : b ∷ bytes ≡ [] = none (b ∷ bytes) is in cc)

pub some_words : (why bare : Bool) (fork text new : List ℕ) → (length fork == 0) ≡ false
    → new ≡ text ++ judged_words why bare fork (rule_of fork) → new ≡ text ++ fork_words why bare fork
some_words why bare [] text new is has = let both : true ≡ false = is in cc
some_words why bare (b ∷ bytes) text new is has = has

-- the words for a fork that was found in a file
pub found_words_of : (why : Bool) (bytes fork text new : List ℕ) (container : Container) → fork_in bytes ≡ Ok fork
    → container ≡ container_of bytes → new ≡ text ++ fork_words why (is_bare container) fork
    → new ≡ text ++ state_words why bytes
found_words_of why bytes fork text new container found within has =
    has ∙ ap (λ k. text ++ fork_words why (is_bare k) fork) within
    ∙ ap (λ f. text ++ found_words why (is_bare (container_of bytes)) f) (sym found)

-- and for a file in which none is found
pub lost_words_of : (why : Bool) (bytes text new : List ℕ) (fault : FileFault) → fork_in bytes ≡ Err fault
    → new ≡ text ++ fault_words why fault → new ≡ text ++ state_words why bytes
lost_words_of why bytes text new fault lost has =
    has ∙ ap (λ f. text ++ found_words why (is_bare (container_of bytes)) f) (sym lost)

-- a file has the content of the fork that is found in it
pub found_content : (bytes fork : List ℕ) (has : Bool) → fork_in bytes ≡ Ok fork → has ≡ is_ok (content_of_fork fork)
    → has ≡ has_content bytes
found_content bytes fork has found is = is ∙ ap (λ f. is_ok (made_then f content_of_fork)) (sym found)

pub lost_content : (bytes : List ℕ) (fault : FileFault) → fork_in bytes ≡ Err fault → false ≡ has_content bytes
lost_content bytes fault lost = ap (λ f. is_ok (made_then f content_of_fork)) (sym lost)
