use Rattle.script_text.proofs.Cited.{◌≡◌, ◌∙◌, ℕ, Bool, true, false, refl, ap, List, [], ◌∷◌, cond, Some, slice_cmp, Ordering, Less, Equal}
use Rattle.script_text.proofs.Cited.{Greater, nat_cmp, match_ordering, and_parts, bytes_eq, unwrap_or, lookup, Call, Value, CallWord, meant}
use Rattle.script_text.proofs.Cited.{may_stand, spoken, word_of, put_named, AllAllowed, are_allowed, block_of, Line}
use Rattle.script_text.specs.declared.word.CallWord.TheVariants as word

-- The lines of a grow-zone script are allowed in one.

-- those of a script by its name, where each script has only such lines
pub block_allowed : (name : List ℕ) (blocks : List (List ℕ × List Line)) → AllAllowed blocks
    → are_allowed (block_of name blocks) ≡ true
block_allowed name [] all = refl
block_allowed name (b ∷ blocks) all =
    let both : (are_allowed b.1 ≡ true) × AllAllowed blocks = and_parts (are_allowed b.1) _ all in
    cases both.0 (block_allowed name blocks both.1) (bytes_eq name b.0)
  where
    cases : are_allowed b.1 ≡ true → are_allowed (block_of name blocks) ≡ true → (t : Bool)
        → are_allowed (unwrap_or (cond t (Some b.1) (lookup (bytes_eq name) blocks)) []) ≡ true
    cases here below true = here
    cases here below false = below

-- those of all scripts once one was put among them
pub allowed_put : (name : List ℕ) (lines : List Line) (blocks : List (List ℕ × List Line)) → AllAllowed blocks
    → are_allowed lines ≡ true → AllAllowed (put_named name lines blocks)
allowed_put name lines [] all one = rw (one) refl
allowed_put name lines (b ∷ blocks) all one =
    let both : (are_allowed b.1 ≡ true) × AllAllowed blocks = and_parts (are_allowed b.1) _ all in
    cases both.0 both.1 (allowed_put name lines blocks both.1 one) (slice_cmp nat_cmp name b.0)
  where
    cases : are_allowed b.1 ≡ true → AllAllowed blocks → AllAllowed (put_named name lines blocks) → (o : Ordering)
        → AllAllowed (match_ordering o ((name, lines) ∷ b ∷ blocks) ((b.0, lines) ∷ blocks)
        (b ∷ put_named name lines blocks))
    cases first behind added Less = rw (one, first) behind
    cases first behind added Equal = rw (one) behind
    cases first behind added Greater = rw (first) added

-- another name of a call may stand in one just where the call may
pub meant_stands : (w : CallWord) → may_stand (meant w) ≡ may_stand w
meant_stands word.NewHandleClear = refl
meant_stands _ = refl

-- and so a call may stand in one just where a word that names it may
pub spoken_stands : (w : CallWord) (call : Call) (values : List Value) → spoken call ≡ (meant w, values)
    → may_stand (word_of call) ≡ may_stand w
spoken_stands w call values says = ap (λ (s : CallWord × List Value). may_stand s.0) says ∙ meant_stands w
