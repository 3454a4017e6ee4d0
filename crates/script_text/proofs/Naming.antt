-- Grow-zone scripts, found by name.
use Rattle.script_text.proofs.Cited.{◌≡◌, ℕ, Bool, true, false, List, [], ◌∷◌, Option, Some, refl, sym, ap, ◌∙◌, map, cond, is_some}
use Rattle.script_text.proofs.Cited.{true≢false, bytes_eq, unwrap_or, lookup, insert_entry, is_at, slice_cmp, texts_ties, Ordering, Less}
use Rattle.script_text.proofs.Cited.{Equal, Greater, nat_cmp, is_eq, match_ordering, option_map, lookup-map_values, bytes_eq-Decides, Label}
use Rattle.script_text.proofs.Cited.{is_some-map, not_some, Line, put_named, has_block, block_of, blocks_seen, statement}

-- an order of names that is the order of their bytes
abbrev pub OrdersBytes : (Label → Label → Ordering) → Type 0
OrdersBytes order = (a b : Label) → order a b ≡ slice_cmp nat_cmp a.0.items b.0.items

-- names are equal in it where their bytes are
pub tells_bytes : (order : Label → Label → Ordering) → OrdersBytes order → (a b : Label)
    → is_eq (order a b) ≡ bytes_eq a.0.items b.0.items
tells_bytes order orders a b = ap is_eq (orders a b) ∙ sym (texts_ties a.0.items b.0.items)

-- a map's entries by the bytes of their names
abbrev pub named : {V X : Type 0} → (V → X) → List (Label × V) → List (List ℕ × X)
named g es = map (λ e. (e.0.0.items, g e.1)) es

-- what a map holds at a name is found by the name's bytes
pub lookup_named : {V X : Type 0} (g : V → X) (order : Label → Label → Ordering) → OrdersBytes order → (name : Label)
    (es : List (Label × V)) → lookup (bytes_eq name.0.items) (named g es) ≡ option_map g (lookup (is_at (order name)) es)
lookup_named g order orders name [] = refl
lookup_named g order orders name (e ∷ es) = rw (tells_bytes order orders name e.0, lookup_named g order orders name es)
    (cases (bytes_eq name.0.items e.0.0.items))
  where
    cases : (t : Bool) → cond t (Some (g e.1)) (option_map g (lookup (is_at (order name)) es))
        ≡ option_map g (cond t (Some e.1) (lookup (is_at (order name)) es))
    cases true = refl
    cases false = refl

-- a map has a name where its entries have the name's bytes
pub has_named : {V X : Type 0} (g : V → X) (order : Label → Label → Ordering) → OrdersBytes order → (name : Label)
    (es : List (Label × V)) → is_some (lookup (is_at (order name)) es) ≡ has_block name.0.items (named g es)
has_named g order orders name es =
    sym (ap is_some (lookup_named g order orders name es) ∙ is_some-map g (lookup (is_at (order name)) es))

-- grow-zone scripts have the names that are seen of them
pub has_seen : (name : List ℕ) (blocks : List (List ℕ × List Line))
    → has_block name (blocks_seen blocks) ≡ has_block name blocks
has_seen name blocks =
    ap is_some (lookup-map_values (map statement) (bytes_eq name) blocks)
    ∙ is_some-map (map statement) (lookup (bytes_eq name) blocks)

-- the lines of a grow-zone script are those that a map holds at its name
pub block_named : {V : Type 0} (g : V → List Line) (order : Label → Label → Ordering) → OrdersBytes order → (name : Label)
    (es : List (Label × V)) (found : Option V) → found ≡ lookup (is_at (order name)) es
    → unwrap_or (option_map g found) [] ≡ block_of name.0.items (named g es)
block_named g order orders name es found h =
    ap (λ o. unwrap_or (option_map g o) []) h ∙ sym (ap (λ o. unwrap_or o []) (lookup_named g order orders name es))

-- what a map holds once a name was put into it, by the bytes of the names
pub insert_named : {V X : Type 0} (g : V → X) (order : Label → Label → Ordering) → OrdersBytes order → (name : Label)
    (v : V) (es : List (Label × V))
    → named g (insert_entry order es name v) ≡ put_named name.0.items (g v) (named g es)
insert_named g order orders name v [] = refl
insert_named g order orders name v (e ∷ es) = rw (orders name e.0, sym (insert_named g order orders name v es))
    (cases (slice_cmp nat_cmp name.0.items e.0.0.items))
  where
    cases : (o : Ordering)
        → named g (match_ordering o ((name, v) ∷ e ∷ es) ((e.0, v) ∷ es) (e ∷ insert_entry order es name v))
        ≡ match_ordering o ((name.0.items, g v) ∷ named g (e ∷ es)) ((e.0.0.items, g v) ∷ named g es)
        ((e.0.0.items, g e.1) ∷ named g (insert_entry order es name v))
    cases Less = refl
    cases Equal = refl
    cases Greater = refl

-- what is seen of the grow-zone scripts once one was put among them
pub put_seen : (name : List ℕ) (lines : List Line) (blocks : List (List ℕ × List Line))
    → blocks_seen (put_named name lines blocks) ≡ put_named name (map statement lines) (blocks_seen blocks)
put_seen name lines [] = refl
put_seen name lines (b ∷ blocks) = rw (sym (put_seen name lines blocks)) (cases (slice_cmp nat_cmp name b.0))
  where
    cases : (o : Ordering)
        → blocks_seen (match_ordering o ((name, lines) ∷ b ∷ blocks) ((b.0, lines) ∷ blocks)
        (b ∷ put_named name lines blocks))
        ≡ match_ordering o ((name, map statement lines) ∷ blocks_seen (b ∷ blocks))
        ((b.0, map statement lines) ∷ blocks_seen blocks)
        ((b.0, map statement b.1) ∷ blocks_seen (put_named name lines blocks))
    cases Less = refl
    cases Equal = refl
    cases Greater = refl

-- names that differ do so the other way round
apart_back : (a b : List ℕ) → bytes_eq a b ≡ false → bytes_eq b a ≡ false
apart_back a b h = cases (bytes_eq b a) refl
  where
    cases : (t : Bool) → bytes_eq b a ≡ t → t ≡ false
    cases false e = refl
    cases true e = absurd (true≢false (sym ((bytes_eq-Decides a b).1 (sym ((bytes_eq-Decides b a).0 e))) ∙ h))

-- a name that isn't there is neither the first nor behind it
absent_parts : {X : Type 0} (name : List ℕ) (b : List ℕ × X) (blocks : List (List ℕ × X))
    → has_block name (b ∷ blocks) ≡ false → (bytes_eq name b.0 ≡ false) × (has_block name blocks ≡ false)
absent_parts name b blocks = cases (bytes_eq name b.0)
  where
    cases : (t : Bool) → is_some (cond t (Some b.1) (lookup (bytes_eq name) blocks)) ≡ false
        → (t ≡ false) × (has_block name blocks ≡ false)
    cases true k = absurd (cc)
    cases false k = (refl, k)

-- a name that isn't there isn't there once another one is put there
pub absent_put : {X : Type 0} (name other : List ℕ) (x : X) (blocks : List (List ℕ × X))
    → has_block name blocks ≡ false → bytes_eq other name ≡ false
    → has_block name (put_named other x blocks) ≡ false
absent_put name other x [] h apart = rw (apart_back other name apart) refl
absent_put name other x (b ∷ blocks) h apart =
    let (first, behind) = absent_parts name b blocks h in
    cases first behind (absent_put name other x blocks behind apart) (slice_cmp nat_cmp other b.0)
  where
    cases : bytes_eq name b.0 ≡ false → has_block name blocks ≡ false
        → has_block name (put_named other x blocks) ≡ false → (o : Ordering)
        → has_block name (match_ordering o ((other, x) ∷ b ∷ blocks) ((b.0, x) ∷ blocks) (b ∷ put_named other x blocks))
        ≡ false
    cases first behind added Less = rw (apart_back other name apart, first) behind
    cases first behind added Equal = rw (first) behind
    cases first behind added Greater = rw (first) added

-- a grow-zone script that isn't there has no lines
pub no_lines_of : (name : List ℕ) (blocks : List (List ℕ × List Line)) → has_block name blocks ≡ false
    → block_of name blocks ≡ []
no_lines_of name blocks h = ap (λ o. unwrap_or o []) (not_some (lookup (bytes_eq name) blocks) h)
