use Rattle.heap_calls.proofs.Cited.{◌≡◌, ℕ, ◌+◌, ◌<◌, Bool, true, false, List, [], refl, sym, ◌∙◌, ap, subst, Option, Some, is_some}
use Rattle.heap_calls.proofs.Cited.{is_some-map, option_map, unwrap_or, IsSomeAnd, IsTrue, Block, size, is_room, run_spot, has_free}
use Rattle.heap_calls.proofs.Cited.{filled, place, purge, put_in_place, placed-is, place-room, least_or_last, serves, Rest, counted}
use Rattle.heap_calls.proofs.Cited.{spared, opened, purged, most_purges, Sparing, Put, moved, place_lowers, purges_for, seek, Went, Anchor}
use Rattle.heap_calls.proofs.Cited.{told_along, told_named, gone_from, filled_at, HasRoomAt, IsAt, FindsPlacement, Placement}
use Rattle.heap_calls.proofs.Cited.{tidy}
use Rattle.heap_calls.proofs.Cited.{Sought, cond}
use Rattle.heap_calls.proofs.Going.{went-none, went-some, gone-none, gone-some, goes-opened}
use Rattle.heap_calls.proofs.Room.LeastSearches.{first-is, purged-first, placement-there}

-- Room for a relocatable block.

-- the search for a place of p bytes, after the least number of purges that serves, for a block that takes them
module _ (p : ℕ) (pos : 0 < p) (nd : Sparing) (zone : List Block) (k : ℕ)
    (least : k ≡ least_or_last (serves p nd zone) (most_purges nd zone)) (new : Block) (sized : size new ≡ p)
  where
    abbrev sp : Block → Bool
    sp = spared nd

    abbrev seen : List Block
    seen = opened nd zone

    sees : (z : List Block) → is_some (run_spot (has_free p) z) ≡ is_some (put_in_place new z)
    sees z = sym (placed-is p z pos) ∙ ap (λ n. is_some (place n z)) (sym sized)
        ∙ sym (is_some-map (filled new) (place (size new) z))

    fewest : k ≡ purges_for (λ z. is_some (moved sp (Put new) z)) sp seen
    fewest = least ∙ ap (λ (t : List Block → Bool). purges_for t sp seen) (λ i z. sees z i)

    ready : (t : Bool) → serves p nd zone k ≡ t → is_some (put_in_place new (purge k sp seen)) ≡ t
    ready t is = sym (sees (purge k sp seen)) ∙ is

    pub place-unmade : serves p nd zone k ≡ false → (rest : Rest)
        → Went sp seen (seek (Put new) sp seen) false (k + 1) seen rest rest
    place-unmade is rest = went-none sp seen (Put new) refl (λ z. refl) k fewest (ready false is) rest

    pub place-untold : serves p nd zone k ≡ false → (es : List Anchor)
        → told_along es sp (seek (Put new) sp seen) seen ≡ []
    place-untold is es = ap (told_named es) (gone-none sp seen (Put new) refl (λ z. refl) k fewest (ready false is))

    pub place-told : serves p nd zone k ≡ true → (es : List Anchor)
        → gone_from es nd k zone ≡ told_along es sp (seek (Put new) sp seen) seen
    place-told is es = goes-opened es nd k zone
        ∙ ap (told_named es) (sym (gone-some sp seen (Put new) refl (λ z. refl) k fewest (ready true is)))

    pub place-made : (at : ℕ) (zone1 zone2 : List Block) → zone1 ≡ purged k nd zone → IsAt (place p zone1) zone2 (Some at)
        → (rest rest' : Rest) → rest'.moves ≡ counted rest.moves (place_lowers p zone1)
        → Went sp seen (seek (Put new) sp seen) true (k + 1) (filled_at new (Some at) zone2) rest rest'
    place-made at zone1 zone2 purged found rest rest' packs =
        went-some sp seen (Put new) refl (λ z. refl) k fewest (filled_at new (Some at) zone2)
        (ap (λ n. option_map (filled new) (place n (purge k sp seen))) sized
        ∙ ap (λ z. option_map (filled new) (place p z)) (sym purged) ∙ ap (option_map (filled new)) found.1
        ∙ ap Some (sym (ap (λ o. unwrap_or (option_map (filled new) o) zone2) found.2)))
        rest rest' (packs ∙ ap (λ z. counted rest.moves (place_lowers p z)) purged
        ∙ ap (λ n. counted rest.moves (place_lowers n (purge k sp seen))) (sym sized))

-- the place has room
pub place-wide : (p at : ℕ) (zone1 zone2 : List Block) → IsAt (place p zone1) zone2 (Some at) → HasRoomAt p (Some at) zone2
place-wide p at zone1 zone2 found =
    subst (λ o. IsSomeAnd o (λ s. IsTrue (is_room p s.here))) (sym found.2) (place-room p zone1 found.0 found.1)

-- a place that is there without a purge
module _ (p : ℕ) (pos : 0 < p) (nd : Sparing) (zone : List Block) (tidied : tidy zone ≡ zone) (whole : opened nd zone ≡ zone)
    (placed : Placement) (found : FindsPlacement p zone (Some placed))
  where
    pub once-purged : zone ≡ purged 0 nd zone
    once-purged = sym (purged-first nd zone tidied whole)

    pub once-serves : serves p nd zone 0 ≡ true
    once-serves = ap (λ z. is_some (run_spot (has_free p) z)) (sym once-purged) ∙ sym (placed-is p zone pos)
        ∙ sym (placement-there p zone pos (Some placed) found)

    pub once-least : 0 ≡ least_or_last (serves p nd zone) (most_purges nd zone)
    once-least = first-is (serves p nd zone) (most_purges nd zone) once-serves

-- the zone as the search sees it first matters only where there is no place
pub went-there : (new : Block) (o : Option ℕ) (at : ℕ) → o ≡ Some at → {sp : Block → Bool} {zone : List Block} {p : Sought}
    {n : ℕ} {rest rest' : Rest} (zone1 seen : List Block)
    → Went sp zone p (is_some o) n (filled_at new o (cond (is_some o) zone1 seen)) rest rest'
    → Went sp zone p (is_some o) n (filled_at new o zone1) rest rest'
went-there new o at is {sp = sp} {zone = zone} {p = p} {n = n} {rest = rest} {rest' = rest'} zone1 seen w =
    let P : Bool → Type 0 = λ t. Went sp zone p (is_some o) n (filled_at new o (cond t zone1 seen)) rest rest' in
    subst P (ap is_some is) w
