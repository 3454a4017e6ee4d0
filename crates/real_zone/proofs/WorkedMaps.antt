use Rattle.real_zone.proofs.Cited.{◌≡◌, ℕ, List, [], ◌∷◌, ◌++◌, take, drop, length, ◌+◌, replicate, refl, true, false, Some, None, pos}
use Rattle.real_zone.proofs.Cited.{◌-ℤ◌, number, is_passable, places, logical_size, content_at, spaced, has_types, has_references}
use Rattle.real_zone.proofs.Cited.{is_resource_map, named_in_type, named_in_map, named_in_block, resource_of}
use Rattle.real_zone.specs.declared.form.Form.TheVariants as form

-- Worked resource maps, laid by hand from the figures of Inside Macintosh: More Macintosh Toolbox, chapter 1, "Resource File Format".

-- The map of a file with 'ICN#' 128, which has the handle 1040, 'ICN#' -16455, which is not loaded, and 'CURS' 1 with the handle 1044.
abbrev fixed : List ℕ
fixed = replicate 16 0xAA ++ (0 ∷ 0 ∷ 0x12 ∷ 0x34 ∷ 0 ∷ 2 ∷ 0 ∷ 0 ∷ 0 ∷ 28 ∷ 0 ∷ 82 ∷ [])

abbrev types : List ℕ
types =
    (0 ∷ 1 ∷ []) ++ (0x49 ∷ 0x43 ∷ 0x4E ∷ 0x23 ∷ 0 ∷ 1 ∷ 0 ∷ 18 ∷ [])
    ++ (0x43 ∷ 0x55 ∷ 0x52 ∷ 0x53 ∷ 0 ∷ 0 ∷ 0 ∷ 42 ∷ [])

abbrev references : List ℕ
references =
    (0 ∷ 128 ∷ 0xFF ∷ 0xFF ∷ 0 ∷ 0 ∷ 0 ∷ 0 ∷ 0x20 ∷ 0 ∷ 0x10 ∷ 0x40 ∷ [])
    ++ (0xBF ∷ 0xB9 ∷ 0xFF ∷ 0xFF ∷ 0x20 ∷ 0 ∷ 1 ∷ 4 ∷ 0 ∷ 0 ∷ 0 ∷ 0 ∷ [])
    ++ (0 ∷ 1 ∷ 0xFF ∷ 0xFF ∷ 0 ∷ 0 ∷ 2 ∷ 8 ∷ 0 ∷ 0 ∷ 0x10 ∷ 0x44 ∷ [])

abbrev laid : List ℕ
laid = fixed ++ types ++ references

-- bytes with other ones at an offset
abbrev with : ℕ → List ℕ → List ℕ → List ℕ
with at new bytes = take at bytes ++ new ++ drop (at + length new) bytes

-- its resources, by the low three bytes of their handles; of 32 bits, by all four
named : (named_in_map form.Bits24 0x1040 laid ≡ Some (record { kind = 0x49434E23; id = pos 128 }))
    × (named_in_map form.Bits24 0x1044 laid ≡ Some (record { kind = 0x43555253; id = pos 1 }))
    × (named_in_map form.Bits24 0x1048 laid ≡ None)
    × (named_in_map form.Bits32 0x1040 laid ≡ None)
    × (named_in_map form.Bits32 0x20001040 laid ≡ Some (record { kind = 0x49434E23; id = pos 128 }))
    × (named_in_map form.Bits24 0 laid ≡ Some (record { kind = 0x49434E23; id = pos 0xBFB9 -ℤ pos 0x10000 }))
unfolding number spaced has_types has_references is_resource_map named_in_type named_in_map
named = (refl, refl, refl, refl, refl, refl)

-- A content is no map where its last reference goes past its end, its type list stands in the fixed part or past the end, its name list
-- begins past the end, or it has not the room for all its references. A map may have no types.
judged : (is_resource_map laid ≡ true)
    × (is_resource_map (take 81 laid) ≡ false)
    × (is_resource_map (with 25 (26 ∷ []) laid) ≡ false)
    × (is_resource_map (with 24 (1 ∷ 0 ∷ []) laid) ≡ false)
    × (is_resource_map (with 27 (83 ∷ []) laid) ≡ false)
    × (is_resource_map (with 43 (2 ∷ 0 ∷ 18 ∷ []) laid) ≡ false)
    × (is_resource_map (fixed ++ (0xFF ∷ 0xFF ∷ []) ++ replicate 52 0) ≡ true)
    × (is_resource_map [] ≡ false)
    × (is_resource_map (replicate 82 0) ≡ false)
unfolding number spaced has_types has_references is_resource_map
judged = (refl, refl, refl, refl, refl, refl, refl, refl, refl)

-- in a block of a zone, if it is relocatable
abbrev zone : ℕ → List ℕ
zone tag = replicate 52 0 ++ (0x40 ∷ 0 ∷ 0 ∷ 12 ∷ []) ++ replicate 8 0 ++ (tag ∷ 0 ∷ 0 ∷ 92 ∷ 0 ∷ 0 ∷ 0 ∷ 60 ∷ []) ++ laid ++ (0 ∷ 0 ∷ [])

in_zone : (resource_of form.Bits24 (zone 0x82) 0x1040 ≡ Some (record { kind = 0x49434E23; id = pos 128 }))
    × (resource_of form.Bits24 (zone 0x82) 0x1048 ≡ None)
    × (resource_of form.Bits24 (zone 0x42) 0x1040 ≡ None)
    × (resource_of form.Bits24 (zone 0x83) 0x1040 ≡ None)
unfolding number is_passable places logical_size content_at spaced has_types has_references is_resource_map named_in_type named_in_map
    named_in_block resource_of
in_zone = (refl, refl, refl, refl)
