use Rattle.zone_scripts.proofs.Cited.{◌≡◌, List, [], ◌∷◌, true, false, codes, replicate, refl, Free, Nonrelocatable, Masters, Relocatable}
use Rattle.zone_scripts.proofs.Cited.{hex_text, digit_at, Part, Relocated, Fixed, Gap, partition_of, zone_of, NewHandle, NewPtr, HLock}
use Rattle.zone_scripts.proofs.Cited.{HPurge, HUnlock, DisposePtr, named, lines_of}

-- A worked zone: a nonrelocatable block of 16 bytes, a locked block of 6, a free block of 16 bytes with its header, and a purgeable block
-- of 4.

parts : List Part
parts =
    Fixed 0x1034 16 ∷ Relocated 0x103C (record { locked = true; purgeable = false }) 6 ∷ Gap 0x105C 0
    ∷ Relocated 0x1040 (record { locked = false; purgeable = true }) 4 ∷ []

-- the names
name-of : named 104 0x89ABCDEF ≡ codes "h89ABCDEF"
unfolding hex_text digit_at
name-of = refl

-- the calls
calls-of : lines_of parts ≡ NewPtr (named 112 0x1034) 16 ∷ NewHandle (named 104 0x103C) 6 ∷ HLock (named 104 0x103C)
    ∷ NewPtr (named 102 0x105C) 0 ∷ NewHandle (named 104 0x1040) 4 ∷ HLock (named 104 0x1040) ∷ HPurge (named 104 0x1040)
    ∷ DisposePtr (named 102 0x105C) ∷ HUnlock (named 104 0x1040) ∷ []
unfolding parts
calls-of = refl

-- the partition has the least size, since 272 bytes and 112 for the blocks are fewer
size-of : partition_of parts ≡ 512
unfolding parts
size-of = refl

-- and the zone
zone-of : zone_of parts ≡ Masters ∷ Nonrelocatable 0 (replicate 16 0)
    ∷ Relocatable 1 (record { locked = true; purgeable = false }) (replicate 6 0) ∷ Free 16
    ∷ Relocatable 3 (record { locked = false; purgeable = true }) (replicate 4 0) ∷ Free 128 ∷ []
unfolding parts
zone-of = refl

-- free neighbours are one block, with the bytes that are left
free-one : zone_of (Gap 0x1034 0 ∷ Gap 0x1044 20 ∷ []) ≡ Masters ∷ Free 240 ∷ []
free-one = refl

-- 65 handles need a second master pointer block, and 64 none
masters-of : partition_of (replicate 65 (Relocated 0 (record { locked = true; purgeable = false }) 0)) ≡ 1584
masters-of = refl

masters-enough : partition_of (replicate 64 (Relocated 0 (record { locked = true; purgeable = false }) 0)) ≡ 1296
masters-enough = refl
