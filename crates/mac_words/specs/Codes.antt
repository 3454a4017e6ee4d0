use Rattle.std.specs.Prelude.{ℕ, ◌-◌, ℤ, pos, negsuc}

-- Result codes by Apple's names, each as a number.
-- Inside Macintosh: Memory, "Result Codes"; More Macintosh Toolbox, chapter 1, "Result Codes".

-- The negative of a number above 0.
abbrev pub minus : ℕ → ℤ
minus number = negsuc (number - 1)

-- The call was done.
abbrev pub noErr : ℤ
noErr = pos 0

-- A segment can't be loaded: the System Error Handler's number.
abbrev pub dsLoadErr : ℤ
dsLoadErr = pos 15

abbrev pub dskFulErr : ℤ
dskFulErr = minus 34

abbrev pub eofErr : ℤ
eofErr = minus 39

abbrev pub fnfErr : ℤ
fnfErr = minus 43

abbrev pub dupFNErr : ℤ
dupFNErr = minus 48

abbrev pub wrPermErr : ℤ
wrPermErr = minus 61

abbrev pub memFullErr : ℤ
memFullErr = minus 108

abbrev pub nilHandleErr : ℤ
nilHandleErr = minus 109

abbrev pub memWZErr : ℤ
memWZErr = minus 111

abbrev pub memPurErr : ℤ
memPurErr = minus 112

abbrev pub memLockedErr : ℤ
memLockedErr = minus 117

abbrev pub resourceInMemory : ℤ
resourceInMemory = minus 188

abbrev pub writingPastEnd : ℤ
writingPastEnd = minus 189

abbrev pub inputOutOfBounds : ℤ
inputOutOfBounds = minus 190

abbrev pub resNotFound : ℤ
resNotFound = minus 192

abbrev pub resFNotFound : ℤ
resFNotFound = minus 193

abbrev pub addResFailed : ℤ
addResFailed = minus 194

abbrev pub rmvResFailed : ℤ
rmvResFailed = minus 196

abbrev pub resAttrErr : ℤ
resAttrErr = minus 198

abbrev pub mapReadErr : ℤ
mapReadErr = minus 199

-- The manuals leave the result undefined: this project's own code.
abbrev pub profileErr : ℤ
profileErr = minus 30001

-- Bits of a resource's attributes by Apple's names, each as its value.
-- More Macintosh Toolbox, chapter 1, "Resource Attributes".

abbrev pub resSysHeap : ℕ
resSysHeap = 64

abbrev pub resPurgeable : ℕ
resPurgeable = 32

abbrev pub resLocked : ℕ
resLocked = 16

abbrev pub resProtected : ℕ
resProtected = 8

abbrev pub resPreload : ℕ
resPreload = 4

abbrev pub resChanged : ℕ
resChanged = 2
