use Rattle.std.specs.Prelude.{ℕ, List, [], ◌∷◌, ◌++◌, codes, bytes_eq, if◌then◌else◌}

-- Result codes by Apple's names, each as a transcript writes it. Inside Macintosh: Memory, "Result Codes"; More Macintosh
-- Toolbox, chapter 1, "Result Codes".

-- The codes of the Memory Manager, and that of the System Error Handler.
abbrev pub memory_code : List ℕ → List ℕ
memory_code code =
    if bytes_eq code (codes "0") then codes "noErr"
    else if bytes_eq code (codes "15") then codes "dsLoadErr"
    else if bytes_eq code (codes "-108") then codes "memFullErr"
    else if bytes_eq code (codes "-109") then codes "nilHandleErr"
    else if bytes_eq code (codes "-111") then codes "memWZErr"
    else if bytes_eq code (codes "-112") then codes "memPurErr"
    else if bytes_eq code (codes "-117") then codes "memLockedErr"
    else []

-- The codes of the File Manager.
abbrev pub file_code : List ℕ → List ℕ
file_code code =
    if bytes_eq code (codes "-34") then codes "dskFulErr"
    else if bytes_eq code (codes "-39") then codes "eofErr"
    else if bytes_eq code (codes "-43") then codes "fnfErr"
    else if bytes_eq code (codes "-48") then codes "dupFNErr"
    else if bytes_eq code (codes "-61") then codes "wrPermErr"
    else []

-- The codes of the calls on a part of a resource.
abbrev pub part_code : List ℕ → List ℕ
part_code code =
    if bytes_eq code (codes "-188") then codes "resourceInMemory"
    else if bytes_eq code (codes "-189") then codes "writingPastEnd"
    else if bytes_eq code (codes "-190") then codes "inputOutOfBounds"
    else []

-- The codes by which the Resource Manager refuses a search.
abbrev pub search_code : List ℕ → List ℕ
search_code code =
    if bytes_eq code (codes "-192") then codes "resNotFound"
    else if bytes_eq code (codes "-193") then codes "resFNotFound"
    else []

-- Those by which it refuses a change, or a file.
abbrev pub change_code : List ℕ → List ℕ
change_code code =
    if bytes_eq code (codes "-194") then codes "addResFailed"
    else if bytes_eq code (codes "-196") then codes "rmvResFailed"
    else if bytes_eq code (codes "-198") then codes "resAttrErr"
    else if bytes_eq code (codes "-199") then codes "mapReadErr"
    else []

-- The first of two names that has any bytes.
abbrev pub name_or : List ℕ → List ℕ → List ℕ
name_or [] other = other
name_or (c ∷ name) other = c ∷ name

-- The name of a code; none has no bytes.
abbrev pub code_name : List ℕ → List ℕ
code_name code = name_or (memory_code code) (name_or (file_code code)
    (name_or (part_code code) (name_or (search_code code) (change_code code))))

-- A code by its name, with the code itself where it is not 0; a code without a name as it is.
abbrev pub code_by : List ℕ → List ℕ → List ℕ
code_by [] code = code
code_by (c ∷ name) code =
    c ∷ name ++ (if bytes_eq code (codes "0") then [] else codes " (" ++ code ++ codes ")")

unfoldable pub code_words : List ℕ → List ℕ
code_words code = code_by (code_name code) code
