use Rattle.bin_hex.proofs.Cited.{◌≡◌, ℕ, ◌-◌, false, cond, List, [], ◌∷◌, ◌++◌, map, length, refl, ◌∙◌, ap, arith, append_assoc, None, Ok}
use Rattle.bin_hex.proofs.Cited.{Err, is_some, codes, filter, checksum, big_bytes, character, is_dark, decoded, encoded, groups, unpacked}
use Rattle.bin_hex.proofs.Cited.{encoded_in, marked_in, file_in, bytes_of, header, fields, with_checksum, ◌>>=◌, File, IsOfBytes, refusal}
use Rattle.bin_hex.proofs.Cited.{bytes_after, expanded, compressed, mark, is_bin_hex, after_colon}
use Rattle.bin_hex.specs.declared.fault.Damage.TheVariants as damage
use Rattle.bin_hex.specs.declared.packing.Held.TheVariants as held
use Rattle.bin_hex.specs.declared.packing.Left.TheVariants as left
use Rattle.bin_hex.proofs.ContentsAgain.{file_again, file_bytes, name_first}
use Rattle.bin_hex.proofs.PackingAgain.{bytes_again, small_groups}
use Rattle.bin_hex.proofs.RunsAgain.{expanded_again, compressed_bytes, first_no_run}
use Rattle.bin_hex.proofs.TextAgain.{read_again, mark_found, colon_found, body_of, laid, dark_body, all_dark}

-- A file is read again from what is written for it.

-- the bytes with runs stand for the file
packed_again : (file : File) → refusal file ≡ None → IsOfBytes file → unpacked (compressed (bytes_of file)) ≡ Ok file
packed_again file none all =
    let first = name_first file none in
    ap (λ t. cond t (Err damage.NoByteToRepeat) (file_in (expanded false 0 (compressed (bytes_of file)))))
    (first_no_run (length file.name)
    ((file.name ++ 0 ∷ []) ++ fields file ++ big_bytes 2 (checksum (header file)) ++ with_checksum file.data_fork
    ++ with_checksum file.resource_fork) first.0 (let low = first.1 in omega (arith, low)))
    ∙ ap file_in (expanded_again (bytes_of file)) ∙ file_again file none all

-- so do the groups, laid out in any way
pub laid_out : (file : File) (before between text after : List ℕ) → refusal file ≡ None → IsOfBytes file
    → is_bin_hex before ≡ false → is_some (after_colon between) ≡ false
    → filter is_dark text ≡ map character (groups file)
    → decoded (before ++ (mark ++ (between ++ 58 ∷ (text ++ 58 ∷ after)))) ≡ Ok file
laid_out file before between text after none all no_mark no_colon same =
    let bytes : List ℕ = before ++ (mark ++ (between ++ 58 ∷ (text ++ 58 ∷ after))) in
    let packed : List ℕ = compressed (bytes_of file) in
    let at : ℕ = length bytes - length (text ++ 58 ∷ after) in
    let are_bytes = compressed_bytes (bytes_of file) (file_bytes file none all) in
    ap (marked_in (length bytes)) (mark_found before (between ++ 58 ∷ (text ++ 58 ∷ after)) no_mark)
    ∙ ap (encoded_in (length bytes)) (colon_found between (text ++ 58 ∷ after) no_colon)
    ∙ ap (λ read. (read >>= λ (found : List ℕ). Ok (bytes_after held.Nothing found)) >>= unpacked)
    (read_again at text (groups file) after (small_groups left.Nothing packed tt are_bytes) same)
    ∙ ap unpacked (bytes_again packed are_bytes) ∙ packed_again file none all

-- the text that is written, by its parts
parts : (file : File) (after : List ℕ)
    → encoded file ++ after
    ≡ mark ++ (codes " with BinHex 4.0)\n\n" ++ 58 ∷ (body_of 1 (map character (groups file)) ++ 58 ∷ (10 ∷ after)))
parts file after =
    let characters : List ℕ = map character (groups file) in
    let opening : List ℕ = codes "(This file must be converted with BinHex 4.0)\n\n" in
    ap (λ lines. ((opening ++ 58 ∷ lines) ++ 10 ∷ []) ++ after) (laid 1 characters)
    ∙ append_assoc (opening ++ 58 ∷ (body_of 1 characters ++ 58 ∷ [])) (10 ∷ []) after
    ∙ append_assoc opening (58 ∷ (body_of 1 characters ++ 58 ∷ [])) (10 ∷ after)
    ∙ ap (λ rest. opening ++ 58 ∷ rest) (append_assoc (body_of 1 characters) (58 ∷ []) (10 ∷ after))

-- the lines that are written hold the characters
pub body_dark : (file : File) → refusal file ≡ None → IsOfBytes file
    → filter is_dark (body_of 1 (map character (groups file))) ≡ map character (groups file)
body_dark file none all =
    dark_body 1 (map character (groups file))
    ∙ all_dark (groups file) (small_groups left.Nothing (compressed (bytes_of file)) tt
    (compressed_bytes (bytes_of file) (file_bytes file none all)))

pub again : (file : File) (before after : List ℕ) → refusal file ≡ None → IsOfBytes file → is_bin_hex before ≡ false
    → decoded (before ++ (encoded file ++ after)) ≡ Ok file
again file before after none all no_mark =
    ap (λ rest. decoded (before ++ rest)) (parts file after)
    ∙ laid_out file before (codes " with BinHex 4.0)\n\n") (body_of 1 (map character (groups file))) (10 ∷ after) none all
    no_mark refl (body_dark file none all)
