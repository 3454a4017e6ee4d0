use Rattle.fork_commands.proofs.Cited.{◌≡◌, ℕ, Bool, true, false, cond, List, Some, None, Result, Ok, Err, refl, ap, sym, subst, ◌∙◌}
use Rattle.fork_commands.proofs.Cited.{decoded, File, with_resource_fork, with_fork, Damage, PutFault, file_is_read, put_read, is_fork}
use Rattle.fork_commands.proofs.Cited.{rewrapped, wrapping_of, unwrapped, RewrapFault, Wrapping, found_rewrapped, Unfit, AsRead}
use Rattle.fork_commands.proofs.Cited.{is_unwrapped, is_encoded, opened, decoded_or_fault, packed, wrapped_or_fault, put_or_fault}
use Rattle.fork_commands.proofs.Cited.{fork_found, fork_in}
use Rattle.bin_hex.specs.File.{AreBytes}
use Rattle.bin_hex.specs.declared.fault.PutFault.TheVariants as put_fault
use Rattle.fork_wrappers.specs.Unwrapped.{fork_in as fork_wrapped}
use Rattle.fork_wrappers.specs.declared.fault.RewrapFault.TheVariants as rewrap_fault
use Rattle.fork_wrappers.specs.declared.wrapping.Wrapping.TheVariants as wrapping
use Rattle.fork_commands.proofs.Opens.{encoded_there, plain_there, plain_fork, decoded_fork, bare_fork, has_encoded}
use Rattle.fork_commands.proofs.Wrappers.{packed_encoded, packed_wrapped}

-- A fork that was put into a file is found in it.

-- a file that is taken for a BinHex file is one
was_recognized : (t : Bool) (file new : List ℕ) (made : Result (List ℕ) PutFault) → is_encoded file ≡ t → made ≡ Ok file
    → cond t (Ok file) (Err (Unfit rewrap_fault.Unrecognized)) ≡ Ok new → (made ≡ Ok new) × (is_encoded new ≡ true)
was_recognized true file new made encoded put is =
    let same : file ≡ new = cc in
    (put ∙ ap Ok same, subst (λ xs. is_encoded xs ≡ true) same encoded)
was_recognized false file new made other put is = cc

-- what was made of a BinHex file is one
was_put : (put : Result (List ℕ) PutFault) (new : List ℕ) → put_or_fault put ≡ Ok new
    → (put ≡ Ok new) × (is_encoded new ≡ true)
was_put (Ok file) new is = was_recognized (is_encoded file) file new (Ok file) refl refl is
was_put (Err (put_fault.Damaged damage)) new is = cc
was_put (Err put_fault.TooLong) new is = cc
was_put (Err put_fault.HostMemory) new is = cc

pub opened_again : (file fork new : List ℕ) (old : File) → AreBytes fork → opened file ≡ Ok (Some old)
    → packed AsRead file fork ≡ Ok new → opened new ≡ Ok (Some (with_fork fork old))
unfolding opened
opened_again file fork new old all is made =
    let encoded = has_encoded (is_encoded file) (decoded file) old is in
    let put = was_put (with_resource_fork file fork) new
    (sym (packed_encoded file fork (put_or_fault (with_resource_fork file fork)) encoded refl) ∙ made) in
    let read = was_decoded (decoded file) old
    (sym (ap (λ t. cond t (decoded_or_fault (decoded file)) (Ok None)) encoded) ∙ is) in
    encoded_there new (with_fork fork old) put.1 (file_is_read file fork new old all read put.0)
  where
    was_decoded : (read : Result File Damage) (old : File) → decoded_or_fault read ≡ Ok (Some old) → read ≡ Ok old
    was_decoded (Ok file) old is = cc
    was_decoded (Err damage) old is = cc

pub encoded_again : (file fork new : List ℕ) → AreBytes fork → is_encoded file ≡ true → packed AsRead file fork ≡ Ok new
    → fork_in new ≡ Ok fork
encoded_again file fork new all encoded made =
    let put = was_put (with_resource_fork file fork) new
    (sym (packed_encoded file fork (put_or_fault (with_resource_fork file fork)) encoded refl) ∙ made) in
    let read = put_read file fork new put.0 in
    decoded_fork new (with_fork fork read.0) (encoded_there new (with_fork fork read.0) put.1 (read.2.decoded all))

-- a file in a wrapper is not encoded
in_wrapper : (bytes : List ℕ) → is_unwrapped (wrapping_of bytes) ≡ false → is_encoded bytes ≡ false
unfolding is_encoded
in_wrapper bytes is = rw is refl

in_fork : (how : Wrapping) (new fork : List ℕ) → is_unwrapped how ≡ true → fork_wrapped how new ≡ Ok fork → new ≡ fork
in_fork wrapping.Plain new fork is found = cc
in_fork wrapping.AppleSingle new fork is found = cc
in_fork wrapping.AppleDouble new fork is found = cc
in_fork wrapping.MacBinaryI new fork is found = cc
in_fork wrapping.MacBinaryII new fork is found = cc
in_fork wrapping.MacBinaryIII new fork is found = cc

wrapped_fork : (new fork : List ℕ) → unwrapped new ≡ Ok fork → is_fork fork ≡ true → fork_in new ≡ Ok fork
wrapped_fork new fork found is = judged (is_unwrapped (wrapping_of new)) refl
  where
    judged : (t : Bool) → is_unwrapped (wrapping_of new) ≡ t → fork_in new ≡ Ok fork
    judged true none = subst (λ xs. fork_in xs ≡ Ok fork) (sym (in_fork (wrapping_of new) new fork none found))
        (bare_fork fork is)
    judged false some = plain_fork new (Ok fork) (plain_there new (in_wrapper new some)) (ap fork_found found)

was_wrapped : (made : Result (List ℕ) RewrapFault) (new : List ℕ) → wrapped_or_fault made ≡ Ok new → made ≡ Ok new
was_wrapped (Ok file) new is = let e : file ≡ new = cc in ap Ok e
was_wrapped (Err why) new is = cc

pub found_again : (file fork new : List ℕ) → AreBytes file → AreBytes fork → is_fork fork ≡ true
    → packed AsRead file fork ≡ Ok new → fork_in new ≡ Ok fork
found_again file fork new bytes all is made = judged (is_encoded file) refl
  where
    judged : (t : Bool) → is_encoded file ≡ t → fork_in new ≡ Ok fork
    judged true encoded = encoded_again file fork new all encoded made
    judged false other =
        let put = was_wrapped (rewrapped file fork) new
        (sym (packed_wrapped file fork (wrapped_or_fault (rewrapped file fork)) other refl) ∙ made) in
        wrapped_fork new fork (found_rewrapped file fork new bytes put) is
