use Rattle.fork_commands.proofs.Cited.{◌≡◌, ℕ, true, false, cond, List, Result, Ok, Err, refl, ap, sym, subst, ◌∙◌, with_resource_fork}
use Rattle.fork_commands.proofs.Cited.{Prevents, PutFault, RewrapFault, rewrapped, Refuses, FileFault, Unfit, WorkFault, Stops, is_encoded}
use Rattle.fork_commands.proofs.Cited.{Bare, AsRead, packed, of_rewrap, of_put, wrapped_or_fault, put_or_fault, recognized}
use Rattle.bin_hex.specs.declared.fault.PutFault.TheVariants as put_fault
use Rattle.fork_wrappers.specs.declared.fault.RewrapFault.TheVariants as fault

-- How a fork that was made is written.

-- a fork is written alone
pub packed_bare : (file fork : List ℕ) → packed Bare file fork ≡ Ok fork
unfolding packed
packed_bare file fork = refl

-- why a fork is not written in a wrapper
stops_there : (made : Result (List ℕ) RewrapFault) (why : RewrapFault) → Refuses why made
    → Stops (of_rewrap why) (wrapped_or_fault made)
stops_there made fault.HostMemory refuses = tt
stops_there made (fault.Damaged how) refuses = ap wrapped_or_fault refuses
stops_there made fault.Overlap refuses = ap wrapped_or_fault refuses
stops_there made fault.TooLong refuses = ap wrapped_or_fault refuses
stops_there made fault.Unrecognized refuses = ap wrapped_or_fault refuses

pub unwrapped_not : (made : Result (List ℕ) RewrapFault) (why : RewrapFault) (told : WorkFault) → told ≡ of_rewrap why
    → Refuses why made → Stops told (wrapped_or_fault made)
unwrapped_not made why told is refuses =
    subst (λ f. Stops f (wrapped_or_fault made)) (sym is) (stops_there made why refuses)

-- why a fork is not put into a BinHex file
put_stops : (made : Result (List ℕ) PutFault) (why : PutFault) → Prevents why made → Stops (of_put why) (put_or_fault made)
put_stops made put_fault.HostMemory prevents = tt
put_stops made (put_fault.Damaged damage) prevents = ap put_or_fault prevents
put_stops made put_fault.TooLong prevents = ap put_or_fault prevents

pub put_not : (made : Result (List ℕ) PutFault) (why : PutFault) (told : WorkFault) → told ≡ of_put why
    → Prevents why made → Stops told (put_or_fault made)
put_not made why told is prevents =
    subst (λ f. Stops f (put_or_fault made)) (sym is) (put_stops made why prevents)

-- a file is taken for a BinHex file, or not
pub is_recognized : (file : List ℕ) → is_encoded file ≡ true → recognized file ≡ Ok file
is_recognized file is = rw is refl

pub not_recognized : (file : List ℕ) → is_encoded file ≡ false → recognized file ≡ Err (Unfit fault.Unrecognized)
not_recognized file is = rw is refl

-- a fork is put into a BinHex file
pub packed_encoded : (file fork : List ℕ) (made : Result (List ℕ) FileFault) → is_encoded file ≡ true
    → put_or_fault (with_resource_fork file fork) ≡ made → packed AsRead file fork ≡ made
unfolding packed
packed_encoded file fork made is has =
    ap (λ t. cond t (put_or_fault (with_resource_fork file fork)) (wrapped_or_fault (rewrapped file fork))) is ∙ has

pub stopped_encoded : (file fork : List ℕ) (told : WorkFault) → is_encoded file ≡ true
    → Stops told (put_or_fault (with_resource_fork file fork)) → Stops told (packed AsRead file fork)
stopped_encoded file fork told is stops =
    subst (Stops told) (sym (packed_encoded file fork (put_or_fault (with_resource_fork file fork)) is refl)) stops

-- or into another file
pub packed_wrapped : (file fork : List ℕ) (made : Result (List ℕ) FileFault) → is_encoded file ≡ false
    → wrapped_or_fault (rewrapped file fork) ≡ made → packed AsRead file fork ≡ made
unfolding packed
packed_wrapped file fork made is has =
    ap (λ t. cond t (put_or_fault (with_resource_fork file fork)) (wrapped_or_fault (rewrapped file fork))) is ∙ has

pub stopped_wrapped : (file fork : List ℕ) (told : WorkFault) → is_encoded file ≡ false
    → Stops told (wrapped_or_fault (rewrapped file fork)) → Stops told (packed AsRead file fork)
stopped_wrapped file fork told is stops =
    subst (Stops told) (sym (packed_wrapped file fork (wrapped_or_fault (rewrapped file fork)) is refl)) stops
