use Rattle.res_calls.proofs.Cited.{Err, ap, refl, sym, map_read}
use Rattle.fork_format.proofs.Codes.{refused}
use Rattle.res_calls.proofs.launching.open_map.Goals as goal

pub returns-in-Some : goal.returns-in-Some
returns-in-Some c =
    ap map_read (refused c.args.bytes.now (Err c.in-Err.fault) c.in-Err.fault c.in-Some.code c.in-Err.ensures.empty
    c.in-Err.ensures.bad_map refl (sym c.in-Some.ensures))
