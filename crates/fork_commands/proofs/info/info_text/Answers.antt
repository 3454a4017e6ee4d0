use Rattle.fork_commands.proofs.Cited.{◌≡◌, ◌∙◌, Some, Ok, ap, sym, info_within, bytes_of, opened}
use Rattle.bin_hex.specs.File.{view}
use Rattle.fork_commands.proofs.Pairs.{also_ok}
use Rattle.fork_commands.proofs.Opens.{decoded_of, stands}
use Rattle.fork_commands.proofs.Told.{told_decoded}
use Rattle.fork_commands.proofs.info.info_text.Goals as goal

pub returns-in-BinHex : goal.returns-in-BinHex
returns-in-BinHex c =
    let bytes = bytes_of c.args.file.now in
    let file = view c.in-BinHex.file in
    let is : opened bytes ≡ Ok (Some file) = stands c.args.file.now c.requires ∙ ap (λ f. Ok (decoded_of f)) c.in-BinHex.is in
    also_ok _ _ c.decoded_lines.result (λ text has. told_decoded bytes text.items file is
    (has ∙ ap (λ f. info_within (bytes_of f) (Some file)) (sym c.in-BinHex.is))) c.decoded_lines.ensures
