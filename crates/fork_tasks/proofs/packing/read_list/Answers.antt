use Rattle.fork_tasks.proofs.Cited.{◌≡◌, rules, listed_in, message_of, list_path, IsUnpacked, IsForkFault}
use Rattle.fork_tasks.proofs.Accesses.{also_err}
use Rattle.fork_tasks.proofs.Packed.{list_faulty}
use Rattle.fork_tasks.proofs.packing.read_list.Goals as goal

pub returns-clause-stopped : goal.returns-clause-stopped
returns-clause-stopped g c =
    let is : c.as_str-2.result.now ≡ list_path c.args.packing.now = search rules in
    let same : c.as_str.result.now ≡ c.as_str-2.result.now = search rules in
    also_err (λ fault. IsForkFault c.as_str-2.result.now (listed_in c.as_slice.result.now) (message_of fault))
    (λ fault. IsUnpacked c.args.packing.now (g.H.Host.accesses c.args.host.now) (g.H.Host.accesses c.read_input.new.host)
    (message_of fault)) c.list_at.result (λ fault said. list_faulty c.args.packing.now c.as_str-2.result.now
    c.as_slice.result.now c.in_ok-text.text.items _ _ _ is (search rules) c.as_slice.ensures.value said)
    c.list_at.ensures.fault
