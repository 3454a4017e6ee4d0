use Rattle.job_tasks.proofs.Cited.{inl, refl}
use Rattle.job_tasks.proofs.outputs.write_kept.Goals as goal

-- the host is out of memory, and nothing was written
pub returns-in-Err-HostMemory-clause-front : goal.returns-in-Err-HostMemory-clause-front
returns-in-Err-HostMemory-clause-front g c = (g.H.Host.accesses c.args.host.now, inl refl, refl)
