use Rattle.recon_check.proofs.checking.shown_by_certificate.Goals as goal

pub returns-in-Some-clause-fault : goal.returns-in-Some-clause-fault
returns-in-Some-clause-fault g c = c.in-Some.ensures.other c.args.claimed.now.mesh.now
