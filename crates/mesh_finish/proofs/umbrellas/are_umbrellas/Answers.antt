use Rattle.std.proofs.Common.{ℕ, ◌<◌, length, get_or, arith}
use Rattle.mesh_finish.proofs.umbrellas.are_umbrellas.Goals as goal

pub returns-then-topology-gt0-clause-no : goal.returns-then-topology-gt0-clause-no
returns-then-topology-gt0-clause-no c = λ all.
    let bad = c.in_ok-topology.ensures.vertices in
    let v : ℕ = get_or bad.things 0 0 in
    let here = bad.each 0 0 (omega (arith, c.if-topology-gt0.true, bad.number)) in
    all (get_or bad.things 0 0) here.0 here.1
