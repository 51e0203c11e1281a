use Rattle.geo_sign.specs.Rational.{displaced}
use Rattle.tetra_store.specs.Links.{tetrahedron_from}
use Rattle.tetra_store.specs.Store.{vertices_of}
use Rattle.sight.proofs.Exits.{goes_out, ends_here, yes, no}
use Rattle.sight.proofs.Steps.{passed_at}
use Rattle.sight.proofs.exit.exit_side.Goals as goal

pub returns-then-is_beyond-clause-some : goal.returns-then-is_beyond-clause-some
returns-then-is_beyond-clause-some c =
    let s = c.args.t.now in let r = c.args.ray.now in let e = c.args.reached.now in let w = c.requires.walking in
    let only = c.ahead-exit.ensures.only in
    let out =
    goes_out (vertices_of s) r.vertex (displaced r.scanner) (tetrahedron_from e.vertices) e.entered c.ahead-exit.result.side
    (passed_at s r e c.facts.ensures w) w.came (λ i h. (only i h).0) (yes c.if-is_beyond.ensures) in
    (out, (only c.ahead-exit.result.side out).1, c.ahead-exit.ensures.image)

pub returns-else-is_beyond-clause-none : goal.returns-else-is_beyond-clause-none
returns-else-is_beyond-clause-none c =
    let s = c.args.t.now in let r = c.args.ray.now in let e = c.args.reached.now in let w = c.requires.walking in
    ends_here (vertices_of s) r.vertex (displaced r.scanner) (tetrahedron_from e.vertices) e.entered c.ahead-exit.result.side
    (passed_at s r e c.facts.ensures w) w.came (λ i h. (c.ahead-exit.ensures.only i h).0) (no c.if-is_beyond.ensures)
