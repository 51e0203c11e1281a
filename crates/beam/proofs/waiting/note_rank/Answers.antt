use Rattle.std.proofs.Common.{ℕ, ◌<◌, sym, subst, length}
use Rattle.geo_sign.specs.Tetrahedron.{Tetrahedron, vertex_of}
use Rattle.tetra_store.proofs.Keeps.{vertex_index}
use Rattle.beam.proofs.waiting.note_rank.Goals as goal

pub rank_of-rank-requires : goal.rank_of-rank-requires
rank_of-rank-requires c =
    λ k l.
    (let s = c.args.view.now.t.now in
    subst (λ (n : ℕ). n < length s.points) (vertex_index c.vertices.result k l)
    (subst (λ (t : Tetrahedron). vertex_of t k < length s.points) (sym c.vertices.ensures)
    (c.facts.ensures.linked.has c.args.cell k c.requires l).0))
