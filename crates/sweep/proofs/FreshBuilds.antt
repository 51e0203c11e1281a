-- The surface and the cost of a sweep are those of a fresh build.
--
-- A scene has one list of cells and of facets, and two least insides agree on all cells. So they cut the same facets, and cost the
-- same.
use Rattle.std.proofs.Common.{ℕ, ◌≡◌, ◌++◌, ap, sym, subst, ◌∙◌, arith, List, Bool}
use Rattle.geo_sign.specs.Point.{Point}
use Rattle.geo_sign.specs.Vertices.{corners}
use Rattle.mesh.specs.Meshes.{Surface, mesh_of}
use Rattle.solution.specs.Scans.{points_of, scene_of_scan}
use Rattle.solution.proofs.Uniqueness.{agree, cut_same}
use Rattle.visibility.specs.Complexes.{Complex}
use Rattle.visibility.specs.Cuts.{cost, cut_facets}
use Rattle.visibility.specs.Scenes.{Scene}
use Rattle.visibility.proofs.Ordered.{one_complex}
use Rattle.sweep.specs.Entries.{CostsLeast, AreBestLabels, IsSurfaceOf}
use Rattle.sweep.specs.FreshBuilds.{FreshBuildLaw}

-- two best labels are over one complex
over : (s : Scene) (complex other : Complex) (inside far : List ℕ → Bool) → AreBestLabels s complex inside → AreBestLabels s other far
    → AreBestLabels s complex far
over s complex other inside far a b =
    subst (λ (c : Complex). AreBestLabels s c far) (one_complex s other complex b.complex_is a.complex_is) b

same_facets : (s : Scene) (complex other : Complex) (inside far : List ℕ → Bool) → AreBestLabels s complex inside
    → AreBestLabels s other far
    → cut_facets s.vertices complex inside ≡ cut_facets s.vertices other far
same_facets s complex other inside far a b =
    cut_same s complex inside far a.complex_is
    (agree s complex inside far a.least (over s complex other inside far a b).least)
    ∙ ap (λ (c : Complex). cut_facets s.vertices c far) (sym (one_complex s other complex b.complex_is a.complex_is))

same_cost : (s : Scene) (complex other : Complex) (inside far : List ℕ → Bool) → AreBestLabels s complex inside → AreBestLabels s other far
    → cost s complex inside ≡ cost s other far
same_cost s complex other inside far a b =
    let o = over s complex other inside far a b in
    let there = a.least.least_cost.least far o.least.least_cost.admissible in
    let back = o.least.least_cost.least inside a.least.least_cost.admissible in
    let here : cost s complex inside ≡ cost s complex far = omega (arith, there, back) in
    here ∙ ap (λ (c : Complex). cost s c far) (sym (one_complex s other complex b.complex_is a.complex_is))

-- a scene has one best surface, and one least cost
pub one_surface : (s : Scene) (points : List Point) (mesh other : Surface) → IsSurfaceOf s points mesh
    → IsSurfaceOf s points other → mesh ≡ other
one_surface s points mesh other a b =
    a.mesh_is
    ∙ (ap (mesh_of (corners ++ points)) (same_facets s a.complex b.complex a.inside b.inside a.best b.best) ∙ sym b.mesh_is)

pub one_cost : (s : Scene) (n m : ℕ) → CostsLeast s n → CostsLeast s m → n ≡ m
one_cost s n m a b = a.cost_is ∙ (same_cost s a.complex b.complex a.inside b.inside a.best b.best ∙ sym b.cost_is)

pub fresh_build_law : FreshBuildLaw
fresh_build_law scan settings mesh claim built =
    let s : Scene = scene_of_scan scan settings in
    let best : AreBestLabels s built.complex built.inside = record { complex_is = built.complex_is; least = built.least } in
    record {
      mesh_is = λ other surface.
          surface.mesh_is
          ∙ ap (mesh_of (corners ++ points_of scan))
          (same_facets s surface.complex built.complex surface.inside built.inside surface.best best)
          ∙ sym built.mesh_is;
      cost_is = λ n costs.
          costs.cost_is ∙ same_cost s costs.complex built.complex costs.inside built.inside costs.best best
          ∙ sym built.certificate.cost_is;
    }
