-- Two solutions of one scan are the same but for their flows.
use Rattle.std.proofs.Common.{ℕ, suc, ◌≡◌, ◌&&◌, ◌++◌, not, refl, ap, ap₂, sym, subst, ◌∙◌, arith, Bool, cond, List, []}
use Rattle.std.proofs.Common.{◌∷◌, filter, Contains}
use Rattle.geo_sign.proofs.Booleans.{same_bools}
use Rattle.certificate.specs.Certificates.{Counts}
use Rattle.flow_net.proofs.Correspondences.{itself, ends_say}
use Rattle.geo_sign.specs.Vertices.{corners}
use Rattle.mesh.specs.Meshes.{mesh_of}
use Rattle.visibility.specs.Scenes.{Scene}
use Rattle.visibility.specs.Complexes.{Complex}
use Rattle.visibility.specs.Votes.{IsComplexOf}
use Rattle.visibility.specs.Cuts.{network_over, cost, is_cut, cut_facets, IsLeastInside}
use Rattle.visibility.proofs.ListingAgreements.{by_itself}
use Rattle.visibility.proofs.Ordered.{one_complex}
use Rattle.solution.specs.Scans.{points_of, scene_of_scan}
use Rattle.solution.specs.Laws.{SolutionLaw}

-- tests that agree on a list keep the same of it
pub filter_same : (p q : List ℕ → Bool) (rows : List (List ℕ)) → ((row : List ℕ) → Contains rows row → p row ≡ q row)
    → filter p rows ≡ filter q rows
filter_same p q [] same = refl
filter_same p q (row ∷ rows) same =
    ap (λ (b : Bool). cond b (row ∷ filter p rows) (filter p rows)) (same row (0, omega arith, refl))
    ∙ ap (λ (rest : List (List ℕ)). cond (q row) (row ∷ rest) rest)
    (filter_same p q rows (λ other h. same other (suc h.0, omega (arith, h.1), h.2)))

-- two least insides agree on all cells
pub agree : (s : Scene) (complex : Complex) (inside other : List ℕ → Bool) → IsLeastInside s complex inside
    → IsLeastInside s complex other → (row : List ℕ) → Contains complex.cells row → inside row ≡ other row
agree s complex inside other a b row there =
    same_bools (inside row) (other row) (a.within other b.least_cost row there) (b.within inside a.least_cost row there)

same_cost : (s : Scene) (complex : Complex) (inside other : List ℕ → Bool) → IsLeastInside s complex inside
    → IsLeastInside s complex other → cost s complex inside ≡ cost s complex other
same_cost s complex inside other a b =
    omega (arith, a.least_cost.least other b.least_cost.admissible, b.least_cost.least inside a.least_cost.admissible)

-- tests that agree on the cells cut the same facets
pub cut_same : (s : Scene) (complex : Complex) (inside other : List ℕ → Bool) → IsComplexOf s complex
    → ((row : List ℕ) → Contains complex.cells row → inside row ≡ other row)
    → cut_facets s.vertices complex inside ≡ cut_facets s.vertices complex other
cut_same s complex inside other is same =
    filter_same (is_cut s.vertices complex.cells inside) (is_cut s.vertices complex.cells other) complex.facets
    (λ f there.
    let ends =
    ends_say (network_over s complex) (network_over s complex) (itself (by_itself s complex is)) inside other same f there in
    ap₂ (λ x y. not x && y) ends.0 ends.1)

abbrev counts : (points scanners sights vote smooth cost : ℕ) → Counts
counts p c s v m n = record { points = p; scanners = c; sights = s; vote = v; smooth = m; cost = n }

same_counts : (a b : Counts) → a.points ≡ b.points → a.scanners ≡ b.scanners → a.sights ≡ b.sights → a.vote ≡ b.vote
    → a.smooth ≡ b.smooth → a.cost ≡ b.cost → a ≡ b
same_counts a b p q r s t u =
    ap₂ (λ (m n : ℕ). counts m n a.sights a.vote a.smooth a.cost) p q
    ∙ ap₂ (λ (m n : ℕ). counts b.points b.scanners m n a.smooth a.cost) r s
    ∙ ap₂ (λ (m n : ℕ). counts b.points b.scanners b.sights b.vote m n) t u

pub solution_law : SolutionLaw
solution_law scan settings mesh other_mesh claim other a b =
    let s : Scene = scene_of_scan scan settings in
    let complexes : b.complex ≡ a.complex = one_complex s b.complex a.complex b.complex_is a.complex_is in
    let least : IsLeastInside s a.complex b.inside = subst (λ (c : Complex). IsLeastInside s c b.inside) complexes b.least in
    let cut : cut_facets s.vertices a.complex a.inside ≡ cut_facets s.vertices b.complex b.inside =
    cut_same s a.complex a.inside b.inside a.complex_is (agree s a.complex a.inside b.inside a.least least)
    ∙ ap (λ (c : Complex). cut_facets s.vertices c b.inside) (sym complexes) in
    let costs : cost s a.complex a.inside ≡ cost s b.complex b.inside =
    same_cost s a.complex a.inside b.inside a.least least ∙ ap (λ (c : Complex). cost s c b.inside) (sym complexes) in
    let cells : filter a.inside a.complex.cells ≡ filter b.inside b.complex.cells =
    filter_same a.inside b.inside a.complex.cells (agree s a.complex a.inside b.inside a.least least)
    ∙ ap (λ (c : Complex). filter b.inside c.cells) (sym complexes) in
    record {
      mesh_is = a.mesh_is ∙ ap (mesh_of (corners ++ points_of scan)) cut ∙ sym b.mesh_is;
      counts_are = same_counts claim.counts other.counts
          (a.counts.points ∙ sym b.counts.points) (a.counts.scanners ∙ sym b.counts.scanners)
          (a.counts.sights ∙ sym b.counts.sights)
          (a.counts.vote ∙ sym b.counts.vote) (a.counts.smooth ∙ sym b.counts.smooth)
          (a.certificate.cost_is ∙ costs ∙ sym b.certificate.cost_is);
      inside_is = a.certificate.inside_is ∙ cells ∙ sym b.certificate.inside_is;
    }
