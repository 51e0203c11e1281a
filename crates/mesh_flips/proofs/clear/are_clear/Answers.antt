use Rattle.std.proofs.Common.{ℕ, ◌≡◌, ◌≢◌, ◌<◌, ◌≤◌, ◌∙◌, List, length, get_or, arith, subst, below_more}
use Rattle.std.specs.List.{Contains}
use Rattle.std.proofs.lemmas.List.{get_or_default}
use Rattle.mesh_edges.specs.Edges.{face_at}
use Rattle.mesh_flips.specs.Clear.{IsClear}
use Rattle.mesh_flips.proofs.clear.are_clear.Goals as goal

-- what holds of each number of a list holds of all that it contains
of_each : (P : ℕ → Type 0) (found : List ℕ) (n i : ℕ) → ((k : ℕ) → k < n → P (get_or found k 0)) → length found ≤ n
    → Contains found i → P i
of_each P found n i each all has =
    let at : get_or found has.0 0 ≡ i = get_or_default found has.0 0 i has.1 ∙ has.2 in
    subst P at (each has.0 (omega (arith, has.1)))

pub loop-i-preserved : goal.loop-i-preserved
loop-i-preserved c =
    let found = c.args.found.now in
    let P : ℕ → Type 0 =
    λ i. i < length c.args.faces.now → i ≢ c.args.site.one → i ≢ c.args.site.other
    → IsClear c.args.points.now c.args.site.quad (face_at c.args.faces.now i) in
    below_more (λ k. P (get_or found k 0)) c.loop-i.i-index c.loop-i.invariant c.if-not-is_own_or_clear.ensures

pub returns : goal.returns
returns c = λ i has.
    let P : ℕ → Type 0 =
    λ k. k < length c.args.faces.now → k ≢ c.args.site.one → k ≢ c.args.site.other
    → IsClear c.args.points.now c.args.site.quad (face_at c.args.faces.now k) in
    of_each P c.args.found.now c.loop-i.i-index i c.loop-i.invariant (omega (arith, c.loop-i-test.false)) has
