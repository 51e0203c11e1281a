use mir.Syntax.{w64}
use Rattle.std.proofs.Common.{◌<◌, ◌≡◌, ◌∙◌, rules, FitsSigned, unsigned_abs, subst, ℕ}
use Rattle.std.proofs.lemmas.Int.{to_z-of_z}
use Rattle.geo_sign.proofs.Bounds.{kept}
use Rattle.geo_sign.proofs.SignTests.{below_true, below_is}
use Rattle.beam.proofs.Planes.{before_plane}
use Rattle.beam.proofs.plane.is_before.Goals as goal

pub returns-then-unsigned_abs-plane : goal.returns-then-unsigned_abs-plane
returns-then-unsigned_abs-plane c =
    let w = c.args.plane.now in let d = c.ahead_of-ahead.result in
    let f : FitsSigned w64 d = search rules in
    let e : kept w64 d ≡ d = to_z-of_z w64 d f in
    let far : w.doubt < unsigned_abs (kept w64 d) =
    subst (λ (n : ℕ). w.doubt < n) c.unsigned_abs.ensures.value c.if-unsigned_abs-plane.true in
    before_plane w c.args.p (kept w64 d) c.requires c.facts.ensures (e ∙ c.ahead_of-ahead.ensures) far _
    (below_true (kept w64 d), below_is (kept w64 d))
