use Rattle.std.proofs.Common.{ℕ, ◌≡◌, ◌<◌, ◌+◌, ◌-◌, ◌/◌, ◌∙◌, arith, length, subst, sym}
use Rattle.std.proofs.lemmas.List.{get_or_default}
use Rattle.geo_sign.specs.Point.{Point, origin}
use Rattle.mesh.specs.Meshes.{point_at}
use Rattle.mesh_join.specs.Joins.{IsPlaceBefore}
use Rattle.mesh_join.proofs.PlaceOrder.{after_less, before_more}
use Rattle.mesh_join.proofs.places.position_of.Goals as goal

pub loop-low-preserved-then-is_before : goal.loop-low-preserved-then-is_before
loop-low-preserved-then-is_before c =
    let n : ℕ = c.loop-low.low + (c.loop-low.high - c.loop-low.low) / 2 in
    let within : n < length c.args.places.now = omega (arith, c.loop-low-test.true, c.loop-low.invariant.within) in
    let is : c.index-places-middle.result ≡ point_at c.args.places.now n =
    c.index-places-middle.is ∙ get_or_default c.args.places.now n _ origin within in
    record {
      order = omega (arith, c.loop-low-test.true);
      within = c.loop-low.invariant.within;
      before = before_more c.args.places.now c.args.point n c.requires within
          (subst (λ (q : Point). IsPlaceBefore q c.args.point) is (c.is_before.ensures.0 (cc)));
      after = c.loop-low.invariant.after;
    }

pub loop-low-preserved : goal.loop-low-preserved
loop-low-preserved c =
    let n : ℕ = c.loop-low.low + (c.loop-low.high - c.loop-low.low) / 2 in
    let within : n < length c.args.places.now = omega (arith, c.loop-low-test.true, c.loop-low.invariant.within) in
    let is : c.index-places-middle.result ≡ point_at c.args.places.now n =
    c.index-places-middle.is ∙ get_or_default c.args.places.now n _ origin within in
    record {
      order = omega (arith, c.loop-low-test.true);
      within = omega (arith, within);
      before = c.loop-low.invariant.before;
      after = after_less c.args.places.now c.args.point n c.requires (λ h.
          let t = c.is_before.ensures.1 (subst (λ (q : Point). IsPlaceBefore q c.args.point) (sym is) h) in absurd (cc));
    }
