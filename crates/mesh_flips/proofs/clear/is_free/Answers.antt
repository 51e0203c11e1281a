use Rattle.std.proofs.Common.{arith, inl, inr, subst, sym, ℕ, List}
use Rattle.std.specs.List.{Contains}
use Rattle.triangles.proofs.Apart.{on_yes}
use Rattle.mesh_flips.proofs.Off.{off_clear}
use Rattle.mesh_flips.proofs.clear.is_free.Goals as goal

pub returns : goal.returns
returns c =
    on_yes c.are_apart.result
    (λ both. record {
      clear = λ i l one other.
          let insert = c.requires.tree.insert i l in
          elim (c.in_ok-near.ensures.found i insert.0 (omega (arith, c.requires.tree.room)) insert.2) [
            | inl has ↦ c.if-not-are_clear.ensures i (subst (λ (xs : List ℕ). Contains xs i) (sym c.deref.ensures.value) has) l one other
            | inr off ↦ off_clear c.args.points.now c.args.site.quad insert.0 c.hulls_of-hulls.result.both _ c.hulls_of-hulls.ensures.both insert.1 off
          ];
      both = both;
    })
    c.are_apart.ensures
