use Rattle.std.proofs.Common.{List, subst}
use Rattle.geo_sign.specs.Point.{Point}
use Rattle.mesh_check.specs.Homes.{AreAllNear}
use Rattle.mesh_check.proofs.judging.far_fault.Goals as goal

pub returns-in-None : goal.returns-in-None
returns-in-None c =
    record {
      closed = c.requires.closed;
      manifold = c.requires.manifold;
      near =
          subst (λ (points : List Point). AreAllNear c.args.demands.fine c.args.demands.within c.args.homes.now points)
          c.deref.ensures.value c.in-None.ensures;
    }
