use Rattle.std.proofs.Common.{◌≡◌, ℕ, slice_index, subst, sym, arith}
use Rattle.std.proofs.lemmas.Grind.{common_steps}
use Rattle.geo_sign.specs.Writings.{IsVertexOf}
use Rattle.tetra_store.specs.Links.{links_of}
use Rattle.tetra_store.proofs.Observed.{store_now}
use Rattle.tetra_store.proofs.store.Tetra.cell_at.Goals as goal

pub returns-clause-has : goal.returns-clause-has
returns-clause-has c =
    let s = store_now _ c.args.self.now c.self.view_is c.self.invariant in
    let value : c.id.result ≡ slice_index c.args.self.now.kept c.args.v = grind (arith, common_steps) in
    subst (λ (id : ℕ). IsVertexOf ((links_of c.args.self.now.slots).at id) c.args.v) (sym value)
    (s.kept_cells c.args.v c.requires).1
