-- The marks are a union, the listed faces are the marked ones, and the mesh that was made is a copy of these.
use Rattle.std.proofs.Common.{ℕ, ◌≡◌, ◌<◌, Bool, List, Option, IfSome, length, ap, subst, ◌∙◌, arith}
use Rattle.geo_sign.specs.Point.{Point}
use Rattle.mesh.specs.declared.mesh.Mesh.{Mesh}
use Rattle.mesh_pieces.specs.Copies.{IsCopy, IsAscending, IsCornerOf}
use Rattle.mesh_pieces.specs.Pieces.{AreLargestPieces, kept_faces}
use Rattle.mesh_pieces.proofs.pieces.keep_pieces.Goals as goal

pub returns-clause-pieces : goal.returns-clause-pieces
returns-clause-pieces c =
    let new = c.in-Some.mesh in
    let kept : List Bool = c.in_ok-kept.kept.items in
    let origin : List ℕ = c.in_ok-new.field-0.origin.items in
    let copied : IsCopy c.deref-5.result.now c.deref-6.result.now new.points.items new.faces.items c.deref-7.result.now =
    subst (λ (o : Option Mesh).
    IfSome o (λ m. IsCopy c.deref-5.result.now c.deref-6.result.now m.points.items m.faces.items c.deref-7.result.now))
    c.in-Some.is c.in_ok-mesh.ensures.copy in
    let listed : c.deref-6.result.now ≡ kept_faces c.args.mesh.now.faces.items kept =
    c.deref-6.ensures.value
    ∙ (c.in_ok-faces.ensures.list
    ∙ (ap (λ (fs : List (List ℕ)). kept_faces fs c.deref-3.result.now) c.deref-2.ensures.value
    ∙ ap (kept_faces c.args.mesh.now.faces.items) c.deref-3.ensures.value)) in
    record {
      twins = c.args.twins.now;
      kept = kept;
      origin = origin;
      paired = c.requires.paired;
      union = c.in_ok-kept.ensures.union;
      largest =
          subst (λ (fs : List (List ℕ)). AreLargestPieces c.args.twins.now (length fs) kept c.args.most) c.deref.ensures.value
          c.in_ok-kept.ensures.largest;
      copy =
          subst (λ (ps : List Point). IsCopy ps (kept_faces c.args.mesh.now.faces.items kept) new.points.items new.faces.items origin)
          c.deref-5.ensures.value
          (subst (λ (fs : List (List ℕ)). IsCopy c.deref-5.result.now fs new.points.items new.faces.items origin) listed
          (subst (λ (xs : List ℕ). IsCopy c.deref-5.result.now c.deref-6.result.now new.points.items new.faces.items xs)
          c.deref-7.ensures.value copied));
      order = subst (λ (xs : List ℕ). IsAscending xs) c.deref-9.ensures.value c.if-not-is_ascending.ensures;
      used = λ w l.
          subst (λ (fs : List (List ℕ)). (f : ℕ) × IsCornerOf fs w f) c.deref-else-not-is_ascending.ensures.value
          (c.if-not-are_used.ensures w
          (let size = c.in_ok-new.field-0.origin.ok.0 in omega (arith, c.len-else-not-is_ascending.ensures, size)));
    }
