use Rattle.std.proofs.Common.{ℕ, ◌≡◌, ◌^◌, ◌+◌, ◌*◌, ◌<◌, ◌≤◌, ◌∙◌, List, length, get_or, map, sym, subst, ap, refl, arith}
use Rattle.std.specs.List.{All}
use Rattle.std.proofs.lemmas.List.{length-map}
use Rattle.geo_sign.specs.Point.{Point}
use Rattle.mesh.specs.Meshes.{IsFace, point_at}
use Rattle.mesh_edges.specs.HalfEdges.{ArePaired}
use Rattle.mesh_edges.specs.Umbrellas.{AreDivided}
use Rattle.mesh_edges.proofs.Paired.{paired_closed}
use Rattle.mesh_pieces.specs.Vertices.{AreVerticesOf, AreRenumbered}
use Rattle.mesh_pieces.specs.Splits.{IsSplit}
use Rattle.mesh_pieces.proofs.Copied.{new_paired, new_used, new_corners, new_faces, new_single, origin_in}
use Rattle.mesh_pieces.proofs.split.split_mesh.Goals as goal

-- the new mesh, from its parts
module _ (points : List Point) (faces : List (List ℕ)) (each : All (IsFace (length points)) faces) (twins roots : List ℕ)
    (paired : ArePaired faces twins) (um : AreDivided faces twins roots) (numbers origin holders : List ℕ)
    (num : AreVerticesOf faces roots numbers origin holders) (new : List (List ℕ)) (re : AreRenumbered faces roots numbers new)
    (new_points : List Point) (places : new_points ≡ map (point_at points) origin) where
  is_split : IsSplit points faces new_points new
  is_split =
      record {
        origin = origin;
        copy =
            record {
              originals = origin_in (length points) faces each twins roots paired um numbers origin holders num new re;
              places = places;
              corners = new_corners (length points) faces each twins roots paired um numbers origin holders num new re;
            };
        order = num.placed.order;
        once = new_single (length points) faces each twins roots paired um numbers origin holders num new re;
        closed =
            paired_closed (length origin) new twins
            (new_faces (length points) faces each twins roots paired um numbers origin holders num new re)
            (new_paired (length points) faces each twins roots paired um numbers origin holders num new re);
        used = new_used (length points) faces each twins roots paired um numbers origin holders num new re;
      }

pub copied_points-requires : goal.copied_points-requires
copied_points-requires c =
    let points = c.args.mesh.now.points.items in
    let faces = c.args.mesh.now.faces.items in
    let twins = c.in_ok-umbrellas.umbrellas.twins.items in
    let roots = c.in_ok-umbrellas.umbrellas.roots.items in
    let v = c.in_ok-vertices.vertices in
    let new = c.in_ok-faces.faces.items in
    let paired : ArePaired faces twins =
    subst (λ (fs : List (List ℕ)). ArePaired fs twins) c.deref.ensures.value c.in_ok-umbrellas.ensures.paired in
    let um : AreDivided faces twins roots =
    subst (λ (fs : List (List ℕ)). AreDivided fs twins roots) c.deref.ensures.value c.in_ok-umbrellas.ensures.umbrellas in
    let num : AreVerticesOf faces roots v.numbers.items v.origin.items v.holders.items =
    subst (λ (fs : List (List ℕ)). AreVerticesOf fs roots v.numbers.items v.origin.items v.holders.items) c.deref-2.ensures.value
    (subst (λ (rs : List ℕ). AreVerticesOf c.deref-2.result.now rs v.numbers.items v.origin.items v.holders.items)
    c.deref-3.ensures.value c.in_ok-vertices.ensures) in
    let re : AreRenumbered faces roots v.numbers.items new =
    subst (λ (fs : List (List ℕ)). AreRenumbered fs roots v.numbers.items new) c.deref-4.ensures.value
    (subst (λ (rs : List ℕ). AreRenumbered c.deref-4.result.now rs v.numbers.items new) c.deref-5.ensures.value
    (subst (λ (ns : List ℕ). AreRenumbered c.deref-4.result.now c.deref-5.result.now ns new) c.deref-6.ensures.value
    c.in_ok-faces.ensures)) in
    subst (λ (os : List ℕ). All (λ w. w < length c.deref-7.result.now) os) (sym c.deref-8.ensures.value)
    (subst (λ (ps : List Point). All (λ w. w < length ps) v.origin.items) (sym c.deref-7.ensures.value)
    (origin_in (length points) faces c.requires.valid.each twins roots paired um v.numbers.items v.origin.items v.holders.items num new re))

pub returns-clause-split : goal.returns-clause-split
returns-clause-split c =
    let points = c.args.mesh.now.points.items in
    let faces = c.args.mesh.now.faces.items in
    let twins = c.in_ok-umbrellas.umbrellas.twins.items in
    let roots = c.in_ok-umbrellas.umbrellas.roots.items in
    let v = c.in_ok-vertices.vertices in
    let new = c.in_ok-faces.faces.items in
    let paired : ArePaired faces twins =
    subst (λ (fs : List (List ℕ)). ArePaired fs twins) c.deref.ensures.value c.in_ok-umbrellas.ensures.paired in
    let um : AreDivided faces twins roots =
    subst (λ (fs : List (List ℕ)). AreDivided fs twins roots) c.deref.ensures.value c.in_ok-umbrellas.ensures.umbrellas in
    let num : AreVerticesOf faces roots v.numbers.items v.origin.items v.holders.items =
    subst (λ (fs : List (List ℕ)). AreVerticesOf fs roots v.numbers.items v.origin.items v.holders.items) c.deref-2.ensures.value
    (subst (λ (rs : List ℕ). AreVerticesOf c.deref-2.result.now rs v.numbers.items v.origin.items v.holders.items)
    c.deref-3.ensures.value c.in_ok-vertices.ensures) in
    let re : AreRenumbered faces roots v.numbers.items new =
    subst (λ (fs : List (List ℕ)). AreRenumbered fs roots v.numbers.items new) c.deref-4.ensures.value
    (subst (λ (rs : List ℕ). AreRenumbered c.deref-4.result.now rs v.numbers.items new) c.deref-5.ensures.value
    (subst (λ (ns : List ℕ). AreRenumbered c.deref-4.result.now c.deref-5.result.now ns new) c.deref-6.ensures.value
    c.in_ok-faces.ensures)) in
    let places : c.in_ok-points.points.items ≡ map (point_at points) v.origin.items =
    c.in_ok-points.ensures
    ∙ (ap (λ (ps : List Point). map (point_at ps) c.deref-8.result.now) c.deref-7.ensures.value
    ∙ ap (map (point_at points)) c.deref-8.ensures.value) in
    is_split points faces c.requires.valid.each twins roots paired um v.numbers.items v.origin.items v.holders.items num new re
    c.in_ok-points.points.items places

pub returns-clause-valid : goal.returns-clause-valid
returns-clause-valid c =
    let points = c.args.mesh.now.points.items in
    let faces = c.args.mesh.now.faces.items in
    let twins = c.in_ok-umbrellas.umbrellas.twins.items in
    let roots = c.in_ok-umbrellas.umbrellas.roots.items in
    let v = c.in_ok-vertices.vertices in
    let new = c.in_ok-faces.faces.items in
    let paired : ArePaired faces twins =
    subst (λ (fs : List (List ℕ)). ArePaired fs twins) c.deref.ensures.value c.in_ok-umbrellas.ensures.paired in
    let um : AreDivided faces twins roots =
    subst (λ (fs : List (List ℕ)). AreDivided fs twins roots) c.deref.ensures.value c.in_ok-umbrellas.ensures.umbrellas in
    let num : AreVerticesOf faces roots v.numbers.items v.origin.items v.holders.items =
    subst (λ (fs : List (List ℕ)). AreVerticesOf fs roots v.numbers.items v.origin.items v.holders.items) c.deref-2.ensures.value
    (subst (λ (rs : List ℕ). AreVerticesOf c.deref-2.result.now rs v.numbers.items v.origin.items v.holders.items)
    c.deref-3.ensures.value c.in_ok-vertices.ensures) in
    let re : AreRenumbered faces roots v.numbers.items new =
    subst (λ (fs : List (List ℕ)). AreRenumbered fs roots v.numbers.items new) c.deref-4.ensures.value
    (subst (λ (rs : List ℕ). AreRenumbered c.deref-4.result.now rs v.numbers.items new) c.deref-5.ensures.value
    (subst (λ (ns : List ℕ). AreRenumbered c.deref-4.result.now c.deref-5.result.now ns new) c.deref-6.ensures.value
    c.in_ok-faces.ensures)) in
    let places : c.in_ok-points.points.items ≡ map (point_at points) v.origin.items =
    c.in_ok-points.ensures
    ∙ (ap (λ (ps : List Point). map (point_at ps) c.deref-8.result.now) c.deref-7.ensures.value
    ∙ ap (map (point_at points)) c.deref-8.ensures.value) in
    let many : length c.in_ok-points.points.items ≡ length v.origin.items =
    ap length places ∙ length-map v.origin.items (point_at points) in
    record {
      few_points = omega (arith, many, num.placed.same, num.few, c.in_ok-umbrellas.ensures.few);
      few_faces = omega (arith, re.count, c.requires.valid.few_faces);
      each =
          subst (λ (n : ℕ). All (IsFace n) new) (sym many)
          (new_faces (length points) faces c.requires.valid.each twins roots paired um v.numbers.items v.origin.items v.holders.items num new re);
    }
