use Rattle.std.proofs.Common.{ℕ, ◌≡◌, List, [], length, arith, sym, subst, ◌∷◌, ◌++◌, ◌+◌, ◌<◌, length-append}
use Rattle.std.proofs.lemmas.List.{get_or_default}
use Rattle.mesh_flips.specs.Turns.{IsTriangle, IsCycled}
use Rattle.mesh.specs.Meshes.{IsFace}
use Rattle.mesh_edges.specs.Edges.{face_at}
use Rattle.mesh_finish.proofs.Rewritten.{turned_more}
use Rattle.mesh_finish.proofs.turned.turned_faces.Goals as goal

-- what the loop keeps
abbrev Kept : (faces turned : List (List ℕ)) → ℕ → Type 0
Kept faces turned i =
    record {
      count : length turned ≡ i;
      each : (k : ℕ) → k < i → IsCycled (face_at faces k) (face_at turned k);
      faces : (n k : ℕ) → k < i → IsTriangle n (face_at faces k) → IsFace n (face_at turned k);
    }

pub loop-face-preserved : goal.loop-face-preserved
loop-face-preserved c =
    let faces : List (List ℕ) = c.args.faces.now in
    let ys : List (List ℕ) = c.loop-face.turned.items in
    let f : List ℕ = c.smallest_first.result in
    let i : ℕ = c.loop-face.face-index in
    let count : length ys ≡ i = c.loop-face.invariant.count in
    let pushed : c.push.new.self.items ≡ ys ++ f ∷ [] = c.in_ok-push.ensures.items in
    let was = c.loop-face.invariant in
    subst
    (λ (zs : List (List ℕ)). Kept faces zs (i + 1))
    (sym pushed)
    (record {
      count = omega (arith, count, length-append ys (f ∷ []));
      each = turned_more faces ys f (λ g h. IsCycled g h) i count c.smallest_first.ensures.turned was.each;
      faces = λ n. turned_more faces ys f (λ g h. IsTriangle n g → IsFace n h) i count (c.smallest_first.ensures.face n) (was.faces n);
    })

pub returns-clause-faces : goal.returns-clause-faces
returns-clause-faces c =
    λ n each k d l.
    let ys : List (List ℕ) = c.loop-face.turned.items in
    let below : k < c.loop-face.face-index = omega (arith, c.loop-face.invariant.count) in
    subst (λ (f : List ℕ). IsFace n f) (get_or_default ys k [] d l)
    (c.loop-face.invariant.faces n k below (each k [] (omega arith)))
