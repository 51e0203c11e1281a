-- Steps one after another, and the finer grid.
use Rattle.std.proofs.Common.{ℕ, ◌≡◌, ◌<◌, ◌*◌, ℤ, pos, ◌+ℤ◌, ◌-ℤ◌, ◌*ℤ◌, ◌≤ℤ◌, inl, inr, refl, sym, subst, ◌∙◌, arith, List, length, set}
use Rattle.std.proofs.Math.ListN.{length-set}
use Rattle.std.proofs.lemmas.Int.{ints}
use Rattle.std.specs.List.{All}
use Rattle.geo_sign.specs.Point.{Point}
use Rattle.mesh.specs.Meshes.{point_at}
use Rattle.mesh_flips.specs.Flips.{IsFlipped, KeepsApart}
use Rattle.mesh_flips.specs.Flips.AreFlips.{none}
use Rattle.mesh_flips.specs.Turns.{IsTriangle}
use Rattle.mesh_flips.proofs.Kept.{flips_count}
use Rattle.mesh_flips.proofs.Chains.{flipped_on}
use Rattle.mesh_flips.proofs.Crossings.{same_or_not}
use Rattle.mesh_smooth.specs.Near.{IsNear, AreNearHome}
use Rattle.mesh_smooth.specs.Smoothed.{FitsTimes, IsLargestScale, IsMagnified, IsReshaped, IsSmoothedMesh}
use Rattle.mesh_smooth.proofs.GridScales.{scale_some}
use Rattle.mesh_smooth.proofs.Flags.{point_here, point_other}
use Rattle.mesh_smooth.proofs.Scales.{magnified_kept}

-- nothing was done
pub unshaped : (points : List Point) (faces : List (List ℕ)) → IsReshaped points points faces faces
unshaped points faces = record { flips = none; single = λ u v once. once; apart = λ i j ne li lj apart. apart }

-- points moved
pub shaped_moved : (before after : List Point) (faces : List (List ℕ)) → KeepsApart before after faces faces
    → IsReshaped before after faces faces
shaped_moved before after faces apart = record { flips = none; single = λ u v once. once; apart = apart }

-- edges were flipped
pub shaped_flipped : (points : List Point) (old new : List (List ℕ)) → IsFlipped points old new → IsReshaped points points old new
shaped_flipped points old new f = record { flips = f.flips; single = f.single; apart = f.apart }

-- one after the other
pub shaped_on : (before mid after : List Point) (old some new : List (List ℕ)) → IsReshaped before mid old some
    → IsReshaped mid after some new → IsReshaped before after old new
shaped_on before mid after old some new first second =
    let count = flips_count first.flips in
    record {
      flips = flipped_on first.flips second.flips;
      single = λ u v once. second.single u v (first.single u v once);
      apart = λ i j ne li lj apart. second.apart i j ne (omega arith) (omega arith) (first.apart i j ne li lj apart);
    }

-- one point more moved
pub near_set : (home points : List Point) (within v : ℕ) (p : Point) → AreNearHome home points within → v < length points
    → IsNear (point_at home v) p within → AreNearHome home (set points v p) within
near_set home points within v p is l here =
    record {
      count = length-set {A = Point} points v p ∙ is.count;
      near = λ k lk.
          elim (same_or_not k v) [
            | inl s ↦ subst (λ (n : ℕ). IsNear (point_at home n) (point_at (set points v p) n) within) (sym s)
                (subst (λ (q : Point). IsNear (point_at home v) q within) (sym (point_here points v p l)) here)
            | inr ne ↦ subst (λ (q : Point). IsNear (point_at home k) q within) (sym (point_other points v k p ne)) (is.near k lk)
          ];
    }

less : (x : ℤ) → x -ℤ x ≡ pos 0
less x = omega (arith, ints)

flat : (x y z : ℤ) (n : ℕ) → x ≡ pos 0 → y ≡ pos 0 → z ≡ pos 0 → (x *ℤ x +ℤ y *ℤ y +ℤ z *ℤ z) ≤ℤ pos n
flat x y z n ex ey ez = rw (ex, ey, ez) (omega (arith, ints))

-- a point is near itself
near_self : (p : Point) (within : ℕ) → IsNear p p within
near_self p within = flat (p.x -ℤ p.x) (p.y -ℤ p.y) (p.z -ℤ p.z) (within * within) (less p.x) (less p.y) (less p.z)

pub all_near_self : (points : List Point) (within : ℕ) → AreNearHome points points within
all_near_self points within = record { count = refl; near = λ v l. near_self (point_at points v) within }

-- all steps, seen from the old grid
pub smoothed_mesh : (points home moved : List Point) (old new : List (List ℕ)) (fine within reach : ℕ)
    → IsLargestScale (FitsTimes points) fine → reach ≡ fine * within → IsMagnified fine points home → All (IsTriangle (length points)) old → AreNearHome home moved reach
    → IsReshaped home moved old new → IsSmoothedMesh points moved old new fine within
smoothed_mesh points home moved old new fine within reach scale e s each near shape =
    record {
      scale = scale;
      count = near.count ∙ s.count;
      near = λ v l.
          subst (λ (p : Point). IsNear p (point_at moved v) (fine * within)) (s.each v l)
          (subst (λ (r : ℕ). IsNear (point_at home v) (point_at moved v) r) e (near.near v (omega (arith, l, s.count))));
      shape = shaped_on points home moved old old new (shaped_moved points home old (magnified_kept fine points home old (scale_some fine scale.scale) s each)) shape;
    }
