-- A front of which one vertex gives its place to another.
use Rattle.std.proofs.Common.{ℕ, ◌<◌, ◌≡◌, ◌≢◌, ◌⊎◌, inl, inr, sym, subst, arith, length, set, slice_index, slice_index_or}
use Rattle.std.proofs.lemmas.List.{get_or-set_same, get_or-set_other}
use Rattle.tetra_store.specs.Store.{Store}
use Rattle.sight.specs.declared.exit.Front.{Front}
use Rattle.sight.specs.declared.image.Ray.{Ray}
use Rattle.sight.specs.declared.image.Image.{Image}
use Rattle.sight.specs.Fronts.{IsVertexImage, AreSeen}
use Rattle.sight.specs.Images.{no_image}

-- each vertex has its image again
pub set_seen : (s : Store) (r : Ray) (f : Front) (i n : ℕ) (m : Image) → length f.vertices ≡ 3 → length f.images ≡ 3 → i < 3
    → AreSeen s r f → IsVertexImage s r n m → AreSeen s r (record { vertices = set f.vertices i n; images = set f.images i m })
set_seen s r f i n m three images l old new j k = by h
  where
    h : (j ≡ i) ⊎ (j ≢ i)
    h = search arith

    in_vertices : i < length f.vertices
    in_vertices = omega (arith, three, l)

    in_images : i < length f.images
    in_images = omega (arith, images, l)

    by : (j ≡ i) ⊎ (j ≢ i) → IsVertexImage s r (slice_index (set f.vertices i n) j) (slice_index_or (set f.images i m) j no_image)
    by (inl same) =
        subst (λ (q : ℕ). IsVertexImage s r (slice_index (set f.vertices i n) q) (slice_index_or (set f.images i m) q no_image)) (sym same)
        (subst (λ (u : ℕ). IsVertexImage s r u (slice_index_or (set f.images i m) i no_image))
        (sym (get_or-set_same f.vertices i n 0 in_vertices))
        (subst (λ (u : Image). IsVertexImage s r n u) (sym (get_or-set_same f.images i m no_image in_images)) new))
    by (inr other) =
        subst (λ (u : ℕ). IsVertexImage s r u (slice_index_or (set f.images i m) j no_image))
        (sym (get_or-set_other f.vertices i j n 0 other))
        (subst (λ (u : Image). IsVertexImage s r (slice_index f.vertices j) u) (sym (get_or-set_other f.images i j m no_image other))
        (old j k))
