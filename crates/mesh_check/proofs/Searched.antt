-- What a search knows after one more home or point.
use Rattle.std.proofs.Common.{ℕ, ◌≡◌, ◌+◌, ◌≤◌, ◌<◌, List, length, get_or, sym, subst, ◌∙◌, below_more}
use Rattle.std.proofs.lemmas.List.{get_or_default}
use Rattle.geo_sign.specs.Point.{Point, origin}
use Rattle.mesh.specs.Meshes.{point_at}
use Rattle.mesh_check.specs.Homes.{IsNearHome, IsNearSome}

-- a point that is read is the one of its number
point_read : (points : List Point) (i : ℕ) (q : Point) → q ≡ get_or points i q → i < length points → q ≡ point_at points i
point_read points i q is inside = is ∙ get_or_default points i q origin inside

-- no home before the next one is near
pub none_more : (fine within : ℕ) (homes : List Point) (p q : Point) (start k : ℕ)
    → ((j : ℕ) → start ≤ j → j < k → ¬ IsNearHome fine within (point_at homes j) p) → q ≡ get_or homes k q → k < length homes
    → ¬ IsNearHome fine within q p
    → (j : ℕ) → start ≤ j → j < k + 1 → ¬ IsNearHome fine within (point_at homes j) p
none_more fine within homes p q start k before is inside far j from below =
    below_more (λ (j : ℕ). start ≤ j → ¬ IsNearHome fine within (point_at homes j) p) k (λ j l f. before j f l)
    (λ f near. far (subst (λ (r : Point). IsNearHome fine within r p) (sym (point_read homes k q is inside)) near)) j below from

-- each point before the next one is near a home
pub near_more : (fine within : ℕ) (homes points : List Point) (p : Point) (i k : ℕ)
    → ((j : ℕ) → j < i → IsNearSome fine within homes (point_at points j)) → p ≡ get_or points i p → i < length points
    → k < length homes → IsNearHome fine within (point_at homes k) p
    → (j : ℕ) → j < i + 1 → IsNearSome fine within homes (point_at points j)
near_more fine within homes points p i k before is inside k_in near =
    below_more (λ (j : ℕ). IsNearSome fine within homes (point_at points j)) i before
    (k, k_in, subst (λ (r : Point). IsNearHome fine within (point_at homes k) r) (point_read points i p is inside) near)
