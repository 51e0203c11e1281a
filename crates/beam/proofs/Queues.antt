-- Lines of sight that wait, with one more; and sums over them.
use Rattle.std.proofs.Common.{ℕ, ◌+◌, ◌*◌, ◌≡◌, refl, sym, subst, arith, List, [], ◌∷◌, ◌++◌}
use Rattle.std.specs.List.{All, sum_by}
use Rattle.std.proofs.lemmas.List.Elements.{All-nil, All-cons, All-head, All-tail, All-push}
use Rattle.std.proofs.lemmas.List.Sums.{sum_by-cons}
use Rattle.std.proofs.lemmas.List.Sorted.{All-permutation, sum_by_popped, length_permutation}
use Rattle.std.specs.List.Sorted.{IsPermutation}
use Rattle.geo_sign.specs.Point.{Point}
use Rattle.tetra_store.specs.Links.{links_of, IsLive}
use Rattle.tetra_store.specs.Store.{Store}
use Rattle.beam.specs.declared.waiting.Waiting.{Waiting}
use Rattle.beam.specs.declared.ways.Ray.{Ray}
use Rattle.beam.specs.Beams.{IsWaiting, AreWaiting, total, steps_left, work}

-- one joins a list
pub joined : (s : Store) (o : Point) (old new : Waiting) (y : ℕ) (r : Ray) → AreWaiting s o old → IsWaiting s o y r → old.cell ≡ y
    → new.cell ≡ old.cell → new.rays.items ≡ old.rays.items ++ r ∷ [] → AreWaiting s o new
joined s o old new y r h k at cell rays =
    record {
      live = subst (λ (x : ℕ). IsLive (links_of s.slots) x) (sym cell) h.live;
      rays =
          subst (λ (rs : List Ray). All (IsWaiting s o new.cell) rs) (sym rays)
          (subst (λ (x : ℕ). All (IsWaiting s o x) (old.rays.items ++ r ∷ [])) (sym cell)
          (All-push (IsWaiting s o old.cell) old.rays.items r h.rays (subst (λ (x : ℕ). IsWaiting s o x r) (sym at) k)));
    }

-- one waits alone
pub alone : (s : Store) (o : Point) (new : Waiting) (y : ℕ) (r : Ray) → IsWaiting s o y r → new.cell ≡ y → new.rays.items ≡ r ∷ []
    → AreWaiting s o new
alone s o new y r k cell rays =
    record {
      live = subst (λ (x : ℕ). IsLive (links_of s.slots) x) (sym cell) k.live;
      rays =
          subst (λ (rs : List Ray). All (IsWaiting s o new.cell) rs) (sym rays)
          (subst (λ (x : ℕ). All (IsWaiting s o x) (r ∷ [])) (sym cell)
          (All-cons (IsWaiting s o y) r [] k (All-nil (IsWaiting s o y))));
    }

-- numbers that are the same for each have the same sum
pub sums_same : (f g : Ray → ℕ) (P : Ray → Type 0) → ((r : Ray) → P r → f r ≡ g r) → (rs : List Ray) → All P rs
    → sum_by f rs ≡ sum_by g rs
sums_same f g P h [] a = refl
sums_same f g P h (r ∷ rs) a =
    let here = h r (All-head P r rs a) in
    let rest = sums_same f g P h rs (All-tail P r rs a) in
    omega (arith, here, rest, sum_by-cons f r rs, sum_by-cons g r rs)

-- one list alone
pub total_one : (f : ℕ → Ray → ℕ) (w : Waiting) → total f (w ∷ []) ≡ sum_by (f w.cell) w.rays.items
total_one f w =
    let g : Waiting → ℕ = λ x. sum_by (f x.cell) x.rays.items in
    let a = sum_by-cons g w [] in
    omega (arith, a)

-- ---- a cell is removed
pub left_by : (P : Waiting → Type 0) (xs ys : List Waiting) (w : Waiting) → IsPermutation xs (w ∷ ys) → All P xs → P w × All P ys
left_by P xs ys w h a = let b = All-permutation P xs (w ∷ ys) h a in (All-head P w ys b, All-tail P w ys b)

pub total_left : (f : ℕ → Ray → ℕ) (xs ys : List Waiting) (w : Waiting) → IsPermutation xs (w ∷ ys)
    → total f ys + sum_by (f w.cell) w.rays.items ≡ total f xs
total_left f xs ys w h = sum_by_popped (λ x. sum_by (f x.cell) x.rays.items) w xs ys h

pub work_left : (s : Store) (o : Point) (xs ys : List Waiting) (w : Waiting) → IsPermutation xs (w ∷ ys)
    → work s o ys + 2 * sum_by (steps_left s o w.cell) w.rays.items + 1 ≡ work s o xs
work_left s o xs ys w h =
    let a = total_left (steps_left s o) xs ys w h in
    let b = length_permutation xs (w ∷ ys) h in
    omega (arith, a, b)
