-- Forms that a mesh is handed to, one after another.
use Rattle.std.proofs.Common.{ℕ, ◌≡◌, ◌<◌, ◌≤◌, ◌+◌, ◌⊎◌, inl, inr, sym, subst, arith, List, length, set, get_or}
use Rattle.std.proofs.Common.{map, All}
use Rattle.std.proofs.lemmas.List.{get_or-set_same, get_or-set_other, get_or-map, map-set, length-set, length-map}
use Rattle.std.proofs.lemmas.Bool.{cases_eq, cases_lt}
use Rattle.geo_sign.specs.Point.{Point}
use Rattle.mesh_form.specs.Received.{Received, IsFresh, HasPrefix, HasAll, HasFront}
use Rattle.mesh_form.proofs.Handed.{prefix_of_fresh}

-- the first k forms have received all, and the others are fresh
pub record AreDriven (k : ℕ) (forms : List Received) (points : List Point) (faces : List (List ℕ)) : Type 0 where
  pub done : (j : ℕ) (d : Received) → j < k → j < length forms → HasAll (get_or forms j d) points faces
  pub rest : (j : ℕ) (d : Received) → k ≤ j → j < length forms → IsFresh (get_or forms j d)

pub none_driven : (forms : List Received) (points : List Point) (faces : List (List ℕ)) → All IsFresh forms
    → AreDriven 0 forms points faces
none_driven forms points faces fresh = record { done = λ j d l m. absurd (omega arith); rest = λ j d l m. fresh j d m }

-- the form at k is another
pub at_place : (P : Received → Type 0) (k j : ℕ) (forms : List Received) (r d : Received) → j < length forms → (j ≡ k → P r)
    → (¬ (j ≡ k) → P (get_or forms j d)) → P (get_or (set forms k r) j d)
at_place P k j forms r d within here other = by (cases_eq j k)
  where
    by : (j ≡ k) ⊎ (¬ (j ≡ k)) → P (get_or (set forms k r) j d)
    by (inl e) =
        subst (λ (i : ℕ). P (get_or (set forms i r) j d)) e (subst P (sym (get_or-set_same forms j r d within)) (here e))
    by (inr n) = subst P (sym (get_or-set_other forms k j r d n)) (other n)

pub one_driven : (k : ℕ) (forms : List Received) (r : Received) (points : List Point) (faces : List (List ℕ))
    → AreDriven k forms points faces → HasAll r points faces → AreDriven (k + 1) (set forms k r) points faces
one_driven k forms r points faces driven all =
    record {
      done =
          λ j d l m. at_place (λ (x : Received). HasAll x points faces) k j forms r d (omega (arith, length-set forms k r))
          (λ e. all) (λ n. driven.done j d (omega arith) (omega (arith, length-set forms k r)));
      rest =
          λ j d l m. at_place IsFresh k j forms r d (omega (arith, length-set forms k r)) (λ e. absurd (omega arith))
          (λ n. driven.rest j d (omega arith) (omega (arith, length-set forms k r)));
    }

-- no memory for the form at k
pub driving_stopped : (k : ℕ) (forms : List Received) (r : Received) (points : List Point) (faces : List (List ℕ))
    → AreDriven k forms points faces → HasPrefix r points faces → All (λ r. HasFront r points faces) (set forms k r)
driving_stopped k forms r points faces driven front = λ j d m.
    at_place (λ (x : Received). HasFront x points faces) k j forms r d (omega (arith, length-set forms k r)) (λ e. inl front)
    (λ n. before_or_behind j d (omega (arith, length-set forms k r)))
  where
    before_or_behind : (j : ℕ) (d : Received) → j < length forms → HasFront (get_or forms j d) points faces
    before_or_behind j d m = by (cases_lt j k)
      where
        by : (j < k) ⊎ (k ≤ j) → HasFront (get_or forms j d) points faces
        by (inl l) = inr (driven.done j d l m)
        by (inr l) = inl (prefix_of_fresh (get_or forms j d) points faces (driven.rest j d l m))

-- ---- the same of boxes, by what the form in each has received
pub box_fresh : {B : Type 0} (received : B → Received) (k : ℕ) (boxes : List B) (d : B) (points : List Point)
    (faces : List (List ℕ)) → AreDriven k (map received boxes) points faces → k < length boxes
    → IsFresh (received (get_or boxes k d))
box_fresh received k boxes d points faces driven l =
    subst IsFresh (get_or-map received boxes k d (received d) l)
    (driven.rest k (received d) (omega arith) (omega (arith, length-map boxes received)))

pub box_driven : {B : Type 0} (received : B → Received) (k : ℕ) (boxes : List B) (box : B) (points : List Point)
    (faces : List (List ℕ)) → AreDriven k (map received boxes) points faces → HasAll (received box) points faces
    → AreDriven (k + 1) (map received (set boxes k box)) points faces
box_driven received k boxes box points faces driven all =
    subst (λ (forms : List Received). AreDriven (k + 1) forms points faces) (sym (map-set received boxes k box))
    (one_driven k (map received boxes) (received box) points faces driven all)

pub boxes_stopped : {B : Type 0} (received : B → Received) (k : ℕ) (boxes : List B) (box : B) (points : List Point)
    (faces : List (List ℕ)) → AreDriven k (map received boxes) points faces → HasPrefix (received box) points faces
    → All (λ r. HasFront r points faces) (map received (set boxes k box))
boxes_stopped received k boxes box points faces driven front =
    subst (λ (forms : List Received). All (λ r. HasFront r points faces) forms) (sym (map-set received boxes k box))
    (driving_stopped k (map received boxes) (received box) points faces driven front)
