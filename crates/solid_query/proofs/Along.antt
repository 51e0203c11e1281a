-- Flags of points that are gone through in another order.
use Rattle.std.proofs.Common.{ℕ, ◌+◌, ◌<◌, ◌≡◌, ◌≢◌, sym, arith, Bool, false, List, length, get_or, set, subst, below_more}
use Rattle.std.proofs.lemmas.List.{get_or-set_same, get_or-set_other}
use Rattle.curve_order.specs.Order.{IsOrder}
use Rattle.geo_sign.specs.Point.{Point, origin}
use Rattle.tetra_store.specs.Store.{Store}
use Rattle.solid_query.specs.Solids.{IsFlaggedAs, AreFlagged}

-- the first k points of an order have their flags
abbrev pub AreFlaggedAlong : Store → (flags : List Bool) → List Point → (order : List ℕ) → ℕ → (found : List Bool) → Type 0
AreFlaggedAlong s flags points order k found =
    (j : ℕ) → j < k
    → IsFlaggedAs s flags (get_or points (get_or order j 0) origin) (get_or found (get_or order j 0) false)

-- one point more has its flag
pub one_flagged_along : (s : Store) (flags : List Bool) (points : List Point) (n k : ℕ) (order : List ℕ) (found : List Bool) (flag : Bool)
    → IsOrder n order → length found ≡ n → k < n → AreFlaggedAlong s flags points order k found
    → IsFlaggedAs s flags (get_or points (get_or order k 0) origin) flag
    → AreFlaggedAlong s flags points order (k + 1) (set found (get_or order k 0) flag)
one_flagged_along s flags points n k order found flag is count l each here =
    let at = get_or order k 0 in
    let below : at < n = is.below k l in
    below_more
    (λ j.
    IsFlaggedAs s flags (get_or points (get_or order j 0) origin) (get_or (set found at flag) (get_or order j 0) false))
    k
    (λ j m.
    let away : get_or order j 0 ≢ at =
    λ g.
    let same : j ≡ k = is.once j k (omega (arith, m, l)) l g in
    omega (arith, m, same) in
    subst (IsFlaggedAs s flags (get_or points (get_or order j 0) origin))
    (sym (get_or-set_other found at (get_or order j 0) flag false away)) (each j m))
    (subst (IsFlaggedAs s flags (get_or points at origin))
    (sym (get_or-set_same found at flag false (omega (arith, below, count)))) here)

-- behind all of them each point has its flag
pub all_flagged_along : (s : Store) (flags : List Bool) (points : List Point) (order : List ℕ) (found : List Bool)
    → IsOrder (length points) order → length found ≡ length points
    → AreFlaggedAlong s flags points order (length points) found → AreFlagged s flags points found
all_flagged_along s flags points order found is count each =
    record {
      count = count;
      each = λ i l.
          let z = is.all i l in
          subst (λ (x : ℕ). IsFlaggedAs s flags (get_or points x origin) (get_or found x false)) z.2 (each z.0 z.1);
    }
