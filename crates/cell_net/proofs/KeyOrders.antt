-- The numbers by which rows and facets are sorted keep their order: of two numbers with the last digits below the base, the
-- first digits decide unless they are equal.
use Rattle.std.proofs.Common.{ℕ, ◌+◌, ◌*◌, ◌<◌, ◌≤◌, ◌≡◌, ◌⊎◌, arith}
use Rattle.geo_sign.specs.Rising.{IsBefore}
use Rattle.geo_sign.specs.Tetrahedron.{Tetrahedron, DirectedFacet, numbers_of}
use Rattle.cell_net.specs.CellRows.{row_from}
use Rattle.cell_net.specs.Gathered.{row_key, facet_key}

IsFirst : (x y z w : ℕ) → Type 0
IsFirst x y z w = (x < z) ⊎ ((x ≡ z) × (y ≤ w))

-- two numbers as one
small_pair : (x y z w : ℕ) → y < 4294967296 → w < 4294967296 → x * 4294967296 + y ≤ z * 4294967296 + w → IsFirst x y z w
unfolding IsFirst
small_pair x y z w hy hw h = grind arith

large_pair : (x y z w : ℕ) → y < 18446744073709551616 → w < 18446744073709551616
    → x * 18446744073709551616 + y ≤ z * 18446744073709551616 + w → IsFirst x y z w
unfolding IsFirst
large_pair x y z w hy hw h = grind arith

pub record AreSmall (t : Tetrahedron) : Type 0 where
  pub a : t.a < 4294967296
  pub b : t.b < 4294967296
  pub c : t.c < 4294967296
  pub d : t.d < 4294967296

pub rows_before : (t r : Tetrahedron) → AreSmall t → AreSmall r → row_key (row_from t) ≤ row_key (row_from r)
    → IsBefore (row_from t) (row_from r) ⊎ (row_from t ≡ row_from r)
unfolding IsFirst
rows_before t r ht hr h = grind (arith, small_pair, large_pair)

pub record AreSmallOf (f : DirectedFacet) : Type 0 where
  pub b : f.b < 4294967296
  pub c : f.c < 4294967296

pub facets_before : (f g : DirectedFacet) → AreSmallOf f → AreSmallOf g → facet_key (numbers_of f) ≤ facet_key (numbers_of g)
    → IsBefore (numbers_of f) (numbers_of g) ⊎ (f ≡ g)
unfolding IsFirst
facets_before f g hf hg h = grind (arith, small_pair, large_pair)
