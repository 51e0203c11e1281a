-- The vertices of a store.
use Rattle.std.proofs.Common.{ℕ, ◌+◌, ◌<◌, ◌≡◌, refl, ap, ◌∙◌}
use Rattle.std.proofs.Common.{Bool, true, false, eqb, ◌||◌, List, Option, length, get_or, set}
use mathlib.Core.Path.{fun_ext}
use Rattle.std.proofs.lemmas.Bool.{eqb-true, eqb-false}
use Rattle.std.proofs.lemmas.List.{get_or-set_same, get_or-set_other}
use Rattle.geo_sign.specs.Point.{Point, origin}
use Rattle.geo_sign.specs.declared.point.TheConstants.{CORNERS}
use Rattle.geo_sign.specs.Tetrahedron.{Tetrahedron}
use Rattle.geo_sign.specs.Vertices.{Vertices, boxed_vertices}
use Rattle.geo_sign.specs.Cells.{IsCell}
use Rattle.cell_laws.specs.LinkLaws.{AreAllCells}
use Rattle.cell_laws.specs.Lists.{AreCells}
use Rattle.geo_sign.specs.Boxes.{inserted_vertices}
use Rattle.geo_sign.proofs.Corners.{apart, boxed_points}
use Rattle.cell_laws.specs.StoredLaws.{AllLaw, StoredLaw}

-- ---- flags
pub flag_set :
    (flags : List Bool) (p : ℕ) → p < length flags → (i : ℕ) →
    get_or (set flags p true) i false ≡ (eqb i p || get_or flags i false)
flag_set flags p h i = pick (eqb i p) refl
  where
    pick : (b : Bool) → eqb i p ≡ b → get_or (set flags p true) i false ≡ (b || get_or flags i false)
    pick true e = ap (λ j. get_or (set flags p true) j false) (eqb-true i p e) ∙ get_or-set_same flags p true false h
    pick false e = get_or-set_other flags p i true false (eqb-false i p e)

-- ---- all vertices in

pub all_cells :
    (points : List Point) (flags : List Bool) → ((u : ℕ) → u < CORNERS + length points → get_or flags u false ≡ true) →
    (a b c d : ℕ) → IsCell (inserted_vertices points flags) a b c d → IsCell (boxed_vertices points) a b c d
all_cells points flags f a b c d k =
    record {
      has_a = (k.has_a.0, refl);
      has_b = (k.has_b.0, refl);
      has_c = (k.has_c.0, refl);
      has_d = (k.has_d.0, refl);
      positive = k.positive;
      clear = λ u h. k.clear u (h.0, f u h.0);
    }

pub cells_all :
    (points : List Point) (flags : List Bool) → ((u : ℕ) → u < CORNERS + length points → get_or flags u false ≡ true) →
    (a b c d : ℕ) → IsCell (boxed_vertices points) a b c d → IsCell (inserted_vertices points flags) a b c d
cells_all points flags f a b c d k =
    record {
      has_a = (k.has_a.0, f a k.has_a.0);
      has_b = (k.has_b.0, f b k.has_b.0);
      has_c = (k.has_c.0, f c k.has_c.0);
      has_d = (k.has_d.0, f d k.has_d.0);
      positive = k.positive;
      clear = λ u h. k.clear u (h.0, refl);
    }

whole :
    (points : List Point) (flags : List Bool) → ((u : ℕ) → u < CORNERS + length points → get_or flags u false ≡ true) →
    (live : List ℕ) (cell : ℕ → Tetrahedron) (next : ℕ → ℕ → Option ℕ) →
    AreAllCells (inserted_vertices points flags) live cell next → AreAllCells (boxed_vertices points) live cell next
whole points flags f live cell next h =
    let b = h.boxed in
    let l = h.linked in
    let cells : AreCells (boxed_vertices points) live cell =
    λ x i. all_cells points flags f (cell x).a (cell x).b (cell x).c (cell x).d (h.cells x i) in
    record {
      boxed = record {
        corner_in = λ k m. ((b.corner_in k m).0, refl);
        corner_at = b.corner_at;
        data_at = b.data_at;
        apart = b.apart;
        tied = λ u. refl;
      };
      linked = record {
        back = l.back;
        walls =
            λ x k i m e.
            (let w = l.walls x k i m e in record { first = w.first; second = w.second; third = w.third; agree = w.agree });
        apart = l.apart;
      };
      cells = cells;
      listing = record {
        full = record { cells = cells; all = λ a b c d k. h.listing.full.all a b c d (cells_all points flags f a b c d k) };
        once = h.listing.once;
      };
    }

pub all_law : AllLaw
all_law points w d = boxed_points points (λ k l. w k origin l) (apart points d) (λ u. true) (λ k h. refl)

pub stored_law : StoredLaw
stored_law points flags =
    record {
      boxed = λ w d c. boxed_points points (λ k l. w k origin l) (apart points d) (λ u. get_or flags u false) c;
      one_more = λ p h.
          (let v = inserted_vertices points flags in
          ap (λ (is : ℕ → Bool). let w : Vertices = record { at = v.at; high = v.high; count = v.count; is_in = is } in w)
          (fun_ext (flag_set flags p h)));
      all = λ f a b c d. (all_cells points flags f a b c d, cells_all points flags f a b c d);
      whole = whole points flags;
    }
