-- Where walks are, how they go on, and where they end.
--
-- A walk is in a live cell, and knows a side that its goal is not behind, if any (`IsReached`). Where the goal is behind
-- another side, it is across no wall (`no_end`), fewer cells are higher at the goal than the next one (`falls`), and the side
-- of the next cell that names this one is the same facet turned round, so that the goal is before it (`reached`). Where the
-- goal is behind no side, it lies in the cell (`lies`). Which cell that is, of a scanner or of a sight, the laws say
-- (`one_scanner_cell` and below).
use Rattle.std.proofs.Common.{ℕ, zero, suc, ◌<◌, ◌≡◌, sym, subst, ◌∙◌, arith, true, Some, None, List, length}
use Rattle.std.proofs.Common.{slice_index}
use Rattle.std.proofs.lemmas.Int.{ints}
use Rattle.geo_sign.specs.declared.point.TheConstants.{DATA_LIMIT}
use Rattle.geo_sign.specs.Point as place
use Rattle.geo_sign.specs.Point.{IsWithin}
use Rattle.geo_sign.specs.Rational.{RationalPoint, displaced}
use Rattle.geo_sign.specs.Sights.{is_cell_of, is_towards, is_behind}
use Rattle.geo_sign.specs.Tetrahedron.{Tetrahedron, facet_of, vertex_of}
use Rattle.geo_sign.specs.Vertices.{Has}
use Rattle.geo_sign.specs.Places.{IsInBox, IsLyingIn}
use Rattle.cell_laws.specs.Lifts.{is_higher}
use Rattle.cell_laws.specs.Lists.{count}
use Rattle.cell_laws.specs.WalkLaws.{IsWalk, HasScannerCell, HasSightCells}
use Rattle.geo_sign.proofs.Rotations.{side_turned}
use Rattle.cell_laws.proofs.Scanners.{near_law}
use Rattle.cell_laws.proofs.SightLaws.{step_law, scanner_law, vertex_sight_law}
use Rattle.tetra_store.specs.Links.{links_of, tetrahedron_from, IsLive}
use Rattle.tetra_store.specs.Store.{Store, vertices_of, IsStore}
use Rattle.tetra_store.specs.Delaunay.{IsDelaunay}
use Rattle.tetra_walk.specs.declared.goal.Goal.{Goal}
use Rattle.tetra_walk.specs.declared.goal.Goal.TheVariants.{Point, Scanner, Towards, Behind}
use Rattle.tetra_walk.specs.Goals.{place_of, IsGoal}
use Rattle.tetra_store.specs.Stored.{live_of}
use Rattle.tetra_walk.specs.Walks.{IsBehindSide}
use Rattle.tetra_walk.proofs.Backs.{one_back}
use Rattle.tetra_walk.proofs.Bridge.{listed, linked, cells, listing}

-- ---- the vertices of a live cell are vertices of the store
pub known : (s : Store) → IsStore s → (id : ℕ) (vs : List ℕ) → IsLive (links_of s.slots) id
    → tetrahedron_from vs ≡ (links_of s.slots).at id → (k : ℕ) → k < 4 → slice_index vs k < length s.points
known s i id vs live e = by
  where
    at : (k : ℕ) → k < 4 → vertex_of (tetrahedron_from vs) k < length s.points
    at k l = subst (λ (t : Tetrahedron). vertex_of t k < length s.points) (sym e) (i.linked.has id k live l).0

    by : (k : ℕ) → k < 4 → slice_index vs k < length s.points
    by zero l = at 0 l
    by (suc zero) l = at 1 l
    by (suc (suc zero)) l = at 2 l
    by (suc (suc (suc zero))) l = at 3 l
    by (suc (suc (suc (suc k)))) l = absurd (omega (arith, l))

-- ---- the goal
-- it is a place of the box
pub in_box : (g : Goal) → IsGoal g → IsInBox (place_of g)
in_box (Point q) h =
    let x = h.x_within in let y = h.y_within in let z = h.z_within in
    record {
      over_positive = omega (arith, ints);
      x_within = omega (arith, x);
      y_within = omega (arith, y);
      z_within = omega (arith, z);
    }
in_box (Scanner s) h = (near_law s s h h).scanner_in_box
in_box (Towards p s) h = (near_law p s h.0 h.1).towards_in_box
in_box (Behind p s) h = (near_law p s h.0 h.1).behind_in_box

-- ---- the cell reached, with its vertices, and a side through which the walk came
pub record IsReached (s : Store) (q : RationalPoint) (id : ℕ) (vs : List ℕ) (entered : ℕ) : Type 0 where
  pub live : IsLive (links_of s.slots) id
  pub loaded : tetrahedron_from vs ≡ (links_of s.slots).at id
  pub before : entered < 4 → ¬ IsBehindSide (vertices_of s) (tetrahedron_from vs) entered q

-- what the law of walks says of the store
pub walks : (s : Store) → IsStore s → IsDelaunay (vertices_of s) (links_of s.slots) → (q : RationalPoint) → IsInBox q
    → IsWalk (vertices_of s) (live_of s.slots) (links_of s.slots).at (links_of s.slots).next q
walks s i d q b =
    step_law (vertices_of s) i.vertices.boxed (live_of s.slots) (links_of s.slots).at (links_of s.slots).next (linked s i)
    (cells s d) q b

-- behind a side of the cell with these vertices
behind_at : (s : Store) (q : RationalPoint) (id : ℕ) (vs : List ℕ) (k : ℕ) → tetrahedron_from vs ≡ (links_of s.slots).at id
    → IsBehindSide (vertices_of s) (tetrahedron_from vs) k q → IsBehindSide (vertices_of s) ((links_of s.slots).at id) k q
behind_at s q id vs k e h = subst (λ (t : Tetrahedron). IsBehindSide (vertices_of s) t k q) e h

-- no wall has the goal behind it
pub no_end : (s : Store) → IsStore s → IsDelaunay (vertices_of s) (links_of s.slots) → (q : RationalPoint) → IsInBox q
    → (id : ℕ) (vs : List ℕ) (m k : ℕ) → IsReached s q id vs m → k < 4
    → IsBehindSide (vertices_of s) (tetrahedron_from vs) k q → (links_of s.slots).next id k ≡ None → ⊥
no_end s i d q b id vs m k r l h f =
    let z = (walks s i d q b).goes_on id k (listed s.slots id r.live) l (behind_at s q id vs k r.loaded h) in
    let g : None ≡ Some z.0 = sym f ∙ z.1 in
    cc

-- fewer cells are higher at the goal than the next one
pub falls : (s : Store) → IsStore s → IsDelaunay (vertices_of s) (links_of s.slots) → (q : RationalPoint) → IsInBox q
    → (id : ℕ) (vs : List ℕ) (m k y : ℕ) → IsReached s q id vs m → k < 4
    → IsBehindSide (vertices_of s) (tetrahedron_from vs) k q → (links_of s.slots).next id k ≡ Some y
    → count (λ z. is_higher (vertices_of s) q ((links_of s.slots).at y) ((links_of s.slots).at z)) (live_of s.slots)
    < count (λ z. is_higher (vertices_of s) q ((links_of s.slots).at id) ((links_of s.slots).at z)) (live_of s.slots)
falls s i d q b id vs m k y r l h f =
    (walks s i d q b).falls id k y (listed s.slots id r.live) l (behind_at s q id vs k r.loaded h) f

-- the next cell, and that the goal is not behind the side through which the walk came
pub reached : (s : Store) → IsStore s → (q : RationalPoint) (id : ℕ) (vs : List ℕ) (m k y : ℕ) (us : List ℕ) (n : ℕ)
    → IsReached s q id vs m → k < 4 → IsBehindSide (vertices_of s) (tetrahedron_from vs) k q
    → (links_of s.slots).next id k ≡ Some y → tetrahedron_from us ≡ (links_of s.slots).at y → n < 4
    → (links_of s.slots).next y n ≡ Some id → IsReached s q y us n
reached s i q id vs m k y us n r hk h f g hn e =
    let v = vertices_of s in let t = (links_of s.slots).at id in let u = (links_of s.slots).at y in
    let live : IsLive (links_of s.slots) y = (i.linked.back id k y r.live hk f).live in
    let turned = one_back v (links_of s.slots) i.linked id k y n r.live hk f live hn e in
    let z = side_turned v (facet_of t k) (facet_of u n) q turned in
    let b = behind_at s q id vs k r.loaded h in
    record {
      live = live;
      loaded = g;
      before = λ _ w. (let x = behind_at s q y us n g w in absurd (omega (arith, ints, z, b, x)));
    }

-- a walk that can not go on has come
pub lies : (s : Store) → IsStore s → IsDelaunay (vertices_of s) (links_of s.slots) → (q : RationalPoint) → IsInBox q
    → (id : ℕ) (vs : List ℕ) (m : ℕ) → IsReached s q id vs m
    → ((k : ℕ) → k < 4 → ¬ IsBehindSide (vertices_of s) (tetrahedron_from vs) k q)
    → IsLyingIn (vertices_of s) ((links_of s.slots).at id) q
lies s i d q b id vs m r h =
    (walks s i d q b).ends id
    (subst (λ (t : Tetrahedron). (k : ℕ) → k < 4 → ¬ IsBehindSide (vertices_of s) t k q) r.loaded h)

-- ---- the cells of scanners and sights
-- what the laws say of the scanner and of the sight
pub scanner_cells : (s : Store) → IsStore s → (o : place.Point) → IsWithin DATA_LIMIT o → HasScannerCell (vertices_of s) o
scanner_cells s i o h = scanner_law (vertices_of s) i.vertices.boxed o h

pub sight_cells : (s : Store) → IsStore s → (p : ℕ) → Has (vertices_of s) p → (o : place.Point) → IsWithin DATA_LIMIT o
    → HasSightCells (vertices_of s) p o
sight_cells s i p h o g = vertex_sight_law (vertices_of s) i.vertices.boxed p h o g

-- two live cells that are the scanner's are one
pub one_scanner_cell : (s : Store) → IsStore s → IsDelaunay (vertices_of s) (links_of s.slots) → (o : place.Point)
    → IsWithin DATA_LIMIT o → (x y : ℕ) → IsLive (links_of s.slots) x → IsLive (links_of s.slots) y
    → is_cell_of (vertices_of s) (displaced o) ((links_of s.slots).at x) ≡ true
    → is_cell_of (vertices_of s) (displaced o) ((links_of s.slots).at y) ≡ true → x ≡ y
one_scanner_cell s i d o h x y l m e f =
    (listing s i d).once x y (listed s.slots x l) (listed s.slots y m)
    ((scanner_cells s i o h).one ((links_of s.slots).at x) ((links_of s.slots).at y) (d.cells x l) (d.cells y m) e f)

-- likewise towards the scanner, and behind the sight
pub one_towards_cell : (s : Store) → IsStore s → IsDelaunay (vertices_of s) (links_of s.slots) → (p : ℕ) → Has (vertices_of s) p
    → (o : place.Point) → IsWithin DATA_LIMIT o → (x y : ℕ) → IsLive (links_of s.slots) x → IsLive (links_of s.slots) y
    → is_towards (vertices_of s) p (displaced o) ((links_of s.slots).at x) ≡ true
    → is_towards (vertices_of s) p (displaced o) ((links_of s.slots).at y) ≡ true → x ≡ y
one_towards_cell s i d p g o h x y l m e f =
    (listing s i d).once x y (listed s.slots x l) (listed s.slots y m)
    ((sight_cells s i p g o h).one_towards ((links_of s.slots).at x) ((links_of s.slots).at y) (d.cells x l) (d.cells y m) e f)

pub one_behind_cell : (s : Store) → IsStore s → IsDelaunay (vertices_of s) (links_of s.slots) → (p : ℕ) → Has (vertices_of s) p
    → (o : place.Point) → IsWithin DATA_LIMIT o → (x y : ℕ) → IsLive (links_of s.slots) x → IsLive (links_of s.slots) y
    → is_behind (vertices_of s) p (displaced o) ((links_of s.slots).at x) ≡ true
    → is_behind (vertices_of s) p (displaced o) ((links_of s.slots).at y) ≡ true → x ≡ y
one_behind_cell s i d p g o h x y l m e f =
    (listing s i d).once x y (listed s.slots x l) (listed s.slots y m)
    ((sight_cells s i p g o h).one_behind ((links_of s.slots).at x) ((links_of s.slots).at y) (d.cells x l) (d.cells y m) e f)
