-- The mesh is closed. The sides between cells outside and inside are closed by the law of `cell_laws`, since no cell inside has a
-- corner. A facet has the same edges from its least number on. Renumbering keeps it.
--
-- The law asks that sides match, as those of a store do (matched), and for a list of the sides that are cut, each once: the code's
-- list in its words (cut_list). The facets of that list have the edges of the cells' facets (counted). mesh_closed is the same of
-- the faces, whose vertices are numbered anew.
use Rattle.std.proofs.Common.{ℕ, ◌+◌, ◌<◌, ◌≤◌, ◌≡◌, ◌≢◌, refl, sym, ap, ap₂, subst, ◌∙◌, inl, inr, arith, Bool, true, false}
use Rattle.std.proofs.Common.{◌||◌, nat_lt, not, Option, Some, List, [], ◌∷◌, length, get_or, map, AllPairs, Contains}
use Rattle.std.proofs.lemmas.Bool.{ltb-false, or_parts, not-true, not-false, not_from_false}
use Rattle.std.proofs.lemmas.List.{get_or-map, length-map}
use Rattle.std.proofs.lemmas.List.Sums.{sum_by-cons}
use Rattle.flow_net.specs.Nets.{flag_at}
use Rattle.geo_sign.specs.Tetrahedron.{Tetrahedron, DirectedFacet, facet_of, facet_at, vertex_of, IsRotated}
use Rattle.geo_sign.specs.Point.{Point}
use Rattle.geo_sign.specs.Vertices.{Vertices}
use Rattle.geo_sign.proofs.Members.{here, there}
use Rattle.geo_sign.specs.Edges.{edges_of, edge_count}
use Rattle.cell_laws.specs.ClosedLaws.{facets_at, IsCutList}
use Rattle.cell_laws.specs.Links as laws
use Rattle.cell_laws.specs.Lists.{IsIn}
use Rattle.cell_laws.proofs.Closedness.{AreMatched, closed_sides as sides_are_closed}
use Rattle.cell_laws.proofs.RisingRows as rows
use Rattle.mesh.specs.Meshes.{IsFace, IsFaceList, mesh_of, new_number}
use Rattle.visibility.specs.Votes.{has_corner}
use Rattle.tetra_store.specs.declared.link.Cell.{Cell}
use Rattle.tetra_store.specs.Links.{links_of, IsLinked, IsLive}
use Rattle.tetra_store.specs.Stored.{live_of}
use Rattle.cell_net.specs.declared.sides.Side.{Side}
use Rattle.cell_net.specs.CellRows.{least_first}
use Rattle.cell_net.specs.CutSides.{AreCutSides, IsCutSide}
use Rattle.cell_net.specs.Parts.{facet_of_side}
use Rattle.cell_net.proofs.CellRows.{least_rotated}
use Rattle.cell_net.proofs.Entries.{map_has, map_gets}
use Rattle.cell_net.proofs.Nodes.{no_side}
use Rattle.cell_net.proofs.Stored as stored
use Rattle.surface.specs.Closed.{IsClosed}
use Rattle.surface.specs.Labelled.{NoneHasCorner}
use Rattle.surface.proofs.StoreCut.{one_of_facet}
use Rattle.surface.proofs.Renumbered.{IsBelow, renamed, renumbered}

-- a side in the words of the laws
abbrev named : Side → laws.Side
named x = record { at = x.id; side = x.side }

-- a rotated facet has the same edges
edges_rotated : (u w : ℕ) (f g : DirectedFacet) → IsRotated f g → edges_of u w g ≡ edges_of u w f
edges_rotated u w f g (inl e) = ap (edges_of u w) e
edges_rotated u w f g (inr (inl e)) = grind arith
edges_rotated u w f g (inr (inr e)) = grind arith

-- four tests that all fail
none_low : (t : Tetrahedron) (k : ℕ) → has_corner t ≡ false → k < 4 → 8 ≤ vertex_of t k
none_low t k h l =
    let p = or_parts (nat_lt t.a 8 || nat_lt t.b 8 || nat_lt t.c 8) (nat_lt t.d 8) h in
    let q = or_parts (nat_lt t.a 8 || nat_lt t.b 8) (nat_lt t.c 8) p.0 in
    let r = or_parts (nat_lt t.a 8) (nat_lt t.b 8) q.0 in
    by k l (ltb-false t.a 8 r.0) (ltb-false t.b 8 r.1) (ltb-false t.c 8 q.1) (ltb-false t.d 8 p.1)
  where
    by : (k : ℕ) → k < 4 → 8 ≤ t.a → 8 ≤ t.b → 8 ≤ t.c → 8 ≤ t.d → 8 ≤ vertex_of t k
    by k l a b c d = grind arith

-- cells with no flag have no corner, where these are the cells inside
pub none_flagged : (slots : List (Option Cell)) (inside : ℕ → Bool) (outside : List Bool) → NoneHasCorner slots inside
    → ((x : ℕ) → IsLive (links_of slots) x → flag_at outside x ≡ not (inside x)) → (x k : ℕ)
    → IsLive (links_of slots) x → not (flag_at outside x) ≡ true → k < 4 → 8 ≤ vertex_of ((links_of slots).at x) k
none_flagged slots inside outside none flags x k h free l =
    none_low ((links_of slots).at x) k
    (none x h (not-false (inside x) (sym (flags x h) ∙ not-true (flag_at outside x) free))) l

module _ (v : Vertices) (slots : List (Option Cell)) (linked : IsLinked v (links_of slots)) (outside : List Bool)
    (free : (x k : ℕ) → IsLive (links_of slots) x → not (flag_at outside x) ≡ true → k < 4
    → 8 ≤ vertex_of ((links_of slots).at x) k)
    (sides : List Side) (are : AreCutSides slots outside sides) where
  abbrev cell : ℕ → Tetrahedron
  cell = (links_of slots).at

  abbrev next : ℕ → ℕ → Option ℕ
  next = (links_of slots).next

  abbrev inside : ℕ → Bool
  inside x = not (flag_at outside x)

  once : AllPairs (λ (r t : laws.Side). r ≢ t) (map named sides)
  once i j d l m e =
      let n = length-map sides named in
      let lj : j < length sides = omega (arith, m, n) in
      let li : i < length sides = omega (arith, l, lj) in
      let x = get_or sides i no_side in
      let y = get_or sides j no_side in
      let same : named x ≡ named y = sym (get_or-map named sides i no_side d li) ∙ e ∙ get_or-map named sides j no_side d lj in
      let id : x.id ≡ y.id = ap (λ (r : laws.Side). r.at) same in
      let side : x.side ≡ y.side = ap (λ (r : laws.Side). r.side) same in
      let k = are.once i j no_side li lj (omega (arith, id, side)) in
      absurd (omega (arith, l, k))

  -- what the law asks of a side of the list
  abbrev IsCut : laws.Side → Type 0
  IsCut r =
      IsIn (live_of slots) r.at × (r.side < 4) × (inside r.at ≡ false) × ((y : ℕ) × (next r.at r.side ≡ Some y) × (inside y ≡ true))

  is_cut : (r : laws.Side) → IsIn (map named sides) r → IsCut r
  is_cut r i =
      let p = map_has named sides r (rows.listed (map named sides) r i) in
      let q : IsCutSide slots outside p.from = are.each p.from p.listed in
      subst IsCut p.is (
        stored.listed slots p.from.id q.live,
        q.in_range,
        ap not q.own,
        (q.other, q.next, not_from_false (flag_at outside q.other) q.inside),
      )

  cut_list : IsCutList (live_of slots) next inside (map named sides)
  cut_list = record {
    listed = λ r i. (is_cut r i).0;
    in_range = λ r i. (is_cut r i).1;
    outside = λ r i. (is_cut r i).2;
    across = λ r i. (is_cut r i).3;
    all = λ r y l m h n k.
        (let z =
        are.all r.at r.side y m n (not-false (flag_at outside r.at) h) (not-true (flag_at outside y) k) in
        let is : named z.0 ≡ r = ap₂ (λ (x k : ℕ). let side : laws.Side = record { at = x; side = k } in side) z.2 z.3 in
        rows.is_listed (map named sides) r (subst (Contains (map named sides)) is (map_gets named sides z.0 z.1)));
    once = once;
  }

  matched : AreMatched (live_of slots) cell next
  matched = record {
    one = λ x y j k h g. one_of_facet v slots linked x y j k (stored.live slots x h) (stored.live slots y g);
    back = λ x k y h m e.
        (let b = linked.back x k y (stored.live slots x h) m e in (
          stored.listed slots y b.live,
          record { side = b.side; in_range = b.in_range; turned = b.turned; named = b.named },
        ));
    walls = λ x k h m e. (linked.walls x k (stored.live slots x h) m e).first;
  }

  -- the facets of the sides have the edges that the cells' facets have
  counted : (u w : ℕ) (xs : List Side) → ((x : Side) → Contains xs x → Contains sides x)
      → edge_count u w (map facet_at (map facet_of_side xs)) ≡ edge_count u w (facets_at cell (map named xs))
  counted u w [] h = refl
  counted u w (x ∷ xs) h =
      let f : DirectedFacet = facet_of (cell x.id) x.side in
      let e : edges_of u w (facet_at x.facet) ≡ edges_of u w f =
      ap (λ (r : List ℕ). edges_of u w (facet_at r)) (are.each x (h x (here x xs))).facet_is
      ∙ edges_rotated u w f (least_first f) (least_rotated f) in
      sum_by-cons (edges_of u w) (facet_at x.facet) (map facet_at (map facet_of_side xs))
      ∙ ap₂ (λ (m n : ℕ). m + n) e (counted u w xs (λ y c. h y (there x y xs c)))
      ∙ sym (sum_by-cons (edges_of u w) f (facets_at cell (map named xs)))

  pub closed_sides : IsClosed (map facet_of_side sides)
  closed_sides u w =
      counted u w sides (λ x h. h)
      ∙ sides_are_closed (live_of slots) cell next matched inside (λ x k h. free x k (stored.live slots x h)) (map named sides)
      cut_list u w ∙ sym (counted w u sides (λ x h. h))

-- ---- faces
face_below : (n : ℕ) (f : List ℕ) → IsFace n f → IsBelow n (facet_at f)
face_below n f h = grind arith

face_renamed : (number : ℕ → ℕ) (n : ℕ) (f : List ℕ) → IsFace n f → facet_at (map number f) ≡ renamed number (facet_at f)
face_renamed number n f h = grind arith

faces_renamed : (number : ℕ → ℕ) (n : ℕ) (faces : List (List ℕ)) → ((f : List ℕ) → Contains faces f → IsFace n f)
    → map facet_at (map (map number) faces) ≡ map (renamed number) (map facet_at faces)
faces_renamed number n [] h = refl
faces_renamed number n (f ∷ fs) h =
    grind (arith, face_renamed, here, there, faces_renamed number n fs (λ g c. h g (there f g fs c)), h f (here f fs))

pub mesh_closed : (n : ℕ) (points : List Point) (faces : List (List ℕ)) → IsFaceList n faces → IsClosed faces
    → IsClosed (mesh_of points faces).faces
mesh_closed n points faces list closed i j =
    let number = new_number faces in
    let face = λ (f : List ℕ) (c : Contains faces f). subst (IsFace n) c.2 (list.each c.0 f c.1) in
    let e = faces_renamed number n faces face in
    ap (edge_count i j) e
    ∙ renumbered number n (map facet_at faces)
    (λ f c. (let p = map_has facet_at faces f (rows.listed (map facet_at faces) f c) in
    subst (IsBelow n) p.is (face_below n p.from (face p.from p.listed)))) closed i j
    ∙ sym (ap (edge_count j i) e)
