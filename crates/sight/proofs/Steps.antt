-- A walk along a sight, step by step: the facets to come are those of the path from the cell reached, a step takes the first
-- of them, and what is kept of a walk is kept.
--
-- From each cell on the sight there is one path, and `sides_from` is it (sides_are). In a cell with an exit the path is not
-- empty and begins with the facet of the exit (taken), and there is a cell across, since the scanner is beyond it (goes_on);
-- in the scanner's cell the path is empty (none_left). The cell across is on the sight again, entered through the facet
-- turned round (walks_on, front_on). Where the walk is told its end and is not there yet, the one facet that may be the exit
-- is it (ahead_there).
use Rattle.std.proofs.Common.{ℕ, ◌<◌, ◌≡◌, inl, ⊎_elim, refl, sym, ap, subst, ◌∙◌, Bool, true, false, Some, None, List, [], ◌∷◌}
use Rattle.std.proofs.Common.{slice_index, length, arith}
use Rattle.geo_sign.specs.Cells.{IsCell}
use Rattle.geo_sign.specs.Point.{Point}
use Rattle.geo_sign.specs.Rational.{RationalPoint, displaced}
use Rattle.geo_sign.specs.Sights.{is_crossed, is_towards, is_cell_of}
use Rattle.geo_sign.specs.Tetrahedron.{Tetrahedron, facet_at, facet_of, vertex_of, turned, IsTurned}
use Rattle.geo_sign.proofs.Rotations.{turned_turned, turned_back}
use Rattle.cell_laws.specs.Links.{Side}
use Rattle.cell_laws.specs.Lists.{IsIn}
use Rattle.cell_laws.specs.Paths.{IsOnSight}
use Rattle.cell_laws.specs.WalkLaws.{IsPassedOnce}
use Rattle.cell_laws.proofs.Scanners.{near_law}
use Rattle.cell_laws.proofs.SightLaws.{left_of}
use Rattle.tetra_store.specs.Links.{links_of, tetrahedron_from, IsLive, IsBack}
use Rattle.tetra_store.specs.Store.{Store, vertices_of, IsStore}
use Rattle.tetra_store.specs.Stored.{live_of}
use Rattle.tetra_store.proofs.Keeps.{vertex_index}
use Rattle.tetra_walk.proofs.Bridge.{listed, live}
use Rattle.tetra_walk.proofs.Backs.{one_back}
use Rattle.tetra_walk.proofs.Ends.{walks, one_scanner_cell}
use Rattle.sight.specs.declared.exit.Reached.{Reached}
use Rattle.sight.specs.declared.image.Ray.{Ray}
use Rattle.sight.specs.Exits.{IsExit}
use Rattle.sight.specs.Fronts.{AreSeen, KeepsFront, GoesOut, HasArrived}
use Rattle.sight.specs.Walks.{sides_from, walk_of, IsSight, IsGoneOn, IsEndCell, IsWalking}
use Rattle.sight.proofs.Exits.{on_sight}
use Rattle.sight.proofs.Paths.{IsGiven, passed, paths, IsPathOf, IsStepOf, comes_in, step_is, sides_are}

-- ---- what a walk keeps
given : (s : Store) (r : Ray) (c : Reached) → IsStore s → IsWalking s r c → IsGiven s r.vertex r.scanner
given s r c i w = record { store = i; delaunay = w.delaunay; inserted = w.inserted; data_point = w.data_point }

exit_at : (s : Store) (r : Ray) (c : Reached) (j : ℕ) → IsWalking s r c → GoesOut s r c j
    → IsExit (vertices_of s) r.vertex (displaced r.scanner) ((links_of s.slots).at c.at) j
exit_at s r c j w h = subst (λ (t : Tetrahedron). IsExit (vertices_of s) r.vertex (displaced r.scanner) t j) (sym w.loaded) h

-- the cell reached is a cell over distinct vertices that there are, and the sight passes it once
pub cell_at : (s : Store) (r : Ray) (c : Reached) → IsWalking s r c → let t = tetrahedron_from c.vertices in
    IsCell (vertices_of s) t.a t.b t.c t.d
cell_at s r c w = subst (λ (t : Tetrahedron). IsCell (vertices_of s) t.a t.b t.c t.d) w.loaded (w.delaunay.cells c.at w.live)

pub distinct_at : (s : Store) (r : Ray) (c : Reached) → IsStore s → IsWalking s r c → (i j : ℕ) → i < 4 → j < 4
    → slice_index c.vertices i ≡ slice_index c.vertices j → i ≡ j
distinct_at s r c h w i j l m e =
    h.linked.distinct c.at i j w.live l m
    (subst (λ (t : Tetrahedron). vertex_of t i ≡ vertex_of t j) (sym w.loaded)
    (vertex_index c.vertices i l ∙ e ∙ sym (vertex_index c.vertices j m)))

pub known_at : (s : Store) (r : Ray) (c : Reached) → IsStore s → IsWalking s r c → (i : ℕ) → i < 4
    → slice_index c.vertices i < length s.points
known_at s r c h w i l = grind (arith, vertex_index, h.linked.has c.at i w.live l)

pub passed_at : (s : Store) (r : Ray) (c : Reached) → IsStore s → IsWalking s r c
    → IsPassedOnce (vertices_of s) r.vertex (displaced r.scanner) (tetrahedron_from c.vertices)
passed_at s r c i w = grind (arith, passed, given)

pub goes_on : (s : Store) (r : Ray) (c : Reached) (j : ℕ) → IsStore s → IsWalking s r c → GoesOut s r c j
    → (links_of s.slots).next c.at j ≡ None → ⊥
goes_on s r c j i w h e =
    let out = exit_at s r c j w h in
    let z : (y : ℕ) × ((links_of s.slots).next c.at j ≡ Some y) × IsIn (live_of s.slots) y =
    (walks s i w.delaunay (displaced r.scanner) (near_law r.scanner r.scanner w.data_point w.data_point).scanner_in_box).goes_on c.at j
    (listed s.slots c.at w.live) out.side_in
    (left_of (vertices_of s) r.vertex (displaced r.scanner) (facet_of ((links_of s.slots).at c.at) j) out.left).ahead in
    let f : None ≡ Some z.0 = sym e ∙ z.1 in
    cc

pub none_left : (s : Store) (r : Ray) (c : Reached) → IsStore s → IsWalking s r c → HasArrived s r c → (walk_of s r c).to_come ≡ []
none_left s r c i w h =
    sides_are s r.vertex r.scanner (given s r c i w) [] c.at w.live
    (subst (λ (t : Tetrahedron). is_cell_of (vertices_of s) (displaced r.scanner) t ≡ true) (sym w.loaded) h)

pub not_end : (s : Store) (r : Ray) (c : Reached) (j : ℕ) → IsStore s → IsWalking s r c → GoesOut s r c j
    → is_cell_of (vertices_of s) (displaced r.scanner) ((links_of s.slots).at c.at) ≡ false
not_end s r c j i w h = by (is_cell_of (vertices_of s) (displaced r.scanner) ((links_of s.slots).at c.at)) refl
  where
    by : (b : Bool) → is_cell_of (vertices_of s) (displaced r.scanner) ((links_of s.slots).at c.at) ≡ b
        → is_cell_of (vertices_of s) (displaced r.scanner) ((links_of s.slots).at c.at) ≡ false
    by true e =
        absurd ((passed s r.vertex r.scanner (given s r c i w) c.at w.live).not_both j (exit_at s r c j w h).left e)
    by false e = e

-- ---- the sight
pub sight : (s : Store) (p : ℕ) (o : Point) (x : ℕ) → IsGiven s p o → IsLive (links_of s.slots) x
    → is_towards (vertices_of s) p (displaced o) ((links_of s.slots).at x) ≡ true
    → IsSight (record { store = s; vertex = p; scanner = o; at = x; entered = 4; to_come = sides_from s p o x })
sight s p o x g l h =
    let laws = paths s p o g in
    let path : (cs : List Side) × IsPathOf s p o x cs = laws.some x (listed s.slots x l) (inl h) in
    subst (λ (cs : List Side). IsSight (record { store = s; vertex = p; scanner = o; at = x; entered = 4; to_come = cs }))
    (sym (sides_are s p o g path.0 x l path.1))
    (record {
      begun = refl;
      live = l;
      towards = h;
      path = path.1;
      crossed = λ c i. (let z = laws.crossed x path.0 path.1 c i in (live s.slots c.at z.0, z.1, z.2));
      counted = λ c i b. laws.counted x path.0 (listed s.slots x l) h path.1 c (listed s.slots c.at i) b;
      nearing = laws.nearing x path.0 path.1;
    })

-- ---- how a walk goes on
-- d is the cell across side j of c, entered through the side of it that names c
pub record IsNext (s : Store) (c : Reached) (j : ℕ) (d : Reached) : Type 0 where
  pub across : (links_of s.slots).next c.at j ≡ Some d.at
  pub loaded : tetrahedron_from d.vertices ≡ (links_of s.slots).at d.at
  pub side_in : d.entered < 4
  pub back : (links_of s.slots).next d.at d.entered ≡ Some c.at

-- the crossing that is taken is the first to come
taken : (s : Store) (r : Ray) (c : Reached) (j : ℕ) (d : Reached) → IsStore s → IsWalking s r c → GoesOut s r c j → IsNext s c j d
    → (walk_of s r c).to_come ≡ record { at = d.at; side = d.entered } ∷ (walk_of s r d).to_come
taken s r c j d i w h n = by path.0 path.1
  where
    g : IsGiven s r.vertex r.scanner
    g = given s r c i w

    out : IsExit (vertices_of s) r.vertex (displaced r.scanner) ((links_of s.slots).at c.at) j
    out = exit_at s r c j w h

    path : (cs : List Side) × IsPathOf s r.vertex r.scanner c.at cs
    path =
        (paths s r.vertex r.scanner g).some c.at (listed s.slots c.at w.live)
        (subst (λ (t : Tetrahedron). IsOnSight (vertices_of s) r.vertex (displaced r.scanner) t) (sym w.loaded)
        (on_sight (vertices_of s) r.vertex (displaced r.scanner) (tetrahedron_from c.vertices) c.entered w.came))

    by : (cs : List Side) → IsPathOf s r.vertex r.scanner c.at cs
        → (walk_of s r c).to_come ≡ record { at = d.at; side = d.entered } ∷ (walk_of s r d).to_come
    by [] q = absurd ((passed s r.vertex r.scanner g c.at w.live).not_both j out.left q)
    by (e ∷ es) q =
        let t : IsStepOf s r.vertex r.scanner c.at e = q.0 in
        let is : e ≡ record { at = d.at; side = d.entered } =
        step_is s r.vertex r.scanner g c.at j d.at d.entered w.live out n.across n.side_in n.back e t in
        let rest : sides_from s r.vertex r.scanner e.at ≡ es =
        sides_are s r.vertex r.scanner g es e.at (live s.slots e.at t.listed) q.1 in
        sides_are s r.vertex r.scanner g (e ∷ es) c.at w.live q ∙ ap (λ (ds : List Side). e ∷ ds) (sym rest)
        ∙ ap (λ (z : Side). z ∷ sides_from s r.vertex r.scanner z.at) is

pub walks_on : (s : Store) (r : Ray) (c : Reached) (j : ℕ) (d : Reached) → IsStore s → IsWalking s r c → GoesOut s r c j
    → IsNext s c j d → IsWalking s r d
walks_on s r c j d i w h n =
    let z = comes_in s r.vertex r.scanner i c.at j d.at d.entered w.live (exit_at s r c j w h) n.across n.side_in n.back in
    record {
      delaunay = w.delaunay;
      inserted = w.inserted;
      data_point = w.data_point;
      live = z.0;
      loaded = sym n.loaded;
      came =
          inl (
            n.side_in,
            subst (λ (t : Tetrahedron). is_crossed (vertices_of s) r.vertex (displaced r.scanner) (facet_of t d.entered) ≡ true)
                (sym n.loaded) z.1,
          );
    }

-- the facet of the exit in the other direction is that through which the sight comes in
pub front_on : (s : Store) (r : Ray) (c : Reached) (j : ℕ) (d : Reached) → IsStore s → IsWalking s r c → GoesOut s r c j
    → IsNext s c j d → length d.front.vertices ≡ 3 → length d.front.images ≡ 3
    → IsTurned (facet_of (tetrahedron_from c.vertices) j) (facet_at d.front.vertices) → AreSeen s r d.front → KeepsFront s r d
front_on s r c j d i w h n three images turned seen =
    let back : IsBack (links_of s.slots) c.at j d.at = i.linked.back c.at j d.at w.live h.side_in n.across in
    let t = one_back (vertices_of s) (links_of s.slots) i.linked c.at j d.at d.entered w.live h.side_in n.across back.live n.side_in n.back in
    let f = facet_of (tetrahedron_from c.vertices) j in let g = facet_of (tetrahedron_from d.vertices) d.entered in
    let own : IsTurned f g =
    subst (λ (q : Tetrahedron). IsTurned (facet_of q j) g) w.loaded
    (subst (λ (q : Tetrahedron). IsTurned (facet_of ((links_of s.slots).at c.at) j) (facet_of q d.entered)) (sym n.loaded) t) in
    record {
      three = three;
      three_images = images;
      facet = λ l. turned_turned g f (facet_at d.front.vertices) (turned_back f g own) turned;
      seen = seen;
    }

-- the walk before and after a step
pub gone_on : (s : Store) (r : Ray) (c : Reached) (j : ℕ) (d : Reached) → IsStore s → IsWalking s r c → GoesOut s r c j
    → IsNext s c j d → IsGoneOn (walk_of s r c) (walk_of s r d)
gone_on s r c j d i w h n =
    record {
      same = (refl, refl, refl);
      first = taken s r c j d i w h n;
      side_in = n.side_in;
      live = (comes_in s r.vertex r.scanner i c.at j d.at d.entered w.live (exit_at s r c j w h) n.across n.side_in n.back).0;
      across = n.back;
    }

-- ---- a walk whose end is known
pub ahead_there : (s : Store) (r : Ray) (c : Reached) (j e : ℕ) → IsStore s → IsWalking s r c → IsEndCell s r.scanner e → ¬ (c.at ≡ e)
    → ((i : ℕ) → GoesOut s r c i → i ≡ j) → GoesOut s r c j
ahead_there s r c j e h w end n only =
    let q : RationalPoint = displaced r.scanner in let t = tetrahedron_from c.vertices in
    ⊎_elim
    (λ (z : (i : ℕ) × (i < 4) × (is_crossed (vertices_of s) r.vertex q (turned (facet_of t i)) ≡ true)).
    let y : GoesOut s r c z.0 = record { side_in = z.1; left = z.2 } in subst (λ (i : ℕ). GoesOut s r c i) (only z.0 y) y)
    (λ (z : is_cell_of (vertices_of s) q t ≡ true).
    absurd (n (one_scanner_cell s h w.delaunay r.scanner w.data_point c.at e w.live end.live
    (subst (λ (u : Tetrahedron). is_cell_of (vertices_of s) q u ≡ true) (sym w.loaded) z) end.is)))
    ((passed_at s r c h w).exit_or_end (on_sight (vertices_of s) r.vertex q t c.entered w.came))
