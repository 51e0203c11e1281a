-- The facets between cells inside and outside are closed. Take all sides of the cells inside. A cell's four facets have each of
-- its six edges in both directions, so these sides are balanced. Those with an inside cell across come in pairs, a facet and
-- the same facet turned, so they are balanced too. What is left are the sides with an outside cell across, since no cell inside
-- has a facet on a wall; turned round, they are the sides of outside cells with an inside cell across.
--
-- Only that sides match is asked of the cells (AreMatched): cells of the box do, and so do those of any store (`surface`).
--
-- Stands on: Sums (pairs), CutSides, NamedBack (a facet and the turned one name each other) and RimLists (a cell's facets are
-- different).
use Rattle.std.proofs.Common.{[], ℕ, ◌+◌, ◌<◌, ◌≡◌, refl, sym, ap, subst, ◌∙◌, arith, Bool, true, false, true≢false, not, ◌&&◌}
use Rattle.std.proofs.Common.{Option, Some, None, List, ◌∷◌}
use Rattle.std.proofs.lemmas.Bool.{and_parts, and_from, not-true, not_from_false}
use Rattle.std.proofs.lemmas.List.Sums.{sum_by-cons}
use Rattle.geo_sign.specs.declared.point.TheConstants.{CORNERS}
use Rattle.geo_sign.specs.Tetrahedron.{Tetrahedron, DirectedFacet, facet_of, IsRotated}
use Rattle.geo_sign.specs.Edges.{edges_of, edge_count}
use Rattle.cell_laws.specs.ClosedLaws.{facets_at, HasNoCorner, IsCutList, ClosedLaw}
use Rattle.cell_laws.specs.Links.{Side}
use Rattle.cell_laws.specs.Lists.{IsIn}
use Rattle.geo_sign.proofs.Rotations.{turned_back, turned_turned}
use Rattle.cell_laws.proofs.CutSides.{edges_turned, boundary, side_at, all_sides, side_listed, listed_side, sides_once}
use Rattle.cell_laws.proofs.CutSides.{is_turned, turned_means, means_turned, is_same_side, same_side_means, same_side_is}
use Rattle.cell_laws.proofs.CutSides.{is_inside, corner_first}
use Rattle.cell_laws.proofs.NamedBack.{IsNamedBack, back_law}
use Rattle.cell_laws.proofs.OneFacet.{one_side}
use Rattle.cell_laws.proofs.Sums.{IsOnce, once_pairs, named_once, named_in, in_named, named_is_once, total, pick, sum_same}
use Rattle.cell_laws.proofs.Sums.{sum_plus, paired}

-- what is asked of the cells: no directed facet is at two sides, neighbors name each other across theirs, and a facet without a
-- neighbor begins at a corner
pub record AreMatched (live : List ℕ) (cell : ℕ → Tetrahedron) (next : ℕ → ℕ → Option ℕ) : Type 0 where
  pub one :
      (x y j k : ℕ) → IsIn live x → IsIn live y → j < 4 → k < 4 → IsRotated (facet_of (cell x) j) (facet_of (cell y) k) →
      (x ≡ y) × (j ≡ k)
  pub back : (x k y : ℕ) → IsIn live x → k < 4 → next x k ≡ Some y → IsIn live y × IsNamedBack cell next x k y
  pub walls : (x k : ℕ) → IsIn live x → k < 4 → next x k ≡ None → (facet_of (cell x) k).a < CORNERS

module _ (live : List ℕ) (cell : ℕ → Tetrahedron) (next : ℕ → ℕ → Option ℕ) (matched : AreMatched live cell next)
    (inside : ℕ → Bool) (free : HasNoCorner live cell inside) where
  abbrev facet_at_side : Side → DirectedFacet
  facet_at_side s = facet_of (cell s.at) s.side

  abbrev within : Side → Bool
  within s = inside s.at

  abbrev beyond : Side → Bool
  beyond s = is_inside inside (next s.at s.side)

  abbrev pair : Side → Side → Bool
  pair s t = is_turned (facet_at_side s) (facet_at_side t)

  abbrev every : List Side
  every = all_sides (named_once live)

  listed : (s : Side) → IsIn every s → IsIn live s.at × (s.side < 4)
  listed s i = let z = side_listed (named_once live) s i in (named_in live s.at z.0, z.1)

  every_has : (x k : ℕ) → IsIn live x → k < 4 → IsIn every (side_at x k)
  every_has x k i m = listed_side (named_once live) x k (in_named live x i) m

  every_once : IsOnce every
  every_once = sides_once (named_once live) (named_is_once live)

  -- two sides with one directed facet are one
  one_of_facet : (s t : Side) → IsIn every s → IsIn every t → IsRotated (facet_at_side s) (facet_at_side t) → s ≡ t
  one_of_facet s t i j r =
      let x = listed s i in
      let y = listed t j in
      let e = matched.one s.at t.at s.side t.side x.0 y.0 x.1 y.1 r in
      ap (λ n. side_at n s.side) e.0 ∙ ap (λ n. side_at t.at n) e.1

  one_partner : (s t r : Side) → IsIn every t → IsIn every r → pair s t ≡ true → pair s r ≡ true → t ≡ r
  one_partner s t r i j x y =
      one_of_facet t r i j
      (turned_turned (facet_at_side t) (facet_at_side s) (facet_at_side r)
      (turned_back (facet_at_side s) (facet_at_side t) (turned_means (facet_at_side s) (facet_at_side t) x))
      (turned_means (facet_at_side s) (facet_at_side r) y))

  pair_back : (s t : Side) → pair s t ≡ true → pair t s ≡ true
  pair_back s t e =
      means_turned (facet_at_side t) (facet_at_side s)
      (turned_back (facet_at_side s) (facet_at_side t) (turned_means (facet_at_side s) (facet_at_side t) e))

  -- the other side of a facet
  record IsMate (s : Side) (y : ℕ) : Type 0 where
    mate : Side
    in_every : IsIn every mate
    within_is : within mate ≡ inside y
    beyond_is : beyond mate ≡ within s
    turned : pair s mate ≡ true

  mate_of : (s : Side) (y : ℕ) → IsIn every s → next s.at s.side ≡ Some y → IsMate s y
  mate_of s y i e =
      let x = listed s i in
      let b = matched.back s.at s.side y x.0 x.1 e in
      record {
        mate = side_at y b.1.side;
        in_every = every_has y b.1.side b.0 b.1.in_range;
        within_is = refl;
        beyond_is = ap (is_inside inside) b.1.named;
        turned = means_turned (facet_of (cell s.at) s.side) (facet_of (cell y) b.1.side) b.1.turned;
      }

  -- a side with an inside cell across has its other side there
  over :
      (s : Side) → IsIn every s → beyond s ≡ true →
      (t : Side) × IsIn every t × (within t ≡ true) × (beyond t ≡ within s) × (pair s t ≡ true)
  over s i e = by (next s.at s.side) refl e
    where
      by :
          (o : Option ℕ) → next s.at s.side ≡ o → is_inside inside o ≡ true →
          (t : Side) × IsIn every t × (within t ≡ true) × (beyond t ≡ within s) × (pair s t ≡ true)
      by None n h = absurd (true≢false (sym h))
      by (Some y) n h = let m = mate_of s y i n in (m.mate, m.in_every, m.within_is ∙ h, m.beyond_is, m.turned)

  -- and an inside cell's side with none across has an outside cell there
  out :
      (s : Side) → IsIn every s → within s ≡ true → beyond s ≡ false →
      (t : Side) × IsIn every t × (within t ≡ false) × (beyond t ≡ true) × (pair s t ≡ true)
  out s i h e = by (next s.at s.side) refl e
    where
      by :
          (o : Option ℕ) → next s.at s.side ≡ o → is_inside inside o ≡ false →
          (t : Side) × IsIn every t × (within t ≡ false) × (beyond t ≡ true) × (pair s t ≡ true)
      by None n k =
          let x = listed s i in
          let low = matched.walls s.at s.side x.0 x.1 n in
          let c = corner_first (cell s.at) s.side x.1 in
          let high = free s.at c.0 x.0 h c.1 in
          let same = c.2 in
          absurd (omega (arith, low, high, same))
      by (Some y) n k = let m = mate_of s y i n in (m.mate, m.in_every, m.within_is ∙ k, m.beyond_is ∙ h, m.turned)

  abbrev edges : (u w : ℕ) → Side → ℕ
  edges u w s = edges_of u w (facet_at_side s)

  abbrev inner : Side → Bool
  inner s = within s && beyond s

  abbrev rim : Side → Bool
  rim s = within s && not (beyond s)

  abbrev cut : Side → Bool
  cut s = not (within s) && beyond s

  same_edges : (u w : ℕ) (s t : Side) → pair s t ≡ true → edges u w s ≡ edges w u t
  same_edges u w s t e =
      edges_turned u w (facet_at_side s) (facet_at_side t) (turned_means (facet_at_side s) (facet_at_side t) e)

  inner_even : (u w : ℕ) → total (λ s. pick (edges u w s) (inner s)) every ≡ total (λ s. pick (edges w u s) (inner s)) every
  inner_even u w =
      paired pair every every inner inner (edges u w) (edges w u) every_once every_once
      (record {
        partner =
            λ s i e. (let x = and_parts (within s) (beyond s) e in
            let t = over s i x.1 in
            (t.0, t.1, and_from (within t.0) (beyond t.0) t.2 (t.3 ∙ x.0), t.4));
        partner_of =
            λ s i e. (let x = and_parts (within s) (beyond s) e in
            let t = over s i x.1 in
            (t.0, t.1, and_from (within t.0) (beyond t.0) t.2 (t.3 ∙ x.0), pair_back s t.0 t.4));
        one = λ s t r i j k x y. one_partner s t r j k x y;
        one_of = λ s r t i k j x y. one_partner t s r i k (pair_back s t x) (pair_back r t y);
        same = same_edges u w;
      })

  rim_cut : (u w : ℕ) → total (λ s. pick (edges u w s) (rim s)) every ≡ total (λ s. pick (edges w u s) (cut s)) every
  rim_cut u w =
      paired pair every every rim cut (edges u w) (edges w u) every_once every_once
      (record {
        partner = λ s i e.
            (let x = and_parts (within s) (not (beyond s)) e in
            let t = out s i x.0 (not-true (beyond s) x.1) in
            (t.0, t.1, and_from (not (within t.0)) (beyond t.0) (not_from_false (within t.0) t.2) t.3, t.4));
        partner_of = λ s i e.
            (let x = and_parts (not (within s)) (beyond s) e in
            let t = over s i x.1 in (
              t.0,
              t.1,
              and_from (within t.0) (not (beyond t.0)) t.2 (not_from_false (beyond t.0) (t.3 ∙ not-true (within s) x.0)),
              pair_back s t.0 t.4,
            ));
        one = λ s t r i j k x y. one_partner s t r j k x y;
        one_of = λ s r t i k j x y. one_partner t s r i k (pair_back s t x) (pair_back r t y);
        same = same_edges u w;
      })

  -- the sides of the cells inside are balanced
  all_even :
      (u w : ℕ) (xs : List ℕ) →
      total (λ s. pick (edges u w s) (within s)) (all_sides xs) ≡ total (λ s. pick (edges w u s) (within s)) (all_sides xs)
  all_even u w [] = refl
  all_even u w (x ∷ xs) = by (inside x) (all_even u w xs)
    where
      by :
          (c : Bool) →
          total (λ s. pick (edges u w s) (within s)) (all_sides xs) ≡ total (λ s. pick (edges w u s) (within s)) (all_sides xs)
          → pick (edges u w (side_at x 0)) c
          + (pick (edges u w (side_at x 1)) c
          + (pick (edges u w (side_at x 2)) c
          + (pick (edges u w (side_at x 3)) c + total (λ s. pick (edges u w s) (within s)) (all_sides xs))))
          ≡ pick (edges w u (side_at x 0)) c
          + (pick (edges w u (side_at x 1)) c
          + (pick (edges w u (side_at x 2)) c
          + (pick (edges w u (side_at x 3)) c + total (λ s. pick (edges w u s) (within s)) (all_sides xs))))
      by true e =
          five (edges u w (side_at x 0)) (edges u w (side_at x 1)) (edges u w (side_at x 2)) (edges u w (side_at x 3))
          (total (λ s. pick (edges u w s) (within s)) (all_sides xs))
          (edges w u (side_at x 0)) (edges w u (side_at x 1)) (edges w u (side_at x 2)) (edges w u (side_at x 3))
          (total (λ s. pick (edges w u s) (within s)) (all_sides xs)) (boundary u w (cell x)) e
        where
          five :
              (a b c d e a' b' c' d' e' : ℕ) → a + (b + (c + d)) ≡ a' + (b' + (c' + d')) → e ≡ e' →
              a + (b + (c + (d + e))) ≡ a' + (b' + (c' + (d' + e')))
          five a b c d e a' b' c' d' e' x y = omega (arith, x, y)
      by false e = ap (λ n. 0 + (0 + (0 + (0 + n)))) e

  parts :
      (u w : ℕ) → total (λ s. pick (edges u w s) (within s)) every ≡
      total (λ s. pick (edges u w s) (inner s)) every + total (λ s. pick (edges u w s) (rim s)) every
  parts u w =
      sum_same (λ s. pick (edges u w s) (within s)) (λ s. pick (edges u w s) (inner s) + pick (edges u w s) (rim s)) every
      (λ s i. split (edges u w s) (within s) (beyond s))
      ∙ sum_plus (λ s. pick (edges u w s) (inner s)) (λ s. pick (edges u w s) (rim s)) every
    where
      split : (n : ℕ) (a c : Bool) → pick n a ≡ pick n (a && c) + pick n (a && not c)
      split n true true = omega arith
      split n true false = omega arith
      split n false c = refl

  cut_even : (u w : ℕ) → total (λ s. pick (edges u w s) (cut s)) every ≡ total (λ s. pick (edges w u s) (cut s)) every
  cut_even u w =
      let a = all_even u w (named_once live) in
      let i = inner_even u w in
      let p = parts u w in
      let q = parts w u in
      let x = rim_cut u w in
      let y = rim_cut w u in
      omega (arith, a, i, p, q, x, y)

  -- ---- a list of the sides of outside cells with an inside cell across
  module _ (sides : List Side) (c : IsCutList live next inside sides) where
    cut_is : (s : Side) → IsIn sides s → cut s ≡ true
    cut_is s i =
        let y = c.across s i in
        and_from (not (within s)) (beyond s) (not_from_false (within s) (c.outside s i)) (ap (is_inside inside) y.1 ∙ y.2)

    cut_in : (s : Side) → IsIn every s → cut s ≡ true → IsIn sides s
    cut_in s i e = let x = and_parts (not (within s)) (beyond s) e in by (next s.at s.side) refl x.0 x.1
      where
        by : (o : Option ℕ) → next s.at s.side ≡ o → not (within s) ≡ true → is_inside inside o ≡ true → IsIn sides s
        by None n h k = absurd (true≢false (sym k))
        by (Some y) n h k = let z = listed s i in c.all s y z.0 z.1 (not-true (within s) h) n k

    listed_total : (u w : ℕ) → total (λ s. pick (edges u w s) true) sides ≡ total (λ s. pick (edges u w s) (cut s)) every
    listed_total u w =
        paired is_same_side sides every (λ s. true) cut (edges u w) (edges u w) (once_pairs sides c.once) every_once
        (record {
          partner = λ s i e. (s, every_has s.at s.side (c.listed s i) (c.in_range s i), cut_is s i, same_side_is s);
          partner_of = λ s i e. (s, cut_in s i e, refl, same_side_is s);
          one = λ s t r i j k x y. sym (same_side_means s t x) ∙ same_side_means s r y;
          one_of = λ s r t i k j x y. same_side_means s t x ∙ sym (same_side_means r t y);
          same = λ s t e. ap (edges u w) (same_side_means s t e);
        })

    counted : (u w : ℕ) (list : List Side) → edge_count u w (facets_at cell list) ≡ total (λ s. pick (edges u w s) true) list
    counted u w [] = refl
    counted u w (s ∷ list) =
        sum_by-cons (edges_of u w) (facet_at_side s) (facets_at cell list) ∙ ap (λ n. edges u w s + n) (counted u w list)

    pub closed_sides : (u w : ℕ) → edge_count u w (facets_at cell sides) ≡ edge_count w u (facets_at cell sides)
    closed_sides u w = counted u w sides ∙ listed_total u w ∙ cut_even u w ∙ sym (listed_total w u) ∙ sym (counted w u sides)

pub closed_law : ClosedLaw
closed_law v b live cell next l cells inside free sides c =
    closed_sides live cell next
    (record {
      one = λ x y j k h g m n r.
          (let e : x ≡ y = l.apart x y j k h g m n r in (
            e,
            one_side v (cell x) j k m n (cells x h).positive
                (subst (λ z. IsRotated (facet_of (cell x) j) (facet_of (cell z) k)) (sym e) r),
          ));
      back = λ x k y h m e. ((l.back x k y h m e).listed, back_law v b live cell next l cells x k y h m e);
      walls = λ x k h m e. (l.walls x k h m e).first;
    }) inside free sides c
