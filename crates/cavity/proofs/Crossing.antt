-- Crossing one side of a cell of the flood keeps what the flood keeps, each of the three ways.
--
-- Sides are counted through the list of cells: side k of cell j is number 4 * j + k, and those below n were crossed. What was
-- known of the sides before stays known, since both lists only grow at their end. Of the side that is crossed now:
--   reached   the cell across stands in the list already;
--   entered   it is put there, so it stands there now, and it is none of those before since it was not marked;
--   left      the facet is put into the fan. No fan facet before is a rotation of it: that facet would come from a side that
--             was crossed earlier, two sides with one directed facet belong to one cell, as the store keeps, and a cell has
--             each directed facet at one side. This is the one place where geometry is used.
use Rattle.std.proofs.Common.{ℕ, ◌≡◌, ◌<◌, ◌≤◌, ◌+◌, ◌*◌, List, [], ◌∷◌, ◌++◌, length, Option, Some, sym, ap, ◌∙◌, inl, inr}
use Rattle.std.proofs.Common.{⊎_elim, subst, arith, slice_index, Contains}
use Rattle.std.proofs.lemmas.Bool.{cases_lt}
use Rattle.std.proofs.lemmas.List.Elements.{Contains-append_left, Contains-append_cases, Contains-push}
use Rattle.geo_sign.specs.Tetrahedron as geo
use Rattle.geo_sign.specs.Tetrahedron.{facet_at, facet_of, IsRotated}
use Rattle.geo_sign.specs.Vertices.{Vertices}
use Rattle.tetra_store.specs.declared.fan.Facet.{Facet}
use Rattle.tetra_store.specs.Links.{Links, IsLive, IsLinked}
use Rattle.tetra_store.specs.Fan.{fan_facet}
use Rattle.geo_sign.specs.Boxes.{IsInConflict, IsClearOf}
use Rattle.geo_sign.proofs.Rotations.{rotated_back}
use Rattle.cell_laws.proofs.OneFacet.{one_side}
use Rattle.cavity.specs.Flood.{facet_on, IsRimAt, HasFanFacet, IsPassed, IsFlooding}
use Rattle.cavity.proofs.Growing.{last_at, only_one, longer, old_or_last, cell_left, facet_left, outer_left, facet_last}
use Rattle.cavity.proofs.Growing.{outer_last, contains_at}

module _ (v : Vertices) (links : Links) (p from : ℕ) where
  later : (cells : List ℕ) (fan : List Facet) (n m i : ℕ) → n ≤ m → IsRimAt v links p cells fan n i
      → IsRimAt v links p cells fan m i
  later cells fan n m i l r = record {
    cell = r.cell;
    side = r.side;
    cell_in = r.cell_in;
    side_in = r.side_in;
    before = let b = r.before in omega arith;
    facet = r.facet;
    outer = r.outer;
    clear = r.clear;
  }

  -- ---- the cell across was reached

  pub reached : (cells : List ℕ) (fan : List Facet) (j k y : ℕ) → j < length cells → k < 4
      → links.next (slice_index cells j) k ≡ Some y → Contains cells y → IsFlooding v links p from cells fan (4 * j + k)
      → IsFlooding v links p from cells fan (4 * j + k + 1)
  reached cells fan j k y j_in k_in e h f = record {
    start = f.start;
    live = f.live;
    conflict = f.conflict;
    distinct = f.distinct;
    rim = λ i m. later cells fan (4 * j + k) (4 * j + k + 1) i (omega arith) (f.rim i m);
    passed = λ a b l m n.
        ⊎_elim (λ (o : 4 * a + b < 4 * j + k). f.passed a b l m o)
        (λ (o : 4 * j + k ≤ 4 * a + b).
        let ea : a ≡ j = omega arith in
        let eb : b ≡ k = omega arith in
        inl (
          y,
          ap (λ (z : ℕ). links.next (slice_index cells z) b) ea
              ∙ (ap (λ (z : ℕ). links.next (slice_index cells j) z) eb ∙ e),
          h,
        )) (cases_lt (4 * a + b) (4 * j + k));
    once = f.once;
  }

  -- ---- it is reached now

  more_passed : (cells : List ℕ) (fan : List Facet) (y : ℕ) (f : geo.DirectedFacet) (across : Option ℕ)
      → IsPassed cells fan f across → IsPassed (cells ++ y ∷ []) fan f across
  more_passed cells fan y f across (inl h) = inl (h.0, h.1, Contains-append_left cells (y ∷ []) h.0 h.2)
  more_passed cells fan y f across (inr h) = inr h

  more_distinct : (cells : List ℕ) (y : ℕ) → ¬ Contains cells y
      → ((j k : ℕ) → j < length cells → k < length cells → slice_index cells j ≡ slice_index cells k → j ≡ k)
      → (j k : ℕ) → j < length (cells ++ y ∷ []) → k < length (cells ++ y ∷ [])
      → slice_index (cells ++ y ∷ []) j ≡ slice_index (cells ++ y ∷ []) k → j ≡ k
  more_distinct cells y new h j k j_in k_in e =
      let n = longer cells y in
      let last : (i : ℕ) → i ≡ length cells → slice_index (cells ++ y ∷ []) i ≡ y =
      λ i q. ap (λ (z : ℕ). slice_index (cells ++ y ∷ []) z) q ∙ last_at cells y 0 in
      ⊎_elim
      (λ (a : j < length cells).
      ⊎_elim (λ (b : k < length cells). h j k a b (sym (cell_left cells y j a) ∙ (e ∙ cell_left cells y k b)))
      (λ (b : k ≡ length cells).
      absurd (new (subst (λ (z : ℕ). Contains cells z) (sym (cell_left cells y j a) ∙ (e ∙ last k b)) (contains_at cells j a))))
      (old_or_last (length cells) k (omega arith)))
      (λ (a : j ≡ length cells).
      ⊎_elim (λ (b : k < length cells).
      absurd (new
      (subst (λ (z : ℕ). Contains cells z) (sym (cell_left cells y k b) ∙ (sym e ∙ last j a)) (contains_at cells k b))))
      (λ (b : k ≡ length cells). a ∙ sym b)
      (old_or_last (length cells) k (omega arith)))
      (old_or_last (length cells) j (omega arith))

  pub entered : (cells : List ℕ) (fan : List Facet) (j k y : ℕ) → j < length cells → k < 4
      → links.next (slice_index cells j) k ≡ Some y → IsLive links y → IsInConflict v p (links.at y) → ¬ Contains cells y
      → IsFlooding v links p from cells fan (4 * j + k)
      → IsFlooding v links p from (cells ++ y ∷ []) fan (4 * j + k + 1)
  entered cells fan j k y j_in k_in e live conflict new f =
      let more = cells ++ y ∷ [] in
      let n = longer cells y in record {
        start = Contains-append_left cells (y ∷ []) from f.start;
        live =
            λ x h. ⊎_elim (λ (l : Contains cells x). f.live x l)
            (λ (l : Contains (y ∷ []) x). subst (λ (z : ℕ). IsLive links z) (sym (only_one y x l)) live)
            (Contains-append_cases cells (y ∷ []) x h);
        conflict =
            λ x h. ⊎_elim (λ (l : Contains cells x). f.conflict x l)
            (λ (l : Contains (y ∷ []) x). subst (λ (z : ℕ). IsInConflict v p (links.at z)) (sym (only_one y x l)) conflict)
            (Contains-append_cases cells (y ∷ []) x h);
        distinct = more_distinct cells y new f.distinct;
        rim = λ i m.
            let r = f.rim i m in
            let q = sym (cell_left cells y r.cell r.cell_in) in
            record {
              cell = r.cell;
              side = r.side;
              cell_in = let l = r.cell_in in omega arith;
              side_in = r.side_in;
              before = let b = r.before in omega arith;
              facet = r.facet ∙ ap (λ (z : ℕ). facet_of (links.at z) r.side) q;
              outer = r.outer ∙ ap (λ (z : ℕ). links.next z r.side) q;
              clear = r.clear;
            };
        passed = λ a b l m o.
            let inside : a < length cells = omega arith in
            let q = sym (cell_left cells y a inside) in
            let was : IsPassed more fan (facet_of (links.at (slice_index cells a)) b) (links.next (slice_index cells a) b) =
            ⊎_elim (λ (w : 4 * a + b < 4 * j + k).
            more_passed cells fan y (facet_of (links.at (slice_index cells a)) b) (links.next (slice_index cells a) b)
            (f.passed a b inside m w))
            (λ (w : 4 * j + k ≤ 4 * a + b).
            let ea : a ≡ j = omega arith in
            let eb : b ≡ k = omega arith in
            inl (
              y,
              ap (λ (z : ℕ). links.next (slice_index cells z) b) ea
                  ∙ (ap (λ (z : ℕ). links.next (slice_index cells j) z) eb ∙ e),
              Contains-push cells y,
            )) (cases_lt (4 * a + b) (4 * j + k)) in
            subst (λ (z : ℕ). IsPassed more fan (facet_of (links.at z) b) (links.next z b)) q was;
        once = f.once;
      }

  -- ---- the facet is one of the fan

  -- no side is met twice
  pub met_once : (linked : IsLinked v links) (cells : List ℕ) (fan : List Facet) (n j k i : ℕ) → j < length cells → k < 4
      → i < length fan → IsFlooding v links p from cells fan n → (r : IsRimAt v links p cells fan n i)
      → IsRotated (fan_facet fan i) (facet_of (links.at (slice_index cells j)) k) → (r.cell ≡ j) × (r.side ≡ k)
  met_once linked cells fan n j k i j_in k_in i_in f r t =
      let x = slice_index cells r.cell in
      let y = slice_index cells j in
      let x_live = f.live x (contains_at cells r.cell r.cell_in) in
      let y_live = f.live y (contains_at cells j j_in) in
      let u : IsRotated (facet_of (links.at x) r.side) (facet_of (links.at y) k) =
      subst (λ (g : geo.DirectedFacet). IsRotated g (facet_of (links.at y) k)) r.facet t in
      let same : x ≡ y = linked.apart x y r.side k x_live y_live r.side_in k_in u in (
        f.distinct r.cell j r.cell_in j_in same,
        one_side v (links.at y) r.side k r.side_in k_in (linked.positive y y_live)
            (subst (λ (z : ℕ). IsRotated (facet_of (links.at z) r.side) (facet_of (links.at y) k)) same u),
      )

  not_yet : (linked : IsLinked v links) (cells : List ℕ) (fan : List Facet) (j k i : ℕ) → j < length cells → k < 4
      → i < length fan → IsFlooding v links p from cells fan (4 * j + k)
      → ¬ IsRotated (fan_facet fan i) (facet_of (links.at (slice_index cells j)) k)
  not_yet linked cells fan j k i j_in k_in i_in f t =
      let r = f.rim i i_in in
      let e = met_once linked cells fan (4 * j + k) j k i j_in k_in i_in f r t in
      let b = r.before in
      let ec : r.cell ≡ j = e.0 in
      let es : r.side ≡ k = e.1 in
      absurd (omega arith)

  pub left : (linked : IsLinked v links) (cells : List ℕ) (fan : List Facet) (j k : ℕ) (f : List ℕ) (across : Option ℕ)
      → j < length cells → k < 4 → facet_at f ≡ facet_of (links.at (slice_index cells j)) k
      → across ≡ links.next (slice_index cells j) k
      → ((y : ℕ) → across ≡ Some y → IsClearOf v p (links.at y)) → IsFlooding v links p from cells fan (4 * j + k)
      → IsFlooding v links p from cells (fan ++ facet_on f across ∷ []) (4 * j + k + 1)
  left linked cells fan j k f across j_in k_in facet_is across_is clear h =
      let g = facet_on f across in
      let more = fan ++ g ∷ [] in
      let n = longer fan g in
      let here = facet_last fan g ∙ facet_is in
      let there = outer_last fan g ∙ across_is in
      let last_rim : IsRimAt v links p cells more (4 * j + k + 1) (length fan) =
      record {
        cell = j;
        side = k;
        cell_in = j_in;
        side_in = k_in;
        before = omega arith;
        facet = here;
        outer = there;
        clear = λ y e. clear y (sym (outer_last fan g) ∙ e);
      } in record {
        start = h.start;
        live = h.live;
        conflict = h.conflict;
        distinct = h.distinct;
        rim = λ i m.
            ⊎_elim
            (λ (l : i < length fan).
            let r = h.rim i l in
            record {
              cell = r.cell;
              side = r.side;
              cell_in = r.cell_in;
              side_in = r.side_in;
              before = let b = r.before in omega arith;
              facet = facet_left fan g i l ∙ r.facet;
              outer = outer_left fan g i l ∙ r.outer;
              clear = λ y e. r.clear y (sym (outer_left fan g i l) ∙ e);
            })
            (λ (l : i ≡ length fan). subst (λ (z : ℕ). IsRimAt v links p cells more (4 * j + k + 1) z) (sym l) last_rim)
            (old_or_last (length fan) i (omega arith));
        passed = λ a b l m o.
            ⊎_elim
            (λ (w : 4 * a + b < 4 * j + k).
            ⊎_elim (λ (z : (y : ℕ) × (links.next (slice_index cells a) b ≡ Some y) × Contains cells y). inl z)
            (λ (z : HasFanFacet fan (facet_of (links.at (slice_index cells a)) b) (links.next (slice_index cells a) b)).
            inr (record {
              facet = z.facet;
              facet_in = let i = z.facet_in in omega arith;
              is = facet_left fan g z.facet z.facet_in ∙ z.is;
              outer = outer_left fan g z.facet z.facet_in ∙ z.outer;
            })) (h.passed a b l m w))
            (λ (w : 4 * j + k ≤ 4 * a + b).
            let ea : a ≡ j = omega arith in
            let eb : b ≡ k = omega arith in
            inr (record {
              facet = length fan;
              facet_in = omega arith;
              is =
                  here ∙ (ap (λ (z : ℕ). facet_of (links.at (slice_index cells j)) z) (sym eb)
                  ∙ ap (λ (z : ℕ). facet_of (links.at (slice_index cells z)) b) (sym ea));
              outer =
                  there ∙ (ap (λ (z : ℕ). links.next (slice_index cells j) z) (sym eb)
                  ∙ ap (λ (z : ℕ). links.next (slice_index cells z) b) (sym ea));
            })) (cases_lt (4 * a + b) (4 * j + k));
        once = λ a b l m t.
            ⊎_elim
            (λ (x : a < length fan).
            ⊎_elim
            (λ (y : b < length fan).
            h.once a b x y
            (subst (λ (z : geo.DirectedFacet). IsRotated z (fan_facet fan b)) (facet_left fan g a x)
            (subst (λ (z : geo.DirectedFacet). IsRotated (fan_facet more a) z) (facet_left fan g b y) t)))
            (λ (y : b ≡ length fan).
            absurd
            (not_yet linked cells fan j k a j_in k_in x h
            (subst (λ (z : geo.DirectedFacet). IsRotated z (facet_of (links.at (slice_index cells j)) k)) (facet_left fan g a x)
            (subst (λ (z : geo.DirectedFacet). IsRotated (fan_facet more a) z) (ap (fan_facet more) y ∙ here) t))))
            (old_or_last (length fan) b (omega arith)))
            (λ (x : a ≡ length fan).
            ⊎_elim
            (λ (y : b < length fan).
            absurd
            (not_yet linked cells fan j k b j_in k_in y h
            (subst (λ (z : geo.DirectedFacet). IsRotated z (facet_of (links.at (slice_index cells j)) k)) (facet_left fan g b y)
            (subst (λ (z : geo.DirectedFacet). IsRotated (fan_facet more b) z) (ap (fan_facet more) x ∙ here)
            (rotated_back (fan_facet more a) (fan_facet more b) t)))))
            (λ (y : b ≡ length fan). x ∙ sym y) (old_or_last (length fan) b (omega arith)))
            (old_or_last (length fan) a (omega arith));
      }
