-- The network of a scene is valid.
--
-- An arc goes from the cell of a facet to the one across. Of two of the four facets of a cell none is the other turned round
-- (not_both, sixteen pairs), so these are two cells (cells_differ). Facets are listed once, so a listed facet is found where
-- it stands (facet_index_at). If the cell itself is fixed, the facet turned round has no capacity and the arc no reverse;
-- else that facet is listed too, and its arc is the reverse of this one (paired, turned_back): the two cases of valid_with.
-- Capacities and sinks fit because the sights are few and light.
use Rattle.std.proofs.Common.{ℕ, ◌<◌, ◌≤◌, ◌^◌, ◌≡◌, ◌≢◌, refl, ap, sym, subst, ◌∙◌, arith, Bool, true, false, cond}
use Rattle.std.proofs.Common.{inl, inr, List, [], length, get_or, map, Some, None, Option, Contains}
use Rattle.std.proofs.lemmas.Bool.{false_from_ne_true}
use Rattle.std.proofs.lemmas.List.{get_or-map, length-map}
use Rattle.std.proofs.lemmas.List.Sums.{position_or_len_is, passes_at_first}
use Rattle.geo_sign.proofs.Among.{same_itself, same_means}
use Rattle.flow_net.specs.Nets.{arc_at, flag_at, no_arc, IsReverseArc, IsValidArc, IsValidNet}
use Rattle.flow_net.specs.declared.Arc.{Arc}
use Rattle.geo_sign.specs.Tetrahedron.{Tetrahedron, DirectedFacet, facet_at, numbers_of, turned}
use Rattle.geo_sign.specs.Tetrahedron.{is_same_facet, is_among}
use Rattle.geo_sign.proofs.CellRows.{AreDistinct, distinct}
use Rattle.geo_sign.proofs.RowLaws.{cells_are_rows}
use Rattle.geo_sign.specs.Cells.{written}
use Rattle.visibility.specs.Scenes.{Scene}
use Rattle.visibility.specs.Complexes.{Complex, has_facet, cell_index, cell_of}
use Rattle.visibility.specs.Votes.{is_fixed, capacity, sink, HasCapacity}
use Rattle.plain_net.specs.Networks.{facet_index, pair_of, arc_of}
use Rattle.visibility.specs.Listings.{AreOnce, IsListingOf}
use Rattle.visibility.proofs.Listings.{facets_once, rising_cell, has_capacity, facet_listed}
use Rattle.visibility.proofs.Indices.{at_index, index_has}
use Rattle.plain_net.proofs.Networks.{IsJoined, joined}
use Rattle.visibility.proofs.Amounts.{capacity_fits, sink_fits}
use Rattle.visibility.proofs.Ordered.{OneOf, one_of}
use Rattle.flow_net.specs.Weights.{IsSightList}

-- no cell has a facet and the one turned round
not_both : (t : Tetrahedron) (f : DirectedFacet) → AreDistinct t → OneOf t f → OneOf t (turned f) → ⊥
not_both t f o (inl p) (inl q) = omega (arith, o.d_c)
not_both t f o (inl p) (inr (inl q)) = omega (arith, o.b_a)
not_both t f o (inl p) (inr (inr (inl q))) = omega (arith, o.b_a)
not_both t f o (inl p) (inr (inr (inr q))) = omega (arith, o.b_a)
not_both t f o (inr (inl p)) (inl q) = omega (arith, o.b_a)
not_both t f o (inr (inl p)) (inr (inl q)) = omega (arith, o.d_c)
not_both t f o (inr (inl p)) (inr (inr (inl q))) = omega (arith, o.c_b)
not_both t f o (inr (inl p)) (inr (inr (inr q))) = omega (arith, o.d_b)
not_both t f o (inr (inr (inl p))) (inl q) = omega (arith, o.b_a)
not_both t f o (inr (inr (inl p))) (inr (inl q)) = omega (arith, o.c_b)
not_both t f o (inr (inr (inl p))) (inr (inr (inl q))) = omega (arith, o.d_b)
not_both t f o (inr (inr (inl p))) (inr (inr (inr q))) = omega (arith, o.d_c)
not_both t f o (inr (inr (inr p))) (inl q) = omega (arith, o.b_a)
not_both t f o (inr (inr (inr p))) (inr (inl q)) = omega (arith, o.d_b)
not_both t f o (inr (inr (inr p))) (inr (inr (inl q))) = omega (arith, o.d_c)
not_both t f o (inr (inr (inr p))) (inr (inr (inr q))) = omega (arith, o.c_b)

-- a facet and the one turned round belong to two cells
cells_differ : (s : Scene) (complex : Complex) (f : List ℕ) → IsListingOf s complex → IsJoined s complex.cells f
    → cell_index s.vertices complex.cells (facet_at f) ≢ cell_index s.vertices complex.cells (turned (facet_at f))
cells_differ s complex f o p e =
    let own : ℕ = cell_index s.vertices complex.cells (facet_at f) in
    let row : List ℕ = get_or complex.cells own [] in
    let cell = cells_are_rows.cell s.vertices row (rising_cell s complex o row (index_has complex.cells own p.own)) in
    let apart : AreDistinct (written s.vertices row) = distinct s.vertices (written s.vertices row) cell.positive in
    let first : is_among (written s.vertices row) (facet_at f) ≡ true =
    passes_at_first (λ r. has_facet s.vertices r (facet_at f)) complex.cells [] p.own in
    let second : is_among (written s.vertices row) (turned (facet_at f)) ≡ true =
    subst (λ (k : ℕ). has_facet s.vertices (get_or complex.cells k []) (turned (facet_at f)) ≡ true) (sym e)
    (passes_at_first (λ r. has_facet s.vertices r (turned (facet_at f))) complex.cells [] p.across) in
    not_both (written s.vertices row) (facet_at f) apart (one_of (written s.vertices row) (facet_at f) first)
    (one_of (written s.vertices row) (turned (facet_at f)) second)

-- the index of a facet that is listed
facet_index_at : (facets : List (List ℕ)) (j : ℕ) → AreOnce facets
    → ((k : ℕ) → k < length facets → get_or facets k [] ≡ numbers_of (facet_at (get_or facets k []))) → j < length facets
    → facet_index facets (facet_at (get_or facets j [])) ≡ j
facet_index_at facets j r three l =
    position_or_len_is (λ numbers. is_same_facet (facet_at numbers) (facet_at (get_or facets j []))) facets j [] (omega arith)
    (λ k m. false_from_ne_true (is_same_facet (facet_at (get_or facets k [])) (facet_at (get_or facets j [])))
    (λ h. clash k m (same_means (facet_at (get_or facets k [])) (facet_at (get_or facets j [])) h)))
    (λ m. same_itself (facet_at (get_or facets j [])))
  where
    clash : (k : ℕ) → k < j → facet_at (get_or facets k []) ≡ facet_at (get_or facets j []) → ⊥
    clash k m e =
        let same : get_or facets k [] ≡ get_or facets j [] = three k (omega arith) ∙ ap numbers_of e ∙ sym (three j l) in
        r k j [] m l same

three_at : (s : Scene) (complex : Complex) → IsListingOf s complex → (k : ℕ) → k < length complex.facets
    → get_or complex.facets k [] ≡ numbers_of (facet_at (get_or complex.facets k []))
three_at s complex o k l = (has_capacity s complex o (get_or complex.facets k []) (index_has complex.facets k l)).three

-- the facet turned round, where it is listed
record IsPaired (facets : List (List ℕ)) (f : DirectedFacet) : Type 0 where
  at : ℕ
  in_range : at < length facets
  is : facet_at (get_or facets at []) ≡ f
  index : facet_index facets f ≡ at

paired : (s : Scene) (complex : Complex) (f : List ℕ) → IsListingOf s complex → HasCapacity s complex.cells f
    → is_fixed s.vertices s.scanners (cell_of s.vertices complex.cells (facet_at f)) ≡ false
    → IsPaired complex.facets (turned (facet_at f))
paired s complex f o h own =
    let g : List ℕ = numbers_of (turned (facet_at f)) in
    let there : Contains complex.facets g =
    facet_listed s complex o g (record { three = refl; own = h.across; across = h.own; free = own }) in
    let here : get_or complex.facets there.0 [] ≡ g = at_index complex.facets g there in
    record {
      at = there.0;
      in_range = there.1;
      is = ap facet_at here;
      index =
          ap (λ (r : List ℕ). facet_index complex.facets (facet_at r)) (sym here)
          ∙ facet_index_at complex.facets there.0 (facets_once s complex o) (three_at s complex o) there.1;
    }

abbrev arcs_of : Scene → Complex → List Arc
arcs_of s complex = map (arc_of s complex) complex.facets

arc_there : (s : Scene) (complex : Complex) (j : ℕ) → j < length complex.facets
    → arc_at (arcs_of s complex) j ≡ arc_of s complex (get_or complex.facets j [])
arc_there s complex j l = get_or-map (arc_of s complex) complex.facets j [] no_arc l

-- the arc of a facet, with its reverse as a choice
abbrev arc_with : Scene → Complex → DirectedFacet → Option ℕ → Arc
arc_with s complex f pair = record {
  from = cell_index s.vertices complex.cells f;
  to = cell_index s.vertices complex.cells (turned f);
  cap = capacity s f;
  pair = pair;
}

pub flag_there : (s : Scene) (complex : Complex) (f : DirectedFacet)
    → cell_index s.vertices complex.cells f < length complex.cells
    → flag_at (map (is_fixed s.vertices s.scanners) complex.cells) (cell_index s.vertices complex.cells f)
    ≡ is_fixed s.vertices s.scanners (cell_of s.vertices complex.cells f)
flag_there s complex f l =
    get_or-map (is_fixed s.vertices s.scanners) complex.cells (cell_index s.vertices complex.cells f) [] false l

turned_back : (s : Scene) (complex : Complex) (j : ℕ) (f : DirectedFacet) (g : List ℕ) (pair : Option ℕ) → facet_at g ≡ turned f
    → is_fixed s.vertices s.scanners (cell_of s.vertices complex.cells (turned f)) ≡ false → facet_index complex.facets f ≡ j
    → IsReverseArc (arc_with s complex f pair) j (arc_of s complex g)
unfolding arc_of
turned_back s complex j f g pair e free index =
    record {
      from_is = ap (λ (h : DirectedFacet). cell_index s.vertices complex.cells h) e;
      to_is = ap (λ (h : DirectedFacet). cell_index s.vertices complex.cells (turned h)) e;
      back =
          ap (λ (h : DirectedFacet). pair_of s complex h) e
          ∙ ap (λ (b : Bool). cond b None (Some (facet_index complex.facets f))) free ∙ ap (λ (i : ℕ). Some i) index;
    }

some_is : {m n : ℕ} → Some m ≡ Some n → m ≡ n
some_is h = cc

valid_with : (s : Scene) (complex : Complex) (j : ℕ) (f : List ℕ) → IsSightList s.sights → IsListingOf s complex
    → HasCapacity s complex.cells f → facet_index complex.facets (facet_at f) ≡ j
    → (b : Bool) → is_fixed s.vertices s.scanners (cell_of s.vertices complex.cells (facet_at f)) ≡ b
    → IsValidArc (map (is_fixed s.vertices s.scanners) complex.cells) (arcs_of s complex) j
    (arc_with s complex (facet_at f) (cond b None (Some (facet_index complex.facets (turned (facet_at f))))))
valid_with s complex j f few o h index b own =
    by b own (flag_there s complex (facet_at f) (joined s complex.cells f h).own ∙ own)
  where
    small : capacity s (facet_at f) ≤ 2 ^ 60
    small = omega (arith, capacity_fits s (facet_at f) few)

    by : (b : Bool) → is_fixed s.vertices s.scanners (cell_of s.vertices complex.cells (facet_at f)) ≡ b
        → flag_at (map (is_fixed s.vertices s.scanners) complex.cells) (cell_index s.vertices complex.cells (facet_at f)) ≡ b
        → IsValidArc (map (is_fixed s.vertices s.scanners) complex.cells) (arcs_of s complex) j
        (arc_with s complex (facet_at f) (cond b None (Some (facet_index complex.facets (turned (facet_at f))))))
    by true own own_flag =
        let p : IsJoined s complex.cells f = joined s complex.cells f h in
        let count = length-map complex.cells (is_fixed s.vertices s.scanners) in
        record {
          from_in = omega (arith, p.own, count);
          to_in = omega (arith, p.across, count);
          distinct = cells_differ s complex f o p;
          to_free = flag_there s complex (turned (facet_at f)) p.across ∙ h.free;
          cap_fits = small;
          no_pair = λ e. own_flag;
          pair_free = λ k e. absurd (cc);
          pair_in = λ k e. absurd (cc);
          pair_is = λ k e. absurd (cc);
        }
    by false own own_flag =
        let p : IsJoined s complex.cells f = joined s complex.cells f h in
        let count = length-map complex.cells (is_fixed s.vertices s.scanners) in
        let pair : IsPaired complex.facets (turned (facet_at f)) = paired s complex f o h own in
        record {
          from_in = omega (arith, p.own, count);
          to_in = omega (arith, p.across, count);
          distinct = cells_differ s complex f o p;
          to_free = flag_there s complex (turned (facet_at f)) p.across ∙ h.free;
          cap_fits = small;
          no_pair = λ e. absurd (cc);
          pair_free = λ k e. own_flag;
          pair_in = λ k e. let at : pair.at ≡ k = sym pair.index ∙ some_is e in
              omega (arith, at, pair.in_range, length-map complex.facets (arc_of s complex));
          pair_is = λ k e.
              subst (λ (i : ℕ). IsReverseArc
              (arc_with s complex (facet_at f) (Some (facet_index complex.facets (turned (facet_at f))))) j
              (arc_at (arcs_of s complex) i)) (sym pair.index ∙ some_is e)
              (subst (λ (a : Arc).
              IsReverseArc (arc_with s complex (facet_at f) (Some (facet_index complex.facets (turned (facet_at f))))) j a)
              (sym (arc_there s complex pair.at pair.in_range))
              (turned_back s complex j (facet_at f) (get_or complex.facets pair.at [])
              (Some (facet_index complex.facets (turned (facet_at f)))) pair.is h.free index));
        }

valid_arc : (s : Scene) (complex : Complex) (j : ℕ) → IsSightList s.sights → IsListingOf s complex → j < length complex.facets
    → IsValidArc (map (is_fixed s.vertices s.scanners) complex.cells) (arcs_of s complex) j
    (arc_of s complex (get_or complex.facets j []))
unfolding arc_of
valid_arc s complex j few o l =
    valid_with s complex j (get_or complex.facets j []) few o
    (has_capacity s complex o (get_or complex.facets j []) (index_has complex.facets j l))
    (facet_index_at complex.facets j (facets_once s complex o) (three_at s complex o) l)
    (is_fixed s.vertices s.scanners (cell_of s.vertices complex.cells (facet_at (get_or complex.facets j [])))) refl

-- the flags, sinks and arcs of a scene with few sights make a valid network
pub network_valid : (s : Scene) (complex : Complex) → IsSightList s.sights → IsListingOf s complex
    → IsValidNet (map (is_fixed s.vertices s.scanners) complex.cells) (map (sink s) complex.cells)
    (map (arc_of s complex) complex.facets)
network_valid s complex few o =
    record {
      sink_count = length-map complex.cells (sink s) ∙ sym (length-map complex.cells (is_fixed s.vertices s.scanners));
      sinks_fit = λ k l.
          let m : k < length complex.cells = omega (arith, l, length-map complex.cells (sink s)) in
          let at : get_or (map (sink s) complex.cells) k 0 ≡ sink s (get_or complex.cells k []) =
          get_or-map (sink s) complex.cells k [] 0 m in
          omega (arith, at, sink_fits s (get_or complex.cells k []) few);
      valid_arcs = λ j l.
          let m : j < length complex.facets = omega (arith, l, length-map complex.facets (arc_of s complex)) in
          subst (λ (a : Arc). IsValidArc (map (is_fixed s.vertices s.scanners) complex.cells) (arcs_of s complex) j a)
          (sym (arc_there s complex j m)) (valid_arc s complex j few o m);
    }
