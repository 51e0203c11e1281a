-- The network by numbers and that of cells and facets judge labels alike: node k stands for the cell at index k, and arc j for the
-- facet at index j. So the arcs that labels cut are those of the facets that a test of cells cuts.
--
-- First what the network has at a node and at an arc (`nodes_once` to `arc_is`), and indices of rows that occur once. Then the
-- correspondence of both networks (`by_number`), by which labels are admissible together (`admissible_over`), and the arcs that they cut
-- (`flags_cut_at`).
use Rattle.std.proofs.Common.{ℕ, ◌<◌, ◌≡◌, refl, ap, sym, subst, ◌∙◌, Bool, List, [], length, get_or, arith, false, map, Contains, ap₂, not, ◌&&◌, zero, suc, ◌+◌, ◌≤◌, take, eqb}
use Rattle.std.proofs.lemmas.List.{get_or-map, length-map}
use Rattle.flow_net.specs.Nets.{arc_at, flag_at, no_arc}
use Rattle.flow_net.specs.declared.Arc.{Arc}
use Rattle.flow_net.specs.declared.Voted.{Voted}
use Rattle.visibility.specs.Scenes.{Scene}
use Rattle.geo_sign.specs.Tetrahedron.{facet_at, turned}
use Rattle.visibility.specs.Complexes.{cell_of}
use Rattle.visibility.specs.Votes.{is_fixed, capacity, sink}
use Rattle.plain_net.specs.Networks.{complex_of, arc_of, IsNetworkOf}
use Rattle.visibility.specs.Listings.{AreOnce}
use Rattle.visibility.proofs.Listings.{cells_once, rising_listing}
use Rattle.visibility.proofs.Indices.{same_index, at_index, index_has, row_index_at, map_of_indices}
use Rattle.flow_net.specs.Flows.{network_of, IsAdmissible as IsAdmissibleNet}
use Rattle.flow_net.specs.Networks.{Network}
use Rattle.flow_net.specs.Sums.{sum_below}
use Rattle.flow_net.proofs.Correspondences.{Corresponds, SameAtNodes, admissible, ends_say}
use Rattle.flow_net.proofs.SumLemmas.{sum_below-cong}
use Rattle.visibility.specs.Cuts.{network_over, is_cut, IsAdmissible}
use Rattle.visibility.specs.Laws.{row_index, test_of}
use Rattle.std.specs.List.{sum_by}
use Rattle.std.specs.Str.{bytes_eq}
use Rattle.std.proofs.lemmas.Slice.Eq.{bytes_eq-Decides}
use Rattle.std.proofs.Math.Seq.{take-length}
use Rattle.std.proofs.lemmas.Bool.{eqb-true, eq-eqb}
use Rattle.std.proofs.lemmas.List.Sums.{sum_by_more}
use Rattle.geo_sign.proofs.Booleans.{same_bools}

-- ---- at a node and at an arc
pub nodes_once : (s : Scene) (voted : Voted) → IsNetworkOf s voted → AreOnce voted.cells
nodes_once s voted n = cells_once s (complex_of voted) (rising_listing s (complex_of voted) n.complex_is)

pub node_count : (s : Scene) (voted : Voted) → IsNetworkOf s voted → length voted.net.fixed ≡ length voted.cells
node_count s voted n = ap length n.fixed_is ∙ length-map voted.cells (is_fixed s.vertices s.scanners)

pub arc_count : (s : Scene) (voted : Voted) → IsNetworkOf s voted → length voted.net.arcs ≡ length voted.facets
arc_count s voted n = ap length n.arcs_are ∙ length-map voted.facets (arc_of s (complex_of voted))

pub fixed_at : (s : Scene) (voted : Voted) (k : ℕ) → IsNetworkOf s voted → k < length voted.cells
    → flag_at voted.net.fixed k ≡ is_fixed s.vertices s.scanners (get_or voted.cells k [])
fixed_at s voted k n l =
    ap (λ (flags : List Bool). flag_at flags k) n.fixed_is ∙ get_or-map (is_fixed s.vertices s.scanners) voted.cells k [] _ l

pub sink_at : (s : Scene) (voted : Voted) (k : ℕ) → IsNetworkOf s voted → k < length voted.cells
    → get_or voted.net.sink k 0 ≡ sink s (get_or voted.cells k [])
sink_at s voted k n l = ap (λ (sinks : List ℕ). get_or sinks k 0) n.sink_is ∙ get_or-map (sink s) voted.cells k [] _ l

-- an arc and the facet that it stands for: the cells at its ends, and its capacity
pub record IsArcOf (s : Scene) (voted : Voted) (a : Arc) (f : List ℕ) : Type 0 where
  pub from_is : get_or voted.cells a.from [] ≡ cell_of s.vertices voted.cells (facet_at f)
  pub to_is : get_or voted.cells a.to [] ≡ cell_of s.vertices voted.cells (turned (facet_at f))
  pub cap_is : a.cap ≡ capacity s (facet_at f)

pub arc_is : (s : Scene) (voted : Voted) (j : ℕ) → IsNetworkOf s voted → j < length voted.facets
    → IsArcOf s voted (arc_at voted.net.arcs j) (get_or voted.facets j [])
unfolding arc_of
arc_is s voted j n l =
    subst (λ (a : Arc). IsArcOf s voted a (get_or voted.facets j []))
    (sym (ap (λ (arcs : List Arc). arc_at arcs j) n.arcs_are
    ∙ get_or-map (arc_of s (complex_of voted)) voted.facets j [] no_arc l))
    (record { from_is = refl; to_is = refl; cap_is = refl })

-- ---- rows that occur once
-- indices of rows that stand once are equal where the rows are
pub index_test : (rows : List (List ℕ)) (i j : ℕ) → AreOnce rows → i < length rows → j < length rows
    → eqb i j ≡ bytes_eq (get_or rows i []) (get_or rows j [])
index_test rows i j r li lj =
    same_bools (eqb i j) (bytes_eq (get_or rows i []) (get_or rows j []))
    (λ h. (bytes_eq-Decides (get_or rows i []) (get_or rows j [])).1 (ap (λ (k : ℕ). get_or rows k []) (eqb-true i j h)))
    (λ h. eq-eqb i j (same_index rows i j r li lj ((bytes_eq-Decides (get_or rows i []) (get_or rows j [])).0 h)))

taken : {X : Type 0} (f : X → ℕ) (xs : List X) (d : X) (n : ℕ) → n ≤ length xs
    → sum_by f (take n xs) ≡ sum_below n (λ j. f (get_or xs j d))
taken f xs d zero l = refl
taken f xs d (suc n) l =
    let e : n + 1 ≡ suc n = omega arith in
    ap (λ (i : ℕ). sum_by f (take i xs)) (sym e) ∙ sum_by_more f xs n d (omega arith)
    ∙ ap (λ (i : ℕ). i + f (get_or xs n d)) (taken f xs d n (omega arith))

-- a sum over a list is a sum over its indices
pub sum_by-below : {X : Type 0} (f : X → ℕ) (xs : List X) (d : X) → sum_by f xs ≡ sum_below (length xs) (λ j. f (get_or xs j d))
sum_by-below f xs d = ap (sum_by f) (sym (take-length xs)) ∙ taken f xs d (length xs) (omega arith)

-- ---- both networks
module _ (s : Scene) (voted : Voted) (n : IsNetworkOf s voted) where
  abbrev pub far : Network (List ℕ) (List ℕ)
  far = network_over s (complex_of voted)

  pub node_in : (k : ℕ) → k < length voted.net.fixed → k < length voted.cells
  node_in k l = omega (arith, l, node_count s voted n)

  pub arc_in : (j : ℕ) → j < length voted.net.arcs → j < length voted.facets
  arc_in j l = omega (arith, l, arc_count s voted n)

  pub index_is : (row : List ℕ) → (has : Contains voted.cells row) → row_index voted.cells row ≡ has.0
  index_is row has =
      ap (row_index voted.cells) (sym (at_index voted.cells row has))
      ∙ row_index_at voted.cells has.0 (nodes_once s voted n) has.1

  abbrev pub by_number : Corresponds (network_of voted.net) far
  by_number = record {
    node = λ k. get_or voted.cells k [];
    back = row_index voted.cells;
    arc = λ j. get_or voted.facets j [];
    node_there = λ k l. index_has voted.cells k (node_in k l);
    back_there = λ row has. omega (arith, has.1, index_is row has, node_count s voted n);
    node_back = λ k l. row_index_at voted.cells k (nodes_once s voted n) (node_in k l);
    back_node = λ row has. ap (λ (k : ℕ). get_or voted.cells k []) (index_is row has) ∙ at_index voted.cells row has;
    arc_there = λ j l. index_has voted.facets j (arc_in j l);
    arc_of = λ f has. (has.0, omega (arith, has.1, arc_count s voted n), at_index voted.facets f has);
    node_sums = λ f g h.
        ap (λ (i : ℕ). sum_below i f) (node_count s voted n)
        ∙ sum_below-cong (length voted.cells) f (λ k. g (get_or voted.cells k []))
        (λ k l. h k (omega (arith, l, node_count s voted n)))
        ∙ sym (sum_by-below g voted.cells []);
    arc_sums = λ f g h.
        ap (λ (i : ℕ). sum_below i f) (arc_count s voted n)
        ∙ sum_below-cong (length voted.facets) f (λ j. g (get_or voted.facets j []))
        (λ j l. h j (omega (arith, l, arc_count s voted n)))
        ∙ sym (sum_by-below g voted.facets []);
    from_there = λ j l. (voted.net.valid.valid_arcs j l).from_in;
    to_there = λ j l. (voted.net.valid.valid_arcs j l).to_in;
    from_is = λ j l. (arc_is s voted j n (arc_in j l)).from_is;
    to_is = λ j l. (arc_is s voted j n (arc_in j l)).to_is;
    same_is = λ k i l m. index_test voted.cells k i (nodes_once s voted n) (node_in k l) (node_in i m);
    capacity_is = λ j l. (arc_is s voted j n (arc_in j l)).cap_is;
    fixed_is = λ k l. fixed_at s voted k n (node_in k l);
    sink_is = λ k l. sink_at s voted k n (node_in k l);
  }

  -- a list of what a function says of cells, and one of what it says of facets
  pub same_at : {X : Type 0} (f : List ℕ → X) (d : X) → SameAtNodes by_number (λ k. get_or (map f voted.cells) k d) f
  same_at f d k l = get_or-map f voted.cells k [] d (node_in k l)

-- labels of the nodes with no fixed node inside are those of a test of cells with no fixed cell inside
pub admissible_over : (s : Scene) (voted : Voted) (inside : List ℕ → Bool) → IsNetworkOf s voted
    → IsAdmissibleNet voted.net (record { inside = map inside voted.cells }) → IsAdmissible s (complex_of voted) inside
admissible_over s voted inside n h =
    (admissible (network_of voted.net) (far s voted n) (by_number s voted n) (flag_at (map inside voted.cells)) inside
    (same_at s voted n inside false)).0 h.labelled

-- ---- what labels cut
-- an arc leads from a node that is not flagged to one that is where its facet leads from an outside cell to an inside one
cut_at : (s : Scene) (voted : Voted) (inside : List ℕ → Bool) (j : ℕ) → IsNetworkOf s voted
    → j < length voted.facets
    → (not (flag_at (map inside voted.cells) (arc_at voted.net.arcs j).from)
    && flag_at (map inside voted.cells) (arc_at voted.net.arcs j).to)
    ≡ is_cut s.vertices voted.cells inside (get_or voted.facets j [])
cut_at s voted inside j n l =
    let ends =
    ends_say (network_of voted.net) (network_over s (complex_of voted)) (by_number s voted n) (flag_at (map inside voted.cells))
    inside (same_at s voted n inside false) j (omega (arith, l, arc_count s voted n)) in
    ap₂ (λ x y. not x && y) ends.0 ends.1

-- the same of flags, one a node
pub flags_cut_at : (s : Scene) (voted : Voted) (flags : List Bool) (j : ℕ) → IsNetworkOf s voted
    → length flags ≡ length voted.cells → j < length voted.facets
    → (not (flag_at flags (arc_at voted.net.arcs j).from) && flag_at flags (arc_at voted.net.arcs j).to)
    ≡ is_cut s.vertices voted.cells (test_of voted.cells flags) (get_or voted.facets j [])
flags_cut_at s voted flags j n e l =
    ap (λ (fs : List Bool). not (flag_at fs (arc_at voted.net.arcs j).from) && flag_at fs (arc_at voted.net.arcs j).to)
    (sym (map_of_indices voted.cells flags false (nodes_once s voted n) e))
    ∙ cut_at s voted (test_of voted.cells flags) j n l
