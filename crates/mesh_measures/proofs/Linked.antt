-- Sides with one edge, and neighbors: what is merged at sides is connected by neighbors, and the other way.
use Rattle.std.proofs.Common.{ℕ, ◌≡◌, ◌*◌, ◌/◌, ◌<◌, ◌^◌, ◌⊎◌, inl, inr, ap, sym, ◌∙◌, subst, arith, List, length, get_or}
use Rattle.std.proofs.lemmas.Bool.{cases_lt}
use Rattle.std.proofs.lemmas.List.{get_or-map}
use Rattle.mesh_edges.specs.Pairs.{key_of}
use Rattle.mesh_edges.proofs.FaceEdges.{key_parts}
use Rattle.mesh_edges.specs.HalfEdges.{start}
use Rattle.mesh_edges.specs.Sets.{AreTogether, IsForest}
use Rattle.mesh_edges.proofs.Tops.{together_self}
use Rattle.mesh_edges.specs.Paths.{ArePath}
use Rattle.mesh_measures.specs.Corners.{AreNeighbors, AreOfOneFace}
use Rattle.mesh_edges.specs.Paths.ArePath.{none}
use Rattle.mesh_measures.specs.Merges.{AreCornerSets, AreConnectedBy, AreOfOneEdge, ArePieceSets, IsMergedBy, part_at, part_of}
use Rattle.mesh_measures.specs.Pieces.{AreAdjacent}
use Rattle.mesh_measures.specs.Sides.{AreSides, IsSide, face_side, key_at, side_key}
use Rattle.mesh_measures.specs.declared.merges.Part.{Part}
use Rattle.mesh_measures.specs.declared.merges.Part.TheVariants.{Face, Low, High}
use Rattle.mesh_measures.specs.declared.sides.Side.{Side}
use Rattle.mesh_edges.proofs.Paths.{one_link, path_by, path_together}
use Rattle.mesh_measures.proofs.Runs.{blank, key_is}

pub part_is : (part : Part) (sides : List Side) (i : ℕ) (d : Side) → i < length sides
    → part_at part sides i ≡ part_of part (get_or sides i d)
part_is part sides i d l = get_or-map (part_of part) sides i d 0 l

-- a side that is listed, by its index
record Found (faces : List (List ℕ)) (sides : List Side) (c d : ℕ) : Type 0 where
  i : ℕ
  l : i < length sides
  key : key_at sides i ≡ key_of (start faces c) (start faces d)
  low : c ≡ part_at Low sides i
  high : d ≡ part_at High sides i

module _ (faces : List (List ℕ)) (sides : List Side) (so : AreSides faces sides) where
  abbrev at : ℕ → Side
  at i = get_or sides i blank

  pub side_at : (i : ℕ) → i < length sides → IsSide faces (get_or sides i blank)
  side_at i l = so.each i blank l

  -- the key of a side, by its ends
  pub key_by_ends : (i : ℕ) → i < length sides
      → key_at sides i ≡ key_of (start faces (part_at Low sides i)) (start faces (part_at High sides i))
  key_by_ends i l =
      key_is sides i blank l
      ∙ ((side_at i l).key
      ∙ (ap (λ (c : ℕ). key_of (start faces c) (start faces (at i).high)) (sym (part_is Low sides i blank l))
      ∙ ap (λ (c : ℕ). key_of (start faces (part_at Low sides i)) (start faces c)) (sym (part_is High sides i blank l))))

  pub ends_rise : (i : ℕ) → i < length sides → start faces (part_at Low sides i) < start faces (part_at High sides i)
  ends_rise i l =
      let s = side_at i l in
      omega (
        arith,
        ap (start faces) (part_is Low sides i blank l),
        ap (start faces) (part_is High sides i blank l),
        s.rising,
      )

  pub ends_small : (i : ℕ) → i < length sides → start faces (part_at High sides i) < 2 ^ 32
  ends_small i l = let s = side_at i l in omega (arith, ap (start faces) (part_is High sides i blank l), s.small)

  -- sides with one key have one edge
  pub same_ends : (i j : ℕ) → i < length sides → j < length sides → key_at sides i ≡ key_at sides j
      → (start faces (at i).low ≡ start faces (at j).low) × (start faces (at i).high ≡ start faces (at j).high)
  same_ends i j l m e =
      key_parts (start faces (at i).low) (start faces (at i).high) (start faces (at j).low) (start faces (at j).high)
      (side_at i l).small (side_at j m).small
      (sym (side_at i l).key ∙ (sym (key_is sides i blank l) ∙ (e ∙ (key_is sides j blank m ∙ (side_at j m).key))))

  lows : (i j : ℕ) → i < length sides → j < length sides → key_at sides i ≡ key_at sides j → AreNeighbors faces (at i).low (at j).low
  lows i j l m e =
      let s = side_at i l in
      let t = side_at j m in
      let p = same_ends i j l m e in
      record {
        c_end = (at i).high;
        d_end = (at j).high;
        one = s.ends;
        other = t.ends;
        same = p.0;
        same_end = p.1;
        differ = λ q. omega (arith, s.rising, q);
      }

  highs : (i j : ℕ) → i < length sides → j < length sides → key_at sides i ≡ key_at sides j
      → AreNeighbors faces (at i).high (at j).high
  highs i j l m e =
      let s = side_at i l in
      let t = side_at j m in
      let p = same_ends i j l m e in
      record {
        c_end = (at i).low;
        d_end = (at j).low;
        one = record { one = s.ends.other; other = s.ends.one; face = sym s.ends.face };
        other = record { one = t.ends.other; other = t.ends.one; face = sym t.ends.face };
        same = p.1;
        same_end = p.0;
        differ = λ q. omega (arith, s.rising, q);
      }

  pub low_linked : (x y : ℕ) → AreOfOneEdge Low sides x y → AreNeighbors faces x y
  low_linked x y e =
      subst (λ (z : ℕ). AreNeighbors faces z y) (sym (e.from ∙ part_is Low sides e.i blank e.one))
      (subst (AreNeighbors faces (at e.i).low) (sym (e.to ∙ part_is Low sides e.j blank e.other)) (lows e.i e.j e.one e.other e.edge))

  pub high_linked : (x y : ℕ) → AreOfOneEdge High sides x y → AreNeighbors faces x y
  high_linked x y e =
      subst (λ (z : ℕ). AreNeighbors faces z y) (sym (e.from ∙ part_is High sides e.i blank e.one))
      (subst (AreNeighbors faces (at e.i).high) (sym (e.to ∙ part_is High sides e.j blank e.other))
      (highs e.i e.j e.one e.other e.edge))

  pub face_linked : (x y : ℕ) → AreOfOneEdge Face sides x y → AreAdjacent faces x y
  face_linked x y e =
      record {
        c = (at e.i).low;
        d = (at e.j).low;
        one = sym (e.from ∙ part_is Face sides e.i blank e.one);
        other = sym (e.to ∙ part_is Face sides e.j blank e.other);
        edge = lows e.i e.j e.one e.other e.edge;
      }

  found : (c d : ℕ) → AreOfOneFace faces c d → start faces c < start faces d → Found faces sides c d
  found c d o l =
      let k = so.all c d o l in
      record {
        i = k.0;
        l = k.1;
        key = key_is sides k.0 (face_side faces c d) k.1 ∙ ap side_key k.2;
        low = sym (part_is Low sides k.0 (face_side faces c d) k.1 ∙ ap (part_of Low) k.2);
        high = sym (part_is High sides k.0 (face_side faces c d) k.1 ∙ ap (part_of High) k.2);
      }

  same_key : (a b c d : ℕ) → start faces a ≡ start faces c → start faces b ≡ start faces d
      → key_of (start faces a) (start faces b) ≡ key_of (start faces c) (start faces d)
  same_key a b c d e f = omega arith

  turned : (c d : ℕ) → AreOfOneFace faces c d → AreOfOneFace faces d c
  turned c d o = record { one = o.other; other = o.one; face = sym o.face }

  -- neighbors are ends of two sides with one edge
  pub neighbors_linked : (x y : ℕ) → AreNeighbors faces x y → AreOfOneEdge Low sides x y ⊎ AreOfOneEdge High sides x y
  neighbors_linked x y n =
      elim (cases_lt (start faces x) (start faces n.c_end)) [
        | inl l ↦
            let p = found x n.c_end n.one l in
            let q = found y n.d_end n.other (omega (arith, n.same, n.same_end)) in
            inl (record {
              i = p.i;
              j = q.i;
              one = p.l;
              other = q.l;
              edge = p.key ∙ (same_key x n.c_end y n.d_end n.same n.same_end ∙ sym q.key);
              from = p.low;
              to = q.low;
            })
        | inr l ↦
            let differ = n.differ in
            let p = found n.c_end x (turned x n.c_end n.one) (omega arith) in
            let q = found n.d_end y (turned y n.d_end n.other) (omega (arith, n.same, n.same_end)) in
            inr (record {
              i = p.i;
              j = q.i;
              one = p.l;
              other = q.l;
              edge = p.key ∙ (same_key n.c_end x n.d_end y n.same_end n.same ∙ sym q.key);
              from = p.high;
              to = q.high;
            })
      ]

  -- adjacent faces are those of two sides with one edge
  pub adjacent_linked : (f g : ℕ) → AreAdjacent faces f g → AreOfOneEdge Face sides f g
  adjacent_linked f g a = by (neighbors_linked a.c a.d a.edge)
    where
      -- the face of a side is that of both ends
      face_by : (i : ℕ) → i < length sides → part_at Low sides i / 3 ≡ part_at Face sides i
      face_by i l = ap (λ (c : ℕ). c / 3) (part_is Low sides i blank l) ∙ sym (part_is Face sides i blank l)

      high_by : (i : ℕ) → i < length sides → part_at High sides i / 3 ≡ part_at Face sides i
      high_by i l =
          ap (λ (c : ℕ). c / 3) (part_is High sides i blank l) ∙ (sym (side_at i l).ends.face ∙ sym (part_is Face sides i blank l))

      by : AreOfOneEdge Low sides a.c a.d ⊎ AreOfOneEdge High sides a.c a.d → AreOfOneEdge Face sides f g
      by (inl e) =
          record {
            i = e.i;
            j = e.j;
            one = e.one;
            other = e.other;
            edge = e.edge;
            from = sym a.one ∙ (ap (λ (c : ℕ). c / 3) e.from ∙ face_by e.i e.one);
            to = sym a.other ∙ (ap (λ (c : ℕ). c / 3) e.to ∙ face_by e.j e.other);
          }
      by (inr e) =
          record {
            i = e.i;
            j = e.j;
            one = e.one;
            other = e.other;
            edge = e.edge;
            from = sym a.one ∙ (ap (λ (c : ℕ). c / 3) e.from ∙ high_by e.i e.one);
            to = sym a.other ∙ (ap (λ (c : ℕ). c / 3) e.to ∙ high_by e.j e.other);
          }

  -- numbers that were apart are linked by sides alone
  by_sides : (L : ℕ → ℕ → Type 0) (part : Part) (old : List ℕ) → ((x y : ℕ) → AreTogether old x y → x ≡ y)
      → ((x y : ℕ) → AreOfOneEdge part sides x y → L x y) → (x y : ℕ) → AreConnectedBy part sides old x y → ArePath L x y
  by_sides L part old apart link x y (inl t) = subst (ArePath L x) (apart x y t) none
  by_sides L part old apart link x y (inr e) = one_link L x y (link x y e)

  pub pieces_merged : (old new : List ℕ) → length old ≡ length faces → ((x y : ℕ) → AreTogether old x y → x ≡ y) → IsForest new
      → IsMergedBy Face sides old new → ArePieceSets faces new
  pieces_merged old new count apart forest m =
      record {
        count = m.count ∙ count;
        kept = λ f g l path.
            path_together (AreAdjacent faces) new (λ x y a. m.kept x y (inr (adjacent_linked x y a)))
            (together_self new f forest l) path;
        only = λ f g t.
            path_by (AreConnectedBy Face sides old) (AreAdjacent faces) (by_sides (AreAdjacent faces) Face old apart face_linked)
            (m.only f g t);
      }

  pub corners_merged : (old mid new : List ℕ) → length old ≡ 3 * length faces → ((x y : ℕ) → AreTogether old x y → x ≡ y)
      → IsForest new → IsMergedBy Low sides old mid → IsMergedBy High sides mid new → AreCornerSets faces new
  corners_merged old mid new count apart forest m n =
      record {
        count = n.count ∙ (m.count ∙ count);
        kept = λ c d l path. path_together (AreNeighbors faces) new kept (together_self new c forest l) path;
        only = λ c d t. path_by (AreConnectedBy High sides mid) (AreNeighbors faces) only (n.only c d t);
      }
    where
      kept : (x y : ℕ) → AreNeighbors faces x y → AreTogether new x y
      kept x y a =
          elim (neighbors_linked x y a) [
            | inl e ↦ n.kept x y (inl (m.kept x y (inr e)))
            | inr e ↦ n.kept x y (inr e)
          ]

      only : (x y : ℕ) → AreConnectedBy High sides mid x y → ArePath (AreNeighbors faces) x y
      only x y (inl t) =
          path_by (AreConnectedBy Low sides old) (AreNeighbors faces) (by_sides (AreNeighbors faces) Low old apart low_linked)
          (m.only x y t)
      only x y (inr e) = one_link (AreNeighbors faces) x y (high_linked x y e)

  -- parts of sides are faces and corners of the mesh
  pub part_within : (part : Part) (n : ℕ) → ((s : Side) → IsSide faces s → part_of part s < n) → (i : ℕ) → i < length sides
      → part_at part sides i < n
  part_within part n within i l =
      subst (λ (z : ℕ). z < n) (sym (part_is part sides i blank l)) (within (at i) (side_at i l))

  part_below : (part : Part) (s : Side) → IsSide faces s → part_of part s < 3 * length faces
  part_below Face s is = let ends = is.ends in omega (arith, ends.one)
  part_below Low s is = is.ends.one
  part_below High s is = is.ends.other

  pub corner_within : (part : Part) (i : ℕ) → i < length sides → part_at part sides i < 3 * length faces
  corner_within part i l = part_within part (3 * length faces) (part_below part) i l
