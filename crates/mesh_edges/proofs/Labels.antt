-- Labels of umbrellas: sets of half edges that follow each other around a vertex, and a walk that begins with them.
use Rattle.std.proofs.Common.{ℕ, zero, suc, ◌≡◌, ◌+◌, ◌<◌, ◌≤◌, ◌⊎◌, inl, inr, refl, ap, sym, ◌∙◌, subst, arith, below_more}
use Rattle.std.proofs.Common.{Bool, true, false, cond, List, [], length, get_or, replicate}
use Rattle.std.specs.List.{All, count_by}
use Rattle.std.proofs.lemmas.Bool.{false≢true}
use Rattle.std.proofs.lemmas.List.Sums.{count_by-le-length}
use Rattle.mesh.specs.Meshes.{IsFace}
use Rattle.mesh_edges.specs.Sets.{AreTogether, IsTop, IsMerge}
use Rattle.mesh_edges.proofs.Tops.{same_top}
use Rattle.mesh_edges.specs.HalfEdges.{start, behind, around, ArePaired}
use Rattle.mesh_edges.specs.Umbrellas.{AreFanLabels, AreMerged, AreDivided}
use Rattle.mesh_edges.specs.Walks.{AreFinal, HasName, IsWalkState}
use Rattle.mesh_edges.proofs.Corners.{around_within, behind_in}

pub merged_more : (faces : List (List ℕ)) (twins old new : List ℕ) (h : ℕ) → start faces (around twins h) ≡ start faces h
    → AreMerged faces twins h old → IsMerge h (around twins h) old new → AreMerged faces twins (h + 1) new
merged_more faces twins old new h at was m =
    record {
      count = m.count ∙ was.count;
      merged = below_more (λ g. AreTogether new g (around twins g)) h (λ g l. m.kept g (around twins g) (was.merged g l)) m.merged;
      starts = λ g k both.
          elim (m.only g k both) [
            | inl old_both ↦ was.starts g k old_both
            | inr (inl (one, other)) ↦ was.starts g h one ∙ (sym at ∙ sym (was.starts k (around twins h) other))
            | inr (inr (one, other)) ↦ was.starts g (around twins h) one ∙ (at ∙ sym (was.starts k h other))
          ];
    }

pub merged_none : (faces : List (List ℕ)) (twins parents : List ℕ) → length parents ≡ length twins
    → ((i j : ℕ) → AreTogether parents i j → i ≡ j) → AreMerged faces twins 0 parents
merged_none faces twins parents count apart =
    record {
      count = count;
      merged = λ h l. absurd (omega arith);
      starts = λ g h both. ap (start faces) (apart g h both);
    }

pub merged_labels : (faces : List (List ℕ)) (twins parents labels : List ℕ) → ((h : ℕ) → h < length twins → around twins h < length twins)
    → AreMerged faces twins (length twins) parents
    → length labels ≡ length parents → ((i : ℕ) → i < length labels → IsTop parents i (get_or labels i 0))
    → AreFanLabels faces twins labels
merged_labels faces twins parents labels inside m count tops =
    record {
      count = count ∙ m.count;
      around = λ h l.
          let both = m.merged h l in
          let here : both.top ≡ get_or labels h 0 = same_top parents both.one (tops h (omega (arith, m.count))) in
          let there : both.top ≡ get_or labels (around twins h) 0 =
          same_top parents both.other (tops (around twins h) (omega (arith, inside h l, m.count))) in
          sym there ∙ here;
      starts = λ g h l k e.
          m.starts g h
          (record {
            one_in = omega (arith, m.count);
            other_in = omega (arith, m.count);
            top = get_or labels h 0;
            one = subst (IsTop parents g) e (tops g (omega (arith, m.count)));
            other = tops h (omega (arith, m.count));
          });
    }

pub no_true : (n h : ℕ) → get_or (replicate n false) h false ≡ true → ⊥
no_true zero h e = false≢true e
no_true (suc n) zero e = false≢true e
no_true (suc n) (suc h) e = no_true n h e

-- a walk that did not begin
pub first_walk : (faces : List (List ℕ)) (twins labels seen trail : List ℕ) (visited : List Bool) → ArePaired faces twins
    → AreFanLabels faces twins labels → ((h : ℕ) → h < length twins → get_or labels h 0 < length twins)
    → length seen ≡ length twins + length twins → length trail ≡ 0 → length visited ≡ length twins
    → ((h : ℕ) → get_or visited h false ≡ true → ⊥) → IsWalkState faces twins labels seen trail visited
first_walk faces twins labels seen trail visited paired lab loose places empty count none =
    record {
      paired = paired;
      labelled = lab;
      settled =
          record {
            named = λ h l big. absurd (omega (arith, loose h (omega (arith, lab.count)), lab.count));
            apart = λ g h l m big e far. absurd (omega (arith, loose g (omega (arith, lab.count)), lab.count));
          };
      places = places;
      distinct =
          record {
            within = λ i l. absurd (omega arith);
            loose = λ i l. absurd (omega arith);
            class = λ i j l m. absurd (omega arith);
            found = λ i l. absurd (omega arith);
          };
      path = λ i l. absurd (omega arith);
      passed = record { count = omega (arith, lab.count); each = λ h l was_there. absurd (none h was_there) };
      room = omega (arith, count_by-le-length (λ (v : Bool). cond v false true) visited);
    }

-- the half edges that the labels name
pub named_roots : (n : ℕ) (faces : List (List ℕ)) (each : All (IsFace n) faces) (twins labels roots : List ℕ) → ArePaired faces twins
    → AreFanLabels faces twins labels → AreFinal labels → ((h : ℕ) → h < length labels → length labels ≤ get_or labels h 0)
    → length roots ≡ length labels
    → ((h : ℕ) → h < length labels → get_or roots h 0 + length labels ≡ get_or labels h 0) → AreDivided faces twins roots
named_roots n faces each twins labels roots paired lab settled all count is =
    record {
      count = count ∙ lab.count;
      within = λ h l. inside h l;
      own = λ h l.
          let name = settled.named h (omega (arith, lab.count)) (all h (omega (arith, lab.count))) in
          let same : get_or roots h 0 ≡ name.name = omega (arith, is h (omega (arith, lab.count)), name.label) in
          let there : get_or roots name.name 0 ≡ name.name = omega (arith, is name.name name.within, name.own) in
          ap (λ (k : ℕ). get_or roots k 0) same ∙ (there ∙ sym same);
      around = λ h l.
          let on = around_within n faces each twins paired h l in
          omega (arith, is h (omega (arith, lab.count)), is (around twins h) (omega (arith, on, lab.count)), lab.around h l);
      starts = λ h l.
          let name = settled.named h (omega (arith, lab.count)) (all h (omega (arith, lab.count))) in
          let same : get_or roots h 0 ≡ name.name = omega (arith, is h (omega (arith, lab.count)), name.label) in
          let label : get_or labels (get_or roots h 0) 0 ≡ get_or labels h 0 =
          ap (λ (k : ℕ). get_or labels k 0) same ∙ (name.own ∙ sym name.label) in
          lab.starts (get_or roots h 0) h (inside h l) l label;
      apart = λ g h l m e far.
          settled.apart g h (omega (arith, lab.count)) (omega (arith, lab.count)) (all g (omega (arith, lab.count)))
          (omega (arith, is g (omega (arith, lab.count)), is h (omega (arith, lab.count)), e))
          (omega (
            arith,
            is (behind g) (omega (arith, behind_in n faces each twins paired g l, lab.count)),
            is (behind h) (omega (arith, behind_in n faces each twins paired h m, lab.count)),
            far,
          ));
    }
  where
    inside : (h : ℕ) → h < length twins → get_or roots h 0 < length twins
    inside h l =
        let name = settled.named h (omega (arith, lab.count)) (all h (omega (arith, lab.count))) in
        omega (arith, is h (omega (arith, lab.count)), name.label, name.within, lab.count)
