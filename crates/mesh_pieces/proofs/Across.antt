-- Faces across edges: their sets, and the first face of each.
use Rattle.std.proofs.Common.{ℕ, ◌≡◌, ◌+◌, ◌*◌, ◌/◌, ◌<◌, ◌≤◌, ◌⊎◌, inl, inr, refl, ap, sym, ◌∙◌, subst, arith, below_more, Bool, true, false, List, length, get_or}
use Rattle.std.proofs.lemmas.Bool.{cases_lt, cases_eq, false≢true}
use Rattle.mesh_edges.specs.Sets.{AreTogether, IsTop, IsMerge}
use Rattle.mesh_edges.specs.Paths.{ArePath}
use Rattle.mesh_edges.specs.Paths.ArePath.{none, more}
use Rattle.mesh_edges.proofs.Tops.{same_top, top_own, own_top, together_turned}
use Rattle.mesh_edges.proofs.Paths.{path_on, path_together, one_link}
use Rattle.mesh_edges.specs.Things.{AreSoMany}
use Rattle.mesh_edges.proofs.Things.{same_things}
use Rattle.mesh_edges.specs.HalfEdges.{IsTwin, ArePaired}
use Rattle.mesh_pieces.specs.Pieces.{IsAcross, AreOfOnePiece, IsFirstFace, IsUnion}
use Rattle.mesh_pieces.specs.Chosen.{AreAcrossSets, AreFirstFaces}

-- the face of a half edge and that of its twin, and back
across : (twins : List ℕ) (h : ℕ) → h < length twins → IsAcross twins (h / 3) (get_or twins h 0 / 3)
across twins h l = record { h = h; within = l; one = refl; other = refl }

back : (faces : List (List ℕ)) (twins : List ℕ) → ArePaired faces twins → (h : ℕ) → h < length twins
    → IsAcross twins (get_or twins h 0 / 3) (h / 3)
back faces twins paired h l =
    let twin = paired.each h l in
    record { h = get_or twins h 0; within = twin.within; one = refl; other = ap (λ (k : ℕ). k / 3) twin.back }

pub merged_next : (faces : List (List ℕ)) (twins : List ℕ) → ArePaired faces twins → (count h : ℕ) (old new : List ℕ) → h < length twins
    → AreAcrossSets twins count h old → IsMerge (h / 3) (get_or twins h 0 / 3) old new → AreAcrossSets twins count (h + 1) new
merged_next faces twins paired count h old new l was m =
    record {
      size = m.count ∙ was.size;
      merged =
          below_more (λ k. AreTogether new (k / 3) (get_or twins k 0 / 3)) h
          (λ k less. m.kept (k / 3) (get_or twins k 0 / 3) (was.merged k less)) m.merged;
      only = λ f g both.
          elim (m.only f g both) [
            | inl old_both ↦ was.only f g old_both
            | inr (inl (one, other)) ↦
                path_on (IsAcross twins) (more (was.only f (h / 3) one) (across twins h l))
                (was.only (get_or twins h 0 / 3) g (together_turned old other))
            | inr (inr (one, other)) ↦
                path_on (IsAcross twins) (more (was.only f (get_or twins h 0 / 3) one) (back faces twins paired h l))
                (was.only (h / 3) g (together_turned old other))
          ];
    }

pub merged_none : (twins parents : List ℕ) (count : ℕ) → length parents ≡ count → ((i j : ℕ) → AreTogether parents i j → i ≡ j)
    → AreAcrossSets twins count 0 parents
merged_none twins parents count size apart =
    record {
      size = size;
      merged = λ h l. absurd (omega arith);
      only = λ f g both. subst (AreOfOnePiece twins f) (apart f g both) none;
    }

module _ (twins parents firsts : List ℕ) (count : ℕ) (sets : AreAcrossSets twins count (length twins) parents)
    (size : length firsts ≡ length parents) (tops : (i : ℕ) → i < length firsts → IsTop parents i (get_or firsts i 0))
    (least : (i : ℕ) → i < length firsts → get_or firsts i 0 ≤ i) where
  together_by : (f g : ℕ) → f < count → g < count → get_or firsts f 0 ≡ get_or firsts g 0 → AreTogether parents f g
  together_by f g l m e =
      record {
        one_in = omega (arith, sets.size);
        other_in = omega (arith, sets.size);
        top = get_or firsts g 0;
        one = subst (IsTop parents f) e (tops f (omega (arith, size, sets.size)));
        other = tops g (omega (arith, size, sets.size));
      }

  link : (f g : ℕ) → IsAcross twins f g → AreTogether parents f g
  link f g a =
      subst (λ (k : ℕ). AreTogether parents k g) a.one
      (subst (λ (k : ℕ). AreTogether parents (a.h / 3) k) a.other (sets.merged a.h a.within))

  one_first : (f g : ℕ) → f < count → AreOfOnePiece twins f g → get_or firsts f 0 ≡ get_or firsts g 0
  one_first f g l path =
      let both = path_together (IsAcross twins) parents link (together_by f f l l refl) path in
      sym (same_top parents both.one (tops f (omega (arith, size, sets.size))))
      ∙ same_top parents both.other (tops g (omega (arith, size, both.other_in)))

  pub first_faces_are : AreFirstFaces twins count firsts
  first_faces_are =
      record {
        size = size ∙ sets.size;
        least = λ f l. least f (omega (arith, size, sets.size));
        own = λ f l.
            let top = tops f (omega (arith, size, sets.size)) in
            let low = least f (omega (arith, size, sets.size)) in
            own_top parents (tops (get_or firsts f 0) (omega (arith, size, sets.size, low))) (top_own parents top);
        one = one_first;
        path = λ f g l m e. sets.only f g (together_by f g l m e);
      }

-- marks by first faces mark whole pieces
pub union_by : (faces : List (List ℕ)) (twins firsts : List ℕ) (marks kept : List Bool) → ArePaired faces twins
    → AreFirstFaces twins (length faces) firsts
    → ((f : ℕ) → f < length firsts → get_or kept f false ≡ get_or marks (get_or firsts f 0) false) → IsUnion twins kept
union_by faces twins firsts marks kept paired first is h l =
    let twin = paired.each h l in
    let here : h / 3 < length faces = omega (arith, paired.count) in
    let there : get_or twins h 0 / 3 < length faces = omega (arith, twin.within, paired.count) in
    is (h / 3) (omega (arith, first.size))
    ∙ (ap (λ (f : ℕ). get_or marks f false)
    (first.one (h / 3) (get_or twins h 0 / 3) here (more none (across twins h l)))
    ∙ sym (is (get_or twins h 0 / 3) (omega (arith, first.size))))

-- a face is the first of its piece where it is its own first face
pub first_is : (twins firsts : List ℕ) (count f : ℕ) → AreFirstFaces twins count firsts → f < count → get_or firsts f 0 ≡ f → IsFirstFace twins f
first_is twins firsts count f first l own g less path =
    omega (arith, first.one g f (omega arith) path, own, first.least g (omega arith))

pub is_first : (twins firsts : List ℕ) (count f : ℕ) → AreFirstFaces twins count firsts → f < count → IsFirstFace twins f
    → get_or firsts f 0 ≡ f
is_first twins firsts count f first l alone =
    let low = first.least f l in
    elim (cases_lt (get_or firsts f 0) f) [
      | inl less ↦
          absurd (alone (get_or firsts f 0) less
          (first.path (get_or firsts f 0) f (omega arith) l (first.own f l)))
      | inr other ↦ omega arith
    ]
