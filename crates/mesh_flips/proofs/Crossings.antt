-- No two faces cross after a flip that did not.
--
-- Of two faces after a flip both were there before; or one is new, and then it is apart from the other, since all other faces were
-- tested; or both are new, and they were tested too.
use Rattle.std.proofs.Common.{ℕ, ◌≡◌, ◌≢◌, ◌<◌, ◌⊎◌, inl, inr, ap, sym, ◌∙◌, subst, arith, List, [], ◌∷◌, length, set, get_or-set_other, get_or-set_same}
use Rattle.std.proofs.Math.ListN.{length-set}
use Rattle.std.proofs.lemmas.Bool.{cases_lt}
use Rattle.geo_sign.specs.Point.{Point}
use Rattle.mesh_edges.specs.Edges.{face_at}
use Rattle.triangles.specs.Trees.{IsInserted}
use Rattle.triangles.specs.declared.hull.Hull.{Hull}
use Rattle.triangles.specs.declared.tree.HullTree.{HullTree}
use Rattle.triangles.specs.Gaps.{AreFacesApart}
use Rattle.mesh_flips.specs.Quads.{IsQuad, flipped}
use Rattle.mesh_flips.specs.Flips.{KeepsApart}
use Rattle.mesh_flips.specs.Clear.{IsFree}
use Rattle.mesh_flips.specs.Fields.{HoldsFace, IsTreeOf}
use Rattle.mesh_flips.specs.declared.quad.Quad.{Quad}
use Rattle.mesh_flips.proofs.Off.{apart_back}

pub same_or_not : (k n : ℕ) → (k ≡ n) ⊎ (k ≢ n)
same_or_not k n =
    elim (cases_lt k n) [
      | inl l ↦ inr (λ e. omega arith)
      | inr l ↦ elim (cases_lt n k) [ inl m ↦ inr (λ e. omega arith) | inr m ↦ inl (omega arith) ]
    ]

module _ (faces : List (List ℕ)) (one other : ℕ) (q : Quad) (lie : IsQuad faces one other q) where
  abbrev First : List ℕ
  First = q.a ∷ q.d ∷ q.c ∷ []

  abbrev Second : List ℕ
  Second = q.d ∷ q.b ∷ q.c ∷ []

  at_one : face_at (flipped faces one other q) one ≡ First
  at_one =
      let lt : one < length faces = lie.one_within in
      let apart : one ≢ other = lie.two in
      rw (get_or-set_other, get_or-set_same)

  at_other : face_at (flipped faces one other q) other ≡ Second
  at_other =
      let lt : other < length (set faces one First) = omega (arith, lie.other_within, length-set {A = List ℕ} faces one First) in
      rw get_or-set_same

  at_rest : (i : ℕ) → i ≢ one → i ≢ other → face_at (flipped faces one other q) i ≡ face_at faces i
  at_rest i a b = rw (get_or-set_other, get_or-set_other)

  -- which face stands at a place
  abbrev Stands : ℕ → Type 0
  Stands i = ((i ≡ one) × (face_at (flipped faces one other q) i ≡ First))
      ⊎ (((i ≡ other) × (face_at (flipped faces one other q) i ≡ Second))
      ⊎ ((i ≢ one) × (i ≢ other) × (face_at (flipped faces one other q) i ≡ face_at faces i)))

  pub stands : (i : ℕ) → Stands i
  stands i =
      elim (same_or_not i one) [
        | inl e ↦ inl (e, ap (λ (k : ℕ). face_at (flipped faces one other q) k) e ∙ at_one)
        | inr a ↦ elim (same_or_not i other) [
          | inl e ↦ inr (inl (e, ap (λ (k : ℕ). face_at (flipped faces one other q) k) e ∙ at_other))
          | inr b ↦ inr (inr (a, b, at_rest i a b))
        ]
      ]

module _ (points : List Point) (faces : List (List ℕ)) (one other : ℕ) (q : Quad) (lie : IsQuad faces one other q)
    (free : IsFree points faces one other q) where
  -- faces at two places, where each is one that stands there
  joined : (i j : ℕ) (f g : List ℕ) → face_at (flipped faces one other q) i ≡ f → face_at (flipped faces one other q) j ≡ g
      → AreFacesApart points f g → AreFacesApart points (face_at (flipped faces one other q) i) (face_at (flipped faces one other q) j)
  joined i j f g e h apart =
      subst (λ (x : List ℕ). AreFacesApart points x (face_at (flipped faces one other q) j)) (sym e)
      (subst (λ (x : List ℕ). AreFacesApart points f x) (sym h) apart)

  pub flip_apart : KeepsApart points points faces (flipped faces one other q)
  flip_apart i j ne li lj apart =
      let x : List ℕ = q.a ∷ q.d ∷ q.c ∷ [] in
      let y : List ℕ = q.d ∷ q.b ∷ q.c ∷ [] in
      elim (stands faces one other q lie i) [
        | inl s ↦ elim (stands faces one other q lie j) [
          | inl t ↦ absurd (ne (s.0 ∙ sym t.0))
          | inr more ↦ elim more [
            | inl t ↦ joined i j x y s.1 t.1 free.both
            | inr t ↦ joined i j x (face_at faces j) s.1 t.2 (free.clear j lj t.0 t.1).first
          ]
        ]
        | inr rest ↦ elim rest [
          | inl s ↦ elim (stands faces one other q lie j) [
            | inl t ↦ joined i j y x s.1 t.1 (apart_back points x y free.both)
            | inr more ↦ elim more [
              | inl t ↦ absurd (ne (s.0 ∙ sym t.0))
              | inr t ↦ joined i j y (face_at faces j) s.1 t.2 (free.clear j lj t.0 t.1).second
            ]
          ]
          | inr s ↦ elim (stands faces one other q lie j) [
            | inl t ↦ joined i j (face_at faces i) x s.2 t.1 (apart_back points x _ (free.clear i li s.0 s.1).first)
            | inr more ↦ elim more [
              | inl t ↦ joined i j (face_at faces i) y s.2 t.1 (apart_back points y _ (free.clear i li s.0 s.1).second)
              | inr t ↦ joined i j (face_at faces i) (face_at faces j) s.2 t.2 apart
            ]
          ]
        ]
      ]

-- the boxes of the new faces are inserted, and those of the others stay
pub flip_boxes : (points : List Point) (faces : List (List ℕ)) (one other : ℕ) (q : Quad) (old mid new : HullTree) (h k : Hull)
    → IsQuad faces one other q → IsTreeOf points faces old → HoldsFace points h (q.a ∷ q.d ∷ q.c ∷ [])
    → HoldsFace points k (q.d ∷ q.b ∷ q.c ∷ []) → IsInserted mid one h → IsInserted new other k
    → ((i : ℕ) (g : Hull) → IsInserted old i g → IsInserted mid i g) → ((i : ℕ) (g : Hull) → IsInserted mid i g → IsInserted new i g)
    → mid.leaves ≡ old.leaves → new.leaves ≡ mid.leaves
    → IsTreeOf points (flipped faces one other q) new
flip_boxes points faces one other q old mid new h k lie boxes first second insert_one insert_other kept kept_on same same_on =
    let count : length (flipped faces one other q) ≡ length faces =
    length-set {A = List ℕ} (set faces one _) other _ ∙ length-set {A = List ℕ} faces one _ in
    record {
      room = omega (arith, boxes.room, count);
      insert = λ i l.
          elim (stands faces one other q lie i) [
            | inl s ↦ (
              h,
              subst (λ (f : List ℕ). HoldsFace points h f) (sym s.1) first,
              subst (λ (n : ℕ). IsInserted new n h) (sym s.0) (kept_on one h insert_one),
            )
            | inr rest ↦ elim rest [
              | inl s ↦ (
                k,
                subst (λ (f : List ℕ). HoldsFace points k f) (sym s.1) second,
                subst (λ (n : ℕ). IsInserted new n k) (sym s.0) insert_other,
              )
              | inr s ↦
                  let was = boxes.insert i (omega (arith, count)) in (
                    was.0,
                    subst (λ (f : List ℕ). HoldsFace points was.0 f) (sym s.2) was.1,
                    kept_on i was.0 (kept i was.0 was.2),
                  )
            ]
          ];
    }
