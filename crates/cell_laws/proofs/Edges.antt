-- The edges of a list that is the fan, each facet once: the facet with the reversed edge is there since the edges of the fan meet,
-- and it is the only one.
-- Stands on: LinkedCells (the twelve writings by sides).
use Rattle.std.proofs.Common.{ℕ, zero, suc, ◌≡◌, ◌<◌, refl, ap, sym, subst, ◌∙◌, ◌⊎◌, inl, inr, arith}
use Rattle.geo_sign.specs.Tetrahedron.{DirectedFacet, facet, IsRotated}
use Rattle.geo_sign.specs.Vertices.{Vertices}
use Rattle.geo_sign.specs.Edges.{edge_end, edge_start}
use Rattle.cell_laws.specs.Edges.{AreEdges, IsFanList}
use Rattle.cell_laws.specs.Fans.{IsOnFan}
use Rattle.cell_laws.specs.InsertionLaws.{IsFanOf}
use Rattle.geo_sign.proofs.Rotations.{rotated_after, rotated_back}

-- x y z is u v w, up to rotation
abbrev pub IsTurn : (x y z u v w : ℕ) → Type 0
IsTurn x y z u v w = ((x ≡ u) × (y ≡ v) × (z ≡ w)) ⊎ (((x ≡ v) × (y ≡ w) × (z ≡ u)) ⊎ ((x ≡ w) × (y ≡ u) × (z ≡ v)))

three : {a b c d e f : ℕ} → a ≡ d → b ≡ e → c ≡ f → facet a b c ≡ facet d e f
three {a} {b} {c} {d} {e} {f} h i j = ap (λ x. facet x b c) h ∙ ap (λ x. facet d x c) i ∙ ap (λ x. facet d e x) j

parts : (f g : DirectedFacet) → f ≡ g → (f.a ≡ g.a) × (f.b ≡ g.b) × (f.c ≡ g.c)
parts f g e = (ap (λ (x : DirectedFacet). x.a) e, ap (λ (x : DirectedFacet). x.b) e, ap (λ (x : DirectedFacet). x.c) e)

rotated_of : (f : DirectedFacet) (x y z : ℕ) → IsTurn x y z f.a f.b f.c → IsRotated f (facet x y z)
rotated_of f x y z (inl e) = inl (three e.0 e.1 e.2)
rotated_of f x y z (inr (inl e)) = inr (inl (three e.0 e.1 e.2))
rotated_of f x y z (inr (inr e)) = inr (inr (three e.0 e.1 e.2))

turn_of : (f : DirectedFacet) (x y z : ℕ) → IsRotated f (facet x y z) → IsTurn x y z f.a f.b f.c
turn_of f x y z (inl e) = inl (parts (facet x y z) f e)
turn_of f x y z (inr (inl e)) = inr (inl (parts (facet x y z) (facet f.b f.c f.a) e))
turn_of f x y z (inr (inr e)) = inr (inr (parts (facet x y z) (facet f.c f.a f.b) e))

-- a directed edge of each
abbrev EdgeAt : DirectedFacet → (x y : ℕ) → Type 0
EdgeAt f x y = (i : ℕ) × (i < 3) × (edge_start f i ≡ x) × (edge_end f i ≡ y)

turn_edge : (q : DirectedFacet) (x y z : ℕ) → IsTurn x y z q.a q.b q.c → EdgeAt q x y
turn_edge q x y z (inl e) = (2, omega arith, sym e.0, sym e.1)
turn_edge q x y z (inr (inl e)) = (0, omega arith, sym e.0, sym e.1)
turn_edge q x y z (inr (inr e)) = (1, omega arith, sym e.0, sym e.1)

-- ---- the edges of a list that is the fan
abbrev opposite : DirectedFacet → ℕ → ℕ
opposite q zero = q.a
opposite q (suc zero) = q.b
opposite q (suc (suc i)) = q.c

edge_turn : (q : DirectedFacet) (e : ℕ) → IsTurn (edge_start q e) (edge_end q e) (opposite q e) q.a q.b q.c
edge_turn q zero = inr (inl (refl, refl, refl))
edge_turn q (suc zero) = inr (inr (refl, refl, refl))
edge_turn q (suc (suc e)) = inl (refl, refl, refl)

edge_fan :
    (v : Vertices) (p : ℕ) → IsFanOf v p → (q : DirectedFacet) → IsOnFan v p q.a q.b q.c → (e : ℕ) →
    IsOnFan v p (edge_start q e) (edge_end q e) (opposite q e)
edge_fan v p l q h zero = l.turned q.a q.b q.c h
edge_fan v p l q h (suc zero) = l.turned q.b q.c q.a (l.turned q.a q.b q.c h)
edge_fan v p l q h (suc (suc e)) = h

pub fan_edges : (v : Vertices) (p : ℕ) → IsFanOf v p → (n : ℕ) (f : ℕ → DirectedFacet) → IsFanList v p n f → AreEdges n f
fan_edges v p l n f h = record { next = next; apart = apart }
  where
    next :
        (i e : ℕ) → i < n → (j : ℕ) × (e' : ℕ) × (j < n) × (e' < 3) × (edge_start (f j) e' ≡ edge_end (f i) e) ×
        (edge_end (f j) e' ≡ edge_start (f i) e)
    next i e k =
        let x = l.next (edge_start (f i) e) (edge_end (f i) e) (opposite (f i) e) (edge_fan v p l (f i) (h.fan i k) e) in
        let j = h.all (edge_end (f i) e) (edge_start (f i) e) x.0 x.1 in
        let y =
        turn_edge (f j.0) (edge_end (f i) e) (edge_start (f i) e) x.0
        (turn_of (f j.0) (edge_end (f i) e) (edge_start (f i) e) x.0 j.2) in
        (j.0, y.0, j.1, y.1, y.2, y.3)

    apart : (i e j e' : ℕ) → i < n → j < n → edge_start (f i) e ≡ edge_start (f j) e' → edge_end (f i) e ≡ edge_end (f j) e'
        → i ≡ j
    apart i e j e' k m a b =
        let x = edge_fan v p l (f i) (h.fan i k) e in
        let y = edge_fan v p l (f j) (h.fan j m) e' in
        let y' : IsOnFan v p (edge_start (f i) e) (edge_end (f i) e) (opposite (f j) e') =
        subst (λ t. IsOnFan v p t (edge_end (f i) e) (opposite (f j) e')) (sym a)
        (subst (λ t. IsOnFan v p (edge_start (f j) e') t (opposite (f j) e')) (sym b) y) in
        let c : opposite (f i) e ≡ opposite (f j) e' =
        l.once (edge_start (f i) e) (edge_end (f i) e) (opposite (f i) e) (opposite (f j) e') x y' in
        let t = edge_turn (f j) e' in
        let t' : IsTurn (edge_start (f i) e) (edge_end (f i) e) (opposite (f i) e) (f j).a (f j).b (f j).c =
        subst (λ z. IsTurn z (edge_end (f i) e) (opposite (f i) e) (f j).a (f j).b (f j).c) (sym a)
        (subst (λ z. IsTurn (edge_start (f j) e') z (opposite (f i) e) (f j).a (f j).b (f j).c) (sym b)
        (subst (λ z. IsTurn (edge_start (f j) e') (edge_end (f j) e') z (f j).a (f j).b (f j).c) (sym c) t)) in
        let w = facet (edge_start (f i) e) (edge_end (f i) e) (opposite (f i) e) in
        h.once i j k m
        (rotated_after (f i) w (f j) (rotated_of (f i) w.a w.b w.c (edge_turn (f i) e))
        (rotated_back (f j) w (rotated_of (f j) w.a w.b w.c t')))
