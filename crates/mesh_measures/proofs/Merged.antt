-- Sets after the first sides were passed, and after all.
--
-- A merge keeps what was together, and connects the two parts; so whatever is together is connected by links (merged_at). Sorted sides
-- with one edge are neighbors one after another, so their parts are together in the end (all_merged).
use Rattle.std.proofs.Common.{ℕ, zero, suc, ◌≡◌, ◌≢◌, ◌+◌, ◌-◌, ◌<◌, ◌≤◌, ◌⊎◌, inl, inr, refl, ap, sym, ◌∙◌, subst, arith, List, length}
use Rattle.std.proofs.lemmas.Bool.{cases_lt, cases_eq}
use Rattle.mesh_edges.specs.Sets.{AreTogether, IsForest, IsMerge}
use Rattle.mesh_edges.proofs.Tops.{together_self, together_turned, together_on}
use Rattle.mesh_edges.specs.Paths.{ArePath}
use Rattle.mesh_measures.specs.Merges.{AreConnectedBy, IsMergedBy, part_at}
use Rattle.mesh_measures.specs.Sides.{key_at}
use Rattle.mesh_measures.specs.declared.merges.Part.{Part}
use Rattle.mesh_measures.specs.declared.sides.Side.{Side}
use Rattle.mesh_edges.proofs.Paths.{path_on, one_link}

-- after the first i sides
pub record IsMergedTo (part : Part) (sides : List Side) (old new : List ℕ) (i : ℕ) : Type 0 where
  pub count : length new ≡ length old
  pub kept : (x y : ℕ) → AreTogether old x y → AreTogether new x y
  pub done :
      (j k : ℕ) → k ≡ j + 1 → k < i → k < length sides → key_at sides j ≡ key_at sides k
      → AreTogether new (part_at part sides j) (part_at part sides k)
  pub only : (x y : ℕ) → AreTogether new x y → ArePath (AreConnectedBy part sides old) x y

module _ (part : Part) (sides : List Side) (old : List ℕ) where
  abbrev Links : ℕ → ℕ → Type 0
  Links = AreConnectedBy part sides old

  pub none_merged : IsMergedTo part sides old old 1
  none_merged =
      record {
        count = refl;
        kept = λ x y t. t;
        done = λ j k e l m s. absurd (omega arith);
        only = λ x y t. one_link Links x y (inl t);
      }

  -- one side more
  pub merged_at : (mid new : List ℕ) (i : ℕ) → 1 ≤ i → i < length sides
      → (key_at sides (i - 1) ≡ key_at sides i → IsMerge (part_at part sides (i - 1)) (part_at part sides i) mid new)
      → (key_at sides (i - 1) ≢ key_at sides i → new ≡ mid) → IsMergedTo part sides old mid i → IsMergedTo part sides old new (i + 1)
  merged_at mid new i after here merges same was = by (cases_eq (key_at sides (i - 1)) (key_at sides i))
    where
      by : (key_at sides (i - 1) ≡ key_at sides i) ⊎ (key_at sides (i - 1) ≡ key_at sides i → ⊥) → IsMergedTo part sides old new (i + 1)
      by (inr ne) =
          subst (λ (z : List ℕ). IsMergedTo part sides old z (i + 1)) (sym (same ne))
          (record {
            count = was.count;
            kept = was.kept;
            done = λ j k e l m s.
                elim (cases_lt k i) [
                  | inl less ↦ was.done j k e less m s
                  | inr more ↦
                      let ek : k ≡ i = omega arith in
                      let ej : j ≡ i - 1 = omega arith in
                      absurd (ne (ap (key_at sides) (sym ej) ∙ (s ∙ ap (key_at sides) ek)))
                ];
            only = was.only;
          })
      by (inl e) =
          let merge = merges e in
          record {
            count = merge.count ∙ was.count;
            kept = λ x y t. merge.kept x y (was.kept x y t);
            done = λ j k ek l m s.
                elim (cases_lt k i) [
                  | inl less ↦ merge.kept _ _ (was.done j k ek less m s)
                  | inr more ↦
                      let e1 : i ≡ k = omega arith in
                      let e2 : i - 1 ≡ j = omega arith in
                      subst (λ (z : ℕ). AreTogether new (part_at part sides j) (part_at part sides z)) e1
                      (subst (λ (z : ℕ). AreTogether new (part_at part sides z) (part_at part sides i)) e2 merge.merged)
                ];
            only = λ x y t. parts x y (merge.only x y t);
          }
        where
          forth : ArePath Links (part_at part sides (i - 1)) (part_at part sides i)
          forth =
              one_link Links (part_at part sides (i - 1)) (part_at part sides i)
              (inr (record { i = i - 1; j = i; one = omega arith; other = here; edge = e; from = refl; to = refl }))

          back : ArePath Links (part_at part sides i) (part_at part sides (i - 1))
          back =
              one_link Links (part_at part sides i) (part_at part sides (i - 1))
              (inr (record { i = i; j = i - 1; one = here; other = omega arith; edge = sym e; from = refl; to = refl }))

          parts : (x y : ℕ)
              → AreTogether mid x y
              ⊎ ((AreTogether mid x (part_at part sides (i - 1)) × AreTogether mid y (part_at part sides i))
              ⊎ (AreTogether mid x (part_at part sides i) × AreTogether mid y (part_at part sides (i - 1))))
              → ArePath Links x y
          parts x y (inl t) = was.only x y t
          parts x y (inr (inl t)) =
              path_on Links (was.only x _ t.0) (path_on Links forth (was.only _ y (together_turned mid t.1)))
          parts x y (inr (inr t)) =
              path_on Links (was.only x _ t.0) (path_on Links back (was.only _ y (together_turned mid t.1)))

  -- all sides with one edge
  pub all_merged : (new : List ℕ) (i : ℕ) → IsForest new → length sides ≤ i
      → ((j k : ℕ) → j ≤ k → k < length sides → key_at sides j ≤ key_at sides k)
      → ((k : ℕ) → k < length sides → part_at part sides k < length new) → IsMergedTo part sides old new i
      → IsMergedBy part sides old new
  all_merged new i forest end sorted within was =
      record {
        count = was.count;
        kept = λ x y link. kept x y link;
        only = was.only;
      }
    where
      up : (d j k : ℕ) → k ≡ j + d → k < length sides → key_at sides j ≡ key_at sides k
          → AreTogether new (part_at part sides j) (part_at part sides k)
      up zero j k e l s =
          let same : j ≡ k = omega arith in
          subst (λ (z : ℕ). AreTogether new (part_at part sides j) (part_at part sides z)) same
          (together_self new (part_at part sides j) forest (within j (omega arith)))
      up (suc d) j k e l s =
          let m : ℕ = j + d in
          let low : key_at sides j ≤ key_at sides (j + d) = sorted j (j + d) (omega arith) (omega arith) in
          let high : key_at sides (j + d) ≤ key_at sides k = sorted (j + d) k (omega arith) l in
          let same : key_at sides j ≡ key_at sides (j + d) = omega arith in
          together_on new (up d j (j + d) refl (omega arith) same)
          (was.done (j + d) k (omega arith) (omega arith) l (sym same ∙ s))

      kept : (x y : ℕ) → Links x y → AreTogether new x y
      kept x y (inl t) = was.kept x y t
      kept x y (inr e) =
          let to : AreTogether new (part_at part sides e.i) (part_at part sides e.j) =
          elim (cases_lt e.i e.j) [
            | inl less ↦ up (e.j - e.i) e.i e.j (omega arith) e.other e.edge
            | inr more ↦ together_turned new (up (e.i - e.j) e.j e.i (omega arith) e.one (sym e.edge))
          ] in
          subst (λ (z : ℕ). AreTogether new z y) (sym e.from)
          (subst (λ (z : ℕ). AreTogether new (part_at part sides e.i) z) (sym e.to) to)
