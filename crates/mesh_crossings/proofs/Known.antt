-- What is known of pairs while a list grows, and at last.
use Rattle.std.proofs.Common.{ℕ, ◌≡◌, ◌*◌, ◌<◌, ◌≤◌, ◌⊎◌, inl, inr, ap, ◌∙◌, subst, arith, List, [], length, get_or, map}
use Rattle.std.specs.List.{Contains}
use Rattle.std.proofs.lemmas.Bool.{cases_lt}
use Rattle.std.proofs.lemmas.List.{get_or-map, get_or_default, length-map}
use Rattle.geo_sign.specs.Point.{Point}
use Rattle.mesh_edges.specs.Edges.{face_at}
use Rattle.mesh_edges.specs.declared.pairs.Pair.{Pair}
use Rattle.triangles.specs.Hulls.{AreOff}
use Rattle.triangles.specs.Trees.{IsInserted}
use Rattle.triangles.specs.declared.hull.Hull.{Hull}
use Rattle.triangles.specs.declared.tree.HullTree.{HullTree}
use Rattle.triangles.specs.Gaps.{AreFacesApart}
use Rattle.mesh_flips.specs.Fields.{HoldsFace, IsTreeOf}
use Rattle.mesh_flips.specs.Orders.{Covers}
use Rattle.mesh_flips.proofs.Off.{apart_back, off_apart}
use Rattle.mesh_crossings.specs.Tested.{AreAllKnown, ArePairsKnown, AreRanksKnown, AreSamePairs, IsKnown, IsKnownEither, KeepsPairs}

-- one list after another
pub kept_on : (a b c : List Pair) → KeepsPairs a b → KeepsPairs b c → KeepsPairs a c
kept_on a b c first second p has = second p (first p has)

module _ (points : List Point) (faces : List (List ℕ)) where
  pub known_kept : (a b : List Pair) (i j : ℕ) → KeepsPairs a b → IsKnown points faces a i j → IsKnown points faces b i j
  known_kept a b i j k (inl has) = inl (k _ has)
  known_kept a b i j k (inr apart) = inr apart

  pub either_kept : (a b : List Pair) (i j : ℕ) → KeepsPairs a b → IsKnownEither points faces a i j → IsKnownEither points faces b i j
  either_kept a b i j k e =
      record {
        forth = λ m. known_kept a b i j k (e.forth m);
        back = λ m. known_kept a b j i k (e.back m);
      }

  -- faces that are apart
  pub either_apart : (a : List Pair) (i j : ℕ) → AreFacesApart points (face_at faces j) (face_at faces i)
      → IsKnownEither points faces a i j
  either_apart a i j apart =
      record {
        forth = λ m. inr (apart_back points (face_at faces j) (face_at faces i) apart);
        back = λ m. inr apart;
      }

  module _ (numbers : List ℕ) (sorted : List (List ℕ)) (is : sorted ≡ map (face_at faces) numbers) where
    sorted_at : (s : ℕ) → s < length numbers → face_at sorted s ≡ face_at faces (get_or numbers s 0)
    sorted_at s l =
        ap (λ (fs : List (List ℕ)). face_at fs s) is ∙ get_or-map (face_at faces) numbers s 0 [] l

    pub sorted_count : length sorted ≡ length numbers
    sorted_count = ap length is ∙ length-map numbers (face_at faces)

    -- all ranks before r, by those that were found near
    pub near_known : (tree : HullTree) (r : ℕ) (hull : Hull) (found : List ℕ) (a : List Pair) → IsTreeOf points sorted tree
        → r < length numbers → HoldsFace points hull (face_at sorted r)
        → ((i : ℕ) (h : Hull) → i < 4 * tree.leaves → IsInserted tree i h → Contains found i ⊎ AreOff h hull)
        → ((s : ℕ) → Contains found s → s < r → AreRanksKnown points faces numbers a r s) → (s : ℕ) → s < r
        → AreRanksKnown points faces numbers a r s
    near_known tree r hull found a boxes lr holds near each s less =
        let ls : s < length sorted = omega (arith, sorted_count) in
        let was = boxes.insert s ls in
        elim (near s was.0 (omega (arith, ls, boxes.room)) was.2) [
          | inl has ↦ each s has less
          | inr off ↦
              either_apart a (get_or numbers r 0) (get_or numbers s 0)
              (subst (λ (f : List ℕ). AreFacesApart points f (face_at faces (get_or numbers r 0))) (sorted_at s (omega arith))
              (subst (AreFacesApart points (face_at sorted s)) (sorted_at r lr)
              (off_apart points was.0 hull (face_at sorted s) (face_at sorted r) was.1 holds off)))
        ]

  -- each number of a list
  pub of_each : (P : ℕ → Type 0) (found : List ℕ) (n i : ℕ) → ((k : ℕ) → k < n → P (get_or found k 0)) → length found ≤ n
      → Contains found i → P i
  of_each P found n i each all has =
      let at : get_or found has.0 0 ≡ i = get_or_default found has.0 0 i has.1 ∙ has.2 in
      subst P at (each has.0 (omega (arith, has.1)))

  -- each pair of faces at last
  pub all_known : (numbers : List ℕ) (pairs once : List Pair) → Covers (length faces) numbers
      → AreAllKnown points faces numbers pairs (length numbers) → AreSamePairs pairs once → ArePairsKnown points faces once
  all_known numbers pairs once covers known same i j l m =
      known_kept pairs once i j same.0 (found i j l (covers.all i (omega arith)) (covers.all j m))
    where
      place : (i : ℕ) → (r : Contains numbers i) → get_or numbers r.0 0 ≡ i
      place i r = get_or_default numbers r.0 0 i r.1 ∙ r.2

      found : (i j : ℕ) → i < j → Contains numbers i → Contains numbers j → IsKnown points faces pairs i j
      found i j l r s =
          elim (cases_lt r.0 s.0) [
            | inl less ↦
                let e = known s.0 r.0 less s.1 in
                subst (λ (x : ℕ). IsKnown points faces pairs x j) (place i r)
                (subst (IsKnown points faces pairs (get_or numbers r.0 0)) (place j s)
                (e.back (omega (arith, place i r, place j s))))
            | inr more ↦ elim (cases_lt s.0 r.0) [
              | inl less ↦
                  let e = known r.0 s.0 less r.1 in
                  subst (λ (x : ℕ). IsKnown points faces pairs x j) (place i r)
                  (subst (IsKnown points faces pairs (get_or numbers r.0 0)) (place j s)
                  (e.forth (omega (arith, place i r, place j s))))
              | inr same ↦
                  let e : r.0 ≡ s.0 = omega arith in
                  absurd (omega (arith, place i r, place j s, ap (λ (k : ℕ). get_or numbers k 0) e))
            ]
          ]
