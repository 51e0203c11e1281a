-- Roots of umbrellas get new vertices, in the order of the old ones.
use Rattle.std.proofs.Common.{ℕ, zero, suc, ◌≡◌, ◌≢◌, ◌+◌, ◌*◌, ◌^◌, ◌<◌, ◌≤◌, ◌⊎◌, ◌++◌, inl, inr, refl, ap, sym, ◌∙◌, subst, arith, below_more}
use Rattle.std.proofs.Common.{List, [], ◌∷◌, length, get_or, set, get_or-set_same, get_or-set_other}
use Rattle.std.specs.List.{All, Contains}
use Rattle.std.proofs.Math.ListN.{length-set}
use Rattle.std.proofs.lemmas.Bool.{cases_lt, cases_eq}
use Rattle.std.proofs.lemmas.List.{get_or_default, get_or_push, get_or_append_left, length_push}
use Rattle.std.proofs.lemmas.List.Elements.{Contains-push, Contains-append_left, All-push}
use Rattle.std.specs.List.Sorted.{IsPermutation, IsNonDecreasingBy}
use Rattle.std.proofs.lemmas.List.Sorted.{All-permutation, Contains-permutation, length_permutation}
use Rattle.mesh_edges.specs.Pairs.{key_of_pair}
use Rattle.mesh_edges.specs.declared.pairs.Pair.{Pair}
use Rattle.mesh_edges.specs.HalfEdges.{start}
use Rattle.mesh_pieces.specs.Vertices.{root_pair, root_in, IsRoot, AreRoots, HoldsVertex, IsHolder, ArePlaced, AreVerticesOf, IsHighest}

-- one half edge more, which is a root
pub roots_more : (faces : List (List ℕ)) (roots : List ℕ) (h : ℕ) (list : List Pair) → h < length roots → get_or roots h 0 ≡ h
    → AreRoots faces roots h list → AreRoots faces roots (h + 1) (list ++ root_pair faces h ∷ [])
roots_more faces roots h list l own was =
    record {
      each =
          All-push (IsRoot faces roots) list (root_pair faces h) was.each (record { within = l; own = own; vertex = refl });
      all =
          below_more (λ g. get_or roots g 0 ≡ g → Contains (list ++ root_pair faces h ∷ []) (root_pair faces g)) h
          (λ g m e. Contains-append_left list (root_pair faces h ∷ []) (root_pair faces g) (was.all g m e))
          (λ e. Contains-push list (root_pair faces h));
      few = omega (arith, length_push list (root_pair faces h), was.few);
    }

-- one half edge more, which is none
pub roots_same : (faces : List (List ℕ)) (roots : List ℕ) (h : ℕ) (list : List Pair) → get_or roots h 0 ≢ h
    → AreRoots faces roots h list → AreRoots faces roots (h + 1) list
roots_same faces roots h list other was =
    record {
      each = was.each;
      all =
          below_more (λ g. get_or roots g 0 ≡ g → Contains list (root_pair faces g)) h was.all (λ e. absurd (other e));
      few = omega (arith, was.few);
    }

-- a root gets a new vertex
module _ (faces : List (List ℕ)) (roots numbers origin holders : List ℕ) (was : ArePlaced faces roots numbers origin holders)
    (v h : ℕ) (l : h < length roots) (own : get_or roots h 0 ≡ h) (at : v ≡ start faces h) (not : ¬ (HoldsVertex numbers holders h))
    (top : IsHighest origin v) where
  abbrev numbers' : List ℕ
  numbers' = set numbers h (length holders)

  abbrev origin' : List ℕ
  origin' = origin ++ v ∷ []

  abbrev holders' : List ℕ
  holders' = holders ++ h ∷ []

  number_here : get_or (set numbers h (length holders)) h 0 ≡ length holders
  number_here = get_or-set_same numbers h (length holders) 0 (omega (arith, was.count, l))

  holder_was : (w : ℕ) → w < length holders → get_or (holders ++ h ∷ []) w 0 ≡ get_or holders w 0
  holder_was w m = get_or_append_left holders (h ∷ []) 0 w m

  holder_last : (w : ℕ) → w ≡ length holders → get_or (holders ++ h ∷ []) w 0 ≡ h
  holder_last w e = get_or_push holders h 0 w (sym e)

  pub place_here : HoldsVertex (set numbers h (length holders)) (holders ++ h ∷ []) h
  place_here = (
    omega (arith, number_here, length_push holders h),
    ap (λ (w : ℕ). get_or (holders ++ h ∷ []) w 0) number_here ∙ holder_last (length holders) refl,
  )

  pub place_kept : (g : ℕ) → HoldsVertex numbers holders g → HoldsVertex (set numbers h (length holders)) (holders ++ h ∷ []) g
  place_kept g (m, e) =
      let other : g ≢ h = λ q. not (subst (λ (k : ℕ). HoldsVertex numbers holders k) q (m, e)) in
      let same : get_or (set numbers h (length holders)) g 0 ≡ get_or numbers g 0 =
      get_or-set_other numbers h g (length holders) 0 other in (
        omega (arith, same, m, length_push holders h),
        ap (λ (w : ℕ). get_or (holders ++ h ∷ []) w 0) same ∙ (holder_was (get_or numbers g 0) m ∙ e),
      )

  pub place_top : IsHighest (origin ++ v ∷ []) v
  place_top w m =
      elim (cases_lt w (length origin)) [
        | inl less ↦ omega (arith, get_or_append_left origin (v ∷ []) 0 w less, top w less)
        | inr last ↦
            let e : w ≡ length origin = omega (arith, length_push origin v) in omega (arith, get_or_push origin v 0 w (sym e))
      ]

  pub place_all : ArePlaced faces roots (set numbers h (length holders)) (origin ++ v ∷ []) (holders ++ h ∷ [])
  place_all =
      record {
        count = omega (arith, length-set numbers h (length holders), was.count);
        same = omega (arith, length_push origin v, length_push holders h, was.same);
        each = λ w m.
            elim (cases_lt w (length holders)) [
              | inl less ↦ old w less (was.each w less)
              | inr more ↦ new w (omega (arith, length_push holders h))
            ];
        order = λ k m.
            elim (cases_lt (k + 1) (length origin)) [
              | inl less ↦
                  omega (
                    arith,
                    get_or_append_left origin (v ∷ []) 0 k (omega arith),
                    get_or_append_left origin (v ∷ []) 0 (k + 1) less,
                    was.order k less,
                  )
              | inr more ↦
                  let e : k + 1 ≡ length origin = omega (arith, length_push origin v) in
                  omega (
                    arith,
                    get_or_append_left origin (v ∷ []) 0 k (omega arith),
                    get_or_push origin v 0 (k + 1) (sym e),
                    top k (omega arith),
                  )
            ];
      }
    where
      old : (w : ℕ) → w < length holders → IsHolder faces roots numbers origin holders w
          → IsHolder faces roots (set numbers h (length holders)) (origin ++ v ∷ []) (holders ++ h ∷ []) w
      old w m o =
          let same = holder_was w m in
          let other : get_or holders w 0 ≢ h =
          λ q. not (subst (λ (k : ℕ). HoldsVertex numbers holders k) q
          (omega (arith, o.number, m), ap (λ (k : ℕ). get_or holders k 0) o.number)) in
          record {
            within = omega (arith, same, o.within);
            own = ap (λ (k : ℕ). get_or roots k 0) same ∙ (o.own ∙ sym same);
            number =
                ap (λ (k : ℕ). get_or (set numbers h (length holders)) k 0) same
                ∙ (get_or-set_other numbers h (get_or holders w 0) (length holders) 0 other ∙ o.number);
            vertex =
                get_or_append_left origin (v ∷ []) 0 w (omega (arith, was.same))
                ∙ (o.vertex ∙ ap (start faces) (sym same));
          }

      new : (w : ℕ) → w ≡ length holders
          → IsHolder faces roots (set numbers h (length holders)) (origin ++ v ∷ []) (holders ++ h ∷ []) w
      new w e =
          let same = holder_last w e in
          record {
            within = omega (arith, same, l);
            own = ap (λ (k : ℕ). get_or roots k 0) same ∙ (own ∙ sym same);
            number = ap (λ (k : ℕ). get_or (set numbers h (length holders)) k 0) same ∙ (number_here ∙ sym e);
            vertex = get_or_push origin v 0 w (was.same ∙ sym e) ∙ (at ∙ ap (start faces) (sym same));
          }

-- sorted roots are these
pub roots_moved : (faces : List (List ℕ)) (roots : List ℕ) (n : ℕ) (old new : List Pair) → IsPermutation old new
    → AreRoots faces roots n old → AreRoots faces roots n new
roots_moved faces roots n old new moved was =
    record {
      each = All-permutation (IsRoot faces roots) old new moved was.each;
      all = λ h l own. Contains-permutation old new (root_pair faces h) moved (was.all h l own);
      few = omega (arith, length_permutation old new moved, was.few);
    }

-- in sorted pairs the first numbers do not descend
pub firsts_rise : (pairs : List Pair) → IsNonDecreasingBy key_of_pair pairs → ((j : ℕ) → j < length pairs → (root_in pairs j).second < 2 ^ 32)
    → (i j : ℕ) → i < j → j < length pairs → (root_in pairs i).first ≤ (root_in pairs j).first
firsts_rise pairs sorted small i j l m =
    omega (arith, sorted i j (record { first = 0; second = 0 }) (omega arith) m, small i (omega arith), small j m)

pub root_at : (faces : List (List ℕ)) (roots : List ℕ) (n : ℕ) (list : List Pair) → AreRoots faces roots n list → (j : ℕ)
    → j < length list → IsRoot faces roots (root_in list j)
root_at faces roots n list was j l = was.each j (record { first = 0; second = 0 }) l

-- after all roots were placed
pub numbered_all : (faces : List (List ℕ)) (roots : List ℕ) (list : List Pair) (numbers origin holders : List ℕ)
    → AreRoots faces roots (length roots) list → ArePlaced faces roots numbers origin holders
    → ((j : ℕ) → j < length list → HoldsVertex numbers holders (root_in list j).second) → length holders ≤ length list
    → AreVerticesOf faces roots numbers origin holders
numbered_all faces roots list numbers origin holders all placed done few =
    record {
      placed = placed;
      all = λ h l own. found h (all.all h l own);
      few = omega (arith, few, all.few);
    }
  where
    found : (h : ℕ) → Contains list (root_pair faces h) → HoldsVertex numbers holders h
    found h (j, l, e) =
        let at : root_in list j ≡ root_pair faces h =
        get_or_default list j (record { first = 0; second = 0 }) (root_pair faces h) l ∙ e in
        subst (λ (p : Pair). HoldsVertex numbers holders p.second) at (done j l)
