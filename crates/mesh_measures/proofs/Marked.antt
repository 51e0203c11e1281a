-- Marks of vertices, one more at a time.
use Rattle.std.proofs.Common.{ℕ, ◌≡◌, ◌+◌, ◌<◌, ◌⊎◌, inl, inr, ap, sym, ◌∙◌, subst, arith, Bool, true, false, List, length, get_or}
use Rattle.std.proofs.Common.{set, get_or-set_same, get_or-set_other}
use Rattle.std.proofs.Math.ListN.{length-set}
use Rattle.std.specs.List.{All}
use Rattle.std.proofs.lemmas.Bool.{cases_lt, cases_eq, false≢true}
use Rattle.mesh_edges.specs.HalfEdges.{start}
use Rattle.mesh_edges.specs.Sets.{IsFirstOfSet}
use Rattle.mesh_measures.specs.Marks.{HasCorner, HasSecond, IsEndOfOdd, IsFlagged}
use Rattle.mesh_measures.specs.Merges.{part_at}
use Rattle.mesh_measures.specs.Sides.{IsOddSide}
use Rattle.mesh_measures.specs.declared.merges.Part.TheVariants.{Low, High}
use Rattle.mesh_measures.specs.declared.sides.Side.{Side}

-- the same by another description
pub marked_as : (P Q : ℕ → Type 0) (flags : List Bool) → ((v : ℕ) → v < length flags → P v → Q v)
    → ((v : ℕ) → v < length flags → Q v → P v) → IsFlagged P flags → IsFlagged Q flags
marked_as P Q flags to from was =
    record { yes = λ v l e. to v l (was.yes v l e); no = λ v l q. was.no v l (from v l q) }

-- no mark
pub none_marked : (P : ℕ → Type 0) (flags : List Bool) → All (λ b. b ≡ false) flags → ((v : ℕ) → P v → ⊥) → IsFlagged P flags
none_marked P flags clear none =
    record { yes = λ v l e. absurd (false≢true (sym (clear v false l) ∙ e)); no = λ v l p. absurd (none v p) }

-- no corner was passed
pub second_none : (faces : List (List ℕ)) (parents : List ℕ) (R : ℕ → Type 0) (flags : List Bool) → IsFlagged R flags
    → IsFlagged (λ v. R v ⊎ HasSecond faces parents 0 v) flags
second_none faces parents R flags was =
    marked_as R (λ v. R v ⊎ HasSecond faces parents 0 v) flags (λ v l r. inl r) (λ v l p. only v p) was
  where
    only : (v : ℕ) → R v ⊎ HasSecond faces parents 0 v → R v
    only v (inl r) = r
    only v (inr h) = absurd (omega (arith, h.below))

-- one mark more
pub marked_one : (P : ℕ → Type 0) (flags : List Bool) (w : ℕ) → w < length flags → IsFlagged P flags
    → IsFlagged (λ v. P v ⊎ (v ≡ w)) (set flags w true)
marked_one P flags w lw was =
    record {
      yes = λ v l e.
          elim (cases_eq v w) [
            | inl same ↦ inr same
            | inr ne ↦ inl (was.yes v (omega (arith, l, length-set flags w true)) (sym (get_or-set_other flags w v true false ne) ∙ e))
          ];
      no = λ v l p. no v (omega (arith, l, length-set flags w true)) p;
    }
  where
    here : (v : ℕ) → v ≡ w → get_or (set flags w true) v false ≡ true
    here v e = ap (λ (k : ℕ). get_or (set flags w true) k false) e ∙ get_or-set_same flags w true false lw

    no : (v : ℕ) → v < length flags → P v ⊎ (v ≡ w) → get_or (set flags w true) v false ≡ true
    no v l (inr e) = here v e
    no v l (inl p) =
        elim (cases_eq v w) [
          | inl e ↦ here v e
          | inr ne ↦ get_or-set_other flags w v true false ne ∙ was.no v l p
        ]

module _ (faces : List (List ℕ)) (sides : List Side) (i : ℕ) where
  end_next : (v : ℕ) → IsEndOfOdd faces sides i v → IsEndOfOdd faces sides (i + 1) v
  end_next v e = record { i = e.i; below = omega (arith, e.below); odd = e.odd; at = e.at }

  end_before : (v : ℕ) → (e : IsEndOfOdd faces sides (i + 1) v) → e.i < i → IsEndOfOdd faces sides i v
  end_before v e l = record { i = e.i; below = l; odd = e.odd; at = e.at }

  -- side i is not odd
  pub ends_skipped : (flags : List Bool) → (IsOddSide sides i → ⊥) → IsFlagged (IsEndOfOdd faces sides i) flags
      → IsFlagged (IsEndOfOdd faces sides (i + 1)) flags
  ends_skipped flags even was =
      marked_as (IsEndOfOdd faces sides i) (IsEndOfOdd faces sides (i + 1)) flags (λ v l e. end_next v e)
      (λ v l e.
      elim (cases_lt e.i i) [
        | inl less ↦ end_before v e less
        | inr more ↦
            let same : e.i ≡ i = omega (arith, e.below) in
            absurd (even (subst (IsOddSide sides) same e.odd))
      ])
      was

  -- it is
  pub ends_more : (flags : List Bool) (a b : ℕ) → IsOddSide sides i → a ≡ start faces (part_at Low sides i)
      → b ≡ start faces (part_at High sides i) → a < length flags → b < length flags → IsFlagged (IsEndOfOdd faces sides i) flags
      → IsFlagged (IsEndOfOdd faces sides (i + 1)) (set (set flags a true) b true)
  ends_more flags a b odd ea eb la lb was =
      marked_as (λ v. (IsEndOfOdd faces sides i v ⊎ (v ≡ a)) ⊎ (v ≡ b)) (IsEndOfOdd faces sides (i + 1))
      (set (set flags a true) b true) (λ v l p. to v p) (λ v l e. from v e)
      (marked_one (λ v. IsEndOfOdd faces sides i v ⊎ (v ≡ a)) (set flags a true) b (omega (arith, lb, length-set flags a true))
      (marked_one (IsEndOfOdd faces sides i) flags a la was))
    where
      to : (v : ℕ) → (IsEndOfOdd faces sides i v ⊎ (v ≡ a)) ⊎ (v ≡ b) → IsEndOfOdd faces sides (i + 1) v
      to v (inl (inl e)) = end_next v e
      to v (inl (inr e)) = record { i = i; below = omega arith; odd = odd; at = inl (sym (e ∙ ea)) }
      to v (inr e) = record { i = i; below = omega arith; odd = odd; at = inr (sym (e ∙ eb)) }

      ends : (v j : ℕ) → j ≡ i → (start faces (part_at Low sides j) ≡ v) ⊎ (start faces (part_at High sides j) ≡ v)
          → (IsEndOfOdd faces sides i v ⊎ (v ≡ a)) ⊎ (v ≡ b)
      ends v j e (inl p) = inl (inr (sym p ∙ (ap (λ (k : ℕ). start faces (part_at Low sides k)) e ∙ sym ea)))
      ends v j e (inr p) = inr (sym p ∙ (ap (λ (k : ℕ). start faces (part_at High sides k)) e ∙ sym eb))

      from : (v : ℕ) → IsEndOfOdd faces sides (i + 1) v → (IsEndOfOdd faces sides i v ⊎ (v ≡ a)) ⊎ (v ≡ b)
      from v e =
          elim (cases_lt e.i i) [
            | inl less ↦ inl (inl (end_before v e less))
            | inr more ↦ let below = e.below in ends v e.i (omega arith) e.at
          ]

-- the corners at vertices
module _ (faces : List (List ℕ)) (c v : ℕ) (at : start faces c ≡ v) where
  module _ (parents : List ℕ) (R : ℕ → Type 0) (flags : List Bool) where
    abbrev Was : ℕ → Type 0
    Was w = R w ⊎ HasSecond faces parents c w

    abbrev Is : ℕ → Type 0
    Is w = R w ⊎ HasSecond faces parents (c + 1) w

    next : (w : ℕ) → Was w → Is w
    next w (inl r) = inl r
    next w (inr h) =
        inr (record {
          c = h.c;
          d = h.d;
          below = omega (arith, h.below);
          before = h.before;
          at = h.at;
          also = h.also;
          first = h.first;
        })

    -- a second corner is one before, or this one
    last : (w : ℕ) → Is w → Was w ⊎ ((w ≡ v) × HasCorner faces c v × IsFirstOfSet parents c)
    last w (inl r) = inl (inl r)
    last w (inr h) =
        elim (cases_lt h.c c) [
          | inl less ↦
              inl (inr (record {
                c = h.c;
                d = h.d;
                below = less;
                before = h.before;
                at = h.at;
                also = h.also;
                first = h.first;
              }))
          | inr more ↦
              let e : h.c ≡ c = omega (arith, h.below) in
              let same : w ≡ v = sym h.at ∙ (ap (start faces) e ∙ at) in
              inr (same, (h.d, omega (arith, h.before, e), h.also ∙ same), subst (IsFirstOfSet parents) e h.first)
        ]

    -- this one is not
    pub second_skipped : (HasCorner faces c v → IsFirstOfSet parents c → ⊥) → IsFlagged Was flags → IsFlagged Is flags
    second_skipped none was = marked_as Was Is flags (λ w m p. next w p) (λ w m p. from w (last w p)) was
      where
        from : (w : ℕ) → Was w ⊎ ((w ≡ v) × HasCorner faces c v × IsFirstOfSet parents c) → Was w
        from w (inl p) = p
        from w (inr p) = absurd (none p.1 p.2)

    -- this one is
    pub second_more : v < length flags → HasCorner faces c v → IsFirstOfSet parents c → IsFlagged Was flags
        → IsFlagged Is (set flags v true)
    second_more l had first was =
        marked_as (λ w. Was w ⊎ (w ≡ v)) Is (set flags v true) (λ w m p. to w p) (λ w m p. from w (last w p))
        (marked_one Was flags v l was)
      where
        to : (w : ℕ) → Was w ⊎ (w ≡ v) → Is w
        to w (inl p) = next w p
        to w (inr e) =
            inr (record {
              c = c;
              d = had.0;
              below = omega arith;
              before = had.1;
              at = at ∙ sym e;
              also = had.2 ∙ sym e;
              first = first;
            })

        from : (w : ℕ) → Was w ⊎ ((w ≡ v) × HasCorner faces c v × IsFirstOfSet parents c) → Was w ⊎ (w ≡ v)
        from w (inl p) = inl p
        from w (inr p) = inr p.0
