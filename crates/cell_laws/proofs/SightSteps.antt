-- The way of a sight through cells: from the cell at the vertex p that is towards s, to the cell that holds s. In a cell on the
-- sight, moving on to s, the sides of those facets that have s behind them come down to zero, and one gets there first
-- (Firsts): the sight leaves through that facet, and not through an edge of it, since no two are zero at once. The cell across
-- has it as entry. Each such step goes to a cell that is higher over s, so the way ends, in the cell of which no facet has s
-- behind it; and crossings come in the order of the steps.
--
--   Passage               a cell, and its facet through which the sight comes into it
--   IsPassage v p s t c   the sight leaves t through the facet of c
--   IsWay v p s t cs      these are the passages from t on
--   IsSooner v p s c d    c is nearer to p than d
--
-- Stands on: Crossings and Firsts.
use Rattle.std.proofs.Common.{ℕ, zero, suc, ◌<◌, ◌≡◌, ◌≢◌, ap, sym, subst, ◌∙◌, inl, inr, ⊎_elim, arith, ℤ, pos, neg_ℤ, ◌+ℤ◌}
use Rattle.std.proofs.Common.{◌-ℤ◌, ◌*ℤ◌, ◌≤ℤ◌, ◌<ℤ◌, List, [], ◌∷◌}
use Rattle.std.proofs.lemmas.Int.{ints}
use Rattle.std.proofs.lemmas.Bool.{eqb-true, eqb-false}
use Rattle.geo_sign.specs.Polynomial.{constant, difference, negation, product, sum, variable}
use Rattle.geo_sign.proofs.Ring.{ring}
use Rattle.geo_sign.specs.Rational.{rational, RationalPoint}
use Rattle.geo_sign.specs.Tetrahedron.{facet_of, IsTurned, Tetrahedron, vertex_of}
use Rattle.geo_sign.specs.Vertices.{Vertices}
use Rattle.geo_sign.specs.Places.{IsStrictlyIn}
use Rattle.cell_laws.specs.Lists.{IsIn}
use Rattle.geo_sign.proofs.Rewritings.{IsCellOf, orientation_at}
use Rattle.geo_sign.proofs.Rotations.{side_turned}
use Rattle.cell_laws.proofs.Crossings.{ends, entry_of, IsCrossed, IsEntry, IsLeft, left_exit, left_turned, starts}
use Rattle.cell_laws.proofs.Firsts.{IsAhead, IsExit, IsPast, lead_of}
use Rattle.cell_laws.proofs.Near.{IsTowards}
use Rattle.cell_laws.proofs.Order.{IsLater, later_trans}
use Rattle.geo_sign.specs.Edges.{HasVertex}
use Rattle.geo_sign.proofs.Facets.{opposite_or_on}
use Rattle.cell_laws.proofs.Sides.{inward, on_facet, opposite}

-- a facet that is crossed: the cell on its inner side, and its index there
pub record Passage : Type 0 where
  pub cell : Tetrahedron
  pub at : ℕ

-- the sight leaves v and comes through the crossing's facet into its cell
pub record IsPassage (v : Vertices) (p : ℕ) (s : RationalPoint) (cell : Tetrahedron) (c : Passage) : Type 0 where
  pub is_cell : IsCellOf v c.cell
  pub below : c.at < 4
  pub leaving : ℕ
  pub leaving_below : leaving < 4
  pub turned : IsTurned (facet_of cell leaving) (facet_of c.cell c.at)
  pub left : IsLeft v p s (facet_of cell leaving)

abbrev pub IsWay : Vertices → ℕ → RationalPoint → Tetrahedron → List Passage → Type 0
IsWay v p s cell [] = (k : ℕ) → k < 4 → pos 0 <ℤ ends v s cell k
IsWay v p s cell (c ∷ cs) = IsPassage v p s cell c × IsWay v p s c.cell cs

-- ---- what holds of the four indices holds of all
all_past :
    (v : Vertices) (p : ℕ) (s : RationalPoint) (cell : Tetrahedron) (i j : ℤ) →
    ((k : ℕ) → k < 4 → IsAhead (i *ℤ starts v p cell k +ℤ j *ℤ ends v s cell k) (ends v s cell k)) →
    IsPast (starts v p cell) (ends v s cell) i j
all_past v p s cell i j h = record { at = by }
  where
    by : (k : ℕ) → IsAhead (i *ℤ starts v p cell k +ℤ j *ℤ ends v s cell k) (ends v s cell k)
    by zero = h 0 (omega arith)
    by (suc zero) = h 1 (omega arith)
    by (suc (suc zero)) = h 2 (omega arith)
    by (suc (suc (suc k))) = h 3 (omega arith)

pub all_inside :
    (v : Vertices) (cell : Tetrahedron) (q : RationalPoint) → ((k : ℕ) → k < 4 → pos 0 <ℤ inward v cell k q) →
    IsStrictlyIn v cell q
all_inside v cell q h = grind (arith, ints)

pub same_or_not : {P : Type 0} (k n : ℕ) → (k ≡ n → P) → (k ≢ n → P) → P
same_or_not {P} k n f g = grind (arith, eqb-true, eqb-false)

-- ---- where a walk begins, and where it goes on
one_and_none : (a b : ℤ) → pos 1 *ℤ a +ℤ pos 0 *ℤ b ≡ a
one_and_none a b =
    ring (a ∷ b ∷ []) (sum (product (constant (pos 1)) (variable 0)) (product (constant (pos 0)) (variable 1))) (variable 0) tt

pub towards_past :
    (v : Vertices) (p : ℕ) (s : RationalPoint) (cell : Tetrahedron) → pos 0 <ℤ orientation_at v cell → IsTowards v cell p s →
    IsPast (starts v p cell) (ends v s cell) (pos 1) (pos 0)
towards_past v p s cell o h =
    record {
      at = λ k.
          let e = one_and_none (starts v p cell k) (ends v s cell k) in
          ⊎_elim
          (λ (i : p ≡ vertex_of cell k). let f : starts v p cell k ≡ orientation_at v cell =
          ap (λ (x : ℕ). inward v cell k (rational (v.at x))) i ∙ opposite v cell k in
          inl (let r : pos 0 <ℤ (pos 1 *ℤ starts v p cell k +ℤ pos 0 *ℤ ends v s cell k) = omega (arith, ints, e, f, o) in r))
          (λ (i : HasVertex (facet_of cell k) p). inr (e ∙ on_facet v (facet_of cell k) p i, h.faces k i))
          (opposite_or_on cell k p h.has);
    }

swapped : (a b x y : ℤ) → x *ℤ a +ℤ neg_ℤ b *ℤ y ≡ a *ℤ x -ℤ b *ℤ y
swapped a b x y =
    ring (a ∷ b ∷ x ∷ y ∷ []) (sum (product (variable 2) (variable 0)) (product (negation (variable 1)) (variable 3)))
    (difference (product (variable 0) (variable 2)) (product (variable 1) (variable 3))) tt

none_left : (a b : ℤ) → b *ℤ a +ℤ neg_ℤ a *ℤ b ≡ pos 0
none_left a b =
    ring (a ∷ b ∷ []) (sum (product (variable 1) (variable 0)) (product (negation (variable 0)) (variable 1)))
    (constant (pos 0)) tt

-- where facet l is crossed the other sides are positive
pub entry_others : (p s : ℕ → ℤ) (l k : ℕ) → IsEntry p s l → k < 4 → k ≢ l → pos 0 <ℤ (s l *ℤ p k +ℤ neg_ℤ (p l) *ℤ s k)
entry_others p s l k h b n = let e = swapped (p k) (p l) (s l) (s k) in let f = h.others k b n in omega (arith, ints, e, f)

pub entry_zero : (p s : ℕ → ℤ) (l : ℕ) → s l *ℤ p l +ℤ neg_ℤ (p l) *ℤ s l ≡ pos 0
entry_zero p s l = none_left (p l) (s l)

pub entry_past :
    (v : Vertices) (p : ℕ) (s : RationalPoint) (cell : Tetrahedron) (l : ℕ) → IsEntry (starts v p cell) (ends v s cell) l →
    IsPast (starts v p cell) (ends v s cell) (ends v s cell l) (neg_ℤ (starts v p cell l))
entry_past v p s cell l h =
    let P : ℕ → ℤ = starts v p cell in let S : ℕ → ℤ = ends v s cell in
    all_past v p s cell (S l) (neg_ℤ (P l))
    (λ k b. same_or_not k l
    (λ i.
    inr (subst (λ (x : ℕ). (S l *ℤ P x +ℤ neg_ℤ (P l) *ℤ S x ≡ pos 0) × (pos 0 <ℤ S x)) (sym i) (entry_zero P S l, h.end)))
    (λ n. inl (entry_others P S l k h b n)))

-- each passage is through a facet that is crossed
pub step_crossed :
    (v : Vertices) (p : ℕ) (s : RationalPoint) (cell : Tetrahedron) (c : Passage) → IsPassage v p s cell c →
    IsCrossed v p s (facet_of c.cell c.at)
step_crossed v p s cell c h = left_turned v p s (facet_of cell h.leaving) (facet_of c.cell c.at) h.turned h.left

pub step_entry :
    (v : Vertices) (p : ℕ) (s : RationalPoint) (cell : Tetrahedron) (c : Passage) → IsPassage v p s cell c →
    IsEntry (starts v p c.cell) (ends v s c.cell) c.at
step_entry v p s cell c h = entry_of v p s c.cell c.at h.below h.is_cell.positive (step_crossed v p s cell c h)

pub neg_above : (a : ℤ) → a <ℤ pos 0 → pos 0 <ℤ neg_ℤ a
neg_above a h = omega (arith, ints)

pub at_least : (a : ℤ) → pos 0 <ℤ a → pos 0 ≤ℤ a
at_least a h = omega (arith, ints)

-- ---- each cell is left through one facet only
pub opposite_leads : (p s : ℕ → ℤ) (l k : ℕ) → lead_of p s l k ≡ neg_ℤ (lead_of p s k l)
opposite_leads p s l k = omega (arith, ints)

pub one_exit : (p s : ℕ → ℤ) (l k : ℕ) → l < 4 → k < 4 → IsExit p s l → IsExit p s k → l ≡ k
one_exit p s l k b c h i =
    same_or_not l k (λ e. e)
    (λ n. let x = i.others l b n in
    let y = h.others k c (λ e. n (sym e)) in
    let z = opposite_leads p s l k in
    absurd (omega (arith, ints, x, y, z)))

pub one_entry : (p s : ℕ → ℤ) (l k : ℕ) → l < 4 → k < 4 → IsEntry p s l → IsEntry p s k → l ≡ k
one_entry p s l k b c h i =
    same_or_not l k (λ e. e)
    (λ n. let x = i.others l b n in
    let y = h.others k c (λ e. n (sym e)) in
    let z = opposite_leads p s l k in
    absurd (omega (arith, ints, x, y, z)))

-- ---- the order along the sight
pub record IsSooner (v : Vertices) (p : ℕ) (s : RationalPoint) (c d : Passage) : Type 0 where
  pub is : (neg_ℤ (starts v p c.cell c.at) *ℤ ends v s d.cell d.at) <ℤ (neg_ℤ (starts v p d.cell d.at) *ℤ ends v s c.cell c.at)

double_neg : (a b : ℤ) → neg_ℤ a *ℤ neg_ℤ b ≡ a *ℤ b
double_neg a b =
    ring (a ∷ b ∷ []) (product (negation (variable 0)) (negation (variable 1))) (product (variable 0) (variable 1)) tt

neg_twice : (a : ℤ) → neg_ℤ (neg_ℤ a) ≡ a
neg_twice a = omega (arith, ints)

pub next_nearer :
    (v : Vertices) (p : ℕ) (s : RationalPoint) (c d : Passage) → IsCellOf v c.cell → c.at < 4 →
    IsEntry (starts v p c.cell) (ends v s c.cell) c.at → IsPassage v p s c.cell d → IsSooner v p s c d
next_nearer v p s c d i b e h =
    let P : ℕ → ℤ = starts v p c.cell in let S : ℕ → ℤ = ends v s c.cell in
    let x = left_exit v p s c.cell h.leaving h.leaving_below i.positive h.left in
    let a = e.end in let z = x.end in
    let n : c.at ≢ h.leaving = λ y. absurd (let g : S c.at ≡ S h.leaving = ap S y in omega (arith, ints, a, z, g)) in
    let l = x.others c.at b n in
    let t = side_turned v (facet_of c.cell h.leaving) (facet_of d.cell d.at) (rational (v.at p)) h.turned in
    let u = side_turned v (facet_of c.cell h.leaving) (facet_of d.cell d.at) s h.turned in
    let f : neg_ℤ (P c.at) *ℤ ends v s d.cell d.at ≡ P c.at *ℤ S h.leaving =
    ap (λ y. neg_ℤ (P c.at) *ℤ y) u ∙ double_neg (P c.at) (S h.leaving) in
    let g : neg_ℤ (starts v p d.cell d.at) *ℤ S c.at ≡ P h.leaving *ℤ S c.at =
    ap (λ y. neg_ℤ y *ℤ S c.at) t ∙ ap (λ y. y *ℤ S c.at) (neg_twice (P h.leaving)) in
    record { is = omega (arith, ints, f, g, l) }

commuted : (a b : ℤ) → a *ℤ b ≡ b *ℤ a
commuted a b = ring (a ∷ b ∷ []) (product (variable 0) (variable 1)) (product (variable 1) (variable 0)) tt

pub nearer_trans :
    (v : Vertices) (p : ℕ) (s : RationalPoint) (c d e : Passage) → pos 0 <ℤ ends v s c.cell c.at →
    pos 0 <ℤ ends v s d.cell d.at → pos 0 <ℤ ends v s e.cell e.at → IsSooner v p s c d → IsSooner v p s d e → IsSooner v p s c e
nearer_trans v p s c d e hc hd he h k =
    let A : Passage → ℤ = λ c. neg_ℤ (starts v p c.cell c.at) in let B : Passage → ℤ = λ c. ends v s c.cell c.at in
    let h' = h.is in let k' = k.is in
    let x : IsLater (B c) (A c) (B d) (A d) = let f = commuted (A c) (B d) in
    let g = commuted (A d) (B c) in omega (arith, ints, f, g, h') in
    let y : IsLater (B d) (A d) (B e) (A e) = let f = commuted (A d) (B e) in
    let g = commuted (A e) (B d) in omega (arith, ints, f, g, k') in
    let z = later_trans (B c) (A c) (B d) (A d) (B e) (A e) hc hd he x y in
    record { is = let f = commuted (A c) (B e) in let g = commuted (A e) (B c) in omega (arith, ints, f, g, z) }

-- c is nearer than each of cs
abbrev pub IsSoonest : Vertices → ℕ → RationalPoint → Passage → List Passage → Type 0
IsSoonest v p s c cs = (d : Passage) → IsIn cs d → IsSooner v p s c d

before_all :
    (v : Vertices) (p : ℕ) (s : RationalPoint) (c d : Passage) (ds : List Passage) → pos 0 <ℤ ends v s c.cell c.at →
    IsCellOf v d.cell → d.at < 4 → IsEntry (starts v p d.cell) (ends v s d.cell) d.at →
    IsSooner v p s c d → IsWay v p s d.cell ds → IsSoonest v p s c ds
before_all v p s c d [] hc i b e n way f h = absurd h
before_all v p s c d (x ∷ xs) hc i b e n way f h =
    let r = next_nearer v p s d x i b e way.0 in
    let g = step_entry v p s d.cell x way.0 in
    let q = nearer_trans v p s c d x hc e.end g.end n r in
    ⊎_elim (λ (y : x ≡ f). subst (λ (z : Passage). IsSooner v p s c z) y q)
    (λ (y : IsIn xs f). before_all v p s c x xs hc way.0.is_cell way.0.below g q way.1 f y) h

-- the passage that a way has first is nearer than all others
pub first_before :
    (v : Vertices) (p : ℕ) (s : RationalPoint) (cell : Tetrahedron) (c : Passage) (cs : List Passage) →
    IsWay v p s cell (c ∷ cs) → IsSoonest v p s c cs
first_before v p s cell c [] way f h = absurd h
first_before v p s cell c (d ∷ ds) way f h =
    let e = step_entry v p s cell c way.0 in
    let g = step_entry v p s c.cell d way.1.0 in
    let n = next_nearer v p s c d way.0.is_cell way.0.below e way.1.0 in
    ⊎_elim (λ (y : d ≡ f). subst (λ (z : Passage). IsSooner v p s c z) y n)
    (λ (y : IsIn ds f). before_all v p s c d ds e.end way.1.0.is_cell way.1.0.below g n way.1.1 f y) h
