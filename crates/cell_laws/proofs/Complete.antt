-- The way of a sight has each facet that the sight crosses. Just past the place at which a facet is crossed there is a place
-- that lies strictly in the cell behind the crossing. The way has a cell with that place: its cells have the stretches of the
-- sight between entry and exit, and these stretches follow one another from the vertex to s. The place lies strictly in one
-- cell alone, so this cell is on the way, and as a cell is entered through one facet at most, the crossing is the one by
-- which the way comes in.
-- Stands on: SightSteps, SightTests, Near (places just past a crossing), and Flood (a place lies strictly in one cell).
use Rattle.std.proofs.Common.{ℕ, ◌<◌, ◌≡◌, ◌≢◌, refl, ap, sym, subst, ◌∙◌, inl, inr, ⊎_elim, arith, ℤ, pos, neg_ℤ, ◌+ℤ◌, ◌-ℤ◌}
use Rattle.std.proofs.Common.{◌*ℤ◌, ◌≤ℤ◌, ◌<ℤ◌, unsigned_abs, List, [], ◌∷◌}
use Rattle.std.proofs.lemmas.Int.{ints, by_lt_z}
use Rattle.geo_sign.specs.Polynomial.{constant, difference, negation, product, sum, variable}
use Rattle.geo_sign.proofs.Ring.{ring}
use Rattle.geo_sign.specs.Rational.{rational, RationalPoint}
use Rattle.geo_sign.specs.Tetrahedron.{facet_of, IsRotated, Tetrahedron}
use Rattle.geo_sign.specs.Vertices.{Vertices}
use Rattle.geo_sign.specs.Places.{IsLyingIn, IsStrictlyIn}
use Rattle.cell_laws.specs.Lists.{IsIn}
use Rattle.geo_sign.specs.NearPlaces.{mix}
use Rattle.geo_sign.specs.Writings.{IsRewritten}
use Rattle.geo_sign.proofs.Rewritings.{IsCellOf, rewritten_back, same_facets, same_strictly}
use Rattle.geo_sign.proofs.Rotations.{crossed_rotated, rotated_back, side_turned}
use Rattle.cell_laws.proofs.Crossings.{ends, entry_of, IsCrossed, IsEntry, left_exit, starts}
use Rattle.cell_laws.proofs.Firsts.{IsExit, IsPast, lead_of, past_not_below}
use Rattle.cell_laws.proofs.Flood.{holds_one, weak}
use Rattle.cell_laws.proofs.Near.{first_positive, first_zero, inward_mix, IsFree, IsTowards}
use Rattle.cell_laws.proofs.Order.{factor_above, factor_none, mul_not_negative, mul_positive}
use Rattle.cell_laws.proofs.Regions.{IsGeneric}
use Rattle.cell_laws.proofs.Sides.{inward}
use Rattle.cell_laws.proofs.SightTests.{crossed_is, crossed_of}
use Rattle.cell_laws.proofs.SightSteps.{all_inside, at_least, entry_past, entry_zero, IsWay, neg_above, one_entry, Passage}
use Rattle.cell_laws.proofs.SightSteps.{same_or_not, step_entry, towards_past}

-- the list has a passage through facet l of x, up to the way of writing
abbrev pub IsGiven : List Passage → Tetrahedron → ℕ → Type 0
IsGiven cs x l = (c : Passage) × IsIn cs c × IsRewritten c.cell x × IsRotated (facet_of c.cell c.at) (facet_of x l)

-- the place at which the facet l of a cell is crossed
abbrev pub crossing_place : Vertices → ℕ → RationalPoint → Tetrahedron → ℕ → RationalPoint
crossing_place v p s x l = mix (ends v s x l) (v.at p) (neg_ℤ (starts v p x l)) s

-- a place is on the facet at which the sight enters, and in the cell
entry_in :
    (v : Vertices) (p : ℕ) (s : RationalPoint) (x : Tetrahedron) (l : ℕ) → IsEntry (starts v p x) (ends v s x) l →
    IsLyingIn v x (crossing_place v p s x l)
entry_in v p s x l h =
    record {
      at = λ k.
          let e = inward_mix v x k (v.at p) s (ends v s x l) (neg_ℤ (starts v p x l)) in
          let f =
          past_not_below (starts v p x) (ends v s x) (ends v s x l) (neg_ℤ (starts v p x l)) (entry_past v p s x l h) k in
          omega (arith, ints, e, f);
    }

-- so it is strictly inside no cell
not_inside :
    (v : Vertices) → IsGeneric v → (p : ℕ) (s : RationalPoint) (cell x : Tetrahedron) (l : ℕ) → IsCellOf v cell → IsCellOf v x →
    IsEntry (starts v p x) (ends v s x) l → ¬ IsStrictlyIn v cell (crossing_place v p s x l)
not_inside v m p s cell x l c d h i =
    let q : RationalPoint = crossing_place v p s x l in
    let same : IsRewritten x cell = holds_one v m x cell q d c (entry_in v p s x l h) i in
    let e = inward_mix v x l (v.at p) s (ends v s x l) (neg_ℤ (starts v p x l)) in
    let f = entry_zero (starts v p x) (ends v s x) l in
    let g : pos 0 <ℤ inward v x l q = (same_strictly v q cell x (rewritten_back x cell same) i).at l in
    absurd (omega (arith, ints, e, f, g))

moved_on : (i j b a p s : ℤ) → i *ℤ (b *ℤ p +ℤ a *ℤ s) ≡ b *ℤ (i *ℤ p +ℤ j *ℤ s) +ℤ (a *ℤ i -ℤ j *ℤ b) *ℤ s
moved_on i j b a p s =
    ring (i ∷ j ∷ b ∷ a ∷ p ∷ s ∷ [])
    (product (variable 0) (sum (product (variable 2) (variable 4)) (product (variable 3) (variable 5))))
    (sum (product (variable 2) (sum (product (variable 0) (variable 4)) (product (variable 1) (variable 5))))
    (product (difference (product (variable 3) (variable 0)) (product (variable 1) (variable 2))) (variable 5))) tt

-- further on, the sides that rise are positive
further :
    (p s : ℕ → ℤ) (i j b a : ℤ) → pos 0 <ℤ i → pos 0 <ℤ b → IsPast p s i j → (j *ℤ b) <ℤ (a *ℤ i) → (k : ℕ) → pos 0 <ℤ s k →
    pos 0 <ℤ (b *ℤ p k +ℤ a *ℤ s k)
further p s i j b a hi hb past h k l =
    let e = moved_on i j b a (p k) (s k) in
    let d : pos 0 <ℤ (a *ℤ i -ℤ j *ℤ b) = omega (arith, ints) in
    let f = mul_not_negative b (i *ℤ p k +ℤ j *ℤ s k) (at_least b hb) (past_not_below p s i j past k) in
    let g = mul_positive (a *ℤ i -ℤ j *ℤ b) (s k) d l in
    factor_above i (b *ℤ p k +ℤ a *ℤ s k) hi (omega (arith, ints, e, f, g))

held_back : (x y b a p s : ℤ) → neg_ℤ y *ℤ (b *ℤ p +ℤ a *ℤ s) ≡ b *ℤ neg_ℤ (p *ℤ y -ℤ x *ℤ s) +ℤ neg_ℤ s *ℤ (b *ℤ x +ℤ a *ℤ y)
held_back x y b a p s =
    ring (x ∷ y ∷ b ∷ a ∷ p ∷ s ∷ [])
    (product (negation (variable 1)) (sum (product (variable 2) (variable 4)) (product (variable 3) (variable 5))))
    (sum (product (variable 2) (negation (difference (product (variable 4) (variable 1)) (product (variable 0) (variable 5)))))
    (product (negation (variable 5)) (sum (product (variable 2) (variable 0)) (product (variable 3) (variable 1))))) tt

lead_not_above : (p s : ℕ → ℤ) (l k : ℕ) → IsExit p s l → k < 4 → lead_of p s l k ≤ℤ pos 0
lead_not_above p s l k h b =
    same_or_not k l
    (λ e. subst (λ (x : ℕ). lead_of p s l x ≤ℤ pos 0) (sym e) (omega (arith, ints)))
    (λ n. let z = h.others k b n in omega (arith, ints, z))

-- and before the exit the sides that fall are positive
before_exit :
    (p s : ℕ → ℤ) (l : ℕ) (b a : ℤ) → pos 0 <ℤ b → IsExit p s l → pos 0 <ℤ (b *ℤ p l +ℤ a *ℤ s l) → (k : ℕ) → k < 4 →
    s k <ℤ pos 0 → pos 0 <ℤ (b *ℤ p k +ℤ a *ℤ s k)
before_exit p s l b a hb h g k c n =
    let e = held_back (p l) (s l) b a (p k) (s k) in
    let x = lead_not_above p s l k h c in
    let x' : pos 0 ≤ℤ neg_ℤ (lead_of p s l k) = omega (arith, ints, x) in
    let f = mul_not_negative b (neg_ℤ (lead_of p s l k)) (at_least b hb) x' in
    let z = mul_positive (neg_ℤ (s k)) (b *ℤ p l +ℤ a *ℤ s l) (neg_above (s k) n) g in
    factor_above (neg_ℤ (s l)) (b *ℤ p k +ℤ a *ℤ s k) (neg_above (s l) h.end) (omega (arith, ints, e, f, z))

not_zero : {P : Type 0} (x : ℤ) → x ≢ pos 0 → (x <ℤ pos 0 → P) → (pos 0 <ℤ x → P) → P
not_zero x n f g = by_lt_z x (pos 0) f (λ l. g (by_lt_z (pos 0) x (λ m. m) (λ m. absurd (n (omega (arith, ints, l, m))))))

inside_mix :
    (v : Vertices) (p : ℕ) (s : RationalPoint) (cell : Tetrahedron) (b a : ℤ) →
    ((k : ℕ) → k < 4 → pos 0 <ℤ (b *ℤ starts v p cell k +ℤ a *ℤ ends v s cell k)) → IsStrictlyIn v cell (mix b (v.at p) a s)
inside_mix v p s cell b a h = grind (arith, ints, all_inside, inward_mix)

-- ---- two cells that the sight is in, just past one place
tiny : (t : ℕ) (i j p s : ℤ) → (pos t *ℤ i) *ℤ p +ℤ (pos t *ℤ j +ℤ pos 1) *ℤ s ≡ pos t *ℤ (i *ℤ p +ℤ j *ℤ s) +ℤ s
tiny t i j p s =
    ring (pos t ∷ i ∷ j ∷ p ∷ s ∷ [])
    (sum (product (product (variable 0) (variable 1)) (variable 3))
    (product (sum (product (variable 0) (variable 2)) (constant (pos 1))) (variable 4)))
    (sum (product (variable 0) (sum (product (variable 1) (variable 3)) (product (variable 2) (variable 4)))) (variable 4)) tt

past_inside :
    (v : Vertices) (p : ℕ) (s : RationalPoint) (cell : Tetrahedron) (i j : ℤ) (t : ℕ) →
    ((k : ℕ) → unsigned_abs (ends v s cell k) < t) → IsPast (starts v p cell) (ends v s cell) i j →
    IsStrictlyIn v cell (mix (pos t *ℤ i) (v.at p) (pos t *ℤ j +ℤ pos 1) s)
past_inside v p s cell i j t b h = grind (arith, ints, inside_mix, tiny, first_positive, first_zero)

same_place : (b a b' a' p s : ℤ) → a *ℤ b' ≡ a' *ℤ b → b *ℤ (b' *ℤ p +ℤ a' *ℤ s) ≡ b' *ℤ (b *ℤ p +ℤ a *ℤ s)
same_place b a b' a' p s h =
    let e : b *ℤ (b' *ℤ p +ℤ a' *ℤ s) ≡ (b *ℤ b') *ℤ p +ℤ (a' *ℤ b) *ℤ s =
    ring (b ∷ b' ∷ a' ∷ p ∷ s ∷ [])
    (product (variable 0) (sum (product (variable 1) (variable 3)) (product (variable 2) (variable 4))))
    (sum (product (product (variable 0) (variable 1)) (variable 3)) (product (product (variable 2) (variable 0)) (variable 4)))
    tt in
    let f : (b *ℤ b') *ℤ p +ℤ (a *ℤ b') *ℤ s ≡ b' *ℤ (b *ℤ p +ℤ a *ℤ s) =
    ring (b ∷ b' ∷ a ∷ p ∷ s ∷ [])
    (sum (product (product (variable 0) (variable 1)) (variable 3)) (product (product (variable 2) (variable 1)) (variable 4)))
    (product (variable 1) (sum (product (variable 0) (variable 3)) (product (variable 2) (variable 4)))) tt in
    e ∙ ap (λ y. (b *ℤ b') *ℤ p +ℤ y *ℤ s) (sym h) ∙ f

past_moved : (p s : ℕ → ℤ) (b a b' a' : ℤ) → pos 0 <ℤ b → pos 0 <ℤ b' → a *ℤ b' ≡ a' *ℤ b → IsPast p s b a → IsPast p s b' a'
past_moved p s b a b' a' hb hb' h past =
    record {
      at = λ k.
          let e = same_place b a b' a' (p k) (s k) h in
          ⊎_elim
          (λ (x : pos 0 <ℤ (b *ℤ p k +ℤ a *ℤ s k)). let f = mul_positive b' (b *ℤ p k +ℤ a *ℤ s k) hb' x in
          inl (factor_above b (b' *ℤ p k +ℤ a' *ℤ s k) hb (omega (arith, ints, e, f))))
          (λ (x : (b *ℤ p k +ℤ a *ℤ s k ≡ pos 0) × (pos 0 <ℤ s k)).
          let f : b' *ℤ (b *ℤ p k +ℤ a *ℤ s k) ≡ pos 0 =
          ap (λ y. b' *ℤ y) x.0 ∙ ring (b' ∷ []) (product (variable 0) (constant (pos 0))) (constant (pos 0)) tt in
          inr (factor_none b (b' *ℤ p k +ℤ a' *ℤ s k) hb (e ∙ f), x.1)) (past.at k);
    }

-- two cells entered at the same place of the sight are one, entered through one facet
same_entry :
    (v : Vertices) → IsGeneric v → (p : ℕ) (s : RationalPoint) (t : ℕ) → IsFree v s t → (u x : Tetrahedron) (m l : ℕ)
    → IsCellOf v u → IsCellOf v x → m < 4 → l < 4
    → IsEntry (starts v p u) (ends v s u) m → IsCrossed v p s (facet_of x l)
    → neg_ℤ (starts v p x l) *ℤ ends v s u m ≡ neg_ℤ (starts v p u m) *ℤ ends v s x l
    → IsRewritten u x × IsRotated (facet_of u m) (facet_of x l)
same_entry v g p s t f u x m l cu cx bm bl eu cr h =
    let ex = entry_of v p s x l bl cx.positive cr in
    let b' : ℤ = ends v s u m in let a' : ℤ = neg_ℤ (starts v p u m) in
    let q : RationalPoint = mix (pos t *ℤ b') (v.at p) (pos t *ℤ a' +ℤ pos 1) s in
    let iu = past_inside v p s u b' a' t (f.bounded u cu) (entry_past v p s u m eu) in
    let px =
    past_moved (starts v p x) (ends v s x) (ends v s x l) (neg_ℤ (starts v p x l)) b' a' ex.end eu.end h
    (entry_past v p s x l ex) in
    let ix = past_inside v p s x b' a' t (f.bounded x cx) px in
    let same : IsRewritten u x = holds_one v g u x q cu cx (weak v u q iu) ix in
    let r = same_facets u x same l in
    let e =
    entry_of v p s u r.0 r.1 cu.positive
    (crossed_of v p s (facet_of u r.0)
    (crossed_rotated v p s (facet_of x l) (facet_of u r.0) (rotated_back (facet_of u r.0) (facet_of x l) r.2)
    ∙ crossed_is v p s (facet_of x l) cr)) in
    let k : r.0 ≡ m = one_entry (starts v p u) (ends v s u) r.0 m r.1 bm e eu in
    (same, subst (λ (n : ℕ). IsRotated (facet_of u n) (facet_of x l)) k r.2)

three_ways : {P : Type 0} (x y : ℤ) → (x <ℤ y → P) → (x ≡ y → P) → (y <ℤ x → P) → P
three_ways x y f g h = by_lt_z x y f (λ l. by_lt_z y x h (λ m. g (omega (arith, ints, l, m))))

-- ---- each facet that the sight crosses after the place at which it is in v is given
pub each_given :
    (v : Vertices) → IsGeneric v → (p : ℕ) (s : RationalPoint) (t : ℕ) → IsFree v s t → (x : Tetrahedron) (l : ℕ)
    → IsCellOf v x → l < 4 → IsCrossed v p s (facet_of x l)
    → (cell : Tetrahedron) (cs : List Passage) → IsCellOf v cell → IsWay v p s cell cs → (i j : ℤ) → pos 0 <ℤ i
    → IsPast (starts v p cell) (ends v s cell) i j → (j *ℤ ends v s x l) <ℤ (neg_ℤ (starts v p x l) *ℤ i) → IsGiven cs x l
each_given v m p s t f x l cx bl cr cell [] cv path i j hi past after =
    let e = entry_of v p s x l bl cx.positive cr in
    let b : ℤ = ends v s x l in let a : ℤ = neg_ℤ (starts v p x l) in
    absurd (not_inside v m p s cell x l cv cx e
    (inside_mix v p s cell b a (λ k c. further (starts v p cell) (ends v s cell) i j b a hi e.end past after k (path k c))))
each_given v m p s t f x l cx bl cr cell (c ∷ cs) cv path i j hi past after =
    let e = entry_of v p s x l bl cx.positive cr in
    let b : ℤ = ends v s x l in let a : ℤ = neg_ℤ (starts v p x l) in
    let step = path.0 in
    let entry = step_entry v p s cell c step in
    let exit = left_exit v p s cell step.leaving step.leaving_below cv.positive step.left in
    let y = side_turned v (facet_of cell step.leaving) (facet_of c.cell c.at) (rational (v.at p)) step.turned in
    let z = side_turned v (facet_of cell step.leaving) (facet_of c.cell c.at) s step.turned in
    let b' : ℤ = ends v s c.cell c.at in let a' : ℤ = neg_ℤ (starts v p c.cell c.at) in
    three_ways (a *ℤ b') (a' *ℤ b)
    (λ h.
    let g : pos 0 <ℤ (b *ℤ starts v p cell step.leaving +ℤ a *ℤ ends v s cell step.leaving) =
    before v p s cell x l c step.leaving y z h in
    absurd (not_inside v m p s cell x l cv cx e (inside_mix v p s cell b a
    (λ k r. not_zero (ends v s cell k) (f.apart cell cv k)
    (before_exit (starts v p cell) (ends v s cell) step.leaving b a e.end exit g k r)
    (further (starts v p cell) (ends v s cell) i j b a hi e.end past after k)))))
    (λ h. let r = same_entry v m p s t f c.cell x c.at l step.is_cell cx step.below bl entry cr h in (c, inl refl, r.0, r.1))
    (λ h.
    let r =
    each_given v m p s t f x l cx bl cr c.cell cs step.is_cell path.1 b' a' entry.end (entry_past v p s c.cell c.at entry) h in
    (r.0, inr r.1, r.2, r.3))
  where
    before :
        (v : Vertices) (p : ℕ) (s : RationalPoint) (cell x : Tetrahedron) (l : ℕ) (c : Passage) (n : ℕ)
        → starts v p c.cell c.at ≡ neg_ℤ (starts v p cell n) → ends v s c.cell c.at ≡ neg_ℤ (ends v s cell n)
        → (neg_ℤ (starts v p x l) *ℤ ends v s c.cell c.at) <ℤ (neg_ℤ (starts v p c.cell c.at) *ℤ ends v s x l)
        → pos 0 <ℤ (ends v s x l *ℤ starts v p cell n +ℤ neg_ℤ (starts v p x l) *ℤ ends v s cell n)
    before v p s cell x l c n y z h =
        let a : ℤ = neg_ℤ (starts v p x l) in let b : ℤ = ends v s x l in
        let g : a *ℤ ends v s c.cell c.at ≡ neg_ℤ (a *ℤ ends v s cell n) =
        ap (λ e. a *ℤ e) z ∙ ring (a ∷ ends v s cell n ∷ []) (product (variable 0) (negation (variable 1)))
        (negation (product (variable 0) (variable 1))) tt in
        let k : neg_ℤ (starts v p c.cell c.at) *ℤ b ≡ b *ℤ starts v p cell n =
        ap (λ e. neg_ℤ e *ℤ b) y
        ∙ ring (starts v p cell n ∷ b ∷ []) (product (negation (negation (variable 0))) (variable 1))
        (product (variable 1) (variable 0)) tt in
        omega (arith, ints, g, k, h)

-- a walk from the cell towards s gives each crossed facet
pub all_given :
    (v : Vertices) → IsGeneric v → (p : ℕ) (s : RationalPoint) (t : ℕ) → IsFree v s t →
    (cell : Tetrahedron) (cs : List Passage) → IsCellOf v cell → IsTowards v cell p s → IsWay v p s cell cs →
    (x : Tetrahedron) (l : ℕ) → IsCellOf v x → l < 4 → IsCrossed v p s (facet_of x l) → IsGiven cs x l
all_given v m p s t f cell cs cv tow path x l cx bl cr =
    let n = cr.behind in
    let e : pos 0 *ℤ ends v s x l ≡ pos 0 =
    ring (ends v s x l ∷ []) (product (constant (pos 0)) (variable 0)) (constant (pos 0)) tt in
    let g : neg_ℤ (starts v p x l) *ℤ pos 1 ≡ neg_ℤ (starts v p x l) =
    ring (starts v p x l ∷ []) (product (negation (variable 0)) (constant (pos 1))) (negation (variable 0)) tt in
    each_given v m p s t f x l cx bl cr cell cs cv path (pos 1) (pos 0) (let r : pos 0 <ℤ pos 1 = omega (arith, ints) in r)
    (towards_past v p s cell cv.positive tow) (omega (arith, ints, e, g, n))
