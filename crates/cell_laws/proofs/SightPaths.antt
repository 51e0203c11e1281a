-- The way of a sight over linked cells, as specs/WalkLaws states it.
--
-- A cell on the sight has the scanner in it or an exit, across which a cell is entered and so is on the sight too. Fewer
-- cells are higher at the scanner than that one, so the way ends (path_from, by that count). It has one exit and one entry,
-- so there is no other way (one_path). Each step is a passage through cells (way_of); from the cell towards the scanner on,
-- every crossed facet is met by them (path_all, by Complete), and the nearer come first (path_nearing). No facet is nearer
-- than itself, so each stands in the way once or not at all (path_counted).
--
-- Stands on: SightLaws, SightSteps (the order) and Complete (each crossed facet is met).
use Rattle.std.proofs.Common.{[], ℕ, zero, suc, ◌<◌, ◌≡◌, refl, ap, ap₂, sym, subst, ◌∙◌, ◌+◌, inl, inr, ⊎_elim, arith, Bool, true}
use Rattle.std.proofs.Common.{false, true≢false, ◌&&◌, eqb, Option, List, ◌∷◌}
use Rattle.std.proofs.lemmas.Bool.{eqb-true, and_parts, eq-eqb}
use Rattle.std.proofs.lemmas.Int.{ints}
use Rattle.std.proofs.lemmas.Option.{same_Some}
use Rattle.geo_sign.specs.Point.{Point, IsWithin}
use Rattle.geo_sign.specs.declared.point.TheConstants.{DATA_LIMIT}
use Rattle.geo_sign.specs.Rational.{RationalPoint, displaced}
use Rattle.geo_sign.specs.Tetrahedron.{Tetrahedron, DirectedFacet, facet_of, turned}
use Rattle.geo_sign.specs.Vertices.{Vertices, Has}
use Rattle.geo_sign.specs.Sights.{is_crossed, is_towards, is_cell_of}
use Rattle.geo_sign.specs.Boxes.{IsBoxed}
use Rattle.cell_laws.specs.Lifts.{is_higher}
use Rattle.cell_laws.specs.Links.{Side, AreLinked, IsBackAt}
use Rattle.cell_laws.specs.Lists.{IsIn, AreCells, IsListing, count}
use Rattle.geo_sign.specs.Edges.{one_if}
use Rattle.geo_sign.specs.Writings.{IsRewritten}
use Rattle.geo_sign.specs.Places.{IsNearer}
use Rattle.geo_sign.proofs.Bounds.{data_in_box}
use Rattle.cell_laws.specs.Paths.{IsOnSight, is_that, entered_facet, IsSightStep, IsSightPath, AreNearing}
use Rattle.cell_laws.specs.WalkLaws.{PathLaw, IsPassedOnce, IsWalk}
use Rattle.cell_laws.proofs.Complete.{IsGiven, all_given}
use Rattle.cell_laws.proofs.Crossings.{left_turned}
use Rattle.cell_laws.proofs.Heights.{tied_generic}
use Rattle.cell_laws.proofs.LinkedCells.{linked_listing}
use Rattle.cell_laws.proofs.OneFacet.{same_side}
use Rattle.cell_laws.proofs.Scanners.{scanner_free, scanner_in_box}
use Rattle.cell_laws.proofs.SightLaws.{met_behind, step_law, sight_law, left_of}
use Rattle.cell_laws.proofs.SightSteps.{Passage, IsWay, first_before}
use Rattle.cell_laws.proofs.SightTests.{crossed_of, crossed_is, strictly_of, towards_of}

-- ---- crossings by names, and passages by cells
abbrev passage : (ℕ → Tetrahedron) → Side → Passage
passage cell c = record { cell = cell c.at; at = c.side }

abbrev passages : (ℕ → Tetrahedron) → List Side → List Passage
passages cell [] = []
passages cell (c ∷ cs) = passage cell c ∷ passages cell cs

has_passage : (cell : ℕ → Tetrahedron) (cs : List Side) (c : Side) → IsIn cs c → IsIn (passages cell cs) (passage cell c)
has_passage cell [] c h = absurd h
has_passage cell (x ∷ xs) c (inl e) = inl (ap (passage cell) e)
has_passage cell (x ∷ xs) c (inr h) = inr (has_passage cell xs c h)

of_passage :
    (cell : ℕ → Tetrahedron) (cs : List Side) (z : Passage) → IsIn (passages cell cs) z →
    (c : Side) × IsIn cs c × (passage cell c ≡ z)
of_passage cell [] z h = absurd h
of_passage cell (x ∷ xs) z (inl e) = (x, inl refl, e)
of_passage cell (x ∷ xs) z (inr h) = let r = of_passage cell xs z h in (r.0, inr r.1, r.2)

-- ---- what the laws of links and sights need, at once
record AreGiven (v : Vertices) (live : List ℕ) (cell : ℕ → Tetrahedron) (next : ℕ → ℕ → Option ℕ) (p : ℕ)
    (s : Point) : Type 0 where
  boxed : IsBoxed v
  linked : AreLinked v live cell next
  cells : AreCells v live cell
  has : Has v p
  within : IsWithin DATA_LIMIT s

passed :
    (v : Vertices) (live : List ℕ) (cell : ℕ → Tetrahedron) (next : ℕ → ℕ → Option ℕ) (p : ℕ) (s : Point) →
    AreGiven v live cell next p s → (x : ℕ) → IsIn live x → IsPassedOnce v p (displaced s) (cell x)
passed v live cell next p s g x i = sight_law v g.boxed p g.has s g.within (cell x) (g.cells x i)

-- the sight comes through the facet of a step
step_crossed :
    (v : Vertices) (live : List ℕ) (cell : ℕ → Tetrahedron) (next : ℕ → ℕ → Option ℕ) (p : ℕ) (s : RationalPoint) (x : ℕ)
    (c : Side) → IsSightStep v live cell next p s x c → is_crossed v p s (entered_facet cell c) ≡ true
step_crossed v live cell next p s x c h =
    crossed_is v p s (entered_facet cell c)
    (left_turned v p s (facet_of (cell x) h.leaving) (entered_facet cell c) h.turned
    (left_of v p s (facet_of (cell x) h.leaving) h.left))

-- ---- there is a way to the end
abbrev HasPath :
    (v : Vertices) (live : List ℕ) (cell : ℕ → Tetrahedron) (next : ℕ → ℕ → Option ℕ) (p : ℕ) (s : RationalPoint) → ℕ → Type 0
HasPath v live cell next p s x = (cs : List Side) × IsSightPath v live cell next p s x cs

path_from :
    (v : Vertices) (live : List ℕ) (cell : ℕ → Tetrahedron) (next : ℕ → ℕ → Option ℕ) (p : ℕ) (s : Point) →
    AreGiven v live cell next p s → (fuel x : ℕ) → IsIn live x → IsOnSight v p (displaced s) (cell x) →
    count (λ z. is_higher v (displaced s) (cell x) (cell z)) live < fuel → HasPath v live cell next p (displaced s) x
path_from v live cell next p s g zero x i on f = absurd (omega arith)
path_from v live cell next p s g (suc fuel) x i on f =
    let S : RationalPoint = displaced s in
    ⊎_elim
    (λ (z : (l : ℕ) × (l < 4) × (is_crossed v p S (turned (facet_of (cell x) l)) ≡ true)).
    let left = left_of v p S (facet_of (cell x) z.0) z.2 in
    let box = scanner_in_box s g.within in
    let met = met_behind v g.boxed live cell next g.linked g.cells S box x z.0 i z.1 left.ahead in
    let back : IsBackAt live cell (facet_of (cell x) z.0) met.0 = met.2 in
    let c : Side = record { at = met.0; side = back.side } in
    let step : IsSightStep v live cell next p S x c = record {
      leaving = z.0;
      leaving_below = z.1;
      left = z.2;
      across = met.1;
      listed = back.listed;
      side_below = back.in_range;
      turned = back.turned;
    } in
    let walk : IsWalk v live cell next S = step_law v g.boxed live cell next g.linked g.cells S box in
    let falls = walk.falls x z.0 met.0 i z.1 left.ahead met.1 in
    let rest =
    path_from v live cell next p s g fuel met.0 back.listed
    (inr (back.side, back.in_range, step_crossed v live cell next p S x c step)) (omega (arith, f, falls)) in
    let r : HasPath v live cell next p S x = (c ∷ rest.0, (step, rest.1)) in r)
    (λ (e : is_cell_of v S (cell x) ≡ true). let r : HasPath v live cell next p S x = ([], e) in r)
    ((passed v live cell next p s g x i).exit_or_end on)

-- ---- and no other
one_path :
    (v : Vertices) (live : List ℕ) (cell : ℕ → Tetrahedron) (next : ℕ → ℕ → Option ℕ) (p : ℕ) (s : Point) →
    AreGiven v live cell next p s → (x : ℕ) (cs ds : List Side) → IsIn live x →
    IsSightPath v live cell next p (displaced s) x cs → IsSightPath v live cell next p (displaced s) x ds → cs ≡ ds
one_path v live cell next p s g x [] [] i h k = refl
one_path v live cell next p s g x [] (d ∷ ds) i h k =
    absurd ((passed v live cell next p s g x i).not_both k.0.leaving k.0.left h)
one_path v live cell next p s g x (c ∷ cs) [] i h k =
    absurd ((passed v live cell next p s g x i).not_both h.0.leaving h.0.left k)
one_path v live cell next p s g x (c ∷ cs) (d ∷ ds) i h k =
    let S : RationalPoint = displaced s in
    let t : IsSightStep v live cell next p S x c = h.0 in
    let u : IsSightStep v live cell next p S x d = k.0 in
    let e : t.leaving ≡ u.leaving =
    (passed v live cell next p s g x i).one_exit t.leaving u.leaving t.leaving_below u.leaving_below t.left u.left in
    let a : c.at ≡ d.at = same_Some c.at d.at (sym t.across ∙ ap (next x) e ∙ u.across) in
    let cross : is_crossed v p S (facet_of (cell c.at) d.side) ≡ true =
    subst (λ (n : ℕ). is_crossed v p S (facet_of (cell n) d.side) ≡ true) (sym a) (step_crossed v live cell next p S x d u) in
    let b : c.side ≡ d.side =
    (passed v live cell next p s g c.at t.listed).one_entry c.side d.side t.side_below u.side_below
    (step_crossed v live cell next p S x c t) cross in
    let same : c ≡ d = same_side c d a b in
    let rest : cs ≡ ds =
    one_path v live cell next p s g c.at cs ds t.listed h.1 (subst (λ (n : ℕ). IsSightPath v live cell next p S n ds) (sym a) k.1) in
    ap (λ z. z ∷ cs) same ∙ ap (λ z. d ∷ z) rest

-- ---- what stands in it
path_crossed :
    (v : Vertices) (live : List ℕ) (cell : ℕ → Tetrahedron) (next : ℕ → ℕ → Option ℕ) (p : ℕ) (s : RationalPoint) (x : ℕ)
    (cs : List Side) → IsSightPath v live cell next p s x cs → (c : Side) → IsIn cs c →
    IsIn live c.at × (c.side < 4) × (is_crossed v p s (entered_facet cell c) ≡ true)
path_crossed v live cell next p s x [] h c i = absurd i
path_crossed v live cell next p s x (d ∷ ds) h c (inl e) =
    let t : IsSightStep v live cell next p s x d = h.0 in
    subst (λ (z : Side). IsIn live z.at × (z.side < 4) × (is_crossed v p s (entered_facet cell z) ≡ true)) e
    (t.listed, t.side_below, step_crossed v live cell next p s x d t)
path_crossed v live cell next p s x (d ∷ ds) h c (inr i) = path_crossed v live cell next p s d.at ds h.1 c i

way_of :
    (v : Vertices) (live : List ℕ) (cell : ℕ → Tetrahedron) (next : ℕ → ℕ → Option ℕ) → AreCells v live cell →
    (p : ℕ) (s : RationalPoint) (x : ℕ) (cs : List Side) → IsSightPath v live cell next p s x cs →
    IsWay v p s (cell x) (passages cell cs)
way_of v live cell next cells p s x [] h = λ k b. (strictly_of v s (cell x) h).at k
way_of v live cell next cells p s x (c ∷ cs) h =
    let t : IsSightStep v live cell next p s x c = h.0 in (
      record {
        is_cell = cells c.at t.listed;
        below = t.side_below;
        leaving = t.leaving;
        leaving_below = t.leaving_below;
        turned = t.turned;
        left = left_of v p s (facet_of (cell x) t.leaving) t.left;
      },
      way_of v live cell next cells p s c.at cs h.1,
    )

path_all :
    (v : Vertices) (live : List ℕ) (cell : ℕ → Tetrahedron) (next : ℕ → ℕ → Option ℕ) (p : ℕ) (s : Point)
    → AreGiven v live cell next p s → (x : ℕ) (cs : List Side) → IsIn live x → is_towards v p (displaced s) (cell x) ≡ true
    → IsSightPath v live cell next p (displaced s) x cs → (c : Side) → IsIn live c.at → c.side < 4
    → is_crossed v p (displaced s) (entered_facet cell c) ≡ true → IsIn cs c
path_all v live cell next p s g x cs i tow h c j b cr =
    let S : RationalPoint = displaced s in
    let gen = tied_generic v g.boxed in
    let given : IsGiven (passages cell cs) (cell c.at) c.side =
    all_given v gen p S _ (scanner_free v g.boxed s (data_in_box s g.within)) (cell x) (passages cell cs) (g.cells x i)
    (towards_of v p S (cell x) (g.cells x i) tow) (way_of v live cell next g.cells p S x cs h) (cell c.at) c.side
    (g.cells c.at j) b
    (crossed_of v p S (entered_facet cell c) cr) in
    let z = of_passage cell cs given.0 given.1 in
    let d : Side = z.0 in
    let known = path_crossed v live cell next p S x cs h d z.1 in
    let same : IsRewritten (cell d.at) (cell c.at) =
    subst (λ (y : Passage). IsRewritten y.cell (cell c.at)) (sym z.2) given.2 in
    let list : IsListing v live cell = linked_listing v g.boxed gen live cell next g.linked g.cells x i in
    let a : d.at ≡ c.at = list.once d.at c.at known.0 j same in
    let cross : is_crossed v p S (facet_of (cell c.at) d.side) ≡ true =
    subst (λ (n : ℕ). is_crossed v p S (facet_of (cell n) d.side) ≡ true) a known.2 in
    let e : d.side ≡ c.side = (passed v live cell next p s g c.at j).one_entry d.side c.side known.1 b cross cr in
    subst (λ (y : Side). IsIn cs y) (same_side d c a e) z.1

path_nearing :
    (v : Vertices) (live : List ℕ) (cell : ℕ → Tetrahedron) (next : ℕ → ℕ → Option ℕ) → AreCells v live cell →
    (p : ℕ) (s : RationalPoint) (x : ℕ) (cs : List Side) → IsSightPath v live cell next p s x cs → AreNearing v cell p s cs
path_nearing v live cell next cells p s x [] h = tt
path_nearing v live cell next cells p s x (c ∷ cs) h = (
  λ d i. (first_before v p s (cell x) (passage cell c) (passages cell cs) (way_of v live cell next cells p s x (c ∷ cs) h)
      (passage cell d) (has_passage cell cs d i)).is,
  path_nearing v live cell next cells p s c.at cs h.1,
)

-- ---- each crossing once
pub that_is : (c d : Side) → is_that c d ≡ true → d ≡ c
that_is c d h =
    let x = and_parts (eqb d.at c.at) _ h in same_side d c (eqb-true d.at c.at x.0) (eqb-true d.side c.side x.1)

pub that_itself : (c : Side) → is_that c c ≡ true
that_itself c = ap₂ (λ x y. x && y) (eq-eqb c.at c.at refl) (eq-eqb c.side c.side refl)

pub count_none : (cs : List Side) (c : Side) → ¬ IsIn cs c → count (is_that c) cs ≡ 0
count_none [] c n = refl
count_none (d ∷ ds) c n = ap₂ (λ x y. x + y) (by (is_that c d) refl) (count_none ds c (λ i. n (inr i)))
  where
    by : (b : Bool) → is_that c d ≡ b → one_if (is_that c d) ≡ 0
    by true e = absurd (n (inl (that_is c d e)))
    by false e = ap one_if e

not_nearer : (v : Vertices) (p : ℕ) (s : RationalPoint) (f : DirectedFacet) → IsNearer v p s f f → ⊥
not_nearer v p s f h = absurd (omega (arith, ints, h))

count_once :
    (v : Vertices) (cell : ℕ → Tetrahedron) (p : ℕ) (s : RationalPoint) (cs : List Side) (c : Side) → AreNearing v cell p s cs →
    IsIn cs c → count (is_that c) cs ≡ 1
count_once v cell p s [] c h i = absurd i
count_once v cell p s (d ∷ ds) c h i = by (is_that c d) refl (λ j. count_once v cell p s ds c h.1 j)
  where
    by : (b : Bool) → is_that c d ≡ b → (IsIn ds c → count (is_that c) ds ≡ 1) → one_if (is_that c d) + count (is_that c) ds ≡ 1
    by true e rest =
        ap₂ (λ x y. x + y) (ap one_if e)
        (count_none ds c
        (λ j. not_nearer v p s (entered_facet cell d)
        (subst (λ (z : Side). IsNearer v p s (entered_facet cell d) (entered_facet cell z)) (sym (that_is c d e)) (h.0 c j))))
    by false e rest =
        ap₂ (λ x y. x + y) (ap one_if e)
        (rest (⊎_elim (λ (q : d ≡ c). absurd (true≢false (sym (that_itself c) ∙ ap (is_that c) (sym q) ∙ e)))
        (λ (j : IsIn ds c). j) i))

path_counted :
    (v : Vertices) (live : List ℕ) (cell : ℕ → Tetrahedron) (next : ℕ → ℕ → Option ℕ) (p : ℕ) (s : Point)
    → AreGiven v live cell next p s → (x : ℕ) (cs : List Side) → IsIn live x → is_towards v p (displaced s) (cell x) ≡ true
    → IsSightPath v live cell next p (displaced s) x cs → (c : Side) → IsIn live c.at → c.side < 4
    → count (is_that c) cs ≡ one_if (is_crossed v p (displaced s) (entered_facet cell c))
path_counted v live cell next p s g x cs i tow h c j b =
    grind (arith, count_once, path_nearing, path_all, count_none, true≢false, path_crossed)

pub path_law : PathLaw
path_law v b live cell next l cells p hp s w =
    let g : AreGiven v live cell next p s = record { boxed = b; linked = l; cells = cells; has = hp; within = w } in
    let higher : ℕ → ℕ = λ x. count (λ z. is_higher v (displaced s) (cell x) (cell z)) live in
    record {
      some = λ x i on. path_from v live cell next p s g (suc (higher x)) x i on (omega arith);
      one = one_path v live cell next p s g;
      crossed = path_crossed v live cell next p (displaced s);
      all = path_all v live cell next p s g;
      nearing = path_nearing v live cell next cells p (displaced s);
      counted = path_counted v live cell next p s g;
    }
