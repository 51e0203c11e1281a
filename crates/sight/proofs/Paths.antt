-- The facets to come, as computed, are those of the path that the laws of sights give.
--
-- In a live cell on the sight, at most one side is an exit, so the first of four tests finds it (`exit_is`), and where the
-- scanner lies there is none. The neighbor there has one side that names the cell back, through which the sight comes in, as
-- two cells name each other across one facet alone (`comes_in`). So the next side computed is the next one of the path
-- (`next_is`), and by induction the lists are one (`within_is`). The list is long enough: along a path fewer and fewer live
-- cells are higher at the scanner (`short`), so a path is no longer than there are slots (`sides_are`).
use Rattle.std.proofs.Common.{ℕ, zero, suc, ◌<◌, ◌≤◌, ◌≡◌, refl, sym, ap, subst, ◌∙◌, arith, Bool, true, false, true≢false}
use Rattle.std.proofs.Common.{Option, Some, None, List, [], ◌∷◌, length}
use Rattle.std.proofs.lemmas.Bool.{eqb-true, eq-eqb}
use Rattle.std.proofs.lemmas.Option.{same_Some}
use Rattle.geo_sign.specs.declared.point.TheConstants.{DATA_LIMIT}
use Rattle.geo_sign.specs.Point.{Point, IsWithin}
use Rattle.geo_sign.specs.Rational.{RationalPoint, displaced}
use Rattle.geo_sign.specs.Sights.{is_crossed, is_cell_of}
use Rattle.geo_sign.specs.Tetrahedron.{facet_of}
use Rattle.geo_sign.specs.Vertices.{Has}
use Rattle.cell_laws.specs.Lifts.{is_higher}
use Rattle.cell_laws.specs.Links.{Side}
use Rattle.cell_laws.specs.Lists.{count}
use Rattle.cell_laws.specs.Paths.{entered_facet, IsSightStep, IsSightPath}
use Rattle.cell_laws.specs.WalkLaws.{IsPassedOnce, HasPaths, IsWalk}
use Rattle.cell_laws.proofs.Crossings.{left_turned}
use Rattle.cell_laws.proofs.OneFacet.{same_side}
use Rattle.cell_laws.proofs.Scanners.{near_law}
use Rattle.cell_laws.proofs.SightLaws.{sight_law, left_of}
use Rattle.cell_laws.proofs.SightPaths.{path_law}
use Rattle.cell_laws.proofs.SightTests.{crossed_is}
use Rattle.tetra_store.specs.declared.link.Cell.{Cell}
use Rattle.tetra_store.specs.Links.{links_of, IsLive, IsBack}
use Rattle.tetra_store.specs.Store.{Store, vertices_of, IsStore}
use Rattle.tetra_store.specs.Delaunay.{IsDelaunay}
use Rattle.tetra_store.specs.Stored.{live_below, live_of}
use Rattle.tetra_walk.proofs.Backs.{one_back}
use Rattle.tetra_walk.proofs.Bridge.{linked, cells, listed, live}
use Rattle.tetra_walk.proofs.Ends.{walks}
use Rattle.sight.specs.Exits.{IsExit}
use Rattle.sight.specs.Walks.{first_of, leaves, exit_of, is_some_of, number_first, side_naming, side_into, side_through}
use Rattle.sight.specs.Walks.{next_side, with_rest, sides_within, sides_from}

-- ---- what the laws need, at once
pub record IsGiven (s : Store) (p : ℕ) (o : Point) : Type 0 where
  pub store : IsStore s
  pub delaunay : IsDelaunay (vertices_of s) (links_of s.slots)
  pub inserted : Has (vertices_of s) p
  pub data_point : IsWithin DATA_LIMIT o

pub passed : (s : Store) (p : ℕ) (o : Point) → IsGiven s p o → (x : ℕ) → IsLive (links_of s.slots) x
    → IsPassedOnce (vertices_of s) p (displaced o) ((links_of s.slots).at x)
passed s p o g x l = grind (arith, sight_law, g.delaunay.cells x l)

pub paths : (s : Store) (p : ℕ) (o : Point) → IsGiven s p o
    → HasPaths (vertices_of s) (live_of s.slots) (links_of s.slots).at (links_of s.slots).next p (displaced o)
paths s p o g =
    path_law (vertices_of s) g.store.vertices.boxed (live_of s.slots) (links_of s.slots).at (links_of s.slots).next
    (linked s g.store) (cells s g.delaunay) p g.inserted o g.data_point

abbrev pub IsPathOf : Store → (p : ℕ) → Point → ℕ → List Side → Type 0
IsPathOf s p o x cs =
    IsSightPath (vertices_of s) (live_of s.slots) (links_of s.slots).at (links_of s.slots).next p (displaced o) x cs

abbrev pub IsStepOf : Store → (p : ℕ) → Point → ℕ → Side → Type 0
IsStepOf s p o x c = IsSightStep (vertices_of s) (live_of s.slots) (links_of s.slots).at (links_of s.slots).next p (displaced o) x c

-- ---- the first of four tests
first_some : (f : ℕ → Bool) (k : ℕ) → first_of (f 0) (f 1) (f 2) (f 3) ≡ Some k → (k < 4) × (f k ≡ true)
first_some f k e = grind arith

first_none : (f : ℕ → Bool) (k : ℕ) → first_of (f 0) (f 1) (f 2) (f 3) ≡ None → k < 4 → f k ≡ false
first_none f k e l = by (f 0) (f 1) (f 2) (f 3) refl refl refl refl e
  where
    all : (k : ℕ) → f 0 ≡ false → f 1 ≡ false → f 2 ≡ false → f 3 ≡ false → k < 4 → f k ≡ false
    all k a b c d l = grind arith

    by : (x y z u : Bool) → f 0 ≡ x → f 1 ≡ y → f 2 ≡ z → f 3 ≡ u → first_of x y z u ≡ None → f k ≡ false
    by true y z u a b c d e = cc
    by false true z u a b c d e = cc
    by false false true u a b c d e = cc
    by false false false true a b c d e = cc
    by false false false false a b c d e = all k a b c d l

exit_is : (s : Store) (p : ℕ) (o : Point) → IsGiven s p o → (x k : ℕ) → IsLive (links_of s.slots) x
    → IsExit (vertices_of s) p (displaced o) ((links_of s.slots).at x) k
    → exit_of (vertices_of s) p (displaced o) ((links_of s.slots).at x) ≡ Some k
exit_is s p o g x k l h = by (exit_of (vertices_of s) p (displaced o) ((links_of s.slots).at x)) refl
  where
    f : ℕ → Bool
    f = leaves (vertices_of s) p (displaced o) ((links_of s.slots).at x)

    by : (n : Option ℕ) → exit_of (vertices_of s) p (displaced o) ((links_of s.slots).at x) ≡ n
        → exit_of (vertices_of s) p (displaced o) ((links_of s.slots).at x) ≡ Some k
    by None e = absurd (true≢false (sym h.left ∙ first_none f k e h.side_in))
    by (Some j) e =
        let z = first_some f j e in
        e ∙ ap (λ (n : ℕ). Some n) ((passed s p o g x l).one_exit j k z.0 h.side_in z.1 h.left)

exit_none : (s : Store) (p : ℕ) (o : Point) → IsGiven s p o → (x : ℕ) → IsLive (links_of s.slots) x
    → is_cell_of (vertices_of s) (displaced o) ((links_of s.slots).at x) ≡ true
    → exit_of (vertices_of s) p (displaced o) ((links_of s.slots).at x) ≡ None
exit_none s p o g x l h = by (exit_of (vertices_of s) p (displaced o) ((links_of s.slots).at x)) refl
  where
    f : ℕ → Bool
    f = leaves (vertices_of s) p (displaced o) ((links_of s.slots).at x)

    by : (n : Option ℕ) → exit_of (vertices_of s) p (displaced o) ((links_of s.slots).at x) ≡ n
        → exit_of (vertices_of s) p (displaced o) ((links_of s.slots).at x) ≡ None
    by None e = e
    by (Some j) e = let z = first_some f j e in absurd ((passed s p o g x l).not_both j z.1 h)

-- ---- the side that names a cell
is_named : (n : Option ℕ) (x : ℕ) → is_some_of n x ≡ true → n ≡ Some x
is_named n x e = grind (arith, eqb-true)

named_is : (n : Option ℕ) (x : ℕ) → n ≡ Some x → is_some_of n x ≡ true
named_is n x e = ap (λ (m : Option ℕ). is_some_of m x) e ∙ eq-eqb x x refl

naming : (f : ℕ → Option ℕ) (x b : ℕ) → b < 4 → f b ≡ Some x
    → (number_first (is_some_of (f 0) x) (is_some_of (f 1) x) (is_some_of (f 2) x) < 4)
    × (f (number_first (is_some_of (f 0) x) (is_some_of (f 1) x) (is_some_of (f 2) x)) ≡ Some x)
naming f x b l e = by (is_some_of (f 0) x) (is_some_of (f 1) x) (is_some_of (f 2) x) refl refl refl
  where
    last : (b : ℕ) → b < 4 → f b ≡ Some x → is_some_of (f 0) x ≡ false → is_some_of (f 1) x ≡ false → is_some_of (f 2) x ≡ false
        → f 3 ≡ Some x
    last b l e i j k = grind (arith, named_is)

    by : (u v w : Bool) → is_some_of (f 0) x ≡ u → is_some_of (f 1) x ≡ v → is_some_of (f 2) x ≡ w
        → (number_first u v w < 4) × (f (number_first u v w) ≡ Some x)
    by true v w i j k = (omega arith, is_named (f 0) x i)
    by false true w i j k = (omega arith, is_named (f 1) x j)
    by false false true i j k = (omega arith, is_named (f 2) x k)
    by false false false i j k = (omega arith, last b l e i j k)

-- ---- a step
-- where the sight goes out of x into y, it comes into y through the side that names x
pub comes_in : (s : Store) (p : ℕ) (o : Point) → IsStore s → (x k y m : ℕ) → IsLive (links_of s.slots) x
    → IsExit (vertices_of s) p (displaced o) ((links_of s.slots).at x) k → (links_of s.slots).next x k ≡ Some y → m < 4
    → (links_of s.slots).next y m ≡ Some x
    → IsLive (links_of s.slots) y × (is_crossed (vertices_of s) p (displaced o) (facet_of ((links_of s.slots).at y) m) ≡ true)
comes_in s p o i x k y m l h e b n =
    let v = vertices_of s in let links = links_of s.slots in let q : RationalPoint = displaced o in
    let back : IsBack links x k y = i.linked.back x k y l h.side_in e in
    let turned = one_back v links i.linked x k y m l h.side_in e back.live b n in
    let f = facet_of (links.at x) k in let g = facet_of (links.at y) m in
    (back.live, crossed_is v p q g (left_turned v p q f g turned (left_of v p q f h.left)))

-- the step of the path is that one
pub step_is : (s : Store) (p : ℕ) (o : Point) → IsGiven s p o → (x k y m : ℕ) → IsLive (links_of s.slots) x
    → IsExit (vertices_of s) p (displaced o) ((links_of s.slots).at x) k → (links_of s.slots).next x k ≡ Some y → m < 4
    → (links_of s.slots).next y m ≡ Some x
    → (c : Side) → IsStepOf s p o x c → c ≡ record { at = y; side = m }
step_is s p o g x k y m l h e b n c t =
    let v = vertices_of s in let links = links_of s.slots in let q : RationalPoint = displaced o in
    let a : t.leaving ≡ k = (passed s p o g x l).one_exit t.leaving k t.leaving_below h.side_in t.left h.left in
    let at : c.at ≡ y = same_Some c.at y (sym t.across ∙ ap (links.next x) a ∙ e) in
    let z = comes_in s p o g.store x k y m l h e b n in
    let f = facet_of (links.at x) t.leaving in
    let here =
    crossed_is v p q (entered_facet links.at c) (left_turned v p q f (entered_facet links.at c) t.turned (left_of v p q f t.left)) in
    let there : is_crossed v p q (facet_of (links.at y) c.side) ≡ true =
    subst (λ (u : ℕ). is_crossed v p q (facet_of (links.at u) c.side) ≡ true) at here in
    same_side c (record { at = y; side = m }) at ((passed s p o g y z.0).one_entry c.side m t.side_below b there z.1)

next_is : (s : Store) (p : ℕ) (o : Point) → IsGiven s p o → (x : ℕ) → IsLive (links_of s.slots) x → (c : Side)
    → IsStepOf s p o x c → next_side s p o x ≡ Some c
next_is s p o g x l c t =
    let links = links_of s.slots in
    let h : IsExit (vertices_of s) p (displaced o) (links.at x) t.leaving =
    record { side_in = t.leaving_below; left = t.left } in
    let back : IsBack links x t.leaving c.at = g.store.linked.back x t.leaving c.at l t.leaving_below t.across in
    let z = naming (links.next c.at) x back.side back.in_range back.named in
    ap (side_through links x) (exit_is s p o g x t.leaving l h) ∙ ap (side_into links x) t.across
    ∙ ap (λ (d : Side). Some d) (sym (step_is s p o g x t.leaving c.at (side_naming links c.at x) l h t.across z.0 z.1 c t))

next_none : (s : Store) (p : ℕ) (o : Point) → IsGiven s p o → (x : ℕ) → IsLive (links_of s.slots) x
    → is_cell_of (vertices_of s) (displaced o) ((links_of s.slots).at x) ≡ true → next_side s p o x ≡ None
next_none s p o g x l h = ap (side_through (links_of s.slots) x) (exit_none s p o g x l h)

-- ---- all of them
within_is : (s : Store) (p : ℕ) (o : Point) → IsGiven s p o → (n : ℕ) (cs : List Side) (x : ℕ) → IsLive (links_of s.slots) x
    → IsPathOf s p o x cs → length cs ≤ n → sides_within s p o n x ≡ cs
within_is s p o g zero [] x l h b = refl
within_is s p o g zero (c ∷ cs) x l h b = absurd (omega (arith, b))
within_is s p o g (suc n) [] x l h b = ap (λ (d : Option Side). with_rest d (sides_within s p o n)) (next_none s p o g x l h)
within_is s p o g (suc n) (c ∷ cs) x l h b =
    let t : IsStepOf s p o x c = h.0 in
    ap (λ (d : Option Side). with_rest d (sides_within s p o n)) (next_is s p o g x l c t)
    ∙ ap (λ (ds : List Side). c ∷ ds) (within_is s p o g n cs c.at (live s.slots c.at t.listed) h.1 (omega (arith, b)))

abbrev higher : Store → Point → ℕ → ℕ
higher s o x =
    count (λ z. is_higher (vertices_of s) (displaced o) ((links_of s.slots).at x) ((links_of s.slots).at z)) (live_of s.slots)

short : (s : Store) (p : ℕ) (o : Point) → IsGiven s p o → (cs : List Side) (x : ℕ) → IsLive (links_of s.slots) x
    → IsPathOf s p o x cs → length cs ≤ higher s o x
short s p o g [] x l h = omega arith
short s p o g (c ∷ cs) x l h =
    let t : IsStepOf s p o x c = h.0 in
    let w : IsWalk (vertices_of s) (live_of s.slots) (links_of s.slots).at (links_of s.slots).next (displaced o) =
    walks s g.store g.delaunay (displaced o) (near_law o o g.data_point g.data_point).scanner_in_box in
    let f =
    w.falls x t.leaving c.at (listed s.slots x l) t.leaving_below
    (left_of (vertices_of s) p (displaced o) (facet_of ((links_of s.slots).at x) t.leaving) t.left).ahead t.across in
    let r = short s p o g cs c.at (live s.slots c.at t.listed) h.1 in
    omega (arith, f, r)

counted_below : {X : Type 0} (f : X → Bool) (xs : List X) → count f xs ≤ length xs
counted_below f [] = omega arith
counted_below f (x ∷ xs) = grind (arith, counted_below f xs)

few_live : (slots : List (Option Cell)) (n : ℕ) → length (live_below slots n) ≤ n
few_live slots zero = omega arith
few_live slots (suc n) = grind (arith, few_live slots n)

pub sides_are : (s : Store) (p : ℕ) (o : Point) → IsGiven s p o → (cs : List Side) (x : ℕ) → IsLive (links_of s.slots) x
    → IsPathOf s p o x cs → sides_from s p o x ≡ cs
unfolding sides_from
sides_are s p o g cs x l h =
    let a = short s p o g cs x l h in
    let b =
    counted_below (λ z. is_higher (vertices_of s) (displaced o) ((links_of s.slots).at x) ((links_of s.slots).at z))
    (live_of s.slots) in
    let c = few_live s.slots (length s.slots) in
    within_is s p o g (length s.slots) cs x l h (omega (arith, a, b, c))
