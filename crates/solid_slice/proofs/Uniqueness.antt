-- That a mesh has one slice at a height, and one refusal.
--
-- A face has one edge down through the height, so no face has two next faces. So a loop is known by its first face: each other
-- is the next of the one before, and two loops with one first face end together, since in the longer one this face would stand
-- a second time. Two slices have the same faces in their loops, the cut ones. The first loop of each begins with the smallest
-- of them, since a loop begins with its smallest face and first faces rise. So these two loops are one, and what is left has
-- the same faces again. A step's point is that of its face's one edge up.
use Rattle.std.proofs.Common.{ℕ, zero, suc, ◌≡◌, ◌≢◌, ◌+◌, ◌-◌, ◌<◌, ◌≤◌, ◌==◌, ◌⊎◌, refl, ap, sym, ◌∙◌, subst, arith, add-one}
use Rattle.std.proofs.Common.{Bool, true, false, List, [], ◌∷◌, length, get_or, drop, map, ℤ, inl, inr}
use Rattle.std.specs.List.{All, count_by, concat}
use Rattle.std.proofs.lemmas.Bool.{cases_lt}
use Rattle.std.proofs.lemmas.List.{ext_get_or}
use Rattle.std.proofs.lemmas.List.Elements.{All-append, All-head, All-tail}
use Rattle.std.proofs.lemmas.List.Sums.{sum_by-append, get_or-le-sum_by}
use Rattle.geo_sign.specs.Point.{Point}
use Rattle.mesh.specs.Meshes.{point_at}
use Rattle.solid_slice.specs.Cuts.{is_above, is_cut_at, IsUpEdge, at_height, rise, IsStep}
use Rattle.mesh_edges.specs.Edges.{face_at, ComesFirst, IsBalanced, IsFirstUnbalanced}
use Rattle.solid_slice.specs.Laws.{SliceIsOne, RefusalIsOne, BalancedIsSliced}
use Rattle.solid_slice.specs.Loops.{IsNext, IsLoop, the_face, AreLoops}
use Rattle.solid_slice.specs.Refusals.{IsRefusedSlice}
use Rattle.solid_slice.specs.declared.refusal.SliceRefusal.{SliceRefusal}
use Rattle.solid_slice.specs.declared.refusal.SliceRefusal.TheVariants.{Unbalanced, NoMemory}
use Rattle.solid_slice.specs.declared.step.Step.{Step}
use Rattle.solid_slice.proofs.AllRings.{first_of, first_counts}
use Rattle.mesh_edges.proofs.Counts.{one_if, hits-cons, hits_none, hit_yes}
use Rattle.mesh_edges.proofs.FaceEdges.{same_edge}
use Rattle.solid_slice.proofs.Following.{one_after}

-- how often a list has a face
abbrev times : ℕ → List ℕ → ℕ
times f faces = count_by (λ g. g == f) faces

-- in the first list, and in the others
times_both : (f : ℕ) (ring : List ℕ) (rings : List (List ℕ))
    → times f (concat (ring ∷ rings)) ≡ times f ring + times f (concat rings)
times_both f ring rings = sum_by-append (λ g. one_if (g == f)) ring (concat rings)

-- a first element that stands in the rest too
twice : (f : ℕ) (faces : List ℕ) (k : ℕ) → k < length faces → get_or faces k 0 ≡ f → 2 ≤ times f (f ∷ faces)
twice f faces k l e =
    omega (
      arith,
      hits-cons (λ (g : ℕ). g) f f faces,
      hit_yes f f refl,
      hit_yes (get_or faces k 0) f e,
      get_or-le-sum_by (λ g. one_if (g == f)) faces k 0 l,
    )

module _ (points : List Point) (faces : List (List ℕ)) (h : ℤ) where
  abbrev Next : (f g : ℕ) → Type 0
  Next = IsNext points faces h

  abbrev Loop : List ℕ → Type 0
  Loop = IsLoop points faces h

  -- each face but the last is followed by its next face
  next_in : (ring : List ℕ) → Loop ring → (k : ℕ) → suc k < length ring → Next (get_or ring k 0) (get_or ring (suc k) 0)
  next_in ring a k = subst (λ (n : ℕ). n < length ring → Next (get_or ring k 0) (get_or ring n 0)) (add-one k) (a.next k)

  -- two loops with one first face go through the same faces
  same_faces : (ring other : List ℕ) → Loop ring → Loop other → get_or ring 0 0 ≡ get_or other 0 0
      → (k : ℕ) → k < length ring → k < length other → get_or ring k 0 ≡ get_or other k 0
  same_faces ring other a b first zero l m = first
  same_faces ring other a b first (suc k) l m =
      let here : get_or ring k 0 ≡ get_or other k 0 = same_faces ring other a b first k (omega arith) (omega arith) in
      one_after points faces h (get_or other k 0) (get_or ring (suc k) 0) (get_or other (suc k) 0)
      (subst (λ (f : ℕ). Next f (get_or ring (suc k) 0)) here (next_in ring a k l)) (next_in other b k m)

  -- neither is longer
  not_longer : (ring other : List ℕ) → Loop ring → Loop other → get_or ring 0 0 ≡ get_or other 0 0
      → ((f : ℕ) → times f other ≤ 1) → length other ≤ length ring
  not_longer ring [] a b first once = omega arith
  not_longer ring (f ∷ rest) a b first once =
      elim (cases_lt (length ring) (length (f ∷ rest))) [
        | inr l ↦ l
        | inl l ↦
            let last : ℕ = length ring - 1 in
            let size : length ring ≡ suc last = omega (arith, a.some) in
            let before : get_or ring last 0 ≡ get_or (f ∷ rest) last 0 =
            same_faces ring (f ∷ rest) a b first last (omega arith) (omega arith) in
            let back : get_or ring 0 0 ≡ get_or (f ∷ rest) (suc last) 0 =
            one_after points faces h (get_or (f ∷ rest) last 0) (get_or ring 0 0) (get_or (f ∷ rest) (suc last) 0)
            (subst (λ (g : ℕ). Next g (get_or ring 0 0)) before a.closed) (next_in (f ∷ rest) b last (omega arith)) in
            absurd (omega (arith, once f, twice f rest last (omega arith) (sym back ∙ first)))
      ]

  -- two loops with one first face are one
  one_ring : (ring other : List ℕ) → Loop ring → Loop other → get_or ring 0 0 ≡ get_or other 0 0
      → ((f : ℕ) → times f ring ≤ 1) → ((f : ℕ) → times f other ≤ 1) → ring ≡ other
  one_ring ring other a b first once once' =
      let size : length ring ≡ length other =
      omega (arith, not_longer ring other a b first once', not_longer other ring b a (sym first) once) in
      ext_get_or 0 ring other size (λ k l. same_faces ring other a b first k l (omega arith))

  -- loops by rising first faces that have no face twice
  record AreApart (rings : List (List ℕ)) : Type 0 where
    pub each : All Loop rings
    pub once : (f : ℕ) → times f (concat rings) ≤ 1
    pub in_order : (j k : ℕ) → j < k → k < length rings → first_of rings j < first_of rings k

  -- all but the first
  apart_tail : (ring : List ℕ) (rings : List (List ℕ)) → AreApart (ring ∷ rings) → AreApart rings
  apart_tail ring rings a =
      record {
        each = All-tail Loop ring rings a.each;
        once = λ f. omega (arith, a.once f, times_both f ring rings);
        in_order = λ j k l m. a.in_order (suc j) (suc k) (omega arith) (omega arith);
      }

  -- the first has no face twice
  once_head : (ring : List ℕ) (rings : List (List ℕ)) → AreApart (ring ∷ rings) → (f : ℕ) → times f ring ≤ 1
  once_head ring rings a f = omega (arith, a.once f, times_both f ring rings)

  -- no face is below the first faces
  least : (n : ℕ) (rings : List (List ℕ)) → All Loop rings → ((k : ℕ) → k < length rings → n ≤ first_of rings k)
      → All (λ f. n ≤ f) (concat rings)
  least n [] each first = λ k d l. absurd (omega arith)
  least n (ring ∷ rings) each first =
      let loop : Loop ring = All-head Loop ring rings each in
      All-append (λ f. n ≤ f) ring (concat rings) (λ k d l. omega (arith, loop.smallest k d l, first 0 (omega arith)))
      (least n rings (All-tail Loop ring rings each) (λ k l. first (suc k) (omega arith)))

  -- the first face is there
  first_face : (ring : List ℕ) (rings : List (List ℕ)) → AreApart (ring ∷ rings)
      → 1 ≤ times (get_or ring 0 0) (concat (ring ∷ rings))
  first_face ring rings a =
      let loop : Loop ring = All-head Loop ring rings a.each in
      omega (arith, first_counts ring (get_or ring 0 0) loop.some refl, times_both (get_or ring 0 0) ring rings)

  -- no first face of such a list is below that of another with the same faces
  not_below : (ring other : List ℕ) (rings others : List (List ℕ)) → AreApart (ring ∷ rings) → AreApart (other ∷ others)
      → ((f : ℕ) → times f (concat (ring ∷ rings)) ≡ times f (concat (other ∷ others))) → get_or other 0 0 ≤ get_or ring 0 0
  not_below ring other rings others a b same =
      let f : ℕ = get_or ring 0 0 in
      let n : ℕ = get_or other 0 0 in
      elim (cases_lt f n) [
        | inr l ↦ l
        | inl l ↦
            let all : List ℕ = concat (other ∷ others) in
            let above : All (λ g. n ≤ g) all = least n (other ∷ others) b.each (first_least other others b) in
            let none : times f all ≡ 0 = hits_none (λ (g : ℕ). g) f all (λ k d m. omega (arith, above k d m)) in
            absurd (omega (arith, first_face ring rings a, same f, none))
      ]
    where
      first_least : (ring : List ℕ) (rings : List (List ℕ)) → AreApart (ring ∷ rings) → (k : ℕ) → k < length (ring ∷ rings)
          → get_or ring 0 0 ≤ first_of (ring ∷ rings) k
      first_least ring rings a zero l = omega arith
      first_least ring rings a (suc k) l = omega (arith, a.in_order 0 (suc k) (omega arith) l)

  -- two such lists with the same faces are one
  one_list : (rings others : List (List ℕ)) → AreApart rings → AreApart others
      → ((f : ℕ) → times f (concat rings) ≡ times f (concat others)) → rings ≡ others
  one_list [] [] a b same = refl
  one_list [] (other ∷ others) a b same = absurd (omega (arith, same (get_or other 0 0), first_face other others b))
  one_list (ring ∷ rings) [] a b same = absurd (omega (arith, same (get_or ring 0 0), first_face ring rings a))
  one_list (ring ∷ rings) (other ∷ others) a b same =
      let first : get_or ring 0 0 ≡ get_or other 0 0 =
      omega (arith, not_below ring other rings others a b same, not_below other ring others rings b a (λ f. sym (same f))) in
      let one : ring ≡ other =
      one_ring ring other (All-head Loop ring rings a.each) (All-head Loop other others b.each) first
      (once_head ring rings a) (once_head other others b) in
      let rest : rings ≡ others =
      one_list rings others (apart_tail ring rings a) (apart_tail other others b)
      (λ f.
      omega (
        arith,
        same f,
        times_both f ring rings,
        times_both f other others,
        ap (λ (r : List ℕ). times f r) one,
      )) in
      ap (λ (r : List ℕ). r ∷ rings) one ∙ ap (λ (rs : List (List ℕ)). other ∷ rs) rest

  -- the loops of all cut faces are so
  loops_one : (rings others : List (List ℕ)) → AreLoops points faces h rings → AreLoops points faces h others → rings ≡ others
  loops_one rings others a b = one_list rings others (apart rings a) (apart others b) (λ f. a.once f ∙ sym (b.once f))
    where
      one : (b : Bool) → one_if b ≤ 1
      one true = omega arith
      one false = omega arith

      apart : (rings : List (List ℕ)) → AreLoops points faces h rings → AreApart rings
      apart rings a =
          record {
            each = a.each;
            once = λ f. omega (arith, a.once f, one (is_cut_at points faces h f));
            in_order = a.in_order;
          }

  -- a face has one step
  one_step : (s t : Step) → IsStep points faces h s → IsStep points faces h t → s.face ≡ t.face → s ≡ t
  one_step s t a b e =
      let up = subst (λ (f : ℕ). IsUpEdge points h (face_at faces f) a.lower a.upper) e a.up in
      let ends = same_edge (is_above points h) (face_at faces t.face) a.lower a.upper b.lower b.upper up.edge b.up.edge
      up.from_below up.to_above b.up.from_below b.up.to_above in
      let p : point_at points a.lower ≡ point_at points b.lower = ap (point_at points) ends.0 in
      let q : point_at points a.upper ≡ point_at points b.upper = ap (point_at points) ends.1 in
      let along_same : (c : Point → ℤ)
      → at_height h (point_at points a.lower) (point_at points a.upper) (c (point_at points a.lower)) (c (point_at points a.upper))
      ≡ at_height h (point_at points b.lower) (point_at points b.upper) (c (point_at points b.lower))
      (c (point_at points b.upper)) =
      λ c. ap (λ (v : Point). at_height h v (point_at points a.upper) (c v) (c (point_at points a.upper))) p
      ∙ ap (λ (v : Point). at_height h (point_at points b.lower) v (c (point_at points b.lower)) (c v)) q in
      let x : s.x ≡ t.x = a.x ∙ (along_same (λ v. v.x) ∙ sym b.x) in
      let y : s.y ≡ t.y = a.y ∙ (along_same (λ v. v.y) ∙ sym b.y) in
      let d : s.d ≡ t.d =
      a.d ∙ (ap (λ (v : Point). rise v (point_at points a.upper)) p
      ∙ (ap (λ (v : Point). rise (point_at points b.lower) v) q ∙ sym b.d)) in
      ap (λ (f : ℕ). step f s.x s.y s.d) e
      ∙ (ap (λ (z : ℤ). step t.face z s.y s.d) x
      ∙ (ap (λ (z : ℤ). step t.face t.x z s.d) y
      ∙ ap (λ (z : ℤ). step t.face t.x t.y z) d))
    where
      step : (face : ℕ) (x y d : ℤ) → Step
      step face x y d = record { face = face; x = x; y = y; d = d }

-- lists are one if their elements are known by a part of them, and these parts are one
one_by_part : {X Y : Type 0} (part : X → Y) (P : X → Type 0) → ((x y : X) → P x → P y → part x ≡ part y → x ≡ y)
    → (xs ys : List X) → All P xs → All P ys → map part xs ≡ map part ys → xs ≡ ys
one_by_part part P one [] [] a b e = refl
one_by_part part P one [] (y ∷ ys) a b e = absurd (omega (arith, ap length e))
one_by_part part P one (x ∷ xs) [] a b e = absurd (omega (arith, ap length e))
one_by_part {X} {Y} part P one (x ∷ xs) (y ∷ ys) a b e =
    let parts : (part x ≡ part y) × (map part xs ≡ map part ys) = cons_parts (part x) (part y) (map part xs) (map part ys) e in
    let head : x ≡ y = one x y (All-head P x xs a) (All-head P y ys b) parts.0 in
    let rest : xs ≡ ys = one_by_part part P one xs ys (All-tail P x xs a) (All-tail P y ys b) parts.1 in
    ap (λ (z : X). z ∷ xs) head ∙ ap (λ (zs : List X). y ∷ zs) rest
  where
    cons_parts : (x y : Y) (xs ys : List Y) → x ∷ xs ≡ y ∷ ys → (x ≡ y) × (xs ≡ ys)
    cons_parts x y xs ys e = (ap (λ (zs : List Y). get_or zs 0 x) e, ap (λ (zs : List Y). drop 1 zs) e)

pub slice_is_one : SliceIsOne
slice_is_one = λ points faces h rings others a b.
    let Each = IsStep points faces h in
    one_by_part (map the_face) (All Each) (one_by_part the_face Each (one_step points faces h)) rings others a.steps b.steps
    (loops_one points faces h (map (map the_face) rings) (map (map the_face) others) a.loops b.loops)

-- of two pairs one comes first, or they are one
cases_first : (u v s t : ℕ) → ComesFirst u v s t ⊎ (ComesFirst s t u v ⊎ ((u ≡ s) × (v ≡ t)))
cases_first u v s t = grind arith

module _ (faces : List (List ℕ)) (u v m n s t k l : ℕ) (a : IsFirstUnbalanced faces u v m n) (b : IsFirstUnbalanced faces s t k l) where
  -- two smallest pairs whose counts differ are one
  same_pair : ComesFirst u v s t ⊎ (ComesFirst s t u v ⊎ ((u ≡ s) × (v ≡ t))) → (u ≡ s) × (v ≡ t)
  same_pair (inl first) = absurd (a.differ (a.there ∙ (b.smallest u v first ∙ sym a.back)))
  same_pair (inr (inl first)) = absurd (b.differ (b.there ∙ (a.smallest s t first ∙ sym b.back)))
  same_pair (inr (inr same)) = same

  -- and so are their counts
  unbalanced_one : Unbalanced u v m n ≡ Unbalanced s t k l
  unbalanced_one =
      let same : (u ≡ s) × (v ≡ t) = same_pair (cases_first u v s t) in
      let there : m ≡ k = cc (a.there, b.there, same.0, same.1) in
      let back : n ≡ l = cc (a.back, b.back, same.0, same.1) in
      cc (same.0, same.1, there, back)

pub refusal_is_one : RefusalIsOne
refusal_is_one = λ faces refusal other. by faces refusal other
  where
    by : (faces : List (List ℕ)) (refusal other : SliceRefusal) → IsRefusedSlice faces refusal → IsRefusedSlice faces other
        → refusal ≢ NoMemory → other ≢ NoMemory → refusal ≡ other
    by faces NoMemory other a b some some' = absurd (some refl)
    by faces (Unbalanced u v m n) NoMemory a b some some' = absurd (some' refl)
    by faces (Unbalanced u v m n) (Unbalanced s t k l) a b some some' = unbalanced_one faces u v m n s t k l a b

pub balanced_is_sliced : BalancedIsSliced
balanced_is_sliced = λ faces balanced refusal. by faces balanced refusal
  where
    by : (faces : List (List ℕ)) → IsBalanced faces → (refusal : SliceRefusal) → IsRefusedSlice faces refusal → refusal ≡ NoMemory
    by faces balanced NoMemory a = refl
    by faces balanced (Unbalanced u v m n) a = absurd (a.differ (a.there ∙ (balanced u v ∙ sym a.back)))
