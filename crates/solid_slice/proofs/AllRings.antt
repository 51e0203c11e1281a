-- The rings of all cut faces, loop by loop.
--
-- AreRings is what holds behind the faces below some number: these were visited, the loops so far are in the order of their
-- first faces, and of each face they have what was visited since the start (count). At the start that is what is not cut
-- (rings_none). A visited face changes nothing (rings_skip); another begins a loop, of which it is the first, behind all
-- first ones so far (rings_more). In the end all were visited, so each cut face stands once in all loops together, and no
-- other (rings_all).
use Rattle.std.proofs.Common.{ℕ, ◌≡◌, ◌+◌, ◌<◌, ◌≤◌, ◌==◌, refl, ap, sym, ◌∙◌, arith, Bool, true, false, not, List, [], ◌∷◌}
use Rattle.std.proofs.Common.{◌++◌, length, get_or, map, ℤ, inl, inr}
use Rattle.std.specs.List.{All, count_by, concat}
use Rattle.std.proofs.lemmas.Bool.{false≢true, cases_lt}
use Rattle.std.proofs.lemmas.List.{append_assoc, append-nil, get_or_past, get_or-map, length-map, length_push}
use Rattle.std.proofs.lemmas.List.{get_or_append_left, get_or_push}
use Rattle.std.proofs.lemmas.List.Elements.{All-push}
use Rattle.std.proofs.lemmas.List.Sums.{sum_by-append, sum_by-cons}
use Rattle.geo_sign.specs.Point.{Point}
use Rattle.solid_slice.specs.Cuts.{is_cut_face, is_cut_at}
use Rattle.solid_slice.specs.Loops.{IsLoop, AreLoops}
use Rattle.solid_slice.specs.Walks.{IsSuccession, is_visited, visits, IsBetweenLoops}
use Rattle.mesh_edges.proofs.Counts.{one_if, hit_yes}
use Rattle.solid_slice.proofs.Following.{next_is_cut}

abbrev pub first_of : List (List ℕ) → ℕ → ℕ
first_of rings k = get_or (get_or rings k []) 0 0

-- the loops through the faces below some number, and what they have visited
pub record AreRings (points : List Point) (faces : List (List ℕ)) (h : ℤ) (next : List ℕ) (old visited : List Bool)
    (rings : List (List ℕ)) (start : ℕ) : Type 0 where
  pub between : IsBetweenLoops points faces h next visited
  pub smaller : (f : ℕ) → f < start → is_visited visited f ≡ true
  pub each : All (IsLoop points faces h) rings
  pub count : (f : ℕ) → count_by (λ g. g == f) (concat rings) + visits old f ≡ visits visited f
  pub in_order : (j k : ℕ) → j < k → k < length rings → first_of rings j < first_of rings k
  pub before : (k : ℕ) → k < length rings → first_of rings k < start

concat_push : (rings : List (List ℕ)) (ring : List ℕ) → concat (rings ++ ring ∷ []) ≡ concat rings ++ ring
concat_push [] ring = append-nil ring
concat_push (r ∷ rings) ring = ap (λ (t : List ℕ). r ++ t) (concat_push rings ring) ∙ sym (append_assoc r (concat rings) ring)

-- one face more, which was visited
pub rings_skip : (points : List Point) (faces : List (List ℕ)) (h : ℤ) (next : List ℕ) (old visited : List Bool)
    (rings : List (List ℕ)) (start : ℕ) → is_visited visited start ≡ true → AreRings points faces h next old visited rings start
    → AreRings points faces h next old visited rings (start + 1)
rings_skip points faces h next old visited rings start seen r = grind arith

-- a list has its first face
pub first_counts : (ring : List ℕ) (f : ℕ) → 0 < length ring → get_or ring 0 0 ≡ f → 1 ≤ count_by (λ g. g == f) ring
first_counts [] f l e = absurd (omega arith)
first_counts (g ∷ ring) f l e = omega (arith, sum_by-cons (λ x. one_if (x == f)) g ring, hit_yes g f e)

-- one loop more
pub rings_more : (points : List Point) (faces : List (List ℕ)) (h : ℤ) (next : List ℕ) (old visited visited' : List Bool)
    (rings : List (List ℕ)) (ring : List ℕ) (start : ℕ) → AreRings points faces h next old visited rings start
    → IsLoop points faces h ring → get_or ring 0 0 ≡ start → IsBetweenLoops points faces h next visited'
    → ((f : ℕ) → count_by (λ g. g == f) ring + visits visited f ≡ visits visited' f)
    → AreRings points faces h next old visited' (rings ++ ring ∷ []) (start + 1)
rings_more points faces h next old visited visited' rings ring start r loop first between count =
    record {
      between = between;
      smaller = λ f l.
          elim (cases_lt f start) [
            | inl m ↦
                let was : visits visited f ≡ 1 = ap one_if (r.smaller f m) in
                seen_from visited' f (omega (arith, was, count f))
            | inr m ↦
                let e : f ≡ start = omega arith in
                seen_from visited' f (omega (arith, count f, in_ring f (first ∙ sym e)))
          ];
      each = All-push (IsLoop points faces h) rings ring r.each loop;
      count = λ f.
          let whole =
          ap (λ (t : List ℕ). count_by (λ g. g == f) t) (concat_push rings ring)
          ∙ sum_by-append (λ g. one_if (g == f)) (concat rings) ring in
          omega (arith, whole, count f, r.count f);
      in_order = λ j k l m.
          let size = length_push rings ring in
          let left = ap (λ (t : List ℕ). get_or t 0 0) (get_or_append_left rings (ring ∷ []) [] j (omega (arith, size))) in
          elim (cases_lt k (length rings)) [
            | inl n ↦
                omega (
                  arith,
                  left,
                  ap (λ (t : List ℕ). get_or t 0 0) (get_or_append_left rings (ring ∷ []) [] k n),
                  r.in_order j k l n,
                )
            | inr n ↦
                let at : length rings ≡ k = omega (arith, size) in
                omega (
                  arith,
                  left,
                  ap (λ (t : List ℕ). get_or t 0 0) (get_or_push rings ring [] k at),
                  first,
                  r.before j (omega arith),
                )
          ];
      before = λ k m.
          let size = length_push rings ring in
          elim (cases_lt k (length rings)) [
            | inl n ↦
                omega (arith, ap (λ (t : List ℕ). get_or t 0 0) (get_or_append_left rings (ring ∷ []) [] k n), r.before k n)
            | inr n ↦
                let at : length rings ≡ k = omega (arith, size) in
                omega (arith, ap (λ (t : List ℕ). get_or t 0 0) (get_or_push rings ring [] k at), first)
          ];
    }
  where
    seen_from : (visited : List Bool) (f : ℕ) → 1 ≤ visits visited f → is_visited visited f ≡ true
    seen_from visited f l = by (is_visited visited f) l
      where
        by : (b : Bool) → 1 ≤ one_if b → b ≡ true
        by true l = refl
        by false l = absurd (omega arith)

    in_ring : (f : ℕ) → get_or ring 0 0 ≡ f → 1 ≤ count_by (λ g. g == f) ring
    in_ring f e = first_counts ring f loop.some e

-- before the first loop just the faces that are not cut count as visited
visited_first : (points : List Point) (faces : List (List ℕ)) (h : ℤ) (uncut : List Bool) (f : ℕ)
    → uncut ≡ map (λ face. not (is_cut_face points h face)) faces → is_visited uncut f ≡ not (is_cut_at points faces h f)
visited_first points faces h uncut f e =
    let test = λ (face : List ℕ). not (is_cut_face points h face) in
    ap (λ (t : List Bool). get_or t f true) e
    ∙ elim (cases_lt f (length faces)) [
      | inl l ↦ get_or-map test faces f [] true l
      | inr l ↦
          get_or_past (map test faces) f true (omega (arith, length-map faces test)) ∙ sym (ap test (get_or_past faces f [] l))
    ]

pub rings_none : (points : List Point) (faces : List (List ℕ)) (h : ℤ) (next : List ℕ) (uncut : List Bool)
    → uncut ≡ map (λ face. not (is_cut_face points h face)) faces → IsSuccession points faces h next
    → AreRings points faces h next uncut uncut [] 0
rings_none points faces h next uncut e s =
    record {
      between = record {
        size = ap (λ (t : List Bool). length t) e ∙ length-map faces (λ face. not (is_cut_face points h face));
        uncut = λ f cut. visited_first points faces h uncut f e ∙ ap not cut;
        whole = λ f seen. by f (is_cut_at points faces h f) refl seen;
      };
      smaller = λ f l. absurd (omega arith);
      each = λ k d l. absurd (omega arith);
      count = λ f. omega arith;
      in_order = λ j k l m. absurd (omega arith);
      before = λ k l. absurd (omega arith);
    }
  where
    by : (f : ℕ) (b : Bool) → is_cut_at points faces h f ≡ b → is_visited uncut (get_or next f 0) ≡ true
        → is_visited uncut f ≡ true
    by f false cut seen = visited_first points faces h uncut f e ∙ ap not cut
    by f true cut seen =
        let there = next_is_cut points faces h f (get_or next f 0) (s.each f cut) in
        absurd (false≢true (sym (visited_first points faces h uncut (get_or next f 0) e ∙ ap not there) ∙ seen))

-- all faces were visited
pub rings_all : (points : List Point) (faces : List (List ℕ)) (h : ℤ) (next : List ℕ) (uncut visited : List Bool)
    (rings : List (List ℕ)) (n : ℕ) → length faces ≤ n → uncut ≡ map (λ face. not (is_cut_face points h face)) faces
    → AreRings points faces h next uncut visited rings n → AreLoops points faces h rings
rings_all points faces h next uncut visited rings n le e r =
    record {
      each = r.each;
      once = λ f. by f (is_cut_at points faces h f) refl;
      in_order = r.in_order;
    }
  where
    seen : (f : ℕ) → is_visited visited f ≡ true
    seen f = elim (cases_lt f n) [ inl l ↦ r.smaller f l | inr l ↦ get_or_past visited f true (omega (arith, r.between.size)) ]

    by : (f : ℕ) (b : Bool) → is_cut_at points faces h f ≡ b
        → count_by (λ g. g == f) (concat rings) ≡ one_if (is_cut_at points faces h f)
    by f b cut =
        let now : visits visited f ≡ 1 = ap one_if (seen f) in
        let was : visits uncut f ≡ one_if (not b) = ap one_if (visited_first points faces h uncut f e ∙ ap not cut) in
        let sum : one_if (not b) + one_if b ≡ 1 = whole b in
        omega (arith, r.count f, now, was, sum, ap one_if cut)
      where
        whole : (b : Bool) → one_if (not b) + one_if b ≡ 1
        whole true = omega arith
        whole false = omega arith
