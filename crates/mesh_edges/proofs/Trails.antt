-- A circle of the trail gets a label of its own.
use Rattle.std.proofs.Common.{ℕ, zero, suc, ◌≡◌, ◌≢◌, ◌+◌, ◌-◌, ◌<◌, ◌≤◌, ◌⊎◌, ◌++◌, inl, inr, refl, ap, sym, ◌∙◌, subst, arith}
use Rattle.std.proofs.Common.{Bool, true, false, List, [], ◌∷◌, length, get_or, take, cond, set, get_or-set_same, get_or-set_other}
use Rattle.std.specs.List.{All, count_by}
use Rattle.std.proofs.Math.ListN.{length-set}
use Rattle.std.proofs.lemmas.Bool.Decides.{nat_tests}
use Rattle.std.proofs.lemmas.List.{get_or_past, get_or-take, length-take-le, get_or_push, get_or_append_left, length_push}
use Rattle.std.proofs.lemmas.List.Sums.{sum_by-set}
use Rattle.std.proofs.lemmas.Bool.{cases_lt, cases_eq}
use Rattle.mesh.specs.Meshes.{IsFace}
use Rattle.mesh_edges.proofs.Counts.{one_if}
use Rattle.mesh_edges.specs.HalfEdges.{start, behind, ahead, around, IsTwin, ArePaired}
use Rattle.mesh_edges.specs.Umbrellas.{AreFanLabels}
use Rattle.mesh_edges.specs.Walks.{IsOn, IsOff, IsRelabelled, HasName, AreFinal, IsTrail, FollowsAround, AreVisited, IsWalkState, IsClosing, MayFollow, IsWalkStep, IsExchanged, StaySettled, unvisited}
use Rattle.mesh_edges.proofs.Corners.{behind_in, around_within, around_start, around_once, away}
use Rattle.mesh_edges.proofs.Walks.{still_paired, still_labels, around_same, around_to_a, around_to_b}

-- the label at the other end tells the index in the trail
pub one_index : (twins labels seen trail : List ℕ) → IsTrail twins labels seen trail → (i j : ℕ) → i < length trail → j < length trail
    → get_or labels (behind (get_or trail i 0)) 0 ≡ get_or labels (behind (get_or trail j 0)) 0 → i ≡ j
one_index twins labels seen trail t i j l m e = sym (t.found i l) ∙ (ap (λ (k : ℕ). get_or seen k 0) e ∙ t.found j m)

module _ (n : ℕ) (faces : List (List ℕ)) (each : All (IsFace n) faces) (twins labels seen trail : List ℕ) (visited : List Bool)
    (from : ℕ) (c : IsClosing faces twins labels seen trail visited from) (new : List ℕ)
    (re : IsRelabelled from (length trail) trail (length labels + get_or trail from 0) labels new) where
  abbrev On : ℕ → Type 0
  On h = IsOn trail from (length trail) h

  abbrev Off : ℕ → Type 0
  Off h = IsOff trail from (length trail) h

  loose_on : (h : ℕ) → On h → get_or labels h 0 < length labels
  loose_on h (i, a, b, e) =
      omega (arith, c.distinct.loose i b, ap (λ (k : ℕ). get_or labels k 0) e, c.labelled.count)

  within_on : (h : ℕ) → On h → h < length twins
  within_on h (i, a, b, e) = subst (λ (k : ℕ). k < length twins) e (c.distinct.within i b)

  one_vertex : (i j : ℕ) → i < length trail → j < length trail → start faces (get_or trail i 0) ≡ start faces (get_or trail j 0)
  one_vertex i j l m =
      c.labelled.starts (get_or trail i 0) (get_or trail j 0) (c.distinct.within i l) (c.distinct.within j m) (c.distinct.class i j l m)

  first_on : On (get_or trail from 0)
  first_on = (from, omega arith, c.below, refl)

  -- the new label was that of none
  new_label : (h : ℕ) → h < length labels → get_or labels h 0 ≢ length labels + get_or trail from 0
  new_label h l e =
      let named = c.settled.named h l (omega (arith, e)) in
      let same : named.name ≡ get_or trail from 0 = omega (arith, e, named.label) in
      let own : get_or labels (get_or trail from 0) 0 ≡ length labels + named.name =
      ap (λ (k : ℕ). get_or labels k 0) (sym same) ∙ named.own in
      omega (arith, own, c.distinct.loose from c.below, c.labelled.count)

  -- what has one label now had one before
  finer : (g h : ℕ) → g < length labels → h < length labels → get_or new g 0 ≡ get_or new h 0 → get_or labels g 0 ≡ get_or labels h 0
  finer g h l m e = by (re.each g) (re.each h)
    where
      by : (On g × (get_or new g 0 ≡ length labels + get_or trail from 0)) ⊎ (Off g × (get_or new g 0 ≡ get_or labels g 0))
          → (On h × (get_or new h 0 ≡ length labels + get_or trail from 0)) ⊎ (Off h × (get_or new h 0 ≡ get_or labels h 0))
          → get_or labels g 0 ≡ get_or labels h 0
      by (inl ((i, a, b, p), q)) (inl ((j, s, t, u), v)) =
          ap (λ (k : ℕ). get_or labels k 0) (sym p) ∙ (c.distinct.class i j b t ∙ ap (λ (k : ℕ). get_or labels k 0) u)
      by (inl (on, q)) (inr (off, v)) = absurd (new_label h m (sym v ∙ (sym e ∙ q)))
      by (inr (off, q)) (inl (on, v)) = absurd (new_label g l (sym q ∙ (e ∙ v)))
      by (inr (off, q)) (inr (other, v)) = sym q ∙ (e ∙ v)

  pub stays : (h : ℕ) → Off h → get_or new h 0 ≡ get_or labels h 0
  stays h off =
      elim (re.each h) [
        | inl ((i, a, b, e), q) ↦ absurd (off i a b e)
        | inr (o, q) ↦ q
      ]

  gets : (h : ℕ) → On h → get_or new h 0 ≡ length labels + get_or trail from 0
  gets h (i, a, b, e) =
      elim (re.each h) [
        | inl (on, q) ↦ q
        | inr (off, q) ↦ absurd (off i a b e)
      ]

  -- the other end of a half edge at the vertex of the trail is not on it
  pub far_off : (h : ℕ) → h < length twins → start faces h ≡ start faces (get_or trail from 0) → Off (behind h)
  far_off h l s i a b e =
      away n faces each twins c.paired h l (ap (start faces) (sym e) ∙ (one_vertex i from b c.below ∙ sym s))

  start_on : (h : ℕ) → On h → start faces h ≡ start faces (get_or trail from 0)
  start_on h (i, a, b, e) = ap (start faces) (sym e) ∙ one_vertex i from b c.below

  -- the circle is closed: from each half edge on it the way leads to one on it
  goes_on : (h : ℕ) → On h → On (around twins h)
  goes_on h (i, a, b, e) =
      elim (cases_lt (i + 1) (length trail)) [
        | inl l ↦ (i + 1, omega arith, l, c.next i l (λ q. omega arith) ∙ ap (around twins) e)
        | inr l ↦ (from, omega arith, c.below, sym (c.closed i (omega arith)) ∙ ap (around twins) e)
      ]

  -- and from one off it to one off it
  goes_off : (h : ℕ) → h < length twins → Off h → Off (around twins h)
  goes_off h l off j a b e =
      elim (cases_lt from j) [
        | inl m ↦
            let s : j - 1 + 1 ≡ j = omega arith in
            let at : get_or trail j 0 ≡ around twins (get_or trail (j - 1) 0) =
            ap (λ (k : ℕ). get_or trail k 0) (sym s) ∙ c.next (j - 1) (omega arith) (λ q. omega arith) in
            off (j - 1) (omega arith) (omega arith)
            (around_once n faces each twins c.paired (get_or trail (j - 1) 0) h (c.distinct.within (j - 1) (omega arith)) l (sym at ∙ e))
        | inr m ↦
            let first : j ≡ from = omega arith in
            let last : ℕ = length trail - 1 in
            let below : from < length trail = c.below in
            off (length trail - 1) (omega arith) (omega arith)
            (around_once n faces each twins c.paired (get_or trail (length trail - 1) 0) h (c.distinct.within (length trail - 1) (omega arith)) l
            (c.closed (length trail - 1) (omega arith) ∙ (ap (λ (k : ℕ). get_or trail k 0) (sym first) ∙ e)))
      ]

  pub cut_labels : AreFanLabels faces twins new
  cut_labels =
      record {
        count = re.count ∙ c.labelled.count;
        around = λ h l. go h l (re.each h);
        starts = λ g h l m e.
            c.labelled.starts g h l m (finer g h (omega (arith, c.labelled.count)) (omega (arith, c.labelled.count)) e);
      }
    where
      go : (h : ℕ) → h < length twins
          → (On h × (get_or new h 0 ≡ length labels + get_or trail from 0)) ⊎ (Off h × (get_or new h 0 ≡ get_or labels h 0))
          → get_or new (around twins h) 0 ≡ get_or new h 0
      go h l (inl (on, q)) = gets (around twins h) (goes_on h on) ∙ sym q
      go h l (inr (off, q)) = stays (around twins h) (goes_off h l off) ∙ (c.labelled.around h l ∙ sym q)

  pub cut_settled : AreFinal new
  cut_settled =
      record {
        named = λ h l big. name h l big (re.each h);
        apart = λ g h l m big e far. by g h (omega (arith, re.count)) (omega (arith, re.count)) big e far (re.each g) (re.each h);
      }
    where
      name : (h : ℕ) → h < length new → length new ≤ get_or new h 0
          → (On h × (get_or new h 0 ≡ length labels + get_or trail from 0)) ⊎ (Off h × (get_or new h 0 ≡ get_or labels h 0))
          → HasName new h
      name h l big (inl (on, q)) =
          record {
            name = get_or trail from 0;
            within = omega (arith, re.count, c.labelled.count, c.distinct.within from c.below);
            label = omega (arith, re.count, q);
            own = omega (arith, re.count, gets (get_or trail from 0) first_on);
          }
      name h l big (inr (off, q)) =
          let was = c.settled.named h (omega (arith, re.count)) (omega (arith, re.count, q)) in
          record {
            name = was.name;
            within = omega (arith, re.count, was.within);
            label = omega (arith, re.count, q, was.label);
            own =
                omega (
                  arith,
                  re.count,
                  stays was.name (λ i a b e. (
                      let loose : get_or labels was.name 0 < length labels = loose_on was.name (i, a, b, e) in omega (arith, loose, was.own))),
                  was.own,
                );
          }

      by : (g h : ℕ) → g < length labels → h < length labels → length new ≤ get_or new g 0 → get_or new g 0 ≡ get_or new h 0
          → get_or new (behind g) 0 ≡ get_or new (behind h) 0
          → (On g × (get_or new g 0 ≡ length labels + get_or trail from 0)) ⊎ (Off g × (get_or new g 0 ≡ get_or labels g 0))
          → (On h × (get_or new h 0 ≡ length labels + get_or trail from 0)) ⊎ (Off h × (get_or new h 0 ≡ get_or labels h 0))
          → g ≡ h
      by g h l m big e far (inl ((i, a, b, p), q)) (inl ((j, s, t, u), v)) =
          let off_g = far_off g (within_on g (i, a, b, p)) (start_on g (i, a, b, p)) in
          let off_h = far_off h (within_on h (j, s, t, u)) (start_on h (j, s, t, u)) in
          let was : get_or labels (behind g) 0 ≡ get_or labels (behind h) 0 =
          sym (stays (behind g) off_g) ∙ (far ∙ stays (behind h) off_h) in
          let same : i ≡ j =
          one_index twins labels seen trail c.distinct i j b t
          (ap (λ (k : ℕ). get_or labels (behind k) 0) p ∙ (was ∙ ap (λ (k : ℕ). get_or labels (behind k) 0) (sym u))) in
          sym p ∙ (ap (λ (k : ℕ). get_or trail k 0) same ∙ u)
      by g h l m big e far (inl (on, q)) (inr (off, v)) = absurd (new_label h m (sym v ∙ (sym e ∙ q)))
      by g h l m big e far (inr (off, q)) (inl (on, v)) = absurd (new_label g l (sym q ∙ (e ∙ v)))
      by g h l m big e far (inr (off, q)) (inr (other, v)) =
          let count : length labels ≡ length twins = c.labelled.count in
          c.settled.apart g h l m (omega (arith, re.count, q)) (sym q ∙ (e ∙ v))
          (finer (behind g) (behind h)
          (omega (arith, behind_in n faces each twins c.paired g (omega (arith, count))))
          (omega (arith, behind_in n faces each twins c.paired h (omega (arith, count))))
          far)

  pub cut_stays : StaySettled labels new
  cut_stays h l big =
      elim (re.each h) [
        | inl (on, q) ↦ omega (arith, re.count, q)
        | inr (off, q) ↦ omega (arith, re.count, q)
      ]

  -- a half edge before the circle
  module _ (i : ℕ) (l : i < from) where
    below_end : i < length trail
    below_end = omega (arith, c.below)

    pub before_off : Off (get_or trail i 0)
    before_off j a b e =
        let same : j ≡ i =
        one_index twins labels seen trail c.distinct j i b below_end (ap (λ (k : ℕ). get_or labels (behind k) 0) e) in
        omega arith

    pub before_far : get_or new (behind (get_or trail i 0)) 0 ≡ get_or labels (behind (get_or trail i 0)) 0
    before_far =
        stays (behind (get_or trail i 0))
        (far_off (get_or trail i 0) (c.distinct.within i below_end) (one_vertex i from below_end c.below))

  pub cut_trail : (rest : List ℕ) → length rest ≡ from → ((i : ℕ) → i < from → get_or rest i 0 ≡ get_or trail i 0)
      → IsTrail twins new seen rest
  cut_trail rest count same =
      record {
        within = λ i l.
            subst (λ (h : ℕ). h < length twins) (sym (same i (omega arith))) (c.distinct.within i (omega (arith, c.below)));
        loose = λ i l.
            subst (λ (h : ℕ). get_or new h 0 < length twins) (sym (same i (omega arith)))
            (omega (arith, stays (get_or trail i 0) (before_off i (omega arith)), c.distinct.loose i (omega (arith, c.below))));
        class = λ i j l m.
            ap (λ (h : ℕ). get_or new h 0) (same i (omega arith))
            ∙ (stays (get_or trail i 0) (before_off i (omega arith))
            ∙ (c.distinct.class i j (omega (arith, c.below)) (omega (arith, c.below))
            ∙ (sym (stays (get_or trail j 0) (before_off j (omega arith)))
            ∙ ap (λ (h : ℕ). get_or new h 0) (sym (same j (omega arith))))));
        found = λ i l.
            ap (λ (h : ℕ). get_or seen (get_or new (behind h) 0) 0) (same i (omega arith))
            ∙ (ap (λ (k : ℕ). get_or seen k 0) (before_far i (omega arith)) ∙ c.distinct.found i (omega (arith, c.below)));
      }

  pub cut_path : (rest : List ℕ) → length rest ≡ from → ((i : ℕ) → i < from → get_or rest i 0 ≡ get_or trail i 0) → FollowsAround twins rest
  cut_path rest count same i l =
      same (i + 1) (omega arith)
      ∙ (c.next i (omega (arith, c.below)) (λ e. omega arith) ∙ ap (around twins) (sym (same i (omega arith))))

  -- what was on the trail is on it, or settled
  pub cut_on : (rest : List ℕ) → length rest ≡ from → ((i : ℕ) → i < from → get_or rest i 0 ≡ get_or trail i 0)
      → (h : ℕ) → IsOn trail 0 (length trail) h → (length new ≤ get_or new h 0) ⊎ IsOn rest 0 (length rest) h
  cut_on rest count same h (i, a, b, e) =
      elim (cases_lt i from) [
        | inl l ↦ inr (i, omega arith, omega arith, same i l ∙ e)
        | inr l ↦ inl (omega (arith, re.count, gets h (i, l, b, e)))
      ]

  pub cut_visited : (rest : List ℕ) → length rest ≡ from → ((i : ℕ) → i < from → get_or rest i 0 ≡ get_or trail i 0)
      → AreVisited new rest visited
  cut_visited rest count same =
      record {
        count = c.passed.count ∙ sym re.count;
        each = λ h l was_there.
            elim (c.passed.each h (omega (arith, re.count)) was_there) [
              | inl big ↦ inl (cut_stays h (omega (arith, re.count)) big)
              | inr on ↦ cut_on rest count same h on
            ];
      }

  pub cut_walk : (rest : List ℕ) → length rest ≡ from → ((i : ℕ) → i < from → get_or rest i 0 ≡ get_or trail i 0)
      → IsWalkState faces twins new seen rest visited
  cut_walk rest count same =
      record {
        paired = c.paired;
        labelled = cut_labels;
        settled = cut_settled;
        places = c.places;
        distinct = cut_trail rest count same;
        path = cut_path rest count same;
        passed = cut_visited rest count same;
        room = omega (arith, count, c.below, c.room);
      }

-- one more on the trail
module _ (n : ℕ) (faces : List (List ℕ)) (each : All (IsFace n) faces) (twins labels seen trail : List ℕ) (visited : List Bool)
    (w : IsWalkState faces twins labels seen trail visited) (x : ℕ) (next : MayFollow twins labels trail x) where
  not_visited : get_or visited x false ≡ true → ⊥
  not_visited was =
      elim (w.passed.each x (omega (arith, next.within, w.labelled.count)) was) [
        | inl big ↦ omega (arith, big, next.loose, w.labelled.count)
        | inr (i, a, b, e) ↦ next.fresh i b (ap (λ (h : ℕ). get_or labels (behind h) 0) e)
      ]

  is_unvisited : (b : Bool) → get_or visited x false ≡ b → get_or visited x false ≡ false
  is_unvisited true e = absurd (not_visited e)
  is_unvisited false e = e

  -- the label of the trail
  same_label : (i : ℕ) → i < length trail → get_or labels x 0 ≡ get_or labels (get_or trail i 0) 0
  same_label i l =
      let s : length trail - 1 + 1 ≡ length trail = omega arith in
      ap (λ (h : ℕ). get_or labels h 0) (next.path (length trail - 1) s)
      ∙ (w.labelled.around (get_or trail (length trail - 1) 0) (w.distinct.within (length trail - 1) (omega arith))
      ∙ w.distinct.class (length trail - 1) i (omega arith) l)

  far : ℕ
  far = get_or labels (behind x) 0

  abbrev more : List ℕ
  more = trail ++ x ∷ []

  abbrev places : List ℕ
  places = set seen (get_or labels (behind x) 0) (length trail)

  was : (i : ℕ) → i < length trail → get_or (trail ++ x ∷ []) i 0 ≡ get_or trail i 0
  was i l = get_or_append_left trail (x ∷ []) 0 i l

  last : (i : ℕ) → i ≡ length trail → get_or (trail ++ x ∷ []) i 0 ≡ x
  last i e = get_or_push trail x 0 i (sym e)

  longer : length (trail ++ x ∷ []) ≡ length trail + 1
  longer = length_push trail x

  -- a property of each that was on the trail and of the new one
  of_each : (P : ℕ → Type 0) → ((i : ℕ) → i < length trail → P (get_or trail i 0)) → P x
      → (i : ℕ) → i < length (trail ++ x ∷ []) → P (get_or (trail ++ x ∷ []) i 0)
  of_each P old new i l =
      elim (cases_lt i (length trail)) [
        | inl m ↦ subst P (sym (was i m)) (old i m)
        | inr m ↦ subst P (sym (last i (omega (arith, longer)))) new
      ]

  push_trail : get_or labels (behind x) 0 < length seen → IsTrail twins labels (set seen (get_or labels (behind x) 0) (length trail)) (trail ++ x ∷ [])
  push_trail place =
      record {
        within = of_each (λ h. h < length twins) w.distinct.within next.within;
        loose = of_each (λ h. get_or labels h 0 < length twins) w.distinct.loose next.loose;
        class = λ i j l m. label i l ∙ sym (label j m);
        found = λ i l.
            elim (cases_lt i (length trail)) [
              | inl m ↦
                  ap (λ (h : ℕ). get_or places (get_or labels (behind h) 0) 0) (was i m)
                  ∙ (get_or-set_other seen (get_or labels (behind x) 0) (get_or labels (behind (get_or trail i 0)) 0) (length trail) 0 (next.fresh i m)
                  ∙ w.distinct.found i m)
              | inr m ↦
                  let e : i ≡ length trail = omega (arith, longer) in
                  ap (λ (h : ℕ). get_or places (get_or labels (behind h) 0) 0) (last i e)
                  ∙ (get_or-set_same seen (get_or labels (behind x) 0) (length trail) 0 place ∙ sym e)
            ];
      }
    where
      label : (i : ℕ) → i < length (trail ++ x ∷ []) → get_or labels (get_or (trail ++ x ∷ []) i 0) 0 ≡ get_or labels x 0
      label = of_each (λ h. get_or labels h 0 ≡ get_or labels x 0) (λ i l. sym (same_label i l)) refl

  push_path : FollowsAround twins (trail ++ x ∷ [])
  push_path i l =
      elim (cases_lt (i + 1) (length trail)) [
        | inl m ↦ was (i + 1) m ∙ (w.path i m ∙ ap (around twins) (sym (was i (omega arith))))
        | inr m ↦
            let e : i + 1 ≡ length trail = omega (arith, longer) in
            last (i + 1) e ∙ (next.path i e ∙ ap (around twins) (sym (was i (omega arith))))
      ]

  pub push_on : (h : ℕ) → IsOn trail 0 (length trail) h → IsOn (trail ++ x ∷ []) 0 (length (trail ++ x ∷ [])) h
  push_on h (i, a, b, e) = (i, a, omega (arith, longer), was i b ∙ e)

  push_visited : AreVisited labels (trail ++ x ∷ []) (set visited x true)
  push_visited =
      record {
        count = omega (arith, length-set visited x true, w.passed.count);
        each = λ h l was_there.
            elim (cases_eq h x) [
              | inl e ↦ inr (length trail, omega arith, omega (arith, longer), last (length trail) refl ∙ sym e)
              | inr ne ↦
                  elim (w.passed.each h l (sym (get_or-set_other visited x h true false ne) ∙ was_there)) [
                    | inl big ↦ inl big
                    | inr on ↦ inr (push_on h on)
                  ]
            ];
      }

  pub push_less : unvisited (set visited x true) + 1 ≡ unvisited visited
  push_less =
      let none : get_or visited x false ≡ false = is_unvisited (get_or visited x false) refl in
      let change =
      sum_by-set (λ (v : Bool). one_if (cond v false true)) visited x true false
      (omega (arith, next.within, w.labelled.count, w.passed.count)) in
      omega (arith, change, ap (λ (v : Bool). one_if (cond v false true)) none)

  pub push_walk : get_or labels (behind x) 0 < length seen
      → IsWalkState faces twins labels (set seen (get_or labels (behind x) 0) (length trail)) (trail ++ x ∷ []) (set visited x true)
  push_walk place =
      record {
        paired = w.paired;
        labelled = w.labelled;
        settled = w.settled;
        places = omega (arith, length-set seen (get_or labels (behind x) 0) (length trail), w.places);
        distinct = push_trail place;
        path = push_path;
        passed = push_visited;
        room = omega (arith, longer, push_less, w.room);
      }

-- each label is below twice the number of half edges
pub label_below : (labels : List ℕ) → AreFinal labels → (h : ℕ) → h < length labels → get_or labels h 0 < length labels + length labels
label_below labels s h l =
    elim (cases_lt (get_or labels h 0) (length labels)) [
      | inl m ↦ omega arith
      | inr m ↦ let named = s.named h l m in omega (arith, named.label, named.within)
    ]

-- the next half edge is another one with the same labels at both ends as one on the trail
module _ (n : ℕ) (faces : List (List ℕ)) (each : All (IsFace n) faces) (twins labels seen trail : List ℕ) (visited : List Bool)
    (w : IsWalkState faces twins labels seen trail visited) (from : ℕ) (below : from < length trail) (x : ℕ)
    (next : (i : ℕ) → i + 1 ≡ length trail → x ≡ around twins (get_or trail i 0))
    (same : get_or labels (behind (get_or trail from 0)) 0 ≡ get_or labels (behind x) 0) where
  a : ℕ
  a = get_or trail from 0

  top_in : length trail - 1 < length trail
  top_in = omega arith

  top : x ≡ around twins (get_or trail (length trail - 1) 0)
  top = next (length trail - 1) (omega arith)

  a_in : get_or trail from 0 < length twins
  a_in = w.distinct.within from below

  pub x_in : x < length twins
  x_in =
      subst (λ (h : ℕ). h < length twins) (sym top)
      (around_within n faces each twins w.paired (get_or trail (length trail - 1) 0) (w.distinct.within (length trail - 1) top_in))

  x_label : get_or labels (get_or trail from 0) 0 ≡ get_or labels x 0
  x_label =
      w.distinct.class from (length trail - 1) below top_in
      ∙ (sym (w.labelled.around (get_or trail (length trail - 1) 0) (w.distinct.within (length trail - 1) top_in))
      ∙ ap (λ (h : ℕ). get_or labels h 0) (sym top))

  begin : start faces (get_or trail from 0) ≡ start faces x
  begin = w.labelled.starts (get_or trail from 0) x a_in x_in x_label

  end : start faces (behind (get_or trail from 0)) ≡ start faces (behind x)
  end =
      w.labelled.starts (behind (get_or trail from 0)) (behind x) (behind_in n faces each twins w.paired (get_or trail from 0) a_in)
      (behind_in n faces each twins w.paired x x_in) same

  pub not_twins : get_or twins (get_or trail from 0) 0 ≢ x
  not_twins e =
      away n faces each twins w.paired (get_or trail from 0) a_in
      (sym (w.paired.each (get_or trail from 0) a_in).edge ∙ (ap (start faces) e ∙ sym begin))

  at_a : (i : ℕ) → i < length trail → start faces (get_or trail i 0) ≡ start faces (get_or trail from 0)
  at_a i l =
      w.labelled.starts (get_or trail i 0) (get_or trail from 0) (w.distinct.within i l) a_in (w.distinct.class i from l below)

  -- a half edge on the trail with the other end of a is a
  is_a : (i : ℕ) → i < length trail → get_or labels (behind (get_or trail i 0)) 0 ≡ get_or labels (behind x) 0 → i ≡ from
  is_a i l e = one_index twins labels seen trail w.distinct i from l below (e ∙ sym same)

  -- it closes the circle itself
  pub closes : get_or trail from 0 ≡ x → IsClosing faces twins labels seen trail visited from
  closes e =
      record {
        paired = w.paired;
        labelled = w.labelled;
        settled = w.settled;
        places = w.places;
        distinct = w.distinct;
        passed = w.passed;
        room = w.room;
        below = below;
        next = λ i l ne. w.path i l;
        closed = λ i m. sym (next i m) ∙ sym e;
      }

  module _ (differ : get_or trail from 0 ≢ x) (new : List ℕ) (ex : IsExchanged (get_or trail from 0) x twins new) where
    x_off : (i : ℕ) → i < length trail → get_or trail i 0 ≢ x
    x_off i l e =
        differ (ap (λ (k : ℕ). get_or trail k 0) (sym (is_a i l (ap (λ (h : ℕ). get_or labels (behind h) 0) e))) ∙ e)

    pub closing : IsClosing faces new labels seen trail visited from
    closing =
        record {
          paired = still_paired n faces each twins new w.paired (get_or trail from 0) x a_in x_in ex begin end;
          labelled =
              still_labels n faces each twins new w.paired (get_or trail from 0) x a_in x_in ex begin end labels w.labelled x_label
              same;
          settled = w.settled;
          places = omega (arith, ex.count, w.places);
          distinct =
              record {
                within = λ i l. omega (arith, ex.count, w.distinct.within i l);
                loose = λ i l. omega (arith, ex.count, w.distinct.loose i l);
                class = w.distinct.class;
                found = w.distinct.found;
              };
          passed = w.passed;
          room = omega (arith, ex.count, w.room);
          below = below;
          next = goes_on;
          closed = λ i e.
              around_to_a n faces each twins new w.paired (get_or trail from 0) x a_in x_in ex begin end (get_or trail i 0)
              (w.distinct.within i (omega arith)) (sym (next i e));
        }
      where
        goes_on : (i : ℕ) → i + 1 < length trail → i + 1 ≢ from → get_or trail (i + 1) 0 ≡ around new (get_or trail i 0)
        goes_on i l ne =
            w.path i l
            ∙ sym (around_same n faces each twins new w.paired (get_or trail from 0) x a_in x_in ex begin end (get_or trail i 0)
            (w.distinct.within i (omega arith)) (at_a i (omega arith))
            (λ e. ne (one_index twins labels seen trail w.distinct (i + 1) from l below
            (ap (λ (h : ℕ). get_or labels (behind h) 0) (w.path i l ∙ e))))
            (λ e. x_off (i + 1) l (w.path i l ∙ e)))

    pub next_after : (labels' : List ℕ)
        → IsRelabelled from (length trail) trail (length labels + get_or trail from 0) labels labels' → (rest : List ℕ)
        → length rest ≡ from → ((i : ℕ) → i < from → get_or rest i 0 ≡ get_or trail i 0) → MayFollow new labels' rest x
    next_after labels' re rest count was =
        record {
          within = omega (arith, ex.count, x_in);
          loose =
              omega (
                arith,
                ex.count,
                stays n faces each new labels seen trail visited from closing labels' re x (λ i b m e. x_off i m e),
                x_label,
                w.distinct.loose from below,
              );
          path = λ i e.
              sym (around_to_b n faces each twins new w.paired (get_or trail from 0) x a_in x_in ex begin end (get_or trail i 0)
              (w.distinct.within i (omega arith)) (sym (w.path i (omega arith)) ∙ ap (λ (k : ℕ). get_or trail k 0) (e ∙ count)))
              ∙ ap (around new) (sym (was i (omega arith)));
          fresh = λ i l e. other i (omega arith) e;
        }
      where
        other : (i : ℕ) → i < from → get_or labels' (behind (get_or rest i 0)) 0 ≡ get_or labels' (behind x) 0 → ⊥
        other i l e =
            let here : get_or labels' (behind (get_or trail i 0)) 0 ≡ get_or labels (behind (get_or trail i 0)) 0 =
            before_far n faces each new labels seen trail visited from closing labels' re i l in
            let there : get_or labels' (behind x) 0 ≡ get_or labels (behind x) 0 =
            stays n faces each new labels seen trail visited from closing labels' re (behind x)
            (far_off n faces each new labels seen trail visited from closing labels' re x (omega (arith, ex.count, x_in)) (sym begin)) in
            let is : i ≡ from =
            is_a i (omega arith)
            (sym here ∙ (ap (λ (h : ℕ). get_or labels' (behind h) 0) (sym (was i l)) ∙ (e ∙ there))) in
            omega arith

-- a label that is settled stays so
pub stay_any : (old new : List ℕ) → length new ≡ length old → StaySettled old new → (h : ℕ) → length old ≤ get_or old h 0
    → length new ≤ get_or new h 0
stay_any old new count stay h big =
    elim (cases_lt h (length old)) [
      | inl l ↦ stay h l big
      | inr l ↦ omega (arith, get_or_past old h 0 l)
    ]

-- two steps
pub steps_on : (faces : List (List ℕ)) (t0 l0 : List ℕ) (v0 : List Bool) (w1 l1 s1 t1 : List ℕ) (v1 : List Bool) (w2 l2 s2 t2 : List ℕ)
    (v2 : List Bool) → IsWalkStep faces t0 l0 v0 w1 l1 s1 t1 v1 → IsWalkStep faces t1 l1 v1 w2 l2 s2 t2 v2
    → IsWalkStep faces t0 l0 v0 w2 l2 s2 t2 v2
steps_on faces t0 l0 v0 w1 l1 s1 t1 v1 w2 l2 s2 t2 v2 one two =
    record {
      walk = two.walk;
      count = omega (arith, one.count, two.count);
      stay = λ h l big. stay_any l1 l2 two.count two.stay h (one.stay h l big);
      kept = λ h on.
          elim (one.kept h on) [ inl big ↦ inl (stay_any l1 l2 two.count two.stay h big) | inr still ↦ two.kept h still ];
      less = omega (arith, one.less, two.less);
    }

pub pushed_step : (faces : List (List ℕ)) (trail labels : List ℕ) (visited : List Bool) (x : ℕ) (twins' labels' seen' trail' : List ℕ)
    (visited' : List Bool) → IsWalkState faces twins' labels' seen' trail' visited' → labels' ≡ labels → trail' ≡ trail ++ x ∷ []
    → unvisited visited' + 1 ≡ unvisited visited → IsWalkStep faces trail labels visited twins' labels' seen' trail' visited'
pushed_step faces trail labels visited x twins' labels' seen' trail' visited' walk same more less =
    record {
      walk = walk;
      count = ap length same;
      stay = λ h l big. subst (λ (ls : List ℕ). length ls ≤ get_or ls h 0) (sym same) big;
      kept = λ h on.
          inr (subst (λ (t : List ℕ). IsOn t 0 (length t) h) (sym more)
          (longer h on));
      less = omega (arith, less, ap length more, length_push trail x);
    }
  where
    longer : (h : ℕ) → IsOn trail 0 (length trail) h → IsOn (trail ++ x ∷ []) 0 (length (trail ++ x ∷ [])) h
    longer h (i, a, b, e) = (i, a, omega (arith, length_push trail x), get_or_append_left trail (x ∷ []) 0 i b ∙ e)

pub cut_step : (faces : List (List ℕ)) (trail labels : List ℕ) (visited : List Bool) (from : ℕ) (twins' labels' seen' trail' : List ℕ)
    (visited' : List Bool) → from < length trail → IsWalkState faces twins' labels' seen' trail' visited' → length labels' ≡ length labels
    → StaySettled labels labels'
    → ((h : ℕ) → IsOn trail 0 (length trail) h → (length labels' ≤ get_or labels' h 0) ⊎ IsOn trail' 0 (length trail') h)
    → trail' ≡ take from trail → visited' ≡ visited → IsWalkStep faces trail labels visited twins' labels' seen' trail' visited'
cut_step faces trail labels visited from twins' labels' seen' trail' visited' below walk count stay kept less same =
    record {
      walk = walk;
      count = count;
      stay = stay;
      kept = kept;
      less = omega (arith, ap length less, length-take-le from trail (omega arith), ap unvisited same);
    }
