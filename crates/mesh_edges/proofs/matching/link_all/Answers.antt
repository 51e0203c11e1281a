-- The two halves of a pair are written at two places, and no pair before has one of them.
use Rattle.std.proofs.Common.{ℕ, ◌≡◌, ◌≢◌, ◌+◌, ◌*◌, ◌<◌, ◌≤◌, ◌∙◌, below_more, inl, inr, List, length, get_or, set, get_or-set_same, get_or-set_other, refl, sym, subst, ap, arith}
use Rattle.std.proofs.Math.ListN.{length-set}
use Rattle.std.proofs.lemmas.Bool.{cases_lt, false≢true}
use Rattle.mesh_edges.specs.HalfEdges.{start, behind}
use Rattle.mesh_edges.specs.Matching.{half_number, ranked_in, rises, falls, AreHalves}
use Rattle.mesh_edges.specs.declared.matching.Ranked.{Ranked}
use Rattle.mesh_edges.proofs.Sides.{half_at, at_most_once, one_place, rises_no, falls_no}
use Rattle.mesh_edges.proofs.matching.link_all.Goals as goal

module _ (faces : List (List ℕ)) (n : ℕ) (there back : List Ranked) (up : AreHalves faces (rises faces) n there)
    (down : AreHalves faces (falls faces) n back) (twins : List ℕ) (count : length twins ≡ n) (i : ℕ) (l : i < length there)
    (m : i < length back) where
  a : ℕ → ℕ
  a j = half_number (ranked_in there j)

  b : ℕ → ℕ
  b j = half_number (ranked_in back j)

  -- no half edge is on both sides
  apart : (j k : ℕ) → j < length there → k < length back → half_number (ranked_in there j) ≢ half_number (ranked_in back k)
  apart j k p q e =
      let one = (half_at faces (rises faces) n there up j p).here in
      let other = (half_at faces (falls faces) n back down k q).here in
      let h : ℕ = half_number (ranked_in there j) in
      elim (cases_lt (start faces (half_number (ranked_in there j))) (start faces (behind (half_number (ranked_in there j))))) [
        | inl r ↦ false≢true (sym (falls_no faces (half_number (ranked_in there j)) r) ∙ (ap (falls faces) e ∙ other))
        | inr r ↦ false≢true (sym (rises_no faces (half_number (ranked_in there j)) r) ∙ one)
      ]

  ab : half_number (ranked_in there i) ≢ half_number (ranked_in back i)
  ab = apart i i l m

  one_there : (j : ℕ) → j < i → half_number (ranked_in there j) ≢ half_number (ranked_in there i)
  one_there j less e =
      let same : j ≡ i =
      one_place half_number (half_number (ranked_in there i)) there
      (at_most_once faces (rises faces) n there up (half_number (ranked_in there i))) j i (omega arith) l e refl in
      omega arith

  one_back : (j : ℕ) → j < i → half_number (ranked_in back j) ≢ half_number (ranked_in back i)
  one_back j less e =
      let same : j ≡ i =
      one_place half_number (half_number (ranked_in back i)) back
      (at_most_once faces (falls faces) n back down (half_number (ranked_in back i))) j i (omega arith) m e refl in
      omega arith

  abbrev mid : List ℕ
  mid = set twins (half_number (ranked_in there i)) (half_number (ranked_in back i))

  abbrev new : List ℕ
  new = set mid (half_number (ranked_in back i)) (half_number (ranked_in there i))

  new_count : length new ≡ n
  new_count =
      omega (
        arith,
        length-set mid (half_number (ranked_in back i)) (half_number (ranked_in there i)),
        length-set twins (half_number (ranked_in there i)) (half_number (ranked_in back i)),
        count,
      )

  elsewhere : (h : ℕ) → h ≢ half_number (ranked_in there i) → h ≢ half_number (ranked_in back i) → get_or new h 0 ≡ get_or twins h 0
  elsewhere h na nb =
      get_or-set_other mid (half_number (ranked_in back i)) h (half_number (ranked_in there i)) 0 nb
      ∙ get_or-set_other twins (half_number (ranked_in there i)) h (half_number (ranked_in back i)) 0 na

  linked : ((j : ℕ) → j < i
      → (get_or twins (half_number (ranked_in there j)) 0 ≡ half_number (ranked_in back j))
      × (get_or twins (half_number (ranked_in back j)) 0 ≡ half_number (ranked_in there j)))
      → (j : ℕ) → j < i + 1
      → (get_or new (half_number (ranked_in there j)) 0 ≡ half_number (ranked_in back j))
      × (get_or new (half_number (ranked_in back j)) 0 ≡ half_number (ranked_in there j))
  linked was =
      below_more
      (λ j. (get_or new (half_number (ranked_in there j)) 0 ≡ half_number (ranked_in back j))
      × (get_or new (half_number (ranked_in back j)) 0 ≡ half_number (ranked_in there j)))
      i
      (λ j less.
      let w = was j less in (
        elsewhere (half_number (ranked_in there j)) (one_there j less) (apart j i (omega arith) m) ∙ w.0,
        elsewhere (half_number (ranked_in back j)) (λ e. apart i j l (omega arith) (sym e)) (one_back j less) ∙ w.1,
      )) (
        get_or-set_other mid (half_number (ranked_in back i)) (half_number (ranked_in there i)) (half_number (ranked_in there i)) 0 ab
            ∙ get_or-set_same twins (half_number (ranked_in there i)) (half_number (ranked_in back i)) 0
            (omega (arith, (half_at faces (rises faces) n there up i l).within, count)),
        get_or-set_same mid (half_number (ranked_in back i)) (half_number (ranked_in there i)) 0
            (omega (
              arith,
              (half_at faces (falls faces) n back down i m).within,
              count,
              length-set twins (half_number (ranked_in there i)) (half_number (ranked_in back i)),
            )),
      )

pub loop-i-preserved : goal.loop-i-preserved
loop-i-preserved c =
    let faces = c.args.faces.now in
    let n : ℕ = 3 * length c.args.faces.now in
    let was = c.loop-i.invariant in
    let l : c.loop-i.i < length c.args.there.now = omega (arith, c.loop-i-test.true, c.min-i-end.ensures) in
    let m : c.loop-i.i < length c.args.back.now = omega (arith, c.loop-i-test.true, c.min-i-end.ensures) in
    record {
      count = new_count faces n c.args.there.now c.args.back.now c.requires.there c.requires.back c.loop-i.twins.items was.count c.loop-i.i l m;
      linked = linked faces n c.args.there.now c.args.back.now c.requires.there c.requires.back c.loop-i.twins.items was.count c.loop-i.i l m was.linked;
    }
