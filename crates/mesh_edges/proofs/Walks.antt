-- A walk keeps labels and twins, and divides umbrellas.
--
-- Two half edges with the same labels at both ends exchange their twins. Then a label still tells one vertex, and half edges that follow
-- each other around a vertex still have one label. The half edge before the one on the trail is followed by the new one, and the last of
-- the trail by the one on it: the trail is a circle from there on. Its half edges have distinct labels at the other end, so they get a
-- label of their own. A half edge off the circle follows none on it, so labels still go around.
use Rattle.std.proofs.Common.{ℕ, zero, suc, ◌≡◌, ◌≢◌, ◌+◌, ◌-◌, ◌*◌, ◌/◌, ◌%◌, ◌<◌, ◌≤◌, ◌==◌, ◌⊎◌, ◌++◌, inl, inr, refl, ap, sym, ◌∙◌, subst, arith}
use Rattle.std.proofs.Common.{Bool, true, false, List, [], ◌∷◌, length, get_or, take, set, get_or-set_same, get_or-set_other}
use Rattle.std.specs.List.{All, count_by}
use Rattle.std.proofs.Math.ListN.{length-set}
use Rattle.std.proofs.lemmas.Bool.{cases_lt, cases_eq}
use Rattle.std.proofs.lemmas.List.{get_or_push, get_or_append_left, length_push}
use Rattle.mesh.specs.Meshes.{IsFace}
use Rattle.mesh_edges.specs.HalfEdges.{start, behind, ahead, around, IsTwin, ArePaired}
use Rattle.mesh_edges.specs.Umbrellas.{AreFanLabels}
use Rattle.mesh_edges.specs.Walks.{IsExchanged, IsOn, IsOff, IsRelabelled, HasName, AreFinal, IsTrail, FollowsAround, AreVisited, IsWalkState, IsClosing, StaySettled}
use Rattle.mesh_edges.proofs.Corners.{behind_ahead, ahead_behind, around_within, ahead_in, behind_in, around_start, around_once, away}

-- a list by index
abbrev at : List ℕ → ℕ → ℕ
at xs i = get_or xs i 0

pub exchanged : (faces : List (List ℕ)) (old : List ℕ) (a b : ℕ) → ArePaired faces old → a < length old → b < length old → a ≢ b
    → get_or old a 0 ≢ b
    → IsExchanged a b old
    (set (set (set (set old a (get_or old b 0)) b (get_or old a 0)) (get_or old a 0) b) (get_or old b 0) a)
exchanged faces old a b paired la lb ne apart =
    record {
      count = omega (arith, length-set three y a, length-set two x b, length-set one b x, length-set old a y);
      first =
          get_or-set_other three y a a 0 ay
          ∙ (get_or-set_other two x a b 0 ax ∙ (get_or-set_other one b a x 0 ne ∙ get_or-set_same old a y 0 la));
      second =
          get_or-set_other three y b a 0 by_
          ∙ (get_or-set_other two x b b 0 bx ∙ get_or-set_same one b x 0 (omega (arith, length-set old a y, lb)));
      here =
          get_or-set_other three y x a 0 xy
          ∙ get_or-set_same two x b 0 (omega (arith, length-set one b x, length-set old a y, twin_a.within));
      there =
          get_or-set_same three y a 0
          (omega (arith, length-set two x b, length-set one b x, length-set old a y, twin_b.within));
      same = λ h ha hb hx hy.
          get_or-set_other three y h a 0 hy
          ∙ (get_or-set_other two x h b 0 hx ∙ (get_or-set_other one b h x 0 hb ∙ get_or-set_other old a h y 0 ha));
    }
  where
    x : ℕ
    x = get_or old a 0

    y : ℕ
    y = get_or old b 0

    one : List ℕ
    one = set old a (get_or old b 0)

    two : List ℕ
    two = set (set old a (get_or old b 0)) b (get_or old a 0)

    three : List ℕ
    three = set (set (set old a (get_or old b 0)) b (get_or old a 0)) (get_or old a 0) b

    twin_a : IsTwin faces old a
    twin_a = paired.each a la

    twin_b : IsTwin faces old b
    twin_b = paired.each b lb

    ax : a ≢ get_or old a 0
    ax e = twin_a.other (sym e)

    bx : b ≢ get_or old a 0
    bx e = apart (sym e)

    ay : a ≢ get_or old b 0
    ay e = apart (ap (λ (k : ℕ). get_or old k 0) e ∙ twin_b.back)

    by_ : b ≢ get_or old b 0
    by_ e = twin_b.other (sym e)

    xy : get_or old a 0 ≢ get_or old b 0
    xy e = ne (sym twin_a.back ∙ (ap (λ (k : ℕ). get_or old k 0) e ∙ twin_b.back))

-- the exchange is the same the other way round
pub turned : (a b : ℕ) (old new : List ℕ) → IsExchanged a b old new → IsExchanged b a old new
turned a b old new e =
    record {
      count = e.count;
      first = e.second;
      second = e.first;
      here = e.there;
      there = e.here;
      same = λ h hb ha hy hx. e.same h ha hb hx hy;
    }

-- one of the four, or none of them
abbrev Which : (a b x y h : ℕ) → Type 0
Which a b x y h = (h ≡ a) ⊎ ((h ≡ b) ⊎ ((h ≡ x) ⊎ ((h ≡ y) ⊎ ((h ≢ a) × (h ≢ b) × (h ≢ x) × (h ≢ y)))))

which : (a b x y h : ℕ) → Which a b x y h
which a b x y h =
    elim (cases_eq h a) [
      | inl e ↦ inl e
      | inr na ↦
          elim (cases_eq h b) [
            | inl e ↦ inr (inl e)
            | inr nb ↦
                elim (cases_eq h x) [
                  | inl e ↦ inr (inr (inl e))
                  | inr nx ↦
                      elim (cases_eq h y) [ inl e ↦ inr (inr (inr (inl e))) | inr ny ↦ inr (inr (inr (inr (na, nb, nx, ny)))) ]
                ]
          ]
    ]

module _ (n : ℕ) (faces : List (List ℕ)) (each : All (IsFace n) faces) (old new : List ℕ) (paired : ArePaired faces old) (a b : ℕ)
    (la : a < length old) (lb : b < length old) (ex : IsExchanged a b old new) (begin : start faces a ≡ start faces b)
    (end : start faces (behind a) ≡ start faces (behind b)) where
  here : ℕ
  here = get_or old a 0

  twin_a : IsTwin faces old a
  twin_a = paired.each a la

  twin_b : IsTwin faces old b
  twin_b = paired.each b lb

  in_new : (h : ℕ) → h < length old → h < length new
  in_new h l = omega (arith, ex.count, l)

  -- the twins of a and b begin at the other vertex
  begin_here : start faces (get_or old a 0) ≢ start faces a
  begin_here e = away n faces each old paired a la (sym twin_a.edge ∙ e)

  begin_there : start faces (get_or old b 0) ≢ start faces b
  begin_there e = away n faces each old paired b lb (sym twin_b.edge ∙ e)

  twin_of_a : IsTwin faces new a
  twin_of_a =
      record {
        within = subst (λ (t : ℕ). t < length new) (sym ex.first) (in_new (get_or old b 0) twin_b.within);
        other = λ e. begin_there (ap (start faces) (sym ex.first ∙ e) ∙ begin);
        back = ap (λ (t : ℕ). get_or new t 0) ex.first ∙ ex.there;
        edge = ap (start faces) ex.first ∙ (twin_b.edge ∙ sym end);
      }

  twin_of_b : IsTwin faces new b
  twin_of_b =
      record {
        within = subst (λ (t : ℕ). t < length new) (sym ex.second) (in_new (get_or old a 0) twin_a.within);
        other = λ e. begin_here (ap (start faces) (sym ex.second ∙ e) ∙ sym begin);
        back = ap (λ (t : ℕ). get_or new t 0) ex.second ∙ ex.here;
        edge = ap (start faces) ex.second ∙ (twin_a.edge ∙ end);
      }

  twin_of_here : IsTwin faces new (get_or old a 0)
  twin_of_here =
      let back_a = paired.each (get_or old a 0) twin_a.within in
      record {
        within = subst (λ (t : ℕ). t < length new) (sym ex.here) (in_new b lb);
        other = λ e. begin_here (sym (ap (start faces) (sym ex.here ∙ e)) ∙ sym begin);
        back = ap (λ (t : ℕ). get_or new t 0) ex.here ∙ ex.second;
        edge = ap (start faces) ex.here ∙ (sym begin ∙ (ap (start faces) (sym twin_a.back) ∙ back_a.edge));
      }

  twin_of_there : IsTwin faces new (get_or old b 0)
  twin_of_there =
      let back_b = paired.each (get_or old b 0) twin_b.within in
      record {
        within = subst (λ (t : ℕ). t < length new) (sym ex.there) (in_new a la);
        other = λ e. begin_there (sym (ap (start faces) (sym ex.there ∙ e)) ∙ begin);
        back = ap (λ (t : ℕ). get_or new t 0) ex.there ∙ ex.first;
        edge = ap (start faces) ex.there ∙ (begin ∙ (ap (start faces) (sym twin_b.back) ∙ back_b.edge));
      }

  -- any other keeps its twin
  twin_of_other : (h : ℕ) → h < length old → h ≢ a → h ≢ b → h ≢ get_or old a 0 → h ≢ get_or old b 0 → IsTwin faces new h
  twin_of_other h l ha hb hx hy =
      let was = paired.each h l in
      let same : get_or new h 0 ≡ get_or old h 0 = ex.same h ha hb hx hy in
      record {
        within = subst (λ (t : ℕ). t < length new) (sym same) (in_new (get_or old h 0) was.within);
        other = λ e. was.other (sym same ∙ e);
        back =
            ap (λ (t : ℕ). get_or new t 0) same
            ∙ (ex.same (get_or old h 0) (λ e. hx (sym was.back ∙ ap (λ (t : ℕ). get_or old t 0) e))
            (λ e. hy (sym was.back ∙ ap (λ (t : ℕ). get_or old t 0) e))
            (λ e. ha (sym was.back ∙ (ap (λ (t : ℕ). get_or old t 0) e ∙ twin_a.back)))
            (λ e. hb (sym was.back ∙ (ap (λ (t : ℕ). get_or old t 0) e ∙ twin_b.back)))
            ∙ was.back);
        edge = ap (start faces) same ∙ was.edge;
      }

  pub still_paired : ArePaired faces new
  still_paired =
      record {
        count = omega (arith, ex.count, paired.count);
        each = λ h l.
            elim (which a b (get_or old a 0) (get_or old b 0) h) [
              | inl e ↦ subst (IsTwin faces new) (sym e) twin_of_a
              | inr (inl e) ↦ subst (IsTwin faces new) (sym e) twin_of_b
              | inr (inr (inl e)) ↦ subst (IsTwin faces new) (sym e) twin_of_here
              | inr (inr (inr (inl e))) ↦ subst (IsTwin faces new) (sym e) twin_of_there
              | inr (inr (inr (inr f))) ↦ twin_of_other h (omega (arith, ex.count, l)) f.0 f.1 f.2 f.3
            ];
      }

  -- where a half edge is followed by neither of the two, and begins at their vertex, nothing changes
  pub around_same : (h : ℕ) → h < length old → start faces h ≡ start faces a → around old h ≢ a → around old h ≢ b
      → around new h ≡ around old h
  around_same h l at_a na nb =
      ex.same (ahead h)
      (λ e. away n faces each old paired a la (ap (start faces) (ap behind (sym e) ∙ behind_ahead h) ∙ at_a))
      (λ e. away n faces each old paired b lb (ap (start faces) (ap behind (sym e) ∙ behind_ahead h) ∙ (at_a ∙ begin)))
      (λ e. na (ap (λ (t : ℕ). get_or old t 0) e ∙ twin_a.back))
      (λ e. nb (ap (λ (t : ℕ). get_or old t 0) e ∙ twin_b.back))

  -- what was followed by b is followed by a, and the other way round
  pub around_to_a : (h : ℕ) → h < length old → around old h ≡ b → around new h ≡ a
  around_to_a h l e =
      let t : ahead h ≡ get_or old b 0 =
      sym (paired.each (ahead h) (ahead_in n faces each old paired h l)).back ∙ ap (λ (k : ℕ). get_or old k 0) e in
      ap (λ (k : ℕ). get_or new k 0) t ∙ ex.there

  pub around_to_b : (h : ℕ) → h < length old → around old h ≡ a → around new h ≡ b
  around_to_b h l e =
      let t : ahead h ≡ get_or old a 0 =
      sym (paired.each (ahead h) (ahead_in n faces each old paired h l)).back ∙ ap (λ (k : ℕ). get_or old k 0) e in
      ap (λ (k : ℕ). get_or new k 0) t ∙ ex.here

  module _ (labels : List ℕ) (lab : AreFanLabels faces old labels) (one : get_or labels a 0 ≡ get_or labels b 0)
      (far : get_or labels (behind a) 0 ≡ get_or labels (behind b) 0) where
    -- the label of the half edge behind a goes with the twin of a
    label_here : get_or labels (get_or old a 0) 0 ≡ get_or labels (behind a) 0
    label_here =
        ap (λ (k : ℕ). get_or labels (get_or old k 0) 0) (sym (ahead_behind a))
        ∙ lab.around (behind a) (behind_in n faces each old paired a la)

    label_there : get_or labels (get_or old b 0) 0 ≡ get_or labels (behind b) 0
    label_there =
        ap (λ (k : ℕ). get_or labels (get_or old k 0) 0) (sym (ahead_behind b))
        ∙ lab.around (behind b) (behind_in n faces each old paired b lb)

    at_ahead : (h g : ℕ) → ahead h ≡ g → behind g ≡ h
    at_ahead h g e = ap behind (sym e) ∙ behind_ahead h

    goes_around : (h : ℕ) → h < length old → get_or labels (around new h) 0 ≡ get_or labels h 0
    goes_around h l =
        elim (which a b (get_or old a 0) (get_or old b 0) (ahead h)) [
          | inl e ↦
              ap (λ (k : ℕ). get_or labels k 0) (ap (λ (k : ℕ). get_or new k 0) e ∙ ex.first)
              ∙ (label_there ∙ (sym far ∙ ap (λ (k : ℕ). get_or labels k 0) (at_ahead h a e)))
          | inr (inl e) ↦
              ap (λ (k : ℕ). get_or labels k 0) (ap (λ (k : ℕ). get_or new k 0) e ∙ ex.second)
              ∙ (label_here ∙ (far ∙ ap (λ (k : ℕ). get_or labels k 0) (at_ahead h b e)))
          | inr (inr (inl e)) ↦
              ap (λ (k : ℕ). get_or labels k 0) (ap (λ (k : ℕ). get_or new k 0) e ∙ ex.here)
              ∙ (sym one
              ∙ (ap (λ (k : ℕ). get_or labels k 0) (sym (ap (λ (k : ℕ). get_or old k 0) e ∙ twin_a.back)) ∙ lab.around h l))
          | inr (inr (inr (inl e))) ↦
              ap (λ (k : ℕ). get_or labels k 0) (ap (λ (k : ℕ). get_or new k 0) e ∙ ex.there)
              ∙ (one
              ∙ (ap (λ (k : ℕ). get_or labels k 0) (sym (ap (λ (k : ℕ). get_or old k 0) e ∙ twin_b.back)) ∙ lab.around h l))
          | inr (inr (inr (inr f))) ↦
              ap (λ (k : ℕ). get_or labels k 0) (ex.same (ahead h) f.0 f.1 f.2 f.3) ∙ lab.around h l
        ]

    pub still_labels : AreFanLabels faces new labels
    still_labels =
        record {
          count = omega (arith, lab.count, ex.count);
          around = λ h l. goes_around h (omega (arith, ex.count, l));
          starts = λ g h l m e. lab.starts g h (omega (arith, ex.count, l)) (omega (arith, ex.count, m)) e;
        }
