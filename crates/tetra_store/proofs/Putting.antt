-- Steps of putting cells in and of naming them.
use Rattle.std.proofs.Common.{ℕ, zero, suc, ◌≡◌, ◌≢◌, ◌<◌, ◌+◌, ◌^◌, List, [], ◌∷◌, ◌++◌, length, get_or, Option, Some, None}
use Rattle.std.proofs.Common.{sym, ap, ◌∙◌, ◌⊎◌, inl, inr, subst, arith, slice_index}
use Rattle.std.specs.List.{Contains}
use Rattle.std.proofs.lemmas.Bool.{cases_eq, cases_lt}
use Rattle.std.proofs.lemmas.List.{get_or_append_left, get_or_at, get_or_default, length_push}
use Rattle.std.proofs.lemmas.List.Elements.{Contains-append_left, Contains-push}
use Rattle.geo_sign.specs.Tetrahedron.{Tetrahedron, facet_of, IsRotated, IsTurned}
use Rattle.geo_sign.proofs.Rotations.{turned_back, turned_turned}
use Rattle.tetra_store.specs.declared.link.Cell.{Cell}
use Rattle.tetra_store.specs.declared.fan.Facet.{Facet}
use Rattle.tetra_store.specs.Links.{Links, slot_at}
use Rattle.tetra_store.specs.Fan.{fan_facet, fan_outer, no_facet}
use Rattle.tetra_store.specs.Steps.{ArePut, IsNamed, IsRenamed, AreNamed, IsNaming}

-- a number of a longer list
pub pushed_cases : (ids : List ℕ) (key i : ℕ) → i < length (ids ++ key ∷ [])
    → ((i < length ids) × (slice_index (ids ++ key ∷ []) i ≡ slice_index ids i))
    ⊎ ((i ≡ length ids) × (slice_index (ids ++ key ∷ []) i ≡ key))
pushed_cases ids key i l =
    let n = length_push ids key in
    elim (cases_lt i (length ids)) [
      | inl less ↦ inl (less, get_or_append_left ids (key ∷ []) 0 i less)
      | inr more ↦
          let e : length ids ≡ i = omega arith in
          inr (sym e, get_or_at ids key [] 0 i e)
    ]

put_apart : (old mid : List (Option Cell)) (cell : ℕ → Cell) (ids : List ℕ) (key i : ℕ) → ArePut old mid cell ids
    → slot_at mid key ≡ None → i < length ids → slice_index ids i ≢ key
put_apart old mid cell ids key i put vacant l e = grind arith

pub ArePut_put : (old mid new : List (Option Cell)) (cell : ℕ → Cell) (ids : List ℕ) (key : ℕ) → ArePut old mid cell ids
    → slot_at mid key ≡ None → slot_at new key ≡ Some (cell (length ids))
    → ((x : ℕ) → x ≢ key → slot_at new x ≡ slot_at mid x) → key + 1 < 2 ^ 32 → ArePut old new cell (ids ++ key ∷ [])
ArePut_put old mid new cell ids key put vacant here others small = record {
  small = λ i l. elim (pushed_cases ids key i l) [
    | inl h ↦ subst (λ (x : ℕ). x + 1 < 2 ^ 32) (sym h.1) (put.small i h.0)
    | inr h ↦ subst (λ (x : ℕ). x + 1 < 2 ^ 32) (sym h.1) small
  ];
  fresh = λ i l. elim (pushed_cases ids key i l) [
    | inl h ↦ subst (λ (x : ℕ). slot_at old x ≡ None) (sym h.1) (put.fresh i h.0)
    | inr h ↦ subst (λ (x : ℕ). slot_at old x ≡ None) (sym h.1) (was_vacant (put.kept key))
  ];
  put = λ i l. elim (pushed_cases ids key i l) [
    | inl h ↦
        subst (λ (x : ℕ). slot_at new x ≡ Some (cell i)) (sym h.1)
        (others (slice_index ids i) (put_apart old mid cell ids key i put vacant h.0) ∙ put.put i h.0)
    | inr h ↦
        subst (λ (x : ℕ). slot_at new x ≡ Some (cell i)) (sym h.1)
        (subst (λ (n : ℕ). slot_at new key ≡ Some (cell n)) (sym h.0) here)
  ];
  distinct = λ i j l m e. elim (pushed_cases ids key i l) [
    | inl h ↦ elim (pushed_cases ids key j m) [
      | inl k ↦ put.distinct i j h.0 k.0 (sym h.1 ∙ (e ∙ k.1))
      | inr k ↦ absurd (put_apart old mid cell ids key i put vacant h.0 (sym h.1 ∙ (e ∙ k.1)))
    ]
    | inr h ↦ elim (pushed_cases ids key j m) [
      | inl k ↦ absurd (put_apart old mid cell ids key j put vacant k.0 (sym k.1 ∙ (sym e ∙ h.1)))
      | inr k ↦ h.0 ∙ sym k.0
    ]
  ];
  kept = λ x. elim (cases_eq x key) [
    | inl e ↦ inr (subst (λ (y : ℕ). Contains (ids ++ key ∷ []) y) (sym e) (Contains-push ids key))
    | inr n ↦ elim (put.kept x) [
      | inl h ↦ inl (others x n ∙ h)
      | inr h ↦ inr (Contains-append_left ids (key ∷ []) x h)
    ]
  ];
}
  where
    was_vacant : (slot_at mid key ≡ slot_at old key) ⊎ Contains ids key → slot_at old key ≡ None
    was_vacant (inl e) = sym e ∙ vacant
    was_vacant (inr h) = absurd (put_apart old mid cell ids key h.0 put vacant h.1 (get_or_read ids h.0 key h.1 h.2))
      where
        get_or_read : (ids : List ℕ) (k x : ℕ) → k < length ids → get_or ids k x ≡ x → slice_index ids k ≡ x
        get_or_read [] k x l e = absurd (omega arith)
        get_or_read (y ∷ ys) zero x l e = e
        get_or_read (y ∷ ys) (suc k) x l e = get_or_read ys k x (omega arith) e

-- ---- naming

pub AreNamed_skip : (a m : Links) (fan : List Facet) (ids : List ℕ) (i : ℕ) → AreNamed a m fan ids i → fan_outer fan i ≡ None
    → AreNamed a m fan ids (i + 1)
AreNamed_skip a m fan ids i h none = grind arith

-- a side is the one that is written, or it is not
pub here_or_not : (x k y t : ℕ) → ((x ≡ y) × (k ≡ t)) ⊎ ((x ≢ y) ⊎ (k ≢ t))
here_or_not x k y t = grind arith

module _ (a m b : Links) (fan : List Facet) (ids : List ℕ) (i y : ℕ) (h : AreNamed a m fan ids i) (l : i < length fan)
    (is : fan_outer fan i ≡ Some y)
    (once : (i j : ℕ) → i < length fan → j < length fan → IsRotated (fan_facet fan i) (fan_facet fan j) → i ≡ j)
    (n : IsNaming m b (fan_facet fan i) y (slice_index ids i)) where
  turned_now : IsTurned (fan_facet fan i) (facet_of (a.at y) n.side)
  turned_now = subst (λ (t : Tetrahedron). IsTurned (fan_facet fan i) (facet_of t n.side)) (h.same y) n.turned

  still_named : (j z : ℕ) → j < i → IsNamed a m fan ids j z → IsNamed a b fan ids j z
  still_named j z less g = elim (here_or_not z g.side y n.side) [
    | inl e ↦
        let t : IsTurned (fan_facet fan j) (facet_of (a.at y) n.side) =
        subst (λ (s : ℕ). IsTurned (fan_facet fan j) (facet_of (a.at y) s)) e.1
        (subst (λ (w : ℕ). IsTurned (fan_facet fan j) (facet_of (a.at w) g.side)) e.0 g.turned) in
        let same : j ≡ i = once j i (omega arith) l (turned_turned (fan_facet fan j) (facet_of (a.at y) n.side)
        (fan_facet fan i) t (turned_back (fan_facet fan i) (facet_of (a.at y) n.side) turned_now)) in
        absurd (omega arith)
    | inr apart ↦
        record { side = g.side; side_in = g.side_in; turned = g.turned; named = n.written.others z g.side apart ∙ g.named }
  ]

  now_named : (z : ℕ) → fan_outer fan i ≡ Some z → IsNamed a b fan ids i z
  now_named z e =
      let z_is : y ≡ z = cc in
      subst (λ (w : ℕ). IsNamed a b fan ids i w) z_is
      (record { side = n.side; side_in = n.side_in; turned = turned_now; named = n.written.here })

  pub AreNamed_name : AreNamed a b fan ids (i + 1)
  AreNamed_name = record {
    live = λ x. n.written.live x ∙ h.live x;
    same = λ x. n.written.same x ∙ h.same x;
    named = λ j z k e. elim (cases_lt j i) [
      | inl less ↦ still_named j z less (h.named j z less e)
      | inr more ↦
          let s : j ≡ i = omega arith in
          subst (λ (t : ℕ). IsNamed a b fan ids t z) (sym s) (now_named z (subst (λ (t : ℕ). fan_outer fan t ≡ Some z) s e))
    ];
    kept = λ x k. elim (here_or_not x k y n.side) [
      | inl e ↦
          inr (subst (λ (w : ℕ). IsRenamed a b fan ids w k) (sym e.0) (subst (λ (s : ℕ). IsRenamed a b fan ids y s) (sym e.1)
          (record { facet = i; facet_in = l; outer = is; turned = turned_now; named = n.written.here })))
      | inr apart ↦ elim (h.kept x k) [
        | inl same ↦ inl (n.written.others x k apart ∙ same)
        | inr r ↦
            inr (record {
              facet = r.facet;
              facet_in = r.facet_in;
              outer = r.outer;
              turned = r.turned;
              named = n.written.others x k apart ∙ r.named;
            })
      ]
    ];
  }

-- what is read of a list, at another default
pub outer_from : (fan : List Facet) (i : ℕ) (d : Facet) (o : Option ℕ) → i < length fan → (get_or fan i d).outer ≡ o
    → fan_outer fan i ≡ o
outer_from fan i d o l e = ap (λ (f : Facet). f.outer) (get_or_default fan i no_facet d l) ∙ e
