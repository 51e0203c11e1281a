-- What lists have, and what a list of lists has.
use Rattle.std.proofs.Common.{zero, suc, refl, sym, subst, arith, ⊎_elim, List, [], ◌∷◌, Contains}
use Rattle.std.specs.List.{flat_map}
use Rattle.std.proofs.lemmas.List.Elements.{Contains-append_left, Contains-append_right, Contains-append_cases}

-- the first element, and the others
pub here : {X : Type 0} (x : X) (xs : List X) → Contains (x ∷ xs) x
here x xs = (0, omega arith, refl)

pub there : {X : Type 0} (x y : X) (xs : List X) → Contains xs y → Contains (x ∷ xs) y
there x y xs h = (suc h.0, omega (arith, h.1), h.2)

pub record IsInOne {X Y : Type 0} (f : X → List Y) (xs : List X) (y : Y) : Type 0 where
  pub from : X
  pub listed : Contains xs from
  pub has : Contains (f from) y

pub flat_map_has : {X Y : Type 0} (f : X → List Y) (xs : List X) (y : Y) → Contains (flat_map f xs) y → IsInOne f xs y
flat_map_has f [] y h = absurd (omega (arith, h.1))
flat_map_has f (x ∷ xs) y h =
    ⊎_elim
    (λ (a : Contains (f x) y). let r : IsInOne f (x ∷ xs) y = record { from = x; listed = here x xs; has = a } in r)
    (λ (b : Contains (flat_map f xs) y). let p = flat_map_has f xs y b in
    let r : IsInOne f (x ∷ xs) y = record { from = p.from; listed = there x p.from xs p.listed; has = p.has } in
    r)
    (Contains-append_cases (f x) (flat_map f xs) y h)

pub flat_map_gets : {X Y : Type 0} (f : X → List Y) (xs : List X) (x : X) (y : Y) → Contains xs x → Contains (f x) y
    → Contains (flat_map f xs) y
flat_map_gets f [] x y l h = absurd (omega (arith, l.1))
flat_map_gets f (w ∷ xs) x y (zero, l, e) h =
    Contains-append_left (f w) (flat_map f xs) y (subst (λ u. Contains (f u) y) (sym e) h)
flat_map_gets f (w ∷ xs) x y (suc k, l, e) h =
    Contains-append_right (f w) (flat_map f xs) y (flat_map_gets f xs x y (k, omega (arith, l), e) h)
