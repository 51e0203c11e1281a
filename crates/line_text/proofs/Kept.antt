-- What a list held stays at its front while more is added.
use Rattle.std.proofs.Common.{ℕ, ◌≡◌, ◌++◌, refl, ap, ◌∙◌, List, [], ◌∷◌, length, take, Result, Ok, Err, OnErr, Option, Some}
use Rattle.std.proofs.Common.{None, IfNone}

-- a fact holds at any error
pub OnErr-holds : {A E : Type 0} (r : Result A E) (P : Type 0) → P → OnErr r P
OnErr-holds (Ok x) P p = tt
OnErr-holds (Err e) P p = p

-- a fact holds where there is no value
pub IfNone-holds : {A : Type 0} (o : Option A) (P : Type 0) → P → IfNone o P
IfNone-holds (Some x) P p = tt
IfNone-holds None P p = p

-- the old list is the front of one that got more
pub front_of_more : (old new more : List ℕ) → new ≡ old ++ more → take (length old) new ≡ old
front_of_more old new more e = ap (take (length old)) e ∙ front old more
  where
    front : (old more : List ℕ) → take (length old) (old ++ more) ≡ old
    front [] more = refl
    front (x ∷ old) more = ap (λ (t : List ℕ). x ∷ t) (front old more)

-- a front of a front
pub front_of_front : (a b c : List ℕ) → take (length a) b ≡ a → take (length b) c ≡ b → take (length a) c ≡ a
front_of_front [] b c h k = refl
front_of_front (x ∷ a) [] c h k = absurd (cc)
front_of_front (x ∷ a) (y ∷ b) [] h k = absurd (cc)
front_of_front (x ∷ a) (y ∷ b) (z ∷ c) h k =
    let inner : take (length a) b ≡ a = cc in
    let outer : take (length b) c ≡ b = cc in
    let first : y ≡ x = cc in
    let second : z ≡ y = cc in
    let rest : take (length a) c ≡ a = front_of_front a b c inner outer in
    cc
