-- Counting things: one more, none, and images.
use Rattle.std.proofs.Common.{ℕ, suc, ◌≡◌, ◌≢◌, ◌+◌, ◌<◌, ◌≤◌, ◌⊎◌, inl, inr, refl, ap, sym, ◌∙◌, subst, arith, List, [], ◌∷◌, length, get_or, map, Bool, true, false, cond}
use Rattle.std.specs.Bool.{OnTrue, OnFalse}
use Rattle.std.specs.List.{All, AllPairs, Contains}
use Rattle.std.proofs.lemmas.Bool.{cases_lt}
use Rattle.std.proofs.lemmas.List.{get_or-map, length-map, get_or_default}
use Rattle.std.proofs.lemmas.List.Elements.{All-nil, All-cons}
use Rattle.std.proofs.lemmas.List.Kept.{AllPairs-cons}
use Rattle.mesh_edges.specs.Things.{AreSoMany}

-- the same things by another description
pub same_things : {A : Type 0} (P Q : A → Type 0) (n : ℕ) → ((a : A) → P a → Q a) → ((a : A) → Q a → P a) → AreSoMany P n
    → AreSoMany Q n
same_things {A} P Q n to from so =
    record {
      things = so.things;
      number = so.number;
      distinct = so.distinct;
      each = λ k d l. to (get_or so.things k d) (so.each k d l);
      every = λ a q. so.every a (from a q);
    }

-- no thing
pub no_things : {A : Type 0} (P : A → Type 0) → ((a : A) → P a → ⊥) → AreSoMany P 0
no_things {A} P none =
    record {
      things = [];
      number = refl;
      distinct = λ i j d l m. absurd (omega arith);
      each = λ k d l. absurd (omega arith);
      every = λ a p. absurd (none a p);
    }

abbrev Below : (ℕ → Type 0) → ℕ → ℕ → Type 0
Below P i k = (k < i) × P k

-- the next number has it not
pub number_skipped : (P : ℕ → Type 0) (i n : ℕ) → AreSoMany (Below P i) n → (P i → ⊥) → AreSoMany (Below P (i + 1)) n
number_skipped P i n so lacks =
    same_things (Below P i) (Below P (i + 1)) n (λ k p. (omega (arith, p.0), p.1)) (λ k p. (lower k p, p.1)) so
  where
    lower : (k : ℕ) → Below P (i + 1) k → k < i
    lower k p = elim (cases_lt k i) [ inl l ↦ l | inr l ↦ absurd (lacks (subst P (at k l p) p.1)) ]
      where
        at : (k : ℕ) → i ≤ k → Below P (i + 1) k → k ≡ i
        at k l p = omega (arith, p.0)

-- the next number has it
pub number_more : (P : ℕ → Type 0) (i n : ℕ) → AreSoMany (Below P i) n → P i → AreSoMany (Below P (i + 1)) (n + 1)
number_more P i n so has =
    record {
      things = i ∷ so.things;
      number = omega (arith, so.number);
      distinct =
          AllPairs-cons ◌≢◌ i so.things (λ k d l. let b = so.each k d l in λ e. omega (arith, b.0, e)) so.distinct;
      each =
          All-cons (Below P (i + 1)) i so.things (omega arith, has) (λ k d l. let b = so.each k d l in (omega (arith, b.0), b.1));
      every = λ a p. found a p (cases_lt a i);
    }
  where
    found : (a : ℕ) → Below P (i + 1) a → (a < i) ⊎ (i ≤ a) → Contains (i ∷ so.things) a
    found a p (inl l) =
        let c = so.every a (l, p.1) in
        (suc c.0, omega (arith, c.1), c.2)
    found a p (inr l) = let e : i ≡ a = omega (arith, p.0) in (0, omega arith, e)

-- the next number has it, or has it not, as a test tells
pub number_next : (P : ℕ → Type 0) (i n m : ℕ) (b : Bool) → AreSoMany (λ k. (k < i) × P k) n → m ≡ n + cond b 1 0 → OnTrue b (P i)
    → OnFalse b (¬ P i) → AreSoMany (λ k. (k < i + 1) × P k) m
number_next P i n m true so e has lacks = subst (AreSoMany (Below P (i + 1))) (sym e) (number_more P i n so has)
number_next P i n m false so e has lacks =
    let f : n ≡ m = omega arith in
    subst (AreSoMany (Below P (i + 1))) f (number_skipped P i n so lacks)

-- nothing is below 0
pub nothing_below : (P : ℕ → Type 0) → AreSoMany (λ k. (k < 0) × P k) 0
nothing_below P = no_things (Below P 0) (λ k p. omega (arith, p.0))

-- the images of things that have different images
pub images : {A B : Type 0} (P : A → Type 0) (f : A → B) (n : ℕ) → ((a b : A) → P a → P b → f a ≡ f b → a ≡ b) → AreSoMany P n
    → AreSoMany (λ (b : B). (a : A) × P a × (f a ≡ b)) n
images {A} {B} P f n different so =
    record {
      things = map f so.things;
      number = length-map so.things f ∙ so.number;
      distinct = λ i j d l m. apart i j d l (subst (λ (k : ℕ). j < k) (length-map so.things f) m);
      each = λ k d l. image k d (subst (λ (j : ℕ). k < j) (length-map so.things f) l);
      every = λ b h.
          let c = so.every h.0 h.1 in (
            c.0,
            subst (λ (k : ℕ). c.0 < k) (sym (length-map so.things f)) c.1,
            get_or-map f so.things c.0 h.0 b c.1 ∙ (ap f c.2 ∙ h.2),
          );
    }
  where
    some : (k : ℕ) → (xs : List A) → k < length xs → A
    some k [] l = absurd (omega arith)
    some k (x ∷ xs) l = x

    image : (k : ℕ) (d : B) → k < length so.things → (a : A) × P a × (f a ≡ get_or (map f so.things) k d)
    image k d l =
        let e = some k so.things l in
        (get_or so.things k e, so.each k e l, sym (get_or-map f so.things k e d l))

    apart : (i j : ℕ) (d : B) → i < j → j < length so.things → get_or (map f so.things) i d ≢ get_or (map f so.things) j d
    apart i j d l m same =
        let e = some j so.things m in
        let li : i < length so.things = omega arith in
        so.distinct i j e l m
        (different (get_or so.things i e) (get_or so.things j e) (so.each i e li) (so.each j e m)
        (sym (get_or-map f so.things i e d li) ∙ (same ∙ get_or-map f so.things j e d m)))
