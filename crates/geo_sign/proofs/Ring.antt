-- That a polynomial multiplied out keeps its value, and the identities that follow by computation.
--
-- `expand e k` hands each product of e on to k, which puts it into a form, at once or after more factors. So what is asked
-- of k is that it adds its product to the form's value, times a number v that stands for what k still multiplies by (Adds).
-- add_term does so for v = 1 (polynomial_value-add_term, by cases on where the product belongs among the sorted ones), and where k does
-- for v, expand e k does for the value of e times v (adds-expand, by the structure of e; a product of two is that step
-- twice). Begun with add_term at the form 0 this gives the value of e - f; where no product is left in that form it is zero
-- (null_is_zero), so e and f are one number (ring).
use Rattle.std.proofs.Common.{ℕ, zero, suc, ◌≡◌, refl, sym, ap, ◌∙◌, subst, ℤ, pos, negsuc, ◌+ℤ◌, ◌-ℤ◌, ◌*ℤ◌, neg_ℤ, arith}
use Rattle.std.proofs.Common.{List, [], ◌∷◌, Bool, true, false, ◌&&◌, T, eqb, ltb, eqb→eq}
use Rattle.std.proofs.lemmas.Int.{ints}
use lib.IntN.{*ℤ-one, zero-*ℤ, *ℤ-zero, *ℤ_comm, +ℤ_idl, +ℤ_idr, +ℤ_assoc}
use Rattle.geo_sign.specs.Polynomial.{Polynomial, variable, constant, sum, difference, product, negation, normal, number_at}
use Rattle.geo_sign.specs.Polynomial.{polynomial_value}
use Rattle.geo_sign.specs.NormalForm.{Form, leaf, branch, form_value, monomial, insert_variable, single, add_term, is_zero}
use Rattle.geo_sign.specs.NormalForm.{expand_form, expand, is_null, is_same_form}
use Rattle.geo_sign.specs.PolynomialLaws.{IdentityLaw}
use Rattle.geo_sign.proofs.RingLaws.{+ℤ-*ℤ, *ℤ-+ℤ, neg-*ℤ, *ℤ_assoc, *ℤ_left, *ℤ-neg}

monomial-insert_variable : (x : List ℤ) (i : ℕ) (m : List ℕ) → monomial x (insert_variable i m) ≡ number_at x i *ℤ monomial x m
monomial-insert_variable x i [] = refl
monomial-insert_variable x i (j ∷ m) = grind (arith, ints, *ℤ_left, monomial-insert_variable x i m)

times_one : (k : ℤ) → k *ℤ pos 1 ≡ k
unfolding lib.IntN.one
times_one k = *ℤ-one k

polynomial_value-single : (x : List ℤ) (k : ℤ) (m : List ℕ) → form_value x (single k m) ≡ k *ℤ monomial x m
polynomial_value-single x k [] = sym (times_one k)
polynomial_value-single x k (i ∷ m) = grind (arith, ints, +ℤ_idr, *ℤ_left, polynomial_value-single x k m)

-- i * s + n with k * m added to s
add_in : (k i m s n t : ℤ) → t ≡ k *ℤ m +ℤ s → i *ℤ t +ℤ n ≡ k *ℤ (i *ℤ m) +ℤ (i *ℤ s +ℤ n)
add_in k i m s n t e = grind (arith, ints, *ℤ-+ℤ, *ℤ_left, +ℤ_assoc)

-- i * s + n with k * m added to n
add_past : (k m s n t : ℤ) → t ≡ k *ℤ m +ℤ n → s +ℤ t ≡ k *ℤ m +ℤ (s +ℤ n)
add_past k m s n t e =
    let f : (u : ℤ) → t ≡ u +ℤ n → s +ℤ t ≡ u +ℤ (s +ℤ n) = λ u e. omega (arith, ints) in f (k *ℤ m) e

-- a product of its own in front
add_front : (k i m s n : ℤ) → s ≡ k *ℤ m → i *ℤ s +ℤ n ≡ k *ℤ (i *ℤ m) +ℤ n
add_front k i m s n e = ap (λ y. i *ℤ y +ℤ n) e ∙ ap (λ y. y +ℤ n) (*ℤ_left i k m)

polynomial_value-add_term : (x : List ℤ) (k : ℤ) (m : List ℕ) (t : Form)
    → form_value x (add_term k m t) ≡ k *ℤ monomial x m +ℤ form_value x t
polynomial_value-add_term x k [] (leaf c) = ap (λ y. y +ℤ c) (sym (times_one k))
polynomial_value-add_term x k [] (branch i s n) =
    add_past k (pos 1) (number_at x i *ℤ form_value x s) (form_value x n) (form_value x (add_term k [] n))
    (polynomial_value-add_term x k [] n)
polynomial_value-add_term x k (j ∷ m) (leaf c) =
    add_front k (number_at x j) (monomial x m) (form_value x (single k m)) c (polynomial_value-single x k m)
polynomial_value-add_term x k (j ∷ m) (branch i s n) =
    let step : (b d : Bool) → (T b → j ≡ i)
    → form_value x
    (elim b [
      | true ↦ branch i (add_term k m s) n
      | false ↦ elim d [ true ↦ branch j (single k m) (branch i s n) | false ↦ branch i s (add_term k (j ∷ m) n) ]
    ]) ≡ k *ℤ (number_at x j *ℤ monomial x m) +ℤ (number_at x i *ℤ form_value x s +ℤ form_value x n)
    =
    λ b d. elim b as
    (λ b. (T b → j ≡ i) → form_value x
    (elim b [
      | true ↦ branch i (add_term k m s) n
      | false ↦ elim d [ true ↦ branch j (single k m) (branch i s n) | false ↦ branch i s (add_term k (j ∷ m) n) ]
    ]) ≡ k *ℤ (number_at x j *ℤ monomial x m) +ℤ (number_at x i *ℤ form_value x s +ℤ form_value x n)) [
      | true ↦
          λ h. subst
          (λ v. number_at x i *ℤ form_value x (add_term k m s) +ℤ form_value x n
          ≡ k *ℤ (number_at x v *ℤ monomial x m) +ℤ (number_at x i *ℤ form_value x s +ℤ form_value x n)) (sym (h tt))
          (add_in k (number_at x i) (monomial x m) (form_value x s) (form_value x n) (form_value x (add_term k m s))
          (polynomial_value-add_term x k m s))
      | false ↦
          λ h. elim d as
          (λ d. form_value x
          (elim d [ true ↦ branch j (single k m) (branch i s n) | false ↦ branch i s (add_term k (j ∷ m) n) ])
          ≡ k *ℤ (number_at x j *ℤ monomial x m) +ℤ (number_at x i *ℤ form_value x s +ℤ form_value x n)) [
            | true ↦
                add_front k (number_at x j) (monomial x m) (form_value x (single k m))
                (number_at x i *ℤ form_value x s +ℤ form_value x n) (polynomial_value-single x k m)
            | false ↦
                add_past k (number_at x j *ℤ monomial x m) (number_at x i *ℤ form_value x s) (form_value x n)
                (form_value x (add_term k (j ∷ m) n)) (polynomial_value-add_term x k (j ∷ m) n)
          ]
    ]
    in step (eqb j i) (ltb j i) (eqb→eq j i)

-- k adds its product times v to a tree
abbrev Adds : List ℤ → ℤ → (ℤ → List ℕ → Form → Form) → Type 0
Adds x v k = (c : ℤ) (m : List ℕ) (t : Form) → form_value x (k c m t) ≡ c *ℤ (monomial x m *ℤ v) +ℤ form_value x t

var_step : (c a m v t : ℤ) → c *ℤ ((a *ℤ m) *ℤ v) +ℤ t ≡ c *ℤ (m *ℤ (a *ℤ v)) +ℤ t
var_step c a m v t = ap (λ y. c *ℤ y +ℤ t) (*ℤ_assoc a m v ∙ *ℤ_left a m v)

number_step : (c d m v t : ℤ) → (c *ℤ d) *ℤ (m *ℤ v) +ℤ t ≡ c *ℤ (m *ℤ (d *ℤ v)) +ℤ t
number_step c d m v t = ap (λ y. y +ℤ t) (*ℤ_assoc c d (m *ℤ v) ∙ ap (λ y. c *ℤ y) (*ℤ_left d m v))

sum_right : (c m e f v : ℤ) → c *ℤ (m *ℤ ((e +ℤ f) *ℤ v)) ≡ c *ℤ (m *ℤ (e *ℤ v)) +ℤ c *ℤ (m *ℤ (f *ℤ v))
sum_right c m e f v = grind (arith, ints, +ℤ-*ℤ, *ℤ-+ℤ)

sum_step : (c m e f v t : ℤ) → c *ℤ (m *ℤ (e *ℤ v)) +ℤ (c *ℤ (m *ℤ (f *ℤ v)) +ℤ t) ≡ c *ℤ (m *ℤ ((e +ℤ f) *ℤ v)) +ℤ t
sum_step c m e f v t = grind (arith, ints, +ℤ_assoc, sum_right)

neg_front : (c m f v : ℤ) → neg_ℤ c *ℤ (m *ℤ (f *ℤ v)) ≡ c *ℤ (m *ℤ (neg_ℤ f *ℤ v))
neg_front c m f v = grind (arith, ints, neg-*ℤ, *ℤ-neg)

difference_step : (c m e f v t : ℤ)
    → c *ℤ (m *ℤ (e *ℤ v)) +ℤ (neg_ℤ c *ℤ (m *ℤ (f *ℤ v)) +ℤ t) ≡ c *ℤ (m *ℤ ((e -ℤ f) *ℤ v)) +ℤ t
difference_step c m e f v t = ap (λ y. c *ℤ (m *ℤ (e *ℤ v)) +ℤ (y +ℤ t)) (neg_front c m f v) ∙ sum_step c m e (neg_ℤ f) v t

zero_is : (c : ℤ) → T (is_zero c) → c ≡ pos 0
zero_is (pos zero) h = refl
zero_is (pos (suc n)) h = absurd h
zero_is (negsuc n) h = absurd h

zero_step : (c m v t : ℤ) → t ≡ c *ℤ (m *ℤ (pos 0 *ℤ v)) +ℤ t
zero_step c m v t = grind (arith, ints, zero-*ℤ, *ℤ-zero, +ℤ_idl)

adds-expand_form : (x : List ℤ) (r : Form) (v : ℤ) (k : ℤ → List ℕ → Form → Form) → Adds x v k
    → Adds x (form_value x r *ℤ v) (expand_form r k)
adds-expand_form x (leaf d) v k h c m t = grind (arith, ints, zero_step, zero_is, number_step)
adds-expand_form x (branch i s n) v k h c m t =
    adds-expand_form x s v k h c (insert_variable i m) (expand_form n k c m t)
    ∙ ap (λ y. c *ℤ (y *ℤ (form_value x s *ℤ v)) +ℤ form_value x (expand_form n k c m t)) (monomial-insert_variable x i m)
    ∙ ap (λ y. y +ℤ form_value x (expand_form n k c m t)) (regroup c (number_at x i) (monomial x m) (form_value x s) v)
    ∙ ap (λ y. c *ℤ (monomial x m *ℤ ((number_at x i *ℤ form_value x s) *ℤ v)) +ℤ y) (adds-expand_form x n v k h c m t)
    ∙ sum_step c (monomial x m) (number_at x i *ℤ form_value x s) (form_value x n) v (form_value x t)
  where
    regroup : (c a m s v : ℤ) → c *ℤ ((a *ℤ m) *ℤ (s *ℤ v)) ≡ c *ℤ (m *ℤ ((a *ℤ s) *ℤ v))
    regroup c a m s v =
        ap (λ y. c *ℤ y) (*ℤ_assoc a m (s *ℤ v) ∙ *ℤ_left a m (s *ℤ v) ∙ ap (λ y. m *ℤ y) (sym (*ℤ_assoc a s v)))

adds-add_term : (x : List ℤ) → Adds x (pos 1) add_term
adds-add_term x c m t = polynomial_value-add_term x c m t ∙ ap (λ y. c *ℤ y +ℤ form_value x t) (sym (times_one (monomial x m)))

-- 1 * (1 * (d * 1)) + 0
plain : (d : ℤ) → pos 1 *ℤ (pos 1 *ℤ (d *ℤ pos 1)) +ℤ pos 0 ≡ d
plain d = grind (arith, ints, +ℤ_idr, *ℤ_comm, times_one)

adds-expand : (x : List ℤ) (e : Polynomial) (v : ℤ) (k : ℤ → List ℕ → Form → Form) → Adds x v k
    → Adds x (polynomial_value x e *ℤ v) (expand e k)
adds-expand x (variable i) v k h c m t = grind (arith, ints, monomial-insert_variable, var_step)
adds-expand x (constant d) v k h c m t = h (c *ℤ d) m t ∙ number_step c d (monomial x m) v (form_value x t)
adds-expand x (sum e f) v k h c m t =
    grind (arith, ints, sum_step, adds-expand x e v k h c m (expand f k c m t), adds-expand x f v k h c m t)
adds-expand x (difference e f) v k h c m t =
    adds-expand x e v k h c m (expand f k (neg_ℤ c) m t)
    ∙ ap (λ y. c *ℤ (monomial x m *ℤ (polynomial_value x e *ℤ v)) +ℤ y) (adds-expand x f v k h (neg_ℤ c) m t)
    ∙ difference_step c (monomial x m) (polynomial_value x e) (polynomial_value x f) v (form_value x t)
adds-expand x (product e f) v k h c m t =
    adds-expand x e (polynomial_value x f *ℤ v) (expand f k) (adds-expand x f v k h) c m t
    ∙ ap (λ y. c *ℤ (monomial x m *ℤ y) +ℤ form_value x t) (sym (*ℤ_assoc (polynomial_value x e) (polynomial_value x f) v))
adds-expand x (negation e) v k h c m t = grind (arith, ints, neg_front, adds-expand x e v k h (neg_ℤ c) m t)
adds-expand x (normal e) v k h c m t =
    grind (arith, ints, adds-expand_form, adds-add_term, plain, adds-expand x e (pos 1) add_term (adds-add_term x) (pos 1))

both : (a b : Bool) → T (a && b) → T a × T b
both true b h = (tt, h)
both false b h = absurd h

null_is_zero : (x : List ℤ) (t : Form) → T (is_null t) → form_value x t ≡ pos 0
null_is_zero x (leaf c) h = zero_is c h
null_is_zero x (branch i s n) h =
    let p : T (is_null s) × T (is_null n) = both (is_null s) (is_null n) h in
    ap (λ y. number_at x i *ℤ y +ℤ form_value x n) (null_is_zero x s p.0)
    ∙ ap (λ y. number_at x i *ℤ pos 0 +ℤ y) (null_is_zero x n p.1) ∙ ap (λ y. y +ℤ pos 0) (*ℤ-zero (number_at x i))

-- the two sides are one number, whatever the variables stand for, where they multiply out to one sum
pub ring : (x : List ℤ) (e f : Polynomial) → T (is_same_form e f) → polynomial_value x e ≡ polynomial_value x f
ring x e f h =
    let zero_sum : form_value x (expand (difference e f) add_term (pos 1) [] (leaf (pos 0))) ≡ pos 0 =
    null_is_zero x (expand (difference e f) add_term (pos 1) [] (leaf (pos 0))) h in
    let whole : form_value x (expand (difference e f) add_term (pos 1) [] (leaf (pos 0)))
    ≡ pos 1 *ℤ (pos 1 *ℤ ((polynomial_value x e -ℤ polynomial_value x f) *ℤ pos 1)) +ℤ pos 0 =
    adds-expand x (difference e f) (pos 1) add_term (adds-add_term x) (pos 1) [] (leaf (pos 0)) in
    let none : (a b : ℤ) → a -ℤ b ≡ pos 0 → a ≡ b = λ a b e. omega (arith, ints) in
    none (polynomial_value x e) (polynomial_value x f) (sym (plain (polynomial_value x e -ℤ polynomial_value x f)) ∙ sym whole ∙ zero_sum)

pub identity_law : IdentityLaw
identity_law x e f h = ring x e f (subst (λ (b : Bool). T b) (sym h) tt)
