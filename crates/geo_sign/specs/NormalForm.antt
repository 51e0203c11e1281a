-- Polynomials multiplied out: a sum of products of variables, sorted so that equal products meet.
--
--   Form                    a polynomial multiplied out
--     leaf c                  the number c
--     branch i s n            variable i times s, and n
--   form_value numbers f    its value
--   monomial numbers m      the value of a product of variables, m being their numbers
--   insert_variable i m     variable i put into its place in a product
--   single k m              k times the product m, alone
--   add_term k m f          f with k times the product m added
--   expand e k              e multiplied out into products of variables, each with a coefficient. k is a function that
--                           is called with each product and its coefficient, and adds this term to the polynomial
--                           collected so far
--   is_null f               no product is left in f
--   is_same_form e f             e - f multiplied out has no product left
use Rattle.std.specs.Prelude.{ℕ, zero, suc, ℤ, pos, negsuc, neg_ℤ, ◌+ℤ◌, ◌*ℤ◌, List, [], ◌∷◌, Bool, true, false, ◌&&◌, ◌==◌}
use Rattle.std.specs.Prelude.{nat_lt}
use Rattle.geo_sign.specs.Polynomial.{Polynomial, variable, constant, sum, difference, product, negation, normal, number_at}

-- a polynomial multiplied out
pub data Form : Type 0 where
  leaf : ℤ → Form
  branch : ℕ → Form → Form → Form

-- its value
abbrev pub form_value : List ℤ → Form → ℤ
form_value x (leaf c) = c
form_value x (branch i s n) = number_at x i *ℤ form_value x s +ℤ form_value x n

-- a product of variables
abbrev pub monomial : List ℤ → List ℕ → ℤ
monomial x [] = pos 1
monomial x (i ∷ m) = number_at x i *ℤ monomial x m

-- variable i put into its place among sorted ones
abbrev pub insert_variable : ℕ → List ℕ → List ℕ
insert_variable i [] = i ∷ []
insert_variable i (j ∷ m) = elim (nat_lt j i) [ true ↦ j ∷ insert_variable i m | false ↦ i ∷ j ∷ m ]

-- k times one product
abbrev pub single : ℤ → List ℕ → Form
single k [] = leaf k
single k (i ∷ m) = branch i (single k m) (leaf (pos 0))

-- a form with k times the product m added
abbrev pub add_term : ℤ → List ℕ → Form → Form
add_term k [] (leaf c) = leaf (k +ℤ c)
add_term k [] (branch i s n) = branch i s (add_term k [] n)
add_term k (j ∷ m) (leaf c) = branch j (single k m) (leaf c)
add_term k (j ∷ m) (branch i s n) =
    elim (j == i) [
      | true ↦ branch i (add_term k m s) n
      | false ↦ elim (nat_lt j i) [ true ↦ branch j (single k m) (branch i s n) | false ↦ branch i s (add_term k (j ∷ m) n) ]
    ]

-- whether a number is zero
abbrev pub is_zero : ℤ → Bool
is_zero (pos zero) = true
is_zero (pos (suc n)) = false
is_zero (negsuc n) = false

-- each product of a form, passed to k
abbrev pub expand_form : Form → (ℤ → List ℕ → Form → Form) → ℤ → List ℕ → Form → Form
expand_form (leaf d) k = λ c m t. elim (is_zero d) [ true ↦ t | false ↦ k (c *ℤ d) m t ]
expand_form (branch i s n) k = λ c m t. expand_form s k c (insert_variable i m) (expand_form n k c m t)

-- each product of a polynomial, passed to k
abbrev pub expand : Polynomial → (ℤ → List ℕ → Form → Form) → ℤ → List ℕ → Form → Form
expand (variable i) k = λ c m t. k c (insert_variable i m) t
expand (constant d) k = λ c m t. k (c *ℤ d) m t
expand (sum e f) k = λ c m t. expand e k c m (expand f k c m t)
expand (difference e f) k = λ c m t. expand e k c m (expand f k (neg_ℤ c) m t)
expand (product e f) k = λ c m t. expand e (expand f k) c m t
expand (negation e) k = λ c m t. expand e k (neg_ℤ c) m t
expand (normal e) k = expand_form (expand e add_term (pos 1) [] (leaf (pos 0))) k

-- whether no product is left
abbrev pub is_null : Form → Bool
is_null (leaf c) = is_zero c
is_null (branch i s n) = is_null s && is_null n

-- whether two polynomials multiply out to the same
abbrev pub is_same_form : Polynomial → Polynomial → Bool
is_same_form e f = is_null (expand (difference e f) add_term (pos 1) [] (leaf (pos 0)))
