-- Sums over lists without repeats, counted in pairs. Where each element of one list that passes a test has exactly one partner
-- in the other that passes its own, and the other way round, and partners count the same, both sums are one: each is the sum
-- over all pairs of partners, in one order or the other.
--
--   IsOnce xs           nothing stands twice in xs
--   total f xs          the sum of f over xs
--   pick n b            n where b, else 0
--   paired              the sums of partners
--   named_once xs       the names of xs, each once
use Rattle.std.proofs.Common.{ℕ, suc, ◌+◌, ◌<◌, ◌≡◌, ◌≢◌, refl, sym, ap, ap₂, subst, ◌∙◌, ◌⊎◌, inl, inr, arith, Bool, true}
use Rattle.std.proofs.Common.{false, true≢false, ◌&&◌, cond, eqb, List, [], ◌∷◌, AllPairs, length, get_or}
use Rattle.std.proofs.lemmas.Bool.{eqb-true, eqb-false, and_from, and_parts}
use Rattle.cell_laws.specs.Lists.{IsIn}

-- ---- no element twice
abbrev pub IsOnce : {X : Type 0} → List X → Type 0
IsOnce [] = Unit {0}
IsOnce (x ∷ xs) = (IsIn xs x → ⊥) × IsOnce xs

index_of : {X : Type 0} (xs : List X) (x d : X) → IsIn xs x → (k : ℕ) × (k < length xs) × (get_or xs k d ≡ x)
index_of [] x d h = absurd h
index_of (y ∷ ys) x d (inl e) = (0, omega arith, e)
index_of (y ∷ ys) x d (inr h) = let z = index_of ys x d h in let l = z.1 in (suc z.0, omega (arith, l), z.2)

pub once_pairs : {X : Type 0} (xs : List X) → AllPairs (λ x y. x ≢ y) xs → IsOnce xs
once_pairs [] h = tt
once_pairs (x ∷ xs) h = (
  (λ i. (let z = index_of xs x x i in let l = z.1 in h 0 (suc z.0) x (omega arith) (omega (arith, l)) (sym z.2))),
  once_pairs xs (λ i j d l m. h (suc i) (suc j) d (omega (arith, l)) (omega (arith, m))),
)

-- ---- names, each once
abbrev is_listed : ℕ → List ℕ → Bool
is_listed x [] = false
is_listed x (y ∷ ys) = cond (eqb y x) true (is_listed x ys)

abbrev pub named_once : List ℕ → List ℕ
named_once [] = []
named_once (x ∷ xs) = cond (is_listed x xs) (named_once xs) (x ∷ named_once xs)

listed_in : (x : ℕ) (xs : List ℕ) → is_listed x xs ≡ true → IsIn xs x
listed_in x [] e = absurd (true≢false (sym e))
listed_in x (y ∷ ys) e = by (eqb y x) refl e (λ f. listed_in x ys f)
  where
    by : (b : Bool) → eqb y x ≡ b → cond b true (is_listed x ys) ≡ true → (is_listed x ys ≡ true → IsIn ys x)
        → (y ≡ x) ⊎ IsIn ys x
    by true i f rest = inl (eqb-true y x i)
    by false i f rest = inr (rest f)

pub named_in : (xs : List ℕ) (x : ℕ) → IsIn (named_once xs) x → IsIn xs x
named_in [] x h = h
named_in (y ∷ ys) x h = by (is_listed y ys) h (λ i. named_in ys x i)
  where
    by :
        (b : Bool) → IsIn (cond b (named_once ys) (y ∷ named_once ys)) x → (IsIn (named_once ys) x → IsIn ys x) →
        (y ≡ x) ⊎ IsIn ys x
    by true i rest = inr (rest i)
    by false (inl e) rest = inl e
    by false (inr i) rest = inr (rest i)

pub in_named : (xs : List ℕ) (x : ℕ) → IsIn xs x → IsIn (named_once xs) x
in_named [] x h = h
in_named (y ∷ ys) x h = by (is_listed y ys) refl h (λ i. in_named ys x i)
  where
    by :
        (b : Bool) → is_listed y ys ≡ b → (y ≡ x) ⊎ IsIn ys x → (IsIn ys x → IsIn (named_once ys) x) →
        IsIn (cond b (named_once ys) (y ∷ named_once ys)) x
    by true e (inl i) rest = rest (subst (IsIn ys) i (listed_in y ys e))
    by true e (inr i) rest = rest i
    by false e (inl i) rest = inl i
    by false e (inr i) rest = inr (rest i)

in_listed : (x : ℕ) (xs : List ℕ) → IsIn xs x → is_listed x xs ≡ false → ⊥
in_listed x [] h e = h
in_listed x (y ∷ ys) h e = by (eqb y x) refl e h (λ i f. in_listed x ys i f)
  where
    by :
        (b : Bool) → eqb y x ≡ b → cond b true (is_listed x ys) ≡ false → (y ≡ x) ⊎ IsIn ys x →
        (IsIn ys x → is_listed x ys ≡ false → ⊥) → ⊥
    by true i f k rest = true≢false f
    by false i f (inl k) rest = eqb-false y x i k
    by false i f (inr k) rest = rest k f

pub named_is_once : (xs : List ℕ) → IsOnce (named_once xs)
named_is_once [] = tt
named_is_once (y ∷ ys) = by (is_listed y ys) refl (named_is_once ys)
  where
    by : (b : Bool) → is_listed y ys ≡ b → IsOnce (named_once ys) → IsOnce (cond b (named_once ys) (y ∷ named_once ys))
    by true e rest = rest
    by false e rest = ((λ i. in_listed y ys (named_in ys y i) e), rest)

-- ---- sums
abbrev pub total : {X : Type 0} → (X → ℕ) → List X → ℕ
total f [] = 0
total f (x ∷ xs) = f x + total f xs

abbrev pub pick : ℕ → Bool → ℕ
pick n b = cond b n 0

pub sum_same : {X : Type 0} (f g : X → ℕ) (xs : List X) → ((x : X) → IsIn xs x → f x ≡ g x) → total f xs ≡ total g xs
sum_same f g [] h = refl
sum_same f g (x ∷ xs) h = ap₂ (λ (m n : ℕ). m + n) (h x (inl refl)) (sum_same f g xs (λ y i. h y (inr i)))

pub sum_zero : {X : Type 0} (xs : List X) → total (λ x. 0) xs ≡ 0
sum_zero [] = refl
sum_zero (x ∷ xs) = let e = sum_zero xs in omega (arith, e)

pub sum_plus : {X : Type 0} (f g : X → ℕ) (xs : List X) → total (λ x. f x + g x) xs ≡ total f xs + total g xs
sum_plus f g [] = refl
sum_plus f g (x ∷ xs) = let e = sum_plus f g xs in omega (arith, e)

pub sum_sum :
    {X Y : Type 0} (m : X → Y → ℕ) (xs : List X) (ys : List Y) →
    total (λ x. total (m x) ys) xs ≡ total (λ y. total (λ x. m x y) xs) ys
sum_sum m [] ys = sym (sum_zero ys)
sum_sum m (x ∷ xs) ys =
    ap (λ (n : ℕ). total (m x) ys + n) (sum_sum m xs ys) ∙ sym (sum_plus (m x) (λ y. total (λ z. m z y) xs) ys)

-- none passes
no_one :
    {X : Type 0} (h : X → ℕ) (test : X → Bool) (ys : List X) → ((y : X) → IsIn ys y → test y ≡ true → ⊥) →
    total (λ y. pick (h y) (test y)) ys ≡ 0
no_one h test [] none = refl
no_one {X} h test (y ∷ ys) none = by (test y) refl (no_one h test ys (λ z i. none z (inr i)))
  where
    by : (b : Bool) → test y ≡ b → total (λ z. pick (h z) (test z)) ys ≡ 0
        → pick (h y) b + total (λ z. pick (h z) (test z)) ys ≡ 0
    by true e r = absurd (none y (inl refl) e)
    by false e r = omega (arith, r)

-- exactly one passes
pub only_one :
    {X : Type 0} (h : X → ℕ) (test : X → Bool) (ys : List X) (z : X) → IsOnce ys → IsIn ys z → test z ≡ true →
    ((y : X) → IsIn ys y → test y ≡ true → y ≡ z) → total (λ y. pick (h y) (test y)) ys ≡ h z
only_one h test [] z o i t one = absurd i
only_one {X} h test (y ∷ ys) z o i t one = by i (λ j. only_one h test ys z o.1 j t (λ w k. one w (inr k)))
  where
    by :
        (y ≡ z) ⊎ IsIn ys z → (IsIn ys z → total (λ w. pick (h w) (test w)) ys ≡ h z) →
        pick (h y) (test y) + total (λ w. pick (h w) (test w)) ys ≡ h z
    by (inl e) rest =
        let n = no_one h test ys (λ w j k. o.0 (subst (IsIn ys) (one w (inr j) k ∙ sym e) j)) in
        let a : pick (h y) (test y) ≡ h z = ap (λ b. pick (h y) b) (ap test e ∙ t) ∙ ap h e in
        omega (arith, n, a)
    by (inr j) rest =
        let n = rest j in
        let a : pick (h y) (test y) ≡ 0 = none (test y) refl in
        omega (arith, n, a)
      where
        none : (b : Bool) → test y ≡ b → pick (h y) b ≡ 0
        none true e = absurd (o.0 (subst (IsIn ys) (sym (one y (inl refl) e)) j))
        none false e = refl

-- x and y are partners, where x passes p and y passes q
pub record ArePaired {X : Type 0} (r : X → X → Bool) (xs ys : List X) (p q : X → Bool) (g h : X → ℕ) : Type 0 where
  pub partner : (x : X) → IsIn xs x → p x ≡ true → (y : X) × IsIn ys y × (q y ≡ true) × (r x y ≡ true)
  pub partner_of : (y : X) → IsIn ys y → q y ≡ true → (x : X) × IsIn xs x × (p x ≡ true) × (r x y ≡ true)
  pub one : (x y z : X) → IsIn xs x → IsIn ys y → IsIn ys z → r x y ≡ true → r x z ≡ true → y ≡ z
  pub one_of : (x z y : X) → IsIn xs x → IsIn xs z → IsIn ys y → r x y ≡ true → r z y ≡ true → x ≡ z
  pub same : (x y : X) → r x y ≡ true → g x ≡ h y

pub paired :
    {X : Type 0} (r : X → X → Bool) (xs ys : List X) (p q : X → Bool) (g h : X → ℕ) → IsOnce xs → IsOnce ys →
    ArePaired r xs ys p q g h
    → total (λ x. pick (g x) (p x)) xs ≡ total (λ y. pick (h y) (q y)) ys
paired {X} r xs ys p q g h ox oy k =
    sum_same (λ x. pick (g x) (p x)) (λ x. total (λ y. pick (h y) (p x && (q y && r x y))) ys) xs
    (λ x i. sym (row x i (p x) refl))
    ∙ sum_sum (λ x y. pick (h y) (p x && (q y && r x y))) xs ys
    ∙ sum_same (λ y. total (λ x. pick (h y) (p x && (q y && r x y))) xs) (λ y. pick (h y) (q y)) ys
    (λ y i. column y i (q y) refl)
  where
    row : (x : X) → IsIn xs x → (b : Bool) → p x ≡ b → total (λ y. pick (h y) (p x && (q y && r x y))) ys ≡ pick (g x) (p x)
    row x i true e =
        let z = k.partner x i e in
        only_one h (λ y. p x && (q y && r x y)) ys z.0 oy z.1
        (and_from (p x) (q z.0 && r x z.0) e (and_from (q z.0) (r x z.0) z.2 z.3))
        (λ y j t. k.one x y z.0 i j z.1 (and_parts (q y) (r x y) (and_parts (p x) (q y && r x y) t).1).1 z.3)
        ∙ sym (k.same x z.0 z.3) ∙ sym (ap (λ b. pick (g x) b) e)
    row x i false e =
        no_one h (λ y. p x && (q y && r x y)) ys (λ y j t. true≢false (sym (and_parts (p x) (q y && r x y) t).0 ∙ e))
        ∙ sym (ap (λ b. pick (g x) b) e)

    column : (y : X) → IsIn ys y → (b : Bool) → q y ≡ b → total (λ x. pick (h y) (p x && (q y && r x y))) xs ≡ pick (h y) (q y)
    column y i true e =
        let z = k.partner_of y i e in
        only_one (λ x. h y) (λ x. p x && (q y && r x y)) xs z.0 ox z.1
        (and_from (p z.0) (q y && r z.0 y) z.2 (and_from (q y) (r z.0 y) e z.3))
        (λ x j t. k.one_of x z.0 y j z.1 i (and_parts (q y) (r x y) (and_parts (p x) (q y && r x y) t).1).1 z.3)
        ∙ sym (ap (λ b. pick (h y) b) e)
    column y i false e =
        no_one (λ x. h y) (λ x. p x && (q y && r x y)) xs
        (λ x j t. true≢false (sym (and_parts (q y) (r x y) (and_parts (p x) (q y && r x y) t).1).0 ∙ e))
        ∙ sym (ap (λ b. pick (h y) b) e)
