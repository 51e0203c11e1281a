-- Texts of which none stands at the front of another.
use Rattle.std.proofs.Common.{ℕ, zero, suc, ◌≡◌, ◌<◌, ◌^◌, refl, ap, sym, ◌∙◌, arith, List, [], ◌∷◌, ◌++◌}
use Rattle.std.proofs.Common.{length, decimal, append_assoc}
use Rattle.std.specs.List.{flat_map, All}
use Rattle.line_text.specs.Numbers.{ended, counted, Lacks, BeginsWithNone}
use Rattle.geo_sign.specs.Numbers.{IsBetween}
use Rattle.std.proofs.lemmas.Fmt.{decimal_is_IsNumeral, decimal_injective}
use Rattle.std.proofs.lemmas.List.Elements.{All-head, All-tail}
use Rattle.std.proofs.lemmas.Str.Parse.{digit_at}

lacks_rest : (stop x : ℕ) (xs : List ℕ) → Lacks stop (x ∷ xs) → Lacks stop xs
lacks_rest stop x xs lacks k lt = lacks (suc k) (omega arith)

first_of : {x y : ℕ} {xs ys : List ℕ} → x ∷ xs ≡ y ∷ ys → x ≡ y
first_of e = cc

-- the first such byte ends one word
pub one_split : (stop : ℕ) (w a rest b : List ℕ) → Lacks stop w → Lacks stop a → w ++ stop ∷ rest ≡ a ++ stop ∷ b
    → (w ≡ a) × (rest ≡ b)
one_split stop [] [] rest b lw la e = (refl, cc)
one_split stop [] (y ∷ a) rest b lw la e = absurd (la zero (omega arith) (sym (first_of e)))
one_split stop (x ∷ w) [] rest b lw la e = absurd (lw zero (omega arith) (first_of e))
one_split stop (x ∷ w) (y ∷ a) rest b lw la e =
    let tails : w ++ stop ∷ rest ≡ a ++ stop ∷ b = cc in
    let head : x ≡ y = cc in
    let same = one_split stop w a rest b (lacks_rest stop x w lw) (lacks_rest stop y a la) tails in
    (ap (λ (n : ℕ). n ∷ w) head ∙ ap (λ (ws : List ℕ). y ∷ ws) same.0, same.1)

pub behind_same : (text a b : List ℕ) → text ++ a ≡ text ++ b → a ≡ b
behind_same [] a b e = e
behind_same (x ∷ text) a b e = let tails : text ++ a ≡ text ++ b = cc in behind_same text a b tails

pub decimal_lacks : (n stop : ℕ) → n < 2 ^ 64 → stop < 48 → Lacks stop (decimal n)
decimal_lacks n stop fits low k lt e =
    let digit = digit_at (decimal n) k ((decimal_is_IsNumeral n fits).0).1 lt in
    omega (arith, digit.0, digit.1)

-- a number ends at the first byte that is no digit
pub number_first : (stop m n : ℕ) (r s : List ℕ) → stop < 48 → m < 2 ^ 64 → n < 2 ^ 64
    → decimal m ++ stop ∷ r ≡ decimal n ++ stop ∷ s → (m ≡ n) × (r ≡ s)
number_first stop m n r s low a b e =
    let same = one_split stop (decimal m) (decimal n) r s (decimal_lacks m stop a low) (decimal_lacks n stop b low) e in
    (decimal_injective m n a b same.0, same.1)

pub ended_is : (n end : ℕ) (rest : List ℕ) → ended n end ++ rest ≡ decimal n ++ (end ∷ rest)
ended_is n end rest = append_assoc (decimal n) (end ∷ []) rest

pub ended_code : (m n end : ℕ) (r s : List ℕ) → end < 48 → m < 2 ^ 64 → n < 2 ^ 64 → ended m end ++ r ≡ ended n end ++ s
    → (m ≡ n) × (r ≡ s)
ended_code m n end r s low a b e = number_first end m n r s low a b (sym (ended_is m end r) ∙ e ∙ ended_is n end s)

pub counted_code : (word : List ℕ) (m n : ℕ) (r s : List ℕ) → m < 2 ^ 64 → n < 2 ^ 64
    → counted word m ++ r ≡ counted word n ++ s → (m ≡ n) × (r ≡ s)
counted_code word m n r s a b e = grind (arith, ended_code, behind_same, append_assoc)

-- two values with these texts in front are one value, and what is behind is the same
abbrev pub IsCode : {A : Type 0} → (A → Type 0) → (A → List ℕ) → Type 0
IsCode {A} P text = (v w : A) (r s : List ℕ) → P v → P w → text v ++ r ≡ text w ++ s → (v ≡ w) × (r ≡ s)

pub code_list : {A : Type 0} (P : A → Type 0) (line : A → List ℕ) → IsCode P line → (xs ys : List A) (r s : List ℕ)
    → length xs ≡ length ys → All P xs → All P ys
    → flat_map line xs ++ r ≡ flat_map line ys ++ s → (xs ≡ ys) × (r ≡ s)
code_list P line code [] [] r s l a b e = (refl, e)
code_list P line code [] (y ∷ ys) r s l a b e = absurd (omega arith)
code_list P line code (x ∷ xs) [] r s l a b e = absurd (omega arith)
code_list {A} P line code (x ∷ xs) (y ∷ ys) r s l a b e =
    let first =
    code x y (flat_map line xs ++ r) (flat_map line ys ++ s) (All-head P x xs a) (All-head P y ys b)
    (sym (append_assoc (line x) (flat_map line xs) r) ∙ e ∙ append_assoc (line y) (flat_map line ys) s) in
    let rest = code_list P line code xs ys r s (omega arith) (All-tail P x xs a) (All-tail P y ys b) first.1 in
    (ap (λ (z : A). z ∷ xs) first.0 ∙ ap (λ (zs : List A). y ∷ zs) rest.0, rest.1)

-- fewer values
pub code_fewer : {A : Type 0} (P Q : A → Type 0) (text : A → List ℕ) → ((a : A) → P a → Q a) → IsCode Q text → IsCode P text
code_fewer P Q text are code = λ v w r s a b e. code v w r s (are v a) (are w b) e

pub none_fewer : {A : Type 0} (P Q : A → Type 0) (text_of : A → List ℕ) (text : List ℕ) → ((a : A) → P a → Q a)
    → BeginsWithNone Q text_of text → BeginsWithNone P text_of text
none_fewer P Q text_of text are none = λ a rest h e. none a rest (are a h) e

pub counted_between_code : (word : List ℕ) (least greatest : ℕ) → greatest < 2 ^ 64
    → IsCode (IsBetween least greatest) (counted word)
counted_between_code word least greatest fits =
    λ m n r s a b e. counted_code word m n r s (omega (arith, a.1)) (omega (arith, b.1)) e

-- ---- two forms, one behind the other
abbrev pub Both : {A B : Type 0} → (A → Type 0) → (B → Type 0) → A × B → Type 0
Both P Q p = P p.0 × Q p.1

abbrev pub joined : {A B : Type 0} → (A → List ℕ) → (B → List ℕ) → A × B → List ℕ
joined line next p = line p.0 ++ next p.1

pub none_first : {A B : Type 0} (P : A → Type 0) (Q : B → Type 0) (line : A → List ℕ) (next : B → List ℕ) (text : List ℕ)
    → BeginsWithNone P line text → BeginsWithNone (Both P Q) (joined line next) text
none_first P Q line next text none = λ p rest h e. none p.0 (next p.1 ++ rest) h.0 (e ∙ append_assoc (line p.0) (next p.1) rest)

pub none_second : {A B : Type 0} (P : A → Type 0) (Q : B → Type 0) (line : A → List ℕ) (next : B → List ℕ)
    (text behind : List ℕ) (a : A) → IsCode P line → P a → text ≡ line a ++ behind → BeginsWithNone Q next behind
    → BeginsWithNone (Both P Q) (joined line next) text
none_second P Q line next text behind a code pa is none = grind (arith, append_assoc)

-- the same where the first part is fixed
pub none_behind : {B : Type 0} (Q : B → Type 0) (front : List ℕ) (next : B → List ℕ) (text behind : List ℕ)
    → text ≡ front ++ behind → BeginsWithNone Q next behind → BeginsWithNone Q (λ b. front ++ next b) text
none_behind Q front next text behind is none = λ b rest h e.
    none b rest h (behind_same front behind (next b ++ rest) (sym is ∙ (e ∙ append_assoc front (next b) rest)))
