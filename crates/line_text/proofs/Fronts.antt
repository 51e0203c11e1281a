-- Rows are refused in one way, and good rows are not refused.
use Rattle.std.proofs.Common.{ℕ, ◌≡◌, ◌+◌, ◌-◌, inl, inr, refl, ap, sym, subst, ◌∙◌, arith, Option, Some, None, List, [], ◌∷◌}
use Rattle.std.proofs.Common.{◌++◌, length, map, get_or, append_assoc, length-append}
use Rattle.std.specs.List.{All, AllPairs, Contains, flat_map}
use Rattle.std.proofs.lemmas.List.{get_or_read, get_or_append_left, get_or-append_right, get_or-map, length-map}
use Rattle.std.proofs.lemmas.List.Elements.{All-head, All-tail}
use Rattle.line_text.specs.Numbers.{Lacks}
use Rattle.geo_sign.specs.Rising.{IsBefore}
use Rattle.line_text.specs.declared.refusal.LineRefusal.{LineRefusal}
use Rattle.line_text.specs.declared.refusal.LineRefusal.TheVariants.{BadLine, Order, Cut, NoMemory}
use Rattle.line_text.specs.Refusals.{line_after, IsCutOrBad, Rise, RisesAbove, AreRows, IsRefusedLine, IsRefusedRow}
use Rattle.line_text.proofs.Codes.{IsCode}

lacks_contained : (byte : ℕ) (text : List ℕ) → Lacks byte text → Contains text byte → ⊥
lacks_contained byte text lacks c = lacks c.0 c.1 (sym (get_or_read text c.0 byte c.1 (sym c.2) 0))

pub cut_or_bad_same : (n : ℕ) (text : List ℕ) (r s : LineRefusal) → IsCutOrBad n text r → IsCutOrBad n text s → r ≡ s
cut_or_bad_same n text Cut Cut h k = refl
cut_or_bad_same n text Cut (BadLine m) h k = absurd (lacks_contained 10 text h k.1)
cut_or_bad_same n text Cut (Order m) h k = absurd k
cut_or_bad_same n text Cut NoMemory h k = absurd k
cut_or_bad_same n text (BadLine m) Cut h k = absurd (lacks_contained 10 text k h.1)
cut_or_bad_same n text (BadLine m) (BadLine i) h k = ap BadLine (h.0 ∙ sym k.0)
cut_or_bad_same n text (BadLine m) (Order i) h k = absurd k
cut_or_bad_same n text (BadLine m) NoMemory h k = absurd k
cut_or_bad_same n text (Order m) s h k = absurd h
cut_or_bad_same n text NoMemory s h k = absurd h

-- ---- two fronts of rows of one text
-- the same rows, or one list of rows goes on where the other one ends
pub data Fronts {A : Type 0} (line_of : A → List ℕ) (xs ys : List A) (r s : List ℕ) : Type 0 where
  equal : xs ≡ ys → r ≡ s → Fronts line_of xs ys r s
  shorter : (y : A) (more : List A) → ys ≡ xs ++ y ∷ more → r ≡ line_of y ++ (flat_map line_of more ++ s)
      → Fronts line_of xs ys r s
  longer : (x : A) (more : List A) → xs ≡ ys ++ x ∷ more → s ≡ line_of x ++ (flat_map line_of more ++ r)
      → Fronts line_of xs ys r s

push_front : {A : Type 0} (line_of : A → List ℕ) (x y : A) (xs ys : List A) (r s : List ℕ) → x ≡ y → Fronts line_of xs ys r s
    → Fronts line_of (x ∷ xs) (y ∷ ys) r s
push_front {A} line_of x y xs ys r s e (equal f g) = equal (ap (λ (z : A). z ∷ xs) e ∙ ap (λ (zs : List A). y ∷ zs) f) g
push_front {A} line_of x y xs ys r s e (shorter z more f g) =
    shorter z more (ap (λ (zs : List A). y ∷ zs) f ∙ ap (λ (w : A). w ∷ (xs ++ z ∷ more)) (sym e)) g
push_front {A} line_of x y xs ys r s e (longer z more f g) =
    longer z more (ap (λ (zs : List A). x ∷ zs) f ∙ ap (λ (w : A). w ∷ (ys ++ z ∷ more)) e) g

fronts_of : {A : Type 0} (P : A → Type 0) (line_of : A → List ℕ) → IsCode P line_of → (xs ys : List A) (r s : List ℕ) → All P xs
    → All P ys → flat_map line_of xs ++ r ≡ flat_map line_of ys ++ s → Fronts line_of xs ys r s
fronts_of P line_of code [] [] r s a b e = equal refl e
fronts_of P line_of code [] (y ∷ ys) r s a b e = shorter y ys refl (e ∙ append_assoc (line_of y) (flat_map line_of ys) s)
fronts_of P line_of code (x ∷ xs) [] r s a b e = longer x xs refl (sym e ∙ append_assoc (line_of x) (flat_map line_of xs) r)
fronts_of P line_of code (x ∷ xs) (y ∷ ys) r s a b e =
    let first =
    code x y (flat_map line_of xs ++ r) (flat_map line_of ys ++ s) (All-head P x xs a) (All-head P y ys b)
    (sym (append_assoc (line_of x) (flat_map line_of xs) r) ∙ (e ∙ append_assoc (line_of y) (flat_map line_of ys) s)) in
    push_front line_of x y xs ys r s first.0
    (fronts_of P line_of code xs ys r s (All-tail P x xs a) (All-tail P y ys b) first.1)

key_rises_within : {A : Type 0} (key : A → List ℕ) (xs more : List A) (y : A) → AllPairs IsBefore (map key (xs ++ y ∷ more))
    → RisesAbove (Some key) xs y
key_rises_within {A} key xs more y rising earlier before e =
    let all : List A = xs ++ y ∷ more in
    let size : length xs ≡ length earlier + 1 =
    omega (arith, ap (λ (t : List A). length t) e, length-append earlier (before ∷ [])) in
    let whole : length (map key all) ≡ length xs + (length more + 1) =
    omega (arith, length-map all key, length-append xs (y ∷ more)) in
    let none : length xs - length xs ≡ 0 = omega arith in
    let here : length earlier - length earlier ≡ 0 = omega arith in
    let at_y : get_or all (length xs) y ≡ y =
    get_or-append_right xs (y ∷ more) (length xs) (length xs) y refl (omega arith)
    ∙ ap (λ (i : ℕ). get_or (y ∷ more) i y) none in
    let at_before : get_or all (length earlier) y ≡ before =
    get_or_append_left xs (y ∷ more) y (length earlier) (omega arith)
    ∙ (ap (λ (t : List A). get_or t (length earlier) y) e
    ∙ (get_or-append_right earlier (before ∷ []) (length earlier) (length earlier) y refl (omega arith)
    ∙ ap (λ (i : ℕ). get_or (before ∷ []) i y) here)) in
    let pair : IsBefore (get_or (map key all) (length earlier) []) (get_or (map key all) (length xs) []) =
    rising (length earlier) (length xs) [] (omega arith) (omega arith) in
    let key_before : get_or (map key all) (length earlier) [] ≡ key before =
    get_or-map key all (length earlier) y [] (omega (arith, length-append xs (y ∷ more))) ∙ ap key at_before in
    let key_y : get_or (map key all) (length xs) [] ≡ key y =
    get_or-map key all (length xs) y [] (omega (arith, length-append xs (y ∷ more))) ∙ ap key at_y in
    subst (λ (t : List ℕ). IsBefore (key before) t) key_y
    (subst (λ (t : List ℕ). IsBefore t (get_or (map key all) (length xs) [])) key_before pair)

-- a row of a rising list rises above the one before it
rises_within : {A : Type 0} (order : Option (A → List ℕ)) (xs more : List A) (y : A) → Rise order (xs ++ y ∷ more)
    → RisesAbove order xs y
rises_within None xs more y rising = tt
rises_within (Some key) xs more y rising = key_rises_within key xs more y rising

-- where a good row stands, none is refused
not_here : {A : Type 0} (P : A → Type 0) (line_of : A → List ℕ) (order : Option (A → List ℕ)) → IsCode P line_of
    → (xs more : List A) (y : A) (rest behind : List ℕ) (n : ℕ) (r : LineRefusal) → Rise order (xs ++ y ∷ more) → P y
    → rest ≡ line_of y ++ behind
    → IsRefusedLine P line_of order xs n rest r → ⊥
not_here P line_of order code xs more y rest behind n r rising form front (inl h) = h.0 y behind form front
not_here {A} P line_of order code xs more y rest behind n r rising form front (inr h) = grind (arith, rises_within)

refused_here : {A : Type 0} (P : A → Type 0) (line_of : A → List ℕ) (order : Option (A → List ℕ)) (xs : List A) (rest : List ℕ)
    (n : ℕ) (r s : LineRefusal)
    → IsRefusedLine P line_of order xs n rest r
    → IsRefusedLine P line_of order xs n rest s → r ≡ s
refused_here P line_of order xs rest n r s (inl h) (inl k) = cut_or_bad_same n rest r s h.1 k.1
refused_here P line_of order xs rest n r s (inl h) (inr k) = absurd (h.0 k.row k.rest k.form k.front)
refused_here P line_of order xs rest n r s (inr h) (inl k) = absurd (k.0 h.row h.rest h.form h.front)
refused_here P line_of order xs rest n r s (inr h) (inr k) = h.says ∙ sym k.says

last_of_all : {A : Type 0} (P : A → Type 0) (xs more : List A) (y : A) → All P (xs ++ y ∷ more) → P y
last_of_all P [] more y all = All-head P y more all
last_of_all P (x ∷ xs) more y all = last_of_all P xs more y (All-tail P x (xs ++ y ∷ more) all)

pub row_same : {A : Type 0} (P : A → Type 0) (line_of : A → List ℕ) (order : Option (A → List ℕ)) → IsCode P line_of
    → (count n : ℕ) (text : List ℕ) (r s : LineRefusal) → IsRefusedRow P line_of order count n text r
    → IsRefusedRow P line_of order count n text s → r ≡ s
row_same {A} P line_of order code count n text r s h k =
    by (fronts_of P line_of code h.rows k.rows h.rest k.rest h.good.each k.good.each (sym h.front ∙ k.front))
  where
    by : Fronts line_of h.rows k.rows h.rest k.rest → r ≡ s
    by (equal e f) =
        let Here : List A → List ℕ → Type 0 = λ xs t. IsRefusedLine P line_of order xs (line_after n (length xs)) t s in
        refused_here P line_of order h.rows h.rest (line_after n (length h.rows)) r s h.refused
        (subst (λ (t : List ℕ). Here h.rows t) (sym f) (subst (λ (xs : List A). Here xs k.rest) (sym e) k.refused))
    by (shorter y more e f) =
        absurd (not_here P line_of order code h.rows more y h.rest (flat_map line_of more ++ k.rest)
        (line_after n (length h.rows)) r
        (subst (λ (xs : List A). Rise order xs) e k.good.rising)
        (last_of_all P h.rows more y (subst (λ (xs : List A). All P xs) e k.good.each)) f h.refused)
    by (longer x more e f) =
        absurd (not_here P line_of order code k.rows more x k.rest (flat_map line_of more ++ h.rest)
        (line_after n (length k.rows)) s
        (subst (λ (xs : List A). Rise order xs) e h.good.rising)
        (last_of_all P k.rows more x (subst (λ (xs : List A). All P xs) e h.good.each)) f k.refused)

pub row_not_good : {A : Type 0} (P : A → Type 0) (line_of : A → List ℕ) (order : Option (A → List ℕ)) → IsCode P line_of
    → (count n : ℕ) (text rest : List ℕ) (rows : List A) (r : LineRefusal) → IsRefusedRow P line_of order count n text r
    → length rows ≡ count → AreRows P order rows → text ≡ flat_map line_of rows ++ rest → ⊥
row_not_good {A} P line_of order code count n text rest rows r h size good front =
    by (fronts_of P line_of code h.rows rows h.rest rest h.good.each good.each (sym h.front ∙ front))
  where
    by : Fronts line_of h.rows rows h.rest rest → ⊥
    by (equal e f) = omega (arith, ap (λ (xs : List A). length xs) e, h.few, size)
    by (shorter y more e f) =
        not_here P line_of order code h.rows more y h.rest (flat_map line_of more ++ rest) (line_after n (length h.rows)) r
        (subst (λ (xs : List A). Rise order xs) e good.rising)
        (last_of_all P h.rows more y (subst (λ (xs : List A). All P xs) e good.each)) f h.refused
    by (longer x more e f) = omega (arith, ap (λ (xs : List A). length xs) e, length-append rows (x ∷ more), h.few, size)
