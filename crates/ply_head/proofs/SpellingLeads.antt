-- The printed lines of a header lead to it, one after another.
use Rattle.std.proofs.Common.{◌≡◌, ◌≢◌, ℕ, zero, suc, ◌<◌, Bool, true, false, List, [], ◌∷◌, ◌++◌, length, get_or, Option, Some}
use Rattle.std.proofs.Common.{None, refl, sym, ap, subst, arith, All, append_assoc}
use Rattle.std.specs.Prelude.{map, AllPairs}
use Rattle.std.specs.List.{flat_map}
use Rattle.std.specs.Str.{bytes_eq}
use Rattle.std.specs.Bool.{Decides}
use Rattle.std.proofs.lemmas.Slice.Eq.{bytes_eq-Decides}
use Rattle.std.proofs.lemmas.List.{append-nil}
use Rattle.std.proofs.lemmas.List.Folds.{list_any_none}
use Rattle.std.proofs.lemmas.List.Concat.{flat_map-cons}
use Rattle.ply_head.specs.declared.header.Kind.{Kind}
use Rattle.ply_head.specs.declared.header.Property.{Property}
use Rattle.ply_head.specs.declared.header.Element.{Element}
use Rattle.ply_head.specs.declared.header.Header.{Header}
use Rattle.ply_head.specs.Statements.{format, element, property}
use Rattle.ply_head.specs.Headers.{has_property, has_element}
use Rattle.ply_head.specs.Spelling.{property_text, element_lines, inner_lines}
use Rattle.ply_head.specs.Grammar.{Leads}
use Rattle.ply_head.specs.Readable.{IsReadableProperty, IsReadableElement, IsReadable}
use Rattle.ply_head.proofs.SpellingReads.{format_says, element_says, property_says}

-- ---- names that stand before

get_end : {X : Type 0} (xs ys : List X) (x d : X) → get_or (xs ++ x ∷ ys) (length xs) d ≡ x
get_end [] ys x d = refl
get_end (z ∷ xs) ys x d = get_end xs ys x d

pub before_here : {X : Type 0} (R : X → X → Type 0) (xs ys : List X) (x : X) → AllPairs R (xs ++ x ∷ ys) → All (λ z. R z x) xs
before_here R [] ys x pairs i d lt = absurd (omega arith)
before_here R (z ∷ xs) ys x pairs zero d lt =
    subst (λ y. R z y) (get_end xs ys x d) (pairs 0 (suc (length xs)) d (omega arith) (inside xs ys x))
  where
    inside : {X : Type 0} (xs ys : List X) (x : X) → suc (length xs) < suc (length (xs ++ x ∷ ys))
    inside [] ys x = omega arith
    inside (w ∷ xs) ys x = omega (arith, inside xs ys x)
before_here R (z ∷ xs) ys x pairs (suc i) d lt =
    before_here R xs ys x (λ j k e less within. pairs (suc j) (suc k) e (omega arith) (omega arith)) i d (omega arith)

pub not_equal : (r : Bool) (P : Type 0) → Decides r P → (P → ⊥) → r ≡ false
not_equal true P decides refuted = absurd (refuted (decides.0 refl))
not_equal false P decides refuted = refl

new_property : (done more : List Property) (p : Property) → AllPairs (λ p q. p.name ≢ q.name) (done ++ p ∷ more)
    → has_property p.name done ≡ false
new_property done more p apart =
    let before : All (λ q. q.name ≢ p.name) done = before_here (λ p q. p.name ≢ q.name) done more p apart in
    list_any_none (λ q. bytes_eq q.name p.name) done
    (λ i d lt.
    not_equal (bytes_eq (get_or done i d).name p.name) _ (bytes_eq-Decides (get_or done i d).name p.name) (before i d lt))

new_element : (done more : List Element) (e : Element) → AllPairs (λ d e. d.name ≢ e.name) (done ++ e ∷ more)
    → has_element e.name done ≡ false
new_element done more e apart =
    let before : All (λ q. q.name ≢ e.name) done = before_here (λ d e. d.name ≢ e.name) done more e apart in
    list_any_none (λ q. bytes_eq q.name e.name) done
    (λ i d lt.
    not_equal (bytes_eq (get_or done i d).name e.name) _ (bytes_eq-Decides (get_or done i d).name e.name) (before i d lt))

-- ---- lines one after another

pub Leads-append : (a b c : Option Header) (xs ys : List (List ℕ)) → Leads a xs b → Leads b ys c → Leads a (xs ++ ys) c
Leads-append a b c [] ys first second = subst (λ h. Leads h ys c) first second
Leads-append a b c (x ∷ xs) ys first second =
    (first.0, (first.1.0, (first.1.1.0, first.1.1.1, Leads-append first.0 b c xs ys first.1.1.2 second)))

-- the header with these elements, the last of which has these properties
abbrev so_far : Kind → List Element → List ℕ → ℕ → List Property → Option Header
so_far kind front name count done =
    Some (record { kind = kind; elements = front ++ record { name = name; count = count; properties = done } ∷ [] })

properties_lead : (kind : Kind) (front : List Element) (name : List ℕ) (count : ℕ) (done more : List Property)
    → All IsReadableProperty more → AllPairs (λ p q. p.name ≢ q.name) (done ++ more)
    → Leads (so_far kind front name count done) (map property_text more) (so_far kind front name count (done ++ more))
properties_lead kind front name count done [] readable apart = ap (so_far kind front name count) (append-nil done)
properties_lead kind front name count done (p ∷ more) readable apart =
    let first : IsReadableProperty p = readable 0 p (omega arith) in
    let moved : (done ++ p ∷ []) ++ more ≡ done ++ p ∷ more = append_assoc done (p ∷ []) more in
    let rest : Leads (so_far kind front name count (done ++ p ∷ [])) (map property_text more)
    (so_far kind front name count ((done ++ p ∷ []) ++ more)) =
    properties_lead kind front name count (done ++ p ∷ []) more (λ i d lt. readable (suc i) d (omega arith))
    (subst (AllPairs (λ p q. p.name ≢ q.name)) (sym moved) apart) in (
      so_far kind front name count (done ++ p ∷ []),
      (
        property p.name p.shape,
        (
          property_says p.name p.shape first.name first.count,
          record {
            front = front;
            last = record { name = name; count = count; properties = done };
            is_last = refl;
            is_new = new_property done more p apart;
            is = refl;
          },
          subst (λ ps. Leads (so_far kind front name count (done ++ p ∷ [])) (map property_text more)
              (so_far kind front name count ps)) moved rest,
        ),
      ),
    )

abbrev with_elements : Kind → List Element → Option Header
with_elements kind elements = Some (record { kind = kind; elements = elements })

element_leads : (kind : Kind) (done more : List Element) (e : Element) → IsReadableElement e
    → AllPairs (λ d e. d.name ≢ e.name) (done ++ e ∷ more)
    → Leads (with_elements kind done) (element_lines e) (with_elements kind (done ++ e ∷ []))
element_leads kind done more e is apart = (
  so_far kind done e.name e.count [],
  (
    element e.name e.count,
    (
      element_says e.name e.count is.name is.count,
      record { is_new = new_element done more e apart; is = refl },
      properties_lead kind done e.name e.count [] e.properties is.properties is.apart,
    ),
  ),
)

elements_lead : (kind : Kind) (done more : List Element) → All IsReadableElement more
    → AllPairs (λ d e. d.name ≢ e.name) (done ++ more)
    → Leads (with_elements kind done) (flat_map element_lines more) (with_elements kind (done ++ more))
elements_lead kind done [] readable apart = ap (with_elements kind) (append-nil done)
elements_lead kind done (e ∷ more) readable apart =
    let moved : (done ++ e ∷ []) ++ more ≡ done ++ e ∷ more = append_assoc done (e ∷ []) more in
    let first : Leads (with_elements kind done) (element_lines e) (with_elements kind (done ++ e ∷ [])) =
    element_leads kind done more e (readable 0 e (omega arith)) apart in
    let rest : Leads (with_elements kind (done ++ e ∷ [])) (flat_map element_lines more)
    (with_elements kind ((done ++ e ∷ []) ++ more)) =
    elements_lead kind (done ++ e ∷ []) more (λ i d lt. readable (suc i) d (omega arith))
    (subst (AllPairs (λ d e. d.name ≢ e.name)) (sym moved) apart) in
    let both =
    Leads-append (with_elements kind done) (with_elements kind (done ++ e ∷ [])) (with_elements kind ((done ++ e ∷ []) ++ more))
    (element_lines e) (flat_map element_lines more) first rest in
    subst (λ lines. Leads (with_elements kind done) lines (with_elements kind (done ++ e ∷ more)))
    (sym (flat_map-cons element_lines e more))
    (subst (λ es. Leads (with_elements kind done) (element_lines e ++ flat_map element_lines more) (with_elements kind es))
    moved both)

-- the lines between the first and the last lead to the header
pub printed_leads : (head : Header) → IsReadable head → Leads None (inner_lines head) (Some head)
printed_leads head is = (
  with_elements head.kind [],
  (format head.kind, (format_says head.kind, refl, elements_lead head.kind [] head.elements is.elements is.apart)),
)
