-- Vertex numbers in front of a text that are no pair, no facet.
use Rattle.std.proofs.Common.{ℕ, ◌≡◌, ◌<◌, refl, ap, sym, ◌∙◌, arith, List, [], ◌∷◌, ◌++◌, append_assoc}
use Rattle.line_text.specs.Numbers.{ended, BeginsWithNone}
use Rattle.line_text.specs.Facets.{IsVertexNumber, ArePairNumbers, pair_fields, facet_fields}
use Rattle.geo_sign.specs.Numbers.{IsFacetRow}
use Rattle.line_text.proofs.Codes.{IsCode, ended_code, none_second}

pub vertex_code : (end : ℕ) → end < 48 → IsCode IsVertexNumber (λ n. ended n end)
vertex_code end low m n r s a b e = ended_code m n end r s low (omega arith) (omega arith) e

pair : ℕ → ℕ → ℕ × ℕ
pair a b = (a, b)

pub pair_code : (end : ℕ) → end < 48 → IsCode ArePairNumbers (λ p. pair_fields p end)
unfolding pair
pair_code end low v w r s a b e = grind (arith, ended_code, append_assoc)

pub no_pair : (text behind : List ℕ) (a end : ℕ) → IsVertexNumber a → text ≡ ended a 32 ++ behind
    → BeginsWithNone IsVertexNumber (λ n. ended n end) behind → BeginsWithNone ArePairNumbers (λ p. pair_fields p end) text
no_pair text behind a end fits is none =
    none_second IsVertexNumber IsVertexNumber (λ n. ended n 32) (λ n. ended n end) text behind a (vertex_code 32 (omega arith))
    fits is none

-- ---- facets
abbrev three : (a b c : ℕ) → List ℕ
three a b c = a ∷ b ∷ c ∷ []

record Three (f : List ℕ) : Type 0 where
  a : ℕ
  b : ℕ
  c : ℕ
  is : f ≡ three a b c
  facet : IsFacetRow (three a b c)

three_of : (f : List ℕ) → IsFacetRow f → Three f
three_of [] h = absurd h
three_of (a ∷ []) h = absurd h
three_of (a ∷ b ∷ []) h = absurd h
three_of (a ∷ b ∷ c ∷ []) h = record { a = a; b = b; c = c; is = refl; facet = h }
three_of (a ∷ b ∷ c ∷ d ∷ t) h = absurd h

three_parts : (a b c end : ℕ) (r : List ℕ)
    → facet_fields (three a b c) end ++ r ≡ ended a 32 ++ (ended b 32 ++ (ended c end ++ r))
three_parts a b c end r = simp append_assoc

three_code : (a b c x y z end : ℕ) (r s : List ℕ) → end < 48 → IsFacetRow (three a b c) → IsFacetRow (three x y z)
    → facet_fields (three a b c) end ++ r ≡ facet_fields (three x y z) end ++ s → (three a b c ≡ three x y z) × (r ≡ s)
three_code a b c x y z end r s low k l e =
    let p =
    ended_code a x 32 _ _ (omega arith) (omega (arith, k.0, k.3)) (omega (arith, l.0, l.3))
    (sym (three_parts a b c end r) ∙ e ∙ three_parts x y z end s) in
    let q = ended_code b y 32 _ _ (omega arith) (omega (arith, k.3)) (omega (arith, l.3)) p.1 in
    let t = ended_code c z end r s low (omega (arith, k.4)) (omega (arith, l.4)) q.1 in
    (ap (λ (n : ℕ). three n b c) p.0 ∙ (ap (λ (n : ℕ). three x n c) q.0 ∙ ap (λ (n : ℕ). three x y n) t.0), t.1)

pub facet_code : (end : ℕ) → end < 48 → IsCode IsFacetRow (λ f. facet_fields f end)
facet_code end low f g r s k l e = grind (arith, three_of, three_code)

abbrev IsTriple : ℕ × (ℕ × ℕ) → Type 0
IsTriple p = IsVertexNumber p.0 × ArePairNumbers p.1

abbrev triple_text : ℕ → ℕ × (ℕ × ℕ) → List ℕ
triple_text end p = ended p.0 32 ++ pair_fields p.1 end

no_triple : (text : List ℕ) (end : ℕ) → BeginsWithNone IsTriple (triple_text end) text
    → BeginsWithNone IsFacetRow (λ f. facet_fields f end) text
no_triple text end none = λ facet rest h e.
    let p = three_of facet h in
    none (p.a, (p.b, p.c)) rest (omega (arith, p.facet.0, p.facet.3), (omega (arith, p.facet.3), omega (arith, p.facet.4)))
    (e ∙ ap (λ (t : List ℕ). facet_fields t end ++ rest) p.is)

pub no_facet_first : (text : List ℕ) (end : ℕ) → BeginsWithNone IsVertexNumber (λ n. ended n 32) text
    → BeginsWithNone IsFacetRow (λ f. facet_fields f end) text
no_facet_first text end none = grind (arith, no_triple, append_assoc)

pub no_facet_second : (text behind : List ℕ) (a end : ℕ) → IsVertexNumber a → text ≡ ended a 32 ++ behind
    → BeginsWithNone ArePairNumbers (λ p. pair_fields p end) behind → BeginsWithNone IsFacetRow (λ f. facet_fields f end) text
no_facet_second text behind a end fits is none =
    no_triple text end
    (none_second IsVertexNumber ArePairNumbers (λ n. ended n 32) (λ p. pair_fields p end) text behind a
    (vertex_code 32 (omega arith)) fits is none)

pub no_facet_order : (text behind rest : List ℕ) (a b c end : ℕ) → end < 48 → IsVertexNumber a → ArePairNumbers (b, c)
    → text ≡ ended a 32 ++ behind → behind ≡ pair_fields (b, c) end ++ rest → ¬ ((a < b) × (a < c) × ¬ (b ≡ c))
    → BeginsWithNone IsFacetRow (λ f. facet_fields f end) text
no_facet_order text behind rest a b c end low fa fp e f falls = λ facet tail h g.
    let p = three_of facet h in
    let front : text ≡ triple_text end (p.a, (p.b, p.c)) ++ tail = g ∙ ap (λ (t : List ℕ). facet_fields t end ++ tail) p.is in
    let first =
    vertex_code 32 (omega arith) a p.a behind (pair_fields (p.b, p.c) end ++ tail) fa (omega (arith, p.facet.0, p.facet.3))
    (sym e ∙ (front ∙ append_assoc (ended p.a 32) (pair_fields (p.b, p.c) end) tail)) in
    let second =
    pair_code end low (b, c) (p.b, p.c) rest tail fp (omega (arith, p.facet.3), omega (arith, p.facet.4)) (sym f ∙ first.1) in
    let at_a : a ≡ p.a = first.0 in
    let at_b : b ≡ p.b = ap (λ (x : ℕ × ℕ). x.0) second.0 in
    let at_c : c ≡ p.c = ap (λ (x : ℕ × ℕ). x.1) second.0 in
    falls (
      omega (arith, at_a, at_b, p.facet.0),
      omega (arith, at_a, at_c, p.facet.1),
      λ same. p.facet.2 (sym at_b ∙ (same ∙ at_c)),
    )
