-- Lists that grow at their end, what is marked of them, and how long a list of distinct numbers below a bound may be.
use Rattle.std.proofs.Common.{ℕ, ◌≡◌, ◌≢◌, ◌<◌, ◌≤◌, ◌+◌, true, false, List, [], ◌∷◌, ◌++◌, length, refl, sym, ap, ◌∙◌}
use Rattle.std.proofs.Common.{◌⊎◌, inl, inr, ⊎_elim, subst, arith, slice_index, get_or, Contains, ◌↔◌}
use Rattle.std.specs.Prelude.{nat_eq}
use Rattle.std.proofs.lemmas.Bool.{cases_lt, eqb-true, cases_Bool}
use Rattle.std.proofs.lemmas.Map.Steps.{length-le_from_distinct_below}
use Rattle.std.proofs.lemmas.Map.Keys.{IsDistinct-from_apart}
use Rattle.std.proofs.lemmas.Map.Views.{Contains-from_any}
use Rattle.std.proofs.lemmas.List.{get_or_default, get_or_append_left, length-append}
use Rattle.std.proofs.lemmas.List.Elements.{Contains-append_left, Contains-append_cases, Contains-push}
use Rattle.geo_sign.specs.Tetrahedron.{facet_at}
use Rattle.tetra_store.specs.declared.fan.Facet.{Facet}
use Rattle.tetra_store.specs.Fan.{fan_facet, fan_outer, no_facet}
use Rattle.cavity.specs.Marks.{IsMarked}
use Rattle.cavity.specs.Flood.{AreMarked}

pub last_at : {X : Type 0} (xs : List X) (x d : X) → get_or (xs ++ x ∷ []) (length xs) d ≡ x
last_at [] x d = refl
last_at (y ∷ xs) x d = last_at xs x d

pub only_one : (y x : ℕ) → Contains (y ∷ []) x → x ≡ y
only_one y x h = let e : h.0 ≡ 0 = (let l : h.0 < 1 = h.1 in omega arith) in sym h.2 ∙ ap (λ i. get_or (y ∷ []) i x) e

pub longer : {X : Type 0} (xs : List X) (x : X) → length (xs ++ x ∷ []) ≡ length xs + 1
longer xs x = length-append xs (x ∷ [])

pub old_or_last : (n i : ℕ) → i < n + 1 → (i < n) ⊎ (i ≡ n)
old_or_last n i l = ⊎_elim (λ (m : i < n). inl m) (λ (m : n ≤ i). inr (omega arith)) (cases_lt i n)

pub cell_left : (cells : List ℕ) (y i : ℕ) → i < length cells → slice_index (cells ++ y ∷ []) i ≡ slice_index cells i
cell_left cells y i l = get_or_append_left cells (y ∷ []) 0 i l

pub facet_left : (fan : List Facet) (f : Facet) (i : ℕ) → i < length fan → fan_facet (fan ++ f ∷ []) i ≡ fan_facet fan i
facet_left fan f i l = ap (λ (g : Facet). facet_at g.v) (get_or_append_left fan (f ∷ []) no_facet i l)

pub outer_left : (fan : List Facet) (f : Facet) (i : ℕ) → i < length fan → fan_outer (fan ++ f ∷ []) i ≡ fan_outer fan i
outer_left fan f i l = ap (λ (g : Facet). g.outer) (get_or_append_left fan (f ∷ []) no_facet i l)

pub facet_last : (fan : List Facet) (f : Facet) → fan_facet (fan ++ f ∷ []) (length fan) ≡ facet_at f.v
facet_last fan f = ap (λ (g : Facet). facet_at g.v) (last_at fan f no_facet)

pub outer_last : (fan : List Facet) (f : Facet) → fan_outer (fan ++ f ∷ []) (length fan) ≡ f.outer
outer_last fan f = ap (λ (g : Facet). g.outer) (last_at fan f no_facet)

pub contains_at : (cells : List ℕ) (i : ℕ) → i < length cells → Contains cells (slice_index cells i)
contains_at cells i l = (i, l, get_or_default cells i (slice_index cells i) 0 l)

-- a listed number stands at its index
pub listed_at : (cells : List ℕ) (x : ℕ) (h : Contains cells x) → slice_index cells h.0 ≡ x
listed_at cells x h = get_or_default cells h.0 0 x h.1 ∙ h.2

-- ---- marks: after one more number is marked and listed, exactly the listed ones are marked

pub marked_more : (stamps stamps' : List ℕ) (round round' : ℕ) (cells : List ℕ) (y n : ℕ) (cells' : List ℕ) → n ≡ y
    → AreMarked stamps round cells → ((x : ℕ) → IsMarked stamps' round' x ↔ (IsMarked stamps round x ⊎ (x ≡ n)))
    → cells' ≡ cells ++ y ∷ []
    → AreMarked stamps' round' cells'
marked_more stamps stamps' round round' cells y n cells' q h m e =
    subst (λ (c : List ℕ). AreMarked stamps' round' c) (sym e)
    (record {
      listed =
          λ x i. ⊎_elim (λ (l : IsMarked stamps round x). Contains-append_left cells (y ∷ []) x (h.listed x l))
          (λ (l : x ≡ n). subst (λ (z : ℕ). Contains (cells ++ y ∷ []) z) (sym (l ∙ q)) (Contains-push cells y)) ((m x).0 i);
      marked =
          λ x i. (m x).1
          (⊎_elim (λ (l : Contains cells x). inl (h.marked x l)) (λ (l : Contains (y ∷ []) x). inr (only_one y x l ∙ sym q))
          (Contains-append_cases cells (y ∷ []) x i));
    })

-- ---- how many: distinct numbers below n are at most n

apart_not : (x y : ℕ) → x ≢ y → nat_eq x y ≡ false
apart_not x y h =
    ⊎_elim (λ (e : nat_eq x y ≡ true). absurd (h (eqb-true x y e))) (λ (e : nat_eq x y ≡ false). e) (cases_Bool (nat_eq x y))

pub few : (cells : List ℕ) (n : ℕ)
    → ((j k : ℕ) → j < length cells → k < length cells → slice_index cells j ≡ slice_index cells k → j ≡ k)
    → ((x : ℕ) → Contains cells x → x < n) → length cells ≤ n
few cells n distinct below =
    length-le_from_distinct_below cells n
    (IsDistinct-from_apart nat_eq cells (λ i j d l m.
    apart_not (get_or cells i d) (get_or cells j d) (λ e.
    let q : i ≡ j =
    distinct i j (omega arith) m (sym (get_or_default cells i d 0 (omega arith)) ∙ (e ∙ get_or_default cells j d 0 m)) in
    absurd (omega arith))))
    (λ x e. below x (Contains-from_any eqb-true x cells e))
