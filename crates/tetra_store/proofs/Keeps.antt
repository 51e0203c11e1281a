-- Steps of keeping cells.
--
-- What is said of the kept cells is said of each vertex alone: it keeps what it kept, or a cell that has it. So a later write
-- to the same vertex does no harm, and the writes are followed one after another.
use Rattle.std.proofs.Common.{ℕ, zero, suc, true, false, eqb, ◌≡◌, ◌≢◌, ◌<◌, ◌+◌, List, [], ◌∷◌, length, Option, Some, refl}
use Rattle.std.proofs.Common.{sym, ap, ◌∙◌, ◌⊎◌, inl, inr, subst, arith, slice_index, slice_index_or}
use Rattle.std.proofs.Math.ListN.{set, length-set}
use Rattle.std.specs.List.{Contains}
use Rattle.std.proofs.lemmas.Bool.{cases_eq, cases_lt, eqb-true, eq-eqb}
use Rattle.std.proofs.lemmas.List.{get_or_default, get_or-set_same, get_or-set_other}
use Rattle.geo_sign.specs.Tetrahedron.{vertex_of}
use Rattle.tetra_store.specs.declared.link.Cell.{Cell}
use Rattle.tetra_store.specs.declared.fan.Facet.{Facet}
use Rattle.geo_sign.specs.Writings.{IsVertexOf}
use Rattle.tetra_store.specs.Links.{Links, slot_at, links_of, tetrahedron_from}
use Rattle.geo_sign.specs.Edges.{over}
use Rattle.tetra_store.specs.Fan.{fan_facet, no_facet}
use Rattle.tetra_store.proofs.Facets.{at_place}
use Rattle.tetra_store.specs.Steps.{IsKeptAt, IsKeptNew, AreKeptNew, IsOutsideWith, IsMendedAt}

pub vertex_index : (xs : List ℕ) (k : ℕ) → k < 4 → vertex_of (tetrahedron_from xs) k ≡ slice_index xs k
vertex_index xs zero l = refl
vertex_index xs (suc zero) l = refl
vertex_index xs (suc (suc zero)) l = refl
vertex_index xs (suc (suc (suc zero))) l = refl
vertex_index xs (suc (suc (suc (suc k)))) l = absurd (omega arith)

pub read_at : (fan : List Facet) (i k : ℕ) (d : Facet) → i < length fan
    → slice_index (slice_index_or fan i d).v k ≡ slice_index (slice_index_or fan i no_facet).v k
read_at fan i k d l = ap (λ (f : Facet). slice_index f.v k) (get_or_default fan i d no_facet l)

-- the four numbers that are read of a fan facet, and p
pub over_read : (fan : List Facet) (i p : ℕ) (d e f : Facet) → i < length fan
    → tetrahedron_from
    (slice_index (slice_index_or fan i d).v 0 ∷ slice_index (slice_index_or fan i e).v 1
    ∷ slice_index (slice_index_or fan i f).v 2 ∷ p ∷ []) ≡ over (fan_facet fan i) p
over_read fan i p d e f l = grind (arith, read_at)

carried : (mid new : List ℕ) (fan : List Facet) (ids : List ℕ) (p i u : ℕ) → i < length fan
    → (slice_index new u ≡ slice_index mid u)
    ⊎ ((slice_index new u ≡ slice_index ids i) × IsVertexOf (over (fan_facet fan i) p) u) → IsKeptNew mid fan ids p u
    → IsKeptNew new fan ids p u
carried mid new fan ids p i u l (inl e) h = record { facet = h.facet; facet_in = h.facet_in; is = e ∙ h.is; has = h.has }
carried mid new fan ids p i u l (inr e) h = record { facet = i; facet_in = l; is = e.0; has = e.1 }

pub AreKeptNew_keep : (old mid new : List ℕ) (fan : List Facet) (ids : List ℕ) (p i : ℕ) → AreKeptNew old mid fan ids p i
    → i < length fan → IsKeptAt mid new (over (fan_facet fan i) p) (slice_index ids i) 4 → AreKeptNew old new fan ids p (i + 1)
AreKeptNew_keep old mid new fan ids p i h l at = record {
  count = at.count ∙ h.count;
  each = λ u. elim (at.each u) [
    | inr e ↦ inr (record { facet = i; facet_in = l; is = e.0; has = e.1 })
    | inl e ↦ elim (h.each u) [
      | inl d ↦ inl (e ∙ d)
      | inr d ↦ inr (carried mid new fan ids p i u l (inl e) d)
    ]
  ];
  done = λ j k m n. elim (cases_lt j i) [
    | inl less ↦
        carried mid new fan ids p i (vertex_of (over (fan_facet fan j) p) k) l
        (at.each (vertex_of (over (fan_facet fan j) p) k)) (h.done j k less n)
    | inr more ↦
        let s : i ≡ j = omega arith in
        subst (λ (t : ℕ). IsKeptNew new fan ids p (vertex_of (over (fan_facet fan t) p) k)) s
        (record {
          facet = i;
          facet_in = l;
          is = at.done k n n;
          has = at_place (over (fan_facet fan i) p) k (vertex_of (over (fan_facet fan i) p) k) refl;
        })
  ];
}

-- ---- mending

-- the vertices that are read of a cell
pub cell_vertices : (slots : List (Option Cell)) (id : ℕ) (c : Cell) (v : List ℕ) → slot_at slots id ≡ Some c → v ≡ c.v
    → (k : ℕ) → k < 4 → vertex_of ((links_of slots).at id) k ≡ slice_index v k
cell_vertices slots id c v e d k l = grind (arith, vertex_index)

-- a vertex that still keeps the cell kept it
pub was_kept : (links : Links) (old kept new : List ℕ) (u id : ℕ)
    → (slice_index new u ≡ slice_index kept u) ⊎ IsOutsideWith links old u (slice_index new u) → Contains old id
    → slice_index new u ≡ id → slice_index kept u ≡ id
was_kept links old kept new u id (inl e) h is = sym e ∙ is
was_kept links old kept new u id (inr o) h is = absurd (o.outside (subst (λ (z : ℕ). Contains old z) (sym is) h))

pub mended_skip : (links : Links) (old kept mid : List ℕ) (id k : ℕ) → IsMendedAt links old kept mid id k
    → slice_index mid (vertex_of (links.at id) k) ≢ id → IsMendedAt links old kept mid id (k + 1)
mended_skip links old kept mid id k h not = grind arith

-- what is written, and what is not
pub written_cases : (mid : List ℕ) (u w x : ℕ) → u < length mid
    → ((x ≡ u) × (slice_index (set mid u w) x ≡ w)) ⊎ ((x ≢ u) × (slice_index (set mid u w) x ≡ slice_index mid x))
written_cases mid u w x l = elim (cases_eq x u) [
  | inl e ↦ inl (e, subst (λ (z : ℕ). slice_index (set mid u w) z ≡ w) (sym e) (get_or-set_same mid u w 0 l))
  | inr n ↦ inr (n, get_or-set_other mid u x w 0 n)
]

pub mended_write : (links : Links) (old kept mid : List ℕ) (id k u w : ℕ) → IsMendedAt links old kept mid id k → Contains old id
    → k < 4 → u ≡ vertex_of (links.at id) k → u < length mid → IsOutsideWith links old u w
    → IsMendedAt links old kept (set mid u w) id (k + 1)
mended_write links old kept mid id k u w h listed l is in_range o = record {
  count = length-set mid u w ∙ h.count;
  each = λ x. elim (written_cases mid u w x in_range) [
    | inl e ↦
        inr (subst (λ (z : ℕ). IsOutsideWith links old x z) (sym e.1)
        (subst (λ (z : ℕ). IsOutsideWith links old z w) (sym e.0) o))
    | inr e ↦ elim (h.each x) [
      | inl d ↦ inl (e.1 ∙ d)
      | inr d ↦ inr (subst (λ (z : ℕ). IsOutsideWith links old x z) (sym e.1) d)
    ]
  ];
  done = λ j m n. elim (written_cases mid u w (vertex_of (links.at id) j) in_range) [
    | inl e ↦ λ same. o.outside (subst (λ (z : ℕ). Contains old z) (sym same ∙ e.1) listed)
    | inr e ↦ elim (cases_lt j k) [
      | inl less ↦ λ same. h.done j less n (sym e.1 ∙ same)
      | inr more ↦ let s : j ≡ k = omega arith in absurd (e.0 (ap (λ (t : ℕ). vertex_of (links.at id) t) s ∙ sym is))
    ]
  ];
}

-- ---- what a test of a kept cell says

pub keeps_it : (kept : List ℕ) (u d x id : ℕ) → u < length kept → x ≡ slice_index_or kept u d → true ≡ eqb x id
    → slice_index kept u ≡ id
keeps_it kept u d x id l s e = get_or_default kept u 0 d l ∙ (sym s ∙ eqb-true x id (sym e))

pub keeps_other : (kept : List ℕ) (u d x id : ℕ) → u < length kept → x ≡ slice_index_or kept u d → false ≡ eqb x id
    → slice_index kept u ≢ id
keeps_other kept u d x id l s e same = grind (arith, eq-eqb x id (s ∙ (get_or_default kept u d 0 l ∙ same)))
