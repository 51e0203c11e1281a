-- What is kept of a store, at one cell or vertex.
use Rattle.std.proofs.Common.{◌↔◌, List, [], ◌∷◌, length, ℕ, zero, suc, ◌≡◌, ◌<◌, Option, Some, None, is_some, true, refl, sym, ap, ◌∙◌, subst}
use Rattle.std.proofs.Common.{arith, slice_index_or}
use Rattle.std.proofs.lemmas.Bool.{false≢true}
use Rattle.std.specs.Option.{IfSome}
use Rattle.geo_sign.specs.Tetrahedron.{facet_of}
use Rattle.geo_sign.specs.Vertices.{Vertices}
use Rattle.geo_sign.proofs.Rotations.{turned_turned, turned_back}
use Rattle.std.specs.List.{Contains}
use Rattle.slab.specs.Slab.{entries_from}
use Rattle.slab.proofs.SlabLemmas.{Contains-entries}
use Rattle.tetra_store.specs.declared.link.Cell.{Cell}
use Rattle.tetra_store.specs.Links.{slot_at, links_of, next_in, Links, IsLive, IsBack, IsLinked, IsOnlyAcross}
use Rattle.tetra_store.specs.Store.{Store, IsStore}

pub only_at : (v : Vertices) (links : Links) (id k other : ℕ) → IsLinked v links → IsLive links id → k < 4
    → links.next id k ≡ Some other → IsOnlyAcross links id k other
only_at v links id k other linked live l e =
    let back = linked.back id k other live l e in record {
      back = back;
      only = λ z m z_live m_in t.
          linked.apart z other m back.side z_live back.live m_in back.in_range
          (turned_turned (facet_of (links.at z) m) (facet_of (links.at id) k) (facet_of (links.at other) back.side)
          (turned_back (facet_of (links.at id) k) (facet_of (links.at z) m) t) back.turned);
    }

pub only_across : (v : Vertices) (links : Links) (id k : ℕ) → IsLinked v links → IsLive links id → k < 4 → (o : Option ℕ)
    → o ≡ links.next id k → IfSome o (λ other. IsOnlyAcross links id k other)
only_across v links id k linked live l None e = tt
only_across v links id k linked live l (Some other) e = only_at v links id k other linked live l (sym e)

-- what has a neighbor is live
pub next_live : (o : Option Cell) (k other : ℕ) → next_in o k ≡ Some other → is_some o ≡ true
next_live None k other e = cc
next_live (Some c) k other e = refl

-- and so is the neighbor
pub neighbor_live : (v : Vertices) (slots : List (Option Cell)) (id k : ℕ) → IsLinked v (links_of slots) → k < 4
    → (o : Option ℕ) → o ≡ (links_of slots).next id k → IfSome o (λ other. IsLive (links_of slots) other)
neighbor_live v slots id k linked l None e = tt
neighbor_live v slots id k linked l (Some other) e =
    (linked.back id k other (next_live (slot_at slots id) k other (sym e)) l (sym e)).live

-- the cell across, which names this one back, as the cell that is there says
pub back_across : (v : Vertices) (slots : List (Option Cell)) → IsLinked v (links_of slots) → (id k y : ℕ) (c : Cell)
    → slot_at slots id ≡ Some c → k < 4 → slice_index_or c.next k None ≡ Some y → IsBack (links_of slots) id k y
back_across v slots linked id k y c e l f = linked.back id k y (ap is_some e) l (ap (λ (o : Option Cell). next_in o k) e ∙ f)

pub named_in : (slots : List (Option Cell)) (id k y : ℕ) (c : Cell) → slot_at slots id ≡ Some c
    → (links_of slots).next id k ≡ Some y → slice_index_or c.next k None ≡ Some y
named_in slots id k y c e f = sym (ap (λ (o : Option Cell). next_in o k) e) ∙ f

pub store_now : (s t : Store) → s ≡ t → IsStore s → IsStore t
store_now s t e h = subst (λ (u : Store). IsStore u) e h

-- what `cells` lists: each live number with its cell, and nothing else
pub listed_cells : (slots : List (Option Cell)) (id : ℕ) (c : Cell) → Contains (entries_from 0 slots) (id, c)
    ↔ (slot_at slots id ≡ Some c)
listed_cells slots id c = Contains-entries (record { slots = slots; vacant_key = 0; capacity = 0 }) id c

-- a live number is one of the slots
pub slot_in : (slots : List (Option Cell)) (id : ℕ) → IsLive (links_of slots) id → id < length slots
slot_in [] id h = absurd (false≢true h)
slot_in (x ∷ xs) zero h = omega arith
slot_in (x ∷ xs) (suc id) h = let l = slot_in xs id h in omega arith
