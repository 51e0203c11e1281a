-- What the rows and the sides of a store's cells are. The entries of the store's slab are its live cells by rising number, so
-- ids rise along the rows and the numbers 4 * id + side along the sides, and none stands twice. A row is that of a live cell,
-- and each live cell has one; a side is one with a free neighbor, and each such side is there.
-- Stands on: Lists.
use Rattle.std.proofs.Common.{ℕ, zero, suc, ◌+◌, ◌*◌, ◌<◌, ◌≡◌, refl, sym, ap, subst, ◌∙◌, ⊎_elim, arith, Bool, true, false}
use Rattle.std.proofs.Common.{cond, Option, Some, None, is_some, List, [], ◌∷◌, ◌++◌, length, get_or, map, Contains}
use Rattle.std.specs.List.{flat_map}
use Rattle.std.proofs.lemmas.List.Elements.{Contains-append_left, Contains-append_right, Contains-append_cases}
use Rattle.flow_net.specs.Nets.{flag_at}
use Rattle.slab.specs.Slab.{entries_from}
use Rattle.tetra_store.specs.declared.link.Cell.{Cell}
use Rattle.tetra_store.specs.Links.{links_of, slot_at, next_in, vertices_in, IsLive}
use Rattle.cell_net.specs.declared.rows.Row.{Row}
use Rattle.cell_net.specs.declared.sides.Side.{Side}
use Rattle.cell_net.specs.CellRows.{facet_row, risen, row_from}
use Rattle.cell_net.specs.Counts.{row_of}
use Rattle.cell_net.specs.Gathered.{row_at, side_at, side_if_open, open_at, cut_at, all_rows, all_open, all_cut}
use Rattle.cell_net.specs.Parts.{id_of_row, number_of_side, AreDistinctBy}
use Rattle.cell_net.proofs.Lists.{Rises, rises_from, rises_append, rises_apart}
use Rattle.geo_sign.proofs.Members.{here, there, flat_map_has, flat_map_gets}

-- ---- lists
pub record IsImage {X Y : Type 0} (f : X → Y) (xs : List X) (y : Y) : Type 0 where
  pub from : X
  pub listed : Contains xs from
  pub is : f from ≡ y

pub map_has : {X Y : Type 0} (f : X → Y) (xs : List X) (y : Y) → Contains (map f xs) y → IsImage f xs y
map_has f [] y h = absurd (omega (arith, h.1))
map_has f (x ∷ xs) y (zero, l, e) = record { from = x; listed = here x xs; is = e }
map_has f (x ∷ xs) y (suc k, l, e) = grind (arith, there, map_has f xs y (k, omega (arith, l), e))

pub map_gets : {X Y : Type 0} (f : X → Y) (xs : List X) (x : X) → Contains xs x → Contains (map f xs) (f x)
map_gets f [] x h = absurd (omega (arith, h.1))
map_gets f (w ∷ xs) x (zero, l, e) = (0, omega arith, ap f e)
map_gets f (w ∷ xs) x (suc k, l, e) = there (f w) (f x) (map f xs) (map_gets f xs x (k, omega (arith, l), e))

-- ---- the entries of a slab
entry_in : {T : Type 0} (key : ℕ) (slots : List (Option T)) (id : ℕ) (c : T) → get_or slots id None ≡ Some c
    → Contains (entries_from key slots) (key + id, c)
entry_in key [] id c e = absurd (cc)
entry_in key (None ∷ rest) zero c e = absurd (cc)
entry_in {T = T} key (None ∷ rest) (suc id) c e = grind (arith, entry_in (key + 1) rest id c e)
entry_in {T = T} key (Some x ∷ rest) zero c e = grind arith
entry_in {T = T} key (Some x ∷ rest) (suc id) c e = grind (arith, there, entry_in (key + 1) rest id c e)

record IsEntry {T : Type 0} (key : ℕ) (slots : List (Option T)) (e : ℕ × T) : Type 0 where
  id : ℕ
  at : e.0 ≡ key + id
  is : get_or slots id None ≡ Some e.1

in_entry : {T : Type 0} (key : ℕ) (slots : List (Option T)) (e : ℕ × T) → Contains (entries_from key slots) e
    → IsEntry key slots e
in_entry key [] e h = absurd (omega (arith, h.1))
in_entry key (None ∷ rest) e h =
    let p = in_entry (key + 1) rest e h in let a = p.at in record { id = suc p.id; at = omega (arith, a); is = p.is }
in_entry key (Some x ∷ rest) e (zero, l, i) = grind arith
in_entry key (Some x ∷ rest) e (suc k, l, i) =
    let p = in_entry (key + 1) rest e (k, omega (arith, l), i) in
    let a = p.at in
    record { id = suc p.id; at = omega (arith, a); is = p.is }

pub entry_slot : (slots : List (Option Cell)) (e : ℕ × Cell) → Contains (entries_from 0 slots) e → slot_at slots e.0 ≡ Some e.1
entry_slot slots e h =
    let p = in_entry 0 slots e h in let a = p.at in let n : e.0 ≡ p.id = omega (arith, a) in
    ap (slot_at slots) n ∙ p.is

pub slot_entry : (slots : List (Option Cell)) (id : ℕ) (c : Cell) → slot_at slots id ≡ Some c → Contains (entries_from 0 slots)
    (id, c)
slot_entry slots id c h =
    let n : 0 + id ≡ id = omega arith in subst (λ (m : ℕ). Contains (entries_from 0 slots) (m, c)) n (entry_in 0 slots id c h)

-- ---- they rise, and so do rows and sides
key_of : ℕ × Cell → ℕ
key_of e = e.0

entries_rise : (key : ℕ) (slots : List (Option Cell)) → Rises key_of key (entries_from key slots) (key + length slots)
unfolding key_of
entries_rise key [] = omega arith
entries_rise key (None ∷ rest) =
    let n : key + 1 + length rest ≡ key + length (None ∷ rest) = omega arith in
    rises_from key_of key (key + 1) (entries_from (key + 1) rest) (key + length (None ∷ rest)) (omega arith)
    (subst (λ (m : ℕ). Rises key_of (key + 1) (entries_from (key + 1) rest) m) n (entries_rise (key + 1) rest))
entries_rise key (Some x ∷ rest) = grind (arith, entries_rise (key + 1) rest)

rows_rise : (n : ℕ) (es : List (ℕ × Cell)) (m : ℕ) → Rises key_of n es m → Rises id_of_row n (map row_at es) m
unfolding key_of
rows_rise n [] m r = r
rows_rise n (e ∷ es) m r = (r.0, rows_rise (e.0 + 1) es m r.1)

all_rows_rise : (slots : List (Option Cell)) → Rises id_of_row 0 (all_rows slots) (0 + length slots)
all_rows_rise slots = rows_rise 0 (entries_from 0 slots) (0 + length slots) (entries_rise 0 slots)

pub rows_apart : (slots : List (Option Cell)) → AreDistinctBy id_of_row (all_rows slots)
rows_apart slots =
    rises_apart id_of_row 0 (all_rows slots) (0 + length slots) (all_rows_rise slots)

one_rises : (fixed : List Bool) (e : ℕ × Cell) (k : ℕ) → Rises number_of_side (4 * e.0 + k) (side_if_open fixed e k)
    (4 * e.0 + (k + 1))
unfolding side_if_open
one_rises fixed e k = grind arith

open_rises : (fixed : List Bool) (e : ℕ × Cell) → Rises number_of_side (4 * e.0) (open_at fixed e) (4 * (e.0 + 1))
open_rises fixed e =
    let a = side_if_open fixed e 0 in
    let b = side_if_open fixed e 1 in
    let c = side_if_open fixed e 2 in
    let d = side_if_open fixed e 3 in
    let last : Rises number_of_side (4 * e.0 + 3) d (4 * (e.0 + 1)) = let n : 4 * e.0 + (3 + 1) ≡ 4 * (e.0 + 1) = omega arith in
    subst (Rises number_of_side (4 * e.0 + 3) d) n (one_rises fixed e 3) in
    rises_from number_of_side (4 * e.0) (4 * e.0 + 0) (a ++ (b ++ (c ++ d))) (4 * (e.0 + 1)) (omega arith)
    (rises_append number_of_side (4 * e.0 + 0) a (4 * e.0 + 1) (b ++ (c ++ d)) (4 * (e.0 + 1)) (one_rises fixed e 0)
    (rises_append number_of_side (4 * e.0 + 1) b (4 * e.0 + 2) (c ++ d) (4 * (e.0 + 1)) (one_rises fixed e 1)
    (rises_append number_of_side (4 * e.0 + 2) c (4 * e.0 + 3) d (4 * (e.0 + 1)) (one_rises fixed e 2) last)))

sides_rise : (fixed : List Bool) (n : ℕ) (es : List (ℕ × Cell)) (m : ℕ) → Rises key_of n es m → Rises number_of_side (4 * n)
    (flat_map (open_at fixed) es) (4 * m)
unfolding key_of
sides_rise fixed n [] m r = omega (arith, r)
sides_rise fixed n (e ∷ es) m r =
    let a = r.0 in
    rises_from number_of_side (4 * n) (4 * e.0) (open_at fixed e ++ flat_map (open_at fixed) es) (4 * m) (omega (arith, a))
    (rises_append number_of_side (4 * e.0) (open_at fixed e) (4 * (e.0 + 1)) (flat_map (open_at fixed) es) (4 * m)
    (open_rises fixed e) (sides_rise fixed (e.0 + 1) es m r.1))

all_open_rise : (fixed : List Bool) (slots : List (Option Cell))
    → Rises number_of_side (4 * 0) (all_open fixed slots) (4 * (0 + length slots))
all_open_rise fixed slots = sides_rise fixed 0 (entries_from 0 slots) (0 + length slots) (entries_rise 0 slots)

pub sides_apart : (fixed : List Bool) (slots : List (Option Cell)) → AreDistinctBy number_of_side (all_open fixed slots)
sides_apart fixed slots =
    rises_apart number_of_side (4 * 0) (all_open fixed slots) (4 * (0 + length slots)) (all_open_rise fixed slots)

cut_rises_at : (outside : List Bool) (e : ℕ × Cell) → Rises number_of_side (4 * e.0) (cut_at outside e) (4 * (e.0 + 1))
unfolding cut_at
cut_rises_at outside e = grind (arith, open_rises)

cut_rises : (outside : List Bool) (n : ℕ) (es : List (ℕ × Cell)) (m : ℕ) → Rises key_of n es m → Rises number_of_side (4 * n)
    (flat_map (cut_at outside) es) (4 * m)
unfolding key_of
cut_rises outside n [] m r = omega (arith, r)
cut_rises outside n (e ∷ es) m r =
    let a = r.0 in
    rises_from number_of_side (4 * n) (4 * e.0) (cut_at outside e ++ flat_map (cut_at outside) es) (4 * m) (omega (arith, a))
    (rises_append number_of_side (4 * e.0) (cut_at outside e) (4 * (e.0 + 1)) (flat_map (cut_at outside) es) (4 * m)
    (cut_rises_at outside e) (cut_rises outside (e.0 + 1) es m r.1))

pub cut_apart : (outside : List Bool) (slots : List (Option Cell)) → AreDistinctBy number_of_side (all_cut outside slots)
cut_apart outside slots =
    rises_apart number_of_side (4 * 0) (all_cut outside slots) (4 * (0 + length slots))
    (cut_rises outside 0 (entries_from 0 slots) (0 + length slots) (entries_rise 0 slots))

-- ---- what is a row
module _ (slots : List (Option Cell)) where
  pub record IsRowAt (r : Row) : Type 0 where
    pub live : IsLive (links_of slots) r.id
    pub is : r.cell ≡ row_of slots r.id

  pub row_is : (r : Row) → Contains (all_rows slots) r → IsRowAt r
  row_is r h =
      let p = map_has row_at (entries_from 0 slots) r h in
      let at : slot_at slots p.from.0 ≡ Some p.from.1 = entry_slot slots p.from p.listed in
      subst IsRowAt p.is
      (record { live = ap is_some at; is = ap (λ (o : Option Cell). row_from (risen (vertices_in o))) (sym at) })

  pub row_there : (id : ℕ) → IsLive (links_of slots) id → (r : Row) × Contains (all_rows slots) r × (r.id ≡ id)
  row_there id h = by (slot_at slots id) refl h
    where
      by : (o : Option Cell) → slot_at slots id ≡ o → is_some o ≡ true → (r : Row) × Contains (all_rows slots) r × (r.id ≡ id)
      by None e n = absurd (cc)
      by (Some c) e n = (row_at (id, c), map_gets row_at (entries_from 0 slots) (id, c) (slot_entry slots id c e), refl)

  -- ---- what is a side
  pub record IsSideAt (fixed : List Bool) (x : Side) : Type 0 where
    pub live : IsLive (links_of slots) x.id
    pub in_range : x.side < 4
    pub other : ℕ
    pub next : (links_of slots).next x.id x.side ≡ Some other
    pub free : flag_at fixed other ≡ false
    pub is : x.facet ≡ facet_row ((links_of slots).at x.id) x.side

  one_is : (fixed : List Bool) (e : ℕ × Cell) (k : ℕ) (x : Side) → k < 4 → slot_at slots e.0 ≡ Some e.1
      → Contains (side_if_open fixed e k) x → IsSideAt fixed x
  unfolding side_if_open
  one_is fixed e k x l at h = grind arith

  open_is : (fixed : List Bool) (e : ℕ × Cell) (x : Side) → slot_at slots e.0 ≡ Some e.1 → Contains (open_at fixed e) x
      → IsSideAt fixed x
  open_is fixed e x at h =
      let a = side_if_open fixed e 0 in
      let b = side_if_open fixed e 1 in
      let c = side_if_open fixed e 2 in
      let d = side_if_open fixed e 3 in
      ⊎_elim (λ g. one_is fixed e 0 x (omega arith) at g)
      (λ g. ⊎_elim (λ g. one_is fixed e 1 x (omega arith) at g)
      (λ g. ⊎_elim (λ g. one_is fixed e 2 x (omega arith) at g) (λ g. one_is fixed e 3 x (omega arith) at g)
      (Contains-append_cases c d x g))
      (Contains-append_cases b (c ++ d) x g))
      (Contains-append_cases a (b ++ (c ++ d)) x h)

  pub side_is : (fixed : List Bool) (x : Side) → Contains (all_open fixed slots) x → IsSideAt fixed x
  side_is fixed x h =
      let p = flat_map_has (open_at fixed) (entries_from 0 slots) x h in
      open_is fixed p.from x (entry_slot slots p.from p.listed) p.has

  id_of_open : (fixed : List Bool) (e : ℕ × Cell) (x : Side) → Contains (open_at fixed e) x → x.id ≡ e.0
  unfolding side_if_open
  id_of_open fixed e x h = grind (arith, Contains-append_cases)

  -- a side of an outside cell
  pub cut_is : (outside : List Bool) (x : Side) → Contains (all_cut outside slots) x
      → IsSideAt outside x × (flag_at outside x.id ≡ true)
  unfolding cut_at
  cut_is outside x h =
      let p = flat_map_has (cut_at outside) (entries_from 0 slots) x h in
      by p.from (entry_slot slots p.from p.listed) (flag_at outside p.from.0) refl p.has
    where
      by : (e : ℕ × Cell) → slot_at slots e.0 ≡ Some e.1 → (b : Bool) → flag_at outside e.0 ≡ b
          → Contains (cond b (open_at outside e) []) x → IsSideAt outside x × (flag_at outside x.id ≡ true)
      by e at true f g = (open_is outside e x at g, ap (flag_at outside) (id_of_open outside e x g) ∙ f)
      by e at false f g = absurd (omega (arith, g.1))

  pub one_there : (fixed : List Bool) (e : ℕ × Cell) (k other : ℕ) → get_or e.1.next k None ≡ Some other
      → flag_at fixed other ≡ false
      → Contains (side_if_open fixed e k) (side_at e k)
  unfolding side_if_open
  one_there fixed e k other n f = grind (arith, here)

  open_there : (fixed : List Bool) (e : ℕ × Cell) (k other : ℕ) → k < 4 → get_or e.1.next k None ≡ Some other
      → flag_at fixed other ≡ false → Contains (open_at fixed e) (side_at e k)
  open_there fixed e zero other l n f = grind (arith, Contains-append_left, one_there)
  open_there fixed e (suc zero) other l n f = grind (arith, Contains-append_right, Contains-append_left, one_there)
  open_there fixed e (suc (suc zero)) other l n f =
      Contains-append_right (side_if_open fixed e 0)
      (side_if_open fixed e 1 ++ (side_if_open fixed e 2 ++ side_if_open fixed e 3)) (side_at e 2)
      (Contains-append_right (side_if_open fixed e 1) (side_if_open fixed e 2 ++ side_if_open fixed e 3) (side_at e 2)
      (Contains-append_left (side_if_open fixed e 2) (side_if_open fixed e 3) (side_at e 2) (one_there fixed e 2 other n f)))
  open_there fixed e (suc (suc (suc zero))) other l n f =
      Contains-append_right (side_if_open fixed e 0)
      (side_if_open fixed e 1 ++ (side_if_open fixed e 2 ++ side_if_open fixed e 3)) (side_at e 3)
      (Contains-append_right (side_if_open fixed e 1) (side_if_open fixed e 2 ++ side_if_open fixed e 3) (side_at e 3)
      (Contains-append_right (side_if_open fixed e 2) (side_if_open fixed e 3) (side_at e 3) (one_there fixed e 3 other n f)))
  open_there fixed e (suc (suc (suc (suc k)))) other l n f = absurd (omega (arith, l))

  pub side_there : (fixed : List Bool) (id k other : ℕ) → k < 4 → (links_of slots).next id k ≡ Some other
      → flag_at fixed other ≡ false → (x : Side) × Contains (all_open fixed slots) x × (x.id ≡ id) × (x.side ≡ k)
  side_there fixed id k other l n f = by (slot_at slots id) refl n
    where
      by : (o : Option Cell) → slot_at slots id ≡ o → next_in o k ≡ Some other
          → (x : Side) × Contains (all_open fixed slots) x × (x.id ≡ id) × (x.side ≡ k)
      by None e h = absurd (cc)
      by (Some c) e h = (
        side_at (id, c) k,
        flat_map_gets (open_at fixed) (entries_from 0 slots) (id, c) (side_at (id, c) k) (slot_entry slots id c e)
            (open_there fixed (id, c) k other l h f),
        refl,
        refl,
      )

  pub cut_there : (outside : List Bool) (id k other : ℕ) → k < 4 → (links_of slots).next id k ≡ Some other
      → flag_at outside other ≡ false → flag_at outside id ≡ true
      → (x : Side) × Contains (all_cut outside slots) x × (x.id ≡ id) × (x.side ≡ k)
  unfolding cut_at
  cut_there outside id k other l n f own = by (slot_at slots id) refl n
    where
      by : (o : Option Cell) → slot_at slots id ≡ o → next_in o k ≡ Some other
          → (x : Side) × Contains (all_cut outside slots) x × (x.id ≡ id) × (x.side ≡ k)
      by None e h = absurd (cc)
      by (Some c) e h =
          let listed : Contains (cut_at outside (id, c)) (side_at (id, c) k) =
          subst (λ (b : Bool). Contains (cond b (open_at outside (id, c)) []) (side_at (id, c) k)) (sym own)
          (open_there outside (id, c) k other l h f) in (
            side_at (id, c) k,
            flat_map_gets (cut_at outside) (entries_from 0 slots) (id, c) (side_at (id, c) k) (slot_entry slots id c e) listed,
            refl,
            refl,
          )
