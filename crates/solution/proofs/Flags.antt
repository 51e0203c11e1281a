-- Flags of cells, while cells and scanners are gone through. The cells that `cells` lists are all live ones, so a cell is still
-- to come or its flag says whether it has a corner. A scanner more sets the flag of its cell, which is the only one that has
-- that scanner.
use Rattle.std.proofs.Common.{ℕ, ◌<◌, ◌≤◌, ◌+◌, ◌≡◌, ◌≢◌, ◌⊎◌, inl, inr, ⊎_elim, refl, sym, ap, subst, ◌∙◌, arith, Bool, true}
use Rattle.std.proofs.Common.{false, true≢false, eqb, ◌||◌, Option, Some, None, is_some, List, [], ◌∷◌, ◌++◌, length, set, take}
use Rattle.std.proofs.Common.{get_or, slice_index, Contains}
use Rattle.std.proofs.lemmas.Bool.{eqb-true, eqb-false}
use Rattle.std.proofs.lemmas.List.{get_or-set_same, get_or-set_other, length-set, length_push, get_or_push, get_or_append_left}
use Rattle.std.proofs.lemmas.List.Folds.{list_any_more}
use Rattle.slab.specs.Slab.{entries_from}
use Rattle.slab.proofs.SlabLemmas.{Contains-cons, Contains-cons_cases}
use Rattle.geo_sign.specs.Point.{Point, origin}
use Rattle.geo_sign.specs.Rational.{displaced}
use Rattle.geo_sign.specs.Sights.{is_cell_of}
use Rattle.flow_net.specs.Nets.{flag_at}
use Rattle.visibility.specs.Votes.{has_corner, has_scanner}
use Rattle.tetra_store.specs.declared.link.Cell.{Cell}
use Rattle.tetra_store.specs.Links.{links_of, slot_at, vertices_in, tetrahedron_from, IsLive}
use Rattle.tetra_store.specs.Store.{Store, vertices_of}
use Rattle.tetra_store.proofs.Observed.{listed_cells, slot_in}
use Rattle.solution.specs.Counts.{IsScannerCell, AreScannerCells}

-- ---- corners
abbrev corner_of : Cell → Bool
corner_of c = has_corner (tetrahedron_from c.v)

-- the cells that are left are the store's, and the flags of the others are right
pub record AreFlagged (slots : List (Option Cell)) (left : List (ℕ × Cell)) (flags : List Bool) : Type 0 where
  pub fits : length slots ≤ length flags
  pub only : (id : ℕ) (c : Cell) → Contains left (id, c) → slot_at slots id ≡ Some c
  pub flagged : (id : ℕ) (c : Cell) → slot_at slots id ≡ Some c → Contains left (id, c) ⊎ (flag_at flags id ≡ corner_of c)

pub none_flagged : (slots : List (Option Cell)) (flags : List Bool) → length slots ≤ length flags →
    AreFlagged slots (entries_from 0 slots) flags
none_flagged slots flags l =
    record { fits = l; only = λ id c. (listed_cells slots id c).0; flagged = λ id c e. inl ((listed_cells slots id c).1 e) }

some_is : {x y : Cell} → Some x ≡ Some y → x ≡ y
some_is h = cc

module _ (slots : List (Option Cell)) (id : ℕ) (c : Cell) (left : List (ℕ × Cell)) (flags : List Bool)
    (h : AreFlagged slots ((id, c) ∷ left) flags) where
  here : slot_at slots id ≡ Some c
  here = h.only id c (0, omega arith, refl)

  pub flag_in : id < length flags
  flag_in = let l = slot_in slots id (ap is_some here) in let m = h.fits in omega (arith, l, m)

  flag_set : (z : Bool) (n : ℕ) (d : Cell) → eqb n id ≡ z → slot_at slots n ≡ Some d →
      Contains ((id, c) ∷ left) (n, d) ⊎ (flag_at flags n ≡ corner_of d) →
      Contains left (n, d) ⊎ (flag_at (set flags id (corner_of c)) n ≡ corner_of d)
  flag_set true n d z i o =
      let q : n ≡ id = eqb-true n id z in
      let w : c ≡ d = some_is (sym here ∙ (ap (slot_at slots) (sym q) ∙ i)) in
      inr (ap (flag_at (set flags id (corner_of c))) q
      ∙ (get_or-set_same flags id (corner_of c) false flag_in ∙ ap (λ (x : Cell). corner_of x) w))
  flag_set false n d z i o =
      let e : n ≢ id = eqb-false n id z in
      ⊎_elim
      (λ a. ⊎_elim (λ (same : (id, c) ≡ (n, d)). absurd (e (sym (ap (λ (p : ℕ × Cell). p.0) same)))) (λ b. inl b)
      (Contains-cons_cases (id, c) (n, d) left a))
      (λ a. inr (get_or-set_other flags id n (corner_of c) false e ∙ a)) o

  pub one_flagged : AreFlagged slots left (set flags id (corner_of c))
  one_flagged =
      let m : length slots ≤ length flags = h.fits in
      let n : length (set flags id (corner_of c)) ≡ length flags = length-set flags id (corner_of c) in
      record {
        fits = omega (arith, m, n);
        only = λ x d i. h.only x d (Contains-cons (id, c) (x, d) left i);
        flagged = λ x d i. flag_set (eqb x id) x d refl i (h.flagged x d i);
      }

pub entry_in_range : (slots : List (Option Cell)) (left rest : List (ℕ × Cell)) (flags : List Bool) (id n : ℕ) (c : Cell) →
    left ≡ (id, c) ∷ rest → n ≡ id → AreFlagged slots left flags → n < length flags
entry_in_range slots left rest flags id n c e i h =
    let l : id < length flags =
    flag_in slots id c rest flags (subst (λ (xs : List (ℕ × Cell)). AreFlagged slots xs flags) e h) in
    omega (arith, l, i)

pub entry_flagged : (slots : List (Option Cell)) (left rest : List (ℕ × Cell)) (flags : List Bool) (id n : ℕ)
    (c : Cell) (b : Bool)
    → left ≡ (id, c) ∷ rest → n ≡ id → b ≡ has_corner (tetrahedron_from c.v) → AreFlagged slots left flags
    → AreFlagged slots rest (set flags n b)
entry_flagged slots left rest flags id n c b e i f h =
    subst (λ (m : ℕ). AreFlagged slots rest (set flags m b)) (sym i)
    (subst (λ (z : Bool). AreFlagged slots rest (set flags id z)) (sym f)
    (one_flagged slots id c rest flags (subst (λ (xs : List (ℕ × Cell)). AreFlagged slots xs flags) e h)))

pub all_flagged : (slots : List (Option Cell)) (flags : List Bool) → AreFlagged slots [] flags → (id : ℕ) →
    IsLive (links_of slots) id → flag_at flags id ≡ has_corner ((links_of slots).at id)
all_flagged slots flags h id live = by (slot_at slots id) refl
  where
    by : (o : Option Cell) → slot_at slots id ≡ o → flag_at flags id ≡ has_corner ((links_of slots).at id)
    by None e = absurd (true≢false (sym live ∙ ap is_some e))
    by (Some c) e =
        ⊎_elim (λ (a : Contains [] (id, c)). absurd (omega (arith, a.1)))
        (λ (a : flag_at flags id ≡ corner_of c). a ∙ ap (λ (z : Option Cell). has_corner (vertices_in z)) (sym e))
        (h.flagged id c e)

-- ---- the cells of scanners
-- the cells are those of the first n scanners
pub record AreFirstCells (s : Store) (scanners : List Point) (n : ℕ) (cells : List ℕ) : Type 0 where
  pub count : length cells ≡ n
  pub at : (k : ℕ) → k < n → IsScannerCell s (get_or scanners k origin) (slice_index cells k)

pub one_found : (s : Store) (scanners : List Point) (n : ℕ) (cells : List ℕ) (id : ℕ) → AreFirstCells s scanners n cells →
    IsScannerCell s (get_or scanners n origin) id → AreFirstCells s scanners (n + 1) (cells ++ id ∷ [])
one_found s scanners n cells id h is =
    record {
      count = let a = length_push cells id in let b = h.count in omega (arith, a, b);
      at = λ k l. at k (search (arith, l));
    }
  where
    at : (k : ℕ) → (k < n) ⊎ (n ≡ k) → IsScannerCell s (get_or scanners k origin) (slice_index (cells ++ id ∷ []) k)
    at k (inl l) =
        let c = h.count in
        subst (λ (x : ℕ). IsScannerCell s (get_or scanners k origin) x)
        (sym (get_or_append_left cells (id ∷ []) 0 k (omega (arith, c, l)))) (h.at k l)
    at k (inr e) =
        subst (λ (m : ℕ). IsScannerCell s (get_or scanners m origin) (slice_index (cells ++ id ∷ []) m)) e
        (subst (λ (x : ℕ). IsScannerCell s (get_or scanners n origin) x) (sym (get_or_push cells id 0 n h.count)) is)

-- ---- scanners
-- a scanner lies in the cell with a number
abbrev pub holds : Store → List Point → ℕ → Bool
holds s scanners id = has_scanner (vertices_of s) scanners ((links_of s.slots).at id)

-- the cells with a corner and those of the first n scanners are flagged
pub record AreFixedTo (s : Store) (scanners : List Point) (n : ℕ) (flags : List Bool) : Type 0 where
  pub fits : length s.slots ≤ length flags
  pub flagged : (id : ℕ) → IsLive (links_of s.slots) id →
      flag_at flags id ≡ (has_corner ((links_of s.slots).at id) || holds s (take n scanners) id)

or_false : (b : Bool) → b ≡ (b || false)
or_false true = refl
or_false false = refl

or_true : (b : Bool) → true ≡ (b || true)
or_true true = refl
or_true false = refl

or_or : (a b c : Bool) → ((a || b) || c) ≡ (a || (b || c))
or_or true b c = refl
or_or false b c = refl

one_fixed : (s : Store) (scanners : List Point) (n found : ℕ) (flags : List Bool) → n < length scanners → found < length flags →
    IsScannerCell s (get_or scanners n origin) found → AreFixedTo s scanners n flags →
    AreFixedTo s scanners (n + 1) (set flags found true)
one_fixed s scanners n found flags l m is h =
    record {
      fits = let a = h.fits in let b = length-set flags found true in omega (arith, a, b);
      flagged = λ id live.
          flag id live (eqb id found) refl
          ∙ (ap (λ (b : Bool). b || test id (get_or scanners n origin)) (h.flagged id live)
          ∙ (or_or (has_corner ((links_of s.slots).at id)) (holds s (take n scanners) id) (test id (get_or scanners n origin))
          ∙ ap (λ (b : Bool). has_corner ((links_of s.slots).at id) || b) (sym (list_any_more (test id) scanners n origin l))));
    }
  where
    test : ℕ → Point → Bool
    test id q = is_cell_of (vertices_of s) (displaced q) ((links_of s.slots).at id)

    no : (id : ℕ) → IsLive (links_of s.slots) id → id ≢ found → (b : Bool) → test id (get_or scanners n origin) ≡ b → b ≡ false
    no id live e true t = absurd (e (is.only id live t))
    no id live e false t = refl

    flag : (id : ℕ) → IsLive (links_of s.slots) id → (z : Bool) → eqb id found ≡ z →
        flag_at (set flags found true) id ≡ (flag_at flags id || test id (get_or scanners n origin))
    flag id live true z =
        let q : id ≡ found = eqb-true id found z in
        ap (flag_at (set flags found true)) q
        ∙ (get_or-set_same flags found true false m
        ∙ (or_true (flag_at flags id)
        ∙ ap (λ (b : Bool). flag_at flags id || b) (sym (ap (λ (x : ℕ). test x (get_or scanners n origin)) q ∙ is.end.is))))
    flag id live false z =
        let e : id ≢ found = eqb-false id found z in
        let t : test id (get_or scanners n origin) ≡ false = no id live e (test id (get_or scanners n origin)) refl in
        get_or-set_other flags found id true false e
        ∙ (or_false (flag_at flags id) ∙ ap (λ (b : Bool). flag_at flags id || b) (sym t))

-- the cell of the next scanner has a flag, and setting it fixes that scanner's cell
pub scanner_flag_in : (s : Store) (scanners : List Point) (cells : List ℕ) (n : ℕ) (flags : List Bool) →
    AreScannerCells s scanners cells → n < length cells → AreFixedTo s scanners n flags → slice_index cells n < length flags
scanner_flag_in s scanners cells n flags are l h =
    let m = are.count in
    let is = are.at n (omega (arith, l, m)) in
    let a = slot_in s.slots (slice_index cells n) is.end.live in
    let b = h.fits in
    omega (arith, a, b)

pub scanner_fixed : (s : Store) (scanners : List Point) (cells : List ℕ) (n : ℕ) (flags : List Bool) →
    AreScannerCells s scanners cells → n < length cells → AreFixedTo s scanners n flags →
    AreFixedTo s scanners (n + 1) (set flags (slice_index cells n) true)
scanner_fixed s scanners cells n flags are l h =
    let m = are.count in let k : n < length scanners = omega (arith, l, m) in
    one_fixed s scanners n (slice_index cells n) flags k (scanner_flag_in s scanners cells n flags are l h) (are.at n k) h
