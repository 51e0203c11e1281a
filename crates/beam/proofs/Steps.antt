-- A step of a line of sight outward, and the sums that it keeps.
--
-- Through the facet at which it came in a sight goes to the adjacent cell, which is on it, too (went). There it is yet to cross
-- just that facet less (yet_step of Back). So its weight, added to the counter of the facet, is what it is yet to add less
-- (raised, still), and it has one step less (shorter). Where it ends nothing is left to add (ended), and in the scanner's cell
-- all that it adds is (begun).
use Rattle.std.proofs.Common.{ℕ, ◌<◌, ◌≤◌, ◌+◌, ◌*◌, ◌≡◌, ◌≢◌, refl, sym, ap, subst, ◌∙◌, arith, Bool, true, false, true≢false}
use Rattle.std.proofs.Common.{cond, Some, None, List, length, set, get_or}
use Rattle.std.proofs.Math.Nat.{mul-add}
use Rattle.std.proofs.lemmas.List.{get_or-set_same, get_or-set_other}
use Rattle.std.proofs.lemmas.Option.{same_Some}
use Rattle.geo_sign.specs.declared.point.TheConstants.{DATA_LIMIT}
use Rattle.geo_sign.specs.Point.{Point, IsWithin}
use Rattle.geo_sign.specs.Rational.{displaced}
use Rattle.geo_sign.specs.Sights.{is_crossed, is_towards}
use Rattle.geo_sign.specs.Tetrahedron.{facet_of}
use Rattle.cell_laws.specs.Links.{Side}
use Rattle.geo_sign.specs.Edges.{one_if}
use Rattle.cell_laws.specs.Paths.{is_that}
use Rattle.cell_laws.proofs.OneFacet.{same_side}
use Rattle.cell_laws.proofs.SightPaths.{that_is, that_itself}
use Rattle.tetra_store.specs.Delaunay.{IsDelaunay}
use Rattle.tetra_store.specs.Links.{links_of, IsLive}
use Rattle.tetra_store.specs.Store.{Store, vertices_of, IsStore}
use Rattle.tetra_store.proofs.Observed.{slot_in}
use Rattle.sight.specs.Walks.{IsEndCell}
use Rattle.sight.proofs.Paths.{IsGiven}
use Rattle.beam.specs.declared.ways.Ray.{Ray}
use Rattle.beam.specs.Ways.{IsRayIn}
use Rattle.beam.specs.Beams.{IsWaiting, weight_on, is_yet, still_added, steps_left}
use Rattle.beam.proofs.Back.{side_at, IsOutward, outward, at_scanner, yet_all, yet_none, yet_step, short, longer}

-- what stands for all lines of sight of the scanner
pub record IsScene (s : Store) (o : Point) : Type 0 where
  pub store : IsStore s
  pub delaunay : IsDelaunay (vertices_of s) (links_of s.slots)
  pub data_point : IsWithin DATA_LIMIT o

given : (s : Store) (o : Point) (r : Ray) → IsScene s o → IsRayIn s r → IsGiven s r.vertex o
given s o r c h = record { store = c.store; delaunay = c.delaunay; inserted = h.inserted; data_point = c.data_point }

-- ---- a step
-- the cell across, whatever the link says
pub went : (s : Store) (o : Point) (r : Ray) (y j : ℕ) → IsScene s o → IsWaiting s o y r → j < 4
    → is_crossed (vertices_of s) r.vertex (displaced o) (facet_of ((links_of s.slots).at y) j) ≡ true
    → (z : ℕ) × IsOutward s r.vertex o (side_at y j) z
went s o r y j c w l h = outward s r.vertex o (given s o r c w.ray) w.ray.data_vertex (side_at y j) w.live l h

pub not_none : (s : Store) (o : Point) (r : Ray) (y j : ℕ) → (z : ℕ) × IsOutward s r.vertex o (side_at y j) z
    → (links_of s.slots).next y j ≡ None → ⊥
not_none s o r y j w e = let a : Some w.0 ≡ None = sym w.1.across ∙ e in absurd (cc)

pub to_next : (s : Store) (o : Point) (r : Ray) (y j n : ℕ) → (z : ℕ) × IsOutward s r.vertex o (side_at y j) z
    → (links_of s.slots).next y j ≡ Some n → IsOutward s r.vertex o (side_at y j) n
to_next s o r y j n w e =
    subst (λ (x : ℕ). IsOutward s r.vertex o (side_at y j) x) (same_Some w.0 n (sym w.1.across ∙ e)) w.1

pub waits : (s : Store) (o : Point) (r : Ray) (y j z : ℕ) → IsRayIn s r → IsOutward s r.vertex o (side_at y j) z
    → IsWaiting s o z r
waits s o r y j z h w = record { ray = h; live = w.live; on = w.on }

-- ---- its counter
place_apart : (a b id k : ℕ) → b < 4 → k < 4 → 4 * id + k ≡ 4 * a + b → (id ≡ a) × (k ≡ b)
place_apart a b id k l m e = (omega (arith, l, m, e), omega (arith, l, m, e))

pub raised : (xs : List ℕ) (y j id k w : ℕ) → j < 4 → k < 4 → 4 * y + j < length xs
    → get_or (set xs (4 * y + j) (get_or xs (4 * y + j) 0 + w)) (4 * id + k) 0
    ≡ get_or xs (4 * id + k) 0 + w * one_if (is_that (side_at id k) (side_at y j))
raised xs y j id k w l m h = by (is_that (side_at id k) (side_at y j)) refl
  where
    i : ℕ
    i = 4 * y + j

    by : (b : Bool) → is_that (side_at id k) (side_at y j) ≡ b
        → get_or (set xs i (get_or xs i 0 + w)) (4 * id + k) 0
        ≡ get_or xs (4 * id + k) 0 + w * one_if (is_that (side_at id k) (side_at y j))
    by true e =
        let q : side_at y j ≡ side_at id k = that_is (side_at id k) (side_at y j) e in
        let at : 4 * id + k ≡ i = ap (λ (x : Side). 4 * x.at + x.side) (sym q) in
        let one : w * one_if (is_that (side_at id k) (side_at y j)) ≡ w * 1 = ap (λ (b : Bool). w * one_if b) e in
        let here : get_or (set xs i (get_or xs i 0 + w)) i 0 ≡ get_or xs i 0 + w = get_or-set_same xs i (get_or xs i 0 + w) 0 h in
        let there : get_or (set xs i (get_or xs i 0 + w)) (4 * id + k) 0 ≡ get_or xs (4 * id + k) 0 + w =
        subst (λ (n : ℕ). get_or (set xs i (get_or xs i 0 + w)) n 0 ≡ get_or xs n 0 + w) (sym at) here in
        omega (arith, there, one)
    by false e =
        let none : w * one_if (is_that (side_at id k) (side_at y j)) ≡ w * 0 = ap (λ (b : Bool). w * one_if b) e in
        let n : 4 * id + k ≢ i = λ at.
        (let z = place_apart y j id k l m at in
        let q : side_at id k ≡ side_at y j = same_side (side_at id k) (side_at y j) z.0 z.1 in
        true≢false (sym (that_itself (side_at y j)) ∙ ap (λ (x : Side). is_that x (side_at y j)) (sym q) ∙ e)) in
        let there : get_or (set xs i (get_or xs i 0 + w)) (4 * id + k) 0 ≡ get_or xs (4 * id + k) 0 =
        get_or-set_other xs i (4 * id + k) (get_or xs i 0 + w) 0 n in
        omega (arith, there, none)

-- ---- what it is yet to add
pub still : (s : Store) (o : Point) (r : Ray) (y j z : ℕ) → IsOutward s r.vertex o (side_at y j) z → (id k : ℕ)
    → IsLive (links_of s.slots) id → k < 4
    → still_added s o id k y r ≡ still_added s o id k z r + r.added * one_if (is_that (side_at id k) (side_at y j))
still s o r y j z w id k m b =
    ap (λ (n : ℕ). r.added * n) (yet_step s r.vertex o y j z w id k m b)
    ∙ mul-add r.added (is_yet s o id k z r.vertex) (one_if (is_that (side_at id k) (side_at y j)))

-- at least its weight, on the facet that it is at
pub at_least : (s : Store) (o : Point) (r : Ray) (y j z : ℕ) → IsOutward s r.vertex o (side_at y j) z
    → IsLive (links_of s.slots) y → j < 4 → r.added ≤ still_added s o y j y r
at_least s o r y j z w m b =
    let a = still s o r y j z w y j m b in
    let e : r.added * one_if (is_that (side_at y j) (side_at y j)) ≡ r.added * 1 =
    ap (λ (b : Bool). r.added * one_if b) (that_itself (side_at y j)) in
    omega (arith, a, e)

pub ended : (s : Store) (o : Point) (r : Ray) (y : ℕ) → IsScene s o → IsWaiting s o y r
    → is_towards (vertices_of s) r.vertex (displaced o) ((links_of s.slots).at y) ≡ true → (id k : ℕ)
    → IsLive (links_of s.slots) id → k < 4 → still_added s o id k y r ≡ 0
ended s o r y c w h id k m b =
    let none : r.added * 0 ≡ 0 = omega arith in
    ap (λ (n : ℕ). r.added * n) (yet_none s r.vertex o (given s o r c w.ray) y w.live h id k m b) ∙ none

pub begun : (s : Store) (o : Point) (r : Ray) (e : ℕ) → IsScene s o → IsRayIn s r → IsEndCell s o e → (id k : ℕ)
    → still_added s o id k e r ≡ weight_on s o id k r
begun s o r e c h n id k =
    ap (λ (m : ℕ). r.added * m) (yet_all s r.vertex o (given s o r c h) e n.live n.is id k)
    ∙ by (is_crossed (vertices_of s) r.vertex (displaced o) (facet_of ((links_of s.slots).at id) k))
  where
    by : (b : Bool) → r.added * one_if b ≡ cond b r.added 0
    by true = omega arith
    by false = omega arith

pub first : (s : Store) (o : Point) (r : Ray) (e : ℕ) → IsScene s o → IsRayIn s r → IsEndCell s o e → IsWaiting s o e r
first s o r e c h n =
    record { ray = h; live = n.live; on = at_scanner s r.vertex o (given s o r c h) h.data_vertex e n.live n.is }

-- ---- how many steps
pub shorter : (s : Store) (o : Point) (r : Ray) (y j z : ℕ) → IsOutward s r.vertex o (side_at y j) z
    → steps_left s o z r + 1 ≤ steps_left s o y r
shorter s o r y j z w =
    let a = longer s r.vertex o (side_at y j) z w in
    let b = short s r.vertex o z in
    omega (arith, a, b)

pub below : (s : Store) (y j n : ℕ) → IsLive (links_of s.slots) y → j < 4 → 4 * length s.slots ≤ n → 4 * y + j < n
below s y j n l m f = let i = slot_in s.slots y l in omega (arith, i, m, f)
