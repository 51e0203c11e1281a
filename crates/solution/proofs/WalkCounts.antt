-- The counters of facets while a walk along a sight goes on. What is counted so far, what the facets to come will add, and what
-- is still to be added beside this walk, is always the same total; a step moves the first facet from the second to the first.
-- So two walks can take turns: what the one has still to add stands beside the other. Each side stands among the facets of a
-- sight once or not at all, as the sight crosses it or not, so at the end the amount has been added to exactly the crossed
-- ones.
use Rattle.std.proofs.Common.{ℕ, ◌<◌, ◌≤◌, ◌+◌, ◌*◌, ◌^◌, ◌≡◌, ◌≢◌, refl, sym, ap, subst, ◌∙◌, arith, Bool, true}
use Rattle.std.proofs.Common.{false, true≢false, ◌&&◌, cond, List, [], ◌∷◌, length, set, slice_index}
use Rattle.std.proofs.lemmas.List.{get_or-set_same, get_or-set_other, length-set}
use Rattle.geo_sign.specs.Point.{Point}
use Rattle.geo_sign.specs.Rational.{displaced}
use Rattle.geo_sign.specs.Sights.{is_crossed}
use Rattle.geo_sign.specs.Tetrahedron.{facet_of}
use Rattle.cell_laws.specs.Links.{Side}
use Rattle.cell_laws.specs.Lists.{count}
use Rattle.geo_sign.specs.Edges.{one_if}
use Rattle.cell_laws.specs.Paths.{is_that}
use Rattle.cell_laws.proofs.OneFacet.{same_side}
use Rattle.cell_laws.proofs.SightPaths.{that_is, that_itself, count_none}
use Rattle.tetra_store.specs.Links.{links_of, IsLive}
use Rattle.tetra_store.specs.Store.{Store, vertices_of}
use Rattle.tetra_store.proofs.Observed.{slot_in}
use Rattle.sight.specs.Walks.{Walk, IsSight, IsGoneOn}
use Rattle.solution.specs.declared.tally.Line.{Line}
use Rattle.solution.specs.Counts.{is_crossed_at, is_behind_at}
use Rattle.solution.specs.Lines.{added_on, added_behind, HasCounterRoom, IsCountedStep}

abbrev pub side : (id k : ℕ) → Side
side id k = record { at = id; side = k }

-- what a list of sides adds to the counter of a side
abbrev pub adds : (amount : ℕ) → Side → List Side → ℕ
adds amount c [] = 0
adds amount c (d ∷ ds) = cond (is_that c d) amount 0 + adds amount c ds

-- the counters, what the walk adds from here on, and what else is still added make the total
pub record IsCounting (s : Store) (amount : ℕ) (now : Walk) (beside total : (id k : ℕ) → ℕ) (crossed : List ℕ) : Type 0 where
  pub store : now.store ≡ s
  pub sums : (id k : ℕ) → k < 4
      → slice_index crossed (4 * id + k) + adds amount (side id k) now.to_come + beside id k ≡ total id k

-- what a walk adds from here on
abbrev pub rest_of : (amount : ℕ) → Walk → (id k : ℕ) → ℕ
rest_of amount w id k = adds amount (side id k) w.to_come

place_apart : (a b id k : ℕ) → b < 4 → k < 4 → 4 * id + k ≡ 4 * a + b → (id ≡ a) × (k ≡ b)
place_apart a b id k l m e = (omega (arith, l, m, e), omega (arith, l, m, e))

-- ---- one side more
count_step : (amount id k : ℕ) (d : Side) (rest : List Side) (xs : List ℕ) → k < 4 → d.side < 4 → 4 * d.at + d.side < length xs
    → slice_index (set xs (4 * d.at + d.side) (slice_index xs (4 * d.at + d.side) + amount)) (4 * id + k)
    + adds amount (side id k) rest ≡ slice_index xs (4 * id + k) + adds amount (side id k) (d ∷ rest)
count_step amount id k d rest xs l m h = by (is_that (side id k) d) refl
  where
    j : ℕ
    j = 4 * d.at + d.side

    by : (b : Bool) → is_that (side id k) d ≡ b
        → slice_index (set xs j (slice_index xs j + amount)) (4 * id + k) + adds amount (side id k) rest
        ≡ slice_index xs (4 * id + k) + adds amount (side id k) (d ∷ rest)
    by true e =
        let q : d ≡ side id k = that_is (side id k) d e in
        let i : 4 * id + k ≡ j = ap (λ (x : Side). 4 * x.at + x.side) (sym q) in
        let one : cond (is_that (side id k) d) amount 0 ≡ amount = ap (λ (b : Bool). cond b amount 0) e in
        let here : slice_index (set xs j (slice_index xs j + amount)) j ≡ slice_index xs j + amount =
        get_or-set_same xs j (slice_index xs j + amount) 0 h in
        let there : slice_index (set xs j (slice_index xs j + amount)) (4 * id + k) ≡ slice_index xs (4 * id + k) + amount =
        subst (λ (n : ℕ). slice_index (set xs j (slice_index xs j + amount)) n ≡ slice_index xs n + amount) (sym i) here in
        omega (arith, there, one)
    by false e =
        let none : cond (is_that (side id k) d) amount 0 ≡ 0 = ap (λ (b : Bool). cond b amount 0) e in
        let n : 4 * id + k ≢ j = λ i.
        (let z = place_apart d.at d.side id k m l i in
        let q : side id k ≡ d = same_side (side id k) d z.0 z.1 in
        true≢false (sym (that_itself d) ∙ ap (λ (x : Side). is_that x d) (sym q) ∙ e)) in
        let there : slice_index (set xs j (slice_index xs j + amount)) (4 * id + k) ≡ slice_index xs (4 * id + k) =
        get_or-set_other xs j (4 * id + k) (slice_index xs j + amount) 0 n in
        omega (arith, there, none)

-- ---- how often a side stands in a list
-- a list that has a side once or not at all adds the amount or nothing
adds_once : (amount : ℕ) (c : Side) (ds : List Side) (b : Bool) → count (is_that c) ds ≡ one_if b →
    adds amount c ds ≡ cond b amount 0
adds_once amount c [] true e = absurd (omega (arith, e))
adds_once amount c [] false e = refl
adds_once amount c (d ∷ ds) b e = by (is_that c d) refl b e (λ z f. adds_once amount c ds z f)
  where
    by : (z : Bool) → is_that c d ≡ z → (b : Bool) → one_if (is_that c d) + count (is_that c) ds ≡ one_if b →
        ((z : Bool) → count (is_that c) ds ≡ one_if z → adds amount c ds ≡ cond z amount 0) →
        cond (is_that c d) amount 0 + adds amount c ds ≡ cond b amount 0
    by true y true e later =
        let one : one_if (is_that c d) ≡ 1 = ap one_if y in
        let here : cond (is_that c d) amount 0 ≡ amount = ap (λ (b : Bool). cond b amount 0) y in
        let rest : adds amount c ds ≡ 0 = later false (omega (arith, one, e)) in
        omega (arith, here, rest)
    by true y false e later = let one : one_if (is_that c d) ≡ 1 = ap one_if y in absurd (omega (arith, one, e))
    by false y b e later =
        let none : one_if (is_that c d) ≡ 0 = ap one_if y in
        let here : cond (is_that c d) amount 0 ≡ 0 = ap (λ (b : Bool). cond b amount 0) y in
        let rest : adds amount c ds ≡ cond b amount 0 = later b (omega (arith, none, e)) in
        omega (arith, here, rest)

-- each side stands in a sight once if the sight crosses it, and else not at all
once : (w : Walk) → IsSight w → (id k : ℕ) → k < 4 →
    count (is_that (side id k)) w.to_come ≡ one_if (is_crossed_at w.store w.vertex (displaced w.scanner) id k)
once w h id k l = by ((links_of w.store.slots).is_live id) refl
  where
    by : (b : Bool) → (links_of w.store.slots).is_live id ≡ b →
        count (is_that (side id k)) w.to_come ≡ one_if (is_crossed_at w.store w.vertex (displaced w.scanner) id k)
    by true f =
        h.counted (side id k) f l
        ∙ ap (λ (b : Bool). one_if
        (b && is_crossed (vertices_of w.store) w.vertex (displaced w.scanner) (facet_of ((links_of w.store.slots).at id) k)))
        (sym f)
    by false f =
        count_none w.to_come (side id k) (λ i. true≢false (sym (h.crossed (side id k) i).0 ∙ f))
        ∙ ap (λ (b : Bool). one_if
        (b && is_crossed (vertices_of w.store) w.vertex (displaced w.scanner) (facet_of ((links_of w.store.slots).at id) k)))
        (sym f)

abbrev pub IsFrom : Store → ℕ → Point → Walk → Type 0
IsFrom s p o w = (w.store ≡ s) × (w.vertex ≡ p) × (w.scanner ≡ o)

-- so all of a sight adds the amount to what it crosses
all_add : (s : Store) (p : ℕ) (o : Point) (amount : ℕ) (w : Walk) → IsFrom s p o w → IsSight w → (id k : ℕ) → k < 4 →
    adds amount (side id k) w.to_come ≡ cond (is_crossed_at s p (displaced o) id k) amount 0
all_add s p o amount w e h id k l =
    adds_once amount (side id k) w.to_come (is_crossed_at s p (displaced o) id k)
    (subst (λ (t : Store). count (is_that (side id k)) w.to_come ≡ one_if (is_crossed_at t p (displaced o) id k)) e.0
    (subst (λ (n : ℕ). count (is_that (side id k)) w.to_come ≡ one_if (is_crossed_at w.store n (displaced o) id k)) e.1
    (subst (λ (q : Point). count (is_that (side id k)) w.to_come ≡ one_if (is_crossed_at w.store w.vertex (displaced q) id k))
    e.2 (once w h id k l))))

at_most : (b : Bool) (amount : ℕ) → cond b amount 0 ≤ amount
at_most true amount = omega arith
at_most false amount = omega arith

-- ---- a step of the walk
pub in_range : (s : Store) (from to : Walk) (xs : List ℕ) → from.store ≡ s → 4 * length s.slots ≤ length xs →
    IsGoneOn from to → 4 * to.at + to.entered < length xs
in_range s from to xs e h t =
    let l : IsLive (links_of s.slots) to.at = subst (λ (u : Store). IsLive (links_of u.slots) to.at) e t.live in
    let r = slot_in s.slots to.at l in
    let m = t.side_in in
    omega (arith, r, m, h)

-- a step keeps the total
pub counted_on : (s : Store) (amount : ℕ) (from to : Walk) (beside total : (id k : ℕ) → ℕ) (xs ys : List ℕ)
    → IsCounting s amount from beside total xs → 4 * length s.slots ≤ length xs → IsCountedStep amount from to xs ys
    → IsCounting s amount to beside total ys
counted_on s amount from to beside total xs ys h fits step =
    subst (λ (zs : List ℕ). IsCounting s amount to beside total zs) (sym step.raised)
    (record {
      store = step.on.same.0 ∙ h.store;
      sums = λ id k m.
          (let one =
          count_step amount id k (side to.at to.entered) to.to_come xs m step.on.side_in
          (in_range s from to xs h.store fits step.on) in
          let all : adds amount (side id k) from.to_come ≡ adds amount (side id k) (side to.at to.entered ∷ to.to_come) =
          ap (λ (ds : List Side). adds amount (side id k) ds) step.on.first in
          let sum = h.sums id k m in
          omega (arith, one, all, sum));
    })

-- and the number of counters
pub same_length : (amount : ℕ) (from to : Walk) (xs ys : List ℕ) → IsCountedStep amount from to xs ys → length ys ≡ length xs
same_length amount from to xs ys step =
    ap length step.raised ∙ length-set xs (4 * to.at + to.entered) (slice_index xs (4 * to.at + to.entered) + amount)

pub shorter : (amount : ℕ) (from to : Walk) (xs ys : List ℕ) → IsCountedStep amount from to xs ys
    → length to.to_come < length from.to_come
shorter amount from to xs ys step =
    let e : length from.to_come ≡ length to.to_come + 1 = ap length step.on.first ∙ plus in omega (arith, e)
  where
    plus : length (side to.at to.entered ∷ to.to_come) ≡ length to.to_come + 1
    plus = omega arith

-- so has a walk that is not counted
pub go_shorter : (from to : Walk) → IsGoneOn from to → length to.to_come < length from.to_come
go_shorter from to on = let e : length from.to_come ≡ length to.to_come + 1 = ap length on.first ∙ plus in omega (arith, e)
  where
    plus : length (side to.at to.entered ∷ to.to_come) ≡ length to.to_come + 1
    plus = omega arith

-- a counter that a walk raises has room where each total has
pub has_room : (s : Store) (amount : ℕ) (now : Walk) (beside total : (id k : ℕ) → ℕ) (xs : List ℕ)
    → IsCounting s amount now beside total xs
    → ((id k : ℕ) → k < 4 → total id k < 2 ^ 32) → HasCounterRoom now.to_come amount xs
has_room s amount now beside total xs h small d ds l e =
    let sum = h.sums d.at d.side l in
    let most = small d.at d.side l in
    let here : adds amount d now.to_come ≡ cond (is_that d d) amount 0 + adds amount d ds =
    ap (λ (list : List Side). adds amount d list) e in
    let one : cond (is_that d d) amount 0 ≡ amount = ap (λ (b : Bool). cond b amount 0) (that_itself d) in
    omega (arith, sum, most, here, one)

-- a walk's turn, whether it went on or was out, keeps the total and the number of counters
pub kept : (s : Store) (amount : ℕ) (from to : Walk) (beside total : (id k : ℕ) → ℕ) (xs ys : List ℕ) (b : Bool)
    → IsCounting s amount from beside total xs
    → 4 * length s.slots ≤ length xs → (b ≡ true → IsCountedStep amount from to xs ys)
    → (b ≡ false → (from.to_come ≡ []) × (to ≡ from) × (ys ≡ xs))
    → IsCounting s amount to beside total ys × (length ys ≡ length xs)
kept s amount from to beside total xs ys true h fits on out =
    (counted_on s amount from to beside total xs ys h fits (on refl), same_length amount from to xs ys (on refl))
kept s amount from to beside total xs ys false h fits on out = (
  subst (λ (w : Walk). IsCounting s amount w beside total ys) (sym (out refl).1)
      (subst (λ (zs : List ℕ). IsCounting s amount from beside total zs) (sym (out refl).2) h),
  ap length (out refl).2,
)

pub no_longer : (amount : ℕ) (from to : Walk) (xs ys : List ℕ) (b : Bool) → (b ≡ true → IsCountedStep amount from to xs ys) →
    (b ≡ false → (from.to_come ≡ []) × (to ≡ from) × (ys ≡ xs)) → length to.to_come ≤ length from.to_come
no_longer amount from to xs ys true on out = let l = shorter amount from to xs ys (on refl) in omega (arith, l)
no_longer amount from to xs ys false on out =
    let l : length to.to_come ≡ length from.to_come = ap (λ (w : Walk). length w.to_come) (out refl).1 in
    omega (arith, l)

-- two walks take turns: each is counted beside the other
pub in_turn : (s : Store) (amount other_amount : ℕ) (now other : Walk) (total : (id k : ℕ) → ℕ) (xs : List ℕ)
    → IsCounting s amount now (rest_of other_amount other) total xs
    → other.store ≡ s → IsCounting s other_amount other (rest_of amount now) total xs
in_turn s amount other_amount now other total xs h e =
    record { store = e; sums = λ id k l. (let sum = h.sums id k l in omega (arith, sum)) }

-- what is added by all of a line's facets
pub line_adds : (s : Store) (line : Line) (w : Walk) → IsFrom s line.vertex line.scanner w → IsSight w → (id k : ℕ) → k < 4 →
    rest_of line.added w id k ≡ added_on s line id k
line_adds s line w e h id k l = all_add s line.vertex line.scanner line.added w e h id k l

-- which is the amount at most
pub line_adds_at_most : (s : Store) (line : Line) (id k : ℕ) → added_on s line id k ≤ line.added
line_adds_at_most s line id k = at_most (is_crossed_at s line.vertex (displaced line.scanner) id k) line.added

pub line_adds_behind_at_most : (s : Store) (line : Line) (id : ℕ) → added_behind s line id ≤ line.added
line_adds_behind_at_most s line id = at_most (is_behind_at s line.vertex (displaced line.scanner) id) line.added
