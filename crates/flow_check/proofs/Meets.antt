-- Each network has exactly one minimum cut with the smallest inside.
--
-- The insides of two of them lie within each other, so they are the same (`least_inside_unique`). To find one, rank labels by
-- their cost, and those of one cost by the number of inside nodes. There are finitely many admissible labels, so some have the
-- least rank (`has_least`, node by node), and these have the least cost. Take any others of least cost. The nodes inside by
-- both, and those inside by one of the two, are admissible labels as well, and together they cost no more than the two
-- (`submodular`, arc by arc and node by node). So the labels inside by both have the least cost. Their rank is no lower than
-- the least, so they have no fewer nodes inside, though each of them is inside by the first labels: they have them all, and
-- these lie within the others (`ranked_least`).
use Rattle.std.proofs.Common.{ℕ, zero, suc, ◌≡◌, ◌<◌, ◌≤◌, ◌+◌, ◌*◌, Bool, true, false, cond, not, ◌&&◌, List, [], ◌∷◌, length}
use Rattle.std.proofs.Common.{map, refl, ap, ap₂, sym, ◌∙◌, inl, inr, arith}
use Rattle.std.specs.List.{range_with_len}
use Rattle.std.proofs.Math.Nat.{mul-le-mul_left}
use Rattle.std.proofs.lemmas.Bool.{false≢true, cases_lt, and_left}
use Rattle.std.proofs.lemmas.Bool.Decides.{same_from_decides}
use Rattle.std.proofs.lemmas.List.FromFn.{length-map-range_with_len, get_or-map-range_with_len}
use Rattle.flow_net.specs.Sums.{sum_below}
use Rattle.flow_net.specs.Nets.{flag_at}
use Rattle.flow_net.specs.Networks.{IsAdmissible, IsLeastCost, arc_cost, node_cost, cost}
use Rattle.flow_net.specs.Numbered.{NumberedNetwork, network_by}
use Rattle.flow_net.specs.NumberedFlows.{IsLeastInside}
use Rattle.flow_net.specs.declared.Labels.{Labels}
use Rattle.flow_net.proofs.SumLemmas.{sum_below-cong, sum_below-le, sum_below-add, sum_below-le_const, sum_below-tight}

-- lists of flags with the same flags are the same
same_flags : (a b : List Bool) → length a ≡ length b →
    ((v : ℕ) → v < length a → flag_at a v ≡ true → flag_at b v ≡ true) →
    ((v : ℕ) → v < length a → flag_at b v ≡ true → flag_at a v ≡ true) → a ≡ b
same_flags [] [] e p q = refl
same_flags [] (y ∷ ys) e p q = absurd (omega (arith, e))
same_flags (x ∷ xs) [] e p q = absurd (omega (arith, e))
same_flags (x ∷ xs) (y ∷ ys) e p q =
    let rest = same_flags xs ys (omega (arith, e)) (λ v l h. p (suc v) (omega arith) h) (λ v l h. q (suc v) (omega arith) h) in
    let first : x ≡ y = same_from_decides {P = y ≡ true} x y (p 0 (omega arith), q 0 (omega arith)) (λ e. e, λ e. e) in
    cc

-- labels with the same inside are the same
same_labels : (a b : Labels) → a.inside ≡ b.inside → a ≡ b
same_labels a b e = let made : List Bool → Labels = λ xs. record { inside = xs } in ap made e

-- two least insides are the same
pub least_inside_unique : (net : NumberedNetwork) (a b : Labels) → IsLeastInside net a → IsLeastInside net b → a ≡ b
least_inside_unique net a b p q =
    same_labels a b (same_flags a.inside b.inside (p.count ∙ sym q.count)
    (λ v l h. p.within (flag_at b.inside) q.least_cost v (omega (arith, p.count)) h)
    (λ v l h. q.within (flag_at a.inside) p.least_cost v (omega (arith, p.count)) h))

-- what an arc adds, by whether its ends are inside
abbrev by_ends : Bool → Bool → ℕ → ℕ
by_ends s t c = cond (not s && t) c 0

-- at one arc, the meet and the join cost no more than the two
arc_meets : (s t p q : Bool) (c : ℕ) →
    by_ends (s && p) (t && q) c + by_ends (not (not s && not p)) (not (not t && not q)) c ≤ by_ends s t c + by_ends p q c
arc_meets true true true true c = omega arith
arc_meets true true true false c = omega arith
arc_meets true true false true c = omega arith
arc_meets true true false false c = omega arith
arc_meets true false true true c = omega arith
arc_meets true false true false c = omega arith
arc_meets true false false true c = omega arith
arc_meets true false false false c = omega arith
arc_meets false true true true c = omega arith
arc_meets false true true false c = omega arith
arc_meets false true false true c = omega arith
arc_meets false true false false c = omega arith
arc_meets false false true true c = omega arith
arc_meets false false true false c = omega arith
arc_meets false false false true c = omega arith
arc_meets false false false false c = omega arith

-- at one node, they cost the same
node_meets : (s p : Bool) (k : ℕ) → cond (s && p) 0 k + cond (not (not s && not p)) 0 k ≤ cond s 0 k + cond p 0 k
node_meets true true k = omega arith
node_meets true false k = omega arith
node_meets false true k = omega arith
node_meets false false k = omega arith

-- labels whose inside is what two have both, and what one of two has
abbrev both : (ℕ → Bool) → (ℕ → Bool) → ℕ → Bool
both a b v = a v && b v

abbrev one_of : (ℕ → Bool) → (ℕ → Bool) → ℕ → Bool
one_of a b v = not (not (a v) && not (b v))

or_false : (x y : Bool) → x ≡ false → y ≡ false → not (not x && not y) ≡ false
or_false true y e f = absurd (false≢true (sym e))
or_false false true e f = absurd (false≢true (sym f))
or_false false false e f = refl

admissible_both : (net : NumberedNetwork) (a b : ℕ → Bool) → IsAdmissible (network_by net) a → IsAdmissible (network_by net) (both a b)
admissible_both net a b p = record { none_fixed = λ v l h. and_left (a v) (b v) (p.none_fixed v l h) }

admissible_one : (net : NumberedNetwork) (a b : ℕ → Bool) → IsAdmissible (network_by net) a → IsAdmissible (network_by net) b
    → IsAdmissible (network_by net) (one_of a b)
admissible_one net a b p q =
    record { none_fixed = λ v l h. or_false (a v) (b v) (p.none_fixed v l h) (q.none_fixed v l h) }

-- inside by both and inside by one of two cost no more than the two: the cost is submodular
submodular : (net : NumberedNetwork) (a b : ℕ → Bool) → cost (network_by net) (both a b) + cost (network_by net) (one_of a b)
    ≤ cost (network_by net) a + cost (network_by net) b
submodular net a b =
    let m : ℕ = net.arc_count in
    let n : ℕ = net.node_count in
    let arc : (ℕ → Bool) → ℕ → ℕ = arc_cost (network_by net) in
    let node : (ℕ → Bool) → ℕ → ℕ = node_cost (network_by net) in
    let arcs = sum_below-le m (λ j. arc (both a b) j + arc (one_of a b) j) (λ j. arc a j + arc b j)
    (λ j l. arc_meets (a (net.from j)) (a (net.to j)) (b (net.from j))
    (b (net.to j)) (net.capacity j)) in
    let nodes = sum_below-le n (λ v. node (both a b) v + node (one_of a b) v) (λ v. node a v + node b v)
    (λ v l. node_meets (a v) (b v) (net.sink v)) in
    let arcs_left = sum_below-add m (arc (both a b)) (arc (one_of a b)) in
    let arcs_right = sum_below-add m (arc a) (arc b) in
    let nodes_left = sum_below-add n (node (both a b)) (node (one_of a b)) in
    let nodes_right = sum_below-add n (node a) (node b) in
    omega (arith, arcs, arcs_left, arcs_right, nodes, nodes_left, nodes_right)

-- flags, one for each of those that are fixed or not, with none where one is fixed
record IsFit (fixed xs : List Bool) : Type 0 where
  count : length xs ≡ length fixed
  none_fixed : (v : ℕ) → v < length fixed → flag_at fixed v ≡ true → flag_at xs v ≡ false

-- flags at which a measure is least
record HasLeast (fixed : List Bool) (f : List Bool → ℕ) : Type 0 where
  best : List Bool
  fits : IsFit fixed best
  least : (other : List Bool) → IsFit fixed other → f best ≤ f other

fit_rest : (b : Bool) (fs : List Bool) (x : Bool) (xs : List Bool) → IsFit (b ∷ fs) (x ∷ xs) → IsFit fs xs
fit_rest b fs x xs fit = record {
  count = omega (arith, fit.count);
  none_fixed = λ v l h. fit.none_fixed (suc v) (omega arith) h;
}

fit_more : (b : Bool) (fs : List Bool) (x : Bool) (xs : List Bool) → (b ≡ true → x ≡ false) → IsFit fs xs
    → IsFit (b ∷ fs) (x ∷ xs)
fit_more b fs x xs first fit = record { count = omega (arith, fit.count); none_fixed = none } where
  none : (v : ℕ) → v < length (b ∷ fs) → flag_at (b ∷ fs) v ≡ true → flag_at (x ∷ xs) v ≡ false
  none zero l h = first h
  none (suc v) l h = fit.none_fixed v (omega arith) h

least_none : (f : List Bool → ℕ) (other : List Bool) → IsFit [] other → f [] ≤ f other
least_none f [] fit = omega arith
least_none f (x ∷ xs) fit = absurd (omega (arith, fit.count))

least_fixed : (fs : List Bool) (f : List Bool → ℕ) (r : HasLeast fs (λ xs. f (false ∷ xs))) (other : List Bool) →
    IsFit (true ∷ fs) other → f (false ∷ r.best) ≤ f other
least_fixed fs f r [] fit = absurd (omega (arith, fit.count))
least_fixed fs f r (true ∷ xs) fit = absurd (false≢true (sym (fit.none_fixed 0 (omega arith) refl)))
least_fixed fs f r (false ∷ xs) fit = r.least xs (fit_rest true fs false xs fit)

least_free : (fs : List Bool) (f : List Bool → ℕ) (out : HasLeast fs (λ xs. f (false ∷ xs)))
    (inner : HasLeast fs (λ xs. f (true ∷ xs)))
    (k : ℕ) → k ≤ f (false ∷ out.best) → k ≤ f (true ∷ inner.best) → (other : List Bool) → IsFit (false ∷ fs) other
    → k ≤ f other
least_free fs f out inner k p q [] fit = absurd (omega (arith, fit.count))
least_free fs f out inner k p q (true ∷ xs) fit = omega (arith, q, inner.least xs (fit_rest false fs true xs fit))
least_free fs f out inner k p q (false ∷ xs) fit = omega (arith, p, out.least xs (fit_rest false fs false xs fit))

-- some flags are best, since there are finitely many
has_least : (fixed : List Bool) (f : List Bool → ℕ) → HasLeast fixed f
has_least [] f = record {
  best = [];
  fits = record { count = refl; none_fixed = λ v l h. absurd (omega arith) };
  least = least_none f;
}
has_least (true ∷ fs) f =
    let rest = has_least fs (λ xs. f (false ∷ xs)) in
    record {
      best = false ∷ rest.best;
      fits = fit_more true fs false rest.best (λ _. refl) rest.fits;
      least = least_fixed fs f rest;
    }
has_least (false ∷ fs) f =
    let out = has_least fs (λ xs. f (false ∷ xs)) in
    let inner = has_least fs (λ xs. f (true ∷ xs)) in
    elim (cases_lt (f (false ∷ out.best)) (f (true ∷ inner.best))) [
      | inl less ↦ record {
        best = false ∷ out.best;
        fits = fit_more false fs false out.best (λ _. refl) out.fits;
        least = least_free fs f out inner (f (false ∷ out.best)) (omega arith) (omega arith);
      }
      | inr more ↦ record {
        best = true ∷ inner.best;
        fits = fit_more false fs true inner.best (λ e. absurd (false≢true e)) inner.fits;
        least = least_free fs f out inner (f (true ∷ inner.best)) (omega arith) (omega arith);
      }
    ]

-- 1 for an inside node, and 0 for an outside one
abbrev one_if : Bool → ℕ
one_if b = cond b 1 0

-- how many nodes are inside
abbrev pub inside_count : ℕ → (ℕ → Bool) → ℕ
inside_count n inside = sum_below n (λ v. one_if (inside v))

one_or_none : (b : Bool) → one_if b ≤ 1
one_or_none true = omega arith
one_or_none false = omega arith

one_or_fewer : (x y : Bool) → one_if (x && y) ≤ one_if x
one_or_fewer true true = omega arith
one_or_fewer true false = omega arith
one_or_fewer false y = omega arith

both_if_same : (x y : Bool) → one_if (x && y) ≡ one_if x → x ≡ true → y ≡ true
both_if_same true true e h = refl
both_if_same true false e h = absurd (omega (arith, e))
both_if_same false y e h = absurd (false≢true h)

-- labels are ordered by cost, and by how many nodes are inside where they cost the same
abbrev pub rank_of : NumberedNetwork → (ℕ → Bool) → ℕ
rank_of net inside = cost (network_by net) inside * (net.node_count + 1) + inside_count net.node_count inside

-- labels that say the same of each node have one rank
same_rank : (net : NumberedNetwork) (a b : ℕ → Bool) → ((v : ℕ) → v < net.node_count → a v ≡ b v) → rank_of net a ≡ rank_of net b
same_rank net a b h =
    let m : ℕ = net.arc_count in
    let n : ℕ = net.node_count in
    let arcs = sum_below-cong m (arc_cost (network_by net) a) (arc_cost (network_by net) b)
    (λ j l. ap₂ (λ x y. cond (not x && y) (net.capacity j) 0)
    (h (net.from j) (net.from_in j l))
    (h (net.to j) (net.to_in j l))) in
    let nodes = sum_below-cong n (node_cost (network_by net) a) (node_cost (network_by net) b)
    (λ v l. ap (λ x. cond x 0 (net.sink v)) (h v l)) in
    let counts = sum_below-cong n (λ v. one_if (a v)) (λ v. one_if (b v)) (λ v l. ap one_if (h v l)) in
    ap₂ (λ k c. k * (n + 1) + c) (ap₂ (λ k c. k + c) arcs nodes) counts

count_le : (n : ℕ) (inside : ℕ → Bool) → inside_count n inside ≤ n
count_le n inside = omega (arith, sum_below-le_const n 1 (λ v. one_if (inside v)) (λ v l. one_or_none (inside v)))

-- a lower rank is no higher cost
cost_from_rank : (n a b k l : ℕ) → l ≤ n → a * (n + 1) + k ≤ b * (n + 1) + l → a ≤ b
cost_from_rank n a b k l small le =
    elim (cases_lt b a) [
      | inl less ↦
          let lt : b + 1 ≤ a = omega arith in
          let product = mul-le-mul_left (n + 1) lt in
          absurd (omega (arith, product))
      | inr more ↦ more
    ]

-- which nodes are fixed, as a list
abbrev fixed_flags : NumberedNetwork → List Bool
fixed_flags net = map net.is_fixed (range_with_len 0 net.node_count)

flag_count : (net : NumberedNetwork) → length (fixed_flags net) ≡ net.node_count
flag_count net = length-map-range_with_len net.is_fixed 0 net.node_count

flag_is : (net : NumberedNetwork) (v : ℕ) → v < net.node_count → flag_at (fixed_flags net) v ≡ net.is_fixed v
flag_is net v l = get_or-map-range_with_len net.is_fixed 0 net.node_count v v false l (omega arith)

-- flags of the least rank have a rank that no labels are below
least_rank : (net : NumberedNetwork) (found : HasLeast (fixed_flags net) (λ xs. rank_of net (flag_at xs))) (other : ℕ → Bool)
    → IsAdmissible (network_by net) other → rank_of net (flag_at found.best) ≤ rank_of net other
least_rank net found other p =
    let n : ℕ = net.node_count in
    let flags : List Bool = map other (range_with_len 0 n) in
    let same : (v : ℕ) → v < n → flag_at flags v ≡ other v =
    λ v l. get_or-map-range_with_len other 0 n v v false l (omega arith) in
    let fit : IsFit (fixed_flags net) flags = record {
      count = length-map-range_with_len other 0 n ∙ sym (flag_count net);
      none_fixed = λ v l h.
          let in_range : v < n = omega (arith, flag_count net) in
          same v in_range ∙ p.none_fixed v in_range (sym (flag_is net v in_range) ∙ h);
    } in
    omega (arith, found.least flags fit, same_rank net (flag_at flags) other same)

-- labels of the least rank are least-inside
ranked_least : (net : NumberedNetwork) (found : HasLeast (fixed_flags net) (λ xs. rank_of net (flag_at xs)))
    → IsLeastInside net (record { inside = found.best })
ranked_least net found =
    let n : ℕ = net.node_count in
    let best : ℕ → Bool = flag_at found.best in
    let admissible : IsAdmissible (network_by net) best = record {
      none_fixed = λ v l h. found.fits.none_fixed v (omega (arith, flag_count net)) (flag_is net v l ∙ h);
    } in
    let is_least : IsLeastCost (network_by net) best = record {
      admissible = admissible;
      least = λ other p.
          cost_from_rank n (cost (network_by net) best) (cost (network_by net) other) (inside_count n best)
          (inside_count n other) (count_le n other) (least_rank net found other p);
    } in
    record {
      count = found.fits.count ∙ flag_count net;
      labelled = record {
        least_cost = is_least;
        within = λ other other_least.
            let meet : ℕ → Bool = both best other in
            let fit_meet = admissible_both net best other admissible in
            let low = is_least.least meet fit_meet in
            let high =
            other_least.least (one_of best other) (admissible_one net best other admissible other_least.admissible) in
            let cost_is : cost (network_by net) meet ≡ cost (network_by net) best =
            omega (arith, submodular net best other, low, high) in
            let fewer : (v : ℕ) → v < n → one_if (meet v) ≤ one_if (best v) = λ v l. one_or_fewer (best v) (other v) in
            let no_fewer : inside_count n best ≤ inside_count n meet =
            let same = ap (λ k. k * (n + 1)) cost_is in omega (arith, same, least_rank net found meet fit_meet) in
            let tight = sum_below-tight n (λ v. one_if (meet v)) (λ v. one_if (best v)) fewer no_fewer in
            λ v l h. both_if_same (best v) (other v) (tight v l) h;
      };
    }

-- there are least-inside labels
pub least_inside_exists : (net : NumberedNetwork) → (labels : Labels) × IsLeastInside net labels
least_inside_exists net =
    let found = has_least (fixed_flags net) (λ xs. rank_of net (flag_at xs)) in
    (record { inside = found.best }, ranked_least net found)
