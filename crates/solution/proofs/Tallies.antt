-- The counters after some of the sights. They are what these add, to begin with nothing; a counter stays below
-- what all sights weigh, so it has room for one more.
use Rattle.std.proofs.Common.{ℕ, ◌<◌, ◌≤◌, ◌+◌, ◌*◌, ◌^◌, ◌≡◌, sym, ap, ap₂, subst, ◌∙◌, arith, Bool, ◌&&◌, cond, List}
use Rattle.std.proofs.Common.{length, take, get_or, slice_index}
use Rattle.std.proofs.lemmas.List.{take_all}
use Rattle.std.proofs.lemmas.List.Sums.{sum_by_more}
use Rattle.geo_sign.specs.Point.{Point}
use Rattle.geo_sign.specs.Rational.{displaced}
use Rattle.geo_sign.specs.Sights.{is_crossed, is_behind}
use Rattle.geo_sign.specs.Tetrahedron.{facet_of}
use Rattle.flow_net.specs.declared.votes.Sight.{Sight}
use Rattle.flow_net.specs.Weights.{IsWeighed, IsSightList, weight_where}
use Rattle.flow_net.proofs.WeightLemmas.{weight_is_sum, weight_so_far}
use Rattle.visibility.specs.Scenes.{scanner_point}
use Rattle.tetra_store.specs.Links.{links_of}
use Rattle.tetra_store.specs.Store.{Store, vertices_of}
use Rattle.solution.specs.declared.tally.Line.{Line}
use Rattle.solution.specs.Counts.{added_by, sum_where, is_crossed_at, is_behind_at, AreCounted}
use Rattle.solution.specs.Lines.{IsLineOf, added_on, added_behind}

abbrev crosses : Store → List Point → (id k : ℕ) → Sight → Bool
crosses s scanners id k sight = is_crossed_at s sight.vertex (scanner_point scanners sight.scanner) id k

abbrev is_before : Store → List Point → (id : ℕ) → Sight → Bool
is_before s scanners id sight = is_behind_at s sight.vertex (scanner_point scanners sight.scanner) id

-- the first n sights are counted
pub record IsTally (s : Store) (scanners : List Point) (sights : List Sight) (n : ℕ) (crossed behind : List ℕ) : Type 0 where
  pub so_far : n ≤ length sights
  pub crossed_fits : 4 * length s.slots ≤ length crossed
  pub behind_fits : length s.slots ≤ length behind
  pub facets : (id k : ℕ) → k < 4 → slice_index crossed (4 * id + k) ≡ sum_where (crosses s scanners id k) (take n sights)
  pub cells : (id : ℕ) → slice_index behind id ≡ sum_where (is_before s scanners id) (take n sights)

-- ---- a counter has room while there are few sights
-- what sights add together is what they weigh
pub sum_is_weight : (test : Sight → Bool) (sights : List Sight) → sum_where test sights ≡ weight_where test sights
sum_is_weight test sights = sym (weight_is_sum test sights)

-- 8,388,608 sights of weight 255 are below 2 ^ 31
small : (test : Sight → Bool) (n : ℕ) (sights : List Sight) → IsSightList sights → sum_where test (take n sights) ≤ 2139095040
small test n sights l =
    let a = weight_so_far test sights n l in
    let c = sum_is_weight test (take n sights) in
    omega (arith, a, c)

pub facet_room : (s : Store) (scanners : List Point) (sights : List Sight) (n : ℕ) (crossed behind : List ℕ) →
    IsTally s scanners sights n crossed behind → IsSightList sights → (amount : ℕ) → amount ≤ 510 →
    (id k : ℕ) → k < 4 → slice_index crossed (4 * id + k) + amount < 2 ^ 32
facet_room s scanners sights n crossed behind h l amount w id k m =
    let a = h.facets id k m in
    let b = small (crosses s scanners id k) n sights l in
    omega (arith, a, b, w)

pub cell_room : (s : Store) (scanners : List Point) (sights : List Sight) (n : ℕ) (crossed behind : List ℕ) →
    IsTally s scanners sights n crossed behind → IsSightList sights → (amount : ℕ) → amount ≤ 510 →
    (id : ℕ) → slice_index behind id + amount < 2 ^ 32
cell_room s scanners sights n crossed behind h l amount w id =
    let a = h.cells id in
    let b = small (is_before s scanners id) n sights l in
    omega (arith, a, b, w)

-- ---- lines of sights
abbrev pub sight_at : List Sight → ℕ → Sight
sight_at sights n = get_or sights n (record { vertex = 0; scanner = 0; weight = 0 })

-- the line of a weighed sight adds 255 at most
pub line_weight : (scanners : List Point) (cells : List ℕ) (sight : Sight) (line : Line) → IsWeighed sight
    → IsLineOf scanners cells sight line → line.added ≤ 255
line_weight scanners cells sight line w is = let a = is.added in let m = w.at_most in omega (arith, a, m)

-- what the line of a sight adds is what the sight adds
facet_adds : (s : Store) (scanners : List Point) (cells : List ℕ) (sight : Sight) (line : Line)
    → IsLineOf scanners cells sight line → (id k : ℕ)
    → added_on s line id k ≡ cond (crosses s scanners id k sight) (added_by sight) 0
facet_adds s scanners cells sight line is id k =
    ap₂ (λ (p : ℕ) (q : Point). cond (is_crossed_at s p (displaced q) id k) line.added 0) is.vertex is.scanner
    ∙ ap (λ (amount : ℕ). cond (crosses s scanners id k sight) amount 0) is.added

pub cell_adds : (s : Store) (scanners : List Point) (cells : List ℕ) (sight : Sight) (line : Line)
    → IsLineOf scanners cells sight line → (id : ℕ)
    → added_behind s line id ≡ cond (is_before s scanners id sight) (added_by sight) 0
cell_adds s scanners cells sight line is id =
    ap₂ (λ (p : ℕ) (q : Point). cond (is_behind_at s p (displaced q) id) line.added 0) is.vertex is.scanner
    ∙ ap (λ (amount : ℕ). cond (is_before s scanners id sight) amount 0) is.added

-- ---- a sight more, and two
sum_more : (test : Sight → Bool) (sights : List Sight) (n : ℕ) → n < length sights
    → sum_where test (take (n + 1) sights)
    ≡ sum_where test (take n sights) + cond (test (sight_at sights n)) (added_by (sight_at sights n)) 0
sum_more test sights n l =
    sum_by_more (λ sight. cond (test sight) (added_by sight) 0) sights n (record { vertex = 0; scanner = 0; weight = 0 }) l

pub one_more : (s : Store) (scanners : List Point) (cells : List ℕ) (sights : List Sight) (n : ℕ) (line : Line)
    (crossed behind new_crossed new_behind : List ℕ)
    → IsTally s scanners sights n crossed behind → n < length sights → IsLineOf scanners cells (sight_at sights n) line
    → length new_crossed ≡ length crossed → length new_behind ≡ length behind
    → ((id k : ℕ) → k < 4 → slice_index new_crossed (4 * id + k) ≡ slice_index crossed (4 * id + k) + added_on s line id k)
    → ((id : ℕ) → slice_index new_behind id ≡ slice_index behind id + added_behind s line id)
    → IsTally s scanners sights (n + 1) new_crossed new_behind
one_more s scanners cells sights n line crossed behind new_crossed new_behind h l is same_crossed same_behind
    on_facets on_cells =
    record {
      so_far = omega (arith, l);
      crossed_fits = let a = h.crossed_fits in omega (arith, a, same_crossed);
      behind_fits = let a = h.behind_fits in omega (arith, a, same_behind);
      facets =
          λ id k m. omega (
            arith,
            on_facets id k m,
            h.facets id k m,
            facet_adds s scanners cells (sight_at sights n) line is id k,
            sum_more (crosses s scanners id k) sights n l,
          );
      cells =
          λ id. omega (
            arith,
            on_cells id,
            h.cells id,
            cell_adds s scanners cells (sight_at sights n) line is id,
            sum_more (is_before s scanners id) sights n l,
          );
    }

sum_two_more : (test : Sight → Bool) (sights : List Sight) (n : ℕ) → n + 1 < length sights →
    sum_where test (take (n + 2) sights)
    ≡ sum_where test (take n sights)
    + (cond (test (sight_at sights n)) (added_by (sight_at sights n)) 0
    + cond (test (sight_at sights (n + 1))) (added_by (sight_at sights (n + 1))) 0)
sum_two_more test sights n l =
    let same : n + 1 + 1 ≡ n + 2 = omega arith in
    let a = sum_more test sights n (omega (arith, l)) in
    let b = sum_more test sights (n + 1) l in
    let c : sum_where test (take (n + 1 + 1) sights) ≡ sum_where test (take (n + 2) sights) =
    ap (λ (m : ℕ). sum_where test (take m sights)) same in
    omega (arith, a, b, c)

pub two_more : (s : Store) (scanners : List Point) (cells : List ℕ) (sights : List Sight) (n : ℕ) (one other : Line)
    (crossed behind new_crossed new_behind : List ℕ)
    → IsTally s scanners sights n crossed behind → n + 1 < length sights → IsLineOf scanners cells (sight_at sights n) one
    → IsLineOf scanners cells (sight_at sights (n + 1)) other → length new_crossed ≡ length crossed
    → length new_behind ≡ length behind
    → ((id k : ℕ) → k < 4
    → slice_index new_crossed (4 * id + k) ≡ slice_index crossed (4 * id + k) + (added_on s one id k + added_on s other id k))
    → ((id : ℕ) → slice_index new_behind id ≡ slice_index behind id + (added_behind s one id + added_behind s other id))
    → IsTally s scanners sights (n + 2) new_crossed new_behind
two_more s scanners cells sights n one other crossed behind new_crossed new_behind h l is_one is_other same_crossed same_behind
    on_facets on_cells =
    record {
      so_far = omega (arith, l);
      crossed_fits = let a = h.crossed_fits in omega (arith, a, same_crossed);
      behind_fits = let a = h.behind_fits in omega (arith, a, same_behind);
      facets = λ id k m.
          omega (
            arith,
            on_facets id k m,
            h.facets id k m,
            facet_adds s scanners cells (sight_at sights n) one is_one id k,
            facet_adds s scanners cells (sight_at sights (n + 1)) other is_other id k,
            sum_two_more (crosses s scanners id k) sights n l,
          );
      cells = λ id.
          omega (
            arith,
            on_cells id,
            h.cells id,
            cell_adds s scanners cells (sight_at sights n) one is_one id,
            cell_adds s scanners cells (sight_at sights (n + 1)) other is_other id,
            sum_two_more (is_before s scanners id) sights n l,
          );
    }

-- ---- all of them
pub all_counted : (s : Store) (scanners : List Point) (sights : List Sight) (n : ℕ) (crossed behind : List ℕ) →
    n ≡ length sights → IsTally s scanners sights n crossed behind → AreCounted s scanners sights crossed behind
all_counted s scanners sights n crossed behind e h =
    let t : take n sights ≡ sights = ap (λ (m : ℕ). take m sights) e ∙ take_all (length sights) sights (omega arith) in
    record {
      crossed_fits = h.crossed_fits;
      behind_fits = h.behind_fits;
      facets = λ id k l m.
          subst (λ (b : Bool). slice_index crossed (4 * id + k)
          ≡ sum_where
          (λ sight. b && is_crossed (vertices_of s) sight.vertex (scanner_point scanners sight.scanner)
          (facet_of ((links_of s.slots).at id) k)) sights) l
          (h.facets id k m ∙ ap (λ (xs : List Sight). sum_where (crosses s scanners id k) xs) t);
      cells = λ id l.
          subst (λ (b : Bool). slice_index behind id
          ≡ sum_where
          (λ sight. b && is_behind (vertices_of s) sight.vertex (scanner_point scanners sight.scanner)
          ((links_of s.slots).at id)) sights) l
          (h.cells id ∙ ap (λ (xs : List Sight). sum_where (is_before s scanners id) xs) t);
    }
