-- What sights of one scanner add as they are followed together is what they add as sights (facets_of). Of a list, what its first
-- sights and the others add makes what all add, so counters that the first ones raised have room for the others (split_facets,
-- split_cells).
use Rattle.std.proofs.Common.{ℕ, ◌≡◌, ◌<◌, ◌≤◌, ◌+◌, refl, sym, ap, ◌∙◌, arith, Bool, true, ◌&&◌, cond, List, [], ◌∷◌}
use Rattle.std.proofs.Common.{All, map, length, take, drop}
use Rattle.std.specs.Prelude.{slice_index_or}
use Rattle.std.specs.List.{sum_by}
use Rattle.std.proofs.lemmas.List.Elements.{All-head, All-tail, All-map, All-weaker}
use Rattle.std.proofs.lemmas.List.Sums.{sum_by-cons, sum_by_more, sum_by_more_le, sum_by-take-drop}
use Rattle.geo_sign.specs.Point.{Point, origin}
use Rattle.geo_sign.specs.Rational.{displaced}
use Rattle.geo_sign.specs.Sights.{is_crossed, is_behind}
use Rattle.geo_sign.specs.Tetrahedron.{facet_of}
use Rattle.flow_net.specs.declared.votes.Sight.{Sight}
use Rattle.flow_net.specs.Weights.{IsSightList}
use Rattle.flow_net.proofs.WeightLemmas.{weight_where_small}
use Rattle.visibility.specs.Scenes.{scanner_point}
use Rattle.tetra_store.specs.Links.{links_of, IsLive}
use Rattle.tetra_store.specs.Store.{Store, vertices_of}
use Rattle.beam.specs.declared.ways.Ray.{Ray}
use Rattle.beam.specs.Ways.{IsRayIn}
use Rattle.beam.specs.Beams.{weight_on}
use Rattle.solution.specs.declared.tally.Line.{Line}
use Rattle.solution.specs.Counts.{IsInRange, added_by, AreCounted}
use Rattle.solution.specs.Lines.{IsLineOf, added_behind}
use Rattle.solution.specs.LongSights.{ray_of, IsOfScanner, crossing_weight, behind_weight, IsRoomFor, IsCellRoom, AreAdded, AreCellsAdded}
use Rattle.solution.proofs.Tallies.{sight_at, sum_is_weight, cell_adds}

-- ---- sights as they are followed
ray_in : (s : Store) (scanners : List Point) (sight : Sight) → IsInRange (vertices_of s) scanners sight → IsRayIn s (ray_of s sight)
ray_in s scanners sight h = record { inserted = h.inserted; data_vertex = h.data_vertex; point = refl }

pub rays_in : (s : Store) (scanners : List Point) (sights : List Sight) → All (IsInRange (vertices_of s) scanners) sights
    → All (IsRayIn s) (map (ray_of s) sights)
rays_in s scanners sights h =
    All-map (IsRayIn s) (ray_of s) sights
    (All-weaker (IsInRange (vertices_of s) scanners) (λ x. IsRayIn s (ray_of s x)) (ray_in s scanners) sights h)

abbrev crossing : Store → List Point → (id k : ℕ) → Sight → ℕ
crossing s scanners id k sight =
    cond
    (is_crossed (vertices_of s) sight.vertex (scanner_point scanners sight.scanner) (facet_of ((links_of s.slots).at id) k))
    (added_by sight) 0

abbrev before : Store → List Point → (id : ℕ) → Sight → ℕ
before s scanners id sight =
    cond (is_behind (vertices_of s) sight.vertex (scanner_point scanners sight.scanner) ((links_of s.slots).at id)) (added_by sight) 0

pub facets_of : (s : Store) (scanners : List Point) (n id k : ℕ) (sights : List Sight) → All (IsOfScanner n) sights
    → sum_by (weight_on s (slice_index_or scanners n origin) id k) (map (ray_of s) sights) ≡ crossing_weight s scanners id k sights
facets_of s scanners n id k [] a = refl
facets_of s scanners n id k (x ∷ xs) a =
    let f : Ray → ℕ = weight_on s (slice_index_or scanners n origin) id k in
    let here : f (ray_of s x) ≡ crossing s scanners id k x =
    ap (λ (m : ℕ).
    cond
    (is_crossed (vertices_of s) x.vertex (displaced (slice_index_or scanners m origin)) (facet_of ((links_of s.slots).at id) k))
    x.weight 0) (sym (All-head (IsOfScanner n) x xs a)) in
    let rest = facets_of s scanners n id k xs (All-tail (IsOfScanner n) x xs a) in
    omega (
      arith,
      here,
      rest,
      sum_by-cons f (ray_of s x) (map (ray_of s) xs),
      sum_by-cons (crossing s scanners id k) x xs,
    )

-- ---- the first of a list and the others
pub split_facets : (s : Store) (scanners : List Point) (id k : ℕ) (sights : List Sight) (n : ℕ)
    → crossing_weight s scanners id k (take n sights) + crossing_weight s scanners id k (drop n sights)
    ≡ crossing_weight s scanners id k sights
split_facets s scanners id k sights n = sum_by-take-drop (crossing s scanners id k) sights n

pub split_cells : (s : Store) (scanners : List Point) (id : ℕ) (sights : List Sight) (n : ℕ)
    → behind_weight s scanners id (take n sights) + behind_weight s scanners id (drop n sights)
    ≡ behind_weight s scanners id sights
split_cells s scanners id sights n = sum_by-take-drop (before s scanners id) sights n

pub none_added : (s : Store) (scanners : List Point) (sights : List Sight) (old : List ℕ) → length sights ≡ 0
    → AreAdded s scanners sights old old
none_added s scanners [] old e = λ id k m b. omega arith
none_added s scanners (x ∷ xs) old e = absurd (omega (arith, e))

pub no_cells_added : (s : Store) (scanners : List Point) (sights : List Sight) (old : List ℕ) → length sights ≡ 0
    → AreCellsAdded s scanners sights old old
no_cells_added s scanners [] old e = λ id m. omega arith
no_cells_added s scanners (x ∷ xs) old e = absurd (omega (arith, e))

-- ---- a sight more, at the cell behind it
pub cell_more : (s : Store) (scanners : List Point) (cells : List ℕ) (sights : List Sight) (n : ℕ) (line : Line) → n < length sights
    → IsLineOf scanners cells (sight_at sights n) line → (id : ℕ) → IsLive (links_of s.slots) id
    → behind_weight s scanners id (take (n + 1) sights) ≡ behind_weight s scanners id (take n sights) + added_behind s line id
cell_more s scanners cells sights n line l is id live =
    let more : behind_weight s scanners id (take (n + 1) sights)
    ≡ behind_weight s scanners id (take n sights) + before s scanners id (sight_at sights n) =
    sum_by_more (before s scanners id) sights n (record { vertex = 0; scanner = 0; weight = 0 }) l in
    let adds : added_behind s line id ≡ before s scanners id (sight_at sights n) =
    cell_adds s scanners cells (sight_at sights n) line is id
    ∙ ap (λ (b : Bool).
    cond
    (b
    && is_behind (vertices_of s) (sight_at sights n).vertex (scanner_point scanners (sight_at sights n).scanner)
    ((links_of s.slots).at id)) (added_by (sight_at sights n)) 0) live in
    omega (arith, more, adds)

-- it has room
pub cell_room_for : (s : Store) (scanners : List Point) (cells : List ℕ) (sights : List Sight) (n : ℕ) (line : Line)
    → n < length sights → IsLineOf scanners cells (sight_at sights n) line → (id : ℕ) → IsLive (links_of s.slots) id
    → is_behind (vertices_of s) line.vertex (displaced line.scanner) ((links_of s.slots).at id) ≡ true
    → behind_weight s scanners id (take n sights) + line.added ≤ behind_weight s scanners id sights
cell_room_for s scanners cells sights n line l is id live at =
    let d : Sight = record { vertex = 0; scanner = 0; weight = 0 } in
    let most = sum_by_more_le (before s scanners id) sights n d l in
    let one : added_behind s line id ≡ line.added =
    ap (λ (b : Bool). cond (b && is_behind (vertices_of s) line.vertex (displaced line.scanner) ((links_of s.slots).at id)) line.added 0) live
    ∙ ap (λ (b : Bool). cond b line.added 0) at in
    let more = cell_more s scanners cells sights n line l is id live in
    let next = sum_by_more (before s scanners id) sights n d l in
    omega (arith, most, one, more, next)

-- ---- all of a list, counted in two parts
module _ (s : Store) (scanners : List Point) (sights : List Sight) (n : ℕ) where
  pub room_for_rest : (crossed behind : List ℕ) → IsSightList sights → AreCounted s scanners (take n sights) crossed behind
      → IsRoomFor s scanners (drop n sights) crossed
  room_for_rest crossed behind few h id k m b =
      let a = h.facets id k m b in
      let c = split_facets s scanners id k sights n in
      let t : Sight → Bool = λ sight.
      is_crossed (vertices_of s) sight.vertex (scanner_point scanners sight.scanner) (facet_of ((links_of s.slots).at id) k) in
      let e = sum_is_weight t sights in
      let f = weight_where_small t sights few in
      omega (arith, a, c, e, f)

  pub cell_room_for_rest : (crossed behind : List ℕ) → IsSightList sights → AreCounted s scanners (take n sights) crossed behind
      → IsCellRoom s scanners (drop n sights) behind
  cell_room_for_rest crossed behind few h id m =
      let a = h.cells id m in
      let c = split_cells s scanners id sights n in
      let t : Sight → Bool = λ sight.
      is_behind (vertices_of s) sight.vertex (scanner_point scanners sight.scanner) ((links_of s.slots).at id) in
      let e = sum_is_weight t sights in
      let f = weight_where_small t sights few in
      omega (arith, a, c, e, f)

  pub all_added : (crossed behind new_crossed new_behind : List ℕ) → AreCounted s scanners (take n sights) crossed behind
      → length new_crossed ≡ length crossed → length new_behind ≡ length behind
      → AreAdded s scanners (drop n sights) crossed new_crossed → AreCellsAdded s scanners (drop n sights) behind new_behind
      → AreCounted s scanners sights new_crossed new_behind
  all_added crossed behind new_crossed new_behind h same_crossed same_behind facets cells =
      record {
        crossed_fits = let a = h.crossed_fits in omega (arith, a, same_crossed);
        behind_fits = let a = h.behind_fits in omega (arith, a, same_behind);
        facets = λ id k m b.
            (let a = h.facets id k m b in
            let d = facets id k m b in
            let c = split_facets s scanners id k sights n in
            omega (arith, a, c, d));
        cells = λ id m.
            (let a = h.cells id m in
            let d = cells id m in
            let c = split_cells s scanners id sights n in
            omega (arith, a, c, d));
      }
