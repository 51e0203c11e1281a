-- The counters and what the rest adds make the same at all times: a group's sights and the others make what was left before
-- (split_facets).
use Rattle.std.proofs.Common.{◌≡◌, ◌∙◌, ap, arith, List, length, drop}
use Rattle.std.specs.List.{between}
use Rattle.std.proofs.lemmas.List.{length-drop}
use Rattle.std.proofs.lemmas.List.Elements.{All-same, All-drop}
use Rattle.std.proofs.lemmas.Slice.{between_to_end}
use Rattle.flow_net.specs.declared.votes.Sight.{Sight}
use Rattle.tetra_store.specs.Store.{vertices_of}
use Rattle.solution.specs.Counts.{IsInRange}
use Rattle.solution.specs.LongSights.{crossing_weight}
use Rattle.solution.proofs.LongSights.{none_added, split_facets}
use Rattle.solution.proofs.beaming.count_all_facets.Goals as goal

pub count_facets-requires-clause-room : goal.count_facets-requires-clause-room
count_facets-requires-clause-room g c id k m b =
    let w = c.args.located.now in let l = c.loop-rest in
    let room = c.requires.room id k m b in
    let sums = l.invariant.sums id k m b in
    let split = split_facets w.t.now w.scanners.now id k l.rest.now c.group_of-group.result.count in
    omega (arith, room, sums, split)

pub offset_bounds-rest-group : goal.offset_bounds-rest-group
offset_bounds-rest-group g c = let n = c.group_of-group.ensures.within in let few = c.loop-rest.invariant.few in omega (arith, n, few)

pub loop-rest-preserved : goal.loop-rest-preserved
loop-rest-preserved g c =
    let w = c.args.located.now in let l = c.loop-rest in let xs = l.rest.now in let n = c.group_of-group.result.count in
    let rest : between n (length xs) xs ≡ drop n xs = between_to_end xs n (length xs) (omega arith) in
    record {
      count = c.count_facets.ensures.count ∙ l.invariant.count;
      follow =
          (let h = l.invariant.follow in
          record {
            delaunay = h.delaunay;
            in_range =
                All-same (IsInRange (vertices_of w.t.now) w.scanners.now) _ (drop n xs) rest
                (All-drop (IsInRange (vertices_of w.t.now) w.scanners.now) n xs h.in_range);
            data_points = h.data_points;
            cells = h.cells;
          });
      few =
          (let e = ap length rest in let m = length-drop n xs in let few = l.invariant.few in omega (arith, e, m, few));
      sums = λ id k m b.
          (let added = c.in_ok-count_facets.ensures.added id k m b in
          let split = split_facets w.t.now w.scanners.now id k xs n in
          let e = ap (λ (zs : List Sight). crossing_weight w.t.now w.scanners.now id k zs) rest in
          let old = l.invariant.sums id k m b in
          omega (arith, added, split, e, old));
    }

pub returns-clause-added : goal.returns-clause-added
returns-clause-added g c id k m b =
    let w = c.args.located.now in let l = c.loop-rest in
    let none = none_added w.t.now w.scanners.now l.rest.now l.crossed (omega (arith, c.loop-rest-test.false)) id k m b in
    let sums = l.invariant.sums id k m b in
    omega (arith, none, sums)
