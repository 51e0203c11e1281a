use Rattle.std.proofs.Common.{List, ◌≡◌, subst, sym, length, arith}
use Rattle.std.specs.List.Sorted.{IsPermutation}
use Rattle.std.proofs.lemmas.List.Sorted.{All-permutation, length_permutation}
use Rattle.std.proofs.lemmas.Result.{IfOk-weaker}
use Rattle.flow_net.specs.declared.votes.Sight.{Sight}
use Rattle.flow_net.specs.Weights.{IsWeighed}
use Rattle.tetra_store.specs.Store.{vertices_of}
use Rattle.solution.specs.declared.tally.Counts.{Counts}
use Rattle.solution.specs.Counts.{IsInRange, AreCounted}
use Rattle.solution.proofs.Scenes.{counted_anyhow}
use Rattle.solution.proofs.counting.counts_of.Goals as goal

pub count_in_order-requires-clause-sights : goal.count_in_order-requires-clause-sights
count_in_order-requires-clause-sights g c =
    let walked : IsPermutation c.args.sights.now c.deref-2.result.now =
    subst (λ (z : List Sight). IsPermutation c.args.sights.now z) (sym c.deref-2.ensures.value) c.in_ok-order.ensures in
    let w = c.args.located.now in let h = c.requires.sights in
    record {
      delaunay = h.delaunay;
      in_range =
          All-permutation (IsInRange (vertices_of w.t.now) w.scanners.now) c.args.sights.now c.deref-2.result.now walked h.in_range;
      data_points = h.data_points;
      cells = h.cells;
    }

pub count_in_order-requires-clause-few : goal.count_in_order-requires-clause-few
count_in_order-requires-clause-few g c =
    let walked : IsPermutation c.args.sights.now c.deref-2.result.now =
    subst (λ (z : List Sight). IsPermutation c.args.sights.now z) (sym c.deref-2.ensures.value) c.in_ok-order.ensures in
    let n : length c.deref-2.result.now ≡ length c.args.sights.now =
    length_permutation c.args.sights.now c.deref-2.result.now walked in
    record {
      few = omega (arith, n, c.requires.few.few);
      weighed = All-permutation IsWeighed c.args.sights.now c.deref-2.result.now walked c.requires.few.weighed;
    }

pub returns : goal.returns
returns g c =
    let s = c.args.located.now.t.now in
    let scanners = c.args.located.now.scanners.now in
    let sights = c.args.sights.now in
    let order = c.deref-2.result.now in
    let walked : IsPermutation sights order =
    subst (λ (z : List Sight). IsPermutation sights z) (sym c.deref-2.ensures.value) c.in_ok-order.ensures in
    IfOk-weaker c.count_in_order.result (λ (x : Counts). AreCounted s scanners order x.crossed.items x.behind.items)
    (λ (x : Counts). AreCounted s scanners sights x.crossed.items x.behind.items)
    (λ (x : Counts). counted_anyhow s scanners sights order x.crossed.items x.behind.items walked) c.count_in_order.ensures
