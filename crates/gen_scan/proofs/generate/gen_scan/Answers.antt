use Rattle.gen_scan.proofs.Rows.{lists_are_shown}
use Rattle.gen_scan.proofs.generate.gen_scan.Goals as goal

pub invariant_of-result : goal.invariant_of-result
invariant_of-result c =
    let is =
    lists_are_shown c.args.n c.args.seed c.in_ok-points.points.items c.in_ok-scanners.scanners.items c.in_ok-points.seen.items
    c.in_ok-points.ensures.points c.in_ok-points.ensures.seen c.in_ok-scanners.ensures.value c.in_ok-points.ensures.count
    c.requires.most c.in_ok-scanners.ensures.data in
    record {
      points_are_data = is.points;
      scanners_are_data = is.scanners;
      seen_are_there = is.seen;
      seen_in_order = is.in_order;
      seen_of_one_weight = is.of_one_weight;
      points_fit = is.point_count;
      scanners_fit = is.scanner_count;
      sights_fit = is.sight_count;
    }
