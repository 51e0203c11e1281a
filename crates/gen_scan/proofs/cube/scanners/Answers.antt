use Rattle.std.proofs.Common.{rules, ◌≡◌, ap, sym, ◌∙◌, ◌++◌, ◌∷◌, [], All, pos, subst}
use Rattle.std.proofs.lemmas.List.Elements.{All-push}
use Rattle.geo_sign.specs.Point.{Point, IsWithin}
use Rattle.gen_scan.specs.Generated.{on_face}
use Rattle.gen_scan.proofs.Scanners.{one_more_scanner}
use Rattle.gen_scan.proofs.cube.scanners.Goals as goal
use Rattle.geo_sign.specs.declared.point.TheConstants.{DATA_LIMIT}

pub loop-face-preserved : goal.loop-face-preserved
loop-face-preserved c =
    let more : c.push.new.self.items ≡ c.loop-face.places.items ++ c.point_on_face.result ∷ [] = search rules in
    record {
      value = more
          ∙ ap (λ (p : Point). c.loop-face.places.items ++ p ∷ []) c.point_on_face.ensures.value
          ∙ ap (λ places. places ++ on_face c.loop-face.face (pos 5000) (pos 0) (pos 0) ∷ []) c.loop-face.invariant.value
          ∙ sym (one_more_scanner c.loop-face.face c.loop-face-test.true);
      data_points =
          subst (All (IsWithin DATA_LIMIT)) (sym more)
          (All-push (IsWithin DATA_LIMIT) _ _ c.loop-face.invariant.data_points c.point_on_face.ensures.data);
    }
