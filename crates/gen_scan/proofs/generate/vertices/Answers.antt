-- Points and sights of a generated scan, row after row.
--
-- What was made so far, with what the rows left make of the words left, is what the whole scan shows: that is `place`
-- for the points and `sight` for the sights. A row takes two words, a pseudorandom number each, and its point is that of
-- the definition by these two (point_is); so both equations are carried on by one row (one_more_point, one_more_sight),
-- and behind the last row nothing is left.
use Rattle.std.proofs.Common.{rules, ◌≡◌, ℕ, ap, ◌∙◌, ◌++◌, ◌∷◌, [], ◌%◌, pos}
use Rattle.geo_sign.specs.Point.{Point}
use Rattle.rand_pcg.specs.Lcg.{Lcg}
use Rattle.rand_pcg.specs.Pcg.{pcg32}
use Rattle.gen_scan.specs.Generated.{on_face, spread}
use Rattle.gen_scan.proofs.Words.{point_in, next_row, behind_row, one_more_point, one_more_sight, all_points, all_sights}
use Rattle.gen_scan.proofs.generate.vertices.Goals as goal

pub loop-row-preserved : goal.loop-row-preserved
loop-row-preserved c =
    let g = c.loop-row.words in
    let number = c.loop-row.row in
    let first : c.next_word.result ≡ (pcg32 g).0 = ap (λ (x : ℕ × Lcg). x.0) c.next_word.ensures in
    let then : c.next_word.new.self ≡ (pcg32 g).1 = ap (λ (x : ℕ × Lcg). x.1) c.next_word.ensures in
    let second : c.next_word-in-loop-row.result ≡ (pcg32 (pcg32 g).1).0 =
    ap (λ (x : ℕ × Lcg). x.0) c.next_word-in-loop-row.ensures ∙ ap (λ h. (pcg32 h).0) then in
    let behind : c.next_word-in-loop-row.new.self ≡ behind_row g =
    ap (λ (x : ℕ × Lcg). x.1) c.next_word-in-loop-row.ensures ∙ ap (λ h. (pcg32 h).1) then in
    let face = number % 6 in
    let placed : c.point_on_face.result ≡ on_face face (pos 1000) c.spread-u.result c.spread-v.result = search rules in
    let point_is : c.point_on_face.result ≡ point_in (next_row number g) =
    placed
    ∙ ap (λ u. on_face face (pos 1000) u c.spread-v.result) (c.spread-u.ensures.value ∙ ap spread first)
    ∙ ap (λ v. on_face face (pos 1000) (spread (pcg32 g).0) v) (c.spread-v.ensures.value ∙ ap spread second) in
    let more : c.push.new.self.items ≡ c.loop-row.points.items ++ c.point_on_face.result ∷ [] = search rules in
    record {
      place =
          one_more_point c.loop-row.points.items c.push.new.self.items _ number c.args.count g c.next_word-in-loop-row.new.self
          c.loop-row-test.true
          (more ∙ ap (λ (p : Point). c.loop-row.points.items ++ p ∷ []) point_is) behind c.loop-row.invariant.place;
      sight =
          one_more_sight c.loop-row.seen.items c.push-in-loop-row.new.self.items _ number c.args.count g
          c.next_word-in-loop-row.new.self c.loop-row-test.true
          (search rules) behind c.loop-row.invariant.sight;
      point_count = search rules;
    }

pub returns-clause-points : goal.returns-clause-points
returns-clause-points c = all_points _ _ c.loop-row.row c.args.count c.loop-row.words (search rules) c.loop-row.invariant.place

pub returns-clause-seen : goal.returns-clause-seen
returns-clause-seen c = all_sights _ _ c.loop-row.row c.args.count c.loop-row.words (search rules) c.loop-row.invariant.sight
