-- Points of three tokens each, one after another.
--
-- The invariant is that the points so far, with what is read of the tokens left, are what is read of all of them. The
-- number of tokens is a multiple of three, so three more are there. Tokens are lent, so as_held first reads those of a
-- point as bytes. A token that is refused is the refusal of all (point_refused), and a point that is read is within the
-- range of data (point_more).
use Rattle.std.proofs.Common.{ℕ, ◌+◌, ◌*◌, ◌<◌, sym, ◌∙◌, arith, Bor, List, [], length, map}
use Rattle.std.proofs.lemmas.List.{length-map}
use Rattle.std.proofs.lemmas.List.Elements.{All-push}
use Rattle.geo_sign.specs.Point.{IsWithin}
use Rattle.geo_sign.specs.declared.point.TheConstants.{DATA_LIMIT}
use Rattle.solid_query.proofs.Reading.{as_held, error_given, point_more, point_refused}
use Rattle.solid_query.proofs.queries.points_of.Goals as goal

-- the tokens as bytes
abbrev bytes_of : List (Bor (List ℕ)) → List (List ℕ)
bytes_of tokens = map (λ token. token.now) tokens

pub returns-in_err-point-clause-said : goal.returns-in_err-point-clause-said
returns-in_err-point-clause-said c =
    let tokens = c.args.tokens.now in
    let n = length-map tokens (λ (token : Bor (List ℕ)). token.now) in
    let within : 3 * c.loop-k.k + 2 < length tokens = omega (arith, c.requires.even, c.loop-k-test.true) in
    let l : 3 * c.loop-k.k + 2 < length (bytes_of tokens) = omega (arith, n, within) in
    error_given _ c.from_residual-in_err-point.result c.in_err-point.field-0.0 _ c.from_residual-in_err-point.ensures.1
    (point_refused c.args.unit c.loop-k.k (bytes_of tokens) c.loop-k.points.items l c.loop-k.invariant.read
    c.in_err-point.field-0.0
    (as_held c.args.unit (3 * c.loop-k.k) tokens (record { ref_ptr = (0, 0); now = [] }) within
    ∙ sym c.in_err-point.ensures.said))

pub loop-k-preserved : goal.loop-k-preserved
loop-k-preserved c =
    let tokens = c.args.tokens.now in
    let n = length-map tokens (λ (token : Bor (List ℕ)). token.now) in
    let within : 3 * c.loop-k.k + 2 < length tokens = omega (arith, c.requires.even, c.loop-k-test.true) in
    let l : 3 * c.loop-k.k + 2 < length (bytes_of tokens) = omega (arith, n, within) in
    record {
      read =
          rw (c.in_ok-push.ensures.items)
          (point_more c.args.unit c.loop-k.k (bytes_of tokens) c.loop-k.points.items l c.loop-k.invariant.read
          c.in_ok-point.point
          (as_held c.args.unit (3 * c.loop-k.k) tokens (record { ref_ptr = (0, 0); now = [] }) within
          ∙ sym c.in_ok-point.ensures.said));
      within =
          rw (c.in_ok-push.ensures.items)
          (All-push (IsWithin DATA_LIMIT) c.loop-k.points.items c.in_ok-point.point c.loop-k.invariant.within
          c.in_ok-point.ensures.data);
    }
