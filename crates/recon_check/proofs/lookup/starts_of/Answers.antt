use Rattle.std.proofs.Common.{ℕ, ◌≡◌, ◌<◌, ◌≤◌, ◌∙◌, [], ◌++◌, ◌∷◌, length, map, slice_index_or, ⊎_elim, ap, sym, subst, arith, List}
use Rattle.std.proofs.lemmas.Bool.{cases_lt}
use Rattle.std.proofs.lemmas.List.{length-map, length-append}
use Rattle.recon_check.specs.Lookups.{least_number, AreStarts}
use Rattle.recon_check.proofs.Lookups.{starts_more}
use Rattle.recon_check.proofs.lookup.starts_of.Goals as goal

pub loop-number-preserved : goal.loop-number-preserved
loop-number-preserved g c =
    let keys : List (List ℕ) = map g.R.Row.key c.args.rows.now in
    let old = c.loop-number.starts.items in
    let place = c.skip-place.result in
    let count = c.loop-number.invariant.0 in
    let many = length-map c.args.rows.now g.R.Row.key in
    let within = c.skip-place.ensures.within in
    let before : (k : ℕ) → k < place → least_number (slice_index_or keys k []) < c.loop-number.number =
    λ k l. ⊎_elim (λ (less : k < c.loop-number.place). c.loop-number.invariant.2 k less)
    (λ (more : c.loop-number.place ≤ k). c.skip-place.ensures.before k more l) (cases_lt k c.loop-number.place) in
    let items : c.push.new.self.items ≡ old ++ place ∷ [] = c.in_ok-push.ensures.items in
    let long = ap length items ∙ length-append old (place ∷ []) in (
      omega (arith, count, long),
      within,
      λ k l. (let less = before k l in omega (arith, less)),
      subst (AreStarts keys) (sym items)
          (starts_more keys old place c.requires (omega (arith, many, within))
          (λ k l. let less = before k l in omega (arith, less, count))
          (λ l. let more = c.skip-place.ensures.at (omega (arith, many, l)) in omega (arith, more, count))
          c.loop-number.invariant.3),
    )
