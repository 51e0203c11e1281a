-- The places between which the key can stand are halved (IsNarrowed): the row in the middle comes before the key, and so do all before
-- it, or it does not, and no later one does. What the code compares is the order of keys (less_from). At the end one place is left: its
-- row has the key, or none has (not_found).
use Rattle.std.proofs.Common.{ℕ, ◌≡◌, ◌<◌, ◌∙◌, [], List, length, map, get_or, ap, sym, subst, arith}
use Rattle.std.proofs.lemmas.List.{get_or-map, length-map}
use Rattle.std.specs.Cmp.Lexicographic.{same_text, other_text}
use Rattle.recon_check.proofs.Lookups.{IsLess, less_from, not_less_from, narrowed_low, narrowed_high, not_found}
use Rattle.recon_check.proofs.lookup.search.Goals as goal
use Rattle.recon_check.proofs.lookup.search.Goals.{else-low-to-via-then-low-to+else-eq, else-low-to-via-else-low-to}

-- the key of the row that stands at a place
key_at : {Row : Type 0} (key : Row → List ℕ) (rows : List Row) (place : ℕ) (row : Row) (shown : List ℕ) → place < length rows
    → row ≡ get_or rows place row → shown ≡ key row → shown ≡ get_or (map key rows) place []
key_at key rows place row shown l is e = e ∙ ap key is ∙ sym (get_or-map key rows place row [] l)

pub loop-low-preserved-then-lt : goal.loop-low-preserved-then-lt
loop-low-preserved-then-lt g c =
    let test = c.loop-low-test.true in
    let end = c.loop-low.invariant.end in
    let within = c.requires.within in
    let many = length-map c.args.rows.now g.R.Row.key in
    let here = key_at g.R.Row.key c.args.rows.now _ c.index-rows-middle.result c.key.result.now (omega (arith, test, end, within))
    c.index-rows-middle.is c.key.ensures in
    narrowed_low (map g.R.Row.key c.args.rows.now) c.requires.rising c.args.from c.args.to c.args.key.now c.loop-low.low
    c.loop-low.high (omega (arith, many, within)) c.loop-low.invariant _ (omega (arith, test))
    (subst (λ (a : List ℕ). IsLess a c.args.key.now) here
    (less_from c.key.result.now c.args.key.now (sym c.lt.ensures ∙ c.if-lt.true)))

pub loop-low-preserved : goal.loop-low-preserved
loop-low-preserved g c =
    let test = c.loop-low-test.true in
    let end = c.loop-low.invariant.end in
    let within = c.requires.within in
    let many = length-map c.args.rows.now g.R.Row.key in
    let here = key_at g.R.Row.key c.args.rows.now _ c.index-rows-middle.result c.key.result.now (omega (arith, test, end, within))
    c.index-rows-middle.is c.key.ensures in
    narrowed_high (map g.R.Row.key c.args.rows.now) c.requires.rising c.args.from c.args.to c.args.key.now c.loop-low.low
    c.loop-low.high (omega (arith, many, within)) c.loop-low.invariant _ (omega (arith, test))
    (subst (λ (a : List ℕ). ¬ IsLess a c.args.key.now) here
    (not_less_from c.key.result.now c.args.key.now (sym c.lt.ensures ∙ c.if-lt.false)))

pub returns-then-eq-clause-some : goal.returns-then-eq-clause-some
returns-then-eq-clause-some g c =
    let l = c.if-low-to.true in
    let within = c.requires.within in (
      omega (arith, l, within),
      sym (key_at g.R.Row.key c.args.rows.now c.loop-low.low c.index-rows-low.result c.key-then-low-to.result.now
          (omega (arith, l, within)) c.index-rows-low.is c.key-then-low-to.ensures)
          ∙ same_text c.key-then-low-to.result.now c.args.key.now (sym c.if-eq.true ∙ c.eq.ensures),
    )

pub returns-else-low-to-clause-none : goal.returns-else-low-to-clause-none
returns-else-low-to-clause-none g c =
    let done = c.loop-low-test.false in
    let within = c.requires.within in
    let many = length-map c.args.rows.now g.R.Row.key in
    not_found (map g.R.Row.key c.args.rows.now) c.requires.rising c.args.from c.args.to c.args.key.now c.loop-low.low
    c.loop-low.high (omega (arith, many, within)) c.loop-low.invariant (omega (arith, done))
    (elim c.else-low-to.branch [
      | else-low-to-via-then-low-to+else-eq w ↦
          λ l e. other_text w.key-then-low-to.result.now c.args.key.now (sym w.if-eq.false ∙ w.eq.ensures)
          (key_at g.R.Row.key c.args.rows.now c.loop-low.low w.index-rows-low.result w.key-then-low-to.result.now
          (omega (arith, l, within)) w.index-rows-low.is w.key-then-low-to.ensures ∙ e)
      | else-low-to-via-else-low-to w ↦ λ l e. (let none = w.if-low-to.false in absurd (omega (arith, l, none)))
    ])
