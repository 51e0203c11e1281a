use Rattle.std.proofs.Common.{◌≡◌, ◌∙◌, sym, arith, get_or, Bool, true, false}
use Rattle.std.specs.Bool.{OnTrue, OnFalse}
use Rattle.std.proofs.lemmas.Bool.{OnFalse_from, OnTrue_from, false≢true}
use Rattle.mesh_edges.proofs.Things.{nothing_below, number_next}
use Rattle.mesh_measures.proofs.manifolds.count_flags.Goals as goal

pub loop-v-init : goal.loop-v-init
loop-v-init c = record { few = omega arith; many = nothing_below (λ v. get_or c.args.flags.now v false ≡ true) }

pub loop-v-preserved : goal.loop-v-preserved
loop-v-preserved c =
    let hit : Bool = get_or c.args.flags.now c.loop-v.v false in
    let yes : OnTrue hit (hit ≡ true) = OnTrue_from hit (hit ≡ true) (λ e. e) in
    let no : OnFalse hit (hit ≡ true → ⊥) = OnFalse_from hit (hit ≡ true → ⊥) (λ e p. false≢true (sym e ∙ p)) in
    record {
      few = grind arith;
      many =
          number_next (λ v. get_or c.args.flags.now v false ≡ true) c.loop-v.v c.loop-v.count _
          hit c.loop-v.invariant.many c.next_count-count.ensures yes no;
    }
