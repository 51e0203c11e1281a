-- Rows of all sides, cell after cell of the store.
--
-- What was pushed so far, with the rows of the cells left behind it, are the rows of all cells (`pushed`, carried on by
-- one_more). Each cell left has a number that a slot has (`below`), so its four sides are within the amounts.
use Rattle.std.proofs.Common.{ℕ, ◌≡◌, ◌<◌, ◌∙◌, ◌++◌, ◌∷◌, Contains, List, ap, ap₂, append_assoc, sym, subst, arith}
use Rattle.std.specs.List.{flat_map}
use Rattle.geo_sign.proofs.Members.{here, there}
use Rattle.certificate.specs.declared.certificate.FlowRow.{FlowRow}
use Rattle.tetra_store.specs.declared.link.Cell.{Cell}
use Rattle.recon_build.specs.Walks.{flows_if_any}
use Rattle.recon_build.proofs.Walks.{entry_below}
use Rattle.recon_build.proofs.rows.side_amounts.Goals as goal

pub loop-id-init : goal.loop-id-init
loop-id-init c =
    let amounts : List ℕ = c.args.amounts.now in
    record {
      pushed =
          ap₂ (λ (rows : List FlowRow) (cells : List (ℕ × Cell)). rows ++ flat_map (flows_if_any amounts) cells)
          c.new-rows.ensures.items c.cells-cells.ensures;
      below = λ e h.
          entry_below c.args.t.now.slots e (subst (λ (es : List (ℕ × Cell)). Contains es e) c.cells-cells.ensures h);
    }

-- the first of the cells that are left
first_below : (n : ℕ) (cells rest : List (ℕ × Cell)) (e : ℕ × Cell) → cells ≡ e ∷ rest
    → ((d : ℕ × Cell) → Contains cells d → d.0 < n) → e.0 < n
first_below n cells rest e is below = below e (subst (λ (es : List (ℕ × Cell)). Contains es e) (sym is) (here e rest))

pub push_flows-requires : goal.push_flows-requires
push_flows-requires c =
    let below = first_below _ _ _ _ c.in-Some.ensures c.loop-id.invariant.below in omega (arith, below, c.requires)

-- its rows come behind those that were pushed
one_more : (f : ℕ × Cell → List FlowRow) (cells rest : List (ℕ × Cell)) (e : ℕ × Cell) (rows more all : List FlowRow)
    → cells ≡ e ∷ rest → more ≡ rows ++ f e → rows ++ flat_map f cells ≡ all → more ++ flat_map f rest ≡ all
one_more f cells rest e rows more all is pushed h =
    ap (λ (list : List FlowRow). list ++ flat_map f rest) pushed ∙ append_assoc rows (f e) (flat_map f rest)
    ∙ ap (λ (es : List (ℕ × Cell)). rows ++ flat_map f es) (sym is) ∙ h

pub loop-id-preserved : goal.loop-id-preserved
loop-id-preserved c =
    record {
      pushed =
          one_more (flows_if_any c.args.amounts.now) _ _ _ _ _ _ c.in-Some.ensures c.in_ok-push_flows.ensures
          c.loop-id.invariant.pushed;
      below = λ e h.
          c.loop-id.invariant.below e
          (subst (λ (es : List (ℕ × Cell)). Contains es e) (sym c.in-Some.ensures) (there _ e c.next.new.self h));
    }
