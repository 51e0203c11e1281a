-- The search for the least cell that is not balanced, number by number.
--
-- So far none is unbalanced, or the one that is kept has the least row of those that are (IsLeastSoFar). A balanced cell changes nothing
-- (balanced_more). Of an unbalanced one and the one that is kept, the one with the lesser row goes on: its row is no greater than either,
-- and so than that of any cell before (unbalanced_more).
use Rattle.std.proofs.Common.{below_more, ℕ, ◌≡◌, ◌<◌, ◌≤◌, ◌+◌, ◌⊎◌, inl, inr, refl, sym, subst, arith, Option, Some, None, IfSome}
use Rattle.cell_net.specs.declared.network.CellNetwork.{CellNetwork}
use Rattle.flow_net.specs.Firsts.{NoneBelow}
use Rattle.flow_net.specs.declared.Flow.{Flow}
use Rattle.cell_net.specs.Counts.{row_of}
use Rattle.cell_net.specs.Gathered.{row_key}
use Rattle.recon_check.specs.ByRows.{IsUnbalanced, IsUnbalanceAt}
use Rattle.recon_check.specs.declared.balance.Unbalance.{Unbalance}

-- the cell that was found, and no cell so far has a lesser row
pub record IsLeastBelow (net : CellNetwork) (flow : Flow) (n : ℕ) (found : Unbalance) : Type 0 where
  pub node : ℕ
  pub at : IsUnbalanceAt net flow node found
  pub least : (v : ℕ) → v < n → IsUnbalanced net flow v → row_key found.cell ≤ row_key (row_of net.tetra.now.slots v)

-- one was found, or none is so far
abbrev pub IsLeastSoFar : CellNetwork → Flow → ℕ → Option Unbalance → Type 0
IsLeastSoFar net flow n None = NoneBelow n (IsUnbalanced net flow)
IsLeastSoFar net flow n (Some found) = IsLeastBelow net flow n found

-- the next cell is balanced
pub balanced_more : (net : CellNetwork) (flow : Flow) (n : ℕ) (found : Option Unbalance) → ¬ IsUnbalanced net flow n
    → IsLeastSoFar net flow n found → IsLeastSoFar net flow (n + 1) found
balanced_more net flow n None not none = below_more (λ v. ¬ IsUnbalanced net flow v) n none not
balanced_more net flow n (Some found) not so_far = record {
  node = so_far.node;
  at = so_far.at;
  least =
      below_more (λ v. IsUnbalanced net flow v → row_key found.cell ≤ row_key (row_of net.tetra.now.slots v)) n so_far.least
      (λ h. absurd (not h));
}

-- it is not, and the one whose row comes first goes on
pub unbalanced_more : (net : CellNetwork) (flow : Flow) (n : ℕ) (found : Option Unbalance) (other first : Unbalance)
    → IsUnbalanceAt net flow n other → (first ≡ other) ⊎ (found ≡ Some first) → row_key first.cell ≤ row_key other.cell
    → IfSome found (λ least. row_key first.cell ≤ row_key least.cell)
    → IsLeastSoFar net flow n found → IsLeastSoFar net flow (n + 1) (Some first)
unbalanced_more net flow n found other first here either before before_found so_far = record {
  node = (taken either).0;
  at = (taken either).1;
  least =
      below_more (λ v. IsUnbalanced net flow v → row_key first.cell ≤ row_key (row_of net.tetra.now.slots v)) n
      (λ v l h. earlier v l h found refl so_far) (λ h. subst (λ r. row_key first.cell ≤ row_key r) here.cell_is before);
}
  where
    taken : (first ≡ other) ⊎ (found ≡ Some first) → (v : ℕ) × IsUnbalanceAt net flow v first
    taken (inl e) = (n, subst (IsUnbalanceAt net flow n) (sym e) here)
    taken (inr e) =
        let h : IsLeastBelow net flow n first = subst (IsLeastSoFar net flow n) e so_far in (h.node, h.at)

    earlier : (v : ℕ) → v < n → IsUnbalanced net flow v → (o : Option Unbalance) → found ≡ o → IsLeastSoFar net flow n o
        → row_key first.cell ≤ row_key (row_of net.tetra.now.slots v)
    earlier v l h None e none = absurd (none v l h)
    earlier v l h (Some least) e is =
        let low : row_key first.cell ≤ row_key least.cell =
        subst (λ (o : Option Unbalance). IfSome o (λ least. row_key first.cell ≤ row_key least.cell)) e before_found in
        let high = is.least v l h in omega (arith, low, high)
