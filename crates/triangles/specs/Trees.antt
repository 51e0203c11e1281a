-- A tree of boxes.
--
--   nowhere            a box for nodes past the end of a list
--   IsNodeAbove node s m    the node, s levels above the leaves, is above node m of the lowest level
--   leaf_of tree i    the leaf of a number
--   hull_in hulls k    the box of node k
--   HasGrown old new   each box contains what it contained before
--   IsInsertedAt hulls ..   each box above a leaf contains h
--   IsInserted tree i h     each box above a number contains h
--   KeepsAll old new   a list still has all that it had
use Rattle.std.specs.Prelude.{ℕ, ◌+◌, ◌*◌, ◌/◌, ◌<◌, ◌≤◌, ◌^◌, pos, List, slice_index_or, Contains}
use Rattle.triangles.specs.Hulls.{HoldsHull}
use Rattle.triangles.specs.declared.hull.Hull.{Hull}
use Rattle.triangles.specs.declared.span.Span.{Span}
use Rattle.triangles.specs.declared.tree.HullTree.{HullTree}

-- for nodes past the end of a list
abbrev pub nowhere : Hull
nowhere =
    let none : Span = record { low = pos 0; high = pos 0 } in
    record { x = none; y = none; z = none }

-- the node, s levels above the leaves, is above node m of the lowest level
pub record IsNodeAbove (node s m : ℕ) : Type 0 where
  pub from : node * 2 ^ s ≤ m
  pub to : m < (node + 1) * 2 ^ s

-- four numbers share a leaf
abbrev pub leaf_of : HullTree → ℕ → ℕ
leaf_of tree i = tree.leaves + i / 4

-- the box of a node
abbrev pub hull_in : List Hull → ℕ → Hull
hull_in hulls k = slice_index_or hulls k nowhere

-- each box above the leaf contains h
abbrev pub IsInsertedAt : (hulls : List Hull) (height place : ℕ) → Hull → Type 0
IsInsertedAt hulls height place h = (s node : ℕ) → s ≤ height → IsNodeAbove node s place → HoldsHull (hull_in hulls node) h

-- each box contains what it contained before
abbrev pub HasGrown : (old new : List Hull) → Type 0
HasGrown old new = (k : ℕ) (h : Hull) → HoldsHull (hull_in old k) h → HoldsHull (hull_in new k) h

-- each box above the number contains h, which was inserted there
abbrev pub IsInserted : HullTree → ℕ → Hull → Type 0
IsInserted tree i h = IsInsertedAt tree.hulls.items tree.height (leaf_of tree i) h

-- the list still has all that it had
abbrev pub KeepsAll : (old new : List ℕ) → Type 0
KeepsAll old new = (i : ℕ) → Contains old i → Contains new i
