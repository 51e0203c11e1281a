-- A network: which nodes are fixed, the sink of each node, and the arcs.
--
--   no_arc         what a list of arcs has past its end
--   arc_at         the arc at a place of a list
--   flag_at        whether a list of flags has a node
--   IsReverseArc   one arc is the reverse of another and names it back
--   IsValidArc     an arc fits its network
--   AreValidArcs   each arc does
--   IsValidNet     arcs join distinct nodes and enter free ones; each arc that leaves a free node has its reverse as
--                  pair; capacities and sinks are at most 2^60
use Rattle.std.specs.Prelude.{ℕ, ◌≡◌, ◌≢◌, ◌<◌, ◌≤◌, ◌^◌, Bool, true, false, List, length, slice_index, slice_index_or, Some}
use Rattle.std.specs.Prelude.{None, EachIndex}
use Rattle.std.specs.Option.{ForSome, ForNone}
use Rattle.flow_net.specs.declared.Arc.{Arc}

-- what a list of arcs has past its end
abbrev pub no_arc : Arc
no_arc = record { from = 0; to = 0; cap = 0; pair = None }

-- the arc at a place
abbrev pub arc_at : List Arc → ℕ → Arc
arc_at arcs j = slice_index_or arcs j no_arc

-- whether a list of flags has a node
abbrev pub flag_at : List Bool → ℕ → Bool
flag_at flags v = slice_index_or flags v false

-- the arc b is the reverse of arc a, whose place is j, and names it back
pub record IsReverseArc (a : Arc) (j : ℕ) (b : Arc) : Type 0 where
  pub from_is : b.from ≡ a.to
  pub to_is : b.to ≡ a.from
  pub back : b.pair ≡ Some j

-- the arc a, whose place is j, joins two nodes and enters a free one; it has a pair where it leaves a free one
pub record IsValidArc (fixed : List Bool) (arcs : List Arc) (j : ℕ) (a : Arc) : Type 0 where
  pub from_in : a.from < length fixed
  pub to_in : a.to < length fixed
  pub distinct : a.from ≢ a.to
  pub to_free : flag_at fixed a.to ≡ false
  pub cap_fits : a.cap ≤ 2 ^ 60
  pub no_pair : ForNone a.pair (flag_at fixed a.from ≡ true)
  pub pair_free : ForSome a.pair (λ k. flag_at fixed a.from ≡ false)
  pub pair_in : ForSome a.pair (λ k. k < length arcs)
  pub pair_is : ForSome a.pair (λ k. IsReverseArc a j (arc_at arcs k))

-- each arc fits the network
abbrev pub AreValidArcs : List Bool → List Arc → Type 0
AreValidArcs fixed arcs = EachIndex arcs (λ j. IsValidArc fixed arcs j (arc_at arcs j))

-- the parts make a valid network
pub record IsValidNet (fixed : List Bool) (sink : List ℕ) (arcs : List Arc) : Type 0 where
  pub sink_count : length sink ≡ length fixed
  pub sinks_fit : EachIndex sink (λ v. slice_index sink v ≤ 2 ^ 60)
  pub valid_arcs : AreValidArcs fixed arcs
