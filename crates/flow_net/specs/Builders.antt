-- What a builder has, what its calls add, and why they refuse.
--
--   Parts           what a builder holds: which nodes are fixed, the sink of each node, and the arcs
--   no_parts        a builder without nodes and arcs
--   with_node       parts with a node more
--   with_feed       parts with an arc more that has no reverse
--   with_join       parts with an arc and its reverse more
--   IsFirstWrong n a b is_right
--                   n is the argument that an error is about, of two arguments that are tested in order: n is a, or n
--                   is b and the first one is right
--   IsNode parts v is_fixed   node v exists, and is fixed or free as stated
--   CanFeed parts from to cap
--                   an arc without a reverse may be added: it leaves a fixed node, enters a free one, and has a
--                   capacity of at most 2^60
--   AreJoinable parts from to   `from` and `to` are two distinct free nodes
--   CanJoin parts from to cap back_cap
--                   an arc and its reverse may be added: they join two distinct free nodes, with capacities of at most
--                   2^60
--   RefusesSink, RefusesFeed, RefusesJoin
--                   what each error of a builder states about the first wrong argument, in the order of the call: no
--                   such node, one node twice, a fixed node in place of a free one or the reverse, an amount over 2^60.
--                   Out of memory states that nothing else is wrong (`CanFeed`, `CanJoin`)
--
-- An error is about the first wrong argument, in the order in which the call takes them; that both ends are one node comes
-- after each of the ends. So for the same arguments there is one error, except out of memory.
use Rattle.std.specs.Prelude.{ℕ, ◌≡◌, ◌≢◌, ◌<◌, ◌≤◌, ◌+◌, ◌⊎◌, Bool, true, false, List, [], ◌∷◌, ◌++◌, length, Some, None}
use Rattle.flow_net.specs.declared.Arc.{Arc}
use Rattle.flow_net.specs.declared.builder.NetRefusal.{NetRefusal}
use Rattle.flow_net.specs.declared.builder.NetRefusal.TheVariants.{NoNode, SameNode, EntersFixed, LeavesFree, OverLimit}
use Rattle.flow_net.specs.declared.builder.NetRefusal.TheVariants.{NoMemory}
use Rattle.flow_net.specs.declared.TheConstants.{AMOUNT_LIMIT}
use Rattle.flow_net.specs.Nets.{flag_at}

-- which nodes are fixed, the sink of each node, and the arcs
pub record Parts : Type 0 where
  pub fixed : List Bool
  pub sink : List ℕ
  pub arcs : List Arc

-- no nodes and no arcs
abbrev pub no_parts : Parts
no_parts = record { fixed = []; sink = []; arcs = [] }

-- a node more, fixed or free, with its sink
abbrev pub with_node : Parts → Bool → ℕ → Parts
with_node parts is_fixed sink = record parts { fixed = parts.fixed ++ is_fixed ∷ []; sink = parts.sink ++ sink ∷ [] }

-- an arc more, without a reverse
abbrev pub with_feed : Parts → ℕ → ℕ → ℕ → Parts
with_feed parts from to cap =
    record parts { arcs = parts.arcs ++ record { from = from; to = to; cap = cap; pair = None } ∷ [] }

-- two arcs more, each the reverse of the other
abbrev pub with_join : Parts → ℕ → ℕ → ℕ → ℕ → Parts
with_join parts from to cap back_cap =
    record parts {
      arcs = parts.arcs
          ++ record { from = from; to = to; cap = cap; pair = Some (length parts.arcs + 1) }
          ∷ record { from = to; to = from; cap = back_cap; pair = Some (length parts.arcs) } ∷ [];
    }

-- a number is the first of two, or the second where the first is right
abbrev pub IsFirstWrong : ℕ → ℕ → ℕ → (is_right : Type 0) → Type 0
IsFirstWrong n a b is_right = (n ≡ a) ⊎ ((n ≡ b) × is_right)

-- a node is there, and is fixed or free
pub record IsNode (parts : Parts) (v : ℕ) (is_fixed : Bool) : Type 0 where
  pub there : v < length parts.fixed
  pub flag : flag_at parts.fixed v ≡ is_fixed

-- it leaves a fixed node, enters a free one, and its capacity is within the limit
pub record CanFeed (parts : Parts) (from to cap : ℕ) : Type 0 where
  pub from_fixed : IsNode parts from true
  pub to_free : IsNode parts to false
  pub small : cap ≤ AMOUNT_LIMIT

-- two free nodes
pub record AreJoinable (parts : Parts) (from to : ℕ) : Type 0 where
  pub from_free : IsNode parts from false
  pub to_free : IsNode parts to false
  pub apart : from ≢ to

-- they join two free nodes, and their capacities are within the limit
pub record CanJoin (parts : Parts) (from to cap back_cap : ℕ) : Type 0 where
  pub nodes : AreJoinable parts from to
  pub small : cap ≤ AMOUNT_LIMIT
  pub back_small : back_cap ≤ AMOUNT_LIMIT

-- what an error says of a sink; for out of memory alone, that nothing is wrong with it
abbrev pub RefusesSink : ℕ → NetRefusal → Type 0
RefusesSink sink (OverLimit amount) = (amount ≡ sink) × AMOUNT_LIMIT < amount
RefusesSink sink NoMemory = sink ≤ AMOUNT_LIMIT
RefusesSink sink why = ⊥

-- what an error says of an arc from a fixed node; for out of memory alone, that nothing is wrong with it
abbrev pub RefusesFeed : Parts → ℕ → ℕ → ℕ → NetRefusal → Type 0
RefusesFeed parts from to cap (NoNode v) = IsFirstWrong v from to (IsNode parts from true) × length parts.fixed ≤ v
RefusesFeed parts from to cap (SameNode v) = ⊥
RefusesFeed parts from to cap (EntersFixed v) = (v ≡ to) × IsNode parts from true × IsNode parts v true
RefusesFeed parts from to cap (LeavesFree v) = (v ≡ from) × IsNode parts v false
RefusesFeed parts from to cap (OverLimit amount) =
    (amount ≡ cap) × IsNode parts from true × IsNode parts to false × AMOUNT_LIMIT < amount
RefusesFeed parts from to cap NoMemory = CanFeed parts from to cap

-- what an error says of an arc and its reverse; for out of memory alone, that nothing is wrong with them
abbrev pub RefusesJoin : Parts → ℕ → ℕ → ℕ → ℕ → NetRefusal → Type 0
RefusesJoin parts from to cap back_cap (NoNode v) = IsFirstWrong v from to (IsNode parts from false) × length parts.fixed ≤ v
RefusesJoin parts from to cap back_cap (SameNode v) = (v ≡ from) × (v ≡ to) × IsNode parts v false
RefusesJoin parts from to cap back_cap (EntersFixed v) = IsFirstWrong v from to (IsNode parts from false) × IsNode parts v true
RefusesJoin parts from to cap back_cap (LeavesFree v) = ⊥
RefusesJoin parts from to cap back_cap (OverLimit amount) =
    AreJoinable parts from to × IsFirstWrong amount cap back_cap (cap ≤ AMOUNT_LIMIT) × AMOUNT_LIMIT < amount
RefusesJoin parts from to cap back_cap NoMemory = CanJoin parts from to cap back_cap
