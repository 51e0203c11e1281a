-- Two networks whose nodes and arcs correspond judge labels and flows alike.
--
-- Each node of the one stands for a node of the other, each of which stands for one, and so do arcs. The ends of an arc stand
-- for the ends of what it stands for, and all else is the same, sums too. Then labels that say the same cost the same, and
-- flows of the same amounts are worth the same and bring the same to each node, so all that is said of them is the same. What
-- is said of all labels of the one is said of all labels of the other, since these are labels of the one as well: those of the
-- nodes that stand for its nodes, or of those that its nodes stand for.
use Rattle.std.proofs.Common.{ℕ, ◌≡◌, ◌≤◌, ◌+◌, ◌↔◌, Bool, cond, refl, ap, ap₂, sym, ◌∙◌, arith}
use Rattle.flow_net.specs.Networks.{Network, cost, amount_in, amount_out, value, IsValidFlow, IsAdmissible}
use Rattle.flow_net.specs.Networks.{IsLeastCost, IsLeastInside, AgreeAsNetworks}
use Rattle.flow_net.specs.Faults.{sink_limit, total_out}

-- what the nodes and arcs of the one stand for in the other
pub record Corresponds {Node Arc Place Link : Type 0} (net : Network Node Arc) (far : Network Place Link) : Type 0 where
  pub node : Node → Place
  pub back : Place → Node
  pub arc : Arc → Link
  pub node_there : (v : Node) → net.HasNode v → far.HasNode (node v)
  pub back_there : (p : Place) → far.HasNode p → net.HasNode (back p)
  pub node_back : (v : Node) → net.HasNode v → back (node v) ≡ v
  pub back_node : (p : Place) → far.HasNode p → node (back p) ≡ p
  pub arc_there : (a : Arc) → net.HasArc a → far.HasArc (arc a)
  pub arc_of : (l : Link) → far.HasArc l → (a : Arc) × net.HasArc a × (arc a ≡ l)
  pub node_sums : (f : Node → ℕ) (g : Place → ℕ) → ((v : Node) → net.HasNode v → f v ≡ g (node v))
      → net.node_sum f ≡ far.node_sum g
  pub arc_sums : (f : Arc → ℕ) (g : Link → ℕ) → ((a : Arc) → net.HasArc a → f a ≡ g (arc a)) → net.arc_sum f ≡ far.arc_sum g
  pub from_there : (a : Arc) → net.HasArc a → net.HasNode (net.from a)
  pub to_there : (a : Arc) → net.HasArc a → net.HasNode (net.to a)
  pub from_is : (a : Arc) → net.HasArc a → node (net.from a) ≡ far.from (arc a)
  pub to_is : (a : Arc) → net.HasArc a → node (net.to a) ≡ far.to (arc a)
  pub same_is : (v w : Node) → net.HasNode v → net.HasNode w → net.is_same v w ≡ far.is_same (node v) (node w)
  pub capacity_is : (a : Arc) → net.HasArc a → net.capacity a ≡ far.capacity (arc a)
  pub fixed_is : (v : Node) → net.HasNode v → net.is_fixed v ≡ far.is_fixed (node v)
  pub sink_is : (v : Node) → net.HasNode v → net.sink v ≡ far.sink (node v)

-- labels, or amounts at nodes, that say the same of each node
abbrev pub SameAtNodes : {Node Arc Place Link X : Type 0} {net : Network Node Arc} {far : Network Place Link}
    → Corresponds net far → (Node → X) → (Place → X) → Type 0
SameAtNodes {Node} {net = net} c near there = (v : Node) → net.HasNode v → near v ≡ there (c.node v)

-- amounts that are the same on each arc
abbrev pub SameOnArcs : {Node Arc Place Link : Type 0} {net : Network Node Arc} {far : Network Place Link}
    → Corresponds net far → (Arc → ℕ) → (Link → ℕ) → Type 0
SameOnArcs {Arc = Arc} {net = net} c near there = (a : Arc) → net.HasArc a → near a ≡ there (c.arc a)

le_along : (a b c d : ℕ) → a ≡ b → c ≡ d → a ≤ c → b ≤ d
le_along a b c d e f l = omega arith

module _ {Node Arc Place Link : Type 0} (net : Network Node Arc) (far : Network Place Link) (c : Corresponds net far) where
  -- labels of the one as labels of the other, both ways
  abbrev near_labels : (Place → Bool) → Node → Bool
  near_labels there v = there (c.node v)

  abbrev far_labels : (Node → Bool) → Place → Bool
  far_labels inside p = inside (c.back p)

  far_same : (inside : Node → Bool) → SameAtNodes c inside (far_labels inside)
  far_same inside v i = ap inside (sym (c.node_back v i))

  -- at the node that a place is of
  at_back : {X : Type 0} (near : Node → X) (there : Place → X) → SameAtNodes c near there → (p : Place) → far.HasNode p
      → near (c.back p) ≡ there p
  at_back near there h p i = h (c.back p) (c.back_there p i) ∙ ap there (c.back_node p i)

  fixed_back : (p : Place) → far.HasNode p → net.is_fixed (c.back p) ≡ far.is_fixed p
  fixed_back p i = at_back net.is_fixed far.is_fixed c.fixed_is p i

  pub sink_limit_is : (v : Node) → net.HasNode v → sink_limit net v ≡ sink_limit far (c.node v)
  sink_limit_is v i = ap₂ (λ b n. cond b 0 n) (c.fixed_is v i) (c.sink_is v i)

  -- ---- labels that say the same
  module _ (inside : Node → Bool) (there : Place → Bool) (h : SameAtNodes c inside there) where
    -- at the ends of an arc
    pub ends_say : (a : Arc) → net.HasArc a
        → (inside (net.from a) ≡ there (far.from (c.arc a))) × (inside (net.to a) ≡ there (far.to (c.arc a)))
    ends_say a i = grind arith

    pub cost_is : cost net inside ≡ cost far there
    cost_is = grind (arith, ends_say)

    pub admissible : IsAdmissible net inside ↔ IsAdmissible far there
    admissible = grind (arith, at_back, fixed_back)

  module _ (inside : Node → Bool) (there : Place → Bool) (h : SameAtNodes c inside there) where
    pub least_cost : IsLeastCost net inside ↔ IsLeastCost far there
    least_cost = (
      λ k. record {
        admissible = (admissible inside there h).0 k.admissible;
        least = λ other a.
            le_along _ _ _ _ (cost_is inside there h) (cost_is (near_labels other) other (λ v i. refl))
            (k.least (near_labels other) ((admissible (near_labels other) other (λ v i. refl)).1 a));
      },
      λ k. record {
        admissible = (admissible inside there h).1 k.admissible;
        least = λ other a.
            le_along _ _ _ _ (sym (cost_is inside there h)) (sym (cost_is other (far_labels other) (far_same other)))
            (k.least (far_labels other) ((admissible other (far_labels other) (far_same other)).0 a));
      },
    )

  module _ (inside : Node → Bool) (there : Place → Bool) (h : SameAtNodes c inside there) where
    pub least_inside : IsLeastInside net inside ↔ IsLeastInside far there
    least_inside = (
      λ k. record {
        least_cost = (least_cost inside there h).0 k.least_cost;
        within = λ other l p i e. grind (arith, least_cost (near_labels other) other (λ v j. refl), at_back);
      },
      λ k. record {
        least_cost = (least_cost inside there h).1 k.least_cost;
        within = λ other l v i e.
            far_same other v i
            ∙ k.within (far_labels other) ((least_cost other (far_labels other) (far_same other)).0 l) (c.node v)
            (c.node_there v i) (sym (h v i) ∙ e);
      },
    )

  -- ---- flows of the same amounts
  module _ (on_arc : Arc → ℕ) (on_link : Link → ℕ) (h : SameOnArcs c on_arc on_link) where
    pub amount_in_is : (v : Node) → net.HasNode v → amount_in net on_arc v ≡ amount_in far on_link (c.node v)
    amount_in_is v i = grind arith

    amount_out_is : (v : Node) → net.HasNode v → amount_out net on_arc v ≡ amount_out far on_link (c.node v)
    amount_out_is v i = grind arith

  module _ (on_node : Node → ℕ) (at_place : Place → ℕ) (k : SameAtNodes c on_node at_place) where
    pub value_is : value net on_node ≡ value far at_place
    value_is = grind arith

  module _ (on_arc : Arc → ℕ) (on_link : Link → ℕ) (on_node : Node → ℕ) (at_place : Place → ℕ)
      (h : SameOnArcs c on_arc on_link) (k : SameAtNodes c on_node at_place) where
    pub total_out_is : (v : Node) → net.HasNode v
        → total_out net on_arc on_node v ≡ total_out far on_link at_place (c.node v)
    total_out_is v i = ap₂ (λ m n. m + n) (amount_out_is on_arc on_link h v i) (k v i)

    pub valid : IsValidFlow net on_arc on_node ↔ IsValidFlow far on_link at_place
    valid = grind (arith, at_back, fixed_back, amount_in_is, total_out_is)

-- two networks with the same nodes and arcs, the same ends of each arc, and the same of all else
pub record AreAlike {Node Arc : Type 0} (net far : Network Node Arc) : Type 0 where
  pub nodes : (v : Node) → net.HasNode v ↔ far.HasNode v
  pub arcs : (a : Arc) → net.HasArc a ↔ far.HasArc a
  pub node_sums : (f g : Node → ℕ) → ((v : Node) → net.HasNode v → f v ≡ g v) → net.node_sum f ≡ far.node_sum g
  pub arc_sums : (f g : Arc → ℕ) → ((a : Arc) → net.HasArc a → f a ≡ g a) → net.arc_sum f ≡ far.arc_sum g
  pub from_there : (a : Arc) → net.HasArc a → net.HasNode (net.from a)
  pub to_there : (a : Arc) → net.HasArc a → net.HasNode (net.to a)
  pub from_is : (a : Arc) → net.HasArc a → net.from a ≡ far.from a
  pub to_is : (a : Arc) → net.HasArc a → net.to a ≡ far.to a
  pub same_is : (v w : Node) → net.is_same v w ≡ far.is_same v w
  pub capacity_is : (a : Arc) → net.HasArc a → net.capacity a ≡ far.capacity a
  pub fixed_is : (v : Node) → net.HasNode v → net.is_fixed v ≡ far.is_fixed v
  pub sink_is : (v : Node) → net.HasNode v → net.sink v ≡ far.sink v

-- so each node and each arc stands for itself
abbrev pub itself : {Node Arc : Type 0} {net far : Network Node Arc} → AreAlike net far → Corresponds net far
itself h = record {
  node = λ v. v;
  back = λ v. v;
  arc = λ a. a;
  node_there = λ v. (h.nodes v).0;
  back_there = λ v. (h.nodes v).1;
  node_back = λ v i. refl;
  back_node = λ v i. refl;
  arc_there = λ a. (h.arcs a).0;
  arc_of = λ a i. (a, (h.arcs a).1 i, refl);
  node_sums = h.node_sums;
  arc_sums = h.arc_sums;
  from_there = h.from_there;
  to_there = h.to_there;
  from_is = h.from_is;
  to_is = h.to_is;
  same_is = λ v w i j. h.same_is v w;
  capacity_is = h.capacity_is;
  fixed_is = h.fixed_is;
  sink_is = h.sink_is;
}

pub agree_as_networks : {Node Arc : Type 0} (net far : Network Node Arc) → AreAlike net far → AgreeAsNetworks net far
agree_as_networks net far h = record {
  cost_is = λ inside. cost_is net far (itself h) inside inside (λ v i. refl);
  admissible = λ inside. admissible net far (itself h) inside inside (λ v i. refl);
  least_cost = λ inside. least_cost net far (itself h) inside inside (λ v i. refl);
  least_inside = λ inside. least_inside net far (itself h) inside inside (λ v i. refl);
  value_is = λ on_node. value_is net far (itself h) on_node on_node (λ v i. refl);
  valid = λ on_arc on_node. valid net far (itself h) on_arc on_arc on_node on_node (λ a i. refl) (λ v i. refl);
}
