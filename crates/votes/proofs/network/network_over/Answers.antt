-- The network over lists of rows and sides that rise.
--
-- That ids are below the tables' lengths, numbers are apart and sides can be joined follows from how rows and sides were
-- gathered (ids_below, numbers_below, rows_apart, sides_apart, can_join). The flags, sinks and arcs that were made of them
-- are then those of the scene's network, which is valid (valid, network_is), and the numbers of its cells are these
-- (ids_are). All are lemmas of Assembled.
use Rattle.std.proofs.Common.{ℕ, refl, ◌∙◌, Contains, subst, sym, arith, List, Bool}
use Rattle.flow_net.specs.Nets.{IsValidNet}
use Rattle.visibility.specs.SceneViews.{view_of}
use Rattle.cell_net.specs.declared.sides.Side.{Side}
use Rattle.cell_net.specs.Parts.{number_of_side, AreDistinctBy}
use Rattle.votes.specs.Tables.{AreArcs}
use Rattle.votes.proofs.Assembled.{ids_below, rows_apart, numbers_below, sides_apart, can_join, valid, network_is, ids_are}
use Rattle.votes.proofs.network.network_over.Goals as goal

pub arcs_of-requires-clause-ids : goal.arcs_of-requires-clause-ids
arcs_of-requires-clause-ids c r h =
    ids_below (view_of c.args.scene.now) c.args.t.now.slots _ _ _ c.args.rows.now c.args.sides.items c.requires.counts
    (record { moved = c.requires.rows; moved_sides = c.requires.sides }) r h

pub arcs_of-requires-clause-numbers : goal.arcs_of-requires-clause-numbers
arcs_of-requires-clause-numbers c x h =
    numbers_below (view_of c.args.scene.now) c.args.t.now.slots _ _ _ c.args.rows.now c.args.sides.items c.requires.counts
    (record { moved = c.requires.rows; moved_sides = c.requires.sides }) x
    (subst (λ (u : List Side). Contains u x) c.deref.ensures.value h)

pub arcs_of-requires-clause-apart_rows : goal.arcs_of-requires-clause-apart_rows
arcs_of-requires-clause-apart_rows c =
    rows_apart (view_of c.args.scene.now) c.args.t.now.slots _ _ _ c.args.rows.now c.args.sides.items c.requires.counts
    (record { moved = c.requires.rows; moved_sides = c.requires.sides })

pub arcs_of-requires-clause-apart_sides : goal.arcs_of-requires-clause-apart_sides
arcs_of-requires-clause-apart_sides c =
    subst (λ (x : List Side). AreDistinctBy number_of_side x) (sym c.deref.ensures.value)
    (sides_apart (view_of c.args.scene.now) c.args.t.now.slots _ _ _ c.args.rows.now c.args.sides.items c.requires.counts
    (record { moved = c.requires.rows; moved_sides = c.requires.sides }))

pub arcs_of-requires-clause-joins : goal.arcs_of-requires-clause-joins
arcs_of-requires-clause-joins c x h =
    can_join (view_of c.args.scene.now) c.args.t.now.slots _ _ _ c.args.rows.now c.args.sides.items c.requires.counts
    (record { moved = c.requires.rows; moved_sides = c.requires.sides }) (search arith) x
    (subst (λ (u : List Side). Contains u x) c.deref.ensures.value h)

pub with_arcs-net-requires : goal.with_arcs-net-requires
with_arcs-net-requires c =
    let n = c.args.counts.now in
    let flags : List Bool = c.in_ok-fixed_of.field-0.items in
    let sinks : List ℕ = c.in_ok-sinks_of.field-0.items in
    subst (λ (x : List Bool). IsValidNet x c.from-2.result c.in_ok-arcs.arcs) (sym c.from.ensures)
    (subst (λ (y : List ℕ). IsValidNet flags y c.in_ok-arcs.arcs) (sym c.from-2.ensures)
    (valid (view_of c.args.scene.now) c.args.t.now.slots n.crossed.now n.behind.now n.fixed.now c.args.rows.now
    c.args.sides.items c.requires.counts (record { moved = c.requires.rows; moved_sides = c.requires.sides })
    c.args.scene.now.settings flags sinks c.in_ok-arcs.arcs
    (record {
      settings_are = refl;
      flags_are = c.in_ok-fixed_of.ensures;
      sinks_are = c.in_ok-sinks_of.ensures;
      arcs_are =
          subst (λ (x : List Side). AreArcs c.args.t.now.slots c.args.rows.now x n.crossed.now n.fixed.now
          c.args.scene.now.settings c.in_ok-arcs.arcs) c.deref.ensures.value c.in_ok-arcs.ensures;
    })))

pub returns-clause-network : goal.returns-clause-network
returns-clause-network c =
    let n = c.args.counts.now in
    network_is (view_of c.args.scene.now) c.args.t.now.slots n.crossed.now n.behind.now n.fixed.now c.args.rows.now
    c.args.sides.items c.requires.counts (record { moved = c.requires.rows; moved_sides = c.requires.sides })
    c.args.scene.now.settings c.in_ok-fixed_of.field-0.items c.in_ok-sinks_of.field-0.items c.in_ok-arcs.arcs
    (record {
      settings_are = refl;
      flags_are = c.in_ok-fixed_of.ensures;
      sinks_are = c.in_ok-sinks_of.ensures;
      arcs_are =
          subst (λ (x : List Side). AreArcs c.args.t.now.slots c.args.rows.now x n.crossed.now n.fixed.now
          c.args.scene.now.settings c.in_ok-arcs.arcs) c.deref.ensures.value c.in_ok-arcs.ensures;
    }) c.requires.rows_rise c.requires.sides_rise c.with_arcs-net.result c.from-3.result c.from-4.result
    (c.from-3.ensures ∙ c.in_ok-cells_of.ensures) (c.from-4.ensures ∙ c.in_ok-facets.ensures)
    (c.with_arcs-net.ensures.fixed ∙ c.from.ensures) (c.with_arcs-net.ensures.sink ∙ c.from-2.ensures)
    c.with_arcs-net.ensures.arcs

pub returns-clause-ids : goal.returns-clause-ids
returns-clause-ids c =
    ids_are (view_of c.args.scene.now) c.args.t.now.slots _ _ _ c.args.rows.now c.args.sides.items c.requires.counts
    (record { moved = c.requires.rows; moved_sides = c.requires.sides }) c.from-3.result c.in_ok-ids.ids.items
    (c.from-3.ensures ∙ c.in_ok-cells_of.ensures) c.in_ok-ids.ensures
