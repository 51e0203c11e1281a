-- A step of the walk goes out of the cell reached through the one side that exit answers. Such a side is crossed, so its facet is on no
-- wall and there is a cell across (goes_on); that is all that unreachable!() asks. The cell across has the facet turned at the side that
-- side_to answers, so the sight comes in there: what the walk keeps of its cell (walks_on) and of the facet before it (front_on) holds
-- anew, and the list to come from there is the old one without its first (gone_on). The cell left is then not the scanner's, since a cell
-- is left or ends the sight and never both (not_end). Where exit answers none, the cell is the scanner's and the list is empty (none_left).
use Rattle.std.proofs.Common.{ap, subst, sym, refl, ◌∙◌, ◌≡◌, false}
use Rattle.geo_sign.specs.Rational.{displaced}
use Rattle.geo_sign.specs.Sights.{is_cell_of}
use Rattle.tetra_store.specs.Links.{links_of}
use Rattle.tetra_store.specs.Store.{vertices_of}
use Rattle.sight.specs.declared.exit.Reached.{Reached}
use Rattle.sight.specs.Walks.{Walk, IsGoneOn, walk_of}
use Rattle.sight.proofs.Steps.{IsNext, goes_on, walks_on, front_on, gone_on, none_left, not_end}
use Rattle.sight.proofs.along.SightWalk.go_on.Goals as goal

pub unreachable-requires : goal.unreachable-requires
unreachable-requires c =
    let i = c.self.inside in
    goes_on i.tetra.now i.ray i.reached c.in-Some.exit.side c.facts.ensures c.self.invariant.0 c.in-Some.ensures.some.0
    c.in-None-neighbor.ensures.wall

pub invariant_of-self : goal.invariant_of-self
invariant_of-self c =
    let i = c.self.inside in let s = i.tetra.now in let j = c.in-Some.exit.side in let w = c.self.invariant.0 in
    let n = c.in-Some-neighbor.next in let is = c.in-Some-neighbor.ensures in let f = c.go_through.ensures in
    let after : Reached =
    record { at = n.id; vertices = n.vertices; entered = n.side; front = c.go_through.new.reached.front } in
    let next : IsNext s i.reached j after =
    record { across = is.across; loaded = is.vertices; side_in = is.side; back = is.back } in (
      walks_on s i.ray i.reached j after c.facts.ensures w c.in-Some.ensures.some.0 next,
      c.self.invariant.1,
      front_on s i.ray i.reached j after c.facts.ensures w c.in-Some.ensures.some.0 next f.three f.images f.turned f.seen,
      c.self.invariant.3,
    )

pub returns-in-None-clause-out : goal.returns-in-None-clause-out
returns-in-None-clause-out c =
    λ no.
    (let i = c.self.inside in (
      ap (λ (w : Walk). w.to_come) (sym c.self.view_is)
          ∙ none_left i.tetra.now i.ray i.reached c.facts.ensures c.self.invariant.0 c.in-None.ensures.none,
      refl,
    ))

pub returns-in-Some-neighbor-clause-on : goal.returns-in-Some-neighbor-clause-on
returns-in-Some-neighbor-clause-on c =
    λ yes.
    (let i = c.self.inside in let s = i.tetra.now in let n = c.in-Some-neighbor.next in let is = c.in-Some-neighbor.ensures in
    let after : Reached =
    record { at = n.id; vertices = n.vertices; entered = n.side; front = c.go_through.new.reached.front } in
    subst (λ (w : Walk). IsGoneOn w (walk_of s i.ray after)) c.self.view_is
    (gone_on s i.ray i.reached c.in-Some.exit.side after c.facts.ensures c.self.invariant.0 c.in-Some.ensures.some.0
    (record { across = is.across; loaded = is.vertices; side_in = is.side; back = is.back })))

pub returns-in-Some-neighbor-clause-more : goal.returns-in-Some-neighbor-clause-more
returns-in-Some-neighbor-clause-more c =
    λ yes.
    (let i = c.self.inside in
    subst (λ (w : Walk). is_cell_of (vertices_of w.store) (displaced w.scanner) ((links_of w.store.slots).at w.at) ≡ false)
    c.self.view_is
    (not_end i.tetra.now i.ray i.reached c.in-Some.exit.side c.facts.ensures c.self.invariant.0 c.in-Some.ensures.some.0))
