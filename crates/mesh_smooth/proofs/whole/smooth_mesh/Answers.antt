-- Home and the moved points are passed as slices of lists, so `start` and `moved` first say which lists these are.
use Rattle.std.proofs.Common.{◌≡◌, ◌∙◌, sym, subst, arith, List, length, drop}
use Rattle.std.proofs.lemmas.List.{take_at}
use Rattle.geo_sign.specs.Point.{Point}
use Rattle.mesh_smooth.specs.Near.{AreNearHome}
use Rattle.mesh_smooth.specs.Smoothed.{IsReshaped, IsSmoothedMesh}
use Rattle.mesh_smooth.proofs.GridScales.{scale_of_points}
use Rattle.mesh_smooth.proofs.Shapes.{all_near_self, smoothed_mesh}
use Rattle.mesh_smooth.proofs.whole.smooth_mesh.Goals as goal

pub all_steps-requires-clause-near : goal.all_steps-requires-clause-near
all_steps-requires-clause-near c =
    let home = c.in_ok-home.home.items in
    let reach = c.fine_distance.result in
    let moved : c.deref_mut.result.now ≡ home = c.deref_mut.ensures.value ∙ (c.in_ok-moved.ensures.items ∙ c.deref.ensures.value) in
    subst (λ (z : List Point). AreNearHome z c.deref_mut.result.now reach) (sym c.deref-2.ensures.value)
    (subst (λ (z : List Point). AreNearHome home z reach) (sym moved) (all_near_self home reach))

pub returns-clause-smoothed : goal.returns-clause-smoothed
returns-clause-smoothed c =
    let home = c.in_ok-home.home.items in
    let reach = c.fine_distance.result in
    let new = c.all_steps.new.points in
    let moved : c.deref_mut.result.now ≡ home = c.deref_mut.ensures.value ∙ (c.in_ok-moved.ensures.items ∙ c.deref.ensures.value) in
    let near : AreNearHome home new reach =
    subst (λ (z : List Point). AreNearHome z new reach) c.deref-2.ensures.value c.all_steps.ensures.near in
    let shape : IsReshaped home new c.args.faces.now c.all_steps.new.faces =
    subst (λ (z : List Point). IsReshaped z new c.args.faces.now c.all_steps.new.faces) moved c.in_ok-all_steps.ensures.shape in
    let whole : IsSmoothedMesh c.args.points.now new c.args.faces.now c.all_steps.new.faces c.finest-fine.result c.args.smoothing.within =
    smoothed_mesh c.args.points.now home new c.args.faces.now c.all_steps.new.faces c.finest-fine.result c.args.smoothing.within reach
    (scale_of_points c.args.points.now c.greatest-reach.result c.finest-fine.result c.greatest-reach.ensures.each c.greatest-reach.ensures.least
    c.finest-fine.ensures.scale)
    c.fine_distance.ensures c.in_ok-home.ensures c.requires.each near shape in
    subst
    (λ (z : List Point). IsSmoothedMesh c.args.points.now z c.args.faces.now c.all_steps.new.faces c.finest-fine.result c.args.smoothing.within)
    (sym
    (take_at new (drop (length new) c.in_ok-moved.moved.items) c.in_ok-moved.moved.len
    (let m = c.in_ok-moved.moved.ok.0 in
    omega arith))) whole
