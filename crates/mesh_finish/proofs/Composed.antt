-- The steps, one after another.
use Rattle.std.proofs.Common.{ℕ, ◌≡◌, ◌∙◌, Bool, true, false, Option, None, Some, sym, subst, List, length}
use Rattle.std.specs.List.{All}
use Rattle.geo_sign.specs.Point.{Point}
use Rattle.mesh_edges.specs.Edges.{IsBalanced}
use Rattle.mesh_flips.specs.Turns.{IsTriangle}
use Rattle.mesh_pieces.specs.Splits.{AreSingle}
use Rattle.mesh_pieces.proofs.Edges.{two_faces}
use Rattle.mesh_finish.specs.Steps.{ArePiecesIf, IsSplitIf, AreFlippedIf, IsSmoothedIf, AreMade}
use Rattle.finish_options.specs.declared.options.FinishOptions.{FinishOptions}
use Rattle.finish_options.specs.declared.options.SmoothOptions.{SmoothOptions}
use Rattle.mesh_finish.proofs.Rewritten.{smoothed_balanced, smoothed_single}

-- with smoothing or without, the mesh stays closed
balanced_if : (smoothing : Option SmoothOptions) (points : List Point) (faces : List (List ℕ)) (np : List Point) (nf : List (List ℕ))
    (fine : ℕ) → All (IsTriangle (length points)) faces → IsSmoothedIf smoothing points faces np nf fine → IsBalanced faces
    → IsBalanced nf
balanced_if None points faces np nf fine each (same, kept, one) closed = subst (λ (fs : List (List ℕ)). IsBalanced fs) (sym kept) closed
balanced_if (Some s) points faces np nf fine each smooth closed = smoothed_balanced points faces np nf fine s.within each smooth closed

-- and no directed edge occurs twice that did not
single_if : (smoothing : Option SmoothOptions) (points : List Point) (faces : List (List ℕ)) (np : List Point) (nf : List (List ℕ))
    (fine : ℕ) → All (IsTriangle (length points)) faces → IsSmoothedIf smoothing points faces np nf fine → AreSingle faces
    → AreSingle nf
single_if None points faces np nf fine each (same, kept, one) once = subst (λ (fs : List (List ℕ)). AreSingle fs) (sym kept) once
single_if (Some s) points faces np nf fine each smooth once = smoothed_single points faces np nf fine s.within each smooth once

module _ (options : FinishOptions) (points : List Point) (faces : List (List ℕ)) (kp : List Point) (kf : List (List ℕ))
    (sp : List Point) (sf : List (List ℕ)) (fp : List Point) (ff : List (List ℕ)) (np : List Point) (nf : List (List ℕ)) (fine : ℕ) where
  pub composed : ArePiecesIf options.pieces points faces kp kf → IsSplitIf options.manifold kp kf sp sf → fp ≡ sp
      → AreFlippedIf options.flips sp sf ff → IsSmoothedIf options.smoothing fp ff np nf fine → (options.flips ≡ false → nf ≡ ff)
      → All (IsTriangle (length fp)) ff → IsBalanced faces → IsBalanced ff → (AreSingle sf → AreSingle ff)
      → AreMade options points faces np nf fine
  composed pieces split same flips smooth still each was closed single =
      record {
        kept_points = kp;
        kept_faces = kf;
        split_points = sp;
        split_faces = sf;
        flipped_faces = ff;
        pieces = pieces;
        split = split;
        flips = flips;
        smooth = subst (λ (ps : List Point). IsSmoothedIf options.smoothing ps ff np nf fine) same smooth;
        still = λ off. still off ∙ subst (λ (b : Bool). AreFlippedIf b sp sf ff) off flips;
        was_closed = was;
        closed = now;
        two = λ on.
            two_faces nf
            (single_if options.smoothing fp ff np nf fine each smooth
            (single (subst (λ (b : Bool). IsSplitIf b kp kf sp sf) on split).once)) now;
      }
    where
      now : IsBalanced nf
      now = balanced_if options.smoothing fp ff np nf fine each smooth closed
