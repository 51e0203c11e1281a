-- The sides between outside and inside cells, in any order.
-- Stands on: Entries, and Lists for what an order keeps.
use Rattle.std.proofs.Common.{Bool, List, Option, Contains}
use Rattle.std.specs.List.Sorted.{IsPermutation}
use Rattle.std.proofs.lemmas.List.Sorted.{Contains-permutation, IsPermutation-sym}
use Rattle.tetra_store.specs.declared.link.Cell.{Cell}
use Rattle.cell_net.specs.declared.sides.Side.{Side}
use Rattle.cell_net.specs.CutSides.{AreCutSides, IsCutSide}
use Rattle.cell_net.specs.Gathered.{all_cut}
use Rattle.cell_net.specs.Parts.{number_of_side}
use Rattle.cell_net.proofs.Entries.{cut_apart, cut_is, cut_there, IsSideAt}
use Rattle.cell_net.proofs.Lists.{apart_permuted}

is_cut_side : (slots : List (Option Cell)) (outside : List Bool) (x : Side) → Contains (all_cut outside slots) x
    → IsCutSide slots outside x
is_cut_side slots outside x h =
    let p = cut_is slots outside x h in
    let side : IsSideAt slots outside x = p.0 in
    record {
      live = side.live;
      own = p.1;
      in_range = side.in_range;
      other = side.other;
      next = side.next;
      inside = side.free;
      facet_is = side.is;
    }

pub cut_sides : (slots : List (Option Cell)) (outside : List Bool) (sides : List Side)
    → IsPermutation (all_cut outside slots) sides → AreCutSides slots outside sides
cut_sides slots outside sides moved =
    record {
      each = λ x h.
          is_cut_side slots outside x
          (Contains-permutation sides (all_cut outside slots) x (IsPermutation-sym (all_cut outside slots) sides moved) h);
      all = λ id k other l n own free.
          let p = cut_there slots outside id k other l n free own in
          (p.0, Contains-permutation (all_cut outside slots) sides p.0 moved p.1, p.2, p.3);
      once = apart_permuted number_of_side (all_cut outside slots) sides moved (cut_apart outside slots);
    }
