-- The two lists at last.
use Rattle.std.proofs.Common.{ℕ, ◌≤◌, inl, inr, subst, arith, List, length, get_or}
use Rattle.std.specs.List.{All, Contains}
use Rattle.std.proofs.lemmas.List.Elements.{All-contains_itself}
use Rattle.geo_sign.specs.Point.{Point}
use Rattle.mesh_edges.specs.declared.pairs.Pair.{Pair}
use Rattle.mesh_crossings.specs.Crossings.{AreCrossing, AreCrossingPairs, AreOrdered}
use Rattle.mesh_crossings.specs.Tested.{ArePairsKnown}
use Rattle.mesh_crossings.proofs.Tidied.{AreDivided}

pub all_divided : (points : List Point) (faces : List (List ℕ)) (pairs crossing undecided : List Pair) (n : ℕ) → length pairs ≤ n
    → All (AreOrdered faces) pairs → ArePairsKnown points faces pairs → ((q : Pair) → Contains crossing q → AreCrossing points faces q)
    → AreDivided pairs crossing undecided n → AreCrossingPairs points faces crossing undecided
all_divided points faces pairs crossing undecided n end ordered known each was =
    record {
      each = λ k d l. each (get_or crossing k d) (All-contains_itself crossing k d l);
      once = was.once;
      undecided_each = λ k d l.
          let f = was.other_from (get_or undecided k d) (All-contains_itself undecided k d l) in
          subst (AreOrdered faces) f.3 (ordered f.0 (get_or undecided k d) f.2);
      undecided_once = was.other_once;
      disjoint = was.disjoint;
      rest = λ i j l m.
          elim (known i j l m) [
            | inl has ↦
                elim (was.has has.0 (record { first = i; second = j }) (omega (arith, has.1)) has.1) [
                  | inl is ↦ inl (subst (Contains crossing) has.2 is)
                  | inr is ↦ inr (inl (subst (Contains undecided) has.2 is))
                ]
            | inr apart ↦ inr (inr apart)
          ];
    }
