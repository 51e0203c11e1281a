-- Labels at the numbers that cells have in the store are labels over the scene (labels_over). So are labels in the order of the scene's
-- rising cells, where `ids` are their numbers (listed_over), which are all live cells, each once (all_live).
use Rattle.std.proofs.Common.{ℕ, ◌<◌, ◌≡◌, ◌==◌, refl, sym, ap, ◌∙◌, subst, arith, Bool, List, Option, length, get_or}
use Rattle.std.specs.List.Sorted.{IsPermutation}
use Rattle.std.proofs.lemmas.Bool.{eqb-true, eq-eqb, false_from_ne_true}
use Rattle.std.proofs.lemmas.List.{get_or_default}
use Rattle.std.proofs.lemmas.List.Sorted.{IsPermutation-refl}
use Rattle.std.proofs.lemmas.List.Sums.{position_or_len_is}
use Rattle.flow_net.specs.Nets.{flag_at}
use Rattle.visibility.specs.Scenes.{Scene}
use Rattle.visibility.specs.Complexes.{Complex}
use Rattle.visibility.specs.Cuts.{IsAdmissible}
use Rattle.visibility.specs.Laws.{test_of}
use Rattle.visibility.specs.Listings.{IsListingOf}
use Rattle.visibility.specs.Votes.{IsComplexOf}
use Rattle.visibility.proofs.ListingAgreements.{with_rising}
use Rattle.visibility.proofs.Indices.{once_rising, same_index}
use Rattle.tetra_store.specs.declared.link.Cell.{Cell}
use Rattle.cell_net.specs.ByNumber.{SaysOfCells}
use Rattle.cell_net.specs.Counts.{AreCellsOf, AreIdsOf}
use Rattle.surface.specs.Labelled.{AreAllLive, AreDistinctNumbers, AreLabelsOver, listed_label}
use Rattle.surface.proofs.Listed.{index_of, says_by_number}

-- what labels by number say is over the scene, whatever their list is called
pub labels_over : (s : Scene) (listing : Complex) (slots : List (Option Cell)) (given inside : List Bool) (test : List ℕ → Bool)
    → AreCellsOf s slots → (lists : IsListingOf s listing) → given ≡ inside → SaysOfCells slots (flag_at inside) test
    → IsAdmissible s listing test → AreLabelsOver s lists.complex slots (flag_at given) test
labels_over s listing slots given inside test cells lists same says admissible = record {
  cells = cells;
  complex_is = lists.complex_is;
  says = subst (λ (flags : List Bool). SaysOfCells slots (flag_at flags) test) (sym same) says;
  admissible = ((with_rising s listing lists).admissible test).0 admissible;
}

-- numbers of the scene's rising cells, in their order
module _ (s : Scene) (slots : List (Option Cell)) (cells : AreCellsOf s slots) (complex : Complex) (all : IsComplexOf s complex)
    (ids : List ℕ) (are : AreIdsOf slots complex.cells ids) where
  same : IsPermutation complex.cells complex.cells
  same = IsPermutation-refl complex.cells

  once : AreDistinctNumbers ids
  once i j li lj e = grind (arith, same_index, once_rising)

  pub all_live : AreAllLive slots ids
  all_live = record {
    live = are.live;
    all = λ id live.
        (let i = index_of s slots cells complex all complex.cells same ids are id live in (
          i.0,
          i.1,
          sym (get_or_default ids i.0 0 id i.1) ∙ i.3,
        ));
    once = once;
  }

  -- a number is first found where it stands
  label_at : (labels : List Bool) (k : ℕ) → k < length ids → listed_label ids labels (get_or ids k 0) ≡ flag_at labels k
  label_at labels k l =
      ap (flag_at labels)
      (position_or_len_is (λ other. other == get_or ids k 0) ids k 0 (omega (arith, l))
      (λ i m. false_from_ne_true (get_or ids i 0 == get_or ids k 0)
      (λ h. let e = once i k (omega (arith, m, l)) l (eqb-true (get_or ids i 0) (get_or ids k 0) h) in omega (arith, m, e)))
      (λ m. eq-eqb (get_or ids k 0) (get_or ids k 0) refl))

  pub listed_over : (labels : List Bool) → IsAdmissible s complex (test_of complex.cells labels)
      → AreLabelsOver s complex slots (listed_label ids labels) (test_of complex.cells labels)
  listed_over labels admissible = record {
    cells = cells;
    complex_is = all;
    says =
        says_by_number s slots cells complex all complex.cells same ids are labels (listed_label ids labels) (label_at labels);
    admissible = admissible;
  }
