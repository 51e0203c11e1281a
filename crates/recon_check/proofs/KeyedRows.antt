-- The first of rising rows that has a property is the first of rising keys that has it, where each row is among the keys and a key with
-- the property has a row. Whether a row has it is told by its number: numbers stand for rows, and N holds at a place where P holds of the
-- row there. Were a key with the property before that of the first row that has it, its own row, which has the property as well, would
-- stand behind, though rows rise.
use Rattle.std.proofs.Common.{ℕ, ◌≡◌, ◌<◌, ◌↔◌, sym, subst, ◌∙◌, arith, List, [], length, get_or}
use Rattle.std.proofs.Common.{All, AllPairs, Contains}
use Rattle.flow_net.specs.Firsts.{IsFirst, NoneBelow}
use Rattle.geo_sign.specs.Rising.{IsBefore}
use Rattle.line_text.proofs.Rows.{before_trans}
use Rattle.visibility.proofs.Indices.{at_index, index_has, not_before_itself}
use Rattle.recon_check.specs.Claims.{IsFirstOf, NoneOf}

-- rows about some of the keys, and a property that no other key has, told by the numbers of the rows
pub record AreTold (rows keys : List (List ℕ)) (numbers : List ℕ) (N : List ℕ → ℕ → Type 0) (P : List ℕ → Type 0) : Type 0 where
  pub count : length numbers ≡ length rows
  pub rising : AllPairs IsBefore rows
  pub keys_rise : AllPairs IsBefore keys
  pub there : All (Contains keys) rows
  pub has_row : (key : List ℕ) → Contains keys key → P key → Contains rows key
  pub same : (k : ℕ) → k < length rows → N numbers k ↔ P (get_or rows k [])

module _ {rows keys : List (List ℕ)} {numbers : List ℕ} {N : List ℕ → ℕ → Type 0} {P : List ℕ → Type 0}
    (told : AreTold rows keys numbers N P) (given : List ℕ) (given_is : given ≡ numbers) where
  pub first_key : (k : ℕ) (row : List ℕ) → IsFirst (length given) (N given) k → (k < length rows → row ≡ get_or rows k [])
      → IsFirstOf keys P row
  first_key k row h read =
      let first : IsFirst (length numbers) (N numbers) k = subst (λ (xs : List ℕ). IsFirst (length xs) (N xs) k) given_is h in
      let in_n = first.in_range in
      let l : k < length rows = omega (arith, in_n, told.count) in
      let p : Contains keys (get_or rows k []) = told.there k [] l in
      let here : get_or keys p.0 [] ≡ get_or rows k [] = at_index keys (get_or rows k []) p in
      record {
        place = p.0;
        first = record {
          in_range = p.1;
          has = subst P (sym here) ((told.same k l).0 first.has);
          none_before = λ i m q.
              let lp = p.1 in
              let key : List ℕ = get_or keys i [] in
              let r = told.has_row key (index_has keys i (omega (arith, m, lp))) q in
              let there : get_or rows r.0 [] ≡ key = at_index rows key r in
              let before : IsBefore key (get_or rows k []) =
              subst (λ (z : List ℕ). IsBefore key z) here (told.keys_rise i p.0 [] m lp) in
              let not_less : ¬ (r.0 < k) = λ less. first.none_before r.0 less ((told.same r.0 r.1).1 (subst P (sym there) q)) in
              let not_more : ¬ (k < r.0) = λ more.
              not_before_itself key
              (before_trans key (get_or rows k []) key before
              (subst (λ (z : List ℕ). IsBefore (get_or rows k []) z) there (told.rising k r.0 [] more r.1))) in
              let e : r.0 ≡ k = omega (arith, not_less, not_more) in
              not_before_itself key
              (subst (λ (z : List ℕ). IsBefore key z) (subst (λ (i : ℕ). get_or rows i [] ≡ key) e there) before);
        };
        row_is = read l ∙ sym here;
      }

  pub none_key : NoneBelow (length given) (N given) → NoneOf keys P
  none_key none_given key there q =
      let none : NoneBelow (length numbers) (N numbers) = subst (λ (xs : List ℕ). NoneBelow (length xs) (N xs)) given_is none_given in
      let r = told.has_row key there q in
      let l = r.1 in
      none r.0 (omega (arith, l, told.count)) ((told.same r.0 l).1 (subst P (sym (at_index rows key r)) q))
