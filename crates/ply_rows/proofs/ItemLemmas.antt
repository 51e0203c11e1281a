-- The items of a list, one after another.
use Rattle.std.proofs.Common.{◌≡◌, ℕ, zero, suc, ◌+◌, ◌-◌, ◌<◌, ◌≤◌, List, [], ◌∷◌, ◌++◌, length, get_or, take, drop, Result}
use Rattle.std.proofs.Common.{Ok, Err, refl, sym, ap, ◌∙◌, arith, inl, inr}
use Rattle.std.proofs.lemmas.Bool.{le-ltb, lt-ltb, cases_lt}
use Rattle.std.proofs.lemmas.List.{take_more, drop-drop, length-drop, length-map, length-take, length-take-le, get_or-drop}
use Rattle.ply_head.specs.Answers.{◌>>=◌}
use Rattle.ply_head.specs.declared.header.Kind.{Kind}
use Rattle.ply_head.specs.declared.header.Kind.TheVariants.{Ascii, BinaryLittle, BinaryBig}
use Rattle.ply_head.specs.declared.header.Scalar.{Scalar}
use Rattle.ply_rows.specs.declared.place.Field.{Field}
use Rattle.ply_rows.specs.declared.place.Place.{Place}
use Rattle.ply_rows.specs.declared.refusal.RowRefusal.{RowRefusal}
use Rattle.ply_rows.specs.declared.refusal.RowRefusal.TheVariants.{Cut, NoMemory}
use Rattle.ply_rows.specs.Tokens.{Token, tokens_at}
use Rattle.ply_rows.specs.Texts.{Fails, end_of_tokens, items_end, items_of}
use Rattle.ply_rows.specs.Binaries.{size_of}
use Rattle.ply_rows.specs.Items.{pieces, items_from, HasItems}

end_of_tokens-push : (place : ℕ) (ts : List Token) (t : Token) → end_of_tokens place (ts ++ t ∷ []) ≡ t.place + length t.bytes
end_of_tokens-push place [] t = refl
end_of_tokens-push place (s ∷ ts) t = end_of_tokens-push (s.place + length s.bytes) ts t

-- k of the tokens are read, up to a place, and these are left
pub record AreRead (ts left : List Token) (place k end : ℕ) : Type 0 where
  pub within : k ≤ length ts
  pub left_is : left ≡ drop k ts
  pub end_is : end ≡ end_of_tokens place (take k ts)

pub one_read : (ts left more : List Token) (t : Token) (place k end behind : ℕ) → AreRead ts left place k end → left ≡ t ∷ more
    → t.place + length t.bytes ≡ behind → AreRead ts more place (k + 1) behind
one_read ts left more t place k end behind read is ends =
    let here : drop k ts ≡ t ∷ more = sym read.left_is ∙ is in
    let lt : k < length ts = omega (arith, ap length here, length-drop k ts) in
    let at : get_or ts k t ≡ t =
    ap (λ (n : ℕ). get_or ts n t) (omega arith) ∙ sym (get_or-drop k ts 0 t) ∙ ap (λ (us : List Token). get_or us 0 t) here in
    record {
      within = omega arith;
      left_is = sym (ap (drop 1) here) ∙ drop-drop 1 k ts;
      end_is =
          sym ends ∙ sym (end_of_tokens-push place (take k ts) t)
          ∙ sym (ap (end_of_tokens place) (take_more ts k t lt ∙ ap (λ (u : Token). take k ts ++ u ∷ []) at));
    }

pub items_cut : (at : Place) (n : ℕ) (ts left : List Token) (place k end : ℕ) → AreRead ts left place k end → left ≡ [] → k < n
    → items_end at n place ts ≡ Err (Cut at)
items_cut at n ts left place k end read is lt =
    rw (lt-ltb (length ts) n (omega (arith, ap length read.left_is, ap length is, length-drop k ts))) refl

abbrev pub with_first : ℕ → ℕ → ℕ × List Token → Result (Field × List Token) RowRefusal
with_first n first x = Ok (record { place = first; size = x.0 - first; items = n }, x.1)

first_item : (at : Place) (m : ℕ) (t : Token) (ts : List Token)
    → items_of at (suc m) (t ∷ ts) ≡ (items_end at m (t.place + length t.bytes) ts >>= with_first (suc m) t.place)
first_item at m t ts =
    elim (cases_lt (length ts) m) [
      | inl lt ↦ rw (lt-ltb (length (t ∷ ts)) (suc m) (omega arith), lt-ltb (length ts) m lt) refl
      | inr ge ↦
          rw (le-ltb (length (t ∷ ts)) (suc m) (omega arith), le-ltb (length ts) m ge)
          (ap (λ (n : ℕ). with_first (suc n) t.place (end_of_tokens (t.place + length t.bytes) (take m ts), drop m ts))
          (length-take-le m ts ge))
    ]

pub items_first : (at : Place) (n : ℕ) (t : Token) (ts : List Token) (behind : ℕ) → 0 < n → t.place + length t.bytes ≡ behind
    → items_of at n (t ∷ ts) ≡ (items_end at (n - 1) behind ts >>= with_first n t.place)
items_first at zero t ts behind lt ends = absurd (omega arith)
items_first at (suc m) t ts behind lt ends = grind (arith, first_item)

-- tokens that were read were there
pub items_there : (at : Place) (n place : ℕ) (ts : List Token) (read : ℕ × List Token) → items_end at n place ts ≡ Ok read
    → n ≤ length ts
items_there at n place ts read e = grind (arith, lt-ltb)

-- a list is refused as its items are
pub items_fail : (e : RowRefusal) (at : Place) (n : ℕ) (t : Token) (ts all : List Token) (behind : ℕ) → 0 < n
    → t.place + length t.bytes ≡ behind → all ≡ t ∷ ts → Fails e (items_end at (n - 1) behind ts) → Fails e (items_of at n all)
items_fail NoMemory at n t ts all behind lt ends is fails = tt
items_fail e at n t ts all behind lt ends is fails = grind (arith, items_first)

pub items_done : (at : Place) (n : ℕ) (t : Token) (ts all left : List Token) (behind end : ℕ) → 0 < n
    → t.place + length t.bytes ≡ behind → all ≡ t ∷ ts → items_end at (n - 1) behind ts ≡ Ok (end, left)
    → items_of at n all ≡ Ok (record { place = t.place; size = end - t.place; items = n }, left)
items_done at n t ts all left behind end lt ends is done =
    ap (items_of at n) is ∙ items_first at n t ts behind lt ends
    ∙ ap (λ (r : Result (ℕ × List Token) RowRefusal). r >>= with_first n t.place) done

-- where a token ends
pub token_ends : (body : List ℕ) (start end : ℕ) → start < end → end ≤ length body
    → start + length (take (end - start) (drop start body)) ≡ end
token_ends body start end lt le = omega (arith, length-take (end - start) (drop start body), length-drop start body)

-- there are as many as are asked for
pieces_count : (n size place : ℕ) (body : List ℕ) → length (pieces n size place body) ≡ n
pieces_count zero size place body = refl
pieces_count (suc n) size place body = ap suc (pieces_count n size (place + size) body)

pub items_count : (kind : Kind) (item : Scalar) (body : List ℕ) (place n : ℕ) → HasItems kind item body place n
    → length (items_from kind item body place n) ≡ n
items_count Ascii item body place n there =
    length-map (take n (tokens_at body place)) (λ (token : Token). token.bytes) ∙ length-take-le n (tokens_at body place) there
items_count BinaryLittle item body place n there = pieces_count n (size_of item) place body
items_count BinaryBig item body place n there = pieces_count n (size_of item) place body
