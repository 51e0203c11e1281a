-- The points of tokens, three at a time: those read so far stand before those of the tokens that are left.
use Rattle.std.proofs.Common.{ℕ, ◌+◌, ◌*◌, ◌<◌, ◌≡◌, refl, ap, sym, ◌∙◌, arith, List, [], ◌∷◌, ◌++◌, length, get_or, drop}
use Rattle.std.proofs.Common.{Result, Ok, Err, Bor, map, append_assoc}
use Rattle.std.specs.Result.{IsErrAnd}
use Rattle.std.proofs.lemmas.List.{drop_more, get_or-map}
use Rattle.geo_sign.specs.Point.{Point}
use Rattle.solid_query.specs.Queries.{token_coordinate, point_or_refusal, before, points_from, Fails, Gives}
use Rattle.solid_query.specs.declared.refusal.QueryRefusal.{QueryRefusal}
use Rattle.solid_query.specs.declared.refusal.QueryRefusal.TheVariants.{BadToken, LongNumber, OutOfRange, Uneven, TooMany, NoMemory}

-- points, and behind them those that reading gives
abbrev pub onto : List Point → Result (List Point) QueryRefusal → Result (List Point) QueryRefusal
onto front (Ok points) = Ok (front ++ points)
onto front (Err why) = Err why

onto_more : (front : List Point) (p : Point) (rest : Result (List Point) QueryRefusal)
    → onto front (before (Ok p) rest) ≡ onto (front ++ p ∷ []) rest
onto_more front p (Ok points) =
    let e : front ++ (p ∷ points) ≡ (front ++ p ∷ []) ++ points = sym (append_assoc front (p ∷ []) points) in
    ap (λ (all : List Point). Ok all) e
onto_more front p (Err why) = refl

-- three of a list, and the others
three : (tokens : List (List ℕ)) (n : ℕ) → n + 2 < length tokens
    → drop n tokens ≡ get_or tokens n [] ∷ get_or tokens (n + 1) [] ∷ get_or tokens (n + 2) [] ∷ drop (n + 3) tokens
three tokens n l =
    let a : drop n tokens ≡ get_or tokens n [] ∷ drop (n + 1) tokens = drop_more tokens n [] (omega arith) in
    let b : drop (n + 1) tokens ≡ get_or tokens (n + 1) [] ∷ drop (n + 1 + 1) tokens =
    drop_more tokens (n + 1) [] (omega arith) in
    let i : n + 1 + 1 ≡ n + 2 = omega arith in
    let c : drop (n + 2) tokens ≡ get_or tokens (n + 2) [] ∷ drop (n + 2 + 1) tokens =
    drop_more tokens (n + 2) [] (omega arith) in
    let j : n + 2 + 1 ≡ n + 3 = omega arith in
    a
    ∙ ap (λ (rest : List (List ℕ)). get_or tokens n [] ∷ rest)
    (b
    ∙ ap (λ (rest : List (List ℕ)). get_or tokens (n + 1) [] ∷ rest)
    (ap (λ (m : ℕ). drop m tokens) i ∙ c
    ∙ ap (λ (m : ℕ). get_or tokens (n + 2) [] ∷ drop m tokens) j))

module _ (unit k : ℕ) (tokens : List (List ℕ)) (points : List Point) (l : 3 * k + 2 < length tokens)
    (so_far : points_from unit 0 tokens ≡ onto points (points_from unit (3 * k) (drop (3 * k) tokens))) where
  abbrev next : Result Point QueryRefusal
  next =
      point_or_refusal (token_coordinate unit (3 * k) (get_or tokens (3 * k) []))
      (token_coordinate unit (3 * k + 1) (get_or tokens (3 * k + 1) []))
      (token_coordinate unit (3 * k + 2) (get_or tokens (3 * k + 2) []))

  -- the next point stands before the points behind it
  split : points_from unit 0 tokens ≡ onto points (before next (points_from unit (3 * k + 3) (drop (3 * k + 3) tokens)))
  split = so_far ∙ ap (λ (rest : List (List ℕ)). onto points (points_from unit (3 * k) rest)) (three tokens (3 * k) l)

  pub point_more : (p : Point) → next ≡ Ok p
      → points_from unit 0 tokens ≡ onto (points ++ p ∷ []) (points_from unit (3 * (k + 1)) (drop (3 * (k + 1)) tokens))
  point_more p e =
      let n : 3 * k + 3 ≡ 3 * (k + 1) = omega arith in
      split
      ∙ ap (λ (r : Result Point QueryRefusal). onto points (before r (points_from unit (3 * k + 3) (drop (3 * k + 3) tokens)))) e
      ∙ onto_more points p (points_from unit (3 * k + 3) (drop (3 * k + 3) tokens))
      ∙ ap (λ (m : ℕ). onto (points ++ p ∷ []) (points_from unit m (drop m tokens))) n

  pub point_refused : (why : QueryRefusal) → next ≡ Err why → points_from unit 0 tokens ≡ Err why
  point_refused why e =
      split
      ∙ ap (λ (r : Result Point QueryRefusal). onto points (before r (points_from unit (3 * k + 3) (drop (3 * k + 3) tokens)))) e

-- the point of three tokens, as the code holds them
pub as_held : (unit n : ℕ) (tokens : List (Bor (List ℕ))) (d : Bor (List ℕ)) → n + 2 < length tokens
    → point_or_refusal (token_coordinate unit n (get_or (map (λ token. token.now) tokens) n []))
    (token_coordinate unit (n + 1) (get_or (map (λ token. token.now) tokens) (n + 1) []))
    (token_coordinate unit (n + 2) (get_or (map (λ token. token.now) tokens) (n + 2) []))
    ≡ point_or_refusal (token_coordinate unit n (get_or tokens n d).now) (token_coordinate unit (n + 1) (get_or tokens (n + 1) d).now)
    (token_coordinate unit (n + 2) (get_or tokens (n + 2) d).now)
as_held unit n tokens d l =
    let now : Bor (List ℕ) → List ℕ = λ token. token.now in
    let y : List ℕ = get_or (map now tokens) (n + 1) [] in
    let z : List ℕ = get_or (map now tokens) (n + 2) [] in
    ap (λ (x : List ℕ). point_or_refusal (token_coordinate unit n x) (token_coordinate unit (n + 1) y) (token_coordinate unit (n + 2) z))
    (get_or-map now tokens n d [] (omega arith))
    ∙ ap (λ (t : List ℕ).
    point_or_refusal (token_coordinate unit n (get_or tokens n d).now) (token_coordinate unit (n + 1) t) (token_coordinate unit (n + 2) z))
    (get_or-map now tokens (n + 1) d [] (omega arith))
    ∙ ap (λ (t : List ℕ).
    point_or_refusal (token_coordinate unit n (get_or tokens n d).now) (token_coordinate unit (n + 1) (get_or tokens (n + 1) d).now)
    (token_coordinate unit (n + 2) t)) (get_or-map now tokens (n + 2) d [] l)

-- a refusal is what reading gives, or memory ran out
pub fails : {Y : Type 0} (why : QueryRefusal) (read : Result Y QueryRefusal) → read ≡ Err why → Fails why read
fails (BadToken token) read e = e
fails (LongNumber token) read e = e
fails (OutOfRange token) read e = e
fails (Uneven tokens) read e = e
fails (TooMany tokens) read e = e
fails NoMemory read e = tt

pub error_given : {X Y : Type 0} (view : X → Y) (result : Result X QueryRefusal) (why : QueryRefusal)
    (read : Result Y QueryRefusal)
    → IsErrAnd result (λ e. e ≡ why) → read ≡ Err why → Gives view result read
error_given view (Ok x) why read h e = absurd h
error_given view (Err other) why read h e =
    fails other read (e ∙ ap (λ (w : QueryRefusal). Err w) (sym h))
