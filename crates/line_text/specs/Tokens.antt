-- The first byte of a printed number.
--
--   IsPlain token       no sign and no leading zero
use Rattle.std.specs.Prelude.{ℕ, ◌≡◌, ◌≢◌, ◌<◌, List, length, slice_index}

-- a first byte that is neither a plus sign nor a zero before more digits
pub record IsPlain (token : List ℕ) : Type 0 where
  pub some : 0 < length token
  pub no_plus : slice_index token 0 ≢ 43
  pub no_zero : slice_index token 0 ≡ 48 → length token ≡ 1
