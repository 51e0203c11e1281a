-- The scanners before the faces, one after another.
use Rattle.std.proofs.Common.{◌≡◌, ℕ, zero, suc, ◌+◌, ◌<◌, [], ◌∷◌, ◌++◌, take, refl, pos, arith}
use Rattle.gen_scan.specs.Generated.{on_face, scanners}

-- the next scanner
pub one_more_scanner : (face : ℕ) → face < 6
    → take (face + 1) scanners ≡ take face scanners ++ on_face face (pos 5000) (pos 0) (pos 0) ∷ []
one_more_scanner zero lt = refl
one_more_scanner (suc zero) lt = refl
one_more_scanner (suc (suc zero)) lt = refl
one_more_scanner (suc (suc (suc zero))) lt = refl
one_more_scanner (suc (suc (suc (suc zero)))) lt = refl
one_more_scanner (suc (suc (suc (suc (suc zero))))) lt = refl
one_more_scanner (suc (suc (suc (suc (suc (suc face)))))) lt = absurd (omega arith)
