-- What the normal form is good for.
use Rattle.std.specs.Prelude.{◌≡◌, IsTrue, ℤ, List}
use Rattle.geo_sign.specs.Polynomial.{Polynomial, polynomial_value}
use Rattle.geo_sign.specs.NormalForm.{is_same_form}

-- two polynomials that multiply out to the same have the same value, whatever their variables stand for
abbrev pub IdentityLaw : Type 0
IdentityLaw = (numbers : List ℤ) (e f : Polynomial) → IsTrue (is_same_form e f) → polynomial_value numbers e ≡ polynomial_value numbers f
