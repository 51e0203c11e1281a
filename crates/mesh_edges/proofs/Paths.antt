-- Paths one after another, by other links, and in sets.
use Rattle.std.proofs.Common.{ℕ, List}
use Rattle.mesh_edges.specs.Sets.{AreTogether}
use Rattle.mesh_edges.proofs.Tops.{together_on}
use Rattle.mesh_edges.specs.Paths.{ArePath}
use Rattle.mesh_edges.specs.Paths.ArePath.{none, more}

pub path_on : (L : ℕ → ℕ → Type 0) {a b c : ℕ} → ArePath L a b → ArePath L b c → ArePath L a c
path_on L p none = p
path_on L p (more q l) = more (path_on L p q) l

-- each link is a path by other links
pub path_by : (L M : ℕ → ℕ → Type 0) {a b : ℕ} → ((x y : ℕ) → L x y → ArePath M x y) → ArePath L a b → ArePath M a b
path_by L M f none = none
path_by L M f (more {d} {e} p l) = path_on M (path_by L M f p) (f d e l)

-- linked numbers are together
pub path_together : (L : ℕ → ℕ → Type 0) (parents : List ℕ) {a b : ℕ} → ((x y : ℕ) → L x y → AreTogether parents x y)
    → AreTogether parents a a → ArePath L a b → AreTogether parents a b
path_together L parents f self none = self
path_together L parents f self (more {d} {e} p l) = together_on parents (path_together L parents f self p) (f d e l)

pub one_link : (L : ℕ → ℕ → Type 0) (a b : ℕ) → L a b → ArePath L a b
one_link L a b l = more none l
