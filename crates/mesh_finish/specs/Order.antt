-- Faces with their sort keys.
--
--   unkeyed k    the face alone
use Rattle.std.specs.Prelude.{ℕ, List}
use Rattle.mesh_finish.specs.declared.order.Keyed.{Keyed}

-- the face alone
abbrev pub unkeyed : Keyed → List ℕ
unkeyed k = k.face
