-- The view of the code's statements.
use Rattle.ply_head.specs.Statements as statements
use Rattle.ply_head.specs.declared.statement.Statement.{Statement}
use Rattle.ply_head.specs.declared.statement.Statement.TheVariants.{Nothing, Format, Element, Property, Finish}

-- the code's statement as a value of the definitions; a name is the bytes that it borrows
abbrev pub statement_view : Statement → statements.Statement
statement_view Nothing = statements.nothing
statement_view (Format kind) = statements.format kind
statement_view (Element name count) = statements.element name.now count
statement_view (Property name shape) = statements.property name.now shape
statement_view Finish = statements.finish
