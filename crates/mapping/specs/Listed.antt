-- What a contract sees of the accesses of a logical octet.
use Rattle.std.specs.Prelude.{List}
use Rattle.mapping.specs.declared.mapped.Access.{Access}

-- the accesses, in their order, and what the unused places hold, of which no clause speaks (a value that is copied gives its fields back)
pub record Listed : Type 0 where
  pub items : List Access
  pub spare : List Access
