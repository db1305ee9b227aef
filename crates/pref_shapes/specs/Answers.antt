-- Which answer comes when.
use Rattle.std.specs.Prelude.{List, Result, Ok, Err, ⊤, All}
use Rattle.ap_syntax.specs.declared.programs.Statement.{Statement}
use Rattle.pref_shapes.specs.Shapes.{HasShape, IsFirstIn}
use Rattle.pref_shapes.specs.declared.fault.ShapeFault.{ShapeFault}
use Rattle.pref_shapes.specs.declared.fault.ShapeFault.TheVariants.{BadElement, Memory}

-- all elements have the shapes of their types, or this is the first that does not
abbrev pub IsShapeAnswer : List Statement → Result ⊤ ShapeFault → Type 0
IsShapeAnswer ss (Ok done) = All HasShape ss
IsShapeAnswer ss (Err (BadElement name place)) = IsFirstIn ss name place
IsShapeAnswer ss (Err Memory) = ⊤
