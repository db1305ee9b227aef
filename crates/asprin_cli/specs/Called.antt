-- What the program is called with.
use Rattle.std.specs.Prelude.{ℕ, List, [], Option, None, Some, Ok, Err, Result, String, drop}
use Rattle.std.specs.IoError.{error_kind}
use Rattle.std.specs.Vec.Iter.{into_iter_items}
use Rattle.std.specs.declared.alloc.Global.{Global}
use Rattle.std.specs.declared.io.Error.{Error}
use Rattle.std.specs.declared.io.ErrorKind.{ErrorKind}
use Rattle.std.specs.declared.io.ErrorKind.TheVariants as kind
use Rattle.std.specs.declared.vec.IntoIter.{IntoIter}
use Rattle.ap_base.specs.Readings.{texts_of}

-- no words where one of them is no text; any other fault is want of memory
abbrev pub words_without : ErrorKind → Option (List (List ℕ))
words_without kind.InvalidData = Some []
words_without _ = None

-- the words behind the program's own name, which is the first of all; `None` where memory ran out for them
abbrev pub words_behind : Result (IntoIter (String Global) Global) Error → Option (List (List ℕ))
words_behind (Ok all) = Some (drop 1 (texts_of (into_iter_items all)))
words_behind (Err error) = words_without (error_kind error)
