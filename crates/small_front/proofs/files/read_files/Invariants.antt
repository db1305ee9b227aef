use Rattle.std.proofs.Common.{◌≡◌, take}
use Rattle.ap_base.specs.Readings.{bytes_of}
use Rattle.small_front.specs.Files.{AreRead}
use Rattle.small_front.proofs.files.read_files.Given as goal

abbrev pub invariant-loop-file : goal.invariant-loop-file
invariant-loop-file l = (l.number ≡ l.file-index) × AreRead 1 (bytes_of (take l.file-index l.files)) l.statements
