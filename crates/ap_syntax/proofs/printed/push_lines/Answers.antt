use Rattle.std.proofs.Common.{◌++◌, string_bytes, ap}
use Rattle.ap_syntax.proofs.Joined.{joined_lines_text}
use Rattle.ap_syntax.proofs.printed.push_lines.Goals as goal

pub loop-statement-init : goal.loop-statement-init
loop-statement-init c = ap (λ ts. string_bytes c.args.out.now ++ ts) (joined_lines_text c.args.statements.now)
