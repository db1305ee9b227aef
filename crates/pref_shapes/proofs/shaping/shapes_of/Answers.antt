-- A statement has a bad element, or is passed over.
use Rattle.std.proofs.Common.{All, arith, subst, sym}
use Rattle.std.proofs.lemmas.List.{take_all}
use Rattle.ap_syntax.specs.declared.programs.Statement.TheVariants as statement
use Rattle.pref_shapes.specs.Shapes.{HasShape, IsBadIn, IsFirstIn}
use Rattle.pref_shapes.proofs.ShapeLemmas.{first_here, good_more, more_behind, no_preference, none_left}
use Rattle.pref_shapes.proofs.shaping.shapes_of.Goals as goal

pub loop-statement-preserved-in_default : goal.loop-statement-preserved-in_default
loop-statement-preserved-in_default c =
    let ss = c.args.statements.now in let i = c.loop-statement.statement-index in let s = c.statement-item.result in
    let lt = c.loop-statement-test.true in let inv = c.loop-statement.invariant in
    let shape = no_preference s c.in_default.not-Preference in
    record { good = good_more ss i s lt c.statement-item.is inv.more inv.good shape; more = more_behind ss i s lt c.statement-item.is inv.more shape }

pub returns-in-Some : goal.returns-in-Some
returns-in-Some c =
    let ss = c.args.statements.now in let i = c.loop-statement.statement-index in let s = c.statement-item.result in
    subst (λ name. IsFirstIn ss name c.in-Some.place) (sym c.in_ok-statement.ensures)
    (first_here ss i s c.loop-statement-test.true c.statement-item.is c.loop-statement.invariant.more c.in-Preference.preference c.in-Some.place c.in-Preference.is c.in-Some.ensures)

pub loop-statement-preserved : goal.loop-statement-preserved
loop-statement-preserved c =
    let ss = c.args.statements.now in let i = c.loop-statement.statement-index in let s = c.statement-item.result in
    let lt = c.loop-statement-test.true in let inv = c.loop-statement.invariant in
    let none = none_left c.bad_in.result c.in_default-bad_in.not-Some in
    let shape = subst HasShape (sym c.in-Preference.is) (subst (IsBadIn c.in-Preference.preference) none c.bad_in.ensures) in
    record { good = good_more ss i s lt c.statement-item.is inv.more inv.good shape; more = more_behind ss i s lt c.statement-item.is inv.more shape }

pub returns : goal.returns
returns c = subst (λ xs. All HasShape xs) (take_all c.loop-statement.statement-index c.args.statements.now (omega arith)) c.loop-statement.invariant.good
