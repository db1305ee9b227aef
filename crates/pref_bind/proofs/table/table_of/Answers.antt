-- A preference statement gets its place; all else is passed over.
use Rattle.std.proofs.Common.{◌≡◌, ◌+◌, ◌≤◌, ◌∙◌, ◌∷◌, [], ap, subst, sym, arith, take, length}
use Rattle.std.proofs.lemmas.List.{length-append}
use Rattle.pref_bind.specs.Tables.{IsTableOf}
use Rattle.program_form.specs.Programs.{preferences}
use Rattle.pref_bind.proofs.PlaceLemmas.{preferences_more, preferences_same}
use Rattle.pref_bind.proofs.table.table_of.Goals as goal
use Rattle.pref_bind.proofs.table.table_of.Goals.{in-Preference+in_ok-add, in_default}

pub loop-statement-preserved : goal.loop-statement-preserved
loop-statement-preserved c =
    let ss = c.args.statements.now in let i = c.loop-statement.statement-index in let s = c.statement-item.result in
    let inv = c.loop-statement.invariant in
    elim c.match-statement.branch [
      | in-Preference+in_ok-add w ↦
          let more = preferences_more ss i s w.in-Preference.preference c.loop-statement-test.true c.statement-item.is w.in-Preference.is in
          let size = ap length more ∙ length-append (preferences (take i ss)) (w.in-Preference.preference ∷ []) in
          let counted = inv.count in let added = w.count-is in record {
            table = subst (IsTableOf (preferences (take (i + 1) ss))) (sym w.table-is) (subst (λ ps. IsTableOf ps w.add.new.self) (sym more) (w.in_ok-add.ensures (preferences (take i ss)) counted inv.table));
            count = omega (arith, size, counted, added);
            below = omega (arith, added, inv.below);
          }
      | in_default w ↦
          let same = preferences_same ss i s c.loop-statement-test.true c.statement-item.is w.in_default.not-Preference in
          let size = ap length same in
          let counted = inv.count in let kept = w.count-is in record {
            table = subst (IsTableOf (preferences (take (i + 1) ss))) (sym w.table-is) (subst (λ ps. IsTableOf ps c.loop-statement.table) (sym same) inv.table);
            count = omega (arith, size, counted, kept);
            below = omega (arith, kept, inv.below);
          }
    ]
