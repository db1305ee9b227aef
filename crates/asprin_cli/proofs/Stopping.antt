-- What is printed where a run ends before its listing.
use Rattle.std.proofs.Common.{◌≡◌, ℕ, true, false, IsTrue, List, [], ◌++◌, length, take, refl, ap, sym, ◌∙◌, arith, append-nil, inl, inr}
use Rattle.std.proofs.Math.Seq.{take-length}
use Rattle.std.proofs.lemmas.List.{length-take}
use Rattle.ap_base.specs.Fronts.{TookFront}
use Rattle.ap_base.specs.declared.status.Status.{Status}
use Rattle.asprin_cli.specs.Given.{given_by}
use Rattle.asprin_cli.specs.Given as given
use Rattle.asprin_cli.specs.Lines.{is_cut}
use Rattle.asprin_cli.specs.Outcomes.{IsStatusOf, MayEnd, TextsEnd, TookPart, TookWhole}
use Rattle.asprin_cli.specs.Uses.{SourceUse}
use Rattle.asprin_cli.specs.Stops.{ReadStop, TextsStop, stop_line, stop_status}
use Rattle.asprin_cli.specs.declared.end.End.TheVariants as ends
use Rattle.asprin_cli.specs.declared.stop.Stop.{Stop}
use Rattle.asprin_cli.specs.declared.stop.Stop.TheVariants.{Source, Refused, Memory}

-- a front of no text is nothing
pub front_of_none : (old new : List ℕ) → TookFront old new [] → new ≡ old
front_of_none old new front =
    let none : old ++ [] ≡ old = append-nil old in
    let short : take (length new) old ≡ new = rw none at front.front in
    let long : take (length old) new ≡ old = front.kept in
    let below : length (take (length new) old) ≡ length new = ap length short in
    let above : length (take (length old) new) ≡ length old = ap length long in
    let same : length old ≡ length new = omega (arith, length-take (length new) old, length-take (length old) new) in
    sym (take-length new) ∙ ap (λ n. take n new) (sym same) ∙ long

-- the line of a stop at texts was taken
pub texts_stop_whole : (files : List (List ℕ)) (stop : Stop) (status : Status) (old new : List ℕ) → TextsStop files stop
    → is_cut status ≡ false → status ≡ stop_status stop → new ≡ old ++ stop_line stop → TookWhole (TextsEnd files) status old new
texts_stop_whole files (Source opened) s old new stop whole named after = elim stop [ ]
texts_stop_whole files (Refused refusal) s old new stop whole named after =
    record { printed = []; end = ends.Refused refusal; may = (refl, stop); named = named; text = after }
texts_stop_whole files Memory s old new stop whole named after =
    let cut : true ≡ false = rw named at whole in cc

-- its status is one of texts
pub texts_stop_named : (files : List (List ℕ)) (stop : Stop) (status : Status) → TextsStop files stop
    → is_cut status ≡ false → status ≡ stop_status stop → IsStatusOf (TextsEnd files) status
texts_stop_named files (Source opened) s stop whole named = elim stop [ ]
texts_stop_named files (Refused refusal) s stop whole named = ([], ends.Refused refusal, (refl, stop), named)
texts_stop_named files Memory s stop whole named =
    let cut : true ≡ false = rw named at whole in cc

-- a front of it was taken
pub texts_stop_part : (files : List (List ℕ)) (stop : Stop) (old new : List ℕ) → TextsStop files stop
    → TookFront old new (stop_line stop) → TookPart (TextsEnd files) old new
texts_stop_part files (Source opened) old new stop front = elim stop [ ]
texts_stop_part files (Refused refusal) old new stop front =
    inr (record { printed = []; end = ends.Refused refusal; may = (refl, stop); text = front })
texts_stop_part files Memory old new stop front = inl (front_of_none old new front)

module _ (words : List (List ℕ)) (src : SourceUse) (told : IsTrue src.tells) where
  -- the way to end that a stop before the texts is
  abbrev May : Stop → Type 0
  May stop = ReadStop src.tells words src.held src.faults_before src.faults_now src.opens_before src.opens_now stop

  refused_ends : (refusal : _) → given_by words src.held ≡ given.Refused refusal → src.faults_now ≡ src.faults_before
      → MayEnd words src [] (ends.Refused refusal)
  refused_ends refusal is kept = rw is (kept, (refl, refl))

  pub read_stop_whole : (stop : Stop) (status : Status) (old new : List ℕ) → May stop
      → is_cut status ≡ false → status ≡ stop_status stop → new ≡ old ++ stop_line stop → TookWhole (MayEnd words src) status old new
  read_stop_whole (Source opened) s old new stop whole named after =
      record { printed = []; end = ends.Source opened; may = (refl, stop.0 told, stop.1); named = named; text = after }
  read_stop_whole (Refused refusal) s old new stop whole named after =
      record { printed = []; end = ends.Refused refusal; may = refused_ends refusal (stop.1 told) stop.0; named = named; text = after }
  read_stop_whole Memory s old new stop whole named after =
      let cut : true ≡ false = rw named at whole in cc

  pub read_stop_named : (stop : Stop) (status : Status) → May stop → is_cut status ≡ false → status ≡ stop_status stop
      → IsStatusOf (MayEnd words src) status
  read_stop_named (Source opened) s stop whole named = ([], ends.Source opened, (refl, stop.0 told, stop.1), named)
  read_stop_named (Refused refusal) s stop whole named = ([], ends.Refused refusal, refused_ends refusal (stop.1 told) stop.0, named)
  read_stop_named Memory s stop whole named =
      let cut : true ≡ false = rw named at whole in cc

  pub read_stop_part : (stop : Stop) (old new : List ℕ) → May stop
      → TookFront old new (stop_line stop) → TookPart (MayEnd words src) old new
  read_stop_part (Source opened) old new stop front =
      inr (record { printed = []; end = ends.Source opened; may = (refl, stop.0 told, stop.1); text = front })
  read_stop_part (Refused refusal) old new stop front =
      inr (record { printed = []; end = ends.Refused refusal; may = refused_ends refusal (stop.1 told) stop.0; text = front })
  read_stop_part Memory old new stop front = inl (front_of_none old new front)
