use Rattle.std.proofs.Common.{ℕ, List, subst}
use Rattle.std.specs.Prelude.{flat_map}
use mathlib.Core.Path.{fun_ext}
use Rattle.ap_pieces.specs.Bound.{Names, no_names, binders, IsBound, AreUnboundAmong}
use Rattle.ap_bindings.specs.Searches.{names_in, marked_in, IsFirstAmong, IsFirstUnbound}
use Rattle.ap_bindings.specs.Unsafe.{definite_by}
use Rattle.ap_bindings.proofs.BindingLemmas.{if_ok}
use Rattle.ap_bindings.proofs.unbound.first_unbound.Goals as goal

pub returns : goal.returns
returns c =
    let outside = marked_in c.in_ok-outside.outside in
    let global = names_in c.in_ok-globals.globals in
    let definite = definite_by c.args.safe.now in
    let pieces = c.args.pieces.now in
    let same = fun_ext c.in_ok-globals.ensures in
    if_ok c.unbound_among.result (IsFirstAmong definite global outside pieces) (IsFirstUnbound definite pieces)
    (λ first f. (f.0, (outside, subst (λ (g : Names). IsBound no_names (flat_map (binders definite g) pieces) outside) same c.in_ok-outside.ensures, subst (λ (g : Names). AreUnboundAmong definite g outside pieces f.0) same f.1), f.2))
    c.unbound_among.ensures
