-- `equations::port_type` meets its contract. Assumes nothing.
use mathlib.Core.Path.{sym, ap, ◌∙◌}
use mathlib.Core.Option.{some}
use Rattle.lustre.specs.Types.{Ty}
use Rattle.rules.proofs.Laws.{found}
use Rattle.rules.proofs.Places.{type_there, read_is}
use Rattle.equations.proofs.port_type.Goals as goal

pub read_type-requires : goal.read_type-requires
read_type-requires c = type_there (found (c.requires.declared.port _ c.args.name.below) c.in_ok-port.ensures.entry).there

pub returns : goal.returns
returns c = λ w.
    let f = found (w.declared.port _ c.args.name.below) c.in_ok-port.ensures.entry in
    let t = read_is f.there c.read_type.ensures in
    record { is = ap (λ (u : Ty). some u) t.is ∙ sym f.is; low = t.low }
