-- `rules::ports::outputs_type` meets its contract. Assumes nothing.
use native.Mathlib.Omega.{arith}
use mathlib.Core.Path.{◌∙◌, sym}
use Rattle.types.specs.Value.{bottom}
use Rattle.rules.proofs.Places.{type_there, read_is}
use Rattle.rules.proofs.PortLaws.{only, outputs_none, outputs_one, outputs_more}
use Rattle.rules.proofs.ports.outputs_type.Goals as goal

pub returns-in-0 : goal.returns-in-0
unfolding bottom
returns-in-0 c = λ g. let b = c.basic.ensures in record { is = b.is g.text ∙ sym (outputs_none g c.in-0.is); low = omega (arith, b.flat) }

pub read_type-requires : goal.read_type-requires
read_type-requires c = type_there (only c.requires c.in-1.is).typed

pub returns-in-1 : goal.returns-in-1
returns-in-1 c = λ g. let o = only g c.in-1.is in rw (outputs_one g o) (read_is o.typed c.read_type.ensures)

pub returns-in_default : goal.returns-in_default
unfolding bottom
returns-in_default c =
    λ g.
    let b = c.tuple.ensures in
    record { is = b.is g.text ∙ sym (outputs_more g (λ e. omega arith) (λ e. omega arith)); low = omega (arith, b.flat) }
