-- `nodes::check_imported` meets its contract. Assumes nothing.
use Prim.Native.Nat.{ℕ, ◌+◌}
use native.Mathlib.Omega.{arith}
use mathlib.Core.Path.{refl, sym, ap, ◌∙◌}
use Rattle.standing.specs.Standing.{ports_size}
use Rattle.lines.proofs.Laws.{noted_bare}
use Rattle.nodes.proofs.Opens.{inputs_here, outputs_here, locals_here, lists_end, equations_many, imported_none, imported_some}
use Rattle.nodes.proofs.check_imported.Goals as goal

pub ports_end-locals-requires : goal.ports_end-locals-requires
ports_end-locals-requires c = outputs_here c.requires.stands c.requires.shallow (c.ports_end-outputs.ensures (inputs_here c.requires.stands c.requires.shallow refl))

pub ports_end-equations-requires : goal.ports_end-equations-requires
ports_end-equations-requires c =
    let g = c.requires in
    let s = g.stands in
    let f = g.shallow in
    let a = c.ports_end-outputs.ensures (inputs_here s f refl) in
    locals_here s f (c.ports_end-locals.ensures (outputs_here s f a) ∙ ap (λ (k : ℕ). k + ports_size g.n.outputs) a)

pub bounds-records-equations : goal.bounds-records-equations
bounds-records-equations c = omega (arith, lists_end c.requires.stands c.requires.shallow c.ports_end-outputs.ensures c.ports_end-locals.ensures c.ports_end-equations.ensures, c.requires.stands.equations.head.in_words)

pub offset_bounds-records-equations : goal.offset_bounds-records-equations
offset_bounds-records-equations c = omega (arith, lists_end c.requires.stands c.requires.shallow c.ports_end-outputs.ensures c.ports_end-locals.ensures c.ports_end-equations.ensures, c.requires.stands.equations.head.in_words)

pub returns-then-records-equations-ne0 : goal.returns-then-records-equations-ne0
returns-then-records-equations-ne0 c = λ g num.
    imported_some g.n.equations (λ z. c.if-records-equations-ne0.true (equations_many g.stands g.shallow (lists_end g.stands g.shallow c.ports_end-outputs.ensures c.ports_end-locals.ensures c.ports_end-equations.ensures) ∙ z)) (noted_bare c.put.ensures)

pub returns-else-records-equations-ne0 : goal.returns-else-records-equations-ne0
returns-else-records-equations-ne0 c = λ g num.
    imported_none g.n.equations (sym (equations_many g.stands g.shallow (lists_end g.stands g.shallow c.ports_end-outputs.ensures c.ports_end-locals.ensures c.ports_end-equations.ensures)) ∙ c.if-records-equations-ne0.false)
