-- `tables::declare_types` meets its contract. Assumes nothing.
use native.Mathlib.Omega.{arith}
use Rattle.std.specs.Prelude.{◌-◌}
use mathlib.Core.Path.{refl}
use Rattle.tables.specs.Heads.{heads, types_among}
use Rattle.tables.proofs.Heads.{meets, no_more, past, package_here, type_here}
use Rattle.tables.proofs.Passes.{passing_start, passing_type, passing_done, packaged, among_package, among_type, among_none}
use Rattle.tables.proofs.declare_types.Goals as goal
use Rattle.tables.proofs.declare_types.Goals.{in-2, in_default+then-this-lt4, in-4-to-6, in_default+else-this-lt4+else-this-lt7}

pub loop-at-init : goal.loop-at-init
loop-at-init c = (omega arith, omega arith, omega arith, (λ _. refl), λ g. (heads g.P, meets g, passing_start g c.requires.scope c.requires.numbers c.new-names.ensures))

pub overflow_sub-packages : goal.overflow_sub-packages
overflow_sub-packages c = let h = packaged c.requires.model c.loop-at.invariant.3 c.loop-at-test.true (λ e. omega arith) in omega (arith, h)

pub declare_type-requires-clause-stands : goal.declare_type-requires-clause-stands
declare_type-requires-clause-stands c =
    let g = c.requires.model in
    let T = type_here g (c.loop-at.invariant.4 g).1 c.loop-at-test.true (omega arith) (omega arith) in
    record { model = g; d = T.type; stands = T.stands; shallow = T.shallow }

pub loop-at-preserved : goal.loop-at-preserved
loop-at-preserved c = elim c.match-records-at.branch [
  | in-2 w ↦ rw (w.packages-is, w.scope-is, w.lines-is, w.number-is, w.names-is, w.numbers-is) (
    omega arith,
    omega arith,
    omega arith,
    (λ z. omega arith),
    λ g.
        let I = c.loop-at.invariant.4 g in
        let p = package_here g I.1 c.loop-at-test.true w.in-2.is in
        (p.rest, p.onward, rw (among_package c.loop-at.packages I.0 p.rest p.are) at I.2),
  )
  | in_default+then-this-lt4 w ↦ rw (w.packages-is, w.scope-is, w.lines-is, w.number-is, w.names-is, w.numbers-is) (
    omega arith,
    omega arith,
    omega arith,
    (λ z. absurd (packaged c.requires.model c.loop-at.invariant.3 c.loop-at-test.true (λ e. omega arith) z)),
    λ g.
        let I = c.loop-at.invariant.4 g in
        let p = past g I.1 c.loop-at-test.true in
        (p.rest, p.onward, rw (p.types (λ e. omega arith) (λ a b. omega arith) c.loop-at.packages) at I.2),
  )
  | in-4-to-6 w ↦ rw (w.packages-is, w.scope-is, w.lines-is, w.number-is, w.names-is, w.numbers-is) (
    omega arith,
    omega arith,
    omega arith,
    (λ z. absurd (packaged c.requires.model c.loop-at.invariant.3 c.loop-at-test.true (λ e. omega arith) z)),
    λ g.
        let I = c.loop-at.invariant.4 g in
        let T = type_here g I.1 c.loop-at-test.true (omega arith) (omega arith) in
        (T.rest, T.onward, passing_type g (c.loop-at.packages - 1) T.type (types_among c.loop-at.packages I.0) (types_among c.loop-at.packages T.rest) (among_type c.loop-at.packages I.0 T.rest T.type T.are) (λ ds e E. w.declare_type.ensures (record { model = g; d = T.type; stands = T.stands; shallow = T.shallow }) ds e E) I.2),
  )
  | in_default+else-this-lt4+else-this-lt7 w ↦ rw (w.packages-is, w.scope-is, w.lines-is, w.number-is, w.names-is, w.numbers-is) (
    omega arith,
    omega arith,
    omega arith,
    (λ z. absurd (packaged c.requires.model c.loop-at.invariant.3 c.loop-at-test.true (λ e. omega arith) z)),
    λ g.
        let I = c.loop-at.invariant.4 g in
        let p = past g I.1 c.loop-at-test.true in
        (p.rest, p.onward, rw (p.types (λ e. omega arith) (λ a b. omega arith) c.loop-at.packages) at I.2),
  )
]

pub returns : goal.returns
returns c =
    λ g.
    let I = c.loop-at.invariant.4 g in
    passing_done g (types_among c.loop-at.packages I.0) (among_none c.loop-at.packages I.0 (no_more g I.1 (omega (arith, c.loop-at-test.false)))) I.2
