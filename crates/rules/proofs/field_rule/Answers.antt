-- `rules::field_rule` meets its contract, by the resolved type's form: a record's entry leads to its fields. Assumes nothing.
use native.Mathlib.Omega.{arith}
use mathlib.Core.Path.{◌≡◌}
use Rattle.rules.proofs.Laws.{apart, resolved, gave, failed_of, found_not, found, ports_led}
use Rattle.rules.proofs.Places.{type_there, read_is}
use Rattle.rules.proofs.Rules as rules
use Rattle.rules.proofs.field_rule.Goals as goal
use Rattle.rules.proofs.field_rule.Goals.{then-s-ne0-via-then-s-ne0, then-s-ne0-via-else-s-ne0+then-s-lt-NAMED}

pub returns-then-s-ne0 : goal.returns-then-s-ne0
returns-then-s-ne0 c =
    λ W.
    elim c.then-s-ne0.branch [
      | then-s-ne0-via-then-s-ne0 w ↦ rw (resolved W c.resolve-s.ensures, rules.field_array W.Γ c.args.at (W.text c.args.name) W.text c.resolve-s.result w.if-s-ne0.true) (failed_of _ (W.back _) c.fail.ensures)
      | then-s-ne0-via-else-s-ne0+then-s-lt-NAMED w ↦
          rw (resolved W c.resolve-s.ensures, rules.field_basic W.Γ c.args.at (W.text c.args.name) W.text c.resolve-s.result w.if-s-ne0.false w.if-s-lt-NAMED.true)
          (failed_of _ (W.back _) c.fail.ensures)
    ]

pub returns-then-s-gt-NAMED : goal.returns-then-s-gt-NAMED
returns-then-s-gt-NAMED c =
    λ W.
    rw (resolved W c.resolve-s.ensures, rules.field_special W.Γ c.args.at (W.text c.args.name) W.text c.resolve-s.result c.if-s-ne0.false c.if-s-gt-NAMED.true)
    (failed_of _ (W.back _) c.fail-then-s-gt-NAMED.ensures)

pub returns-in_default : goal.returns-in_default
returns-in_default c =
    λ W.
    let b : c.resolve-s.result.base ≡ 33 = omega arith in
    let none = found_not (W.fields _ (c.resolve-s.result.known b)) c.in_default.ensures.entry in
    rw (resolved W c.resolve-s.ensures, rules.field_undeclared W.Γ c.args.at (W.text c.args.name) W.text c.resolve-s.result c.if-s-ne0.false b none)
    (failed_of _ (W.back _) c.fail-in_default.ensures)

pub find_port-requires : goal.find_port-requires
find_port-requires c = ports_led (found (c.requires.fields _ (c.resolve-s.result.known (omega arith))) c.in-Some.ensures.entry)

pub returns-in_default-find_port : goal.returns-in_default-find_port
returns-in_default-find_port c =
    λ W.
    let b : c.resolve-s.result.base ≡ 33 = omega arith in
    let w = found (W.fields _ (c.resolve-s.result.known b)) c.in-Some.ensures.entry in
    rw (resolved W c.resolve-s.ensures, rules.field_missing W.Γ c.args.at (W.text c.args.name) W.text c.resolve-s.result c.if-s-ne0.false b w.is (c.in_default-find_port.ensures.port (ports_led w) (apart W)))
    (failed_of _ (W.back _) c.fail-in_default-find_port.ensures)

pub read_type-requires : goal.read_type-requires
read_type-requires c =
    let W = c.requires in
    let w = found (W.fields _ (c.resolve-s.result.known (omega arith))) c.in-Some.ensures.entry in
    type_there (c.in-Some-find_port.ensures.port (ports_led w) (apart W)).2

pub returns : goal.returns
returns c =
    λ W.
    let b : c.resolve-s.result.base ≡ 33 = omega arith in
    let w = found (W.fields _ (c.resolve-s.result.known b)) c.in-Some.ensures.entry in
    let f = c.in-Some-find_port.ensures.port (ports_led w) (apart W) in
    rw (← c.resolve-s.ensures.is W.text W.Γ.alias W.alias) (gave (read_is f.2 c.read_type.ensures) (rules.field_there W.Γ _ _ W.text c.resolve-s.result c.if-s-ne0.false b w.is f.1))
