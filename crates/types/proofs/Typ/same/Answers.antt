-- `types::Typ::same` meets its contract: the lengths that count are compared as slices. Assumes nothing.
use mathlib.Core.Path.{sym, ◌∙◌}
use Rattle.std.proofs.lemmas.Bool.Decides.{nat_tests, Decides-eqb}
use Rattle.std.proofs.lemmas.Slice.Eq.{slice_eq-Decides}
use native.Mathlib.Omega.{arith}
use borrow.Author.Rules.{rules}
use Rattle.types.proofs.Truths.{never}
use Rattle.types.proofs.Values.{types_levels, types_lengths, types_same}
use Rattle.types.proofs.Typ.same.Goals as goal
use Rattle.types.proofs.Typ.same.Goals.{then-self-u, else-self-u}

pub returns-then-eq : goal.returns-then-eq
returns-then-eq c = λ ρ inj.
    elim c.if-self-u.branch [
      | then-self-u w ↦ c.same_bottom.ensures ρ inj ∙ sym (types_same ρ c.args.self.now c.args.u.now w.if-self-u.true ((slice_eq-Decides Decides-eqb _ _ _ w.eq.ensures).0 (sym w.value-is ∙ c.if-eq.true)))
      | else-self-u w ↦ absurd (grind (arith, nat_tests))
    ]

pub returns-else-eq : goal.returns-else-eq
returns-else-eq c = λ ρ inj.
    let a = c.args in
    elim c.if-self-u.branch [
      | then-self-u w ↦ c.if-eq.false ∙ sym (types_lengths ρ a.self.now a.u.now w.if-self-u.true (λ e. never (sym (sym w.value-is ∙ c.if-eq.false) ∙ (slice_eq-Decides Decides-eqb _ _ _ w.eq.ensures).1 e)) (search rules) (search rules))
      | else-self-u w ↦ c.if-eq.false ∙ sym (types_levels ρ a.self.now a.u.now w.if-self-u.false)
    ]
