-- `rules::structs::struct_name` meets its contract, by the resolved type's form. Assumes nothing.
use mathlib.Core.Path.{sym}
use Rattle.lustre.specs.Infer.{struct_name}
use Rattle.types.specs.Value.{bottom}
use Rattle.rules.proofs.Laws.{resolved}
use Rattle.rules.proofs.StructLaws.{name_array, name_basic, name_named}
use Rattle.rules.proofs.structs.struct_name.Goals as goal
use Rattle.rules.proofs.structs.struct_name.Goals.{then-s-eq0+then-s-eq-NAMED, else-s-eq0, else-s-eq0-via-then-s-eq0+else-s-eq-NAMED, else-s-eq0-via-else-s-eq0}

pub invariant_of-name : goal.invariant_of-name
invariant_of-name c = record {
  below =
      elim c.if-s-eq0.branch [
        | then-s-eq0+then-s-eq-NAMED w ↦ rw w.result-is (c.resolve-s.result.known w.if-s-eq-NAMED.true)
        | else-s-eq0 w ↦ rw w.result-is c.args.name.below
      ];
}

pub returns : goal.returns
unfolding struct_name bottom
returns c =
    λ W.
    rw (← c.named.ensures.is W.text, resolved W c.resolve-s.ensures)
    (elim c.if-s-eq0.branch [
      | then-s-eq0+then-s-eq-NAMED w ↦ rw w.result-is (sym (name_named W.Γ _ W.text c.resolve-s.result w.if-s-eq0.true w.if-s-eq-NAMED.true))
      | else-s-eq0 w ↦
          rw w.result-is
          (elim w.else-s-eq0.branch [
            | else-s-eq0-via-then-s-eq0+else-s-eq-NAMED v ↦ sym (name_basic W.Γ _ W.text c.resolve-s.result v.if-s-eq0.true v.if-s-eq-NAMED.false)
            | else-s-eq0-via-else-s-eq0 v ↦ sym (name_array W.Γ _ W.text c.resolve-s.result v.if-s-eq0.false)
          ])
    ])
