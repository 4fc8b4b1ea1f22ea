-- Request 2.8: when two tuples agree, and what is said of an equation whose right-hand side is itself a call with two or more outputs.
-- Assumes nothing: these are statements, proved in proofs/.
use Rattle.std.specs.Prelude.{ℕ, ◌≡◌, Bool, List, [], ◌∷◌, eqb, length, if◌then◌else◌}
use Rattle.std.proofs.Math.Option.{some}
use Rattle.lustre.specs.Name.{Name}
use Rattle.lustre.specs.Types.{Ty, Tuple}
use Rattle.lustre.specs.Expr.{Exprs, call, form}
use Rattle.lustre.specs.Project.{Port, Heading}
use Rattle.lustre.specs.Line.{bare}
use Rattle.lustre.specs.Resolve.{Scope, Aliases, within_node, compatible}
use Rattle.lustre.specs.Infer.{infer}
use Rattle.lustre.specs.Node.{wanted, bound_each, bound}

-- two tuple types agree exactly if they have equal numbers of members
abbrev pub TuplesAgree : Type 0
TuplesAgree = (al : Aliases) (m n : ℕ) → compatible al (Tuple m) (Tuple n) ≡ eqb m n

-- The call of a node with two or more outputs: E0042 exactly if there are more or fewer names than outputs. Else each name is judged beside
-- the output at its position, and none is left out, since both lists are equally long.
abbrev pub CallsBound : Type 0
CallsBound = (Γ : Scope) (env : List Port) (function : Bool) (names : List Name) (f : Name) (es : Exprs)
    → (sig : Heading) (o p : Port) (os : List Port) → Γ.node f ≡ some sig → sig.outputs ≡ o ∷ p ∷ os
    → (t : Ty) → (infer (within_node Γ env) function 0 (call f es) (wanted env names)).0 ≡ some t
    → bound Γ env names (form (call f es)) (some t)
    ≡ (if eqb (length sig.outputs) (length names) then bound_each Γ env names sig.outputs else bare 42 ∷ [])
