-- Tuples agree by their numbers, and a call's tuple has as many members as its callee has outputs.
-- Assumes nothing.
use Rattle.std.specs.Prelude.{if◌then◌else◌}
use Prim.Native.Nat.{ℕ}
use native.Mathlib.Omega.{arith}
use mathlib.Core.Path.{◌≡◌, refl, sym, ap, ◌∙◌}
use mathlib.Core.Option.{Option, none, some}
use mathlib.Core.Bool.{Bool}
use mathlib.Core.List.{List, [], ◌∷◌}
use lib.Dec.{eqb}
use lib.ListN.{length}
use Rattle.lustre.specs.Name.{Name}
use Rattle.lustre.specs.Types.{Ty, members, same_type}
use Rattle.lustre.specs.Expr.{Exprs, call, form}
use Rattle.lustre.specs.Project.{Port, Heading}
use Rattle.lustre.specs.Line.{Out, bare, return, ◌>>=◌, ◌>>◌}
use Rattle.lustre.specs.Resolve.{Scope, within_node, try_resolve, or_itself, resolve, compatible}
use Rattle.lustre.specs.Infer.{Typing, if_found, outputs_type, call_of, call_rule, infer}
use Rattle.lustre.specs.Node.{wanted, bound_each, bound_tuple, bound_as, bound, outputs_in, called_outputs}
use Rattle.demands.specs.Tuples.{TuplesAgree, CallsBound}

pub tuples_agree : TuplesAgree
unfolding compatible resolve or_itself try_resolve same_type
tuples_agree al m n = refl

-- what stands last gives the value, if there is one
last_value : {A B : Type 0} (m : Out A) (k : Out B) (b : B) → (m >> k).0 ≡ some b → k.0 ≡ some b
unfolding ◌>>◌ ◌>>=◌
last_value (none, ns) k b h = absurd (let z : ◌≡◌ {A = ℕ} 0 1 = cc in omega arith)
last_value (some a, ns) k b h = h

-- the type of a call is that of its callee's outputs
call_value : (Γ : Scope) (function : Bool) (at : ℕ) (f : Name) (args : List Typing) (hint : Option Ty) (sig : Heading) (t : Ty)
    → Γ.node f ≡ some sig → (call_rule Γ function at f args hint).0 ≡ some t → outputs_type sig.outputs ≡ t
unfolding call_rule if_found call_of return
call_value Γ function at f args hint sig t e h =
    let h' : (call_of Γ function at f args sig).0 ≡ some t = rw e at h in
    let r : ◌≡◌ {A = Option Ty} (some (outputs_type sig.outputs)) (some t) = last_value _ _ t (last_value _ _ t (last_value _ _ t h')) in
    cc

-- a tuple of the outputs, and what is said of it
outputs_bound : (Γ : Scope) (env : List Port) (names : List Name) (f : Name) (es : Exprs) (sig : Heading) (o p : Port) (os : List Port)
    → Γ.node f ≡ some sig → sig.outputs ≡ o ∷ p ∷ os
    → bound Γ env names (form (call f es)) (some (outputs_type sig.outputs))
    ≡ (if eqb (length sig.outputs) (length names) then bound_each Γ env names sig.outputs else bare 42 ∷ [])
unfolding bound bound_as bound_tuple called_outputs outputs_in form members outputs_type
outputs_bound Γ env names f es sig o p os e q = rw (q, e, q)

pub calls_bound : CallsBound
unfolding infer within_node
calls_bound Γ env function names f es sig o p os e q t h =
    ap (λ (u : Ty). bound Γ env names (form (call f es)) (some u)) (sym (call_value (within_node Γ env) function 0 f _ (wanted env names) sig t e h))
    ∙ outputs_bound Γ env names f es sig o p os e q
