-- What refusal 6 passes is shallow: an induction over a tree whose records pass, each part of it at its level.
-- Assumes nothing.
use Prim.Native.Nat.{ℕ, zero, suc, ◌+◌, ◌≤◌, max}
use native.Mathlib.Omega.{arith}
use mathlib.Core.Path.{◌≡◌, refl, ap, subst}
use mathlib.Core.Bool.{Bool, true, false}
use mathlib.Core.List.{List, [], ◌∷◌, ◌++◌, map}
use mathlib.Core.Option.{Option, none, some}
use lib.ListN.{length, replicate}
use borrow.Author.Tests.{ltb-false}
use Rattle.lustre.specs.Name.{Name}
use Rattle.lustre.specs.Records.{Rec}
use Rattle.lustre.specs.Types.{Ty, basic, Array, Named, Tuple, levels}
use Rattle.lustre.specs.Expr.{Expr, Exprs, Inits, const, var, unary, binary, ite, pre, arrow, call, field, index, tuple, array, struct, cast, when, merge, iterate, iterate_from, []ᵉ, ◌∷ᵉ◌, []ⁱ, init}
use Rattle.lustre.specs.Project.{Port, Alias, Record, Enum, Equation, Project}
use Rattle.lustre.specs.Grammar.{Sort, Class, one, list, Single, Shape, parts, each, follow, Entry, entries, entry, count, countⁱ, flat_type, flat, flats, flatsⁱ, each_of, list_of, flat_name, flat_decl, flat_one, flat_project}
use Rattle.lustre.specs.Grammar.{a_project, a_package, a_declaration, a_constant, a_node, a_port, a_name, an_equation, a_type, an_expression, a_field_value}
use Rattle.lustre.specs.Levels.{inner, inner_of, too_deep, deep_record}
use Rattle.lustre.specs.Answer.{too_deep_at}
use Rattle.demands.specs.Reading.{Each, WritableType, WritableExpr, WritableExprs, WritableInits, WritableDecl, WritableOne}
use Rattle.demands.proofs.Eaches.{each_all}
use Rattle.demands.proofs.ReadBack.{has_basic, has_literal, has_unary, has_op, has_when, has_iterate, has_iterate_from, has_node}
use Rattle.input.specs.Depths.{depth, depths, depthsⁱ, ShallowType, ShallowCasts, ShallowCastsEach, ShallowCastsEachⁱ, ShallowExpr, ShallowDecl, ShallowConstant, ShallowNode, ShallowPackage, ShallowProject}

-- a class at a level
abbrev Want : Type 0
Want = Class × ℕ

-- none of the records is too deep where these classes are wanted at these levels
record Passed (ws : List Want) (rs : List Rec) : Type 0 where
  at : ℕ
  none_deep : deep_record ws at rs ≡ none

-- where the table has a record's kind and none is too deep, neither the record nor what follows is
stepped : {c : Class} (t : Bool) (o : Option (Entry c)) (at : ℕ) (rest : Entry c → Option ℕ) (e : Entry c) → o ≡ some e
    → ◌≡◌ {A = Option ℕ} (elim t [ true ↦ some at | false ↦ elim o [ none ↦ none | some x ↦ rest x ] ]) none → (t ≡ false) × (rest e ≡ none)
stepped true o at rest e p q = (cc, cc)
stepped false none at rest e p q = (refl, cc)
stepped {c} false (some x) at rest e p q = let z : x ≡ e = cc in (refl, subst (λ (y : Entry c). rest y ≡ none) z q)

-- what a record of class c at level l says: it is not too deep, and neither is what its shape and number ask to follow
record Step (c : Class) (l : ℕ) (shape : Shape) (n : ℕ) (ws : List Want) (rs : List Rec) : Type 0 where
  level : too_deep c l ≡ false
  rest : Passed (map (inner_of c l) (follow shape n) ++ ws) rs

-- a record of a kind that the table has says so
step : {c : Class} {l : ℕ} {ws : List Want} {r : Rec} {rs : List Rec} {e : Entry c} → entry r.kind (entries c) ≡ some e → Passed ((c, l) ∷ ws) (r ∷ rs) → Step c l e.shape r.number ws rs
unfolding deep_record
step {c} {l} {ws} {r} {rs} {e} q p =
    let s = stepped (too_deep c l) (entry r.kind (entries c)) p.at (λ x. deep_record (map (inner_of c l) (follow x.shape r.number) ++ ws) (p.at + 1) rs) e q p.none_deep in
    record { level = s.0; rest = record { at = p.at + 1; none_deep = s.1 } }

-- what follows where the record counts parts of one class
many : {c d : Class} {l n : ℕ} {ws : List Want} {rs : List Rec} → Step c l (each d) n ws rs → Passed (replicate n (inner_of c l d) ++ ws) rs
many {c} {d} {l} {n} {ws} {rs} s = subst (λ (vs : List Want). Passed (vs ++ ws) rs) (same n) s.rest
  where
    same : (n : ℕ) → map (inner_of c l) (replicate n d) ≡ replicate n (inner_of c l d)
    same zero = refl
    same (suc n) = ap (λ (vs : List Want). inner_of c l d ∷ vs) (same n)

-- a type from level l on is at most 68 levels deep
deep_type : (t : Ty) {l : ℕ} {ws : List Want} (k : List Rec) → WritableType t → Passed ((one a_type, l) ∷ ws) (flat_type t k) → (l + levels t ≤ 69) × Passed ws k
unfolding flat_type levels WritableType entry entries inner_of inner too_deep
deep_type (basic b) {l} k w p = let s = step (has_basic b w) p in (omega (arith, ltb-false 68 l s.level), s.rest)
deep_type (Array n t) {l} k w p = let r = deep_type t k w (step refl p).rest in (omega (arith, r.0), r.1)
deep_type (Named x) {l} k w p = let s = step refl p in (omega (arith, ltb-false 68 l s.level), s.rest)
deep_type (Tuple n) {l} k w p = absurd w

-- d levels from level l on end at level 60 or above, C holds, and what follows is not too deep
record Deep (l d : ℕ) (C : Type 0) (ws : List Want) (k : List Rec) : Type 0 where
  deep : l + d ≤ 61
  casts : C
  rest : Passed ws k

-- an expression without operands is one level
leaf : {l n : ℕ} {ws : List Want} {k : List Rec} → Step (one an_expression) l (parts []) n ws k → Deep l 1 (Unit {0}) ws k
unfolding too_deep
leaf {l} s = record { deep = omega (arith, ltb-false 60 l s.level); casts = tt; rest = s.rest }

-- an expression is one level more than its operands
over : {l d : ℕ} {C : Type 0} {ws : List Want} {k : List Rec} → Deep (l + 1) d C ws k → Deep l (suc d) C ws k
over h = record { deep = omega (arith, h.deep); casts = h.casts; rest = h.rest }

-- two operands one after the other are as deep as the deeper
both : {l d e : ℕ} {C D : Type 0} {ws vs : List Want} {j k : List Rec} → Deep l d C vs j → (Passed vs j → Deep l e D ws k) → Deep l (max d e) (C × D) ws k
both h f = let g = f h.rest in record { deep = omega (arith, h.deep, g.deep); casts = (h.casts, g.casts); rest = g.rest }

-- operands start at level 61 at most
below : {l n : ℕ} {shape : Shape} {ws : List Want} {k : List Rec} → Step (one an_expression) l shape n ws k → l + 1 ≤ 61
unfolding too_deep
below {l} s = omega (arith, ltb-false 60 l s.level)

-- an expression, a list of expressions and the field values of a struct from level l on
mutual
  unfolding flat depth ShallowCasts WritableExpr entry entries inner_of inner count countⁱ

  deep_expr : (e : Expr) {l : ℕ} {ws : List Want} (k : List Rec) → WritableExpr e → Passed ((one an_expression, l) ∷ ws) (flat e k) → Deep l (depth e) (ShallowCasts e) ws k
  deep_expr (const i n) k w p = leaf (step (has_literal i) p)
  deep_expr (var x) k w p = leaf (step refl p)
  deep_expr (unary o e) k w p = over (deep_expr e k w (step (has_unary o) p).rest)
  deep_expr (binary o a b) k w p = over (both (deep_expr a _ w.0 (step (has_op o) p).rest) (deep_expr b k w.1))
  deep_expr (ite c a b) k w p =
      let h = deep_expr c _ w.0 (step refl p).rest in
      let i = both (deep_expr a _ w.1 h.rest) (deep_expr b k w.2) in
      record { deep = omega (arith, h.deep, i.deep); casts = (h.casts, i.casts.0, i.casts.1); rest = i.rest }
  deep_expr (pre e) k w p = over (deep_expr e k w (step refl p).rest)
  deep_expr (arrow a b) k w p = over (both (deep_expr a _ w.0 (step refl p).rest) (deep_expr b k w.1))
  deep_expr (call f es) k w p = let s = step refl p in over (deep_exprs es k w (below s) (many (step refl s.rest)))
  deep_expr (field x e) k w p = over (deep_expr e k w (step refl p).rest)
  deep_expr (index a b) k w p = over (both (deep_expr a _ w.0 (step refl p).rest) (deep_expr b k w.1))
  deep_expr (tuple es) k w p = let s = step refl p in over (deep_exprs es k w (below s) (many s))
  deep_expr (array es) k w p = let s = step refl p in over (deep_exprs es k w (below s) (many s))
  deep_expr (struct x is) k w p = let s = step refl p in over (deep_inits is k w (below s) (many (step refl s.rest)))
  deep_expr (cast t e) k w p =
      let s = deep_type t _ w.0 (step refl p).rest in
      let h = deep_expr e k w.1 s.1 in
      record { deep = omega (arith, h.deep); casts = (omega (arith, s.0), h.casts); rest = h.rest }
  deep_expr (when on c e) k w p = over (deep_expr e k w (step (has_when on) p).rest)
  deep_expr (merge c a b) k w p = over (both (deep_expr a _ w.0 (step refl p).rest) (deep_expr b k w.1))
  deep_expr (iterate i f es) k w p = let s = step (has_iterate i) p in over (deep_exprs es k w (below s) (many (step refl s.rest)))
  deep_expr (iterate_from i f e es) k w p =
      let s = step (has_iterate_from i) p in
      over (both (deep_expr e _ w.0 s.rest) (λ q. deep_exprs es k w.1 (below s) (many (step refl q))))

  deep_exprs : (es : Exprs) {l : ℕ} {ws : List Want} (k : List Rec) → WritableExprs es → l ≤ 61 → Passed (replicate (count es) (one an_expression, l) ++ ws) (flats es k)
      → Deep l (depths es) (ShallowCastsEach es) ws k
  deep_exprs []ᵉ k w i p = record { deep = omega arith; casts = tt; rest = p }
  deep_exprs (e ∷ᵉ es) k w i p = both (deep_expr e _ w.0 p) (λ q. deep_exprs es k w.1 i q)

  deep_inits : (is : Inits) {l : ℕ} {ws : List Want} (k : List Rec) → WritableInits is → l ≤ 61 → Passed (replicate (countⁱ is) (one a_field_value, l) ++ ws) (flatsⁱ is k)
      → Deep l (depthsⁱ is) (ShallowCastsEachⁱ is) ws k
  deep_inits []ⁱ k w i p = record { deep = omega arith; casts = tt; rest = p }
  deep_inits (init x e is) k w i p = both (deep_expr e _ w.0 (step refl p).rest) (λ q. deep_inits is k w.1 i q)

-- where the records of a tree of sort s are not too deep, P holds of it and what follows is not too deep
abbrev Shown : (s : Sort) → (Single s → Type 0) → Type 0
Shown s P = (v : Single s) (l : ℕ) (ws : List Want) (k : List Rec) → WritableOne s v → Passed ((one s, l) ∷ ws) (flat_one s v k) → P v × Passed ws k

module _ (s : Sort) (P : Single s → Type 0) (h : Shown s P) where
  -- then P holds of each tree of a list
  each_shown : (vs : List (Single s)) (l : ℕ) (ws : List Want) (k : List Rec) → Each (WritableOne s) vs → Passed (replicate (length vs) (one s, l) ++ ws) (each_of (flat_one s) vs k) → Each P vs × Passed ws k
  unfolding each_of
  each_shown [] l ws k w p = (tt, p)
  each_shown (v ∷ vs) l ws k w p = let a = h v _ _ _ w.0 p in let b = each_shown vs l ws k w.1 a.1 in ((a.0, b.0), b.1)

  -- and so with the list's own record before them
  list_shown : (vs : List (Single s)) {l : ℕ} {ws : List Want} (k : List Rec) → Each (WritableOne s) vs → Passed ((list s, l) ∷ ws) (list_of (flat_one s) vs k) → Each P vs × Passed ws k
  unfolding entry entries inner_of
  list_shown vs k w p = each_shown vs _ _ k w (many (step refl p))

-- an expression and a type at level 1 are shallow
top_expr : (e : Expr) {ws : List Want} (k : List Rec) → WritableExpr e → Passed ((one an_expression, 1) ∷ ws) (flat e k) → ShallowExpr e × Passed ws k
top_expr e k w p = let h = deep_expr e k w p in (record { deep = omega (arith, h.deep); casts = h.casts }, h.rest)

top_type : (t : Ty) {ws : List Want} (k : List Rec) → WritableType t → Passed ((one a_type, 1) ∷ ws) (flat_type t k) → ShallowType t × Passed ws k
top_type t k w p = let h = deep_type t k w p in (omega (arith, h.0), h.1)

-- a name has no level, nor have names
name_shown : Shown a_name (λ v. Unit {0})
unfolding entry entries inner_of inner
name_shown v l ws k w p = (tt, (step refl p).rest)

names_passed : (vs : List Name) {l : ℕ} {ws : List Want} (k : List Rec) → Passed ((list a_name, l) ∷ ws) (list_of flat_name vs k) → Passed ws k
names_passed vs k p = (list_shown a_name _ name_shown vs k (each_all (WritableOne a_name) (λ v. tt) vs) p).1

-- ports, declarations, constants, equations, nodes and packages are shallow
port_shown : Shown a_port (λ (p : Port). ShallowType p.1)
unfolding entry entries inner_of inner
port_shown v l ws k w p = top_type v.1 k w (step refl p).rest

decl_shown : Shown a_declaration ShallowDecl
unfolding entry entries inner_of inner flat_decl WritableDecl ShallowDecl
decl_shown (Alias x t) l ws k w p = top_type t k w (step refl p).rest
decl_shown (Record x fs) l ws k w p = list_shown a_port _ port_shown fs k w (step refl p).rest
decl_shown (Enum x vs) l ws k w p = (tt, names_passed vs k (step refl p).rest)

constant_shown : Shown a_constant ShallowConstant
unfolding entry entries inner_of inner
constant_shown v l ws k w p =
    let t = top_type v.type _ w.0 (step refl p).rest in
    let e = top_expr v.value k w.1 t.1 in
    (record { type = t.0; value = e.0 }, e.1)

equation_shown : Shown an_equation (λ (q : Equation). ShallowExpr q.rhs)
unfolding entry entries inner_of inner
equation_shown v l ws k w p = top_expr v.rhs k w (names_passed v.lhs _ (step refl p).rest)

node_shown : Shown a_node ShallowNode
unfolding inner_of inner
node_shown v l ws k w p =
    let inputs = list_shown a_port _ port_shown v.inputs _ w.0 (step (has_node v.kind) p).rest in
    let outputs = list_shown a_port _ port_shown v.outputs _ w.1 inputs.1 in
    let locals = list_shown a_port _ port_shown v.locals _ w.2 outputs.1 in
    let equations = list_shown an_equation _ equation_shown v.equations _ w.3 locals.1 in
    (record { inputs = inputs.0; outputs = outputs.0; locals = locals.0; equations = equations.0 }, names_passed v.probes k equations.1)

package_shown : Shown a_package ShallowPackage
unfolding entry entries inner_of inner
package_shown v l ws k w p =
    let types = list_shown a_declaration _ decl_shown v.types _ w.0 (step refl p).rest in
    let constants = list_shown a_constant _ constant_shown v.constants _ w.1 types.1 in
    let nodes = list_shown a_node _ node_shown v.nodes k w.2 constants.1 in
    (record { types = types.0; constants = constants.0; nodes = nodes.0 }, nodes.1)

-- a project whose records refusal 6 passes is shallow
pub project_shallow : (P : Project) → WritableOne a_project P → too_deep_at (flat_project P []) ≡ none → ShallowProject P
unfolding entry entries inner_of inner too_deep_at
project_shallow P w q = (each_shown a_package _ package_shown P _ [] [] w (many (step refl (record { at = 0; none_deep = q })))).0
