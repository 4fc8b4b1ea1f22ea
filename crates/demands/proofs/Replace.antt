-- Replacing a right-hand side: what stays of a project, and that two projects are equal but for it exactly if one is the other with it replaced.
-- Assumes nothing.
use Rattle.std.specs.Prelude.{if◌then◌else◌}
use Prim.Native.Nat.{ℕ, zero, suc, ◌-◌, ◌<◌, ◌≤◌}
use native.Mathlib.Omega.{arith}
use mathlib.Core.Path.{◌≡◌, refl, sym, ◌∙◌, ap, ap₂}
use mathlib.Core.Bool.{Bool, true, false}
use mathlib.Core.List.{List, [], ◌∷◌, ◌++◌, map}
use lib.Dec.{ltb}
use lib.ListN.{length}
use borrow.Author.Tests.{ltb-true, ltb-false}
use Rattle.lustre.specs.Expr.{Expr}
use Rattle.lustre.specs.Project.{Equation, Node, Package, Project, heading, skeleton, all_nodes}
use Rattle.lustre.specs.Deps.{defined}
use Rattle.demands.specs.OneEquation.{replace_equations, replace_nodes, replace, literal_false, mask, MasksReplace}

-- a package with other nodes, and a node with other equations
abbrev package_with : Package → List Node → Package
package_with p ns = record { name = p.name; types = p.types; constants = p.constants; nodes = ns }

abbrev node_with : Node → List Equation → Node
node_with n qs = record { name = n.name; kind = n.kind; inputs = n.inputs; outputs = n.outputs; locals = n.locals; equations = qs; probes = n.probes }

module _ (new : Expr) where
  -- ---- as many parts as before

  pub equations_many : (j : ℕ) (qs : List Equation) → length (replace_equations new j qs) ≡ length qs
  unfolding replace_equations
  equations_many j [] = refl
  equations_many zero (q ∷ qs) = refl
  equations_many (suc j) (q ∷ qs) = ap suc (equations_many j qs)

  pub nodes_many : (i j : ℕ) (ns : List Node) → length (replace_nodes new i j ns) ≡ length ns
  unfolding replace_nodes
  nodes_many i j [] = refl
  nodes_many zero j (n ∷ ns) = refl
  nodes_many (suc i) j (n ∷ ns) = ap suc (nodes_many i j ns)

  pub packages_many : (i j : ℕ) (P : Project) → length (replace new i j P) ≡ length P
  unfolding replace
  packages_many i j [] = refl
  packages_many i j (p ∷ P) = ap suc (go (ltb i (length p.nodes)) (packages_many (i - length p.nodes) j P))
    where
      go : (t : Bool) → length (replace new (i - length p.nodes) j P) ≡ length P → length (if t then P else replace new (i - length p.nodes) j P) ≡ length P
      go true e = refl
      go false e = e

  -- ---- the names defined, the skeleton, and the nodes by number

  pub same_defined : (j : ℕ) (qs : List Equation) → defined (replace_equations new j qs) ≡ defined qs
  unfolding defined replace_equations
  same_defined j [] = refl
  same_defined zero (q ∷ qs) = refl
  same_defined (suc j) (q ∷ qs) = ap (λ r. q.lhs ++ r) (same_defined j qs)

  same_headings : (i j : ℕ) (ns : List Node) → map heading (replace_nodes new i j ns) ≡ map heading ns
  unfolding replace_nodes heading
  same_headings i j [] = refl
  same_headings zero j (n ∷ ns) = refl
  same_headings (suc i) j (n ∷ ns) = ap (λ r. heading n ∷ r) (same_headings i j ns)

  pub same_skeleton : (i j : ℕ) (P : Project) → skeleton (replace new i j P) ≡ skeleton P
  unfolding replace skeleton
  same_skeleton i j [] = refl
  same_skeleton i j (p ∷ P) =
      rw (same_headings i j p.nodes)
      (ap (λ r. record { name = p.name; types = p.types; constants = p.constants; nodes = map heading p.nodes } ∷ r)
      (go (ltb i (length p.nodes)) (same_skeleton (i - length p.nodes) j P)))
    where
      go : (t : Bool) → skeleton (replace new (i - length p.nodes) j P) ≡ skeleton P
          → skeleton (if t then P else replace new (i - length p.nodes) j P) ≡ skeleton P
      go true e = refl
      go false e = e

  -- node i of two lists is in the first, or behind it
  in_front : (i j : ℕ) (xs ys : List Node) → i < length xs → replace_nodes new i j (xs ++ ys) ≡ replace_nodes new i j xs ++ ys
  unfolding replace_nodes
  in_front i j [] ys h = absurd (omega arith)
  in_front zero j (x ∷ xs) ys h = refl
  in_front (suc i) j (x ∷ xs) ys h = ap (λ r. x ∷ r) (in_front i j xs ys (omega arith))

  behind : (i j : ℕ) (xs ys : List Node) → length xs ≤ i → replace_nodes new i j (xs ++ ys) ≡ replace_nodes new i j xs ++ replace_nodes new (i - length xs) j ys
  unfolding replace_nodes
  behind i j [] ys h = ap (λ (k : ℕ). replace_nodes new k j ys) (omega arith)
  behind zero j (x ∷ xs) ys h = absurd (omega arith)
  behind (suc i) j (x ∷ xs) ys h =
      ap (λ r. x ∷ r) (behind i j xs ys (omega arith) ∙ ap (λ (k : ℕ). replace_nodes new i j xs ++ replace_nodes new k j ys) (omega arith))

  pub nodes_replaced : (i j : ℕ) (P : Project) → all_nodes (replace new i j P) ≡ replace_nodes new i j (all_nodes P)
  unfolding replace all_nodes replace_nodes
  nodes_replaced i j [] = refl
  nodes_replaced i j (p ∷ P) = go (ltb i m) refl (nodes_replaced (i - m) j P)
    where
      m : ℕ
      m = length p.nodes

      go : (t : Bool) → ltb i m ≡ t → all_nodes (replace new (i - m) j P) ≡ replace_nodes new (i - m) j (all_nodes P)
          → replace_nodes new i j p.nodes ++ all_nodes (if t then P else replace new (i - m) j P) ≡ replace_nodes new i j (p.nodes ++ all_nodes P)
      go true e ih = sym (in_front i j p.nodes (all_nodes P) (ltb-true i m e))
      go false e ih = ap (λ r. replace_nodes new i j p.nodes ++ r) ih ∙ sym (behind i j p.nodes (all_nodes P) (ltb-false i m e))

  -- where there is no node i, nothing is replaced
  past_nodes : (i j : ℕ) (ns : List Node) → length ns ≤ i → replace_nodes new i j ns ≡ ns
  unfolding replace_nodes
  past_nodes i j [] h = refl
  past_nodes zero j (n ∷ ns) h = absurd (omega arith)
  past_nodes (suc i) j (n ∷ ns) h = ap (λ r. n ∷ r) (past_nodes i j ns (omega arith))

-- ---- of two replacements the later counts

module _ (a b : Expr) where
  equations_twice : (j : ℕ) (qs : List Equation) → replace_equations a j (replace_equations b j qs) ≡ replace_equations a j qs
  unfolding replace_equations
  equations_twice j [] = refl
  equations_twice zero (q ∷ qs) = refl
  equations_twice (suc j) (q ∷ qs) = ap (λ r. q ∷ r) (equations_twice j qs)

  nodes_twice : (i j : ℕ) (ns : List Node) → replace_nodes a i j (replace_nodes b i j ns) ≡ replace_nodes a i j ns
  unfolding replace_nodes
  nodes_twice i j [] = refl
  nodes_twice zero j (n ∷ ns) = ap (λ qs. node_with n qs ∷ ns) (equations_twice j n.equations)
  nodes_twice (suc i) j (n ∷ ns) = ap (λ r. n ∷ r) (nodes_twice i j ns)

  twice : (i j : ℕ) (P : Project) → replace a i j (replace b i j P) ≡ replace a i j P
  unfolding replace
  twice i j [] = refl
  twice i j (p ∷ P) =
      ap₂ ◌∷◌ (ap (package_with p) (nodes_twice i j p.nodes))
      (many (length (replace_nodes b i j p.nodes)) (nodes_many b i j p.nodes) ∙ go (ltb i (length p.nodes)) (twice (i - length p.nodes) j P))
    where
      once : Bool → Project
      once t = if t then P else replace b (i - length p.nodes) j P

      many : (m : ℕ) → m ≡ length p.nodes
          → (if ltb i m then once (ltb i (length p.nodes)) else replace a (i - m) j (once (ltb i (length p.nodes))))
          ≡ (if ltb i (length p.nodes) then once (ltb i (length p.nodes)) else replace a (i - length p.nodes) j (once (ltb i (length p.nodes))))
      many m e = rw e

      go : (t : Bool) → replace a (i - length p.nodes) j (replace b (i - length p.nodes) j P) ≡ replace a (i - length p.nodes) j P
          → (if t then once t else replace a (i - length p.nodes) j (once t)) ≡ (if t then P else replace a (i - length p.nodes) j P)
      go true ih = refl
      go false ih = ih

-- ---- a right-hand side replaced by itself

unfoldable rhs_in : ℕ → List Equation → Expr
rhs_in j [] = literal_false
rhs_in zero (q ∷ qs) = q.rhs
rhs_in (suc j) (q ∷ qs) = rhs_in j qs

unfoldable rhs_of : ℕ → ℕ → List Node → Expr
rhs_of i j [] = literal_false
rhs_of zero j (n ∷ ns) = rhs_in j n.equations
rhs_of (suc i) j (n ∷ ns) = rhs_of i j ns

unfoldable rhs_at : ℕ → ℕ → Project → Expr
rhs_at i j [] = literal_false
rhs_at i j (p ∷ P) = if ltb i (length p.nodes) then rhs_of i j p.nodes else rhs_at (i - length p.nodes) j P

equations_own : (j : ℕ) (qs : List Equation) → replace_equations (rhs_in j qs) j qs ≡ qs
unfolding replace_equations rhs_in
equations_own j [] = refl
equations_own zero (q ∷ qs) = refl
equations_own (suc j) (q ∷ qs) = ap (λ r. q ∷ r) (equations_own j qs)

nodes_own : (i j : ℕ) (ns : List Node) → replace_nodes (rhs_of i j ns) i j ns ≡ ns
unfolding replace_nodes rhs_of
nodes_own i j [] = refl
nodes_own zero j (n ∷ ns) = ap (λ qs. node_with n qs ∷ ns) (equations_own j n.equations)
nodes_own (suc i) j (n ∷ ns) = ap (λ r. n ∷ r) (nodes_own i j ns)

own : (i j : ℕ) (P : Project) → replace (rhs_at i j P) i j P ≡ P
unfolding replace rhs_at
own i j [] = refl
own i j (p ∷ P) = go (ltb i (length p.nodes)) refl (own (i - length p.nodes) j P)
  where
    go : (t : Bool) → ltb i (length p.nodes) ≡ t → replace (rhs_at (i - length p.nodes) j P) (i - length p.nodes) j P ≡ P
        → package_with p (replace_nodes (if t then rhs_of i j p.nodes else rhs_at (i - length p.nodes) j P) i j p.nodes)
        ∷ (if t then P else replace (if t then rhs_of i j p.nodes else rhs_at (i - length p.nodes) j P) (i - length p.nodes) j P)
        ≡ p ∷ P
    go true e ih = ap (λ ns. package_with p ns ∷ P) (nodes_own i j p.nodes)
    go false e ih = rw (past_nodes (rhs_at (i - length p.nodes) j P) i j p.nodes (ltb-false i (length p.nodes) e), ih)

pub masks_replace : MasksReplace
masks_replace P Q i j = (
  λ e.
      let new = rhs_at i j Q in
      (new, sym (own i j Q) ∙ sym (twice new literal_false i j Q) ∙ ap (replace new i j) (sym e) ∙ twice new literal_false i j P),
  λ new e. sym (twice literal_false new i j P) ∙ ap (mask i j) (sym e),
)
