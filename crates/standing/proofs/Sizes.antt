-- What stands lies within the records: bounds from sizes, and the items of a list one by one.
-- Assumes nothing.
use Prim.Native.Nat.{ℕ, zero, suc, ◌+◌, ◌≤◌}
use native.Mathlib.Nat.{add-zero}
use native.Mathlib.Omega.{arith}
use mathlib.Core.Path.{◌≡◌, refl}
use mathlib.Core.List.{List, [], ◌∷◌}
use mathlib.Core.Option.{some}
use lib.ListN.{length, take, get_elem?}
use Rattle.lustre.specs.Name.{Name}
use Rattle.lustre.specs.Types.{Ty, basic, Array, Named, Tuple, levels}
use Rattle.lustre.specs.Expr.{Expr, Exprs, Inits, size, sizes, sizesⁱ}
use Rattle.lustre.specs.Expr.{const, var, unary, binary, ite, pre, arrow, call, field, index, tuple, array, struct, cast, when, merge, iterate, iterate_from, []ᵉ, ◌∷ᵉ◌, []ⁱ, init}
use Rattle.lustre.specs.Project.{Decl, Alias, Record, Enum}
use Rattle.lustre.specs.Grammar.{count, countⁱ}
use Rattle.standing.specs.Standing.{Source, RecAt, NameAt, TypeAt, ExprAt, ExprsAt, InitsAt, EachAt, ListAt, sizes_of, list_size}
use Rattle.standing.specs.Standing.{PortAt, port_size, PortsAt, ports_size, MentionAt, one_record, NamesAt, names_size, DeclAt, decl_size, ConstantAt, constant_size, EquationAt, equation_size}
use Rattle.standing.specs.Standing.{NodeAt, node_size, probes_from, PackageAt, package_size, ProjectAt}

-- a tree has at least one record, and a list as many as items
pub levels_pos : (t : Ty) → 1 ≤ levels t
unfolding levels
levels_pos (basic b) = omega arith
levels_pos (Array n t) = omega arith
levels_pos (Named x) = omega arith
levels_pos (Tuple n) = omega arith

pub size_pos : (e : Expr) → 1 ≤ size e
unfolding size
size_pos (const l w) = omega arith
size_pos (var x) = omega arith
size_pos (unary o a) = omega arith
size_pos (binary o a b) = omega arith
size_pos (ite c a b) = omega arith
size_pos (pre a) = omega arith
size_pos (arrow a b) = omega arith
size_pos (call f es) = omega arith
size_pos (field x a) = omega arith
size_pos (index a b) = omega arith
size_pos (tuple es) = omega arith
size_pos (array es) = omega arith
size_pos (struct x vs) = omega arith
size_pos (cast t a) = omega arith
size_pos (when on c a) = omega arith
size_pos (merge c a b) = omega arith
size_pos (iterate i f es) = omega arith
size_pos (iterate_from i f s es) = omega arith

pub count_sizes : (es : Exprs) → count es ≤ sizes es
unfolding count size
count_sizes []ᵉ = omega arith
count_sizes (e ∷ᵉ es) = omega (arith, size_pos e, count_sizes es)

pub count_sizesⁱ : (vs : Inits) → countⁱ vs ≤ sizesⁱ vs
unfolding countⁱ size
count_sizesⁱ []ⁱ = omega arith
count_sizesⁱ (init x e vs) = omega (arith, count_sizesⁱ vs)

pub decl_size_pos : (d : Decl) → 1 ≤ decl_size d
unfolding decl_size
decl_size_pos (Alias x t) = omega arith
decl_size_pos (Record x fs) = omega arith
decl_size_pos (Enum x vs) = omega arith

-- a name in a list is one record
pub names_sizes : (xs : List Name) → sizes_of one_record xs ≡ length xs
unfolding sizes_of
names_sizes [] = refl
names_sizes (x ∷ xs) = omega (arith, names_sizes xs)

module _ (S : Source) where
  -- what P says to stand ends within the records
  abbrev pub Ends : {X : Type 0} → (X → ℕ → Type 0) → (X → ℕ) → Type 0
  Ends {X} P size_of = (x : X) (at : ℕ) → P x at → at + size_of x ≤ length S.ks

  -- so does a list that starts within them
  abbrev pub EndsFrom : {X : Type 0} → (X → ℕ → Type 0) → (X → ℕ) → Type 0
  EndsFrom {X} P size_of = (x : X) (at : ℕ) → at ≤ length S.ks → P x at → at + size_of x ≤ length S.ks

  pub type_end : Ends (TypeAt S) levels
  unfolding TypeAt levels
  type_end (basic b) at s = omega (arith, s.0.in_kinds)
  type_end (Array n t) at s = omega (arith, type_end t (at + 1) s.3)
  type_end (Named x) at s = omega (arith, s.0.in_kinds)
  type_end (Tuple n) at s = absurd s

  mutual
    unfolding ExprAt size

    pub expr_end : Ends (ExprAt S) size
    expr_end (const l w) at s = omega (arith, s.0.in_kinds)
    expr_end (var x) at s = omega (arith, s.0.in_kinds)
    expr_end (unary o a) at s = omega (arith, expr_end a (at + 1) s.1)
    expr_end (binary o a b) at s = omega (arith, expr_end b (at + 1 + size a) s.2)
    expr_end (ite c a b) at s = omega (arith, expr_end b (at + 1 + size c + size a) s.3)
    expr_end (pre a) at s = omega (arith, expr_end a (at + 1) s.1)
    expr_end (arrow a b) at s = omega (arith, expr_end b (at + 1 + size a) s.2)
    expr_end (call f es) at s = omega (arith, exprs_end es (at + 2) (omega (arith, s.2.in_kinds)) s.4)
    expr_end (field x a) at s = omega (arith, expr_end a (at + 1) s.2)
    expr_end (index a b) at s = omega (arith, expr_end b (at + 1 + size a) s.2)
    expr_end (tuple es) at s = omega (arith, exprs_end es (at + 1) (omega (arith, s.0.in_kinds)) s.2)
    expr_end (array es) at s = omega (arith, exprs_end es (at + 1) (omega (arith, s.0.in_kinds)) s.2)
    expr_end (struct x vs) at s = omega (arith, inits_end vs (at + 2) (omega (arith, s.2.in_kinds)) s.4)
    expr_end (cast t a) at s = omega (arith, expr_end a (at + 1 + levels t) s.2)
    expr_end (when on c a) at s = omega (arith, expr_end a (at + 1) s.2)
    expr_end (merge c a b) at s = omega (arith, expr_end b (at + 1 + size a) s.3)
    expr_end (iterate i f es) at s = omega (arith, exprs_end es (at + 2) (omega (arith, s.2.in_kinds)) s.4)
    expr_end (iterate_from i f a es) at s = omega (arith, exprs_end es (at + 2 + size a) (omega (arith, s.3.in_kinds)) s.5)

    pub exprs_end : EndsFrom (ExprsAt S) sizes
    exprs_end []ᵉ at h s = omega arith
    exprs_end (e ∷ᵉ es) at h s = omega (arith, exprs_end es (at + size e) (expr_end e at s.0) s.1)

    pub inits_end : EndsFrom (InitsAt S) sizesⁱ
    inits_end []ⁱ at h s = omega arith
    inits_end (init x e vs) at h s = omega (arith, inits_end vs (at + 1 + size e) (expr_end e (at + 1) s.2) s.3)

  -- parts that each end within the records, one after another and behind a list record
  pub each_end : {X : Type 0} (P : X → ℕ → Type 0) (size_of : X → ℕ) → Ends P size_of → EndsFrom (EachAt P size_of) (sizes_of size_of)
  unfolding EachAt sizes_of
  each_end P size_of one [] at h s = omega arith
  each_end P size_of one (x ∷ xs) at h s = omega (arith, each_end P size_of one xs (at + size_of x) (one x at s.0) s.1)

  pub list_end : {X : Type 0} (P : X → ℕ → Type 0) (size_of : X → ℕ) → Ends P size_of → Ends (ListAt S P size_of) (list_size size_of)
  list_end P size_of one xs at s = omega (arith, each_end P size_of one xs (at + 1) (omega arith) s.items)

  pub port_end : Ends (PortAt S) port_size
  port_end p at s = omega (arith, type_end p.1 (at + 1) s.type)

  pub ports_end : Ends (PortsAt S) ports_size
  ports_end = list_end (PortAt S) port_size port_end

  pub names_end : Ends (NamesAt S) names_size
  names_end = list_end (MentionAt S) one_record (λ x at s. omega arith)

  pub decl_end : Ends (DeclAt S) decl_size
  unfolding DeclAt decl_size
  decl_end (Alias x t) at s = omega (arith, type_end t (at + 1) s.2)
  decl_end (Record x fs) at s = omega (arith, ports_end fs (at + 1) s.2)
  decl_end (Enum x vs) at s = omega (arith, names_end vs (at + 1) s.2)

  pub constant_end : Ends (ConstantAt S) constant_size
  constant_end c at s = omega (arith, expr_end c.value (at + 1 + levels c.type) s.value)

  pub equation_end : Ends (EquationAt S) equation_size
  equation_end q at s = omega (arith, expr_end q.rhs (at + 1 + names_size q.lhs) s.rhs)

  pub node_end : Ends (NodeAt S) node_size
  node_end n at s = omega (arith, names_end n.probes (probes_from n at) s.probes)

  pub package_end : Ends (PackageAt S) package_size
  package_end p at s =
      let l = list_end (NodeAt S) node_size node_end p.nodes (at + 1 + list_size decl_size p.types + list_size constant_size p.constants) s.nodes in
      omega arith

  pub project_end : Ends (ProjectAt S) (list_size package_size)
  project_end P at s = omega (arith, each_end (PackageAt S) package_size package_end P (at + 1) (omega arith) s.packages)

  -- the first of several expressions, and the others
  pub record FirstExpr (es : Exprs) (at n : ℕ) : Type 0 where
    pub e : Expr
    pub rest : Exprs
    pub is : es ≡ e ∷ᵉ rest
    pub fewer : count rest + 1 ≡ n
    pub e_at : ExprAt S e at
    pub rest_at : ExprsAt S rest (at + size e)

  pub first_expr : (es : Exprs) (at n : ℕ) → count es ≡ n → (n ≡ 0 → ⊥) → ExprsAt S es at → FirstExpr es at n
  unfolding count ExprAt
  first_expr []ᵉ at n c h s = absurd (omega arith)
  first_expr (e ∷ᵉ es) at n c h s = record { e = e; rest = es; is = refl; fewer = omega arith; e_at = s.0; rest_at = s.1 }

  -- the first of several field values, and the others
  pub record FirstValue (vs : Inits) (at n : ℕ) : Type 0 where
    pub x : Name
    pub e : Expr
    pub rest : Inits
    pub is : vs ≡ init x e rest
    pub fewer : countⁱ rest + 1 ≡ n
    pub head : RecAt S at 84
    pub name : NameAt S at x
    pub e_at : ExprAt S e (at + 1)
    pub rest_at : InitsAt S rest (at + 1 + size e)

  pub first_value : (vs : Inits) (at n : ℕ) → countⁱ vs ≡ n → (n ≡ 0 → ⊥) → InitsAt S vs at → FirstValue vs at n
  unfolding countⁱ ExprAt
  first_value []ⁱ at n c h s = absurd (omega arith)
  first_value (init x e vs) at n c h s = record { x = x; e = e; rest = vs; is = refl; fewer = omega arith; head = s.0; name = s.1; e_at = s.2; rest_at = s.3 }

-- none are left
pub no_exprs : (es : Exprs) → count es ≡ 0 → es ≡ []ᵉ
unfolding count
no_exprs []ᵉ c = refl
no_exprs (e ∷ᵉ es) c = absurd (omega arith)

pub no_values : (vs : Inits) → countⁱ vs ≡ 0 → vs ≡ []ⁱ
unfolding countⁱ
no_values []ⁱ c = refl
no_values (init x e vs) c = absurd (omega arith)

pub no_items : {X : Type 0} (xs : List X) → length xs ≡ 0 → xs ≡ []
no_items [] c = refl
no_items (x ∷ xs) c = absurd (omega arith)

module _ {X : Type 0} (P : X → ℕ → Type 0) (size_of : X → ℕ) where
  -- the first of several parts, and the others
  pub record First (xs : List X) (at n : ℕ) : Type 0 where
    pub x : X
    pub rest : List X
    pub is : xs ≡ x ∷ rest
    pub fewer : length rest + 1 ≡ n
    pub x_at : P x at
    pub rest_at : EachAt P size_of rest (at + size_of x)

  pub first : (xs : List X) (at n : ℕ) → length xs ≡ n → (n ≡ 0 → ⊥) → EachAt P size_of xs at → First xs at n
  unfolding EachAt
  first [] at n c h s = absurd (omega arith)
  first (x ∷ xs) at n c h s = record { x = x; rest = xs; is = refl; fewer = omega arith; x_at = s.0; rest_at = s.1 }

  -- each part stands where those before it end
  pub item : (xs : List X) (at i : ℕ) (x : X) → get_elem? xs i ≡ some x → EachAt P size_of xs at → P x (at + sizes_of size_of (take i xs))
  unfolding EachAt sizes_of
  item [] at i x e s = let z : ◌≡◌ {A = ℕ} 0 1 = cc in absurd (omega arith)
  item (y ∷ xs) at zero x e s = let q : y ≡ x = cc in rw (add-zero at, ← q) s.0
  item (y ∷ xs) at (suc i) x e s = let q : at + size_of y + sizes_of size_of (take i xs) ≡ at + (size_of y + sizes_of size_of (take i xs)) = omega arith in rw q at (item xs (at + size_of y) i x e s.1)
